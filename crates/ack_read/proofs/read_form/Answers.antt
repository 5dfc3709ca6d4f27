-- `ack_read::read_form` meets its contract. Assumes nothing.
use Rattle.ack_read_spec.proofs.ReadLaws.{blank_fits}
use Rattle.ack_grammar_spec.proofs.SaidLaws.{form_as_said}
use borrow.Author.Rules.{rules}
use Rattle.ack_read.proofs.read_form.Goals as goal

pub returns-in-Ok-clause-as_said : goal.returns-in-Ok-clause-as_said
returns-in-Ok-clause-as_said c = search (rules, form_as_said)

pub returns-in-Err-clause-record : goal.returns-in-Err-clause-record
returns-in-Err-clause-record c = search (rules, blank_fits)

pub returns-in-Err-clause-as_said : goal.returns-in-Err-clause-as_said
returns-in-Err-clause-as_said c = search (rules, form_as_said)
