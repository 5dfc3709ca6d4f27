-- `eb_read::read` meets its contract. Assumes nothing.
use Rattle.eb_grammar_spec.proofs.SaidLaws.{read_as_said}
use Rattle.eb_read_spec.proofs.Claimed.{numbers_to_8, one_is_the_length}
use Rattle.eb_read_spec.proofs.Accepted.{accepted_may_be_decided_on}
use Rattle.eb_read_spec.proofs.ReadLaws.{refusal_passed_on}
use Rattle.eb_read_spec.proofs.FormReadLaws.{record_is}
use borrow.Author.Rules.{rules}
use Rattle.eb_read.proofs.read.Goals as goal

pub returns-in_err-found : goal.returns-in_err-found
returns-in_err-found c = let is = refusal_passed_on _ _ _ c.examine-found.ensures.answer _ c.in_err-found.was c.from_residual.result c.from_residual.ensures.1 in record { answer = is; numbers = numbers_to_8; length = one_is_the_length; accepted = accepted_may_be_decided_on; as_said = read_as_said _ (search rules) _ _ is }

pub returns : goal.returns
returns c = let is = record_is _ _ _ c.examine-found.ensures.answer _ c.in_ok-found.was _ c.decode-form.ensures.answer _ c.decode-form.ensures.record c.beacon_of.ensures in record { answer = is; numbers = numbers_to_8; length = one_is_the_length; accepted = accepted_may_be_decided_on; as_said = read_as_said _ (search rules) _ _ is }
