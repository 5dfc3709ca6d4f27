-- `ack_read::policy::mac_header_fault` meets its contract. Assumes nothing.
use Rattle.ack_read_spec.proofs.PolicyLaws.{policies}
use borrow.Author.Rules.{rules}
use Rattle.std.proofs.lemmas.Result.{err_from_is_err_and}
use Rattle.refusal.proofs.NumberLaws.{number_some}
use Rattle.ack_read.proofs.policy.mac_header_fault.Goals as goal

pub returns-then-s-gt-MOST_BYTES : goal.returns-then-s-gt-MOST_BYTES
returns-then-s-gt-MOST_BYTES c = search (rules, policies)

pub returns-then-s-lt2 : goal.returns-then-s-lt2
returns-then-s-lt2 c = search (rules, policies)

pub returns-in_err-form_fault : goal.returns-in_err-form_fault
returns-in_err-form_fault c = let p = err_from_is_err_and c.from_residual.result c.from_residual.ensures.1 in rw (p.1, p.2) (search (rules, policies, number_some))

pub returns-then-offsets : goal.returns-then-offsets
returns-then-offsets c = search (rules, policies)

pub returns : goal.returns
returns c = search (rules, policies)
