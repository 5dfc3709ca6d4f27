-- `ack_read::policy::form_fault` meets its contract. Assumes nothing.
use Rattle.ack_read_spec.specs.Policy.{form_fault}
use Rattle.octets_spec.proofs.ChoiceLaws.{choices}
use borrow.Author.Rules.{rules}
use Rattle.ack_read.proofs.policy.form_fault.Goals as goal

pub returns-then-control-ne-ACK : goal.returns-then-control-ne-ACK
unfolding form_fault
returns-then-control-ne-ACK c = search (rules, choices) depth 12

pub returns-then-control-ne-VERSION_2015 : goal.returns-then-control-ne-VERSION_2015
unfolding form_fault
returns-then-control-ne-VERSION_2015 c = search (rules, choices) depth 12

pub returns-then-control-ne0 : goal.returns-then-control-ne0
unfolding form_fault
returns-then-control-ne0 c = search (rules, choices) depth 12

pub returns : goal.returns
unfolding form_fault
returns c = search (rules, choices) depth 12
