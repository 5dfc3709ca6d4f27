-- `ack_read::policy::addressing_fault` meets its contract. Assumes nothing.
use Rattle.ack_read_spec.proofs.PolicyLaws.{addressings}
use borrow.Author.Rules.{rules}
use Rattle.ack_read.proofs.policy.addressing_fault.Goals as goal

pub returns-then-control-lt-SHORT : goal.returns-then-control-lt-SHORT
returns-then-control-lt-SHORT c = search (rules, addressings)

pub returns-then-control-lt-SHORT-2 : goal.returns-then-control-lt-SHORT-2
returns-then-control-lt-SHORT-2 c = search (rules, addressings)

pub returns-then-control-compression_of : goal.returns-then-control-compression_of
returns-then-control-compression_of c = search (rules, addressings)

pub returns-then-control-ne1 : goal.returns-then-control-ne1
returns-then-control-ne1 c = search (rules, addressings)

pub returns : goal.returns
returns c = search (rules, addressings)
