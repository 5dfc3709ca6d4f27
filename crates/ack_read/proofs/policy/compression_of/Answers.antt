-- `ack_read::policy::compression_of` meets its contract. Assumes nothing.
use Rattle.ack_read.proofs.DecodeLaws.{compressing}
use borrow.Author.Rules.{rules}
use Rattle.ack_read.proofs.policy.compression_of.Goals as goal

pub returns-then-destination-ne-EXTENDED : goal.returns-then-destination-ne-EXTENDED
returns-then-destination-ne-EXTENDED c = search (rules, compressing)

pub returns-then-source-ne-EXTENDED : goal.returns-then-source-ne-EXTENDED
returns-then-source-ne-EXTENDED c = search (rules, compressing)

pub returns : goal.returns
returns c = search (rules, compressing)
