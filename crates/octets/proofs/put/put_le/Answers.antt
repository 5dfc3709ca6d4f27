-- `octets::put::put_le` meets its contract. Assumes nothing.
use Rattle.octets_spec.proofs.PutLaws.{stored_out, le_cut_at, le_reads}
use borrow.Author.Rules.{rules}
use Rattle.octets.proofs.put.put_le.Goals as goal

-- `octets::put::put_le` meets its contract. Assumes nothing.
pub returns-then-length-at : goal.returns-then-length-at
returns-then-length-at c = search (rules, stored_out, le_reads)

pub returns-then-inside-width : goal.returns-then-inside-width
returns-then-inside-width c = record { buffer = le_cut_at _ _ _ _ _ c.if-inside-width.true c.put_le_within.ensures; back = search (rules, le_cut_at, le_reads) }

pub returns : goal.returns
returns c = record { buffer = c.put_le_within-2.ensures; back = search (rules, le_reads) }
