-- `octets::put::put_be` meets its contract. Assumes nothing.
use mathlib.Core.List.{[]}
use borrow.Author.Rules.{rules}
use Rattle.octets_spec.proofs.PutLaws.{stored_out, be_start, be_start_rest, be_next, be_next_rest, be_end, be_reads}
use Rattle.octets.proofs.put.put_be.Goals as goal

pub returns-then-buffer-at : goal.returns-then-buffer-at
returns-then-buffer-at c = search (rules, stored_out, be_reads)

pub loop-i-init : goal.loop-i-init
loop-i-init c = search (rules, stored_out, be_start, be_start_rest, be_next, be_next_rest, be_end, be_reads)

pub loop-i-preserved : goal.loop-i-preserved
loop-i-preserved c = (search rules, search rules, be_next_rest [] [] 0 _ _ _ _ c.loop-i-test.true c.loop-i.invariant.0 c.loop-i.invariant.2, be_next _ _ _ _ _ _ _ c.loop-i-test.true c.loop-i.invariant.0 c.loop-i.invariant.2 _ (rw c.from.ensures at c.put_byte.ensures) c.loop-i.invariant.3)

pub returns : goal.returns
returns c = search (rules, be_end, be_reads)
