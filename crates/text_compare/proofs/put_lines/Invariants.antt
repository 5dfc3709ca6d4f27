-- What `text_compare::put_lines` keeps. Assumes nothing.
use Prim.Native.Nat.{◌*◌}
use lib.ListN.{take}
use Rattle.text_put.specs.Puts.{Puts}
use Rattle.text_compare_spec.specs.CompareText.{lines_text}
use Rattle.text_compare.proofs.put_lines.Given as goal

-- the lines so far were put
abbrev pub invariant-loop-difference : goal.invariant-loop-difference
invariant-loop-difference l = Puts (149 * l.difference-index) l.initial.line (lines_text (take l.difference-index l.list)) l.line
