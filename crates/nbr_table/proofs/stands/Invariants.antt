-- `nbr_table::stands` meets its contract. The invariant: the identifier is among those passed exactly when it was found. Assumes nothing.
use mathlib.Core.Path.{◌≡◌}
use lib.Dec.{eqb}
use lib.ListN.{take}
use Rattle.std.specs.List.{list_any}
use Rattle.nbr_table.proofs.stands.Given as goal

abbrev pub invariant-loop-other : goal.invariant-loop-other
invariant-loop-other l = l.found ≡ list_any (eqb l.id) (take l.other-index l.ids)
