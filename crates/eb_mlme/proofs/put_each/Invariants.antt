-- `eb_mlme::put_each` meets its contract. Assumes nothing.
use Prim.Native.Nat.{ℕ, ◌*◌}
use mathlib.Core.Path.{◌≡◌}
use mathlib.Core.List.{List}
use lib.ListN.{length, take}
use Rattle.std.specs.List.{flat_map}
use Rattle.octets_spec.specs.Number.{le_bytes, stored}
use Rattle.eb_mlme.proofs.put_each.Given as goal

abbrev pub invariant-loop-i : goal.invariant-loop-i
invariant-loop-i g l = goal.F-IsAlwaysCallable g l.number × ((bytes : _ → List ℕ) → ((item : _) (number : ℕ) → goal.F-post g l.number item number → le_bytes l.width number ≡ bytes item) → (l.buffer ≡ stored l.initial.buffer l.at (flat_map bytes (take l.i l.items))) × (length (flat_map bytes (take l.i l.items)) ≡ l.width * l.i))
