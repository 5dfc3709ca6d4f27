-- The laws of the timings whose width is 2 bytes or 3. Assumes nothing.
use Prim.Native.Nat.{ℕ, ◌+◌, ◌*◌}
use mathlib.Core.Path.{◌≡◌, refl}
use mathlib.Core.Bool.{Bool, true, false}
use mathlib.Core.List.{List}
use mir.Val.{bool_byte}
use native.Mathlib.Omega.{arith}
use lib.ListN.{get_or}
use Rattle.octets_spec.specs.Number.{le_at}
use Rattle.octets_spec.proofs.SplitLaws.{le_split, splitting}

-- a number of 2 bytes, or of 3 where the third counts
pub le_last : (wide : Bool) (s : List ℕ) (at third a c : ℕ) → a ≡ le_at 2 s at → c ≡ get_or s third 0 → (wide ≡ true → third ≡ at + 2) → a + 65536 * (bool_byte wide * c) ≡ le_at (2 + bool_byte wide) s at
unfolding le_at
le_last false s at third a c e g k = rw (g, e) (omega arith)
le_last true s at third a c e g k = rw (g, e, k refl) (omega (arith, le_split 2 1 s at))

pub ruleset fixing = (splitting, le_last)
