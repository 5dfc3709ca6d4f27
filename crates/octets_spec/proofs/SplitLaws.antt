-- The laws of a number of many bytes made from two of fewer. Assumes nothing.
use Prim.Native.Nat.{ℕ, zero, suc, ◌+◌, ◌*◌, ◌^◌}
use mathlib.Core.Path.{◌≡◌, sym, ◌∙◌, ap}
use mathlib.Core.List.{List}
use native.Mathlib.Nat.{pow-succ', mul_assoc, mul-add, mul_comm, add-zero}
use native.Mathlib.Omega.{arith}
use lib.Pow.{pow-add}
use lib.ListN.{get_or}
use Rattle.octets_spec.specs.Number.{le_at, be_at}

-- ---- in either order, the bytes of a number are those of its two parts
pub le_split : (m n : ℕ) (s : List ℕ) (at : ℕ) → le_at (m + n) s at ≡ le_at m s at + 256 ^ m * le_at n s (at + m)
unfolding le_at
le_split zero n s at = let all : 0 + n ≡ n = omega arith in rw (all, add-zero at) (omega arith)
le_split (suc m) n s at =
    let more : suc m + n ≡ suc (m + n) = omega arith in
    let offset : at + suc m ≡ at + 1 + m = omega arith in
    rw (more, offset, le_split m n s (at + 1), pow-succ' 256 m) (omega (arith, mul_assoc 256 (256 ^ m) (le_at n s (at + 1 + m))))

pub be_split : (m n : ℕ) (s : List ℕ) (at : ℕ) → be_at (m + n) s at ≡ 256 ^ n * be_at m s at + be_at n s (at + m)
unfolding be_at
be_split zero n s at = let all : 0 + n ≡ n = omega arith in rw (all, add-zero at) (omega arith)
be_split (suc m) n s at =
    let more : suc m + n ≡ suc (m + n) = omega arith in
    let offset : at + suc m ≡ at + 1 + m = omega arith in
    rw (more, offset, be_split m n s (at + 1))
    (omega (arith, mul-add (256 ^ n) (256 ^ m * get_or s at 0) (be_at m s (at + 1)), mul_assoc (256 ^ n) (256 ^ m) (get_or s at 0), ap (λ (k : ℕ). k * get_or s at 0) (same m n)))
  where
    same : (m n : ℕ) → 256 ^ (m + n) ≡ 256 ^ n * 256 ^ m
    same m n = pow-add 256 m n ∙ mul_comm (256 ^ m) (256 ^ n)

module _ (s : List ℕ) (at a b : ℕ) where
  pub le_two : a ≡ get_or s at 0 → b ≡ get_or s (at + 1) 0 → a + 256 * b ≡ le_at 2 s at
  unfolding le_at
  le_two e f = rw (e, f) (omega arith)

  pub le_four : a ≡ le_at 2 s at → b ≡ le_at 2 s (at + 2) → a + 65536 * b ≡ le_at 4 s at
  le_four e f = rw (e, f) (sym (le_split 2 2 s at))

  pub le_five : a ≡ le_at 4 s at → b ≡ get_or s (at + 4) 0 → a + 4294967296 * b ≡ le_at 5 s at
  unfolding le_at
  le_five e f = rw (e, f) (omega (arith, le_split 4 1 s at))

  pub be_two : a ≡ get_or s at 0 → b ≡ get_or s (at + 1) 0 → 256 * a + b ≡ be_at 2 s at
  unfolding be_at
  be_two e f = rw (e, f) (omega arith)

  pub be_four : a ≡ be_at 2 s at → b ≡ be_at 2 s (at + 2) → 65536 * a + b ≡ be_at 4 s at
  be_four e f = rw (e, f) (sym (be_split 2 2 s at))

  pub be_eight : a ≡ be_at 4 s at → b ≡ be_at 4 s (at + 4) → 4294967296 * a + b ≡ be_at 8 s at
  be_eight e f = rw (e, f) (sym (be_split 4 4 s at))

pub ruleset splitting = (le_two, le_four, le_five, be_two, be_four, be_eight)
