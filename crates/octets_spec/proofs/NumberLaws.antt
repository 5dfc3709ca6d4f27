-- The laws of reading numbers, each stated once over the width: nothing past the end, one byte more in a loop, and its bound.
-- Assumes nothing.
use Prim.Native.Nat.{ℕ, zero, suc, ◌+◌, ◌-◌, ◌*◌, ◌^◌, ◌<◌, ◌≤◌}
use mathlib.Core.Path.{◌≡◌, refl}
use mathlib.Core.List.{List}
use native.Mathlib.Nat.{pow-suc, pow-succ', pow-le-pow_right, one-le-pow, mul_assoc, mul-zero, add-zero, sub-zero}
use native.Mathlib.Numerals.{add-one}
use native.Mathlib.Omega.{arith}
use mir.Syntax.{w64}
use mir.Val.{Fits}
use lib.Dec.{lit<}
use lib.ListN.{length, get_or, get_or-eq_default}
use Rattle.octets_spec.specs.Number.{le_at, be_at}

shift : (at width : ℕ) → at + suc width ≡ at + 1 + width
shift at width = omega arith

module _ (s : List ℕ) where
  pub le_past : (width at : ℕ) → length s ≤ at → 0 ≡ le_at width s at
  unfolding le_at
  le_past zero at past = refl
  le_past (suc width) at past = omega (arith, get_or-eq_default s 0 past, le_past width (at + 1) (omega arith))

  pub be_past : (width at : ℕ) → length s ≤ at → 0 ≡ be_at width s at
  unfolding be_at
  be_past zero at past = refl
  be_past (suc width) at past = rw (get_or-eq_default s 0 past, mul-zero) (omega (arith, be_past width (at + 1) (omega arith)))

  -- most significant first, one byte more at the end
  be_more : (width at : ℕ) → be_at width s at * 256 + get_or s (at + width) 0 ≡ be_at (suc width) s at
  unfolding be_at
  be_more zero at = rw (add-zero at) (omega arith)
  be_more (suc width) at = rw (shift at width, pow-succ' 256 width) (omega (arith, be_more width (at + 1), mul_assoc 256 (256 ^ width) (get_or s at 0)))

-- what a loop has read after some bytes
pub record Read (value bytes n : ℕ) : Type 0 where
  pub is : n ≡ value
  pub small : n < 256 ^ bytes

-- no byte, and one byte more
none : (value : ℕ) → 0 ≡ value → Read value 0 0
none value e = record { is = e; small = lit< tt }

more : (value bytes n b next : ℕ) → Read value bytes n → b < 256 → value * 256 + b ≡ next → Read next (suc bytes) (n * 256 + b)
more value bytes n b next so_far one e = record { is = rw so_far.is e; small = rw (pow-suc 256 bytes) (omega arith) }

few : (bytes : ℕ) → bytes < 8 → 256 ^ bytes ≤ 256 ^ 7
few bytes lt = pow-le-pow_right {n = 256} (lit< tt) {i = bytes} {j = 7} (omega arith)

-- ---- least significant byte first: from the last byte back, the bytes from `left` on are read
module _ (s : List ℕ) (at width : ℕ) where
  pub le_begins : Read (le_at (width - width) s (at + width)) (width - width) 0
  unfolding le_at
  le_begins = let nothing : width - width ≡ 0 = omega arith in rw nothing (none 0 refl)

  module _ (n left : ℕ) (so_far : Read (le_at (width - left) s (at + left)) (width - left) n) where
    module _ (some : 0 < left) (within : left ≤ width) where
      pub le_turn : (b : ℕ) → b ≡ get_or s (at + (left - 1)) 0 → b < 256 → Read (le_at (width - (left - 1)) s (at + (left - 1))) (width - (left - 1)) (n * 256 + b)
      unfolding le_at
      le_turn b is one =
          let one_more : width - (left - 1) ≡ suc (width - left) = omega arith in
          let offset : at + (left - 1) + 1 ≡ at + left = omega arith in
          rw (one_more, offset) (more _ (width - left) n b _ so_far one (omega arith))

      pub le_times : width ≤ 8 → Fits w64 (n * 256)
      le_times wide = record { fits = omega (arith, so_far.small, few (width - left) (omega arith)) }

      pub le_plus : (b : ℕ) → width ≤ 8 → b < 256 → Fits w64 (n * 256 + b)
      le_plus b wide one = record { fits = omega (arith, so_far.small, few (width - left) (omega arith)) }

    pub le_ends : left ≤ 0 → (n ≡ le_at width s at) × (n < 256 ^ width)
    le_ends over = let nothing : left ≡ 0 = omega arith in let all : Read (le_at width s at) width n = rw (nothing, add-zero at, sub-zero width) at so_far in (all.is, all.small)

-- ---- most significant byte first: from the first byte on, i bytes are read
module _ (s : List ℕ) (at : ℕ) where
  pub be_begins : Read (be_at 0 s at) 0 0
  unfolding be_at
  be_begins = none 0 refl

  module _ (n i : ℕ) (so_far : Read (be_at i s at) i n) where
    pub be_turn : (b : ℕ) → b ≡ get_or s (at + i) 0 → b < 256 → Read (be_at (i + 1) s at) (i + 1) (n * 256 + b)
    be_turn b is one = rw add-one (more _ i n b _ so_far one (rw is (be_more s i at)))

    pub be_times : (width : ℕ) → i < width → width ≤ 8 → Fits w64 (n * 256)
    be_times width within wide = record { fits = omega (arith, so_far.small, few i (omega arith)) }

    pub be_plus : (width b : ℕ) → i < width → width ≤ 8 → b < 256 → Fits w64 (n * 256 + b)
    be_plus width b within wide one = record { fits = omega (arith, so_far.small, few i (omega arith)) }

    pub be_ends : (width : ℕ) → i ≤ width → width ≤ i → (n ≡ be_at width s at) × (n < 256 ^ width)
    be_ends width within over = let last : i ≡ width = omega arith in let all : Read (be_at width s at) width n = rw last at so_far in (all.is, all.small)

pub positive : (width : ℕ) → 0 < 256 ^ width
positive width = one-le-pow width 256 (lit< tt)
