-- The laws of putting numbers: what a loop that puts byte after byte has still to put, and that what was put reads back.
-- Each is stated once over the width. Assumes nothing.
use Prim.Native.Nat.{ℕ, zero, suc, ◌+◌, ◌-◌, ◌/◌, ◌%◌, ◌^◌, ◌<◌, ◌≤◌}
use mathlib.Core.Path.{◌≡◌, refl, sym, ◌∙◌, ap}
use mathlib.Core.List.{List, [], ◌∷◌, ◌++◌}
use native.Mathlib.Nat.{pow-suc, pow-succ', one-le-pow, add-zero, sub-zero, div-one, div-div-eq-div-mul, mod-one, mul_comm}
use native.Mathlib.Numerals.{add-one}
use native.Mathlib.Omega.{arith}
use lib.Dec.{lit<, lit≤}
use lib.ListN.{length, get_or, set, drop, length-set}
use lib.Seq.{sets, drop-cons, set_out, set_comm, get_or-set_same, get_or-set_other}
use lib.Arith.{mod-mul}
use Rattle.octets_spec.specs.Number.{le_at, be_at, le_bytes, be_bytes, stored, ReadsBack, ReadsBackInABuffer}

-- ---- a run of stores leaves what stands before it, and does nothing past the end
before_sets : (s xs : List ℕ) (i j : ℕ) → i < j → get_or (sets s j xs) i 0 ≡ get_or s i 0
before_sets s [] i j lt = refl
before_sets s (x ∷ xs) i j lt = before_sets (set s j x) xs i (suc j) (omega arith) ∙ get_or-set_other s j i x 0 (λ (e : i ≡ j). omega arith)

set_before : (s xs : List ℕ) (i j x : ℕ) → i < j → set (sets s j xs) i x ≡ sets (set s i x) j xs
set_before s [] i j x lt = refl
set_before s (y ∷ ys) i j x lt = set_before (set s j y) ys i (suc j) x (omega arith) ∙ ap (λ (l : List ℕ). sets l (suc j) ys) (set_comm s j i y x (λ (e : j ≡ i). omega arith))

sets_out : (s xs : List ℕ) (at : ℕ) → length s ≤ at → s ≡ sets s at xs
sets_out s [] at past = refl
sets_out s (x ∷ xs) at past = rw (set_out s at x past) (sets_out s xs (suc at) (omega arith))

pub stored_out : (s xs : List ℕ) (at : ℕ) → length s ≤ at → s ≡ stored s at xs
unfolding stored
stored_out = sets_out

-- parts in a row are one part
pub sets_append : (s xs ys : List ℕ) (at : ℕ) → sets s at (xs ++ ys) ≡ sets (sets s at xs) (at + length xs) ys
sets_append s [] ys at = rw (add-zero at)
sets_append s (x ∷ xs) ys at = let offset : at + suc (length xs) ≡ suc at + length xs = omega arith in rw offset (sets_append (set s at x) xs ys (suc at))

-- ---- what was put reads back, in either order
pub le_back : ReadsBack le_bytes le_at
unfolding le_at le_bytes stored
le_back zero n at buffer fits = sym (mod-one n)
le_back (suc width) n at buffer fits =
    let next : suc at + width ≤ length (set buffer at (n % 256)) = omega (arith, length-set buffer at (n % 256)) in
    rw (add-one at, before_sets (set buffer at (n % 256)) (le_bytes width (n / 256)) at (suc at) (omega arith), get_or-set_same buffer at (n % 256) 0 (omega arith), le_back width (n / 256) (suc at) (set buffer at (n % 256)) next, pow-suc 256 width)
    (omega (arith, mod-mul n {m = 256 ^ width} {c = 256} (one-le-pow width 256 (lit< tt)) (lit< tt)))

pub be_back : ReadsBack be_bytes be_at
unfolding be_at be_bytes stored
be_back zero n at buffer fits = sym (mod-one n)
be_back (suc width) n at buffer fits =
    let first : ℕ = n / 256 ^ width % 256 in
    let next : suc at + width ≤ length (set buffer at first) = omega (arith, length-set buffer at first) in
    rw (add-one at, before_sets (set buffer at first) (be_bytes width n) at (suc at) (omega arith), get_or-set_same buffer at first 0 (omega arith), be_back width n (suc at) (set buffer at first) next, pow-succ' 256 width)
    (omega (arith, mod-mul n {m = 256} {c = 256 ^ width} (lit< tt) (one-le-pow width 256 (lit< tt)), mul_comm (256 ^ width) (n / 256 ^ width % 256)))

-- ---- the loops: what is still to be put gives what the whole gives
module _ (buffer : List ℕ) (at width : ℕ) where
  pub le_start : (n : ℕ) → stored buffer (at + 0) (le_bytes (width - 0) n) ≡ stored buffer at (le_bytes width n)
  le_start n = rw (add-zero at, sub-zero width)

  pub le_next : (next whole : List ℕ) (i rest : ℕ) → i < width → next ≡ set buffer (at + i) (rest % 256) → stored buffer (at + i) (le_bytes (width - i) rest) ≡ whole
      → stored next (at + (i + 1)) (le_bytes (width - (i + 1)) (rest / 256)) ≡ whole
  unfolding le_bytes stored
  le_next next whole i rest more put left =
      let one_less : width - i ≡ suc (width - (i + 1)) = omega arith in
      let offset : at + (i + 1) ≡ suc (at + i) = omega arith in
      rw (offset, put) (rw one_less at left)

  pub le_end : (whole : List ℕ) (i rest : ℕ) → width ≤ i → stored buffer (at + i) (le_bytes (width - i) rest) ≡ whole → buffer ≡ whole
  unfolding le_bytes stored
  le_end whole i rest over left = let none : width - i ≡ 0 = omega arith in rw none at left

-- bytes past the end are not stored, so they need not be put
pub le_cut : (inside width n at : ℕ) (buffer : List ℕ) → length buffer ≤ at + inside → inside ≤ width → stored buffer at (le_bytes inside n) ≡ stored buffer at (le_bytes width n)
unfolding le_bytes stored
le_cut zero width n at buffer past less = sets_out buffer (le_bytes width n) at (omega arith)
le_cut (suc inside) zero n at buffer past less = absurd (omega arith)
le_cut (suc inside) (suc width) n at buffer past less = le_cut inside width (n / 256) (suc at) (set buffer at (n % 256)) (omega (arith, length-set buffer at (n % 256))) (omega arith)

pub le_cut_at : (buffer after : List ℕ) (at width n : ℕ) → length buffer - at < width → after ≡ stored buffer at (le_bytes (length buffer - at) n) → after ≡ stored buffer at (le_bytes width n)
le_cut_at buffer after at width n less put = put ∙ le_cut (length buffer - at) width n at buffer (omega arith) (omega arith)

-- most significant first, the bytes are put from the last one back: those put so far stand from `left` on
module _ (start buffer : List ℕ) (at width n : ℕ) where
  pub be_start : start ≡ stored start (at + width) (be_bytes (width - width) n)
  unfolding be_bytes stored
  be_start = let none : width - width ≡ 0 = omega arith in rw none

  pub be_start_rest : n ≡ n / 256 ^ (width - width)
  be_start_rest = let none : width - width ≡ 0 = omega arith in rw none (sym (div-one n))

  module _ (left rest : ℕ) (more : 0 < left) (within : left ≤ width) (is : rest ≡ n / 256 ^ (width - left)) where
    one_more : width - (left - 1) ≡ suc (width - left)
    one_more = omega arith

    pub be_next : (next : List ℕ) → next ≡ set buffer (at + (left - 1)) (rest % 256) → buffer ≡ stored start (at + left) (be_bytes (width - left) n) → next ≡ stored start (at + (left - 1)) (be_bytes (width - (left - 1)) n)
    unfolding be_bytes stored
    be_next next put so_far =
        let offset : at + left ≡ suc (at + (left - 1)) = omega arith in
        rw (put, so_far, is, one_more, offset) (set_before start (be_bytes (width - left) n) (at + (left - 1)) (suc (at + (left - 1))) (n / 256 ^ (width - left) % 256) (omega arith))

    pub be_next_rest : rest / 256 ≡ n / 256 ^ (width - (left - 1))
    be_next_rest = rw (is, one_more, pow-suc 256 (width - left)) (div-div-eq-div-mul n (256 ^ (width - left)) 256)

  pub be_end : (left : ℕ) → left ≤ 0 → buffer ≡ stored start (at + left) (be_bytes (width - left) n) → buffer ≡ stored start at (be_bytes width n)
  be_end left over so_far = let none : left ≡ 0 = omega arith in rw (none, add-zero at, sub-zero width) at so_far

module _ (buffer done : List ℕ) (at width n : ℕ) where
  pub le_reads : done ≡ stored buffer at (le_bytes width n) → at + width ≤ length buffer → le_at width done at ≡ n % 256 ^ width
  le_reads put fits = rw put (le_back width n at buffer fits)

  pub be_reads : done ≡ stored buffer at (be_bytes width n) → at + width ≤ length buffer → be_at width done at ≡ n % 256 ^ width
  be_reads put fits = rw put (be_back width n at buffer fits)

-- ---- a list put entry by entry: what is left gives what the whole gives
pub put_next : (buffer text whole : List ℕ) (at next i d : ℕ) → next ≡ suc at → i < length text → stored buffer at (drop i text) ≡ whole → stored (set buffer at (get_or text i d)) next (drop (i + 1) text) ≡ whole
unfolding stored
put_next buffer text whole at next i d offset more left = let after : i + 1 ≡ suc i = omega arith in rw (offset, after) (rw (drop-cons text i d more) at left)

-- ---- a buffer in which a number is put and read
pub le_in_a_buffer : ReadsBackInABuffer le_bytes le_at
unfolding le_at le_bytes stored
le_in_a_buffer = (lit≤ tt, refl)

pub be_in_a_buffer : ReadsBackInABuffer be_bytes be_at
unfolding be_at be_bytes stored
be_in_a_buffer = (lit≤ tt, refl)
