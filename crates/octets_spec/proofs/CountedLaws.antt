-- The laws of lists that are counted out: how a loop fills an array with them. Stated once over the element's type and the size.
-- Assumes nothing.
use Prim.Native.Nat.{ℕ, zero, suc, ◌+◌, ◌-◌, ◌<◌, ◌≤◌, min}
use mathlib.Core.Path.{◌≡◌, refl, sym, ◌∙◌}
use mathlib.Core.List.{List, [], ◌∷◌, ◌++◌, append-nil, map}
use native.Mathlib.Numerals.{add-one}
use native.Mathlib.Omega.{arith}
use lib.ListN.{length, set, replicate, length-append, length-map}
use lib.Seq.{set_at, append_snoc}
use Rattle.octets_spec.specs.Counted.{counted, padded}

-- an array of structs that is a field has its length
pub length_mapped : {X Y : Type 0} (f : X → Y) (l : List X) (n : ℕ) → length (map f l) ≡ n → length l ≡ n
length_mapped f l n e = sym (length-map l f) ∙ e

module _ {A : Type 0} (f : ℕ → A) where
  pub length_counted : (n : ℕ) → length (counted f n) ≡ n
  unfolding counted
  length_counted zero = refl
  length_counted (suc n) = length-append (counted f n) (f n ∷ []) ∙ omega (arith, length_counted n)

  module _ (blank : A) (size : ℕ) where
    -- an array whose first i entries are filled
    unfoldable pub filled : ℕ → List A
    filled i = counted f i ++ replicate (size - i) blank

    pub filled_none : replicate size blank ≡ filled 0
    unfolding filled counted
    filled_none = let e : size - 0 ≡ size = omega arith in rw e

    pub filled_more : (i : ℕ) → i < size → set (filled i) i (f i) ≡ filled (i + 1)
    unfolding filled counted
    filled_more i h =
        let e : size - i ≡ suc (size - suc i) = omega arith in
        rw (add-one i, e) (set_at (counted f i) blank (replicate (size - suc i) blank) (f i) i (length_counted i) ∙ sym (append_snoc (counted f i) (f i) (replicate (size - suc i) blank)))

    pub filled_all : (n i : ℕ) → i ≤ size → i ≤ n → n ≤ i → filled i ≡ padded f blank size n
    unfolding filled padded
    filled_all n i h k l = let e : min n size ≡ i = omega arith in rw e

    pub filled_whole : (n i : ℕ) → i ≡ size → size ≤ n → filled i ≡ padded f blank size n
    unfolding filled padded
    filled_whole n i h k = let e : min n size ≡ i = omega arith in rw e

    -- ---- the same of an array that code has filled so far
    module _ (all : List A) where
      pub fill_begins : all ≡ replicate size blank → all ≡ filled 0
      fill_begins e = e ∙ filled_none

      module _ (i : ℕ) (so_far : all ≡ filled i) where
        pub fill_turn : (x : A) → i < size → x ≡ f i → set all i x ≡ filled (i + 1)
        fill_turn x h e = rw (so_far, e) (filled_more i h)

        pub fill_stops : (n : ℕ) → i ≤ size → i ≤ n → n ≤ i → all ≡ padded f blank size n
        fill_stops n h k l = so_far ∙ filled_all n i h k l

        pub fill_ends : (n : ℕ) → i ≤ size → size ≤ i → i ≤ n → all ≡ padded f blank size n
        fill_ends n h l k = let e : i ≡ size = omega arith in so_far ∙ filled_whole n i e (omega arith)

        pub fill_counts : i ≤ size → size ≤ i → all ≡ counted f size
        unfolding filled
        fill_counts h l = let e : i ≡ size = omega arith in let z : size - size ≡ 0 = omega arith in so_far ∙ rw (e, z) (append-nil (counted f size))

pub ruleset filling = (fill_begins, fill_turn, fill_stops, fill_ends, fill_counts)
