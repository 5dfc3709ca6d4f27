-- Rows of numbers, and lists that are counted out: as they stand at a place, both ways. Assumes nothing.
use Prim.Native.Nat.{ℕ, zero, suc, ◌+◌, ◌-◌, ◌≤◌, min}
use mathlib.Core.Path.{◌≡◌, refl, sym, ◌∙◌, ap, subst}
use mathlib.Core.List.{List, [], ◌∷◌, ◌++◌}
use native.Mathlib.Nat.{add-zero}
use native.Mathlib.Omega.{arith}
use lib.ListN.{length, length-append, replicate}
use Rattle.octets_spec.specs.Number.{le_at}
use Rattle.octets_spec.specs.Counted.{counted, padded}
use Rattle.eb_grammar_spec.proofs.Stands.{Stands, stands_first, stands_rest, stands_at}
use Rattle.eb_grammar_spec.specs.Row.{Row, last, next}
use Rattle.eb_grammar_spec.proofs.Slices.{part, length_part, part_at, part_append, part_stands, le_stands, le_part}

-- numbers of these widths, from an offset of a place on
unfoldable pub numbers_at : List ℕ → List ℕ → ℕ → ℕ → List ℕ
numbers_at [] s at k = []
numbers_at (w ∷ ws) s at k = le_at w s (at + k) ∷ numbers_at ws s at (k + w)

unfoldable pub total : List ℕ → ℕ
total [] = 0
total (w ∷ ws) = w + total ws

module _ (s : List ℕ) where
  pub row_length : (ws xs ns : List ℕ) → Row ws xs ns → length xs ≡ total ws
  unfolding total
  row_length _ _ _ last = refl
  row_length _ _ _ (next xs {widths = ws} {bytes} {numbers = ns} more) = length-append xs bytes ∙ ap (λ (n : ℕ). length xs + n) (row_length ws bytes ns more)

  pub row_reads : (ws xs ns : List ℕ) → Row ws xs ns → (at k : ℕ) → Stands s (at + k) xs → ns ≡ numbers_at ws s at k
  unfolding numbers_at
  row_reads _ _ _ last at k h = refl
  row_reads _ _ _ (next xs {widths = ws} {bytes} {numbers = ns} more) at k h =
      let e : at + k + length xs ≡ at + (k + length xs) = omega arith in
      let behind = stands_at s bytes _ _ e (stands_rest s xs bytes (at + k) h) in
      rw (le_stands s (at + k) xs (stands_first s xs bytes (at + k) h), ← row_reads ws bytes ns more at (k + length xs) behind)

  pub row_of : (ws : List ℕ) (at k : ℕ) → Row ws (part s (at + k) (total ws)) (numbers_at ws s at k)
  unfolding numbers_at total part
  row_of [] at k = last
  row_of (w ∷ ws) at k =
      let e : at + (k + w) ≡ at + k + w = omega arith in
      let one = next (part s (at + k) w) (row_of ws at (k + w)) in
      rw (length_part s (at + k) w, le_part s w (at + k), e, ← part_append s (at + k) w (total ws)) at one

  pub row_here : (ws : List ℕ) (at k : ℕ) (c : List ℕ) → Stands s (at + k) c → length c ≡ total ws → Row ws c (numbers_at ws s at k)
  row_here ws at k c h e = subst (λ xs. Row ws xs (numbers_at ws s at k)) (sym (part_stands s (at + k) c h ∙ part_at s (at + k) (at + k) _ _ refl e)) (row_of ws at k)

-- ---- lists that are counted out, from their first entry on
unfoldable pub count_from : {A : Type 0} → (ℕ → A) → ℕ → ℕ → List A
count_from f i zero = []
count_from f i (suc n) = f i ∷ count_from f (suc i) n

module _ {A : Type 0} (f : ℕ → A) where
  count_last : (n i : ℕ) → count_from f i (suc n) ≡ count_from f i n ++ (f (i + n) ∷ [])
  unfolding count_from
  count_last zero i = let e : i + 0 ≡ i = add-zero i in rw e
  count_last (suc n) i = let e : i + suc n ≡ suc i + n = omega arith in rw (e, ← count_last n (suc i), count_from)

  pub count_is : (n : ℕ) → count_from f 0 n ≡ counted f n
  unfolding count_from counted
  count_is zero = refl
  count_is (suc n) = let e : 0 + n ≡ n = omega arith in rw (count_last n 0, e, count_is n, counted)

  pub length_count : (n i : ℕ) → length (count_from f i n) ≡ n
  unfolding count_from
  length_count zero i = refl
  length_count (suc n) i = ap suc (length_count n (suc i))

  pub padded_count : (blank : A) (size n : ℕ) → n ≤ size → count_from f 0 n ++ replicate (size - n) blank ≡ padded f blank size n
  unfolding padded
  padded_count blank size n h = let m : min n size ≡ n = omega arith in rw (m, count_is n)
