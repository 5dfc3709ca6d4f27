-- Two lists of fields side by side: the row at each place, that these are all, and that their places ascend. Assumes nothing.
use Prim.Native.Nat.{ℕ, zero, suc, ◌+◌, ◌-◌, ◌<◌, ◌≤◌}
use mathlib.Core.Path.{◌≡◌, refl, sym, ◌∙◌, ap}
use mathlib.Core.HLevel.{hedberg}
use mathlib.Core.Logic.{∥∥₁_elim, ⊎_elim}
use mathlib.Core.List.Memᴰ
use mathlib.Core.List.Pairwise
use mathlib.Core.List.{List, [], ◌∷◌, Mem, Memᴰ, mem-cons_self, mem-cons_of_mem, Pairwise, rel_of_Pairwise-cons}
use native.Mathlib.Bridge.{le_prop}
use native.Mathlib.Omega.{arith}
use lib.ListN.{length, get_or}
use Rattle.eb_fields_spec.specs.declared.Content.{Content}
use Rattle.eb_fields_spec.specs.Fields.{Field, content_in}
use Rattle.compare_spec.specs.declared.Difference.{Difference}
use Rattle.compare_spec.specs.Decide.{same?}
use Rattle.compare_spec.specs.Compare.{beside}

-- two contents are the same in at most one way
pub content_prop : (one other : Content) → IsProp (one ≡ other)
content_prop = hedberg same?

-- a row: its place, with the contents of two lists there
abbrev pub row_at : ℕ → List Field → List Field → ℕ → Difference
row_at place xs ys i = record { place = place + i; first = content_in xs i; second = content_in ys i }

-- rows whose places are the same number
place_alike : (place other : ℕ) (first second : Content) → place ≡ other → ◌≡◌ {A = Difference} (record { place = place; first = first; second = second }) (record { place = other; first = first; second = second })
place_alike place other first second e = λ i. record { place = e i; first = first; second = second }

-- ---- how many rows, and each
pub length_beside : (place : ℕ) (xs ys : List Field) → length xs ≡ length ys → length (beside place xs ys) ≡ length xs
unfolding beside
length_beside place [] ys e = refl
length_beside place (x ∷ xs) [] e = sym e
length_beside place (x ∷ xs) (y ∷ ys) e = ap suc (length_beside (suc place) xs ys (omega arith))

pub row_at_lem : (blank : Difference) (place : ℕ) (xs ys : List Field) (i : ℕ) → i < length xs → i < length ys → get_or (beside place xs ys) i blank ≡ row_at place xs ys i
unfolding beside
row_at_lem blank place [] ys i l m = absurd (omega arith)
row_at_lem blank place (x ∷ xs) [] i l m = absurd (omega arith)
row_at_lem blank place (x ∷ xs) (y ∷ ys) zero l m = place_alike place (place + 0) x.content y.content (omega arith)
row_at_lem blank place (x ∷ xs) (y ∷ ys) (suc i) l m =
    row_at_lem blank (suc place) xs ys i (omega arith) (omega arith) ∙ place_alike (suc place + i) (place + suc i) (content_in xs i) (content_in ys i) (omega arith)

-- an entry of a list is a member
pub entry_mem : {A : Type 0} (blank : A) (xs : List A) (i : ℕ) → i < length xs → Mem (get_or xs i blank) xs
entry_mem blank [] i l = absurd (omega arith)
entry_mem blank (x ∷ xs) zero l = mem-cons_self
entry_mem blank (x ∷ xs) (suc i) l = mem-cons_of_mem x (entry_mem blank xs i (omega arith))

-- ---- what a member is
module _ (d : Difference) where
  -- it is the row at its place
  record IsRow (place : ℕ) (xs ys : List Field) : Type 0 where
    pub from : place ≤ d.place
    pub below : d.place < place + length xs
    pub first : d.first ≡ content_in xs (d.place - place)
    pub second : d.second ≡ content_in ys (d.place - place)

  head_row : (place : ℕ) (x y : Field) (xs ys : List Field) → d ≡ record { place = place; first = x.content; second = y.content } → IsRow place (x ∷ xs) (y ∷ ys)
  head_row place x y xs ys e =
      let at : d.place ≡ place = ap (λ (r : Difference). r.place) e in
      let none : d.place - place ≡ 0 = omega arith in
      record {
        from = omega arith;
        below = omega arith;
        first = rw none (ap (λ (r : Difference). r.first) e);
        second = rw none (ap (λ (r : Difference). r.second) e);
      }

  later_row : (place : ℕ) (x y : Field) (xs ys : List Field) → IsRow (suc place) xs ys → IsRow place (x ∷ xs) (y ∷ ys)
  later_row place x y xs ys is =
      let from : suc place ≤ d.place = is.from in
      let below : d.place < suc place + length xs = is.below in
      let one : d.place - place ≡ suc (d.place - suc place) = omega arith in
      record { from = omega arith; below = omega arith; first = rw one is.first; second = rw one is.second }

  is_row : (place : ℕ) (xs ys : List Field) → Memᴰ d (beside place xs ys) → IsRow place xs ys
  unfolding beside
  is_row place [] ys m = absurd (Memᴰ.not-nil m)
  is_row place (x ∷ xs) [] m = absurd (Memᴰ.not-nil m)
  is_row place (x ∷ xs) (y ∷ ys) m =
      ⊎_elim (head_row place x y xs ys) (λ (later : Memᴰ d (beside (suc place) xs ys)). later_row place x y xs ys (is_row (suc place) xs ys later)) (Memᴰ.cases_cons m)

  module _ (place : ℕ) (xs ys : List Field) (m : Mem d (beside place xs ys)) where
    pub row_from : place ≤ d.place
    row_from = ∥∥₁_elim m le_prop (λ (at : Memᴰ d (beside place xs ys)). (is_row place xs ys at).from)

    pub row_below : d.place < place + length xs
    row_below = ∥∥₁_elim m le_prop (λ (at : Memᴰ d (beside place xs ys)). (is_row place xs ys at).below)

    pub row_first : d.first ≡ content_in xs (d.place - place)
    row_first = ∥∥₁_elim m (content_prop _ _) (λ (at : Memᴰ d (beside place xs ys)). (is_row place xs ys at).first)

    pub row_second : d.second ≡ content_in ys (d.place - place)
    row_second = ∥∥₁_elim m (content_prop _ _) (λ (at : Memᴰ d (beside place xs ys)). (is_row place xs ys at).second)

-- ---- the order
abbrev pub Before : Difference → Difference → Type 0
Before one other = one.place < other.place

pub rows_ascend : (place : ℕ) (xs ys : List Field) → Pairwise Before (beside place xs ys)
unfolding beside
rows_ascend place [] ys = Pairwise.nil
rows_ascend place (x ∷ xs) [] = Pairwise.nil
rows_ascend place (x ∷ xs) (y ∷ ys) = Pairwise.cons (λ d m. row_from d (suc place) xs ys m) (rows_ascend (suc place) xs ys)

-- of the entries of any list
pub ascending : {A : Type 0} {R : A → A → Type 0} (blank : A) (xs : List A) → Pairwise R xs → (i j : ℕ) → i < j → j < length xs → R (get_or xs i blank) (get_or xs j blank)
ascending blank [] p i j l m = absurd (omega arith)
ascending blank (x ∷ xs) p i zero l m = absurd (omega arith)
ascending blank (x ∷ xs) p zero (suc j) l m = rel_of_Pairwise-cons p (entry_mem blank xs j (omega arith))
ascending blank (x ∷ xs) p (suc i) (suc j) l m = ascending blank xs (Pairwise.of_cons p) i j (omega arith) (omega arith)
