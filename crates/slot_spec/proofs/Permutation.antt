-- The default hopping sequence is a permutation of the channels 11 to 26: sorting permutes a list, and the sequence, sorted, is that list.
-- Assumes nothing.
use Prim.Native.Nat.{ℕ}
use mathlib.Core.Bool.{Bool, true, false, cond}
use mathlib.Core.List as Lists
use mathlib.Core.List.{List, [], ◌∷◌}
use lib.Dec.{leb}
use mathlib.Core.List.Perm
use Rattle.slot_spec.specs.Hopping.{hopping, HoppingPermutes}

abbrev insert : ℕ → List ℕ → List ℕ
insert x [] = x ∷ []
insert x (y ∷ ys) = cond (leb x y) (x ∷ y ∷ ys) (y ∷ insert x ys)

abbrev sort : List ℕ → List ℕ
sort [] = []
sort (x ∷ xs) = insert x (sort xs)

either : (test : Bool) (l a b : List ℕ) → Lists.Perm l a → Lists.Perm l b → Lists.Perm l (cond test a b)
either true l a b p q = p
either false l a b p q = q

inserted : (x : ℕ) (ys : List ℕ) → Lists.Perm (x ∷ ys) (insert x ys)
inserted x [] = Perm.refl (x ∷ [])
inserted x (y ∷ ys) =
    either (leb x y) (x ∷ y ∷ ys) (x ∷ y ∷ ys) (y ∷ insert x ys) (Perm.refl (x ∷ y ∷ ys))
    (Perm.trans (Perm.swap y x ys) (Perm.cons y (inserted x ys)))

sorted : (xs : List ℕ) → Lists.Perm xs (sort xs)
sorted [] = Perm.nil
sorted (x ∷ xs) = Perm.trans (Perm.cons x (sorted xs)) (inserted x (sort xs))

pub hopping_permutes : HoppingPermutes
hopping_permutes = sorted hopping
