-- The laws of putting the items of a list one after the other, in the shape in which the code meets them. Assumes nothing.
use Prim.Native.Nat.{ℕ, ◌+◌, ◌*◌, ◌<◌}
use mathlib.Core.Path.{◌≡◌, refl, sym, ◌∙◌, ap}
use mathlib.Core.List.{List, [], ◌∷◌, ◌++◌, append-nil}
use native.Mathlib.Nat.{mul-zero}
use native.Mathlib.Omega.{arith}
use lib.ListN.{length, get_or, take, length-append}
use Rattle.std.specs.List.{flat_map}
use Rattle.std.proofs.lemmas.List.{take_more}
use Rattle.std.proofs.lemmas.Grind.{flat_map-append}
use Rattle.octets_spec.specs.Number.{le_bytes, stored}
use Rattle.eb_record_spec.specs.declared.Link.{Link}
use Rattle.eb_write_spec.specs.Frame.{numbers_in, link_bytes, links_bytes}
use Rattle.eb_write_spec.proofs.LengthLaws.{length_le}
use Rattle.eb_write_spec.proofs.RowLaws.{two, nothing}

module _ {A : Type 0} (bytes : A → List ℕ) (width : ℕ) (s : List ℕ) (at : ℕ) where
  -- nothing is put yet
  pub each_start : (s ≡ stored s at (flat_map bytes [])) × (length (flat_map bytes []) ≡ width * 0)
  each_start = (nothing s at, sym (mul-zero width))

  -- one more item
  pub each_next : (xs : List A) (i : ℕ) (t u : List ℕ) (x : A) (number : ℕ) → i < length xs → x ≡ get_or xs i x → le_bytes width number ≡ bytes x
      → (t ≡ stored s at (flat_map bytes (take i xs))) × (length (flat_map bytes (take i xs)) ≡ width * i) → u ≡ stored t (at + width * i) (le_bytes width number)
      → (u ≡ stored s at (flat_map bytes (take (i + 1) xs))) × (length (flat_map bytes (take (i + 1) xs)) ≡ width * (i + 1))
  each_next xs i t u x number within is one so_far put =
      let more : flat_map bytes (take (i + 1) xs) ≡ flat_map bytes (take i xs) ++ le_bytes width number =
      ap (flat_map bytes) (take_more xs i x within ∙ ap (λ (y : A). take i xs ++ y ∷ []) (sym is)) ∙ (flat_map-append bytes (take i xs) (x ∷ []) ∙ ap (λ (ys : List ℕ). flat_map bytes (take i xs) ++ ys) (append-nil (bytes x) ∙ sym one)) in
      let long : length (flat_map bytes (take i xs) ++ le_bytes width number) ≡ width * i + width = length-append (flat_map bytes (take i xs)) (le_bytes width number) ∙ omega (arith, so_far.1, length_le width number) in
      let product : width * (i + 1) ≡ width * i + width = omega arith in
      rw (more, product) (two s at _ _ t (width * i) so_far.0 so_far.1 u put, long)

-- ---- the lists that are put so
pub numbers_are : (width : ℕ) (ns : List ℕ) → flat_map (le_bytes width) ns ≡ numbers_in width ns
unfolding numbers_in
numbers_are width [] = refl
numbers_are width (n ∷ ns) = rw (numbers_are width ns)

pub links_are : (ls : List Link) → flat_map link_bytes ls ≡ links_bytes ls
unfolding links_bytes
links_are [] = refl
links_are (l ∷ ls) = rw (links_are ls)
