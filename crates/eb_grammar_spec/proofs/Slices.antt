-- The bytes at a place as a list of their own: the bridge from places to a grammar and back. Assumes nothing.
use Prim.Native.Nat.{ℕ, zero, suc, ◌+◌, ◌-◌, ◌*◌, ◌/◌, ◌%◌, ◌^◌, ◌≤◌}
use mathlib.Core.Path.{◌≡◌, refl, ◌∙◌, ap}
use mathlib.Core.List.{List, [], ◌∷◌, ◌++◌}
use native.Mathlib.Nat.{mul_comm, mul_assoc, add-mul, div-div-eq-div-mul}
use native.Mathlib.Omega.{arith}
use lib.Arith.{digits_div, digits_mod}
use lib.ListN.{length, get_or}
use Rattle.octets_spec.specs.Number.{le_at, be_at}
use Rattle.eb_grammar_spec.proofs.Stands.{Stands}
use Rattle.eb_grammar_spec.specs.Row.{le, be}
use Rattle.eb_grammar_spec.specs.Grammar.{Descriptor}

unfoldable pub part : List ℕ → ℕ → ℕ → List ℕ
part s at zero = []
part s at (suc n) = get_or s at 0 ∷ part s (suc at) n

module _ (s : List ℕ) where
  pub length_part : (at n : ℕ) → length (part s at n) ≡ n
  unfolding part
  length_part at zero = refl
  length_part at (suc n) = ap suc (length_part (suc at) n)

  pub part_at : (at i n k : ℕ) → at ≡ i → n ≡ k → part s at n ≡ part s i k
  part_at at i n k e f = rw (e, f)

  pub part_cons : (at n : ℕ) → part s at (suc n) ≡ get_or s at 0 ∷ part s (at + 1) n
  unfolding part
  part_cons at n = let one : at + 1 ≡ suc at = omega arith in rw (one, part)

  pub part_append : (at m n : ℕ) → part s at (m + n) ≡ part s at m ++ part s (at + m) n
  unfolding part
  part_append at zero n = part_at at (at + 0) (0 + n) n (omega arith) (omega arith)
  part_append at (suc m) n =
      let e : suc m + n ≡ suc (m + n) = omega arith in
      let f : at + suc m ≡ suc at + m = omega arith in
      rw (e, f, part) (ap (λ (xs : List ℕ). get_or s at 0 ∷ xs) (part_append (suc at) m n))

  pub stands_part : (at n : ℕ) → at + n ≤ length s → Stands s at (part s at n)
  unfolding part Stands
  stands_part at zero h = omega arith
  stands_part at (suc n) h = (refl, stands_part (suc at) n (omega arith))

  pub part_stands : (at : ℕ) (xs : List ℕ) → Stands s at xs → xs ≡ part s at (length xs)
  unfolding part Stands
  part_stands at [] h = refl
  part_stands at (x ∷ xs) h = rw (h.0, ← part_stands (suc at) xs h.1)

  pub le_part : (n at : ℕ) → le (part s at n) ≡ le_at n s at
  unfolding part le le_at
  le_part zero at = refl
  le_part (suc n) at = let one : at + 1 ≡ suc at = omega arith in rw (le_at, one, le_part n (suc at))

  pub be_part : (n at : ℕ) → be (part s at n) ≡ be_at n s at
  unfolding part be be_at
  be_part zero at = refl
  be_part (suc n) at = let one : at + 1 ≡ suc at = omega arith in rw (be_at, one, be_part n (suc at), length_part (suc at) n)

  pub le_stands : (at : ℕ) (xs : List ℕ) → Stands s at xs → le xs ≡ le_at (length xs) s at
  le_stands at xs h = ap le (part_stands at xs h) ∙ le_part (length xs) at

  pub be_stands : (at : ℕ) (xs : List ℕ) → Stands s at xs → be xs ≡ be_at (length xs) s at
  be_stands at xs h = ap be (part_stands at xs h) ∙ be_part (length xs) at

  -- an element: its two descriptor bytes, its content, and what stands behind it
  pub part_element : (at size to end : ℕ) → to ≡ at + 2 + size → to ≤ end → part s at (end - at) ≡ get_or s at 0 ∷ get_or s (at + 1) 0 ∷ (part s (at + 2) size ++ part s to (end - to))
  unfolding part
  part_element at size to end is h =
      let e : end - at ≡ suc (suc (size + (end - to))) = omega arith in
      let one : suc at ≡ at + 1 = omega arith in
      let two : suc (at + 1) ≡ at + 2 = omega arith in
      rw (e, part, one, two) (ap (λ (xs : List ℕ). get_or s at 0 ∷ get_or s (at + 1) 0 ∷ xs) (rw (← is) at (part_append (at + 2) size (end - to))))

-- ---- the two bytes of a descriptor, taken apart: a length, an ID, bit 15
pub described : {split low high size id top : ℕ} → Descriptor split low high size id top → 2 ^ split * 2 ^ (15 - split) ≡ 32768
    → (le (low ∷ high ∷ []) % 2 ^ split ≡ size) × (le (low ∷ high ∷ []) / 2 ^ split % 2 ^ (15 - split) ≡ id) × (le (low ∷ high ∷ []) / 32768 ≡ top)
described {split} {low} {high} {size} {id} {top} d whole =
    let p : ℕ = 2 ^ split in
    let q : ℕ = 2 ^ (15 - split) in
    let digits : 32768 * top ≡ top * q * p = rw (← whole, mul_comm p q, mul_comm (q * p) top, mul_assoc top q p) in
    let is : le (low ∷ high ∷ []) ≡ (top * q + id) * p + size = d.parts ∙ omega (arith, digits, add-mul (top * q) id p, mul_comm id p) in
    let above : le (low ∷ high ∷ []) / p ≡ top * q + id = rw is (digits_div (top * q + id) d.length_fits) in
    (rw is (digits_mod (top * q + id) d.length_fits), rw above (digits_mod top d.id_fits), rw (← whole, ← div-div-eq-div-mul, above) (digits_div top d.id_fits))
