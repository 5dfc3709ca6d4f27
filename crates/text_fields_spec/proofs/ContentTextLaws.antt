-- The laws of a content's text, in the shape in which the code meets them: one for each kind. Assumes nothing.
use Prim.Native.Nat.{ℕ, ◌*◌, ◌≤◌, min}
use mathlib.Core.Path.{◌≡◌, refl, sym, ◌∙◌}
use mathlib.Core.List.{List}
use native.Mathlib.Omega.{arith}
use lib.Dec.{lit≤}
use lib.ListN.{length, take, length-take}
use lib.Seq.{take_all}
use Rattle.octets_spec.specs.Choice.{if_eq}
use Rattle.octets_spec.proofs.ChoiceLaws.{if_ne_lem, by_lt}
use Rattle.text_put_spec.specs.Text.{decimal, hexadecimal, hex_octets}
use Rattle.text_put_spec.specs.Part.{absent_name, PartPut}
use Rattle.text_put_spec.proofs.PartLaws.{row, wider}
use Rattle.eb_fields_spec.specs.declared.Content.{Content}
use Rattle.text_fields_spec.specs.ContentText.{short_name, extended_name, colon, octets_text, content_text}

-- ---- octets behind their number; the code shows at most sixteen, which are all there are
module _ (octets : List ℕ) (size shown : ℕ) (sixteen : length octets ≡ 16) (shown_is : shown ≡ min size 16) where
  pub shown_length : shown ≡ length (take shown octets)
  shown_length = omega (arith, length-take shown octets, sixteen, shown_is)

  few : length (take shown octets) ≤ 16
  few = omega (arith, length-take shown octets, sixteen)

  all : take shown octets ≡ take size octets
  all =
      by_lt size 16
      (λ less. let same : shown ≡ size = omega (arith, shown_is, less) in rw same)
      (λ more. let same : shown ≡ 16 = omega (arith, shown_is, more) in rw same (take_all 16 octets (omega (arith, sixteen)) ∙ sym (take_all size octets (omega (arith, sixteen, more)))))

  pub octets_put : (s t u v : List ℕ) (at a b c : ℕ) → PartPut 20 s at (decimal size) t a → PartPut 1 t a colon u b → PartPut (2 * length (take shown octets)) u b (hex_octets (take shown octets)) v c → PartPut 53 s at (octets_text size octets) v c
  unfolding octets_text
  octets_put s t u v at a b c first second third =
      let last : PartPut 32 u b (hex_octets (take size octets)) v c = rw all at (wider _ 32 b c u v _ (omega (arith, few)) third) in
      row 20 33 at a c s t v _ _ first (row 1 32 a b c t u v _ _ second last)

-- ---- one law for each kind
module _ (c : Content) (s : List ℕ) (at : ℕ) where
  module _ (t : List ℕ) (r : ℕ) where
    pub absent_put : c.kind ≡ 0 → PartPut 6 s at absent_name t r → PartPut 53 s at (content_text c) t r
    unfolding content_text if_eq
    absent_put e put = rw e (wider 6 53 at r s t _ (lit≤ tt) put)

    pub number_put : c.kind ≡ 1 → PartPut 20 s at (decimal c.number) t r → PartPut 53 s at (content_text c) t r
    unfolding content_text if_eq
    number_put e put = rw e (wider 20 53 at r s t _ (lit≤ tt) put)

    pub kind_octets : (c.kind ≡ 0 → ⊥) → (c.kind ≡ 1 → ⊥) → (c.kind ≡ 2 → ⊥) → (c.kind ≡ 3 → ⊥) → PartPut 53 s at (octets_text c.length c.octets) t r → PartPut 53 s at (content_text c) t r
    unfolding content_text
    kind_octets not_0 not_1 not_2 not_3 put =
        let is : octets_text c.length c.octets ≡ content_text c = if_ne_lem _ _ _ 0 not_0 (if_ne_lem _ _ _ 1 not_1 (if_ne_lem _ _ _ 2 not_2 (if_ne_lem _ _ _ 3 not_3 refl))) in
        rw (← is) put

  module _ (t u : List ℕ) (a b : ℕ) where
    pub short_put : c.kind ≡ 2 → PartPut 6 s at short_name t a → PartPut 16 t a (hexadecimal 4 c.number) u b → PartPut 53 s at (content_text c) u b
    unfolding content_text if_eq
    short_put e first second = rw e (wider 22 53 at b s u _ (lit≤ tt) (row 6 16 at a b s t u _ _ first second))

    pub extended_put : c.kind ≡ 3 → PartPut 9 s at extended_name t a → PartPut 16 t a (hexadecimal 16 c.number) u b → PartPut 53 s at (content_text c) u b
    unfolding content_text if_eq
    extended_put e first second = rw e (wider 25 53 at b s u _ (lit≤ tt) (row 9 16 at a b s t u _ _ first second))

pub ruleset contentTexts = (shown_length, octets_put, absent_put, number_put, kind_octets, short_put, extended_put)
