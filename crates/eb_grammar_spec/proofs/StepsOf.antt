-- Where an element of the grammar stands, the step of its list leads to it. Assumes nothing.
use Prim.Native.Nat.{ℕ, ◌+◌, ◌-◌, ◌/◌, ◌≤◌}
use mathlib.Core.Path.{◌≡◌, refl}
use mathlib.Core.List.{List, [], ◌∷◌}
use native.Mathlib.Omega.{arith}
use Rattle.octets_spec.specs.Choice.{if_eq}
use Rattle.octets_spec.specs.Number.{le_at}
use Rattle.octets_spec.proofs.ChoiceLaws.{if_ge, if_eq_lem, if_ne_lem}
use Rattle.ie_step_spec.specs.Header.{header_word, header_at}
use Rattle.ie_step_spec.specs.Payload.{group_of, outer_word, outer_at, inner_word, inner_at}
use Rattle.ie_step_spec.specs.declared.HeaderStep.TheVariants as header
use Rattle.ie_step_spec.specs.declared.OuterStep.{OuterStep}
use Rattle.ie_step_spec.specs.declared.OuterStep.TheVariants as outer
use Rattle.ie_step_spec.specs.declared.InnerStep.TheVariants as inner
use Rattle.ie_step_spec.proofs.StepLaws.{header_here, outer_here, inner_here}
use Rattle.eb_grammar_spec.proofs.Stands.{Stands, stands_first}
use Rattle.eb_grammar_spec.specs.Row.{le}
use Rattle.eb_grammar_spec.specs.Grammar.{Descriptor, SubDescriptor, short_id, long_id}
use Rattle.eb_grammar_spec.proofs.Slices.{le_stands, described}

module _ (s : List ℕ) (at end a b : ℕ) (rest : List ℕ) (h : Stands s at (a ∷ b ∷ rest)) where
  abbrev w : ℕ
  w = le (a ∷ b ∷ [])

  read : w ≡ le_at 2 s at
  read = le_stands s at (a ∷ b ∷ []) (stands_first s (a ∷ b ∷ []) rest at h)

  module _ (size : ℕ) (room : at + 2 + size ≤ end) where
    short_step : (id : ℕ) → Descriptor 8 a b size id 0 → inner.Part id (at + 2) (at + 2 + size) ≡ inner_at s at end
    unfolding inner_word
    short_step id d =
        let f = described d refl in
        let high : w / 256 ≡ id = omega (arith, f.1, f.2) in
        inner_here s at end w (omega arith) (omega arith) read _ (if_eq_lem _ _ (w / 32768) 0 f.2 (rw (f.0, high) (if_ge _ _ (end - (at + 2)) size (omega arith) refl)))

    long_step : (id : ℕ) → Descriptor 11 a b size id 1 → inner.Part (128 + id) (at + 2) (at + 2 + size) ≡ inner_at s at end
    unfolding inner_word
    long_step id d =
        let f = described d refl in
        let one = f.2 in
        inner_here s at end w (omega arith) (omega arith) read _ (if_ne_lem _ _ (w / 32768) 0 (λ z. omega (arith, one, z)) (rw (f.0, f.1) (if_ge _ _ (end - (at + 2)) size (omega arith) refl)))

    pub group_step : (group : ℕ) (r : OuterStep) → Descriptor 11 a b size group 1 → (group ≡ 15 → ⊥) → r ≡ group_of s group (at + 2) (at + 2 + size) → r ≡ outer_at s at end
    unfolding outer_word
    group_step group r d not-15 e =
        let f = described d refl in
        let one = f.2 in
        outer_here s at end w (omega arith) (omega arith) read r
        (rw (f.0, f.1) (if_ge _ _ (end - (at + 2)) size (omega arith) (if_ne_lem _ _ (w / 32768) 0 (λ z. omega (arith, one, z)) (if_ne_lem _ _ group 15 not-15 e))))

    pub header_step : (id : ℕ) → Descriptor 7 a b size id 0 → (id ≡ 126 → ⊥) → (id ≡ 127 → ⊥) → header.Element id (at + 2) (at + 2 + size) ≡ header_at s at end
    unfolding header_word
    header_step id d not_126 not_127 =
        let f = described d refl in
        let top = f.2 in
        header_here s at end w (omega arith) (omega arith) read _
        (rw (f.0, f.1) (if_ge _ _ (end - (at + 2)) size (omega arith) (if_ne_lem _ _ (w / 32768) 1 (λ z. omega (arith, top, z)) (if_ne_lem _ _ id 126 not_126 (if_ne_lem _ _ id 127 not_127 refl)))))

  pub sub_step : (size kind : ℕ) → at + 2 + size ≤ end → SubDescriptor a b size kind → inner.Part kind (at + 2) (at + 2 + size) ≡ inner_at s at end
  sub_step size _ room (short_id id d) = short_step size room id d
  sub_step size _ room (long_id id d) = long_step size room id d

  pub payload_end_step : at + 2 ≤ end → Descriptor 11 a b 0 15 1 → outer.End ≡ outer_at s at end
  unfolding outer_word if_eq
  payload_end_step room d =
      outer_here s at end 63488 (omega arith) (omega arith) (omega (arith, d.parts, read)) _ (if_ge _ _ (end - (at + 2)) 0 (omega arith) refl)

  pub payload_step : at + 2 ≤ end → Descriptor 7 a b 0 126 0 → header.Payload (at + 2) ≡ header_at s at end
  unfolding header_word if_eq
  payload_step room d =
      header_here s at end 16128 (omega arith) (omega arith) (omega (arith, d.parts, read)) _ (if_ge _ _ (end - (at + 2)) 0 (omega arith) refl)

  pub header_end_step : at + 2 ≤ end → Descriptor 7 a b 0 127 0 → header.End ≡ header_at s at end
  unfolding header_word if_eq
  header_end_step room d =
      header_here s at end 16256 (omega arith) (omega arith) (omega (arith, d.parts, read)) _ (if_ge _ _ (end - (at + 2)) 0 (omega arith) refl)
