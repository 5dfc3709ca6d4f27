-- What each step of the three lists says of the bytes where it was taken, in the words of the grammar. Assumes nothing.
use Prim.Native.Nat.{ℕ, ◌+◌, ◌-◌, ◌/◌, ◌%◌, ◌<◌, ◌≤◌}
use mathlib.Core.Path.{◌≡◌, refl, ◌∙◌}
use mathlib.Core.List.{List, [], ◌∷◌}
use mathlib.Core.Logic.{◌⊎◌, inl, inr}
use native.Mathlib.Omega.{arith}
use lib.ListN.{get_or}
use Rattle.octets_spec.specs.Number.{le_at}
use Rattle.refusal.specs.Refusal.{cut, shape, number_of}
use Rattle.ie_step_spec.specs.Header.{header_word, header_at}
use Rattle.ie_step_spec.specs.Payload.{group_of, outer_word, outer_at, inner_word, inner_at}
use Rattle.ie_step_spec.specs.declared.HeaderStep.{HeaderStep}
use Rattle.ie_step_spec.specs.declared.HeaderStep.TheVariants as header
use Rattle.ie_step_spec.specs.declared.OuterStep.{OuterStep}
use Rattle.ie_step_spec.specs.declared.OuterStep.TheVariants as outer
use Rattle.ie_step_spec.specs.declared.InnerStep.{InnerStep}
use Rattle.ie_step_spec.specs.declared.InnerStep.TheVariants as inner
use Rattle.eb_read_spec.specs.Claims.{Bytes}
use Rattle.eb_read_spec.proofs.Each.{each_lt, each_eq}
use Rattle.eb_read_spec.proofs.Bounds.{le_below}
use Rattle.eb_grammar_spec.specs.Row.{le}
use Rattle.eb_grammar_spec.specs.Grammar.{Descriptor, SubDescriptor, short_id, long_id}

-- an element that is there: its descriptor, and where its content lies
pub record Lies (s : List ℕ) (at end from to : ℕ) (Says : ℕ → ℕ → ℕ → Type 0) : Type 0 where
  pub size : ℕ
  pub starts : from ≡ at + 2
  pub ends : to ≡ at + 2 + size
  pub fits : to ≤ end
  pub says : Says (get_or s at 0) (get_or s (at + 1) 0) size

abbrev pub InnerSays : InnerStep → List ℕ → ℕ → ℕ → Type 0
InnerSays inner.Back s at end = end ≤ at
InnerSays (inner.Part kind from next) s at end = Lies s at end from next (λ a b size. SubDescriptor a b size kind)
InnerSays (inner.Fault refusal) s at end = number_of refusal ≡ 0 → ⊥

-- an IETF element: its subtype stands before its content
abbrev pub Ietf : List ℕ → ℕ → ℕ → ℕ → ℕ → Type 0
Ietf s at a b size = ((size ≡ 0) → ⊥) × Descriptor 11 a b size 5 1

abbrev pub Skipped : List ℕ → ℕ → ℕ → ℕ → ℕ → Type 0
Skipped s at a b size =
    (Ietf s at a b size × (get_or s (at + 2) 0 ≡ 2 → ⊥)) ⊎ ((group : ℕ) × Descriptor 11 a b size group 1 × (group ≡ 1 → ⊥) × (group ≡ 5 → ⊥) × (group ≡ 15 → ⊥))

abbrev pub OuterSays : OuterStep → List ℕ → ℕ → ℕ → Type 0
OuterSays outer.End s at end = (end ≤ at) ⊎ ((at + 2 ≤ end) × Descriptor 11 (get_or s at 0) (get_or s (at + 1) 0) 0 15 1)
OuterSays (outer.Group from to) s at end = Lies s at end from to (λ a b size. Descriptor 11 a b size 1 1)
OuterSays (outer.Joining from to) s at end = (from ≡ at + 2 + 1) × Lies s at end (at + 2) to (λ a b size. Ietf s at a b size) × (get_or s (at + 2) 0 ≡ 2)
OuterSays (outer.Skip to) s at end = Lies s at end (at + 2) to (λ a b size. Skipped s at a b size)
OuterSays (outer.Fault refusal) s at end = number_of refusal ≡ 0 → ⊥

abbrev pub HeaderSays : HeaderStep → List ℕ → ℕ → ℕ → Type 0
HeaderSays header.End s at end = (end ≤ at) ⊎ ((at + 2 ≤ end) × Descriptor 7 (get_or s at 0) (get_or s (at + 1) 0) 0 127 0)
HeaderSays (header.Payload from) s at end = (from ≡ at + 2) × (from ≤ end) × Descriptor 7 (get_or s at 0) (get_or s (at + 1) 0) 0 126 0
HeaderSays (header.Element id from to) s at end = Lies s at end from to (λ a b size. Descriptor 7 a b size id 0 × (id ≡ 126 → ⊥) × (id ≡ 127 → ⊥))
HeaderSays (header.Fault refusal) s at end = number_of refusal ≡ 0 → ⊥

was_cut : cut ≡ 0 → ⊥
was_cut e = omega arith

was_shape : shape ≡ 0 → ⊥
was_shape e = omega arith

module _ (s : List ℕ) (at : ℕ) (bytes : Bytes s) where
  abbrev w : ℕ
  w = le_at 2 s at

  word_is : le (get_or s at 0 ∷ get_or s (at + 1) 0 ∷ []) ≡ w
  unfolding le le_at
  word_is = refl

  small : w < 65536
  small = le_below s bytes 2 at

  -- the parts of the word, by where its length ends
  long_word : (w / 32768 ≡ 0 → ⊥) → Descriptor 11 (get_or s at 0) (get_or s (at + 1) 0) (w % 2048) (w / 2048 % 16) 1
  long_word n = record { parts = word_is ∙ omega (arith, small); length_fits = omega arith; id_fits = omega arith }

  short_word : w / 32768 ≡ 0 → Descriptor 8 (get_or s at 0) (get_or s (at + 1) 0) (w % 256) (w / 256) 0
  short_word e = record { parts = word_is ∙ omega (arith, small); length_fits = omega arith; id_fits = omega arith }

  header_word_lem : (w / 32768 ≡ 1 → ⊥) → Descriptor 7 (get_or s at 0) (get_or s (at + 1) 0) (w % 128) (w / 128 % 256) 0
  header_word_lem n = record { parts = word_is ∙ omega (arith, small); length_fits = omega arith; id_fits = omega arith }

  module _ (end : ℕ) where
    pub inner_says : InnerSays (inner_at s at end) s at end
    unfolding inner_at inner_word
    inner_says =
        let P : InnerStep → Type 0 = λ o. InnerSays o s at end in
        each_lt P _ _ _ _
        (λ more. each_lt P _ _ _ _ (λ one. was_cut)
        (λ two. each_eq P _ _ _ _
        (λ zero. each_lt P _ _ _ _ (λ over. was_cut) (λ fits. record { size = w % 256; starts = refl; ends = refl; fits = omega (arith, two, fits); says = short_id (w / 256) (short_word zero) }))
        (λ one. each_lt P _ _ _ _ (λ over. was_cut) (λ fits. record { size = w % 2048; starts = refl; ends = refl; fits = omega (arith, two, fits); says = long_id (w / 2048 % 16) (long_word one) }))))
        (λ none. none)

    group_says : (group : ℕ) → 2 ≤ end - at → w % 2048 ≤ end - (at + 2) → (group ≡ 15 → ⊥) → Descriptor 11 (get_or s at 0) (get_or s (at + 1) 0) (w % 2048) group 1 → OuterSays (group_of s group (at + 2) (at + 2 + w % 2048)) s at end
    unfolding group_of
    group_says group two fits last d =
        let P : OuterStep → Type 0 = λ o. OuterSays o s at end in
        let room : at + 2 + w % 2048 ≤ end = omega (arith, two, fits) in
        each_eq P _ _ _ _ (λ e. record { size = w % 2048; starts = refl; ends = refl; fits = room; says = rw e at d })
        (λ not_1. each_eq P _ _ _ _
        (λ e. each_eq P _ _ _ _ (λ empty. was_shape)
        (λ some.
        let there : Ietf s at (get_or s at 0) (get_or s (at + 1) 0) (w % 2048) = (λ z. some (omega (arith, z)), rw e at d) in
        each_eq P _ _ _ _ (λ two. (refl, record { size = w % 2048; starts = refl; ends = refl; fits = room; says = there }, two))
        (λ not_2. record { size = w % 2048; starts = refl; ends = refl; fits = room; says = inl (there, not_2) })))
        (λ not_5. record { size = w % 2048; starts = refl; ends = refl; fits = room; says = inr (group, d, not_1, not_5, last) }))

    pub outer_says : OuterSays (outer_at s at end) s at end
    unfolding outer_at outer_word
    outer_says =
        let P : OuterStep → Type 0 = λ o. OuterSays o s at end in
        each_lt P _ _ _ _
        (λ more. each_lt P _ _ _ _ (λ one. was_cut)
        (λ two. each_lt P _ _ _ _ (λ over. was_cut)
        (λ fits. each_eq P _ _ _ _ (λ zero. was_shape)
        (λ one. each_eq P _ _ _ _
        (λ last. each_eq P _ _ _ _ (λ none. inr (omega (arith, two), rw (none, last) at (long_word one))) (λ some. was_shape))
        (λ not-15. group_says (w / 2048 % 16) two fits not-15 (long_word one))))))
        (λ none. inl none)

    pub header_says : HeaderSays (header_at s at end) s at end
    unfolding header_at header_word
    header_says =
        let P : HeaderStep → Type 0 = λ o. HeaderSays o s at end in
        each_lt P _ _ _ _
        (λ more. each_lt P _ _ _ _ (λ one. was_cut)
        (λ two. each_lt P _ _ _ _ (λ over. was_cut)
        (λ fits. each_eq P _ _ _ _ (λ one. was_shape)
        (λ zero. each_eq P _ _ _ _
        (λ last. each_eq P _ _ _ _ (λ none. (refl, omega (arith, two), rw (none, last) at (header_word_lem zero))) (λ some. was_shape))
        (λ not_126. each_eq P _ _ _ _
        (λ last. each_eq P _ _ _ _ (λ none. inr (omega (arith, two), rw (none, last) at (header_word_lem zero))) (λ some. was_shape))
        (λ not_127. record { size = w % 128; starts = refl; ends = refl; fits = omega (arith, two, fits); says = (header_word_lem zero, not_126, not_127) }))))))
        (λ none. inl none)
