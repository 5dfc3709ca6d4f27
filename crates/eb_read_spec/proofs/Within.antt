-- Where a step of a list of elements leads lies behind its descriptor and before the end. Assumes nothing.
use Prim.Native.Nat.{ℕ, ◌+◌, ◌≤◌}
use mathlib.Core.Path.{◌≡◌, refl}
use mathlib.Core.List.{List}
use native.Mathlib.Omega.{arith}
use Rattle.octets_spec.proofs.ChoiceLaws.{either_eq}
use Rattle.ie_step_spec.specs.Header.{header_at, header_within, header_word}
use Rattle.ie_step_spec.specs.Payload.{group_of, outer_word, outer_at, outer_within, inner_word, inner_at, inner_within}
use Rattle.ie_step_spec.specs.declared.HeaderStep.{HeaderStep}
use Rattle.ie_step_spec.specs.declared.OuterStep.{OuterStep}
use Rattle.ie_step_spec.specs.declared.InnerStep.{InnerStep}
use Rattle.eb_read_spec.proofs.Each.{each_lt, each_eq}

group_within : (s : List ℕ) (group from to end : ℕ) → from ≤ to → to ≤ end → outer_within (group_of s group from to) from end
unfolding group_of
group_within s group from to end h k =
    let P : OuterStep → Type 0 = λ o. outer_within o from end in
    either_eq P _ _ (refl, h, k)
    (either_eq P _ _ (each_eq P _ _ _ _ (λ none. tt) (λ (some : from ≡ to → ⊥). either_eq P _ _ (refl, omega arith, k) (h, k) _ _)) (h, k) _ _) _ _

pub outer_within_lem : (s : List ℕ) (at end : ℕ) → outer_within (outer_at s at end) (at + 2) end
unfolding outer_at outer_word
outer_within_lem s at end =
    let P : OuterStep → Type 0 = λ o. outer_within o (at + 2) end in
    each_lt P _ _ _ _
    (λ more. each_lt P _ _ _ _ (λ one. tt)
    (λ two. each_lt P _ _ _ _ (λ over. tt)
    (λ fits. either_eq P _ _ tt
    (either_eq P _ _ (either_eq P _ _ tt tt _ _) (group_within s _ _ _ end (omega arith) (omega (arith, two, fits))) _ _) _ _)))
    (λ none. tt)

pub inner_within_lem : (s : List ℕ) (at end : ℕ) → inner_within (inner_at s at end) at end
unfolding inner_at inner_word
inner_within_lem s at end =
    let P : InnerStep → Type 0 = λ o. inner_within o at end in
    each_lt P _ _ _ _
    (λ more. each_lt P _ _ _ _ (λ one. tt)
    (λ two. either_eq P _ _
    (each_lt P _ _ _ _ (λ over. tt) (λ fits. (omega arith, omega arith, omega (arith, two, fits))))
    (each_lt P _ _ _ _ (λ over. tt) (λ fits. (omega arith, omega arith, omega (arith, two, fits)))) _ _))
    (λ none. tt)

pub header_within_lem : (s : List ℕ) (at end : ℕ) → header_within (header_at s at end) at end
unfolding header_at header_word
header_within_lem s at end =
    let P : HeaderStep → Type 0 = λ o. header_within o at end in
    each_lt P _ _ _ _
    (λ more. each_lt P _ _ _ _ (λ one. tt)
    (λ two. each_lt P _ _ _ _ (λ over. tt)
    (λ fits. either_eq P _ _ tt
    (either_eq P _ _ (either_eq P _ _ (omega arith, omega (arith, two)) tt _ _) (either_eq P _ _ (either_eq P _ _ tt tt _ _) (omega arith, omega arith, omega (arith, two, fits)) _ _) _ _) _ _)))
    (λ none. tt)
