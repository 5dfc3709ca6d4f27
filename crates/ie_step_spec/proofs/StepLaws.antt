-- The laws of the steps: of each list the same two, at its end, and with the descriptor that was read as a variable. Assumes nothing.
use Prim.Native.Nat.{ℕ, ◌+◌, ◌-◌, ◌<◌, ◌≤◌}
use native.Mathlib.Omega.{arith}
use mathlib.Core.Path.{◌≡◌, refl}
use mathlib.Core.List.{List}
use Rattle.octets_spec.specs.Choice.{if_lt}
use Rattle.octets_spec.specs.Number.{le_at}
use Rattle.octets_spec.proofs.ChoiceLaws.{if_lt_lem, if_ge, by_lt}
use Rattle.ie_step_spec.specs.Header.{header_word, header_at}
use Rattle.ie_step_spec.specs.Payload.{outer_word, outer_at, outer_within, inner_word, inner_at}
use Rattle.ie_step_spec.specs.declared.HeaderStep.{HeaderStep}
use Rattle.ie_step_spec.specs.declared.HeaderStep.TheVariants as header
use Rattle.ie_step_spec.specs.declared.OuterStep.{OuterStep}
use Rattle.ie_step_spec.specs.declared.OuterStep.TheVariants as outer
use Rattle.ie_step_spec.specs.declared.InnerStep.{InnerStep}
use Rattle.ie_step_spec.specs.declared.InnerStep.TheVariants as inner

-- a step of any list: at the end, and at a descriptor
module _ {A : Type 0} (at end : ℕ) (stop cut there : A) where
  at_end : end ≤ at → stop ≡ if_lt at end (if_lt (end - at) 2 cut there) stop
  at_end h = if_ge _ _ at end h refl

  two_left : (r : A) → at < end → 2 ≤ end - at → r ≡ there → r ≡ if_lt at end (if_lt (end - at) 2 cut there) stop
  two_left r h k e = if_lt_lem _ _ at end h (if_ge _ _ (end - at) 2 k e)

  -- what is known of it in each of three cases gives what it is, and what holds of it
  pub step_is : (P : A → Type 0) (r : A) → P stop → P cut → (end ≤ at → r ≡ stop) → (at < end → end - at < 2 → r ≡ cut) → (at + 2 ≤ end → (r ≡ there) × P r) → (r ≡ if_lt at end (if_lt (end - at) 2 cut there) stop) × P r
  step_is P r of_stop of_cut ends one_left read =
      by_lt at end
      (λ some. by_lt (end - at) 2
      (λ one. (if_lt_lem _ _ at end some (if_lt_lem _ _ (end - at) 2 one (one_left some one)), rw (one_left some one) of_cut))
      (λ two. let said = read (omega arith) in (two_left r some two said.0, said.1)))
      (λ none. (if_ge _ _ at end none (ends none), rw (ends none) of_stop))

module _ (s : List ℕ) (at end : ℕ) where
  pub header_end : end ≤ at → header.End ≡ header_at s at end
  unfolding header_at
  header_end = at_end at end header.End _ _

  pub outer_end : end ≤ at → outer.End ≡ outer_at s at end
  unfolding outer_at
  outer_end = at_end at end outer.End _ _

  pub inner_end : end ≤ at → inner.Back ≡ inner_at s at end
  unfolding inner_at
  inner_end = at_end at end inner.Back _ _

  module _ (word : ℕ) (some : at < end) (two : 2 ≤ end - at) (read : word ≡ le_at 2 s at) where
    pub header_here : (r : HeaderStep) → r ≡ header_word at end word → r ≡ header_at s at end
    unfolding header_at
    header_here r e = two_left at end _ _ _ r some two (rw read at e)

    pub outer_here : (r : OuterStep) → r ≡ outer_word s at end word → r ≡ outer_at s at end
    unfolding outer_at
    outer_here r e = two_left at end _ _ _ r some two (rw read at e)

    pub inner_here : (r : InnerStep) → r ≡ inner_word at end word → r ≡ inner_at s at end
    unfolding inner_at
    inner_here r e = two_left at end _ _ _ r some two (rw read at e)

-- what lies within an element lies within its list
pub widen : (r : OuterStep) (from size end : ℕ) → from ≤ end → size ≤ end - from → outer_within r from (from + size) → outer_within r from end
widen outer.End from size end fits buffer within = tt
widen (outer.Group b e) from size end fits buffer within = (within.0, within.1, omega arith)
widen (outer.Joining b e) from size end fits buffer within = (within.0, within.1, omega arith)
widen (outer.Skip e) from size end fits buffer within = (within.0, omega arith)
widen (outer.Fault refusal) from size end fits buffer within = tt
