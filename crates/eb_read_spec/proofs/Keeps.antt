-- What every step of the payload list and of its groups keeps, the whole list keeps. Assumes nothing.
use Prim.Native.Nat.{ℕ, zero, suc, ◌+◌, ◌<◌, ◌≤◌}
use native.Mathlib.Omega.{arith}
use mathlib.Core.Path.{◌≡◌, refl}
use mathlib.Core.List.{List}
use Rattle.octets_spec.proofs.ChoiceLaws.{either_eq}
use Rattle.refusal.specs.Refusal.{number_of}
use Rattle.refusal.specs.declared.Refusal.{Refusal}
use Rattle.ie_step_spec.specs.Payload.{outer_at, outer_within, inner_at, inner_within}
use Rattle.ie_step_spec.specs.declared.OuterStep.{OuterStep}
use Rattle.ie_step_spec.specs.declared.OuterStep.TheVariants as outer
use Rattle.ie_step_spec.specs.declared.InnerStep.{InnerStep}
use Rattle.ie_step_spec.specs.declared.InnerStep.TheVariants as inner
use Rattle.ie_walk_spec.specs.Walk.{skip_one, stopped, part_taken, outer_go, group_go}
use Rattle.ie_walk_spec.specs.declared.Walk.{Walk}
use Rattle.eb_read_spec.proofs.Within.{outer_within_lem, inner_within_lem}

-- what is kept of a walk at an offset, and that the steps keep it
pub record Kept (s : List ℕ) (end : ℕ) (K : ℕ → Walk → Type 0) : Type 0 where
  pub moved : (at to : ℕ) (w : Walk) → at ≤ to → K at w → K to w
  pub skips : (at to : ℕ) (w : Walk) → at < to → K at w → K to (skip_one w)
  pub parts : (at kind from to : ℕ) (w : Walk) → at < from → from ≤ to → to ≤ end → K at w → K to (part_taken s w kind from to at)
  pub stops : (at : ℕ) (refusal : Refusal) (w : Walk) → outer_at s at end ≡ outer.Fault refusal → K at w → K at (stopped w (number_of refusal) at)
  pub stops_inside : (at to : ℕ) (refusal : Refusal) (w : Walk) → inner_at s at to ≡ inner.Fault refusal → K at w → K at (stopped w (number_of refusal) at)

module _ (s : List ℕ) (end : ℕ) (K : ℕ → Walk → Type 0) (k : Kept s end K) where
  -- the walk ends at some offset, which is not behind the end if it began before it
  abbrev Ends : ℕ → Walk → Type 0
  Ends at r = (i : ℕ) × (at ≤ end → i ≤ end) × K i r

  abbrev Outers : ℕ → Type 0
  Outers bound = (at : ℕ) (w : Walk) → K at w → Ends at (outer_go bound s at end w)

  abbrev Groups : ℕ → Type 0
  Groups bound = (at to : ℕ) (w : Walk) → at ≤ to → to ≤ end → K at w → Ends at (group_go bound s at to end w)

  module _ (bound : ℕ) (outers : Outers bound) (groups : Groups bound) where
    outer_step : (at : ℕ) (w : Walk) → K at w → (o : OuterStep) → outer_at s at end ≡ o → outer_within o (at + 2) end → Ends at (outer_go (suc bound) s at end w)
    unfolding outer_go
    outer_step at w h outer.End e b = rw (e, outer_go) (at, λ below. below, h)
    outer_step at w h (outer.Group from to) e b = rw (e, outer_go) (let r = groups from to w b.1 b.2 (k.moved at from w (omega (arith, b)) h) in (r.0, λ below. r.1 (omega (arith, b)), r.2))
    outer_step at w h (outer.Joining from to) e b =
        let t = k.parts at 258 from to w (omega (arith, b)) b.1 b.2 h in
        rw (e, outer_go) (either_eq (λ (r : Walk). Ends at r) _ _ (let r = outers to _ t in (r.0, λ below. r.1 b.2, r.2)) (to, λ below. b.2, t) _ _)
    outer_step at w h (outer.Skip to) e b = rw (e, outer_go) (let r = outers to (skip_one w) (k.skips at to w (omega (arith, b)) h) in (r.0, λ below. r.1 b.1, r.2))
    outer_step at w h (outer.Fault refusal) e b = rw (e, outer_go) (at, λ below. below, k.stops at refusal w e h)

    group_step : (at to : ℕ) (w : Walk) → at ≤ to → to ≤ end → K at w → (o : InnerStep) → inner_at s at to ≡ o → inner_within o at to → Ends at (group_go (suc bound) s at to end w)
    unfolding group_go
    group_step at to w low high h inner.Back e b = rw (e, group_go) (let r = outers to w (k.moved at to w low h) in (r.0, λ below. r.1 high, r.2))
    group_step at to w low high h (inner.Part kind from next) e b =
        let t = k.parts at kind from next w b.0 b.1 (omega (arith, b, high)) h in
        rw (e, group_go) (either_eq (λ (r : Walk). Ends at r) _ _ (let r = groups next to _ b.2 high t in (r.0, λ below. r.1 (omega (arith, b, high)), r.2)) (next, λ below. omega (arith, b, high), t) _ _)
    group_step at to w low high h (inner.Fault refusal) e b = rw (e, group_go) (at, λ below. below, k.stops_inside at to refusal w e h)

  lists_keep : (bound : ℕ) → Outers bound × Groups bound
  unfolding outer_go group_go
  lists_keep zero = (λ at w h. (at, λ below. below, h), λ at to w low high h. (at, λ below. below, h))
  lists_keep (suc bound) =
      let outers : Outers bound = (lists_keep bound).0 in
      let groups : Groups bound = (lists_keep bound).1 in
      (λ at w h. outer_step bound outers groups at w h (outer_at s at end) refl (outer_within_lem s at end), λ at to w low high h. group_step bound outers groups at to w low high h (inner_at s at to) refl (inner_within_lem s at to))

  pub list_keeps : (bound at : ℕ) (w : Walk) → K at w → (i : ℕ) × (at ≤ end → i ≤ end) × K i (outer_go bound s at end w)
  list_keeps bound at w h = (lists_keep bound).0 at w h
