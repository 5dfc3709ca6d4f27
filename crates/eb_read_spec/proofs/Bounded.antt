-- Every bound of the lists that is large enough gives the same. Assumes nothing.
use Prim.Native.Nat.{ℕ, zero, suc, ◌+◌, ◌-◌, ◌*◌, ◌<◌, ◌≤◌}
use native.Mathlib.Omega.{arith}
use mathlib.Core.Path.{◌≡◌, refl, ap}
use mathlib.Core.List.{List}
use Rattle.octets_spec.specs.Choice.{if_eq}
use Rattle.ie_step_spec.specs.Header.{header_at, header_within}
use Rattle.ie_step_spec.specs.Payload.{inner_at, inner_within, outer_at, outer_within}
use Rattle.ie_step_spec.specs.declared.HeaderStep.{HeaderStep}
use Rattle.ie_step_spec.specs.declared.HeaderStep.TheVariants as header
use Rattle.ie_step_spec.specs.declared.InnerStep.{InnerStep}
use Rattle.ie_step_spec.specs.declared.InnerStep.TheVariants as inner
use Rattle.ie_step_spec.specs.declared.OuterStep.{OuterStep}
use Rattle.ie_step_spec.specs.declared.OuterStep.TheVariants as outer
use Rattle.ie_walk_spec.specs.Walk.{in_front, group_go, header_go, outer_go, part_taken, skip_one}
use Rattle.ie_walk_spec.specs.declared.Walk.{Walk}
use Rattle.eb_read_spec.specs.Claims.{BoundsDoNotMatter}
use Rattle.eb_read_spec.proofs.Within.{header_within_lem, inner_within_lem, outer_within_lem}

-- ---- the header list
-- what the rest of the header list gives at two bounds
abbrev HeaderSame : ℕ → Type 0
HeaderSame one = (other : ℕ) (s : List ℕ) (at end : ℕ) → end - at < one → end - at < other → header_go one s at end ≡ header_go other s at end

header_step : (one other : ℕ) → HeaderSame one → (s : List ℕ) (at end : ℕ) → end - at < suc one → end - at < suc other → (o : HeaderStep) → header_at s at end ≡ o → header_within o at end → header_go (suc one) s at end ≡ header_go (suc other) s at end
unfolding header_go
header_step one other rest s at end h k header.End e w = rw (header_go, e)
header_step one other rest s at end h k (header.Payload from) e w = rw (header_go, e)
header_step one other rest s at end h k (header.Element id from to) e w = rw (header_go, e) (ap (in_front _) (rest other s to end (omega (arith, w)) (omega (arith, w))))
header_step one other rest s at end h k (header.Fault refusal) e w = rw (header_go, e)

header_same : (one : ℕ) → HeaderSame one
header_same zero other s at end h k = absurd (omega arith)
header_same (suc one) zero s at end h k = absurd (omega arith)
header_same (suc one) (suc other) s at end h k = header_step one other (header_same one) s at end h k (header_at s at end) refl (header_within_lem s at end)

-- ---- the payload list and its groups
abbrev OuterSame : ℕ → Type 0
OuterSame one = (other : ℕ) (s : List ℕ) (at end : ℕ) (walk : Walk) → 2 * (end - at) < one → 2 * (end - at) < other → outer_go one s at end walk ≡ outer_go other s at end walk

abbrev GroupSame : ℕ → Type 0
GroupSame one =
    (other : ℕ) (s : List ℕ) (at to end : ℕ) (walk : Walk) → at ≤ to → to ≤ end → 2 * (end - at) + 1 < one → 2 * (end - at) + 1 < other → group_go one s at to end walk ≡ group_go other s at to end walk

module _ (one other : ℕ) (outers : OuterSame one) (groups : GroupSame one) (s : List ℕ) (at : ℕ) where
  -- an element was taken, and the list goes on if it has no fault
  goes_on : (t x y : Walk) → x ≡ y → if_eq t.fault 0 x t ≡ if_eq t.fault 0 y t
  goes_on t x y e = ap (λ (z : Walk). if_eq t.fault 0 z t) e

  outer_step : (end : ℕ) (walk : Walk) → 2 * (end - at) < suc one → 2 * (end - at) < suc other → (o : OuterStep) → outer_at s at end ≡ o → outer_within o (at + 2) end → outer_go (suc one) s at end walk ≡ outer_go (suc other) s at end walk
  unfolding outer_go
  outer_step end walk h k outer.End e w = rw (outer_go, e)
  outer_step end walk h k (outer.Group from to) e w = rw (outer_go, e) (groups other s from to end walk w.1 w.2 (omega (arith, w)) (omega (arith, w)))
  outer_step end walk h k (outer.Joining from to) e w =
      rw (outer_go, e) (goes_on (part_taken s walk 258 from to at) _ _ (outers other s to end (part_taken s walk 258 from to at) (omega (arith, w)) (omega (arith, w))))
  outer_step end walk h k (outer.Skip to) e w = rw (outer_go, e) (outers other s to end (skip_one walk) (omega (arith, w)) (omega (arith, w)))
  outer_step end walk h k (outer.Fault refusal) e w = rw (outer_go, e)

  group_step : (to end : ℕ) (walk : Walk) → at ≤ to → to ≤ end → 2 * (end - at) + 1 < suc one → 2 * (end - at) + 1 < suc other → (o : InnerStep) → inner_at s at to ≡ o → inner_within o at to → group_go (suc one) s at to end walk ≡ group_go (suc other) s at to end walk
  unfolding group_go
  group_step to end walk a b h k inner.Back e w = rw (group_go, e) (outers other s to end walk (omega arith) (omega arith))
  group_step to end walk a b h k (inner.Part kind from next) e w =
      rw (group_go, e) (goes_on (part_taken s walk kind from next at) _ _ (groups other s next to end (part_taken s walk kind from next at) w.2 b (omega (arith, w)) (omega (arith, w))))
  group_step to end walk a b h k (inner.Fault refusal) e w = rw (group_go, e)

both_same : (one : ℕ) → OuterSame one × GroupSame one
both_same zero = (λ other s at end walk h k. absurd (omega arith), λ other s at to end walk a b h k. absurd (omega arith))
both_same (suc one) = (
  λ other s at end walk h k. outer_other one (both_same one) other s at end walk h k,
  λ other s at to end walk a b h k. group_other one (both_same one) other s at to end walk a b h k,
)
  where
    outer_other : (one : ℕ) → OuterSame one × GroupSame one → OuterSame (suc one)
    outer_other one rest zero s at end walk h k = absurd (omega arith)
    outer_other one rest (suc other) s at end walk h k = outer_step one other rest.0 rest.1 s at end walk h k (outer_at s at end) refl (outer_within_lem s at end)

    group_other : (one : ℕ) → OuterSame one × GroupSame one → GroupSame (suc one)
    group_other one rest zero s at to end walk a b h k = absurd (omega arith)
    group_other one rest (suc other) s at to end walk a b h k = group_step one other rest.0 rest.1 s at to end walk a b h k (inner_at s at to) refl (inner_within_lem s at to)

pub bounds_do_not_matter : BoundsDoNotMatter
bounds_do_not_matter s at end one other = (λ h k. header_same one other s at end h k, λ walk h k. (both_same one).0 other s at end walk h k)
