-- The laws of the network ID, in the shape in which the code meets them. Assumes nothing.
use Prim.Native.Nat.{ℕ, ◌+◌, ◌-◌, ◌*◌, ◌/◌, ◌%◌, ◌<◌, ◌≤◌}
use mathlib.Core.Path.{◌≡◌, refl, sym, ap, ◌∙◌}
use mathlib.Core.List.{List}
use native.Mathlib.Omega.{arith}
use lib.ListN.{length, take, drop}
use Rattle.octets_spec.specs.Number.{be_at}
use Rattle.octets_spec.proofs.ChoiceLaws.{if_lt_lem, if_ge, if_eq_lem, if_ne_lem, choices}
use Rattle.eb_read_spec.specs.Decode.{network_offset}
use Rattle.ie_walk_spec.specs.Walk.{blank_walk}
use Rattle.ie_walk_spec.specs.declared.Walk.{Walk}
use Rattle.eb_read_spec.specs.Read.{examined, accepted_walk}
use Rattle.eb_read_spec.specs.Inside.{JoiningInside}
use Rattle.eb_read_spec.specs.Network.{no_span, span_from, network_span, network_part, NetworkLiesInside}
use Rattle.eb_read_spec.specs.declared.Span.{Span}
use Rattle.eb_read_spec.proofs.DecodeLaws.{network_from}
use Rattle.eb_read_spec.proofs.Each.{each_lt, each_eq}
use Rattle.eb_read_spec.proofs.InsideLaws.{inside_facts}
use Rattle.eb_read_spec.proofs.Accepted.{accepted_lies_inside}

-- ---- a span lies inside the frame
span_inside : (s : List ℕ) (from to : ℕ) → to ≤ length s → (span_from from to).offset + (span_from from to).length ≤ length s
unfolding span_from
span_inside s from to h = each_lt (λ (r : Span). r.offset + r.length ≤ length s) _ _ _ _ (λ some. omega arith) (λ none. omega arith)

pub network_lies_inside : NetworkLiesInside
unfolding network_span
network_lies_inside s =
    let P : Span → Type 0 = λ r. r.offset + r.length ≤ length s in
    each_eq P _ _ _ _ (λ good. each_eq P _ _ _ _ (λ none. omega arith) (λ some. span_inside s _ _ ((inside_facts s _ (accepted_lies_inside s good)).joining some).inside)) (λ bad. omega arith)

-- ---- the span, as the code finds it
pub offset_is : (s : List ℕ) (at word : ℕ) → word ≡ be_at 4 s at → 4 + 8 * (word / 1073741824 % 2) ≡ network_offset s at
offset_is = network_from

pub span_some : (from to : ℕ) → from < to → record { offset = from; length = to - from } ≡ span_from from to
unfolding span_from
span_some from to h = if_lt_lem _ _ _ _ h refl

pub span_none : (from to : ℕ) → to ≤ from → no_span ≡ span_from from to
unfolding span_from
span_none from to h = if_ge _ _ _ _ h refl

module _ (s : List ℕ) (w : Walk) (e : w ≡ accepted_walk s) where
  of_accepted : (examined s).number ≡ 0 → w ≡ (examined s).walk
  unfolding accepted_walk
  of_accepted good = e ∙ sym (if_eq_lem _ _ _ _ good refl)

  pub network_absent : w.joining ≡ 0 → no_span ≡ network_span s
  unfolding network_span
  network_absent none = each_eq (λ (r : Span). no_span ≡ r) _ _ _ _ (λ good. if_eq_lem _ _ _ _ (rw (of_accepted good) at none) refl) (λ bad. refl)

  -- a frame that is refused has none
  pub network_refused : w ≡ blank_walk → no_span ≡ network_span s
  unfolding blank_walk
  network_refused blank = network_absent (rw blank)

  module _ (some : w.joining ≡ 0 → ⊥) where
    accepted : (examined s).number ≡ 0
    unfolding accepted_walk blank_walk
    accepted = each_eq (λ (x : Walk). (x.joining ≡ 0 → ⊥) → (examined s).number ≡ 0) _ _ _ _ (λ good there. good) (λ bad there. absurd (there refl)) (rw e at some)

    pub network_there : (skip : ℕ) (r : Span) → skip ≡ network_offset s w.joining → r ≡ span_from (w.joining + skip) w.joiningend → r ≡ network_span s
    unfolding network_span
    network_there skip r k f = rw (← of_accepted accepted) (if_eq_lem _ _ _ _ accepted (if_ne_lem _ _ _ _ some (rw k at f)))

    pub joining_low : w.joining ≤ length s
    joining_low =
        let inside : JoiningInside s w.joining w.joiningend = (inside_facts s w (rw (of_accepted accepted) (accepted_lies_inside s accepted))).joining some in
        omega (arith, inside.least, inside.inside)

-- ---- the part
module _ (s : List ℕ) (r : Span) (e : r ≡ network_span s) where
  pub span_ends : r.offset + r.length ≤ length s
  span_ends = rw e (network_lies_inside s)

  pub part_is : take (r.offset + r.length - r.offset) (drop r.offset s) ≡ network_part s
  unfolding network_part
  part_is = let size : r.offset + r.length - r.offset ≡ r.length = omega arith in rw (size, e)

  -- its place, as a reference has it: a block and an offset
  pub place_is : (ptr : ℕ × ℕ) → ◌≡◌ {A = ℕ × ℕ} (ptr.0, r.offset + ptr.1) (ptr.0, (network_span s).offset + ptr.1)
  place_is ptr = ap (λ (z : Span). (ptr.0, z.offset + ptr.1)) e

pub ruleset networks = (choices, offset_is, span_some, span_none, network_absent, network_there, part_is, place_is)
