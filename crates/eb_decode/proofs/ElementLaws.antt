-- The laws of the elements: the arrays that loops fill, and each element from its fields. Assumes nothing.
use Prim.Native.Nat.{ℕ, zero, suc, ◌+◌, ◌-◌, ◌*◌, ◌/◌, ◌%◌, ◌<◌, ◌≤◌, min}
use mathlib.Core.Path.{◌≡◌, refl, ◌∙◌}
use mathlib.Core.Bool.{true}
use mathlib.Core.List.{List, ◌++◌}
use mathlib.Core.Logic.{inl, inr}
use native.Mathlib.Omega.{arith}
use mir.Val.{bool_byte}
use lib.Dec.{eqb}
use lib.ListN.{length, get_or, take, drop, replicate}
use Rattle.std.proofs.Math.Seq.{take-suc}
use Rattle.std.proofs.lemmas.List.{length-drop, get_or-drop, drop-replicate}
use Rattle.octets_spec.specs.Choice.{if_eq}
use Rattle.octets_spec.specs.Number.{le_at, be_at}
use Rattle.octets_spec.specs.Counted.{counted, padded}
use Rattle.octets_spec.proofs.ChoiceLaws.{if_ge, if_eq_lem, if_ne_lem, choices}
use Rattle.octets_spec.proofs.CountedLaws.{filling}
use Rattle.eb_read_spec.specs.Decode.{timing_at, template_at}
use Rattle.eb_read_spec.proofs.DecodeLaws.{synchronizes, timing_two, template_bare, links_at, slotframe_is, network_from, joining_absent, joining_is}
use Rattle.eb_read_spec.specs.Inside.{TimeslotLength, JoiningInside}

-- ---- the bytes of a part of a list, in an array
module _ (s : List ℕ) (at skip : ℕ) where
  bytes_counted : (size : ℕ) → at + (skip + size) ≤ length s → take size (drop (at + skip) s) ≡ counted (λ i. get_or s (at + (skip + i)) 0) size
  unfolding counted
  bytes_counted zero h = refl
  bytes_counted (suc size) h =
      let offset : at + skip + size ≡ at + (skip + size) = omega arith in
      rw (take-suc (drop (at + skip) s) size 0 (omega (arith, length-drop (at + skip) s)), bytes_counted size (omega arith), get_or-drop (at + skip) s size 0, offset) refl

  pub network_padded : (all : List ℕ) (size : ℕ) → size ≤ 16 → at + (skip + size) ≤ length s → all ≡ take (at + skip + size - (at + skip)) (drop (at + skip) s) → all ++ drop size (replicate 16 0) ≡ padded (λ i. get_or s (at + (skip + i)) 0) 0 16 size
  unfolding padded
  network_padded all size few inside e =
      let within : min size 16 ≡ size = omega arith in
      let some : at + skip + size - (at + skip) ≡ size = omega arith in
      rw (e, some, within, drop-replicate {X = ℕ} size 16 0, bytes_counted size inside) refl

-- ---- timings
module _ (s : List ℕ) (at wide k r : ℕ) (after : 10 ≤ k) where
  pub timing_ten : k ≡ 10 → r ≡ le_at (2 + wide) s (at + 21) → r ≡ timing_at s at (2 + wide) k
  unfolding timing_at
  timing_ten h e = if_ge _ _ k 10 after (if_eq_lem _ _ k 10 h e)

  pub timing_eleven : (k ≡ 10 → ⊥) → r ≡ le_at (2 + wide) s (at + (21 + (2 + wide))) → r ≡ timing_at s at (2 + wide) k
  unfolding timing_at
  timing_eleven h e = if_ge _ _ k 10 after (if_ne_lem _ _ k 10 h e)

-- ---- the timeslot element
module _ (s : List ℕ) (at to : ℕ) where
  pub timeslot_some : TimeslotLength (to - at) → 0 < to - at
  timeslot_some (inl e) = omega arith
  timeslot_some (inr (inl e)) = omega arith
  timeslot_some (inr (inr e)) = omega arith

  pub timeslot_ordered : TimeslotLength (to - at) → at ≤ to
  timeslot_ordered sizes = omega (arith, timeslot_some sizes)

  pub timeslot_starts : to ≤ length s → TimeslotLength (to - at) → at < length s
  timeslot_starts h sizes = omega (arith, timeslot_some sizes)

  module _ (timed : to - at ≡ 1 → ⊥) where
    pub timings_inside : TimeslotLength (to - at) → to ≤ length s → at + (25 + 2 * bool_byte (eqb (to - at) 27)) ≤ length s
    timings_inside (inl e) fits = rw e (omega arith)
    timings_inside (inr (inl e)) fits = rw e (omega arith)
    timings_inside (inr (inr e)) fits = absurd (timed e)

    pub template_timed : (id : ℕ) (all : List ℕ) → id ≡ get_or s at 0 → TimeslotLength (to - at) → all ≡ counted (timing_at s at (2 + bool_byte (eqb (to - at) 27))) 12 → record { id = id; timed = true; timings = all } ≡ template_at s at (to - at)
    unfolding template_at if_eq
    template_timed id all i (inl e) f = rw (i, f, e) refl
    template_timed id all i (inr (inl e)) f = rw (i, f, e) refl
    template_timed id all i (inr (inr e)) f = absurd (timed e)

-- ---- joining information
-- the address of the join proxy from the eight bytes before the network ID
pub proxy_is : (s : List ℕ) (at proxied n r : ℕ) → proxied < 2 → 4 ≤ at → n ≡ be_at 8 s (at - 4 + 8 * proxied) → r ≡ if_eq proxied 1 n 0 → r ≡ if_eq proxied 1 (be_at 8 s (at + 4)) 0
unfolding if_eq
proxy_is s at zero n r flag low e f = f
proxy_is s at (suc zero) n r flag low e f = let offset : at - 4 + 8 * 1 ≡ at + 4 = omega arith in f ∙ rw (e, offset)
proxy_is s at (suc (suc k)) n r flag low e f = absurd (omega arith)

module _ (s : List ℕ) (at to : ℕ) where
  pub joining_there : ((at ≡ 0 → ⊥) → JoiningInside s at to) → (at ≡ 0 → ⊥) → JoiningInside s at to
  joining_there inside some = inside some

  pub joining_short : (word : ℕ) → JoiningInside s at to → word / 1073741824 ≡ get_or s at 0 / 64 → let size : ℕ = to - at - (4 + 8 * (word / 1073741824 % 2)) in size ≡ min size 16
  joining_short word inside high = omega (arith, inside.most)

pub ruleset elements = (choices, filling, synchronizes, timing_two, timing_ten, timing_eleven, timeslot_ordered, timeslot_starts, timings_inside, template_bare, template_timed, links_at, slotframe_is, joining_absent, proxy_is, joining_there, network_from, joining_short, joining_is)
