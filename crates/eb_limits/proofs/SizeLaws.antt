-- The laws of the numbers of bytes, in the shape in which the code meets them. Assumes nothing.
use Prim.Native.Nat.{ℕ, ◌+◌, ◌<◌, ◌≤◌}
use mathlib.Core.Path.{◌≡◌, refl, sym, ◌∙◌}
use mathlib.Core.Bool.{true}
use mathlib.Core.List.{List}
use native.Mathlib.Omega.{arith}
use lib.ListN.{length, get_or, drop}
use Rattle.octets_spec.specs.Choice.{if_on}
use Rattle.octets_spec.proofs.ChoiceLaws.{if_lt_lem, if_ge}
use Rattle.eb_record_spec.specs.declared.Beacon.{Beacon}
use Rattle.eb_write_spec.specs.Frame.{sequence_bytes, address_bytes, last_width, group_size, joining_size, frame_of, frame_length}
use Rattle.eb_write_spec.specs.Limits.{fits}
use Rattle.eb_write_spec.proofs.LengthLaws.{last_two, length_frame}

module _ (ns : List ℕ) (twelve : length ns ≡ 12) where
  pub width_two : get_or ns 10 0 < 65536 → get_or ns 11 0 < 65536 → 2 ≡ last_width (drop 10 ns)
  unfolding last_width
  width_two h k = rw (last_two ns twelve) (if_lt_lem _ _ (get_or ns 10 0) 65536 h (if_lt_lem _ _ (get_or ns 11 0) 65536 k refl))

  pub width_last : get_or ns 10 0 < 65536 → 65536 ≤ get_or ns 11 0 → 3 ≡ last_width (drop 10 ns)
  unfolding last_width
  width_last h k = rw (last_two ns twelve) (if_lt_lem _ _ (get_or ns 10 0) 65536 h (if_ge _ _ (get_or ns 11 0) 65536 k refl))

  pub width_first : 65536 ≤ get_or ns 10 0 → 3 ≡ last_width (drop 10 ns)
  unfolding last_width
  width_first h = rw (last_two ns twelve) (if_ge _ _ (get_or ns 10 0) 65536 h refl)

pub length_says : (b : Beacon) (q a g j : ℕ) → q ≡ length (sequence_bytes b.sequence) → a ≡ length (address_bytes b.source) → g ≡ group_size b.timeslot b.slotframe.count → j ≡ if_on b.joining.present (2 + joining_size b.joining) 0
    → length b.timeslot.timings ≡ 12 → length b.slotframe.links ≡ 16 → length b.joining.network ≡ 16
    → (10 + q + a + g + j ≡ frame_length b) × (fits b ≡ true → 10 + q + a + g + j ≡ length (frame_of b))
unfolding frame_length
length_says b q a g j sequence source group joining twelve sixteen bytes =
    let is : 10 + q + a + g + j ≡ frame_length b = rw (sequence, source, group, joining) (omega arith) in
    (is, λ within. is ∙ sym (length_frame b twelve sixteen bytes within))
