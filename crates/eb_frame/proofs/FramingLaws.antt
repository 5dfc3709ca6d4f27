-- The laws of putting a frame, in the shape in which the code meets them. Assumes nothing.
use Prim.Native.Nat.{ℕ, ◌+◌, min}
use mathlib.Core.Path.{◌≡◌, refl}
use mathlib.Core.List.{List, ◌++◌}
use native.Mathlib.Omega.{arith}
use lib.ListN.{length}
use Rattle.octets_spec.specs.Number.{le_bytes, stored}
use Rattle.eb_record_spec.specs.declared.Beacon.{Beacon}
use Rattle.eb_write_spec.specs.Frame.{sequence_bytes, address_bytes, header_descriptor, group_size, joining_bytes, beacon_mac_header, beacon_group, frame_of}
use Rattle.eb_write_spec.proofs.LengthLaws.{length_le, length_mac_header, length_group_used}
use Rattle.eb_write_spec.proofs.RowLaws.{two, three}

pub before_is : (b : Beacon) (used size : ℕ) → length b.timeslot.timings ≡ 12 → length b.slotframe.links ≡ 16 → used ≡ min b.slotframe.count 16 → size ≡ group_size b.timeslot used → 4 + size ≡ 2 + length (beacon_group b)
before_is b used size twelve sixteen few is =
    let long : size ≡ group_size b.timeslot (min b.slotframe.count 16) = rw few at is in
    omega (arith, length_group_used b.synchronization b.timeslot b.hopping b.slotframe twelve sixteen)

pub elements_put : (s : List ℕ) (at : ℕ) (t u v : List ℕ) (b : Beacon) (size : ℕ) → size ≡ 2 + length (beacon_group b)
    → t ≡ stored s at (le_bytes 2 16128) → u ≡ stored t (at + 2) (beacon_group b) → v ≡ stored u (at + size) (joining_bytes b.joining) → v ≡ stored s at (header_descriptor 126 0 ++ (beacon_group b ++ joining_bytes b.joining))
unfolding header_descriptor
elements_put s at t u v b size is e g h = three s at _ _ _ t u v 2 (length (beacon_group b)) e (length_le 2 16128) g refl (rw is at h)

pub frame_put : (b : Beacon) (s t u : List ℕ) (q a : ℕ) → q ≡ length (sequence_bytes b.sequence) → a ≡ length (address_bytes b.source) → t ≡ stored s 0 (beacon_mac_header b)
    → u ≡ stored t (6 + q + a) (header_descriptor 126 0 ++ (beacon_group b ++ joining_bytes b.joining)) → u ≡ stored s 0 (frame_of b)
unfolding frame_of
frame_put b s t u q a sequence source e g =
    let from : 0 + (6 + q + a) ≡ 6 + q + a = omega arith in
    two s 0 (beacon_mac_header b) _ t (6 + q + a) e (omega (arith, length_mac_header b.sequence b.pan b.source)) u (rw from g)
