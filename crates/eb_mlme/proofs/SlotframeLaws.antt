-- The laws of putting the slotframe and link element, in the shape in which the code meets them. Assumes nothing.
use Prim.Native.Nat.{ℕ, ◌+◌, ◌*◌, ◌/◌, ◌%◌, ◌<◌, min}
use mathlib.Core.Path.{◌≡◌, refl, ◌∙◌, ap}
use mathlib.Core.List.{List, ◌++◌, append_assoc}
use native.Mathlib.Omega.{arith}
use lib.ListN.{length, take}
use Rattle.std.specs.List.{flat_map}
use Rattle.octets_spec.specs.Number.{le_bytes, stored}
use Rattle.eb_record_spec.specs.declared.Link.{Link}
use Rattle.eb_record_spec.specs.declared.Slotframe.{Slotframe}
use Rattle.eb_write_spec.specs.Frame.{short_descriptor, link_bytes, slotframe_bytes}
use Rattle.eb_write_spec.proofs.LengthLaws.{length_le}
use Rattle.eb_write_spec.proofs.RangeLaws.{clip_take}
use Rattle.eb_write_spec.proofs.RowLaws.{two, le_joined, le_low}
use Rattle.eb_mlme.proofs.EachLaws.{links_are}

-- ---- a link
pub link_number_lem : (l : Link) → l.timeslot < 65536 → l.channel_offset < 65536 → le_bytes 5 (l.timeslot + l.channel_offset * 65536 + l.options * 4294967296) ≡ link_bytes l
unfolding link_bytes
link_number_lem l timeslot offset =
    let one : l.timeslot + l.channel_offset * 65536 + l.options * 4294967296 ≡ l.timeslot + 65536 * (l.channel_offset + 65536 * l.options) = omega arith in
    rw one (le_joined 2 3 l.timeslot (l.channel_offset + 65536 * l.options) timeslot ∙ ap (λ (xs : List ℕ). le_bytes 2 l.timeslot ++ xs) (le_joined 2 1 l.channel_offset l.options offset))

-- ---- the element
pub head_number : (handle size count : ℕ) → handle < 256 → size < 65536
    → le_bytes 7 ((6917 + 5 * count) % 65536 + 65536 + handle * 16777216 + size * 4294967296 + count * 281474976710656) ≡ short_descriptor 27 (5 + 5 * count) ++ (le_bytes 1 1 ++ (le_bytes 1 handle ++ (le_bytes 2 size ++ le_bytes 1 count)))
unfolding short_descriptor
head_number handle size count h s =
    let low : ℕ = (6917 + 5 * count) % 65536 in
    let one : low + 65536 + handle * 16777216 + size * 4294967296 + count * 281474976710656 ≡ low + 65536 * (1 + 256 * (handle + 256 * (size + 65536 * count))) = omega arith in
    let head : le_bytes 2 low ≡ le_bytes 2 (5 + 5 * count + 6912) = le_low 2 low ((6917 + 5 * count) / 65536) (5 + 5 * count + 6912) (omega arith) (omega arith) in
    rw (one, le_joined 2 5 low (1 + 256 * (handle + 256 * (size + 65536 * count))) (omega arith), head, le_joined 1 4 1 (handle + 256 * (size + 65536 * count)) (omega arith), le_joined 1 3 handle (size + 65536 * count) h, le_joined 2 1 size count s)

pub slotframe_put : (s : List ℕ) (at : ℕ) (t u : List ℕ) (f : Slotframe) (head used : ℕ) → length f.links ≡ 16 → used ≡ min f.count 16
    → le_bytes 7 head ≡ short_descriptor 27 (5 + 5 * f.count) ++ (le_bytes 1 1 ++ (le_bytes 1 f.handle ++ (le_bytes 2 f.size ++ le_bytes 1 f.count)))
    → t ≡ stored s at (le_bytes 7 head) → u ≡ stored t (at + 7) (flat_map link_bytes (take used f.links)) → u ≡ stored s at (slotframe_bytes f)
unfolding slotframe_bytes
slotframe_put s at t u f head used sixteen is number e g =
    two s at _ _ t 7 e (length_le 7 head) u (rw (is, clip_take f.links f.count 16 sixteen, links_are (take f.count f.links)) at g) ∙ ap (stored s at) (rw number (simp append_assoc refl))
