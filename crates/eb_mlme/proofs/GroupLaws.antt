-- The laws of putting the MLME group, in the shape in which the code meets them. Assumes nothing.
use Prim.Native.Nat.{ℕ, ◌+◌, ◌*◌, ◌/◌, ◌%◌}
use mathlib.Core.Path.{◌≡◌, refl, sym, ◌∙◌, ap}
use mathlib.Core.List.{List, ◌++◌, append_assoc}
use native.Mathlib.Omega.{arith}
use lib.ListN.{length, length-append}
use Rattle.octets_spec.specs.Number.{le_bytes, stored}
use Rattle.eb_record_spec.specs.declared.Synchronization.{Synchronization}
use Rattle.eb_record_spec.specs.declared.TimeslotTemplate.{TimeslotTemplate}
use Rattle.eb_record_spec.specs.declared.Slotframe.{Slotframe}
use Rattle.eb_write_spec.specs.Frame.{group_descriptor, short_descriptor, long_descriptor, synchronization_bytes, template_size, template_bytes, hopping_bytes, slotframe_bytes, group_size, group_bytes}
use Rattle.eb_write_spec.proofs.LengthLaws.{length_le, length_synchronization, length_hopping, length_template}
use Rattle.eb_write_spec.proofs.RowLaws.{two, three, le_joined, le_low}

pub synchronization_number : (y : Synchronization) → le_bytes 8 (6662 + y.asn % 1099511627776 * 65536 + y.metric * 72057594037927936) ≡ synchronization_bytes y
unfolding synchronization_bytes short_descriptor
synchronization_number y =
    let low : ℕ = y.asn % 1099511627776 in
    let one : 6662 + low * 65536 + y.metric * 72057594037927936 ≡ 6662 + 65536 * (low + 1099511627776 * y.metric) = omega arith in
    rw (one, le_joined 2 6 6662 (low + 1099511627776 * y.metric) (omega arith), le_joined 5 1 low y.metric (omega arith), le_low 5 low (y.asn / 1099511627776) y.asn (omega arith) (omega arith))

-- ---- the parts
module _ (s : List ℕ) (at : ℕ) (t : List ℕ) (u : List ℕ) where
  pub group_starts : (v : List ℕ) (y : Synchronization) (m : TimeslotTemplate) (count size number : ℕ) → size ≡ group_size m count → le_bytes 8 number ≡ synchronization_bytes y → t ≡ stored s at (le_bytes 2 (size + 34816)) → u ≡ stored t (at + 2) (le_bytes 8 number) → v ≡ stored u (at + 10) (template_bytes m)
      → v ≡ stored s at (group_descriptor 1 (group_size m count) ++ (synchronization_bytes y ++ template_bytes m))
  unfolding group_descriptor
  group_starts v y m count size number is n e f g =
      let one : size + 34816 ≡ size + 2048 + 32768 = omega arith in
      rw (sym is) (three s at _ _ _ t u v 2 8 (rw one at e) (length_le 2 (size + 2048 + 32768)) (rw n at f) (length_synchronization y) g)

  pub rest_put : (id : ℕ) (f : Slotframe) → t ≡ stored s at (le_bytes 3 (51201 + id * 65536)) → u ≡ stored t (at + 3) (slotframe_bytes f) → u ≡ stored s at (hopping_bytes id ++ slotframe_bytes f)
  unfolding hopping_bytes long_descriptor
  rest_put id f e g =
      let one : 51201 + id * 65536 ≡ 51201 + 65536 * id = omega arith in
      let head : le_bytes 3 (51201 + id * 65536) ≡ le_bytes 2 51201 ++ le_bytes 1 id = rw (one, le_joined 2 1 51201 id (omega arith)) in
      two s at _ _ t 3 (rw head at e) (length_hopping id) u g

  pub group_put : (y : Synchronization) (m : TimeslotTemplate) (id : ℕ) (f : Slotframe) (size : ℕ) → length m.timings ≡ 12 → size ≡ template_size m → t ≡ stored s at (group_descriptor 1 (group_size m f.count) ++ (synchronization_bytes y ++ template_bytes m))
      → u ≡ stored t (at + (12 + size)) (hopping_bytes id ++ slotframe_bytes f)
      → u ≡ stored s at (group_bytes y m id f)
  unfolding group_bytes group_descriptor
  group_put y m id f size twelve is e g =
      two s at _ _ t (12 + size) e (simp (length-append, length_le, length_synchronization) (omega (arith, length_template m twelve))) u g ∙ ap (stored s at) (simp append_assoc refl)
