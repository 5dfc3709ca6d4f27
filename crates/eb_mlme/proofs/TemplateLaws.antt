-- The laws of putting the timeslot element, in the shape in which the code meets them. Assumes nothing.
use Prim.Native.Nat.{ℕ, ◌+◌, ◌*◌, ◌≤◌}
use mathlib.Core.Path.{◌≡◌, refl, sym, ◌∙◌, ap}
use mathlib.Core.Bool.{true, false}
use mathlib.Core.List.{List, [], ◌++◌, append_assoc, append-nil}
use native.Mathlib.Omega.{arith}
use lib.ListN.{length, take, drop, length-take, length-drop}
use lib.Seq.{take_all}
use Rattle.std.specs.List.{flat_map}
use Rattle.octets_spec.specs.Choice.{if_on}
use Rattle.octets_spec.specs.Number.{le_bytes, stored}
use Rattle.octets_spec.proofs.ChoiceLaws.{if_on_lem, if_off_lem}
use Rattle.eb_record_spec.specs.declared.TimeslotTemplate.{TimeslotTemplate}
use Rattle.eb_write_spec.specs.Frame.{short_descriptor, last_width, timings_bytes, template_size, template_bytes}
use Rattle.eb_write_spec.proofs.LengthLaws.{length_le, length_numbers}
use Rattle.eb_write_spec.proofs.RowLaws.{two, le_joined}
use Rattle.eb_mlme.proofs.EachLaws.{numbers_are}

-- ---- the timings
pub timings_put : (s : List ℕ) (at : ℕ) (t u : List ℕ) (ns : List ℕ) → length ns ≡ 12 → (w : ℕ) → w ≡ last_width (drop 10 ns) → t ≡ stored s at (flat_map (le_bytes 2) (take 10 ns)) → u ≡ stored t (at + 20) (flat_map (le_bytes w) (take 2 (drop 10 ns)))
    → u ≡ stored s at (timings_bytes ns)
unfolding timings_bytes
timings_put s at t u ns twelve w is e f =
    let rest : take 2 (drop 10 ns) ≡ drop 10 ns = take_all 2 (drop 10 ns) (omega (arith, length-drop 10 ns)) in
    two s at _ _ t 20 (rw (numbers_are 2 (take 10 ns)) at e) (omega (arith, length_numbers 2 (take 10 ns), length-take 10 ns)) u (rw (rest, is, numbers_are (last_width (drop 10 ns)) (drop 10 ns)) at f)

-- ---- the element
module _ (s : List ℕ) (at : ℕ) (t : List ℕ) (m : TimeslotTemplate) (size : ℕ) (is : size ≡ template_size m) (small : size ≤ 27) (e : t ≡ stored s at (le_bytes 3 (size + 7168 + m.id * 65536))) where
  head : le_bytes 3 (size + 7168 + m.id * 65536) ≡ short_descriptor 28 (template_size m) ++ le_bytes 1 m.id
  unfolding short_descriptor
  head =
      let one : size + 7168 + m.id * 65536 ≡ size + 7168 + 65536 * m.id = omega arith in
      rw (one, sym is) (le_joined 2 1 (size + 7168) m.id (omega arith))

  start : t ≡ stored s at (short_descriptor 28 (template_size m) ++ le_bytes 1 m.id)
  start = rw head at e

  -- what stands behind the head
  behind : (xs : List ℕ) → xs ≡ if_on m.timed (timings_bytes m.timings) [] → (short_descriptor 28 (template_size m) ++ le_bytes 1 m.id) ++ xs ≡ template_bytes m
  unfolding template_bytes
  behind xs is = append_assoc (short_descriptor 28 (template_size m)) (le_bytes 1 m.id) xs ∙ ap (λ (l : List ℕ). short_descriptor 28 (template_size m) ++ (le_bytes 1 m.id ++ l)) is

  pub template_timed : (u : List ℕ) → m.timed ≡ true → u ≡ stored t (at + 3) (timings_bytes m.timings) → u ≡ stored s at (template_bytes m)
  template_timed u on f =
      let long : length (short_descriptor 28 (template_size m) ++ le_bytes 1 m.id) ≡ 3 = rw (sym head) (length_le 3 (size + 7168 + m.id * 65536)) in
      two s at _ _ t 3 start long u f ∙ ap (stored s at) (behind _ (if_on_lem _ _ m.timed on refl))

  pub template_bare : m.timed ≡ false → t ≡ stored s at (template_bytes m)
  template_bare off = start ∙ ap (stored s at) (sym (append-nil _) ∙ behind [] (if_off_lem _ _ m.timed off refl))
