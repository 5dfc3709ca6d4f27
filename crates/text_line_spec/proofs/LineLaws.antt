-- The laws of the line's parts, in the shape in which the code meets them: parts in a row, and the whole line. Assumes nothing.
use Prim.Native.Nat.{ℕ, ◌≤◌}
use mathlib.Core.Path.{◌≡◌, refl}
use mathlib.Core.List.{List}
use lib.Dec.{lit≤}
use Rattle.octets_spec.specs.Choice.{if_eq}
use Rattle.octets_spec.proofs.ChoiceLaws.{if_ne_lem}
use Rattle.std.specs.Prelude.{Result, Ok, Err}
use Rattle.refusal.specs.declared.Refusal.{Refusal}
use Rattle.refusal.specs.Refusal.{number_of}
use Rattle.eb_read_spec.proofs.ReadLaws.{number_some}
use Rattle.eb_record_spec.specs.declared.Beacon.{Beacon}
use Rattle.eb_read_spec.specs.Read.{answer_of, read_frame}
use Rattle.text_put_spec.specs.Part.{newline, field, refused_text, PartPut}
use Rattle.text_put_spec.proofs.PartLaws.{row, wider}
use Rattle.text_line_spec.specs.Line.{asn_name, metric_name, size_name, links_name, synchronization_text, slotframe_text, accepted_text, line_of}

-- ---- parts in a row
module _ (s t u : List ℕ) (at a b : ℕ) where
  pub synchronization_put : (asn metric wide : ℕ) → wide ≡ metric → PartPut 24 s at (field asn_name asn) t a → PartPut 28 t a (field metric_name wide) u b → PartPut 52 s at (synchronization_text asn metric) u b
  unfolding synchronization_text
  synchronization_put asn metric wide same first second = rw (← same) (row 24 28 at a b s t u _ _ first second)

  pub slotframe_put : (size links wide more : ℕ) (v : List ℕ) (c : ℕ) → wide ≡ size → more ≡ links → PartPut 26 s at (field size_name wide) t a → PartPut 27 t a (field links_name more) u b → PartPut 1 u b newline v c → PartPut 54 s at (slotframe_text size links) v c
  unfolding slotframe_text
  slotframe_put size links wide more v c same also first second third = rw (← same, ← also) (row 26 28 at a c s t v _ _ first (row 27 1 a b c t u v _ _ second third))

  pub accepted_put : (y : Beacon) → PartPut 52 s at (synchronization_text y.synchronization.asn y.synchronization.metric) t a → PartPut 54 t a (slotframe_text y.slotframe.size y.slotframe.count) u b → PartPut 106 s at (accepted_text y) u b
  unfolding accepted_text
  accepted_put y first second = row 52 54 at a b s t u _ _ first second

-- ---- the line
module _ (frame s t : List ℕ) (at r : ℕ) where
  module _ (x : Result Beacon Refusal) (read : answer_of x ≡ read_frame frame) where
    pub line_refused : (refusal : Refusal) (number : ℕ) → x ≡ Err refusal → number ≡ number_of refusal → PartPut 29 s at (refused_text number) t r → PartPut 106 s at (line_of (read_frame frame)) t r
    unfolding line_of
    line_refused refusal number e is put =
        let answer : answer_of (Err refusal) ≡ read_frame frame = rw e at read in
        let line : refused_text number ≡ line_of (read_frame frame) = rw (is, ← answer) (if_ne_lem _ _ _ _ (number_some refusal) refl) in
        rw (← line) (wider 29 106 at r s t _ (lit≤ tt) put)

    pub line_accepted : (y : Beacon) → x ≡ Ok y → PartPut 106 s at (accepted_text y) t r → PartPut 106 s at (line_of (read_frame frame)) t r
    unfolding line_of if_eq
    line_accepted y e put =
        let answer : answer_of (Ok y) ≡ read_frame frame = rw e at read in
        rw (← answer) put

-- every line has room
pub line_room : 106 ≤ 128
line_room = lit≤ tt

pub ruleset beaconLines = (synchronization_put, slotframe_put, accepted_put, line_refused, line_accepted, line_room)
