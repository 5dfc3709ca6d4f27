-- What decoding and reading give without enums, as C has it (docs/RULES.md, C interface). Assumes nothing.
use Rattle.std.specs.Prelude.{List, ℕ}
use Rattle.octets_spec.specs.Choice.{if_on}
use Rattle.eb_record_spec.specs.Record.{blank_beacon}
use Rattle.eb_record_spec.specs.Form.{form_of}
use Rattle.eb_record_spec.specs.declared.BeaconForm.{BeaconForm}
use Rattle.ie_walk_spec.specs.declared.Walk.{Walk}
use Rattle.eb_read_spec.specs.Decode.{decoded}
use Rattle.eb_read_spec.specs.Inside.{lies_inside}
use Rattle.eb_read_spec.specs.Read.{ReadAnswer}
use Rattle.eb_read_spec.specs.declared.FormReading.{FormReading}

-- the form of the record at the offsets of a walk; of the blank record, if an element does not lie inside the frame
unfoldable pub decoded_form : List ℕ → Walk → BeaconForm
decoded_form s walk = if_on (lies_inside s walk) (form_of (decoded s walk)) (form_of blank_beacon)

-- an answer without enums: its number, and the form of its record
unfoldable pub form_reading : ReadAnswer → FormReading
form_reading answer = record { number = answer.number; beacon = form_of answer.beacon }
