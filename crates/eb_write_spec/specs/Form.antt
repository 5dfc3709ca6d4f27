-- Writing from the form without enums, as C has it: a form that is no record's is outside the limits (docs/RULES.md, C interface).
-- Assumes nothing.
use Rattle.std.specs.Prelude.{ℕ, Bool, ◌&&◌, List}
use Rattle.octets_spec.specs.Choice.{if_on}
use Rattle.refusal.specs.Refusal.{out_of_limits}
use Rattle.eb_record_spec.specs.declared.BeaconForm.{BeaconForm}
use Rattle.eb_record_spec.specs.Form.{beacon_of, is_beacon}
use Rattle.eb_write_spec.specs.declared.Written.{Written}
use Rattle.eb_write_spec.specs.Limits.{fits}
use Rattle.eb_write_spec.specs.Write.{written_in, buffer_after}

-- a form that is a record's, of a record within the limits
unfoldable pub form_fits : BeaconForm → Bool
form_fits form = is_beacon form && fits (beacon_of form)

-- the answer for a buffer of this length
unfoldable pub form_written : BeaconForm → ℕ → Written
form_written form buffer = if_on (is_beacon form) (written_in (beacon_of form) buffer) (record { number = out_of_limits; length = 0 })

-- the buffer afterwards
unfoldable pub buffer_after_form : BeaconForm → List ℕ → List ℕ
buffer_after_form form buffer = if_on (is_beacon form) (buffer_after (beacon_of form) buffer) buffer
