-- Writing and reading back (docs/RULES.md, Writing). Assumes nothing.
use Rattle.std.specs.Prelude.{ℕ}
use Rattle.octets_spec.specs.Choice.{if_eq}
use Rattle.refusal.specs.Refusal.{done}
use Rattle.eb_record_spec.specs.Record.{blank_beacon}
use Rattle.eb_record_spec.specs.declared.Beacon.{Beacon}
use Rattle.eb_read_spec.specs.Read.{ReadAnswer}
use Rattle.eb_write_spec.specs.Write.{written_number}

-- a reading that is done and gives this record
abbrev pub read_as : Beacon → ReadAnswer
read_as beacon = record { number = done; beacon = beacon }

-- a refusal: its number with the blank record
abbrev pub refused_as : ℕ → ReadAnswer
refused_as number = record { number = number; beacon = blank_beacon }

-- what comes back from a buffer of this length: the record itself if it is written, and else the number of the refusal with the blank record
unfoldable pub back_from : Beacon → ℕ → ReadAnswer
back_from beacon buffer = if_eq (written_number beacon buffer) done (read_as beacon) (record { number = written_number beacon buffer; beacon = blank_beacon })
