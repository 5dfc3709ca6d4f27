-- `ack_read::decode` meets its contract. Assumes nothing.
use mathlib.Core.Path.{◌∙◌}
use mir.Syntax.{w32}
use mir.Facts.{to_z-of_z}
use Rattle.ack_read.proofs.DecodeLaws.{form_is, form_fits_lem}
use Rattle.ack_read.proofs.decode.Goals as goal

pub returns : goal.returns
returns c =
    let header = c.read-header.ensures in
    (form_is _ _ _ _ header.fields _ c.le-word.ensures.0 (to_z-of_z {w = w32} (record { sfits = c.correction_of.type_inv }) ∙ c.correction_of.ensures), form_fits_lem _ _ c.le-word.result _ header.fields header.short)
