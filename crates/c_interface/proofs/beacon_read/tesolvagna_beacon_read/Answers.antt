-- `c_interface::beacon_read::tesolvagna_beacon_read` meets its contract. Assumes nothing.
use Rattle.eb_read_spec.proofs.FormReadLaws.{form_is, blank_form_is}
use Rattle.eb_grammar_spec.proofs.SaidLaws.{form_as_said}
use Rattle.c_interface.proofs.beacon_read.tesolvagna_beacon_read.Goals as goal

pub returns-in-Err : goal.returns-in-Err
returns-in-Err c =
    let is = blank_form_is _ _ _ c.examine-found.ensures.answer _ c.in-Err.is _ c.blank_form.ensures in
    record { answer = rw c.number.ensures is; as_said = form_as_said _ c.type_inv.s _ _ (rw c.number.ensures is) }

pub returns : goal.returns
returns c =
    let is = form_is _ _ _ c.examine-found.ensures.answer _ c.in_default.is _ c.decode.ensures.answer in
    record { answer = is; as_said = form_as_said _ c.type_inv.s _ _ is }
