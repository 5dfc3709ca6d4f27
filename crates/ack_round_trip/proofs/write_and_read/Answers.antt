-- `ack_round_trip::write_and_read` meets its contract. Assumes nothing.
use mathlib.Core.Path.{refl}
use Rattle.std.proofs.lemmas.Result.{err_from_is_err_and}
use Rattle.eb_write_spec.proofs.WrittenLaws.{back_fits, back_part}
use Rattle.refusal.proofs.NumberLaws.{number_some}
use Rattle.ack_round_trip_spec.proofs.RoundTripLaws.{back_refused, back_read}
use Rattle.ack_round_trip.proofs.write_and_read.Goals as goal

pub returns-in_err-length : goal.returns-in_err-length
returns-in_err-length c =
    let p = err_from_is_err_and c.from_residual.result c.from_residual.ensures.1 in
    let written = c.in_err-length.ensures in
    rw (p.1, p.2) (record { answer = back_refused _ _ _ written.answer _ refl (number_some _); buffer = written.buffer })

pub slice_bounds-read-end : goal.slice_bounds-read-end
slice_bounds-read-end c = let written = c.in_ok-length.ensures in back_fits _ _ _ _ written.answer refl _ written.buffer

pub slice_bounds-read-end-2 : goal.slice_bounds-read-end-2
slice_bounds-read-end-2 c = let written = c.in_ok-length.ensures in back_part _ _ _ _ written.answer refl _ written.buffer

pub returns : goal.returns
returns c = let written = c.in_ok-length.ensures in record { answer = back_read _ _ _ written.answer refl _ written.as_said _ c.read.ensures.as_said; buffer = written.buffer }
