-- `eb_round_trip::write_and_read` meets its contract. Assumes nothing.
use Rattle.eb_read_spec.proofs.ReadLaws.{number_some, passed_on}
use Rattle.eb_write_spec.proofs.WrittenLaws.{back_fits, back_part}
use Rattle.eb_round_trip_spec.proofs.RoundTripLaws.{back_refused, back_read}
use mathlib.Core.Path.{refl}
use borrow.Author.Rules.{rules}
use Rattle.eb_round_trip.proofs.write_and_read.Goals as goal

pub returns-in_err-length : goal.returns-in_err-length
returns-in_err-length c = let written = c.in_err-length.ensures in record { answer = rw (passed_on _ _ c.from_residual.ensures.1) (back_refused _ _ _ written.answer _ (number_some _) refl); buffer = written.buffer }

pub slice_bounds-read-end : goal.slice_bounds-read-end
slice_bounds-read-end c = let written = c.in_ok-length.ensures in back_fits _ _ _ _ written.answer refl _ written.buffer

pub slice_bounds-read-end-2 : goal.slice_bounds-read-end-2
slice_bounds-read-end-2 c = let written = c.in_ok-length.ensures in back_part _ _ _ _ written.answer refl _ written.buffer

pub returns : goal.returns
returns c = let written = c.in_ok-length.ensures in record { answer = back_read _ _ _ written.answer refl _ written.as_said _ c.read.ensures.as_said; buffer = written.buffer }
