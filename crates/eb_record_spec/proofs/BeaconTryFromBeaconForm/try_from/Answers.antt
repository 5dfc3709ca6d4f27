-- `eb_record_spec::BeaconTryFromBeaconForm::try_from` meets its contract. Assumes nothing.
use Rattle.std.proofs.lemmas.Result.{err_from_is_err_and}
use Rattle.eb_record_spec.specs.Form.{is_beacon, beacon_of}
use Rattle.eb_record_spec.proofs.FormLaws.{made, was_made, first_refused, second_refused}
use Rattle.eb_record_spec.proofs.BeaconTryFromBeaconForm.try_from.Goals as goal

pub returns-in_err-sequence_in : goal.returns-in_err-sequence_in
unfolding is_beacon
returns-in_err-sequence_in c = let p = err_from_is_err_and c.from_residual.result c.from_residual.ensures.1 in rw (p.1, p.2) (first_refused _ _ _ _ _ c.in_err-sequence_in.ensures)

pub returns-in_err-address_in : goal.returns-in_err-address_in
unfolding is_beacon
returns-in_err-address_in c = let p = err_from_is_err_and c.from_residual-in_err-address_in.result c.from_residual-in_err-address_in.ensures.1 in rw (p.1, p.2) (second_refused _ _ _ _ _ c.in_err-address_in.ensures)

pub returns : goal.returns
unfolding is_beacon beacon_of
returns c =
    let sequence = was_made _ _ _ c.in_ok-sequence_in.ensures in
    let source = was_made _ _ _ c.in_ok-address_in.ensures in
    rw (sequence.1, source.1) (made _ _ (rw (sequence.0, source.0)))
