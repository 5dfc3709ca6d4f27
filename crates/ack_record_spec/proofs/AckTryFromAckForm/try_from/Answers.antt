-- `ack_record_spec::AckTryFromAckForm::try_from` meets its contract. Assumes nothing.
use borrow.Author.Rules.{rules}
use mir.Syntax.{w32}
use mir.Val.{to_z, of_z}
use Rattle.std.proofs.lemmas.Result.{err_from_is_err_and}
use Rattle.eb_record_spec.proofs.FormLaws.{made, was_made, first_refused, second_refused}
use Rattle.ack_record_spec.proofs.FormLaws.{ack_is}
use Rattle.ack_record_spec.specs.Record.{is_ack}
use Rattle.ack_record_spec.proofs.AckTryFromAckForm.try_from.Goals as goal

pub returns-in_err-sequence_in : goal.returns-in_err-sequence_in
unfolding is_ack
returns-in_err-sequence_in c = let p = err_from_is_err_and c.from_residual.result c.from_residual.ensures.1 in rw (p.1, p.2) (first_refused _ _ _ _ _ c.in_err-sequence_in.ensures)

pub returns-in_err-address_in : goal.returns-in_err-address_in
unfolding is_ack
returns-in_err-address_in c = let p = err_from_is_err_and c.from_residual-in_err-address_in.result c.from_residual-in_err-address_in.ensures.1 in rw (p.1, p.2) (second_refused _ _ c.args.form _ _ (first_refused _ _ _ c.args.form _ c.in_err-address_in.ensures))

pub returns-in_err-address_in-2 : goal.returns-in_err-address_in-2
unfolding is_ack
returns-in_err-address_in-2 c = let p = err_from_is_err_and c.from_residual-in_err-address_in-2.result c.from_residual-in_err-address_in-2.ensures.1 in rw (p.1, p.2) (second_refused _ _ c.args.form _ _ (second_refused _ _ _ c.args.form _ c.in_err-address_in-2.ensures))

pub returns : goal.returns
unfolding is_ack
returns c =
    let sequence = was_made _ _ _ c.in_ok-sequence_in.ensures in
    let destination = was_made _ _ _ c.in_ok-address_in.ensures in
    let source = was_made _ _ _ c.in_ok-address_in-2.ensures in
    let is = ack_is c.args.form _ _ _ (to_z w32 (of_z w32 c.args.form.correction)) sequence.1 destination.1 source.1 (search rules) in
    rw is (made _ _ (rw (sequence.0, destination.0, source.0)))
