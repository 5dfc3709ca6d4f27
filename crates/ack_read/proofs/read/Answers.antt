-- `ack_read::read` meets its contract. Assumes nothing.
use Rattle.ack_read_spec.proofs.Claimed.{numbers_to_7, one_is_the_length, never_a_beacon_too}
use Rattle.ack_read_spec.proofs.ReadLaws.{record_read, record_refused}
use Rattle.ack_grammar_spec.proofs.SaidLaws.{read_as_said}
use Rattle.std.proofs.lemmas.Result.{err_from_is_err_and}
use Rattle.ack_read.proofs.read.Goals as goal

pub returns-in_err-form : goal.returns-in_err-form
returns-in_err-form c =
    let p = err_from_is_err_and c.from_residual.result c.from_residual.ensures.1 in
    let is = record_refused _ _ c.in_err-form.ensures.answer in
    rw (p.1, p.2) (record { answer = is; numbers = numbers_to_7; length = one_is_the_length; beacon = never_a_beacon_too; as_said = read_as_said _ c.type_inv.s _ _ is })

pub returns : goal.returns
returns c =
    let is = record_read _ _ _ c.in_ok-form.ensures.answer c.in_ok-form.ensures.«record» c.ack_of.ensures in
    record { answer = is; numbers = numbers_to_7; length = one_is_the_length; beacon = never_a_beacon_too; as_said = read_as_said _ c.type_inv.s _ _ is }
