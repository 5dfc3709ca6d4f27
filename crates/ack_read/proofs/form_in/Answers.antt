-- `ack_read::form_in` meets its contract. Assumes nothing.
use Rattle.std.proofs.lemmas.Result.{err_from_is_err_and}
use Rattle.ack_read_spec.proofs.ReadLaws.{refused_before, refused_among, form_done}
use Rattle.ack_read.proofs.form_in.Goals as goal

pub returns-in_err-mac_header_fault : goal.returns-in_err-mac_header_fault
returns-in_err-mac_header_fault c = let p = err_from_is_err_and c.from_residual.result c.from_residual.ensures.1 in rw (p.1, p.2) (record { answer = refused_before _ _ c.in_err-mac_header_fault.ensures; «record» = tt })

pub returns-in_err-at : goal.returns-in_err-at
returns-in_err-at c =
    let p = err_from_is_err_and c.from_residual-in_err-at.result c.from_residual-in_err-at.ensures.1 in
    rw (p.1, p.2) (record { answer = refused_among _ c.in_ok-mac_header_fault.ensures _ c.in_err-at.ensures; «record» = tt })

pub returns : goal.returns
returns c = record { answer = form_done _ c.in_ok-mac_header_fault.ensures _ _ c.in_ok-at.ensures c.decode.ensures.0; «record» = c.decode.ensures.1 }
