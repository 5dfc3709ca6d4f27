-- `c_interface::table::replayed` meets its contract. Assumes nothing.
use Rattle.std.proofs.lemmas.Result.{err_from_is_err_and}
use Rattle.c_table_spec.proofs.CallForms.{replay_done, replay_stray}
use Rattle.c_interface.proofs.table.replayed.Goals as goal

pub returns-in_err-table : goal.returns-in_err-table
returns-in_err-table c = let p = err_from_is_err_and c.from_residual.result c.from_residual.ensures.1 in rw (p.1, p.2) (replay_stray _ _ _ c.try_from.ensures _ c.in_err-table.was)

pub returns : goal.returns
returns c = replay_done _ _ _ c.try_from.ensures _ _ _ _ c.in_ok-table.was c.replay-ended.ensures.answer c.from.ensures
