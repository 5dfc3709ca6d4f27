-- `c_interface::table::tesolvagna_table_replay` meets its contract. Assumes nothing.
use Rattle.c_table_spec.proofs.CallForms.{replay_form_says, replay_refused}
use Rattle.c_interface.proofs.table.tesolvagna_table_replay.Goals as goal

pub returns-in-Ok : goal.returns-in-Ok
returns-in-Ok c = let both = replay_form_says _ _ _ c.in-Ok.ensures in record { answer = both.0; bound = both.1.0; few = both.1.1.0; accepted = both.1.1.1 }

pub returns-in-Err : goal.returns-in-Err
returns-in-Err c = let both = replay_form_says _ _ _ (replay_refused _ _ _ _ _ c.in-Err.ensures c.number.ensures) in record { answer = both.0; bound = both.1.0; few = both.1.1.0; accepted = both.1.1.1 }
