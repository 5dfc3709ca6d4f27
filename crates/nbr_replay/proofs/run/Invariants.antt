-- `nbr_replay::run` meets its contract. The invariant: table and counts are what the rows passed come to. Assumes nothing.
use Rattle.nbr_replay_spec.proofs.ReplayLaws.{Ran}
use Rattle.nbr_replay.specs.Rows.{rows_of}
use Rattle.nbr_replay.proofs.run.Given as goal

abbrev pub invariant-loop-i : goal.invariant-loop-i
invariant-loop-i l = Ran (rows_of l.log) l.i l.initial.table l.table l.counts
