-- `nbr_replay::log::Log::is_unfit` meets its contract. Assumes nothing.
use Rattle.nbr_replay_spec.proofs.LogLaws.{unfit_is}
use Rattle.nbr_replay.specs.Rows.{rows_of}
use Rattle.nbr_replay.proofs.log.Log.is_unfit.Goals as goal

pub returns : goal.returns
returns c = unfit_is (rows_of c.args.self.now) _ _ c.any_over-kind.ensures c.any_over.ensures
