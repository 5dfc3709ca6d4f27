-- `nbr_replay::replay` meets its contract. Assumes nothing.
use Rattle.nbr_replay_spec.proofs.ReplayLaws.{replay_says, replayWays}
use Rattle.nbr_replay_spec.proofs.LogLaws.{run_ready}
use borrow.Author.Rules.{rules}
use Rattle.nbr_replay.proofs.replay.Goals as goal

pub returns-then-is_broken : goal.returns-then-is_broken
returns-then-is_broken c = let both = replay_says _ _ _ (search (rules, replayWays)) in record { answer = both.0; bound = both.1.0; few = both.1.1.0; accepted = both.1.1.1 }

pub returns-then-is_unfit : goal.returns-then-is_unfit
returns-then-is_unfit c = let both = replay_says _ _ _ (search (rules, replayWays)) in record { answer = both.0; bound = both.1.0; few = both.1.1.0; accepted = both.1.1.1 }

pub run-requires : goal.run-requires
run-requires c = run_ready _ _ c.is_unfit.ensures c.if-is_unfit.false _ _ c.is_broken.ensures c.if-is_broken.false

pub returns : goal.returns
returns c = let both = replay_says _ _ _ (search (rules, replayWays)) in record { answer = both.0; bound = both.1.0; few = both.1.1.0; accepted = both.1.1.1 }
