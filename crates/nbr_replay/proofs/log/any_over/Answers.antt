-- `nbr_replay::log::any_over` meets its contract. Assumes nothing.
use Rattle.std.proofs.Common.{rules, tests, ◌∙◌}
use Rattle.std.proofs.lemmas.Iterator.{YieldsList-from_slice}
use Rattle.std.proofs.lemmas.Iterator.Search.{any_from_yields_List}
use lib.Dec.{ltb}
use Rattle.nbr_replay_spec.proofs.LogLaws.{some_over_any}
use Rattle.nbr_replay.proofs.log.any_over.Goals as goal

pub returns : goal.returns
returns c =
    any_from_yields_List (ltb c.args.limit) _ _ _ c.any.ensures.ran (YieldsList-from_slice c.args.s.now cc) (λ x b q k. search (rules, tests))
    ∙ some_over_any c.args.limit c.args.s.now
