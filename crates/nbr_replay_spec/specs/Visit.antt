-- What one evaluation shows to the claim that parents do not flap (docs/RULES.md, Parents do not flap). Assumes nothing.
use Rattle.std.specs.Prelude.{not}
use Rattle.nbr_metric_spec.specs.Metric.{eligible}
use Rattle.nbr_table_spec.specs.declared.Table.{Table}
use Rattle.nbr_table_spec.specs.Calls.{held, held_cost, same_parent}
use Rattle.nbr_replay_spec.specs.declared.Visit.{Visit}

-- an evaluation that got a table and gave back another: whether the parent changed, the held parent's cost on entry and on exit, and
-- whether the parent held on entry is eligible there
abbrev pub visited : Table → Table → Visit
visited before after =
    record {
      change = not (same_parent before.parent after.parent);
      entry = held_cost before;
      exit = held_cost after;
      eligible = eligible (held before);
    }
