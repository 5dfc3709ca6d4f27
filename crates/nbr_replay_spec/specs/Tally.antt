-- How the code goes through a log: what it has counted after some calls, and one row more (docs/RULES.md, Parents do not flap).
-- Only contracts of functions that stay in the crate nbr_replay cite it. Assumes nothing.
use Rattle.std.specs.Prelude.{ℕ, ◌+◌, ◌-◌, ◌<◌, ◌≤◌, ◌^◌, ◌≡◌, true, not, cond, ◌&&◌, List, length, Option, Some, None}
use Rattle.octets_spec.specs.Choice.{if_eq, if_on}
use Rattle.nbr_metric_spec.specs.declared.Place.{Place}
use Rattle.nbr_metric_spec.specs.Metric.{eligible, path_cost}
use Rattle.nbr_table_spec.specs.declared.Choice.{Choice}
use Rattle.nbr_table_spec.specs.declared.Table.{Table}
use Rattle.nbr_table_spec.specs.Calls.{mark_of, same_parent}
use Rattle.nbr_stability_spec.specs.Stability.{Call, after, changes, each_eligible, evaluations, first_cost, last_cost, rises}
use Rattle.nbr_stability_spec.specs.Stability.Call.{Advertise, Report, Forget, Evaluate}
use Rattle.nbr_replay_spec.specs.declared.Call.{Call as RowCall}
use Rattle.nbr_replay_spec.specs.declared.Call.TheVariants as row
use Rattle.nbr_replay_spec.specs.declared.Counts.{Counts}
use Rattle.nbr_replay_spec.specs.declared.Visit.{Visit}
use Rattle.nbr_replay_spec.specs.Log.{Log}
use Rattle.nbr_replay_spec.specs.Visit.{visited}

-- each other list of a log is as long as the kinds
pub record EquallyLong (rows : Log) : Type 0 where
  pub ids : length rows.ids ≡ length rows.kinds
  pub values : length rows.values ≡ length rows.kinds
  pub flags : length rows.flags ≡ length rows.kinds

-- the call of the claims that a row's call is
abbrev pub meant : RowCall → Call
meant (row.Advertise id rank) = Advertise id rank
meant (row.Report id attempts acked) = Report id attempts acked
meant (row.Forget id) = Forget id
meant row.Evaluate = Evaluate

-- nothing counted
abbrev pub no_counts : Counts
no_counts = record { evaluations = 0; changes = 0; rises = 0; first = 0; last = 0; applies = true }

-- what is counted after these calls
unfoldable pub tally : Table → List Call → Counts
tally table calls =
    record {
      evaluations = length (evaluations table calls);
      changes = changes (evaluations table calls);
      rises = rises (evaluations table calls);
      first = first_cost (evaluations table calls);
      last = last_cost (evaluations table calls);
      applies = each_eligible (evaluations table calls);
    }

-- one evaluation more
unfoldable pub noted : Counts → Visit → Counts
noted counts visit =
    record {
      evaluations = counts.evaluations + 1;
      changes = counts.changes + cond visit.change 1 0;
      rises = if_eq counts.evaluations 0 0 (counts.rises + (visit.entry - counts.last));
      first = if_eq counts.evaluations 0 visit.entry counts.first;
      last = visit.exit;
      applies = counts.applies && visit.eligible;
    }

-- one row more: only what an evaluation shows is counted
unfoldable pub counted : Counts → Option Visit → Counts
counted counts None = counts
counted counts (Some visit) = noted counts visit

-- what a call on a table shows: nothing, unless it is an evaluation
unfoldable pub showing : Table → Call → Option Visit
showing table (Advertise id rank) = None
showing table (Report id attempts acked) = None
showing table (Forget id) = None
showing table Evaluate = Some (visited table (after table Evaluate))

-- what an evaluation shows, from the place of the parent that was held, that parent and the choice: the cost on exit is the own rank
abbrev pub shown : Place → Option ℕ → Choice → Visit
shown held parent choice =
    record {
      change = not (same_parent parent choice.parent);
      entry = if_on (mark_of parent) (path_cost held) 0;
      exit = if_on (mark_of choice.parent) choice.rank 0;
      eligible = eligible held;
    }

-- there is room for 65535 evaluations more
pub record Room (counts : Counts) : Type 0 where
  pub evaluations : counts.evaluations < 2 ^ 31
  pub changes : counts.changes < 2 ^ 31
  pub rises : counts.rises < 2 ^ 62

-- the next counts have at most one evaluation more
pub record OneMore (counts next : Counts) : Type 0 where
  pub evaluations : next.evaluations ≤ counts.evaluations + 1
  pub changes : next.changes ≤ counts.changes + 1
  pub rises : next.rises ≤ counts.rises + 2 ^ 30
