-- The C form of a table and of each call's answer (docs/RULES.md, C interface). C has no enum with values, so a held parent is a
-- mark and an identifier, which is 0 where the mark is off. Assumes nothing.
use Rattle.std.specs.Prelude.{ℕ, Bool, true, false, not, cond, ◌||◌, eqb, Option, Some, None, Result, Ok, Err}
use Rattle.octets_spec.specs.Choice.{if_on}
use Rattle.refusal.specs.declared.Refusal.{Refusal}
use Rattle.refusal.specs.declared.Refusal.TheVariants.{OutOfLimits}
use Rattle.refusal.specs.Refusal.{done, number_of, out_of_limits}
use Rattle.nbr_metric_spec.specs.declared.Place.{Place}
use Rattle.nbr_metric_spec.specs.Metric.{blank}
use Rattle.nbr_table_spec.specs.declared.Store.{Store}
use Rattle.nbr_table_spec.specs.declared.Table.{Table}
use Rattle.nbr_table_spec.specs.Calls.{Answer, Evaluation, advertised, broken, empty_table, evaluated, forgotten, id_of, mark_of, reported, same_parent}
use Rattle.nbr_table_spec.specs.Stores.{Change, stored}
use Rattle.nbr_replay_spec.specs.declared.Outcome.{Outcome as Ended}
use Rattle.nbr_replay_spec.specs.Log.{Log}
use Rattle.nbr_replay_spec.specs.Replay.{Outcome, replayed}
use Rattle.c_table_spec.specs.declared.TableForm.{TableForm}
use Rattle.c_table_spec.specs.declared.TableAnswer.{TableAnswer}
use Rattle.c_table_spec.specs.declared.EvaluationAnswer.{EvaluationAnswer}
use Rattle.c_table_spec.specs.declared.ReplayAnswer.{ReplayAnswer}

-- ---- the held parent
-- the parent that a mark and an identifier are
unfoldable pub parent_of : Bool → ℕ → Option ℕ
parent_of false id = None
parent_of true id = Some id

-- ---- the table
-- the C form of a table
abbrev pub form_of : Table → TableForm
form_of table = record { places = table.places; held = mark_of table.parent; parent = id_of table.parent }

-- the table that a C form is
abbrev pub table_of : TableForm → Table
table_of form = record { places = form.places; parent = parent_of form.held form.parent }

-- a mark and an identifier are a held parent or none, unless there is an identifier where none is held
unfoldable pub is_parent : Bool → ℕ → Bool
is_parent held id = held || eqb id 0

-- such a C form is a table's
abbrev pub is_table : TableForm → Bool
is_table form = is_parent form.held form.parent

-- every call refuses a C form with 8 that is no table's, or whose table breaks a rule
unfoldable pub refused : TableForm → Bool
refused form = not (is_table form) || broken (table_of form)

-- the table that a C form is, and a refusal of what is no table's
abbrev pub tried : TableForm → Result Table Refusal
tried form = cond (is_table form) (Ok (table_of form)) (Err OutOfLimits)

-- the C form of the table without neighbours
abbrev pub empty_form : TableForm
empty_form = form_of empty_table

-- ---- the calls: the C form of the answer on the table that the C form is
-- the C form of an answer
abbrev pub answer_form : Answer → TableAnswer
answer_form answer = record { number = answer.number; table = form_of answer.table }

-- what is no table's is refused, and given back
abbrev pub refusal : TableForm → TableAnswer
refusal form = record { number = out_of_limits; table = form }

-- advertise
unfoldable pub advertised_form : TableForm → ℕ → ℕ → TableAnswer
advertised_form form id rank = if_on (is_table form) (answer_form (advertised (table_of form) id rank)) (refusal form)

-- report
unfoldable pub reported_form : TableForm → ℕ → ℕ → Bool → TableAnswer
reported_form form id attempts acked = if_on (is_table form) (answer_form (reported (table_of form) id attempts acked)) (refusal form)

-- forget
unfoldable pub forgotten_form : TableForm → ℕ → TableAnswer
forgotten_form form id = if_on (is_table form) (answer_form (forgotten (table_of form) id)) (refusal form)

-- the C form of an evaluation of a table: it says also whether the parent changed, and which is held afterwards
abbrev pub evaluation_form : Table → Evaluation → EvaluationAnswer
evaluation_form table evaluation =
    record {
      number = evaluation.number;
      changed = not (same_parent table.parent evaluation.table.parent);
      rank = evaluation.rank;
      held = mark_of evaluation.table.parent;
      parent = id_of evaluation.table.parent;
      table = form_of evaluation.table;
    }

-- a refused evaluation: nothing changed, the own rank 65535
abbrev pub evaluation_refusal : TableForm → EvaluationAnswer
evaluation_refusal form =
    record { number = out_of_limits; changed = false; rank = 65535; held = form.held; parent = form.parent; table = form }

-- evaluate
unfoldable pub evaluated_form : TableForm → EvaluationAnswer
evaluated_form form = if_on (is_table form) (evaluation_form (table_of form) (evaluated (table_of form))) (evaluation_refusal form)

-- the C form of what a log comes to
abbrev pub outcome_form : Outcome → ReplayAnswer
outcome_form outcome =
    record {
      number = outcome.number;
      applies = outcome.applies;
      evaluations = outcome.evaluations;
      changes = outcome.changes;
      rises = outcome.rises;
      first = outcome.first;
      last = outcome.last;
      table = form_of outcome.table;
    }

-- a refused replay: nothing counted
abbrev pub replay_refusal : TableForm → ReplayAnswer
replay_refusal form =
    record { number = out_of_limits; applies = false; evaluations = 0; changes = 0; rises = 0; first = 0; last = 0; table = form }

-- what C is told of a log's outcome that leaves this C form
abbrev pub outcome_told : TableForm → Result Ended Refusal → ReplayAnswer
outcome_told form (Ok ended) =
    record {
      number = done;
      applies = ended.applies;
      evaluations = ended.evaluations;
      changes = ended.changes;
      rises = ended.rises;
      first = ended.first;
      last = ended.last;
      table = form;
    }
outcome_told form (Err refusal) =
    record { number = number_of refusal; applies = false; evaluations = 0; changes = 0; rises = 0; first = 0; last = 0; table = form }

-- replay
unfoldable pub replayed_form : TableForm → Log → ReplayAnswer
replayed_form form log = if_on (is_table form) (outcome_form (replayed (table_of form) log)) (replay_refusal form)

-- ---- how the code goes: a change is stored, and this held parent is left
unfoldable pub stored_form : TableForm → Change → Option ℕ → TableAnswer
stored_form form change parent = if_on (is_table form) (answer_form (stored (table_of form) change parent)) (refusal form)

-- the number of the place that is stored, 32 for none
abbrev pub at_of : Option Store → ℕ
at_of None = 32
at_of (Some store) = store.at

-- and what is stored there
abbrev pub place_of : Option Store → Place
place_of None = blank
place_of (Some store) = store.place

-- the change of a number and of what is stored
abbrev pub change_with : ℕ → Option Store → Change
change_with number found = record { number = number; at = at_of found; place = place_of found }
