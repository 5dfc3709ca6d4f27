-- What a log of calls comes to, in the words of the claim that parents do not flap (docs/RULES.md, Parents do not flap). Assumes
-- nothing.
use Rattle.std.specs.Prelude.{ℕ, Bool, false, List, [], ◌∷◌, length, Result, Ok, Err}
use Rattle.octets_spec.specs.Choice.{if_on}
use Rattle.refusal.specs.declared.Refusal.{Refusal}
use Rattle.refusal.specs.Refusal.{done, number_of, out_of_limits}
use Rattle.nbr_table_spec.specs.declared.Table.{Table}
use Rattle.nbr_table_spec.specs.Calls.{broken}
use Rattle.nbr_stability_spec.specs.Stability.{Call, after, applies, changes, evaluations, first_cost, last_cost, rises}
use Rattle.nbr_replay_spec.specs.declared.Outcome.{Outcome as Ended}
use Rattle.nbr_replay_spec.specs.Log.{Log, calls, unfit_log}

-- what an answer says: its number, the table at the end, how many evaluations there were, how many of them changed the parent, all rises
-- of the held parent's cost between one evaluation and the next, its cost on entry to the first and on exit from the last, and whether
-- the claim applies
pub record Outcome : Type 0 where
  pub number : ℕ
  pub table : Table
  pub evaluations : ℕ
  pub changes : ℕ
  pub rises : ℕ
  pub first : ℕ
  pub last : ℕ
  pub applies : Bool

-- the table at the end of a list of calls
unfoldable pub final : Table → List Call → Table
final table [] = table
final table (call ∷ calls) = final (after table call) calls

-- a refusal: the table as it was, and all counts 0
abbrev pub refused_replay : ℕ → Table → Outcome
refused_replay number table =
    record { number = number; table = table; evaluations = 0; changes = 0; rises = 0; first = 0; last = 0; applies = false }

-- what a list of calls comes to
abbrev pub outcome : Table → List Call → Outcome
outcome table calls =
    record {
      number = done;
      table = final table calls;
      evaluations = length (evaluations table calls);
      changes = changes (evaluations table calls);
      rises = rises (evaluations table calls);
      first = first_cost (evaluations table calls);
      last = last_cost (evaluations table calls);
      applies = applies table calls;
    }

-- the answer: a table or a log that is refused is 8
unfoldable pub replayed : Table → Log → Outcome
replayed table rows = if_on (broken table) (refused_replay out_of_limits table) (if_on (unfit_log rows) (refused_replay out_of_limits table) (outcome table (calls rows)))

-- what an answer of code says that leaves this table
abbrev pub outcome_of : Table → Result Ended Refusal → Outcome
outcome_of table (Ok ended) =
    record {
      number = done;
      table = table;
      evaluations = ended.evaluations;
      changes = ended.changes;
      rises = ended.rises;
      first = ended.first;
      last = ended.last;
      applies = ended.applies;
    }
outcome_of table (Err refusal) = refused_replay (number_of refusal) table
