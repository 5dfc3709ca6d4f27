-- What holds of tables in C: the two forms are inverses of each other, and what is proved of lists of calls on tables holds of the
-- calls that C makes, one after the other, each on the table that the one before gave back (docs/RULES.md, C interface). Assumes nothing.
use Rattle.std.specs.Prelude.{ℕ, ◌+◌, ◌*◌, ◌≤◌, ◌≡◌, Bool, true, false, cond, not, ◌&&◌, List, [], ◌∷◌, map, eqb}
use Rattle.refusal.specs.Refusal.{done, out_of_limits}
use Rattle.nbr_table_spec.specs.declared.Table.{Table}
use Rattle.nbr_soundness_spec.specs.Witness.{full_table, two_neighbours}
use Rattle.nbr_stability_spec.specs.Stability.{Call, EntryExit, after, some_evaluation, changes, each_eligible, evaluations, first_cost, last_cost, rises}
use Rattle.nbr_stability_spec.specs.Stability.Call.{Advertise, Report, Forget, Evaluate}
use Rattle.c_table_spec.specs.declared.TableForm.{TableForm}
use Rattle.c_table_spec.specs.Table.{advertised_form, empty_form, evaluated_form, forgotten_form, form_of, is_table, refused, reported_form, table_of}

-- ---- the two forms
-- the C form of a table is a table's, and that table's
abbrev pub FormsAreTables : Type 0
FormsAreTables = (table : Table) → (table_of (form_of table) ≡ table) × (is_table (form_of table) ≡ true)

-- a C form that is a table's is the C form of that table
abbrev pub TablesAreForms : Type 0
TablesAreForms = (form : TableForm) → is_table form ≡ true → form_of (table_of form) ≡ form

-- ---- one call
-- the table that a call gives back to C
unfoldable pub form_after : TableForm → Call → TableForm
form_after form (Advertise id rank) = (advertised_form form id rank).table
form_after form (Report id attempts acked) = (reported_form form id attempts acked).table
form_after form (Forget id) = (forgotten_form form id).table
form_after form Evaluate = (evaluated_form form).table

-- the number that it gives
unfoldable pub number_after : TableForm → Call → ℕ
number_after form (Advertise id rank) = (advertised_form form id rank).number
number_after form (Report id attempts acked) = (reported_form form id attempts acked).number
number_after form (Forget id) = (forgotten_form form id).number
number_after form Evaluate = (evaluated_form form).number

-- a refused call gives back what it was given, a table's C form or not
abbrev pub RefusalsChangeNothing : Type 0
RefusalsChangeNothing = (form : TableForm) (call : Call) → (number_after form call ≡ done → ⊥) → form_after form call ≡ form

-- a call in C does to the table what the call of the rules does, and gives back a table's C form
abbrev pub CallsAgree : Type 0
CallsAgree =
    (form : TableForm) (call : Call) → is_table form ≡ true →
    (table_of (form_after form call) ≡ after (table_of form) call) × (is_table (form_after form call) ≡ true)

-- ---- lists of calls
-- what an evaluation gets from C and gives back to C
pub record FormEntryExit : Type 0 where
  pub entry : TableForm
  pub exit : TableForm

-- the evaluations of a list of calls in C
unfoldable pub form_evaluations : TableForm → List Call → List FormEntryExit
form_evaluations form [] = []
form_evaluations form (Advertise id rank ∷ calls) = form_evaluations (form_after form (Advertise id rank)) calls
form_evaluations form (Report id attempts acked ∷ calls) = form_evaluations (form_after form (Report id attempts acked)) calls
form_evaluations form (Forget id ∷ calls) = form_evaluations (form_after form (Forget id)) calls
form_evaluations form (Evaluate ∷ calls) =
    record { entry = form; exit = form_after form Evaluate } ∷ form_evaluations (form_after form Evaluate) calls

-- the same as tables
abbrev pub as_table : FormEntryExit → EntryExit
as_table visit = record { entry = table_of visit.entry; exit = table_of visit.exit }

-- all of them as tables
abbrev pub as_tables : List FormEntryExit → List EntryExit
as_tables visits = map as_table visits

-- the evaluations in C are those of the rules
abbrev pub EvaluationsAgree : Type 0
EvaluationsAgree =
    (form : TableForm) (calls : List Call) → is_table form ≡ true →
    as_tables (form_evaluations form calls) ≡ evaluations (table_of form) calls

-- how many evaluations answered C that the parent changed
unfoldable pub flagged : List FormEntryExit → ℕ
flagged [] = 0
flagged (visit ∷ visits) = cond (evaluated_form visit.entry).changed 1 0 + flagged visits

-- C is told of every change of the parent, and of no other
abbrev pub ChangesAreFlagged : Type 0
ChangesAreFlagged =
    (form : TableForm) (calls : List Call) → is_table form ≡ true →
    flagged (form_evaluations form calls) ≡ changes (as_tables (form_evaluations form calls))

-- ---- parents do not flap, said of C's own calls
-- what the claim is about: a table that is not refused, at least one evaluation, an eligible parent on entry to each
unfoldable pub applies_in_c : TableForm → List Call → Bool
applies_in_c form calls =
    let visits = as_tables (form_evaluations form calls) in not (refused form) && (some_evaluation visits && each_eligible visits)

-- no evaluation answered a refusal
unfoldable pub none_refused_in_c : List FormEntryExit → Bool
none_refused_in_c [] = true
none_refused_in_c (visit ∷ visits) = eqb (evaluated_form visit.entry).number 0 && none_refused_in_c visits

-- the claim
abbrev pub ParentsDoNotFlapInC : Type 0
ParentsDoNotFlapInC =
    (form : TableForm) (calls : List Call) → applies_in_c form calls ≡ true →
    let visits = as_tables (form_evaluations form calls) in
    641 * flagged (form_evaluations form calls) + last_cost visits ≤ first_cost visits + rises visits

-- without rises C is told of at most 101 changes
abbrev pub AtMost101ChangesInC : Type 0
AtMost101ChangesInC =
    (form : TableForm) (calls : List Call) → applies_in_c form calls ≡ true → rises (as_tables (form_evaluations form calls)) ≡ 0 →
    flagged (form_evaluations form calls) ≤ 101

-- no evaluation of a list is refused, whose first table is not
abbrev pub NoneRefusedInC : Type 0
NoneRefusedInC =
    (form : TableForm) (calls : List Call) → refused form ≡ false → none_refused_in_c (form_evaluations form calls) ≡ true

-- ---- lists and tables that meet what the theorems ask for; the checker computes each line
-- no table's C form: an identifier, and no parent held
abbrev pub stray_form : TableForm
stray_form = record { places = empty_form.places; held = false; parent = 5 }

-- an evaluation changes the parent of a table that is not refused, and tells C so; a new neighbour is refused by a full table with
-- 11; what is no table's C form is refused with 8
abbrev pub Witnessed : Type 0
Witnessed =
    (is_table (form_of (two_neighbours 1408 767)) ≡ true)
    × (applies_in_c (form_of (two_neighbours 1408 767)) (Evaluate ∷ []) ≡ true)
    × (rises (as_tables (form_evaluations (form_of (two_neighbours 1408 767)) (Evaluate ∷ []))) ≡ 0)
    × (flagged (form_evaluations (form_of (two_neighbours 1408 767)) (Evaluate ∷ [])) ≡ 1)
    × (number_after (form_of full_table) (Advertise 99 256) ≡ 11)
    × (is_table stray_form ≡ false)
    × (number_after stray_form Evaluate ≡ out_of_limits)
