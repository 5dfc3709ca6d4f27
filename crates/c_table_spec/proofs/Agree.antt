-- What holds of lists of calls on tables holds of the calls that C makes. Assumes nothing.
use Prim.Native.Nat.{ℕ, ◌+◌}
use mathlib.Core.Path.{◌≡◌, refl, sym, ap, ap₂, subst, ◌∙◌}
use mathlib.Core.Bool.{Bool, true, false, cond, not, ◌&&◌, and-eq-true_iff}
use mathlib.Core.List.{List, [], ◌∷◌}
use lib.Dec.{eqb, ltb}
use borrow.Author.Tests.{not-true, not-false}
use Rattle.octets_spec.specs.Choice.{if_on, if_lt}
use Rattle.octets_spec.proofs.ChoiceLaws.{by_test}
use Rattle.nbr_table_spec.proofs.PlaceLaws.{neither}
use Rattle.nbr_table_spec.specs.Places.{known, some_place, free}
use Rattle.nbr_table_spec.specs.declared.Table.{Table}
use Rattle.nbr_table_spec.specs.Calls.{advertised, broken, evaluated, forgotten, reported, same_parent}
use Rattle.nbr_stability_spec.specs.Stability.{Call, EntryExit, after, some_evaluation, applies, changes, each_eligible, evaluations, none_refused}
use Rattle.nbr_stability_spec.specs.Stability.Call.{Advertise, Report, Forget, Evaluate}
use Rattle.nbr_stability_spec.proofs.Bound.{at_most_101_changes, none_refused_lem, parents_do_not_flap}
use Rattle.c_table_spec.specs.declared.TableForm.{TableForm}
use Rattle.c_table_spec.specs.Table.{advertised_form, evaluated_form, forgotten_form, form_of, is_table, refused, reported_form, table_of}
use Rattle.c_table_spec.specs.Claims.{AtMost101ChangesInC, CallsAgree, ChangesAreFlagged, EvaluationsAgree, NoneRefusedInC, ParentsDoNotFlapInC, RefusalsChangeNothing, applies_in_c, as_tables, flagged, form_after, form_evaluations, none_refused_in_c, number_after}
use Rattle.c_table_spec.proofs.FormLaws.{forms_are_tables, tables_are_forms}

-- ---- one call of the rules that is refused gives back its table
number_on : Table → Call → ℕ
number_on table (Advertise id rank) = (advertised table id rank).number
number_on table (Report id attempts acked) = (reported table id attempts acked).number
number_on table (Forget id) = (forgotten table id).number
number_on table Evaluate = (evaluated table).number

refused_same : (table : Table) (call : Call) → (number_on table call ≡ 0 → ⊥) → after table call ≡ table
unfolding number_on after advertised reported forgotten evaluated if_on if_lt
refused_same table (Advertise id rank) h =
    by_test (broken table) (λ b. rw (after, b))
    (λ b. by_test (known id table.places) (λ k. absurd (h (rw (number_on, b, k))))
    (λ k. by_test (some_place free table.places) (λ f. absurd (h (rw (number_on, b, k, f)))) (λ f. rw (after, b, k, f))))
refused_same table (Report id attempts acked) h =
    by_test (broken table) (λ b. rw (after, b))
    (λ b. by_test (ltb attempts 1) (λ l. rw (after, b, l))
    (λ l. by_test (ltb 4 attempts) (λ m. rw (after, b, l, m))
    (λ m. by_test (known id table.places) (λ k. absurd (h (rw (number_on, b, l, m, k)))) (λ k. rw (after, b, l, m, k)))))
refused_same table (Forget id) h =
    by_test (broken table) (λ b. rw (after, b)) (λ b. by_test (known id table.places) (λ k. absurd (h (rw (number_on, b, k)))) (λ k. rw (after, b, k)))
refused_same table Evaluate h = by_test (broken table) (λ b. rw (after, b)) (λ b. absurd (h (rw (number_on, b))))

-- ---- one call in C
on_table : (form : TableForm) (call : Call) → is_table form ≡ true → (form_after form call ≡ form_of (after (table_of form) call)) × (number_after form call ≡ number_on (table_of form) call)
unfolding form_after number_after number_on after advertised_form reported_form forgotten_form evaluated_form if_on
on_table form (Advertise id rank) h = (rw (form_after, h), rw (number_after, h))
on_table form (Report id attempts acked) h = (rw (form_after, h), rw (number_after, h))
on_table form (Forget id) h = (rw (form_after, h), rw (number_after, h))
on_table form Evaluate h = (rw (form_after, h), rw (number_after, h))

off_table : (form : TableForm) (call : Call) → is_table form ≡ false → form_after form call ≡ form
unfolding form_after advertised_form reported_form forgotten_form evaluated_form if_on
off_table form (Advertise id rank) h = rw (form_after, h)
off_table form (Report id attempts acked) h = rw (form_after, h)
off_table form (Forget id) h = rw (form_after, h)
off_table form Evaluate h = rw (form_after, h)

pub refusals_change_nothing : RefusalsChangeNothing
refusals_change_nothing form call h =
    by_test (is_table form)
    (λ e. (on_table form call e).0 ∙ ap form_of (refused_same (table_of form) call (λ n. h ((on_table form call e).1 ∙ n))) ∙ tables_are_forms form e) (off_table form call)

pub calls_agree : CallsAgree
calls_agree form call h =
    subst (λ (f : TableForm). (table_of f ≡ after (table_of form) call) × (is_table f ≡ true)) (sym (on_table form call h).0) (forms_are_tables (after (table_of form) call))

-- ---- lists of calls
-- what holds behind a call in C, said of the call of the rules
behind : (form : TableForm) (call : Call) (calls : List Call) → is_table form ≡ true → (visits : List EntryExit) → visits ≡ evaluations (table_of (form_after form call)) calls → visits ≡ evaluations (after (table_of form) call) calls
behind form call calls h visits e = e ∙ ap (λ (t : Table). evaluations t calls) (calls_agree form call h).0

pub evaluations_agree : EvaluationsAgree
unfolding form_evaluations evaluations
evaluations_agree form [] h = refl
evaluations_agree form (Advertise id rank ∷ calls) h = behind form (Advertise id rank) calls h _ (evaluations_agree (form_after form (Advertise id rank)) calls (calls_agree form (Advertise id rank) h).1)
evaluations_agree form (Report id attempts acked ∷ calls) h = behind form (Report id attempts acked) calls h _ (evaluations_agree (form_after form (Report id attempts acked)) calls (calls_agree form (Report id attempts acked) h).1)
evaluations_agree form (Forget id ∷ calls) h = behind form (Forget id) calls h _ (evaluations_agree (form_after form (Forget id)) calls (calls_agree form (Forget id) h).1)
evaluations_agree form (Evaluate ∷ calls) h =
    ap₂ (λ (t : Table) (visits : List EntryExit). record { entry = table_of form; exit = t } ∷ visits) (calls_agree form Evaluate h).0
    (behind form Evaluate calls h _ (evaluations_agree (form_after form Evaluate) calls (calls_agree form Evaluate h).1))

-- what an evaluation in C says beside the table
module _ (form : TableForm) (h : is_table form ≡ true) where
  number_set : (evaluated_form form).number ≡ (evaluated (table_of form)).number
  unfolding evaluated_form if_on
  number_set = rw h

  flag_set : (evaluated_form form).changed ≡ not (same_parent (table_of form).parent (evaluated (table_of form)).table.parent)
  unfolding evaluated_form if_on
  flag_set = rw h

-- a change, counted by the flag and by the parents
one_change : (same : Bool) → ◌≡◌ {A = ℕ} (cond (not same) 1 0) (cond same 0 1)
one_change true = refl
one_change false = refl

flag : (form : TableForm) → is_table form ≡ true → ◌≡◌ {A = ℕ} (cond (evaluated_form form).changed 1 0) (cond (same_parent (table_of form).parent (table_of (form_after form Evaluate)).parent) 0 1)
unfolding after
flag form h =
    ap (λ (b : Bool). cond b 1 0) (flag_set form h) ∙ one_change (same_parent (table_of form).parent (evaluated (table_of form)).table.parent)
    ∙ ap (λ (t : Table). cond (same_parent (table_of form).parent t.parent) 0 1) (sym (calls_agree form Evaluate h).0)

pub changes_are_flagged : ChangesAreFlagged
unfolding form_evaluations flagged changes
changes_are_flagged form [] h = refl
changes_are_flagged form (Advertise id rank ∷ calls) h = changes_are_flagged (form_after form (Advertise id rank)) calls (calls_agree form (Advertise id rank) h).1
changes_are_flagged form (Report id attempts acked ∷ calls) h = changes_are_flagged (form_after form (Report id attempts acked)) calls (calls_agree form (Report id attempts acked) h).1
changes_are_flagged form (Forget id ∷ calls) h = changes_are_flagged (form_after form (Forget id)) calls (calls_agree form (Forget id) h).1
changes_are_flagged form (Evaluate ∷ calls) h = ap₂ ◌+◌ (flag form h) (changes_are_flagged (form_after form Evaluate) calls (calls_agree form Evaluate h).1)

-- ---- the claims
-- a C form that is not refused is a table's, and its table breaks no rule
pub accepted : (form : TableForm) → refused form ≡ false → (is_table form ≡ true) × (broken (table_of form) ≡ false)
unfolding refused
accepted form h = let n = neither (not (is_table form)) (broken (table_of form)) h in (not-false (is_table form) n.0, n.1)

module _ (form : TableForm) (calls : List Call) (h : applies_in_c form calls ≡ true) where
  parts : (refused form ≡ false) × (some_evaluation (as_tables (form_evaluations form calls)) && each_eligible (as_tables (form_evaluations form calls)) ≡ true)
  unfolding applies_in_c
  parts =
      let k = (and-eq-true_iff (not (refused form)) (some_evaluation (as_tables (form_evaluations form calls)) && each_eligible (as_tables (form_evaluations form calls)))).0 h in
      (not-true (refused form) k.0, k.1)

  is : is_table form ≡ true
  is = (accepted form parts.0).0

  same : as_tables (form_evaluations form calls) ≡ evaluations (table_of form) calls
  same = evaluations_agree form calls is

  applied : applies (table_of form) calls ≡ true
  unfolding applies
  applied = rw ((accepted form parts.0).1, ← same) parts.1

pub parents_do_not_flap_in_c : ParentsDoNotFlapInC
parents_do_not_flap_in_c form calls h =
    rw (changes_are_flagged form calls (is form calls h), same form calls h) (parents_do_not_flap (table_of form) calls (applied form calls h))

pub at_most_101_changes_in_c : AtMost101ChangesInC
at_most_101_changes_in_c form calls h r =
    let e = same form calls h in
    rw (changes_are_flagged form calls (is form calls h), e) (at_most_101_changes (table_of form) calls (applied form calls h) (rw e at r))

-- the evaluations in C answer with the numbers of the rules
numbers : (form : TableForm) (calls : List Call) → is_table form ≡ true → none_refused_in_c (form_evaluations form calls) ≡ none_refused (as_tables (form_evaluations form calls))
unfolding form_evaluations none_refused_in_c none_refused
numbers form [] h = refl
numbers form (Advertise id rank ∷ calls) h = numbers (form_after form (Advertise id rank)) calls (calls_agree form (Advertise id rank) h).1
numbers form (Report id attempts acked ∷ calls) h = numbers (form_after form (Report id attempts acked)) calls (calls_agree form (Report id attempts acked) h).1
numbers form (Forget id ∷ calls) h = numbers (form_after form (Forget id)) calls (calls_agree form (Forget id) h).1
numbers form (Evaluate ∷ calls) h = ap₂ (λ (n : ℕ) (b : Bool). eqb n 0 && b) (number_set form h) (numbers (form_after form Evaluate) calls (calls_agree form Evaluate h).1)

pub none_refused_in_c_lem : NoneRefusedInC
none_refused_in_c_lem form calls h =
    let a = accepted form h in
    numbers form calls a.0 ∙ ap none_refused (evaluations_agree form calls a.0) ∙ none_refused_lem (table_of form) calls a.1
