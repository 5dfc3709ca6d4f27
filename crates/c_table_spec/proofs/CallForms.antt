-- The laws of the exported calls: each way out, as the code meets it (the rulesets at the end). Assumes nothing.
use Rattle.std.proofs.Common.{Option, Some, None, Result, Ok, Err}
use Rattle.std.specs.Result.{result_ok}
use Prim.Native.Nat.{ℕ, ◌*◌, ◌+◌, ◌≤◌}
use native.Mathlib.Omega.{arith}
use mathlib.Core.Path.{◌≡◌, refl, sym, ap, subst, ◌∙◌}
use mathlib.Core.Bool.{Bool, true, false, not}
use mathlib.Core.Logic.{◌⊎◌, inl, inr, ⊎_elim}
use Rattle.std.specs.Option.{option_eq}
use lib.Dec.{eqb}
use lib.ListN.{length, replicate, set}
use Rattle.octets_spec.specs.Choice.{if_on}
use Rattle.octets_spec.proofs.ChoiceLaws.{by_test, if_off_lem, if_on_lem}
use Rattle.octets_spec.proofs.CountedLaws.{length_mapped}
use Rattle.refusal.specs.declared.Refusal.{Refusal}
use Rattle.refusal.specs.declared.Refusal.TheVariants.{OutOfLimits}
use Rattle.refusal.specs.Refusal.{number_in, number_of}
use Rattle.nbr_metric_spec.specs.declared.Place.{Place}
use Rattle.nbr_metric_spec.specs.Metric.{blank}
use Rattle.nbr_table_spec.specs.Places.{best}
use Rattle.nbr_table_spec.specs.Calls.{Answer, answer, broken, chosen, evaluated, held_place, id_of, mark_of, same_parent, with_parent, without}
use Rattle.nbr_table_spec.specs.Stores.{Change, change_of, advertising, forgetting, reporting, stored}
use Rattle.nbr_table_spec.specs.declared.Choice.{Choice}
use Rattle.nbr_table_spec.specs.declared.Store.{Store}
use Rattle.nbr_table_spec.specs.declared.Table.{Table}
use Rattle.nbr_table_spec.specs.declared.Settlement.{Settlement}
use Rattle.nbr_table_spec.specs.Offers.{settlement}
use Rattle.nbr_table_spec.proofs.PlaceLaws.{clash}
use Rattle.nbr_table_spec.proofs.CallLaws.{evaluated_broken, evaluated_done}
use Rattle.nbr_table_spec.proofs.StoreLaws.{advertised_stored, forgotten_stored, reported_stored, store_place, store_refused}
use Rattle.nbr_stability_spec.proofs.Bound.{same_self}
use Rattle.nbr_replay_spec.specs.declared.Outcome.{Outcome as Ended}
use Rattle.nbr_replay_spec.specs.Log.{Log, calls}
use Rattle.nbr_replay_spec.specs.Replay.{Outcome, outcome_of, replayed}
use Rattle.nbr_replay_spec.proofs.ReplayLaws.{replay_bound, replay_few, replay_is}
use Rattle.c_table_spec.specs.declared.TableForm.{TableForm}
use Rattle.c_table_spec.specs.declared.TableAnswer.{TableAnswer}
use Rattle.c_table_spec.specs.declared.EvaluationAnswer.{EvaluationAnswer}
use Rattle.c_table_spec.specs.declared.ReplayAnswer.{ReplayAnswer}
use Rattle.c_table_spec.specs.Table.{advertised_form, answer_form, change_with, empty_form, evaluated_form, evaluation_form, evaluation_refusal, forgotten_form, form_of, is_table, outcome_form, outcome_told, parent_of, refusal, refused, replay_refusal, replayed_form, reported_form, stored_form, table_of, tried}
use Rattle.c_table_spec.specs.Claims.{form_evaluations, none_refused_in_c}
use Rattle.c_table_spec.proofs.FormLaws.{tables_are_forms}
use Rattle.c_table_spec.proofs.Agree.{accepted, none_refused_in_c_lem}

-- ---- which C forms are refused
module _ (form : TableForm) where
  module _ (x : Bool) (e : x ≡ is_table form) where
    pub refused_stray : x ≡ false → true ≡ refused form
    unfolding refused
    refused_stray u = rw (← e, u)

    pub refused_broken : (y : Bool) (q : Option ℕ) → x ≡ true → q ≡ parent_of form.held form.parent → y ≡ broken (record { places = form.places; parent = q }) → y ≡ refused form
    unfolding refused
    refused_broken y q u f g = rw (← e, u) (g ∙ ap (λ (p : Option ℕ). broken (record { places = form.places; parent = p })) f)

-- the table without neighbours
pub empty_form_lem : (b : Place) → b ≡ blank → ◌≡◌ {A = TableForm} (record { places = replicate 32 b; held = false; parent = 0 }) empty_form
unfolding mark_of id_of
empty_form_lem b e = ap (λ (z : Place). record { places = replicate 32 z; held = false; parent = 0 }) e

-- two held parents are the same by std's equality
same_is : (p q : Option ℕ) → option_eq eqb p q ≡ same_parent p q
unfolding same_parent
same_is None None = refl
same_is None (Some other) = refl
same_is (Some id) None = refl
same_is (Some id) (Some other) = refl

-- ---- the calls
module _ (form : TableForm) (x : Bool) (e : x ≡ refused form) where
  -- a refused C form: the call gives it back
  module _ (u : x ≡ true) where
    given_back : (a : Answer) → (broken (table_of form) ≡ true → a ≡ answer 8 (table_of form)) → refusal form ≡ if_on (is_table form) (answer_form a) (refusal form)
    unfolding refused
    given_back a h =
        by_test (is_table form)
        (λ t.
        let b : broken (table_of form) ≡ true = rw t at (sym e ∙ u) in
        if_on_lem (answer_form a) (refusal form) (is_table form) t (ap refusal (sym (tables_are_forms form t)) ∙ ap answer_form (sym (h b))))
        (λ t. if_off_lem (answer_form a) (refusal form) (is_table form) t refl)

    pub evaluate_refused : evaluation_refusal form ≡ evaluated_form form
    unfolding evaluated_form refused
    evaluate_refused =
        by_test (is_table form)
        (λ t.
        let b : broken (table_of form) ≡ true = rw t at (sym e ∙ u) in
        let n : not (same_parent (table_of form).parent (table_of form).parent) ≡ false = rw (same_self (table_of form).parent) in
        if_on_lem (evaluation_form (table_of form) (evaluated (table_of form))) (evaluation_refusal form) (is_table form) t
        (ap evaluation_refusal (sym (tables_are_forms form t))
        ∙ ap (λ (z : Bool). record { number = 8; changed = z; rank = 65535; held = mark_of (table_of form).parent; parent = id_of (table_of form).parent; table = form_of (table_of form) }) (sym n)
        ∙ ap (evaluation_form (table_of form)) (evaluated_broken (table_of form) true (sym b) refl)))
        (λ t. if_off_lem (evaluation_form (table_of form) (evaluated (table_of form))) (evaluation_refusal form) (is_table form) t refl)

  -- one that is not refused
  module _ (u : x ≡ false) where
    is : is_table form ≡ true
    is = (accepted form (sym e ∙ u)).0

    fine : broken (table_of form) ≡ false
    fine = (accepted form (sym e ∙ u)).1

    pub evaluate_done : (q : Option ℕ) (w : Settlement) (changed : Bool) (after : TableForm) → q ≡ parent_of form.held form.parent → w ≡ settlement form.places q → changed ≡ not (option_eq eqb q w.choice.parent) → after ≡ record { places = form.places; held = mark_of w.choice.parent; parent = id_of w.choice.parent }
        → ◌≡◌ {A = EvaluationAnswer} (record { number = 0; changed = changed; rank = w.choice.rank; held = after.held; parent = after.parent; table = after }) (evaluated_form form)
    unfolding evaluated_form
    evaluate_done q w changed after g f₀ s m =
        let c : Choice = w.choice in
        let f : c ≡ chosen q (held_place q form.places) (best form.places) = ap (λ (z : Settlement). z.choice) f₀ in
        let f₂ : c ≡ chosen (table_of form).parent (held_place (table_of form).parent form.places) (best form.places) = f ∙ ap (λ (z : Option ℕ). chosen z (held_place z form.places) (best form.places)) g in
        let s₂ : changed ≡ not (same_parent (table_of form).parent c.parent) = s ∙ ap not (same_is q c.parent) ∙ ap (λ (z : Option ℕ). not (same_parent z c.parent)) g in
        let y = evaluated_done (table_of form) (broken (table_of form)) refl c (with_parent (table_of form) c.parent) fine f₂ refl in
        if_on_lem (evaluation_form (table_of form) (evaluated (table_of form))) (evaluation_refusal form) (is_table form) is
        ((λ i. record { number = 0; changed = s₂ i; rank = c.rank; held = (m i).held; parent = (m i).parent; table = m i }) ∙ ap (evaluation_form (table_of form)) y)

-- ---- a change is stored
module _ (form : TableForm) (c : Change) (q : Option ℕ) (x : Bool) (e : x ≡ refused form) where
  pub store_none : x ≡ true → refusal form ≡ stored_form form c q
  unfolding stored_form
  store_none u = given_back form x e u (stored (table_of form) c q) (λ b. sym (store_refused (table_of form) c q true (sym b) refl))

  pub store_put : x ≡ false → (after : TableForm) → after.places ≡ set form.places c.at c.place → after.held ≡ mark_of q → after.parent ≡ id_of q → record { number = c.number; table = after } ≡ stored_form form c q
  unfolding stored_form
  store_put u after p h i =
      let a = accepted form (sym e ∙ u) in
      (λ j. record { number = c.number; table = record { places = p j; held = h j; parent = i j } })
      ∙ if_on_lem (answer_form (stored (table_of form) c q)) (refusal form) (is_table form) a.0
      (ap answer_form (store_place (table_of form) c q (broken (table_of form)) refl a.1))

-- the change of a call's number and of what it stores is the call's
pub change_is : (found : Result Store Refusal) (number : ℕ) (o : Option Store) → number ≡ number_in found → o ≡ result_ok found → change_with number o ≡ change_of found
change_is (Ok store) number o n m = rw (n, m)
change_is (Err r) number o n m = rw (n, m)

module _ (form : TableForm) (id : ℕ) (c : Change) (l : length form.places ≡ 32) (r : TableAnswer) where
  by_answer : (q : Option ℕ) (a : Answer) → r ≡ stored_form form c q → stored (table_of form) c q ≡ a → r ≡ if_on (is_table form) (answer_form a) (refusal form)
  unfolding stored_form
  by_answer q a s e = s ∙ ap (λ (z : Answer). if_on (is_table form) (answer_form z) (refusal form)) e

  module _ (q : Option ℕ) (g : q ≡ parent_of form.held form.parent) where
    pub advertise_form : (rank : ℕ) → c ≡ advertising form.places id rank → r ≡ stored_form form c q → r ≡ advertised_form form id rank
    unfolding advertised_form
    advertise_form rank e s = by_answer q _ s (ap (stored (table_of form) c) g ∙ ap (λ (z : Change). stored (table_of form) z (table_of form).parent) e ∙ advertised_stored (table_of form) l id rank)

    pub report_form : (attempts : ℕ) (acked : Bool) → c ≡ reporting form.places id attempts acked → r ≡ stored_form form c q → r ≡ reported_form form id attempts acked
    unfolding reported_form
    report_form attempts acked e s = by_answer q _ s (ap (stored (table_of form) c) g ∙ ap (λ (z : Change). stored (table_of form) z (table_of form).parent) e ∙ reported_stored (table_of form) l id attempts acked)

    pub forget_form : (p : Option ℕ) → c ≡ forgetting form.places id → p ≡ without id q → r ≡ stored_form form c p → r ≡ forgotten_form form id
    unfolding forgotten_form
    forget_form p e h s = by_answer p _ s (ap (stored (table_of form) c) (h ∙ ap (without id) g) ∙ ap (λ (z : Change). stored (table_of form) z (without id (table_of form).parent)) e ∙ forgotten_stored (table_of form) l id)

-- ---- the replay
module _ (form : TableForm) (l : Log) where
  was_tried : (t : Table) → tried form ≡ Ok t → (is_table form ≡ true) × (t ≡ table_of form)
  was_tried t e = by_test (is_table form) (λ h. (h, let g : Ok (table_of form) ≡ Ok t = rw h at e in cc)) (λ h. absurd (let g : Err OutOfLimits ≡ Ok t = rw h at e in cc))

  was_stray : (r : Refusal) → tried form ≡ Err r → (is_table form ≡ false) × (r ≡ OutOfLimits)
  was_stray r e = by_test (is_table form) (λ h. absurd (let g : Ok (table_of form) ≡ Err r = rw h at e in cc)) (λ h. (h, let g : Err OutOfLimits ≡ Err r = rw h at e in cc))

  -- what C is told of a table's C form is the C form of the answer
  told_is : (t : Table) (o : Result Ended Refusal) → outcome_told (form_of t) o ≡ outcome_form (outcome_of t o)
  told_is t (Ok ended) = refl
  told_is t (Err r) = refl

  module _ (s : Result Table Refusal) (e : s ≡ tried form) where
    pub replay_stray : (r : Refusal) → s ≡ Err r → outcome_told form (Err r) ≡ replayed_form form l
    unfolding replayed_form
    replay_stray r u =
        let w = was_stray r (sym e ∙ u) in
        if_off_lem (outcome_form (replayed (table_of form) l)) (replay_refusal form) (is_table form) w.0 (ap (λ (z : Refusal). outcome_told form (Err z)) w.1)

    pub replay_done : (t left : Table) (after : TableForm) (o : Result Ended Refusal) → s ≡ Ok t → outcome_of left o ≡ replayed t l → after ≡ form_of left → outcome_told after o ≡ replayed_form form l
    unfolding replayed_form
    replay_done t left after o u f g =
        let w = was_tried t (sym e ∙ u) in
        if_on_lem (outcome_form (replayed (table_of form) l)) (replay_refusal form) (is_table form) w.0
        (ap (λ (z : TableForm). outcome_told z o) g ∙ told_is left o ∙ ap outcome_form f ∙ ap (λ (z : Table). outcome_form (replayed z l)) w.1)

  -- the answer that C gets of a refusal
  pub replay_refused : (after : TableForm) (r : Refusal) (n : ℕ) → outcome_told after (Err r) ≡ replayed_form form l → n ≡ number_of r
      → ◌≡◌ {A = ReplayAnswer} (record { number = n; applies = false; evaluations = 0; changes = 0; rises = 0; first = 0; last = 0; table = after }) (replayed_form form l)
  replay_refused after r n e f = (λ i. record { number = f i; applies = false; evaluations = 0; changes = 0; rises = 0; first = 0; last = 0; table = after }) ∙ e

  -- what the theorems say of an answer
  module _ (r : ReplayAnswer) (e : r ≡ replayed_form form l) where
    is_replay : (r ≡ replay_refusal form) ⊎ ((is_table form ≡ true) × (r ≡ outcome_form (replayed (table_of form) l)))
    unfolding replayed_form if_on
    is_replay = by_test (is_table form) (λ t. inr (t, rw t at e)) (λ t. inl (rw t at e))

    says : (P : ReplayAnswer → Type 0) → P (replay_refusal form) → (is_table form ≡ true → P (outcome_form (replayed (table_of form) l))) → P r
    says P a b = ⊎_elim (λ f. subst P (sym f) a) (λ f. subst P (sym f.1) (b f.0)) is_replay

    pub replay_form_says : (r ≡ replayed_form form l) × ((r.applies ≡ true → 641 * r.changes + r.last ≤ r.first + r.rises) × ((r.applies ≡ true → r.rises ≡ 0 → r.changes ≤ 101) × (r.number ≡ 0 → none_refused_in_c (form_evaluations form (calls l)) ≡ true)))
    unfolding refused
    replay_form_says = (
      e,
      (
        says (λ z. z.applies ≡ true → 641 * z.changes + z.last ≤ z.first + z.rises) (λ h. clash false h refl) (λ t. replay_bound (table_of form) l (replayed (table_of form) l) refl),
        (
          says (λ z. z.applies ≡ true → z.rises ≡ 0 → z.changes ≤ 101) (λ h. clash false h refl) (λ t. replay_few (table_of form) l (replayed (table_of form) l) refl),
          says (λ z. z.number ≡ 0 → none_refused_in_c (form_evaluations form (calls l)) ≡ true) (λ h. absurd (omega arith))
              (λ t h.
              ⊎_elim (λ f. absurd (let z : (replayed (table_of form) l).number ≡ 8 = ap (λ (o : Outcome). o.number) f in omega arith)) (λ f. none_refused_in_c_lem form (calls l) (rw (t, f.0)))
              (replay_is (table_of form) l (replayed (table_of form) l) refl)),
        ),
      ),
    )

pub ruleset formWays = (refused_stray, refused_broken, length_mapped, store_none, store_put)

pub ruleset callWays = (length_mapped, empty_form_lem, evaluate_refused, advertise_form, report_form, forget_form, evaluate_done)
