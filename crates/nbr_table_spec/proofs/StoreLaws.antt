-- The laws of what advertise, report and forget store: each way out, as the code meets it (the rulesets at the end), and that the
-- table so stored is the one of the rules. Assumes nothing.
use Rattle.std.proofs.Common.{Option, Some, None, Result, Ok, Err, IfSome}
use Rattle.std.specs.Option.{ok_or}
use Rattle.refusal.specs.declared.Refusal.{Refusal}
use Rattle.refusal.specs.declared.Refusal.TheVariants.{TableFull, UnknownNeighbour}
use Rattle.refusal.specs.Refusal.{number_of}
use Rattle.nbr_table_spec.specs.declared.Found.{Found as FoundGiven}
use mathlib.Core.Logic.{◌⊎◌, ⊎_elim}
use Prim.Native.Nat.{ℕ, ◌<◌, ◌≤◌}
use mathlib.Core.Path.{◌≡◌, refl, sym, ap, subst, ◌∙◌}
use mathlib.Core.Bool.{Bool, true, false, ◌||◌}
use mathlib.Core.List.{List}
use native.Mathlib.Omega.{arith}
use lib.ListN.{length, get_or, set}
use lib.Seq.{set_out}
use lib.Dec.{eqb}
use borrow.Author.Tests.{eqb-true, le-ltb, lt-ltb, not-false}
use Rattle.octets_spec.specs.Choice.{if_eq, if_lt, if_on}
use Rattle.octets_spec.proofs.ChoiceLaws.{by_lt, by_test, choices}
use Rattle.octets_spec.proofs.CountedLaws.{length_mapped}
use Rattle.nbr_metric_spec.specs.declared.Place.{Place}
use Rattle.nbr_metric_spec.specs.Metric.{blank}
use Rattle.nbr_table_spec.specs.Calls.{Answer, advertised, answer, broken, forgotten, parent_missing, reported, without}
use Rattle.nbr_table_spec.specs.Stores.{Change, Found, found_of, index_in, advertising, change, first, forgetting, found, free_index, index_of, refusing, reporting, stored}
use Rattle.nbr_table_spec.specs.declared.Table.{Table}
use Rattle.nbr_table_spec.specs.Places.{change_first, free, known, named, nonzero, some_place, twice, unfit}
use Rattle.nbr_table_spec.specs.Changes.{attempted, newcomer, with_rank}
use Rattle.nbr_table_spec.proofs.PlaceLaws.{clash, missing, neither, none_at, present, set_first}
use Rattle.nbr_table_spec.proofs.CallLaws.{attempted_halved, attempted_plain, fit_attempts, fit_acked}

-- ---- the code of each call
abbrev error_in : Refusal → Result ℕ Refusal → Refusal
error_in r (Ok x) = r
error_in r (Err z) = z

abbrev done_in : Result ℕ Refusal → ℕ
done_in (Ok x) = 1
done_in (Err z) = 0

-- what `ok_or` refuses
refused_none : (o : Option ℕ) (r z : Refusal) → ◌≡◌ {A = Result ℕ Refusal} (Err z) (ok_or o r) → (o ≡ None) × (z ≡ r)
refused_none None r z e = (refl, ap (error_in r) e)
refused_none (Some x) r z e = let h : ◌≡◌ {A = ℕ} 0 1 = ap done_in e in absurd (omega arith)

module _ (ps : List Place) (n : ℕ) (f : FoundGiven) (s : found_of f ≡ found n ps) where
  index : index_in f.at ≡ index_of n ps
  index = ap (λ (z : Found). z.at) s

  unused : index_in f.unused ≡ free_index ps
  unused = ap (λ (z : Found). z.unused) s

  module _ (at : ℕ) (h : f.at ≡ Some at) (i : IfSome f.at (λ at. at < 32)) where
    w : at < 32
    w = subst (λ (z : Option ℕ). IfSome z (λ at. at < 32)) h i

    here : at ≡ index_of n ps
    here = sym (ap index_in h) ∙ index

    pub advertising_known : (rank : ℕ) (p : Place) → p ≡ with_rank rank (get_or ps at blank) → change 0 at p ≡ advertising ps n rank
    unfolding advertising
    advertising_known rank p g = rw (← here) (let k : change 0 at p ≡ change 0 at (with_rank rank (get_or ps at blank)) = ap (change 0 at) g in let v = w in search choices)

    pub forgetting_known : (b : Place) → b ≡ blank → change 0 at b ≡ forgetting ps n
    unfolding forgetting
    forgetting_known b g = rw (← here) (let k : change 0 at b ≡ change 0 at blank = ap (change 0 at) g in let v = w in search choices)

    module _ (k : ℕ) (ok : Bool) (x : Bool) (g : 1 ≤ k) (l : k ≤ 4) (e : x ≡ unfit (get_or ps at blank)) where
      pub reporting_unfit : x ≡ true → refusing 8 ≡ reporting ps n k ok
      unfolding reporting
      reporting_unfit u = rw (← here) (let a : unfit (get_or ps at blank) ≡ true = sym e ∙ u in let v = w in search choices)

      pub reporting_known : (p : Place) → x ≡ false → p ≡ attempted k ok (get_or ps at blank) → change 0 at p ≡ reporting ps n k ok
      unfolding reporting
      reporting_known p u d =
          rw (← here)
          (let a : unfit (get_or ps at blank) ≡ false = sym e ∙ u in
          let c : change 0 at p ≡ change 0 at (attempted k ok (get_or ps at blank)) = ap (change 0 at) d in
          let v = w in
          search choices)

  module _ (h : f.at ≡ None) where
    beyond : 32 ≤ index_of n ps
    beyond = omega (arith, sym (ap index_in h) ∙ index)

    module _ (rank : ℕ) where
      pub advertising_new : (at : ℕ) (p : Place) → f.unused ≡ Some at → IfSome f.unused (λ at. at < 32) → p ≡ newcomer n rank → change 0 at p ≡ advertising ps n rank
      unfolding advertising
      advertising_new at p k i g =
          let v : at < 32 = subst (λ (z : Option ℕ). IfSome z (λ at. at < 32)) k i in
          let c : at ≡ free_index ps = sym (ap index_in k) ∙ unused in
          rw (← c) (let d : change 0 at p ≡ change 0 at (newcomer n rank) = ap (change 0 at) g in let u = beyond in search choices)

      pub advertising_full : (z : Refusal) → ◌≡◌ {A = Result ℕ Refusal} (Err z) (ok_or f.unused TableFull) → refusing (number_of z) ≡ advertising ps n rank
      unfolding advertising
      advertising_full z e =
          let r = refused_none f.unused TableFull z e in
          let v : 32 ≤ free_index ps = omega (arith, sym (ap index_in r.0) ∙ unused) in
          rw r.1 (let u = beyond in search choices)

  module _ (z : Refusal) (e : ◌≡◌ {A = Result ℕ Refusal} (Err z) (ok_or f.at UnknownNeighbour)) where
    pub reporting_unknown : (k : ℕ) (ok : Bool) → 1 ≤ k → k ≤ 4 → refusing (number_of z) ≡ reporting ps n k ok
    unfolding reporting
    reporting_unknown k ok g h =
        let r = refused_none f.at UnknownNeighbour z e in rw r.1 (let u = beyond r.0 in search choices)

    pub forgetting_unknown : refusing (number_of z) ≡ forgetting ps n
    unfolding forgetting
    forgetting_unknown = let r = refused_none f.at UnknownNeighbour z e in rw r.1 (let u = beyond r.0 in search choices)

pub reporting_number : (ps : List Place) (n k : ℕ) (ok : Bool) → (k < 1) ⊎ (4 < k) → refusing 8 ≡ reporting ps n k ok
unfolding reporting
reporting_number ps n k ok h =
    ⊎_elim (λ g. let l : k < 1 = g in search choices) (λ g. let l : 1 ≤ k = omega arith in let m : 4 < k = g in search choices) h

-- ---- the table so stored is the one of the rules
module _ (t : Table) (l : length t.places ≡ 32) where
  -- a refusal stores nothing
  nothing_stored : (number : ℕ) (q : Option ℕ) → q ≡ t.parent → answer number (record { places = set t.places 32 blank; parent = q }) ≡ answer number t
  nothing_stored number q e = ap (λ (ps : List Place). answer number (record { places = ps; parent = q })) (set_out t.places 32 blank (omega arith)) ∙ ap (λ (p : Option ℕ). answer number (record { places = t.places; parent = p })) e

  -- the first place that passes a test is changed
  one_stored : (f : Place → Bool) (g : Place → Place) (q : Option ℕ) → answer 0 (record { places = set t.places (first f t.places) (g (get_or t.places (first f t.places) blank)); parent = q }) ≡ answer 0 (record { places = change_first f g t.places; parent = q })
  one_stored f g q = ap (λ (ps : List Place). answer 0 (record { places = ps; parent = q })) (set_first f g t.places)

  some_at : (f : Place → Bool) → first f t.places < 32 → some_place f t.places ≡ true
  some_at f w = present f t.places (omega arith)

  none_below : (f : Place → Bool) → 32 ≤ first f t.places → some_place f t.places ≡ false
  none_below f w = missing f t.places (omega arith)

  pub advertised_stored : (n rank : ℕ) → stored t (advertising t.places n rank) t.parent ≡ advertised t n rank
  unfolding stored advertising advertised if_on if_lt
  advertised_stored n rank =
      by_test (broken t) (λ b. rw b)
      (λ b.
      by_lt (index_of n t.places) 32
      (λ w. rw (b, lt-ltb (index_of n t.places) 32 w, some_at (named n) w) (one_stored (named n) (with_rank rank) t.parent))
      (λ w.
      by_lt (free_index t.places) 32
      (λ f. rw (b, le-ltb (index_of n t.places) 32 w, lt-ltb (free_index t.places) 32 f, none_below (named n) w, some_at free f) (one_stored free (λ p. newcomer n rank) t.parent))
      (λ f. rw (b, le-ltb (index_of n t.places) 32 w, le-ltb (free_index t.places) 32 f, none_below (named n) w, none_below free f) (nothing_stored 11 t.parent refl))))

  -- in a table that breaks no rule no place is over its limits, and a neighbour that is not in it is not the held parent
  module _ (b : broken t ≡ false) where
    all_fit : (i : ℕ) → unfit (get_or t.places i blank) ≡ false
    unfolding broken unfit free nonzero
    all_fit i = none_at unfit t.places i refl (neither (some_place unfit t.places) (twice t.places || parent_missing t.parent t.places) b).0

    parent_there : parent_missing t.parent t.places ≡ false
    unfolding broken
    parent_there =
        (neither (twice t.places) (parent_missing t.parent t.places) (neither (some_place unfit t.places) (twice t.places || parent_missing t.parent t.places) b).1).1

  without_unknown : (n : ℕ) (q : Option ℕ) → parent_missing q t.places ≡ false → known n t.places ≡ false → without n q ≡ q
  unfolding parent_missing without if_eq
  without_unknown n None h k = refl
  without_unknown n (Some m) h k =
      by_test (eqb m n) (λ e. clash (known n t.places) (subst (λ (z : ℕ). known z t.places ≡ true) (eqb-true m n e) (not-false (known m t.places) h)) k) (λ e. rw e)

  pub reported_stored : (n k : ℕ) (ok : Bool) → stored t (reporting t.places n k ok) t.parent ≡ reported t n k ok
  unfolding stored reporting reported if_on if_lt
  reported_stored n k ok =
      by_test (broken t) (λ b. rw b)
      (λ b.
      by_lt k 1 (λ g. rw (b, lt-ltb k 1 g) (nothing_stored 8 t.parent refl))
      (λ g.
      by_lt 4 k (λ m. rw (b, le-ltb k 1 g, lt-ltb 4 k m) (nothing_stored 8 t.parent refl))
      (λ m.
      by_lt (index_of n t.places) 32
      (λ w.
      rw (b, le-ltb k 1 g, le-ltb 4 k m, lt-ltb (index_of n t.places) 32 w, all_fit b (index_of n t.places), some_at (named n) w)
      (one_stored (named n) (attempted k ok) t.parent))
      (λ w. rw (b, le-ltb k 1 g, le-ltb 4 k m, le-ltb (index_of n t.places) 32 w, none_below (named n) w) (nothing_stored 10 t.parent refl)))))

  pub forgotten_stored : (n : ℕ) → stored t (forgetting t.places n) (without n t.parent) ≡ forgotten t n
  unfolding stored forgetting forgotten if_on if_lt
  forgotten_stored n =
      by_test (broken t) (λ b. rw b)
      (λ b.
      by_lt (index_of n t.places) 32
      (λ w. rw (b, lt-ltb (index_of n t.places) 32 w, some_at (named n) w) (one_stored (named n) (λ p. blank) (without n t.parent)))
      (λ w.
      rw (b, le-ltb (index_of n t.places) 32 w, none_below (named n) w)
      (nothing_stored 10 (without n t.parent) (without_unknown n t.parent (parent_there b) (none_below (named n) w)))))

  -- where forget is refused, the neighbour is not in the table
  unknown : (n m : ℕ) → refusing m ≡ forgetting t.places n → known n t.places ≡ false
  unfolding forgetting if_lt
  unknown n m e =
      by_lt (index_of n t.places) 32
      (λ w. let d : 32 ≡ index_of n t.places = ap (λ (z : Change). z.at) (rw (lt-ltb (index_of n t.places) 32 w) at e) in absurd (omega arith))
      (λ w. none_below (named n) w)

-- ---- storing, for the crates above
module _ (t : Table) (c : Change) (q : Option ℕ) (x : Bool) (e : x ≡ broken t) where
  pub store_refused : x ≡ true → answer 8 t ≡ stored t c q
  unfolding stored
  store_refused u = let b : broken t ≡ true = sym e ∙ u in search choices

  pub store_place : x ≡ false → answer c.number (record { places = set t.places c.at c.place; parent = q }) ≡ stored t c q
  unfolding stored
  store_place u = let b : broken t ≡ false = sym e ∙ u in search choices

-- what a call stores is what it answers, for the crates above
module _ (t : Table) (n : ℕ) (c : Change) (l : length t.places ≡ 32) (r : Answer) where
  pub advertise_done : (rank : ℕ) → c ≡ advertising t.places n rank → r ≡ stored t c t.parent → r ≡ advertised t n rank
  advertise_done rank e f = f ∙ ap (λ (z : Change). stored t z t.parent) e ∙ advertised_stored t l n rank

  pub report_done : (k : ℕ) (ok : Bool) → c ≡ reporting t.places n k ok → r ≡ stored t c t.parent → r ≡ reported t n k ok
  report_done k ok e f = f ∙ ap (λ (z : Change). stored t z t.parent) e ∙ reported_stored t l n k ok

  pub forget_done : (q : Option ℕ) → c ≡ forgetting t.places n → q ≡ without n t.parent → r ≡ stored t c q → r ≡ forgotten t n
  forget_done q e g f = f ∙ ap (λ (z : Option ℕ). stored t c z) g ∙ ap (λ (z : Change). stored t z (without n t.parent)) e ∙ forgotten_stored t l n

-- ---- the calls, as the code meets them: a is the table that the call goes on with
module _ (t : Table) (m : ℕ) (e : m ≡ 8) (b : broken t ≡ true) (n : ℕ) where
  pub advertise_broken : (rank : ℕ) → answer m t ≡ advertised t n rank
  unfolding advertised
  advertise_broken rank = rw e (search choices)

  pub report_broken : (k : ℕ) (ok : Bool) → answer m t ≡ reported t n k ok
  unfolding reported
  report_broken k ok = rw e (search choices)

  pub forget_broken : answer m t ≡ forgotten t n
  unfolding forgotten
  forget_broken = rw e (search choices)

module _ (t a : Table) (k : (a ≡ t) × (broken t ≡ false)) (l : length a.places ≡ 32) (n : ℕ) where
  all : length t.places ≡ 32
  all = subst (λ (z : Table). length z.places ≡ 32) k.0 l

  put : (c : Change) (q : Option ℕ) → answer c.number (record { places = set a.places c.at c.place; parent = q }) ≡ stored t c q
  put c q = subst (λ (z : Table). answer c.number (record { places = set z.places c.at c.place; parent = q }) ≡ stored t c q) (sym k.0) (store_place t c q (broken t) refl k.1)

  -- a refusal leaves the table as it was
  kept : (m : ℕ) (q : Option ℕ) → q ≡ t.parent → answer m t ≡ stored t (refusing m) q
  kept m q e = sym (nothing_stored t all m q e) ∙ store_place t (refusing m) q (broken t) refl k.1

  module _ (m : ℕ) where
    pub advertise_refused : (rank : ℕ) → refusing m ≡ advertising a.places n rank → answer m t ≡ advertised t n rank
    advertise_refused rank e =
        kept m t.parent refl ∙ ap (λ (z : Change). stored t z t.parent) (e ∙ ap (λ (z : Table). advertising z.places n rank) k.0) ∙ advertised_stored t all n rank

    pub report_refused : (j : ℕ) (ok : Bool) → refusing m ≡ reporting a.places n j ok → answer m t ≡ reported t n j ok
    report_refused j ok e =
        kept m t.parent refl ∙ ap (λ (z : Change). stored t z t.parent) (e ∙ ap (λ (z : Table). reporting z.places n j ok) k.0) ∙ reported_stored t all n j ok

    pub forget_refused : refusing m ≡ forgetting a.places n → answer m t ≡ forgotten t n
    forget_refused e =
        let d : refusing m ≡ forgetting t.places n = e ∙ ap (λ (z : Table). forgetting z.places n) k.0 in
        kept m (without n t.parent) (without_unknown t all n t.parent (parent_there t all k.1) (unknown t all n m d))
        ∙ ap (λ (z : Change). stored t z (without n t.parent)) d ∙ forgotten_stored t all n

  module _ (at : ℕ) (p : Place) where
    pub advertise_stored : (rank : ℕ) → change 0 at p ≡ advertising a.places n rank → answer 0 (record { places = set a.places at p; parent = a.parent }) ≡ advertised t n rank
    advertise_stored rank e =
        put (change 0 at p) a.parent ∙ ap (λ (z : Change). stored t z a.parent) e
        ∙ ap (λ (z : Table). stored t (advertising z.places n rank) z.parent) k.0 ∙ advertised_stored t all n rank

    pub report_stored : (j : ℕ) (ok : Bool) → change 0 at p ≡ reporting a.places n j ok → answer 0 (record { places = set a.places at p; parent = a.parent }) ≡ reported t n j ok
    report_stored j ok e =
        put (change 0 at p) a.parent ∙ ap (λ (z : Change). stored t z a.parent) e
        ∙ ap (λ (z : Table). stored t (reporting z.places n j ok) z.parent) k.0 ∙ reported_stored t all n j ok

    pub forget_stored : (q : Option ℕ) → change 0 at p ≡ forgetting a.places n → q ≡ without n a.parent → answer 0 (record { places = set a.places at p; parent = q }) ≡ forgotten t n
    forget_stored q e g =
        put (change 0 at p) q ∙ ap (λ (z : Option ℕ). stored t (change 0 at p) z) g ∙ ap (λ (z : Change). stored t z (without n a.parent)) e
        ∙ ap (λ (z : Table). stored t (forgetting z.places n) (without n z.parent)) k.0 ∙ forgotten_stored t all n

-- one set for each call
pub ruleset advertiseWays = (length_mapped, advertising_known, advertising_new, advertising_full, advertise_broken, advertise_refused, advertise_stored)

pub ruleset reportWays = (length_mapped, attempted_halved, attempted_plain, fit_attempts, fit_acked, reporting_number, reporting_unfit, reporting_known, reporting_unknown, report_broken, report_refused, report_stored)

pub ruleset forgetWays = (length_mapped, forgetting_known, forgetting_unknown, forget_broken, forget_refused, forget_stored)
