-- The laws of running a log: each turn of the loop (`ran_start`, `ran_on`, `ran_end`), each way out, as the code meets it (`replayWays`), and
-- what the theorems say of an answer. Assumes nothing.
use Rattle.std.proofs.Common.{Option}
use Prim.Native.Nat.{ℕ, ◌+◌, ◌*◌, ◌<◌, ◌≤◌, ◌^◌}
use native.Mathlib.Numerals.{add-one}
use native.Mathlib.Omega.{arith}
use mathlib.Core.Path.{◌≡◌, refl, sym, ap, subst, ◌∙◌}
use mathlib.Core.Bool.{Bool, true, false, ◌&&◌}
use mathlib.Core.List.{List, [], ◌∷◌}
use mathlib.Core.Logic.{◌⊎◌, inl, inr, ⊎_elim}
use lib.ListN.{length}
use borrow.Author.Tests.{lt-ltb}
use Rattle.octets_spec.specs.Choice.{if_lt, if_on}
use Rattle.octets_spec.proofs.ChoiceLaws.{choices, by_test}
use Rattle.nbr_table_spec.proofs.PlaceLaws.{clash}
use Rattle.nbr_table_spec.specs.declared.Table.{Table}
use Rattle.nbr_table_spec.specs.Calls.{broken}
use Rattle.nbr_stability_spec.specs.Stability.{Call, EntryExit, after, some_evaluation, applies, changes, each_eligible, evaluations, first_cost, last_cost, none_refused, rises}
use Rattle.nbr_stability_spec.proofs.Bound.{at_most_101_changes, kept, none_refused_lem, parents_do_not_flap}
use Rattle.nbr_replay_spec.specs.Log.{Log, call_at, calls, calls_to, unfit_log}
use Rattle.nbr_replay_spec.specs.declared.Counts.{Counts}
use Rattle.nbr_replay_spec.specs.declared.Visit.{Visit}
use Rattle.nbr_replay_spec.specs.Replay.{Outcome, final, outcome, refused_replay, replayed}
use Rattle.nbr_replay_spec.specs.Tally.{OneMore, Room, counted, no_counts, showing, tally}
use Rattle.nbr_replay_spec.proofs.Snoc.{final_snoc, tally_next}

-- ---- the loop: what the first i rows come to, from table t on
pub record Ran (l : Log) (i : ℕ) (t now : Table) (n : Counts) : Type 0 where
  pub left : now ≡ final t (calls_to l i)
  pub counts : n ≡ tally t (calls_to l i)
  pub sound : broken now ≡ false
  pub long : length now.places ≡ 32
  pub evaluations : n.evaluations ≤ i
  pub changes : n.changes ≤ i
  pub rises : n.rises ≤ i * 2 ^ 30

pub ran_start : (l : Log) (t : Table) (n : Counts) → broken t ≡ false → length t.places ≡ 32 → n ≡ no_counts → Ran l 0 t t n
unfolding final calls_to tally evaluations changes rises first_cost last_cost each_eligible
ran_start l t n b h e =
    record {
      left = refl;
      counts = e;
      sound = b;
      long = h;
      evaluations = subst (λ (z : Counts). z.evaluations ≤ 0) (sym e) (omega arith);
      changes = subst (λ (z : Counts). z.changes ≤ 0) (sym e) (omega arith);
      rises = subst (λ (z : Counts). z.rises ≤ 0 * 2 ^ 30) (sym e) (omega arith);
    }

module _ (l : Log) (i : ℕ) (t now : Table) (n : Counts) (m : Ran l i t now n) where
  pub ran_sound : broken now ≡ false
  ran_sound = m.sound

  pub ran_long : length now.places ≡ 32
  ran_long = m.long

  pub ran_room : (k : ℕ) → i < k → k ≤ 65535 → Room n
  ran_room k h b = record { evaluations = omega (arith, m.evaluations); changes = omega (arith, m.changes); rises = omega (arith, m.rises) }

  -- one row more
  pub ran_on : (c : Call) (next : Table) (o : Option Visit) (r : Counts) → c ≡ call_at l i → next ≡ after now c → o ≡ showing now c → r ≡ counted n o → OneMore n r → length next.places ≡ 32 → Ran l (i + 1) t next r
  unfolding calls_to
  ran_on c next o r e f g h k w =
      let before : List Call = calls_to l i in
      let left : next ≡ after (final t before) (call_at l i) = f ∙ ap (λ (z : Table). after z c) m.left ∙ ap (after (final t before)) e in
      let seen : o ≡ showing (final t before) (call_at l i) = g ∙ ap (λ (z : Table). showing z c) m.left ∙ ap (showing (final t before)) e in
      rw add-one (record {
        left = left ∙ sym (final_snoc t before (call_at l i));
        counts = h ∙ ap (counted n) seen ∙ ap (λ (z : Counts). counted z (showing (final t before) (call_at l i))) m.counts ∙ tally_next t before (call_at l i);
        sound = subst (λ (z : Table). broken z ≡ false) (sym f) (kept now c m.sound);
        long = w;
        evaluations = omega (arith, k.evaluations, m.evaluations);
        changes = omega (arith, k.changes, m.changes);
        rises = omega (arith, k.rises, m.rises);
      })

-- ---- the end of the loop
any_length : (vs : List EntryExit) (x : Bool) → if_lt 0 (length vs) x false ≡ (some_evaluation vs && x)
unfolding some_evaluation if_lt
any_length [] x = refl
any_length (v ∷ vs) x = rw (lt-ltb 0 (length (v ∷ vs)) (omega arith))

pub ran_end : (l : Log) (i : ℕ) (t now : Table) (n : Counts) (x : Bool) → broken t ≡ false → Ran l i t now n → i ≤ length l.kinds → length l.kinds ≤ i → x ≡ if_lt 0 n.evaluations n.applies false
    → ◌≡◌ {A = Outcome} (record { number = 0; table = now; evaluations = n.evaluations; changes = n.changes; rises = n.rises; first = n.first; last = n.last; applies = x }) (outcome t (calls l))
unfolding tally applies
ran_end l i t now n x b m h k e =
    let f : i ≡ length l.kinds = omega arith in
    let g : n ≡ tally t (calls l) = m.counts ∙ ap (λ (z : ℕ). tally t (calls_to l z)) f in
    let u : now ≡ final t (calls l) = m.left ∙ ap (λ (z : ℕ). final t (calls_to l z)) f in
    let a : x ≡ applies t (calls l) = e ∙ ap (λ (z : Counts). if_lt 0 z.evaluations z.applies false) g ∙ any_length (evaluations t (calls l)) (each_eligible (evaluations t (calls l))) ∙ rw b in
    λ j. record { number = 0; table = u j; evaluations = (g j).evaluations; changes = (g j).changes; rises = (g j).rises; first = (g j).first; last = (g j).last; applies = a j }

-- ---- the answer
module _ (t : Table) (l : Log) where
  module _ (x : Bool) (e : x ≡ broken t) where
    pub replayed_broken : (r : Outcome) → x ≡ true → r ≡ refused_replay 8 t → r ≡ replayed t l
    unfolding replayed
    replayed_broken r u f = let b : broken t ≡ true = sym e ∙ u in search choices

    module _ (y : Bool) (u : x ≡ false) (f : y ≡ unfit_log l) where
      pub replayed_unfit : (r : Outcome) → y ≡ true → r ≡ refused_replay 8 t → r ≡ replayed t l
      unfolding replayed
      replayed_unfit r v g = let b : broken t ≡ false = sym e ∙ u in let c : unfit_log l ≡ true = sym f ∙ v in search choices

      pub replayed_done : (r : Outcome) → y ≡ false → r ≡ outcome t (calls l) → r ≡ replayed t l
      unfolding replayed
      replayed_done r v g = let b : broken t ≡ false = sym e ∙ u in let c : unfit_log l ≡ false = sym f ∙ v in search choices

  -- what the theorems say of an answer
  module _ (r : Outcome) (e : r ≡ replayed t l) where
    pub replay_is : (r ≡ refused_replay 8 t) ⊎ ((broken t ≡ false) × (r ≡ outcome t (calls l)))
    unfolding replayed if_on
    replay_is =
        by_test (broken t) (λ b. inl (rw b at e))
        (λ b. by_test (unfit_log l) (λ u. inl (rw (b, u) at e)) (λ u. inr (b, rw (b, u) at e)))

    pub replay_bound : r.applies ≡ true → 641 * r.changes + r.last ≤ r.first + r.rises
    replay_bound h =
        ⊎_elim (λ f. clash r.applies h (ap (λ (z : Outcome). z.applies) f))
        (λ f. subst (λ (z : Outcome). 641 * z.changes + z.last ≤ z.first + z.rises) (sym f.1) (parents_do_not_flap t (calls l) (sym (ap (λ (z : Outcome). z.applies) f.1) ∙ h))) replay_is

    pub replay_few : r.applies ≡ true → r.rises ≡ 0 → r.changes ≤ 101
    replay_few h k =
        ⊎_elim (λ f. clash r.applies h (ap (λ (z : Outcome). z.applies) f))
        (λ f. subst (λ (z : Outcome). z.changes ≤ 101) (sym f.1) (at_most_101_changes t (calls l) (sym (ap (λ (z : Outcome). z.applies) f.1) ∙ h) (sym (ap (λ (z : Outcome). z.rises) f.1) ∙ k))) replay_is

    pub replay_accepted : r.number ≡ 0 → none_refused (evaluations t (calls l)) ≡ true
    replay_accepted h =
        ⊎_elim (λ f. absurd (let z : r.number ≡ 8 = ap (λ (o : Outcome). o.number) f in omega arith)) (λ f. none_refused_lem t (calls l) f.0) replay_is

    -- the answer with all that
    pub replay_says : (r ≡ replayed t l) × ((r.applies ≡ true → 641 * r.changes + r.last ≤ r.first + r.rises) × ((r.applies ≡ true → r.rises ≡ 0 → r.changes ≤ 101) × (r.number ≡ 0 → none_refused (evaluations t (calls l)) ≡ true)))
    replay_says = (e, (replay_bound, (replay_few, replay_accepted)))

pub ruleset replayWays = (replayed_broken, replayed_unfit, replayed_done)
