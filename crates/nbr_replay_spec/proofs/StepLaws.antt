-- The laws of one row: each call, as the code meets it (`stepWays`), and what is counted (`countWays`). Assumes nothing.
use Rattle.std.proofs.Common.{Option, Some, None}
use Prim.Native.Nat.{ℕ, ◌+◌, ◌-◌}
use native.Mathlib.Omega.{arith}
use mathlib.Core.Path.{◌≡◌, refl, sym, ap, ◌∙◌}
use mathlib.Core.Bool.{Bool, false, cond, ◌&&◌}
use mathlib.Core.List.{List}
use mathlib.Core.Logic.{⊎_elim}
use lib.ListN.{length, set}
use Rattle.octets_spec.specs.Choice.{if_eq, if_on}
use Rattle.nbr_metric_spec.specs.declared.Place.{Place}
use Rattle.nbr_table_spec.specs.Places.{best}
use Rattle.nbr_table_spec.specs.declared.Choice.{Choice}
use Rattle.nbr_table_spec.specs.declared.Settlement.{Settlement}
use Rattle.nbr_table_spec.specs.declared.Table.{Table}
use Rattle.nbr_table_spec.specs.Calls.{Answer, broken, chosen, evaluated, held, held_cost, mark_of, with_parent, without}
use Rattle.nbr_table_spec.specs.Offers.{settlement}
use Rattle.nbr_table_spec.specs.Stores.{Change, advertising, forgetting, reporting, stored}
use Rattle.nbr_table_spec.proofs.StoreLaws.{advertised_stored, forgotten_stored, reported_stored, store_place}
use Rattle.nbr_soundness_spec.proofs.Chosen.{held_cost_lem, own_rank}
use Rattle.nbr_stability_spec.specs.Stability.{Call, after}
use Rattle.nbr_stability_spec.specs.Stability.Call.{Advertise, Report, Forget, Evaluate}
use Rattle.nbr_replay_spec.specs.declared.Counts.{Counts}
use Rattle.nbr_replay_spec.specs.declared.Visit.{Visit}
use Rattle.nbr_replay_spec.specs.Visit.{visited}
use Rattle.nbr_replay_spec.specs.Tally.{OneMore, counted, noted, showing, shown}

-- the cost on exit: none, and that of a held parent
no_exit : (p : Option ℕ) (rank : ℕ) (ps : List Place) → p ≡ None → if_on (mark_of p) rank 0 ≡ held_cost (record { places = ps; parent = p })
unfolding mark_of if_on
no_exit p rank ps e = rw e

an_exit : (p : Option ℕ) (rank n : ℕ) → p ≡ Some n → if_on (mark_of p) rank 0 ≡ rank
unfolding mark_of if_on
an_exit p rank n e = rw e

-- ---- the calls, on a table that breaks no rule
module _ (t : Table) (b : broken t ≡ false) (l : length t.places ≡ 32) where
  -- a call that stores a change
  storing : (c : Call) (d : Change) (r : Option ℕ) (a : Answer) → stored t d r ≡ a → a.table ≡ after t c → record { places = set t.places d.at d.place; parent = r } ≡ after t c
  storing c d r a h g = ap (λ (z : Answer). z.table) (store_place t d r (broken t) refl b ∙ h) ∙ g

  module _ (n : ℕ) (c : Change) (ps : List Place) (w : ps ≡ set t.places c.at c.place) where
    pub step_advertises : (rank : ℕ) → c ≡ advertising t.places n rank → record { places = ps; parent = t.parent } ≡ after t (Advertise n rank)
    unfolding after
    step_advertises rank e = ap (λ (z : List Place). record { places = z; parent = t.parent }) w ∙ storing (Advertise n rank) c t.parent _ (ap (λ (z : Change). stored t z t.parent) e ∙ advertised_stored t l n rank) refl

    pub step_reports : (k : ℕ) (ok : Bool) → c ≡ reporting t.places n k ok → record { places = ps; parent = t.parent } ≡ after t (Report n k ok)
    unfolding after
    step_reports k ok e = ap (λ (z : List Place). record { places = z; parent = t.parent }) w ∙ storing (Report n k ok) c t.parent _ (ap (λ (z : Change). stored t z t.parent) e ∙ reported_stored t l n k ok) refl

    pub step_forgets : (r : Option ℕ) → c ≡ forgetting t.places n → r ≡ without n t.parent → record { places = ps; parent = r } ≡ after t (Forget n)
    unfolding after
    step_forgets r e g = ap (λ (z : List Place). record { places = z; parent = r }) w ∙ storing (Forget n) c r _ (ap (λ (z : Change). stored t z r) e ∙ ap (stored t (forgetting t.places n)) g ∙ forgotten_stored t l n) refl

  -- what an evaluation leaves
  evaluated_leaves : (c : Choice) → c ≡ chosen t.parent (held t) (best t.places) → record { places = t.places; parent = c.parent } ≡ after t Evaluate
  unfolding after evaluated if_on
  evaluated_leaves c e = rw (after, b) (ap (λ (z : Choice). with_parent t z.parent) e)

  -- what an evaluation shows: the own rank is the cost on exit
  evaluated_shows : (c : Choice) → c ≡ chosen t.parent (held t) (best t.places) → shown (held t) t.parent c ≡ visited t (after t Evaluate)
  unfolding after evaluated if_on
  evaluated_shows c e =
      let u = evaluated_leaves c e in
      let r : (evaluated t).rank ≡ c.rank = rw b (ap (λ (z : Choice). z.rank) (sym e)) in
      let v : (evaluated t).table ≡ record { places = t.places; parent = c.parent } = sym u in
      let x : if_on (mark_of c.parent) c.rank 0 ≡ held_cost (record { places = t.places; parent = c.parent }) =
      ⊎_elim
      (λ n. no_exit c.parent c.rank t.places (sym (ap (λ (z : Table). z.parent) v) ∙ n.0))
      (λ n.
      let k : c.parent ≡ Some (held (evaluated t).table).id = sym (ap (λ (z : Table). z.parent) v) ∙ n.0 in
      an_exit c.parent c.rank _ k ∙ sym r ∙ n.2 ∙ sym (held_cost_lem (evaluated t).table n.1) ∙ ap held_cost v) (own_rank t b) in
      (λ i. record { change = (shown (held t) t.parent c).change; entry = held_cost t; exit = x i; eligible = (shown (held t) t.parent c).eligible }) ∙ ap (visited t) u

  module _ (m : Settlement) (e : m ≡ settlement t.places t.parent) where
    settles : m.choice ≡ chosen t.parent (held t) (best t.places)
    settles = ap (λ (y : Settlement). y.choice) e

    pub step_evaluates : record { places = t.places; parent = m.choice.parent } ≡ after t Evaluate
    step_evaluates = evaluated_leaves m.choice settles

    pub step_shows : (v : Visit) → v ≡ shown m.held t.parent m.choice → Some v ≡ showing t Evaluate
    unfolding showing
    step_shows v w = ap Some (w ∙ ap (λ (y : Place). shown y t.parent m.choice) (ap (λ (y : Settlement). y.held) e) ∙ evaluated_shows m.choice settles)

-- a call that is no evaluation shows nothing
module _ (t : Table) (n : ℕ) where
  pub advertise_shows : (rank : ℕ) → None ≡ showing t (Advertise n rank)
  unfolding showing
  advertise_shows rank = refl

  pub report_shows : (k : ℕ) (ok : Bool) → None ≡ showing t (Report n k ok)
  unfolding showing
  report_shows k ok = refl

  pub forget_shows : None ≡ showing t (Forget n)
  unfolding showing
  forget_shows = refl

-- ---- what is counted
module _ (s : Counts) where
  pub counted_quiet : (o : Option Visit) → o ≡ None → s ≡ counted s o
  unfolding counted
  counted_quiet o e = rw e

  pub counted_noted : (o : Option Visit) (v : Visit) (r f d : ℕ) → o ≡ Some v → r ≡ if_eq s.evaluations 0 0 (s.rises + (v.entry - s.last)) → f ≡ if_eq s.evaluations 0 v.entry s.first → d ≡ cond v.change 1 0
      → ◌≡◌ {A = Counts} (record { evaluations = s.evaluations + 1; changes = s.changes + d; rises = r; first = f; last = v.exit; applies = s.applies && v.eligible }) (counted s o)
  unfolding counted noted
  counted_noted o v r f d g e₁ e₂ e₃ =
      rw g (λ i. record { evaluations = s.evaluations + 1; changes = s.changes + e₃ i; rises = e₁ i; first = e₂ i; last = v.exit; applies = s.applies && v.eligible })

pub same_counts : (s : Counts) → OneMore s s
same_counts s = record { evaluations = omega arith; changes = omega arith; rises = omega arith }

pub ruleset stepWays = (step_advertises, step_reports, step_forgets, step_evaluates, step_shows, advertise_shows, report_shows, forget_shows)

pub ruleset countWays = (counted_quiet, counted_noted, same_counts)
