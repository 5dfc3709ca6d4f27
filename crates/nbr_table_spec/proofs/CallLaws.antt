-- The laws of the table's calls: each way out, as the code meets it (the rulesets at the end). Assumes nothing.
use Rattle.std.proofs.Common.{Option, Some, None, MatchOption}
use Rattle.std.specs.Bool.{then_some}
use Rattle.std.specs.Int.{from_bool}
use Prim.Native.Nat.{ℕ, ◌+◌, ◌-◌, ◌/◌, ◌<◌, ◌≤◌}
use native.Mathlib.Omega.{arith}
use mathlib.Core.Path.{◌≡◌, refl, sym, ap, ◌∙◌}
use mathlib.Core.Bool.{Bool, true, false, cond, not}
use lib.ListN.{replicate}
use lib.Dec.{eqb}
use Rattle.octets_spec.specs.Choice.{if_eq}
use Rattle.octets_spec.proofs.ChoiceLaws.{by_test, choices}
use Rattle.nbr_metric_spec.specs.declared.Place.{Place}
use Rattle.nbr_metric_spec.specs.Metric.{blank, eligible, path_cost}
use Rattle.nbr_table_spec.specs.Places.{best, unfit}
use Rattle.nbr_table_spec.proofs.PlaceLaws.{fit_limits}
use Rattle.nbr_table_spec.specs.declared.Table.{Table}
use Rattle.nbr_table_spec.specs.declared.Choice.{Choice}
use Rattle.nbr_table_spec.specs.Changes.{attempted, with_counters}
use Rattle.nbr_table_spec.specs.Calls.{broken, choice, choice_of, chosen, empty_table, evaluated, evaluation, held, settled, with_parent, without}

-- ---- what a place becomes
module _ (p : Place) (k : ℕ) (ok : Bool) (more : ℕ) (q : Place) (e₀ : more ≡ from_bool ok) where
  e : more ≡ cond ok 1 0
  e = e₀ ∙ by_test ok (λ u. rw u refl) (λ u. rw u refl)

  pub attempted_halved : 255 < p.attempts + k → q ≡ with_counters (p.attempts / 2 + k) (p.acked / 2 + more) p → q ≡ attempted k ok p
  unfolding attempted
  attempted_halved h f = let g : q ≡ with_counters (p.attempts / 2 + k) (p.acked / 2 + cond ok 1 0) p = rw (← e) f in search choices

  pub attempted_plain : p.attempts + k ≤ 255 → q ≡ with_counters (p.attempts + k) (p.acked + more) p → q ≡ attempted k ok p
  unfolding attempted
  attempted_plain h f = let g : q ≡ with_counters (p.attempts + k) (p.acked + cond ok 1 0) p = rw (← e) f in search choices

-- ---- a table that breaks a rule
pub empty_is : (b : Place) → b ≡ blank → ◌≡◌ {A = Table} (record { places = replicate 32 b; parent = None }) empty_table
empty_is b e = ap (λ (z : Place). record { places = replicate 32 z; parent = None }) e

-- a place that is not unfit is within its limits
module _ (p : Place) (x : Bool) (e : x ≡ unfit p) (u : x ≡ false) where
  pub fit_attempts : p.attempts ≤ 255
  fit_attempts = (fit_limits p (sym e ∙ u)).0

  pub fit_acked : p.acked ≤ 255
  fit_acked = omega (arith, fit_limits p (sym e ∙ u))

-- ---- forget: the held parent passes the test that it is another; G is what is known of the test
pub without_is : {G : ℕ → Bool → Type 0} (q : Option ℕ) (n : ℕ) (r : Option ℕ) → MatchOption q (r ≡ None) (λ x. (b : Bool) × G x b × (r ≡ then_some b x)) → ((x : ℕ) (b : Bool) → G x b → b ≡ not (eqb x n)) → r ≡ without n q
unfolding without if_eq
without_is None n r h g = h
without_is (Some x) n r h g =
    let e = g x h.0 h.1 in
    by_test (eqb x n) (λ u. h.2 ∙ rw (e, u) refl) (λ u. h.2 ∙ rw (e, u) refl)

-- ---- evaluation
module _ (q : Option ℕ) (h b : Place) (x : Bool) (e : x ≡ eligible b) where
  pub chosen_none : x ≡ false → choice None 65535 ≡ chosen q h b
  unfolding chosen
  chosen_none u = let a : eligible b ≡ false = sym e ∙ u in search choices

  module _ (y : Bool) (u : x ≡ true) (f : y ≡ eligible h) where
    pub chosen_best : (r : Choice) → y ≡ false → r ≡ choice_of b → r ≡ chosen q h b
    unfolding chosen
    chosen_best r v g = let a : eligible b ≡ true = sym e ∙ u in let c : eligible h ≡ false = sym f ∙ v in search choices

    module _ (v : y ≡ true) (c d m : ℕ) (g : c ≡ path_cost h) (k : d ≡ path_cost b) (w : m ≡ c - d) where
      pub chosen_change : (r : Choice) → 640 < m → r ≡ choice_of b → r ≡ chosen q h b
      unfolding chosen
      chosen_change r l z =
          let a : eligible b ≡ true = sym e ∙ u in
          let o : eligible h ≡ true = sym f ∙ v in
          let i : 640 < path_cost h - path_cost b = omega arith in
          search choices

      pub chosen_keep : (j : ℕ) → m ≤ 640 → j ≡ path_cost h → choice q j ≡ chosen q h b
      unfolding chosen
      chosen_keep j l z =
          let a : eligible b ≡ true = sym e ∙ u in
          let o : eligible h ≡ true = sym f ∙ v in
          let i : path_cost h - path_cost b ≤ 640 = omega arith in
          let n : choice q j ≡ choice q (path_cost h) = ap (choice q) z in
          search choices

module _ (t : Table) (x : Bool) (e : x ≡ broken t) where
  pub evaluated_broken : x ≡ true → evaluation 8 t 65535 ≡ evaluated t
  unfolding evaluated
  evaluated_broken u = let b : broken t ≡ true = sym e ∙ u in search choices

  pub evaluated_done : (c : Choice) (v : Table) → x ≡ false → c ≡ chosen t.parent (held t) (best t.places) → v ≡ with_parent t c.parent → evaluation 0 v c.rank ≡ evaluated t
  unfolding evaluated
  evaluated_done c v u k w =
      let a : broken t ≡ false = sym e ∙ u in
      let z : evaluation 0 v c.rank ≡ settled t (chosen t.parent (held t) (best t.places)) =
      ap (λ (y : Table). evaluation 0 y c.rank) w ∙ ap (settled t) k in
      search choices

-- one set for each crate of functions over a table
pub ruleset emptyWays = (empty_is)
