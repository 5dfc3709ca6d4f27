-- The laws of logs: the test of a log (`some_over_any`, `unfit_is`), the call of each kind of row, as the code meets it (`rowWays`), and what
-- a log that is not refused has (`run_ready`). Assumes nothing.
use Prim.Native.Nat.{ℕ, ◌≤◌}
use mathlib.Core.Path.{◌≡◌, refl, sym, ap, ◌∙◌}
use mathlib.Core.Bool.{Bool, true, false, not, ◌&&◌, ◌||◌, and-eq-true_iff}
use mathlib.Core.List.{List, [], ◌∷◌}
use lib.ListN.{length}
use lib.Dec.{eqb, ltb}
use borrow.Author.Tests.{eqb-true, ltb-false, ne_eqb, not-false}
use Rattle.std.specs.List.{list_any}
use Rattle.octets_spec.specs.Choice.{if_eq}
use Rattle.nbr_table_spec.proofs.PlaceLaws.{neither}
use Rattle.nbr_table_spec.specs.declared.Table.{Table}
use Rattle.nbr_table_spec.specs.Calls.{broken}
use Rattle.nbr_stability_spec.specs.Stability.Call.{Advertise, Report, Forget, Evaluate}
use Rattle.nbr_replay_spec.specs.Log.{Log, call, equally_long, some_over, unfit_log}
use Rattle.nbr_replay_spec.specs.Tally.{EquallyLong}

-- ---- which logs are refused
pub some_over_any : (m : ℕ) (xs : List ℕ) → list_any (ltb m) xs ≡ some_over m xs
unfolding some_over
some_over_any m [] = refl
some_over_any m (x ∷ xs) = ap (λ (w : Bool). ltb m x || w) (some_over_any m xs)

pub unfit_is : (l : Log) (x y : Bool) → x ≡ some_over 3 l.kinds → y ≡ some_over 1 l.flags
    → (not (eqb (length l.ids) (length l.kinds) && (eqb (length l.values) (length l.kinds) && eqb (length l.flags) (length l.kinds))) || (ltb 65535 (length l.kinds) || (x || y))) ≡ unfit_log l
unfolding unfit_log equally_long
unfit_is l x y e f = rw (← e, ← f)

-- a log that is not refused
module _ (l : Log) (x : Bool) (e : x ≡ unfit_log l) (u : x ≡ false) where
  fits : (equally_long l ≡ true) × (length l.kinds ≤ 65535)
  unfolding unfit_log
  fits =
      let n₁ = neither (not (equally_long l)) (ltb 65535 (length l.kinds) || (some_over 3 l.kinds || some_over 1 l.flags)) (sym e ∙ u) in
      let n₂ = neither (ltb 65535 (length l.kinds)) (some_over 3 l.kinds || some_over 1 l.flags) n₁.1 in
      (not-false (equally_long l) n₁.0, ltb-false 65535 (length l.kinds) n₂.0)

  long : EquallyLong l
  unfolding equally_long
  long =
      let b₁ = (and-eq-true_iff (eqb (length l.ids) (length l.kinds)) (eqb (length l.values) (length l.kinds) && eqb (length l.flags) (length l.kinds))).0 fits.0 in
      let b₂ = (and-eq-true_iff (eqb (length l.values) (length l.kinds)) (eqb (length l.flags) (length l.kinds))).0 b₁.1 in
      record {
        ids = eqb-true (length l.ids) (length l.kinds) b₁.0;
        values = eqb-true (length l.values) (length l.kinds) b₂.0;
        flags = eqb-true (length l.flags) (length l.kinds) b₂.1;
      }

  pub run_ready : (t : Table) (y : Bool) → y ≡ broken t → y ≡ false → EquallyLong l × (length l.kinds ≤ 65535) × (broken t ≡ false)
  run_ready t y g h = (long, fits.1, sym g ∙ h)

-- ---- the call of a row
module _ (kind id value flag : ℕ) where
  pub row_advertises : kind ≡ 0 → Advertise id value ≡ call kind id value flag
  unfolding call if_eq
  row_advertises k = rw k

  pub row_reports : kind ≡ 1 → Report id value (eqb flag 1) ≡ call kind id value flag
  unfolding call if_eq
  row_reports k = rw k

  pub row_forgets : kind ≡ 2 → Forget id ≡ call kind id value flag
  unfolding call if_eq
  row_forgets k = rw k

  pub row_evaluates : (kind ≡ 0 → ⊥) → (kind ≡ 1 → ⊥) → (kind ≡ 2 → ⊥) → Evaluate ≡ call kind id value flag
  unfolding call if_eq
  row_evaluates o p d = rw (ne_eqb kind 0 o, ne_eqb kind 1 p, ne_eqb kind 2 d)

pub ruleset rowWays = (row_advertises, row_reports, row_forgets, row_evaluates)
