-- The laws of the join metric: each way out, as the code meets it (`joinWays`). Assumes nothing.
use Prim.Native.Nat.{ℕ, ◌-◌, ◌/◌, ◌<◌, ◌≤◌}
use native.Mathlib.Omega.{arith}
use mathlib.Core.Path.{◌≡◌}
use mathlib.Core.Logic.{◌⊎◌, ⊎_elim}
use Rattle.octets_spec.proofs.ChoiceLaws.{choices}
use Rattle.nbr_metric_spec.specs.JoinMetric.{join_answer, join_metric}

module _ (rank : ℕ) where
  pub join_refused : (rank < 256) ⊎ (65534 < rank) → join_answer 8 0 ≡ join_metric rank
  unfolding join_metric
  join_refused h =
      ⊎_elim (λ k. let l : rank < 256 = k in search choices)
      (λ k. let l : 256 ≤ rank = omega arith in let m : 65534 < rank = k in search choices) h

  pub join_done : 256 ≤ rank → rank ≤ 65534 → join_answer 0 (rank / 256 - 1) ≡ join_metric rank
  unfolding join_metric
  join_done h k = search choices

pub ruleset joinWays = (join_refused, join_done)
