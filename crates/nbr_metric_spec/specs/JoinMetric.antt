-- The join metric of a rank (docs/RULES.md, Neighbours). Assumes nothing.
use Rattle.std.specs.Prelude.{ℕ, ◌-◌, ◌/◌, Result, Ok, Err}
use Rattle.octets_spec.specs.Choice.{if_lt}
use Rattle.refusal.specs.declared.Refusal.{Refusal}
use Rattle.refusal.specs.Refusal.{done, number_of, out_of_limits}
use Rattle.nbr_metric_spec.specs.declared.JoinAnswer.{JoinAnswer}

-- a join metric, or a refusal, which has 0 with it
abbrev pub join_answer : ℕ → ℕ → JoinAnswer
join_answer number metric = record { number = number; metric = metric }

-- the same of a result
abbrev pub join_answer_of : Result ℕ Refusal → JoinAnswer
join_answer_of (Ok metric) = join_answer done metric
join_answer_of (Err refusal) = join_answer (number_of refusal) 0

-- the join metric of a rank: rank div 256, minus 1, for ranks 256 to 65534; others are refused
unfoldable pub join_metric : ℕ → JoinAnswer
join_metric rank = if_lt rank 256 (join_answer out_of_limits 0) (if_lt 65534 rank (join_answer out_of_limits 0) (join_answer done (rank / 256 - 1)))
