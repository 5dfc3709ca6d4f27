-- The remainder of a number by a divisor (docs/RULES.md, Slot and channel). Assumes nothing.
use Rattle.std.specs.Prelude.{ℕ, ◌%◌}
use Rattle.octets_spec.specs.Choice.{if_eq}

-- number mod divisor, and 0 where the divisor is 0
unfoldable pub remainder_of : ℕ → ℕ → ℕ
remainder_of number divisor = if_eq divisor 0 0 (number % divisor)
