-- `nbr_table::place_limits::is_nonzero` meets its contract. Assumes nothing.
use Rattle.nbr_table_spec.proofs.PlaceLaws.{limitWays}
use borrow.Author.Rules.{rules}
use Rattle.nbr_table.proofs.place_limits.is_nonzero.Goals as goal

pub returns : goal.returns
returns c = search (rules, limitWays)
