-- `nbr_table::search::is_named` meets its contract. Assumes nothing.
use Rattle.nbr_table_spec.proofs.PlaceLaws.{named_is}
use Rattle.nbr_table.proofs.search.is_named.Goals as goal

pub returns : goal.returns
returns c = named_is c.args.place.now c.args.id
