-- `nbr_table::search::is_free` meets its contract. Assumes nothing.
use Rattle.std.proofs.Common.{refl}
use Rattle.nbr_table_spec.specs.Places.{free}
use Rattle.nbr_table.proofs.search.is_free.Goals as goal

pub returns : goal.returns
unfolding free
returns c = refl
