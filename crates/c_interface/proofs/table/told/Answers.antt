-- `c_interface::table::told` meets its contract. Assumes nothing.
use mathlib.Core.Path.{ap, ◌∙◌}
use Rattle.nbr_table_spec.specs.Stores.{Change}
use Rattle.c_table_spec.specs.Table.{stored_form}
use Rattle.c_table_spec.proofs.CallForms.{change_is}
use Rattle.c_interface.proofs.table.told.Goals as goal

pub returns : goal.returns
returns c = c.stored.ensures ∙ ap (λ (z : Change). stored_form c.args.table.now z c.args.left) (change_is _ _ _ c.number_in.ensures c.ok.ensures.value)
