-- `c_table::stored` meets its contract. Assumes nothing.
use mathlib.Core.Path.{ap, ◌∙◌}
use Rattle.c_table_spec.specs.declared.TableForm.{TableForm}
use Rattle.c_table_spec.specs.Table.{change_with}
use Rattle.c_table_spec.proofs.CallForms.{store_put}
use Rattle.c_table.proofs.stored.Goals as goal

pub returns : goal.returns
returns c =
    store_put _ (change_with c.args.number c.args.found) _ _ c.is_refused.ensures c.if-is_refused.false _
    (ap (λ (z : TableForm). z.places) c.hold.ensures ∙ c.put.ensures)
    (ap (λ (z : TableForm). z.held) c.hold.ensures)
    (ap (λ (z : TableForm). z.parent) c.hold.ensures)
