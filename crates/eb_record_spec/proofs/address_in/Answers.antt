-- `eb_record_spec::address_in` meets its contract. Assumes nothing.
use Rattle.std.proofs.Common.{rules}
use Rattle.octets_spec.specs.Choice.{if_on}
use Rattle.eb_record_spec.specs.Form.{address_from, made_where}
use Rattle.eb_record_spec.proofs.FormLaws.{short_made, short_refused}
use Rattle.eb_record_spec.proofs.address_in.Goals as goal

pub returns-then-extended : goal.returns-then-extended
unfolding address_from made_where if_on
returns-then-extended c = search rules

pub returns-in-Ok : goal.returns-in-Ok
returns-in-Ok c = let is = c.in-Ok.ensures in rw c.if-extended.false (short_made _ _ is.0 is.1)

pub returns-in-Err : goal.returns-in-Err
returns-in-Err c = rw c.if-extended.false (short_refused _ c.in-Err.ensures)
