-- `eb_record_spec::sequence_in` meets its contract. Assumes nothing.
use Rattle.std.proofs.Common.{rules}
use Rattle.octets_spec.specs.Choice.{if_on}
use Rattle.eb_record_spec.specs.Form.{sequence_from, made_where}
use Rattle.eb_record_spec.proofs.sequence_in.Goals as goal

pub returns-in-true-default : goal.returns-in-true-default
unfolding sequence_from made_where if_on
returns-in-true-default c = search rules

pub returns-in-false-eq0 : goal.returns-in-false-eq0
unfolding sequence_from made_where if_on
returns-in-false-eq0 c = search rules

pub returns-in-false-default : goal.returns-in-false-default
unfolding sequence_from made_where if_on
returns-in-false-default c = search rules
