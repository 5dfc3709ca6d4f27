-- `values_spec::values` meets its contract. Assumes nothing.
use Rattle.values_spec.proofs.Computed.{values_hold}
use Rattle.values_spec.proofs.values.Goals as goal

pub returns : goal.returns
returns c = values_hold
