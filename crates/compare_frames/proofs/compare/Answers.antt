-- `compare_frames::compare` meets its contract. Assumes nothing.
use Rattle.compare_spec.proofs.Compared.{no_difference_when_equal}
use Rattle.compare_frames.proofs.compare.Goals as goal

pub returns-clause-none_when_equal : goal.returns-clause-none_when_equal
returns-clause-none_when_equal c = no_difference_when_equal
