-- `eb_limits::absent_fits` meets its contract. Assumes nothing.
use mathlib.Core.Path.{◌∙◌}
use lib.Dec.{ltb}
use Rattle.eb_limits.proofs.LimitLaws.{below_is, absent_is}
use borrow.Author.Rules.{rules}
use Rattle.eb_limits.proofs.absent_fits.Goals as goal

pub returns : goal.returns
returns c = absent_is c.args.joining _ (c.all.ensures (λ n. ltb n 1) (λ n said e. search rules) ∙ below_is 1 _)
