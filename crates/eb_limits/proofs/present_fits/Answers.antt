-- `eb_limits::present_fits` meets its contract. Assumes nothing.
use mathlib.Core.Path.{◌∙◌}
use lib.Dec.{ltb}
use Rattle.eb_limits.proofs.LimitLaws.{below_is, below_rest, present_is}
use borrow.Author.Rules.{rules}
use Rattle.eb_limits.proofs.present_fits.Goals as goal

pub returns : goal.returns
returns c = present_is c.args.joining (search rules) _ _ _ _ (search rules) (rw (← c.from.ensures) c.at_most_16-used.ensures.0) c.proxy_fits.ensures
    (c.all.ensures (λ n. ltb n 256) (λ n said e. search rules) ∙ below_is 256 _)
    (c.all-2.ensures (λ n. ltb n 1) (λ n said e. search rules) ∙ below_rest 1 c.args.joining.network c.at_most_16-used.result)
