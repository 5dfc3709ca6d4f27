-- `eb_limits::template_fits` meets its contract. Assumes nothing.
use mathlib.Core.Path.{◌∙◌}
use lib.Dec.{ltb}
use Rattle.eb_limits.proofs.LimitLaws.{below_is, below_rest, template_timed, template_bare}
use borrow.Author.Rules.{rules}
use Rattle.eb_limits.proofs.template_fits.Goals as goal

pub returns-then-template : goal.returns-then-template
returns-then-template c = template_timed c.args.template (search rules) (search rules) _ _ c.if-template.true (c.all.ensures (λ n. ltb n 65536) (λ n said e. search rules) ∙ below_is 65536 _) (c.all-then-template.ensures (λ n. ltb n 16777216) (λ n said e. search rules) ∙ below_rest 16777216 c.args.template.timings 10)

pub returns : goal.returns
returns c = template_bare c.args.template (search rules) (search rules) _ c.if-template.false (c.all-2.ensures (λ n. ltb n 1) (λ n said e. search rules) ∙ below_is 1 _)
