-- `ie_step::inner_step` meets its contract. Assumes nothing.
use Rattle.std.proofs.Common.{rules}
use Rattle.refusal.specs.declared.Refusal.TheVariants.{Cut}
use Rattle.octets_spec.specs.Number.{le_at}
use Rattle.ie_step_spec.specs.Payload.{inner_word, inner_at, inner_within}
use Rattle.ie_step_spec.specs.declared.InnerStep.{InnerStep}
use Rattle.ie_step_spec.specs.declared.InnerStep.TheVariants as inner
use Rattle.ie_step_spec.proofs.StepLaws.{step_is}
use Rattle.ie_step.proofs.inner_step.Goals as goal

pub returns : goal.returns
unfolding inner_at
returns c =
    let says : InnerStep = inner_word c.args.at c.args.end (le_at 2 c.args.s.now c.args.at) in
    step_is c.args.at c.args.end inner.Back (inner.Fault Cut) says (λ (r : InnerStep). inner_within r c.args.at c.args.end) c.step.result tt tt c.step.ensures.ends c.step.ensures.one_left (λ enough. let said = c.step.ensures.read enough in search rules)
