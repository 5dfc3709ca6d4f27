-- `ie_step::outer_step` meets its contract. Assumes nothing.
use Rattle.std.proofs.Common.{◌+◌, rules}
use Rattle.refusal.specs.declared.Refusal.TheVariants.{Cut}
use Rattle.octets_spec.specs.Number.{le_at}
use Rattle.ie_step_spec.specs.Payload.{outer_word, outer_at, outer_within}
use Rattle.ie_step_spec.specs.declared.OuterStep.{OuterStep}
use Rattle.ie_step_spec.specs.declared.OuterStep.TheVariants as outer
use Rattle.ie_step_spec.proofs.StepLaws.{step_is}
use Rattle.ie_step.proofs.outer_step.Goals as goal

pub returns : goal.returns
unfolding outer_at
returns c =
    let says : OuterStep = outer_word c.args.s.now c.args.at c.args.end (le_at 2 c.args.s.now c.args.at) in
    step_is c.args.at c.args.end outer.End (outer.Fault Cut) says (λ (r : OuterStep). outer_within r (c.args.at + 2) c.args.end) c.step.result tt tt c.step.ensures.ends c.step.ensures.one_left (λ enough. let said = c.step.ensures.read enough in search rules)
