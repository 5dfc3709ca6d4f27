-- `ie_step::header_step` meets its contract. Assumes nothing.
use Rattle.std.proofs.Common.{rules}
use Rattle.refusal.specs.declared.Refusal.TheVariants.{Cut}
use Rattle.octets_spec.specs.Number.{le_at}
use Rattle.ie_step_spec.specs.Header.{header_word, header_at, header_within}
use Rattle.ie_step_spec.specs.declared.HeaderStep.{HeaderStep}
use Rattle.ie_step_spec.specs.declared.HeaderStep.TheVariants as header
use Rattle.ie_step_spec.proofs.StepLaws.{step_is}
use Rattle.ie_step.proofs.header_step.Goals as goal

pub returns : goal.returns
unfolding header_at
returns c =
    let says : HeaderStep = header_word c.args.at c.args.end (le_at 2 c.args.s.now c.args.at) in
    step_is c.args.at c.args.end header.End (header.Fault Cut) says (λ (r : HeaderStep). header_within r c.args.at c.args.end) c.step.result tt tt c.step.ensures.ends c.step.ensures.one_left (λ enough. let said = c.step.ensures.read enough in search rules)
