-- `slot_decision::scan::scan` meets its contract. Assumes nothing.
use mathlib.Core.Path.{◌≡◌, ◌∙◌}
use native.Mathlib.Omega.{arith}
use Rattle.slot_spec.proofs.Scanned.{begin_at_end, turn, end_at_begin}
use Rattle.slot_decision.proofs.scan.scan.Goals as goal

pub loop-i-init : goal.loop-i-init
loop-i-init c =
    let into : c.into_iter-i-iterator.result ≡ c.rev-i-items.result = c.into_iter-i-iterator.ensures.into_iter_gives in
    record { first = rw into (rw c.rev-i-items.ensures.source c.enumerate.ensures.count); passed = rw into (rw c.rev-i-items.ensures.source (rw c.enumerate.ensures.source (rw c.iter.ensures.rest (begin_at_end c.args.links.now c.args.start)))) }

pub loop-i-preserved : goal.loop-i-preserved
loop-i-preserved c =
    let steps = c.in-Some.ensures.steps in
    record { first = steps.0 ∙ c.loop-i.invariant.first; passed = turn c.args.links.now c.args.start c.next.new.self.iter.iter.rest.now c.in-Some.link.now c.in-Some.i c.loop-i.seen c.step-seen.result (rw steps.1.0 at c.loop-i.invariant.passed) (omega arith) c.step-seen.ensures }

pub returns : goal.returns
returns c = end_at_begin c.args.links.now c.args.start c.loop-i.i-iterator.iter.iter.rest.now c.loop-i.seen c.loop-i.invariant.passed c.in-None.ensures.steps.1.0
