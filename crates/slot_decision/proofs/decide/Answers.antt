-- `slot_decision::decide` meets its contract. Assumes nothing.
use Rattle.slot_spec.proofs.Scanned.{decides, decides_answer}
use Rattle.slot_decision.proofs.decide.Goals as goal

pub returns : goal.returns
returns c =
    let decided = decides c.args.links.now c.args.query c.begin-start.result c.scan-seen.result c.conclude.result c.begin-start.ensures c.scan-seen.ensures c.conclude.ensures in
    record { decision = decided; answer = decides_answer c.args.links.now c.args.query c.conclude.result decided }
