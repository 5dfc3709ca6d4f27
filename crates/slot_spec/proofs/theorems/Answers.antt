-- Each theorem that `slot_spec::theorems` cites is proved. Assumes nothing.
use Rattle.slot_spec.proofs.Sleeps.{sleeps_exactly_when_idle, some_sleep_and_some_do_not}
use Rattle.slot_spec.proofs.theorems.Goals as goal

pub returns : goal.returns
returns c = record { sleeps_exactly_when_idle = sleeps_exactly_when_idle; some_sleep_and_some_do_not = some_sleep_and_some_do_not }
