-- `nbr_replay::run` meets its contract. Assumes nothing.
use Rattle.nbr_replay_spec.proofs.ReplayLaws.{ran_end, ran_long, ran_on, ran_room, ran_sound, ran_start}
use borrow.Author.Rules.{rules}
use Rattle.nbr_replay.proofs.run.Goals as goal

pub loop-i-init : goal.loop-i-init
loop-i-init c = search (rules, ran_start)

pub loop-i-preserved : goal.loop-i-preserved
loop-i-preserved c =
    ran_on _ _ _ _ _ c.loop-i.invariant _ _ _ _ c.call.ensures c.step-visit.ensures.leaves c.step-visit.ensures.shows c.counted-counts.ensures.value c.counted-counts.ensures.bound
    c.step-visit.ensures.long

pub step-visit-requires : goal.step-visit-requires
step-visit-requires c = search (rules, ran_sound, ran_long)

pub counted-counts-requires : goal.counted-counts-requires
counted-counts-requires c = search (rules, ran_room)

pub returns : goal.returns
returns c = search (rules, ran_end)
