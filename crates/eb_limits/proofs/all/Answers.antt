-- `eb_limits::all` meets its contract. Assumes nothing.
use mathlib.Core.Path.{refl, ◌∙◌, ap}
use lib.Seq.{take_all}
use Rattle.std.specs.List.{list_all}
use Rattle.std.proofs.lemmas.List.Folds.{list_all_more}
use Rattle.eb_limits.proofs.all.Goals as goal

pub loop-item-init : goal.loop-item-init
loop-item-init g c = (c.requires, λ holds agree. refl)

pub loop-item-preserved : goal.loop-item-preserved
loop-item-preserved g c = (
  c.loop-item.invariant.0,
  λ holds agree.
      let more = list_all_more holds c.args.items.now c.loop-item.item-index c.item-item.result c.loop-item-test.true in
      let one = agree c.item-item.result c.test-ok.result c.test-ok.ensures in
      cc (more, one, c.loop-item.invariant.1 holds agree, c.item-item.is),
)

pub returns : goal.returns
returns g c = λ holds agree. c.loop-item.invariant.1 holds agree ∙ ap (list_all holds) (take_all c.loop-item.item-index c.args.items.now c.loop-item-test.false)
