-- `eb_mlme::put_each` meets its contract. Assumes nothing.
use mathlib.Core.Path.{◌∙◌, ap}
use lib.Seq.{take_all}
use Rattle.std.specs.List.{flat_map}
use Rattle.octets_spec.specs.Number.{stored}
use Rattle.eb_mlme.proofs.EachLaws.{each_start, each_next}
use Rattle.eb_mlme.proofs.put_each.Goals as goal

pub loop-i-init : goal.loop-i-init
loop-i-init g c = (c.requires.callable, λ bytes agree. each_start bytes c.args.width c.args.buffer.now c.args.at)

pub loop-i-preserved : goal.loop-i-preserved
loop-i-preserved g c = (
  c.loop-i.invariant.0,
  λ bytes agree.
      each_next bytes c.args.width c.args.buffer.now c.args.at c.args.items.now c.loop-i.i c.loop-i.buffer c.put_le.new.buffer c.index-items-i.result c.number.result c.loop-i-test.true c.index-items-i.is
      (agree c.index-items-i.result c.number.result c.number.ensures) (c.loop-i.invariant.1 bytes agree) (rw c.from.ensures at c.put_le.ensures.buffer),
)

pub returns : goal.returns
returns g c = λ bytes agree. (c.loop-i.invariant.1 bytes agree).0 ∙ ap (λ l. stored c.args.buffer.now c.args.at (flat_map bytes l)) (take_all c.loop-i.i c.args.items.now c.loop-i-test.false)
