-- `eb_limits::slotframe_fits` meets its contract. Assumes nothing.
use mathlib.Core.Path.{◌∙◌}
use Rattle.eb_write_spec.specs.Limits.{link_fits, link_unused}
use Rattle.eb_limits.proofs.LimitLaws.{all_is, all_rest, slotframe_is}
use borrow.Author.Rules.{rules}
use Rattle.octets_spec.proofs.CountedLaws.{length_mapped}
use Rattle.eb_limits.proofs.slotframe_fits.Goals as goal

pub returns : goal.returns
returns c = slotframe_is c.args.slotframe _ _ _ (search (rules, length_mapped)) (search rules) (search rules) c.at_most_16-used.ensures.0 (c.all.ensures (link_fits c.args.slotframe.size) (λ link said e. search rules) ∙ all_is _ _) (c.all-2.ensures link_unused (λ link said e. search rules) ∙ all_rest link_unused c.args.slotframe.links c.at_most_16-used.result)
