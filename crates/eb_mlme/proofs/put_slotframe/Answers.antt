-- `eb_mlme::put_slotframe` meets its contract. Assumes nothing.
use Rattle.octets_spec.proofs.CountedLaws.{length_mapped}
use Rattle.eb_write_spec.specs.Frame.{link_bytes}
use Rattle.eb_mlme.proofs.SlotframeLaws.{slotframe_put}
use borrow.Author.Rules.{rules}
use Rattle.eb_mlme.proofs.put_slotframe.Goals as goal

pub returns : goal.returns
returns c = slotframe_put _ _ _ _ c.args.slotframe _ _ (search (rules, length_mapped)) c.at_most_16-used.ensures.0 c.head_number-head.ensures c.put_le.ensures.buffer (c.put_each.ensures link_bytes (λ link number e. e))
