-- `eb_decode::elements::links_at` meets its contract. Assumes nothing.
use Rattle.octets_spec.proofs.CountedLaws.{fill_stops}
use borrow.Author.Rules.{rules}
use Rattle.eb_decode.proofs.elements.links_at.Goals as goal

pub returns : goal.returns
returns c = fill_stops _ _ _ _ _ c.loop-i.invariant _ (search rules) (search rules) (search rules)
