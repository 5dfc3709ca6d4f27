-- `eb_limits::sizes::frame_length` meets its contract. Assumes nothing.
use Rattle.eb_limits.proofs.SizeLaws.{length_says}
use borrow.Author.Rules.{rules}
use Rattle.octets_spec.proofs.CountedLaws.{length_mapped}
use Rattle.eb_limits.proofs.sizes.frame_length.Goals as goal

pub returns : goal.returns
returns c = let both = length_says c.args.beacon _ _ _ _ c.sequence_size.ensures.0 c.address_size.ensures.0 c.group_size.ensures.0 c.joining_part.ensures.0 (search rules) (search (rules, length_mapped)) (search rules) in record { formula = both.0; frame = both.1 }
