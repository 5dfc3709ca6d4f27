-- `eb_decode::decode` meets its contract. Assumes nothing.
use Rattle.eb_decode.proofs.FormLaws.{forms}
use borrow.Author.Rules.{rules}
use Rattle.eb_decode.proofs.decode.Goals as goal

pub joining_at-requires : goal.joining_at-requires
joining_at-requires c = search (rules, forms)
