-- `ie_walk::payload_list::payload_list` meets its contract. Assumes nothing.
use Rattle.ie_walk_spec.proofs.ListLaws.{lists}
use borrow.Author.Rules.{rules}
use Rattle.ie_walk.proofs.payload_list.payload_list.Goals as goal

pub outer-requires : goal.outer-requires
outer-requires c = search (rules, lists)
