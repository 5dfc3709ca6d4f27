-- `eb_examine::examine` meets its contract. Assumes nothing.
use Rattle.eb_read_spec.proofs.Accepted.{accepted_lies_inside}
use Rattle.eb_read_spec.proofs.ReadLaws.{examining}
use borrow.Author.Rules.{rules}
use Rattle.eb_examine.proofs.examine.Goals as goal

pub returns-in-Err : goal.returns-in-Err
returns-in-Err c = record { answer = search (rules, examining); inside = accepted_lies_inside }

pub behind_header-walk-requires : goal.behind_header-walk-requires
behind_header-walk-requires c = search (rules, examining)

pub walk_number-requires : goal.walk_number-requires
walk_number-requires c = search (rules, examining)

pub returns : goal.returns
returns c = record { answer = search (rules, examining); inside = accepted_lies_inside }
