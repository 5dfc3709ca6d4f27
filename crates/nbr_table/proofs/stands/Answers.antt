-- `nbr_table::stands` meets its contract. Assumes nothing.
use Rattle.nbr_table_spec.proofs.ScanLaws.{standsWays}
use borrow.Author.Rules.{rules}
use Rattle.nbr_table.proofs.stands.Goals as goal

pub loop-other-preserved : goal.loop-other-preserved
loop-other-preserved c = search (rules, standsWays)

pub returns : goal.returns
returns c = search (rules, standsWays)
