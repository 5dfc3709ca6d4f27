-- `nbr_table::is_broken` meets its contract. Assumes nothing.
use Rattle.nbr_table_spec.proofs.ScanLaws.{scanWays}
use borrow.Author.Rules.{rules}
use Rattle.nbr_table.proofs.is_broken.Goals as goal
use Rattle.nbr_table.proofs.is_broken.Goals.{then-place+else-stands, else-place}

pub loop-place-init : goal.loop-place-init
loop-place-init c = search (rules, scanWays)

pub returns-then-is_unfit : goal.returns-then-is_unfit
returns-then-is_unfit c = search (rules, scanWays)

pub returns-then-stands : goal.returns-then-stands
returns-then-stands c = search (rules, scanWays)

pub loop-place-preserved : goal.loop-place-preserved
loop-place-preserved c =
    elim c.if-place.branch [ then-place+else-stands w ↦ rw w.ids-is (search (rules, scanWays)) | else-place w ↦ rw w.ids-is (search (rules, scanWays)) ]

pub returns-in-Some : goal.returns-in-Some
returns-in-Some c = search (rules, scanWays)

pub returns-in-None : goal.returns-in-None
returns-in-None c = search (rules, scanWays)
