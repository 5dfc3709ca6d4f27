-- `nbr_table::is_broken` meets its contract. The invariant: the places passed break no rule by themselves, and the identifiers in use among them are gathered. Assumes nothing.
use Rattle.nbr_table_spec.proofs.ScanLaws.{Scanned}
use Rattle.nbr_table.proofs.is_broken.Given as goal

abbrev pub invariant-loop-place : goal.invariant-loop-place
invariant-loop-place l = Scanned l.ids.items l.place-index l.places
