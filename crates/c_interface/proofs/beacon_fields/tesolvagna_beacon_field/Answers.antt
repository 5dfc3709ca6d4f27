-- `c_interface::beacon_fields::tesolvagna_beacon_field` meets its contract. Assumes nothing.
use borrow.Author.Rules.{rules}
use Rattle.eb_fields_spec.proofs.PlaceLaws.{of_record}
use Rattle.c_interface.proofs.beacon_fields.tesolvagna_beacon_field.Goals as goal

pub returns : goal.returns
returns c = search (rules, of_record)
