-- `ie_walk::header_list::header_list` meets its contract. Assumes nothing.
use Rattle.ie_walk_spec.proofs.ListLaws.{header_lists}
use Rattle.std.proofs.Common.{rules, ◌≡◌}
use Rattle.refusal.specs.Refusal.{number_of}
use Rattle.ie_walk.proofs.header_list.header_list.Goals as goal

pub loop-list-init : goal.loop-list-init
loop-list-init c = search (rules, header_lists)

pub returns-in-End : goal.returns-in-End
returns-in-End c = search (rules, header_lists)

pub returns-in-Payload : goal.returns-in-Payload
returns-in-Payload c = search (rules, header_lists)

pub loop-list-preserved : goal.loop-list-preserved
loop-list-preserved c = search (rules, header_lists)

pub returns-in-Fault : goal.returns-in-Fault
returns-in-Fault c = let number : c.from.result ≡ number_of c.in-Fault.refusal = cc in search (rules, header_lists)
