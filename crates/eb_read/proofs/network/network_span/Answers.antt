-- `eb_read::network::network_span` meets its contract. Assumes nothing.
use mathlib.Core.Path.{refl}
use native.Mathlib.Omega.{arith}
use Rattle.eb_read_spec.proofs.NetworkLaws.{networks, network_refused, joining_low, network_lies_inside}
use borrow.Author.Rules.{rules}
use Rattle.eb_read.proofs.network.network_span.Goals as goal

pub returns-in_default : goal.returns-in_default
returns-in_default c = record { answer = network_refused _ _ c.in_default.ensures.walk refl; inside = network_lies_inside }

pub returns-then-at-eq0 : goal.returns-then-at-eq0
returns-then-at-eq0 c = record { answer = search (rules, networks); inside = network_lies_inside }

pub overflow_add-at : goal.overflow_add-at
overflow_add-at c = omega (arith, joining_low _ _ c.in-Ok.ensures.walk (search rules))

pub returns : goal.returns
returns c = record { answer = search (rules, networks); inside = network_lies_inside }
