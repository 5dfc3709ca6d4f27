-- `eb_read::network::network_id` meets its contract. Assumes nothing.
use native.Mathlib.Omega.{arith}
use Rattle.eb_read_spec.proofs.NetworkLaws.{networks, span_ends}
use borrow.Author.Rules.{rules}
use Rattle.eb_read.proofs.network.network_id.Goals as goal

pub overflow_add-to : goal.overflow_add-to
overflow_add-to c = omega (arith, span_ends _ _ c.network_span-span.ensures.answer)

pub slice_bounds-result-end : goal.slice_bounds-result-end
slice_bounds-result-end c = omega (arith, span_ends _ _ c.network_span-span.ensures.answer)

pub returns : goal.returns
returns c = record { bytes = search (rules, networks); place = search (rules, networks) }
