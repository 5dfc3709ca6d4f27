-- `eb_decode::elements::links_at` meets its contract. Assumes nothing.
use mathlib.Core.Path.{◌≡◌}
use Rattle.octets_spec.proofs.CountedLaws.{filled}
use Rattle.eb_record_spec.specs.Record.{blank_link}
use Rattle.eb_read_spec.specs.Decode.{link_at}
use Rattle.eb_decode.proofs.elements.links_at.Given as goal

abbrev pub invariant-loop-i : goal.invariant-loop-i
invariant-loop-i l = l.all ≡ filled (link_at l.s l.at) blank_link 16 l.i
