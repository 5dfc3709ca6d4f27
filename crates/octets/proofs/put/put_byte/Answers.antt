-- `octets::put::put_byte` meets its contract. Assumes nothing.
use lib.Seq.{set_out}
use mathlib.Core.Path.{sym}
use borrow.Author.Rules.{rules}
use Rattle.octets.proofs.put.put_byte.Goals as goal

pub returns-else-at-buffer : goal.returns-else-at-buffer
returns-else-at-buffer c = sym (set_out _ _ _ (search rules))
