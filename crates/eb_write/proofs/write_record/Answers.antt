-- `eb_write::write_record` meets its contract. Assumes nothing.
use mathlib.Core.Path.{◌≡◌, sym, ◌∙◌}
use mathlib.Core.Bool.{true}
use Rattle.eb_write_spec.proofs.WrittenLaws.{answers}
use borrow.Author.Rules.{rules}
use Rattle.eb_write.proofs.write_record.Goals as goal

pub returns-then-not-within_limits : goal.returns-then-not-within_limits
returns-then-not-within_limits g c = record { answer = search (rules, answers); buffer = search (rules, answers) }

pub returns-then-length-gt-LONGEST_FRAME : goal.returns-then-length-gt-LONGEST_FRAME
returns-then-length-gt-LONGEST_FRAME g c = record { answer = search (rules, answers); buffer = search (rules, answers) }

pub returns-then-buffer-length : goal.returns-then-buffer-length
returns-then-buffer-length g c = record { answer = search (rules, answers); buffer = search (rules, answers) }

pub returns : goal.returns
returns g c =
    let within : g.R.Record.fits c.args.given.now ≡ true = sym c.within_limits.ensures ∙ c.if-not-within_limits.false in
    record { answer = search (rules, answers); buffer = search (rules, answers, c.put_frame.ensures within) }
