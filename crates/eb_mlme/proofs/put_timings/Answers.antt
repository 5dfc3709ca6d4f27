-- `eb_mlme::put_timings` meets its contract. Assumes nothing.
use Rattle.octets_spec.specs.Number.{le_bytes}
use Rattle.eb_mlme.proofs.TemplateLaws.{timings_put}
use borrow.Author.Rules.{rules}
use Rattle.eb_mlme.proofs.put_timings.Goals as goal

pub returns : goal.returns
returns c = timings_put _ _ _ _ c.args.timings.now (search rules) c.last_width-width.result c.last_width-width.ensures.0 (c.put_each.ensures (le_bytes 2) (λ n number e. search rules)) (c.put_each-2.ensures (le_bytes c.last_width-width.result) (λ n number e. search rules))
