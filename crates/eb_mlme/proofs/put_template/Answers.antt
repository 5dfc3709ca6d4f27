-- `eb_mlme::put_template` meets its contract. Assumes nothing.
use Rattle.eb_mlme.proofs.TemplateLaws.{template_timed, template_bare}
use Rattle.eb_mlme.proofs.put_template.Goals as goal

pub returns-then-template : goal.returns-then-template
returns-then-template c = template_timed _ _ _ c.args.template _ c.template_size-size.ensures.0 c.template_size-size.ensures.1 c.put_le.ensures.buffer _ c.if-template.true c.put_timings.ensures

pub returns-else-template : goal.returns-else-template
returns-else-template c = template_bare _ _ _ c.args.template _ c.template_size-size.ensures.0 c.template_size-size.ensures.1 c.put_le.ensures.buffer c.if-template.false
