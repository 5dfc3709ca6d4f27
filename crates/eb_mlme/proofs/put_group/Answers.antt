-- `eb_mlme::put_group` meets its contract. Assumes nothing.
use Rattle.octets_spec.proofs.PutLaws.{stored_out}
use Rattle.eb_mlme.proofs.GroupLaws.{group_put}
use borrow.Author.Rules.{rules}
use Rattle.eb_mlme.proofs.put_group.Goals as goal

pub returns-then-buffer-at : goal.returns-then-buffer-at
returns-then-buffer-at c = search (rules, stored_out)

pub returns : goal.returns
returns c = group_put _ _ _ _ _ _ _ _ _ (search rules) c.template_size-size.ensures.0 c.put_group_start.ensures c.put_group_rest.ensures
