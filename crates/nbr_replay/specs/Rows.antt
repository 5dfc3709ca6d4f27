-- The log that four lent lists are (docs/RULES.md, Parents do not flap). Assumes nothing.
use Rattle.nbr_replay_spec.specs.Log.{Log, log}
use Rattle.nbr_replay.specs.declared.log.Log.{Log as Lent}

-- the rows that lent lists have
abbrev pub rows_of : Lent → Log
rows_of lent = log lent.kinds.now lent.ids.now lent.values.now lent.flags.now
