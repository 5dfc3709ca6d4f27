-- A log of calls: four lists, one row for each call (docs/RULES.md, Parents do not flap). Assumes nothing.
use Rattle.std.specs.Prelude.{ℕ, zero, suc, Bool, false, not, ◌&&◌, ◌||◌, List, [], ◌∷◌, ◌++◌, length, get_or, eqb, ltb}
use Rattle.octets_spec.specs.Choice.{if_eq}
use Rattle.nbr_stability_spec.specs.Stability.{Call}
use Rattle.nbr_stability_spec.specs.Stability.Call.{Advertise, Report, Forget, Evaluate}

-- the lists of a log
pub record Log : Type 0 where
  pub kinds : List ℕ
  pub ids : List ℕ
  pub values : List ℕ
  pub flags : List ℕ

-- a log of four lists
abbrev pub log : List ℕ → List ℕ → List ℕ → List ℕ → Log
log kinds ids values flags = record { kinds = kinds; ids = ids; values = values; flags = flags }

-- the call of a row: kind 0 advertises the identifier with the value as rank; 1 reports the value as attempts,
-- acknowledged where the flag is 1; 2 forgets the identifier; 3 evaluates. What a kind does not name is not looked at
unfoldable pub call : ℕ → ℕ → ℕ → ℕ → Call
call kind id value flag = if_eq kind 0 (Advertise id value) (if_eq kind 1 (Report id value (eqb flag 1)) (if_eq kind 2 (Forget id) Evaluate))

-- the call of row i
abbrev pub call_at : Log → ℕ → Call
call_at rows i = call (get_or rows.kinds i 0) (get_or rows.ids i 0) (get_or rows.values i 0) (get_or rows.flags i 0)

-- the calls of the first k rows
unfoldable pub calls_to : Log → ℕ → List Call
calls_to rows zero = []
calls_to rows (suc k) = calls_to rows k ++ (call_at rows k ∷ [])

-- the calls of all rows
abbrev pub calls : Log → List Call
calls rows = calls_to rows (length rows.kinds)

-- some number of a list is over a limit
unfoldable pub some_over : ℕ → List ℕ → Bool
some_over limit [] = false
some_over limit (number ∷ numbers) = ltb limit number || some_over limit numbers

-- the lists are equally long
unfoldable pub equally_long : Log → Bool
equally_long rows =
    eqb (length rows.ids) (length rows.kinds)
    && (eqb (length rows.values) (length rows.kinds) && eqb (length rows.flags) (length rows.kinds))

-- a log that is refused: lists not equally long, over 65535 rows, a kind over 3 or a flag over 1
unfoldable pub unfit_log : Log → Bool
unfit_log rows = not (equally_long rows) || (ltb 65535 (length rows.kinds) || (some_over 3 rows.kinds || some_over 1 rows.flags))
