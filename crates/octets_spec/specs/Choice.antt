-- The choices that definitions are written with: a row of them, in the order of the rules, says which answer comes first
-- (docs/RULES.md, How the definitions are written). They stay shut in goals; their laws stand in proofs/ChoiceLaws.antt. Assumes
-- nothing.
use Rattle.std.specs.Prelude.{ℕ, Bool, cond, ltb, eqb}

-- the answer if the test holds, otherwise the other one
unfoldable pub if_on : {A : Type 0} → Bool → A → A → A
if_on test answer otherwise = cond test answer otherwise

-- the answer if one number is below the other, otherwise the other one
unfoldable pub if_lt : {A : Type 0} → ℕ → ℕ → A → A → A
if_lt one other answer otherwise = cond (ltb one other) answer otherwise

-- the answer if the numbers are equal, otherwise the other one
unfoldable pub if_eq : {A : Type 0} → ℕ → ℕ → A → A → A
if_eq one other answer otherwise = cond (eqb one other) answer otherwise

-- the same for rows of checks, in which the refusal stands first: the answer unless the numbers are equal
abbrev pub if_ne : {A : Type 0} → ℕ → ℕ → A → A → A
if_ne one other answer otherwise = if_eq one other otherwise answer

-- the answer unless the test holds
abbrev pub if_off : {A : Type 0} → Bool → A → A → A
if_off test answer otherwise = if_on test otherwise answer
