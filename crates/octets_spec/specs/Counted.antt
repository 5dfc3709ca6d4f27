-- Lists that are counted out: the values of a function at 0, 1 and so on (docs/RULES.md, How the definitions are written). Assumes nothing.
use Rattle.std.specs.Prelude.{ℕ, zero, suc, ◌-◌, min, List, [], ◌∷◌, ◌++◌, replicate}

-- this many values, from that at 0 on
unfoldable pub counted : {A : Type 0} → (ℕ → A) → ℕ → List A
counted element zero = []
counted element (suc count) = counted element count ++ (element count ∷ [])

-- a list of some size that begins with this many values and is blank behind them
unfoldable pub padded : {A : Type 0} → (ℕ → A) → A → ℕ → ℕ → List A
padded element blank size count = counted element (min count size) ++ replicate (size - min count size) blank
