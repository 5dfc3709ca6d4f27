-- What putting a part does to a line (docs/RULES.md, Text). Assumes nothing.
use Rattle.std.specs.Prelude.{◌≡◌, ℕ, List}
use Rattle.text_put_spec.specs.Part.{PartPut}
use Rattle.text_put.specs.declared.Line.{Line}

-- a line with a part of at most so many bytes put into it: the same buffer is lent to it, and has the part from the line's end on
abbrev pub Puts : ℕ → Line → List ℕ → Line → Type 0
Puts most before part after = (after.buffer.ghost_name ≡ before.buffer.ghost_name) × PartPut most before.buffer.now before.end part after.buffer.now after.end
