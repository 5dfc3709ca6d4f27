-- Parts of a line, which are put into a lent buffer one behind the other, and the line as a whole, as bytes in ASCII (docs/RULES.md, Text;
-- docs/RULES.md, The printed line). Assumes nothing.
use Rattle.std.specs.Prelude.{ℕ, ◌+◌, ◌≤◌, ◌≡◌, List, [], ◌∷◌, ◌++◌, length, drop}
use Rattle.octets_spec.specs.Choice.{if_lt}
use Rattle.octets_spec.specs.Number.{stored}
use Rattle.text_put_spec.specs.Text.{decimal}

-- `refused `
abbrev pub refused_name : List ℕ
refused_name = 114 ∷ 101 ∷ 102 ∷ 117 ∷ 115 ∷ 101 ∷ 100 ∷ 32 ∷ []

-- `absent`
abbrev pub absent_name : List ℕ
absent_name = 97 ∷ 98 ∷ 115 ∷ 101 ∷ 110 ∷ 116 ∷ []

-- the end of a line
abbrev pub newline : List ℕ
newline = 10 ∷ []

-- a number behind its name
unfoldable pub field : List ℕ → ℕ → List ℕ
field name number = name ++ decimal number

-- the line of a refusal, with its number: `refused 2`
unfoldable pub refused_text : ℕ → List ℕ
refused_text number = field refused_name number ++ newline

-- what a line puts into a buffer of some length: itself, and nothing into a buffer that is shorter than some least length
unfoldable pub line_in : ℕ → ℕ → List ℕ → List ℕ
line_in least room line = if_lt room least [] line

-- a buffer that begins with a text, and is behind it as it was
unfoldable pub starts_with : List ℕ → List ℕ → List ℕ
starts_with text buffer = text ++ drop (length text) buffer

-- a part of at most so many bytes, put into a buffer from an offset on: where so many have room, the buffer then has the part, and the next
-- offset is the one behind it
pub record PartPut (most : ℕ) (buffer : List ℕ) (at : ℕ) (part : List ℕ) (after : List ℕ) (next : ℕ) : Type 0 where
  pub short : length part ≤ most
  pub size : length after ≡ length buffer
  pub bytes : at + most ≤ length buffer → after ≡ stored buffer at part
  pub offset : at + most ≤ length buffer → next ≡ at + length part
