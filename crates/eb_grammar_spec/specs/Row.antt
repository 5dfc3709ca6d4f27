-- Numbers in bytes, as the grammar counts them: the bytes are a list of their own, at no offset (docs/RULES.md, Numbers in bytes). Assumes
-- nothing.
use Rattle.std.specs.Prelude.{ℕ, ◌+◌, ◌*◌, ◌/◌, ◌%◌, ◌^◌, List, [], ◌∷◌, ◌++◌, length}

-- bytes as a number, least significant byte first
unfoldable pub le : List ℕ → ℕ
le [] = 0
le (byte ∷ bytes) = byte + 256 * le bytes

-- bytes as a number, most significant byte first: only inside joining information
unfoldable pub be : List ℕ → ℕ
be [] = 0
be (byte ∷ bytes) = 256 ^ length bytes * byte + be bytes

-- `count` bits of a number, from bit `start` on
abbrev pub bits : ℕ → ℕ → ℕ → ℕ
bits start count number = number / 2 ^ start % 2 ^ count

-- numbers one behind the other: the width of each in bytes, the bytes, the numbers
pub data Row : List ℕ → List ℕ → List ℕ → Type 0 where
  -- no more numbers
  last : Row [] [] []
  -- a number, least significant byte first, and those behind it
  next : (number : List ℕ) {widths bytes numbers : List ℕ} → Row widths bytes numbers → Row (length number ∷ widths) (number ++ bytes) (le number ∷ numbers)
