-- Text in a lent buffer, as bytes in ASCII, and numbers as text (docs/RULES.md, Text). Assumes nothing.
use Rattle.std.specs.Prelude.{ℕ, zero, suc, ◌+◌, ◌/◌, min, max, List, [], ◌∷◌, ◌++◌, length}
use Rattle.octets_spec.specs.Choice.{if_lt}
use Rattle.io.specs.Digits.{last_digits}

-- how many digits a number has in a base; the bound only has to be large enough
unfoldable pub width_go : ℕ → ℕ → ℕ → ℕ
width_go base zero number = 0
width_go base (suc bound) number = if_lt number base 1 (width_go base bound (number / base) + 1)

-- a number in decimal: as many digits as it has, so that no zero leads, and `0` for 0
unfoldable pub decimal : ℕ → List ℕ
decimal number = last_digits 10 (width_go 10 (suc number) number) number

-- a number in hex, in lower case: as many digits as it has, and zeros in front of them up to a width of at most 16
unfoldable pub hexadecimal : ℕ → ℕ → List ℕ
hexadecimal width number = last_digits 16 (max (min width 16) (width_go 16 (suc number) number)) number

-- octets in hex, two digits each
unfoldable pub hex_octets : List ℕ → List ℕ
hex_octets [] = []
hex_octets (octet ∷ octets) = hexadecimal 2 octet ++ hex_octets octets

-- what is put of a text into a buffer of some length from an offset on: all of it, or nothing if it does not fit
unfoldable pub fitting : ℕ → ℕ → List ℕ → List ℕ
fitting room at text = if_lt room (at + length text) [] text
