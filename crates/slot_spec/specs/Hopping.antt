-- The default hopping sequence and the channel rule (docs/RULES.md, Slot and channel). Assumes nothing.
use Rattle.std.specs.Prelude.{ℕ, ◌+◌, ◌%◌, List, [], ◌∷◌, get_or}
use mathlib.Core.List as Lists

-- the default hopping sequence
abbrev pub hopping : List ℕ
hopping = 16 ∷ 17 ∷ 23 ∷ 18 ∷ 26 ∷ 15 ∷ 25 ∷ 22 ∷ 19 ∷ 11 ∷ 12 ∷ 13 ∷ 24 ∷ 14 ∷ 20 ∷ 21 ∷ []

-- channel: entry (ASN + channel offset) mod 16 of the sequence, entries counting from 0
unfoldable pub channel_of : ℕ → ℕ → ℕ
channel_of asn offset = get_or hopping ((asn + offset) % 16) 0

-- the channels of the band
abbrev pub channels : List ℕ
channels = 11 ∷ 12 ∷ 13 ∷ 14 ∷ 15 ∷ 16 ∷ 17 ∷ 18 ∷ 19 ∷ 20 ∷ 21 ∷ 22 ∷ 23 ∷ 24 ∷ 25 ∷ 26 ∷ []

-- the claim that the sequence is a permutation of them: each channel stands in it, once
abbrev pub HoppingPermutes : Type 0
HoppingPermutes = Lists.Perm hopping channels
