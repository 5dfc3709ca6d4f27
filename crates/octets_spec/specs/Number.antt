-- Numbers held in bytes, for every width: read at an offset of a list of bytes, and as the bytes to put there (docs/RULES.md,
-- Numbers in bytes). Past the end of the list a byte reads as 0. Assumes nothing.
use Rattle.std.specs.Prelude.{ℕ, zero, suc, ◌+◌, ◌*◌, ◌/◌, ◌%◌, ◌^◌, ◌≤◌, List, [], ◌∷◌, length, get_or, replicate, ◌≡◌}
use Rattle.std.proofs.lemmas.List.Edits.{sets}

-- the number in `width` bytes from `at` on, least significant byte first
unfoldable pub le_at : ℕ → List ℕ → ℕ → ℕ
le_at zero bytes at = 0
le_at (suc width) bytes at = get_or bytes at 0 + 256 * le_at width bytes (at + 1)

-- the number in `width` bytes from `at` on, most significant byte first
unfoldable pub be_at : ℕ → List ℕ → ℕ → ℕ
be_at zero bytes at = 0
be_at (suc width) bytes at = 256 ^ width * get_or bytes at 0 + be_at width bytes (at + 1)

-- the `width` low bytes of a number, least significant first
unfoldable pub le_bytes : ℕ → ℕ → List ℕ
le_bytes zero number = []
le_bytes (suc width) number = number % 256 ∷ le_bytes width (number / 256)

-- the `width` low bytes of a number, most significant first
unfoldable pub be_bytes : ℕ → ℕ → List ℕ
be_bytes zero number = []
be_bytes (suc width) number = number / 256 ^ width % 256 ∷ be_bytes width number

-- a buffer with bytes stored one by one from `at` on; past its end nothing is stored
unfoldable pub stored : List ℕ → ℕ → List ℕ → List ℕ
stored buffer at bytes = sets buffer at bytes

-- the claim that what was put reads back: read at its offset, it is the number's low bytes, and so the number itself where it fits
abbrev pub ReadsBack : (ℕ → ℕ → List ℕ) → (ℕ → List ℕ → ℕ → ℕ) → Type 0
ReadsBack bytes_of number_at = (width number at : ℕ) (buffer : List ℕ) → at + width ≤ length buffer → number_at width (stored buffer at (bytes_of width number)) at ≡ number % 256 ^ width

-- such a buffer: of four bytes, with a number of two bytes from its second byte on
abbrev pub ReadsBackInABuffer : (ℕ → ℕ → List ℕ) → (ℕ → List ℕ → ℕ → ℕ) → Type 0
ReadsBackInABuffer bytes_of number_at =
    let buffer : List ℕ = replicate 4 0 in
    (1 + 2 ≤ length buffer) × (number_at 2 (stored buffer 1 (bytes_of 2 4660)) 1 ≡ 4660)
