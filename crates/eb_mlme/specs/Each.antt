-- What putting the items of a list one after the other leaves: a frame has its timings and its links so (docs/RULES.md, Writing). Assumes nothing.
use Rattle.std.specs.Prelude.{ℕ, ◌≡◌, List}
use Rattle.std.specs.List.{flat_map}
use Rattle.octets_spec.specs.Number.{le_bytes, stored}

-- where the numbers of the items are, in so many bytes each, the bytes that a function says, the buffer has those of all items stored
abbrev pub PutEach : {A : Type 0} → (A → ℕ → Type 0) → ℕ → List A → List ℕ → ℕ → List ℕ → Type 0
PutEach {A} numbers width items before at after = (bytes : A → List ℕ) → ((item : A) (number : ℕ) → numbers item number → le_bytes width number ≡ bytes item) → after ≡ stored before at (flat_map bytes items)
