-- The numbers that a call can return, and which refusal of src/lib.rt has which (docs/RULES.md, Refusals). Assumes nothing.
use Rattle.std.specs.Prelude.{ℕ, ◌≡◌, Result, Ok, Err}
use Rattle.refusal.specs.declared.Refusal.{Refusal}
use Rattle.refusal.specs.declared.Refusal.TheVariants.{FrameTooLong, Cut, WrongType, Secured, Addressing, Shape, MissingOrTwice, OutOfLimits, BufferTooShort, UnknownNeighbour, TableFull}

-- DONE: the call is done; nothing was refused.
abbrev pub done : ℕ
done = 0

-- FrameTooLong: the frame is longer than 125 bytes, or would be when written.
abbrev pub frame_too_long : ℕ
frame_too_long = 1

-- Cut: a field, an element or an element's two descriptor bytes run past what encloses them.
abbrev pub cut : ℕ
cut = 2

-- WrongType: the frame's type is not that of the call (a beacon's is 0, an acknowledgement's 2), or its version is not 2.
abbrev pub wrong_type : ℕ
wrong_type = 3

-- Secured: the security bit is set.
abbrev pub secured : ℕ
secured = 4

-- Addressing: the addressing modes, PAN ID compression, the presence of elements or a beacon's destination are not of the accepted form.
abbrev pub addressing : ℕ
addressing = 5

-- Shape: an element has the wrong shape: its length or a bit of its descriptor is not as its kind has it.
abbrev pub shape : ℕ
shape = 6

-- MissingOrTwice: a required element is missing, or a known element is seen twice.
abbrev pub missing_or_twice : ℕ
missing_or_twice = 7

-- OutOfLimits: a number is outside its limits.
abbrev pub out_of_limits : ℕ
out_of_limits = 8

-- BufferTooShort: the lent buffer is shorter than the frame to be written.
abbrev pub buffer_too_short : ℕ
buffer_too_short = 9

-- UnknownNeighbour: the neighbour is not in the table.
abbrev pub unknown_neighbour : ℕ
unknown_neighbour = 10

-- TableFull: the neighbour is new, and all 32 places of the table are in use.
abbrev pub table_full : ℕ
table_full = 11

-- the number of each refusal
abbrev pub number_of : Refusal → ℕ
number_of FrameTooLong = frame_too_long
number_of Cut = cut
number_of WrongType = wrong_type
number_of Secured = secured
number_of Addressing = addressing
number_of Shape = shape
number_of MissingOrTwice = missing_or_twice
number_of OutOfLimits = out_of_limits
number_of BufferTooShort = buffer_too_short
number_of UnknownNeighbour = unknown_neighbour
number_of TableFull = table_full

-- the number of an answer: done, whatever it holds, or that of its refusal
abbrev pub number_in : {A : Type 0} → Result A Refusal → ℕ
number_in (Ok value) = done
number_in (Err refusal) = number_of refusal

-- the number given is this one exactly when a condition holds
abbrev pub GivenWhen : ℕ → ℕ → Type 0 → Type 0
GivenWhen given number condition = (given ≡ number → condition) × (condition → given ≡ number)
