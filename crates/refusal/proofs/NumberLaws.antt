-- The numbers of refusals. Assumes nothing.
use mathlib.Core.Path.{◌≡◌}
use Rattle.refusal.specs.Refusal.{number_of}
use Rattle.refusal.specs.declared.Refusal.{Refusal}
use Rattle.refusal.specs.declared.Refusal.TheVariants.{FrameTooLong, Cut, WrongType, Secured, Addressing, Shape, MissingOrTwice, OutOfLimits, BufferTooShort, UnknownNeighbour, TableFull}

-- no refusal's number is that of a call that is done
pub number_some : (refusal : Refusal) → number_of refusal ≡ 0 → ⊥
number_some FrameTooLong e = cc
number_some Cut e = cc
number_some WrongType e = cc
number_some Secured e = cc
number_some Addressing e = cc
number_some Shape e = cc
number_some MissingOrTwice e = cc
number_some OutOfLimits e = cc
number_some BufferTooShort e = cc
number_some UnknownNeighbour e = cc
number_some TableFull e = cc
