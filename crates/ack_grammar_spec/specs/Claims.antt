-- The grammar and reading agree on every list of bytes, and what follows from that (docs/RULES.md, Acknowledgements). Assumes nothing.
use Rattle.std.specs.Prelude.{ℕ, ◌<◌, ◌≤◌, ◌≡◌, List, ◌∷◌, ◌++◌, length}
use Rattle.refusal.specs.Refusal.{done}
use Rattle.eb_read_spec.specs.Claims.{Bytes}
use Rattle.eb_grammar_spec.specs.Row.{bits}
use Rattle.eb_grammar_spec.specs.Grammar.{HeaderElements, contents}
use Rattle.eb_grammar_spec.specs.Claims.{AnswerAsSaid, FormAsSaid}
use Rattle.ack_record_spec.specs.declared.Ack.{Ack}
use Rattle.ack_record_spec.specs.declared.AckForm.{AckForm}
use Rattle.ack_record_spec.specs.Record.{form_of}
use Rattle.ack_read_spec.specs.Read.{read_ack}
use Rattle.ack_read_spec.specs.Witnesses.{shortest, shortest_record}
use Rattle.ack_grammar_spec.specs.Grammar.{elements_of, ListEnd, Accepts}

-- what reading accepts is a frame of the grammar, and says the record that reading gives
abbrev pub Sound : Type 0
Sound = (frame : List ℕ) (ack : Ack) → Bytes frame → read_ack frame ≡ record { number = done; ack = ack } → Accepts frame ack

-- a frame of the grammar is accepted, and reading gives what it says
abbrev pub Complete : Type 0
Complete = (frame : List ℕ) (ack : Ack) → Bytes frame → Accepts frame ack → read_ack frame ≡ record { number = done; ack = ack }

-- a list of bytes says at most one record
abbrev pub Unambiguous : Type 0
Unambiguous = (frame : List ℕ) (one other : Ack) → Bytes frame → Accepts frame one → Accepts frame other → one ≡ other

-- a list of bytes is refused exactly when it says no record
abbrev pub RefusedSaysNothing : Type 0
RefusedSaysNothing =
    (frame : List ℕ) → Bytes frame →
    (((read_ack frame).number ≡ done → ⊥) → (ack : Ack) → Accepts frame ack → ⊥) × (((ack : Ack) → Accepts frame ack → ⊥) → (read_ack frame).number ≡ done → ⊥)

-- ---- what can differ between two frames that say the same record
-- frame pending (bit 4), acknowledge request (bit 5) and the reserved bit (bit 7)
abbrev pub IgnoredBitsDoNotCount : Type 0
IgnoredBitsDoNotCount =
    (low other high : ℕ) (rest : List ℕ) (ack : Ack) → low < 256 → other < 256 → bits 0 4 low ≡ bits 0 4 other → bits 6 1 low ≡ bits 6 1 other →
    Accepts (low ∷ high ∷ rest) ack → Accepts (other ∷ high ∷ rest) ack

-- how the header list ends, and what stands behind it
abbrev pub NothingBehindTheListCounts : Type 0
NothingBehindTheListCounts =
    (frame other : List ℕ) (ack : Ack) (accepted : Accepts frame ack) → ListEnd other → length (accepted.fields ++ (accepted.header ++ other)) ≤ 125 → Accepts (accepted.fields ++ (accepted.header ++ other)) ack

-- header elements of another ID: lists with the same corrections say the same
abbrev pub OtherElementsDoNotCount : Type 0
OtherElementsDoNotCount =
    (frame other : List ℕ) (ack : Ack) (accepted : Accepts frame ack) (lists : HeaderElements other) → contents 0x1E (elements_of accepted.lists) ≡ contents 0x1E (elements_of lists) →
    length (accepted.fields ++ (other ++ accepted.rest)) ≤ 125 → Accepts (accepted.fields ++ (other ++ accepted.rest)) ack

-- the 12 bytes are of the grammar, and say their record
abbrev pub ShortestIsOfTheGrammar : Type 0
ShortestIsOfTheGrammar = Accepts shortest shortest_record

-- ---- the same of one call, whose lent slice holds bytes by its type
-- an answer is as the grammar says
abbrev pub ReadAsSaid : List ℕ → ℕ → Ack → Type 0
ReadAsSaid frame number ack = AnswerAsSaid (Accepts frame) number ack

-- and so is one without enums
abbrev pub FormReadAsSaid : List ℕ → ℕ → AckForm → Type 0
FormReadAsSaid frame number form = FormAsSaid (Accepts frame) form_of number form
