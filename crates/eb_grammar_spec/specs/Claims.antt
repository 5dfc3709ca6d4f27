-- The grammar and reading agree on every list of bytes (docs/RULES.md, The frame). Assumes nothing.
use Rattle.std.specs.Prelude.{ℕ, ◌≡◌, List}
use Rattle.refusal.specs.Refusal.{done}
use Rattle.eb_record_spec.specs.declared.Beacon.{Beacon}
use Rattle.eb_record_spec.specs.declared.BeaconForm.{BeaconForm}
use Rattle.eb_record_spec.specs.Form.{form_of}
use Rattle.eb_read_spec.specs.Read.{read_frame}
use Rattle.eb_read_spec.specs.Claims.{Bytes}
use Rattle.eb_grammar_spec.specs.Grammar.{Accepts}

-- what reading accepts is a frame of the grammar, and says the record that reading gives
abbrev pub Sound : Type 0
Sound = (frame : List ℕ) (beacon : Beacon) → Bytes frame → read_frame frame ≡ record { number = done; beacon = beacon } → Accepts frame beacon

-- a frame of the grammar is accepted, and reading gives what it says
abbrev pub Complete : Type 0
Complete = (frame : List ℕ) (beacon : Beacon) → Bytes frame → Accepts frame beacon → read_frame frame ≡ record { number = done; beacon = beacon }

-- a list of bytes says at most one record
abbrev pub Unambiguous : Type 0
Unambiguous = (frame : List ℕ) (one other : Beacon) → Bytes frame → Accepts frame one → Accepts frame other → one ≡ other

-- a list of bytes is refused exactly when it says no record
abbrev pub RefusedSaysNothing : Type 0
RefusedSaysNothing =
    (frame : List ℕ) → Bytes frame →
    (((read_frame frame).number ≡ done → ⊥) → (beacon : Beacon) → Accepts frame beacon → ⊥) × (((beacon : Beacon) → Accepts frame beacon → ⊥) → (read_frame frame).number ≡ done → ⊥)

-- ---- the same of one call, whose lent slice holds bytes by its type
-- an answer is as a grammar says: done exactly with the record that the bytes say, and refused exactly when they say none
pub record AnswerAsSaid {A : Type 0} (Says : A → Type 0) (number : ℕ) (answer : A) : Type 0 where
  pub sound : number ≡ done → Says answer
  pub complete : (said : A) → Says said → (number ≡ done) × (answer ≡ said)
  pub unambiguous : (one other : A) → Says one → Says other → one ≡ other
  pub refused_says_nothing : (number ≡ done → ⊥) → (said : A) → Says said → ⊥
  pub nothing_is_refused : ((said : A) → Says said → ⊥) → number ≡ done → ⊥

-- the same of an answer without enums: its record is the form of what the bytes say
pub record FormAsSaid {A F : Type 0} (Says : A → Type 0) (to_form : A → F) (number : ℕ) (form : F) : Type 0 where
  pub sound : number ≡ done → (said : A) × Says said × (form ≡ to_form said)
  pub complete : (said : A) → Says said → (number ≡ done) × (form ≡ to_form said)
  pub unambiguous : (one other : A) → Says one → Says other → one ≡ other
  pub refused_says_nothing : (number ≡ done → ⊥) → (said : A) → Says said → ⊥
  pub nothing_is_refused : ((said : A) → Says said → ⊥) → number ≡ done → ⊥

-- of a beacon
abbrev pub ReadAsSaid : List ℕ → ℕ → Beacon → Type 0
ReadAsSaid frame number beacon = AnswerAsSaid (Accepts frame) number beacon

-- and of its form
abbrev pub FormReadAsSaid : List ℕ → ℕ → BeaconForm → Type 0
FormReadAsSaid frame number form = FormAsSaid (Accepts frame) form_of number form
