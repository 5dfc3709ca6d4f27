-- What is written reads back, and what is read can be written (docs/RULES.md, Acknowledgements). Assumes nothing.
use Rattle.std.specs.Prelude.{ℕ, ◌≤◌, ◌≡◌, true, List, length, take}
use Rattle.octets_spec.specs.Choice.{if_eq}
use Rattle.refusal.specs.Refusal.{done}
use Rattle.eb_read_spec.specs.Claims.{Bytes}
use Rattle.eb_write_spec.specs.Write.{number_for, answer_for}
use Rattle.ack_record_spec.specs.declared.Ack.{Ack}
use Rattle.ack_record_spec.specs.declared.AckForm.{AckForm}
use Rattle.ack_record_spec.specs.Record.{blank_ack, form_of, ack_of}
use Rattle.ack_read_spec.specs.Read.{read_ack}
use Rattle.ack_read_spec.specs.Witnesses.{shortest}
use Rattle.ack_read_spec.specs.Read.{AckAnswer}
use Rattle.ack_write_spec.specs.Frame.{frame_of}
use Rattle.ack_write_spec.specs.Limits.{fits, form_fits}
use Rattle.ack_grammar_spec.specs.Grammar.{Accepts}

-- ---- written, then read
-- the frame of a record within the limits is of the grammar, and says that record
abbrev pub WrittenIsOfTheGrammar : Type 0
WrittenIsOfTheGrammar = (ack : Ack) → fits ack ≡ true → Accepts (frame_of ack) ack

-- what a call of writing leaves is as the grammar says: where it is done, the bytes that it put are a frame, and say the record
pub record WrittenAsSaid (number size : ℕ) (buffer : List ℕ) (ack : Ack) : Type 0 where
  pub says : number ≡ done → Accepts (take size buffer) ack

-- reading the frame of a record within the limits is done, and gives that record
abbrev pub FramesReadBack : Type 0
FramesReadBack = (ack : Ack) → fits ack ≡ true → read_ack (frame_of ack) ≡ record { number = done; ack = ack }

-- two records within the limits that have the same frame are equal
abbrev pub FramesDiffer : Type 0
FramesDiffer = (one other : Ack) → fits one ≡ true → fits other ≡ true → frame_of one ≡ frame_of other → one ≡ other

-- a form from which a frame is written reads back as that form
abbrev pub FormsReadBack : Type 0
FormsReadBack =
    (form : AckForm) (buffer : ℕ) → (answer_for (form_fits form) (frame_of (ack_of form)) buffer).number ≡ done →
    ((read_ack (frame_of (ack_of form))).number ≡ done) × (form_of (read_ack (frame_of (ack_of form))).ack ≡ form)

-- what comes back from a buffer of this length: the record itself if it is written, and else the number of the refusal with the blank record
unfoldable pub back_from : Ack → ℕ → AckAnswer
back_from ack buffer =
    if_eq (number_for (fits ack) (frame_of ack) buffer) done (record { number = done; ack = ack })
    (record { number = number_for (fits ack) (frame_of ack) buffer; ack = blank_ack })

-- ---- read, then written
-- every record that reading accepts is within the limits of writing
abbrev pub AcceptedFits : Type 0
AcceptedFits = (s : List ℕ) → Bytes s → (read_ack s).number ≡ done → fits (read_ack s).ack ≡ true

-- what was read is written in at most as many bytes as were received
abbrev pub WrittenIsNotLonger : Type 0
WrittenIsNotLonger = (s : List ℕ) → Bytes s → (read_ack s).number ≡ done → length (frame_of (read_ack s).ack) ≤ length s

-- an accepted frame, written anew and read, gives its record
abbrev pub AcceptedReadsBack : Type 0
AcceptedReadsBack = (s : List ℕ) → Bytes s → (read_ack s).number ≡ done → read_ack (frame_of (read_ack s).ack) ≡ read_ack s

-- the form of a record that was read can be handed to the writer as it is: in a buffer of at least as many bytes as were received it is written
abbrev pub ReadFormsAreWritten : Type 0
ReadFormsAreWritten =
    (s : List ℕ) (buffer : ℕ) → Bytes s → (read_ack s).number ≡ done → length s ≤ buffer →
    let form : AckForm = form_of (read_ack s).ack in
    answer_for (form_fits form) (frame_of (ack_of form)) buffer ≡ record { number = done; length = length (frame_of (read_ack s).ack) }

-- the 12 bytes are written back as they were received
abbrev pub ShortestIsWrittenBack : Type 0
ShortestIsWrittenBack = ((read_ack shortest).number ≡ done) × (frame_of (read_ack shortest).ack ≡ shortest)
