-- The laws of the line's parts, in the shape in which the code meets them: each way of a choice, parts in a row, and the whole line. Assumes
-- nothing.
use Prim.Native.Nat.{ℕ, ◌+◌, ◌≤◌}
use mathlib.Core.Path.{◌≡◌, refl, ◌∙◌, ap, subst}
use mathlib.Core.Bool.{Bool, true, false}
use mathlib.Core.List.{List, ◌++◌}
use native.Mathlib.Omega.{arith}
use lib.Dec.{T, lit≤}
use lib.IntN.{ℤ, pos, negsuc, nat_abs}
use lib.ListN.{length}
use lib.Signed.{lt_z}
use borrow.Author.Tests.{ltb-true}
use Rattle.std.specs.Prelude.{Result, Ok, Err}
use Rattle.octets_spec.specs.Choice.{if_on, if_eq}
use Rattle.octets_spec.proofs.ChoiceLaws.{if_ne_lem}
use Rattle.refusal.specs.declared.Refusal.{Refusal}
use Rattle.refusal.specs.Refusal.{number_of}
use Rattle.refusal.proofs.NumberLaws.{number_some}
use Rattle.mac_header_spec.specs.declared.Address.{Address}
use Rattle.mac_header_spec.specs.declared.Address.TheVariants.{Short, Extended}
use Rattle.mac_header_spec.specs.declared.SequenceNumber.{SequenceNumber}
use Rattle.mac_header_spec.specs.declared.SequenceNumber.TheVariants.{Absent, Number}
use Rattle.ack_record_spec.specs.declared.Ack.{Ack}
use Rattle.ack_read_spec.specs.Read.{answer_of, read_ack}
use Rattle.text_put_spec.specs.Text.{decimal}
use Rattle.text_put_spec.specs.Part.{absent_name, newline, field, refused_text, PartPut}
use Rattle.text_put_spec.proofs.PartLaws.{row, wider}
use Rattle.text_ack_spec.specs.AckLine.{sequence_name, pan_name, destination_name, source_name, short_name, extended_name, correction_name, minus, acknowledged_name, yes, no, signed, sequence_text, kind_text, address_text, addresses_text, correction_text, acknowledged_text, ack_text, ack_line_of}

-- ---- one part, by each way of a choice
module _ (s t : List ℕ) (at r : ℕ) where
  pub sequence_absent : (q : SequenceNumber) → q ≡ Absent → PartPut 10 s at (sequence_name ++ absent_name) t r → PartPut 24 s at (sequence_text q) t r
  unfolding sequence_text
  sequence_absent q e put = rw e (wider 10 24 at r s t _ (lit≤ tt) put)

  pub sequence_number_lem : (q : SequenceNumber) (n wide : ℕ) → q ≡ Number n → wide ≡ n → PartPut 24 s at (field sequence_name wide) t r → PartPut 24 s at (sequence_text q) t r
  unfolding sequence_text
  sequence_number_lem q n wide e same put = rw (e, ← same) put

  pub kind_short : (a : Address) (n wide : ℕ) → a ≡ Short n → wide ≡ n → PartPut 26 s at (field short_name wide) t r → PartPut 29 s at (kind_text a) t r
  unfolding kind_text
  kind_short a n wide e same put = rw (e, ← same) (wider 26 29 at r s t _ (lit≤ tt) put)

  pub kind_extended : (a : Address) (n : ℕ) → a ≡ Extended n → PartPut 29 s at (field extended_name n) t r → PartPut 29 s at (kind_text a) t r
  unfolding kind_text
  kind_extended a n e put = rw e put

  pub acknowledged_no : (nack : Bool) → nack ≡ true → PartPut 17 s at (acknowledged_name ++ (no ++ newline)) t r → PartPut 18 s at (acknowledged_text nack) t r
  unfolding acknowledged_text if_on
  acknowledged_no nack e put = rw e (wider 17 18 at r s t _ (lit≤ tt) put)

  pub acknowledged_yes : (nack : Bool) → nack ≡ false → PartPut 18 s at (acknowledged_name ++ (yes ++ newline)) t r → PartPut 18 s at (acknowledged_text nack) t r
  unfolding acknowledged_text if_on
  acknowledged_yes nack e put = rw e put

-- ---- a signed number, by its sign
module _ (at r size : ℕ) (s t : List ℕ) where
  below_text : (z : ℤ) (a : ℕ) (u : List ℕ) → lt_z z (pos 0) ≡ true → size ≡ nat_abs z → PartPut 1 s at minus u a → PartPut 20 u a (decimal size) t r → PartPut 21 s at (signed z) t r
  unfolding signed
  below_text (pos n) a u h e first second = absurd (omega (arith, ltb-true n 0 h))
  below_text (negsuc n) a u h e first second = row 1 20 at a r s u t minus _ first (rw e at second)

  above_text : (z : ℤ) → lt_z z (pos 0) ≡ false → size ≡ nat_abs z → PartPut 20 s at (decimal size) t r → PartPut 21 s at (signed z) t r
  unfolding signed
  above_text (pos n) h e put = wider 20 21 at r s t _ (lit≤ tt) (rw e at put)
  above_text (negsuc n) h e put = absurd (subst T h tt)

  -- the number is a widened one, of what was compared with 0
  module _ (wide : ℕ) (x z : ℤ) (wide_is : wide ≡ size) (size_is : size ≡ nat_abs x) (x_is : x ≡ z) where
    pub signed_below : lt_z x (pos 0) ≡ true → (a : ℕ) (u : List ℕ) → PartPut 1 s at minus u a → PartPut 20 u a (decimal wide) t r → PartPut 21 s at (signed z) t r
    signed_below h a u first second = below_text z a u (rw x_is at h) (size_is ∙ ap nat_abs x_is) first (rw wide_is at second)

    pub signed_above : lt_z x (pos 0) ≡ false → PartPut 20 s at (decimal wide) t r → PartPut 21 s at (signed z) t r
    signed_above h put = above_text z (rw x_is at h) (size_is ∙ ap nat_abs x_is) (rw wide_is at put)

-- ---- parts in a row
module _ (s t u : List ℕ) (at a b : ℕ) where
  pub address_put : (name : List ℕ) (address : Address) → PartPut (length name) s at name t a → PartPut 29 t a (kind_text address) u b → PartPut (length name + 29) s at (address_text name address) u b
  unfolding address_text
  address_put name address first second = row (length name) 29 at a b s t u name _ first second

  pub correction_put : (y z : ℤ) → y ≡ z → PartPut 12 s at correction_name t a → PartPut 21 t a (signed y) u b → PartPut 33 s at (correction_text z) u b
  unfolding correction_text
  correction_put y z e first second = rw (← e) (row 12 21 at a b s t u correction_name (signed y) first second)

  module _ (v : List ℕ) (c : ℕ) where
    pub addresses_put : (pan wide : ℕ) (destination source : Address) → wide ≡ pan → PartPut 25 s at (field pan_name wide) t a → PartPut 42 t a (address_text destination_name destination) u b → PartPut 37 u b (address_text source_name source) v c → PartPut 104 s at (addresses_text pan destination source) v c
    unfolding addresses_text
    addresses_put pan wide destination source same first second third = rw (← same) (row 25 79 at a c s t v _ _ first (row 42 37 a b c t u v _ _ second third))

    module _ (w : List ℕ) (d : ℕ) where
      pub ack_put : (y : Ack) (z : ℤ) → z ≡ y.correction → PartPut 24 s at (sequence_text y.sequence) t a → PartPut 104 t a (addresses_text y.pan y.destination y.source) u b → PartPut 33 u b (correction_text z) v c → PartPut 18 v c (acknowledged_text y.nack) w d → PartPut 179 s at (ack_text y) w d
      unfolding ack_text
      ack_put y z e first second third fourth = rw (← e) (row 24 155 at a d s t w _ _ first (row 104 51 a b d t u w _ _ second (row 33 18 b c d u v w _ _ third fourth)))

-- ---- the line
module _ (frame s t : List ℕ) (at r : ℕ) where
  module _ (x : Result Ack Refusal) (read : answer_of x ≡ read_ack frame) where
    pub line_refused : (refusal : Refusal) (number : ℕ) → x ≡ Err refusal → number ≡ number_of refusal → PartPut 29 s at (refused_text number) t r → PartPut 179 s at (ack_line_of (read_ack frame)) t r
    unfolding ack_line_of
    line_refused refusal number e is put =
        let answer : answer_of (Err refusal) ≡ read_ack frame = rw e at read in
        let line : refused_text number ≡ ack_line_of (read_ack frame) = rw (is, ← answer) (if_ne_lem _ _ _ _ (number_some refusal) refl) in
        rw (← line) (wider 29 179 at r s t _ (lit≤ tt) put)

    pub line_accepted : (y : Ack) → x ≡ Ok y → PartPut 179 s at (ack_text y) t r → PartPut 179 s at (ack_line_of (read_ack frame)) t r
    unfolding ack_line_of if_eq
    line_accepted y e put =
        let answer : answer_of (Ok y) ≡ read_ack frame = rw e at read in
        rw (← answer) put

-- every line has room
pub line_room : 179 ≤ 192
line_room = lit≤ tt

pub ruleset ackLines = (signed_below, signed_above, sequence_absent, sequence_number_lem, kind_short, kind_extended, acknowledged_no, acknowledged_yes, address_put, correction_put, addresses_put, ack_put, line_refused, line_accepted, line_room)
