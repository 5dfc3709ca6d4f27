-- The laws of reading, in the shape in which the code meets them. Assumes nothing.
use Prim.Native.Nat.{ℕ, zero, suc}
use mathlib.Core.Path.{◌≡◌, refl, sym, ◌∙◌, ap}
use mathlib.Core.Bool.{true}
use mathlib.Core.List.{List}
use lib.Dec.{eqb-suc-zero}
use Rattle.octets_spec.specs.Choice.{if_eq}
use Rattle.octets_spec.specs.Number.{le_at}
use Rattle.octets_spec.proofs.ChoiceLaws.{if_eq_lem, if_ne_lem}
use Rattle.mac_header_spec.specs.Fields.{mac_header_of}
use Rattle.ie_walk_spec.specs.Walk.{header_list}
use Rattle.eb_record_spec.specs.Form.{is_sequenced, sequence_number, is_extended, address_number}
use Rattle.ack_record_spec.specs.declared.Ack.{Ack}
use Rattle.ack_record_spec.specs.declared.AckForm.{AckForm}
use Rattle.ack_record_spec.specs.Record.{blank_ack, form_of, ack_of, is_ack}
use Rattle.ack_record_spec.proofs.FormLaws.{form_back}
use Rattle.std.specs.Prelude.{Result, Ok, Err}
use Rattle.refusal.specs.Refusal as why
use Rattle.refusal.specs.declared.Refusal.{Refusal}
use Rattle.refusal.proofs.NumberLaws.{number_some}
use Rattle.ack_read_spec.specs.Policy.{mac_header_fault}
use Rattle.ack_read_spec.specs.Read.{Says, found_in, ack_from, found_of, ack_number, read_ack, form_reading, answer_of, reading_of}
use Rattle.ack_read_spec.specs.Read.{AckAnswer}
use Rattle.ack_read_spec.specs.declared.AckReading.{AckReading}

-- the blank form is a record's
pub blank_fits : (form : AckForm) → form ≡ form_of blank_ack → is_ack form ≡ true
unfolding is_ack form_of blank_ack is_sequenced sequence_number is_extended address_number
blank_fits form e = rw e refl

-- ---- the number
-- the record does not change the number
answered : ℕ → Ack → Ack → AckAnswer
answered n a b = if_eq n 0 (record { number = 0; ack = a }) (record { number = n; ack = b })

kept : (n : ℕ) (a b : Ack) → (answered n a b).number ≡ n
unfolding answered if_eq
kept zero a b = refl
kept (suc n) a b = rw (eqb-suc-zero n)

module _ (s : List ℕ) where
  pub number_of : (read_ack s).number ≡ ack_number s
  unfolding read_ack answered
  number_of = kept (ack_number s) _ _

  pub read_refused : (n : ℕ) → n ≡ ack_number s → (n ≡ 0 → ⊥) → record { number = n; ack = blank_ack } ≡ read_ack s
  unfolding read_ack
  read_refused n e bad = rw (← e) (if_ne_lem _ _ _ _ bad refl)

  pub read_done : (ack : Ack) → 0 ≡ ack_number s → ack ≡ ack_from (mac_header_of s) (le_at 2 s (found_of s).at) → record { number = 0; ack = ack } ≡ read_ack s
  unfolding read_ack
  read_done ack e f = rw (← e) (if_eq_lem _ _ 0 0 refl (rw f))

  -- ---- by the checks before the elements
  module _ (fault : ℕ) (f : fault ≡ mac_header_fault s) where
    pub number_before : (fault ≡ 0 → ⊥) → fault ≡ ack_number s
    unfolding ack_number
    number_before bad = rw (← f) (if_ne_lem _ _ _ _ bad refl)

    pub number_among : (n : ℕ) → fault ≡ 0 → n ≡ (found_of s).number → n ≡ ack_number s
    unfolding ack_number
    number_among n good e = rw (← f) (if_eq_lem _ _ _ _ good e)

  -- ---- by the answers of the calls
  pub refused_before : (refusal : Refusal) → why.number_of refusal ≡ mac_header_fault s → reading_of (Err refusal) ≡ form_reading (read_ack s)
  unfolding form_reading
  refused_before refusal f = let bad = number_some refusal in rw (← read_refused _ (number_before _ f bad) bad) refl

  module _ (good : 0 ≡ mac_header_fault s) where
    pub refused_among : (refusal : Refusal) → Says (Err refusal) (found_of s) → reading_of (Err refusal) ≡ form_reading (read_ack s)
    unfolding form_reading
    refused_among refusal is = rw (← read_refused _ (number_among 0 good _ refl (sym is)) (number_some refusal)) refl

    pub form_done : (form : AckForm) (at : ℕ) → Says (Ok at) (found_of s) → form ≡ form_of (ack_from (mac_header_of s) (le_at 2 s at)) → reading_of (Ok form) ≡ form_reading (read_ack s)
    unfolding form_reading
    form_done form at is e = rw (← read_done _ (number_among 0 good 0 refl (rw is refl)) refl, is, e) refl

  -- the record of a form that is as reading gives it
  pub record_read : (form : AckForm) (ack : Ack) → reading_of (Ok form) ≡ form_reading (read_ack s) → is_ack form ≡ true → ack ≡ ack_of form → answer_of (Ok ack) ≡ read_ack s
  unfolding form_reading
  record_read form ack e fits f =
      let same : form ≡ form_of (read_ack s).ack = ap (λ (r : AckReading). r.ack) e in
      let back : ack ≡ (read_ack s).ack = f ∙ (ap ack_of same ∙ form_back (read_ack s).ack (rw same at fits)) in
      let number : 0 ≡ (read_ack s).number = ap (λ (r : AckReading). r.number) e in
      λ i. record { number = number i; ack = back i }

  -- and no record where it is refused
  pub record_refused : (refusal : Refusal) → reading_of (Err refusal) ≡ form_reading (read_ack s) → answer_of (Err refusal) ≡ read_ack s
  unfolding form_reading
  record_refused refusal e = read_refused _ (ap (λ (r : AckReading). r.number) e ∙ number_of) (number_some refusal)

  pub found_at : (at end : ℕ) (result : Result ℕ Refusal) → at ≡ (mac_header_of s).elements → end ≡ (mac_header_of s).end → Says result (found_in (header_list s at end) 0) → Says result (found_of s)
  unfolding found_of
  found_at at end result e f g = rw (e, f) at g

pub ruleset reading = (blank_fits, refused_before, refused_among, form_done, record_read, record_refused, found_at)
