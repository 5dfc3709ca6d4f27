-- The form of a record and the record of a form are inverses of each other. Assumes nothing.
use Prim.Native.Nat.{ℕ, ◌^◌, ◌<◌}
use mathlib.Core.Path.{◌≡◌, refl, sym, ap}
use mathlib.Core.Bool.{Bool, true, false, cond, ◌&&◌, ◌||◌, and-eq-true_iff}
use native.Mathlib.Nat.{mod-eq_of_lt}
use native.Mathlib.Omega.{arith}
use borrow.Author.Tests.{lt-ltb, le-ltb, ltb-true, eqb-true}
use lib.Dec.{ltb, eqb}
use Rattle.octets_spec.specs.Choice.{if_on}
use Rattle.mac_header_spec.specs.declared.SequenceNumber.{SequenceNumber}
use Rattle.mac_header_spec.specs.declared.SequenceNumber.TheVariants.{Absent, Number}
use Rattle.mac_header_spec.specs.declared.Address.{Address}
use Rattle.mac_header_spec.specs.declared.Address.TheVariants.{Short, Extended}
use Rattle.std.specs.Prelude.{Result, Ok, Err}
use Rattle.std.specs.Result.{is_ok}
use Rattle.octets_spec.proofs.ChoiceLaws.{if_on_lem, if_off_lem}
use Rattle.refusal.specs.declared.Refusal.{Refusal}
use Rattle.refusal.specs.declared.Refusal.TheVariants.{OutOfLimits}
use Rattle.eb_record_spec.specs.declared.Beacon.{Beacon}
use Rattle.eb_record_spec.specs.Form.{is_address, made_where, is_sequenced, sequence_number, is_extended, address_number, form_of, sequence_from, address_from, beacon_of, is_beacon, address_fits, FormsGiveTheRecord, RecordsGiveTheForm, ExtendedHasItsForm, FormsOfNoRecord}

-- ---- the sequence number
abbrev pub sequence_test : Bool → ℕ → Bool
sequence_test mark n = mark || eqb n 0

pub sequence_tested : (q : SequenceNumber) → sequence_test (is_sequenced q) (sequence_number q) ≡ true
unfolding is_sequenced sequence_number
sequence_tested Absent = refl
sequence_tested (Number n) = refl

pub sequence_back : (q : SequenceNumber) → sequence_from (is_sequenced q) (sequence_number q) ≡ q
unfolding is_sequenced sequence_number sequence_from if_on
sequence_back Absent = refl
sequence_back (Number n) = refl

pub sequence_mark : (mark : Bool) (n : ℕ) → is_sequenced (sequence_from mark n) ≡ mark
unfolding is_sequenced sequence_from if_on
sequence_mark true n = refl
sequence_mark false n = refl

pub sequence_number_lem : (mark : Bool) (n : ℕ) → sequence_test mark n ≡ true → sequence_number (sequence_from mark n) ≡ n
unfolding sequence_number sequence_from if_on
sequence_number_lem true n e = refl
sequence_number_lem false n e = sym (eqb-true n 0 e)

-- ---- an address
abbrev pub address_test : Bool → ℕ → Bool
address_test extended n = extended || ltb n (2 ^ 16)

pub address_tested : (a : Address) → address_fits a ≡ true → address_test (is_extended a) (address_number a) ≡ true
unfolding is_extended address_number address_fits
address_tested (Short n) e = e
address_tested (Extended n) e = refl

pub address_back : (a : Address) → address_test (is_extended a) (address_number a) ≡ true → address_from (is_extended a) (address_number a) ≡ a
unfolding is_extended address_number address_from if_on
address_back (Short n) e = ap Short (mod-eq_of_lt (ltb-true n 65536 e))
address_back (Extended n) e = refl

pub address_kind : (extended : Bool) (n : ℕ) → is_extended (address_from extended n) ≡ extended
unfolding is_extended address_from if_on
address_kind true n = refl
address_kind false n = refl

pub address_number_lem : (extended : Bool) (n : ℕ) → address_test extended n ≡ true → address_number (address_from extended n) ≡ n
unfolding address_number address_from if_on
address_number_lem true n e = refl
address_number_lem false n e = mod-eq_of_lt (ltb-true n 65536 e)

-- ---- both
pub form_fits_lem : (beacon : Beacon) → address_fits beacon.source ≡ true → is_beacon (form_of beacon) ≡ true
unfolding is_beacon form_of
form_fits_lem beacon fits = rw (sequence_tested beacon.sequence, address_tested beacon.source fits)

pub form_back : (beacon : Beacon) → is_beacon (form_of beacon) ≡ true → beacon_of (form_of beacon) ≡ beacon
unfolding is_beacon form_of beacon_of
form_back beacon is =
    let source = ((and-eq-true_iff (sequence_test (is_sequenced beacon.sequence) (sequence_number beacon.sequence)) (address_test (is_extended beacon.source) (address_number beacon.source))).0 is).1 in
    rw (sequence_back beacon.sequence, address_back beacon.source source)

pub forms_give_the_record : FormsGiveTheRecord
forms_give_the_record beacon fits = let is = form_fits_lem beacon fits in (is, form_back beacon is)

pub records_give_the_form : RecordsGiveTheForm
unfolding is_beacon form_of beacon_of
records_give_the_form form is =
    let tests = (and-eq-true_iff _ _).0 is in
    rw (sequence_mark form.sequenced form.sequence, sequence_number_lem form.sequenced form.sequence tests.0, address_kind form.extended form.source, address_number_lem form.extended form.source tests.1)

-- a record with an extended source, and forms that are no record's: the checker computes them
pub extended_has_its_form : ExtendedHasItsForm
unfolding is_sequenced sequence_number is_extended address_number form_of sequence_from address_from beacon_of is_beacon address_fits if_on
extended_has_its_form = (refl, refl, refl, refl)

pub forms_of_no_record : FormsOfNoRecord
unfolding is_beacon
forms_of_no_record = (refl, refl)

-- ---- what is made of a form, or of a part of one
module _ {A : Type 0} (test : Bool) (value : A) where
  pub made : test ≡ true → Ok value ≡ made_where test value
  unfolding made_where
  made on = if_on_lem _ _ test on refl

  pub refused : test ≡ false → Err OutOfLimits ≡ made_where test value
  unfolding made_where
  refused off = if_off_lem _ _ test off refl

  pub was_made : (x : A) → Ok x ≡ made_where test value → (test ≡ true) × (x ≡ value)
  unfolding made_where if_on
  was_made x e = of test e
    where
      of : (t : Bool) → Ok x ≡ cond t (Ok value) (Err OutOfLimits) → (t ≡ true) × (x ≡ value)
      of true h = (refl, cc)
      of false h = cc

  pub was_refused : (r : Refusal) → Err r ≡ made_where test value → (test ≡ false) × (r ≡ OutOfLimits)
  unfolding made_where if_on
  was_refused r e = of test e
    where
      of : (t : Bool) → Err r ≡ cond t (Ok value) (Err OutOfLimits) → (t ≡ false) × (r ≡ OutOfLimits)
      of true h = cc
      of false h = (refl, cc)

-- it is made exactly where the test says so
pub is_made : {A : Type 0} (test : Bool) (value : A) (result : Result A Refusal) → result ≡ made_where test value → is_ok result ≡ test
unfolding made_where if_on
is_made test value result e = rw e (of test)
  where
    of : (t : Bool) → is_ok (cond t (Ok value) (Err OutOfLimits)) ≡ t
    of true = refl
    of false = refl

-- a whole of two parts is refused where one is
module _ {A B : Type 0} (one other : Bool) (part : A) (whole : B) (r : Refusal) where
  pub first_refused : Err r ≡ made_where one part → Err r ≡ made_where (one && other) whole
  first_refused e = let was = was_refused one part r e in rw (was.0, was.1) (refused false whole refl)

  pub second_refused : Err r ≡ made_where other part → Err r ≡ made_where (one && other) whole
  second_refused e = let was = was_refused other part r e in rw (was.0, was.1) (of one)
    where
      of : (t : Bool) → Err OutOfLimits ≡ made_where (t && false) whole
      of true = refused false whole refl
      of false = refused false whole refl

-- an address from its kind and its number
pub short_made : (number short : ℕ) → number < 65536 → short ≡ number → Ok (Short short) ≡ made_where (is_address false number) (address_from false number)
unfolding made_where address_from if_on
short_made number short below e = rw (lt-ltb number 65536 below, e, mod-eq_of_lt below) refl

pub short_refused : (number : ℕ) → (number < 65536 → ⊥) → Err OutOfLimits ≡ made_where (is_address false number) (address_from false number)
short_refused number over = refused _ _ (le-ltb number 65536 (omega arith))
