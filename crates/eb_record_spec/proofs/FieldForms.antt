-- The fields of a MAC header without enums, as a form has them: of a sequence number and of an address what frame control and the bytes say.
-- Assumes nothing.
use Prim.Native.Nat.{ℕ, ◌<◌}
use mathlib.Core.Path.{◌≡◌, refl, ◌∙◌}
use mathlib.Core.Bool.{Bool, true, false, cond, ◌||◌}
use mathlib.Core.List.{List}
use borrow.Author.Tests.{lt-ltb, eqb-false}
use lib.Dec.{eqb, ltb}
use lib.ListN.{get_or}
use Rattle.octets_spec.specs.Choice.{if_eq}
use Rattle.octets_spec.specs.Number.{le_at}
use Rattle.octets_spec.proofs.ChoiceLaws.{by_test}
use Rattle.mac_header_spec.specs.Control.{control_of}
use Rattle.mac_header_spec.specs.Fields.{mac_header_of, sequence_of, address_of}
use Rattle.mac_header_spec.specs.declared.MacHeader.{MacHeader}
use Rattle.eb_record_spec.specs.Form.{is_sequenced, sequence_number, is_extended, address_number}

-- what a function gives of a choice is a choice of what it gives
choice_ap : {A B : Type 0} (f : A → B) (a b : ℕ) (x y : A) → f (if_eq a b x y) ≡ if_eq a b (f x) (f y)
unfolding if_eq
choice_ap f a b x y = of (eqb a b)
  where
    of : (t : Bool) → f (cond t x y) ≡ cond t (f x) (f y)
    of true = refl
    of false = refl

-- a choice made twice is made once
choice_twice : {A : Type 0} (a b : ℕ) (x y : A) → if_eq a b (if_eq a b x y) y ≡ if_eq a b x y
unfolding if_eq
choice_twice a b x y = of (eqb a b)
  where
    of : (t : Bool) → cond t (cond t x y) y ≡ cond t x y
    of true = refl
    of false = refl

-- a choice of one thing is that
choice_same : {A : Type 0} (a b : ℕ) (x : A) → if_eq a b x x ≡ x
unfolding if_eq
choice_same a b x = of (eqb a b)
  where
    of : (t : Bool) → cond t x x ≡ x
    of true = refl
    of false = refl

-- a choice of true and false is the test
choice_test : (a b : ℕ) → if_eq a b true false ≡ eqb a b
unfolding if_eq
choice_test a b = of (eqb a b)
  where
    of : (t : Bool) → cond t true false ≡ t
    of true = refl
    of false = refl

-- ---- the fields
pub sequence_form : (header : MacHeader) → is_sequenced (sequence_of header) ≡ eqb header.control.suppressed 0
unfolding sequence_of is_sequenced
sequence_form header = choice_ap is_sequenced header.control.suppressed 0 _ _ ∙ choice_test header.control.suppressed 0

-- the number of a suppressed sequence number is 0 already
pub sequence_zero : (s : List ℕ) → sequence_number (sequence_of (mac_header_of s)) ≡ (mac_header_of s).sequence
unfolding sequence_of sequence_number mac_header_of
sequence_zero s = choice_ap sequence_number _ 0 _ _ ∙ choice_twice _ 0 (get_or s 2 0) 0

pub address_form : (mode number : ℕ) → is_extended (address_of mode number) ≡ eqb mode 3
unfolding address_of is_extended
address_form mode number = choice_ap is_extended mode 3 _ _ ∙ choice_test mode 3

pub number_form : (mode number : ℕ) → address_number (address_of mode number) ≡ number
unfolding address_of address_number
number_form mode number = choice_ap address_number mode 3 _ _ ∙ choice_same mode 3 number

-- ---- they are those of a record
pub kind_fits : (mode source : ℕ) → ((mode ≡ 3 → ⊥) → source < 65536) → (eqb mode 3 || ltb source 65536) ≡ true
kind_fits mode source short = by_test (eqb mode 3) (λ t. rw t refl) (λ t. rw (t, lt-ltb source 65536 (short (eqb-false mode 3 t))) refl)

pub suppressed_zero : (s : List ℕ) → (eqb (mac_header_of s).control.suppressed 0 || eqb (mac_header_of s).sequence 0) ≡ true
unfolding mac_header_of if_eq
suppressed_zero s = by_test (eqb (control_of (le_at 2 s 0)).suppressed 0) (λ t. rw t refl) (λ t. rw t refl)
