-- The claims about reading: each number by what the checks before the elements say, and what the elements add. Assumes nothing.
use Prim.Native.Nat.{ℕ, ◌<◌, ◌≤◌}
use mathlib.Core.Path.{◌≡◌, refl, sym, ◌∙◌, subst}
use mathlib.Core.List.{List, [], ◌∷◌}
use native.Mathlib.Nat.{lt_irrefl, lt_of_lt_of_le}
use native.Mathlib.Omega.{arith}
use lib.Dec.{lit≤}
use lib.ListN.{length}
use Rattle.octets_spec.proofs.ChoiceLaws.{either_eq, by_eq}
use Rattle.refusal.specs.Refusal.{GivenWhen}
use Rattle.mac_header_spec.specs.Fields.{mac_header_of}
use Rattle.ie_walk_spec.specs.Walk.{HeaderElement}
use Rattle.eb_read_spec.specs.Claims.{HasControl}
use Rattle.eb_read_spec.specs.Read.{read_frame}
use Rattle.eb_read_spec.proofs.HeaderNumbers as beacon
use Rattle.eb_read_spec.proofs.Numbers.{Late, header_fault}
use Rattle.ack_read_spec.specs.Policy.{mac_header_fault}
use Rattle.ack_read_spec.specs.Read.{element_fault, found_among, found_in, found_of, read_ack}
use Rattle.ack_read_spec.specs.Claims.{NumbersTo7, OneIsTheLength, IsAck, IsAddressed, ThreeIsTheType, FourIsSecurity, FiveIsTheAddressing, NeverABeaconToo}
use Rattle.ack_read_spec.specs.Read.{Found}
use Rattle.ack_read_spec.proofs.Judged.{FormSays, another, secured, unaddressed, formed, HeaderSays, long, empty, form, cut, fine, header_says}
use Rattle.ack_read_spec.proofs.ReadLaws.{number_of, number_before, number_among}

-- ---- the elements give 0, 2, 6 or 7
abbrev Late7 : ℕ → Type 0
Late7 n = Late n × (n ≤ 7)

among_late : (elements : List HeaderElement) (fault at : ℕ) → Late7 fault → Late7 (found_among elements fault at).number
unfolding found_among element_fault
among_late [] fault at late = either_eq Late7 _ _ (either_eq Late7 _ _ (tt, lit≤ tt) (tt, lit≤ tt) _ _) late _ _
among_late (element ∷ elements) fault at late =
    either_eq (λ (f : Found). Late7 f.number) _ _ (among_late elements fault _ late)
    (either_eq Late7 _ _ (either_eq Late7 _ _ (either_eq Late7 _ _ (tt, lit≤ tt) (tt, lit≤ tt) _ _) (tt, lit≤ tt) _ _) (tt, lit≤ tt) _ _) _ _

found_late : (s : List ℕ) → Late7 (found_of s).number
unfolding found_of found_in
found_late s = among_late _ _ 0 (header_fault Late7 (tt, lit≤ tt) (tt, lit≤ tt) (tt, lit≤ tt) s _ _)

-- ---- the number of reading is that of the checks before the elements, or behind them one of the elements
module _ (s : List ℕ) (P : ℕ → Type 0) (before : (n : ℕ) → HeaderSays s n → (n ≡ 0 → ⊥) → P n) (behind : (n : ℕ) → HeaderSays s 0 → Late7 n → P n) where
  pub by_number : P (read_ack s).number
  by_number =
      let fault : ℕ = mac_header_fault s in
      by_eq fault 0
      (λ good. subst P (number_among s fault refl _ good refl ∙ sym (number_of s)) (behind _ (subst (HeaderSays s) good (header_says s)) (found_late s)))
      (λ bad. subst P (number_before s fault refl bad ∙ sym (number_of s)) (before fault (header_says s) bad))

pub accepted_says : (s : List ℕ) → (read_ack s).number ≡ 0 → HeaderSays s 0
accepted_says s = by_number s (λ n. n ≡ 0 → HeaderSays s 0) (λ n says bad e. absurd (bad e)) (λ n says late e. says)

-- ---- each claim, by the rows of the checks
module _ (s : List ℕ) where
  form_small : (n : ℕ) → FormSays s n → (n ≤ 7) × (n ≡ 1 → ⊥)
  form_small _ (another other) = (lit≤ tt, λ z. omega (arith, z))
  form_small _ (secured is marked) = (lit≤ tt, λ z. omega (arith, z))
  form_small _ (unaddressed is plain other) = (lit≤ tt, λ z. omega (arith, z))
  form_small _ (formed is plain there) = (lit≤ tt, λ z. omega (arith, z))

  to_7 : (n : ℕ) → HeaderSays s n → n ≤ 7
  to_7 _ (long over) = lit≤ tt
  to_7 _ (empty short none) = lit≤ tt
  to_7 _ (form n has says bad) = (form_small n says).0
  to_7 _ (cut has says over) = lit≤ tt
  to_7 _ (fine has says there) = lit≤ tt

  -- the rows say of a number that it is this one exactly when a condition holds
  abbrev Rows : (ℕ → Type 0) → ℕ → Type 0 → Type 0
  Rows Says number condition = (n : ℕ) → Says n → GivenWhen n number condition

  by_rows : (number : ℕ) (condition : Type 0) → (Late number → ⊥) → (0 ≡ number → ⊥) → Rows (HeaderSays s) number condition → GivenWhen (read_ack s).number number condition
  by_rows number condition early some rows = (
    by_number s (λ n. n ≡ number → condition) (λ n says bad. (rows n says).0) (λ n says late e. absurd (early (subst Late e late.0))),
    by_number s (λ n. condition → n ≡ number) (λ n says bad. (rows n says).1) (λ n says late c. absurd (some ((rows 0 says).1 c))),
  )

  not_both : {a b : ℕ} {X : Type 0} → a < b → b ≤ a → X
  not_both h k = absurd (lt_irrefl _ (lt_of_lt_of_le h k))

  one_rows : Rows (HeaderSays s) 1 (125 < length s)
  one_rows _ (long over) = (λ _. over, λ _. refl)
  one_rows _ (empty short none) = (λ z. absurd (omega (arith, z)), λ over. not_both over short)
  one_rows _ (form n has says bad) = (λ z. absurd ((form_small n says).1 z), λ over. not_both over has.0)
  one_rows _ (cut has says over) = (λ z. absurd (omega (arith, z)), λ over. not_both over has.0)
  one_rows _ (fine has says there) = (λ z. absurd (omega (arith, z)), λ over. not_both over has.0)

  -- a number that frame control alone gives
  control_rows : (number : ℕ) (condition : Type 0) → 2 < number → Rows (FormSays s) number condition → Rows (HeaderSays s) number (HasControl s × condition)
  control_rows number condition high rows _ (long over) = (λ z. absurd (omega (arith, z, high)), λ c. not_both over c.0.0)
  control_rows number condition high rows _ (empty short none) = (λ z. absurd (omega (arith, z, high)), λ c. not_both none c.0.1)
  control_rows number condition high rows _ (form n has says bad) = (λ z. (has, (rows n says).0 z), λ c. (rows n says).1 c.1)
  control_rows number condition high rows _ (cut has says over) = (λ z. absurd (omega (arith, z, high)), λ c. absurd (let z = (rows 0 says).1 c.1 in omega (arith, z, high)))
  control_rows number condition high rows _ (fine has says there) = (λ z. absurd (omega (arith, z, high)), λ c. (rows 0 says).1 c.1)

  three_rows : Rows (FormSays s) 3 (IsAck s → ⊥)
  three_rows _ (another other) = (λ _. other, λ _. refl)
  three_rows _ (secured is marked) = (λ z. absurd (omega (arith, z)), λ other. absurd (other is))
  three_rows _ (unaddressed is plain away) = (λ z. absurd (omega (arith, z)), λ other. absurd (other is))
  three_rows _ (formed is plain there) = (λ z. absurd (omega (arith, z)), λ other. absurd (other is))

  four_rows : Rows (FormSays s) 4 (IsAck s × ((mac_header_of s).control.security ≡ 0 → ⊥))
  four_rows _ (another other) = (λ z. absurd (omega (arith, z)), λ c. absurd (other c.0))
  four_rows _ (secured is marked) = (λ _. (is, marked), λ _. refl)
  four_rows _ (unaddressed is plain away) = (λ z. absurd (omega (arith, z)), λ c. absurd (c.1 plain))
  four_rows _ (formed is plain there) = (λ z. absurd (omega (arith, z)), λ c. absurd (c.1 plain))

  five_rows : Rows (FormSays s) 5 (IsAck s × ((mac_header_of s).control.security ≡ 0) × (IsAddressed s → ⊥))
  five_rows _ (another other) = (λ z. absurd (omega (arith, z)), λ c. absurd (other c.0))
  five_rows _ (secured is marked) = (λ z. absurd (omega (arith, z)), λ c. absurd (marked c.1))
  five_rows _ (unaddressed is plain away) = (λ _. (is, plain, away), λ _. refl)
  five_rows _ (formed is plain there) = (λ z. absurd (omega (arith, z)), λ c. absurd (c.2 there))

pub numbers_to_7 : NumbersTo7
numbers_to_7 s = by_number s (λ n. n ≤ 7) (λ n says bad. to_7 s n says) (λ n says late. late.1)

pub one_is_the_length : OneIsTheLength
one_is_the_length s = by_rows s 1 _ (λ z. z) (λ z. omega arith) (one_rows s)

pub three_is_the_type : ThreeIsTheType
three_is_the_type s = by_rows s 3 _ (λ z. z) (λ z. omega arith) (control_rows s 3 _ (omega arith) (three_rows s))

pub four_is_security : FourIsSecurity
four_is_security s = by_rows s 4 _ (λ z. z) (λ z. omega arith) (control_rows s 4 _ (omega arith) (four_rows s))

pub five_is_the_addressing : FiveIsTheAddressing
five_is_the_addressing s = by_rows s 5 _ (λ z. z) (λ z. omega arith) (control_rows s 5 _ (omega arith) (five_rows s))

-- ---- a frame that is accepted is no beacon
is_ack_lem : (s : List ℕ) (n : ℕ) → HeaderSays s n → n ≡ 0 → HasControl s × IsAck s
is_ack_lem s _ (long over) e = absurd (omega (arith, e))
is_ack_lem s _ (empty short none) e = absurd (omega (arith, e))
is_ack_lem s _ (form n has says bad) e = absurd (bad e)
is_ack_lem s _ (cut has says over) e = absurd (omega (arith, e))
is_ack_lem s _ (fine has (formed is plain there) whole) e = (has, is)

pub never_a_beacon_too : NeverABeaconToo
never_a_beacon_too s as-beacon as-ack =
    let is = is_ack_lem s 0 (accepted_says s as-ack) refl in
    let three : (read_frame s).number ≡ 3 = (beacon.three_is_the_type s).1 (is.0, λ other. let kind = is.1.0 in omega (arith, kind, other.0)) in
    omega (arith, as-beacon, three)
