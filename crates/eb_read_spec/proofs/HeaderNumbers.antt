-- When 3, 4 and 5 are given: the checks of frame control and of the destination alone give them. Assumes nothing.
use Prim.Native.Nat.{ℕ}
use native.Mathlib.Omega.{arith}
use mathlib.Core.Path.{◌≡◌, refl, sym, subst, ◌∙◌}
use mathlib.Core.List.{List}
use mathlib.Core.Logic.{◌⊎◌, ⊎_elim, inl, inr}
use lib.ListN.{length}
use Rattle.octets_spec.proofs.ChoiceLaws.{by_lt, either_eq, either_lt, if_eq_lem, if_ge, if_lt_lem, if_ne_lem, was_ge, was_ne, by_eq}
use Rattle.mac_header_spec.specs.Fields.{mac_header_of}
use Rattle.mac_header_spec.specs.declared.Control.{Control}
use Rattle.eb_read_spec.specs.Policy.{form_fault, policy_fault, mac_header_fault}
use Rattle.eb_read_spec.specs.Claims.{AnotherDestination, FiveIsTheAddressing, FourIsSecurity, HasControl, IsAddressed, IsBeacon, ThreeIsTheType}
use Rattle.eb_read_spec.specs.Read.{examined, read_frame}
use Rattle.eb_read_spec.specs.Read.{Examination}
use Rattle.eb_read_spec.proofs.PolicyLaws.{bad_form, no_broadcast, no_control, too_long}
use Rattle.eb_read_spec.proofs.Claimed.{number_of}
use Rattle.eb_read_spec.proofs.Each.{each_eq}
use Rattle.eb_read_spec.proofs.Numbers.{Late, elements_small, number_small}

module _ (s : List ℕ) where
  abbrev control : Control
  control = (mac_header_of s).control

  -- ---- the number of reading, by that of the checks before the elements
  from_header : (n : ℕ) → (n ≡ 0 → ⊥) → mac_header_fault s ≡ n → (read_frame s).number ≡ n
  unfolding examined
  from_header n some e = number_of s ∙ each_eq (λ (x : Examination). x.number ≡ n) _ _ (mac_header_fault s) 0 (λ none. absurd (some (sym e ∙ none))) (λ bad. e)

  to_header : (n : ℕ) → (Late n → ⊥) → (read_frame s).number ≡ n → mac_header_fault s ≡ n
  unfolding examined
  to_header n early e =
      each_eq (λ (x : Examination). x.number ≡ n → mac_header_fault s ≡ n) _ _ (mac_header_fault s) 0
      (λ none f. absurd (early (subst Late f (number_small _ (elements_small s (mac_header_of s).elements (mac_header_of s).end)))))
      (λ bad f. f) (sym (number_of s) ∙ e)

  -- ---- frame control
  has_control : (n : ℕ) → (n ≡ 1 → ⊥) → (n ≡ 2 → ⊥) → mac_header_fault s ≡ n → HasControl s
  unfolding mac_header_fault
  has_control n not_1 not_2 e =
      by_lt 125 (length s) (λ long. absurd (not_1 (sym e ∙ sym (too_long (length s) (mac_header_of s) long))))
      (λ short. by_lt (length s) 2 (λ none. absurd (not_2 (sym e ∙ sym (no_control (length s) (mac_header_of s) short none)))) (λ some. (short, some)))

  by_form : (n : ℕ) → HasControl s → (n ≡ 0 → ⊥) → form_fault control ≡ n → mac_header_fault s ≡ n
  unfolding mac_header_fault
  by_form n has some e = sym (bad_form (length s) (mac_header_of s) has.0 has.1 (form_fault control) refl (λ none. some (sym e ∙ none))) ∙ e

  is_beacon_lem : IsBeacon s ⊎ ((IsBeacon s → ⊥) × (form_fault control ≡ 3))
  unfolding form_fault
  is_beacon_lem =
      by_eq control.kind 0
      (λ kind. by_eq control.version 2 (λ version. inl (kind, version)) (λ other. inr (λ is. other is.1, sym (if_eq_lem _ _ _ _ kind (if_ne_lem _ _ _ _ other refl)))))
      (λ other. inr (λ is. other is.0, sym (if_ne_lem _ _ _ _ other refl)))

  module _ (is : IsBeacon s) where
    with_security : (control.security ≡ 0 → ⊥) → form_fault control ≡ 4
    unfolding form_fault
    with_security bad = sym (if_eq_lem _ _ _ _ is.0 (if_eq_lem _ _ _ _ is.1 (if_ne_lem _ _ _ _ bad refl)))

    module _ (plain : control.security ≡ 0) where
      is_addressed : (IsAddressed s × (form_fault control ≡ 0)) ⊎ ((IsAddressed s → ⊥) × (form_fault control ≡ 5))
      unfolding form_fault
      is_addressed =
          by_eq control.destination 2
          (λ destination.
          by_lt control.source 2
          (λ low. inr (λ a. absurd (omega (arith, a.1)), sym (if_eq_lem _ _ _ _ is.0 (if_eq_lem _ _ _ _ is.1 (if_eq_lem _ _ _ _ plain (if_eq_lem _ _ _ _ destination (if_lt_lem _ _ _ _ low refl)))))))
          (λ source.
          by_eq control.compression 1
          (λ compression.
          by_eq control.elements 1
          (λ elements. inl ((destination, source, compression, elements), sym (if_eq_lem _ _ _ _ is.0 (if_eq_lem _ _ _ _ is.1 (if_eq_lem _ _ _ _ plain (if_eq_lem _ _ _ _ destination (if_ge _ _ _ _ source (if_eq_lem _ _ _ _ compression (if_eq_lem _ _ _ _ elements refl)))))))))
          (λ none. inr (λ a. none a.3, sym (if_eq_lem _ _ _ _ is.0 (if_eq_lem _ _ _ _ is.1 (if_eq_lem _ _ _ _ plain (if_eq_lem _ _ _ _ destination (if_ge _ _ _ _ source (if_eq_lem _ _ _ _ compression (if_ne_lem _ _ _ _ none refl))))))))))
          (λ none. inr (λ a. none a.2, sym (if_eq_lem _ _ _ _ is.0 (if_eq_lem _ _ _ _ is.1 (if_eq_lem _ _ _ _ plain (if_eq_lem _ _ _ _ destination (if_ge _ _ _ _ source (if_ne_lem _ _ _ _ none refl))))))))))
          (λ other. inr (λ a. other a.0, sym (if_eq_lem _ _ _ _ is.0 (if_eq_lem _ _ _ _ is.1 (if_eq_lem _ _ _ _ plain (if_ne_lem _ _ _ _ other refl))))))

  module _ (has : HasControl s) where
    -- behind frame control: the fields are cut, or the destination is another, or there is no fault
    past : form_fault control ≡ 0 → (P : ℕ → Type 0) → P 2 → P 0 → P 5 → P (mac_header_fault s)
    unfolding mac_header_fault policy_fault
    past form P cut fine other =
        subst P (if_ge _ _ _ _ has.0 (if_ge _ _ _ _ has.1 (if_eq_lem _ _ _ _ form refl))) (either_lt P _ _ cut (either_eq P _ _ fine other _ _) _ _)

    by_destination : form_fault control ≡ 0 → mac_header_fault s ≡ 5 → AnotherDestination s
    unfolding mac_header_fault policy_fault
    by_destination form e =
        let whole = was_ge _ _ 5 (mac_header_of s).end (mac_header_of s).elements (if_ge _ _ _ _ has.0 (if_ge _ _ _ _ has.1 (if_eq_lem _ _ _ _ form refl)) ∙ e) (λ z. omega arith) in
        (whole.0, (was_ne _ _ 5 _ _ whole.1 (λ z. omega arith)).0)

    another_destination : form_fault control ≡ 0 → AnotherDestination s → mac_header_fault s ≡ 5
    unfolding mac_header_fault
    another_destination form other = sym (no_broadcast (length s) (mac_header_of s) has.0 has.1 (form_fault control) refl form other.0 other.1)

    -- a beacon that is not secured has 0, 2 or 5, and another number after its elements
    plain_number : (n : ℕ) → (n ≡ 2 → ⊥) → (n ≡ 0 → ⊥) → (n ≡ 5 → ⊥) → IsBeacon s → control.security ≡ 0 → mac_header_fault s ≡ n → ⊥
    plain_number n a b c is plain e =
        ⊎_elim (λ f. past f.1 (λ k. k ≡ n → ⊥) (λ z. a (sym z)) (λ z. b (sym z)) (λ z. c (sym z)) e)
        (λ f. c (sym e ∙ by_form 5 has (λ z. omega arith) f.1)) (is_addressed is plain)

    beacon_of_lem : (n : ℕ) → (n ≡ 3 → ⊥) → mac_header_fault s ≡ n → IsBeacon s
    beacon_of_lem n other e = ⊎_elim (λ is. is) (λ b. absurd (other (sym e ∙ by_form 3 has (λ z. omega arith) b.1))) is_beacon_lem

    secured_of : IsBeacon s → (control.security ≡ 0 → ⊥) → mac_header_fault s ≡ 4
    secured_of is bad = by_form 4 has (λ z. omega arith) (with_security is bad)

pub three_is_the_type : ThreeIsTheType
three_is_the_type s = (
  λ e.
      let fault = to_header s 3 (λ z. z) e in
      let has = has_control s 3 (λ z. omega arith) (λ z. omega arith) fault in (
        has,
        λ is.
            by_eq (mac_header_of s).control.security 0 (λ plain. plain_number s has 3 (λ z. omega arith) (λ z. omega arith) (λ z. omega arith) is plain fault)
            (λ bad. let other = secured_of s has is bad in omega (arith, fault)),
      ),
  λ c. from_header s 3 (λ z. omega arith) (by_form s 3 c.0 (λ z. omega arith) (⊎_elim (λ is. absurd (c.1 is)) (λ b. b.1) (is_beacon_lem s))),
)

pub four_is_security : FourIsSecurity
four_is_security s = (
  λ e.
      let fault = to_header s 4 (λ z. z) e in
      let has = has_control s 4 (λ z. omega arith) (λ z. omega arith) fault in
      let is = beacon_of_lem s has 4 (λ z. omega arith) fault in
      (has, is, λ plain. plain_number s has 4 (λ z. omega arith) (λ z. omega arith) (λ z. omega arith) is plain fault),
  λ c. from_header s 4 (λ z. omega arith) (secured_of s c.0 c.1 c.2),
)

pub five_is_the_addressing : FiveIsTheAddressing
five_is_the_addressing s = (
  λ e.
      let fault = to_header s 5 (λ z. z) e in
      let has = has_control s 5 (λ z. omega arith) (λ z. omega arith) fault in
      let is = beacon_of_lem s has 5 (λ z. omega arith) fault in
      let plain : (mac_header_of s).control.security ≡ 0 = by_eq (mac_header_of s).control.security 0 (λ plain. plain) (λ bad. absurd (let other = secured_of s has is bad in omega (arith, fault))) in
      (has, is, plain, ⊎_elim (λ a. inr (a.0, by_destination s has a.1 fault)) (λ a. inl a.0) (is_addressed s is plain)),
  λ c.
      from_header s 5 (λ z. omega arith)
      (⊎_elim
      (λ a. ⊎_elim (λ other. absurd (other a.0)) (λ other. another_destination s c.0 a.1 other.1) c.3)
      (λ a. by_form s 5 c.0 (λ z. omega arith) a.1) (is_addressed s c.1 c.2)),
)
