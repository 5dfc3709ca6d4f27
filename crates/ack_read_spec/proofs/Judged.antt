-- What each number of the checks before the elements says of a frame, one row for each way out of them. Assumes nothing.
use Prim.Native.Nat.{ℕ, ◌<◌, ◌≤◌}
use mathlib.Core.Path.{◌≡◌, subst}
use mathlib.Core.List.{List}
use native.Mathlib.Nat.{lt_irrefl, lt_of_lt_of_le}
use lib.ListN.{length}
use Rattle.mac_header_spec.specs.Fields.{mac_header_of}
use Rattle.mac_header_spec.specs.declared.Control.{Control}
use Rattle.eb_read_spec.specs.Claims.{HasControl}
use Rattle.eb_read_spec.proofs.Each.{each_lt, each_eq}
use Rattle.ack_read_spec.specs.Policy.{addressing_fault, form_fault, policy_fault, mac_header_fault}
use Rattle.ack_read_spec.specs.Claims.{IsAck, IsAddressed}

module _ (s : List ℕ) where
  abbrev control : Control
  control = (mac_header_of s).control

  -- frame control alone
  pub data FormSays : ℕ → Type 0 where
    another : (IsAck s → ⊥) → FormSays 3
    secured : IsAck s → (control.security ≡ 0 → ⊥) → FormSays 4
    unaddressed : IsAck s → control.security ≡ 0 → (IsAddressed s → ⊥) → FormSays 5
    formed : IsAck s → control.security ≡ 0 → IsAddressed s → FormSays 0

  form_says : FormSays (form_fault control)
  unfolding form_fault addressing_fault
  form_says =
      each_eq FormSays _ _ _ _
      (λ kind. each_eq FormSays _ _ _ _
      (λ version. each_eq FormSays _ _ _ _
      (λ plain. each_lt FormSays _ _ _ _ (λ low. unaddressed (kind, version) plain (λ a. not_below low a.0))
      (λ far. each_lt FormSays _ _ _ _ (λ low. unaddressed (kind, version) plain (λ a. not_below low a.1))
      (λ near. each_eq FormSays _ _ _ _
      (λ compression. each_eq FormSays _ _ _ _ (λ elements. formed (kind, version) plain (far, near, compression, elements)) (λ none. unaddressed (kind, version) plain (λ a. none a.3)))
      (λ other. unaddressed (kind, version) plain (λ a. other a.2)))))
      (λ bad. secured (kind, version) bad))
      (λ other. another (λ is. other is.1)))
      (λ other. another (λ is. other is.0))
    where
      not_below : {a b : ℕ} → a < b → b ≤ a → ⊥
      not_below h k = lt_irrefl _ (lt_of_lt_of_le h k)

  -- the checks in their order
  pub data HeaderSays : ℕ → Type 0 where
    long : 125 < length s → HeaderSays 1
    empty : length s ≤ 125 → length s < 2 → HeaderSays 2
    form : (n : ℕ) → HasControl s → FormSays n → (n ≡ 0 → ⊥) → HeaderSays n
    cut : HasControl s → FormSays 0 → (mac_header_of s).end < (mac_header_of s).elements → HeaderSays 2
    fine : HasControl s → FormSays 0 → (mac_header_of s).elements ≤ (mac_header_of s).end → HeaderSays 0

  pub header_says : HeaderSays (mac_header_fault s)
  unfolding mac_header_fault policy_fault
  header_says =
      each_lt HeaderSays _ _ _ _ (λ over. long over)
      (λ short. each_lt HeaderSays _ _ _ _ (λ none. empty short none)
      (λ some. each_eq HeaderSays _ _ _ _
      (λ good.
      let accepted : FormSays 0 = subst FormSays good form_says in
      each_lt HeaderSays _ _ _ _ (λ over. cut (short, some) accepted over) (λ there. fine (short, some) accepted there))
      (λ bad. form _ (short, some) form_says bad)))
