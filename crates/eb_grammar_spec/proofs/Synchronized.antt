-- Synchronization and hopping: a content of the grammar passes and is read as what it says; and one that passed is of the grammar. Assumes nothing.
use Prim.Native.Nat.{ℕ, ◌+◌, ◌-◌}
use mathlib.Core.Path.{◌≡◌, refl, sym, ◌∙◌, ap}
use mathlib.Core.List.{List, [], ◌∷◌}
use native.Mathlib.Nat.{add-zero, add-sub_cancel_left}
use native.Mathlib.Omega.{arith}
use lib.ListN.{length, get_or}
use Rattle.octets_spec.specs.Choice.{if_lt, if_eq}
use Rattle.octets_spec.proofs.ChoiceLaws.{was_eq, was_ne, was_ge}
use Rattle.eb_record_spec.specs.declared.Synchronization.{Synchronization}
use Rattle.ie_verdict_spec.specs.Verdict.{once_only, sync_fault, hopping_fault, part_fault}
use Rattle.eb_read_spec.specs.Decode.{synchronization_at}
use Rattle.eb_read_spec.proofs.DecodeLaws.{synchronizes}
use Rattle.eb_read_spec.proofs.Noted.{wrong_shape, over_limits}
use Rattle.eb_grammar_spec.proofs.Stands.{Stands, byte_is}
use Rattle.eb_grammar_spec.specs.Row.{Row}
use Rattle.eb_grammar_spec.proofs.Slices.{part, part_at, part_stands}
use Rattle.eb_grammar_spec.proofs.Notes.{unseen}
use Rattle.eb_grammar_spec.proofs.Rowed.{numbers_at, total, row_length, row_reads, row_here}

-- entries of a list of numbers
pub entry : (i : ℕ) (xs ys : List ℕ) → xs ≡ ys → get_or xs i 0 ≡ get_or ys i 0
entry i xs ys e = ap (λ (l : List ℕ). get_or l i 0) e

module _ (s : List ℕ) (at : ℕ) (c : List ℕ) (h : Stands s at c) where
  pub at_zero : Stands s (at + 0) c
  at_zero = rw (add-zero at) h

  pub whole : at + length c - at ≡ length c
  whole = add-sub_cancel_left at (length c)

  -- ---- synchronization
  module _ (asn metric : ℕ) (row : Row (5 ∷ 1 ∷ []) c (asn ∷ metric ∷ [])) where
    pub sync_fine : part_fault s 26 at (at + length c) unseen ≡ 0
    unfolding part_fault sync_fault once_only if_eq total
    sync_fine = rw (whole, row_length s _ _ _ row)

    pub sync_value : record { asn = asn; metric = metric } ≡ synchronization_at s at
    unfolding numbers_at
    sync_value =
        let e = row_reads s _ _ _ row at 0 at_zero in
        synchronizes s at asn metric (rw (add-zero at) at (entry 0 _ _ e)) (byte_is s _ _ (entry 1 _ _ e))

  pub sync_some : part_fault s 26 at (at + length c) unseen ≡ 0 → Row (5 ∷ 1 ∷ []) c (numbers_at (5 ∷ 1 ∷ []) s at 0)
  unfolding part_fault sync_fault if_eq total
  sync_some e = row_here s (5 ∷ 1 ∷ []) at 0 c at_zero (sym whole ∙ (was_eq _ _ _ _ _ e wrong_shape).0)

  pub sync_says : part_fault s 26 at (at + length c) unseen ≡ 0 → Row (5 ∷ 1 ∷ []) c ((synchronization_at s at).asn ∷ (synchronization_at s at).metric ∷ [])
  unfolding numbers_at
  sync_says e =
      let v = sync_value _ _ (sync_some e) in
      let a = ap (λ (y : Synchronization). y.asn) v in
      let m = ap (λ (y : Synchronization). y.metric) v in
      rw (← a, ← m) (sync_some e)

  -- ---- hopping
  pub hopping_some : part_fault s 137 at (at + length c) unseen ≡ 0 → c ≡ get_or s at 0 ∷ []
  unfolding part_fault hopping_fault if_eq part
  hopping_some e =
      let some = was_ne _ _ _ _ _ e wrong_shape in
      let most = was_ge _ _ _ _ _ some.1 over_limits in
      let none : at + length c - at ≡ 0 → ⊥ = some.0 in
      let one : length c ≡ 1 = omega (arith, none, most.0, whole) in
      part_stands s at c h ∙ part_at s at at (length c) 1 refl one

pub hopping_fine : (s : List ℕ) (at n : ℕ) → part_fault s 137 at (at + 1) unseen ≡ 0
unfolding part_fault hopping_fault if_eq if_lt
hopping_fine s at n = rw (add-sub_cancel_left at 1)
