-- Timeslot: a content of the grammar passes and is read as what it says; and one that passed is of the grammar. Assumes nothing.
use Prim.Native.Nat.{ℕ, suc, ◌+◌, ◌-◌}
use mathlib.Core.Path.{◌≡◌, refl, sym, ◌∙◌, ap, subst}
use mathlib.Core.Bool.{true, false}
use mathlib.Core.Logic.{⊎_elim}
use mathlib.Core.List.{List, [], ◌∷◌, ◌++◌}
use native.Mathlib.Nat.{add-sub_cancel_left}
use native.Mathlib.Omega.{arith}
use lib.ListN.{length, get_or, replicate}
use Rattle.octets_spec.specs.Choice.{if_on, if_lt, if_eq}
use Rattle.octets_spec.specs.Counted.{counted}
use Rattle.eb_record_spec.specs.declared.TimeslotTemplate.{TimeslotTemplate}
use Rattle.ie_verdict_spec.specs.Verdict.{timeslot_fault, part_fault}
use Rattle.eb_read_spec.specs.Decode.{timing_at, template_at}
use Rattle.eb_read_spec.proofs.DecodeLaws.{template_bare, template_timed}
use Rattle.eb_read_spec.proofs.Noted.{TimeslotPassed, kind_timeslot}
use Rattle.eb_grammar_spec.proofs.Stands.{Stands, stands_rest}
use Rattle.eb_grammar_spec.specs.Row.{Row}
use Rattle.eb_grammar_spec.specs.Grammar.{TimeslotContent, id_alone, timed_25, timed_27}
use Rattle.eb_grammar_spec.proofs.Slices.{part, part_cons, part_at, part_stands}
use Rattle.eb_grammar_spec.proofs.Notes.{unseen}
use Rattle.eb_grammar_spec.proofs.Rowed.{numbers_at, total, row_length, row_reads, row_of}

-- twelve timings, the last two of this width
abbrev widths : ℕ → List ℕ
widths width = replicate 10 2 ++ (width ∷ width ∷ [])

module _ (s : List ℕ) (at : ℕ) where
  twelve : (numbers_at (widths 2) s at 1 ≡ counted (timing_at s at 2) 12) × (numbers_at (widths 3) s at 1 ≡ counted (timing_at s at 3) 12)
  unfolding numbers_at counted timing_at if_lt if_eq
  twelve = (refl, refl)

  pub timeslot_fine : (c : List ℕ) (t : TimeslotTemplate) → TimeslotContent c t → Stands s at c → part_fault s 28 at (at + length c) unseen ≡ 0
  unfolding part_fault timeslot_fault if_on if_eq Stands total
  timeslot_fine _ _ id_alone h = rw (add-sub_cancel_left at 1, h.0)
  timeslot_fine _ _ (timed_25 id {bytes} {timings} row) h = rw (add-sub_cancel_left at (suc (length bytes)), row_length s _ _ _ row)
  timeslot_fine _ _ (timed_27 id {bytes} {timings} row) h = rw (add-sub_cancel_left at (suc (length bytes)), row_length s _ _ _ row)

  pub timeslot_value : (c : List ℕ) (t : TimeslotTemplate) → TimeslotContent c t → Stands s at c → t ≡ template_at s at (length c)
  unfolding Stands if_eq total
  timeslot_value _ _ id_alone h = template_bare s at 0 (sym h.0) 1 refl
  timeslot_value _ _ (timed_25 id {bytes} {timings} row) h =
      let size : suc (length bytes) ≡ 25 = ap suc (row_length s _ _ _ row) in
      rw size (template_timed s at id (sym h.0) 25 2 timings (λ (z : ◌≡◌ {A = ℕ} 25 1). omega arith) refl (row_reads s _ _ _ row at 1 (stands_rest s (id ∷ []) bytes at h) ∙ twelve.0))
  timeslot_value _ _ (timed_27 id {bytes} {timings} row) h =
      let size : suc (length bytes) ≡ 27 = ap suc (row_length s _ _ _ row) in
      rw size (template_timed s at id (sym h.0) 27 3 timings (λ (z : ◌≡◌ {A = ℕ} 27 1). omega arith) refl (row_reads s _ _ _ row at 1 (stands_rest s (id ∷ []) bytes at h) ∙ twelve.1))

  abbrev timed : List ℕ → TimeslotTemplate
  timed timings = record { id = get_or s at 0; timed = true; timings = timings }

  some : (width : ℕ) → ((bytes timings : List ℕ) → Row (widths width) bytes timings → TimeslotContent (get_or s at 0 ∷ bytes) (timed timings)) → TimeslotContent (part s at (suc (total (widths width)))) (timed (numbers_at (widths width) s at 1))
  some width content = rw (part_cons s at (total (widths width))) (content _ _ (row_of s (widths width) at 1))

  some_1 : get_or s at 0 ≡ 0 → TimeslotContent (part s at 1) (record { id = 0; timed = false; timings = replicate 12 0 })
  unfolding part
  some_1 e = rw e id_alone

  timeslot_some : (c : List ℕ) → Stands s at c → TimeslotPassed s at (at + length c) → (t : TimeslotTemplate) × TimeslotContent c t
  unfolding total
  timeslot_some c h passed =
      let of : (n : ℕ) (t : TimeslotTemplate) → TimeslotContent (part s at n) t → at + length c - at ≡ n → (t : TimeslotTemplate) × TimeslotContent c t =
      λ n t k e. (t, subst (λ xs. TimeslotContent xs t) (sym (part_stands s at c h ∙ part_at s at at (length c) n refl (sym (add-sub_cancel_left at (length c)) ∙ e))) k) in
      ⊎_elim (of 25 _ (some 2 (λ bytes timings row. timed_25 _ row))) (⊎_elim (of 27 _ (some 3 (λ bytes timings row. timed_27 _ row))) (λ alone. of 1 _ (some_1 alone.1) alone.0)) passed

  pub timeslot_says : (c : List ℕ) → Stands s at c → part_fault s 28 at (at + length c) unseen ≡ 0 → TimeslotContent c (template_at s at (length c))
  timeslot_says c h e = let some = timeslot_some c h (kind_timeslot s at _ unseen e) in subst (λ t. TimeslotContent c t) (timeslot_value c _ some.1 h) some.1
