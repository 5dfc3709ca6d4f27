-- What one call more at the end of a list does to each count. Assumes nothing.
use Prim.Native.Nat.{◌+◌, ◌-◌}
use native.Mathlib.Omega.{arith}
use mathlib.Core.Path.{◌≡◌, refl, sym, ap, ◌∙◌}
use mathlib.Core.Bool.{not, cond, ◌&&◌, and-true, and_assoc}
use mathlib.Core.List.{List, [], ◌∷◌, ◌++◌, append-nil}
use lib.ListN.{length, length-append}
use Rattle.octets_spec.specs.Choice.{if_eq}
use Rattle.octets_spec.proofs.ChoiceLaws.{by_test, if_ne_lem}
use Rattle.nbr_metric_spec.specs.Metric.{eligible}
use Rattle.nbr_table_spec.specs.declared.Table.{Table}
use Rattle.nbr_table_spec.specs.Calls.{held, held_cost, same_parent}
use Rattle.nbr_stability_spec.specs.Stability.{Call, EntryExit, after, changes, each_eligible, evaluations, first_cost, last_cost, rises}
use Rattle.nbr_stability_spec.specs.Stability.Call.{Advertise, Report, Forget, Evaluate}
use Rattle.nbr_replay_spec.specs.Replay.{final}
use Rattle.nbr_replay_spec.specs.Tally.{counted, noted, showing, tally}
use Rattle.nbr_replay_spec.specs.Visit.{visited}

-- ---- one evaluation more
module _ (v : EntryExit) where
  changes_snoc : (vs : List EntryExit) → changes (vs ++ v ∷ []) ≡ changes vs + cond (not (same_parent v.entry.parent v.exit.parent)) 1 0
  unfolding changes
  changes_snoc [] = by_test (same_parent v.entry.parent v.exit.parent) (λ e. rw e refl) (λ e. rw e refl)
  changes_snoc (w ∷ vs) = omega (arith, changes_snoc vs)

  rises_more : (w : EntryExit) (vs : List EntryExit) → rises (w ∷ (vs ++ v ∷ [])) ≡ rises (w ∷ vs) + (held_cost v.entry - last_cost (w ∷ vs))
  unfolding rises last_cost
  rises_more w [] = omega arith
  rises_more w (x ∷ vs) = omega (arith, rises_more x vs)

  rises_snoc : (vs : List EntryExit) → rises (vs ++ v ∷ []) ≡ if_eq (length vs) 0 0 (rises vs + (held_cost v.entry - last_cost vs))
  unfolding rises if_eq
  rises_snoc [] = refl
  rises_snoc (w ∷ vs) = if_ne_lem 0 (rises (w ∷ vs) + (held_cost v.entry - last_cost (w ∷ vs))) (length (w ∷ vs)) 0 (λ z. omega arith) (rises_more w vs)

  first_snoc : (vs : List EntryExit) → first_cost (vs ++ v ∷ []) ≡ if_eq (length vs) 0 (held_cost v.entry) (first_cost vs)
  unfolding first_cost if_eq
  first_snoc [] = refl
  first_snoc (w ∷ vs) = if_ne_lem (held_cost v.entry) (first_cost (w ∷ vs)) (length (w ∷ vs)) 0 (λ z. omega arith) refl

  last_snoc : (vs : List EntryExit) → last_cost (vs ++ v ∷ []) ≡ held_cost v.exit
  unfolding last_cost
  last_snoc [] = refl
  last_snoc (w ∷ []) = refl
  last_snoc (w ∷ x ∷ vs) = last_snoc (x ∷ vs)

  each_snoc : (vs : List EntryExit) → each_eligible (vs ++ v ∷ []) ≡ (each_eligible vs && eligible (held v.entry))
  unfolding each_eligible
  each_snoc [] = and-true (eligible (held v.entry))
  each_snoc (w ∷ vs) = rw (each_snoc vs) (sym (and_assoc (eligible (held w.entry)) (each_eligible vs) (eligible (held v.entry))))

-- ---- one call more
pub final_snoc : (t : Table) (cs : List Call) (c : Call) → final t (cs ++ c ∷ []) ≡ after (final t cs) c
unfolding final
final_snoc t [] c = refl
final_snoc t (b ∷ cs) c = final_snoc (after t b) cs c

evaluations_snoc : (t : Table) (cs : List Call) (c : Call) → evaluations t (cs ++ c ∷ []) ≡ evaluations t cs ++ evaluations (final t cs) (c ∷ [])
unfolding evaluations final
evaluations_snoc t [] c = refl
evaluations_snoc t (Advertise n rank ∷ cs) c = evaluations_snoc (after t (Advertise n rank)) cs c
evaluations_snoc t (Report n k ok ∷ cs) c = evaluations_snoc (after t (Report n k ok)) cs c
evaluations_snoc t (Forget n ∷ cs) c = evaluations_snoc (after t (Forget n)) cs c
evaluations_snoc t (Evaluate ∷ cs) c = ap (λ (vs : List EntryExit). record { entry = t; exit = after t Evaluate } ∷ vs) (evaluations_snoc (after t Evaluate) cs c)

-- a call that is no evaluation
quiet : (t : Table) (cs : List Call) (c : Call) → evaluations (final t cs) (c ∷ []) ≡ [] → evaluations t (cs ++ c ∷ []) ≡ evaluations t cs
quiet t cs c e = evaluations_snoc t cs c ∙ rw e (append-nil (evaluations t cs))

-- the counts
module _ (t : Table) (cs : List Call) where
  tally_of : (vs : List EntryExit) → evaluations t cs ≡ vs → (c : Call) → evaluations t (cs ++ c ∷ []) ≡ vs → tally t cs ≡ tally t (cs ++ c ∷ [])
  unfolding tally
  tally_of vs e c f =
      ap (λ (v : List EntryExit). record { evaluations = length v; changes = changes v; rises = rises v; first = first_cost v; last = last_cost v; applies = each_eligible v }) (e ∙ sym f)

  -- a call that is no evaluation
  tally_quiet : (c : Call) → evaluations (final t cs) (c ∷ []) ≡ [] → tally t cs ≡ tally t (cs ++ c ∷ [])
  tally_quiet c e = tally_of (evaluations t cs) refl c (quiet t cs c e)

  tally_evaluate : noted (tally t cs) (visited (final t cs) (after (final t cs) Evaluate)) ≡ tally t (cs ++ Evaluate ∷ [])
  unfolding tally noted evaluations
  tally_evaluate = simp (evaluations_snoc t cs Evaluate, length-append, changes_snoc, rises_snoc, first_snoc, last_snoc, each_snoc)

  -- one call more, counted
  pub tally_next : (c : Call) → counted (tally t cs) (showing (final t cs) c) ≡ tally t (cs ++ c ∷ [])
  unfolding counted showing evaluations
  tally_next (Advertise n rank) = tally_quiet (Advertise n rank) refl
  tally_next (Report n k ok) = tally_quiet (Report n k ok) refl
  tally_next (Forget n) = tally_quiet (Forget n) refl
  tally_next Evaluate = tally_evaluate
