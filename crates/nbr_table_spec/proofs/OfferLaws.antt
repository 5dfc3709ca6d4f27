-- The lowest offer is what the best place offers, and the choice of the parent by offers is the choice of the rules: each way out, as
-- the code meets it (`surveyWays`, `heldWays`, `settleWays`). Assumes nothing.
use Rattle.std.proofs.Common.{Option, Some, None}
use Prim.Native.Nat.{ℕ, suc, ◌+◌, ◌-◌, ◌<◌, ◌≤◌}
use native.Mathlib.Numerals.{add-one}
use native.Mathlib.Omega.{arith}
use mathlib.Core.Path.{◌≡◌, refl, sym, ap, subst, ◌∙◌}
use mathlib.Core.Bool.{Bool, true, false}
use mathlib.Core.List.{List, [], ◌∷◌}
use mathlib.Core.Logic.{◌⊎◌, ⊎_elim, inl, inr}
use lib.ListN.{length, get_or, drop, drop_of_length-le}
use lib.Seq.{drop-cons}
use Rattle.std.proofs.lemmas.List.{get_or_past}
use mir.Syntax.{w16}
use mir.Val.{Fits}
use Rattle.octets_spec.specs.Choice.{if_lt}
use Rattle.std.specs.Ordering.{ord_min}
use Rattle.nbr_table_spec.specs.contracts.OfferOrd.TheImpl.{cmp-value}
use borrow.Author.Tests.{eq-eqb, le-ltb, lt-ltb, ne_eqb}
use lib.Dec.{eqb}
use Rattle.octets_spec.proofs.ChoiceLaws.{by_lt, by_test, choices}
use Rattle.nbr_metric_spec.specs.declared.Place.{Place}
use Rattle.nbr_metric_spec.specs.Metric.{blank, eligible, offer, path_cost}
use Rattle.nbr_metric_spec.proofs.MetricLaws.{blank_offers, cost_to, offer_eligible, offer_not, not_offered, offered}
use Rattle.nbr_table_spec.specs.declared.Choice.{Choice}
use Rattle.nbr_table_spec.specs.declared.Offer.{Offer}
use Rattle.nbr_table_spec.specs.declared.Settlement.{Settlement}
use Rattle.nbr_table_spec.specs.declared.Survey.{Survey}
use Rattle.nbr_table_spec.specs.declared.Table.{Table}
use Rattle.nbr_table_spec.specs.Places.{best, best_of, better, named, lesser}
use Rattle.nbr_table_spec.specs.Calls.{broken, choice, choice_of, chosen, evaluated, evaluation, held_place, with_parent}
use Rattle.nbr_table_spec.specs.Offers.{lower, lowest, offer_of, settlement, surveyed}
use Rattle.nbr_table_spec.specs.declared.Found.{Found as FoundGiven}
use Rattle.nbr_table_spec.specs.Stores.{Found, first, found, found_of, index_in}
use Rattle.nbr_table_spec.proofs.PlaceLaws.{first_at, better_both, better_new, better_old, lesser_id, lesser_kept, lesser_key, lesser_tie}
use Rattle.nbr_table_spec.proofs.CallLaws.{chosen_best, chosen_change, chosen_keep, chosen_none, evaluated_broken, evaluated_done}

-- ---- the lower of two offers
module _ (a b : Offer) where
  pub lower_cost : b.cost < a.cost → b ≡ lower a b
  unfolding lower
  lower_cost h = search choices

  pub lower_kept : a.cost ≤ b.cost → a.cost < b.cost → a ≡ lower a b
  unfolding lower
  lower_kept g h = search choices

  module _ (g : a.cost ≤ b.cost) (h : b.cost ≤ a.cost) where
    pub lower_id : b.id < a.id → b ≡ lower a b
    unfolding lower
    lower_id i = search choices

    pub lower_tie : a.id ≤ b.id → a ≡ lower a b
    unfolding lower
    lower_tie i = search choices

-- the order that Offer derives
pub min_is : (a b r : Offer) → r ≡ ord_min (cmp-value).it a b → r ≡ lower a b
unfolding lower if_lt
min_is a b r e =
    e
    ∙ by_lt b.cost a.cost (λ h. rw (lt-ltb b.cost a.cost h) refl)
    (λ g.
    by_lt a.cost b.cost (λ h. rw (le-ltb b.cost a.cost g, lt-ltb a.cost b.cost h, ne_eqb b.cost a.cost (λ z. omega arith)) refl)
    (λ h.
    rw (le-ltb b.cost a.cost g, le-ltb a.cost b.cost h, eq-eqb b.cost a.cost (omega arith))
    (by_lt b.id a.id (λ i. rw (lt-ltb b.id a.id i) refl)
    (λ i. rw (le-ltb b.id a.id i) (by_test (eqb b.id a.id) (λ z. rw z refl) (λ z. rw z refl))))))

-- the best so far is eligible, or the blank place
abbrev Kept : Place → Type 0
Kept b = (eligible b ≡ true) ⊎ (b ≡ blank)

module _ (b p : Place) where
  lower_better : Kept b → (lower (offer_of b) (offer_of p) ≡ offer_of (better eligible path_cost b p)) × Kept (better eligible path_cost b p)
  lower_better k =
      by_test (eligible p)
      (λ e.
      let v = offer_eligible p e in
      by_test (eligible b)
      (λ f.
      let w = offer_eligible b f in
      let give : (z : Place) → eligible z ≡ true → z ≡ lesser path_cost b p → offer_of z ≡ lower (offer_of b) (offer_of p) → (lower (offer_of b) (offer_of p) ≡ offer_of (better eligible path_cost b p)) × Kept (better eligible path_cost b p) =
      (λ z g n o. let m = better_both eligible path_cost b p z e f n in (sym o ∙ ap offer_of m, inl (subst (λ (y : Place). eligible y ≡ true) m g))) in
      by_lt (path_cost p) (path_cost b)
      (λ l. give p e (lesser_key path_cost b p l) (lower_cost (offer_of b) (offer_of p) (omega arith)))
      (λ l.
      by_lt (path_cost b) (path_cost p)
      (λ m. give b f (lesser_kept path_cost b p l m) (lower_kept (offer_of b) (offer_of p) (omega arith) (omega arith)))
      (λ m.
      by_lt p.id b.id
      (λ i. give p e (lesser_id path_cost b p l m i) (lower_id (offer_of b) (offer_of p) (omega arith) (omega arith) i))
      (λ i. give b f (lesser_tie path_cost b p l m i) (lower_tie (offer_of b) (offer_of p) (omega arith) (omega arith) i)))))
      (λ f.
      let m = better_new eligible path_cost b p e f in
      let w = offer_not b f in
      let t = cost_to p e in
      (sym (lower_cost (offer_of b) (offer_of p) (omega arith)) ∙ ap offer_of m, inl (subst (λ (y : Place). eligible y ≡ true) m e))))
      (λ e.
      let m = better_old eligible path_cost b p e in
      let v = offer_not p e in (
        ⊎_elim
            (λ f. let w = offer_eligible b f in let t = cost_to b f in sym (lower_kept (offer_of b) (offer_of p) (omega arith) (omega arith)))
            (λ f.
            let w : offer b ≡ 65535 = ap offer f ∙ blank_offers in
            let o : b.id ≡ 0 = ap (λ (z : Place). z.id) f in
            sym (lower_tie (offer_of b) (offer_of p) (omega arith) (omega arith) (omega arith))) k ∙ ap offer_of m,
        subst Kept m k,
      ))

lowest_best : (b : Place) (ps : List Place) → Kept b → lowest (offer_of b) ps ≡ offer_of (best_of eligible path_cost b ps)
unfolding lowest best_of
lowest_best b [] k = refl
lowest_best b (p ∷ ps) k = let h = lower_better b p k in ap (λ (o : Offer). lowest o ps) h.0 ∙ lowest_best (better eligible path_cost b p) ps h.1

-- ---- the loop: what is left gives what the whole gives
pub lowest_start : (o : Offer) (ps : List Place) → o ≡ record { cost = 65535; id = 0 } → lowest o ps ≡ offer_of (best ps)
lowest_start o ps e = ap (λ (z : Offer). lowest z ps) (e ∙ ap (λ (k : ℕ). record { cost = k; id = 0 }) (sym blank_offers)) ∙ lowest_best blank ps (inr refl)

module _ (o : Offer) (ps : List Place) (i : ℕ) (w : Offer) where
  pub lowest_next : (r : Offer) (k : ℕ) → i < length ps → lowest o (drop i ps) ≡ w → k ≡ offer (get_or ps i blank) → r ≡ lower o (record { cost = k; id = (get_or ps i blank).id }) → lowest r (drop (i + 1) ps) ≡ w
  unfolding lowest
  lowest_next r k l h e f =
      let g : r ≡ lower o (offer_of (get_or ps i blank)) = f ∙ ap (λ (z : ℕ). lower o (record { cost = z; id = (get_or ps i blank).id })) e in
      rw add-one (subst (λ (z : Offer). lowest z (drop (suc i) ps) ≡ w) (sym g) (rw (drop-cons ps i blank l) at h))

  pub lowest_end : lowest o (drop i ps) ≡ w → length ps ≤ i → o ≡ w
  unfolding lowest
  lowest_end h l = rw (drop_of_length-le ps l) at h

-- ---- the held parent, looked for by its number; s is what the search gives
module _ (q : Option ℕ) (ps : List Place) (b : Place) (e : b ≡ blank) where
  pub held_none : q ≡ None → b ≡ held_place q ps
  unfolding held_place
  held_none f = rw f e

  module _ (id : ℕ) (s : FoundGiven) (f : q ≡ Some id) (g : found_of s ≡ found id ps) where
    index : index_in s.at ≡ first (named id) ps
    index = ap (λ (z : Found). z.at) g

    pub held_at : (at : ℕ) → s.at ≡ Some at → get_or ps at blank ≡ held_place q ps
    unfolding held_place
    held_at at h = rw f (ap (λ (z : ℕ). get_or ps z blank) (sym (ap index_in h) ∙ index) ∙ first_at (named id) ps)

    pub held_missing : s.at ≡ None → length ps ≡ 32 → b ≡ held_place q ps
    unfolding held_place
    held_missing h l =
        let k : 32 ≡ first (named id) ps = sym (ap index_in h) ∙ index in
        rw f (e ∙ sym (get_or_past ps 32 blank (omega arith)) ∙ ap (λ (z : ℕ). get_or ps z blank) k ∙ first_at (named id) ps)

-- ---- the choice by offers
module _ (q : Option ℕ) (ps : List Place) (v : Survey) (x : ℕ) (d : v ≡ surveyed ps q) (e₀ : x ≡ offer v.held) where
  abbrev h : Place
  h = held_place q ps

  abbrev b : Place
  b = best ps

  abbrev o : Offer
  o = v.best

  e : x ≡ offer h
  e = e₀ ∙ ap (λ (z : Survey). offer z.held) d

  f : o ≡ offer_of b
  f = ap (λ (z : Survey). z.best) d

  -- a choice with the held place
  with_held : (r : Choice) → r ≡ chosen q h b → ◌≡◌ {A = Settlement} (record { choice = r; held = v.held }) (settlement ps q)
  with_held r k = λ i. record { choice = k i; held = (d i).held }

  cost : o.cost ≡ offer b
  cost = ap (λ (z : Offer). z.cost) f

  pub settled_none : 65535 ≤ v.best.cost → ◌≡◌ {A = Settlement} (record { choice = choice None 65535; held = v.held }) (settlement ps q)
  settled_none g = with_held (choice None 65535) (chosen_none q h b (eligible b) refl (not_offered b o.cost cost g))

  module _ (g : v.best.cost < 65535) where
    best_is : choice (Some o.id) o.cost ≡ choice_of b
    best_is = λ i. choice (Some (f i).id) ((offered b o.cost cost g).1 i)

    pub settled_best : (r : Choice) → 65535 ≤ x → r ≡ choice (Some v.best.id) v.best.cost → ◌≡◌ {A = Settlement} (record { choice = r; held = v.held }) (settlement ps q)
    settled_best r l k = with_held r (chosen_best q h b (eligible b) refl (eligible h) (offered b o.cost cost g).0 refl r (not_offered h x e l) (k ∙ best_is))

    module _ (l : x < 65535) where
      pub settled_change : (r : Choice) → v.best.cost + 640 < x → r ≡ choice (Some v.best.id) v.best.cost → ◌≡◌ {A = Settlement} (record { choice = r; held = v.held }) (settlement ps q)
      settled_change r m k =
          let c = offered b o.cost cost g in
          let a = offered h x e l in
          with_held r (chosen_change q h b (eligible b) refl (eligible h) c.0 refl a.0 x o.cost (x - o.cost) a.1 c.1 refl r (omega arith) (k ∙ best_is))

      pub settled_keep : x ≤ v.best.cost + 640 → ◌≡◌ {A = Settlement} (record { choice = choice q x; held = v.held }) (settlement ps q)
      settled_keep m =
          let c = offered b o.cost cost g in
          let a = offered h x e l in
          with_held (choice q x) (chosen_keep q h b (eligible b) refl (eligible h) c.0 refl a.0 x o.cost (x - o.cost) a.1 c.1 refl x (omega arith) a.1)

-- an offer fits a rank
pub offer_fits : (k : ℕ) → k < 65535 → Fits w16 k
offer_fits k h = record { fits = omega arith }

pub ruleset heldWays = (held_none, held_at, held_missing)

pub ruleset surveyWays = (min_is, lowest_start, lowest_next, lowest_end)

pub ruleset settleWays = (offer_fits, settled_none, settled_best, settled_change, settled_keep)

-- ---- an evaluation
pub evaluated_settled : (t v : Table) (x : Bool) (m : Settlement) → x ≡ broken t → x ≡ false → m ≡ settlement t.places t.parent → v ≡ with_parent t m.choice.parent → evaluation 0 v m.choice.rank ≡ evaluated t
evaluated_settled t v x m e u k w = evaluated_done t x e m.choice v u (ap (λ (z : Settlement). z.choice) k) w

-- as the code meets it: a is the table that the call goes on with
pub evaluate_broken : (t : Table) (m : ℕ) → m ≡ 8 → broken t ≡ true → evaluation m t 65535 ≡ evaluated t
evaluate_broken t m e b = rw e (evaluated_broken t (broken t) refl b)

pub evaluate_settled : (t a : Table) (k : (a ≡ t) × (broken t ≡ false)) (s : Settlement) → s ≡ settlement a.places a.parent → evaluation 0 (record { places = a.places; parent = s.choice.parent }) s.choice.rank ≡ evaluated t
evaluate_settled t a k s e =
    subst (λ (z : Table). s ≡ settlement z.places z.parent → evaluation 0 (record { places = z.places; parent = s.choice.parent }) s.choice.rank ≡ evaluated t) (sym k.0)
    (λ g. evaluated_settled t (with_parent t s.choice.parent) (broken t) s refl k.1 g refl) e

pub ruleset evaluateWays = (evaluate_broken, evaluate_settled)
