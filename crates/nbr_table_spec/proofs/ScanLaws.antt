-- The walk over the places that gathers the identifiers in use finds what breaks a rule: each way out, as the code meets it (`scanWays`).
-- Assumes nothing.
use Rattle.std.proofs.Common.{Option, Some, None}
use Prim.Native.Nat.{ℕ, suc, ◌+◌, ◌<◌, ◌≤◌}
use native.Mathlib.Numerals.{add-one}
use native.Mathlib.Omega.{arith}
use mathlib.Core.Path.{◌≡◌, refl, sym, ap, ap₂, subst, ◌∙◌}
use mathlib.Core.Bool.{Bool, true, false, not, ◌||◌, or-true, or-false, or_assoc}
use mathlib.Core.List.{List, [], ◌∷◌, ◌++◌}
use lib.ListN.{length, get_or, drop, take, drop_of_length-le, length-append}
use lib.Seq.{drop-cons, take-suc}
use lib.Dec.{eqb}
use borrow.Author.Tests.{eq-eqb, eqb-false, eqb-true, ne_eqb}
use Rattle.octets_spec.specs.Choice.{if_on}
use Rattle.octets_spec.proofs.ChoiceLaws.{by_test}
use Rattle.nbr_metric_spec.specs.declared.Place.{Place}
use Rattle.nbr_metric_spec.specs.Metric.{blank}
use Rattle.nbr_table_spec.specs.Places.{known, named, some_place, twice, unfit}
use Rattle.nbr_table_spec.specs.Calls.{broken, parent_missing}
use Rattle.std.specs.List.{list_any}
use Rattle.std.proofs.lemmas.List.{take_all}
use Rattle.std.proofs.lemmas.List.Folds.{list_any-append}
use Rattle.nbr_table_spec.proofs.PlaceLaws.{some_end, some_found, some_next}

eqb_swap : (a b : ℕ) → eqb a b ≡ eqb b a
eqb_swap a b = by_test (eqb a b) (λ e. e ∙ sym (eq-eqb b a (sym (eqb-true a b e)))) (λ e. e ∙ sym (ne_eqb b a (λ h. eqb-false a b e (sym h))))

-- ---- an identifier among those gathered
module _ (id : ℕ) (ids : List ℕ) (i : ℕ) (found : Bool) (e : found ≡ list_any (eqb id) (take i ids)) where
  pub among_next : i < length ids → (found || eqb id (get_or ids i 0)) ≡ list_any (eqb id) (take (i + 1) ids)
  among_next h = rw (add-one, take-suc ids i 0 h, list_any-append (eqb id) (take i ids) (get_or ids i 0 ∷ []), e) (ap (λ (b : Bool). list_any (eqb id) (take i ids) || b) (sym (or-false (eqb id (get_or ids i 0)))))

  pub among_end : length ids ≤ i → found ≡ list_any (eqb id) ids
  among_end h = rw (take_all i ids h) at e

within_snoc : (id x : ℕ) (ids : List ℕ) → list_any (eqb id) (ids ++ x ∷ []) ≡ (list_any (eqb id) ids || eqb id x)
within_snoc id x ids = list_any-append (eqb id) ids (x ∷ []) ∙ ap (λ (b : Bool). list_any (eqb id) ids || b) (or-false (eqb id x))

-- ---- an identifier that stands twice, from the identifiers gathered so far on
unfoldable pub repeats : List ℕ → List Place → Bool
repeats ids [] = false
repeats ids (p ∷ ps) = if_on p.used (list_any (eqb p.id) ids || repeats (ids ++ p.id ∷ []) ps) (repeats ids ps)

-- some of these is known
unfoldable known_of : List ℕ → List Place → Bool
known_of [] ps = false
known_of (x ∷ ids) ps = known x ps || known_of ids ps

known_of_none : (ids : List ℕ) → known_of ids [] ≡ false
unfolding known_of some_place
known_of_none [] = refl
known_of_none (x ∷ ids) = known_of_none ids

known_of_snoc : (x : ℕ) (ids : List ℕ) (ps : List Place) → known_of (ids ++ x ∷ []) ps ≡ (known_of ids ps || known x ps)
unfolding known_of
known_of_snoc x [] ps = or-false (known x ps)
known_of_snoc x (y ∷ ids) ps = rw (known_of_snoc x ids ps) (sym (or_assoc (known y ps) (known_of ids ps) (known x ps)))

swapped : (a b c d : Bool) → ((a || b) || (c || d)) ≡ ((a || c) || (b || d))
swapped true b c d = refl
swapped false true true d = refl
swapped false true false d = refl
swapped false false c d = refl

module _ (p : Place) (ps : List Place) where
  known_of_used : (ids : List ℕ) → p.used ≡ true → known_of ids (p ∷ ps) ≡ (list_any (eqb p.id) ids || known_of ids ps)
  unfolding known_of some_place named
  known_of_used [] u = refl
  known_of_used (x ∷ ids) u = rw (known_of_used ids u, u) (swapped (eqb p.id x) (known x ps) (list_any (eqb p.id) ids) (known_of ids ps))

  known_of_free : (ids : List ℕ) → p.used ≡ false → known_of ids (p ∷ ps) ≡ known_of ids ps
  unfolding known_of some_place named
  known_of_free [] u = refl
  known_of_free (x ∷ ids) u = rw (known_of_free ids u, u)

regrouped : (a b c d : Bool) → (a || ((b || c) || d)) ≡ ((a || b) || (c || d))
regrouped true b c d = refl
regrouped false true c d = refl
regrouped false false c d = refl

module _ (p : Place) (ps : List Place) where
  repeats_used : (ids : List ℕ) → p.used ≡ true → repeats ids (p ∷ ps) ≡ (list_any (eqb p.id) ids || repeats (ids ++ p.id ∷ []) ps)
  unfolding repeats if_on
  repeats_used ids u = rw (repeats, u)

  repeats_free : (ids : List ℕ) → p.used ≡ false → repeats ids (p ∷ ps) ≡ repeats ids ps
  unfolding repeats if_on
  repeats_free ids u = rw (repeats, u)

  twice_used : p.used ≡ true → twice (p ∷ ps) ≡ (known p.id ps || twice ps)
  unfolding twice
  twice_used u = rw (twice, u)

  twice_free : p.used ≡ false → twice (p ∷ ps) ≡ twice ps
  unfolding twice
  twice_free u = rw (twice, u)

repeats_is : (ids : List ℕ) (ps : List Place) → repeats ids ps ≡ (known_of ids ps || twice ps)
unfolding repeats twice
repeats_is ids [] = rw (known_of_none ids)
repeats_is ids (p ∷ ps) =
    by_test p.used
    (λ u.
    repeats_used p ps ids u ∙ ap (λ (b : Bool). list_any (eqb p.id) ids || b) (repeats_is (ids ++ p.id ∷ []) ps ∙ ap (λ (b : Bool). b || twice ps) (known_of_snoc p.id ids ps))
    ∙ regrouped (list_any (eqb p.id) ids) (known_of ids ps) (known p.id ps) (twice ps) ∙ sym (ap₂ ◌||◌ (known_of_used p ps ids u) (twice_used p ps u)))
    (λ u. repeats_free p ps ids u ∙ repeats_is ids ps ∙ sym (ap₂ ◌||◌ (known_of_free p ps ids u) (twice_free p ps u)))

-- ---- the walk: these are the identifiers in use of the first i places, and these break no rule
pub record Scanned (ids : List ℕ) (i : ℕ) (ps : List Place) : Type 0 where
  pub fit : some_place unfit (drop i ps) ≡ some_place unfit ps
  pub apart : repeats ids (drop i ps) ≡ twice ps
  pub there : (id : ℕ) → (list_any (eqb id) ids || known id (drop i ps)) ≡ known id ps
  pub few : length ids ≤ i

pub scan_start : (ids : List ℕ) (ps : List Place) → ids ≡ [] → Scanned ids 0 ps
unfolding known_of
scan_start ids ps e = subst (λ (z : List ℕ). Scanned z 0 ps) (sym e) (record { fit = refl; apart = repeats_is [] ps; there = λ id. refl; few = omega arith })

module _ (ids : List ℕ) (i : ℕ) (ps : List Place) (s : Scanned ids i ps) (l : i < length ps) (x : Bool) (e : x ≡ unfit (get_or ps i blank)) where
  pub scan_unfit : (q : Option ℕ) → x ≡ true → true ≡ broken (record { places = ps; parent = q })
  unfolding broken
  scan_unfit q u = rw (← some_found unfit ps i (some_place unfit ps) x l s.fit e u)

  module _ (u : x ≡ false) where
    fits : some_place unfit (drop (i + 1) ps) ≡ some_place unfit ps
    fits = some_next unfit ps i (some_place unfit ps) x l s.fit e u

    pub scan_free : (get_or ps i blank).used ≡ false → Scanned ids (i + 1) ps
    unfolding repeats if_on some_place named
    scan_free f =
        record {
          fit = fits;
          apart = rw add-one (rw (drop-cons ps i blank l, f) at s.apart);
          there = λ id. rw add-one (rw (drop-cons ps i blank l, f) at (s.there id));
          few = omega (arith, s.few);
        }

    module _ (y : Bool) (f : (get_or ps i blank).used ≡ true) (lent : List ℕ) (k : lent ≡ ids) (g₀ : y ≡ list_any (eqb (get_or ps i blank).id) lent) where
      g : y ≡ list_any (eqb (get_or ps i blank).id) ids
      g = g₀ ∙ ap (list_any (eqb (get_or ps i blank).id)) k

      next : (y || repeats (ids ++ (get_or ps i blank).id ∷ []) (drop (suc i) ps)) ≡ twice ps
      unfolding repeats if_on
      next = rw g (rw (drop-cons ps i blank l, f) at s.apart)

      pub scan_twice : (q : Option ℕ) → y ≡ true → true ≡ broken (record { places = ps; parent = q })
      unfolding broken
      scan_twice q v = let t : true ≡ twice ps = rw v at next in rw (← t) (sym (or-true (some_place unfit ps)))

      pub scan_used : (after : List ℕ) → y ≡ false → after ≡ ids ++ (get_or ps i blank).id ∷ [] → Scanned after (i + 1) ps
      unfolding some_place named
      scan_used after v w =
          subst (λ (z : List ℕ). Scanned z (i + 1) ps) (sym w) (record {
            fit = fits;
            apart = rw add-one (rw v at next);
            there = λ id.
                rw (add-one, within_snoc id (get_or ps i blank).id ids)
                (or_assoc (list_any (eqb id) ids) (eqb id (get_or ps i blank).id) (known id (drop (suc i) ps))
                ∙ rw (eqb_swap id (get_or ps i blank).id) (rw (drop-cons ps i blank l, f) at (s.there id)));
            few = omega (arith, length-append ids ((get_or ps i blank).id ∷ []), s.few);
          })

-- ---- the end of the walk
module _ (ids : List ℕ) (i : ℕ) (ps : List Place) (s : Scanned ids i ps) (h : length ps ≤ i) where
  clear : (some_place unfit ps ≡ false) × (twice ps ≡ false) × ((id : ℕ) → list_any (eqb id) ids ≡ known id ps)
  unfolding repeats some_place
  clear =
      let d = drop_of_length-le ps h in
      (sym (some_end unfit ps i (length ps) (some_place unfit ps) refl h s.fit), sym (rw d at s.apart), λ id. sym (or-false (list_any (eqb id) ids)) ∙ (rw d at (s.there id)))

  module _ (q : Option ℕ) where
    pub scan_none : q ≡ None → false ≡ broken (record { places = ps; parent = q })
    unfolding broken parent_missing
    scan_none e = simp (clear.0, clear.1, e)

    pub scan_held : (id : ℕ) (y : Bool) (lent : List ℕ) → q ≡ Some id → lent ≡ ids → y ≡ list_any (eqb id) lent → not y ≡ broken (record { places = ps; parent = q })
    unfolding broken parent_missing
    scan_held id y lent e k f = simp (clear.0, clear.1, e, f, k, clear.2 id)

pub ruleset standsWays = (among_next, among_end)

pub ruleset scanWays = (scan_start, scan_unfit, scan_free, scan_twice, scan_used, scan_none, scan_held)
