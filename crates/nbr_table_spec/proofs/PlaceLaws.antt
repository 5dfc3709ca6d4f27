-- The laws of places: each way out of a function over places, as the code meets it (the rulesets at the end), and how what
-- is found by number is what the definitions speak of. Assumes nothing.
use Prim.Native.Nat.{ℕ, zero, suc, ◌+◌, ◌<◌, ◌≤◌}
use native.Mathlib.Numerals.{add-one}
use native.Mathlib.Omega.{arith}
use mathlib.Core.Path.{◌≡◌, refl, sym, ap, subst, ◌∙◌}
use mathlib.Core.Bool.{Bool, true, false, not, ◌&&◌, ◌||◌}
use mathlib.Core.List.{List, [], ◌∷◌}
use lib.ListN.{length, get_or, drop, set, drop_of_length-le}
use lib.Seq.{drop-cons}
use lib.Dec.{ltb, eqb}
use borrow.Author.Tests.{le-ltb, lt-ltb, ltb-false}
use Rattle.octets_spec.specs.Choice.{if_on}
use Rattle.octets_spec.proofs.ChoiceLaws.{by_lt, by_test, choices}
use Rattle.nbr_metric_spec.specs.declared.Place.{Place}
use Rattle.nbr_metric_spec.specs.Metric.{blank}
use Rattle.nbr_table_spec.specs.Places.{better, change_first, first_of, free, named, lesser, nonzero, some_place, unfit}
use Rattle.nbr_table_spec.specs.Stores.{first, found, found_of, index_in}
use Rattle.std.proofs.Common.{Option, IfSome, position}
use Rattle.std.specs.List.{position_or_len}
use Rattle.std.proofs.lemmas.List.Recursion.{is_position_or_len}

-- ---- one place
module _ (p : Place) where
  pub named_is : (n : ℕ) → (p.used && eqb p.id n) ≡ named n p
  unfolding named
  named_is n = refl

  pub nonzero_is : (ltb 0 p.id || (ltb 0 p.rank || (ltb 0 p.attempts || ltb 0 p.acked))) ≡ nonzero p
  unfolding nonzero
  nonzero_is = refl

  pub unfit_is : (x : Bool) → x ≡ nonzero p → (ltb 255 p.attempts || (ltb p.attempts p.acked || (not p.used && x))) ≡ unfit p
  unfolding unfit free
  unfit_is x e = ap (λ (z : Bool). ltb 255 p.attempts || (ltb p.attempts p.acked || (not p.used && z))) e

-- ---- walking the places: what is left gives what the whole gives
module _ (f : Place → Bool) (ps : List Place) (i : ℕ) (w x : Bool) where
  pub some_next : i < length ps → some_place f (drop i ps) ≡ w → x ≡ f (get_or ps i blank) → x ≡ false → some_place f (drop (i + 1) ps) ≡ w
  unfolding some_place
  some_next l h e u = rw add-one (rw (drop-cons ps i blank l, ← e, u) at h)

  pub some_found : i < length ps → some_place f (drop i ps) ≡ w → x ≡ f (get_or ps i blank) → x ≡ true → true ≡ w
  unfolding some_place
  some_found l h e u = rw (drop-cons ps i blank l, ← e, u) at h

pub some_end : (f : Place → Bool) (ps : List Place) (i n : ℕ) (w : Bool) → length ps ≡ n → n ≤ i → some_place f (drop i ps) ≡ w → false ≡ w
unfolding some_place
some_end f ps i n w e l h = let k : length ps ≤ i = omega arith in rw (drop_of_length-le ps k) at h

-- ---- looking for the first place
module _ (f : Place → Bool) where
  first_position : (ps : List Place) → first f ps ≡ position_or_len f ps
  unfolding first
  first_position ps = is_position_or_len (first f) f refl (λ p ps. by_test (f p) (λ e. rw e) (λ e. rw e (omega arith))) ps

  first_within : (ps : List Place) → first f ps ≤ length ps
  unfolding first
  first_within [] = omega arith
  first_within (p ∷ ps) = by_test (f p) (λ e. rw e (omega arith)) (λ e. rw e (omega (arith, first_within ps)))

  index_position : (ps : List Place) → length ps ≡ 32 → index_in (position f ps) ≡ first f ps
  index_position ps l =
      let k = first_within ps in
      by_lt (position_or_len f ps) (length ps)
      (λ h. rw (lt-ltb (position_or_len f ps) (length ps) h) (sym (first_position ps)))
      (λ h. rw (le-ltb (position_or_len f ps) (length ps) h) (omega (arith, first_position ps)))

  pub position_inside : (ps : List Place) (r : Option ℕ) → length ps ≡ 32 → r ≡ position f ps → IfSome r (λ at. at < 32)
  position_inside ps r l e =
      subst (λ (z : Option ℕ). IfSome z (λ at. at < 32)) (sym e)
      (by_lt (position_or_len f ps) (length ps)
      (λ h. rw (lt-ltb (position_or_len f ps) (length ps) h) (omega arith))
      (λ h. rw (le-ltb (position_or_len f ps) (length ps) h) tt))

pub found_is : (ps : List Place) (n : ℕ) (own unused : Option ℕ) → length ps ≡ 32 → own ≡ position (named n) ps → unused ≡ position free ps → found_of (record { at = own; unused = unused }) ≡ found n ps
found_is ps n own unused l e f = λ j. record { at = (ap index_in e ∙ index_position (named n) ps l) j; unused = (ap index_in f ∙ index_position free ps l) j }

-- ---- the best place
module _ (key : Place → ℕ) (b p : Place) where
  pub lesser_key : key p < key b → p ≡ lesser key b p
  unfolding lesser
  lesser_key h = search choices

  pub lesser_kept : key b ≤ key p → key b < key p → b ≡ lesser key b p
  unfolding lesser
  lesser_kept g h = search choices

  module _ (g : key b ≤ key p) (h : key p ≤ key b) where
    pub lesser_id : p.id < b.id → p ≡ lesser key b p
    unfolding lesser
    lesser_id i = search choices

    pub lesser_tie : b.id ≤ p.id → b ≡ lesser key b p
    unfolding lesser
    lesser_tie i = search choices

module _ (test : Place → Bool) (key : Place → ℕ) (b p : Place) where
  pub better_both : (q : Place) → test p ≡ true → test b ≡ true → q ≡ lesser key b p → q ≡ better test key b p
  unfolding better if_on
  better_both q e f h = simp (e, f) h

  pub better_new : test p ≡ true → test b ≡ false → p ≡ better test key b p
  unfolding better if_on
  better_new e f = simp (e, f)

  pub better_old : test p ≡ false → b ≡ better test key b p
  unfolding better if_on
  better_old e = simp e

-- a disjunction that fails, fails in each part
pub neither : (a b : Bool) → a || b ≡ false → (a ≡ false) × (b ≡ false)
neither true b e = (e, cc)
neither false b e = (refl, e)

-- a test does not both hold and fail
pub clash : {A : Type 0} (a : Bool) → a ≡ true → a ≡ false → A
clash a e f = absurd (let z : ◌≡◌ {A = ℕ} 0 1 = cc in omega arith)

-- ---- what is found by number is what the definitions speak of
module _ (f : Place → Bool) where
  pub present : (ps : List Place) → first f ps < length ps → some_place f ps ≡ true
  unfolding first some_place
  present [] h = absurd (omega arith)
  present (p ∷ ps) h = by_test (f p) (λ e. rw e) (λ e. rw e (present ps (let k : suc (first f ps) < suc (length ps) = rw e at h in omega arith)))

  pub missing : (ps : List Place) → length ps ≤ first f ps → some_place f ps ≡ false
  unfolding first some_place
  missing [] h = refl
  missing (p ∷ ps) h =
      by_test (f p) (λ e. let k : suc (length ps) ≤ 0 = rw e at h in absurd (omega arith))
      (λ e. rw e (missing ps (let k : suc (length ps) ≤ suc (first f ps) = rw e at h in omega arith)))

  pub first_at : (ps : List Place) → get_or ps (first f ps) blank ≡ first_of f ps
  unfolding first first_of
  first_at [] = refl
  first_at (p ∷ ps) = by_test (f p) (λ e. rw e) (λ e. rw e (first_at ps))

  pub set_first : (g : Place → Place) (ps : List Place) → set ps (first f ps) (g (get_or ps (first f ps) blank)) ≡ change_first f g ps
  unfolding first change_first
  set_first g [] = refl
  set_first g (p ∷ ps) = by_test (f p) (λ e. rw e) (λ e. rw e (ap (λ (l : List Place). p ∷ l) (set_first g ps)))

-- where no place meets a test, none does at any number
pub none_at : (f : Place → Bool) (ps : List Place) (i : ℕ) → f blank ≡ false → some_place f ps ≡ false → f (get_or ps i blank) ≡ false
unfolding some_place
none_at f [] i b h = b
none_at f (p ∷ ps) zero b h = (neither (f p) (some_place f ps) h).0
none_at f (p ∷ ps) (suc i) b h = none_at f ps i b (neither (f p) (some_place f ps) h).1

pub fit_limits : (p : Place) → unfit p ≡ false → (p.attempts ≤ 255) × (p.acked ≤ p.attempts)
unfolding unfit
fit_limits p e =
    let n₁ = neither (ltb 255 p.attempts) (ltb p.attempts p.acked || (free p && nonzero p)) e in
    let n₂ = neither (ltb p.attempts p.acked) (free p && nonzero p) n₁.1 in
    (ltb-false 255 p.attempts n₁.0, ltb-false p.attempts p.acked n₂.0)

-- one set for each crate of functions over places
pub ruleset searchWays = (position_inside, found_is)

pub ruleset limitWays = (nonzero_is, unfit_is)
