-- What a walk noted, against the elements that were found: each place holds the content of the one element of its kind, which passed the
-- tests of its kind. Assumes nothing.
use Prim.Native.Nat.{ℕ, ◌+◌, ◌-◌, ◌/◌, ◌%◌, ◌≤◌}
use mathlib.Core.Path.{◌≡◌, refl, sym, ◌∙◌, ap}
use mathlib.Core.List.{List, [], ◌∷◌, ◌++◌, append-nil}
use mathlib.Core.Logic.{◌⊎◌, inl, inr}
use native.Mathlib.Omega.{arith}
use lib.Dec.{eqb}
use lib.ListN.{length, get_or}
use borrow.Author.Tests.{eqb-true}
use Rattle.octets_spec.specs.Choice.{if_eq}
use Rattle.octets_spec.proofs.ChoiceLaws.{if_eq_lem, if_ne_lem, by_test, was_eq, was_ne, was_ge, was_off}
use Rattle.refusal.specs.Refusal.{missing_or_twice}
use Rattle.ie_verdict_spec.specs.Verdict.{once_only, sync_fault, timeslot_fault, hopping_fault, slotframe_fault, slotframe_fault_at, joining_fault, part_fault}
use Rattle.ie_verdict_spec.specs.declared.Seen.{Seen}
use Rattle.ie_walk_spec.specs.Walk.{blank_walk, seen_of, skip_one, taken}
use Rattle.ie_walk_spec.specs.declared.Walk.{Walk}
use Rattle.eb_read_spec.specs.Read.{skipped_before}
use Rattle.eb_read_spec.proofs.Each.{each_eq}
use Rattle.eb_read_spec.proofs.Noted.{wrong_shape, twice}
use Rattle.eb_grammar_spec.proofs.Stands.{Stands}
use Rattle.eb_grammar_spec.specs.Grammar.{Element, contents}

-- ---- the contents of a kind
pub contents_append : (kind : ℕ) (xs ys : List Element) → contents kind (xs ++ ys) ≡ contents kind xs ++ contents kind ys
unfolding contents if_eq
contents_append kind [] ys = refl
contents_append kind (x ∷ xs) ys = by_test (eqb x.kind kind) (λ t. rw (t, contents_append kind xs ys)) (λ t. rw (t, contents_append kind xs ys))

pub contents_here : (h f : List Element) (x : Element) (k : ℕ) → x.kind ≡ k → contents k (h ++ (x ∷ f)) ≡ contents k h ++ (x.content ∷ contents k f)
unfolding contents
contents_here h f x k e = contents_append k h (x ∷ f) ∙ ap (λ (cs : List (List ℕ)). contents k h ++ cs) (sym (if_eq_lem _ _ _ _ e refl))

pub contents_other : (h f : List Element) (x : Element) (k : ℕ) → (x.kind ≡ k → ⊥) → contents k (h ++ (x ∷ f)) ≡ contents k h ++ contents k f
unfolding contents
contents_other h f x k n = contents_append k h (x ∷ f) ∙ ap (λ (cs : List (List ℕ)). contents k h ++ cs) (sym (if_ne_lem _ _ _ _ n refl))

-- ---- no element of a kind was taken before
abbrev pub unseen : Seen
unseen = record { synchronization = 0; timeslot = 0; hopping = 0; slotframe = 0; joining = 0 }

-- an element without a fault is the first of its kind
module _ (s : List ℕ) (from size seen : ℕ) where
  once : (r : ℕ) → if_eq seen 0 r missing_or_twice ≡ 0 → seen ≡ 0
  once r e = (was_eq _ _ _ _ _ e twice).0

  abbrev First : ℕ → Type 0
  First fault = fault ≡ 0 → seen ≡ 0

  firsts : First (sync_fault size seen) × First (timeslot_fault size seen (get_or s from 0)) × First (hopping_fault size seen) × First (slotframe_fault_at s from size seen) × First (joining_fault size seen (get_or s from 0 / 64 % 2))
  unfolding once_only sync_fault timeslot_fault hopping_fault slotframe_fault_at slotframe_fault joining_fault
  firsts = (
    λ e. once _ (was_eq _ _ _ _ _ e wrong_shape).1,
    λ e. once _ (was_off _ _ _ _ e wrong_shape).1,
    λ e. once _ (was_ne _ _ _ _ _ e wrong_shape).1,
    each_eq First _ _ _ _ (λ shaped e. once _ e) (λ misshapen e. absurd (misshapen e)),
    λ e. once _ (was_ge _ _ _ _ _ (was_ge _ _ _ _ _ (was_ge _ _ _ _ _ e wrong_shape).1 wrong_shape).1 wrong_shape).1,
  )

splits_by : (fault : ℕ → ℕ) (seen : ℕ) → (fault seen ≡ 0 → seen ≡ 0) → (fault seen ≡ 0 → (seen ≡ 0) × (fault 0 ≡ 0)) × (seen ≡ 0 → fault 0 ≡ 0 → fault seen ≡ 0)
splits_by fault seen first = (λ e. let f = first e in (f, rw f at e), λ f e. rw f e)

-- an element has no fault exactly when none of its kind was seen and it has none by itself
module _ (s : List ℕ) (from to : ℕ) (seen : Seen) where
  abbrev Split : ℕ → ℕ → Type 0
  Split kind before = (part_fault s kind from to seen ≡ 0 → (before ≡ 0) × (part_fault s kind from to unseen ≡ 0)) × (before ≡ 0 → part_fault s kind from to unseen ≡ 0 → part_fault s kind from to seen ≡ 0)

  pub record Splits : Type 0 where
    pub synchronization : Split 26 seen.synchronization
    pub timeslot : Split 28 seen.timeslot
    pub hopping : Split 137 seen.hopping
    pub slotframe : Split 27 seen.slotframe
    pub joining : Split 258 seen.joining

  pub splits : Splits
  unfolding part_fault if_eq
  splits = record {
    synchronization = splits_by (λ n. sync_fault (to - from) n) _ (firsts s from (to - from) _).0;
    timeslot = splits_by (λ n. timeslot_fault (to - from) n (get_or s from 0)) _ (firsts s from (to - from) _).1;
    hopping = splits_by (λ n. hopping_fault (to - from) n) _ (firsts s from (to - from) _).2;
    slotframe = splits_by (λ n. slotframe_fault_at s from (to - from) n) _ (firsts s from (to - from) _).3;
    joining = splits_by (λ n. joining_fault (to - from) n (get_or s from 0 / 64 % 2)) _ (firsts s from (to - from) _).4;
  }

-- ---- what is noted of a kind: nothing, or the place of the only element
pub record One (s : List ℕ) (kind p e : ℕ) (cs : List (List ℕ)) : Type 0 where
  pub content : List ℕ
  pub only : cs ≡ content ∷ []
  pub some : p ≡ 0 → ⊥
  pub stands : Stands s p content
  pub ends : e ≡ p + length content
  pub passed : part_fault s kind p e unseen ≡ 0

abbrev pub Kept : List ℕ → ℕ → ℕ → ℕ → List (List ℕ) → Type 0
Kept s kind p e cs = ((p ≡ 0) × (cs ≡ [])) ⊎ One s kind p e cs

-- what is noted of each kind at the offsets that a walk keeps: of three kinds it keeps no end
pub record NotesAt (s : List ℕ) (synchronization_at_lem timeslot_at timeslot_end_lem hopping_at slotframe_at_lem joining_at_lem joining_end_lem : ℕ) (found : List Element) : Type 0 where
  pub synchronization : (e : ℕ) × Kept s 26 synchronization_at_lem e (contents 26 found)
  pub timeslot : Kept s 28 timeslot_at timeslot_end_lem (contents 28 found)
  pub hopping : (e : ℕ) × Kept s 137 hopping_at e (contents 137 found)
  pub slotframe : (e : ℕ) × Kept s 27 slotframe_at_lem e (contents 27 found)
  pub joining : Kept s 258 joining_at_lem joining_end_lem (contents 258 found)

abbrev pub Notes : List ℕ → Walk → List Element → Type 0
Notes s w found = NotesAt s w.synchronization w.timeslot w.timeslotend w.hopping w.slotframe w.joining w.joiningend found

pub notes_none : (s : List ℕ) → Notes s blank_walk []
unfolding blank_walk contents
notes_none s = record {
  synchronization = (0, inl (refl, refl));
  timeslot = inl (refl, refl);
  hopping = (0, inl (refl, refl));
  slotframe = (0, inl (refl, refl));
  joining = inl (refl, refl);
}

-- the count of elements that are skipped does not matter
pub notes_before : (s : List ℕ) (w : Walk) (count : ℕ) (found : List Element) → Notes s w found → Notes s (skipped_before count w) found
unfolding skipped_before
notes_before s w count found n = n

pub notes_skip : (s : List ℕ) (w : Walk) (found : List Element) → Notes s w found → Notes s (skip_one w) found
unfolding skip_one
notes_skip s w found n = n

-- an element of another kind changes nothing
pub notes_other : (s : List ℕ) (w : Walk) (found : List Element) (x : Element) → (x.kind ≡ 258 → ⊥) → 256 ≤ x.kind → Notes s w found → Notes s w (found ++ (x ∷ []))
unfolding contents
notes_other s w found x n high k =
    let same : (k : ℕ) → (x.kind ≡ k → ⊥) → contents k (found ++ (x ∷ [])) ≡ contents k found = λ k n. contents_other found [] x k n ∙ append-nil (contents k found) in
    record {
      synchronization = rw (same 26 (λ z. omega arith)) k.synchronization;
      timeslot = rw (same 28 (λ z. omega arith)) k.timeslot;
      hopping = rw (same 137 (λ z. omega arith)) k.hopping;
      slotframe = rw (same 27 (λ z. omega arith)) k.slotframe;
      joining = rw (same 258 n) k.joining;
    }

-- an element that was taken is noted
module _ (s : List ℕ) (found : List Element) (kind from : ℕ) (c : List ℕ) (some : from ≡ 0 → ⊥) (stands : Stands s from c) where
  abbrev x : Element
  x = record { kind = kind; content = c }

  keeps : (k p e : ℕ) → Kept s k p e (contents k found) → (kind ≡ k → (p ≡ 0) × (part_fault s k from (from + length c) unseen ≡ 0))
      → Kept s k (if_eq kind k from p) (if_eq kind k (from + length c) e) (contents k (found ++ (x ∷ [])))
  unfolding contents if_eq
  keeps k p e kept fresh =
      rw (contents_append k found (x ∷ []))
      (by_test (eqb kind k)
      (λ t. let f = fresh (eqb-true kind k t) in rw t (here kept f))
      (λ t. rw (t, append-nil (contents k found)) kept))
    where
      here : Kept s k p e (contents k found) → (p ≡ 0) × (part_fault s k from (from + length c) unseen ≡ 0) → Kept s k from (from + length c) (contents k found ++ (c ∷ []))
      here (inl none) f = inr (record { content = c; only = rw none.1; some = some; stands = stands; ends = refl; passed = f.1 })
      here (inr one) f = absurd (one.some f.0)

  pub notes_taken : (w : Walk) → part_fault s kind from (from + length c) (seen_of w) ≡ 0 → Notes s w found → Notes s (taken w kind from (from + length c)) (found ++ (x ∷ []))
  unfolding taken seen_of
  notes_taken w fine n = record {
    synchronization = (_, keeps 26 _ _ n.synchronization.1 (λ e. (splits s from _ (seen_of w)).synchronization.0 (rw e at fine)));
    timeslot = keeps 28 _ _ n.timeslot (λ e. (splits s from _ (seen_of w)).timeslot.0 (rw e at fine));
    hopping = (_, keeps 137 _ _ n.hopping.1 (λ e. (splits s from _ (seen_of w)).hopping.0 (rw e at fine)));
    slotframe = (_, keeps 27 _ _ n.slotframe.1 (λ e. (splits s from _ (seen_of w)).slotframe.0 (rw e at fine)));
    joining = keeps 258 _ _ n.joining (λ e. (splits s from _ (seen_of w)).joining.0 (rw e at fine));
  }
