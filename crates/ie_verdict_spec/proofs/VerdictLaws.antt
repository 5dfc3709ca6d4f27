-- The laws of the verdicts, in the shape in which the code meets them. Assumes nothing.
use Prim.Native.Nat.{ℕ, zero, suc, ◌+◌, ◌-◌, ◌*◌, ◌<◌, ◌≤◌}
use mathlib.Core.Path.{◌≡◌, refl}
use mathlib.Core.Bool.{Bool, true, false, ◌&&◌}
use mathlib.Core.List.{List}
use native.Mathlib.Omega.{arith}
use borrow.Author.Tests.{lt-ltb, le-ltb, ne_eqb}
use lib.Dec.{ltb}
use lib.ListN.{get_or}
use Rattle.octets_spec.specs.Choice.{if_eq}
use Rattle.octets_spec.specs.Number.{le_at}
use Rattle.octets_spec.proofs.ChoiceLaws.{if_lt_lem, if_ge, if_eq_lem, if_ne_lem, by_eq, choices}
use Rattle.std.specs.Prelude.{Result, Ok, Err}
use Rattle.refusal.specs.Refusal.{number_of, number_in}
use Rattle.refusal.specs.declared.Refusal.{Refusal}
use Rattle.refusal.specs.declared.Refusal.TheVariants.{FrameTooLong, Cut, WrongType, Secured, Addressing, Shape, MissingOrTwice, OutOfLimits, BufferTooShort, UnknownNeighbour, TableFull}
use Rattle.ie_verdict_spec.specs.Verdict.{once_only, slotframe_shape, slotframe_fault, timeslots_fit, slotframe_fault_at}

-- ---- an element of a kind that was taken before
-- no refusal's number is that of a call that is done
some_number : (refusal : Refusal) → number_of refusal ≡ 0 → ⊥
some_number FrameTooLong e = omega arith
some_number Cut e = omega arith
some_number WrongType e = omega arith
some_number Secured e = omega arith
some_number Addressing e = omega arith
some_number Shape e = omega arith
some_number MissingOrTwice e = omega arith
some_number OutOfLimits e = omega arith
some_number BufferTooShort e = omega arith
some_number UnknownNeighbour e = omega arith
some_number TableFull e = omega arith

module _ (seen : ℕ) (r : Result Unit Refusal) (is : number_in r ≡ once_only seen) where
  pub once_passed : (done : Unit) → r ≡ Ok done → seen ≡ 0
  unfolding once_only if_eq
  once_passed done e = by_eq seen 0 (λ none. none) (λ some. let n : 0 ≡ 7 = rw (e, ne_eqb seen 0 some) at is in absurd (omega arith))

  module _ (refusal : Refusal) (e : r ≡ Err refusal) where
    pub once_refused : seen ≡ 0 → ⊥
    unfolding once_only if_eq
    once_refused none = some_number refusal (rw (e, none) at is)

    pub once_number : number_of refusal ≡ 7
    unfolding once_only if_eq
    once_number = rw (e, ne_eqb seen 0 once_refused) at is

-- ---- the loop over the timeslots: what is left gives what the whole gives
module _ (s : List ℕ) (size : ℕ) where
  one_more : (offset left : ℕ) → 0 < left → timeslots_fit s offset left size ≡ (ltb (le_at 2 s offset) size && timeslots_fit s (offset + 5) (left - 1) size)
  unfolding timeslots_fit
  one_more offset zero some = absurd (omega arith)
  one_more offset (suc left) some = let e : suc left - 1 ≡ left = omega arith in rw e

  module _ (at links : ℕ) where
    pub fit_start : timeslots_fit s (at + 5 * 0) (links - 0) size ≡ timeslots_fit s at links size
    fit_start = let e : at + 5 * 0 ≡ at = omega arith in let all : links - 0 ≡ links = omega arith in rw (e, all)

    module _ (link : ℕ) (whole : Bool) (so_far : timeslots_fit s (at + 5 * link) (links - link) size ≡ whole) where
      pub fit_turn : (t : ℕ) → link < links → t ≡ le_at 2 s (at + 5 * link) → t < size → timeslots_fit s (at + 5 * (link + 1)) (links - (link + 1)) size ≡ whole
      fit_turn t some read below =
          let b : le_at 2 s (at + 5 * link) < size = omega arith in
          let next : at + 5 * (link + 1) ≡ at + 5 * link + 5 = omega arith in
          let left : links - (link + 1) ≡ links - link - 1 = omega arith in
          rw (next, left) (rw (one_more (at + 5 * link) (links - link) (omega arith), lt-ltb _ _ b) at so_far)

      pub fit_not : (t : ℕ) → link < links → t ≡ le_at 2 s (at + 5 * link) → size ≤ t → false ≡ whole
      fit_not t some read over = let b : size ≤ le_at 2 s (at + 5 * link) = omega arith in rw (one_more (at + 5 * link) (links - link) (omega arith), le-ltb _ _ b) at so_far

      pub fit_end : links ≤ link → true ≡ whole
      unfolding timeslots_fit
      fit_end none = let e : links - link ≡ 0 = omega arith in rw e at so_far

-- ---- the slotframe and link element: what its shape says comes first, and there the count before the length
module _ (s : List ℕ) (from bytes seen : ℕ) where
  module _ (count links fault : ℕ) (c : count ≡ get_or s from 0) (l : links ≡ get_or s (from + 4) 0) (e : fault ≡ slotframe_shape bytes count links) where
    frame_shape : (fault ≡ 0 → ⊥) → fault ≡ slotframe_fault_at s from bytes seen
    unfolding slotframe_fault_at slotframe_fault
    frame_shape bad = rw (← c, ← l, ← e) (if_ne_lem _ _ fault 0 bad refl)

  module _ (long : 5 ≤ bytes) (count : ℕ) (c : count ≡ get_or s from 0) where
    pub frame_count : (count ≡ 1 → ⊥) → 8 ≡ slotframe_fault_at s from bytes seen
    unfolding slotframe_shape
    frame_count bad = frame_shape count _ 8 c refl (if_ge _ _ bytes 5 long (if_ne_lem _ _ count 1 bad refl)) (λ (z : 8 ≡ 0). omega arith)

pub ruleset verdicts = (choices, once_passed, once_refused, once_number, fit_start, fit_turn, fit_not, fit_end)
