-- The laws of the walk: what it notes of an element, and how many it skips. Assumes nothing.
use Prim.Native.Nat.{ℕ, ◌+◌, ◌≤◌}
use native.Mathlib.Omega.{arith}
use mathlib.Core.Path.{◌≡◌}
use mathlib.Core.List.{List}
use Rattle.octets_spec.specs.Choice.{if_eq}
use Rattle.octets_spec.proofs.ChoiceLaws.{either_eq}
use Rattle.ie_verdict_spec.specs.Verdict.{part_fault}
use Rattle.ie_walk_spec.specs.Walk.{seen_of, taken, stopped, part_taken}
use Rattle.ie_walk_spec.specs.declared.Walk.{Walk}

-- synchronization is noted, and nothing else
pub takes_sync : (w : Walk) (kind from to : ℕ) → kind ≡ 26
    → record { fault = w.fault; faulty = w.faulty; skipped = w.skipped; synchronization = from; timeslot = w.timeslot; timeslotend = w.timeslotend; hopping = w.hopping; slotframe = w.slotframe; joining = w.joining; joiningend = w.joiningend } ≡ taken w kind from to
unfolding taken if_eq
takes_sync w kind from to k = rw k

-- an element adds at most one to the count of skipped ones
taken_counts : (w : Walk) (kind from to : ℕ) → (taken w kind from to).skipped ≤ w.skipped + 1
unfolding taken
taken_counts w kind from to =
    let none : w.skipped ≤ w.skipped + 1 = omega arith in
    either_eq (λ n. n ≤ w.skipped + 1) _ _ none (either_eq (λ n. n ≤ w.skipped + 1) _ _ none (either_eq (λ n. n ≤ w.skipped + 1) _ _ none (either_eq (λ n. n ≤ w.skipped + 1) _ _ none (either_eq (λ n. n ≤ w.skipped + 1) _ _ none (omega arith) kind 258) kind 27) kind 137) kind 28) kind 26

pub part_counts : (s : List ℕ) (w : Walk) (kind from to at : ℕ) → (part_taken s w kind from to at).skipped ≤ w.skipped + 1
unfolding part_taken stopped
part_counts s w kind from to at = either_eq (λ (q : Walk). q.skipped ≤ w.skipped + 1) _ _ (taken_counts w kind from to) (omega arith) (part_fault s kind from to (seen_of w)) 0
