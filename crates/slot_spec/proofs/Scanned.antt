-- What the code finds link by link is what the definition says of the whole list; and what one turn of a loop through the list keeps.
-- Assumes nothing.
use Prim.Native.Nat.{ℕ, suc, ◌+◌, ◌-◌, ◌^◌, ◌<◌, ◌≤◌}
use mathlib.Core.Path.{◌≡◌, refl, sym, ap, ◌∙◌}
use mathlib.Core.Bool.{Bool, true, false, ◌&&◌}
use mathlib.Core.List.{List, [], ◌∷◌, ◌++◌, append-nil, append_assoc}
use native.Mathlib.Nat.{le_refl, mod-eq_of_lt}
use native.Mathlib.Omega.{arith}
use borrow.Author.Tests.{lt-leb}
use lib.Dec.{leb, eqb}
use lib.ListN.{length, drop, length-append, drop_of_length-le}
use lib.Seq.{drop-append_seam}
use Rattle.std.specs.Prelude.{Result}
use Rattle.octets_spec.specs.Choice.{if_on}
use Rattle.octets_spec.proofs.ChoiceLaws.{by_lt}
use Rattle.refusal.specs.declared.Refusal.{Refusal}
use Rattle.eb_record_spec.specs.declared.Link.{Link}
use Rattle.slot_spec.specs.Slot.{limits, timeslots_below, first_active, decision}
use Rattle.slot_spec.specs.Scan.{begun, stepped, scanned, concluded}
use Rattle.slot_spec.specs.Answer.{answer_of, slot_answer}
use Rattle.slot_spec.specs.declared.Scan.{Scan}
use Rattle.slot_spec.specs.declared.SlotQuery.{SlotQuery}
use Rattle.slot_spec.specs.declared.Action.{Action}

-- what is known of a list, in the words of the definition
abbrev known : Scan → ℕ → List Link → Scan
known start index links = record {
  size = start.size;
  slot = start.slot;
  below = timeslots_below start.size links;
  transmit = first_active start.slot 0 index links;
  receive = first_active start.slot 1 index links;
}

scanned_is : (query : SlotQuery) (index : ℕ) (links : List Link) → index + length links ≤ 256 → scanned (begun query) index links ≡ known (begun query) index links
unfolding scanned stepped begun first_active timeslots_below
scanned_is query index [] few = refl
scanned_is query index (link ∷ links) few =
    let low : index < 256 = omega arith in
    rw (scanned_is query (suc index) links (omega arith), mod-eq_of_lt low)

-- more than 16 links are refused, whatever is known of them
too_many : (query : SlotQuery) (count : ℕ) (below : Bool) → 16 < count → limits query count below ≡ false
unfolding limits
too_many query count below many = third (leb 1 query.size) (leb 1 count) (leb count 16) (below && (eqb query.id 0 && leb query.asn (2 ^ 40 - 1))) (lt-leb count 16 many)
  where
    third : (a b c d : Bool) → c ≡ false → (a && (b && (c && d))) ≡ false
    third true true c d e = rw e
    third true false c d e = refl
    third false b c d e = refl

decided : (links : List Link) (query : SlotQuery) → concluded query (length links) (scanned (begun query) 0 links) ≡ decision links query
unfolding concluded decision begun if_on
decided links query =
    by_lt 16 (length links)
    (λ many. rw (too_many query (length links) (scanned (begun query) 0 links).below many, too_many query (length links) (timeslots_below query.size links) many))
    (λ few. rw (scanned_is query 0 links (omega arith)))

-- ---- a pass through a list from its end
-- the links that are left, with those behind them, are the list; and this is known of those behind them
pub record Passed (links : List Link) (start : Scan) (left : List Link) (seen : Scan) : Type 0 where
  pub whole : left ++ drop (length left) links ≡ links
  pub known : seen ≡ scanned start (length left) (drop (length left) links)

module _ (links : List Link) (start : Scan) where
  -- all links are left
  pub begin_at_end : Passed links start links start
  unfolding scanned
  begin_at_end = let none : drop (length links) links ≡ [] = drop_of_length-le links (le_refl (length links)) in record { whole = rw none (append-nil links); known = rw none }

  -- the last link that was left is met
  pub turn : (left : List Link) (link : Link) (index : ℕ) (seen next : Scan) → Passed links start (left ++ (link ∷ [])) seen → index ≡ length left → next ≡ stepped seen link index → Passed links start left next
  unfolding scanned
  turn left link index seen next so_far at e =
      let size : length (left ++ (link ∷ [])) ≡ suc (length left) = omega (arith, length-append left (link ∷ [])) in
      let whole : left ++ (link ∷ drop (suc (length left)) links) ≡ links = rw (size, append_assoc) at so_far.whole in
      let known : seen ≡ scanned start (suc (length left)) (drop (suc (length left)) links) = rw size at so_far.known in
      let here : drop (length left) links ≡ link ∷ drop (suc (length left)) links = ap (drop (length left)) (sym whole) ∙ drop-append_seam left (link ∷ drop (suc (length left)) links) in
      record { whole = rw here whole; known = rw here (rw (known, at) at e) }

  -- no link is left
  pub end_at_begin : (left : List Link) (seen : Scan) → Passed links start left seen → length left ≡ 0 → seen ≡ scanned start 0 links
  end_at_begin left seen so_far none = rw none at so_far.known

-- the decision from what is known of the whole list
pub decides : (links : List Link) (query : SlotQuery) (start seen : Scan) (r : Result Action Refusal) → start ≡ begun query → seen ≡ scanned start 0 links → r ≡ concluded query (length links) seen → r ≡ decision links query
decides links query start seen r e₁ e₂ e₃ = e₃ ∙ rw (e₂, e₁) (decided links query)

-- so are its numbers
pub decides_answer : (links : List Link) (query : SlotQuery) (r : Result Action Refusal) → r ≡ decision links query → answer_of r ≡ slot_answer links query
unfolding slot_answer
decides_answer links query r e = ap answer_of e
