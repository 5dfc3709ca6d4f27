-- Joining information: a content of the grammar passes and is read as what it says; and one that passed is of the grammar. Assumes nothing.
use Prim.Native.Nat.{ℕ, suc, ◌+◌, ◌-◌, ◌*◌, ◌/◌, ◌%◌, ◌≤◌}
use mathlib.Core.Path.{◌≡◌, refl, sym, ◌∙◌, ap, subst}
use mathlib.Core.Bool.{true}
use mathlib.Core.List.{List, [], ◌∷◌, ◌++◌}
use mathlib.Core.Logic.{inl, inr}
use native.Mathlib.Nat.{add-sub_cancel_left}
use native.Mathlib.Omega.{arith}
use borrow.Author.Tests.{eqb-true, eqb-false}
use lib.Dec.{eqb}
use lib.ListN.{length, get_or, replicate, length-append}
use Rattle.octets_spec.specs.Choice.{if_eq}
use Rattle.octets_spec.specs.Number.{be_at}
use Rattle.octets_spec.proofs.ChoiceLaws.{if_ge, if_eq_lem, if_ne_lem, by_test}
use Rattle.eb_record_spec.specs.Record.{blank_joining}
use Rattle.eb_record_spec.specs.declared.JoiningInformation.{JoiningInformation}
use Rattle.ie_verdict_spec.specs.Verdict.{once_only, joining_fault, part_fault}
use Rattle.eb_read_spec.specs.Decode.{network_offset, joining_at}
use Rattle.eb_read_spec.proofs.DecodeLaws.{network_from, joining_is, joining_absent}
use Rattle.eb_read_spec.specs.Claims.{Bytes}
use Rattle.eb_read_spec.proofs.Noted.{kind_joining}
use Rattle.eb_read_spec.proofs.NetworkRecord.{top_bits}
use Rattle.eb_grammar_spec.proofs.Stands.{Stands, stands_first, stands_rest, stands_at}
use Rattle.eb_grammar_spec.specs.Row.{be, bits}
use Rattle.eb_grammar_spec.specs.Grammar.{JoiningContent, absent, joining}
use Rattle.eb_grammar_spec.proofs.Slices.{part, part_at, part_append, part_stands, length_part, be_stands, be_part}
use Rattle.eb_grammar_spec.proofs.Notes.{unseen, Kept}
use Rattle.eb_grammar_spec.proofs.Rowed.{count_from, padded_count}

-- what the grammar reads off joining information
abbrev pub joining_said : List ℕ → List ℕ → List ℕ → JoiningInformation
joining_said word address network = record {
  present = true;
  router = eqb (bits 31 1 (be word)) 1;
  proxied = eqb (bits 30 1 (be word)) 1;
  proxy = bits 20 7 (be word);
  rank = bits 8 12 (be word);
  pan = bits 0 8 (be word);
  address = be address;
  length = length network;
  network = network ++ replicate (16 - length network) 0;
}

pub nothing : (xs : List ℕ) → length xs ≡ 0 → be xs ≡ 0
unfolding be
nothing [] e = refl
nothing (x ∷ xs) e = absurd (omega (arith, e))

module _ (s : List ℕ) (bytes : Bytes s) (at : ℕ) where
  abbrev p : ℕ
  p = be_at 4 s at / 1073741824 % 2

  p_is : p ≡ get_or s at 0 / 64 % 2
  p_is = ap (λ (k : ℕ). k % 2) (top_bits s bytes at)

  bytes_count : (skip i : ℕ) (xs : List ℕ) → Stands s (at + (skip + i)) xs → xs ≡ count_from (λ j. get_or s (at + (skip + j)) 0) i (length xs)
  unfolding count_from Stands
  bytes_count skip i [] h = refl
  bytes_count skip i (x ∷ xs) h =
      let e : suc (at + (skip + i)) ≡ at + (skip + suc i) = omega arith in
      rw (h.0, ← bytes_count skip (suc i) xs (stands_at s xs _ _ e h.1))

  module _ (word address network : List ℕ) (four : length word ≡ 4) (eight : length address ≡ 8 * bits 30 1 (be word)) (few : length network ≤ 16) (h : Stands s at (word ++ (address ++ network))) where
    abbrev c : List ℕ
    c = word ++ (address ++ network)

    word_is : be word ≡ be_at 4 s at
    word_is = rw four at (be_stands s at word (stands_first s word (address ++ network) at h))

    eight_is : length address ≡ 8 * p
    eight_is = rw word_is at eight

    long : length c ≡ 4 + 8 * p + length network
    long = length-append word (address ++ network) ∙ omega (arith, length-append address network, four, eight_is)

    behind : Stands s (at + 4) (address ++ network)
    behind = rw four at (stands_rest s word (address ++ network) at h)

    joins_fine : part_fault s 258 at (at + length c) unseen ≡ 0
    unfolding part_fault joining_fault once_only if_eq
    joins_fine = rw (add-sub_cancel_left at (length c), ← p_is, long) (sym (if_ge _ _ _ _ (omega arith) (if_ge _ _ _ _ (omega arith) (if_ge _ _ _ _ (omega (arith, few)) refl))))

    address_is : be address ≡ if_eq (be word / 1073741824 % 2) 1 (be_at 8 s (at + 4)) 0
    address_is =
        rw word_is
        (by_test (eqb p 1)
        (λ t.
        let one = eqb-true p 1 t in
        let long : length address ≡ 8 = omega (arith, eight_is, one) in
        if_eq_lem _ _ p 1 one (rw long at (be_stands s (at + 4) address (stands_first s address network (at + 4) behind))))
        (λ t.
        let not : p ≡ 1 → ⊥ = eqb-false p 1 t in
        let none : length address ≡ 0 = omega (arith, eight_is, not) in
        if_ne_lem _ _ p 1 not (nothing address none)))

    module _ (some : at ≡ 0 → ⊥) where
      joins_value : joining_said word address network ≡ joining_at s at (at + length c)
      joins_value =
          let whole : be word / 1 ≡ be word = omega arith in
          let skip : 4 + 8 * p ≡ network_offset s at = rw word_is at (network_from s at (be word) word_is) in
          let place : at + 4 + length address ≡ at + (4 + 8 * p + 0) = omega (arith, eight_is) in
          let there = stands_at s network _ _ place (stands_rest s address network (at + 4) behind) in
          rw whole
          (joining_is s at (at + length c) (be word) (4 + 8 * p) (length network) (be address) (network ++ replicate (16 - length network) 0) some word_is skip
          (omega (arith, long, few)) address_is
          (ap (λ (xs : List ℕ). xs ++ replicate (16 - length network) 0) (bytes_count (4 + 8 * p) 0 network there) ∙ padded_count (λ j. get_or s (at + (4 + 8 * p + j)) 0) 0 16 (length network) few))

  pub joining_says : (c : List ℕ) → Stands s at c → part_fault s 258 at (at + length c) unseen ≡ 0 → (at ≡ 0 → ⊥) → JoiningContent (c ∷ []) (joining_at s at (at + length c))
  joining_says c h e some =
      let passed = kind_joining s at _ unseen e in
      let m : ℕ = length c - (4 + 8 * p) in
      let size : at + length c - at ≡ length c = add-sub_cancel_left at (length c) in
      let whole : length c ≡ 4 + (8 * p + m) = omega (arith, passed.least, p_is, size) in
      let word : List ℕ = part s at 4 in
      let address : List ℕ = part s (at + 4) (8 * p) in
      let network : List ℕ = part s (at + 4 + 8 * p) m in
      let is : c ≡ word ++ (address ++ network) =
      part_stands s at c h ∙ (part_at s at at (length c) _ refl whole ∙ (part_append s at 4 (8 * p + m) ∙ ap (λ (xs : List ℕ). word ++ xs) (part_append s (at + 4) (8 * p) m))) in
      let eight : length address ≡ 8 * bits 30 1 (be word) = rw (be_part s 4 at) (length_part s (at + 4) (8 * p)) in
      let few : length network ≤ 16 = omega (arith, length_part s (at + 4 + 8 * p) m, passed.most, p_is, size) in
      let four = length_part s at 4 in
      rw is (subst (λ j. JoiningContent ((word ++ (address ++ network)) ∷ []) j) (joins_value word address network four eight few (rw is at h) some) (joining word address network four eight few))

-- ---- a list with one entry
pub no_entry : {A : Type 0} (c : A) (before after : List A) → [] ≡ before ++ (c ∷ after) → ⊥
no_entry c before after e =
    let longer : ◌≡◌ {A = ℕ} 0 (length (before ++ (c ∷ after))) = ap length e in
    omega (arith, longer, length-append before (c ∷ after))

pub single : {A : Type 0} (x c : A) (before after : List A) → x ∷ [] ≡ before ++ (c ∷ after) → (before ≡ []) × (x ≡ c) × (after ≡ [])
single x c [] [] e = (refl, cc, refl)
single x c [] (y ∷ after) e = absurd (no_entry y [] after (cc))
single x c (y ∷ before) after e = absurd (no_entry c before after (cc))

module _ (s : List ℕ) (bytes : Bytes s) where
  pub joining_fine : (cs : List (List ℕ)) (j : JoiningInformation) → JoiningContent cs j → (c : List ℕ) (before after : List (List ℕ)) → cs ≡ before ++ (c ∷ after)
      → (before ≡ []) × ((from : ℕ) → Stands s from c → part_fault s 258 from (from + length c) unseen ≡ 0)
  joining_fine _ _ absent c before after e = absurd (no_entry c before after e)
  joining_fine _ _ (joining word address network four eight few) c before after e =
      let one = single _ c before after e in
      (one.0, λ from. subst (λ xs. Stands s from xs → part_fault s 258 from (from + length xs) unseen ≡ 0) one.1 (joins_fine s bytes from word address network four eight few))

  -- what is noted of it is read as what it says
  pub joining_value : (cs : List (List ℕ)) (j : JoiningInformation) → JoiningContent cs j → (at to : ℕ) → Kept s 258 at to cs → j ≡ joining_at s at to
  joining_value _ _ absent at to (inl none) = joining_absent s at to blank_joining refl none.0
  joining_value _ _ absent at to (inr one) = absurd (no_entry _ [] [] one.only)
  joining_value _ _ (joining word address network four eight few) at to (inl none) = absurd (no_entry _ [] [] (sym none.1))
  joining_value _ _ (joining word address network four eight few) at to (inr one) =
      let same : word ++ (address ++ network) ≡ one.content = (single _ _ [] [] one.only).1 in
      rw (one.ends, ← same) (joins_value s bytes at word address network four eight few (rw (← same) at one.stands) one.some)
