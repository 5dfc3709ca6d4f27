-- Slotframe and link: a content of the grammar passes and is read as what it says; and one that passed is of the grammar. Assumes nothing.
use Prim.Native.Nat.{ℕ, zero, suc, ◌+◌, ◌-◌, ◌*◌, ◌≤◌}
use mathlib.Core.Path.{◌≡◌, refl, sym, ◌∙◌, ap, subst}
use mathlib.Core.Bool.{Bool, true, and-eq-true_iff}
use mathlib.Core.List.{List, [], ◌∷◌, ◌++◌}
use native.Mathlib.Nat.{add-zero, add-sub_cancel_left}
use native.Mathlib.Omega.{arith}
use borrow.Author.Tests.{lt-ltb, ltb-true}
use lib.Dec.{ltb}
use lib.ListN.{length, get_or, replicate, length-append}
use Rattle.octets_spec.specs.Choice.{if_eq}
use Rattle.octets_spec.specs.Number.{le_at}
use Rattle.octets_spec.proofs.ChoiceLaws.{if_ge, if_eq_lem, if_ne_lem, if_on_lem}
use Rattle.eb_record_spec.specs.Record.{blank_link}
use Rattle.eb_record_spec.specs.declared.Link.{Link}
use Rattle.eb_record_spec.specs.declared.Slotframe.{Slotframe}
use Rattle.ie_verdict_spec.specs.Verdict.{slotframe_shape, slotframe_limits, slotframe_fault, timeslots_fit, slotframe_fault_at, part_fault}
use Rattle.eb_read_spec.specs.Decode.{link_at, slotframe_at}
use Rattle.eb_read_spec.proofs.DecodeLaws.{links_at, slotframe_is}
use Rattle.eb_read_spec.proofs.Noted.{kind_slotframe}
use Rattle.eb_grammar_spec.proofs.Stands.{Stands, stands_first, stands_rest, stands_at, byte_is}
use Rattle.eb_grammar_spec.specs.Row.{Row}
use Rattle.eb_grammar_spec.specs.Grammar.{Links, no_links, one_link, SlotframeContent, slotframe}
use Rattle.eb_grammar_spec.proofs.Slices.{part, part_at, part_append, part_stands}
use Rattle.eb_grammar_spec.proofs.Notes.{unseen}
use Rattle.eb_grammar_spec.proofs.Rowed.{numbers_at, total, row_length, row_reads, row_of, count_from, length_count, padded_count}
use Rattle.eb_grammar_spec.proofs.Synchronized.{entry}

-- the byte that a number of one byte is
pub one_byte : (s : List ℕ) (at : ℕ) → le_at 1 s at ≡ get_or s at 0
one_byte s at = byte_is s at (le_at 1 s at) refl

module _ (s : List ℕ) (at : ℕ) where
  -- ---- the links
  link_is : (i timeslot offset options : ℕ) → (timeslot ∷ offset ∷ options ∷ []) ≡ numbers_at (2 ∷ 2 ∷ 1 ∷ []) s at (5 + 5 * i) → record { timeslot = timeslot; channel_offset = offset; options = options } ≡ link_at s at i
  unfolding numbers_at
  link_is i timeslot offset options e =
      let two : 5 + 5 * i + 2 ≡ 7 + 5 * i = omega arith in
      let four : 7 + 5 * i + 2 ≡ 9 + 5 * i = omega arith in
      let f = rw (two, four) at e in
      links_at s at i timeslot offset options (entry 0 _ _ f) (entry 1 _ _ f) (byte_is s _ _ (entry 2 _ _ f))

  record LinksRead (size i : ℕ) (body : List ℕ) (ls : List Link) : Type 0 where
    sized : length body ≡ 5 * length ls
    fit : timeslots_fit s (at + (5 + 5 * i)) (length ls) size ≡ true
    counts : ls ≡ count_from (link_at s at) i (length ls)

  links_read : (size : ℕ) (body : List ℕ) (ls : List Link) → Links size body ls → (i : ℕ) → Stands s (at + (5 + 5 * i)) body → LinksRead size i body ls
  unfolding timeslots_fit count_from numbers_at total
  links_read size _ _ no_links i h = record { sized = refl; fit = refl; counts = refl }
  links_read size _ _ (one_link timeslot offset options {bytes} {rest} {links} row below more) i h =
      let five : length bytes ≡ 5 = row_length s _ _ _ row in
      let reads = row_reads s _ _ _ row at (5 + 5 * i) (stands_first s bytes rest _ h) in
      let next : at + (5 + 5 * i) + 5 ≡ at + (5 + 5 * suc i) = omega arith in
      let behind = stands_at s rest _ (at + (5 + 5 * suc i)) (omega (arith, five)) (stands_rest s bytes rest _ h) in
      let go = links_read size rest links more (suc i) behind in
      let is : timeslot ≡ le_at 2 s (at + (5 + 5 * i)) = entry 0 _ _ reads in
      record {
        sized = length-append bytes rest ∙ omega (arith, five, go.sized);
        fit = let lt : ltb (le_at 2 s (at + (5 + 5 * i))) size ≡ true = lt-ltb _ _ (rw is at below) in rw (lt, next) go.fit;
        counts = rw (← link_is i timeslot offset options reads, ← go.counts);
      }

  links_some : (size n i : ℕ) → timeslots_fit s (at + (5 + 5 * i)) n size ≡ true → Links size (part s (at + (5 + 5 * i)) (5 * n)) (count_from (link_at s at) i n)
  unfolding timeslots_fit count_from part numbers_at total
  links_some size zero i e = no_links
  links_some size (suc n) i e =
      let k : ℕ = 5 + 5 * i in
      let parts = (and-eq-true_iff (ltb (le_at 2 s (at + k)) size) _).0 e in
      let next : at + k + 5 ≡ at + (5 + 5 * suc i) = omega arith in
      let long : 5 * suc n ≡ 5 + 5 * n = omega arith in
      let row = row_of s (2 ∷ 2 ∷ 1 ∷ []) at k in
      let more = links_some size n (suc i) (rw next at parts.1) in
      let is = link_is i (le_at 2 s (at + k)) (le_at 2 s (at + (k + 2))) (le_at 1 s (at + (k + 2 + 2))) refl in
      let bytes : part s (at + k) 5 ++ part s (at + (5 + 5 * suc i)) (5 * n) ≡ part s (at + k) (5 * suc n) = rw (long, part_append s (at + k) 5 (5 * n), next) in
      rw (← is, ← bytes) (one_link _ _ _ row (ltb-true _ _ parts.0) more)

  -- ---- the element
  no_fault : (bytes size n : ℕ) (below : Bool) → bytes ≡ 5 + 5 * n → 1 ≤ size → 1 ≤ n → n ≤ 16 → below ≡ true → slotframe_fault bytes 0 1 size n below ≡ 0
  unfolding slotframe_fault slotframe_shape slotframe_limits
  no_fault bytes size n below long some_size some few all =
      let shaped : slotframe_shape bytes 1 n ≡ 0 = sym (if_ge _ _ bytes 5 (omega arith) (if_eq_lem _ _ 1 1 refl (if_eq_lem _ _ bytes (5 + 5 * n) long refl))) in
      sym (if_eq_lem _ _ _ _ shaped (if_eq_lem _ _ 0 0 refl (if_ne_lem _ _ size 0 (λ z. omega (arith, z)) (if_ne_lem _ _ n 0 (λ z. omega (arith, z)) (if_ge _ _ 16 n few (if_on_lem _ _ below all refl))))))

  -- what a content of the grammar has at its places
  record Reads (c : List ℕ) (handle size : ℕ) (links : List Link) : Type 0 where
    first : get_or s at 0 ≡ 1
    handle_is : handle ≡ get_or s (at + 1) 0
    size_is : size ≡ le_at 2 s (at + 2)
    count_is : length links ≡ get_or s (at + 4) 0
    long : length c ≡ 5 + 5 * length links
    body : timeslots_fit s (at + 5) (length links) size ≡ true
    counts : links ≡ count_from (link_at s at) 0 (length links)

  reads : (handle size : ℕ) (head body : List ℕ) (links : List Link) → Row (1 ∷ 1 ∷ 2 ∷ 1 ∷ []) head (1 ∷ handle ∷ size ∷ length links ∷ []) → Links size body links → Stands s at (head ++ body) → Reads (head ++ body) handle size links
  unfolding numbers_at total
  reads handle size head body links row lks h =
      let five : length head ≡ 5 = row_length s _ _ _ row in
      let e = row_reads s _ _ _ row at 0 (rw (add-zero at) (stands_first s head body at h)) in
      let behind = stands_at s body _ (at + 5) (omega (arith, five)) (stands_rest s head body at h) in
      let l = links_read size body links lks 0 behind in
      let zero-at : at + 0 ≡ at = add-zero at in
      record {
        first = sym (byte_is s at 1 (rw zero-at at (entry 0 _ _ e)));
        handle_is = byte_is s _ _ (entry 1 _ _ e);
        size_is = entry 2 _ _ e;
        count_is = byte_is s _ _ (entry 3 _ _ e);
        long = length-append head body ∙ omega (arith, five, l.sized);
        body = l.fit;
        counts = l.counts;
      }

  pub slotframe_fine : (c : List ℕ) (f : Slotframe) → SlotframeContent c f → Stands s at c → part_fault s 27 at (at + length c) unseen ≡ 0
  unfolding part_fault slotframe_fault_at if_eq
  slotframe_fine _ _ (slotframe handle size {head} {body} links row lks some_size some few) h =
      let r = reads handle size head body links row lks h in
      rw (add-sub_cancel_left at (length (head ++ body)), r.first, ← r.count_is, ← r.size_is) (no_fault _ size (length links) _ r.long some_size some few r.body)

  pub slotframe_value : (c : List ℕ) (f : Slotframe) → SlotframeContent c f → Stands s at c → f ≡ slotframe_at s at
  slotframe_value _ _ (slotframe handle size {head} {body} links row lks some_size some few) h =
      let r = reads handle size head body links row lks h in
      slotframe_is s at handle size (length links) _ r.count_is r.handle_is r.size_is
      (ap (λ (ls : List Link). ls ++ replicate (16 - length links) blank_link) r.counts ∙ padded_count (link_at s at) blank_link 16 (length links) few)

  content_as : (c xs : List ℕ) (f : Slotframe) → c ≡ xs → SlotframeContent xs f → SlotframeContent c f
  content_as c xs f e k = rw e k

  slotframe_some : (c : List ℕ) → Stands s at c → part_fault s 27 at (at + length c) unseen ≡ 0 → (f : Slotframe) × SlotframeContent c f
  unfolding part_fault if_eq numbers_at total
  slotframe_some c h e =
      let n : ℕ = get_or s (at + 4) 0 in
      let size : ℕ = le_at 2 s (at + 2) in
      let passed = kind_slotframe s at _ unseen e in
      let p = passed.0 in
      let long = sym (add-sub_cancel_left at (length c)) ∙ passed.2 in
      let links : List Link = count_from (link_at s at) 0 n in
      let many : length links ≡ n = length_count (link_at s at) n 0 in
      let zero-at : at + 0 ≡ at = add-zero at in
      let row : Row (1 ∷ 1 ∷ 2 ∷ 1 ∷ []) (part s at 5) (1 ∷ le_at 1 s (at + 1) ∷ size ∷ length links ∷ []) =
      let e₁ : le_at 1 s at ≡ 1 = one_byte s at ∙ passed.1 in
      let e₄ : le_at 1 s (at + 4) ≡ length links = one_byte s (at + 4) ∙ sym many in
      rw (zero-at, e₁, e₄) at (row_of s (1 ∷ 1 ∷ 2 ∷ 1 ∷ []) at 0) in
      let content = slotframe (le_at 1 s (at + 1)) size links row (links_some size n 0 p.below) p.sized (rw many p.some) (rw many p.few) in
      (_, content_as c _ _ (part_stands s at c h ∙ (part_at s at at (length c) (5 + 5 * n) refl long ∙ part_append s at 5 (5 * n))) content)

  pub slotframe_says : (c : List ℕ) → Stands s at c → part_fault s 27 at (at + length c) unseen ≡ 0 → SlotframeContent c (slotframe_at s at)
  slotframe_says c h e = let some = slotframe_some c h e in subst (λ f. SlotframeContent c f) (slotframe_value c _ some.1 h) some.1
