-- What a frame of the grammar says is within the limits of writing, and needs no more bytes than it was said in: part by part. Assumes nothing.
use Prim.Native.Nat.{ℕ, ◌+◌, ◌-◌, ◌*◌, ◌/◌, ◌^◌, ◌<◌, ◌≤◌}
use mathlib.Core.Path.{◌≡◌, refl, sym, ◌∙◌, ap}
use mathlib.Core.Bool.{true}
use mathlib.Core.List.{List, [], ◌∷◌, ◌++◌}
use native.Mathlib.Nat.{mod-lt}
use native.Mathlib.Omega.{arith}
use borrow.Author.Tests.{lt-ltb, eq-eqb, eqb-true, eqb-false}
use lib.Dec.{lit<, eqb, ltb}
use lib.ListN.{length, take, drop, replicate, length-append, length-replicate}
use lib.Seq.{take_at, drop_at}
use Rattle.octets_spec.specs.Choice.{if_on}
use Rattle.octets_spec.proofs.ChoiceLaws.{if_lt_lem, either_lt, by_test}
use Rattle.eb_record_spec.specs.Record.{blank_link}
use Rattle.eb_record_spec.specs.Form.{address_fits}
use Rattle.mac_header_spec.specs.declared.SequenceNumber.{SequenceNumber}
use Rattle.mac_header_spec.specs.declared.Address.{Address}
use Rattle.eb_record_spec.specs.declared.TimeslotTemplate.{TimeslotTemplate}
use Rattle.eb_record_spec.specs.declared.Link.{Link}
use Rattle.eb_record_spec.specs.declared.Slotframe.{Slotframe}
use Rattle.eb_record_spec.specs.declared.JoiningInformation.{JoiningInformation}
use Rattle.eb_write_spec.specs.Frame.{sequence_bytes, address_bytes, last_width, template_size, flag, joining_size}
use Rattle.eb_write_spec.specs.Limits.{all_of, all_below, sequence_fits, template_fits, link_fits, link_unused, slotframe_fits, proxy_fits, present_fits, absent_fits, joining_fits}
use Rattle.eb_write_spec.proofs.LengthLaws.{length_le}
use Rattle.eb_grammar_spec.specs.Row.{le, be, bits}
use Rattle.eb_grammar_spec.specs.Grammar.{SequenceBytes, numbered, suppressed, AddressBytes, short_address, extended_address, FixedFields, fixed_fields, TimeslotContent, id_alone, timed_25, timed_27, Links, no_links, one_link, SlotframeContent, slotframe, JoiningContent, absent, joining}
use Rattle.eb_grammar_spec.proofs.Rowed.{total, row_length}
use Rattle.eb_grammar_spec.proofs.Joined.{nothing}
use Rattle.eb_round_trip_spec.proofs.AllBytes.{All, parts, first_byte, behind_byte, below_all, le_small, be_small, Bounded, row_bounded, bounded_take, row_entry, Each, weights, also, all_blank}

-- ---- what stands before the elements
pub sequence_fits_lem : (k : ℕ) (xs : List ℕ) (n : SequenceNumber) → SequenceBytes k xs n → All xs → (sequence_fits n ≡ true) × (length xs ≡ length (sequence_bytes n))
unfolding sequence_fits sequence_bytes
sequence_fits_lem _ _ _ (numbered n) all = (lt-ltb _ _ (first_byte all), sym (length_le 1 n))
sequence_fits_lem _ _ _ suppressed all = (refl, refl)

pub address_fits_lem : (m : ℕ) (xs : List ℕ) (a : Address) → AddressBytes m xs a → All xs → (address_fits a ≡ true) × (length xs ≡ length (address_bytes a))
unfolding address_fits address_bytes
address_fits_lem _ _ _ (short_address xs e) all = (lt-ltb _ _ (rw e at (le_small xs all)), e ∙ sym (length_le 2 (le xs)))
address_fits_lem _ _ _ (extended_address xs e) all = (lt-ltb _ _ (rw e at (le_small xs all)), e ∙ sym (length_le 8 (le xs)))

pub record FieldsFit (size : ℕ) (n : SequenceNumber) (p : ℕ) (a : Address) : Type 0 where
  pub sequence : sequence_fits n ≡ true
  pub pan : ltb p (2 ^ 16) ≡ true
  pub source : address_fits a ≡ true
  pub long : size ≡ 6 + length (sequence_bytes n) + length (address_bytes a)

pub fields_fit : (xs : List ℕ) (n : SequenceNumber) (p : ℕ) (a : Address) → FixedFields xs n p a → All xs → FieldsFit (length xs) n p a
fields_fit _ _ _ _ (fixed_fields l h p q {sequence} {source} c n-says a-says) all =
    let cut = parts sequence (p ∷ q ∷ 255 ∷ 255 ∷ source) (behind_byte (behind_byte all)) in
    let pan = parts (p ∷ q ∷ []) (255 ∷ 255 ∷ source) cut.1 in
    let n = sequence_fits_lem _ _ _ n-says cut.0 in
    let a = address_fits_lem _ _ _ a-says (behind_byte (behind_byte pan.1)) in
    record { sequence = n.0; pan = lt-ltb _ _ (le_small (p ∷ q ∷ []) pan.0); source = a.0; long = omega (arith, length-append sequence (p ∷ q ∷ 255 ∷ 255 ∷ source), n.1, a.1) }

-- ---- timeslot: a timing of two bytes is written in two
pub record TemplateFits (size : ℕ) (t : TimeslotTemplate) : Type 0 where
  pub within : template_fits t ≡ true
  pub sized : length t.timings ≡ 12
  pub most : template_size t ≤ size

width_most : (ns : List ℕ) → last_width ns ≤ 3
unfolding last_width
width_most [] = omega arith
width_most (n ∷ ns) = either_lt (λ (width : ℕ). width ≤ 3) _ _ (width_most ns) (omega arith) _ _

narrow : (n m : ℕ) → n < 256 ^ 2 → m < 256 ^ 2 → last_width (n ∷ m ∷ []) ≤ 2
unfolding last_width
narrow n m h k = let two : 2 ≡ last_width (n ∷ m ∷ []) = if_lt_lem _ _ n 65536 h (if_lt_lem _ _ m 65536 k refl) in omega (arith, two)

timed_fits : (w : ℕ) → ((n : ℕ) → n < 256 ^ w → n < 2 ^ 24) → ((n m : ℕ) → n < 256 ^ w → m < 256 ^ w → last_width (n ∷ m ∷ []) ≤ w) → (id : ℕ) (ts : List ℕ) → id < 256 → Bounded (replicate 10 2 ++ (w ∷ w ∷ [])) ts
    → TemplateFits (21 + 2 * w) (record { id = id; timed = true; timings = ts })
unfolding template_fits template_size if_on all_below all_of
timed_fits w small most id ts byte b =
    let first = bounded_take 2 (w ∷ w ∷ []) 10 ts b in
    let n = first.1.0 in
    let m = first.1.4.0 in
    let two : drop 10 ts ≡ n ∷ m ∷ [] = first.1.2 ∙ ap (λ (l : List ℕ). n ∷ l) (first.1.4.2 ∙ ap (λ (l : List ℕ). m ∷ l) first.1.4.4) in
    record {
      within = also (lt-ltb _ _ byte) (also first.0 (rw two (also (lt-ltb _ _ (small n first.1.3)) (also (lt-ltb _ _ (small m first.1.4.3)) refl))));
      sized = first.2 ∙ rw two (omega arith);
      most = rw two (omega (arith, most n m first.1.3 first.1.4.3));
    }

pub template_fits_lem : (c : List ℕ) (t : TimeslotTemplate) → TimeslotContent c t → All c → TemplateFits (length c) t
unfolding template_fits template_size if_on all_below all_of total
template_fits_lem _ _ id_alone all = record { within = refl; sized = refl; most = omega arith }
template_fits_lem _ _ (timed_25 id {bytes} {timings} row) all =
    rw (row_length [] _ bytes _ row) (timed_fits 2 (λ n h. omega (arith, h)) narrow id timings (first_byte all) (row_bounded _ _ _ row (behind_byte all)))
template_fits_lem _ _ (timed_27 id {bytes} {timings} row) all =
    rw (row_length [] _ bytes _ row) (timed_fits 3 (λ n h. h) (λ n m h k. width_most (n ∷ m ∷ [])) id timings (first_byte all) (row_bounded _ _ _ row (behind_byte all)))

-- ---- slotframe and link
links_fit : (size : ℕ) (xs : List ℕ) (ls : List Link) → Links size xs ls → All xs → (all_of (link_fits size) ls ≡ true) × (length xs ≡ 5 * length ls)
unfolding all_of link_fits total
links_fit size _ _ no_links all = (refl, refl)
links_fit size _ _ (one_link timeslot offset options {bytes} {rest} {links} row below lks) all =
    let cut = parts bytes rest all in
    let go = links_fit size rest links lks cut.1 in
    let in_row = row_entry _ _ _ row cut.0 in
    (also (also (lt-ltb _ _ below) (also (lt-ltb _ _ (in_row 1)) (lt-ltb _ _ (in_row 2)))) go.0, length-append bytes rest ∙ omega (arith, row_length [] _ bytes _ row, go.1))

pub record SlotframeFits (size : ℕ) (f : Slotframe) : Type 0 where
  pub within : slotframe_fits f ≡ true
  pub sized : length f.links ≡ 16
  pub long : size ≡ 5 + 5 * f.count

pub slotframe_fits_lem : (c : List ℕ) (f : Slotframe) → SlotframeContent c f → All c → SlotframeFits (length c) f
unfolding slotframe_fits link_unused total
slotframe_fits_lem _ _ (slotframe handle size {head} {body} links row lks some_size some few) all =
    let cut = parts head body all in
    let in_row = row_entry _ _ _ row cut.0 in
    let fit = links_fit size body links lks cut.1 in
    let blank : List Link = replicate (16 - length links) blank_link in
    let short : length links < 17 = omega arith in
    let used : all_of (link_fits size) (take (length links) (links ++ blank)) ≡ true = rw (take_at links blank (length links) refl) fit.0 in
    let unused : all_of link_unused (drop (length links) (links ++ blank)) ≡ true = rw (drop_at links blank (length links) refl) (all_blank link_unused (16 - length links) blank_link refl) in
    record {
      within = also (lt-ltb _ _ (in_row 1)) (also (lt-ltb _ _ some_size) (also (lt-ltb _ _ (in_row 2)) (also (lt-ltb _ _ some) (also (lt-ltb _ _ short)
          (also used unused)))));
      sized = length-append links blank ∙ omega (arith, length-replicate (16 - length links) blank_link, few);
      long = length-append head body ∙ omega (arith, row_length [] _ head _ row, fit.1);
    }

-- ---- joining information
pub record JoiningFits (cs : List (List ℕ)) (j : JoiningInformation) : Type 0 where
  pub within : joining_fits j ≡ true
  pub sized : length j.network ≡ 16
  pub most : if_on j.present (2 + joining_size j) 0 ≤ weights 3 cs

flag_most : (bit : ℕ) → flag (eqb bit 1) ≤ bit
unfolding if_on
flag_most bit = by_test (eqb bit 1) (λ t. rw t (omega (arith, eqb-true bit 1 t))) (λ t. rw t (omega arith))

proxy_fits_lem : (bit : ℕ) (xs : List ℕ) → bit < 2 → length xs ≡ 8 * bit → All xs → if_on (eqb bit 1) (ltb (be xs) (2 ^ 64)) (eqb (be xs) 0) ≡ true
unfolding if_on
proxy_fits_lem bit xs two e all =
    by_test (eqb bit 1)
    (λ t. let eight : length xs ≡ 8 = omega (arith, e, eqb-true bit 1 t) in rw t (lt-ltb _ _ (rw eight at (be_small xs all))))
    (λ t. let not : bit ≡ 1 → ⊥ = eqb-false bit 1 t in rw t (eq-eqb _ _ (nothing xs (omega (arith, e, not, two)))))

pub joining_fits_lem : (cs : List (List ℕ)) (j : JoiningInformation) → JoiningContent cs j → Each cs → JoiningFits cs j
unfolding joining_fits present_fits absent_fits proxy_fits joining_size if_on all_below all_of
joining_fits_lem _ _ absent all = record { within = refl; sized = refl; most = omega arith }
joining_fits_lem _ _ (joining word address network four eight few) (all, _) =
    let cut = parts word (address ++ network) all in
    let cut' = parts address network cut.1 in
    let n : ℕ = be word in
    let blank : List ℕ = replicate (16 - length network) 0 in
    let short : length network < 17 = omega arith in
    let used : all_below 256 (take (length network) (network ++ blank)) ≡ true = rw (take_at network blank (length network) refl) (below_all network cut'.1) in
    let unused : all_below 1 (drop (length network) (network ++ blank)) ≡ true = rw (drop_at network blank (length network) refl) (all_blank (λ (k : ℕ). ltb k 1) (16 - length network) 0 refl) in
    record {
      within = also (lt-ltb _ _ (mod-lt (n / 2 ^ 20) {m = 128} (lit< tt))) (also (lt-ltb _ _ (mod-lt (n / 2 ^ 8) {m = 4096} (lit< tt))) (also (lt-ltb _ _ (mod-lt (n / 1) {m = 256} (lit< tt)))
          (also (proxy_fits_lem (bits 30 1 n) address (mod-lt (n / 2 ^ 30) {m = 2} (lit< tt)) eight cut'.0) (also (lt-ltb _ _ short)
          (also used unused)))));
      sized = length-append network blank ∙ omega (arith, length-replicate {A = ℕ} (16 - length network) 0, few);
      most = omega (arith, flag_most (bits 30 1 n), four, eight, length-append word (address ++ network), length-append address network);
    }
