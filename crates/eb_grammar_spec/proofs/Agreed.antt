-- The grammar and reading agree: what reading accepts is of the grammar, and a frame of the grammar is accepted, with the same record. Assumes nothing.
use Prim.Native.Nat.{ℕ, ◌+◌, ◌-◌, ◌≤◌}
use mathlib.Core.Path.{◌≡◌, refl, sym, ◌∙◌, ap, subst}
use mathlib.Core.List.{List, [], ◌∷◌, ◌++◌}
use mathlib.Core.Logic.{inl, inr}
use native.Mathlib.Omega.{arith}
use lib.ListN.{length}
use Rattle.octets_spec.proofs.ChoiceLaws.{if_ne_lem}
use Rattle.eb_record_spec.specs.Record.{blank_joining}
use Rattle.eb_record_spec.specs.declared.Beacon.{Beacon}
use Rattle.mac_header_spec.specs.Fields.{mac_header_of}
use Rattle.ie_verdict_spec.specs.Verdict.{part_fault}
use Rattle.ie_walk_spec.specs.Walk.{HeaderList, blank_walk, skipped_over, header_list}
use Rattle.ie_walk_spec.specs.declared.Walk.{Walk}
use Rattle.ie_walk_spec.specs.declared.HeaderListEnd.{HeaderListEnd}
use Rattle.ie_walk_spec.proofs.ListLaws.{header_start, payload_is}
use Rattle.eb_read_spec.specs.Decode.{joining_at, decoded}
use Rattle.eb_read_spec.proofs.DecodeLaws.{decodes, joining_absent}
use Rattle.eb_read_spec.specs.Claims.{Bytes}
use Rattle.eb_read_spec.specs.Read.{walk_start, skipped_before, behind_header, elements_walk, missing, walk_number, examined, read_frame}
use Rattle.eb_read_spec.specs.Policy.{mac_header_fault}
use Rattle.eb_read_spec.specs.Read.{Examination}
use Rattle.eb_read_spec.specs.Read.{ReadAnswer}
use Rattle.eb_read_spec.proofs.Each.{each_eq}
use Rattle.eb_read_spec.proofs.Claimed.{number_of}
use Rattle.eb_read_spec.proofs.Accepted.{Required, accepted_required, accepted_decoded}
use Rattle.eb_read_spec.proofs.ReadLaws.{header_and_payload, elements_are, faultless, examined_walk, read_done}
use Rattle.eb_grammar_spec.proofs.Stands.{Stands}
use Rattle.eb_grammar_spec.specs.Grammar.{contents, JoiningContent, absent, Accepts}
use Rattle.eb_grammar_spec.specs.Claims.{Sound, Complete, Unambiguous, RefusedSaysNothing}
use Rattle.eb_grammar_spec.proofs.Unique.{accepted_by}
use Rattle.eb_grammar_spec.proofs.Notes.{unseen, One, Kept, Notes, notes_none, notes_before}
use Rattle.eb_grammar_spec.proofs.SoundLists.{OuterGives, payload_sound, HeaderGives, header_sound}
use Rattle.eb_grammar_spec.proofs.CompleteLists.{Fine, Allowed, Allows, OuterPasses, outers_pass, HeaderPasses, header_passes}
use Rattle.eb_grammar_spec.proofs.Synchronized.{sync_fine, sync_value, sync_says, hopping_some, hopping_fine}
use Rattle.eb_grammar_spec.proofs.Timed.{timeslot_fine, timeslot_value, timeslot_says}
use Rattle.eb_grammar_spec.proofs.Linked.{slotframe_fine, slotframe_value, slotframe_says}
use Rattle.eb_grammar_spec.proofs.Joined.{single, no_entry, joining_says, joining_fine, joining_value}
use Rattle.eb_grammar_spec.proofs.Opened.{Opens, opens_of, OpeningSays, opening_says}

-- ---- sound
module _ (s : List ℕ) (bytes : Bytes s) where
  -- what the header list gives, and what the payload list behind it does
  abbrev Found-in : ℕ → Walk → Type 0
  Found-in at w = HeaderGives s bytes at (length s) (header_list s at (length s)) × OuterGives s bytes (header_list s at (length s)).payload (length s) [] w

  elements_sound : (at : ℕ) → (elements_walk s at (length s)).fault ≡ 0 → ((elements_walk s at (length s)).synchronization ≡ 0 → ⊥) → Found-in at (elements_walk s at (length s))
  unfolding elements_walk behind_header walk_start blank_walk skipped_over skipped_before
  elements_sound at =
      let head : HeaderList = header_list s at (length s) in
      let P : Walk → Type 0 = λ w. w.fault ≡ 0 → (w.synchronization ≡ 0 → ⊥) → Found-in at w in
      each_eq P _ _ head.fault 0
      (λ good. each_eq P _ _ head.payload 0 (λ none fine some. absurd (some refl))
      (λ follows fine some.
      let h = header_sound s bytes at (length s) follows in
      let o = payload_sound s bytes head.payload (length s) h.within (omega arith) fine in
      (h, record { more = o.more; list = o.list; notes = o.notes })))
      (λ bad fine some. absurd (some refl))

  -- an examination without a fault: the MAC header passes, and its walk is that of the elements
  examined_says : (examined s).number ≡ 0 → (mac_header_fault s ≡ 0) × (elements_walk s (mac_header_of s).elements (mac_header_of s).end ≡ (examined s).walk) × (walk_number (examined s).walk ≡ 0)
  unfolding examined
  examined_says =
      each_eq (λ (x : Examination). x.number ≡ 0 → (mac_header_fault s ≡ 0) × (elements_walk s (mac_header_of s).elements (mac_header_of s).end ≡ x.walk) × (walk_number x.walk ≡ 0)) _ _ (mac_header_fault s) 0
      (λ good e. (good, refl, e)) (λ bad e. absurd (bad e))

  no_fault : (w : Walk) → walk_number w ≡ 0 → w.fault ≡ 0
  unfolding walk_number
  no_fault w = each_eq (λ (n : ℕ). n ≡ 0 → w.fault ≡ 0) _ _ w.fault 0 (λ good e. good) (λ bad e. e)

  one_of : (k p e : ℕ) (cs : List (List ℕ)) → Kept s k p e cs → (p ≡ 0 → ⊥) → One s k p e cs
  one_of k p e cs (inl none) some = absurd (some none.0)
  one_of k p e cs (inr one) some = one

  passed : (k p e : ℕ) (cs : List (List ℕ)) (one : One s k p e cs) → part_fault s k p (p + length one.content) unseen ≡ 0
  passed k p e cs one = rw one.ends at one.passed

  joining_of : (p e : ℕ) (cs : List (List ℕ)) → Kept s 258 p e cs → JoiningContent cs (joining_at s p e)
  joining_of p e cs (inl none) = rw none.1 (subst (λ j. JoiningContent [] j) (joining_absent s p e blank_joining refl none.0) absent)
  joining_of p e cs (inr one) = rw (one.only, one.ends) (joining_says s bytes p one.content one.stands (passed 258 p e cs one) one.some)

  accepts : (w : Walk) → length s ≤ 125 → OpeningSays s → Found-in (mac_header_of s).elements w → Required w → Accepts s (decoded s w)
  unfolding decoded
  accepts w short o f r =
      let n = f.1.notes in
      let sync = one_of 26 _ _ _ n.synchronization.1 r.synchronization in
      let time = one_of 28 _ _ _ n.timeslot r.timeslot in
      let hop = one_of 137 _ _ _ n.hopping.1 r.hopping in
      let slot = one_of 27 _ _ _ n.slotframe.1 r.slotframe in
      let long : w.timeslotend - w.timeslot ≡ length time.content = omega (arith, time.ends) in
      accepted_by short (o.frame ∙ ap (λ (xs : List ℕ). o.fields ++ xs) f.0.splits) o.says f.0.skips f.0.follows f.1.list (record {
        synchronization = (sync.content, sync.only, sync_says s _ sync.content sync.stands (passed 26 _ _ _ sync));
        timeslot = (time.content, time.only, rw long (timeslot_says s _ time.content time.stands (passed 28 _ _ _ time)));
        hopping = (hop.content, hop.only, hopping_some s _ hop.content hop.stands (passed 137 _ _ _ hop));
        slotframe = (slot.content, slot.only, slotframe_says s _ slot.content slot.stands (passed 27 _ _ _ slot));
        joining = joining_of _ _ _ n.joining;
      })

pub sound : Sound
sound s b bytes e =
    let number : (read_frame s).number ≡ 0 = ap (λ (r : ReadAnswer). r.number) e in
    let x = examined_says s bytes (sym (number_of s) ∙ number) in
    let required = accepted_required s number in
    let opening = opening_says s bytes x.0 in
    let w : Walk = (examined s).walk in
    let there : Found-in s bytes (mac_header_of s).elements w =
    subst (λ (v : Walk). v.fault ≡ 0 → (v.synchronization ≡ 0 → ⊥) → Found-in s bytes (mac_header_of s).elements v) (ap (λ (end : ℕ). elements_walk s (mac_header_of s).elements end) opening.1.ends ∙ x.1) (elements_sound s bytes (mac_header_of s).elements) (no_fault s bytes w x.2) required.synchronization in
    subst (λ (r : Beacon). Accepts s r) (accepted_decoded s number ∙ ap (λ (r : ReadAnswer). r.beacon) e) (accepts s bytes w opening.0 opening.1 there required)

-- ---- complete
module _ (s : List ℕ) (b : Beacon) (bytes : Bytes s) (a : Accepts s b) where
  opening : Opens s b.sequence b.pan b.source (a.header ++ (a.low ∷ a.high ∷ a.payload))
  opening = opens_of s a.at_most_125 a.fields (a.header ++ (a.low ∷ a.high ∷ a.payload)) b.sequence b.pan b.source a.opens a.stands

  abbrev at : ℕ
  at = opening.place

  hopping_once : contents 137 a.found ≡ (b.hopping ∷ []) ∷ []
  hopping_once = a.says.hopping.1 ∙ ap (λ (c : List ℕ). c ∷ []) a.says.hopping.2

  heading : HeaderPasses s a.payload at (length s)
  heading = header_passes s a.payload a.low a.high a.follows at (length s) a.header a.skips at 0 opening.stands opening.ends (header_start s at (length s))

  allowed : (k : ℕ) (c : List ℕ) → contents k a.found ≡ c ∷ [] → Fine s k c → Allowed s k a.found
  allowed k c only fine d before after e =
      let one = single c d before after (sym only ∙ e) in
      (one.0, subst (λ xs. Fine s k xs) one.1 fine)

  allows : Allows s a.found
  allows = record {
    synchronization = allowed 26 a.says.synchronization.0 a.says.synchronization.1 (λ from h. sync_fine s from a.says.synchronization.0 h _ _ a.says.synchronization.2);
    timeslot = allowed 28 a.says.timeslot.0 a.says.timeslot.1 (λ from h. timeslot_fine s from a.says.timeslot.0 b.timeslot a.says.timeslot.2 h);
    hopping = allowed 137 (b.hopping ∷ []) hopping_once (λ from h. hopping_fine s from b.hopping);
    slotframe = allowed 27 a.says.slotframe.0 a.says.slotframe.1 (λ from h. slotframe_fine s from a.says.slotframe.0 b.slotframe a.says.slotframe.2 h);
    joining = joining_fine s bytes (contents 258 a.found) b.joining a.says.joining;
  }

  abbrev head : HeaderListEnd
  head = record { fault = 0; faulty = 0; skipped = heading.count; payload = heading.place }

  passing : OuterPasses s heading.place (length s) blank_walk a.found
  unfolding blank_walk
  passing = outers_pass s a.payload a.found a.lists heading.place (length s) blank_walk [] heading.stands heading.ends (notes_none s) allows refl (omega arith)

  abbrev w : Walk
  w = skipped_before heading.count passing.walk

  walk_is : w ≡ elements_walk s (mac_header_of s).elements (mac_header_of s).end
  walk_is =
      rw (← opening.reading.place_is, ← opening.reading.end_is)
      (elements_are s at (length s) head w heading.is
      (header_and_payload s (length s) head refl passing.walk w heading.some (payload_is s heading.place (length s) blank_walk refl passing.walk (omega (arith, heading.ends)) passing.is) refl))

  good : w.fault ≡ 0
  unfolding skipped_before
  good = passing.good

  -- each required element is noted
  noted : (k p e : ℕ) (c : List ℕ) → contents k a.found ≡ c ∷ [] → Kept s k p e (contents k a.found) → (p ≡ 0 → ⊥) × Stands s p c × (e ≡ p + length c)
  noted k p e c only (inl none) = absurd (no_entry c [] [] (sym none.1 ∙ only))
  noted k p e c only (inr one) =
      let same : one.content ≡ c = (single one.content c [] [] (sym one.only ∙ only)).1 in
      (one.some, rw same at one.stands, rw same at one.ends)

  -- so none is missing, and what is noted decodes to the record
  decodes_it : (0 ≡ missing w) × (b ≡ decoded s w)
  unfolding missing Stands
  decodes_it =
      let n : Notes s w a.found = notes_before s passing.walk heading.count a.found passing.notes in
      let sync = noted 26 _ _ a.says.synchronization.0 a.says.synchronization.1 n.synchronization.1 in
      let time = noted 28 _ _ a.says.timeslot.0 a.says.timeslot.1 n.timeslot in
      let hop = noted 137 _ _ (b.hopping ∷ []) hopping_once n.hopping.1 in
      let slot = noted 27 _ _ a.says.slotframe.0 a.says.slotframe.1 n.slotframe.1 in
      let long : length a.says.timeslot.0 ≡ w.timeslotend - w.timeslot = omega (arith, time.2) in (
        if_ne_lem _ _ _ _ sync.0 (if_ne_lem _ _ _ _ time.0 (if_ne_lem _ _ _ _ hop.0 (if_ne_lem _ _ _ _ slot.0 refl))),
        decodes s w b.sequence b.pan b.source b.synchronization b.timeslot (length a.says.timeslot.0) b.hopping b.slotframe b.joining opening.reading.sequence_is opening.reading.pan_is
            opening.reading.source_is (sync_value s _ a.says.synchronization.0 sync.1 _ _ a.says.synchronization.2) long
            (timeslot_value s _ a.says.timeslot.0 b.timeslot a.says.timeslot.2 time.1) (sym hop.1.0) (slotframe_value s _ a.says.slotframe.0 b.slotframe a.says.slotframe.2 slot.1)
            (joining_value s bytes _ b.joining a.says.joining _ _ n.joining),
      )

  reads : ◌≡◌ {A = ReadAnswer} (record { number = 0; beacon = b }) (read_frame s)
  reads =
      let x : ◌≡◌ {A = Examination} (record { number = 0; walk = w }) (examined s) = examined_walk s 0 opening.fine w 0 refl walk_is (faultless w 0 good decodes_it.0) in
      read_done s (record { number = 0; walk = w }) x b refl decodes_it.1

pub complete : Complete
complete s b bytes a = sym (reads s b bytes a)

-- ---- what follows
pub unambiguous : Unambiguous
unambiguous s a b bytes one other = ap (λ (r : ReadAnswer). r.beacon) (sym (complete s a bytes one) ∙ complete s b bytes other)

pub refused_says_nothing : RefusedSaysNothing
refused_says_nothing s bytes = (
  λ refused b a. refused (ap (λ (r : ReadAnswer). r.number) (complete s b bytes a)),
  λ nothing done. nothing (read_frame s).beacon (sound s (read_frame s).beacon bytes (λ i. record { number = done i; beacon = (read_frame s).beacon })),
)
