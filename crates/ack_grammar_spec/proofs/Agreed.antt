-- The grammar and reading agree: what reading accepts is of the grammar, and a frame of the grammar is accepted, with the same record. Assumes nothing.
use Prim.Native.Nat.{ℕ, ◌-◌, ◌%◌, ◌<◌}
use mathlib.Core.Path.{◌≡◌, refl, sym, ◌∙◌, ap, subst}
use mathlib.Core.Bool.{Bool}
use mathlib.Core.List.{List, [], ◌∷◌, ◌++◌}
use mathlib.Core.Logic.{⊎_elim}
use native.Mathlib.Omega.{arith}
use borrow.Author.Tests.{lt-ltb}
use lib.IntN.{ℤ, pos, negsuc}
use lib.ListN.{length}
use Rattle.octets_spec.specs.Number.{le_at}
use Rattle.octets_spec.proofs.ChoiceLaws.{if_lt_lem, if_ge, by_lt}
use Rattle.mac_header_spec.specs.Fields.{mac_header_of}
use Rattle.ie_walk_spec.specs.Walk.{header_list}
use Rattle.eb_read_spec.specs.Claims.{Bytes}
use Rattle.eb_read_spec.proofs.Each.{each_eq}
use Rattle.eb_grammar_spec.specs.Row.{bits}
use Rattle.eb_grammar_spec.specs.Grammar.{contents}
use Rattle.eb_grammar_spec.proofs.Stands.{Stands}
use Rattle.eb_grammar_spec.proofs.Slices.{part, le_part, le_stands}
use Rattle.ack_record_spec.specs.declared.Ack.{Ack}
use Rattle.ack_read_spec.specs.Policy.{mac_header_fault}
use Rattle.ack_read_spec.specs.Read.{found_in, correction_of, nack_of, ack_from, found_of, ack_number, read_ack}
use Rattle.ack_read_spec.specs.Read.{Found}
use Rattle.ack_read_spec.specs.Read.{AckAnswer}
use Rattle.ack_read_spec.proofs.ReadLaws.{number_of, number_among, read_done}
use Rattle.ack_read_spec.proofs.Claimed.{accepted_says}
use Rattle.ack_read_spec.proofs.FoundLaws.{found_start}
use Rattle.ack_grammar_spec.specs.Grammar.{elements_of, signed, CorrectionContent, correction, Accepts}
use Rattle.ack_grammar_spec.specs.Claims.{Sound, Complete, Unambiguous, RefusedSaysNothing}
use Rattle.ack_grammar_spec.proofs.Opened.{Opens, opens_of, OpeningSays, opening_says}
use Rattle.ack_grammar_spec.proofs.Lists.{Gives, list_sound, before, found_some}

-- ---- the content of a correction
-- bit 11 counts for -2048 exactly where the number from 2048 on is less 4096
pub signed_is : (word : ℕ) → signed word ≡ correction_of word
unfolding correction_of
signed_is word =
    by_lt (word % 4096) 2048
    (λ low.
    let zero : bits 11 1 word ≡ 0 = omega arith in
    let all : bits 0 11 word ≡ word % 4096 = omega arith in
    if_lt_lem _ _ (word % 4096) 2048 low (rw (zero, all) (ap pos (omega arith))))
    (λ high.
    let one : bits 11 1 word ≡ 1 = omega arith in
    let rest : bits 0 11 word ≡ word % 4096 - 2048 = omega arith in
    let less : word % 4096 < 4096 = omega arith in
    if_ge _ _ (word % 4096) 2048 high (rw (one, rest, lt-ltb (word % 4096 - 2048) 2048 (omega arith), lt-ltb (word % 4096) 4096 less) (ap negsuc (omega arith))))

content_says : (s : List ℕ) (r : ℕ) → CorrectionContent (part s r 2) (correction_of (le_at 2 s r)) (nack_of (le_at 2 s r))
unfolding part nack_of
content_says s r = rw (← signed_is (le_at 2 s r), ← le_part s 2 r) (correction _ _)

content_reads : (s : List ℕ) (r : ℕ) (c : List ℕ) (z : ℤ) (b : Bool) → CorrectionContent c z b → Stands s r c → (length c ≡ 2) × (z ≡ correction_of (le_at 2 s r)) × (b ≡ nack_of (le_at 2 s r))
unfolding nack_of
content_reads s r _ _ _ (correction low high) h = let word = le_stands s r (low ∷ high ∷ []) h in (refl, signed_is _ ∙ ap correction_of word, rw word refl)

-- ---- sound
module _ (s : List ℕ) (bytes : Bytes s) (accepted : (read_ack s).number ≡ 0) where
  number : ack_number s ≡ 0
  number = sym (number_of s) ∙ accepted

  found_good : (found_of s).number ≡ 0
  unfolding ack_number
  found_good = each_eq (λ (n : ℕ). n ≡ 0 → (found_of s).number ≡ 0) _ _ (mac_header_fault s) 0 (λ good e. e) (λ bad e. absurd (bad e)) number

  abbrev r : ℕ
  r = (found_of s).at

  opening : OpeningSays s
  opening = opening_says s bytes 0 (accepted_says s accepted) refl

  gives : Gives s bytes (mac_header_of s).elements (mac_header_of s).end 0 r
  unfolding found_of
  gives = list_sound s bytes (mac_header_of s).elements (mac_header_of s).end found_good

  some : r ≡ 0 → ⊥
  unfolding found_of
  some = found_some (header_list s (mac_header_of s).elements (mac_header_of s).end) 0 found_good

  once : contents 30 (elements_of gives.lists) ≡ part s r 2 ∷ []
  once = ⊎_elim (λ none. absurd (some (sym none.0))) (λ one. one.1) gives.noted

  -- what reading gives is said
  said : Accepts s (ack_from (mac_header_of s) (le_at 2 s r))
  unfolding ack_from
  said = record {
    fields = opening.fields;
    header = gives.header;
    rest = gives.rest;
    at_most_125 = opening.short;
    stands = opening.frame ∙ ap (λ (xs : List ℕ). opening.fields ++ xs) (ap (λ (end : ℕ). part s (mac_header_of s).elements (end - (mac_header_of s).elements)) opening.ends ∙ gives.splits);
    opens = opening.says;
    lists = gives.lists;
    ends = gives.ends;
    says = (part s r 2, once, content_says s r);
  }

pub sound : Sound
sound s ack bytes e =
    let accepted : (read_ack s).number ≡ 0 = ap (λ (x : AckAnswer). x.number) e in
    let is : ack_from (mac_header_of s) (le_at 2 s (found_of s).at) ≡ ack = ap (λ (x : AckAnswer). x.ack) (read_done s _ (sym (number s bytes accepted)) refl ∙ e) in
    subst (Accepts s) is (said s bytes accepted)

-- ---- complete
module _ (s : List ℕ) (ack : Ack) (a : Accepts s ack) where
  opened : Opens s ack.sequence ack.pan ack.destination ack.source (a.header ++ a.rest)
  opened = opens_of s a.at_most_125 a.fields (a.header ++ a.rest) ack.sequence ack.pan ack.destination ack.source a.opens a.stands

  two : length a.says.0 ≡ 2
  two = of a.says.2
    where
      of : {c : List ℕ} {z : ℤ} {b : Bool} → CorrectionContent c z b → length c ≡ 2
      of (correction low high) = refl

  there : (r : ℕ) × (record { number = 0; at = r } ≡ found_in (header_list s opened.place (length s)) 0) × Stands s r a.says.0
  there = before s opened.place (length s) a.header a.rest a.lists a.ends opened.place a.says.0 opened.stands opened.ends a.says.1 two (found_start s opened.place (length s))

  found_is : record { number = 0; at = there.0 } ≡ found_of s
  unfolding found_of
  found_is = rw (← opened.reading.place_is, ← opened.reading.end_is) there.1

  ack_is : ack ≡ ack_from (mac_header_of s) (le_at 2 s (found_of s).at)
  unfolding ack_from
  ack_is =
      let r = opened.reading in
      let c = content_reads s there.0 a.says.0 ack.correction ack.nack a.says.2 there.2 in
      rw (← found_is, ← r.sequence_is, ← r.pan_is, ← r.to_is, ← r.from_is, ← c.1, ← c.2) refl

  reads : record { number = 0; ack = ack } ≡ read_ack s
  reads = read_done s ack (number_among s 0 opened.fault 0 refl (ap (λ (f : Found). f.number) found_is)) ack_is

pub complete : Complete
complete s ack bytes a = sym (reads s ack a)

-- ---- what follows
pub unambiguous : Unambiguous
unambiguous s a b bytes one other = ap (λ (x : AckAnswer). x.ack) (sym (complete s a bytes one) ∙ complete s b bytes other)

pub refused_says_nothing : RefusedSaysNothing
refused_says_nothing s bytes = (
  λ refused b a. refused (ap (λ (x : AckAnswer). x.number) (complete s b bytes a)),
  λ nothing done. nothing (read_ack s).ack (sound s (read_ack s).ack bytes (λ i. record { number = done i; ack = (read_ack s).ack })),
)
