-- The correction among the header elements: where reading finds it, the grammar has it, and the other way round. Assumes nothing.
use Prim.Native.Nat.{ℕ, zero, suc, ◌+◌, ◌-◌, ◌<◌, ◌≤◌}
use mathlib.Core.Path.{◌≡◌, refl, sym, ◌∙◌, ap, subst}
use mathlib.Core.List.{List, [], ◌∷◌, ◌++◌, append_assoc}
use mathlib.Core.Logic.{◌⊎◌, inl, inr}
use native.Mathlib.Omega.{arith}
use native.Mathlib.Nat.{not-suc-le-zero}
use lib.ListN.{length, get_or, drop, length-append}
use Rattle.octets_spec.proofs.ChoiceLaws.{if_eq_lem, if_ne_lem, by_eq, was_eq, was_ne}
use Rattle.refusal.specs.Refusal.{done, shape, missing_or_twice, number_of}
use Rattle.ie_step_spec.specs.Header.{header_at}
use Rattle.ie_step_spec.specs.declared.HeaderStep.{HeaderStep}
use Rattle.ie_step_spec.specs.declared.HeaderStep.TheVariants as header
use Rattle.ie_step_spec.proofs.StepLaws as steps
use Rattle.ie_walk_spec.specs.Walk.{HeaderElement, HeaderList, in_front, header_go, header_list}
use Rattle.eb_read_spec.specs.Claims.{Bytes}
use Rattle.eb_read_spec.proofs.Each.{each_eq}
use Rattle.eb_grammar_spec.specs.Grammar.{Descriptor, HeaderElements, header_end, header_element, Element, contents}
use Rattle.eb_grammar_spec.proofs.Stands.{Stands, stands_first, stands_rest}
use Rattle.eb_grammar_spec.proofs.Slices.{part, length_part, part_at, part_element}
use Rattle.eb_grammar_spec.proofs.SaidSteps.{HeaderSays, header_says}
use Rattle.eb_grammar_spec.proofs.StepsOf.{header_step, payload_step, header_end_step}
use Rattle.ack_read_spec.specs.Read.{element_fault, behind_element, found_among, found_in}
use Rattle.ack_read_spec.specs.Read.{Found}
use Rattle.ack_read_spec.proofs.FoundLaws.{element_other, element_first, FoundLeads, found_none, found_payload, found_correction, found_other}
use Rattle.ack_grammar_spec.specs.Grammar.{elements_of, ListEnd, bytes_end, termination_1, termination_2}

pub no_more : {x : List ℕ} {xs : List (List ℕ)} → x ∷ xs ≡ [] → ⊥
no_more z = let longer : ◌≡◌ {A = ℕ} (suc _) 0 = ap length z in omega (arith, longer)

-- ---- one element more in front of a list
module _ (id : ℕ) (content : List ℕ) (found : List Element) where
  abbrev one : Element
  one = record { kind = id; content = content }

  pub contents_is : id ≡ 30 → contents 30 (one ∷ found) ≡ content ∷ contents 30 found
  unfolding contents
  contents_is e = sym (if_eq_lem _ _ id 30 e refl)

  pub contents_other : (id ≡ 30 → ⊥) → contents 30 (one ∷ found) ≡ contents 30 found
  unfolding contents
  contents_other n = sym (if_ne_lem _ _ id 30 n refl)

-- an element without a fault: it is no correction, or it is the first and has two bytes
fault_says : (id from to f : ℕ) → element_fault (record { id = id; from = from; to = to }) f ≡ 0 → (id ≡ 30 → ⊥) ⊎ ((id ≡ 30) × (to - from ≡ 2) × (f ≡ 0))
unfolding element_fault
fault_says id from to f e =
    by_eq id 30
    (λ is.
    let two = was_eq _ _ 0 (to - from) 2 (if_eq_lem _ _ id 30 is refl ∙ e) (λ (z : shape ≡ done). omega arith) in
    let first = was_eq _ _ 0 f 0 two.1 (λ (z : missing_or_twice ≡ done). omega arith) in
    inr (is, two.0, first.0))
    (λ other. inl other)

-- where the content of a correction starts behind an element
module _ (id from to f : ℕ) where
  behind_other : (id ≡ 30 → ⊥) → behind_element (record { id = id; from = from; to = to }) f ≡ f
  unfolding behind_element
  behind_other apart = sym (if_ne_lem _ _ id 30 apart refl)

  behind_first : id ≡ 30 → behind_element (record { id = id; from = from; to = to }) f ≡ from
  unfolding behind_element
  behind_first is = sym (if_eq_lem _ _ id 30 is refl)

-- ---- sound
module _ (s : List ℕ) (bytes : Bytes s) where
  -- the corrections of a list, where one was found before it at `f` and its content starts at `r` in the end, 0 for none
  abbrev Noted : ℕ → ℕ → List (List ℕ) → Type 0
  Noted f r found = ((f ≡ r) × (found ≡ [])) ⊎ ((f ≡ 0) × (found ≡ part s r 2 ∷ []))

  pub record Gives (at end f r : ℕ) : Type 0 where
    pub header : List ℕ
    pub rest : List ℕ
    pub lists : HeaderElements header
    pub ends : ListEnd rest
    pub splits : part s at (end - at) ≡ header ++ rest
    pub noted : Noted f r (contents 30 (elements_of lists))

  -- a list ends here
  ending : (at end f : ℕ) (rest : List ℕ) → ListEnd rest → part s at (end - at) ≡ rest → Gives at end f f
  unfolding elements_of contents
  ending at end f rest ends is = record { header = []; rest = rest; lists = header_end; ends = ends; splits = is; noted = inl (refl, refl) }

  module _ (at end f id to r size : ℕ) (ends : to ≡ at + 2 + size) (fits : to ≤ end) (d : Descriptor 7 (get_or s at 0) (get_or s (at + 1) 0) size id 0) (not_126 : id ≡ 126 → ⊥) (not_127 : id ≡ 127 → ⊥) where
    abbrev c : List ℕ
    c = part s (at + 2) size

    described : Descriptor 7 (get_or s at 0) (get_or s (at + 1) 0) (length c) id 0
    described = rw (length_part s (at + 2) size) d

    -- behind an element the list goes on
    longer : (g : ℕ) (more : Gives to end g r) → (Noted g r (contents 30 (elements_of more.lists)) → Noted f r (contents 30 (record { kind = id; content = c } ∷ elements_of more.lists))) → Gives at end f r
    unfolding elements_of
    longer g more noted = record {
      header = get_or s at 0 ∷ get_or s (at + 1) 0 ∷ (c ++ more.header);
      rest = more.rest;
      lists = header_element (get_or s at 0) (get_or s (at + 1) 0) id c described not_126 not_127 more.lists;
      ends = more.ends;
      splits = part_element s at size to end ends fits ∙ ap (λ (xs : List ℕ). get_or s at 0 ∷ get_or s (at + 1) 0 ∷ xs) (ap (λ (xs : List ℕ). c ++ xs) more.splits ∙ sym (append_assoc c more.header more.rest));
      noted = noted more.noted;
    }

    -- which is no correction
    other : (id ≡ 30 → ⊥) → Gives to end f r → Gives at end f r
    other apart more = longer f more (λ noted. rw (contents_other id c (elements_of more.lists) apart) noted)

    -- or is the first
    first : id ≡ 30 → f ≡ 0 → size ≡ 2 → Gives to end (at + 2) r → Gives at end f r
    first is none two more = longer (at + 2) more (λ noted. rw (contents_is id c (elements_of more.lists) is) (of noted))
      where
        of : {cs : List (List ℕ)} → Noted (at + 2) r cs → Noted f r (c ∷ cs)
        of (inl (here, nothing)) = inr (none, rw (nothing, part_at s (at + 2) r size 2 here two) refl)
        of (inr (nowhere, some)) = absurd (omega (arith, nowhere))

  abbrev Sounds : ℕ → Type 0
  Sounds bound = (at end f : ℕ) → end - at < bound → (found_in (header_go bound s at end) f).number ≡ 0 → Gives at end f (found_in (header_go bound s at end) f).at

  -- one step, given the rest of the list
  step : (bound : ℕ) → Sounds bound → (at end f : ℕ) → end - at < suc bound → (o : HeaderStep) → header_at s at end ≡ o → HeaderSays o s at end → (found_in (header_go (suc bound) s at end) f).number ≡ 0
      → Gives at end f (found_in (header_go (suc bound) s at end) f).at
  unfolding header_go found_in found_among in_front part
  step bound go at end f enough header.End e (inl none) = rw (e, header_go) (λ good. let zero : end - at ≡ 0 = omega arith in ending at end f [] bytes_end (rw zero))
  step bound go at end f enough header.End e (inr (room, d)) = rw (e, header_go) (λ good. ending at end f _ (termination_2 _ _ _ d) (part_element s at 0 (at + 2) end (omega arith) room))
  step bound go at end f enough (header.Payload from) e (starts, room, d) = rw (e, header_go) (λ good. ending at end f _ (termination_1 _ _ _ d) (part_element s at 0 from end (omega (arith, starts)) room))
  step bound go at end f enough (header.Element id from to) e l =
      rw (e, header_go)
      (each_eq (λ (r : Found). r.number ≡ 0 → Gives at end f r.at) _ _ (element_fault (record { id = id; from = from; to = to }) f) 0
      (λ fine good. behind _ (fault_says id from to f fine) (go to end _ (omega (arith, l.ends, l.fits)) good))
      (λ bad good. absurd (bad good)))
    where
      behind : (r : ℕ) → (id ≡ 30 → ⊥) ⊎ ((id ≡ 30) × (to - from ≡ 2) × (f ≡ 0)) → Gives to end (behind_element (record { id = id; from = from; to = to }) f) r → Gives at end f r
      behind r (inl apart) more = other at end f id to r l.size l.ends l.fits l.says.0 l.says.1 l.says.2 apart (subst (λ (g : ℕ). Gives to end g r) (behind_other id from to f apart) more)
      behind r (inr (is, two, none)) more =
          first at end f id to r l.size l.ends l.fits l.says.0 l.says.1 l.says.2 is none (omega (arith, two, l.starts, l.ends)) (subst (λ (g : ℕ). Gives to end g r) (behind_first id from to f is ∙ l.starts) more)
  step bound go at end f enough (header.Fault refusal) e k = rw (e, header_go) (λ good. absurd (k (was_eq _ _ 0 (number_of refusal) 0 good (λ z. k z)).0))

  sounds : (bound : ℕ) → Sounds bound
  sounds zero at end f enough good = absurd (not-suc-le-zero enough)
  sounds (suc bound) at end f enough good = step bound (sounds bound) at end f enough (header_at s at end) refl (header_says s at bytes end) good

  pub list_sound : (at end : ℕ) → (found_in (header_list s at end) 0).number ≡ 0 → Gives at end 0 (found_in (header_list s at end) 0).at
  unfolding header_list
  list_sound at end = sounds (suc end) at end 0 (omega arith)

-- ---- complete
module _ (s : List ℕ) (start end : ℕ) where
  abbrev whole : Found
  whole = found_in (header_list s start end) 0

  -- the list ends behind a correction
  list_ends : (rest : List ℕ) → ListEnd rest → (at f : ℕ) → Stands s at rest → at + length rest ≡ end → (f ≡ 0 → ⊥) → FoundLeads s start end at f → record { number = 0; at = f } ≡ whole
  list_ends _ bytes_end at f h e some leads = found_none s start end at f header.End (steps.header_end s at end (omega (arith, e))) 0 refl (if_eq_lem _ _ 0 0 refl (if_ne_lem _ _ f 0 some refl)) leads
  list_ends _ (termination_1 a b ignored d) at f h e some leads =
      found_payload s start end at f (header.Payload (at + 2)) (payload_step s at end a b ignored h (omega (arith, e)) d) 0 (at + 2) refl (if_eq_lem _ _ 0 0 refl (if_ne_lem _ _ f 0 some refl)) leads
  list_ends _ (termination_2 a b ignored d) at f h e some leads =
      found_none s start end at f header.End (header_end_step s at end a b ignored h (omega (arith, e)) d) 0 refl (if_eq_lem _ _ 0 0 refl (if_ne_lem _ _ f 0 some refl)) leads

  -- an element and what stands behind it
  module _ (a b id at : ℕ) (content more rest : List ℕ) (d : Descriptor 7 a b (length content) id 0) (not_126 : id ≡ 126 → ⊥) (not_127 : id ≡ 127 → ⊥) (h : Stands s at ((a ∷ b ∷ (content ++ more)) ++ rest)) (e : at + length ((a ∷ b ∷ (content ++ more)) ++ rest) ≡ end) where
    abbrev next : ℕ
    next = at + 2 + length content

    split : Stands s at (a ∷ b ∷ (content ++ (more ++ rest)))
    split = rw (append_assoc content more rest) at h

    inside : Stands s (at + 2) content
    inside = stands_first s content (more ++ rest) (at + 2) (stands_rest s (a ∷ b ∷ []) (content ++ (more ++ rest)) at split)

    behind : Stands s next (more ++ rest)
    behind = stands_rest s content (more ++ rest) (at + 2) (stands_rest s (a ∷ b ∷ []) (content ++ (more ++ rest)) at split)

    ends_of : next + length (more ++ rest) ≡ end
    ends_of = omega (arith, e, length-append content more, length-append (content ++ more) rest, length-append more rest)

    abbrev o : HeaderStep
    o = header.Element id (at + 2) next

    is_step : o ≡ header_at s at end
    is_step = header_step s at end a b (content ++ (more ++ rest)) split (length content) (omega (arith, ends_of)) id d not_126 not_127

    passed_other : (f : ℕ) → (id ≡ 30 → ⊥) → FoundLeads s start end at f → FoundLeads s start end next f
    passed_other f apart leads = found_other s start end at f o is_step id (at + 2) next refl (omega arith, omega arith, omega (arith, ends_of)) 0 (element_other id (at + 2) next f apart) apart refl leads

    passed_first : id ≡ 30 → length content ≡ 2 → FoundLeads s start end at 0 → FoundLeads s start end next (at + 2)
    passed_first is two leads = found_correction s start end at 0 o is_step id (at + 2) next refl (omega arith, omega arith, omega (arith, ends_of)) 0 (element_first id (at + 2) next 0 is (omega (arith, two)) refl) is refl leads

  -- behind a correction there is no other
  after : (header rest : List ℕ) (lists : HeaderElements header) → ListEnd rest → (at f : ℕ) → Stands s at (header ++ rest) → at + length (header ++ rest) ≡ end → (f ≡ 0 → ⊥) → contents 30 (elements_of lists) ≡ [] → FoundLeads s start end at f
      → record { number = 0; at = f } ≡ whole
  unfolding elements_of
  after _ rest header_end ends at f h e some none leads = list_ends rest ends at f h e some leads
  after _ rest (header_element a b id content {rest = more} d not_126 not_127 lists) ends at f h e some none leads =
      by_eq id 30 (λ is. absurd (no_more (sym (contents_is id content (elements_of lists) is) ∙ none)))
      (λ apart. after more rest lists ends _ f (behind a b id at content more rest d not_126 not_127 h e) (ends_of a b id at content more rest d not_126 not_127 h e) some (sym (contents_other id content (elements_of lists) apart) ∙ none) (passed_other a b id at content more rest d not_126 not_127 h e f apart leads))

  -- the correction is there once
  pub before : (header rest : List ℕ) (lists : HeaderElements header) → ListEnd rest → (at : ℕ) (c : List ℕ) → Stands s at (header ++ rest) → at + length (header ++ rest) ≡ end → contents 30 (elements_of lists) ≡ c ∷ [] → length c ≡ 2 → FoundLeads s start end at 0
      → (r : ℕ) × (record { number = 0; at = r } ≡ whole) × Stands s r c
  unfolding elements_of contents
  before _ rest header_end ends at c h e once two leads = absurd (no_more (sym once))
  before _ rest (header_element a b id content {rest = more} d not_126 not_127 lists) ends at c h e once two leads =
      by_eq id 30
      (λ is.
      let both = sym (contents_is id content (elements_of lists) is) ∙ once in
      let same : content ≡ c = ap (λ (l : List (List ℕ)). get_or l 0 []) both in
      let none : contents 30 (elements_of lists) ≡ [] = ap (λ (l : List (List ℕ)). drop 1 l) both in
      let first = passed_first a b id at content more rest d not_126 not_127 h e is (ap length same ∙ two) leads in (
        at + 2,
        after more rest lists ends _ (at + 2) (behind a b id at content more rest d not_126 not_127 h e) (ends_of a b id at content more rest d not_126 not_127 h e) (λ z. omega (arith, z)) none first,
        rw same at (inside a b id at content more rest d not_126 not_127 h e),
      ))
      (λ apart. before more rest lists ends _ c (behind a b id at content more rest d not_126 not_127 h e) (ends_of a b id at content more rest d not_126 not_127 h e) (sym (contents_other id content (elements_of lists) apart) ∙ once) two (passed_other a b id at content more rest d not_126 not_127 h e 0 apart leads))

-- ---- where no fault is, a correction was found
among_some : (elements : List HeaderElement) (fault f : ℕ) → (found_among elements fault f).number ≡ 0 → (found_among elements fault f).at ≡ 0 → ⊥
unfolding found_among
among_some [] fault f good nowhere =
    each_eq (λ (n : ℕ). n ≡ 0 → ⊥) _ _ fault 0 (λ none z. (was_ne _ _ 0 f 0 z (λ (y : missing_or_twice ≡ done). omega arith)).0 nowhere) (λ bad z. bad z) good
among_some (element ∷ elements) fault f good nowhere =
    each_eq (λ (r : Found). r.number ≡ 0 → r.at ≡ 0 → ⊥) _ _ (element_fault element f) 0 (λ fine. among_some elements fault (behind_element element f)) (λ bad good nowhere. bad good) good nowhere

pub found_some : (list : HeaderList) (f : ℕ) → (found_in list f).number ≡ 0 → (found_in list f).at ≡ 0 → ⊥
unfolding found_in
found_some list f = among_some list.elements list.fault f
