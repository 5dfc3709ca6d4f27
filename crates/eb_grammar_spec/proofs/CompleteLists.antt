-- Over lists of the grammar a walk goes without a fault, and notes what is found in them, where each known element is allowed. Assumes nothing.
use Prim.Native.Nat.{ℕ, suc, ◌+◌, ◌≤◌}
use mathlib.Core.Path.{◌≡◌, refl, sym, ◌∙◌, ap}
use mathlib.Core.List.{List, [], ◌∷◌, ◌++◌, append-nil, append_assoc}
use mathlib.Core.Logic.{inl, inr}
use native.Mathlib.Omega.{arith}
use lib.ListN.{length, get_or, length-append}
use lib.Seq.{append_snoc}
use Rattle.octets_spec.specs.Choice.{if_eq}
use Rattle.octets_spec.proofs.ChoiceLaws.{if_eq_lem, if_ne_lem, by_eq}
use Rattle.ie_step_spec.specs.Payload.{group_of, outer_at}
use Rattle.ie_step_spec.specs.declared.HeaderStep.TheVariants as header
use Rattle.ie_step_spec.specs.declared.OuterStep.TheVariants as outer
use Rattle.ie_step_spec.specs.declared.InnerStep.TheVariants as inner
use Rattle.ie_step_spec.proofs.StepLaws.{outer_end, inner_end}
use Rattle.ie_verdict_spec.specs.Verdict.{part_fault}
use Rattle.ie_walk_spec.specs.Walk.{skipped_over, seen_of, skip_one, taken, part_taken, header_list, OuterIs}
use Rattle.ie_walk_spec.specs.declared.Walk.{Walk}
use Rattle.ie_walk_spec.specs.declared.HeaderListEnd.{HeaderListEnd}
use Rattle.ie_walk_spec.proofs.ListLaws.{HeaderLeads, header_payload, header_turn, outer_start, outer_none, outer_enter, joining_turn, skip_turn, GroupLeads, group_start, group_back, part_turn}
use Rattle.eb_grammar_spec.proofs.Stands.{Stands, stands_first, stands_rest, stands_at}
use Rattle.eb_grammar_spec.specs.Grammar.{Descriptor, Element, contents, SubDescriptor, SubElements, group_end, sub_element, PayloadElements, bytes_end, payload_end, payload_element, mlme, ietf_element, other_group, HeaderElements, header_end, header_element}
use Rattle.eb_grammar_spec.proofs.StepsOf.{sub_step, group_step, payload_end_step, payload_step, header_step}
use Rattle.eb_grammar_spec.proofs.Notes.{unseen, splits, Kept, Notes, contents_here, notes_skip, notes_other, notes_taken}

-- an element without a fault is taken
takes : (s : List ℕ) (w : Walk) (kind from to at : ℕ) → 0 ≡ part_fault s kind from to (seen_of w) → taken w kind from to ≡ part_taken s w kind from to at
unfolding part_taken
takes s w kind from to at fine = if_eq_lem _ _ _ _ (sym fine) refl

module _ (s : List ℕ) where
  -- an element of a kind has no fault where it stands
  abbrev pub Fine : ℕ → List ℕ → Type 0
  Fine kind c = (from : ℕ) → Stands s from c → part_fault s kind from (from + length c) unseen ≡ 0

  -- of a kind there is at most one element, without a fault
  abbrev pub Allowed : ℕ → List Element → Type 0
  Allowed kind all = (c : List ℕ) (before after : List (List ℕ)) → contents kind all ≡ before ++ (c ∷ after) → (before ≡ []) × Fine kind c

  pub record Allows (all : List Element) : Type 0 where
    pub synchronization : Allowed 26 all
    pub timeslot : Allowed 28 all
    pub hopping : Allowed 137 all
    pub slotframe : Allowed 27 all
    pub joining : Allowed 258 all

  module _ (before after : List Element) (kind : ℕ) (c : List ℕ) where
    abbrev all : List Element
    all = before ++ (record { kind = kind; content = c } ∷ after)

    fresh : (k p e : ℕ) → Kept s k p e (contents k before) → Allowed k all → kind ≡ k → (p ≡ 0) × Fine k c
    fresh k p e (inl none) allowed is = (none.0, (allowed c (contents k before) _ (contents_here before after _ k is)).1)
    fresh k p e (inr one) allowed is =
        let none : contents k before ≡ [] = (allowed c (contents k before) _ (contents_here before after _ k is)).0 in
        let zero_one : ◌≡◌ {A = ℕ} 0 1 = ap length (sym none ∙ one.only) in
        absurd (omega arith)

    passes : (w : Walk) (from : ℕ) → Notes s w before → Allows all → Stands s from c → part_fault s kind from (from + length c) (seen_of w) ≡ 0
    unfolding part_fault seen_of
    passes w from n allows h =
        by_eq kind 26 (λ e. let f = fresh 26 _ _ n.synchronization.1 allows.synchronization e in rw e ((splits s from _ (seen_of w)).synchronization.1 f.0 (f.1 from h)))
        (λ not-26. by_eq kind 28 (λ e. let f = fresh 28 _ _ n.timeslot allows.timeslot e in rw e ((splits s from _ (seen_of w)).timeslot.1 f.0 (f.1 from h)))
        (λ not-28. by_eq kind 137 (λ e. let f = fresh 137 _ _ n.hopping.1 allows.hopping e in rw e ((splits s from _ (seen_of w)).hopping.1 f.0 (f.1 from h)))
        (λ not-137. by_eq kind 27 (λ e. let f = fresh 27 _ _ n.slotframe.1 allows.slotframe e in rw e ((splits s from _ (seen_of w)).slotframe.1 f.0 (f.1 from h)))
        (λ not-27. by_eq kind 258 (λ e. let f = fresh 258 _ _ n.joining allows.joining e in rw e ((splits s from _ (seen_of w)).joining.1 f.0 (f.1 from h)))
        (λ not-258. sym (if_ne_lem _ _ _ _ not-26 (if_ne_lem _ _ _ _ not-28 (if_ne_lem _ _ _ _ not-137 (if_ne_lem _ _ _ _ not-27 (if_ne_lem _ _ _ _ not-258 refl))))))))))

  -- behind a descriptor, and behind the content too
  behind_head : (a b at : ℕ) (xs : List ℕ) → Stands s at (a ∷ b ∷ xs) → Stands s (at + 2) xs
  behind_head a b at xs h = stands_rest s (a ∷ b ∷ []) xs at h

  behind_all : (a b at : ℕ) (c rest : List ℕ) → Stands s at (a ∷ b ∷ (c ++ rest)) → Stands s (at + 2 + length c) rest
  behind_all a b at c rest h = stands_rest s c rest (at + 2) (behind_head a b at (c ++ rest) h)

  -- ---- a group
  pub record GroupPasses (at to end : ℕ) (w : Walk) (found : List Element) : Type 0 where
    pub walk : Walk
    pub leads : GroupLeads s at to end w to walk
    pub notes : Notes s walk found
    pub good : walk.fault ≡ 0

  module _ (at to end : ℕ) (w : Walk) (before after : List Element) (a b kind : ℕ) (c rest : List ℕ) where
    abbrev x : Element
    x = record { kind = kind; content = c }

    abbrev t : Walk
    t = taken w kind (at + 2) (at + 2 + length c)

    one_part : SubDescriptor a b (length c) kind → Stands s at (a ∷ b ∷ (c ++ rest)) → at + 2 + length c ≤ to → to ≤ end → Notes s w before → Allows (before ++ (x ∷ after)) → w.fault ≡ 0 → w.skipped ≤ at
        → GroupLeads s at to end w (at + 2 + length c) t × Notes s t (before ++ (x ∷ []))
    unfolding taken
    one_part d h room fit n allows good counted =
        let content = stands_first s c rest (at + 2) (behind_head a b at (c ++ rest) h) in
        let fine = passes before after kind c w (at + 2) n allows content in (
          part_turn s at to end w at w (inner.Part kind (at + 2) (at + 2 + length c)) (sub_step s at to a b (c ++ rest) h (length c) kind room d) kind (at + 2) (at + 2 + length c) refl t
              (takes s w kind (at + 2) (at + 2 + length c) at (sym fine)) (omega arith, omega arith, room) good (group_start s at to end w (omega arith) fit counted),
          notes_taken s before kind (at + 2) c (λ z. omega (arith, z)) content w fine n,
        )

    more_parts : (inside : List Element) → GroupLeads s at to end w (at + 2 + length c) t → GroupPasses (at + 2 + length c) to end t (before ++ (x ∷ []) ++ inside) → GroupPasses at to end w (before ++ (x ∷ inside))
    more_parts inside first g = record {
      walk = g.walk;
      leads = record { from = omega (arith, first.from, g.leads.from); within = g.leads.within; fits = g.leads.fits; few = g.leads.few; gives = λ r go. first.gives r (g.leads.gives r go) };
      notes = rw (append_snoc before x inside) at g.notes;
      good = g.good;
    }

  subs_pass : (xs : List ℕ) (inside : List Element) → SubElements xs inside → (at to end : ℕ) (w : Walk) (before after : List Element) → Stands s at xs → at + length xs ≡ to → to ≤ end → Notes s w before → Allows (before ++ (inside ++ after))
      → w.fault ≡ 0 → w.skipped ≤ at → GroupPasses at to end w (before ++ inside)
  unfolding taken
  subs_pass _ _ group_end at to end w before after h e fit n allows good counted =
      let same : at ≡ to = omega (arith, e) in
      record { walk = w; leads = rw (← same) (group_start s at at end w (omega arith) (omega (arith, same, fit)) counted); notes = rw (append-nil before) n; good = good }
  subs_pass _ _ (sub_element a b kind c {rest} {found} d more) at to end w before after h e fit n allows good counted =
      let long : at + 2 + length c + length rest ≡ to = omega (arith, e, length-append c rest) in
      let one = one_part at to end w before (found ++ after) a b kind c rest d h (omega (arith, long)) fit n allows good counted in
      let y : Element = record { kind = kind; content = c } in
      let t : Walk = taken w kind (at + 2) (at + 2 + length c) in
      more_parts at to end w before after a b kind c rest found one.0
      (subs_pass rest found more (at + 2 + length c) to end t (before ++ (y ∷ [])) after (behind_all a b at c rest h) long fit one.1 (rw (append_snoc before y (found ++ after)) allows) good one.0.few)

  -- ---- the payload list
  pub record OuterPasses (at end : ℕ) (w : Walk) (found : List Element) : Type 0 where
    pub walk : Walk
    pub is : OuterIs s at end w walk
    pub notes : Notes s walk found
    pub good : walk.fault ≡ 0

  -- an element that is skipped, and what stands behind it
  skips : (at to end : ℕ) (w : Walk) (found : List Element) → at + 2 ≤ to → to ≤ end → w.skipped ≤ at → outer.Skip to ≡ outer_at s at end → OuterPasses to end (skip_one w) found → OuterPasses at end w found
  skips at to end w found low high counted step g = record {
    walk = g.walk;
    is = (skip_turn s at end w at w (outer.Skip to) step to (low, high) refl (skip_one w) refl (outer_start s at end w (omega arith) counted)).gives g.walk g.is;
    notes = g.notes;
    good = g.good;
  }

  -- the same element, by the kind and the end that it is said to have
  note_as : (w : Walk) (before : List Element) (kind k from to : ℕ) (c : List ℕ) → kind ≡ k → from + length c ≡ to → (from ≡ 0 → ⊥) → Stands s from c → part_fault s k from to (seen_of w) ≡ 0 → Notes s w before
      → Notes s (taken w k from to) (before ++ (record { kind = kind; content = c } ∷ []))
  note_as w before kind k from to c e f some h fine n = rw (← e, ← f) (notes_taken s before kind from c some h w (rw (e, f) fine) n)

  pub outers_pass : (xs : List ℕ) (found : List Element) → PayloadElements xs found → (at end : ℕ) (w : Walk) (before : List Element) → Stands s at xs → at + length xs ≡ end → Notes s w before → Allows (before ++ found) → w.fault ≡ 0 → w.skipped ≤ at
      → OuterPasses at end w (before ++ found)
  unfolding group_of if_eq taken skip_one
  outers_pass _ _ bytes_end at end w before h e n allows good counted =
      let same : at ≡ end = omega (arith, e) in
      record {
        walk = w;
        is = outer_none s at end w at w outer.End (outer_end s at end (omega arith)) refl (outer_start s at end w (omega arith) counted);
        notes = rw (append-nil before) n;
        good = good;
      }
  outers_pass _ _ (payload_end a b ignored d) at end w before h e n allows good counted = record {
    walk = w;
    is = outer_none s at end w at w outer.End (payload_end_step s at end a b ignored h (omega (arith, e)) d) refl (outer_start s at end w (omega (arith, e)) counted);
    notes = rw (append-nil before) n;
    good = good;
  }
  outers_pass _ _ (payload_element a b _ content {rest} {inside} {found} d not-15 (mlme group) list) at end w before h e n allows good counted =
      let to : ℕ = at + 2 + length content in
      let long : to + length rest ≡ end = omega (arith, e, length-append content rest) in
      let fit : to ≤ end = omega (arith, long) in
      let step = group_step s at end a b (content ++ rest) h (length content) fit 1 (outer.Group (at + 2) to) d (λ (z : ◌≡◌ {A = ℕ} 1 15). omega arith) refl in
      let g = subs_pass content inside group (at + 2) to end w before found (stands_first s content rest (at + 2) (behind_head a b at (content ++ rest) h)) refl fit n allows good (omega (arith, counted)) in
      let o = outers_pass rest found list to end g.walk (before ++ inside) (behind_all a b at content rest h) long g.notes (rw (append_assoc before inside found) allows) g.good g.leads.few in
      let back = group_back s to to end g.walk to g.walk inner.Back (inner_end s to to (omega arith)) o.walk refl o.is (group_start s to to end g.walk (omega arith) fit g.leads.few) in
      record {
        walk = o.walk;
        is = outer_enter s at end w at w (outer.Group (at + 2) to) step (at + 2) to (refl, omega arith, fit) refl o.walk (g.leads.gives o.walk back) (outer_start s at end w (omega (arith, e)) counted);
        notes = rw (append_assoc before inside found) at o.notes;
        good = o.good;
      }
  outers_pass _ _ (payload_element a b _ _ {rest} {inside = _} {found} d not-15 (ietf_element subtype c) list) at end w before h e n allows good counted =
      let size : ℕ = suc (length c) in
      let to : ℕ = at + 2 + size in
      let y : Element = record { kind = 256 + subtype; content = c } in
      let long : to + length rest ≡ end = omega (arith, e, length-append c rest) in
      let fit : to ≤ end = omega (arith, long) in
      let content = stands_rest s (subtype ∷ []) (c ++ rest) (at + 2) (behind_head a b at (subtype ∷ (c ++ rest)) h) in
      let behind = stands_at s rest (at + 2 + 1 + length c) to (omega arith) (stands_rest s c rest (at + 2 + 1) content) in
      let first : get_or s (at + 2) 0 ≡ subtype = unfold Stands in (behind_head a b at (subtype ∷ (c ++ rest)) h).0 in
      let some : at + 2 ≡ at + 2 + size → ⊥ = λ z. omega (arith, z) in
      by_eq subtype 2
      (λ two.
      let step = group_step s at end a b (subtype ∷ (c ++ rest)) h size fit 5 (outer.Joining (at + 2 + 1) to) d (λ (z : ◌≡◌ {A = ℕ} 5 15). omega arith)
      (if_ne_lem _ _ (at + 2) (at + 2 + size) some (if_eq_lem _ _ (get_or s (at + 2) 0) 2 (first ∙ two) refl)) in
      let kind : 256 + subtype ≡ 258 = omega (arith, two) in
      let here = stands_first s c rest (at + 2 + 1) content in
      let place : at + 2 + 1 + length c ≡ to = omega arith in
      let fine : part_fault s 258 (at + 2 + 1) to (seen_of w) ≡ 0 = rw (kind, place) at (passes before found (256 + subtype) c w (at + 2 + 1) n allows here) in
      let t : Walk = taken w 258 (at + 2 + 1) to in
      let noted : Notes s t (before ++ (y ∷ [])) = note_as w before (256 + subtype) 258 (at + 2 + 1) to c kind place (λ z. omega (arith, z)) here fine n in
      let o = outers_pass rest found list to end t (before ++ (y ∷ [])) behind long noted (rw (append_snoc before y found) allows) good (omega (arith, counted)) in
      record {
        walk = o.walk;
        is = (joining_turn s at end w at w (outer.Joining (at + 2 + 1) to) step (at + 2 + 1) to (refl, omega arith, fit) refl t (takes s w 258 (at + 2 + 1) to at (sym fine)) good
            (outer_start s at end w (omega (arith, e)) counted)).gives o.walk o.is;
        notes = rw (append_snoc before y found) at o.notes;
        good = o.good;
      })
      (λ not_2.
      let step = group_step s at end a b (subtype ∷ (c ++ rest)) h size fit 5 (outer.Skip to) d (λ (z : ◌≡◌ {A = ℕ} 5 15). omega arith)
      (if_ne_lem _ _ (at + 2) (at + 2 + size) some (if_ne_lem _ _ (get_or s (at + 2) 0) 2 (λ z. not_2 (sym first ∙ z)) refl)) in
      let noted = notes_other s w before y (λ (z : 256 + subtype ≡ 258). not_2 (omega arith)) (omega arith) n in
      let o = outers_pass rest found list to end (skip_one w) (before ++ (y ∷ [])) behind long (notes_skip s w (before ++ (y ∷ [])) noted) (rw (append_snoc before y found) allows) good (omega (arith, counted)) in
      skips at to end w (before ++ (y ∷ found)) (omega arith) fit counted step (rw (append_snoc before y found) at o))
  outers_pass _ _ (payload_element a b group c {rest} {inside = _} {found} d not-15 (other_group not_1 not_5) list) at end w before h e n allows good counted =
      let to : ℕ = at + 2 + length c in
      let long : to + length rest ≡ end = omega (arith, e, length-append c rest) in
      let fit : to ≤ end = omega (arith, long) in
      let step = group_step s at end a b (c ++ rest) h (length c) fit group (outer.Skip to) d not-15 (if_ne_lem _ _ group 1 not_1 (if_ne_lem _ _ group 5 not_5 refl)) in
      skips at to end w (before ++ found) (omega arith) fit counted step (outers_pass rest found list to end (skip_one w) before (behind_all a b at c rest h) long (notes_skip s w before n) allows good (omega (arith, counted)))

  -- ---- the header list
  pub record HeaderPasses (payload : List ℕ) (at end : ℕ) : Type 0 where
    pub place : ℕ
    pub count : ℕ
    pub is : ◌≡◌ {A = HeaderListEnd} (record { fault = 0; faulty = 0; skipped = count; payload = place }) (skipped_over (header_list s at end))
    pub some : place ≡ 0 → ⊥
    pub stands : Stands s place payload
    pub ends : place + length payload ≡ end

  module _ (payload : List ℕ) (low high : ℕ) (d : Descriptor 7 low high 0 126 0) (at end : ℕ) where
    pub header_passes : (xs : List ℕ) → HeaderElements xs → (i n : ℕ) → Stands s i (xs ++ (low ∷ high ∷ payload)) → i + length (xs ++ (low ∷ high ∷ payload)) ≡ end → HeaderLeads s at end i n → HeaderPasses payload at end
    header_passes _ header_end i n h e leads = record {
      place = i + 2;
      count = n;
      is = header_payload s at end i n (header.Payload (i + 2)) (payload_step s i end low high payload h (omega (arith, e)) d) (i + 2) refl leads;
      some = λ z. omega (arith, z);
      stands = behind_head low high i payload h;
      ends = omega (arith, e);
    }
    header_passes _ (header_element a b id c {rest} d not_126 not_127 more) i n h e leads =
        let to : ℕ = i + 2 + length c in
        let behind : List ℕ = rest ++ (low ∷ high ∷ payload) in
        let here : Stands s i (a ∷ b ∷ (c ++ behind)) = rw (append_assoc c rest (low ∷ high ∷ payload)) at h in
        let long : to + length behind ≡ end = omega (arith, rw (append_assoc c rest (low ∷ high ∷ payload)) at e, length-append c behind) in
        let fit : to ≤ end = omega (arith, long) in
        header_passes rest more to (n + 1) (behind_all a b i c behind here) long
        (header_turn s at end i n (header.Element id (i + 2) to) (header_step s i end a b (c ++ behind) here (length c) fit id d not_126 not_127) id (i + 2) to refl (omega arith, omega arith, fit) leads)
