-- The laws of the lists: what the list from an offset on gives, the whole list gives. For each way of a step one law, with the step that
-- was taken as a variable. Assumes nothing.
use Prim.Native.Nat.{ℕ, zero, suc, ◌+◌, ◌-◌, ◌*◌, ◌<◌, ◌≤◌, ◌^◌}
use mathlib.Core.Path.{◌≡◌, refl, sym, ◌∙◌}
use mathlib.Core.List.{List}
use lib.ListN.{length}
use native.Mathlib.Omega.{arith}
use native.Mathlib.Nat.{not-suc-le-zero, le_of_lt}
use Rattle.octets_spec.proofs.ChoiceLaws.{if_eq_lem, if_ne_lem}
use Rattle.ie_walk_spec.proofs.WalkLaws.{part_counts}
use Rattle.refusal.specs.Refusal.{number_of}
use Rattle.refusal.specs.declared.Refusal.{Refusal}
use Rattle.ie_step_spec.proofs.StepLaws.{outer_end}
use Rattle.ie_step_spec.specs.Header.{header_at, header_within}
use Rattle.ie_step_spec.specs.Payload.{outer_at, outer_within, inner_at, inner_within}
use Rattle.ie_step_spec.specs.declared.HeaderStep.{HeaderStep}
use Rattle.ie_step_spec.specs.declared.HeaderStep.TheVariants as header
use Rattle.ie_step_spec.specs.declared.OuterStep.{OuterStep}
use Rattle.ie_step_spec.specs.declared.OuterStep.TheVariants as outer
use Rattle.ie_step_spec.specs.declared.InnerStep.{InnerStep}
use Rattle.ie_step_spec.specs.declared.InnerStep.TheVariants as inner
use Rattle.ie_walk_spec.specs.Walk.{HeaderList, skipped_over, in_front, blank_walk, skip_one, stopped, part_taken, header_go, header_list, outer_go, group_go, OuterIs, GroupIs, GroupGives, payload_list}
use Rattle.ie_walk_spec.specs.declared.Walk.{Walk}
use Rattle.ie_walk_spec.specs.declared.HeaderListEnd.{HeaderListEnd}
use Rattle.ie_walk_spec.specs.declared.GroupEnd.{GroupEnd}
use Rattle.ie_walk_spec.specs.declared.GroupEnd.TheVariants as end_of_lem

-- ---- the header list
-- what a reader gives that has skipped `n` elements before a list
unfoldable pub after : ℕ → HeaderList → HeaderListEnd
after n list = record { fault = list.fault; faulty = list.faulty; skipped = n + length list.elements; payload = list.payload }

pub record HeaderLeads (s : List ℕ) (at end i n : ℕ) : Type 0 where
  pub from : at ≤ i
  pub few : n ≤ i
  pub gives : (r : HeaderListEnd) → ((bound : ℕ) → end - i < bound → r ≡ after n (header_go bound s i end)) → r ≡ skipped_over (header_list s at end)

pub header_start : (s : List ℕ) (at end : ℕ) → HeaderLeads s at end at 0
unfolding header_list skipped_over after
header_start s at end = record { from = omega arith; few = omega arith; gives = λ r h. h (suc end) (omega arith) ∙ rw (none (length (header_go (suc end) s at end).elements)) refl }
  where
    none : (m : ℕ) → 0 + m ≡ m
    none m = omega arith

module _ (s : List ℕ) (at end i n : ℕ) (o : HeaderStep) (is : o ≡ header_at s i end) where
  -- a step that ends the list
  ends : (r : HeaderListEnd) → ((bound : ℕ) → r ≡ after n (header_go (suc bound) s i end)) → HeaderLeads s at end i n → r ≡ skipped_over (header_list s at end)
  ends r go leads = leads.gives r (λ bound lt. larger bound lt)
    where
      larger : (bound : ℕ) → end - i < bound → r ≡ after n (header_go bound s i end)
      larger zero lt = absurd (not-suc-le-zero lt)
      larger (suc bound) lt = go bound

  nothing_more : n ≡ n + 0
  nothing_more = omega arith

  pub header_none : o ≡ header.End → HeaderLeads s at end i n → record { fault = 0; faulty = 0; skipped = n; payload = 0 } ≡ skipped_over (header_list s at end)
  unfolding header_go after
  header_none e = ends _ (λ bound. rw (sym is ∙ e, header_go, ← nothing_more))

  pub header_payload : (from : ℕ) → o ≡ header.Payload from → HeaderLeads s at end i n → record { fault = 0; faulty = 0; skipped = n; payload = from } ≡ skipped_over (header_list s at end)
  unfolding header_go after
  header_payload from e = ends _ (λ bound. rw (sym is ∙ e, header_go, ← nothing_more))

  pub header_fault : (refusal : Refusal) (fault : ℕ) → o ≡ header.Fault refusal → fault ≡ number_of refusal → HeaderLeads s at end i n → record { fault = fault; faulty = i; skipped = n; payload = 0 } ≡ skipped_over (header_list s at end)
  unfolding header_go after
  header_fault refusal fault e number = ends _ (λ bound. rw (sym is ∙ e, header_go, number, ← nothing_more))

  module _ (id from to : ℕ) (e : o ≡ header.Element id from to) (within : header_within o i end) where
    inside : (i < from) × (from ≤ to) × (to ≤ end)
    inside = rw e at within

    pub header_less : end - to < end - i
    header_less = omega (arith, inside)

    pub header_few : to < 2 ^ 64 → HeaderLeads s at end i n → n + 1 < 2 ^ 64
    header_few fits leads = omega (arith, inside, leads.few)

    pub header_turn : HeaderLeads s at end i n → HeaderLeads s at end to (n + 1)
    unfolding header_go after in_front
    header_turn leads = record { from = omega (arith, inside, leads.from); few = omega (arith, inside, leads.few); gives = λ r h. leads.gives r (λ bound lt. one bound lt r h) }
      where
        one : (bound : ℕ) → end - i < bound → (r : HeaderListEnd) → ((b : ℕ) → end - to < b → r ≡ after (n + 1) (header_go b s to end)) → r ≡ after n (header_go bound s i end)
        one zero lt r h = absurd (not-suc-le-zero lt)
        one (suc bound) lt r h = rw (sym is ∙ e, header_go) (h bound (omega (arith, inside)) ∙ rw (moved (length (header_go bound s to end).elements)) refl)
          where
            moved : (m : ℕ) → n + 1 + m ≡ n + suc m
            moved m = omega arith

-- ---- the payload list
pub record OuterLeads (s : List ℕ) (at end : ℕ) (w : Walk) (i : ℕ) (q : Walk) : Type 0 where
  pub from : at ≤ i
  pub within : i ≤ end
  pub few : q.skipped ≤ i
  pub gives : (r : Walk) → OuterIs s i end q r → OuterIs s at end w r

pub outer_start : (s : List ℕ) (at end : ℕ) (w : Walk) → at ≤ end → w.skipped ≤ at → OuterLeads s at end w at w
outer_start s at end w h few = record { from = omega arith; within = h; few = few; gives = λ r k. k }

-- an element adds at most one to the count
skip_counts : (q t : Walk) → t ≡ skip_one q → t.skipped ≡ q.skipped + 1
unfolding skip_one
skip_counts q t e = rw e refl

part_few_behind : (s : List ℕ) (q : Walk) (i kind from to : ℕ) (t : Walk) → t ≡ part_taken s q kind from to i → q.skipped ≤ i → i < from → from ≤ to → t.skipped ≤ to
part_few_behind s q i kind from to t e few below le = rw e (omega (arith, few, below, le, part_counts s q kind from to i))

-- one step of the list, at a bound that is large enough
outer_one : (s : List ℕ) (i end : ℕ) (q r : Walk) → ((bound : ℕ) → 2 * (end - i) ≤ bound → r ≡ outer_go (suc bound) s i end q) → OuterIs s i end q r
unfolding OuterIs
outer_one s i end q r go zero lt = absurd (not-suc-le-zero lt)
outer_one s i end q r go (suc bound) lt = go bound (omega arith)

module _ (s : List ℕ) (at end : ℕ) (w : Walk) (i : ℕ) (q : Walk) (o : OuterStep) (is : o ≡ outer_at s i end) where
  pub outer_none : o ≡ outer.End → OuterLeads s at end w i q → OuterIs s at end w q
  unfolding outer_go
  outer_none e leads = leads.gives q (outer_one s i end q q (λ bound _. rw (sym is ∙ e, outer_go)))

  pub outer_fault : (refusal : Refusal) (r : Walk) → o ≡ outer.Fault refusal → r ≡ stopped q (number_of refusal) i → OuterLeads s at end w i q → OuterIs s at end w r
  unfolding outer_go
  outer_fault refusal r e k leads = leads.gives r (outer_one s i end q r (λ bound _. rw (sym is ∙ e, outer_go) k))

  module _ (from to : ℕ) (within : outer_within o (i + 2) end) where
    module _ (e : o ≡ outer.Group from to) where
      group_inside : (from ≡ i + 2) × (from ≤ to) × (to ≤ end)
      group_inside = rw e at within

      pub enter_low : from ≤ to
      enter_low = group_inside.1

      pub enter_high : to ≤ end
      enter_high = group_inside.2

      pub enter_few : OuterLeads s at end w i q → q.skipped ≤ from
      enter_few leads = omega (arith, group_inside, leads.few)

      pub enter_less : (t : ℕ) → OuterLeads s at end w i q → 2 * (end - at) ≡ t → 2 * (end - from) + 1 < t
      enter_less t leads k = omega (arith, group_inside, leads.from, leads.within)

      pub outer_enter : (r : Walk) → GroupIs s from to end q r → OuterLeads s at end w i q → OuterIs s at end w r
      unfolding outer_go GroupIs
      outer_enter r go leads = leads.gives r (outer_one s i end q r (λ bound lt. rw (sym is ∙ e, outer_go) (go bound (omega (arith, group_inside)))))

      pub passed_less : end - to < end - i
      passed_less = omega (arith, group_inside)

      module _ (g : GroupEnd) (gives : GroupGives s from to end q g) (r : Walk) where
        pub outer_whole : g ≡ end_of_lem.Whole r → OuterLeads s at end w i q → OuterIs s at end w r
        unfolding GroupGives
        outer_whole k leads = outer_enter r (rw k at gives) leads

        pub outer_passed : g ≡ end_of_lem.Passed r → OuterLeads s at end w i q → OuterLeads s at end w to r
        unfolding GroupGives
        outer_passed k leads = record {
          from = omega (arith, group_inside, leads.from);
          within = group_inside.2;
          few = behind.0;
          gives = λ x go. outer_enter x (behind.1 x go) leads;
        }
          where
            behind : (r.skipped ≤ to) × ((x : Walk) → OuterIs s to end r x → GroupIs s from to end q x)
            behind = rw k at gives

    module _ (e : o ≡ outer.Joining from to) where
      joining_inside_lem : (from ≡ i + 2 + 1) × (from ≤ to) × (to ≤ end)
      joining_inside_lem = rw e at within

      pub joining_less : end - to < end - i
      joining_less = omega (arith, joining_inside_lem)

      pub joining_few : OuterLeads s at end w i q → q.skipped < to
      joining_few leads = omega (arith, joining_inside_lem, leads.few)

      module _ (t : Walk) (k : t ≡ part_taken s q 258 from to i) where
        pub joining_fault_lem : (t.fault ≡ 0 → ⊥) → OuterLeads s at end w i q → OuterIs s at end w t
        unfolding outer_go
        joining_fault_lem bad leads = leads.gives t (outer_one s i end q t (λ bound _. rw (sym is ∙ e, outer_go, ← k) (if_ne_lem _ _ _ _ bad refl)))

        pub joining_turn : t.fault ≡ 0 → OuterLeads s at end w i q → OuterLeads s at end w to t
        unfolding outer_go OuterIs
        joining_turn good leads = record {
          from = omega (arith, joining_inside_lem, leads.from);
          within = joining_inside_lem.2;
          few = part_few_behind s q i 258 from to t k leads.few (omega (arith, joining_inside_lem)) joining_inside_lem.1;
          gives = λ r go. leads.gives r (outer_one s i end q r (λ bound lt. rw (sym is ∙ e, outer_go, ← k) (if_eq_lem _ _ _ _ good (go bound (omega (arith, joining_inside_lem))))));
        }

  module _ (to : ℕ) (within : outer_within o (i + 2) end) (e : o ≡ outer.Skip to) where
    skip_inside : (i + 2 ≤ to) × (to ≤ end)
    skip_inside = rw e at within

    pub skip_less : end - to < end - i
    skip_less = omega (arith, skip_inside)

    pub skip_few : to < 2 ^ 64 → OuterLeads s at end w i q → q.skipped + 1 < 2 ^ 64
    skip_few fits leads = omega (arith, skip_inside, leads.few)

    pub skip_turn : (t : Walk) → t ≡ skip_one q → OuterLeads s at end w i q → OuterLeads s at end w to t
    unfolding outer_go OuterIs
    skip_turn t k leads = record {
      from = omega (arith, skip_inside, leads.from);
      within = skip_inside.1;
      few = omega (arith, skip_inside, leads.few, skip_counts q t k);
      gives = λ r go. leads.gives r (outer_one s i end q r (λ bound lt. rw (sym is ∙ e, outer_go, ← k) (go bound (omega (arith, skip_inside)))));
    }

-- ---- a group
pub record GroupLeads (s : List ℕ) (at to end : ℕ) (w : Walk) (i : ℕ) (q : Walk) : Type 0 where
  pub from : at ≤ i
  pub within : i ≤ to
  pub fits : to ≤ end
  pub few : q.skipped ≤ i
  pub gives : (r : Walk) → GroupIs s i to end q r → GroupIs s at to end w r

pub group_start : (s : List ℕ) (at to end : ℕ) (w : Walk) → at ≤ to → to ≤ end → w.skipped ≤ at → GroupLeads s at to end w at w
group_start s at to end w h k few = record { from = omega arith; within = h; fits = k; few = few; gives = λ r g. g }

group_one : (s : List ℕ) (i to end : ℕ) (q r : Walk) → ((bound : ℕ) → 2 * (end - i) + 1 ≤ bound → r ≡ group_go (suc bound) s i to end q) → GroupIs s i to end q r
unfolding GroupIs
group_one s i to end q r go zero lt = absurd (not-suc-le-zero lt)
group_one s i to end q r go (suc bound) lt = go bound (omega arith)

pub back_few : (s : List ℕ) (at to end : ℕ) (w : Walk) (i : ℕ) (q : Walk) → GroupLeads s at to end w i q → q.skipped ≤ to
back_few s at to end w i q leads = omega (arith, leads.few, leads.within)

pub back_less : (s : List ℕ) (at to end : ℕ) (w : Walk) (i : ℕ) (q : Walk) (t : ℕ) → GroupLeads s at to end w i q → 2 * (end - at) + 1 ≡ t → 2 * (end - to) < t
back_less s at to end w i q t leads k = omega (arith, leads.from, leads.within, leads.fits)

module _ (s : List ℕ) (at to end : ℕ) (w : Walk) (i : ℕ) (q : Walk) (o : InnerStep) (is : o ≡ inner_at s i to) where
  pub group_back : (r : Walk) → o ≡ inner.Back → OuterIs s to end q r → GroupLeads s at to end w i q → GroupIs s at to end w r
  unfolding group_go OuterIs
  group_back r e go leads = leads.gives r (group_one s i to end q r (λ bound lt. rw (sym is ∙ e, group_go) (go bound (omega (arith, leads.within, leads.fits)))))

  pub group_whole : (r : Walk) → o ≡ inner.Back → OuterIs s to end q r → GroupLeads s at to end w i q → GroupGives s at to end w (end_of_lem.Whole r)
  unfolding GroupGives
  group_whole r e go leads = group_back r e go leads

  pub group_passed : o ≡ inner.Back → GroupLeads s at to end w i q → GroupGives s at to end w (end_of_lem.Passed q)
  unfolding GroupGives
  group_passed e leads = (back_few s at to end w i q leads, λ r go. group_back r e go leads)

  pub group_fault : (refusal : Refusal) (r : Walk) → o ≡ inner.Fault refusal → r ≡ stopped q (number_of refusal) i → GroupLeads s at to end w i q → GroupGives s at to end w (end_of_lem.Whole r)
  unfolding group_go GroupGives
  group_fault refusal r e k leads = leads.gives r (group_one s i to end q r (λ bound _. rw (sym is ∙ e, group_go) k))

  module _ (kind from next : ℕ) (e : o ≡ inner.Part kind from next) where
    module _ (within : inner_within o i to) where
      part_inside : (i < from) × (from ≤ next) × (next ≤ to)
      part_inside = rw e at within

      pub part_less : to - next < to - i
      part_less = omega (arith, part_inside)

      pub part_few : GroupLeads s at to end w i q → q.skipped < next
      part_few leads = omega (arith, part_inside, leads.few)

    module _ (t : Walk) (k : t ≡ part_taken s q kind from next i) where
      pub part_fault_lem : (t.fault ≡ 0 → ⊥) → GroupLeads s at to end w i q → GroupGives s at to end w (end_of_lem.Whole t)
      unfolding group_go GroupGives
      part_fault_lem bad leads = leads.gives t (group_one s i to end q t (λ bound _. rw (sym is ∙ e, group_go, ← k) (if_ne_lem _ _ _ _ bad refl)))

      pub part_turn : inner_within o i to → t.fault ≡ 0 → GroupLeads s at to end w i q → GroupLeads s at to end w next t
      unfolding group_go GroupIs
      part_turn within good leads = record {
        from = omega (arith, part_inside within, leads.from);
        within = (part_inside within).2;
        fits = leads.fits;
        few = part_few_behind s q i kind from next t k leads.few (part_inside within).0 (part_inside within).1;
        gives = λ r go. leads.gives r (group_one s i to end q r (λ bound lt. rw (sym is ∙ e, group_go, ← k) (if_eq_lem _ _ _ _ good (go bound (omega (arith, part_inside within, leads.fits))))));
      }

-- ---- the payload list begins with nothing noted
module _ (s : List ℕ) (at end : ℕ) (w : Walk) (blank : w ≡ blank_walk) where
  pub blank_few : w.skipped ≤ at
  unfolding blank_walk
  blank_few = rw blank (omega arith)

  pub payload_past : end < at → w ≡ payload_list s at end
  unfolding payload_list outer_go
  payload_past h = rw (sym (outer_end s at end (le_of_lt h)), outer_go, blank)

  pub payload_is : (r : Walk) → at ≤ end → OuterIs s at end w r → r ≡ payload_list s at end
  unfolding payload_list OuterIs
  payload_is r h go = rw (← blank) (go (suc (2 * end)) (omega arith))

pub ruleset lists = (outer_start, outer_none, outer_fault, enter_low, enter_high, enter_few, enter_less, passed_less, outer_whole, outer_passed, joining_less, joining_few, joining_fault_lem, joining_turn, skip_less, skip_few, skip_turn, group_start, back_few, back_less, group_whole, group_passed, group_fault, part_less, part_few, part_fault_lem, part_turn, blank_few, payload_past, payload_is)

pub ruleset header_lists = (header_start, header_none, header_payload, header_fault, header_less, header_few, header_turn)
