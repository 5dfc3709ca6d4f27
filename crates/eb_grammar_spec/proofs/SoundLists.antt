-- A walk that ends without a fault went over lists of the grammar, and noted what is found in them. Assumes nothing.
use Prim.Native.Nat.{ℕ, zero, suc, ◌+◌, ◌-◌, ◌*◌, ◌<◌, ◌≤◌}
use mathlib.Core.Path.{◌≡◌, refl, sym, ◌∙◌, ap, subst}
use mathlib.Core.List.{List, [], ◌∷◌, ◌++◌, append-nil, append_assoc}
use mathlib.Core.Logic.{◌⊎◌, inl, inr}
use native.Mathlib.Omega.{arith}
use native.Mathlib.Nat.{not-suc-le-zero}
use lib.ListN.{length, get_or}
use lib.Seq.{append_snoc}
use Rattle.ie_step_spec.specs.Header.{header_at}
use Rattle.ie_step_spec.specs.Payload.{outer_at, inner_at}
use Rattle.ie_step_spec.specs.declared.HeaderStep.{HeaderStep}
use Rattle.ie_step_spec.specs.declared.HeaderStep.TheVariants as header
use Rattle.ie_step_spec.specs.declared.OuterStep.{OuterStep}
use Rattle.ie_step_spec.specs.declared.OuterStep.TheVariants as outer
use Rattle.ie_step_spec.specs.declared.InnerStep.{InnerStep}
use Rattle.ie_step_spec.specs.declared.InnerStep.TheVariants as inner
use Rattle.ie_verdict_spec.specs.Verdict.{part_fault}
use Rattle.ie_walk_spec.specs.Walk.{HeaderList, blank_walk, in_front, seen_of, skip_one, taken, stopped, part_taken, header_go, header_list, outer_go, group_go, payload_list}
use Rattle.ie_walk_spec.specs.declared.Walk.{Walk}
use Rattle.eb_read_spec.specs.Claims.{Bytes}
use Rattle.eb_read_spec.proofs.Each.{each_eq}
use Rattle.eb_grammar_spec.specs.Grammar.{Descriptor, Element, SubElements, group_end, sub_element, PayloadElements, bytes_end, payload_end, payload_element, mlme, ietf_element, other_group, HeaderElements, header_end, header_element}
use Rattle.eb_grammar_spec.proofs.Slices.{part, length_part, part_at, part_cons, stands_part, part_element}
use Rattle.eb_grammar_spec.proofs.SaidSteps.{InnerSays, Ietf, Skipped, OuterSays, HeaderSays, inner_says, outer_says, header_says}
use Rattle.eb_grammar_spec.proofs.Notes.{Notes, notes_none, notes_skip, notes_other, notes_taken}

-- a part without a fault was taken
part_took : (s : List ℕ) (w : Walk) (kind from to at : ℕ) → (part_taken s w kind from to at).fault ≡ 0
    → (part_fault s kind from to (seen_of w) ≡ 0) × (taken w kind from to ≡ part_taken s w kind from to at)
unfolding part_taken stopped
part_took s w kind from to at =
    let fault : ℕ = part_fault s kind from to (seen_of w) in
    each_eq (λ (t : Walk). t.fault ≡ 0 → (fault ≡ 0) × (taken w kind from to ≡ t)) _ _ _ _ (λ e _. (e, refl)) (λ bad e. absurd (bad e))

module _ (s : List ℕ) (bytes : Bytes s) where
  -- a part that was taken is noted
  note_part : (w : Walk) (found : List Element) (kind from to f size : ℕ) → from ≡ f → to ≡ f + size → (f ≡ 0 → ⊥) → f + size ≤ length s → Notes s w found → part_fault s kind from to (seen_of w) ≡ 0
      → Notes s (taken w kind from to) (found ++ (record { kind = kind; content = part s f size } ∷ []))
  note_part w found kind from to f size starts ends some room n fine =
      let e : to ≡ f + length (part s f size) = ends ∙ omega (arith, length_part s f size) in
      rw (starts, e) (notes_taken s found kind f (part s f size) some (stands_part s f size room) w (rw (starts, e) at fine) n)

  pub record OuterGives (at end : ℕ) (found : List Element) (r : Walk) : Type 0 where
    pub more : List Element
    pub list : PayloadElements (part s at (end - at)) more
    pub notes : Notes s r (found ++ more)

  pub record GroupGives (at to end : ℕ) (found : List Element) (r : Walk) : Type 0 where
    pub inside : List Element
    pub more : List Element
    pub group : SubElements (part s at (to - at)) inside
    pub list : PayloadElements (part s to (end - to)) more
    pub notes : Notes s r (found ++ (inside ++ more))

  abbrev Outers : ℕ → Type 0
  Outers bound = (at end : ℕ) (w : Walk) (found : List Element) → at ≤ end → end ≤ length s → 2 * (end - at) < bound → Notes s w found → (outer_go bound s at end w).fault ≡ 0 → OuterGives at end found (outer_go bound s at end w)

  abbrev Groups : ℕ → Type 0
  Groups bound = (at to end : ℕ) (w : Walk) (found : List Element) → at ≤ to → to ≤ end → end ≤ length s → 2 * (end - at) + 1 < bound → Notes s w found → (group_go bound s at to end w).fault ≡ 0 → GroupGives at to end found (group_go bound s at to end w)

  module _ (bound : ℕ) (outers : Outers bound) (groups : Groups bound) where
    module _ (at end : ℕ) (w : Walk) (found : List Element) (low : at ≤ end) (high : end ≤ length s) (enough : 2 * (end - at) < suc bound) (n : Notes s w found) where
      -- the list ends here
      outer_ends : (end ≤ at) ⊎ ((at + 2 ≤ end) × Descriptor 11 (get_or s at 0) (get_or s (at + 1) 0) 0 15 1) → OuterGives at end found w
      unfolding part
      outer_ends (inl none) = let e : end - at ≡ 0 = omega arith in record { more = []; list = rw e bytes_end; notes = rw (append-nil found) n }
      outer_ends (inr (room, d)) = record { more = []; list = rw (part_element s at 0 (at + 2) end (omega arith) room) (payload_end _ _ _ d); notes = rw (append-nil found) n }

      -- an IETF element, its subtype before its content, and what stands behind it
      ietf_grows : (size to subtype : ℕ) (r : Walk) → to ≡ at + 2 + size → to ≤ end → Ietf s at (get_or s at 0) (get_or s (at + 1) 0) size → get_or s (at + 2) 0 ≡ subtype
          → OuterGives to end (found ++ (record { kind = 256 + subtype; content = part s (at + 2 + 1) (size - 1) } ∷ [])) r → OuterGives at end found r
      ietf_grows size to subtype r ends fits (some, d) is g =
          let c : List ℕ = part s (at + 2 + 1) (size - 1) in
          let one : size ≡ suc (size - 1) = omega arith in
          let sized : suc (length c) ≡ size = omega (arith, length_part s (at + 2 + 1) (size - 1)) in
          let first : part s (at + 2) size ≡ subtype ∷ c = part_at s (at + 2) (at + 2) size (suc (size - 1)) refl one ∙ (part_cons s (at + 2) (size - 1) ∙ rw is) in
          record {
            more = record { kind = 256 + subtype; content = c } ∷ g.more;
            list = rw (part_element s at size to end ends fits, first) (payload_element (get_or s at 0) (get_or s (at + 1) 0) 5 (subtype ∷ c) (rw sized d) (λ (z : ◌≡◌ {A = ℕ} 5 15). omega arith) (ietf_element subtype c) g.list);
            notes = rw (append_snoc found (record { kind = 256 + subtype; content = c }) g.more) at g.notes;
          }

      outer_step : (o : OuterStep) → outer_at s at end ≡ o → OuterSays o s at end → (outer_go (suc bound) s at end w).fault ≡ 0 → OuterGives at end found (outer_go (suc bound) s at end w)
      unfolding outer_go stopped
      outer_step outer.End e k = rw (e, outer_go) (λ good. outer_ends k)
      outer_step (outer.Group from to) e k =
          rw (e, outer_go)
          (λ good.
          let g = groups from to end w found (omega (arith, k.starts, k.ends)) k.fits high (omega (arith, k.starts, k.ends, k.fits)) n good in
          let inner = subst (λ xs. SubElements xs g.inside) (part_at s from (at + 2) (to - from) k.size k.starts (omega (arith, k.starts, k.ends))) g.group in
          record {
            more = g.inside ++ g.more;
            list = rw (part_element s at k.size to end k.ends k.fits) (payload_element (get_or s at 0) (get_or s (at + 1) 0) 1 (part s (at + 2) k.size) (rw (length_part s (at + 2) k.size) k.says) (λ (z : ◌≡◌ {A = ℕ} 1 15). omega arith) (mlme inner) g.list);
            notes = g.notes;
          })
      outer_step (outer.Joining from to) e (starts, l, is) =
          let x : Element = record { kind = 258; content = part s (at + 2 + 1) (l.size - 1) } in
          let t : Walk = part_taken s w 258 from to at in
          rw (e, outer_go)
          (each_eq (λ (r : Walk). r.fault ≡ 0 → OuterGives at end found r) _ _ _ _
          (λ taken-it good.
          let took = part_took s w 258 from to at taken-it in
          let some = l.says.0 in
          let place : to ≡ at + 2 + 1 + (l.size - 1) = omega (arith, l.ends) in
          let noted = rw took.1 at (note_part w found 258 from to (at + 2 + 1) (l.size - 1) starts place (λ z. omega (arith, z)) (omega (arith, place, l.fits, high)) n took.0) in
          ietf_grows l.size to 2 _ l.ends l.fits l.says is
          (outers to end t (found ++ (x ∷ [])) l.fits high (omega (arith, l.ends, l.fits)) noted good))
          (λ bad good. absurd (bad good)))
      outer_step (outer.Skip to) e l = rw (e, outer_go) (λ good. skips l.says good)
        where
          go : (found' : List Element) → Notes s w found' → (outer_go bound s to end (skip_one w)).fault ≡ 0 → OuterGives to end found' (outer_go bound s to end (skip_one w))
          go found' m good = outers to end (skip_one w) found' l.fits high (omega (arith, l.ends, l.fits)) (notes_skip s w found' m) good

          skips : Skipped s at (get_or s at 0) (get_or s (at + 1) 0) l.size → (outer_go bound s to end (skip_one w)).fault ≡ 0 → OuterGives at end found (outer_go bound s to end (skip_one w))
          skips (inl (there, not_2)) good =
              let subtype : ℕ = get_or s (at + 2) 0 in
              let x : Element = record { kind = 256 + subtype; content = part s (at + 2 + 1) (l.size - 1) } in
              ietf_grows l.size to subtype _ l.ends l.fits there refl
              (go (found ++ (x ∷ [])) (notes_other s w found x (λ (z : 256 + subtype ≡ 258). not_2 (omega arith)) (omega arith) n) good)
          skips (inr (group, d, not_1, not_5, not-15)) good =
              let g = go found n good in
              record {
                more = g.more;
                list = rw (part_element s at l.size to end l.ends l.fits) (payload_element (get_or s at 0) (get_or s (at + 1) 0) group (part s (at + 2) l.size) (rw (length_part s (at + 2) l.size) d) not-15 (other_group not_1 not_5) g.list);
                notes = g.notes;
              }
      outer_step (outer.Fault refusal) e k = rw (e, outer_go) (λ good. absurd (k good))

    module _ (at to end : ℕ) (w : Walk) (found : List Element) (low : at ≤ to) (fit : to ≤ end) (high : end ≤ length s) (enough : 2 * (end - at) + 1 < suc bound) (n : Notes s w found) where
      group_step : (o : InnerStep) → inner_at s at to ≡ o → InnerSays o s at to → (group_go (suc bound) s at to end w).fault ≡ 0 → GroupGives at to end found (group_go (suc bound) s at to end w)
      unfolding group_go stopped part
      group_step inner.Back e k =
          rw (e, group_go)
          (λ good.
          let g = outers to end w found fit high (omega arith) n good in
          let none : to - at ≡ 0 = omega arith in
          record { inside = []; more = g.more; group = rw none group_end; list = g.list; notes = g.notes })
      group_step (inner.Part kind from next) e l =
          let c : List ℕ = part s (at + 2) l.size in
          let x : Element = record { kind = kind; content = c } in
          let t : Walk = part_taken s w kind from next at in
          rw (e, group_go)
          (each_eq (λ (r : Walk). r.fault ≡ 0 → GroupGives at to end found r) _ _ _ _
          (λ taken-it good.
          let took = part_took s w kind from next at taken-it in
          let noted = rw took.1 at (note_part w found kind from next (at + 2) l.size l.starts l.ends (λ z. omega (arith, z)) (omega (arith, l.ends, l.fits, fit, high)) n took.0) in
          let g = groups next to end t (found ++ (x ∷ [])) l.fits fit high (omega (arith, l.ends, l.fits)) noted good in
          record {
            inside = x ∷ g.inside;
            more = g.more;
            group = rw (part_element s at l.size next to l.ends l.fits) (sub_element (get_or s at 0) (get_or s (at + 1) 0) kind c {found = g.inside} (rw (length_part s (at + 2) l.size) l.says) g.group);
            list = g.list;
            notes = rw (append_snoc found x (g.inside ++ g.more)) at g.notes;
          })
          (λ bad good. absurd (bad good)))
      group_step (inner.Fault refusal) e k = rw (e, group_go) (λ good. absurd (k good))

  lists_sound : (bound : ℕ) → Outers bound × Groups bound
  lists_sound zero = (λ at end w found low high enough n good. absurd (not-suc-le-zero enough), λ at to end w found low fit high enough n good. absurd (not-suc-le-zero enough))
  lists_sound (suc bound) =
      let outers : Outers bound = (lists_sound bound).0 in
      let groups : Groups bound = (lists_sound bound).1 in (
        λ at end w found low high enough n good. outer_step bound outers groups at end w found low high enough n (outer_at s at end) refl (outer_says s at bytes end) good,
        λ at to end w found low fit high enough n good. group_step bound outers groups at to end w found low fit high enough n (inner_at s at to) refl (inner_says s at bytes to) good,
      )

  pub payload_sound : (at end : ℕ) → at ≤ end → end ≤ length s → (payload_list s at end).fault ≡ 0 → OuterGives at end [] (payload_list s at end)
  unfolding payload_list
  payload_sound at end low high = (lists_sound (suc (2 * end))).0 at end blank_walk [] low high (omega arith) (notes_none s)

  -- ---- the header list
  pub record HeaderGives (at end : ℕ) (r : HeaderList) : Type 0 where
    pub header : List ℕ
    pub low : ℕ
    pub high : ℕ
    pub skips : HeaderElements header
    pub follows : Descriptor 7 low high 0 126 0
    pub within : r.payload ≤ end
    pub splits : part s at (end - at) ≡ header ++ (low ∷ high ∷ part s r.payload (end - r.payload))

  header_step : (bound at end : ℕ) → ((to : ℕ) → ((header_go bound s to end).payload ≡ 0 → ⊥) → HeaderGives to end (header_go bound s to end)) → (o : HeaderStep) → header_at s at end ≡ o → HeaderSays o s at end
      → ((header_go (suc bound) s at end).payload ≡ 0 → ⊥) → HeaderGives at end (header_go (suc bound) s at end)
  unfolding header_go in_front part
  header_step bound at end go header.End e k = rw (e, header_go) (λ some. absurd (some refl))
  header_step bound at end go (header.Payload from) e (starts, low, d) =
      rw (e, header_go) (λ some. record {
        header = [];
        low = get_or s at 0;
        high = get_or s (at + 1) 0;
        skips = header_end;
        follows = d;
        within = low;
        splits = part_element s at 0 from end (omega (arith, starts)) low;
      })
  header_step bound at end go (header.Element id from to) e l =
      rw (e, header_go) (λ some.
      let g = go to some in
      let c : List ℕ = part s (at + 2) l.size in
      record {
        header = get_or s at 0 ∷ get_or s (at + 1) 0 ∷ (c ++ g.header);
        skips = header_element (get_or s at 0) (get_or s (at + 1) 0) id c (rw (length_part s (at + 2) l.size) l.says.0) l.says.1 l.says.2 g.skips;
        low = g.low;
        high = g.high;
        follows = g.follows;
        within = g.within;
        splits = part_element s at l.size to end l.ends l.fits
            ∙ ap (λ (xs : List ℕ). get_or s at 0 ∷ get_or s (at + 1) 0 ∷ xs) (ap (λ (xs : List ℕ). c ++ xs) g.splits ∙ sym (append_assoc c g.header _));
      })
  header_step bound at end go (header.Fault refusal) e k = rw (e, header_go) (λ some. absurd (some refl))

  header_go_lem : (bound at end : ℕ) → ((header_go bound s at end).payload ≡ 0 → ⊥) → HeaderGives at end (header_go bound s at end)
  unfolding header_go
  header_go_lem zero at end some = absurd (some refl)
  header_go_lem (suc bound) at end some = header_step bound at end (λ to. header_go_lem bound to end) (header_at s at end) refl (header_says s at bytes end) some

  pub header_sound : (at end : ℕ) → ((header_list s at end).payload ≡ 0 → ⊥) → HeaderGives at end (header_list s at end)
  unfolding header_list
  header_sound at end = header_go_lem (suc end) at end
