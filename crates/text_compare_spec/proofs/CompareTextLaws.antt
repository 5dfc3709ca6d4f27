-- The laws of a comparison's text, in the shape in which the code meets them: a line's parts, lines one by one, and the whole. Assumes nothing.
use Prim.Native.Nat.{ℕ, ◌+◌, ◌*◌, ◌<◌, ◌≤◌}
use mathlib.Core.Path.{◌≡◌, refl, sym}
use mathlib.Core.Bool.{false}
use mathlib.Core.List.{List, [], ◌∷◌, ◌++◌, append-nil, append_assoc}
use native.Mathlib.Numerals.{add-one}
use native.Mathlib.Omega.{arith}
use lib.Dec.{lit≤}
use lib.ListN.{length, get_or, take}
use lib.Seq.{take-suc, take-length}
use Rattle.octets_spec.specs.Choice.{if_on}
use Rattle.octets_spec.proofs.ChoiceLaws.{if_off_lem}
use Rattle.eb_fields_spec.specs.declared.Content.{Content}
use Rattle.eb_fields_spec.specs.Fields.{name_at}
use Rattle.compare_spec.specs.declared.Difference.{Difference}
use Rattle.compare_spec.specs.declared.Differences.{Differences as DifferencesGiven}
use Rattle.compare_spec.specs.declared.Refused.{Refused}
use Rattle.compare_spec.specs.declared.Refused.TheVariants.{First, Second, Both}
use Rattle.compare_spec.specs.Compare.{Comparison, list_in, no_list, comparison_of}
use Rattle.refusal.specs.declared.Refusal.{Refusal}
use Rattle.refusal.specs.Refusal.{number_of}
use Rattle.std.specs.Prelude.{Result, Ok, Err}
use Rattle.text_put_spec.specs.Part.{newline, refused_name, field, PartPut}
use Rattle.text_put_spec.proofs.PartLaws.{row, wider, nothing_put}
use Rattle.text_fields_spec.specs.ContentText.{content_text}
use Rattle.text_compare_spec.specs.CompareText.{blank, side_text, line_text, lines_text, refused_text, compared_text}

-- ---- parts in a row
module _ (s t u : List ℕ) (at a b : ℕ) where
  pub side_put : (c : Content) → PartPut 1 s at blank t a → PartPut 53 t a (content_text c) u b → PartPut 54 s at (side_text c) u b
  unfolding side_text
  side_put c first second = row 1 53 at a b s t u _ _ first second

  module _ (v : List ℕ) (c : ℕ) where
    pub refused_put : (first second wide more : ℕ) → wide ≡ first → more ≡ second → PartPut 28 s at (field refused_name wide) t a → PartPut 21 t a (field blank more) u b → PartPut 1 u b newline v c → PartPut 50 s at (refused_text first second) v c
    unfolding refused_text
    refused_put first second wide more same also one two three = rw (← same, ← also) (row 28 22 at a c s t v _ _ one (row 21 1 a b c t u v _ _ two three))

    module _ (w : List ℕ) (d : ℕ) where
      pub line_put : (x : Difference) → PartPut 40 s at (name_at x.place) t a → PartPut 54 t a (side_text x.first) u b → PartPut 54 u b (side_text x.second) v c → PartPut 1 v c newline w d → PartPut 149 s at (line_text x) w d
      unfolding line_text
      line_put x one two three four = row 40 109 at a d s t w _ _ one (row 54 55 a b d t u w _ _ two (row 54 1 b c d u v w _ _ three four))

-- ---- lines, one by one
lines_append : (xs ys : List Difference) → lines_text (xs ++ ys) ≡ lines_text xs ++ lines_text ys
unfolding lines_text
lines_append [] ys = refl
lines_append (x ∷ xs) ys = rw (lines_append xs ys) (sym (append_assoc (line_text x) (lines_text xs) (lines_text ys)))

module _ (s : List ℕ) (l : List Difference) (at : ℕ) where
  pub lines_begin : PartPut (149 * 0) s at (lines_text (take 0 l)) s at
  unfolding lines_text
  lines_begin = nothing_put s at

  module _ (t : List ℕ) (a i : ℕ) (so_far : PartPut (149 * i) s at (lines_text (take i l)) t a) where
    pub lines_next : (u : List ℕ) (b : ℕ) (d : Difference) → i < length l → PartPut 149 t a (line_text (get_or l i d)) u b → PartPut (149 * (i + 1)) s at (lines_text (take (i + 1) l)) u b
    unfolding lines_text
    lines_next u b d h next =
        let last : Difference = get_or l i d in
        let most : 149 * i + 149 ≡ 149 * (i + 1) = omega arith in
        let whole : lines_text (take (i + 1) l) ≡ lines_text (take i l) ++ line_text last = rw (add-one i, take-suc l i d h, lines_append (take i l) (last ∷ []), append-nil (line_text last)) in
        rw (whole, ← most) (row (149 * i) 149 at a b s t u _ _ so_far next)

    pub lines_end : i ≤ length l → length l ≤ i → PartPut (149 * length l) s at (lines_text l) t a
    lines_end h k = let all : i ≡ length l = omega (arith, h, k) in rw (all, take-length l) at so_far

-- ---- the whole text
module _ (y : Comparison) (s t : List ℕ) (at r : ℕ) (x : Result DifferencesGiven Refused) (answer : comparison_of x ≡ y) where
  pub text_listed : (found : DifferencesGiven) (list : List Difference) → x ≡ Ok found → list ≡ take found.count found.entries → length list ≤ 77 → PartPut (149 * length list) s at (lines_text list) t r → PartPut 11473 s at (compared_text y) t r
  unfolding compared_text list_in if_on
  text_listed found list e is short put =
      let this : comparison_of (Ok found) ≡ y = rw e at answer in rw (← this, ← is) (wider (149 * length list) 11473 at r s t _ (omega (arith, short)) put)

  module _ (first second : ℕ) (put : PartPut 50 s at (refused_text first second) t r) where
    pub text_refused : y.differences.listed ≡ false → first ≡ y.first → second ≡ y.second → PartPut 11473 s at (compared_text y) t r
    unfolding compared_text
    text_refused none one other =
        let line : refused_text first second ≡ compared_text y = rw (one, other) (if_off_lem _ _ _ none refl) in
        rw (← line) (wider 50 11473 at r s t _ (lit≤ tt) put)

    pub first_refused : (why : Refused) (refusal : Refusal) → x ≡ Err why → why ≡ First refusal → first ≡ number_of refusal → second ≡ 0 → PartPut 11473 s at (compared_text y) t r
    unfolding no_list
    first_refused why refusal e is one other = let this : comparison_of (Err (First refusal)) ≡ y = rw (e, is) at answer in text_refused (rw (← this) refl) (rw (← this) one) (rw (← this) other)

    pub second_refused : (why : Refused) (refusal : Refusal) → x ≡ Err why → why ≡ Second refusal → first ≡ 0 → second ≡ number_of refusal → PartPut 11473 s at (compared_text y) t r
    unfolding no_list
    second_refused why refusal e is one other = let this : comparison_of (Err (Second refusal)) ≡ y = rw (e, is) at answer in text_refused (rw (← this) refl) (rw (← this) one) (rw (← this) other)

    pub both_refused : (why : Refused) (one other : Refusal) → x ≡ Err why → why ≡ Both one other → first ≡ number_of one → second ≡ number_of other → PartPut 11473 s at (compared_text y) t r
    unfolding no_list
    both_refused why one other e is left right = let this : comparison_of (Err (Both one other)) ≡ y = rw (e, is) at answer in text_refused (rw (← this) refl) (rw (← this) left) (rw (← this) right)

-- every text has room
pub text_room : 11473 ≤ 11473
text_room = lit≤ tt

pub ruleset compareTexts = (side_put, refused_put, line_put, lines_begin, lines_next, lines_end, text_listed, first_refused, second_refused, both_refused, text_room)
