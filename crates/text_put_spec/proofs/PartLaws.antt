-- The laws of a line's parts, in the shape in which the code meets them: one part, parts in a row, and the whole line. Assumes nothing.
use Prim.Native.Nat.{ℕ, ◌+◌, ◌*◌, ◌<◌, ◌≤◌}
use mathlib.Core.Path.{◌≡◌, refl, sym, ◌∙◌, ap}
use mathlib.Core.List.{List, [], ◌∷◌, ◌++◌, append-nil, append_assoc}
use native.Mathlib.Numerals.{add-one}
use native.Mathlib.Omega.{arith}
use lib.ListN.{length, get_or, take, length-append}
use lib.Seq.{sets-eq, length-sets, length-take-le, take-suc, take-length}
use Rattle.octets_spec.specs.Number.{stored}
use Rattle.octets_spec.proofs.ChoiceLaws.{if_lt_lem, if_ge}
use Rattle.octets_spec.proofs.PutLaws.{sets_append}
use Rattle.io.specs.Counts.{IsPrefixLen}
use Rattle.text_put_spec.specs.Text.{decimal, hexadecimal, hex_octets, fitting}
use Rattle.text_put_spec.specs.Part.{newline, refused_name, field, refused_text, line_in, starts_with, PartPut}
use Rattle.text_put_spec.proofs.TextLaws.{fits, decimal_short, hex_short}

-- ---- one part
module _ (most at r : ℕ) (s t text : List ℕ) (short : length text ≤ most) (behind : r ≡ at + length (fitting (length s) at text)) (put : t ≡ stored s at (fitting (length s) at text)) where
  part : PartPut most s at text t r
  unfolding stored
  part =
      let same : at + most ≤ length s → text ≡ fitting (length s) at text = λ wide. fits (length s) at text (omega (arith, wide, short)) in
      record {
        short = short;
        size = ap length put ∙ length-sets s at (fitting (length s) at text);
        bytes = λ wide. rw (← same wide) at put;
        offset = λ wide. rw (← same wide) at behind;
      }

module _ (s t : List ℕ) (at r : ℕ) where
  pub text_part : (text : List ℕ) → r ≡ at + length (fitting (length s) at text) → t ≡ stored s at (fitting (length s) at text) → PartPut (length text) s at text t r
  text_part text behind put = part (length text) at r s t text (omega arith) behind put

  pub decimal_part : (n : ℕ) → n < 18446744073709551616 → r ≡ at + length (fitting (length s) at (decimal n)) → t ≡ stored s at (fitting (length s) at (decimal n)) → PartPut 20 s at (decimal n) t r
  decimal_part n small behind put = part 20 at r s t (decimal n) (decimal_short n small) behind put

  pub hex_part : (n width : ℕ) → n < 18446744073709551616 → r ≡ at + length (fitting (length s) at (hexadecimal width n)) → t ≡ stored s at (fitting (length s) at (hexadecimal width n)) → PartPut 16 s at (hexadecimal width n) t r
  hex_part n width small behind put = part 16 at r s t (hexadecimal width n) (hex_short n width 15 small (omega arith)) behind put

  pub octet_part : (n : ℕ) → n < 256 → r ≡ at + length (fitting (length s) at (hexadecimal 2 n)) → t ≡ stored s at (fitting (length s) at (hexadecimal 2 n)) → PartPut 2 s at (hexadecimal 2 n) t r
  octet_part n small behind put = part 2 at r s t (hexadecimal 2 n) (hex_short n 2 1 small (omega arith)) behind put

-- no part
pub nothing_put : (s : List ℕ) (at : ℕ) → PartPut 0 s at [] s at
unfolding stored
nothing_put s at = record {
  short = omega arith;
  size = refl;
  bytes = λ _. refl;
  offset = λ _. omega arith;
}

-- ---- parts in a row
module _ (most more at a b : ℕ) (s t u xs ys : List ℕ) (first : PartPut most s at xs t a) (second : PartPut more t a ys u b) where
  pub row : PartPut (most + more) s at (xs ++ ys) u b
  unfolding stored
  row =
      let room : at + (most + more) ≤ length s → at + most ≤ length s = λ wide. omega (arith, wide) in
      let left : at + (most + more) ≤ length s → a + more ≤ length t = λ wide. omega (arith, wide, first.offset (room wide), first.short, first.size) in
      record {
        short = omega (arith, length-append xs ys, first.short, second.short);
        size = second.size ∙ first.size;
        bytes = λ wide. rw (second.bytes (left wide), first.offset (room wide), first.bytes (room wide)) (sym (sets_append s xs ys at));
        offset = λ wide. omega (arith, second.offset (left wide), first.offset (room wide), length-append xs ys);
      }

-- a part of at most so many bytes is one of at most more
pub wider : (most more at r : ℕ) (s t xs : List ℕ) → most ≤ more → PartPut most s at xs t r → PartPut more s at xs t r
wider most more at r s t xs le put = record {
  short = omega (arith, put.short, le);
  size = put.size;
  bytes = λ wide. put.bytes (omega (arith, wide, le));
  offset = λ wide. put.offset (omega (arith, wide, le));
}

module _ (s t u : List ℕ) (at a b : ℕ) where
  pub field_put : (name : List ℕ) (n : ℕ) → PartPut (length name) s at name t a → PartPut 20 t a (decimal n) u b → PartPut (length name + 20) s at (field name n) u b
  unfolding field
  field_put name n first second = row (length name) 20 at a b s t u name (decimal n) first second

  pub refused_put : (number wide : ℕ) → wide ≡ number → PartPut 28 s at (field refused_name wide) t a → PartPut 1 t a newline u b → PartPut 29 s at (refused_text number) u b
  unfolding refused_text
  refused_put number wide same first second = rw (← same) (row 28 1 at a b s t u _ newline first second)

-- ---- octets, one by one
hex_append : (xs ys : List ℕ) → hex_octets (xs ++ ys) ≡ hex_octets xs ++ hex_octets ys
unfolding hex_octets
hex_append [] ys = refl
hex_append (x ∷ xs) ys = rw (hex_append xs ys) (sym (append_assoc (hexadecimal 2 x) (hex_octets xs) (hex_octets ys)))

module _ (s l : List ℕ) (at : ℕ) where
  pub octets_begin : PartPut (2 * 0) s at (hex_octets (take 0 l)) s at
  unfolding hex_octets
  octets_begin = nothing_put s at

  module _ (t : List ℕ) (a i : ℕ) (so_far : PartPut (2 * i) s at (hex_octets (take i l)) t a) where
    pub octets_next : (u : List ℕ) (b : ℕ) → i < length l → PartPut 2 t a (hexadecimal 2 (get_or l i 0)) u b → PartPut (2 * (i + 1)) s at (hex_octets (take (i + 1) l)) u b
    unfolding hex_octets
    octets_next u b h next =
        let most : 2 * i + 2 ≡ 2 * (i + 1) = omega arith in
        let whole : hex_octets (take (i + 1) l) ≡ hex_octets (take i l) ++ hexadecimal 2 (get_or l i 0) = rw (add-one i, take-suc l i 0 h, hex_append (take i l) (get_or l i 0 ∷ []), append-nil (hexadecimal 2 (get_or l i 0))) in
        rw (whole, ← most) (row (2 * i) 2 at a b s t u _ _ so_far next)

    pub octets_end : i ≤ length l → length l ≤ i → PartPut (2 * length l) s at (hex_octets l) t a
    octets_end h k = let all : i ≡ length l = omega (arith, h, k) in rw (all, take-length l) at so_far

-- ---- the line: a buffer is too small for it, or it is not
module _ (least : ℕ) (s line : List ℕ) (small : length s < least) where
  too_small : line_in least (length s) line ≡ []
  unfolding line_in
  too_small = sym (if_lt_lem _ _ (length s) least small refl)

  pub small_answer : 0 ≡ length (line_in least (length s) line)
  small_answer = rw too_small refl

  pub small_buffer : s ≡ starts_with (line_in least (length s) line) s
  unfolding starts_with
  small_buffer = rw too_small refl

pub small_counts : (s : List ℕ) → IsPrefixLen 0 s
small_counts s = (omega arith, refl)

module _ (most least r : ℕ) (s t xs : List ℕ) (put : PartPut most s 0 xs t r) (room : most ≤ least) (wide : least ≤ length s) where
  end : r ≡ length xs
  end = omega (arith, put.offset (omega (arith, room, wide)))

  starts : t ≡ starts_with xs s
  unfolding stored starts_with
  starts =
      let start : 0 + length xs ≡ length xs = omega arith in
      let within : 0 + length xs ≤ length s = omega (arith, put.short, room, wide) in
      rw (put.bytes (omega (arith, room, wide))) (rw start at (sets-eq xs s 0 within))

  whole : (line : List ℕ) → xs ≡ line → xs ≡ line_in least (length s) line
  unfolding line_in
  whole line same = if_ge _ _ (length s) least wide same

  pub line_answer : (line : List ℕ) → xs ≡ line → r ≡ length (line_in least (length s) line)
  line_answer line same = rw (← whole line same) end

  pub line_buffer : (line : List ℕ) → xs ≡ line → t ≡ starts_with (line_in least (length s) line) s
  line_buffer line same = rw (← whole line same) starts

  pub line_counts : IsPrefixLen r t
  line_counts =
      let within : r ≤ length t = omega (arith, end, put.short, put.size, room, wide) in
      (within, sym (length-take-le r t within))

pub ruleset parts = (text_part, decimal_part, hex_part, octet_part, field_put, refused_put, octets_begin, octets_next, octets_end)

pub ruleset lines = (small_answer, small_buffer, small_counts, line_answer, line_buffer, line_counts)
