-- The laws of text in a buffer, in the shape in which the code meets them: a number's digits, a text that is copied, and a text that fits or does not. Assumes nothing.
use Prim.Native.Nat.{ℕ, zero, suc, ◌+◌, ◌-◌, ◌/◌, ◌%◌, ◌^◌, ◌<◌, ◌≤◌, min, max}
use mathlib.Core.Path.{◌≡◌, refl, sym, ◌∙◌, ap}
use mathlib.Core.List.{List, [], ◌∷◌, ◌++◌, append_assoc}
use native.Mathlib.Nat.{pow-suc, one-le-pow, add-zero}
use native.Mathlib.Omega.{arith}
use lib.Dec.{lit<, lit≤}
use lib.ListN.{length, take, drop, length-append}
use lib.Seq.{sets, sets-eq, drop-drop}
use borrow.Rule.Slice.PartMut.{put_mid}
use Rattle.octets_spec.specs.Number.{stored}
use Rattle.octets_spec.proofs.ChoiceLaws.{if_lt_lem, if_ge, by_lt}
use Rattle.io.specs.Digits.{hex_digit_ascii, last_digits, IsDigitCount}
use Rattle.text_put_spec.specs.Text.{width_go, decimal, hexadecimal, fitting}

-- ---- a number has the fewest digits that hold it
-- what the laws below need of a base
record Base (base : ℕ) : Type 0 where
  over : (n k : ℕ) → n < base ^ suc k → n / base < base ^ k
  under : (n k : ℕ) → base ^ suc k ≤ n → base ^ k ≤ n / base
  many : (n k : ℕ) → base ^ suc k ≤ n → base ≤ n
  first : (n : ℕ) → n < base ^ 1 → n < base
  smaller : (n bound : ℕ) → n < suc bound → base ≤ n → n / base < bound

ten : Base 10
ten = record {
  over = λ n k h. omega (arith, pow-suc 10 k, h);
  under = λ n k h. omega (arith, pow-suc 10 k, h);
  many = λ n k h. omega (arith, pow-suc 10 k, one-le-pow k 10 (lit< tt), h);
  first = λ n h. h;
  smaller = λ n bound h m. omega (arith, h, m);
}

sixteen : Base 16
sixteen = record {
  over = λ n k h. omega (arith, pow-suc 16 k, h);
  under = λ n k h. omega (arith, pow-suc 16 k, h);
  many = λ n k h. omega (arith, pow-suc 16 k, one-le-pow k 16 (lit< tt), h);
  first = λ n h. h;
  smaller = λ n bound h m. omega (arith, h, m);
}

module _ (base : ℕ) (is : Base base) where
  shorter : (n k : ℕ) → IsDigitCount base 1 n (suc (suc k)) → (base ≤ n) × IsDigitCount base 1 (n / base) (suc k)
  shorter n k h =
      let less : suc (suc k) - 1 ≡ suc k = omega arith in
      let same : suc k - 1 ≡ k = omega arith in
      let least : base ^ suc k ≤ n = rw less at (h.2 (omega arith)) in
      (is.many n k least, (omega arith, is.over n (suc k) h.1, λ more. rw same (is.under n k least)))

  width_is : (bound n k : ℕ) → n < bound → IsDigitCount base 1 n k → k ≡ width_go base bound n
  unfolding width_go
  width_is zero n k lt h = absurd (omega arith)
  width_is (suc bound) n zero lt h = absurd (omega (arith, h.0))
  width_is (suc bound) n (suc zero) lt h = if_lt_lem _ _ n base (is.first n h.1) refl
  width_is (suc bound) n (suc (suc k)) lt h =
      let next = shorter n k h in
      let rest : suc k ≡ width_go base bound (n / base) = width_is bound (n / base) (suc k) (is.smaller n bound lt next.0) next.1 in
      if_ge _ _ n base next.0 (rw (← rest) (omega arith))

  width_most : (bound n k : ℕ) → n < base ^ suc k → width_go base bound n ≤ suc k
  unfolding width_go
  width_most zero n k small = omega arith
  width_most (suc bound) n zero small = let one : 1 ≡ width_go base (suc bound) n = if_lt_lem _ _ n base (is.first n small) refl in rw (← one) (omega arith)
  width_most (suc bound) n (suc k) small =
      by_lt n base
      (λ lt. let one : 1 ≡ width_go base (suc bound) n = if_lt_lem _ _ n base lt refl in rw (← one) (omega arith))
      (λ ge.
      let rest : width_go base bound (n / base) ≤ suc k = width_most bound (n / base) k (is.over n (suc k) small) in
      let more : width_go base bound (n / base) + 1 ≡ width_go base (suc bound) n = if_ge _ _ n base ge refl in
      rw (← more) (omega (arith, rest)))

pub decimal_is : (n k : ℕ) → IsDigitCount 10 1 n k → last_digits 10 k n ≡ decimal n
unfolding decimal
decimal_is n k h = ap (λ (w : ℕ). last_digits 10 w n) (width_is 10 ten (suc n) n k (omega arith) h)

-- a u64 has at most 20 digits
length_digits : (base k n : ℕ) → length (last_digits base k n) ≡ k
length_digits base zero n = refl
length_digits base (suc k) n = omega (arith, length-append (last_digits base k (n / base)) (hex_digit_ascii (n % base) ∷ []), length_digits base k (n / base))

most : 18446744073709551616 ≤ 10 ^ 20
most = lit≤ tt

pub decimal_short : (n : ℕ) → n < 18446744073709551616 → length (decimal n) ≤ 20
unfolding decimal
decimal_short n small = rw (length_digits 10 (width_go 10 (suc n) n) n) (width_most 10 ten (suc n) n 19 (omega (arith, small, most)))

-- a number in hex has its own digits, or as many as it is asked to have at least
width_some : (n : ℕ) → 1 ≤ width_go 16 (suc n) n
unfolding width_go
width_some n =
    by_lt n 16
    (λ lt. let one : 1 ≡ width_go 16 (suc n) n = if_lt_lem _ _ n 16 lt refl in rw (← one) (omega arith))
    (λ ge. let more : width_go 16 n (n / 16) + 1 ≡ width_go 16 (suc n) n = if_ge _ _ n 16 ge refl in rw (← more) (omega arith))

hex_width : (n k width : ℕ) → IsDigitCount 16 (min (max width 1) 16) n k → k ≡ max (min width 16) (width_go 16 (suc n) n)
hex_width n k width h =
    by_lt (min (max width 1) 16) k
    (λ more.
    let own : k ≡ width_go 16 (suc n) n = width_is 16 sixteen (suc n) n k (omega arith) (omega arith, h.1, λ _. h.2 more) in
    omega (arith, own, more))
    (λ few.
    let at_least : min (max width 1) 16 ≤ k = h.0 in
    let size : k ≡ suc (k - 1) = omega arith in
    let own : width_go 16 (suc n) n ≤ suc (k - 1) = width_most 16 sixteen (suc n) n (k - 1) (rw size at h.1) in
    omega (arith, own, few, at_least, width_some n))

-- a number of so many digits has no more in hex than these and those that it is asked to have
pub hex_short : (n width k : ℕ) → n < 16 ^ suc k → min width 16 ≤ suc k → length (hexadecimal width n) ≤ suc k
unfolding hexadecimal
hex_short n width k small asked = rw (length_digits 16 (max (min width 16) (width_go 16 (suc n) n)) n) (omega (arith, asked, width_most 16 sixteen (suc n) n k small))

hex_is : (n k width : ℕ) → IsDigitCount 16 (min (max width 1) 16) n k → last_digits 16 k n ≡ hexadecimal width n
unfolding hexadecimal
hex_is n k width h = ap (λ (w : ℕ). last_digits 16 w n) (hex_width n k width h)

-- ---- a text copied over the bytes from an offset on, where it has room
module _ (s t text : List ℕ) (at : ℕ) (short : length text ≤ length s) (early : at ≤ length s - length text) (same : t ≡ text) where
  pub copied : put_mid at (at + length text - at) s t ≡ stored s at text
  unfolding stored
  copied =
      let size : at + length text - at ≡ length text = omega arith in
      let whole : sets s at text ≡ take at s ++ text ++ drop (at + length text) s = sets-eq text s at (omega (arith, short, early)) in
      rw (same, size, whole, append_assoc, drop-drop (length text) at s) refl

-- ---- a text fits, or it does not
module _ (room at : ℕ) (text : List ℕ) where
  pub fits : at + length text ≤ room → text ≡ fitting room at text
  unfolding fitting
  fits wide = if_ge _ _ room (at + length text) wide refl

  nothing : room < at + length text → fitting room at text ≡ []
  unfolding fitting
  nothing small = sym (if_lt_lem _ _ room (at + length text) small refl)

module _ (s text : List ℕ) (at : ℕ) where
  none_answer : length s < at + length text → at ≡ at + length (fitting (length s) at text)
  none_answer small = rw (nothing (length s) at text small) (sym (add-zero at))

  none_buffer : length s < at + length text → s ≡ stored s at (fitting (length s) at text)
  unfolding stored
  none_buffer small = rw (nothing (length s) at text small) refl

  -- longer than the buffer
  pub long_answer : length s < length text → at ≡ at + length (fitting (length s) at text)
  long_answer small = none_answer (omega arith)

  pub long_buffer : length s < length text → s ≡ stored s at (fitting (length s) at text)
  long_buffer small = none_buffer (omega arith)

  -- not so long, but the offset leaves too little room
  pub late_answer : length text ≤ length s → length s - length text < at → at ≡ at + length (fitting (length s) at text)
  late_answer short late = none_answer (omega arith)

  pub late_buffer : length text ≤ length s → length s - length text < at → s ≡ stored s at (fitting (length s) at text)
  late_buffer short late = none_buffer (omega arith)

  pub all_answer : (r : ℕ) → length text ≤ length s → at ≤ length s - length text → r ≡ at + length text → r ≡ at + length (fitting (length s) at text)
  all_answer r short early e = rw (← fits (length s) at text (omega arith)) e

  pub all_buffer : (t : List ℕ) → length text ≤ length s → at ≤ length s - length text → t ≡ stored s at text → t ≡ stored s at (fitting (length s) at text)
  all_buffer t short early e = rw (← fits (length s) at text (omega arith)) e

-- the digits of a number that a buffer holds
module _ (s d : List ℕ) (at k n : ℕ) (e : take k d ≡ last_digits 10 k n) (h : IsDigitCount 10 1 n k) where
  pub decimal_answer : (r : ℕ) → r ≡ at + length (fitting (length s) at (take k d)) → r ≡ at + length (fitting (length s) at (decimal n))
  decimal_answer r put = let same : take k d ≡ decimal n = e ∙ decimal_is n k h in rw same at put

  pub decimal_buffer : (t : List ℕ) → t ≡ stored s at (fitting (length s) at (take k d)) → t ≡ stored s at (fitting (length s) at (decimal n))
  decimal_buffer t put = let same : take k d ≡ decimal n = e ∙ decimal_is n k h in rw same at put

module _ (s d : List ℕ) (at k n width : ℕ) (e : take k d ≡ last_digits 16 k n) (h : IsDigitCount 16 (min (max width 1) 16) n k) where
  pub hex_answer : (r : ℕ) → r ≡ at + length (fitting (length s) at (take k d)) → r ≡ at + length (fitting (length s) at (hexadecimal width n))
  hex_answer r put = let same : take k d ≡ hexadecimal width n = e ∙ hex_is n k width h in rw same at put

  pub hex_buffer : (t : List ℕ) → t ≡ stored s at (fitting (length s) at (take k d)) → t ≡ stored s at (fitting (length s) at (hexadecimal width n))
  hex_buffer t put = let same : take k d ≡ hexadecimal width n = e ∙ hex_is n k width h in rw same at put

pub ruleset texts = (copied, long_answer, long_buffer, late_answer, late_buffer, all_answer, all_buffer, decimal_answer, decimal_buffer, hex_answer, hex_buffer)
