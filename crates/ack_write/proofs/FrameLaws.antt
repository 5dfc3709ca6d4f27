-- The laws of the frame and of its limits, in the shape in which the code meets them. Assumes nothing.
use Prim.Native.Nat.{ℕ, suc, ◌+◌, ◌*◌, ◌<◌, ◌≤◌}
use mathlib.Core.Path.{◌≡◌, refl, sym, ◌∙◌, ap, subst}
use mathlib.Core.Bool.{Bool, true, false, ◌&&◌, and-false, and-eq-true_iff}
use mathlib.Core.List.{List, ◌++◌, append_assoc}
use native.Mathlib.Omega.{arith}
use Rattle.std.proofs.Math.Bool.{and_assoc}
use borrow.Author.Tests.{lt-ltb, le-ltb, ltb-true}
use lib.Dec.{T, leb, leb→le}
use lib.IntN.{ℤ, pos, negsuc, nat_abs, ◌+ℤ◌}
use lib.Signed.{le_z, lt_z, non_neg}
use lib.ListN.{length, length-append}
use mir.Syntax.{w32, w64}
use mir.Val.{Fits, SFits, to_z, of_z}
use mir.Facts.{to_z-of_z}
use Rattle.octets_spec.specs.Choice.{if_on}
use Rattle.octets_spec.specs.Number.{le_bytes, stored}
use Rattle.mac_header_spec.specs.declared.Address.{Address}
use Rattle.eb_record_spec.specs.Form.{address_fits}
use Rattle.eb_write_spec.specs.Frame.{suppressed_bit, sequence_bytes, address_mode, address_bytes, flag, header_descriptor}
use Rattle.eb_write_spec.specs.Limits.{sequence_fits}
use Rattle.eb_write_spec.proofs.LengthLaws.{length_le, on}
use Rattle.eb_write_spec.proofs.Claimed.{differ}
use Rattle.eb_write_spec.proofs.RowLaws.{two, three, le_joined}
use Rattle.ack_record_spec.specs.declared.Ack.{Ack}
use Rattle.ack_write_spec.specs.Frame.{compression_bit, control_word, mac_header_bytes, correction_bits, correction_word, correction_bytes, frame_of}
use Rattle.ack_write_spec.specs.Limits.{is_correction, fits}

-- ---- frame control
pub control_is : (ack : Ack) (c q d s : ℕ) → c ≡ compression_bit ack.destination ack.source → q ≡ suppressed_bit ack.sequence → d ≡ address_mode ack.destination → s ≡ address_mode ack.source
    → 8706 + c * 64 + q * 256 + d * 1024 + s * 16384 ≡ control_word ack
unfolding control_word
control_is ack c q d s e f g h = rw (e, f, g, h) (omega arith)

-- ---- the parts
pub addresses_put : (s t u : List ℕ) (at : ℕ) (d a : Address) (wide far size near : ℕ) → u ≡ stored t (at + wide) (le_bytes size near) → t ≡ stored s at (le_bytes wide far)
    → wide ≡ length (address_bytes d) → le_bytes (length (address_bytes d)) far ≡ address_bytes d → size ≡ length (address_bytes a) → le_bytes (length (address_bytes a)) near ≡ address_bytes a
    → u ≡ stored s at (address_bytes d ++ address_bytes a)
addresses_put s t u at d a wide far size near f e w one z other =
    let first : le_bytes wide far ≡ address_bytes d = rw w one in
    let second : le_bytes size near ≡ address_bytes a = rw z other in
    two s at (address_bytes d) (address_bytes a) t wide (rw first at e) (sym w) u (rw second at f)

pub header_put : (s t u v : List ℕ) (ack : Ack) (word size number : ℕ) → v ≡ stored u (4 + size) (address_bytes ack.destination ++ address_bytes ack.source) → u ≡ stored t (2 + size) (le_bytes 2 ack.pan) → t ≡ stored s 0 (le_bytes (2 + size) (word + number * 65536))
    → word ≡ control_word ack → word < 65536 → size ≡ length (sequence_bytes ack.sequence) → le_bytes (length (sequence_bytes ack.sequence)) number ≡ sequence_bytes ack.sequence
    → v ≡ stored s 0 (mac_header_bytes ack)
unfolding mac_header_bytes
header_put s t u v ack word size number g f e is low long one =
    let swap : word + number * 65536 ≡ word + 65536 * number = omega arith in
    let byte : le_bytes size number ≡ sequence_bytes ack.sequence = rw long one in
    let first : le_bytes (2 + size) (word + number * 65536) ≡ le_bytes 2 (control_word ack) ++ sequence_bytes ack.sequence = rw (swap, le_joined 2 size word number low, is, byte) in
    let offset : 0 + (2 + size) ≡ 2 + size = omega arith in
    let behind : 0 + (2 + size + 2) ≡ 4 + size = omega arith in
    let addresses : List ℕ = address_bytes ack.destination ++ address_bytes ack.source in
    let all : le_bytes (2 + size) (word + number * 65536) ++ (le_bytes 2 ack.pan ++ addresses) ≡ mac_header_bytes ack = rw first (append_assoc (le_bytes 2 (control_word ack)) (sequence_bytes ack.sequence) _) in
    three s 0 (le_bytes (2 + size) (word + number * 65536)) (le_bytes 2 ack.pan) addresses t u v (2 + size) 2 e (length_le (2 + size) (word + number * 65536)) (rw offset f) (length_le 2 ack.pan) (rw behind g) ∙ ap (stored s 0) all

pub correction_put : (correction z : ℤ) (nack : Bool) (word : ℕ) (s t : List ℕ) (at : ℕ) → t ≡ stored s at (le_bytes 4 (3842 + word * 65536)) → word ≡ correction_word z nack → z ≡ correction → t ≡ stored s at (correction_bytes correction nack)
unfolding correction_bytes header_descriptor
correction_put correction z nack word s t at e is z-is =
    let swap : 3842 + word * 65536 ≡ 3842 + 65536 * word = omega arith in
    e ∙ ap (stored s at) (rw (swap, le_joined 2 2 3842 word (omega arith), is, z-is) refl)

pub frame_put : (s t u : List ℕ) (ack : Ack) (z : ℤ) (at : ℕ) → u ≡ stored t at (correction_bytes z ack.nack) → z ≡ ack.correction → at ≡ length (mac_header_bytes ack) → t ≡ stored s 0 (mac_header_bytes ack) → u ≡ stored s 0 (frame_of ack)
unfolding frame_of
frame_put s t u ack z at f is long e = let offset : 0 + at ≡ at = omega arith in two s 0 (mac_header_bytes ack) _ t at e (sym long) u (rw (offset, ← is) f)

-- ---- lengths
pub header_long : (ack : Ack) (q d s : ℕ) → q ≡ length (sequence_bytes ack.sequence) → d ≡ length (address_bytes ack.destination) → s ≡ length (address_bytes ack.source) → 4 + q + d + s ≡ length (mac_header_bytes ack)
unfolding mac_header_bytes
header_long ack q d s e f g = rw (e, f, g) (simp (length-append, length_le) (omega arith))

pub frame_long : (ack : Ack) (n : ℕ) → n ≡ length (mac_header_bytes ack) → n + 4 ≡ length (frame_of ack)
unfolding frame_of correction_bytes header_descriptor
frame_long ack n e = rw e (simp (length-append, length_le) (omega arith))

-- ---- the correction
abbrev Within : ℤ → Type 0
Within z = is_correction z ≡ true

-- as code reads it from its bits
abbrev read : ℤ → ℤ
read z = to_z w32 (of_z w32 z)

pub is_tested : (z : ℤ) → SFits w32 z → le_z (negsuc 2047) (read z) && le_z (read z) (pos 2047) ≡ is_correction z
unfolding is_correction
is_tested z fits = rw (to_z-of_z fits) refl

-- a negative one is counted from 4096, and another is itself
negative : (z : ℤ) → Within z → lt_z z (pos 0) ≡ true → (z +ℤ pos 4096 ≡ pos (correction_bits z)) × (correction_bits z < 4096)
unfolding correction_bits is_correction
negative (pos n) w below = absurd (omega (arith, ltb-true n 0 below))
negative (negsuc n) w below =
    let few : n ≤ 2047 = leb→le n 2047 (subst T (sym ((and-eq-true_iff (leb n 2047) true).0 w).0) tt) in
    (rw (le-ltb 4096 (suc n) (omega arith)) refl, omega arith)

other : (z : ℤ) → Within z → lt_z z (pos 0) ≡ false → (z ≡ pos (correction_bits z)) × (correction_bits z < 4096)
unfolding correction_bits is_correction
other (pos n) w above = (refl, omega (arith, leb→le n 2047 (subst T (sym w) tt)))
other (negsuc n) w above = differ above

module _ (z : ℤ) (fits : SFits w32 z) (w : Within z) where
  -- what is made of it by a cast to an unsigned number
  module _ (made : ℤ) (is : made ≡ pos (correction_bits z)) (small : correction_bits z < 4096) where
    casts : T (non_neg made) × Fits w64 (nat_abs made)
    casts = rw is (tt, record { fits = omega (arith, small) })

    bits : (nat_abs made ≡ correction_bits z) × (nat_abs made < 4096)
    bits = rw is (refl, small)

  module _ (below : lt_z (read z) (pos 0) ≡ true) where
    sum : (read z +ℤ pos 4096 ≡ pos (correction_bits z)) × (correction_bits z < 4096)
    sum = rw (to_z-of_z fits) (negative z w (rw (to_z-of_z fits) at below))

    pub sum_fits : SFits w32 (read z +ℤ pos 4096)
    sum_fits = rw sum.0 (record { sfits = omega (arith, sum.1) })

    pub sum_casts : T (non_neg (read (read z +ℤ pos 4096))) × Fits w64 (nat_abs (read (read z +ℤ pos 4096)))
    sum_casts = casts (read (read z +ℤ pos 4096)) (to_z-of_z sum_fits ∙ sum.0) sum.1

    pub sum_bits : (nat_abs (read (read z +ℤ pos 4096)) ≡ correction_bits z) × (nat_abs (read (read z +ℤ pos 4096)) < 4096)
    sum_bits = bits (read (read z +ℤ pos 4096)) (to_z-of_z sum_fits ∙ sum.0) sum.1

  module _ (above : lt_z (read z) (pos 0) ≡ false) where
    same : (read z ≡ pos (correction_bits z)) × (correction_bits z < 4096)
    same = let is = other z w (rw (to_z-of_z fits) at above) in (to_z-of_z fits ∙ is.0, is.1)

    pub same_casts : T (non_neg (read z)) × Fits w64 (nat_abs (read z))
    same_casts = casts (read z) same.0 same.1

    pub same_bits : (nat_abs (read z) ≡ correction_bits z) × (nat_abs (read z) < 4096)
    same_bits = bits (read z) same.0 same.1

-- the content of the element
pub word_is : (z y : ℤ) (nack : Bool) (b mark : ℕ) → b ≡ correction_bits y → y ≡ z → b < 4096 → mark ≡ flag nack → (b + mark * 32768 ≡ correction_word z nack) × (b + mark * 32768 < 65536)
unfolding correction_word if_on
word_is z y true b mark e y_is small on = (rw (on, ← y_is, ← e), rw on (omega arith))
word_is z y false b mark e y_is small off = (rw (off, ← y_is, ← e), rw off (omega arith))

-- ---- the limits
pub fits_is : (ack : Ack) (z : ℤ) (q d s k : Bool) → q ≡ sequence_fits ack.sequence → ack.pan < 65536 → d ≡ address_fits ack.destination → s ≡ address_fits ack.source → k ≡ is_correction z → z ≡ ack.correction → q && d && s && k ≡ fits ack
unfolding fits
fits_is ack z q d s k e small f g h is = simp and_assoc (rw (e, f, g, h, is, lt-ltb ack.pan 65536 small))

-- a record within the limits has a correction within its own
pub correction_within : (ack : Ack) → fits ack ≡ true → is_correction ack.correction ≡ true
unfolding fits
correction_within ack within = on (is_correction ack.correction) (λ off. simp (off, and-false) at within)

-- and one whose correction is not is outside the limits
pub correction_outside : (ack : Ack) (r : Bool) (z : ℤ) → r ≡ is_correction z → z ≡ ack.correction → r ≡ false → fits ack ≡ true → ⊥
correction_outside ack r z is same off within = let on = correction_within ack within in cc
