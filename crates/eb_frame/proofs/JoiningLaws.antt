-- The laws of putting joining information, in the shape in which the code meets them. Assumes nothing.
use Prim.Native.Nat.{ℕ, ◌+◌, ◌*◌, ◌<◌, ◌≤◌, min}
use mathlib.Core.Path.{◌≡◌, refl, sym, ◌∙◌, ap}
use mathlib.Core.Bool.{Bool, true, false}
use mathlib.Core.List.{List, [], ◌∷◌, ◌++◌, append_assoc}
use native.Mathlib.Nat.{mod-eq_of_lt}
use native.Mathlib.Omega.{arith}
use lib.ListN.{length, get_or, take, length-append}
use lib.Seq.{take_all, length-take-le}
use mir.Val.{bool_byte}
use Rattle.std.proofs.lemmas.List.{take_more}
use Rattle.octets_spec.specs.Choice.{if_on}
use Rattle.octets_spec.specs.Number.{le_bytes, be_bytes, stored}
use Rattle.octets_spec.proofs.ChoiceLaws.{if_on_lem, if_off_lem}
use Rattle.eb_record_spec.specs.declared.JoiningInformation.{JoiningInformation}
use Rattle.eb_write_spec.specs.Frame.{group_descriptor, flag, joining_word, joining_size, joining_bytes}
use Rattle.eb_write_spec.proofs.LengthLaws.{length_le, length_be}
use Rattle.eb_write_spec.proofs.RangeLaws.{clip_take}
use Rattle.eb_write_spec.proofs.RowLaws.{two, nothing, le_joined}

-- ---- the bytes of a network ID, of which some are put
one_byte : (b : ℕ) → b < 256 → le_bytes 1 b ≡ b ∷ []
unfolding le_bytes
one_byte b small = rw (mod-eq_of_lt small)

module _ (s : List ℕ) (at : ℕ) (bs : List ℕ) (i : ℕ) (t : List ℕ) (put : t ≡ stored s at (take i bs)) where
  pub bytes_next : (b : ℕ) (u : List ℕ) → i < length bs → b ≡ get_or bs i 0 → b < 256 → u ≡ stored t (at + i) (le_bytes 1 b) → u ≡ stored s at (take (i + 1) bs)
  bytes_next b u within is small e = rw (take_more bs i 0 within, sym is) (two s at (take i bs) (b ∷ []) t i put (length-take-le i bs (omega arith)) u (rw (one_byte b small) at e))

  pub bytes_end : length bs ≤ i → t ≡ stored s at bs
  bytes_end over = put ∙ ap (stored s at) (take_all i bs over)

-- ---- the numbers
pub flag_is : (set : Bool) → bool_byte set ≡ flag set
unfolding if_on
flag_is true = refl
flag_is false = refl

pub word_is : (j : JoiningInformation) (r p : ℕ) → r ≡ flag j.router → p ≡ flag j.proxied → r * 2147483648 + p * 1073741824 + j.proxy * 1048576 + j.rank * 256 + j.pan ≡ joining_word j
unfolding joining_word
word_is j r p e f = rw (e, f)

-- ---- the parts
address_bytes_lem : (proxied : Bool) (n : ℕ) → be_bytes (8 * flag proxied) n ≡ if_on proxied (be_bytes 8 n) []
unfolding if_on be_bytes
address_bytes_lem true n = refl
address_bytes_lem false n = refl

length_start : (j : JoiningInformation) → length (group_descriptor 5 (joining_size j) ++ (le_bytes 1 2 ++ be_bytes 4 (joining_word j))) ≡ 7
unfolding group_descriptor
length_start j = simp (length-append, length_le, length_be) refl

module _ (s : List ℕ) (at : ℕ) (j : JoiningInformation) where
  module _ (t u : List ℕ) where
    pub joining_starts : (size word : ℕ) → size ≡ joining_size j → size ≤ 268 → word ≡ joining_word j → t ≡ stored s at (le_bytes 3 (size + 43008 + 131072)) → u ≡ stored t (at + 3) (be_bytes 4 word)
        → u ≡ stored s at (group_descriptor 5 (joining_size j) ++ (le_bytes 1 2 ++ be_bytes 4 (joining_word j)))
    unfolding group_descriptor
    joining_starts size word is small w e f =
        let head : le_bytes 3 (size + 43008 + 131072) ≡ le_bytes 2 (size + 10240 + 32768) ++ le_bytes 1 2 =
        let one : size + 43008 + 131072 ≡ size + 10240 + 32768 + 65536 * 2 = omega arith in
        rw one (le_joined 2 1 (size + 10240 + 32768) 2 (omega arith)) in
        rw (sym is, sym w) (two s at _ _ t 3 e (length_le 3 (size + 43008 + 131072)) u f ∙ ap (stored s at) (rw head (append_assoc (le_bytes 2 (size + 10240 + 32768)) (le_bytes 1 2) (be_bytes 4 word))))

    pub rest_put : (p used : ℕ) → p ≡ flag j.proxied → length j.network ≡ 16 → used ≡ min j.length 16 → t ≡ stored s at (be_bytes (8 * p) j.address) → u ≡ stored t (at + 8 * p) (take used j.network)
        → u ≡ stored s at (if_on j.proxied (be_bytes 8 j.address) [] ++ take j.length j.network)
    rest_put p used w long is e f =
        two s at _ _ t (8 * p) e (length_be (8 * p) j.address) u (rw (is, clip_take j.network j.length 16 long) at f)
        ∙ ap (stored s at) (rw (w, address_bytes_lem j.proxied j.address))

    pub joining_put : j.present ≡ true → t ≡ stored s at (group_descriptor 5 (joining_size j) ++ (le_bytes 1 2 ++ be_bytes 4 (joining_word j))) → u ≡ stored t (at + 7) (if_on j.proxied (be_bytes 8 j.address) [] ++ take j.length j.network) → u ≡ stored s at (joining_bytes j)
    unfolding joining_bytes
    joining_put on e f = two s at _ _ t 7 e (length_start j) u f ∙ ap (stored s at) (if_on_lem _ _ j.present on (simp append_assoc refl))

  pub joining_none : j.present ≡ false → s ≡ stored s at (joining_bytes j)
  unfolding joining_bytes
  joining_none off = nothing s at ∙ ap (stored s at) (if_off_lem _ _ j.present off refl)
