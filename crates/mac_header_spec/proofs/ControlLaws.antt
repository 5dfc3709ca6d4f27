-- The laws of the MAC header's fields, in the shape in which the code meets them. Assumes nothing.
use Prim.Native.Nat.{ℕ, ◌+◌, ◌<◌, ◌/◌, ◌%◌}
use mathlib.Core.Path.{◌≡◌, refl, ap}
use mathlib.Core.Bool.{Bool, true, false, cond}
use mathlib.Core.List.{List}
use native.Mathlib.Omega.{arith}
use mir.Syntax.{w8}
use mir.Val.{Fits}
use lib.Dec.{eqb, lit<}
use lib.ListN.{length, get_or}
use Rattle.octets_spec.specs.Choice.{if_eq}
use Rattle.octets_spec.specs.Number.{le_at}
use Rattle.octets_spec.proofs.ChoiceLaws.{if_ne_lem, either_eq, choices}
use Rattle.mac_header_spec.specs.Control.{control_of}
use Rattle.mac_header_spec.specs.Fields.{address_length, offsets_of, mac_header_of}
use Rattle.mac_header_spec.specs.declared.Control.{Control}
use Rattle.mac_header_spec.specs.declared.FieldOffsets.{FieldOffsets}
use Rattle.mac_header_spec.specs.declared.MacHeader.{MacHeader}

pub controls : (word : ℕ) → record { kind = word % 8; security = word / 8 % 2; compression = word / 64 % 2; suppressed = word / 256 % 2; elements = word / 512 % 2; destination = word / 1024 % 4; version = word / 4096 % 4; source = word / 16384 % 4 } ≡ control_of word
unfolding control_of
controls word = refl

pub offsets : (control : Control) (size pan d n : ℕ) → pan ≡ if_eq control.suppressed 0 3 2 → d ≡ address_length control.destination → n ≡ address_length control.source
    → record { pan = pan; destination = pan + 2; source = pan + 2 + d; elements = pan + 2 + d + n; end = size } ≡ offsets_of control size
unfolding offsets_of
offsets control size pan d n e f g = rw (e, f, g)

-- ---- an address, from eight bytes or from two
module _ (s : List ℕ) (mode at long short r : ℕ) (e : long ≡ le_at 8 s at) (f : short ≡ le_at 2 s at) (g : r ≡ if_eq mode 3 long short) where
  pub address_is : r ≡ le_at (address_length mode) s at
  unfolding address_length if_eq
  address_is = rw (g, e, f) (of (eqb mode 3))
    where
      of : (t : Bool) → cond t (le_at 8 s at) (le_at 2 s at) ≡ le_at (cond t 8 2) s at
      of true = refl
      of false = refl

  pub address_short : short < 65536 → (mode ≡ 3 → ⊥) → r < 65536
  address_short small other = let is : short ≡ if_eq mode 3 long short = if_ne_lem _ _ mode 3 other refl in omega (arith, g, is)

-- ---- the fields
pub sequence_is : (s : List ℕ) (suppressed byte r : ℕ) → byte ≡ get_or s 2 0 → r ≡ if_eq suppressed 0 byte 0 → r ≡ if_eq suppressed 0 (get_or s 2 0) 0
sequence_is s suppressed byte r e f = rw e at f

pub sequence_small : (suppressed byte sequence : ℕ) → sequence ≡ if_eq suppressed 0 byte 0 → byte < 256 → Fits w8 sequence
sequence_small suppressed byte sequence e small = record { fits = rw e (either_eq (λ n. n < 256) byte 0 small (lit< tt) suppressed 0) }

module _ (s : List ℕ) (word : ℕ) (control : Control) (found : FieldOffsets) (e : word ≡ le_at 2 s 0) (f : control ≡ control_of word) (g : found ≡ offsets_of control (length s)) where
  -- where the elements are
  pub starts_are : found.elements ≡ (mac_header_of s).elements
  unfolding mac_header_of
  starts_are = rw (g, f, e)

  pub ends_are : found.end ≡ (mac_header_of s).end
  unfolding mac_header_of
  ends_are = rw (g, f, e)

  pub fields : (sequence pan destination source : ℕ) → sequence ≡ if_eq control.suppressed 0 (get_or s 2 0) 0 → pan ≡ le_at 2 s found.pan
      → destination ≡ le_at (address_length control.destination) s found.destination → source ≡ le_at (address_length control.source) s found.source
      → record { control = control; sequence = sequence; pan = pan; destination = destination; source = source; elements = found.elements; end = found.end } ≡ mac_header_of s
  unfolding mac_header_of
  fields sequence pan destination source i j k l = rw (i, j, k, l, g, f, e) refl

-- the fields of a frame by the lengths of those that vary: k bytes of a sequence number, d of a destination, m of a source
module _ (s : List ℕ) (control : Control) (is : control ≡ control_of (le_at 2 s 0)) (k d m : ℕ) (k_is : 2 + k ≡ if_eq control.suppressed 0 3 2) (d_is : d ≡ address_length control.destination) (m_is : m ≡ address_length control.source) where
  abbrev pub placed : MacHeader
  placed = record {
    control = control;
    sequence = if_eq control.suppressed 0 (get_or s 2 0) 0;
    pan = le_at 2 s (2 + k);
    destination = le_at d s (2 + k + 2);
    source = le_at m s (2 + k + 2 + d);
    elements = 2 + k + 2 + d + m;
    end = length s;
  }

  pub placed_is : placed ≡ mac_header_of s
  placed_is =
      fields s (le_at 2 s 0) control _ refl is (offsets control (length s) (2 + k) d m k_is d_is m_is) (if_eq control.suppressed 0 (get_or s 2 0) 0) (le_at 2 s (2 + k)) (le_at d s (2 + k + 2)) (le_at m s (2 + k + 2 + d)) refl
      refl (ap (λ (width : ℕ). le_at width s (2 + k + 2)) d_is) (ap (λ (width : ℕ). le_at width s (2 + k + 2 + d)) m_is)

pub ruleset controlling = (choices, controls, offsets, address_is, address_short, sequence_is, sequence_small, fields)
