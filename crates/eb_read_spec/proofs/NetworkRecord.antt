-- The bytes of the network ID are those that the record has. Assumes nothing.
use Prim.Native.Nat.{ℕ, zero, suc, ◌+◌, ◌-◌, ◌*◌, ◌/◌, ◌%◌, ◌^◌, ◌<◌, ◌≤◌, min}
use native.Mathlib.Omega.{arith}
use mathlib.Core.Path.{◌≡◌, refl, sym, ap, ap₂, ◌∙◌}
use mathlib.Core.List.{List, [], ◌∷◌, ◌++◌}
use lib.ListN.{length, get_or, take, drop, replicate, length-drop}
use lib.Seq.{get_or-drop, take-append_seam, take-suc}
use Rattle.octets_spec.specs.Counted.{counted, padded}
use Rattle.octets_spec.specs.Number.{be_at}
use Rattle.octets_spec.proofs.CountedLaws.{length_counted}
use Rattle.eb_record_spec.specs.declared.JoiningInformation.{JoiningInformation}
use Rattle.eb_read_spec.specs.Claims.{Bytes}
use Rattle.eb_read_spec.specs.Decode.{decoded, joining_at, network_offset}
use Rattle.eb_read_spec.specs.Inside.{JoiningInside}
use Rattle.eb_read_spec.specs.Network.{NetworkIsTheRecords, network_part, network_span, span_from}
use Rattle.eb_read_spec.specs.Read.{examined, read_frame}
use Rattle.eb_read_spec.specs.Read.{ReadAnswer}
use Rattle.eb_read_spec.specs.declared.Span.{Span}
use Rattle.eb_read_spec.proofs.Accepted.{accepted_lies_inside}
use Rattle.eb_read_spec.proofs.Bounds.{be_below}
use Rattle.eb_read_spec.proofs.Each.{each_eq_2, each_lt}
use Rattle.eb_read_spec.proofs.InsideLaws.{inside_facts}

-- this many bytes from an offset on, counted out
counted_part : (s : List ℕ) (from n : ℕ) (f : ℕ → ℕ) → ((i : ℕ) → f i ≡ get_or s (from + i) 0) → from + n ≤ length s → counted f n ≡ take n (drop from s)
unfolding counted
counted_part s from zero f e h = refl
counted_part s from (suc n) f e h =
    let inside : n < length (drop from s) = omega (arith, length-drop from s) in
    ap₂ (λ (l : List ℕ) (x : ℕ). l ++ (x ∷ [])) (counted_part s from n f e (omega arith)) (e n ∙ sym (get_or-drop from s n 0)) ∙ sym (take-suc (drop from s) n 0 inside)

-- the values in front of a padded list
padded_front : (f : ℕ → ℕ) (size n : ℕ) → n ≤ size → take n (padded f 0 size n) ≡ counted f n
unfolding padded
padded_front f size n h =
    let e : min n size ≡ n = omega arith in
    rw e (ap (λ (k : ℕ). take k (counted f n ++ replicate (size - n) 0)) (sym (length_counted f n)) ∙ take-append_seam (counted f n) (replicate (size - n) 0))

-- P is bit 6 of the first byte
pub top_bits : (s : List ℕ) → Bytes s → (at : ℕ) → be_at 4 s at / 2 ^ 30 ≡ get_or s at 0 / 64
unfolding be_at
top_bits s bytes at = omega (arith, be_below s bytes 3 (at + 1))

module _ (s : List ℕ) (bytes : Bytes s) (at to : ℕ) (inside : JoiningInside s at to) where
  flag : be_at 4 s at / 2 ^ 30 % 2 ≡ get_or s at 0 / 64 % 2
  flag = ap (λ (k : ℕ). k % 2) (top_bits s bytes at)

  -- the bytes behind the address, to the end of joining information
  behind : (before n : ℕ) → before ≡ 4 + 8 * (be_at 4 s at / 2 ^ 30 % 2) → n ≡ min (to - at - before) 16
      → take (span_from (at + before) to).length (drop (span_from (at + before) to).offset s) ≡ take n (padded (λ i. get_or s (at + (before + i)) 0) 0 16 n)
  unfolding span_from
  behind before n e m =
      let front = padded_front (λ i. get_or s (at + (before + i)) 0) 16 n (omega arith) in
      let part = counted_part s (at + before) n (λ i. get_or s (at + (before + i)) 0) (λ i. ap (λ (k : ℕ). get_or s k 0) (omega arith)) (omega (arith, flag, inside.least, inside.most, inside.inside)) in
      each_lt (λ (r : Span). take r.length (drop r.offset s) ≡ take n (padded (λ i. get_or s (at + (before + i)) 0) 0 16 n)) _ _ (at + before) to
      (λ some. let size : to - (at + before) ≡ n = omega (arith, flag, inside.least, inside.most) in rw size (sym (front ∙ part)))
      (λ none. let size : n ≡ 0 = omega arith in rw size)

pub network_is_the_records : NetworkIsTheRecords
unfolding network_part network_span read_frame decoded joining_at network_offset
network_is_the_records s bytes =
    let P : Span → JoiningInformation → Type 0 = λ r j. take r.length (drop r.offset s) ≡ take j.length j.network in
    each_eq_2 (λ (r : Span) (a : ReadAnswer). P r a.beacon.joining) _ _ _ _ (examined s).number 0
    (λ good. each_eq_2 P _ _ _ _ (examined s).walk.joining 0 (λ none. refl) (λ some. behind s bytes _ _ ((inside_facts s _ (accepted_lies_inside s good)).joining some) _ _ refl refl))
    (λ bad. refl)
