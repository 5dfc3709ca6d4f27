-- The laws of putting frame control and the fixed fields, in the shape in which the code meets them. Assumes nothing.
use Prim.Native.Nat.{ℕ, ◌+◌, ◌*◌, ◌<◌}
use mathlib.Core.Path.{◌≡◌, refl, ◌∙◌, ap}
use mathlib.Core.List.{List, ◌++◌, append_assoc}
use native.Mathlib.Omega.{arith}
use lib.ListN.{length}
use Rattle.octets_spec.specs.Number.{le_bytes, stored}
use Rattle.mac_header_spec.specs.declared.SequenceNumber.{SequenceNumber}
use Rattle.mac_header_spec.specs.declared.Address.{Address}
use Rattle.eb_write_spec.specs.Frame.{sequence_bytes, address_bytes, control_word, mac_header_bytes}
use Rattle.eb_write_spec.proofs.LengthLaws.{length_le}
use Rattle.eb_write_spec.proofs.RowLaws.{three, le_joined}

pub mac_header_put : (s t u v : List ℕ) (q : SequenceNumber) (a : Address) (pan word size number wide source : ℕ) → v ≡ stored u (6 + size) (le_bytes wide source) → u ≡ stored t (2 + size) (le_bytes 4 (pan + 4294901760)) → t ≡ stored s 0 (le_bytes (2 + size) (word + number * 65536))
    → pan < 65536 → word ≡ control_word q a → word < 65536 → size ≡ length (sequence_bytes q) → le_bytes (length (sequence_bytes q)) number ≡ sequence_bytes q → wide ≡ length (address_bytes a) → le_bytes (length (address_bytes a)) source ≡ address_bytes a
    → v ≡ stored s 0 (mac_header_bytes q pan a)
unfolding mac_header_bytes
mac_header_put s t u v q a pan word size number wide source g f e small is low long one w two =
    let swap : word + number * 65536 ≡ word + 65536 * number = omega arith in
    let byte : le_bytes size number ≡ sequence_bytes q = rw long one in
    let first : le_bytes (2 + size) (word + number * 65536) ≡ le_bytes 2 (control_word q a) ++ sequence_bytes q = rw (swap, le_joined 2 size word number low, is, byte) in
    let pair : pan + 4294901760 ≡ pan + 65536 * 65535 = omega arith in
    let second : le_bytes 4 (pan + 4294901760) ≡ le_bytes 2 pan ++ le_bytes 2 65535 = rw (pair, le_joined 2 2 pan 65535 small) in
    let third : le_bytes wide source ≡ address_bytes a = rw w two in
    let offset : 0 + (2 + size) ≡ 2 + size = omega arith in
    let behind : 0 + (2 + size + 4) ≡ 6 + size = omega arith in
    let put : u ≡ stored t (0 + (2 + size)) (le_bytes 4 (pan + 4294901760)) = rw offset f in
    let last : v ≡ stored u (0 + (2 + size + 4)) (le_bytes wide source) = rw behind g in
    let all : le_bytes (2 + size) (word + number * 65536) ++ (le_bytes 4 (pan + 4294901760) ++ le_bytes wide source) ≡ le_bytes 2 (control_word q a) ++ (sequence_bytes q ++ (le_bytes 2 pan ++ (le_bytes 2 65535 ++ address_bytes a))) = rw (first, second, third) (simp append_assoc refl) in
    three s 0 _ _ _ t u v (2 + size) 4 e (length_le (2 + size) (word + number * 65536)) put (length_le 4 (pan + 4294901760)) last ∙ ap (stored s 0) all
