-- The network ID of a received frame: where it lies, and its bytes (docs/RULES.md, Elements). Assumes nothing.
use Rattle.std.specs.Prelude.{ℕ, ◌+◌, ◌-◌, ◌≤◌, ◌≡◌, List, length, take, drop}
use Rattle.octets_spec.specs.Choice.{if_lt, if_eq}
use Rattle.refusal.specs.Refusal.{done}
use Rattle.eb_read_spec.specs.declared.Span.{Span}
use Rattle.eb_read_spec.specs.Decode.{network_offset}
use Rattle.eb_read_spec.specs.Read.{examined, read_frame}
use Rattle.eb_read_spec.specs.Claims.{Bytes}

-- no bytes
abbrev pub no_span : Span
no_span = record { offset = 0; length = 0 }

-- the bytes from an offset to another; where these are none, the span is at offset 0
unfoldable pub span_from : ℕ → ℕ → Span
span_from from to = if_lt from to (record { offset = from; length = to - from }) no_span

-- where the network ID lies: behind the address of joining information, to the element's end; a frame that is refused has none
unfoldable pub network_span : List ℕ → Span
network_span s =
    let walk = (examined s).walk in
    if_eq (examined s).number done
    (if_eq walk.joining 0 no_span (span_from (walk.joining + network_offset s walk.joining) walk.joiningend))
    no_span

-- its bytes
unfoldable pub network_part : List ℕ → List ℕ
network_part s = take (network_span s).length (drop (network_span s).offset s)

-- it lies inside the frame
abbrev pub NetworkLiesInside : Type 0
NetworkLiesInside = (s : List ℕ) → (network_span s).offset + (network_span s).length ≤ length s

-- its bytes are the network ID of the record, up to its length
abbrev pub NetworkIsTheRecords : Type 0
NetworkIsTheRecords = (s : List ℕ) → Bytes s → network_part s ≡ take (read_frame s).beacon.joining.length (read_frame s).beacon.joining.network
