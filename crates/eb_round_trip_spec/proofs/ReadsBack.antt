-- What is written is bytes and is of the grammar, so that it reads back. Two frames differ therefore. Assumes nothing.
use Prim.Native.Nat.{ℕ, zero, suc, ◌/◌, ◌%◌, ◌^◌, ◌<◌}
use mathlib.Core.Path.{◌≡◌, refl, sym, ◌∙◌, ap}
use mathlib.Core.Bool.{Bool, true, false, and-false}
use mathlib.Core.List.{List, [], ◌∷◌}
use native.Mathlib.Omega.{arith}
use lib.ListN.{take}
use Rattle.octets_spec.specs.Choice.{if_on}
use Rattle.octets_spec.specs.Number.{le_bytes, be_bytes}
use Rattle.mac_header_spec.specs.declared.SequenceNumber.{SequenceNumber}
use Rattle.mac_header_spec.specs.declared.SequenceNumber.TheVariants.{Absent, Number}
use Rattle.mac_header_spec.specs.declared.Address.{Address}
use Rattle.mac_header_spec.specs.declared.Address.TheVariants.{Short, Extended}
use Rattle.eb_record_spec.specs.declared.Link.{Link}
use Rattle.eb_record_spec.specs.declared.TimeslotTemplate.{TimeslotTemplate}
use Rattle.eb_record_spec.specs.declared.Slotframe.{Slotframe}
use Rattle.eb_record_spec.specs.declared.JoiningInformation.{JoiningInformation}
use Rattle.eb_record_spec.specs.declared.Beacon.{Beacon}
use Rattle.eb_write_spec.specs.Frame.{sequence_bytes, address_bytes, mac_header_bytes, header_descriptor, group_descriptor, short_descriptor, long_descriptor, numbers_in, synchronization_bytes, timings_bytes, template_bytes, hopping_bytes, link_bytes, links_bytes, slotframe_bytes, group_bytes, joining_bytes, frame_of}
use Rattle.eb_write_spec.specs.Limits.{all_below, present_fits, absent_fits, joining_fits, fits}
use Rattle.eb_read_spec.specs.Read.{read_frame}
use Rattle.eb_read_spec.specs.Read.{ReadAnswer}
use Rattle.eb_round_trip_spec.proofs.Fitting.{on_on}
use Rattle.eb_write_spec.proofs.LengthLaws.{joining_on, on}
use Rattle.eb_round_trip_spec.specs.ReadBack.{FramesReadBack, FramesDiffer, WrittenIsOfTheGrammar}
use Rattle.eb_round_trip_spec.proofs.AllBytes.{All, none, more, bytes_of, both, all_below_lem}
use Rattle.eb_round_trip_spec.proofs.OfTheGrammar.{derived}
use Rattle.eb_grammar_spec.proofs.Agreed.{complete}

all_on : (test : Bool) (xs ys : List ℕ) → (test ≡ true → All xs) → (test ≡ false → All ys) → All (if_on test xs ys)
unfolding if_on
all_on true xs ys a b = a refl
all_on false xs ys a b = b refl

-- ---- numbers
low : (n : ℕ) → n % 256 < 256
low n = omega arith

pub all_le : (width n : ℕ) → All (le_bytes width n)
unfolding le_bytes
all_le zero n = none
all_le (suc width) n = more (low n) (all_le width (n / 256))

all_be : (width n : ℕ) → All (be_bytes width n)
unfolding be_bytes
all_be zero n = none
all_be (suc width) n = more (low (n / 256 ^ width)) (all_be width n)

all_numbers : (width : ℕ) (ns : List ℕ) → All (numbers_in width ns)
unfolding numbers_in
all_numbers width [] = none
all_numbers width (n ∷ ns) = both (all_le width n) (all_numbers width ns)

all_links : (ls : List Link) → All (links_bytes ls)
unfolding links_bytes link_bytes
all_links [] = none
all_links (l ∷ ls) = both (both (all_le 2 _) (both (all_le 2 _) (all_le 1 _))) (all_links ls)

-- ---- the frame
pub all_sequence : (q : SequenceNumber) → All (sequence_bytes q)
unfolding sequence_bytes
all_sequence Absent = none
all_sequence (Number n) = all_le 1 n

pub all_address : (a : Address) → All (address_bytes a)
unfolding address_bytes
all_address (Short n) = all_le 2 n
all_address (Extended n) = all_le 8 n

all_template : (t : TimeslotTemplate) → All (template_bytes t)
unfolding template_bytes short_descriptor timings_bytes
all_template t = both (all_le 2 _) (both (all_le 1 _) (all_on t.timed _ _ (λ _. both (all_numbers 2 _) (all_numbers _ _)) (λ _. none)))

all_slotframe : (f : Slotframe) → All (slotframe_bytes f)
unfolding slotframe_bytes short_descriptor
all_slotframe f = both (all_le 2 _) (both (all_le 1 _) (both (all_le 1 _) (both (all_le 2 _) (both (all_le 1 _) (all_links _)))))

network_below : (j : JoiningInformation) → present_fits j ≡ true → all_below 256 (take j.length j.network) ≡ true
unfolding present_fits
network_below j e = on (all_below 256 (take j.length j.network)) (λ h. simp (h, and-false) at e)

all_joining : (j : JoiningInformation) → joining_fits j ≡ true → All (joining_bytes j)
unfolding joining_bytes group_descriptor joining_fits
all_joining j e =
    all_on j.present _ _
    (λ there.
    let network = all_below_lem _ (network_below j (on_on j.present (present_fits j) (absent_fits j) e there)) in
    both (all_le 2 _) (both (all_le 1 _) (both (all_be 4 _) (both (all_on j.proxied _ _ (λ _. all_be 8 _) (λ _. none)) network))))
    (λ _. none)

frame_bytes : (b : Beacon) → fits b ≡ true → All (frame_of b)
unfolding frame_of mac_header_bytes header_descriptor group_bytes group_descriptor synchronization_bytes short_descriptor hopping_bytes long_descriptor
frame_bytes b e =
    both (both (all_le 2 _) (both (all_sequence _) (both (all_le 2 _) (both (all_le 2 _) (all_address _)))))
    (both (all_le 2 _)
    (both (both (all_le 2 _) (both (both (all_le 2 _) (both (all_le 5 _) (all_le 1 _))) (both (all_template _) (both (both (all_le 2 _) (all_le 1 _)) (all_slotframe _)))))
    (all_joining b.joining (joining_on b e))))

pub written_is_of_the_grammar : WrittenIsOfTheGrammar
written_is_of_the_grammar b ok = derived b ok

pub frames_read_back : FramesReadBack
frames_read_back b ok = complete (frame_of b) b (bytes_of _ (frame_bytes b ok.within)) (derived b ok)

pub frames_differ : FramesDiffer
frames_differ a b ok-a ok-b same = ap (λ (r : ReadAnswer). r.beacon) (sym (frames_read_back a ok-a) ∙ (ap read_frame same ∙ frames_read_back b ok-b))
