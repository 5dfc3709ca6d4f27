-- Every record that a frame of the grammar says can be written, in at most as many bytes: the elements of a payload list take no more bytes
-- than it has, and each is written in at most the bytes that it was read from. Assumes nothing.
use Prim.Native.Nat.{ℕ, ◌+◌, ◌^◌, ◌<◌, ◌≤◌, min}
use mathlib.Core.Path.{◌≡◌, refl, ◌∙◌, ap}
use mathlib.Core.Bool.{true}
use mathlib.Core.List.{List, [], ◌∷◌, ◌++◌}
use native.Mathlib.Omega.{arith}
use borrow.Author.Tests.{lt-ltb}
use lib.Dec.{eqb}
use lib.ListN.{length, get_or, length-append}
use Rattle.octets_spec.specs.Choice.{if_lt, if_eq}
use Rattle.octets_spec.proofs.ChoiceLaws.{if_lt_lem, if_ge, by_test}
use Rattle.eb_record_spec.specs.declared.Beacon.{Beacon}
use Rattle.eb_read_spec.specs.Claims.{Bytes}
use Rattle.eb_read_spec.specs.Read.{read_frame}
use Rattle.eb_read_spec.proofs.Each.{each_eq}
use Rattle.eb_write_spec.specs.Frame.{group_size, frame_of, frame_length}
use Rattle.eb_write_spec.specs.Limits.{synchronization_fits, fits}
use Rattle.eb_write_spec.proofs.LengthLaws.{length_frame}
use Rattle.eb_grammar_spec.specs.Grammar.{Element, SubDescriptor, short_id, long_id, SubElements, group_end, sub_element, Group, mlme, ietf_element, other_group, PayloadElements, bytes_end, payload_end, payload_element, contents, Accepts}
use Rattle.eb_grammar_spec.proofs.Agreed.{sound}
use Rattle.eb_grammar_spec.proofs.Rowed.{total, row_length}
use Rattle.eb_round_trip_spec.specs.ReadBack.{Sized}
use Rattle.eb_round_trip_spec.specs.Accepted.{AcceptedFits, WrittenIsNotLonger, WrittenIsShort}
use Rattle.eb_round_trip_spec.proofs.AllBytes.{All, all_of_lem, parts, first_byte, behind_byte, row_entry, Each, weights, also}
use Rattle.eb_round_trip_spec.proofs.Fits.{FieldsFit, fields_fit, TemplateFits, template_fits_lem, SlotframeFits, slotframe_fits_lem, JoiningFits, joining_fits_lem}

-- ---- the bytes of sub-elements, and of IETF elements, with their descriptors and subtypes
abbrev in_groups : List Element → ℕ
in_groups [] = 0
in_groups (x ∷ f) = if_lt x.kind 256 (2 + length x.content) 0 + in_groups f

abbrev in_ietf : List Element → ℕ
in_ietf [] = 0
in_ietf (x ∷ f) = if_lt x.kind 256 0 (3 + length x.content) + in_ietf f

-- every content is bytes
abbrev AllIn : List Element → Type 0
AllIn [] = Unit
AllIn (x ∷ f) = All x.content × AllIn f

-- of both parts of a list
append_counts : (f g : List Element) → (in_groups (f ++ g) ≡ in_groups f + in_groups g) × (in_ietf (f ++ g) ≡ in_ietf f + in_ietf g) × (AllIn f → AllIn g → AllIn (f ++ g))
append_counts [] g = (omega arith, omega arith, λ _ all. all)
append_counts (x ∷ f) g = let go = append_counts f g in (omega (arith, go.0), omega (arith, go.1), λ a all. (a.0, go.2 a.1 all))

short_kind_lem : (a b n k : ℕ) → SubDescriptor a b n k → k < 256
short_kind_lem a b n _ (short_id id d) = omega (arith, d.id_fits)
short_kind_lem a b n _ (long_id id d) = omega (arith, d.id_fits)

-- what a list found: that it takes its bytes, and that it is bytes
record Takes (f : List Element) (groups ietf : ℕ) : Type 0 where
  in_groups_lem : in_groups f ≡ groups
  in_ietf_lem : in_ietf f ≡ ietf
  all : AllIn f

subs_take : (xs : List ℕ) (f : List Element) → SubElements xs f → All xs → Takes f (length xs) 0
subs_take _ _ group_end all = record { in_groups_lem = refl; in_ietf_lem = refl; all = tt }
subs_take _ _ (sub_element a b k c {rest} {found} d more) all =
    let cut = parts c rest (behind_byte (behind_byte all)) in
    let go = subs_take rest found more cut.1 in
    let here : 2 + length c ≡ if_lt k 256 (2 + length c) 0 = if_lt_lem _ _ k 256 (short_kind_lem a b _ k d) refl in
    let nothing : 0 ≡ if_lt k 256 0 (3 + length c) = if_lt_lem _ _ k 256 (short_kind_lem a b _ k d) refl in
    record { in_groups_lem = omega (arith, here, go.in_groups_lem, length-append c rest); in_ietf_lem = omega (arith, nothing, go.in_ietf_lem); all = (cut.0, go.all) }

group_takes : (n : ℕ) (c : List ℕ) (f : List Element) → Group n c f → All c → (in_groups f + min (in_groups f) 2 + in_ietf f ≤ 2 + length c) × AllIn f
group_takes _ _ _ (mlme {content} {inside} subs) all = let t = subs_take content inside subs all in (omega (arith, t.in_groups_lem, t.in_ietf_lem), t.all)
group_takes _ _ _ (ietf_element subtype c) all =
    let none : 0 ≡ if_lt (256 + subtype) 256 (2 + length c) 0 = if_ge _ _ (256 + subtype) 256 (omega arith) refl in
    let here : 3 + length c ≡ if_lt (256 + subtype) 256 0 (3 + length c) = if_ge _ _ (256 + subtype) 256 (omega arith) refl in
    (omega (arith, none, here), (behind_byte all, tt))
group_takes _ _ _ (other_group not_1 not_5) all = (omega arith, tt)

payload_takes : (xs : List ℕ) (f : List Element) → PayloadElements xs f → All xs → (in_groups f + min (in_groups f) 2 + in_ietf f ≤ length xs) × AllIn f
payload_takes _ _ bytes_end all = (omega arith, tt)
payload_takes _ _ (payload_end a b ignored d) all = (omega arith, tt)
payload_takes _ _ (payload_element a b n c {rest} {inside} {found} d not-15 holds more) all =
    let cut = parts c rest (behind_byte (behind_byte all)) in
    let here = group_takes n c inside holds cut.0 in
    let go = payload_takes rest found more cut.1 in
    let sum = append_counts inside found in
    (omega (arith, here.0, go.0, sum.0, sum.1, length-append c rest), sum.2 here.1 go.1)

-- ---- the contents of a kind
contents_each : (k : ℕ) (f : List Element) → AllIn f → Each (contents k f)
unfolding contents if_eq
contents_each k [] all = tt
contents_each k (x ∷ f) all = by_test (eqb x.kind k) (λ t. rw t (all.0, contents_each k f all.1)) (λ t. rw t (contents_each k f all.1))

weights_step : (over k : ℕ) (x : Element) (f : List Element) → weights over (contents k (x ∷ f)) ≡ if_eq x.kind k (over + length x.content) 0 + weights over (contents k f)
unfolding contents if_eq
weights_step over k x f = by_test (eqb x.kind k) (λ t. rw t (omega arith)) (λ t. rw t (omega arith))

-- an element is of at most one of the four kinds, and is then a sub-element
one_kind : (kind size : ℕ) → if_eq kind 26 size 0 + if_eq kind 28 size 0 + if_eq kind 137 size 0 + if_eq kind 27 size 0 ≤ if_lt kind 256 size 0
unfolding if_eq if_lt
one_kind kind size =
    each_eq (λ (a : ℕ). a + if_eq kind 28 size 0 + if_eq kind 137 size 0 + if_eq kind 27 size 0 ≤ if_lt kind 256 size 0) _ _ kind 26 (λ e. rw e (omega arith))
    (λ a. each_eq (λ (b : ℕ). 0 + b + if_eq kind 137 size 0 + if_eq kind 27 size 0 ≤ if_lt kind 256 size 0) _ _ kind 28 (λ e. rw e (omega arith))
    (λ b. each_eq (λ (c : ℕ). 0 + 0 + c + if_eq kind 27 size 0 ≤ if_lt kind 256 size 0) _ _ kind 137 (λ e. rw e (omega arith))
    (λ c. each_eq (λ (d : ℕ). 0 + 0 + 0 + d ≤ if_lt kind 256 size 0) _ _ kind 27 (λ e. rw e (omega arith)) (λ d. omega arith))))

joining_kind_lem : (kind size : ℕ) → if_eq kind 258 size 0 ≤ if_lt kind 256 0 size
unfolding if_eq if_lt
joining_kind_lem kind size = each_eq (λ (a : ℕ). a ≤ if_lt kind 256 0 size) _ _ kind 258 (λ e. rw e (omega arith)) (λ n. omega arith)

four_kinds : (f : List Element) → weights 2 (contents 26 f) + weights 2 (contents 28 f) + weights 2 (contents 137 f) + weights 2 (contents 27 f) ≤ in_groups f
unfolding contents
four_kinds [] = omega arith
four_kinds (x ∷ f) = omega (arith, weights_step 2 26 x f, weights_step 2 28 x f, weights_step 2 137 x f, weights_step 2 27 x f, one_kind x.kind (2 + length x.content), four_kinds f)

joining_weight : (f : List Element) → weights 3 (contents 258 f) ≤ in_ietf f
unfolding contents
joining_weight [] = omega arith
joining_weight (x ∷ f) = omega (arith, weights_step 3 258 x f, joining_kind_lem x.kind (3 + length x.content), joining_weight f)

-- ---- the frame
module _ (s : List ℕ) (b : Beacon) (bytes : Bytes s) (a : Accepts s b) where
  cut : All a.fields × All (a.header ++ (a.low ∷ a.high ∷ a.payload))
  cut = parts a.fields _ (all_of_lem _ (rw a.stands at bytes))

  took : (in_groups a.found + min (in_groups a.found) 2 + in_ietf a.found ≤ length a.payload) × AllIn a.found
  took = payload_takes a.payload a.found a.lists (behind_byte (behind_byte (parts a.header _ cut.1).1))

  fields : FieldsFit (length a.fields) b.sequence b.pan b.source
  fields = fields_fit a.fields _ _ _ a.opens cut.0

  bytes_in : (k : ℕ) (c : List ℕ) → contents k a.found ≡ c ∷ [] → All c
  bytes_in k c e = (rw e at (contents_each k a.found took.1)).0

  abbrev sync_content : List ℕ
  sync_content = a.says.synchronization.0

  sync : (i : ℕ) → get_or (b.synchronization.asn ∷ b.synchronization.metric ∷ []) i 0 < 256 ^ get_or (5 ∷ 1 ∷ []) i 0
  sync = row_entry _ _ _ a.says.synchronization.2 (bytes_in 26 sync_content a.says.synchronization.1)

  template : TemplateFits (length a.says.timeslot.0) b.timeslot
  template = template_fits_lem _ _ a.says.timeslot.2 (bytes_in 28 _ a.says.timeslot.1)

  hopping : b.hopping < 256
  hopping = first_byte (rw a.says.hopping.2 at (bytes_in 137 _ a.says.hopping.1))

  slotframes : SlotframeFits (length a.says.slotframe.0) b.slotframe
  slotframes = slotframe_fits_lem _ _ a.says.slotframe.2 (bytes_in 27 _ a.says.slotframe.1)

  joins : JoiningFits (contents 258 a.found) b.joining
  joins = joining_fits_lem _ _ a.says.joining (contents_each 258 a.found took.1)

  pub said_fits : fits b ≡ true
  unfolding fits synchronization_fits
  said_fits =
      also fields.sequence (also fields.pan (also fields.source (also (also (lt-ltb _ _ (sync 0)) (lt-ltb _ _ (sync 1)))
      (also template.within (also (lt-ltb _ _ hopping) (also slotframes.within joins.within))))))

  pub said_sized : Sized b
  said_sized = record { timings = template.sized; links = slotframes.sized; network = joins.sized }

  weight : (k : ℕ) (c : List ℕ) → contents k a.found ≡ c ∷ [] → weights 2 (contents k a.found) ≡ 2 + length c
  weight k c e = rw e (omega arith)

  pub said_most : length (frame_of b) ≤ length s
  unfolding frame_length group_size total
  said_most =
      let long : length s ≡ length a.fields + (length a.header + (2 + length a.payload)) =
      ap length a.stands ∙ (length-append a.fields _ ∙ ap (λ (n : ℕ). length a.fields + n) (length-append a.header (a.low ∷ a.high ∷ a.payload) ∙ omega arith)) in
      let one : length a.says.hopping.0 ≡ 1 = ap length a.says.hopping.2 in
      rw (length_frame b said_sized.timings said_sized.links said_sized.network said_fits)
      (omega (
        arith,
        long,
        took.0,
        fields.long,
        four_kinds a.found,
        joining_weight a.found,
        weight 26 _ a.says.synchronization.1,
        weight 28 _ a.says.timeslot.1,
        weight 137 _ a.says.hopping.1,
        weight 27 _ a.says.slotframe.1,
        row_length [] _ sync_content _ a.says.synchronization.2,
        template.most,
        one,
        slotframes.long,
        joins.most,
      ))

-- ---- of what is read
module _ (s : List ℕ) (bytes : Bytes s) (done : (read_frame s).number ≡ 0) where
  said : Accepts s (read_frame s).beacon
  said = sound s (read_frame s).beacon bytes (λ i. record { number = done i; beacon = (read_frame s).beacon })

  pub read_sized : Sized (read_frame s).beacon
  read_sized = said_sized s _ bytes said

pub accepted_fits : AcceptedFits
accepted_fits s bytes done = said_fits s _ bytes (said s bytes done)

pub written_is_not_longer : WrittenIsNotLonger
written_is_not_longer s bytes done = said_most s _ bytes (said s bytes done)

pub written_is_short : WrittenIsShort
written_is_short s bytes done = omega (arith, written_is_not_longer s bytes done, (said s bytes done).at_most_125)
