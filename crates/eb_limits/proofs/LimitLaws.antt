-- The laws of a record's limits, in the shape in which the code meets them. Assumes nothing.
use Prim.Native.Nat.{ℕ, ◌-◌, ◌<◌, min}
use mathlib.Core.Path.{◌≡◌, refl}
use mathlib.Core.List.{List, [], ◌∷◌}
use mathlib.Core.Bool.{Bool, true, false, not, ◌&&◌}
use borrow.Author.Tests.{lt-ltb}
use lib.Dec.{ltb, eqb}
use native.Mathlib.Omega.{arith}
use lib.ListN.{length, take, drop, length-drop}
use lib.Seq.{take_all}
use Rattle.std.specs.List.{list_all}
use Rattle.std.proofs.Math.Bool.{and_assoc}
use Rattle.octets_spec.specs.Choice.{if_on}
use Rattle.eb_record_spec.specs.declared.TimeslotTemplate.{TimeslotTemplate}
use Rattle.eb_record_spec.specs.declared.Slotframe.{Slotframe}
use Rattle.eb_record_spec.specs.declared.JoiningInformation.{JoiningInformation}
use Rattle.eb_record_spec.specs.declared.Beacon.{Beacon}
use Rattle.eb_write_spec.specs.Limits.{all_of, all_below, sequence_fits, synchronization_fits, template_fits, link_fits, link_unused, slotframe_fits, proxy_fits, present_fits, absent_fits, joining_fits, fits}
use Rattle.eb_record_spec.specs.Form.{address_fits}
use Rattle.eb_write_spec.proofs.RangeLaws.{clip_take, clip_drop}

-- ---- a test put to every entry of a list
pub all_is : {A : Type 0} (test : A → Bool) (xs : List A) → list_all test xs ≡ all_of test xs
unfolding all_of
all_is test [] = refl
all_is test (x ∷ xs) = rw (all_is test xs)

pub below_is : (bound : ℕ) (ns : List ℕ) → list_all (λ n. ltb n bound) ns ≡ all_below bound ns
unfolding all_below
below_is bound ns = all_is (λ n. ltb n bound) ns

-- the same of what stands from an index on
pub all_rest : {A : Type 0} (test : A → Bool) (xs : List A) (from : ℕ) → list_all test (take (length xs - from) (drop from xs)) ≡ all_of test (drop from xs)
all_rest test xs from = rw (take_all (length xs - from) (drop from xs) (omega (arith, length-drop from xs))) (all_is test (drop from xs))

pub below_rest : (bound : ℕ) (ns : List ℕ) (from : ℕ) → list_all (λ n. ltb n bound) (take (length ns - from) (drop from ns)) ≡ all_below bound (drop from ns)
unfolding all_below
below_rest bound ns from = all_rest (λ n. ltb n bound) ns from

-- ---- the parts
module _ (t : TimeslotTemplate) (id : t.id < 256) (twelve : length t.timings ≡ 12) where
  pub template_timed : (u v : Bool) → t.timed ≡ true → u ≡ all_below 65536 (take 10 t.timings) → v ≡ all_below 16777216 (drop 10 t.timings) → u && v ≡ template_fits t
  unfolding template_fits if_on
  template_timed u v on e f = rw (on, lt-ltb t.id 256 id, e, f)

  pub template_bare : (u : Bool) → t.timed ≡ false → u ≡ all_below 1 t.timings → eqb t.id 0 && u ≡ template_fits t
  unfolding template_fits if_on
  template_bare u off e = rw (off, lt-ltb t.id 256 id, e)

pub slotframe_is : (f : Slotframe) (used : ℕ) (u v : Bool) → length f.links ≡ 16 → f.handle < 256 → f.size < 65536 → used ≡ min f.count 16 → u ≡ all_of (link_fits f.size) (take used f.links) → v ≡ all_of link_unused (drop used f.links)
    → ltb 0 f.size && ltb 0 f.count && ltb f.count 17 && u && v ≡ slotframe_fits f
unfolding slotframe_fits
slotframe_is f used u v sixteen handle size n e₁ e₂ =
    simp and_assoc (rw (lt-ltb f.handle 256 handle, lt-ltb f.size 65536 size, e₁, e₂, n, clip_take f.links f.count 16 sixteen, clip_drop f.links f.count 16 sixteen))

pub absent_is : (j : JoiningInformation) (u : Bool) → u ≡ all_below 1 j.network
    → not j.router && not j.proxied && eqb j.proxy 0 && eqb j.rank 0 && eqb j.pan 0 && eqb j.address 0 && eqb j.length 0 && u ≡ absent_fits j
unfolding absent_fits
absent_is j u e = simp and_assoc (rw e)

module _ (j : JoiningInformation) (sixteen : length j.network ≡ 16) where
  pub present_is : (used : ℕ) (a u v : Bool) → j.pan < 256 → used ≡ min j.length 16 → a ≡ proxy_fits j → u ≡ all_below 256 (take used j.network) → v ≡ all_below 1 (drop used j.network)
      → ltb j.proxy 128 && ltb j.rank 4096 && a && ltb j.length 17 && u && v ≡ present_fits j
  unfolding present_fits
  present_is used a u v pan n e₁ e₂ e₃ = simp and_assoc (rw (lt-ltb j.pan 256 pan, e₁, e₂, e₃, n, clip_take j.network j.length 16 sixteen, clip_drop j.network j.length 16 sixteen))

pub within_is : (b : Beacon) (q a y t f j : Bool) → b.pan < 65536 → b.hopping < 256 → q ≡ sequence_fits b.sequence → a ≡ address_fits b.source → y ≡ synchronization_fits b.synchronization → t ≡ template_fits b.timeslot → f ≡ slotframe_fits b.slotframe → j ≡ joining_fits b.joining
    → q && a && y && t && f && j ≡ fits b
unfolding fits
within_is b q a y t f j pan hopping e₁ e₂ e₃ e₄ e₅ e₆ = simp and_assoc (rw (lt-ltb b.pan 65536 pan, lt-ltb b.hopping 256 hopping, e₁, e₂, e₃, e₄, e₅, e₆))
