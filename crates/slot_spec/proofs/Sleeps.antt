-- The slot decision sleeps exactly when there is nothing to do. Assumes nothing.
use Prim.Native.Nat.{ℕ, zero, suc}
use native.Mathlib.Omega.{arith}
use mathlib.Core.Path.{◌≡◌, refl, sym, ap}
use mathlib.Core.Bool.{Bool, true, false, ◌&&◌}
use mathlib.Core.List.{List, [], ◌∷◌}
use Rattle.std.specs.Prelude.{Option, Some, None, Result, Ok}
use Rattle.octets_spec.specs.Choice.{if_on, if_eq}
use Rattle.octets_spec.proofs.ChoiceLaws.{by_test, if_off_lem, was_off}
use Rattle.refusal.specs.declared.Refusal.{Refusal}
use Rattle.remainder.specs.Remainder.{remainder_of}
use Rattle.eb_record_spec.specs.declared.Link.{Link}
use Rattle.slot_spec.specs.declared.Action.{Action}
use Rattle.slot_spec.specs.declared.Action.TheVariants.{Sleep}
use Rattle.slot_spec.specs.declared.SlotQuery.{SlotQuery}
use Rattle.slot_spec.specs.declared.ActiveLink.{ActiveLink}
use Rattle.slot_spec.specs.Claims.{NoneActive, SleepsExactlyWhenIdle, SomeSleepAndSomeDoNot}
use Rattle.slot_spec.specs.Hopping.{channel_of}
use Rattle.slot_spec.specs.Slot.{action, decision, first_active, is_active, limits, listen_on, option_bit, slot_offset, timeslots_below, transmit_on}

-- a link that is found is not nothing
some_found : (link : ActiveLink) → Some link ≡ None → ⊥
some_found link e = cc

-- a decision to sleep is not refused, and the action is to sleep
slept_on : (action : Action) → ◌≡◌ {A = Result Action Refusal} (Ok action) (Ok Sleep) → action ≡ Sleep
slept_on action e = cc

-- ---- the first active link
none_first : (slot bit index : ℕ) (links : List Link) → first_active slot bit index links ≡ None → NoneActive slot bit links
unfolding first_active
none_first slot bit index [] e i l a = absurd (omega arith)
none_first slot bit index (link ∷ links) e zero l a = let w = was_off _ _ _ _ e (some_found _) in rw a at w.0
none_first slot bit index (link ∷ links) e (suc i) l a = none_first slot bit (suc index) links (was_off _ _ _ _ e (some_found _)).1 i (omega arith) a

first_none : (slot bit index : ℕ) (links : List Link) → NoneActive slot bit links → first_active slot bit index links ≡ None
unfolding first_active
first_none slot bit index [] h = refl
first_none slot bit index (link ∷ links) h =
    let test : (is_active slot link && option_bit bit link) ≡ false = by_test (is_active slot link) (λ a. rw (a, h 0 (omega arith) a)) (λ a. rw a) in
    sym (if_off_lem _ _ _ test (sym (first_none slot bit (suc index) links (λ i l a. h (suc i) (omega arith) a))))

-- ---- the action
module _ (query : SlotQuery) where
  -- the action, with whether a frame waits as a variable
  abbrev acted : Bool → Option ActiveLink → Option ActiveLink → Action
  acted waits transmit receive = if_on waits (transmit_on query transmit (listen_on query receive)) (listen_on query receive)

  slept : (waits : Bool) (transmit receive : Option ActiveLink) → acted waits transmit receive ≡ Sleep → (receive ≡ None) × (waits ≡ true → transmit ≡ None)
  unfolding transmit_on listen_on if_on
  slept true None None e = (refl, λ h. refl)
  slept true None (Some link) e = absurd (cc)
  slept true (Some link) receive e = absurd (cc)
  slept false transmit None e = (refl, λ h. absurd (cc))
  slept false transmit (Some link) e = absurd (cc)

  sleeping : (waits : Bool) (transmit receive : Option ActiveLink) → receive ≡ None → (waits ≡ true → transmit ≡ None) → acted waits transmit receive ≡ Sleep
  unfolding transmit_on listen_on if_on
  sleeping true transmit receive e f = rw (e, f refl)
  sleeping false transmit receive e f = rw e

pub sleeps_exactly_when_idle : SleepsExactlyWhenIdle
unfolding decision action if_on
sleeps_exactly_when_idle links query within = (
  λ e.
      let slot = slot_offset query in
      let s = slept query query.waits (first_active slot 0 0 links) (first_active slot 1 0 links) (slept_on _ (rw within at e)) in
      (none_first slot 1 0 links s.0, λ w. none_first slot 0 0 links (s.1 w)),
  λ idle.
      let slot = slot_offset query in
      rw within (ap Ok (sleeping query query.waits (first_active slot 0 0 links) (first_active slot 1 0 links) (first_none slot 1 0 links idle.0) (λ w. first_none slot 0 0 links (idle.1 w)))),
)

pub some_sleep_and_some_do_not : SomeSleepAndSomeDoNot
unfolding limits timeslots_below decision slot_offset remainder_of is_active option_bit first_active transmit_on listen_on action if_on if_eq channel_of
some_sleep_and_some_do_not = (refl, refl, refl)
