-- The laws of the slot decision in the shape in which the code meets them: one for each way out of a function, with the results of
-- its calls as variables. Assumes nothing.
use Prim.Native.Nat.{ℕ, ◌/◌, ◌%◌, ◌^◌}
use mathlib.Core.Path.{◌≡◌, refl, sym, ◌∙◌, ap}
use mathlib.Core.Bool.{Bool, true, false, ◌&&◌}
use lib.Dec.{ltb, leb, eqb}
use Rattle.std.specs.Prelude.{Option, Some, None, Result, Ok, Err}
use Rattle.octets_spec.specs.Choice.{if_on}
use Rattle.octets_spec.proofs.ChoiceLaws.{if_on_lem, if_off_lem, choices}
use Rattle.refusal.specs.declared.Refusal.{Refusal}
use Rattle.refusal.specs.declared.Refusal.TheVariants.{OutOfLimits}
use Rattle.refusal.specs.Refusal.{number_in}
use Rattle.remainder.specs.Remainder.{remainder_of}
use Rattle.eb_record_spec.specs.declared.Link.{Link}
use Rattle.slot_spec.specs.Hopping.{channel_of}
use Rattle.slot_spec.specs.Slot.{limits, slot_offset, is_active, option_bit, transmit_on, listen_on, action}
use Rattle.slot_spec.specs.Scan.{met, begun, stepped, concluded}
use Rattle.slot_spec.specs.Answer.{answer_of}
use Rattle.slot_spec.specs.declared.ActiveLink.{ActiveLink}
use Rattle.slot_spec.specs.declared.Scan.{Scan}
use Rattle.slot_spec.specs.declared.SlotQuery.{SlotQuery}
use Rattle.slot_spec.specs.declared.Action.{Action}
use Rattle.slot_spec.specs.declared.Action.TheVariants.{Sleep, Transmit, Listen}

-- ---- a link
module _ (link : Link) where
  pub active : (slot timeslot : ℕ) → timeslot ≡ link.timeslot → eqb timeslot slot ≡ is_active slot link
  unfolding is_active
  active slot timeslot e = rw e

  pub below_size : (size timeslot : ℕ) → timeslot ≡ link.timeslot → ltb timeslot size ≡ ltb link.timeslot size
  below_size size timeslot e = rw e

  pub has_bit : (bit : ℕ) → eqb (link.options / 2 ^ bit % 2) 1 ≡ option_bit bit link
  unfolding option_bit
  has_bit bit = refl

-- ---- a pass through the links
pub begins : (query : SlotQuery) (slot : ℕ) → slot ≡ remainder_of query.asn query.size → record { size = query.size; slot = slot; below = true; transmit = None; receive = None } ≡ begun query
unfolding begun slot_offset
begins query slot e = rw e

pub steps : (seen : Scan) (link : Link) (index : ℕ) (on sends hears low below tx rx : Bool) (transmit receive : Option ActiveLink)
    → on ≡ is_active seen.slot link → low ≡ ltb link.timeslot seen.size → below ≡ (low && seen.below)
    → sends ≡ option_bit 0 link → tx ≡ (on && sends) → transmit ≡ if_on tx (Some (met link index)) seen.transmit
    → hears ≡ option_bit 1 link → rx ≡ (on && hears) → receive ≡ if_on rx (Some (met link index)) seen.receive
    → record { size = seen.size; slot = seen.slot; below = below; transmit = transmit; receive = receive } ≡ stepped seen link index
unfolding stepped
steps seen link index on sends hears low below tx rx transmit receive e₁ l e₂ e₃ e₄ e₅ e₆ e₇ e₈ = rw (e₅, e₈, e₄, e₇, e₃, e₆, e₁, e₂, l)

-- ---- from what was found to the decision
module _ (query : SlotQuery) where
  module _ (found : Option ActiveLink) where
    pub listens : (link : ActiveLink) (channel : ℕ) → found ≡ Some link → channel ≡ channel_of query.asn link.channel_offset → Listen link.index channel ≡ listen_on query found
    unfolding listen_on
    listens link channel e f = rw (e, f)

    pub sleeps : found ≡ None → Sleep ≡ listen_on query found
    unfolding listen_on
    sleeps e = rw e

    pub sends : (other : Action) (link : ActiveLink) (channel : ℕ) → found ≡ Some link → channel ≡ channel_of query.asn link.channel_offset → Transmit link.index channel ≡ transmit_on query found other
    unfolding transmit_on
    sends other link channel e f = rw (e, f)

    pub sends_not : (other : Action) → found ≡ None → other ≡ transmit_on query found other
    unfolding transmit_on
    sends_not other e = rw e

  module _ (transmit receive : Option ActiveLink) (awaited : Action) (e : awaited ≡ listen_on query receive) where
    pub acts_waiting : (r : Action) → query.waits ≡ true → r ≡ transmit_on query transmit awaited → r ≡ action query transmit receive
    unfolding action
    acts_waiting r w f = if_on_lem _ _ query.waits w (rw e at f)

    pub acts_idle : query.waits ≡ false → awaited ≡ action query transmit receive
    unfolding action
    acts_idle w = if_off_lem _ _ query.waits w e

  pub checks : (count : ℕ) (below : Bool) → leb 1 query.size && (leb 1 count && (leb count 16 && (below && (eqb query.id 0 && leb query.asn 1099511627775)))) ≡ limits query count below
  unfolding limits
  checks count below = refl

  module _ (count : ℕ) (seen : Scan) (ok : Bool) (e : ok ≡ limits query count seen.below) where
    pub concludes : (r : Action) → ok ≡ true → r ≡ action query seen.transmit seen.receive → Ok r ≡ concluded query count seen
    unfolding concluded
    concludes r t f = if_on_lem _ _ _ (sym e ∙ t) (ap Ok f)

    pub refuses : ok ≡ false → Err OutOfLimits ≡ concluded query count seen
    unfolding concluded
    refuses t = if_off_lem _ _ _ (sym e ∙ t) refl

-- ---- the numbers of a decision
module _ (d : Result Action Refusal) (number : ℕ) (number_is : number ≡ number_in d) where
  pub answers_refused : (refusal : Refusal) → d ≡ Err refusal → record { number = number; action = 0; channel = 0; index = 0 } ≡ answer_of d
  unfolding answer_of
  answers_refused refusal e = rw (number_is, e)

  pub answers_sleep : d ≡ Ok Sleep → record { number = number; action = 0; channel = 0; index = 0 } ≡ answer_of d
  unfolding answer_of
  answers_sleep e = rw (number_is, e)

  pub answers_transmit : (index channel : ℕ) → d ≡ Ok (Transmit index channel) → record { number = number; action = 1; channel = channel; index = index } ≡ answer_of d
  unfolding answer_of
  answers_transmit index channel e = rw (number_is, e)

  pub answers_listen : (index channel : ℕ) → d ≡ Ok (Listen index channel) → record { number = number; action = 2; channel = channel; index = index } ≡ answer_of d
  unfolding answer_of
  answers_listen index channel e = rw (number_is, e)

pub ruleset slots = (choices, active, below_size, has_bit, begins, steps, listens, sleeps, sends, sends_not, acts_waiting, acts_idle, checks, concludes, refuses, answers_refused, answers_sleep, answers_transmit, answers_listen)
