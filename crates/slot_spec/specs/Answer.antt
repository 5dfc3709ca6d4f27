-- The numbers of a decision, for each of its cases, and those of a slot (docs/RULES.md, Slot and channel). Assumes nothing.
use Rattle.std.specs.Prelude.{List, Result, Ok, Err}
use Rattle.refusal.specs.declared.Refusal.{Refusal}
use Rattle.refusal.specs.Refusal.{done, number_of}
use Rattle.eb_record_spec.specs.declared.Link.{Link}
use Rattle.slot_spec.specs.Slot.{decision}
use Rattle.slot_spec.specs.declared.Action.{Action}
use Rattle.slot_spec.specs.declared.Action.TheVariants.{Sleep, Transmit, Listen}
use Rattle.slot_spec.specs.declared.SlotAnswer.{SlotAnswer}
use Rattle.slot_spec.specs.declared.SlotQuery.{SlotQuery}

-- a refused decision is sleep with the refusal's number, and sleep has index 0 and channel 0; action 0 sleep, 1 transmit, 2 listen
unfoldable pub answer_of : Result Action Refusal → SlotAnswer
answer_of (Err refusal) = record { number = number_of refusal; action = 0; channel = 0; index = 0 }
answer_of (Ok Sleep) = record { number = done; action = 0; channel = 0; index = 0 }
answer_of (Ok (Transmit index channel)) = record { number = done; action = 1; channel = channel; index = index }
answer_of (Ok (Listen index channel)) = record { number = done; action = 2; channel = channel; index = index }

-- the numbers of the slot decision on a list of links
unfoldable pub slot_answer : List Link → SlotQuery → SlotAnswer
slot_answer links query = answer_of (decision links query)
