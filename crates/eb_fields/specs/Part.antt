-- Parts of the list of fields, as the code takes it apart (docs/RULES.md, Fields). Assumes nothing.
use Rattle.std.specs.Prelude.{ℕ}
use Rattle.eb_fields_spec.specs.Content.{no_octets}
use Rattle.octets_spec.specs.Choice.{if_eq}
use Rattle.eb_record_spec.specs.declared.Link.{Link}
use Rattle.eb_record_spec.specs.declared.Slotframe.{Slotframe}
use Rattle.eb_fields_spec.specs.declared.Content.{Content}
use Rattle.eb_fields_spec.specs.Fields.{link_fields, content_in}

-- a content of this kind that has this number, or nothing
abbrev pub plain_content : ℕ → ℕ → Content
plain_content kind value = record { kind = kind; length = 0; number = value; octets = no_octets }

-- the first is the timeslot, the second the channel offset, the third the options
unfoldable pub link_number : Link → ℕ → ℕ
link_number link part = if_eq part 0 link.timeslot (if_eq part 1 link.channel_offset link.options)

-- the content of the field at a place among the fields of all links
unfoldable pub links_content : Slotframe → ℕ → Content
links_content slotframe place = content_in (link_fields slotframe 0 16) place
