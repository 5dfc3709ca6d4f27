-- The text that a comparison of two beacons is printed as, as bytes in ASCII (docs/RULES.md, The printed differences). Assumes nothing.
use Rattle.std.specs.Prelude.{ℕ, List, [], ◌∷◌, ◌++◌, take}
use Rattle.octets_spec.specs.Choice.{if_on}
use Rattle.eb_read_spec.specs.Read.{read_frame}
use Rattle.eb_fields_spec.specs.declared.Content.{Content}
use Rattle.eb_fields_spec.specs.Fields.{name_at}
use Rattle.compare_spec.specs.declared.Difference.{Difference}
use Rattle.compare_spec.specs.Compare.{Comparison, compared}
use Rattle.text_put_spec.specs.Part.{newline, refused_name, field, line_in}
use Rattle.text_fields_spec.specs.ContentText.{content_text}

-- a blank
abbrev pub blank : List ℕ
blank = 32 ∷ []

-- the content on one side, behind a blank
unfoldable pub side_text : Content → List ℕ
side_text content = blank ++ content_text content

-- the line of a field that differs: its name, the first content, the second: `pan-id 4660 51966`
unfoldable pub line_text : Difference → List ℕ
line_text difference = name_at difference.place ++ (side_text difference.first ++ (side_text difference.second ++ newline))

-- a line for each
unfoldable pub lines_text : List Difference → List ℕ
lines_text [] = []
lines_text (difference ∷ differences) = line_text difference ++ lines_text differences

-- the line where a frame is refused, with both numbers: `refused 0 2`
unfoldable pub refused_text : ℕ → ℕ → List ℕ
refused_text first second = field refused_name first ++ (field blank second ++ newline)

-- the text of a comparison: the lines of its list, or where there is no list the line with both numbers
unfoldable pub compared_text : Comparison → List ℕ
compared_text comparison =
    if_on comparison.differences.listed
    (lines_text (take comparison.differences.count comparison.differences.entries))
    (refused_text comparison.first comparison.second)

-- the least buffer that gets a text: a line has at most 149 bytes, and there are at most 77
abbrev pub compare_room : ℕ
compare_room = 11473

-- what two frames put into a buffer of some length: their text, and nothing into a buffer of under 11473 bytes
abbrev pub compare_text_for : ℕ → List ℕ → List ℕ → List ℕ
compare_text_for room first second = line_in compare_room room (compared_text (compared (read_frame first) (read_frame second)))
