-- The text of a field's content, as bytes in ASCII, without a blank in it (docs/RULES.md, The printed differences). Assumes nothing.
use Rattle.std.specs.Prelude.{ℕ, List, [], ◌∷◌, ◌++◌, take}
use Rattle.octets_spec.specs.Choice.{if_eq}
use Rattle.text_put_spec.specs.Text.{decimal, hexadecimal, hex_octets}
use Rattle.text_put_spec.specs.Part.{absent_name}
use Rattle.eb_fields_spec.specs.declared.Content.{Content}
use Rattle.eb_fields_spec.specs.Content.{absent_kind, number_kind, short_kind, extended_kind}

-- `short:`
abbrev pub short_name : List ℕ
short_name = 115 ∷ 104 ∷ 111 ∷ 114 ∷ 116 ∷ 58 ∷ []

-- `extended:`
abbrev pub extended_name : List ℕ
extended_name = 101 ∷ 120 ∷ 116 ∷ 101 ∷ 110 ∷ 100 ∷ 101 ∷ 100 ∷ 58 ∷ []

-- `:`
abbrev pub colon : List ℕ
colon = 58 ∷ []

-- octets in hex behind their number: `2:00ff`, and `0:` for none
unfoldable pub octets_text : ℕ → List ℕ → List ℕ
octets_text size octets = decimal size ++ (colon ++ hex_octets (take size octets))

-- `absent`; a number in decimal; an address in hex, `short:0007` or `extended:0000000000000007`; octets
unfoldable pub content_text : Content → List ℕ
content_text content =
    if_eq content.kind absent_kind absent_name
    (if_eq content.kind number_kind (decimal content.number)
    (if_eq content.kind short_kind (short_name ++ hexadecimal 4 content.number)
    (if_eq content.kind extended_kind (extended_name ++ hexadecimal 16 content.number)
    (octets_text content.length content.octets))))
