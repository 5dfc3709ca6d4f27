-- What follows from the grammar: what can differ between two frames that say the same record. Assumes nothing.
use Prim.Native.Nat.{ℕ, ◌<◌}
use mathlib.Core.Path.{◌≡◌, refl, sym, ◌∙◌, subst}
use mathlib.Core.List.{List, [], ◌∷◌, ◌++◌}
use Rattle.mac_header_spec.specs.declared.SequenceNumber.{SequenceNumber}
use Rattle.mac_header_spec.specs.declared.Address.{Address}
use Rattle.eb_read_spec.proofs.Witnessed.{bytes}
use Rattle.eb_grammar_spec.specs.Row.{le, bits}
use Rattle.eb_grammar_spec.proofs.Unique.{heads}
use Rattle.eb_grammar_spec.proofs.Followed.{same_parts}
use Rattle.ack_read_spec.specs.Witnesses.{shortest, shortest_record}
use Rattle.ack_read_spec.proofs.Witnessed.{shortest_is_read}
use Rattle.ack_grammar_spec.specs.Grammar.{Compression, FrameControl, FixedFields, fixed_fields}
use Rattle.ack_grammar_spec.specs.Claims.{IgnoredBitsDoNotCount, NothingBehindTheListCounts, OtherElementsDoNotCount, ShortestIsOfTheGrammar}
use Rattle.ack_grammar_spec.proofs.Agreed.{sound}

module _ (low other : ℕ) (small : low < 256) (small' : other < 256) (four : bits 0 4 low ≡ bits 0 4 other) (six : bits 6 1 low ≡ bits 6 1 other) (high : ℕ) where
  other_bits : (suppression far near : ℕ) → FrameControl (le (low ∷ high ∷ [])) suppression far near → FrameControl (le (other ∷ high ∷ [])) suppression far near
  other_bits suppression far near c =
      let same = same_parts low other small small' four six high in
      record {
        type = same.type ∙ c.type;
        security = same.security ∙ c.security;
        compression = subst (Compression far near) (sym same.compression) c.compression;
        suppression = same.suppression ∙ c.suppression;
        elements = same.elements ∙ c.elements;
        destination = same.destination ∙ c.destination;
        version = same.version ∙ c.version;
        source = same.source ∙ c.source;
      }

  other_fields : (rest xs fields : List ℕ) (n : SequenceNumber) (p : ℕ) (to from : Address) → FixedFields fields n p to from → low ∷ high ∷ rest ≡ fields ++ xs → (changed : List ℕ) × FixedFields changed n p to from × (other ∷ high ∷ rest ≡ changed ++ xs)
  other_fields rest xs _ _ _ _ _ (fixed_fields l h p q {suppression} {far} {near} {sequence} {destination} {source} c q-says to-says from-says) e =
      let head = heads e in
      let d : FrameControl (le (other ∷ h ∷ [])) suppression far near = rw head.1 at (other_bits suppression far near (rw (head.0, head.1) c)) in
      (other ∷ h ∷ (sequence ++ (p ∷ q ∷ (destination ++ source))), fixed_fields other h p q d q-says to-says from-says, rw (head.1, head.2))

pub ignored_bits_do_not_count : IgnoredBitsDoNotCount
ignored_bits_do_not_count low other high rest ack small small' four six a =
    let f = other_fields low other small small' four six high rest _ a.fields _ _ _ _ a.opens a.stands in
    record { fields = f.0; header = a.header; rest = a.rest; at_most_125 = a.at_most_125; stands = f.2; opens = f.1; lists = a.lists; ends = a.ends; says = a.says }

pub nothing_behind_the_list_counts : NothingBehindTheListCounts
nothing_behind_the_list_counts frame other ack a ends short =
    record { fields = a.fields; header = a.header; rest = other; at_most_125 = short; stands = refl; opens = a.opens; lists = a.lists; ends = ends; says = a.says }

pub other_elements_do_not_count : OtherElementsDoNotCount
other_elements_do_not_count frame other ack a lists same short =
    record { fields = a.fields; header = other; rest = a.rest; at_most_125 = short; stands = refl; opens = a.opens; lists = lists; ends = a.ends; says = (a.says.0, sym same ∙ a.says.1, a.says.2) }

pub shortest_is_of_the_grammar : ShortestIsOfTheGrammar
shortest_is_of_the_grammar = sound shortest shortest_record (bytes shortest tt) shortest_is_read.0
