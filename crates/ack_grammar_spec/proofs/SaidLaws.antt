-- Reading by the grammar, in the shape in which the code meets it: an answer that is what reading gives is as the grammar says. Assumes nothing.
use Prim.Native.Nat.{ℕ}
use mathlib.Core.Path.{◌≡◌, refl, sym, ◌∙◌, ap}
use mathlib.Core.List.{List}
use mir.Syntax.{w8}
use mir.Val.{Fits}
use lib.ListN.{get_or}
use Rattle.eb_read_spec.specs.Claims.{Bytes}
use Rattle.eb_grammar_spec.proofs.SaidLaws.{as_said, form_said}
use Rattle.ack_record_spec.specs.declared.Ack.{Ack}
use Rattle.ack_record_spec.specs.declared.AckForm.{AckForm}
use Rattle.ack_record_spec.specs.Record.{form_of}
use Rattle.ack_read_spec.specs.Read.{read_ack, form_reading}
use Rattle.ack_read_spec.specs.Read.{AckAnswer}
use Rattle.ack_read_spec.specs.declared.AckReading.{AckReading}
use Rattle.ack_grammar_spec.specs.Claims.{ReadAsSaid, FormReadAsSaid}
use Rattle.ack_grammar_spec.specs.Grammar.{Accepts}
use Rattle.ack_grammar_spec.proofs.Agreed.{sound, complete}

-- what is known of a lent slice of bytes
module _ (s : List ℕ) (held : (i : ℕ) → Fits w8 (get_or s i 0)) where
  bytes : Bytes s
  bytes i = (held i).fits

  module _ (number : ℕ) (ack : Ack) (is : record { number = number; ack = ack } ≡ read_ack s) where
    is_sound : number ≡ 0 → Accepts s ack
    is_sound e = sound s ack bytes (sym is ∙ (λ i. record { number = e i; ack = ack }))

    is_complete : (said : Ack) → Accepts s said → (number ≡ 0) × (ack ≡ said)
    is_complete said a =
        let e : ◌≡◌ {A = AckAnswer} (record { number = number; ack = ack }) (record { number = 0; ack = said }) = is ∙ complete s said bytes a in
        (ap (λ (x : AckAnswer). x.number) e, ap (λ (x : AckAnswer). x.ack) e)

  pub read_as_said : (number : ℕ) (ack : Ack) → record { number = number; ack = ack } ≡ read_ack s → ReadAsSaid s number ack
  read_as_said number ack is = as_said (Accepts s) number ack (is_sound number ack is) (is_complete number ack is)

  pub form_as_said : (number : ℕ) (form : AckForm) → record { number = number; ack = form } ≡ form_reading (read_ack s) → FormReadAsSaid s number form
  unfolding form_reading
  form_as_said number form is =
      let same : ◌≡◌ {A = AckAnswer} (record { number = (read_ack s).number; ack = (read_ack s).ack }) (read_ack s) = refl in
      form_said (Accepts s) _ _ (is_sound _ _ same) (is_complete _ _ same) form_of number form (ap (λ (x : AckReading). x.number) is) (ap (λ (x : AckReading). x.ack) is)
