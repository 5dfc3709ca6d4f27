-- Reading by the grammar, in the shape in which the code meets it: an answer that is what reading gives is as the grammar says. Assumes nothing.
use Prim.Native.Nat.{ℕ}
use mathlib.Core.Path.{◌≡◌, refl, sym, ◌∙◌, ap}
use mathlib.Core.List.{List}
use mir.Syntax.{w8}
use mir.Val.{Fits}
use lib.ListN.{get_or}
use Rattle.eb_record_spec.specs.declared.Beacon.{Beacon}
use Rattle.eb_record_spec.specs.declared.BeaconForm.{BeaconForm}
use Rattle.eb_record_spec.specs.Form.{form_of}
use Rattle.eb_read_spec.specs.Claims.{Bytes}
use Rattle.eb_read_spec.specs.Read.{read_frame}
use Rattle.eb_read_spec.specs.Form.{form_reading}
use Rattle.eb_read_spec.specs.Read.{ReadAnswer}
use Rattle.eb_read_spec.specs.declared.FormReading.{FormReading}
use Rattle.eb_grammar_spec.specs.Grammar.{Accepts}
use Rattle.eb_grammar_spec.specs.Claims.{AnswerAsSaid, FormAsSaid, ReadAsSaid, FormReadAsSaid}
use Rattle.eb_grammar_spec.proofs.Agreed.{sound, complete}

-- ---- of any grammar: an answer that is sound and complete is as the grammar says, and so is its form
module _ {A : Type 0} (Says : A → Type 0) (number : ℕ) (answer : A) (sound : number ≡ 0 → Says answer) (complete : (said : A) → Says said → (number ≡ 0) × (answer ≡ said)) where
  pub as_said : AnswerAsSaid Says number answer
  as_said = record {
    sound = sound;
    complete = complete;
    unambiguous = λ one other a b. sym (complete one a).1 ∙ (complete other b).1;
    refused_says_nothing = λ refused said a. refused (complete said a).0;
    nothing_is_refused = λ nothing e. nothing answer (sound e);
  }

  pub form_said : {F : Type 0} (to_form : A → F) (n : ℕ) (form : F) → n ≡ number → form ≡ to_form answer → FormAsSaid Says to_form n form
  form_said to_form n form same is = record {
    sound = λ e. (answer, sound (sym same ∙ e), is);
    complete = λ said a. (same ∙ (complete said a).0, is ∙ ap to_form (complete said a).1);
    unambiguous = as_said.unambiguous;
    refused_says_nothing = λ refused. as_said.refused_says_nothing (λ e. refused (same ∙ e));
    nothing_is_refused = λ nothing e. as_said.nothing_is_refused nothing (sym same ∙ e);
  }

-- ---- what is known of a lent slice of bytes
module _ (s : List ℕ) (held : (i : ℕ) → Fits w8 (get_or s i 0)) where
  bytes : Bytes s
  bytes i = (held i).fits

  module _ (number : ℕ) (beacon : Beacon) (is : record { number = number; beacon = beacon } ≡ read_frame s) where
    is_sound : number ≡ 0 → Accepts s beacon
    is_sound e = sound s beacon bytes (sym is ∙ (λ i. record { number = e i; beacon = beacon }))

    is_complete : (said : Beacon) → Accepts s said → (number ≡ 0) × (beacon ≡ said)
    is_complete said a =
        let e : ◌≡◌ {A = ReadAnswer} (record { number = number; beacon = beacon }) (record { number = 0; beacon = said }) = is ∙ complete s said bytes a in
        (ap (λ (x : ReadAnswer). x.number) e, ap (λ (x : ReadAnswer). x.beacon) e)

  pub read_as_said : (number : ℕ) (beacon : Beacon) → record { number = number; beacon = beacon } ≡ read_frame s → ReadAsSaid s number beacon
  read_as_said number beacon is = as_said (Accepts s) number beacon (is_sound number beacon is) (is_complete number beacon is)

  pub form_as_said : (number : ℕ) (form : BeaconForm) → record { number = number; beacon = form } ≡ form_reading (read_frame s) → FormReadAsSaid s number form
  unfolding form_reading
  form_as_said number form is =
      let same : ◌≡◌ {A = ReadAnswer} (record { number = (read_frame s).number; beacon = (read_frame s).beacon }) (read_frame s) = refl in
      form_said (Accepts s) _ _ (is_sound _ _ same) (is_complete _ _ same) form_of number form (ap (λ (x : FormReading). x.number) is) (ap (λ (x : FormReading). x.beacon) is)
