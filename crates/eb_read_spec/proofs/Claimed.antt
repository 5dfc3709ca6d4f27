-- The claims about reading. Assumes nothing.
use Prim.Native.Nat.{ℕ, zero, suc, ◌<◌}
use mathlib.Core.Path.{◌≡◌, refl, sym, ◌∙◌}
use mathlib.Core.List.{List}
use lib.Dec.{lit≤, eqb-suc-zero}
use lib.ListN.{length}
use Rattle.octets_spec.specs.Choice.{if_eq}
use Rattle.octets_spec.proofs.ChoiceLaws.{by_lt}
use Rattle.eb_record_spec.specs.declared.Beacon.{Beacon}
use Rattle.mac_header_spec.specs.Fields.{mac_header_of}
use Rattle.eb_read_spec.specs.Policy.{mac_header_fault}
use Rattle.eb_read_spec.specs.Read.{examined, read_frame}
use Rattle.eb_read_spec.specs.Claims.{NumbersTo8, OneIsTheLength}
use Rattle.eb_read_spec.specs.Read.{ReadAnswer}
use Rattle.eb_read_spec.proofs.PolicyLaws.{too_long}
use Rattle.eb_read_spec.proofs.Numbers.{at_most_8, not_1, examined_small}

-- the record does not change the number
answered : ℕ → Beacon → Beacon → ReadAnswer
answered n a b = if_eq n 0 (record { number = 0; beacon = a }) (record { number = n; beacon = b })

kept : (n : ℕ) (a b : Beacon) → (answered n a b).number ≡ n
unfolding answered if_eq
kept zero a b = refl
kept (suc n) a b = rw (eqb-suc-zero n)

pub number_of : (s : List ℕ) → (read_frame s).number ≡ (examined s).number
unfolding read_frame answered
number_of s = kept (examined s).number _ _

long_is_1 : (s : List ℕ) → 125 < length s → (examined s).number ≡ 1
unfolding examined mac_header_fault if_eq
long_is_1 s h = let e = sym (too_long (length s) (mac_header_of s) h) in rw e

pub numbers_to_8 : NumbersTo8
numbers_to_8 s =
    by_lt 125 (length s) (λ h. rw (number_of s, long_is_1 s h) (lit≤ tt)) (λ h. rw (number_of s) (at_most_8 _ (examined_small s h)))

pub one_is_the_length : OneIsTheLength
one_is_the_length s =
    (λ e. by_lt 125 (length s) (λ h. h) (λ h. absurd (not_1 _ (examined_small s h) (sym (number_of s) ∙ e))), λ h. number_of s ∙ long_is_1 s h)
