-- Bounds of what is read from bytes: a number by its width, and an entry of a list that is counted out by what it was counted from.
-- Assumes nothing.
use Prim.Native.Nat.{ℕ, zero, suc, ◌+◌, ◌*◌, ◌^◌, ◌<◌, ◌≤◌, min}
use mathlib.Core.Path.{◌≡◌, sym, subst}
use mathlib.Core.Bool.{true}
use mathlib.Core.List.{List, ◌∷◌, ◌++◌}
use mathlib.Core.Logic.{⊎_elim}
use native.Mathlib.Nat.{pow-suc, mul-le-mul_left, eq-or-lt_of_le}
use native.Mathlib.Omega.{arith}
use lib.Dec.{T, ltb, ltb→lt, lit<}
use lib.ListN.{get_or}
use lib.Seq.{append_snoc, get_or_at}
use Rattle.octets_spec.specs.Number.{le_at, be_at}
use Rattle.octets_spec.specs.Counted.{counted, padded}
use Rattle.octets_spec.proofs.CountedLaws.{length_counted}
use Rattle.ie_verdict_spec.specs.Verdict.{timeslots_fit}
use Rattle.eb_read_spec.specs.Claims.{Bytes}
use mir.Facts.{and_yes}

-- ---- a number is below 256 to the power of its width
module _ (s : List ℕ) (bytes : Bytes s) where
  pub le_below : (width at : ℕ) → le_at width s at < 256 ^ width
  unfolding le_at
  le_below zero at = lit< tt
  le_below (suc width) at = rw (pow-suc 256 width) (omega (arith, bytes at, le_below width (at + 1)))

  pub be_below : (width at : ℕ) → be_at width s at < 256 ^ width
  unfolding be_at
  be_below zero at = lit< tt
  be_below (suc width) at =
      let small : get_or s at 0 ≤ 255 = omega (arith, bytes at) in
      rw (pow-suc 256 width) (omega (arith, mul-le-mul_left (256 ^ width) small, be_below width (at + 1)))

-- ---- entries of a list that is counted out
module _ {A : Type 0} (f : ℕ → A) (default : A) where
  counted_at : (n i : ℕ) (rest : List A) → i < n → get_or (counted f n ++ rest) i default ≡ f i
  unfolding counted
  counted_at zero i rest h = absurd (omega arith)
  counted_at (suc n) i rest h =
      let le : i ≤ n = omega arith in
      rw (append_snoc (counted f n) (f n) rest)
      (⊎_elim (λ (e : i ≡ n). rw e (get_or_at (counted f n) (f n) rest default n (length_counted f n))) (λ (lt : i < n). counted_at n i (f n ∷ rest) lt) (eq-or-lt_of_le le))

  pub padded_at : (blank : A) (size n i : ℕ) → i < n → n ≤ size → get_or (padded f blank size n) i default ≡ f i
  unfolding padded
  padded_at blank size n i h k = let all : i < min n size = omega arith in counted_at (min n size) i _ all

-- ---- the timeslots that fit
fit_go : (s : List ℕ) (size n at i : ℕ) → T (timeslots_fit s at n size) → i < n → le_at 2 s (at + 5 * i) < size
unfolding timeslots_fit
fit_go s size zero at i t h = absurd (omega arith)
fit_go s size (suc n) at zero t h =
    let here : at + 5 * 0 ≡ at = omega arith in
    rw here (ltb→lt _ _ (and_yes (ltb (le_at 2 s at) size) _ t).0)
fit_go s size (suc n) at (suc i) t h =
    let next : at + 5 * suc i ≡ at + 5 + 5 * i = omega arith in
    rw next (fit_go s size n (at + 5) i (and_yes (ltb (le_at 2 s at) size) _ t).1 (omega arith))

pub fit_below : (s : List ℕ) (size n at i : ℕ) → timeslots_fit s at n size ≡ true → i < n → le_at 2 s (at + 5 * i) < size
fit_below s size n at i e h = fit_go s size n at i (subst T (sym e) tt) h
