-- The entries in use of a list of a fixed size, and those behind them: a count over the size takes them all. Assumes nothing.
use Prim.Native.Nat.{ℕ, min}
use mathlib.Core.Path.{◌≡◌, sym, ◌∙◌}
use mathlib.Core.List.{List}
use native.Mathlib.Omega.{arith}
use lib.ListN.{length, take, drop, drop_of_length-le}
use lib.Seq.{take_all}
use Rattle.octets_spec.proofs.ChoiceLaws.{by_lt}

module _ {A : Type 0} (xs : List A) (n : ℕ) where
  pub clip_take : (size : ℕ) → length xs ≡ size → take (min n size) xs ≡ take n xs
  clip_take size long =
      by_lt n size (λ h. let same : min n size ≡ n = omega arith in rw same) (λ h. let same : min n size ≡ size = omega arith in rw same (take_all size xs (omega arith) ∙ sym (take_all n xs (omega arith))))

  pub clip_drop : (size : ℕ) → length xs ≡ size → drop (min n size) xs ≡ drop n xs
  clip_drop size long =
      by_lt n size (λ h. let same : min n size ≡ n = omega arith in rw same)
      (λ h. let same : min n size ≡ size = omega arith in rw same (drop_of_length-le xs {i = size} (omega arith) ∙ sym (drop_of_length-le xs {i = n} (omega arith))))
