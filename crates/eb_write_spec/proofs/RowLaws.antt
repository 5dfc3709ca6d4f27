-- Parts put in a row are one part, and so are two numbers put as one. Assumes nothing.
use Prim.Native.Nat.{ℕ, zero, suc, ◌+◌, ◌*◌, ◌/◌, ◌%◌, ◌^◌, ◌<◌}
use mathlib.Core.Path.{◌≡◌, refl, sym, ◌∙◌, ap}
use mathlib.Core.List.{List, [], ◌∷◌, ◌++◌, append-nil}
use native.Mathlib.Nat.{mul_assoc, pow-succ'}
use native.Mathlib.Omega.{arith}
use lib.ListN.{length}
use Rattle.octets_spec.specs.Number.{le_bytes, stored}
use Rattle.octets_spec.proofs.PutLaws.{sets_append}

-- ---- parts in a row
module _ (s : List ℕ) (at : ℕ) (xs ys t : List ℕ) (n : ℕ) (first : t ≡ stored s at xs) (long : length xs ≡ n) where
  pub two : (u : List ℕ) → u ≡ stored t (at + n) ys → u ≡ stored s at (xs ++ ys)
  unfolding stored
  two u second = rw (second, first, sym long) (sym (sets_append s xs ys at))

pub three : (s : List ℕ) (at : ℕ) (xs ys zs t u v : List ℕ) (n m : ℕ) → t ≡ stored s at xs → length xs ≡ n → u ≡ stored t (at + n) ys → length ys ≡ m → v ≡ stored u (at + (n + m)) zs → v ≡ stored s at (xs ++ (ys ++ zs))
three s at xs ys zs t u v n m first long second wide third =
    let offset : at + (n + m) ≡ at + n + m = omega arith in
    two s at xs (ys ++ zs) t n first long v (two t (at + n) ys zs u m second wide v (rw offset at third))

-- nothing is stored
pub nothing : (s : List ℕ) (at : ℕ) → s ≡ stored s at []
unfolding stored
nothing s at = refl

-- ---- two numbers put as one: the second stands above the bytes of the first
pub le_joined : (v w a b : ℕ) → a < 256 ^ v → le_bytes (v + w) (a + 256 ^ v * b) ≡ le_bytes v a ++ le_bytes w b
unfolding le_bytes
le_joined zero w a b small = let all : a + 256 ^ 0 * b ≡ b = omega arith in let width : 0 + w ≡ w = omega arith in rw (width, all)
le_joined (suc v) w a b small =
    let width : suc v + w ≡ suc (v + w) = omega arith in
    let less : a < 256 * 256 ^ v = rw (← pow-succ' 256 v) small in
    let whole : a + 256 ^ suc v * b ≡ a + 256 * (256 ^ v * b) = rw (pow-succ' 256 v) (omega (arith, mul_assoc 256 (256 ^ v) b)) in
    let first : (a + 256 * (256 ^ v * b)) % 256 ≡ a % 256 = omega arith in
    let rest : (a + 256 * (256 ^ v * b)) / 256 ≡ a / 256 + 256 ^ v * b = omega arith in
    rw (width, whole, first, rest) (ap (λ (xs : List ℕ). a % 256 ∷ xs) (le_joined v w (a / 256) b (omega arith)))

-- a number put without what stands above its bytes
pub le_low : (v a b n : ℕ) → a < 256 ^ v → a + 256 ^ v * b ≡ n → le_bytes v a ≡ le_bytes v n
unfolding le_bytes
le_low v a b n small whole =
    let width : v + 0 ≡ v = omega arith in
    sym (append-nil (le_bytes v a)) ∙ (sym (le_joined v 0 a b small) ∙ rw (width, whole))
