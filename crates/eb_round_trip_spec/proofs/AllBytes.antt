-- Lists of which every entry is a byte: their parts, the numbers in them, and the tests that they pass. Tests that hold together. Assumes nothing.
use Prim.Native.Nat.{ℕ, zero, suc, ◌+◌, ◌^◌, ◌<◌, ◌≤◌}
use mathlib.Core.Path.{◌≡◌, refl}
use mathlib.Core.Bool.{true, and-eq-true_iff, Bool, ◌&&◌}
use mathlib.Core.List.{List, [], ◌∷◌, ◌++◌}
use native.Mathlib.Nat.{pow-suc, mul-le-mul_left}
use native.Mathlib.Omega.{arith}
use borrow.Author.Tests.{lt-ltb, ltb-true}
use lib.Dec.{lit<, ltb}
use lib.ListN.{length, get_or, take, drop, replicate}
use Rattle.eb_write_spec.specs.Limits.{all_of, all_below}
use Rattle.eb_read_spec.specs.Claims.{Bytes}
use Rattle.eb_grammar_spec.specs.Row.{le, be, Row, last, next}

-- both tests hold
pub also : {a b : Bool} → a ≡ true → b ≡ true → (a && b) ≡ true
also e f = rw e f

pub all_blank : {A : Type 0} (test : A → Bool) (n : ℕ) (x : A) → test x ≡ true → all_of test (replicate n x) ≡ true
unfolding all_of
all_blank test zero x h = refl
all_blank test (suc n) x h = also h (all_blank test n x h)

-- every entry is a byte
pub data All : List ℕ → Type 0 where
  none : All []
  more : {x : ℕ} {xs : List ℕ} → x < 256 → All xs → All (x ∷ xs)

pub bytes_of : (xs : List ℕ) → All xs → Bytes xs
bytes_of _ none i = lit< tt
bytes_of _ (more h all) zero = h
bytes_of _ (more {xs} h all) (suc i) = bytes_of xs all i

pub all_of_lem : (xs : List ℕ) → Bytes xs → All xs
all_of_lem [] bytes = none
all_of_lem (x ∷ xs) bytes = more (bytes 0) (all_of_lem xs (λ i. bytes (suc i)))

pub both : {xs ys : List ℕ} → All xs → All ys → All (xs ++ ys)
both none b = b
both (more h all) b = more h (both all b)

pub parts : (xs ys : List ℕ) → All (xs ++ ys) → All xs × All ys
parts [] ys all = (none, all)
parts (x ∷ xs) ys (more h all) = let r = parts xs ys all in (more h r.0, r.1)

pub first_byte : {x : ℕ} {xs : List ℕ} → All (x ∷ xs) → x < 256
first_byte (more h all) = h

pub behind_byte : {x : ℕ} {xs : List ℕ} → All (x ∷ xs) → All xs
behind_byte (more h all) = all

pub all_below_lem : (ns : List ℕ) → all_below 256 ns ≡ true → All ns
unfolding all_below all_of
all_below_lem [] e = none
all_below_lem (n ∷ ns) e = let k = (and-eq-true_iff (ltb n 256) _).0 e in more (ltb-true n 256 k.0) (all_below_lem ns k.1)

pub below_all : (ns : List ℕ) → All ns → all_below 256 ns ≡ true
unfolding all_below all_of
below_all _ none = refl
below_all _ (more {xs} h all) = also (lt-ltb _ _ h) (below_all xs all)

-- ---- numbers
pub le_small : (xs : List ℕ) → All xs → le xs < 256 ^ length xs
unfolding le
le_small _ none = lit< tt
le_small _ (more {xs} h all) = rw (pow-suc 256 (length xs)) (omega (arith, h, le_small xs all))

pub be_small : (xs : List ℕ) → All xs → be xs < 256 ^ length xs
unfolding be
be_small _ none = lit< tt
be_small _ (more {x} {xs} h all) = let small : x ≤ 255 = omega arith in rw (pow-suc 256 (length xs)) (omega (arith, mul-le-mul_left (256 ^ length xs) small, be_small xs all))

-- the numbers of a row, each below the bound of its width
abbrev pub Bounded : List ℕ → List ℕ → Type 0
Bounded [] ns = ns ≡ []
Bounded (w ∷ ws) ns = (n : ℕ) × (rest : List ℕ) × (ns ≡ n ∷ rest) × (n < 256 ^ w) × Bounded ws rest

pub row_bounded : (ws xs ns : List ℕ) → Row ws xs ns → All xs → Bounded ws ns
row_bounded _ _ _ last all = refl
row_bounded _ _ _ (next xs {widths = ws} {bytes} {numbers = ns} row) all = let p = parts xs bytes all in (le xs, ns, refl, le_small xs p.0, row_bounded ws bytes ns row p.1)

-- of equal widths at its start
pub bounded_take : (w : ℕ) (ws : List ℕ) (k : ℕ) (ns : List ℕ) → Bounded (replicate k w ++ ws) ns → (all_below (256 ^ w) (take k ns) ≡ true) × Bounded ws (drop k ns) × (length ns ≡ k + length (drop k ns))
unfolding all_below all_of
bounded_take w ws zero ns b = (refl, b, omega arith)
bounded_take w ws (suc k) ns (n, rest, e, small, behind) =
    let go = bounded_take w ws k rest behind in
    rw e (also (lt-ltb _ _ small) go.0, go.1, omega (arith, go.2))

-- one of its numbers
pub row_entry : (ws xs ns : List ℕ) → Row ws xs ns → All xs → (i : ℕ) → get_or ns i 0 < 256 ^ get_or ws i 0
row_entry _ _ _ last all i = lit< tt
row_entry _ _ _ (next xs {bytes} row) all zero = le_small xs (parts xs bytes all).0
row_entry _ _ _ (next xs {widths = ws} {bytes} {numbers = ns} row) all (suc i) = row_entry ws bytes ns row (parts xs bytes all).1 i

-- ---- lists of such lists, and how many bytes they are with some more each
abbrev pub Each : List (List ℕ) → Type 0
Each [] = Unit
Each (c ∷ cs) = All c × Each cs

abbrev pub weights : ℕ → List (List ℕ) → ℕ
weights over [] = 0
weights over (c ∷ cs) = over + length c + weights over cs
