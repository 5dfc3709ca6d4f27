-- Bytes that stand at an offset of a list: the bridge from a frame as parts in a row to reading at offsets. What stands there can be split
-- and read byte by byte. Assumes nothing.
use Prim.Native.Nat.{ℕ, suc, ◌+◌, ◌≤◌}
use mathlib.Core.Path.{◌≡◌, ◌∙◌}
use mathlib.Core.List.{List, [], ◌∷◌, ◌++◌}
use native.Mathlib.Nat.{add-zero}
use native.Mathlib.Omega.{arith}
use lib.ListN.{length, get_or, length-append}
use lib.Seq.{append_snoc, get_or-append_seam}
use Rattle.octets_spec.specs.Number.{le_at}

-- these bytes stand there
unfoldable pub Stands : List ℕ → ℕ → List ℕ → Type 0
Stands s at [] = at ≤ length s
Stands s at (x ∷ xs) = (get_or s at 0 ≡ x) × Stands s (suc at) xs

stands_bound : (s xs : List ℕ) (at : ℕ) → Stands s at xs → at + length xs ≤ length s
unfolding Stands
stands_bound s [] at h = omega arith
stands_bound s (x ∷ xs) at h = omega (arith, stands_bound s xs (suc at) h.1)

pub stands_at : (s xs : List ℕ) (i j : ℕ) → i ≡ j → Stands s i xs → Stands s j xs
stands_at s xs i j e h = rw (← e) h

pub stands_first : (s xs ys : List ℕ) (at : ℕ) → Stands s at (xs ++ ys) → Stands s at xs
unfolding Stands
stands_first s [] ys at h = omega (arith, stands_bound s ys at h)
stands_first s (x ∷ xs) ys at h = (h.0, stands_first s xs ys (suc at) h.1)

pub stands_rest : (s xs ys : List ℕ) (at : ℕ) → Stands s at (xs ++ ys) → Stands s (at + length xs) ys
unfolding Stands
stands_rest s [] ys at h = rw (add-zero at) h
stands_rest s (x ∷ xs) ys at h = stands_at s ys (suc at + length xs) (at + suc (length xs)) (omega arith) (stands_rest s xs ys (suc at) h.1)

-- a list stands at its own start
stands_behind : (before xs : List ℕ) → Stands (before ++ xs) (length before) xs
unfolding Stands
stands_behind before [] = omega (arith, length-append before [])
stands_behind before (x ∷ xs) =
    let e : length (before ++ (x ∷ [])) ≡ suc (length before) = length-append before (x ∷ []) ∙ omega arith in
    (get_or-append_seam before x xs 0, rw (append_snoc before x xs, e) at (stands_behind (before ++ (x ∷ [])) xs))

pub stands_whole : (s xs : List ℕ) → s ≡ xs → Stands s 0 xs
stands_whole s xs e = rw (← e) (stands_behind [] s)

-- a number of one byte is that byte
pub byte_is : (s : List ℕ) (at n : ℕ) → n ≡ le_at 1 s at → n ≡ get_or s at 0
unfolding le_at
byte_is s at n e = omega (arith, e)
