-- The laws of writing a frame, in the shape in which the code meets them: of any record, by whether it is within its limits and by its frame.
-- Assumes nothing.
use Prim.Native.Nat.{ℕ, ◌+◌, ◌<◌, ◌≤◌}
use mathlib.Core.Path.{◌≡◌, refl, sym, ◌∙◌, ap}
use mathlib.Core.Bool.{Bool, true, false, not}
use mathlib.Core.List.{List, ◌++◌}
use native.Mathlib.Omega.{arith}
use borrow.Author.Tests.{not-true, not-false}
use lib.Dec.{eqb}
use lib.ListN.{length, take, drop, length-append}
use lib.Seq.{sets-eq, length-take-le, take-append_seam}
use Rattle.octets_spec.specs.Choice.{if_lt, if_eq}
use Rattle.octets_spec.specs.Number.{stored}
use Rattle.octets_spec.proofs.ChoiceLaws.{if_on_lem, if_off_lem, if_lt_lem, if_ge, if_eq_lem, was_on, was_off, was_lt, was_ge, either_lt}
use Rattle.eb_write_spec.specs.declared.Written.{Written}
use Rattle.eb_write_spec.specs.Write.{number_for, answer_for, buffer_for}
use Rattle.eb_write_spec.specs.Claims.{EachWhen}

-- ---- when each number is given
-- a number is not another one
abbrev Not : ℕ → ℕ → Type 0
Not n k = k ≡ n → ⊥

pub each_when : (within : Bool) (frame : List ℕ) (buffer : ℕ) → EachWhen (number_for within frame buffer) within (length frame) buffer
unfolding number_for
each_when within frame buffer =
    let bytes : ℕ = length frame in
    let not_8 : Not 8 (if_lt 125 bytes 1 (if_lt buffer bytes 9 0)) = either_lt (Not 8) _ _ (λ e. omega arith) (either_lt (Not 8) _ _ (λ e. omega arith) (λ e. omega arith) buffer bytes) 125 bytes in
    let not_1 : Not 1 (if_lt buffer bytes 9 0) = either_lt (Not 1) _ _ (λ e. omega arith) (λ e. omega arith) buffer bytes in (
      (λ e. (was_off _ _ 8 within e not_8).0, λ off. sym (if_off_lem _ _ within off refl)),
      (
        λ e. let on = was_on _ _ 1 within e (λ (z : 8 ≡ 1). omega arith) in (on.0, (was_lt _ _ 1 125 bytes on.1 not_1).0),
        λ h. sym (if_on_lem _ _ within h.0 (if_lt_lem _ _ 125 bytes h.1 refl)),
      ),
      (
        λ e. let on = was_on _ _ 9 within e (λ (z : 8 ≡ 9). omega arith) in let short = was_ge _ _ 9 125 bytes on.1 (λ (z : 1 ≡ 9). omega arith) in (on.0, short.0, (was_lt _ _ 9 buffer bytes short.1 (λ (z : 0 ≡ 9). omega arith)).0),
        λ h. sym (if_on_lem _ _ within h.0 (if_ge _ _ 125 bytes h.1 (if_lt_lem _ _ buffer bytes h.2 refl))),
      ),
      (
        λ e. let on = was_on _ _ 0 within e (λ (z : 8 ≡ 0). omega arith) in let short = was_ge _ _ 0 125 bytes on.1 (λ (z : 1 ≡ 0). omega arith) in (on.0, short.0, (was_ge _ _ 0 buffer bytes short.1 (λ (z : 9 ≡ 0). omega arith)).0),
        λ h. sym (if_on_lem _ _ within h.0 (if_ge _ _ 125 bytes h.1 (if_ge _ _ buffer bytes h.2 refl))),
      ),
    )

-- ---- a refusal
module _ (within : Bool) (frame : List ℕ) (s : List ℕ) (k : ℕ) (is : k ≡ number_for within frame (length s)) (some : eqb k 0 ≡ false) where
  pub refused_answer : record { number = k; length = 0 } ≡ answer_for within frame (length s)
  unfolding answer_for if_eq
  refused_answer = rw (sym is, some)

  refused_buffer : s ≡ buffer_for within frame s
  unfolding buffer_for if_eq
  refused_buffer = rw (sym is, some)

-- ---- the number, and the frame written
module _ (within : Bool) (frame : List ℕ) (f : Bool) (limits : f ≡ within) where
  pub number_limits : (buffer : ℕ) → not f ≡ true → 8 ≡ number_for within frame buffer
  unfolding number_for
  number_limits buffer off = if_off_lem _ _ within (sym limits ∙ not-true f off) refl

  pub limits_buffer : (s : List ℕ) → not f ≡ true → s ≡ buffer_for within frame s
  limits_buffer s off = refused_buffer within frame s 8 (number_limits (length s) off) refl

  module _ (on : not f ≡ false) where
    fine : within ≡ true
    fine = sym limits ∙ not-false f on

    module _ (n : ℕ) (long : (within ≡ true → n ≡ length frame)) where
      whole : length frame ≡ n
      whole = sym (long fine)

      pub number_long : (buffer : ℕ) → 125 < n → 1 ≡ number_for within frame buffer
      unfolding number_for
      number_long buffer h = if_on_lem _ _ within fine (rw whole (if_lt_lem _ _ 125 n h refl))

      pub long_buffer : (s : List ℕ) → 125 < n → s ≡ buffer_for within frame s
      long_buffer s h = refused_buffer within frame s 1 (number_long (length s) h) refl

      module _ (h : n ≤ 125) where
        pub number_short : (buffer : ℕ) → buffer < n → 9 ≡ number_for within frame buffer
        unfolding number_for
        number_short buffer k = if_on_lem _ _ within fine (rw whole (if_ge _ _ 125 n h (if_lt_lem _ _ buffer n k refl)))

        pub short_buffer : (s : List ℕ) → length s < n → s ≡ buffer_for within frame s
        short_buffer s k = refused_buffer within frame s 9 (number_short (length s) k) refl

        number_done : (buffer : ℕ) → n ≤ buffer → 0 ≡ number_for within frame buffer
        unfolding number_for
        number_done buffer k = if_on_lem _ _ within fine (rw whole (if_ge _ _ 125 n h (if_ge _ _ buffer n k refl)))

        pub done_answer : (buffer : ℕ) → n ≤ buffer → record { number = 0; length = n } ≡ answer_for within frame buffer
        unfolding answer_for if_eq
        done_answer buffer k = rw (sym (number_done buffer k), whole)

        pub done_buffer : (s t : List ℕ) → n ≤ length s → t ≡ stored s 0 frame → t ≡ buffer_for within frame s
        unfolding buffer_for stored if_eq
        done_buffer s t k put =
            let offset : 0 + length frame ≡ length frame = omega arith in
            rw (sym (number_done (length s) k)) (put ∙ (sets-eq frame s 0 (omega (arith, whole)) ∙ rw offset))

pub ruleset answers = (refused_answer, number_limits, limits_buffer, number_long, long_buffer, number_short, short_buffer, done_answer, done_buffer)

-- ---- what a call left that is done
module _ (within : Bool) (frame buffer : List ℕ) (w : Written) (is : w ≡ answer_for within frame (length buffer)) where
  pub number_is : w.number ≡ number_for within frame (length buffer)
  unfolding answer_for
  number_is = ap (λ (x : Written). x.number) is

  module _ (good : w.number ≡ 0) where
    pub done_number : number_for within frame (length buffer) ≡ 0
    done_number = sym number_is ∙ good

    length_is : w.length ≡ length frame
    unfolding answer_for
    length_is = ap (λ (x : Written). x.length) is ∙ sym (if_eq_lem _ _ (number_for within frame (length buffer)) 0 done_number refl)

    module _ (after : List ℕ) (stands : after ≡ buffer_for within frame buffer) where
      buffer_is : after ≡ frame ++ drop (length frame) buffer
      unfolding buffer_for
      buffer_is = stands ∙ sym (if_eq_lem _ _ (number_for within frame (length buffer)) 0 done_number refl)

      pub back_fits : w.length ≤ length after
      back_fits = rw (buffer_is, length_is) (omega (arith, length-append frame (drop (length frame) buffer)))

      pub back_part : w.length ≡ length (take w.length after)
      back_part = sym (length-take-le w.length after back_fits)

      pub part_is : take w.length after ≡ frame
      part_is = rw (buffer_is, length_is) (take-append_seam frame (drop (length frame) buffer))
