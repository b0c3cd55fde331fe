-- Bits of words that are moved and joined.
use Rattle.std.proofs.Common.{◌≡◌, ◌↔◌, ℕ, ◌+◌, ◌-◌, ◌*◌, ◌/◌, ◌%◌, ◌^◌, ◌<◌, ◌≤◌, sym, ap, add-zero, ◌∙◌, inl, inr, ◌⊎◌, ⊎_elim, arith}
use Rattle.std.specs.Prelude.{bit_and, bit_or}
use Rattle.std.specs.Int.{bit_at}
use Rattle.std.proofs.lemmas.Bool.{cases_lt}
use Rattle.std.proofs.lemmas.Nat.{pow_pos, shr-shr, shr_split, mod_below}
use Rattle.std.proofs.lemmas.Nat.Bits.{bit_at_and, bit_at_or, bit_at-lt, bit_at_cat_low, bit_at_cat_high, bit_at_above}
use Rattle.std.proofs.lemmas.Nat.Bits.{bit_at-zero, bit_at_mask_below, bit_at_mask_inside, bit_at_ones, bit_at_ones_above}
use Rattle.reach_planes.specs.Words.{moved}

-- a bit of two words joined by or
pub set_or : (a b i : ℕ) → (bit_at (bit_or a b) i ≡ 1) ↔ ((bit_at a i ≡ 1) ⊎ (bit_at b i ≡ 1))
set_or a b i =
    let e = bit_at_or a b i in
    let la = bit_at-lt a i in
    let lb = bit_at-lt b i in (
      λ h. elim (cases_lt (bit_at a i) 1) [
        | inl l ↦ inr (omega (arith, h, e, l, lb))
        | inr l ↦ inl (omega (arith, l, la))
      ],
      λ h. ⊎_elim (λ x. omega (arith, x, e, lb)) (λ x. omega (arith, x, e, la)) h,
    )

pub set_and : (a b i : ℕ) → (bit_at (bit_and a b) i ≡ 1) ↔ ((bit_at a i ≡ 1) × (bit_at b i ≡ 1))
set_and a b i =
    let e = bit_at_and a b i in
    let la = bit_at-lt a i in
    let lb = bit_at-lt b i in
    (λ h. (omega (arith, h, e, la, lb), omega (arith, h, e, la, lb)), λ h. omega (arith, h.0, h.1, e))

-- a bit of a word whose bits went up and then down
bit_at-shr : (x k i : ℕ) → bit_at (x / 2 ^ k) i ≡ bit_at x (i + k)
bit_at-shr x k i = ap (λ n. n % 2) (shr-shr x k i) ∙ ap (λ n. x / 2 ^ n % 2) (let e : k + i ≡ i + k = omega arith in e)

bit_at-cut : (x i : ℕ) → i < 64 → bit_at (x % 2 ^ 64) i ≡ bit_at x i
bit_at-cut x i l = sym (bit_at_cat_low (x / 2 ^ 64) 64 (x % 2 ^ 64) i l) ∙ ap (λ n. bit_at n i) (shr_split x 64)

bit_at-shl_low : (x k i : ℕ) → i < k → bit_at (x * 2 ^ k) i ≡ 0
bit_at-shl_low x k i l = ap (λ n. bit_at n i) (sym (add-zero (x * 2 ^ k))) ∙ bit_at_cat_low x k 0 i l ∙ bit_at-zero i

bit_at-shl_high : (x k i : ℕ) → k ≤ i → bit_at (x * 2 ^ k) i ≡ bit_at x (i - k)
bit_at-shl_high x k i l = ap (λ n. bit_at n i) (sym (add-zero (x * 2 ^ k))) ∙ bit_at_cat_high x k 0 i (pow_pos k) l

-- where a bit of a moved word was before
pub record HasMovedBit (up down mask word bit : ℕ) : Type 0 where
  pub within : bit + down < 64
  pub above : up ≤ bit + down
  pub was : bit_at word (bit + down - up) ≡ 1
  pub kept : bit_at mask bit ≡ 1

pub set_moved : (up down mask word bit : ℕ) → (bit_at (moved up down mask word) bit ≡ 1) ↔ HasMovedBit up down mask word bit
set_moved up down mask word bit =
    let cut : ℕ = word * 2 ^ up % 2 ^ 64 in
    let low = bit_at-shr cut down bit in (
      λ h.
          let both = (set_and (cut / 2 ^ down) mask bit).0 h in
          elim (cases_lt (bit + down) 64) [
            | inl l ↦
                let here = bit_at-cut (word * 2 ^ up) (bit + down) l in
                elim (cases_lt (bit + down) up) [
                  | inl under ↦ absurd (omega (arith, both.0, low, here, bit_at-shl_low word up (bit + down) under))
                  | inr over ↦ record { within = l; above = over; was = sym (bit_at-shl_high word up (bit + down) over) ∙ sym here ∙ sym low ∙ both.0; kept = both.1 }
                ]
            | inr l ↦ absurd (omega (arith, both.0, low, bit_at_above cut 64 (bit + down) (mod_below (word * 2 ^ up) (2 ^ 64) (pow_pos 64)) l))
          ],
      λ h. (set_and (cut / 2 ^ down) mask bit).1 (low ∙ bit_at-cut (word * 2 ^ up) (bit + down) h.within ∙ bit_at-shl_high word up (bit + down) h.above ∙ h.was, h.kept),
    )

-- the ones from a bit on, and up to a bit
pub set_from : (low i : ℕ) → i < 64 → (bit_at (2 ^ 64 - 2 ^ low) i ≡ 1) ↔ (low ≤ i)
set_from low i l = (
  λ h. elim (cases_lt i low) [
    | inl under ↦ absurd (omega (arith, h, bit_at_mask_below low 64 i under))
    | inr over ↦ over
  ],
  λ h. bit_at_mask_inside low 64 i h l,
)

pub set_up_to : (bits i : ℕ) → (bit_at (2 ^ bits - 1) i ≡ 1) ↔ (i < bits)
set_up_to bits i = (
  λ h. elim (cases_lt i bits) [
    | inl under ↦ under
    | inr over ↦ absurd (omega (arith, h, bit_at_ones_above bits i over))
  ],
  λ h. bit_at_ones bits i h,
)
