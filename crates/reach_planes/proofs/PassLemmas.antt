-- What each pass over the words of a plane does to its bits.
use Rattle.std.specs.Prelude.{slice_index}
use Rattle.std.proofs.Common.{◌≡◌, ◌↔◌, ℕ, ◌+◌, ◌-◌, ◌*◌, ◌/◌, ◌%◌, ◌<◌, ◌≤◌, List}
use Rattle.std.proofs.Common.{length, get_or, set, sym, ap, ◌∙◌, subst, inl, inr, ◌⊎◌, ⊎_elim, arith}
use Rattle.std.specs.Prelude.{bit_and}
use Rattle.std.specs.Int.{bit_at}
use Rattle.std.proofs.lemmas.Bool.{cases_lt}
use Rattle.std.proofs.lemmas.List.{get_or-set_same, get_or-set_other}
use Rattle.std.proofs.lemmas.Nat.{mul-add-lt}
use Rattle.std.proofs.Math.Nat.{mul-le-mul_right}
use Rattle.reach_planes.specs.Words.{IsSet, AreJoined, moved}
use Rattle.reach_planes.specs.Layout.{IsPutInBin, word_at}
use Rattle.reach_planes.proofs.BitLemmas.{set_or, set_and, set_moved, set_up_to, HasMovedBit}

-- the ones of a mask are those from a bit on
abbrev pub IsOnesFrom : ℕ → ℕ → Type 0
IsOnesFrom low mask = (i : ℕ) → i < 64 → (bit_at mask i ≡ 1) ↔ (low ≤ i)

abbrev pub IsOnesUpTo : ℕ → ℕ → Type 0
IsOnesUpTo high mask = (i : ℕ) → i < 64 → (bit_at mask i ≡ 1) ↔ (i ≤ high)

-- the first rows of one half have lost the bits of too small a sum
pub record IsKeptUpTo (from rows lack : ℕ) (sums before after : List ℕ) : Type 0 where
  pub kept : (row bit : ℕ) → row < rows → bit < 64 → IsSet after (from + row) bit ↔ (IsSet before (from + row) bit × (lack ≤ bit + slice_index sums row))
  pub others : (i : ℕ) → (i < from) ⊎ (from + rows ≤ i) → get_or after i 0 ≡ get_or before i 0

pub IsKeptUpTo-more : (from row lack mask : ℕ) (sums before words : List ℕ) → from + row < length words → IsOnesFrom (lack - slice_index sums row) mask
    → IsKeptUpTo from row lack sums before words → IsKeptUpTo from (row + 1) lack sums before (set words (from + row) (bit_and (get_or words (from + row) 0) mask))
IsKeptUpTo-more from row lack mask sums before words l ones k =
    let new : ℕ = bit_and (get_or words (from + row) 0) mask in
    let after = set words (from + row) new in
    let here : get_or after (from + row) 0 ≡ bit_and (get_or before (from + row) 0) mask = get_or-set_same words (from + row) new 0 l
    ∙ ap (λ w. bit_and w mask) (k.others (from + row) (inr (omega arith))) in
    record {
      kept = λ r bit lr lb. elim (cases_lt r row) [
        | inl early ↦ subst (λ w. (bit_at w bit ≡ 1) ↔ (IsSet before (from + r) bit
            × (lack ≤ bit + get_or sums r 0))) (sym (get_or-set_other words (from + row) (from + r) new 0 (λ e. omega (arith, e, early)))) (k.kept r bit early lb)
        | inr late ↦
            let e : r ≡ row = omega (arith, lr, late) in
            let both = set_and (get_or before (from + row) 0) mask bit in
            let one = ones bit lb in
            subst (λ n. IsSet after (from + n) bit ↔ (IsSet before (from + n) bit × (lack ≤ bit + get_or sums n 0))) (sym e) (
              λ h. let b = both.0 (sym (ap (λ w. bit_at w bit) here) ∙ h) in (b.0, omega (arith, one.0 b.1)),
              λ h. ap (λ w. bit_at w bit) here ∙ both.1 (h.0, one.1 (omega (arith, h.1))),
            )
      ];
      others = λ i h. get_or-set_other words (from + row) i new 0 (λ e. ⊎_elim (λ x. omega (arith, x, e)) (λ x. omega (arith, x, e)) h)
          ∙ k.others i (⊎_elim (λ x. inl x) (λ x. inr (omega (arith, x))) h);
    }

-- the halves up to one have lost the bits of too small a sum
pub record AreKeptUpTo (halves lack : ℕ) (sums before after : List ℕ) : Type 0 where
  pub kept : (half row bit : ℕ) → half < halves → row < length sums → bit < 64 → IsSet after (word_at (length sums) half row) bit
      ↔ (IsSet before (word_at (length sums) half row) bit × (lack ≤ 64 * half + bit + slice_index sums row))
  pub others : (i : ℕ) → halves * length sums ≤ i → get_or after i 0 ≡ get_or before i 0

-- a place in an earlier half comes before the half
pub before_half : (rows half later row : ℕ) → half < later → row < rows → word_at rows half row < later * rows
before_half rows half later row l m = let p = mul-add-lt half rows row later l m in omega (arith, p)

-- a bit of a word that was joined to
pub joined_bit : (up down mask count to from : ℕ) (source before after : List ℕ) (k bit : ℕ) → AreJoined up down mask count to from source before after → k < count
    → IsSet after (to + k) bit ↔ (IsSet before (to + k) bit ⊎ HasMovedBit up down mask (get_or source (from + k) 0) bit)
joined_bit up down mask count to from source before after k bit j l =
    let e = j.joined k l in
    let o = set_or (get_or before (to + k) 0) (moved up down mask (get_or source (from + k) 0)) bit in
    let m = set_moved up down mask (get_or source (from + k) 0) bit in (
      λ h. ⊎_elim (λ x. inl x) (λ x. inr (m.0 x)) (o.0 (sym (ap (λ w. bit_at w bit) e) ∙ h)),
      λ h. ap (λ w. bit_at w bit) e ∙ o.1 (⊎_elim (λ x. inl x) (λ x. inr (m.1 x)) h),
    )

-- one half with the bits that went up within their words
abbrev pub HasGoneUp : ℕ → ℕ → ℕ → ℕ → ℕ → ℕ → List ℕ → Type 0
HasGoneUp rows capacity s half row bit source = (s / 64 ≤ half) × (s % 64 ≤ bit) × (64 * half + bit ≤ capacity) × IsSet source (word_at rows (half - s / 64) row) (bit - s % 64)

abbrev pub HasGoneDown : ℕ → ℕ → ℕ → ℕ → ℕ → ℕ → List ℕ → Type 0
HasGoneDown rows capacity s half row bit source =
    (s / 64 < half) × (bit < s % 64) × (64 * half + bit ≤ capacity) × IsSet source (word_at rows (half - s / 64 - 1) row) (bit + 64 - s % 64)

pub went_up : (rows capacity s half row bit mask : ℕ) (source before after : List ℕ) → AreJoined (s % 64) 0 mask rows (half * rows) ((half - s / 64) * rows) source before after
    → s / 64 ≤ half → 64 * half ≤ capacity → IsOnesUpTo (capacity - 64 * half) mask → row < rows → bit < 64
    → IsSet after (word_at rows half row) bit ↔ (IsSet before (word_at rows half row) bit ⊎ HasGoneUp rows capacity s half row bit source)
went_up rows capacity s half row bit mask source before after j w c ones lr lb =
    let p = joined_bit (s % 64) 0 mask rows (half * rows) ((half - s / 64) * rows) source before after row bit j lr in
    let word : ℕ = get_or source ((half - s / 64) * rows + row) 0 in
    let e : bit + 0 - s % 64 ≡ bit - s % 64 = omega arith in (
      λ h. ⊎_elim (λ x. inl x) (λ x. inr (w, omega (arith, x.above), omega (arith, (ones bit lb).0 x.kept, c), sym (ap (bit_at word) e) ∙ x.was)) (p.0 h),
      λ h. p.1 (⊎_elim (λ x. inl x) (λ x. inr (record {
        within = omega (arith, lb);
        above = omega (arith, x.1);
        was = ap (bit_at word) e
            ∙ x.3;
        kept = (ones bit lb).1 (omega (arith, x.2, c));
      })) h),
    )

pub went_down : (rows capacity s half row bit mask : ℕ) (source before after : List ℕ)
    → AreJoined 0 (64 - s % 64) mask rows (half * rows) ((half - s / 64 - 1) * rows) source before after → s / 64 < half → 0 < s % 64 → 64 * half ≤ capacity
    → IsOnesUpTo (capacity - 64 * half) mask → row < rows → bit < 64
    → IsSet after (word_at rows half row) bit ↔ (IsSet before (word_at rows half row) bit ⊎ HasGoneDown rows capacity s half row bit source)
went_down rows capacity s half row bit mask source before after j w part c ones lr lb =
    let p = joined_bit 0 (64 - s % 64) mask rows (half * rows) ((half - s / 64 - 1) * rows) source before after row bit j lr in
    let word : ℕ = get_or source ((half - s / 64 - 1) * rows + row) 0 in
    let e : bit + (64 - s % 64) - 0 ≡ bit + 64 - s % 64 = omega arith in (
      λ h. ⊎_elim (λ x. inl x) (λ x. inr (w, omega (arith, x.within, part), omega (arith, (ones bit lb).0 x.kept, c), sym (ap (bit_at word) e) ∙ x.was)) (p.0 h),
      λ h. p.1 (⊎_elim (λ x. inl x) (λ x. inr (record {
        within = omega (arith, x.1);
        above = omega arith;
        was = ap (bit_at word) e
            ∙ x.3;
        kept = (ones bit lb).1 (omega (arith, x.2, c));
      })) h),
    )

-- one half with the bits that went up, within their words or into the other half
abbrev pub HasGone : ℕ → ℕ → ℕ → ℕ → ℕ → ℕ → List ℕ → Type 0
HasGone rows capacity s half row bit source =
    (s ≤ 64 * half + bit) × (64 * half + bit ≤ capacity) × IsSet source (word_at rows ((64 * half + bit - s) / 64) row) ((64 * half + bit - s) % 64)

gone_up : (rows capacity s half row bit : ℕ) (source : List ℕ) → bit < 64 → s / 64 ≤ half → s % 64 ≤ bit → (IsSet source (word_at rows (half - s / 64) row) (bit - s % 64))
    ↔ (IsSet source (word_at rows ((64 * half + bit - s) / 64) row) ((64 * half + bit - s) % 64))
gone_up rows capacity s half row bit source lb w l =
    let left : 64 * half + bit - s ≡ 64 * (half - s / 64) + (bit - s % 64) = omega arith in
    let q : (64 * half + bit - s) / 64 ≡ half - s / 64 = omega (arith, left, lb) in
    let r : (64 * half + bit - s) % 64 ≡ bit - s % 64 = omega (arith, left, lb, q) in (
      λ h. subst (λ n. IsSet source (word_at rows n row) ((64 * half + bit - s) % 64)) (sym q) (subst (λ n. IsSet source (word_at rows (half - s / 64) row) n) (sym r) h),
      λ h. subst (λ n. IsSet source (word_at rows n row) (bit - s % 64)) q (subst (λ n. IsSet source (word_at rows ((64 * half + bit - s) / 64) row) n) r h),
    )

gone_down : (rows capacity s half row bit : ℕ) (source : List ℕ) → s / 64 < half → bit < s % 64 → (IsSet source (word_at rows (half - s / 64 - 1) row) (bit + 64 - s % 64))
    ↔ (IsSet source (word_at rows ((64 * half + bit - s) / 64) row) ((64 * half + bit - s) % 64))
gone_down rows capacity s half row bit source w l =
    let left : 64 * half + bit - s ≡ 64 * (half - s / 64 - 1) + (bit + 64 - s % 64) = omega arith in
    let q : (64 * half + bit - s) / 64 ≡ half - s / 64 - 1 = omega (arith, left, l) in
    let r : (64 * half + bit - s) % 64 ≡ bit + 64 - s % 64 = omega (arith, left, l, q) in (
      λ h. subst (λ n. IsSet source (word_at rows n row) ((64 * half + bit - s) % 64)) (sym q) (subst (λ n. IsSet source (word_at rows (half - s / 64 - 1) row) n) (sym r) h),
      λ h. subst (λ n. IsSet source (word_at rows n row) (bit + 64 - s % 64)) q (subst (λ n. IsSet source (word_at rows ((64 * half + bit - s) / 64) row) n) r h),
    )

pub gone_either_way : (rows capacity s half row bit : ℕ) (source before between after : List ℕ) → bit < 64
    → IsSet between (word_at rows half row) bit ↔ (IsSet before (word_at rows half row) bit ⊎ HasGoneUp rows capacity s half row bit source)
    → IsSet after (word_at rows half row) bit ↔ (IsSet between (word_at rows half row) bit ⊎ HasGoneDown rows capacity s half row bit source)
    → IsSet after (word_at rows half row) bit ↔ (IsSet before (word_at rows half row) bit ⊎ HasGone rows capacity s half row bit source)
gone_either_way rows capacity s half row bit source before between after lb up down = (
  λ h. ⊎_elim (λ b. ⊎_elim (λ x. inl x) (λ x. inr (omega (arith, x.0, x.1), x.2, (gone_up rows capacity s half row bit source lb x.0 x.1).0 x.3)) (up.0 b))
      (λ x. inr (omega (arith, x.0, x.1), x.2, (gone_down rows capacity s half row bit source x.0 x.1).0 x.3)) (down.0 h),
  λ h. ⊎_elim (λ b. down.1 (inl (up.1 (inl b)))) (λ x. elim (cases_lt bit (s % 64)) [
    | inl low ↦
        let w : s / 64 < half = omega (arith, x.0, low) in
        down.1 (inr (w, low, x.1, (gone_down rows capacity s half row bit source w low).1 x.2))
    | inr high ↦
        let w : s / 64 ≤ half = omega (arith, x.0, lb) in
        down.1 (inl (up.1 (inr (w, high, x.1, (gone_up rows capacity s half row bit source lb w high).1 x.2))))
  ]) h,
)

-- the halves up to one have the bits that went up
pub record HaveGoneUpTo (halves rows capacity s : ℕ) (source before after : List ℕ) : Type 0 where
  pub put : (half row bit : ℕ) → half < halves → row < rows → bit < 64 → IsSet after (word_at rows half row) bit
      ↔ (IsSet before (word_at rows half row) bit ⊎ HasGone rows capacity s half row bit source)
  pub others : (i : ℕ) → halves * rows ≤ i → get_or after i 0 ≡ get_or before i 0

pub HaveGoneUpTo-more : (half rows capacity s : ℕ) (source before words after : List ℕ) → HaveGoneUpTo half rows capacity s source before words
    → ((row bit : ℕ) → row < rows → bit < 64 → IsSet after (word_at rows half row) bit ↔ (IsSet words (word_at rows half row) bit ⊎ HasGone rows capacity s half row bit source))
    → ((i : ℕ) → (i < half * rows) ⊎ (half * rows + rows ≤ i) → get_or after i 0 ≡ get_or words i 0)
    → HaveGoneUpTo (half + 1) rows capacity s source before after
HaveGoneUpTo-more half rows capacity s source before words after k put others = record {
  put = λ h row bit lh lr lb. elim (cases_lt h half) [
    | inl early ↦ subst (λ w. (bit_at w bit ≡ 1) ↔ (IsSet before (word_at rows h row) bit
        ⊎ HasGone rows capacity s h row bit source)) (sym (others (word_at rows h row) (inl (before_half rows h half row early lr)))) (k.put h row bit early lr lb)
    | inr late ↦
        let e : h ≡ half = omega (arith, lh, late) in
        let p = put row bit lr lb in
        let same : get_or words (half * rows + row) 0 ≡ get_or before (half * rows + row) 0 = k.others (half * rows + row) (omega arith) in
        subst (λ n. IsSet after (word_at rows n row) bit ↔ (IsSet before (word_at rows n row) bit ⊎ HasGone rows capacity s n row bit source)) (sym e)
        (subst (λ w. IsSet after (word_at rows half row) bit ↔ ((bit_at w bit ≡ 1) ⊎ HasGone rows capacity s half row bit source)) same p)
  ];
  others = λ i h. let far : half * rows + rows ≤ i = omega (arith, h) in others i (inr far) ∙ k.others i (omega (arith, far));
}

-- the blocks up to one have their rows moved
pub record ArePutUpTo (blocks width shift : ℕ) (source before after : List ℕ) : Type 0 where
  pub put : (block offset bit : ℕ) → block < blocks → offset < width → bit < 64 → IsSet after (block * width + offset) bit
      ↔ (IsSet before (block * width + offset) bit ⊎ ((shift ≤ offset) × IsSet source (block * width + offset - shift) bit))
  pub others : (i : ℕ) → blocks * width ≤ i → get_or after i 0 ≡ get_or before i 0

-- a bit that does not move
stays : (word bit : ℕ) → bit < 64 → HasMovedBit 0 0 18446744073709551615 word bit ↔ (bit_at word bit ≡ 1)
stays word bit l =
    let e : bit + 0 - 0 ≡ bit = omega arith in (
      λ h. sym (ap (bit_at word) e) ∙ h.was,
      λ h. record { within = omega (arith, l); above = omega arith; was = ap (bit_at word) e ∙ h; kept = (set_up_to 64 bit).1 l },
    )

pub ArePutUpTo-more : (block width shift : ℕ) (source before words after : List ℕ) → shift ≤ width → ArePutUpTo block width shift source before words
    → AreJoined 0 0 18446744073709551615 (width - shift) (block * width + shift) (block * width) source words after → ArePutUpTo (block + 1) width shift source before after
ArePutUpTo-more block width shift source before words after fit k j = record {
  put = λ b offset bit lb lo l. elim (cases_lt b block) [
    | inl early ↦ subst (λ w. (bit_at w bit ≡ 1) ↔ (IsSet before (b * width + offset) bit
        ⊎ ((shift ≤ offset) × IsSet source (b * width + offset - shift) bit))) (sym (j.others (b * width + offset)
        (inl (let p = before_half width b block offset early lo in omega (arith, p))))) (k.put b offset bit early lo l)
    | inr late ↦
        let e : b ≡ block = omega (arith, lb, late) in
        let i : ℕ = block * width + offset in
        let same : get_or words i 0 ≡ get_or before i 0 = k.others i (omega arith) in
        subst (λ n. IsSet after (n * width + offset) bit ↔ (IsSet before (n * width + offset) bit ⊎ ((shift ≤ offset) × IsSet source (n * width + offset - shift) bit))) (sym e)
        (elim (cases_lt offset shift) [
          | inl low ↦
              let kept : get_or after i 0 ≡ get_or before i 0 = j.others i (inl (omega (arith, low))) ∙ same in (
                λ h. inl (sym (ap (λ w. bit_at w bit) kept) ∙ h),
                λ h. ⊎_elim (λ x. ap (λ w. bit_at w bit) kept ∙ x) (λ x. absurd (omega (arith, x.0, low))) h,
              )
          | inr high ↦
              let p = joined_bit 0 0 18446744073709551615 (width - shift) (block * width + shift) (block * width) source words after (offset - shift) bit j
              (omega (arith, lo, high)) in
              let to : block * width + shift + (offset - shift) ≡ i = omega (arith, high) in
              let from : block * width + (offset - shift) ≡ i - shift = omega (arith, high) in
              let q : IsSet after i bit ↔ (IsSet words i bit ⊎ HasMovedBit 0 0 18446744073709551615 (get_or source (i - shift) 0) bit) = subst (λ n. IsSet after n bit
              ↔ (IsSet words n bit ⊎ HasMovedBit 0 0 18446744073709551615 (get_or source (i - shift) 0) bit)) to (subst
              (λ n. IsSet after (block * width + shift + (offset - shift)) bit
              ↔ (IsSet words (block * width + shift + (offset - shift)) bit ⊎ HasMovedBit 0 0 18446744073709551615 (get_or source n 0) bit)) from p) in
              let s = stays (get_or source (i - shift) 0) bit l in (
                λ h. ⊎_elim (λ x. inl (sym (ap (λ w. bit_at w bit) same) ∙ x)) (λ x. inr (high, s.0 x)) (q.0 h),
                λ h. q.1 (⊎_elim (λ x. inl (ap (λ w. bit_at w bit) same ∙ x)) (λ x. inr (s.1 x.1)) h),
              )
        ])
  ];
  others = λ i h. let far : block * width + width ≤ i = omega (arith, h) in j.others i (inr (omega (arith, far, fit))) ∙ k.others i (omega (arith, far));
}

pub IsPutInBin-all : (stride base size blocks : ℕ) (source before after : List ℕ) → blocks * (base * stride) ≡ length before
    → ArePutUpTo blocks (base * stride) (size * stride) source before after → IsPutInBin stride base size source before after
IsPutInBin-all stride base size blocks source before after e k = record {
  exact = λ block offset bit lo within lb. elim (cases_lt block blocks) [
    | inl l ↦ k.put block offset bit l lo lb
    | inr l ↦ absurd (omega (arith, within, e, mul-le-mul_right (base * stride) l))
  ];
}
