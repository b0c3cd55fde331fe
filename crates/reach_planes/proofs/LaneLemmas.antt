-- Four lanes at a time.
use Rattle.std.proofs.Common.{◌≡◌, ℕ, zero, suc, ◌+◌, ◌-◌, ◌<◌, ◌≤◌, List, [], ◌∷◌, length, get_or, refl, sym, ap, ◌∙◌, inl, inr, ⊎_elim, arith}
use Rattle.std.specs.Prelude.{bit_or}
use Rattle.std.specs.Simd.Lanes.{zip2, put_chunk, chunk}
use Rattle.std.proofs.lemmas.Bool.{cases_lt}
use Rattle.std.proofs.lemmas.Simd.{length-zip2, length-chunk, get_or-chunk, get_or-put_chunk_below, get_or-put_chunk_at, get_or-put_chunk_above, get_or-zip2}
use Rattle.reach_planes.specs.Words.{AreJoined, moved}

-- a lane of three operations, one after the other, with splats
pub at_lane : (f g h : ℕ → ℕ → ℕ) (xs : List ℕ) (u d m k : ℕ) → length xs ≡ 4 → k < 4
    → get_or (zip2 h (zip2 g (zip2 f xs (u ∷ u ∷ u ∷ u ∷ [])) (d ∷ d ∷ d ∷ d ∷ [])) (m ∷ m ∷ m ∷ m ∷ [])) k 0 ≡ h (g (f (get_or xs k 0) u) d) m
at_lane f g h [] u d m k n l = absurd (omega arith)
at_lane f g h (a ∷ []) u d m k n l = absurd (omega arith)
at_lane f g h (a ∷ b ∷ []) u d m k n l = absurd (omega arith)
at_lane f g h (a ∷ b ∷ c ∷ []) u d m k n l = absurd (omega arith)
at_lane f g h (a ∷ b ∷ c ∷ e ∷ []) u d m zero n l = refl
at_lane f g h (a ∷ b ∷ c ∷ e ∷ []) u d m (suc zero) n l = refl
at_lane f g h (a ∷ b ∷ c ∷ e ∷ []) u d m (suc (suc zero)) n l = refl
at_lane f g h (a ∷ b ∷ c ∷ e ∷ []) u d m (suc (suc (suc zero))) n l = refl
at_lane f g h (a ∷ b ∷ c ∷ e ∷ []) u d m (suc (suc (suc (suc k)))) n l = absurd (omega arith)
at_lane f g h (a ∷ b ∷ c ∷ e ∷ x ∷ xs) u d m k n l = absurd (omega arith)

-- four words that are written over
pub AreJoined-lanes : (up down mask to from : ℕ) (source before lanes : List ℕ) → to + 4 ≤ length before → length lanes ≡ 4
    → ((k : ℕ) → k < 4 → get_or lanes k 0 ≡ moved up down mask (get_or (chunk from 4 source) k 0))
    → AreJoined up down mask 4 to from source before (put_chunk to before (zip2 bit_or (chunk to 4 before) lanes))
AreJoined-lanes up down mask to from source before lanes fit n are =
    let old = length-chunk to 4 before fit in
    let written = zip2 bit_or (chunk to 4 before) lanes in
    let long : length written ≡ 4 = length-zip2 bit_or (chunk to 4 before) lanes (omega (arith, old, n)) ∙ old in
    record {
      joined = λ k l. get_or-put_chunk_at to before written k 0 (omega (arith, long, l)) (omega (arith, long, fit))
          ∙ get_or-zip2 bit_or (chunk to 4 before) lanes k 0 0 0 (omega (arith, old, l)) (omega (arith, n, l))
          ∙ ap (λ x. bit_or x (get_or lanes k 0)) (get_or-chunk to 4 before k 0 l)
          ∙ ap (λ x. bit_or (get_or before (to + k) 0) x) (are k l ∙ ap (moved up down mask) (get_or-chunk from 4 source k 0 l));
      others = λ i h. ⊎_elim (λ x. get_or-put_chunk_below to before written i 0 x) (λ x. get_or-put_chunk_above to before written i 0 (omega (arith, long, x))) h;
    }

-- words that are joined after others
pub AreJoined-append : (up down mask count more to from : ℕ) (source before words after : List ℕ) → AreJoined up down mask count to from source before words
    → AreJoined up down mask more (to + count) (from + count) source words after → AreJoined up down mask (count + more) to from source before after
AreJoined-append up down mask count more to from source before words after a b = record {
  joined = λ k l. elim (cases_lt k count) [
    | inl early ↦ b.others (to + k) (inl (omega (arith, early))) ∙ a.joined k early
    | inr late ↦
        let j : ℕ = k - count in
        let t : to + count + j ≡ to + k = omega (arith, late) in
        let f : from + count + j ≡ from + k = omega (arith, late) in
        sym (ap (λ i. get_or after i 0) t) ∙ b.joined j (omega (arith, l, late)) ∙ ap (λ i. bit_or (get_or words i 0) (moved up down mask (get_or source (from + count + j) 0))) t
        ∙ ap (λ i. bit_or (get_or words (to + k) 0) (moved up down mask (get_or source i 0))) f
        ∙ ap (λ x. bit_or x (moved up down mask (get_or source (from + k) 0))) (a.others (to + k) (inr (omega (arith, late))))
  ];
  others = λ i h. b.others i (⊎_elim (λ x. inl (omega (arith, x))) (λ x. inr (omega (arith, x))) h) ∙ a.others i (⊎_elim (λ x. inl x) (λ x. inr (omega (arith, x))) h);
}

pub length_lanes : (f g h : ℕ → ℕ → ℕ) (xs : List ℕ) (u d m : ℕ) → length xs ≡ 4
    → length (zip2 h (zip2 g (zip2 f xs (u ∷ u ∷ u ∷ u ∷ [])) (d ∷ d ∷ d ∷ d ∷ [])) (m ∷ m ∷ m ∷ m ∷ [])) ≡ 4
length_lanes f g h xs u d m n =
    let a = length-zip2 f xs (u ∷ u ∷ u ∷ u ∷ []) (omega (arith, n)) in
    let b = length-zip2 g (zip2 f xs (u ∷ u ∷ u ∷ u ∷ [])) (d ∷ d ∷ d ∷ d ∷ []) (omega (arith, a, n)) in
    length-zip2 h (zip2 g (zip2 f xs (u ∷ u ∷ u ∷ u ∷ [])) (d ∷ d ∷ d ∷ d ∷ [])) (m ∷ m ∷ m ∷ m ∷ []) (omega (arith, b, a, n)) ∙ b ∙ a ∙ n
