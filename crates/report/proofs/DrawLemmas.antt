-- Words that are drawn one after another, and nodes that are made of them.
use Rattle.std.proofs.Common.{◌≡◌, ℕ, suc, ◌+◌, List, [], ◌∷◌, ◌++◌, map, arith, refl, ap, sym, ◌∙◌, append_assoc}
use Rattle.std.specs.List.{range_with_len}
use Rattle.std.proofs.lemmas.List.FromFn.{map-range_with_len_more}
use Rattle.rand_core.specs.Steps.{stream_of}
use Rattle.rand_core.specs.Stream.{Stream, next_u64}
use Rattle.rand_xoshiro.specs.SplitMix64.{splitmix_seed}
use Rattle.rand_xoshiro.specs.Xoshiro256.{of_seed, plus_plus}
use Rattle.report.specs.Drawing.{HasGiven, answers}
use Rattle.report.specs.Drill.{state_after, word}

-- what is left of a generator's answers after a word is what its next state answers
next_answers : (state : List ℕ) → next_u64 (answers state) ≡ ((plus_plus state).0, answers (plus_plus state).1)
unfolding next_u64 stream_of
next_answers state = refl

-- a generator that was seeded has given no words
pub begun : (number : ℕ) (state : List ℕ) → state ≡ of_seed (splitmix_seed 32 number) → HasGiven number 0 state
unfolding state_after
begun number state e = ap answers e

state_after_next : (number n : ℕ) → state_after number (n + 1) ≡ (plus_plus (state_after number n)).1
unfolding state_after
state_after_next number n = let e : n + 1 ≡ suc n = omega arith in ap (state_after number) e

-- the next word that is drawn, and what was given after it
pub drawn : (number words : ℕ) (state next : List ℕ) (value : ℕ) → (value, answers next) ≡ next_u64 (answers state) → HasGiven number words state
    → (value ≡ word number words) × HasGiven number (words + 1) next
drawn number words state next value e given =
    let all : (value, answers next) ≡ (word number words, answers (plus_plus (state_after number words)).1) =
    e ∙ ap next_u64 given ∙ next_answers (state_after number words) in
    (ap (λ (p : ℕ × Stream). p.0) all, ap (λ (p : ℕ × Stream). p.1) all ∙ ap answers (sym (state_after_next number words)))

-- one more node that is made of its place
pub put_more : {X : Type 0} (f : ℕ → X) (n : ℕ) (before old new : List X) (x : X) → old ≡ before ++ map f (range_with_len 0 n) → new ≡ old ++ x ∷ [] → x ≡ f n
    → new ≡ before ++ map f (range_with_len 0 (n + 1))
put_more f n before old new x o p is =
    p ∙ ap (λ xs. xs ++ x ∷ []) o ∙ append_assoc before (map f (range_with_len 0 n)) (x ∷ [])
    ∙ ap (λ y. before ++ (map f (range_with_len 0 n) ++ y ∷ [])) is
    ∙ ap (λ xs. before ++ xs) (sym (map-range_with_len_more f 0 n n (omega arith)))

-- lists that were put one after another
pub joined : {X : Type 0} (none n0 n1 n2 n3 all a b c d : List X) (x y : X) → none ≡ [] → n0 ≡ none ++ a → n1 ≡ n0 ++ b → n2 ≡ n1 ++ c → n3 ≡ n2 ++ d
    → all ≡ n3 ++ x ∷ [] → x ≡ y → all ≡ a ++ b ++ c ++ d ++ y ∷ []
joined none n0 n1 n2 n3 all a b c d x y e e0 e1 e2 e3 last is =
    last
    ∙ ap (λ xs. xs ++ x ∷ []) (e3 ∙ ap (λ xs. xs ++ d) (e2 ∙ ap (λ xs. xs ++ c) (e1 ∙ ap (λ xs. xs ++ b) (e0 ∙ ap (λ xs. xs ++ a) e))))
    ∙ ap (λ z. a ++ b ++ c ++ d ++ z ∷ []) is
