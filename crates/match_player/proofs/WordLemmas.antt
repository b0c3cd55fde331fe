-- Words at the end of a text.
use Rattle.std.proofs.Common.{◌≡◌, ◌≢◌, ℕ, ◌+◌, ◌-◌, ◌<◌, ◌≤◌, List, [], ◌∷◌, ◌++◌, length}
use Rattle.std.proofs.Common.{take, drop, get_or, codes, decimal, Result, refl, sym, ap, subst, ◌∙◌, arith, append_assoc}
use Rattle.std.specs.List.{flat_map}
use Rattle.std.specs.Result.{OnOk}
use Rattle.std.proofs.lemmas.List.{take_all}
use Rattle.std.proofs.lemmas.List.Concat.{flat_map_single}
use Rattle.std.proofs.lemmas.Result.{on_ok_weaker}
use Rattle.match_player.specs.Words.{words_of}
use Rattle.strategy_text.specs.Text.{list_words, pack_words}
use Rattle.strategy_text.specs.Writing.{spaced}
use Rattle.strategy_text.proofs.Spaced.{each_spaced, each_more, rest_of, spaced-append}
use Rattle.strategy_text.proofs.StepsTaken.{pack_bins}

-- a list of numbers is spelled in decimal digits
pub same_words : (xs : List ℕ) → words_of decimal xs ≡ list_words xs
same_words [] = refl
same_words (x ∷ xs) = refl

-- a list that is not empty
pub some_words : {X : Type 0} (spelled : X → List ℕ) (xs : List X) → xs ≢ [] → flat_map (λ x. spelled x ∷ []) xs ≡ words_of spelled xs
some_words spelled [] h = absurd (h refl)
some_words spelled (x ∷ xs) h = flat_map_single spelled (x ∷ xs)

-- words were put, and then others
pub put_both : (old text new xs ys : List ℕ) → text ≡ old ++ xs → new ≡ text ++ ys → new ≡ old ++ (xs ++ ys)
put_both old text new xs ys first then = then ∙ ap (λ (t : List ℕ). t ++ ys) first ∙ append_assoc old xs ys

-- the words of the values so far were put, and those of the next
pub put_more : {X : Type 0} (words : X → List (List ℕ)) (xs : List X) (i : ℕ) (x : X) (old text new : List ℕ) → i < length xs → get_or xs i x ≡ x
    → text ≡ old ++ each_spaced words (take i xs) → new ≡ text ++ spaced (words x) → new ≡ old ++ each_spaced words (take (i + 1) xs)
put_more words xs i x old text new h e so_far next =
    put_both old text new (each_spaced words (take i xs)) (spaced (words x)) so_far next ∙ ap (λ (t : List ℕ). old ++ t) (sym (each_more words xs i x h e))

-- the words of all values were put
pub put_all : {X : Type 0} (words : X → List (List ℕ)) (xs : List X) (i : ℕ) (old text : List ℕ) → length xs ≤ i
    → text ≡ old ++ each_spaced words (take i xs) → text ≡ old ++ each_spaced words xs
put_all words xs i old text h e = e ∙ ap (λ ys. old ++ each_spaced words ys) (take_all i xs h)

-- the lists of a packing after the first, each after a slash
abbrev pub next_bins : List (List ℕ) → List (List ℕ)
next_bins bins = flat_map (λ bin. codes "/" ∷ list_words bin) bins

pack_text : (first : List ℕ) (bins : List (List ℕ)) (old text new : List ℕ) → 1 ≤ length bins → first ≡ get_or bins 0 first → text ≡ old ++ spaced (words_of decimal first)
    → new ≡ text ++ spaced (next_bins (take (length bins - 1) (drop 1 bins))) → new ≡ old ++ spaced (pack_words bins)
pack_text first [] old text new le is p q = absurd (omega arith)
pack_text first (x ∷ xs) old text new le is p q =
    let p2 : text ≡ old ++ spaced (list_words x) = subst (λ (y : List ℕ). text ≡ old ++ spaced (list_words y)) is
    (subst (λ (ws : List (List ℕ)). text ≡ old ++ spaced ws) (same_words first) p) in
    let q2 : new ≡ text ++ spaced (next_bins xs) = subst (λ (ys : List (List ℕ)). new ≡ text ++ spaced (next_bins ys)) (rest_of x xs) q in
    put_both old text new (spaced (list_words x)) (spaced (next_bins xs)) p2 q2
    ∙ ap (λ (t : List ℕ). old ++ t) (sym (spaced-append (list_words x) (next_bins xs)) ∙ ap spaced (sym (pack_bins x xs)))

-- the first list of a packing was put, and then the others
pub put_pack : {X E : Type 0} (r : Result X E) (first : List ℕ) (bins : List (List ℕ)) (old text new : List ℕ) → 1 ≤ length bins
    → first ≡ get_or bins 0 first → text ≡ old ++ spaced (words_of decimal first)
    → OnOk r (new ≡ text ++ spaced (next_bins (take (length bins - 1) (drop 1 bins)))) → OnOk r (new ≡ old ++ spaced (pack_words bins))
put_pack r first bins old text new le is p q = on_ok_weaker r (pack_text first bins old text new le is p) q
