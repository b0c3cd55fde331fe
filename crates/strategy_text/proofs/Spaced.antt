-- Words after spaces.
use Rattle.std.proofs.Common.{◌≡◌, ◌≢◌, ℕ, ◌+◌, ◌-◌, ◌<◌, ◌≤◌, List, [], ◌∷◌, ◌++◌, length, take, drop, get_or, codes, decimal, Result, refl, sym, ap, subst, ◌∙◌, arith}
use Rattle.std.specs.List.{flat_map, join_with_byte}
use Rattle.std.proofs.lemmas.List.{append-nil, take_more, take-append-drop, take_all}
use Rattle.std.proofs.lemmas.Grind.{flat_map-append}
use Rattle.std.proofs.lemmas.List.Concat.{flat_map_single}
use Rattle.std.specs.Result.{IsErr}
use Rattle.strategy_text.specs.declared.node.Entry.{Entry}
use Rattle.strategy_text.specs.Text.{list_words, pack_words, entry_words, entries_words}
use Rattle.strategy_text.specs.Writing.{Standing, Took, Stopped, Writes, spaced}
use Rattle.strategy_text.proofs.StepsTaken.{pack_bins}
use Rattle.strategy_text.proofs.Written.{took_then, stopped_then, stopped_more, writes_then, writes_stopped}

pub spaced-append : (xs ys : List (List ℕ)) → spaced (xs ++ ys) ≡ spaced xs ++ spaced ys
spaced-append xs ys = flat_map-append (λ (w : List ℕ). 32 ∷ w) xs ys

-- a line is its first word, and each other word after a space
pub line_spaced : (w : List ℕ) (ws : List (List ℕ)) → join_with_byte 32 (w ∷ ws) ≡ w ++ spaced ws
line_spaced w [] = sym (append-nil w)
line_spaced w (v ∷ ws) = ap (λ (t : List ℕ). w ++ 32 ∷ t) (line_spaced v ws)

abbrev pub each_spaced : {X : Type 0} → (X → List (List ℕ)) → List X → List ℕ
each_spaced words xs = spaced (flat_map words xs)

each-append : {X : Type 0} (words : X → List (List ℕ)) (xs ys : List X) → each_spaced words (xs ++ ys) ≡ each_spaced words xs ++ each_spaced words ys
each-append words xs ys = ap spaced (flat_map-append words xs ys) ∙ spaced-append (flat_map words xs) (flat_map words ys)

pub each_more : {X : Type 0} (words : X → List (List ℕ)) (xs : List X) (i : ℕ) (x : X) → i < length xs → get_or xs i x ≡ x
    → each_spaced words (take (i + 1) xs) ≡ each_spaced words (take i xs) ++ spaced (words x)
each_more words xs i x h e =
    ap (each_spaced words) (take_more xs i x h ∙ ap (λ y. take i xs ++ y ∷ []) e) ∙ each-append words (take i xs) (x ∷ []) ∙ ap
    (λ (t : List (List ℕ)). each_spaced words (take i xs) ++ spaced t) (append-nil (words x))

pub each_rest : {X : Type 0} (words : X → List (List ℕ)) (xs : List X) (i : ℕ) → each_spaced words xs ≡ each_spaced words (take i xs) ++ each_spaced words (drop i xs)
each_rest words xs i = ap (each_spaced words) (sym (take-append-drop i xs)) ∙ each-append words (take i xs) (drop i xs)

-- the words of the values so far were taken, and those of the next
pub took_each : {X : Type 0} (words : X → List (List ℕ)) (xs : List X) (i : ℕ) (x : X) (a b c : Standing) → i < length xs → get_or xs i x ≡ x
    → Took a b (each_spaced words (take i xs)) → Took b c (spaced (words x)) → Took a c (each_spaced words (take (i + 1) xs))
took_each words xs i x a b c h e p q =
    subst (Took a c) (sym (each_more words xs i x h e)) (took_then a b c (each_spaced words (take i xs)) (spaced (words x)) p q)

-- the words of the values so far were taken, and of those of the next a prefix
pub stopped_each : {X : Type 0} (words : X → List (List ℕ)) (xs : List X) (i : ℕ) (x : X) (a b c : Standing) → i < length xs → get_or xs i x ≡ x
    → Took a b (each_spaced words (take i xs)) → Stopped b c (spaced (words x)) → Stopped a c (each_spaced words xs)
stopped_each words xs i x a b c h e p q =
    let so_far = each_spaced words (take i xs) ++ spaced (words x) in
    let rest = each_spaced words (drop (i + 1) xs) in
    let all : each_spaced words xs ≡ so_far ++ rest = each_rest words xs (i + 1) ∙ ap (λ (t : List ℕ). t ++ rest) (each_more words xs i x h e) in
    subst (Stopped a c) (sym all) (stopped_more a c so_far rest (stopped_then a b c (each_spaced words (take i xs)) (spaced (words x)) p q))

-- a word was written after a space
pub writes_word : {X E : Type 0} (r : Result X E) (a b c : Standing) (word : List ℕ) → Took a b (32 ∷ []) → Writes r b c word → Writes r a c (spaced (word ∷ []))
writes_word r a b c word p q = subst (Writes r a c) (sym (append-nil (32 ∷ word))) (writes_then r a b c (32 ∷ []) word p q)

-- of a word a prefix was written
pub stops_word : {X E : Type 0} (r : Result X E) (a b : Standing) (word : List ℕ) → IsErr r → Stopped a b (32 ∷ []) → Writes r a b (spaced (word ∷ []))
stops_word r a b word e p = subst (Writes r a b) (sym (append-nil (32 ∷ word))) (writes_stopped r a b (32 ∷ word) e (stopped_more a b (32 ∷ []) word p))

-- words were taken, and the next written
pub writes_words : {X E : Type 0} (r : Result X E) (a b c : Standing) (xs ys : List (List ℕ)) → Took a b (spaced xs) → Writes r b c (spaced ys) → Writes r a c (spaced (xs ++ ys))
writes_words r a b c xs ys p q = subst (Writes r a c) (sym (spaced-append xs ys)) (writes_then r a b c (spaced xs) (spaced ys) p q)

-- of words that go on a prefix was written
pub stops_words : {X E : Type 0} (r : Result X E) (a b : Standing) (xs ys : List (List ℕ)) → IsErr r → Stopped a b (spaced xs) → Writes r a b (spaced (xs ++ ys))
stops_words r a b xs ys e p = subst (Writes r a b) (sym (spaced-append xs ys)) (writes_stopped r a b (spaced xs ++ spaced ys) e (stopped_more a b (spaced xs) (spaced ys) p))

-- a list of numbers that is not empty
pub some_words : (xs : List ℕ) → xs ≢ [] → flat_map (λ n. decimal n ∷ []) xs ≡ list_words xs
some_words [] h = absurd (h refl)
some_words (x ∷ xs) h = flat_map_single decimal (x ∷ xs)

-- replies that are not empty
pub some_entries : (xs : List Entry) → xs ≢ [] → flat_map entry_words xs ≡ entries_words xs
some_entries [] h = absurd (h refl)
some_entries (x ∷ xs) h = refl

-- the elements after the first, as the code cuts them
pub rest_of : (x : List ℕ) (xs : List (List ℕ)) → take (length (x ∷ xs) - 1) (drop 1 (x ∷ xs)) ≡ xs
rest_of x xs = take_all (length (x ∷ xs) - 1) xs (omega arith)

-- the first list of a packing was taken, and the others were written
pub writes_bins : {X E : Type 0} (r : Result X E) (a b c : Standing) (first : List ℕ) (bins : List (List ℕ)) → 1 ≤ length bins → first ≡ get_or bins 0 first
    → Took a b (spaced (list_words first))
    → Writes r b c (spaced (flat_map (λ bin. codes "/" ∷ list_words bin) (take (length bins - 1) (drop 1 bins)))) → Writes r a c (spaced (pack_words bins))
writes_bins r a b c first [] le is p q = absurd (omega arith)
writes_bins r a b c first (x ∷ xs) le is p q =
    let others = flat_map (λ bin. codes "/" ∷ list_words bin) xs in
    let p2 : Took a b (spaced (list_words x)) = subst (λ (y : List ℕ). Took a b (spaced (list_words y))) is p in
    let q2 : Writes r b c (spaced others) = subst (λ (ys : List (List ℕ)). Writes r b c (spaced (flat_map (λ bin. codes "/" ∷ list_words bin) ys))) (rest_of x xs) q in
    subst (λ (t : List (List ℕ)). Writes r a c (spaced t)) (sym (pack_bins x xs)) (writes_words r a b c (list_words x) others p2 q2)
