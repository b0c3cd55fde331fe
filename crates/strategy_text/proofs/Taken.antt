-- What is read of the words that the nodes of both sides begin with is spelled so.
use Rattle.std.proofs.Common.{◌≡◌, ◌≢◌, ℕ, zero, suc, ◌≤◌, ◌==◌, List, [], ◌∷◌, ◌++◌, length, map, decimal, codes, Option, Some, None, refl, sym, ap, subst, ◌∙◌, arith}
use Rattle.std.proofs.Common.{append_assoc, length-append, All}
use Rattle.std.specs.List.{flat_map, AllByRecursion}
use Rattle.std.proofs.lemmas.Bool.{eqb-true}
use Rattle.std.proofs.lemmas.List.Elements.{All-from_recursion}
use Rattle.std.proofs.lemmas.Option.{cond_some}
use Rattle.strategy_text.specs.Text.{list_words, position_words}
use Rattle.strategy_text.specs.Spelling.{IsNumber}
use Rattle.strategy_text.specs.Words.{number_of}
use Rattle.strategy_text.specs.Reading.{◌>>=◌, numbers_from, numbers_at, list_at, prepended, many_from, many_at, numbered_at, labelled_at, position_at}
use Rattle.strategy_text.proofs.Numerals.{number_takes}
use Rattle.strategy_text.proofs.Steps.{bind_some, some_is, after_then, some_takes, number_then, choose_then}
use Rattle.strategy_text.proofs.Loops.{Item, Beginning}

-- words that begin with the words of a value, which is in its ranges
pub record Begins (words text rest : List (List ℕ)) (Fits : Type 0) : Type 0 where
  pub parts : words ≡ text ++ rest
  pub fits : Fits

numbers_step : (w : List ℕ) (ws : List (List ℕ)) (o : Option ℕ) (found : List ℕ × List (List ℕ)) → number_of 65535 w ≡ o
    → Begins ws (map decimal found.0) found.1 (AllByRecursion IsNumber found.0)
    → Begins (w ∷ ws) (map decimal (numbers_from o (w ∷ ws) found).0) (numbers_from o (w ∷ ws) found).1 (AllByRecursion IsNumber (numbers_from o (w ∷ ws) found).0)
numbers_step w ws None found e h = record { parts = refl; fits = tt }
numbers_step w ws (Some n) found e h =
    let t = number_takes 65535 n w (omega arith) e in
    record { parts = rw (t.0, h.parts) refl; fits = (t.1, h.fits) }

pub numbers_takes : (words : List (List ℕ)) → Begins words (map decimal (numbers_at words).0) (numbers_at words).1 (AllByRecursion IsNumber (numbers_at words).0)
unfolding numbers_at
numbers_takes [] = record { parts = refl; fits = tt }
numbers_takes (w ∷ ws) = numbers_step w ws (number_of 65535 w) (numbers_at ws) refl (numbers_takes ws)

list_some : (xs : List ℕ) → xs ≢ [] → list_words xs ≡ map decimal xs
list_some [] h = absurd (h refl)
list_some (x ∷ xs) h = refl

pub list_takes : (words : List (List ℕ)) (x : List ℕ × List (List ℕ)) → list_at words ≡ Some x → Begins words (list_words x.0) x.1 (AllByRecursion IsNumber x.0)
unfolding list_at
list_takes words x e =
    let found = numbers_takes words in
    let none : List ℕ × List (List ℕ) = numbers_at words in
    choose_then (codes "-") words _ _ x _ e
    (λ rest e0 k. let y : List ℕ × List (List ℕ) = ([], rest) in
    subst (λ (y : List ℕ × List (List ℕ)). Begins words (list_words y.0) y.1 (AllByRecursion IsNumber y.0)) (some_is y x k) (record { parts = e0; fits = tt }))
    (λ k. let t = some_takes (numbers_at words) x k in
    subst (λ (y : List ℕ × List (List ℕ)). y.0 ≢ [] → Begins words (list_words y.0) y.1 (AllByRecursion IsNumber y.0)) t.0
    (λ some. record { parts = rw (list_some (numbers_at words).0 some) found.parts; fits = found.fits }) t.1)

-- what a reader takes is spelled so
abbrev pub Spells : {X : Type 0} → (X → List (List ℕ)) → (X → Type 0) → (List (List ℕ) → Option (X × List (List ℕ))) → Type 0
Spells {X} spell Fits item = (words : List (List ℕ)) (x : X × List (List ℕ)) → item words ≡ Some x → Begins words (spell x.0) x.1 (Fits x.0)

-- the beginning of a value is these words
abbrev pub BeginsWith : List (List ℕ) → Beginning → Type 0
BeginsWith lead begin = (words rest : List (List ℕ)) → begin words ≡ Some rest → words ≡ lead ++ rest

many_step : {X : Type 0} (lead : List (List ℕ)) (begin : Beginning) (item : Item X) (spell : X → List (List ℕ)) (Fits : X → Type 0)
    (others : List (List ℕ) → Option (List X × List (List ℕ)))
    → BeginsWith lead begin → Spells spell Fits item → Spells (flat_map (λ x. lead ++ spell x)) (AllByRecursion Fits) others
    → (words : List (List ℕ)) (o : Option (List (List ℕ))) → begin words ≡ o → (found : List X × List (List ℕ)) → many_from o words item others ≡ Some found
    → Begins words (flat_map (λ x. lead ++ spell x) found.0) found.1 (AllByRecursion Fits found.0)
many_step {X} lead begin item spell Fits others starts one more words None e found k =
    let none : List X × List (List ℕ) = ([], words) in
    let is = some_is none found k in
    subst (λ (y : List X × List (List ℕ)). Begins words (flat_map (λ x. lead ++ spell x) y.0) y.1 (AllByRecursion Fits y.0)) is (record { parts = refl; fits = tt })
many_step {X} lead begin item spell Fits others starts one more words (Some rest) e found k =
    let a = bind_some (item rest) (λ x. prepended (x.0 ∷ []) (others x.1)) found k in
    let b = bind_some (others a.0.1) (λ xs. Some ((a.0.0 ∷ []) ++ xs.0, xs.1)) found a.2 in
    let ta = one rest a.0 a.1 in
    let tb = more a.0.1 b.0 b.1 in
    let all : List X × List (List ℕ) = (a.0.0 ∷ b.0.0, b.0.1) in
    let is = some_is all found b.2 in
    let more_words = flat_map (λ x. lead ++ spell x) b.0.0 in
    let here : words ≡ lead ++ (spell a.0.0 ++ (more_words ++ b.0.1)) = starts words rest e ∙ ap (λ (t : List (List ℕ)). lead ++ t)
    (ta.parts ∙ ap (λ (t : List (List ℕ)). spell a.0.0 ++ t) tb.parts) in
    let regrouped : ((lead ++ spell a.0.0) ++ more_words) ++ b.0.1 ≡ lead ++ (spell a.0.0 ++ (more_words ++ b.0.1)) = append_assoc (lead ++ spell a.0.0) more_words b.0.1 ∙
    append_assoc lead (spell a.0.0) (more_words ++ b.0.1) in
    let joined : Begins words (flat_map (λ x. lead ++ spell x) all.0) all.1 (AllByRecursion Fits all.0) = record { parts = here ∙ sym regrouped; fits = (ta.fits, tb.fits) } in
    subst (λ (y : List X × List (List ℕ)). Begins words (flat_map (λ x. lead ++ spell x) y.0) y.1 (AllByRecursion Fits y.0)) is joined

pub many_takes : {X : Type 0} (lead : List (List ℕ)) (begin : Beginning) (item : Item X) (spell : X → List (List ℕ)) (Fits : X → Type 0) → BeginsWith lead begin
    → Spells spell Fits item → (n : ℕ) → Spells (flat_map (λ x. lead ++ spell x)) (AllByRecursion Fits) (many_at begin item n)
unfolding many_at
many_takes {X} lead begin item spell Fits starts one zero words found k =
    let none : List X × List (List ℕ) = ([], words) in
    let is = some_is none found k in
    subst (λ (y : List X × List (List ℕ)). Begins words (flat_map (λ x. lead ++ spell x) y.0) y.1 (AllByRecursion Fits y.0)) is (record { parts = refl; fits = tt })
many_takes lead begin item spell Fits starts one (suc n) words found k =
    many_step lead begin item spell Fits (many_at begin item n) starts one (many_takes lead begin item spell Fits starts one n) words (begin words) refl found k

pub Begins-shrinks : (words text rest : List (List ℕ)) (F : Type 0) → Begins words text rest F → length rest ≤ length words
Begins-shrinks words text rest F h = omega (arith, ap length h.parts, length-append text rest)

pub list_shrinks : (words : List (List ℕ)) (x : List ℕ × List (List ℕ)) → list_at words ≡ Some x → length x.1 ≤ length words
list_shrinks words x e = Begins-shrinks words (list_words x.0) x.1 _ (list_takes words x e)

-- a step that did not fail, with what it took and the steps after it
pub begins_then : {X B : Type 0} (item : Item X) (spell : X → List (List ℕ)) (Fits : X → Type 0) → Spells spell Fits item
    → (words : List (List ℕ)) (f : X × List (List ℕ) → Option B) (y : B) (P : Type 0) → (item words >>= f) ≡ Some y
    → ((x : X) (rest : List (List ℕ)) → words ≡ spell x ++ rest → Fits x → f (x, rest) ≡ Some y → P) → P
begins_then item spell Fits spells words f y P e then =
    let b = bind_some (item words) f y e in
    let t = spells words b.0 b.1 in
    then b.0.0 b.0.1 t.parts t.fits b.2

-- ---- a position

numbered_takes : (number : ℕ) (words rest : List (List ℕ)) → numbered_at number words ≡ Some rest → words ≡ decimal number ∷ rest
unfolding numbered_at
numbered_takes number words rest e =
    number_then 4294967295 words _ rest _ (omega arith) e
    (λ n r1 e1 le k1. let t = cond_some (n == number) r1 rest k1 in
    let same : n ≡ number = eqb-true n number t.0 in
    e1 ∙ rw (same, t.1) refl)

labelled_takes : (word : List ℕ) (words : List (List ℕ)) (x : List ℕ × List (List ℕ)) → labelled_at word words ≡ Some x
    → Begins words (word ∷ list_words x.0) x.1 (AllByRecursion IsNumber x.0)
unfolding labelled_at
labelled_takes word words x e =
    after_then word words _ x _ e
    (λ r0 e0 k0. let t = list_takes r0 x k0 in record { parts = e0 ∙ ap (λ (t : List (List ℕ)). word ∷ t) t.parts; fits = t.fits })

-- the words of a position, with the number of its node
abbrev pub numbered_words : ℕ → List ℕ × List ℕ → List (List ℕ)
numbered_words number position = decimal number ∷ position_words position.0 position.1

-- the loads and the items are numbers
abbrev pub IsPositionOfNumbers : List ℕ × List ℕ → Type 0
IsPositionOfNumbers position = All IsNumber position.0 × All IsNumber position.1

joined : (a b c d : List (List ℕ)) (rest : List (List ℕ)) → a ≡ b ++ c → c ≡ d ++ rest → a ≡ (b ++ d) ++ rest
joined a b c d rest e f = e ∙ ap (λ (t : List (List ℕ)). b ++ t) f ∙ sym (append_assoc b d rest)

pub position_takes : (number : ℕ) → Spells (numbered_words number) IsPositionOfNumbers (position_at number)
unfolding position_at
position_takes number words x e =
    let b = bind_some (numbered_at number words) (λ rest. labelled_at (codes "loads") rest >>= λ loads. labelled_at (codes "items") loads.1 >>= λ items. Some
    ((loads.0, items.0), items.1)) x e in
    let e0 = numbered_takes number words b.0 b.1 in
    begins_then (labelled_at (codes "loads")) (λ xs. codes "loads" ∷ list_words xs) (AllByRecursion IsNumber) (labelled_takes (codes "loads")) b.0 _ x _ b.2
    (λ loads r1 e1 f1 k1. begins_then (labelled_at (codes "items")) (λ xs. codes "items" ∷ list_words xs) (AllByRecursion IsNumber) (labelled_takes (codes "items")) r1 _ x _ k1
    (λ items r2 e2 f2 k2. let y : (List ℕ × List ℕ) × List (List ℕ) = ((loads, items), r2) in
    let parts : words ≡ numbered_words number (loads, items) ++ r2 = e0 ∙ ap (λ (t : List (List ℕ)). decimal number ∷ t)
    (joined b.0 (codes "loads" ∷ list_words loads) r1 (codes "items" ∷ list_words items) r2 e1 e2) in
    subst (λ (y : (List ℕ × List ℕ) × List (List ℕ)). Begins words (numbered_words number y.0) y.1 (IsPositionOfNumbers y.0)) (some_is y x k2)
    (record { parts = parts; fits = (All-from_recursion IsNumber loads f1, All-from_recursion IsNumber items f2) })))
