-- What each step of reading takes, and that it takes it again.
use Rattle.std.proofs.Common.{◌≡◌, ◌≢◌, ℕ, ◌<◌, ◌≤◌, ◌^◌, Bool, true, false, cond, ◌==◌, List, [], ◌∷◌, length, decimal, Option, Some, None, refl}
use Rattle.std.specs.Option.{option_map}
use Rattle.std.specs.Str.{bytes_eq}
use Rattle.std.proofs.lemmas.Option.{cond_some}
use Rattle.std.proofs.lemmas.Slice.Eq.{bytes_eq-Decides}
use Rattle.strategy_text.specs.Words.{number_of, after, number_at}
use Rattle.strategy_text.specs.declared.node.Format.{Format}
use Rattle.strategy_text.specs.declared.node.Format.TheVariants.{One, Two}
use Rattle.strategy_text.specs.Reading.{◌>>=◌, whole, some_at, choose, second}
use Rattle.strategy_text.proofs.FirstWord.{full}
use Rattle.strategy_text.proofs.Numerals.{number_takes, number_again}

-- the value of a step that did not fail
pub bind_some : {A B : Type 0} (o : Option A) (f : A → Option B) (y : B) → (o >>= f) ≡ Some y → (x : A) × (o ≡ Some x) × (f x ≡ Some y)
bind_some None f y e = absurd cc
bind_some (Some x) f y e = (x, refl, e)

pub some_is : {A : Type 0} (x y : A) → (let o : Option A = Some x in o) ≡ Some y → x ≡ y
some_is x y e = cc

-- words that differ at a test
pub apart : (a b : List ℕ) → bytes_eq a b ≡ false → a ≢ b
apart a b h e =
    let t : bytes_eq a b ≡ true = (bytes_eq-Decides a b).1 e in
    cc

pub after_takes : (word : List ℕ) (words rest : List (List ℕ)) → after word words ≡ Some rest → words ≡ word ∷ rest
unfolding after
after_takes word [] rest e = absurd cc
after_takes word (w ∷ ws) rest e =
    let t = cond_some (bytes_eq w word) ws rest e in
    let same : w ≡ word = (bytes_eq-Decides w word).0 t.0 in
    cc

pub after_again : (word : List ℕ) (rest : List (List ℕ)) → after word (word ∷ rest) ≡ Some rest
unfolding after
after_again word rest = rw ((bytes_eq-Decides word word).1 refl) refl

pub mapped : (o : Option ℕ) (ws : List (List ℕ)) (x : ℕ × List (List ℕ)) → option_map (λ n. (n, ws)) o ≡ Some x → (o ≡ Some x.0) × (ws ≡ x.1)
mapped None ws x e = absurd cc
mapped (Some n) ws x e = (cc, cc)

pub number_at_takes : (high : ℕ) (words : List (List ℕ)) (x : ℕ × List (List ℕ)) → high < 2 ^ 64 → number_at high words ≡ Some x → (words ≡ decimal x.0 ∷ x.1) × (x.0 ≤ high)
unfolding number_at
number_at_takes high [] x small e = absurd cc
number_at_takes high (w ∷ ws) x small e =
    let m = mapped (number_of high w) ws x e in
    let t = number_takes high x.0 w small m.0 in
    let is = t.0 in
    let rest = m.1 in
    (cc, t.1)

pub number_at_again : (high n : ℕ) (rest : List (List ℕ)) → high < 2 ^ 64 → n ≤ high → number_at high (decimal n ∷ rest) ≡ Some (n, rest)
unfolding number_at
number_at_again high n rest small le = rw (number_again high n small le) refl

pub whole_takes : {X : Type 0} (x y : X) (rest : List (List ℕ)) → whole x rest ≡ Some y → (rest ≡ []) × (x ≡ y)
whole_takes x y [] e = (refl, cc)
whole_takes x y (w ∷ ws) e = absurd cc

-- a step that did not fail, with what it took and the steps after it
pub after_then : {B : Type 0} (word : List ℕ) (words : List (List ℕ)) (f : List (List ℕ) → Option B) (y : B) (P : Type 0) → (after word words >>= f) ≡ Some y
    → ((rest : List (List ℕ)) → words ≡ word ∷ rest → f rest ≡ Some y → P) → P
after_then word words f y P e then =
    let b = bind_some (after word words) f y e in
    then b.0 (after_takes word words b.0 b.1) b.2

pub number_then : {B : Type 0} (high : ℕ) (words : List (List ℕ)) (f : ℕ × List (List ℕ) → Option B) (y : B) (P : Type 0) → high < 2 ^ 64 → (number_at high words >>= f) ≡ Some y
    → ((n : ℕ) (rest : List (List ℕ)) → words ≡ decimal n ∷ rest → n ≤ high → f (n, rest) ≡ Some y → P) → P
number_then high words f y P small e then =
    let b = bind_some (number_at high words) f y e in
    let t = number_at_takes high words b.0 small b.1 in
    then b.0.0 b.0.1 t.0 t.1 b.2

some_test : {A : Type 0} (b : Bool) (x y : A) → cond b None (Some x) ≡ Some y → (b ≡ false) × (x ≡ y)
some_test true x y e = absurd cc
some_test false x y e = (refl, cc)

nonempty : {X : Type 0} (xs : List X) → (length xs == 0) ≡ false → xs ≢ []
nonempty [] e h = absurd cc
nonempty (x ∷ xs) e h = absurd cc

pub some_takes : {X : Type 0} (found x : List X × List (List ℕ)) → some_at found ≡ Some x → (found ≡ x) × (x.0 ≢ [])
some_takes found x e =
    let t = some_test (length found.0 == 0) found x e in
    (t.1, rw (← t.1) (nonempty found.0 t.0))

pub some_again : {X : Type 0} (xs : List X) (left : List (List ℕ)) → xs ≢ [] → some_at (xs, left) ≡ Some (xs, left)
some_again [] left h = absurd (h refl)
some_again (x ∷ xs) left h = rw (full (length xs)) refl

-- ---- choices

choose_by : {X : Type 0} (word : List ℕ) (words : List (List ℕ)) (o : Option (List (List ℕ))) (here : List (List ℕ) → Option X) (other : Option X) (y : X) (P : Type 0)
    → after word words ≡ o → choose o here other ≡ Some y
    → ((rest : List (List ℕ)) → words ≡ word ∷ rest → here rest ≡ Some y → P) → (other ≡ Some y → P) → P
choose_by word words None here other y P e k there missing = missing k
choose_by word words (Some rest) here other y P e k there missing = there rest (after_takes word words rest e) k

-- a choice that was read, by whether its word was there
pub choose_then : {X : Type 0} (word : List ℕ) (words : List (List ℕ)) (here : List (List ℕ) → Option X) (other : Option X) (y : X) (P : Type 0)
    → choose (after word words) here other ≡ Some y
    → ((rest : List (List ℕ)) → words ≡ word ∷ rest → here rest ≡ Some y → P) → (other ≡ Some y → P) → P
choose_then word words here other y P k there missing = choose_by word words (after word words) here other y P refl k there missing

-- what was read although format 1 has it not
pub second_takes : {X : Type 0} (format : Format) (read : Option X) (y : X) → second format read ≡ Some y → (format ≡ Two) × (read ≡ Some y)
second_takes One read y e = absurd cc
second_takes Two read y e = (refl, e)
