-- Reading values one after the other, as a loop does.
use Rattle.std.proofs.Common.{◌≡◌, ℕ, zero, suc, ◌<◌, ◌≤◌, true, false, ◌==◌, List, [], ◌∷◌, ◌++◌, length, Option, Some, None, Result, Err, refl, sym, ap, ◌∙◌, arith, append_assoc}
use Rattle.std.specs.Option.{option_map}
use Rattle.std.proofs.lemmas.List.{append-nil}
use Rattle.std.proofs.lemmas.Bool.Decides.{nat_tests}
use Rattle.strategy_text.specs.declared.stop.LineStop.{LineStop}
use Rattle.strategy_text.specs.declared.stop.LineStop.TheVariants.{Memory, Form}
use Rattle.strategy_text.specs.Words.{number_of, after, number_at}
use Rattle.strategy_text.specs.Reading.{Reads, numbers_at, prepended, many_at, each_at, more_words}
use Rattle.strategy_text.proofs.Steps.{mapped, after_takes}

-- ---- numbers

-- the numbers so far, and those of what is left
abbrev pub numbers_so_far : List ℕ → List (List ℕ) → List ℕ × List (List ℕ)
numbers_so_far so_far words = (so_far ++ (numbers_at words).0, (numbers_at words).1)

mapped_none : (o : Option ℕ) (ws : List (List ℕ)) → (let r : Option (ℕ × List (List ℕ)) = option_map (λ n. (n, ws)) o in r) ≡ None → o ≡ None
mapped_none None ws e = refl
mapped_none (Some n) ws e = absurd cc

pub numbers_more : (so_far : List ℕ) (n : ℕ) (words rest : List (List ℕ)) (total : List ℕ × List (List ℕ)) → number_at 65535 words ≡ Some (n, rest)
    → numbers_so_far so_far words ≡ total → numbers_so_far (so_far ++ n ∷ []) rest ≡ total
unfolding numbers_at number_at
numbers_more so_far n [] rest total e h = absurd cc
numbers_more so_far n (w ∷ ws) rest total e h =
    let m = mapped (number_of 65535 w) ws (n, rest) e in
    let one : numbers_so_far so_far (w ∷ ws) ≡ (so_far ++ (n ∷ (numbers_at ws).0), (numbers_at ws).1) = rw m.0 refl in
    let two : numbers_so_far (so_far ++ n ∷ []) ws ≡ (so_far ++ (n ∷ (numbers_at ws).0), (numbers_at ws).1) = ap (λ (ns : List ℕ). (ns, (numbers_at ws).1))
    (append_assoc so_far (n ∷ []) (numbers_at ws).0) in
    rw (← m.1) (two ∙ sym one ∙ h)

pub numbers_end : (so_far : List ℕ) (words : List (List ℕ)) (total : List ℕ × List (List ℕ)) → number_at 65535 words ≡ None → numbers_so_far so_far words ≡ total
    → total ≡ (so_far, words)
unfolding numbers_at number_at
numbers_end so_far [] total e h = sym h ∙ ap (λ (ns : List ℕ). (ns, [])) (append-nil so_far)
numbers_end so_far (w ∷ ws) total e h =
    let m = mapped_none (number_of 65535 w) ws e in
    let one : numbers_so_far so_far (w ∷ ws) ≡ (so_far ++ [], w ∷ ws) = rw m refl in
    sym h ∙ one ∙ ap (λ (ns : List ℕ). (ns, w ∷ ws)) (append-nil so_far)

pub number_shrinks : (high : ℕ) (words : List (List ℕ)) (x : ℕ × List (List ℕ)) → number_at high words ≡ Some x → length x.1 < length words
unfolding number_at
number_shrinks high [] x e = absurd cc
number_shrinks high (w ∷ ws) x e = omega (arith, ap length (mapped (number_of high w) ws x e).1)

pub after_shrinks : (word : List ℕ) (words rest : List (List ℕ)) → after word words ≡ Some rest → length rest < length words
after_shrinks word words rest e = omega (arith, ap length (after_takes word words rest e))

-- ---- values of which each has its beginning

-- what is left of words after their beginning and a value
abbrev pub Item : Type 0 → Type 0
Item X = List (List ℕ) → Option (X × List (List ℕ))

abbrev pub Beginning : Type 0
Beginning = List (List ℕ) → Option (List (List ℕ))

-- the values so far, and those of what is left, are these in all
pub record Goes {X : Type 0} (begin : Beginning) (item : Item X) (so_far : List X) (words : List (List ℕ)) (total : Option (List X × List (List ℕ))) : Type 0 where
  pub most : ℕ
  pub enough : length words ≤ most
  pub same : prepended so_far (many_at begin item most words) ≡ total

pub many_begins : {X : Type 0} (begin : Beginning) (item : Item X) (so_far : List X) (words : List (List ℕ))
    → Goes begin item so_far words (prepended so_far (each_at begin item words))
many_begins begin item so_far words = record { most = length words; enough = omega arith; same = refl }

regroup : {X : Type 0} (so_far : List X) (x : X) (read : Option (List X × List (List ℕ))) → prepended so_far (prepended (x ∷ []) read) ≡ prepended (so_far ++ x ∷ []) read
regroup so_far x None = refl
regroup {X} so_far x (Some y) = ap (λ (xs : List X). Some (xs, y.1)) (sym (append_assoc so_far (x ∷ []) y.0))

more_by : {X : Type 0} (begin : Beginning) (item : Item X) (so_far : List X) (words rest left : List (List ℕ)) (x : X) (total : Option (List X × List (List ℕ))) (most : ℕ)
    → begin words ≡ Some rest → item rest ≡ Some (x, left) → length left < length words → length words ≤ most → prepended so_far (many_at begin item most words) ≡ total
    → Goes begin item (so_far ++ x ∷ []) left total
unfolding many_at
more_by begin item so_far words rest left x total zero e k less enough h = absurd (omega arith)
more_by begin item so_far words rest left x total (suc n) e k less enough h =
    let one : prepended so_far (many_at begin item (suc n) words) ≡ prepended (so_far ++ x ∷ []) (many_at begin item n left) = rw (e, k)
    (regroup so_far x (many_at begin item n left)) in
    record { most = n; enough = omega arith; same = sym one ∙ h }

pub many_more : {X : Type 0} (begin : Beginning) (item : Item X) (so_far : List X) (words rest left : List (List ℕ)) (x : X) (total : Option (List X × List (List ℕ)))
    → begin words ≡ Some rest → item rest ≡ Some (x, left) → length left < length words → Goes begin item so_far words total → Goes begin item (so_far ++ x ∷ []) left total
many_more begin item so_far words rest left x total e k less h = more_by begin item so_far words rest left x total h.most e k less h.enough h.same

stops_by : {X : Type 0} (begin : Beginning) (item : Item X) (so_far : List X) (words rest : List (List ℕ)) (total : Option (List X × List (List ℕ))) (most : ℕ)
    → begin words ≡ Some rest → item rest ≡ None → 0 < length words → length words ≤ most → prepended so_far (many_at begin item most words) ≡ total → total ≡ None
unfolding many_at
stops_by begin item so_far words rest total zero e k some enough h = absurd (omega arith)
stops_by begin item so_far words rest total (suc n) e k some enough h =
    let one : prepended so_far (many_at begin item (suc n) words) ≡ None = rw (e, k) refl in
    sym h ∙ one

pub many_stops : {X : Type 0} (begin : Beginning) (item : Item X) (so_far : List X) (words rest : List (List ℕ)) (total : Option (List X × List (List ℕ)))
    → begin words ≡ Some rest → item rest ≡ None → 0 < length words → Goes begin item so_far words total → total ≡ None
many_stops begin item so_far words rest total e k some h = stops_by begin item so_far words rest total h.most e k some h.enough h.same

ends_by : {X : Type 0} (begin : Beginning) (item : Item X) (so_far : List X) (words : List (List ℕ)) (total : Option (List X × List (List ℕ))) (most : ℕ)
    → begin words ≡ None → prepended so_far (many_at begin item most words) ≡ total → total ≡ Some (so_far, words)
unfolding many_at
ends_by {X} begin item so_far words total zero e h = sym h ∙ ap (λ (xs : List X). Some (xs, words)) (append-nil so_far)
ends_by {X} begin item so_far words total (suc n) e h =
    let one : prepended so_far (many_at begin item (suc n) words) ≡ Some (so_far ++ [], words) = rw e refl in
    sym h ∙ one ∙ ap (λ (xs : List X). Some (xs, words)) (append-nil so_far)

pub many_ends : {X : Type 0} (begin : Beginning) (item : Item X) (so_far : List X) (words : List (List ℕ)) (total : Option (List X × List (List ℕ)))
    → begin words ≡ None → Goes begin item so_far words total → total ≡ Some (so_far, words)
many_ends begin item so_far words total e h = ends_by begin item so_far words total h.most e h.same

pub none-prepended : {X : Type 0} (read : Option (List X × List (List ℕ))) → prepended [] read ≡ read
none-prepended None = refl
none-prepended (Some x) = refl

pub from_none : {X : Type 0} (so_far : List X) (read r : Option (List X × List (List ℕ))) → so_far ≡ [] → prepended so_far read ≡ r → read ≡ r
from_none so_far read r e h = sym (rw e (none-prepended read)) ∙ h

pub many_fails : {X : Type 0} (begin : Beginning) (item : Item X) (so_far : List X) (words rest left after-it : List (List ℕ)) (total : Option (List X × List (List ℕ)))
    (e : LineStop)
    → begin words ≡ Some rest → 0 < length words → Reads (let r : Result X LineStop = Err e in r) left (item rest) → Goes begin item so_far words total
    → Reads (let r : Result (List X) LineStop = Err e in r) after-it total
many_fails begin item so_far words rest left after-it total Memory e some k h = tt
many_fails begin item so_far words rest left after-it total Form e some k h = many_stops begin item so_far words rest total e k some h

-- ---- words that are left

pub more_some : (words : List (List ℕ)) → (length words == 0) ≡ false → (more_words words ≡ Some words) × (0 < length words)
more_some [] e = absurd cc
more_some (w ∷ ws) e = (refl, omega arith)

full : (n : ℕ) → (suc n == 0) ≡ true → ⊥
full n e = grind (arith, nat_tests)

pub more_none : (words : List (List ℕ)) → (length words == 0) ≡ true → more_words words ≡ None
more_none [] e = refl
more_none (w ∷ ws) e = absurd (full (length ws) e)
