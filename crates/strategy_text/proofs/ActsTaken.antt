-- What is read of the words of what the algorithm does is spelled so.
use Rattle.std.proofs.Common.{◌≡◌, ◌≢◌, ℕ, ◌<◌, List, [], ◌∷◌, ◌++◌, length, decimal, codes, Some, refl, sym, ap, subst, ◌∙◌, arith, All}
use Rattle.std.specs.List.{flat_map}
use Rattle.std.proofs.lemmas.List.{append-nil}
use Rattle.std.proofs.lemmas.List.Elements.{All-from_recursion}
use Rattle.strategy_text.specs.declared.node.Act.{Act}
use Rattle.strategy_text.specs.declared.node.Act.TheVariants.{Finish, Big, Reply}
use Rattle.strategy_text.specs.declared.node.AlgNode.{AlgNode}
use Rattle.strategy_text.specs.declared.node.Entry.{Entry}
use Rattle.strategy_text.specs.declared.node.Format.{Format}
use Rattle.strategy_text.specs.declared.node.Format.TheVariants.{Two}
use Rattle.strategy_text.specs.Text.{entry_words, entries_words, act_words, position_words}
use Rattle.strategy_text.specs.Spelling.{IsEntry, IsAct, IsSpellableAlgorithm}
use Rattle.strategy_text.specs.Reading.{some_at, more_words, each_at, entry_at, entries_at, big_at, reply_at, act_at, position_at, algorithm_at}
use Rattle.strategy_text.proofs.Steps.{bind_some, some_is, after_then, some_takes, number_then, whole_takes, choose_then, second_takes}
use Rattle.strategy_text.proofs.Taken.{Begins, Spells, BeginsWith, begins_then, many_takes, numbered_words, IsPositionOfNumbers, position_takes}

pub entry_takes : Spells entry_words IsEntry entry_at
unfolding entry_at
entry_takes words x e =
    number_then 65535 words _ x _ (omega arith) e
    (λ s r1 e1 ls k1. after_then (codes "on") r1 _ x _ k1
    (λ r2 e2 k2. number_then 65535 r2 _ x _ (omega arith) k2
    (λ l r3 e3 ll k3. after_then (codes "to") r3 _ x _ k3
    (λ r4 e4 k4. number_then 4294967295 r4 _ x _ (omega arith) k4
    (λ c r5 e5 lc k5. let y : Entry × List (List ℕ) = (record { size = s; load = l; to = c }, r5) in
    subst (λ (y : Entry × List (List ℕ)). Begins words (entry_words y.0) y.1 (IsEntry y.0)) (some_is y x k5)
    (record { parts = e1 ∙ rw (e2, e3, e4, e5) refl; fits = record { size = ls; load = ll; to = lc } }))))))

pub entry_shrinks : (words : List (List ℕ)) (x : Entry × List (List ℕ)) → entry_at words ≡ Some x → length x.1 < length words
entry_shrinks words x e = omega (arith, ap length (entry_takes words x e).parts)

more_takes : BeginsWith [] more_words
more_takes [] rest e = absurd cc
more_takes (w ∷ ws) rest e = some_is (w ∷ ws) rest e

entries_some : (entries : List Entry) → entries ≢ [] → entries_words entries ≡ flat_map entry_words entries
entries_some [] h = absurd (h refl)
entries_some (x ∷ xs) h = refl

entries_takes : Spells entries_words (All IsEntry) entries_at
unfolding entries_at
entries_takes words x e =
    choose_then (codes "-") words _ _ x _ e
    (λ rest e0 k0. let y : List Entry × List (List ℕ) = ([], rest) in
    subst (λ (y : List Entry × List (List ℕ)). Begins words (entries_words y.0) y.1 (All IsEntry y.0)) (some_is y x k0)
    (record { parts = e0; fits = All-from_recursion IsEntry [] tt }))
    (λ k0. let b = bind_some (each_at more_words entry_at words) some_at x k0 in
    let t = many_takes [] more_words entry_at entry_words IsEntry more_takes entry_takes (length words) words b.0 b.1 in
    let s = some_takes b.0 x b.2 in
    subst (λ (y : List Entry × List (List ℕ)). y.0 ≢ [] → Begins words (entries_words y.0) y.1 (All IsEntry y.0)) s.0
    (λ some. record { parts = rw (entries_some b.0.0 some) t.parts; fits = All-from_recursion IsEntry b.0.0 t.fits }) s.1)

big_takes : Spells act_words (IsAct Two) big_at
unfolding big_at
big_takes words x e =
    after_then (codes "big") words _ x _ e
    (λ r0 e0 k0. number_then 65535 r0 _ x _ (omega arith) k0
    (λ n r1 e1 le k1. let y : Act × List (List ℕ) = (Big n, r1) in
    subst (λ (y : Act × List (List ℕ)). Begins words (act_words y.0) y.1 (IsAct Two y.0)) (some_is y x k1)
    (record { parts = e0 ∙ rw e1 refl; fits = record { second = refl; kept = le } })))

reply_takes : (format : Format) → Spells act_words (IsAct format) (reply_at format)
unfolding reply_at
reply_takes format words x e =
    choose_then (codes "reply") words _ _ x _ e
    (λ rest e0 k0. begins_then entries_at entries_words (All IsEntry) entries_takes rest _ x _ k0
    (λ entries r1 e1 f1 k1. let y : Act × List (List ℕ) = (Reply entries, r1) in
    subst (λ (y : Act × List (List ℕ)). Begins words (act_words y.0) y.1 (IsAct format y.0)) (some_is y x k1)
    (record { parts = e0 ∙ ap (λ (t : List (List ℕ)). codes "reply" ∷ t) e1; fits = f1 })))
    (λ k0. let s = second_takes format _ x k0 in
    let t = big_takes words x s.1 in
    record { parts = t.parts; fits = subst (λ (f : Format). IsAct f x.0) (sym s.0) t.fits })

act_takes : (format : Format) → Spells act_words (IsAct format) (act_at format)
unfolding act_at
act_takes format words x e =
    choose_then (codes "finish") words _ _ x _ e
    (λ rest e0 k0. let y : Act × List (List ℕ) = (Finish, rest) in
    subst (λ (y : Act × List (List ℕ)). Begins words (act_words y.0) y.1 (IsAct format y.0)) (some_is y x k0) (record { parts = e0; fits = tt }))
    (λ k0. reply_takes format words x k0)

-- a node that was read has these words, and each part is in its ranges
pub algorithm_takes : (format : Format) (number : ℕ) (words : List (List ℕ)) (node : AlgNode) → algorithm_at format number words ≡ Some node
    → (words ≡ decimal number ∷ position_words node.loads node.items ++ act_words node.act) × IsSpellableAlgorithm format node
unfolding algorithm_at
algorithm_takes format number words node e =
    begins_then (position_at number) (numbered_words number) IsPositionOfNumbers (position_takes number) words _ node _ e
    (λ position r1 e1 f1 k1. begins_then (act_at format) act_words (IsAct format) (act_takes format) r1 _ node _ k1
    (λ act r2 e2 f2 k2. let read : AlgNode = record { loads = position.0; items = position.1; act = act } in
    let w = whole_takes read node r2 k2 in
    let tail : r1 ≡ act_words act = e2 ∙ ap (λ (t : List (List ℕ)). act_words act ++ t) w.0 ∙ append-nil (act_words act) in
    let parts : words ≡ numbered_words number position ++ act_words act = e1 ∙ ap (λ (t : List (List ℕ)). numbered_words number position ++ t) tail in
    subst (λ (n : AlgNode). (words ≡ decimal number ∷ position_words n.loads n.items ++ act_words n.act) × IsSpellableAlgorithm format n) w.1
    (parts, record { loads = f1.0; items = f1.1; act = f2 })))
