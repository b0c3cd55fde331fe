-- The lines of a game and of a number of nodes are read as what they spell, and no other lines.
use Rattle.std.proofs.Common.{◌≡◌, ℕ, ◌≤◌, false, ◌==◌, List, [], ◌∷◌, decimal, codes, Option, Some, None, refl, sym, ap, subst, ◌∙◌, arith}
use Rattle.std.specs.Prelude.{MatchOption}
use Rattle.std.proofs.lemmas.Bool.Decides.{nat_tests}
use Rattle.std.specs.Option.{option_map}
use Rattle.items.specs.Game.{GameNumbers, numbers}
use Rattle.strategy_text.specs.Text.{game_line, count_line}
use Rattle.strategy_text.specs.Spelling.{SpellsGame, SpellsCount}
use Rattle.strategy_text.specs.Words.{words_left}
use Rattle.strategy_text.specs.Reading.{whole, game_at, count_at}
use Rattle.strategy_text.proofs.Lines.{words_again, line_takes, decimal_word}
use Rattle.strategy_text.proofs.Numerals.{none_or}
use Rattle.strategy_text.proofs.Steps.{after_then, number_then, after_again, number_at_again, whole_takes}

abbrev game_words : GameNumbers → List (List ℕ)
game_words game = codes "game" ∷ decimal game.bins ∷ decimal game.capacity ∷ decimal game.target ∷ []

game_takes : (line : List ℕ) (game : GameNumbers) → game_at (words_left (Some line)) ≡ Some game → SpellsGame line game
unfolding game_at game_line
game_takes line game e =
    after_then _ (words_left (Some line)) _ game _ e
    (λ r0 e0 k0. number_then 65535 r0 _ game _ (omega arith) k0
    (λ m r1 e1 lm k1. number_then 65535 r1 _ game _ (omega arith) k1
    (λ g r2 e2 lg k2. number_then 65535 r2 _ game _ (omega arith) k2
    (λ t r3 e3 lt k3. let w = whole_takes (numbers m g t) game r3 k3 in
    let all : words_left (Some line) ≡ game_words (numbers m g t) = e0 ∙ rw (e1, e2, e3, w.0) refl in
    let spells : SpellsGame line (numbers m g t) = record { bins = lm; capacity = lg; target = lt; spelled = line_takes line _ all } in
    subst (λ (x : GameNumbers). SpellsGame line x) w.1 spells))))

pub game_again : (line : List ℕ) (game : GameNumbers) → SpellsGame line game → game_at (words_left (Some line)) ≡ Some game
unfolding game_at game_line
game_again line game h =
    let all : words_left (Some line) ≡ game_words game = ap (λ (l : List ℕ). words_left (Some l)) h.spelled ∙ words_again (codes "game")
    (decimal game.bins ∷ decimal game.capacity ∷ decimal game.target ∷ []) (
      refl,
      (
        decimal_word game.bins (omega (arith, h.bins)),
        (decimal_word game.capacity (omega (arith, h.capacity)), (decimal_word game.target (omega (arith, h.target)), tt)),
      ),
    ) in
    ap game_at all ∙ rw (
      after_again (codes "game") (decimal game.bins ∷ decimal game.capacity ∷ decimal game.target ∷ []),
      number_at_again 65535 game.bins
          (decimal game.capacity ∷ decimal game.target ∷ []) (omega arith) h.bins,
      number_at_again 65535 game.capacity (decimal game.target ∷ []) (omega arith) h.capacity,
      number_at_again 65535 game.target [] (omega arith) h.target,
    ) refl

pub game_exact : (line : List ℕ) (r : Option (ℕ × ℕ × ℕ)) → option_map (λ x. numbers x.0 x.1 x.2) r ≡ game_at (words_left (Some line))
    → MatchOption r ((game : GameNumbers) → SpellsGame line game → ⊥) (λ x. SpellsGame line (numbers x.0 x.1 x.2))
game_exact line None e = λ game h. (let z = game_again line game h in absurd cc)
game_exact line (Some x) e = game_takes line (numbers x.0 x.1 x.2) (sym e)

low_test : (n : ℕ) → (n == 0) ≡ false → 1 ≤ n
low_test n e = grind (arith, nat_tests)

low_yes : (n : ℕ) → 1 ≤ n → (n == 0) ≡ false
low_yes n e = grind (arith, nat_tests)

count_takes : (line : List ℕ) (nodes : ℕ) → count_at (words_left (Some line)) ≡ Some nodes → SpellsCount line nodes
unfolding count_at count_line
count_takes line nodes e =
    after_then _ (words_left (Some line)) _ nodes _ e
    (λ r0 e0 k0. number_then 4000000000 r0 _ nodes _ (omega arith) k0
    (λ n r1 e1 high k1. let t = none_or (n == 0) (whole n r1) nodes k1 in
    let w = whole_takes n nodes r1 t.1 in
    let all : words_left (Some line) ≡ codes "nodes" ∷ decimal n ∷ [] = e0 ∙ rw (e1, w.0) refl in
    let spells : SpellsCount line n = record { low = low_test n t.0; high = high; spelled = line_takes line _ all } in
    subst (λ (x : ℕ). SpellsCount line x) w.1 spells))

pub count_again : (line : List ℕ) (nodes : ℕ) → SpellsCount line nodes → count_at (words_left (Some line)) ≡ Some nodes
unfolding count_at count_line
count_again line nodes h =
    let all : words_left (Some line) ≡ codes "nodes" ∷ decimal nodes ∷ [] = ap (λ (l : List ℕ). words_left (Some l)) h.spelled ∙ words_again (codes "nodes") (decimal nodes ∷ [])
    (refl, (decimal_word nodes (omega (arith, h.high)), tt)) in
    ap count_at all ∙ rw (after_again (codes "nodes") (decimal nodes ∷ []), number_at_again 4000000000 nodes [] (omega arith) h.high, low_yes nodes h.low) refl

pub count_exact : (line : List ℕ) (r : Option ℕ) → r ≡ count_at (words_left (Some line)) → MatchOption r ((nodes : ℕ) → SpellsCount line nodes → ⊥) (SpellsCount line)
count_exact line None e = λ nodes h. (let z = count_again line nodes h in absurd cc)
count_exact line (Some x) e = count_takes line x (sym e)
