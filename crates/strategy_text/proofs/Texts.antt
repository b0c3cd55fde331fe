-- The text of a strategy tells the strategy, whatever follows it.
use Rattle.std.proofs.Common.{◌≡◌, ℕ, ◌+◌, ◌≤◌, true, List, [], ◌∷◌, ◌++◌, length, map, decimal, codes, Some, refl, sym, ap, subst, ◌∙◌, arith}
use Rattle.std.specs.List.{AllByRecursion}
use Rattle.std.proofs.lemmas.List.{append-nil}
use Rattle.std.proofs.lemmas.List.Elements.{recursion_from_All, All-from_recursion}
use Rattle.items.specs.Game.{GameNumbers}
use Rattle.strategy_text.specs.declared.node.AdvNode.{AdvNode}
use Rattle.strategy_text.specs.declared.node.AlgNode.{AlgNode}
use Rattle.strategy_text.specs.declared.node.Format.{Format}
use Rattle.strategy_text.specs.declared.node.Format.TheVariants.{One, Two}
use Rattle.strategy_text.specs.declared.node.Nodes.{Nodes}
use Rattle.strategy_text.specs.declared.node.Nodes.TheVariants as nodes
use Rattle.strategy_text.specs.declared.node.Side.{Side}
use Rattle.strategy_text.specs.declared.node.Side.TheVariants as sides
use Rattle.strategy_text.specs.declared.node.Strategy.{Strategy}
use Rattle.strategy_text.specs.Text.{AnyNode, of_adversary, of_algorithm, node_line, node_lines, nodes_of, side_of, first_line, game_line, side_line, count_line, end_line}
use Rattle.strategy_text.specs.Text.{strategy_lines, text_of_lines, text_of}
use Rattle.strategy_text.specs.Spelling.{IsSpellableNode, IsSpellable, SpellsGame, SpellsCount}
use Rattle.strategy_text.specs.Laws.{TextTellsStrategy, NoTextBeginsAnother, IsOneLine, LinesAreLines}
use Rattle.strategy_text.specs.Words.{words_left}
use Rattle.strategy_text.specs.Reading.{game_at, count_at}
use Rattle.strategy_text.proofs.Lines.{is_line, words_line, first_same, decimal_word, line_parts}
use Rattle.strategy_text.proofs.Steps.{apart}
use Rattle.strategy_text.proofs.HeadLines.{game_again, count_again}
use Rattle.strategy_text.proofs.NodesSame.{line_same, node_is_line}

-- ---- the lines of a head

pub first_is_line : (format : Format) → is_line (first_line format) ≡ true
first_is_line One = refl
first_is_line Two = refl

pub game_is_line : (game : GameNumbers) → game.bins ≤ 65535 → game.capacity ≤ 65535 → game.target ≤ 65535 → is_line (game_line game) ≡ true
unfolding game_line
game_is_line game m g t =
    words_line (codes "game" ∷ decimal game.bins ∷ decimal game.capacity ∷ decimal game.target ∷ [])
    (refl, (decimal_word game.bins (omega arith), (decimal_word game.capacity (omega arith), (decimal_word game.target (omega arith), tt))))

pub side_is_line : (side : Side) → is_line (side_line side) ≡ true
side_is_line sides.Adversary = refl
side_is_line sides.Algorithm = refl

pub count_is_line : (nodes : ℕ) → nodes ≤ 4000000000 → is_line (count_line nodes) ≡ true
unfolding count_line
count_is_line nodes h = words_line (codes "nodes" ∷ decimal nodes ∷ []) (refl, (decimal_word nodes (omega arith), tt))

pub first_tells : (one other : Format) → first_line one ≡ first_line other → one ≡ other
first_tells One One e = refl
first_tells One Two e = absurd (apart (codes "stretch 1") (codes "stretch 2") refl e)
first_tells Two One e = absurd (apart (codes "stretch 2") (codes "stretch 1") refl e)
first_tells Two Two e = refl

pub side_tells : (one other : Side) → side_line one ≡ side_line other → one ≡ other
side_tells sides.Adversary sides.Adversary e = refl
side_tells sides.Adversary sides.Algorithm e = absurd (apart (side_line sides.Adversary) (side_line sides.Algorithm) refl e)
side_tells sides.Algorithm sides.Adversary e = absurd (apart (side_line sides.Algorithm) (side_line sides.Adversary) refl e)
side_tells sides.Algorithm sides.Algorithm e = refl

pub game_tells : (game other : GameNumbers) → SpellsGame (game_line game) game → SpellsGame (game_line other) other → game_line game ≡ game_line other → game ≡ other
game_tells game other g h e =
    let a = game_again (game_line game) game g in
    let b = game_again (game_line other) other h in
    let c = ap (λ (l : List ℕ). game_at (words_left (Some l))) e in
    cc

pub count_tells : (n m : ℕ) → SpellsCount (count_line n) n → SpellsCount (count_line m) m → count_line n ≡ count_line m → n ≡ m
count_tells n m g h e =
    let a = count_again (count_line n) n g in
    let b = count_again (count_line m) m h in
    let c = ap (λ (l : List ℕ). count_at (words_left (Some l))) e in
    cc

-- ---- nodes

-- nodes of the same numbers in two texts are the same
record Same (ns ms : List AnyNode) (x y : List ℕ) : Type 0 where
  nodes : ns ≡ ms
  rest : x ≡ y

nodes_same : (format : Format) (k : ℕ) (ns ms : List AnyNode) (tail : List (List ℕ)) (x y : List ℕ) → k + length ns ≤ 4294967295 → AllByRecursion (IsSpellableNode format) ns
    → AllByRecursion (IsSpellableNode format) ms → length ns ≡ length ms
    → text_of_lines (node_lines k ns ++ tail) ++ x ≡ text_of_lines (node_lines k ms ++ tail) ++ y → Same ns ms (text_of_lines tail ++ x) (text_of_lines tail ++ y)
nodes_same format k [] [] tail x y le g h len e = record { nodes = refl; rest = e }
nodes_same format k [] (m ∷ ms) tail x y le g h len e = absurd (omega arith)
nodes_same format k (n ∷ ns) [] tail x y le g h len e = absurd (omega arith)
nodes_same format k (n ∷ ns) (m ∷ ms) tail x y le g h len e =
    let f = first_same (node_line k n) (node_line k m) (node_lines (k + 1) ns ++ tail) (node_lines (k + 1) ms ++ tail) x y (node_is_line format k n (omega arith) g.0)
    (node_is_line format k m (omega arith) h.0) e in
    let r = nodes_same format (k + 1) ns ms tail x y (omega arith) g.1 h.1 (omega arith) f.1 in
    let one = line_same format k n m (omega arith) g.0 h.0 f.0 in
    record { nodes = rw (one, r.nodes) refl; rest = r.rest }

adversarys_same : (xs ys : List AdvNode) → map of_adversary xs ≡ map of_adversary ys → xs ≡ ys
adversarys_same [] [] e = refl
adversarys_same [] (y ∷ ys) e = absurd cc
adversarys_same (x ∷ xs) [] e = absurd cc
adversarys_same (x ∷ xs) (y ∷ ys) e =
    let first : x ≡ y = cc in
    let others : map of_adversary xs ≡ map of_adversary ys = cc in
    let rest = adversarys_same xs ys others in
    cc

algorithms_same : (xs ys : List AlgNode) → map of_algorithm xs ≡ map of_algorithm ys → xs ≡ ys
algorithms_same [] [] e = refl
algorithms_same [] (y ∷ ys) e = absurd cc
algorithms_same (x ∷ xs) [] e = absurd cc
algorithms_same (x ∷ xs) (y ∷ ys) e =
    let first : x ≡ y = cc in
    let others : map of_algorithm xs ≡ map of_algorithm ys = cc in
    let rest = algorithms_same xs ys others in
    cc

-- nodes of a side are told by the nodes of either side
pub nodes_tell : (one other : Nodes) → side_of one ≡ side_of other → nodes_of one ≡ nodes_of other → one ≡ other
nodes_tell (nodes.Adversary xs) (nodes.Adversary ys) s e = ap nodes.Adversary (adversarys_same xs ys e)
nodes_tell (nodes.Adversary xs) (nodes.Algorithm ys) s e = absurd cc
nodes_tell (nodes.Algorithm xs) (nodes.Adversary ys) s e = absurd cc
nodes_tell (nodes.Algorithm xs) (nodes.Algorithm ys) s e = ap nodes.Algorithm (algorithms_same xs ys e)

-- ---- texts

spells_game : (s : Strategy) → IsSpellable s → SpellsGame (game_line s.game) s.game
spells_game s h = record { bins = h.bins; capacity = h.capacity; target = h.target; spelled = refl }

spells_count : (s : Strategy) → IsSpellable s → SpellsCount (count_line (length (nodes_of s.nodes))) (length (nodes_of s.nodes))
spells_count s h = record { low = h.low; high = h.high; spelled = refl }

-- the lines of a strategy after so many lines of its head
abbrev last_lines : Strategy → List (List ℕ)
last_lines s = node_lines 0 (nodes_of s.nodes) ++ end_line ∷ []

abbrev count_lines : Strategy → List (List ℕ)
count_lines s = count_line (length (nodes_of s.nodes)) ∷ last_lines s

abbrev side_lines : Strategy → List (List ℕ)
side_lines s = side_line (side_of s.nodes) ∷ count_lines s

abbrev game_lines : Strategy → List (List ℕ)
game_lines s = game_line s.game ∷ side_lines s

-- two strategies whose texts go on in the same way
record SameStrategy (one other : Strategy) (x y : List ℕ) : Type 0 where
  format : one.format ≡ other.format
  game : one.game ≡ other.game
  nodes : one.nodes ≡ other.nodes
  rest : x ≡ y

texts_same : (one other : Strategy) (x y : List ℕ) → IsSpellable one → IsSpellable other → text_of one ++ x ≡ text_of other ++ y → SameStrategy one other x y
texts_same one other x y g h e =
    let first = first_same (first_line one.format) (first_line other.format) (game_lines one) (game_lines other) x y (first_is_line one.format) (first_is_line other.format) e in
    let second = first_same (game_line one.game) (game_line other.game) (side_lines one) (side_lines other) x y (game_is_line one.game g.bins g.capacity g.target)
    (game_is_line other.game h.bins h.capacity h.target) first.1 in
    let third = first_same (side_line (side_of one.nodes)) (side_line (side_of other.nodes)) (count_lines one) (count_lines other) x y (side_is_line (side_of one.nodes))
    (side_is_line (side_of other.nodes)) second.1 in
    let fourth = first_same (count_line (length (nodes_of one.nodes))) (count_line (length (nodes_of other.nodes))) (last_lines one) (last_lines other) x y (count_is_line _ g.high)
    (count_is_line _ h.high) third.1 in
    let formats = first_tells one.format other.format first.0 in
    let counts = count_tells (length (nodes_of one.nodes)) (length (nodes_of other.nodes)) (spells_count one g) (spells_count other h) fourth.0 in
    let each = subst (λ (f : Format). AllByRecursion (IsSpellableNode f) (nodes_of other.nodes)) (sym formats)
    (recursion_from_All (IsSpellableNode other.format) (nodes_of other.nodes) h.each) in
    let same = nodes_same one.format 0 (nodes_of one.nodes) (nodes_of other.nodes) (end_line ∷ []) x y (omega (arith, g.high))
    (recursion_from_All (IsSpellableNode one.format) (nodes_of one.nodes) g.each) each counts fourth.1 in
    let last = first_same end_line end_line [] [] x y refl refl same.rest in
    record {
      format = formats;
      game = game_tells one.game other.game (spells_game one g) (spells_game other h) second.0;
      nodes = nodes_tell one.nodes other.nodes (side_tells (side_of one.nodes) (side_of other.nodes) third.0) same.nodes;
      rest = last.1;
    }

same_strategy : (f1 f2 : Format) (g1 g2 : GameNumbers) (n1 n2 : Nodes) → f1 ≡ f2 → g1 ≡ g2 → n1 ≡ n2
    → (let s : Strategy = record { format = f1; game = g1; nodes = n1 } in s) ≡ record { format = f2; game = g2; nodes = n2 }
same_strategy f1 f2 g1 g2 n1 n2 e f g = rw (e, f, g) refl

pub text_tells : TextTellsStrategy
text_tells one other g h e =
    let s = texts_same one other [] [] g h (ap (λ (t : List ℕ). t ++ []) e) in
    same_strategy one.format other.format one.game other.game one.nodes other.nodes s.format s.game s.nodes

pub no_prefix : NoTextBeginsAnother
no_prefix one other more g h e =
    let s = texts_same one other more [] g h (e ∙ sym (append-nil (text_of other))) in
    s.rest

-- ---- lines

node_lines_are : (format : Format) (k : ℕ) (ns : List AnyNode) → k + length ns ≤ 4294967295 → AllByRecursion (IsSpellableNode format) ns
    → AllByRecursion IsOneLine (node_lines k ns ++ end_line ∷ [])
node_lines_are format k [] le h = (line_parts end_line refl, tt)
node_lines_are format k (n ∷ ns) le h = (line_parts (node_line k n) (node_is_line format k n (omega arith) h.0), node_lines_are format (k + 1) ns (omega arith) h.1)

pub lines_are_lines : LinesAreLines
lines_are_lines s h =
    let first = line_parts (first_line s.format) (first_is_line s.format) in
    let game = line_parts (game_line s.game) (game_is_line s.game h.bins h.capacity h.target) in
    let side = line_parts (side_line (side_of s.nodes)) (side_is_line (side_of s.nodes)) in
    let count = line_parts (count_line (length (nodes_of s.nodes))) (count_is_line _ h.high) in
    let others = node_lines_are s.format 0 (nodes_of s.nodes) (omega (arith, h.high)) (recursion_from_All (IsSpellableNode s.format) (nodes_of s.nodes) h.each) in
    All-from_recursion IsOneLine (strategy_lines s) (first, (game, (side, (count, others))))
