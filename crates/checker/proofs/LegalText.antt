-- The text of a legal strategy has no fault: its lines are whole, and spell what they are to spell.
use Rattle.std.proofs.Common.{◌≡◌, ◌==◌, ℕ, zero, suc, ◌+◌, ◌<◌, ◌≤◌, List, [], ◌∷◌, ◌++◌, length, get_or, take, map, decimal, codes, All, Some, None, sym, ap, ◌∙◌, subst}
use Rattle.std.proofs.Common.{refl, arith, length-append, length-take}
use Rattle.std.specs.List.{slice_get}
use Rattle.std.proofs.lemmas.List.{length-map, length_push, append-nil}
use Rattle.std.proofs.lemmas.List.Elements.{All-nil, All-cons, All-append, All-head, All-map, All-tail, recursion_from_All}
use Rattle.std.proofs.lemmas.Option.{slice_get_within, slice_get-get_or, get_or_from_slice_get}
use Rattle.items.specs.Game.{GameNumbers, IsGame}
use Rattle.items.specs.Multiset.{AreSizes, IsSize, sizes_of}
use Rattle.items.proofs.SizesLemmas.{sizes_are_sizes}
use Rattle.loads.specs.declared.position.Position.{Position}
use Rattle.strategy_text.specs.Spelling.{IsSpellable, IsSpellableNode, most_nodes}
use Rattle.strategy_text.specs.Text.{AnyNode, of_adversary, of_algorithm, node_line, node_lines, nodes_of, side_of, first_line, game_line, side_line, count_line, end_line}
use Rattle.strategy_text.specs.Text.{strategy_lines, text_of, text_of_lines}
use Rattle.strategy_text.proofs.Lines.{line_parts}
use Rattle.port_io.specs.Lines.{HasNoLf, IsLine}
use Rattle.strategy_text.specs.declared.node.AdvNode.{AdvNode}
use Rattle.strategy_text.specs.declared.node.AlgNode.{AlgNode}
use Rattle.strategy_text.specs.declared.node.Format.{Format}
use Rattle.strategy_text.specs.declared.node.Format.TheVariants.{One, Two}
use Rattle.strategy_text.specs.declared.node.Nodes.{Nodes}
use Rattle.strategy_text.specs.declared.node.Nodes.TheVariants as nodes
use Rattle.strategy_text.specs.declared.node.Side.{Side}
use Rattle.strategy_text.specs.declared.node.Side.TheVariants.{Adversary, Algorithm}
use Rattle.strategy_text.specs.declared.node.Strategy.{Strategy}
use Rattle.strategy_text.proofs.Texts.{text_tells, no_prefix, lines_are_lines}
use Rattle.adversary_graph.specs.Nodes as adversary_nodes
use Rattle.adversary_graph.specs.Legal.{EachMeetsRules as EachAdversary}
use Rattle.algorithm_graph.specs.Nodes as algorithm_nodes
use Rattle.algorithm_graph.specs.Legal.{EachMeetsRules as EachAlgorithm}
use Rattle.checker.specs.declared.fault.Heading.{Heading}
use Rattle.checker.specs.declared.fault.Heading.TheVariants as headings
use Rattle.checker.specs.declared.fault.Wanted.{Wanted}
use Rattle.strategies.specs.AnyNode.{position_of, side_of_node, AreLegalNodes, IsLegal, EachMeetsRules}
use Rattle.checker.specs.Head.{Head, head_of_game, MeetsUnder, EachMeetsUnder}
use Rattle.checker.specs.Listed.{IsLegalListedText, IsLegalOver, listed_line, listed_lines, sizes_line}
use Rattle.checker.specs.FirstFault.{HasBytesPast, LineFault, HasNoFault, IsWanted, LegalTextHasNoFault}
use Rattle.checker.specs.Laws.{LegalIsSpellable, LegalLinesAreLines, LegalTextTellsStrategy, NoLegalTextBeginsAnother}
use Rattle.checker.specs.Progress.{StandFirst, IsHead, AreJudged}
use Rattle.checker.proofs.ShortLines.{length-joined, short_number, long_number, node_short, sizes_line_short}
use Rattle.checker.proofs.LegalNodes.{IsFormed, few_sizes, node_small, node_spellable, sizes_small}
use Rattle.checker.proofs.SizesLemmas.{numbers_from_sizes, sizes_no_lf}
use Rattle.checker.proofs.FaultLemmas.{lines_of_text, no_fault_in_whole}

-- ---- the nodes of either side

abbrev head_told : Format → GameNumbers → List ℕ → Side → ℕ → ℕ → Head
head_told format game sizes side count start = record { format = format; game = game; sizes = sizes; side = side; count = count; start = start }

-- an element of a mapped list
mapped : {X : Type 0} (f : X → AnyNode) (xs : List X) (k : ℕ) (node : AnyNode) → slice_get (map f xs) k ≡ Some node → (x : X) × (slice_get xs k ≡ Some x) × (f x ≡ node)
mapped f [] k node e = let none : None ≡ Some node = e in absurd cc
mapped f (x ∷ xs) zero node e = let same : f x ≡ node = cc in (x, refl, same)
mapped f (x ∷ xs) (suc k) node e = mapped f xs k node e

-- the positions of the first elements of a mapped list
positions : {X : Type 0} (f : X → AnyNode) (g : X → Position) → ((x : X) → g x ≡ position_of (f x)) → (k : ℕ) (xs : List X)
    → map g (take k xs) ≡ map position_of (take k (map f xs))
positions f g same zero xs = refl
positions f g same (suc k) [] = refl
positions f g same (suc k) (x ∷ xs) = ap (λ (p : Position). p ∷ map g (take k xs)) (same x) ∙ ap (λ (ps : List Position). position_of (f x) ∷ ps) (positions f g same k xs)

each_adversary : (format : Format) (game : GameNumbers) (sizes : List ℕ) (start : ℕ) (list : List AdvNode) → EachAdversary format game sizes (length list) list
    → EachMeetsUnder (head_told format game sizes Adversary (length (map of_adversary list)) start) (map of_adversary list)
unfolding EachMeetsRules
each_adversary format game sizes start list each k node e =
    let head : Head = head_told format game sizes Adversary (length (map of_adversary list)) start in
    let m = mapped of_adversary list k node e in
    let front = positions of_adversary adversary_nodes.position_of (λ x. refl) k list in
    subst (λ (x : AnyNode). MeetsUnder head (map position_of (take k (map of_adversary list))) (k + 1 == length (map of_adversary list)) x) m.2
    (subst (λ (ps : List Position). MeetsUnder head ps (k + 1 == length (map of_adversary list)) (of_adversary m.0)) front
    (subst (λ (c : ℕ). MeetsUnder head (map adversary_nodes.position_of (take k list)) (k + 1 == c) (of_adversary m.0)) (sym (length-map list of_adversary)) (each k m.0 m.1)))

each_algorithm : (format : Format) (game : GameNumbers) (sizes : List ℕ) (start : ℕ) (list : List AlgNode) → EachAlgorithm format game sizes (length list) list
    → EachMeetsUnder (head_told format game sizes Algorithm (length (map of_algorithm list)) start) (map of_algorithm list)
unfolding EachMeetsRules
each_algorithm format game sizes start list each k node e =
    let head : Head = head_told format game sizes Algorithm (length (map of_algorithm list)) start in
    let m = mapped of_algorithm list k node e in
    let front = positions of_algorithm algorithm_nodes.position_of (λ x. refl) k list in
    subst (λ (x : AnyNode). MeetsUnder head (map position_of (take k (map of_algorithm list))) (k + 1 == length (map of_algorithm list)) x) m.2
    (subst (λ (ps : List Position). MeetsUnder head ps (k + 1 == length (map of_algorithm list)) (of_algorithm m.0)) front
    (subst (λ (c : ℕ). MeetsUnder head (map algorithm_nodes.position_of (take k list)) (k + 1 == c) (of_algorithm m.0)) (sym (length-map list of_algorithm)) (each k m.0 m.1)))

-- the nodes of a legal strategy of either side
record LegalNodes (head : Head) (list : List AnyNode) : Type 0 where
  of_game : IsGame head.game
  low : 1 ≤ length list
  high : length list ≤ most_nodes
  formed : All (IsFormed head.format) list
  sides : All (λ node. side_of_node node ≡ head.side) list
  each : EachMeetsUnder head list

legal_nodes : (format : Format) (game : GameNumbers) (sizes : List ℕ) (start : ℕ) (list : Nodes) → AreLegalNodes format game sizes list
    → LegalNodes (head_told format game sizes (side_of list) (length (nodes_of list)) start) (nodes_of list)
legal_nodes format game sizes start (nodes.Adversary list) h = record {
  of_game = h.of_game;
  low = omega (arith, h.low, length-map list of_adversary);
  high = omega (arith, h.high, length-map list of_adversary);
  formed = All-map (IsFormed format) of_adversary list h.formed;
  sides = All-map (λ node. side_of_node node ≡ Adversary) of_adversary list (λ k d within. refl);
  each = each_adversary format game sizes start list h.each;
}
legal_nodes format game sizes start (nodes.Algorithm list) h = record {
  of_game = h.of_game;
  low = omega (arith, h.low, length-map list of_algorithm);
  high = omega (arith, h.high, length-map list of_algorithm);
  formed = All-map (IsFormed format) of_algorithm list h.formed;
  sides = All-map (λ node. side_of_node node ≡ Algorithm) of_algorithm list (λ k d within. refl);
  each = each_algorithm format game sizes start list h.each;
}

-- what the head lines of a strategy's text tell
abbrev pub head_of : Strategy → Head
head_of strategy = head_of_game strategy.format strategy.game (side_of strategy.nodes) (length (nodes_of strategy.nodes))

nodes_are_legal : (strategy : Strategy) → IsLegal strategy → LegalNodes (head_of strategy) (nodes_of strategy.nodes)
nodes_are_legal strategy h = legal_nodes strategy.format strategy.game (sizes_of strategy.game) 5 strategy.nodes h

-- what the head lines of the text of a strategy with listed sizes tell
abbrev pub listed_head_of : List ℕ → Strategy → Head
listed_head_of sizes strategy = record {
  format = strategy.format;
  game = strategy.game;
  sizes = sizes;
  side = side_of strategy.nodes;
  count = length (nodes_of strategy.nodes);
  start = 6;
}

listed_nodes_are_legal : (sizes : List ℕ) (strategy : Strategy) → IsLegalOver sizes strategy → LegalNodes (listed_head_of sizes strategy) (nodes_of strategy.nodes)
listed_nodes_are_legal sizes strategy h = legal_nodes strategy.format strategy.game sizes 6 strategy.nodes h.nodes

-- ---- each node of a legal strategy

meets_at : (head : Head) (list : List AnyNode) → EachMeetsUnder head list → (k : ℕ) (node : AnyNode) → slice_get list k ≡ Some node
    → MeetsUnder head (map position_of (take k list)) (k + 1 == head.count) node
unfolding EachMeetsRules
meets_at head list each k node e = each k node e

few_earlier : (list : List AnyNode) (k : ℕ) (node : AnyNode) → length list ≤ most_nodes → slice_get list k ≡ Some node → length (map position_of (take k list)) ≤ most_nodes
few_earlier list k node high e = omega (arith, length-map (take k list) position_of, length-take k list, slice_get_within list k node e)

spellable_at : (head : Head) (list : List AnyNode) → All (IsSize head.game.capacity) head.sizes → LegalNodes head list → (k : ℕ) (node : AnyNode)
    → slice_get list k ≡ Some node → IsFormed head.format node → IsSpellableNode head.format node
spellable_at head list sizes h k node e formed =
    node_spellable head (map position_of (take k list)) (k + 1 == head.count) node h.of_game sizes (few_earlier list k node h.high e) formed (meets_at head list h.each k node e)

each_spellable : (head : Head) (list : List AnyNode) → All (IsSize head.game.capacity) head.sizes → LegalNodes head list → All (IsSpellableNode head.format) list
each_spellable head list sizes h k d within = spellable_at head list sizes h k (get_or list k d) (slice_get-get_or list k d within) (h.formed k d within)

short_at : (head : Head) (list : List AnyNode) → All (IsSize head.game.capacity) head.sizes → LegalNodes head list → (k : ℕ) (node : AnyNode)
    → slice_get list k ≡ Some node → length (node_line k node) ≤ 16384
short_at head list sizes h k node e =
    node_short k node (omega (arith, slice_get_within list k node e, h.high))
    (node_small head (map position_of (take k list)) (k + 1 == head.count) node h.of_game sizes (few_earlier list k node h.high e) (meets_at head list h.each k node e))

legal_is_spellable_by : (head : Head) (nodes : Nodes) → All (IsSize head.game.capacity) head.sizes → LegalNodes head (nodes_of nodes)
    → IsSpellable (record { format = head.format; game = head.game; nodes = nodes })
legal_is_spellable_by head nodes z h = record {
  bins = omega (arith, h.of_game.bins.high);
  capacity = omega (arith, h.of_game.capacity.high);
  target = omega (arith, h.of_game.target.high, h.of_game.capacity.high);
  low = h.low;
  high = h.high;
  each = each_spellable head (nodes_of nodes) z h;
}

-- a legal strategy has a text
pub legal_is_spellable : LegalIsSpellable
legal_is_spellable strategy legal = legal_is_spellable_by (head_of strategy) strategy.nodes (sizes_are_sizes strategy.game) (nodes_are_legal strategy legal)

-- ---- the lines of a legal strategy

abbrev IsShortLine : List ℕ → Type 0
IsShortLine line = length line ≤ 16384

first_short : (format : Format) → IsShortLine (first_line format)
first_short One = omega arith
first_short Two = omega arith

side_short : (side : Side) → IsShortLine (side_line side)
side_short Adversary = omega arith
side_short Algorithm = omega arith

game_short : (game : GameNumbers) → IsGame game → IsShortLine (game_line game)
unfolding game_line
game_short game h =
    let bins = short_number game.bins (omega (arith, h.bins.high)) in
    let capacity = short_number game.capacity (omega (arith, h.capacity.high)) in
    let target = short_number game.target (omega (arith, h.capacity.high, h.target.high)) in
    omega (arith, length-joined (codes "game" ∷ decimal game.bins ∷ decimal game.capacity ∷ decimal game.target ∷ []), bins, capacity, target)

count_short : (count : ℕ) → count ≤ most_nodes → IsShortLine (count_line count)
unfolding count_line
count_short count h = omega (arith, length-joined (codes "nodes" ∷ decimal count ∷ []), long_number count (omega arith))

nodes_short : (number : ℕ) (list : List AnyNode)
    → ((k : ℕ) (node : AnyNode) → slice_get list k ≡ Some node → IsShortLine (node_line (number + k) node)) → All IsShortLine (node_lines number list)
nodes_short number [] h = All-nil IsShortLine
nodes_short number (n ∷ ns) h =
    let here : number + 0 ≡ number = omega arith in
    All-cons IsShortLine (node_line number n) (node_lines (number + 1) ns) (subst (λ (i : ℕ). IsShortLine (node_line i n)) here (h 0 n refl))
    (nodes_short (number + 1) ns (λ k node e.
    (let next : number + suc k ≡ (number + 1) + k = omega arith in subst (λ (i : ℕ). IsShortLine (node_line i node)) next (h (suc k) node e))))

sizes_short : (game : GameNumbers) (sizes : List ℕ) → IsGame game → AreSizes game.capacity sizes → IsShortLine (sizes_line sizes)
sizes_short game sizes g h =
    sizes_line_short sizes (recursion_from_All (λ x. x < 1000) sizes (sizes_small game sizes g h.sizes))
    (omega (arith, few_sizes sizes game.capacity h.ascending h.sizes, g.capacity.high))

-- the lines after those of the game and the sizes
rest_short : (head : Head) (list : List AnyNode) → All (IsSize head.game.capacity) head.sizes → LegalNodes head list → length list ≡ head.count
    → All IsShortLine (side_line head.side ∷ count_line head.count ∷ node_lines 0 list ++ end_line ∷ [])
rest_short head list z h number =
    let short = nodes_short 0 list (λ k node e. (let at : k ≡ 0 + k = omega arith in subst (λ (i : ℕ). IsShortLine (node_line i node)) at (short_at head list z h k node e))) in
    let end : length end_line ≤ 16384 = omega arith in
    let tail = All-append IsShortLine (node_lines 0 list) (end_line ∷ []) short (All-cons IsShortLine end_line [] end (All-nil IsShortLine)) in
    All-cons IsShortLine (side_line head.side) (count_line head.count ∷ node_lines 0 list ++ end_line ∷ []) (side_short head.side)
    (All-cons IsShortLine (count_line head.count) (node_lines 0 list ++ end_line ∷ []) (count_short head.count (omega (arith, h.high, number))) tail)

lines_short : (strategy : Strategy) → IsLegal strategy → All IsShortLine (strategy_lines strategy)
lines_short strategy legal =
    let h = nodes_are_legal strategy legal in
    let head = head_of strategy in
    let list = nodes_of strategy.nodes in
    All-cons IsShortLine (first_line head.format) (game_line head.game ∷ side_line head.side ∷ count_line head.count ∷ node_lines 0 list ++ end_line ∷ []) (first_short head.format)
    (All-cons IsShortLine (game_line head.game) (side_line head.side ∷ count_line head.count ∷ node_lines 0 list ++ end_line ∷ []) (game_short head.game h.of_game)
    (rest_short head list (sizes_are_sizes strategy.game) h refl))

listed_lines_short : (sizes : List ℕ) (strategy : Strategy) → IsLegalOver sizes strategy → All IsShortLine (listed_lines sizes strategy)
listed_lines_short sizes strategy legal =
    let h = listed_nodes_are_legal sizes strategy legal in
    let head = listed_head_of sizes strategy in
    let list = nodes_of strategy.nodes in
    let rest : List (List ℕ) = side_line head.side ∷ count_line head.count ∷ node_lines 0 list ++ end_line ∷ [] in
    let first : length listed_line ≤ 16384 = omega arith in
    All-cons IsShortLine listed_line (game_line head.game ∷ sizes_line sizes ∷ rest) first
    (All-cons IsShortLine (game_line head.game) (sizes_line sizes ∷ rest) (game_short head.game h.of_game)
    (All-cons IsShortLine (sizes_line sizes) rest (sizes_short head.game sizes h.of_game legal.are_sizes)
    (rest_short head list legal.are_sizes.sizes h refl)))

-- the lines of a legal strategy are lines
pub legal_lines_are_lines : LegalLinesAreLines
legal_lines_are_lines strategy legal k d within = record {
  no_lf = lines_are_lines strategy (legal_is_spellable strategy legal) k d within;
  short = lines_short strategy legal k d within;
}

-- two legal strategies never have the same text, and no text of a legal one begins another
pub legal_text_tells : LegalTextTellsStrategy
legal_text_tells one other a b e = text_tells one other (legal_is_spellable one a) (legal_is_spellable other b) e

pub no_legal_prefix : NoLegalTextBeginsAnother
no_legal_prefix one other more a b e = no_prefix one other more (legal_is_spellable one a) (legal_is_spellable other b) e

-- a legal strategy with listed sizes is spellable
pub listed_is_spellable : (sizes : List ℕ) (strategy : Strategy) → IsLegalOver sizes strategy → IsSpellable strategy
listed_is_spellable sizes strategy legal =
    legal_is_spellable_by (listed_head_of sizes strategy) strategy.nodes legal.are_sizes.sizes (listed_nodes_are_legal sizes strategy legal)

-- no line of a legal strategy with listed sizes has a line feed
listed_no_lf : (sizes : List ℕ) (strategy : Strategy) → IsLegalOver sizes strategy → All HasNoLf (listed_lines sizes strategy)
listed_no_lf sizes strategy legal =
    let h = listed_nodes_are_legal sizes strategy legal in
    let game = strategy.game in
    let rest : List (List ℕ) = side_line (side_of strategy.nodes) ∷ count_line (length (nodes_of strategy.nodes)) ∷ node_lines 0 (nodes_of strategy.nodes) ++ end_line ∷ [] in
    let others : All HasNoLf (game_line game ∷ rest) = All-tail HasNoLf (first_line strategy.format) (game_line game ∷ rest) (lines_are_lines strategy
    (listed_is_spellable sizes strategy legal)) in
    All-cons HasNoLf listed_line (game_line game ∷ sizes_line sizes ∷ rest) (line_parts listed_line refl)
    (All-cons HasNoLf (game_line game) (sizes_line sizes ∷ rest) (All-head HasNoLf (game_line game) rest others)
    (All-cons HasNoLf (sizes_line sizes) rest (sizes_no_lf sizes (numbers_from_sizes game sizes h.of_game legal.are_sizes)) (All-tail HasNoLf (game_line game) rest others)))

pub listed_lines_are_lines : (sizes : List ℕ) (strategy : Strategy) → IsLegalOver sizes strategy → All IsLine (listed_lines sizes strategy)
listed_lines_are_lines sizes strategy legal k d within = record {
  no_lf = listed_no_lf sizes strategy legal k d within;
  short = listed_lines_short sizes strategy legal k d within;
}

-- ---- no fault

-- an element of a list, each of which has a property
formed_at : (P : AnyNode → Type 0) (list : List AnyNode) (k : ℕ) (node : AnyNode) → All P list → slice_get list k ≡ Some node → P node
formed_at P list k node h e = subst P (get_or_from_slice_get list k node node e) (h k node (slice_get_within list k node e))

judged_from : (head : Head) (list : List AnyNode) → All (IsSize head.game.capacity) head.sizes → LegalNodes head list → AreJudged head list
judged_from head list z h = record {
  spelled = λ k node e. (record {
    spells = record {
      spellable = spellable_at head list z h k node e (formed_at (IsFormed head.format) list k node h.formed e);
      short = short_at head list z h k node e;
      spelled = refl;
    };
    side = formed_at (λ (n : AnyNode). side_of_node n ≡ head.side) list k node h.sides e;
  });
  each = h.each;
}

pub legal_judged : (strategy : Strategy) → IsLegal strategy → AreJudged (head_of strategy) (nodes_of strategy.nodes)
legal_judged strategy legal = judged_from (head_of strategy) (nodes_of strategy.nodes) (sizes_are_sizes strategy.game) (nodes_are_legal strategy legal)

pub legal_is_head : (wanted : Wanted) (strategy : Strategy) → IsLegal strategy → IsWanted wanted (side_of strategy.nodes) → IsHead (headings.Strategy wanted) (head_of strategy)
legal_is_head wanted strategy legal of_side =
    let h = nodes_are_legal strategy legal in
    record {
      front = record { of_format = tt; of_game = h.of_game; of_sizes = refl };
      wanted_side = of_side;
      low = h.low;
      high = h.high;
      start = refl;
    }

-- a whole text of nodes that meet every rule has no fault
judged_has_no_fault : (heading : Heading) (head : Head) (list : List AnyNode) → IsHead heading head → AreJudged head list → length list ≡ head.count
    → All IsLine (lines_of_text heading head list) → HasNoFault heading (text_of_lines (lines_of_text heading head list))
judged_has_no_fault heading head list is judged all lines_are line fault f =
    let bytes : List ℕ = text_of_lines (lines_of_text heading head list) in
    no_fault_in_whole heading head list bytes is judged all (record { whole = lines_are; split = sym (append-nil bytes) }) line fault f

pub legal_has_no_fault : (wanted : Wanted) (strategy : Strategy) → IsLegal strategy → IsWanted wanted (side_of strategy.nodes)
    → HasNoFault (headings.Strategy wanted) (text_of strategy)
legal_has_no_fault wanted strategy legal of_side =
    judged_has_no_fault (headings.Strategy wanted) (head_of strategy) (nodes_of strategy.nodes) (legal_is_head wanted strategy legal of_side)
    (legal_judged strategy legal) refl (legal_lines_are_lines strategy legal)

pub legal_text_has_no_fault : LegalTextHasNoFault
legal_text_has_no_fault wanted bytes is line fault f =
    legal_has_no_fault wanted is.strategy is.legal is.wanted_side line fault (subst (λ (text : List ℕ). LineFault (headings.Strategy wanted) text line fault) is.spelled f)

-- ---- the same with listed sizes

pub listed_judged : (sizes : List ℕ) (strategy : Strategy) → IsLegalOver sizes strategy → AreJudged (listed_head_of sizes strategy) (nodes_of strategy.nodes)
listed_judged sizes strategy legal =
    judged_from (listed_head_of sizes strategy) (nodes_of strategy.nodes) legal.are_sizes.sizes (listed_nodes_are_legal sizes strategy legal)

pub listed_is_head : (sizes : List ℕ) (strategy : Strategy) → IsLegalOver sizes strategy → IsHead headings.Listed (listed_head_of sizes strategy)
listed_is_head sizes strategy legal =
    let h = listed_nodes_are_legal sizes strategy legal in
    record {
      front = record { of_format = legal.of_format; of_game = h.of_game; of_sizes = legal.are_sizes };
      wanted_side = tt;
      low = h.low;
      high = h.high;
      start = refl;
    }

pub listed_text_has_no_fault : (bytes : List ℕ) → IsLegalListedText bytes → HasNoFault headings.Listed bytes
listed_text_has_no_fault bytes is line fault f =
    judged_has_no_fault headings.Listed (listed_head_of is.sizes is.strategy) (nodes_of is.strategy.nodes) (listed_is_head is.sizes is.strategy is.legal)
    (listed_judged is.sizes is.strategy is.legal) refl (listed_lines_are_lines is.sizes is.strategy is.legal) line fault
    (subst (λ (text : List ℕ). LineFault headings.Listed text line fault) is.spelled f)
