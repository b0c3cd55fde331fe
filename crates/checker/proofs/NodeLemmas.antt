-- Nodes in their lines, and the rules that they meet or break.
use Rattle.std.proofs.Common.{◌≡◌, ◌==◌, inl, inr, Bool, ℕ, suc, zero, ◌+◌, ◌<◌, ◌≤◌, List, [], ◌∷◌, ◌++◌, length, take, map}
use Rattle.std.proofs.Common.{get_or, All, Contains, Option, Some, None, ⊎_elim, sym, ap, ◌∙◌, subst, refl, arith, length-take}
use Rattle.std.specs.Prelude.{Result, Ok, Err, OnOk}
use Rattle.std.specs.List.{slice_get, range_with_len}
use Rattle.std.proofs.lemmas.List.Elements.{All-weaker, All-contains_itself}
use Rattle.std.proofs.Math.Seq.{take-length}
use Rattle.std.proofs.lemmas.List.{length-map, length_push, map_push, append-nil, take-append-le, take_at, get_or_append_left, get_or_at}
use Rattle.std.proofs.lemmas.Option.{slice_get_within, slice_get-get_or, get_or_from_slice_get, none-some}
use Rattle.std.proofs.lemmas.Bool.{cases_lt}
use Rattle.port_io.specs.Lines.{ReaderState}
use Rattle.items.specs.Game.{GameNumbers, IsGame}
use Rattle.items.specs.Multiset.{IsMultiset, IsSize, sizes_of}
use Rattle.loads.proofs.LoadsLemmas.{multiset_from_items}
use Rattle.items.proofs.SizesLemmas.{size_from_Contains}
use Rattle.loads.specs.declared.position.Position.{Position}
use Rattle.strategy_text.specs.Rules.{AllMet, IsFirstBroken}
use Rattle.strategy_text.specs.Spelling.{most_child}
use Rattle.strategy_text.specs.Text.{AnyNode, of_adversary, of_algorithm, items_of, node_line, node_lines, nodes_of, side_of}
use Rattle.strategy_text.specs.declared.node.Nodes.{Nodes}
use Rattle.strategy_text.specs.declared.node.Side.{Side}
use Rattle.strategy_text.specs.declared.rule.Rule.{Rule}
use Rattle.strategy_text.proofs.NodesSame.{line_tells}
use Rattle.adversary_graph.specs.NodeRules as adversary_rules
use Rattle.adversary_graph.specs.Rules as adversary
use Rattle.algorithm_graph.specs.Rules as algorithm
use Rattle.checker.specs.FirstFault.{HasForm, HasPositions}
use Rattle.strategies.specs.AnyNode.{position_of, EachMeetsRules}
use Rattle.checker.specs.Head.{Head, SpellsUnder, MeetsUnder, BreaksUnder, EachMeetsUnder, IsNodeLine, IsNodeLineAt}
use Rattle.checker.specs.Progress.{AreKept, BreaksNode, AreJudged, TakesNode, ReadsLines, RefusesNext, RefusesAfter, RefusesNode, IsWrongNext}
use Rattle.checker.specs.declared.fault.CheckFault.{CheckFault}
use Rattle.checker.specs.declared.fault.CheckFault.TheVariants.{Memory}
use Rattle.checker.proofs.ProgressLemmas.{ReadsLines-then, RefusesAfter-then, refuses_memory}
use Rattle.checker.proofs.LineLemmas.{HasForm-both}

-- ---- rules

exclusive : {R : Type 0} (IsMet : R → Type 0) (judged : List R) (rule : R) → AllMet IsMet judged → IsFirstBroken IsMet judged rule → ⊥
exclusive IsMet [] rule all broken = broken
exclusive IsMet (r ∷ rs) rule all (inl h) = h.1 all.0
exclusive IsMet (r ∷ rs) rule all (inr h) = exclusive IsMet rs rule all.1 h.1

first_broken_same : {R : Type 0} (IsMet : R → Type 0) (judged : List R) (r s : R) → IsFirstBroken IsMet judged r → IsFirstBroken IsMet judged s → r ≡ s
first_broken_same IsMet [] r s h k = absurd h
first_broken_same IsMet (x ∷ xs) r s (inl h) (inl k) = h.0 ∙ sym k.0
first_broken_same IsMet (x ∷ xs) r s (inl h) (inr k) = absurd (h.1 k.0)
first_broken_same IsMet (x ∷ xs) r s (inr h) (inl k) = absurd (k.1 h.0)
first_broken_same IsMet (x ∷ xs) r s (inr h) (inr k) = first_broken_same IsMet xs r s h.1 k.1

-- a node that meets every rule breaks none
pub meets_excludes : (head : Head) (earlier : List Position) (last : Bool) (node : AnyNode) (rule : Rule) → MeetsUnder head earlier last node
    → BreaksUnder head earlier last node rule → ⊥
meets_excludes head earlier last (of_adversary node) rule m b = exclusive (adversary.Meets head.format head.game head.sizes earlier last node) adversary.node_rules b.0 m b.2
meets_excludes head earlier last (of_algorithm node) rule m b = exclusive (algorithm.Meets head.game head.sizes earlier last node) algorithm.node_rules b.0 m b.2

-- a node breaks one rule first
pub broken_same : (head : Head) (earlier : List Position) (last : Bool) (node : AnyNode) (r s : Rule) → BreaksUnder head earlier last node r
    → BreaksUnder head earlier last node s → r ≡ s
broken_same head earlier last (of_adversary node) r s a b =
    a.1 ∙ ap adversary_rules.rule_of (first_broken_same (adversary.Meets head.format head.game head.sizes earlier last node) adversary.node_rules a.0 b.0 a.2 b.2) ∙ sym b.1
broken_same head earlier last (of_algorithm node) r s a b =
    a.1 ∙ ap algorithm.rule_of (first_broken_same (algorithm.Meets head.game head.sizes earlier last node) algorithm.node_rules a.0 b.0 a.2 b.2) ∙ sym b.1

-- the items of a node that meets its rules are a multiset
multiset_of_game : (game : GameNumbers) (items : List ℕ) → IsGame game → IsMultiset game.capacity items → IsMultiset 120 items
multiset_of_game game items g m = record {
  ascending = m.ascending;
  sizes = All-weaker (IsSize game.capacity) (IsSize 120) (λ x h. record { low = h.low; high = omega (arith, h.high, g.capacity.high) }) items m.sizes;
  total = m.total;
}

pub items_are_a_multiset : (head : Head) (earlier : List Position) (last : Bool) (node : AnyNode) → IsGame head.game → All (IsSize head.game.capacity) head.sizes
    → MeetsUnder head earlier last node → IsMultiset 120 (items_of node)
items_are_a_multiset head earlier last (of_adversary node) g s m =
    multiset_of_game head.game node.items g (multiset_from_items head.game head.sizes node.loads node.items g s m.0 m.1.0)
items_are_a_multiset head earlier last (of_algorithm node) g s m =
    multiset_of_game head.game node.items g (multiset_from_items head.game head.sizes node.loads node.items g s m.0 m.1.0)

-- ---- nodes that are kept

-- one more was put after them
pub AreKept-push : {E : Type 0} (result : Result (Unit {0}) E) (old new : Nodes) (side : Side) (node : AnyNode) → OnOk result (nodes_of new ≡ nodes_of old ++ node ∷ [])
    → side_of new ≡ side_of old → OnOk result ((nodes : List AnyNode) → AreKept old side nodes → AreKept new side (nodes ++ node ∷ []))
AreKept-push (Ok done) old new side node put same = λ nodes kept. (put ∙ ap (λ (ns : List AnyNode). ns ++ node ∷ []) kept.0, same ∙ kept.1)
AreKept-push (Err fault) old new side node put same = tt

-- ---- nodes in their lines

-- nodes stand in the lines from the first node's line on
abbrev pub HasNodes : List ℕ → Head → List AnyNode → Type 0
HasNodes bytes head nodes =
    (k : ℕ) (node : AnyNode) → slice_get nodes k ≡ Some node → HasForm bytes (head.start + k) (λ line. SpellsUnder head k line node)

pub node_same : (bytes : List ℕ) (head : Head) (n k : ℕ) (a b : AnyNode) → k ≤ most_child → HasForm bytes n (λ line. SpellsUnder head k line a)
    → HasForm bytes n (λ line. SpellsUnder head k line b) → a ≡ b
node_same bytes head n k a b le x y =
    let both = HasForm-both bytes n (λ line. SpellsUnder head k line a) (λ line. SpellsUnder head k line b) x y in
    line_tells head.format k both.0 a b le both.1.spells both.2.spells

-- a node and a position that one line tells
position_same : (bytes : List ℕ) (head : Head) (n k : ℕ) (node : AnyNode) (position : Position) → k ≤ most_child → HasForm bytes n (λ line. SpellsUnder head k line node)
    → HasForm bytes n (IsNodeLineAt head k position) → position_of node ≡ position
position_same bytes head n k node position le x y =
    let both = HasForm-both bytes n (λ line. SpellsUnder head k line node) (IsNodeLineAt head k position) x y in
    let same : node ≡ both.2.0 = line_tells head.format k both.0 node both.2.0 le both.1.spells both.2.1.spells in
    ap position_of same ∙ both.2.2

pub lists_same : {X : Type 0} (a b : List X) → length a ≡ length b → ((k : ℕ) (x y : X) → slice_get a k ≡ Some x → slice_get b k ≡ Some y → x ≡ y) → a ≡ b
lists_same [] [] e h = refl
lists_same [] (y ∷ b) e h = absurd (omega arith)
lists_same (x ∷ a) [] e h = absurd (omega arith)
lists_same (x ∷ a) (y ∷ b) e h =
    let same : x ≡ y = h zero x y refl refl in
    let rest : a ≡ b = lists_same a b (omega arith) (λ k p q f g. h (suc k) p q f g) in
    ap (λ z. z ∷ a) same ∙ ap (λ zs. y ∷ zs) rest

-- an element of the first mapped nodes
mapped_get : (nodes : List AnyNode) (n k : ℕ) (position : Position) → slice_get (map position_of (take n nodes)) k ≡ Some position
    → (node : AnyNode) × (slice_get nodes k ≡ Some node) × (position_of node ≡ position)
mapped_get [] zero k position e = let none : None ≡ Some position = e in absurd cc
mapped_get [] (suc n) k position e = let none : None ≡ Some position = e in absurd cc
mapped_get (node ∷ nodes) zero k position e = let none : None ≡ Some position = e in absurd cc
mapped_get (node ∷ nodes) (suc n) zero position e = let same : position_of node ≡ position = cc in (node, refl, same)
mapped_get (node ∷ nodes) (suc n) (suc k) position e = mapped_get nodes n k position e

-- positions of the first nodes, told in two ways
pub positions_front : (bytes : List ℕ) (head : Head) (nodes : List AnyNode) (earlier : List Position) → length earlier ≤ length nodes → length earlier ≤ most_child
    → HasNodes bytes head nodes → HasPositions bytes head earlier → map position_of (take (length earlier) nodes) ≡ earlier
positions_front bytes head nodes earlier le small stand told =
    lists_same (map position_of (take (length earlier) nodes)) earlier (omega (arith, length-map (take (length earlier) nodes) position_of, length-take (length earlier) nodes))
    (λ k x y e f.
    let g = mapped_get nodes (length earlier) k x e in
    let low : k < length earlier = slice_get_within earlier k y f in
    sym g.2 ∙ position_same bytes head (head.start + k) k g.0 y (omega arith) (stand k g.0 g.1) (told k y f))

-- the positions of nodes that stand in their lines
pub HasPositions-from : (bytes : List ℕ) (head : Head) (nodes : List AnyNode) → HasNodes bytes head nodes → HasPositions bytes head (map position_of nodes)
HasPositions-from bytes head nodes stand k position e =
    let g = mapped_get nodes (length nodes) k position (subst (λ (ns : List AnyNode). slice_get (map position_of ns) k ≡ Some position) (sym (take-length nodes)) e) in
    let form = stand k g.0 g.1 in
    (form.0, form.1, (g.0, form.2, g.2))

-- ---- the lines of nodes

pub length-node_lines : (number : ℕ) (nodes : List AnyNode) → length (node_lines number nodes) ≡ length nodes
length-node_lines number [] = refl
length-node_lines number (node ∷ nodes) = ap suc (length-node_lines (number + 1) nodes)

pub node_lines_get : (number : ℕ) (nodes : List AnyNode) (k : ℕ) (node : AnyNode) → slice_get nodes k ≡ Some node
    → slice_get (node_lines number nodes) k ≡ Some (node_line (number + k) node)
node_lines_get number [] k node e = let none : None ≡ Some node = e in absurd cc
node_lines_get number (first ∷ nodes) zero node e =
    let same : first ≡ node = cc in
    let at : number ≡ number + 0 = omega arith in
    ap (λ (n : AnyNode). Some (node_line number n)) same ∙ ap (λ (i : ℕ). Some (node_line i node)) at
node_lines_get number (first ∷ nodes) (suc k) node e =
    let at : (number + 1) + k ≡ number + suc k = omega arith in
    node_lines_get (number + 1) nodes k node e ∙ ap (λ (i : ℕ). Some (node_line i node)) at

pub node_lines_push : (number : ℕ) (nodes : List AnyNode) (node : AnyNode)
    → node_lines number (nodes ++ node ∷ []) ≡ node_lines number nodes ++ node_line (number + length nodes) node ∷ []
node_lines_push number [] node = ap (λ n. node_line n node ∷ []) (omega arith)
node_lines_push number (first ∷ nodes) node =
    ap (λ lines. node_line number first ∷ lines) (node_lines_push (number + 1) nodes node ∙ ap (λ n. node_lines (number + 1) nodes ++ node_line n node ∷ []) (omega arith))

-- ---- one more node

each_push : (head : Head) (nodes : List AnyNode) (node : AnyNode) → EachMeetsUnder head nodes → MeetsUnder head (map position_of nodes) (length nodes + 1 == head.count) node
    → EachMeetsUnder head (nodes ++ node ∷ [])
unfolding EachMeetsRules
each_push head nodes node each meets k other e =
    let within : k < length (nodes ++ node ∷ []) = slice_get_within (nodes ++ node ∷ []) k other e in
    let here : get_or (nodes ++ node ∷ []) k other ≡ other = get_or_from_slice_get (nodes ++ node ∷ []) k other other e in
    ⊎_elim
    (λ (below : k < length nodes). rw (take-append-le k nodes (node ∷ []) (omega arith))
    (each k other (slice_get-get_or nodes k other below ∙ ap Some (sym (get_or_append_left nodes (node ∷ []) other k below) ∙ here))))
    (λ (past : length nodes ≤ k).
    let at : length nodes ≡ k = omega (arith, within, past, length_push nodes node) in
    let is : node ≡ other = sym (get_or_at nodes node [] other k at) ∙ here in
    subst (λ (n : AnyNode). MeetsUnder head (map position_of (take k (nodes ++ node ∷ []))) (k + 1 == head.count) n) is
    (subst (λ (i : ℕ). MeetsUnder head (map position_of (take i (nodes ++ node ∷ []))) (i + 1 == head.count) node) at
    (subst (λ (front : List AnyNode). MeetsUnder head (map position_of front) (length nodes + 1 == head.count) node) (sym (take_at nodes (node ∷ []) (length nodes) refl)) meets)))
    (cases_lt k (length nodes))

spelled_push : (head : Head) (nodes : List AnyNode) (node : AnyNode) → ((k : ℕ) (n : AnyNode) → slice_get nodes k ≡ Some n → SpellsUnder head k (node_line k n) n)
    → SpellsUnder head (length nodes) (node_line (length nodes) node) node → (k : ℕ) (n : AnyNode) → slice_get (nodes ++ node ∷ []) k ≡ Some n
    → SpellsUnder head k (node_line k n) n
spelled_push head nodes node each last k other e =
    let within : k < length (nodes ++ node ∷ []) = slice_get_within (nodes ++ node ∷ []) k other e in
    let here : get_or (nodes ++ node ∷ []) k other ≡ other = get_or_from_slice_get (nodes ++ node ∷ []) k other other e in
    ⊎_elim
    (λ (below : k < length nodes). each k other (slice_get-get_or nodes k other below ∙ ap Some (sym (get_or_append_left nodes (node ∷ []) other k below) ∙ here)))
    (λ (past : length nodes ≤ k).
    let at : length nodes ≡ k = omega (arith, within, past, length_push nodes node) in
    let is : node ≡ other = sym (get_or_at nodes node [] other k at) ∙ here in
    subst (λ (n : AnyNode). SpellsUnder head k (node_line k n) n) is (subst (λ (i : ℕ). SpellsUnder head i (node_line i node) node) at last))
    (cases_lt k (length nodes))

pub AreJudged-none : (head : Head) → AreJudged head []
unfolding EachMeetsRules
AreJudged-none head = record { spelled = λ k node e. absurd (none-some node e); each = λ k node e. absurd (none-some node e) }

pub AreJudged-push : (head : Head) (nodes : List AnyNode) (node : AnyNode) (earlier kept : List Position) (text : List ℕ) → earlier ≡ map position_of nodes → AreJudged head nodes
    → TakesNode head earlier kept node text → AreJudged head (nodes ++ node ∷ [])
AreJudged-push head nodes node earlier kept text e judged takes =
    let count : length earlier ≡ length nodes = ap length e ∙ length-map nodes position_of in
    let under : SpellsUnder head (length earlier) (node_line (length earlier) node) node = subst
    (λ (t : List ℕ). SpellsUnder head (length earlier) t node) takes.under.spells.spelled takes.under in
    record {
      spelled = spelled_push head nodes node judged.spelled (subst (λ (i : ℕ). SpellsUnder head i (node_line i node) node) count under);
      each = each_push head nodes node judged.each (subst (λ (i : ℕ). MeetsUnder head (map position_of nodes) (i + 1 == head.count) node) count (subst
          (λ (ps : List Position). MeetsUnder head ps (length earlier + 1 == head.count) node) e takes.meets));
    }

pub positions_push : (nodes : List AnyNode) (node : AnyNode) (earlier kept : List Position) → earlier ≡ map position_of nodes → kept ≡ earlier ++ position_of node ∷ []
    → kept ≡ map position_of (nodes ++ node ∷ [])
positions_push nodes node earlier kept e put = put ∙ ap (λ ps. ps ++ position_of node ∷ []) e ∙ sym (map_push position_of nodes node)

-- the lines of nodes were read, and then that of one more
pub lines_push : (nodes : List AnyNode) (node : AnyNode) (number : ℕ) (text : List ℕ) (old mid new : ReaderState) (left mid_left new_left : Option (List ℕ))
    → number ≡ length nodes → text ≡ node_line number node → ReadsLines (node_lines 0 nodes) old mid left mid_left → ReadsLines (text ∷ []) mid new mid_left new_left
    → ReadsLines (node_lines 0 (nodes ++ node ∷ [])) old new left new_left
lines_push nodes node number text old mid new left mid_left new_left count spelled a b =
    let same : node_line number node ≡ node_line (0 + length nodes) node = ap (λ (i : ℕ). node_line i node) (omega (arith, count)) in
    subst (λ (lines : List (List ℕ)). ReadsLines lines old new left new_left)
    (ap (λ (line : List ℕ). node_lines 0 nodes ++ line ∷ []) (spelled ∙ same) ∙ sym (node_lines_push 0 nodes node))
    (ReadsLines-then (node_lines 0 nodes) (text ∷ []) old mid new left mid_left new_left a b)

-- the node after these was refused
pub RefusesNode-from : (head : Head) (nodes : List AnyNode) (earlier : List Position) (fault : CheckFault) (old mid : ReaderState) (left mid_left new_left : Option (List ℕ))
    → earlier ≡ map position_of nodes → length nodes < head.count → AreJudged head nodes → ReadsLines (node_lines 0 nodes) old mid left mid_left
    → RefusesNext (head.start + length earlier) (IsNodeLine head (length earlier)) (BreaksNode head earlier) fault mid mid_left new_left
    → RefusesNode head fault old left new_left
RefusesNode-from head nodes earlier fault old mid left mid_left new_left e few judged reads refused =
    let count : length earlier ≡ length nodes = ap length e ∙ length-map nodes position_of in
    record {
      nodes = nodes;
      few = few;
      judged = judged;
      refused = subst (λ (lines : List (List ℕ)). RefusesAfter lines (IsWrongNext (head.start + length nodes) (IsNodeLine head (length nodes))
          (BreaksNode head (map position_of nodes))) fault old left new_left) (append-nil (node_lines 0 nodes))
          (RefusesAfter-then (node_lines 0 nodes) [] (IsWrongNext (head.start + length nodes) (IsNodeLine head (length nodes))
          (BreaksNode head (map position_of nodes))) fault old mid left mid_left new_left reads
          (subst (λ (i : ℕ). RefusesNext (head.start + i) (IsNodeLine head i) (BreaksNode head (map position_of nodes)) fault mid mid_left new_left) count
          (subst (λ (ps : List Position). RefusesNext (head.start + length earlier) (IsNodeLine head (length earlier)) (BreaksNode head ps) fault mid mid_left new_left) e
          refused)));
    }

-- a node was read, and memory was refused
pub RefusesNode-memory : (head : Head) (nodes : List AnyNode) (earlier : List Position) (text : List ℕ) (old mid new : ReaderState) (left mid_left new_left : Option (List ℕ))
    → earlier ≡ map position_of nodes → length nodes < head.count → AreJudged head nodes → ReadsLines (node_lines 0 nodes) old mid left mid_left
    → ReadsLines (text ∷ []) mid new mid_left new_left → RefusesNode head Memory old left new_left
RefusesNode-memory head nodes earlier text old mid new left mid_left new_left e few judged reads more =
    RefusesNode-from head nodes earlier Memory old mid left mid_left new_left e few judged reads
    (refuses_memory (IsWrongNext (head.start + length earlier) (IsNodeLine head (length earlier)) (BreaksNode head earlier)) (text ∷ []) mid new mid_left new_left more
    (λ bytes. tt))
