-- The line of a node tells the node, whichever its side.
use Rattle.std.proofs.Common.{◌≡◌, ℕ, ◌≤◌, true, List, [], ◌∷◌, ◌++◌, decimal, codes, Some, refl, sym, ap, ◌∙◌}
use Rattle.std.proofs.lemmas.List.{append-nil}
use Rattle.strategy_text.specs.declared.node.Act.{Act}
use Rattle.strategy_text.specs.declared.node.Act.TheVariants.{Finish, Big, Reply}
use Rattle.strategy_text.specs.declared.node.AdvNode.{AdvNode}
use Rattle.strategy_text.specs.declared.node.AlgNode.{AlgNode}
use Rattle.strategy_text.specs.declared.node.Format.{Format}
use Rattle.strategy_text.specs.declared.node.Step.{Step}
use Rattle.strategy_text.specs.declared.node.Step.TheVariants.{Send, Burst}
use Rattle.strategy_text.specs.Text.{AnyNode, of_adversary, of_algorithm, position_words, step_words, act_words, adversary_line, algorithm_line, node_line}
use Rattle.strategy_text.specs.Spelling.{most_child, IsSpellableAdversary, IsSpellableAlgorithm, IsSpellableNode}
use Rattle.strategy_text.specs.Laws.{LineTellsNode, NoNodeIsTheEnd, NodesAreLines}
use Rattle.strategy_text.specs.Words.{words_left}
use Rattle.strategy_text.specs.Reading.{position_at}
use Rattle.strategy_text.proofs.Lines.{is_line, words_line, line_parts}
use Rattle.strategy_text.proofs.Steps.{some_is, apart}
use Rattle.strategy_text.proofs.Again.{position_again}
use Rattle.strategy_text.proofs.StepsAgain.{step_ends}
use Rattle.strategy_text.proofs.ActsAgain.{act_ends}
use Rattle.strategy_text.proofs.NodeWords.{adversarys_words, algorithms_words}
use Rattle.strategy_text.proofs.NodeLines.{adversary_line_words, algorithm_line_words, adversary_line_again, algorithm_line_again}

-- the first of some words
abbrev first : List (List ℕ) → List ℕ
first [] = []
first (w ∷ ws) = w

-- what the adversary sends has not the words of what the algorithm does
words_differ : (step : Step) (act : Act) → step_words step ++ [] ≡ act_words act ++ [] → ⊥
words_differ (Send size pack placements) Finish e = apart (codes "send") (codes "finish") refl (ap first e)
words_differ (Send size pack placements) (Big bins) e = apart (codes "send") (codes "big") refl (ap first e)
words_differ (Send size pack placements) (Reply entries) e = apart (codes "send") (codes "reply") refl (ap first e)
words_differ (Burst count size pack) Finish e = apart (codes "burst") (codes "finish") refl (ap first e)
words_differ (Burst count size pack) (Big bins) e = apart (codes "burst") (codes "big") refl (ap first e)
words_differ (Burst count size pack) (Reply entries) e = apart (codes "burst") (codes "reply") refl (ap first e)

ended : (so_far rest : List (List ℕ)) → so_far ++ rest ≡ so_far ++ (rest ++ [])
ended so_far rest = ap (λ (t : List (List ℕ)). so_far ++ t) (sym (append-nil rest))

sides_differ : (format : Format) (number : ℕ) (a : AdvNode) (b : AlgNode) → number ≤ most_child → IsSpellableAdversary format a → IsSpellableAlgorithm format b
    → adversary_line number a ≡ algorithm_line number b → ⊥
sides_differ format number a b le g h e =
    let line = adversary_line number a in
    let wa = adversary_line_words format number line a le g refl in
    let wb = algorithm_line_words format number line b le h e in
    let pa = position_again number le (a.loads, a.items) (step_words a.step ++ []) (g.loads, g.items) (step_ends a.step) in
    let pb = position_again number le (b.loads, b.items) (act_words b.act ++ []) (h.loads, h.items) (act_ends b.act) in
    let ra = ap (position_at number) (wa ∙ ended (decimal number ∷ position_words a.loads a.items) (step_words a.step)) ∙ pa in
    let rb = ap (position_at number) (wb ∙ ended (decimal number ∷ position_words b.loads b.items) (act_words b.act)) ∙ pb in
    let same = some_is ((a.loads, a.items), step_words a.step ++ []) ((b.loads, b.items), act_words b.act ++ []) (sym ra ∙ rb) in
    words_differ a.step b.act (ap (λ (r : (List ℕ × List ℕ) × List (List ℕ)). r.1) same)

pub line_same : (format : Format) (number : ℕ) (one other : AnyNode) → number ≤ most_child → IsSpellableNode format one → IsSpellableNode format other
    → node_line number one ≡ node_line number other → one ≡ other
line_same format number (of_adversary a) (of_adversary b) le g h e =
    let ra = adversary_line_again format number (adversary_line number a) a le g refl in
    let rb = adversary_line_again format number (adversary_line number a) b le h e in
    let same : a ≡ b = cc in
    ap of_adversary same
line_same format number (of_algorithm a) (of_algorithm b) le g h e =
    let ra = algorithm_line_again format number (algorithm_line number a) a le g refl in
    let rb = algorithm_line_again format number (algorithm_line number a) b le h e in
    let same : a ≡ b = cc in
    ap of_algorithm same
line_same format number (of_adversary a) (of_algorithm b) le g h e = absurd (sides_differ format number a b le g h e)
line_same format number (of_algorithm a) (of_adversary b) le g h e = absurd (sides_differ format number b a le h g (sym e))

pub line_tells : LineTellsNode
line_tells format number line one other le g h = line_same format number one other le g.spellable h.spellable (sym g.spelled ∙ h.spelled)

-- ---- a node's line is one line, and not the last one

pub node_is_line : (format : Format) (number : ℕ) (node : AnyNode) → number ≤ most_child → IsSpellableNode format node → is_line (node_line number node) ≡ true
unfolding adversary_line algorithm_line
node_is_line format number (of_adversary node) le h =
    words_line (decimal number ∷ position_words node.loads node.items ++ step_words node.step) (adversarys_words format number node le h)
node_is_line format number (of_algorithm node) le h =
    words_line (decimal number ∷ position_words node.loads node.items ++ act_words node.act) (algorithms_words format number node le h)

pub nodes_are_lines : NodesAreLines
nodes_are_lines format number node le h = line_parts (node_line number node) (node_is_line format number node le h)

-- more than one word
two_words : (a b : List ℕ) (ws : List (List ℕ)) (w : List ℕ) → a ∷ b ∷ ws ≡ w ∷ [] → ⊥
two_words a b ws w e = cc

pub no_end : NoNodeIsTheEnd
no_end format number (of_adversary node) le h e =
    let w = adversary_line_words format number (adversary_line number node) node le h refl in
    let one : words_left (Some (adversary_line number node)) ≡ codes "end" ∷ [] = ap (λ (l : List ℕ). words_left (Some l)) e in
    two_words _ _ _ _ (sym w ∙ one)
no_end format number (of_algorithm node) le h e =
    let w = algorithm_line_words format number (algorithm_line number node) node le h refl in
    let one : words_left (Some (algorithm_line number node)) ≡ codes "end" ∷ [] = ap (λ (l : List ℕ). words_left (Some l)) e in
    two_words _ _ _ _ (sym w ∙ one)
