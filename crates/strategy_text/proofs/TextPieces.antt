-- The pieces in which the text of a strategy is written.
use Rattle.std.proofs.Common.{◌≡◌, ℕ, zero, suc, ◌+◌, ◌-◌, ◌<◌, ◌≤◌, List, [], ◌∷◌, ◌++◌, length, map, take, drop, decimal, codes, Result, sym, ap, subst, ◌∙◌, arith, append_assoc}
use Rattle.std.specs.List.{flat_map}
use Rattle.std.specs.Result.{IsErr}
use Rattle.std.proofs.lemmas.List.{append-nil, take-append-drop, length-take-le, length-map, take_all}
use Rattle.std.proofs.lemmas.Grind.{flat_map-append}
use Rattle.std.proofs.Math.Seq.{take-add}
use Rattle.strategy_text.specs.declared.node.AdvNode.{AdvNode}
use Rattle.strategy_text.specs.declared.node.AlgNode.{AlgNode}
use Rattle.strategy_text.specs.declared.node.Nodes.{Nodes}
use Rattle.strategy_text.specs.declared.node.Nodes.TheVariants as nodes
use Rattle.strategy_text.specs.declared.node.Strategy.{Strategy}
use Rattle.strategy_text.specs.Text.{AnyNode, of_adversary, of_algorithm, line_of, position_words, step_words, act_words, adversary_line, algorithm_line, node_line, node_lines}
use Rattle.strategy_text.specs.Text.{nodes_of, side_of, head_lines, end_line, text_of_lines, text_of}
use Rattle.strategy_text.specs.Writing.{Standing, Took, Stopped, Writes, spaced}
use Rattle.strategy_text.proofs.Written.{took_then, stopped_then, stopped_more, writes_then, writes_stopped}
use Rattle.strategy_text.proofs.Spaced.{line_spaced}

-- ---- a line

pub writes_line : {X E : Type 0} (r : Result X E) (a b c d : Standing) (first : List ℕ) (ws : List (List ℕ)) → Took a b first → Took b c (spaced ws) → Writes r c d (10 ∷ [])
    → Writes r a d (line_of (first ∷ ws) ++ 10 ∷ [])
writes_line r a b c d first ws p q w =
    subst (λ (t : List ℕ). Writes r a d (t ++ 10 ∷ [])) (sym (line_spaced first ws)) (writes_then r a c d (first ++ spaced ws) (10 ∷ []) (took_then a b c first (spaced ws) p q) w)

pub stops_first : {X E : Type 0} (r : Result X E) (a b : Standing) (first : List ℕ) (ws : List (List ℕ)) → IsErr r → Stopped a b first
    → Writes r a b (line_of (first ∷ ws) ++ 10 ∷ [])
stops_first r a b first ws e p =
    subst (λ (t : List ℕ). Writes r a b (t ++ 10 ∷ [])) (sym (line_spaced first ws))
    (writes_stopped r a b ((first ++ spaced ws) ++ 10 ∷ []) e (stopped_more a b (first ++ spaced ws) (10 ∷ []) (stopped_more a b first (spaced ws) p)))

pub stops_others : {X E : Type 0} (r : Result X E) (a b c : Standing) (first : List ℕ) (ws : List (List ℕ)) → IsErr r → Took a b first → Stopped b c (spaced ws)
    → Writes r a c (line_of (first ∷ ws) ++ 10 ∷ [])
stops_others r a b c first ws e p q =
    subst (λ (t : List ℕ). Writes r a c (t ++ 10 ∷ [])) (sym (line_spaced first ws))
    (writes_stopped r a c ((first ++ spaced ws) ++ 10 ∷ []) e (stopped_more a c (first ++ spaced ws) (10 ∷ []) (stopped_then a b c first (spaced ws) p q)))

-- ---- the lines of a head

pub writes_four : {X E : Type 0} (r : Result X E) (a b c d e : Standing) (x y z w : List ℕ) → Took a b x → Took b c y → Took c d z → Writes r d e w
    → Writes r a e (x ++ (y ++ (z ++ (w ++ []))))
writes_four r a b c d e x y z w p q s t =
    writes_then r a b e x (y ++ (z ++ (w ++ []))) p (writes_then r b c e y (z ++ (w ++ [])) q (writes_then r c d e z (w ++ []) s (subst (Writes r d e) (sym (append-nil w)) t)))

pub stops_one : {X E : Type 0} (r : Result X E) (a b : Standing) (x rest : List ℕ) → IsErr r → Stopped a b x → Writes r a b (x ++ rest)
stops_one r a b x rest e p = writes_stopped r a b (x ++ rest) e (stopped_more a b x rest p)

pub stops_two : {X E : Type 0} (r : Result X E) (a b c : Standing) (x y rest : List ℕ) → IsErr r → Took a b x → Stopped b c y → Writes r a c (x ++ (y ++ rest))
stops_two r a b c x y rest e p q = writes_stopped r a c (x ++ (y ++ rest)) e (stopped_then a b c x (y ++ rest) p (stopped_more b c y rest q))

pub stops_three : {X E : Type 0} (r : Result X E) (a b c d : Standing) (x y z rest : List ℕ) → IsErr r → Took a b x → Took b c y → Stopped c d z
    → Writes r a d (x ++ (y ++ (z ++ rest)))
stops_three r a b c d x y z rest e p q s = writes_then r a b d x (y ++ (z ++ rest)) p (stops_two r b c d y z rest e q s)

-- ---- the line of a node

abbrev pub adversary_words : AdvNode → List (List ℕ)
adversary_words node = position_words node.loads node.items ++ step_words node.step

abbrev pub algorithm_words : AlgNode → List (List ℕ)
algorithm_words node = position_words node.loads node.items ++ act_words node.act

one_line : (line other : List ℕ) → line ≡ other → (line ++ 10 ∷ []) ++ [] ≡ other ++ 10 ∷ []
one_line line other e = append-nil (line ++ 10 ∷ []) ∙ ap (λ (t : List ℕ). t ++ 10 ∷ []) e

pub one_adversary : (list : List AdvNode) (number i : ℕ) → i < length list
    → text_of_lines (node_lines number (take 1 (drop i (map of_adversary list)))) ≡ line_of (decimal number ∷ flat_map adversary_words (take 1 (drop i list))) ++ 10 ∷ []
unfolding adversary_line
one_adversary [] number i h = absurd (omega arith)
one_adversary (x ∷ xs) number zero h = one_line _ _ (ap (λ (ws : List (List ℕ)). line_of (decimal number ∷ ws)) (sym (append-nil (adversary_words x))))
one_adversary (x ∷ xs) number (suc i) h = one_adversary xs number i (omega arith)

pub one_algorithm : (list : List AlgNode) (number i : ℕ) → i < length list
    → text_of_lines (node_lines number (take 1 (drop i (map of_algorithm list)))) ≡ line_of (decimal number ∷ flat_map algorithm_words (take 1 (drop i list))) ++ 10 ∷ []
unfolding algorithm_line
one_algorithm [] number i h = absurd (omega arith)
one_algorithm (x ∷ xs) number zero h = one_line _ _ (ap (λ (ws : List (List ℕ)). line_of (decimal number ∷ ws)) (sym (append-nil (algorithm_words x))))
one_algorithm (x ∷ xs) number (suc i) h = one_algorithm xs number i (omega arith)

pub writes_adversary : {X E : Type 0} (r : Result X E) (a b : Standing) (ns : Nodes) (list read : List AdvNode) (number : ℕ) (first : List ℕ) → ns ≡ nodes.Adversary list
    → read ≡ list → first ≡ decimal number → number < length (nodes_of ns)
    → Writes r a b (line_of (first ∷ flat_map adversary_words (take (number + 1 - number) (drop number read))) ++ 10 ∷ [])
    → Writes r a b (text_of_lines (node_lines number (take 1 (drop number (nodes_of ns)))))
writes_adversary r a b ns list read number first is same spelled h w =
    let le : number < length list = omega (arith, length-map list of_adversary, ap (λ (n : Nodes). length (nodes_of n)) is) in
    let one : number + 1 - number ≡ 1 = omega arith in
    let v : Writes r a b (line_of (decimal number ∷ flat_map adversary_words (take 1 (drop number list))) ++ 10 ∷ []) = subst
    (λ (k : ℕ). Writes r a b (line_of (decimal number ∷ flat_map adversary_words (take k (drop number list))) ++ 10 ∷ [])) one
    (subst (λ (xs : List AdvNode). Writes r a b (line_of (decimal number ∷ flat_map adversary_words (take (number + 1 - number) (drop number xs))) ++ 10 ∷ [])) same
    (subst (λ (w : List ℕ). Writes r a b (line_of (w ∷ flat_map adversary_words (take (number + 1 - number) (drop number read))) ++ 10 ∷ [])) spelled w)) in
    subst (λ (n : Nodes). Writes r a b (text_of_lines (node_lines number (take 1 (drop number (nodes_of n)))))) (sym is)
    (subst (Writes r a b) (sym (one_adversary list number number le)) v)

pub writes_algorithm : {X E : Type 0} (r : Result X E) (a b : Standing) (ns : Nodes) (list read : List AlgNode) (number : ℕ) (first : List ℕ) → ns ≡ nodes.Algorithm list
    → read ≡ list → first ≡ decimal number → number < length (nodes_of ns)
    → Writes r a b (line_of (first ∷ flat_map algorithm_words (take (number + 1 - number) (drop number read))) ++ 10 ∷ [])
    → Writes r a b (text_of_lines (node_lines number (take 1 (drop number (nodes_of ns)))))
writes_algorithm r a b ns list read number first is same spelled h w =
    let le : number < length list = omega (arith, length-map list of_algorithm, ap (λ (n : Nodes). length (nodes_of n)) is) in
    let one : number + 1 - number ≡ 1 = omega arith in
    let v : Writes r a b (line_of (decimal number ∷ flat_map algorithm_words (take 1 (drop number list))) ++ 10 ∷ []) = subst
    (λ (k : ℕ). Writes r a b (line_of (decimal number ∷ flat_map algorithm_words (take k (drop number list))) ++ 10 ∷ [])) one
    (subst (λ (xs : List AlgNode). Writes r a b (line_of (decimal number ∷ flat_map algorithm_words (take (number + 1 - number) (drop number xs))) ++ 10 ∷ [])) same
    (subst (λ (w : List ℕ). Writes r a b (line_of (w ∷ flat_map algorithm_words (take (number + 1 - number) (drop number read))) ++ 10 ∷ [])) spelled w)) in
    subst (λ (n : Nodes). Writes r a b (text_of_lines (node_lines number (take 1 (drop number (nodes_of n)))))) (sym is)
    (subst (Writes r a b) (sym (one_algorithm list number number le)) v)

-- ---- the lines of the nodes

text-append : (ls ms : List (List ℕ)) → text_of_lines (ls ++ ms) ≡ text_of_lines ls ++ text_of_lines ms
text-append ls ms = flat_map-append (λ (line : List ℕ). line ++ 10 ∷ []) ls ms

lines-append : (k : ℕ) (xs ys : List AnyNode) → node_lines k (xs ++ ys) ≡ node_lines k xs ++ node_lines (k + length xs) ys
lines-append k [] ys = ap (λ (n : ℕ). node_lines n ys) (let e : k ≡ k + 0 = omega arith in e)
lines-append k (x ∷ xs) ys =
    let e : (k + 1) + length xs ≡ k + suc (length xs) = omega arith in
    ap (λ (ls : List (List ℕ)). node_line k x ∷ ls) (lines-append (k + 1) xs ys ∙ ap (λ (n : ℕ). node_lines (k + 1) xs ++ node_lines n ys) e)

-- the text of nodes that are numbered from 0
abbrev pub nodes_text : List AnyNode → List ℕ
nodes_text ns = text_of_lines (node_lines 0 ns)

nodes-append : (xs ys : List AnyNode) (i : ℕ) → length xs ≡ i → nodes_text (xs ++ ys) ≡ nodes_text xs ++ text_of_lines (node_lines i ys)
nodes-append xs ys i e =
    let n : 0 + length xs ≡ i = omega arith in
    ap text_of_lines (lines-append 0 xs ys ∙ ap (λ (n : ℕ). node_lines 0 xs ++ node_lines n ys) n) ∙ text-append (node_lines 0 xs) (node_lines i ys)

nodes_more : (ns : List AnyNode) (i : ℕ) → i < length ns → nodes_text (take (i + 1) ns) ≡ nodes_text (take i ns) ++ text_of_lines (node_lines i (take 1 (drop i ns)))
nodes_more ns i h = ap nodes_text (take-add i 1 ns) ∙ nodes-append (take i ns) (take 1 (drop i ns)) i (length-take-le i ns (omega arith))

nodes_rest : (ns : List AnyNode) (i : ℕ) → i ≤ length ns → nodes_text ns ≡ nodes_text (take i ns) ++ text_of_lines (node_lines i (drop i ns))
nodes_rest ns i h = ap nodes_text (sym (take-append-drop i ns)) ∙ nodes-append (take i ns) (drop i ns) i (length-take-le i ns h)

pub took_node : (ns : List AnyNode) (i : ℕ) (a b c : Standing) → i < length ns → Took a b (nodes_text (take i ns)) → Took b c (text_of_lines (node_lines i (take 1 (drop i ns))))
    → Took a c (nodes_text (take (i + 1) ns))
took_node ns i a b c h p q = subst (Took a c) (sym (nodes_more ns i h)) (took_then a b c (nodes_text (take i ns)) (text_of_lines (node_lines i (take 1 (drop i ns)))) p q)

pub stops_node : {X E : Type 0} (r : Result X E) (ns : List AnyNode) (i : ℕ) (a b c : Standing) → IsErr r → i < length ns → Took a b (nodes_text (take i ns))
    → Stopped b c (text_of_lines (node_lines i (take 1 (drop i ns)))) → Writes r a c (nodes_text ns)
stops_node r ns i a b c e h p q =
    let next = text_of_lines (node_lines i (take 1 (drop i ns))) in
    let so_far = nodes_text (take i ns) ++ next in
    let rest = text_of_lines (node_lines (i + 1) (drop (i + 1) ns)) in
    let all : nodes_text ns ≡ so_far ++ rest = nodes_rest ns (i + 1) (omega arith) ∙ ap (λ (t : List ℕ). t ++ rest) (nodes_more ns i h) in
    writes_stopped r a c (nodes_text ns) e (subst (Stopped a c) (sym all) (stopped_more a c so_far rest (stopped_then a b c (nodes_text (take i ns)) next p q)))

pub took_nodes : (ns : List AnyNode) (i : ℕ) (a b : Standing) → length ns ≤ i → Took a b (nodes_text (take i ns)) → Took a b (nodes_text ns)
took_nodes ns i a b h p = subst (λ (xs : List AnyNode). Took a b (nodes_text xs)) (take_all i ns h) p

-- ---- the text

-- the text of a strategy: its head, its nodes and the end
pub text_parts : (s : Strategy)
    → text_of s ≡ text_of_lines (head_lines s.format s.game (side_of s.nodes) (length (nodes_of s.nodes))) ++ (nodes_text (nodes_of s.nodes) ++ codes "end\n")
text_parts s =
    let head = head_lines s.format s.game (side_of s.nodes) (length (nodes_of s.nodes)) in
    let lines = node_lines 0 (nodes_of s.nodes) in
    text-append (head ++ lines) (end_line ∷ []) ∙ ap (λ (t : List ℕ). t ++ text_of_lines (end_line ∷ [])) (text-append head lines) ∙ append_assoc (text_of_lines head)
    (text_of_lines lines) (text_of_lines (end_line ∷ []))

-- the text of the head of a strategy
abbrev pub head_text : Strategy → List ℕ
head_text s = text_of_lines (head_lines s.format s.game (side_of s.nodes) (length (nodes_of s.nodes)))

pub writes_text : {X E : Type 0} (r : Result X E) (a b c d : Standing) (s : Strategy) → Took a b (head_text s) → Took b c (nodes_text (nodes_of s.nodes))
    → Writes r c d (codes "end\n") → Writes r a d (text_of s)
writes_text r a b c d s p q w =
    subst (Writes r a d) (sym (text_parts s)) (writes_then r a b d (head_text s) (nodes_text (nodes_of s.nodes) ++ codes "end\n") p
    (writes_then r b c d (nodes_text (nodes_of s.nodes)) (codes "end\n") q w))

pub stops_head : {X E : Type 0} (r : Result X E) (a b : Standing) (s : Strategy) → IsErr r → Stopped a b (head_text s) → Writes r a b (text_of s)
stops_head r a b s e p = subst (Writes r a b) (sym (text_parts s)) (stops_one r a b (head_text s) (nodes_text (nodes_of s.nodes) ++ codes "end\n") e p)

pub stops_nodes : {X E : Type 0} (r : Result X E) (a b c : Standing) (s : Strategy) → IsErr r → Took a b (head_text s) → Stopped b c (nodes_text (nodes_of s.nodes))
    → Writes r a c (text_of s)
stops_nodes r a b c s e p q = subst (Writes r a c) (sym (text_parts s)) (stops_two r a b c (head_text s) (nodes_text (nodes_of s.nodes)) (codes "end\n") e p q)
