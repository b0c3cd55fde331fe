-- Each text has a first fault, or it is that of a legal strategy of a wanted side.
use Rattle.std.proofs.Common.{◌≡◌, ◌≢◌, ◌⊎◌, ◌==◌, inl, inr, ℕ, zero, suc, ◌+◌, ◌<◌, ◌≤◌, List, [], ◌∷◌, ◌++◌, length, map, Option, Some, None, sym, ap, ◌∙◌, subst, refl}
use Rattle.std.proofs.Common.{arith, append_assoc}
use Rattle.std.proofs.lemmas.Bool.{cases_eq}
use Rattle.std.proofs.lemmas.Grind.{flat_map-append}
use Rattle.std.proofs.lemmas.List.{append-nil, length-map, length_push}
use Rattle.std.proofs.lemmas.List.Elements.{All-nil, All-cons, All-append}
use Rattle.port_io.specs.Lines.{ReaderState, IsLine, HasNoLf, with_lf, longest_line}
use Rattle.port_io.proofs.NextLemmas.{with_lf-only}
use Rattle.port_io.proofs.NextLemmas.{HasNoLf-with_lf}
use Rattle.items.specs.Game.{GameNumbers, IsGame}
use Rattle.items.specs.Multiset.{AreSizes, sizes_of}
use Rattle.loads.specs.declared.position.Position.{Position}
use Rattle.strategy_text.specs.Reading.{game_at, count_at, adversary_at, algorithm_at}
use Rattle.strategy_text.specs.Spelling.{SpellsCount, most_child}
use Rattle.strategy_text.specs.Text.{AnyNode, of_adversary, of_algorithm, node_line, node_lines, nodes_of, side_of, first_line, game_line, side_line, end_line}
use Rattle.strategy_text.specs.Text.{head_lines, text_of_lines}
use Rattle.strategy_text.specs.Words.{words_left}
use Rattle.strategy_text.specs.declared.node.AdvNode.{AdvNode}
use Rattle.strategy_text.specs.declared.node.AlgNode.{AlgNode}
use Rattle.strategy_text.specs.declared.node.Format.{Format}
use Rattle.strategy_text.specs.declared.node.Format.TheVariants.{One, Two}
use Rattle.strategy_text.specs.declared.node.Nodes.{Nodes}
use Rattle.strategy_text.specs.declared.node.Side.{Side}
use Rattle.strategy_text.specs.declared.node.Side.TheVariants.{Adversary, Algorithm}
use Rattle.strategy_text.specs.declared.rule.Rule.TheVariants as rules
use Rattle.strategy_text.proofs.HeadLines.{game_exact, count_exact}
use Rattle.strategy_text.proofs.NodeLines.{adversary_line_takes, algorithm_line_takes, adversary_refused, algorithm_refused}
use Rattle.checker.specs.Accepted.{IsFaultUnder, IsTextFaultUnder}
use Rattle.checker.specs.FirstFault.{IsWanted, IsFirstLine, IsFormatOf, IsGameLine, IsSizesLine, IsSideLine, IsCountLine, HasNoFault, IsLegalText}
use Rattle.checker.specs.FirstFault.{first_of, side_place, wanted_of}
use Rattle.checker.specs.Listed.{IsLegalListedText, listed_head_lines, listed_line}
use Rattle.strategies.specs.AnyNode.{position_of}
use Rattle.checker.specs.Head.{Head, SpellsUnder, IsNodeLine}
use Rattle.checker.specs.Laws.{HasFirstFault, EveryTextHasAFirstFaultOrNone, OnlyLegalListedTextsHaveNoFault, OnlyLegalTextsHaveNoFault}
use Rattle.checker.specs.Progress.{StandFirst, HasNext, IsWrongNext, IsWrongAfter, RefusesAfter, IsPastEnd, NoRule, BreaksGame, BreaksSizes, BreaksSide, BreaksNode, IsFront, IsHead}
use Rattle.checker.specs.Progress.{front_lines, lines_of_head, AreJudged}
use Rattle.checker.specs.declared.fault.CheckFault.{CheckFault}
use Rattle.checker.specs.declared.fault.CheckFault.TheVariants.{Rejected, Read}
use Rattle.checker.specs.declared.fault.Heading.{Heading}
use Rattle.checker.specs.declared.fault.Heading.TheVariants as headings
use Rattle.checker.specs.declared.fault.Wanted.{Wanted}
use Rattle.checker.specs.declared.fault.Wanted.TheVariants.{Either, Only}
use Rattle.checker.specs.declared.fault.Why.{Why}
use Rattle.checker.specs.declared.fault.Why.TheVariants as why
use Rattle.checker.proofs.NodeLemmas.{AreJudged-none, AreJudged-push, node_lines_push}
use Rattle.checker.proofs.SizesLemmas.{decided_sizes}
use Rattle.checker.proofs.FaultLemmas.{exit_first, exit_game, exit_sizes, exit_side, exit_count, exit_node, exit_end, exit_past, lines_of_text}
use Rattle.checker.proofs.TextLemmas.{legal_from, legal_strategy_from, nodes_kept}
use Rattle.checker.proofs.LegalText.{legal_text_has_no_fault, listed_text_has_no_fault}
use Rattle.checker.proofs.DecideLemmas.{Decided, decided_by, decided_are_sizes, decided_le, decided_lists, decided_game}
use Rattle.checker.proofs.DecideRules.{IsJudged, judged_node}

-- ---- the next line

-- a line with its line feed stands first
abbrev FirstFeed : List ℕ → Type 0
FirstFeed bytes = (line : List ℕ) × (rest : List ℕ) × HasNoLf line × (bytes ≡ with_lf line ++ rest)

feed_more : (c : ℕ) (cs : List ℕ) → (c ≡ 10) ⊎ (c ≡ 10 → ⊥) → FirstFeed cs ⊎ HasNoLf cs → FirstFeed (c ∷ cs) ⊎ HasNoLf (c ∷ cs)
feed_more c cs (inl e) d = inl ([], cs, All-nil (λ b. b ≢ 10), ap (λ (x : ℕ). x ∷ cs) e)
feed_more c cs (inr other) (inl s) = inl (c ∷ s.0, s.1, All-cons (λ b. b ≢ 10) c s.0 other s.2, ap (λ (xs : List ℕ). c ∷ xs) s.3)
feed_more c cs (inr other) (inr none) = inr (All-cons (λ b. b ≢ 10) c cs other none)

first_feed : (bytes : List ℕ) → FirstFeed bytes ⊎ HasNoLf bytes
first_feed [] = inr (All-nil (λ b. b ≢ 10))
first_feed (c ∷ cs) = feed_more c cs (cases_eq c 10) (first_feed cs)

-- a whole line stands first
abbrev FirstWhole : List ℕ → Type 0
FirstWhole bytes = (line : List ℕ) × (rest : List ℕ) × IsLine line × (bytes ≡ with_lf line ++ rest)

same_line : (bytes line other rest more : List ℕ) → HasNoLf line → HasNoLf other → bytes ≡ with_lf line ++ rest → bytes ≡ with_lf other ++ more → line ≡ other
same_line bytes line other rest more p q e f = (with_lf-only line other rest more p q (sym e ∙ f)).0

whole_from : (bytes : List ℕ) → FirstFeed bytes ⊎ HasNoLf bytes → Decided (FirstWhole bytes)
whole_from bytes (inr none) = inr (λ w. HasNoLf-with_lf w.0 w.1 bytes w.3 none)
whole_from bytes (inl s) =
    decided_by (length s.0 ≤ longest_line) (FirstWhole bytes) (λ short. (s.0, s.1, record { no_lf = s.2; short = short }, s.3))
    (λ w. subst (λ (l : List ℕ). length l ≤ longest_line) (same_line bytes w.0 s.0 w.1 s.1 w.2.no_lf s.2 w.3 s.3) w.2.short) (decided_le (length s.0) longest_line)

next_from_whole : (Form : List ℕ → Type 0) → ((line : List ℕ) → IsLine line → Decided (Form line)) → (bytes : List ℕ) → Decided (FirstWhole bytes) → Decided (HasNext Form bytes)
next_from_whole Form d bytes (inr never) = inr (λ h. never (h.line, h.rest, h.whole, h.split))
next_from_whole Form d bytes (inl w) =
    decided_by (Form w.0) (HasNext Form bytes) (λ form. record { line = w.0; rest = w.1; whole = w.2; split = w.3; form = form })
    (λ h. subst Form (same_line bytes h.line w.0 h.rest w.1 h.whole.no_lf w.2.no_lf h.split w.3) h.form) (d w.0 w.2)

-- a line of a form stands next, or none does
decided_next : (Form : List ℕ → Type 0) → ((line : List ℕ) → IsLine line → Decided (Form line)) → (bytes : List ℕ) → Decided (HasNext Form bytes)
decided_next Form d bytes = next_from_whole Form d bytes (whole_from bytes (first_feed bytes))

-- ---- lines of their forms

neither_first : (line : List ℕ) → (line ≡ first_line One → ⊥) → (line ≡ first_line Two → ⊥) → (format : Format) → line ≡ first_line format → ⊥
neither_first line one two One e = one e
neither_first line one two Two e = two e

first_from : (wanted : Wanted) (line : List ℕ) → Decided (line ≡ first_line One) → Decided (line ≡ first_line Two) → Decided (IsFirstLine (headings.Strategy wanted) line)
first_from wanted line (inl e) d = inl (One, tt, e)
first_from wanted line (inr one) (inl e) = inl (Two, tt, e)
first_from wanted line (inr one) (inr two) = inr (λ h. neither_first line one two h.0 h.2)

decided_first : (heading : Heading) (line : List ℕ) → Decided (IsFirstLine heading line)
decided_first (headings.Strategy wanted) line = first_from wanted line (decided_lists line (first_line One)) (decided_lists line (first_line Two))
decided_first headings.Listed line = decided_by (line ≡ listed_line) (IsFirstLine headings.Listed line) (λ e. (One, refl, e)) (λ h. h.2) (decided_lists line listed_line)

neither_side : (line : List ℕ) → (line ≡ side_line Adversary → ⊥) → (line ≡ side_line Algorithm → ⊥) → (side : Side) → line ≡ side_line side → ⊥
neither_side line one two Adversary e = one e
neither_side line one two Algorithm e = two e

side_from : (line : List ℕ) → Decided (line ≡ side_line Adversary) → Decided (line ≡ side_line Algorithm) → Decided (IsSideLine line)
side_from line (inl e) d = inl (Adversary, e)
side_from line (inr one) (inl e) = inl (Algorithm, e)
side_from line (inr one) (inr two) = inr (λ h. neither_side line one two h.0 h.1)

decided_side : (line : List ℕ) → Decided (IsSideLine line)
decided_side line = side_from line (decided_lists line (side_line Adversary)) (decided_lists line (side_line Algorithm))

decided_wanted : (wanted : Wanted) (side : Side) → Decided (IsWanted wanted side)
decided_wanted Either side = inl tt
decided_wanted (Only Adversary) Adversary = inl refl
decided_wanted (Only Adversary) Algorithm = inr (λ e. (let same : Adversary ≡ Algorithm = e in absurd cc))
decided_wanted (Only Algorithm) Adversary = inr (λ e. (let same : Algorithm ≡ Adversary = e in absurd cc))
decided_wanted (Only Algorithm) Algorithm = inl refl

game_from : (line : List ℕ) (o : Option GameNumbers) → o ≡ game_at (words_left (Some line)) → Decided (IsGameLine line)
game_from line None e = inr (λ h. game_exact line None e h.0 h.1)
game_from line (Some game) e = inl (game, game_exact line (Some (game.bins, game.capacity, game.target)) e)

decided_game_line : (line : List ℕ) → Decided (IsGameLine line)
decided_game_line line = game_from line (game_at (words_left (Some line))) refl

count_from : (line : List ℕ) (o : Option ℕ) → o ≡ count_at (words_left (Some line)) → Decided (IsCountLine line)
count_from line None e = inr (λ h. count_exact line None e h.0 h.1)
count_from line (Some count) e = inl (count, count_exact line (Some count) e)

decided_count : (line : List ℕ) → Decided (IsCountLine line)
decided_count line = count_from line (count_at (words_left (Some line))) refl

-- a line that is not read as a node of a side spells none under a head of this side
no_adversary : (head : Head) (number : ℕ) (line : List ℕ) → head.side ≡ Adversary → number ≤ most_child
    → adversary_at head.format number (words_left (Some line)) ≡ None → (node : AnyNode) → SpellsUnder head number line node → ⊥
no_adversary head number line side le e (of_adversary node) h = adversary_refused head.format number line le e node h.spells
no_adversary head number line side le e (of_algorithm node) h = let other : Algorithm ≡ Adversary = h.side ∙ side in absurd cc

no_algorithm : (head : Head) (number : ℕ) (line : List ℕ) → head.side ≡ Algorithm → number ≤ most_child
    → algorithm_at head.format number (words_left (Some line)) ≡ None → (node : AnyNode) → SpellsUnder head number line node → ⊥
no_algorithm head number line side le e (of_algorithm node) h = algorithm_refused head.format number line le e node h.spells
no_algorithm head number line side le e (of_adversary node) h = let other : Adversary ≡ Algorithm = h.side ∙ side in absurd cc

adversary_from : (head : Head) (number : ℕ) (line : List ℕ) → head.side ≡ Adversary → number ≤ most_child → IsLine line → (o : Option AdvNode)
    → o ≡ adversary_at head.format number (words_left (Some line)) → Decided (IsNodeLine head number line)
adversary_from head number line side le is None e = inr (λ h. no_adversary head number line side le (sym e) h.0 h.1)
adversary_from head number line side le is (Some node) e =
    inl (of_adversary node, record { spells = adversary_line_takes head.format number line node is.short (sym e); side = sym side })

algorithm_from : (head : Head) (number : ℕ) (line : List ℕ) → head.side ≡ Algorithm → number ≤ most_child → IsLine line → (o : Option AlgNode)
    → o ≡ algorithm_at head.format number (words_left (Some line)) → Decided (IsNodeLine head number line)
algorithm_from head number line side le is None e = inr (λ h. no_algorithm head number line side le (sym e) h.0 h.1)
algorithm_from head number line side le is (Some node) e =
    inl (of_algorithm node, record { spells = algorithm_line_takes head.format number line node is.short (sym e); side = sym side })

node_by_side : (head : Head) (number : ℕ) (line : List ℕ) → number ≤ most_child → IsLine line → (side : Side) → head.side ≡ side → Decided (IsNodeLine head number line)
node_by_side head number line le is Adversary e = adversary_from head number line e le is (adversary_at head.format number (words_left (Some line))) refl
node_by_side head number line le is Algorithm e = algorithm_from head number line e le is (algorithm_at head.format number (words_left (Some line))) refl

decided_node : (head : Head) (number : ℕ) (line : List ℕ) → number ≤ most_child → IsLine line → Decided (IsNodeLine head number line)
decided_node head number line le is = node_by_side head number line le is head.side refl

-- ---- what a text comes to

-- the text of a legal strategy of a wanted side, or with listed sizes
abbrev IsTextUnder : Heading → List ℕ → Type 0
IsTextUnder (headings.Strategy wanted) bytes = IsLegalText wanted bytes
IsTextUnder headings.Listed bytes = IsLegalListedText bytes

-- a text has a first fault, or it is that of a legal strategy
abbrev Outcome : Heading → List ℕ → Type 0
Outcome heading bytes = HasFirstFault heading bytes ⊎ IsTextUnder heading bytes

-- nothing is held
abbrev nothing : ReaderState
nothing = record { held = []; text = []; ending = None }

refused : (given : List (List ℕ)) (Wrong : CheckFault → List ℕ → Type 0) (line : ℕ) (cause : Why) (bytes : List ℕ)
    → IsWrongAfter given Wrong (Rejected line cause) bytes → RefusesAfter given Wrong (Rejected line cause) nothing (Some bytes) (Some [])
refused given Wrong line cause bytes w = record {
  read = bytes;
  gone = ap (λ (x : List ℕ). Some x) (sym (append-nil bytes));
  in_hand = w;
  in_all = w;
  no_line = λ e. (let other : Rejected line cause ≡ Read = e in absurd cc);
}

fault_from : (heading : Heading) (bytes : List ℕ) (line : ℕ) (cause : Why) → IsFaultUnder heading [] (Rejected line cause) (Some bytes) (Some []) → Outcome heading bytes
fault_from heading bytes line cause r = inl (line, cause, r.first_of_input)

text_fault_from : (heading : Heading) (bytes : List ℕ) (line : ℕ) (cause : Why) → IsTextFaultUnder heading [] (Rejected line cause) (Some bytes) (Some []) → Outcome heading bytes
text_fault_from heading bytes line cause r = fault_from heading bytes line cause r.rejects

StandFirst-push : (given : List (List ℕ)) (line bytes rest more : List ℕ) → StandFirst given bytes rest → IsLine line → rest ≡ with_lf line ++ more
    → StandFirst (given ++ line ∷ []) bytes more
StandFirst-push given line bytes rest more s is e =
    let front : text_of_lines (given ++ line ∷ []) ≡ text_of_lines given ++ with_lf line =
    flat_map-append (λ l. l ++ 10 ∷ []) given (line ∷ []) ∙ ap (λ (x : List ℕ). text_of_lines given ++ x) (append-nil (with_lf line)) in
    record {
      whole = All-append IsLine given (line ∷ []) s.whole (All-cons IsLine line [] is (All-nil IsLine));
      split = s.split ∙ ap (λ (x : List ℕ). text_of_lines given ++ x) e ∙ sym (append_assoc (text_of_lines given) (with_lf line) more) ∙ ap (λ (x : List ℕ). x ++ more) (sym front);
    }

-- ---- after the nodes

legal_kept : (heading : Heading) (head : Head) (kept : Nodes) (bytes : List ℕ) → IsHead heading head → side_of kept ≡ head.side
    → AreJudged head (nodes_of kept) → length (nodes_of kept) ≡ head.count → StandFirst (lines_of_text heading head (nodes_of kept)) bytes []
    → IsTextUnder heading bytes
legal_kept (headings.Strategy wanted) head kept bytes is side judged number stood =
    let tail : List (List ℕ) = node_lines 0 (nodes_of kept) ++ end_line ∷ [] in
    record {
      strategy = record { format = head.format; game = head.game; nodes = kept };
      legal = legal_strategy_from wanted head kept is number judged;
      wanted_side = subst (IsWanted wanted) (sym side) is.wanted_side;
      spelled = stood.split ∙ append-nil (text_of_lines (lines_of_text (headings.Strategy wanted) head (nodes_of kept)))
          ∙ ap (λ (s : Side). text_of_lines (head_lines head.format head.game s head.count ++ tail)) (sym side)
          ∙ ap (λ (n : ℕ). text_of_lines (head_lines head.format head.game (side_of kept) n ++ tail)) (sym number);
    }
legal_kept headings.Listed head kept bytes is side judged number stood =
    let tail : List (List ℕ) = node_lines 0 (nodes_of kept) ++ end_line ∷ [] in
    record {
      sizes = head.sizes;
      strategy = record { format = head.format; game = head.game; nodes = kept };
      legal = record { of_format = is.front.of_format; are_sizes = is.front.of_sizes; nodes = legal_from headings.Listed head kept is number judged };
      spelled = stood.split ∙ append-nil (text_of_lines (lines_of_text headings.Listed head (nodes_of kept)))
          ∙ ap (λ (s : Side). text_of_lines (listed_head_lines head.game head.sizes s head.count ++ tail)) (sym side)
          ∙ ap (λ (n : ℕ). text_of_lines (listed_head_lines head.game head.sizes (side_of kept) n ++ tail)) (sym number);
    }

legal_from_nodes : (heading : Heading) (head : Head) (list : List AnyNode) (bytes : List ℕ) → IsHead heading head → AreJudged head list
    → length list ≡ head.count → StandFirst (lines_of_text heading head list) bytes [] → IsTextUnder heading bytes
legal_from_nodes heading head list bytes is judged number stood =
    let kept = nodes_kept head.side list (λ k node e. (judged.spelled k node e).side) in
    legal_kept heading head kept.0 bytes is kept.2 (subst (λ (ns : List AnyNode). AreJudged head ns) (sym kept.1) judged)
    (subst (λ (ns : List AnyNode). length ns ≡ head.count) (sym kept.1) number) (subst (λ (ns : List AnyNode). StandFirst (lines_of_text heading head ns) bytes []) (sym kept.1) stood)

past_step : (heading : Heading) (head : Head) (list : List AnyNode) (bytes rest : List ℕ) → IsHead heading head → AreJudged head list
    → length list ≡ head.count → StandFirst (lines_of_text heading head list) bytes rest → Outcome heading bytes
past_step heading head list bytes [] is judged number stood = inr (legal_from_nodes heading head list bytes is judged number stood)
past_step heading head list bytes (c ∷ cs) is judged number stood =
    let place : ℕ = head.start + head.count + 1 in
    let some : c ∷ cs ≢ [] = λ e. absurd (omega (arith, ap length e)) in
    fault_from heading bytes place why.Syntax
    (exit_past heading head list (Rejected place why.Syntax) nothing (Some bytes) (Some []) is judged number
    (refused (lines_of_text heading head list) (IsPastEnd place) place why.Syntax bytes (c ∷ cs, stood, (refl, some))))

end_step : (heading : Heading) (head : Head) (list : List AnyNode) (bytes rest : List ℕ) → IsHead heading head → AreJudged head list
    → length list ≡ head.count → StandFirst (lines_of_head heading head ++ node_lines 0 list) bytes rest → Decided (HasNext (λ line. line ≡ end_line) rest)
    → Outcome heading bytes
end_step heading head list bytes rest is judged number stood (inr never) =
    let place : ℕ = head.start + head.count in
    text_fault_from heading bytes place why.Syntax
    (exit_end heading head list (Rejected place why.Syntax) nothing (Some bytes) (Some []) is judged number
    (refused (lines_of_head heading head ++ node_lines 0 list) (IsWrongNext place (λ line. line ≡ end_line) NoRule) place why.Syntax bytes (rest, stood, (refl, never))))
end_step heading head list bytes rest is judged number stood (inl next) =
    let pushed = StandFirst-push (lines_of_head heading head ++ node_lines 0 list) next.line bytes rest next.rest stood next.whole next.split in
    past_step heading head list bytes next.rest is judged number
    (subst (λ (line : List ℕ). StandFirst (lines_of_head heading head ++ (node_lines 0 list ++ line ∷ [])) bytes next.rest) next.form
    (subst (λ (ls : List (List ℕ)). StandFirst ls bytes next.rest) (append_assoc (lines_of_head heading head) (node_lines 0 list) (next.line ∷ [])) pushed))

-- ---- the nodes

-- the rest of the text, after one more node
abbrev OneMore : Heading → Head → List AnyNode → List ℕ → Type 0
OneMore heading head list bytes =
    (node : AnyNode) (rest : List ℕ) → AreJudged head (list ++ node ∷ []) → StandFirst (lines_of_head heading head ++ node_lines 0 (list ++ node ∷ [])) bytes rest → Outcome heading bytes

judged_step : (heading : Heading) (head : Head) (list : List AnyNode) (bytes rest : List ℕ) → IsHead heading head → AreJudged head list
    → length list < head.count → StandFirst (lines_of_head heading head ++ node_lines 0 list) bytes rest → OneMore heading head list bytes
    → (next : HasNext (IsNodeLine head (length list)) rest)
    → IsJudged head (map position_of list) (length (map position_of list) + 1 == head.count) next.form.0 → Outcome heading bytes
judged_step heading head list bytes rest is judged few stood more next (inr broken) =
    let place : ℕ = head.start + length list in
    let under : SpellsUnder head (length (map position_of list)) next.line next.form.0 =
    subst (λ (i : ℕ). SpellsUnder head i next.line next.form.0) (sym (length-map list position_of)) next.form.1 in
    text_fault_from heading bytes place (why.Rule broken.0)
    (exit_node heading head list (Rejected place (why.Rule broken.0)) nothing (Some bytes) (Some []) is judged few
    (refused (lines_of_head heading head ++ node_lines 0 list) (IsWrongNext place (IsNodeLine head (length list)) (BreaksNode head (map position_of list))) place
    (why.Rule broken.0) bytes
    (rest, stood, (refl, record { line = next.line; rest = next.rest; whole = next.whole; split = next.split; form = (next.form.0, under, broken.1) }))))
judged_step heading head list bytes rest is judged few stood more next (inl meets) =
    let node = next.form.0 in
    let earlier : List Position = map position_of list in
    let under : SpellsUnder head (length earlier) next.line node = subst (λ (i : ℕ). SpellsUnder head i next.line node) (sym (length-map list position_of)) next.form.1 in
    let all = AreJudged-push head list node earlier (earlier ++ position_of node ∷ []) next.line refl judged (record { under = under; meets = meets; put = refl }) in
    let pushed = StandFirst-push (lines_of_head heading head ++ node_lines 0 list) next.line bytes rest next.rest stood next.whole next.split in
    let at : length list ≡ 0 + length list = omega arith in
    let lines : node_lines 0 list ++ next.line ∷ [] ≡ node_lines 0 (list ++ node ∷ []) =
    ap (λ (line : List ℕ). node_lines 0 list ++ line ∷ []) (next.form.1.spells.spelled ∙ ap (λ (i : ℕ). node_line i node) at) ∙ sym (node_lines_push 0 list node) in
    more node next.rest all (subst (λ (ls : List (List ℕ)). StandFirst (lines_of_head heading head ++ ls) bytes next.rest) lines
    (subst (λ (ls : List (List ℕ)). StandFirst ls bytes next.rest) (append_assoc (lines_of_head heading head) (node_lines 0 list) (next.line ∷ [])) pushed))

node_step : (heading : Heading) (head : Head) (list : List AnyNode) (bytes rest : List ℕ) → IsHead heading head → AreJudged head list
    → length list < head.count → StandFirst (lines_of_head heading head ++ node_lines 0 list) bytes rest → OneMore heading head list bytes
    → Decided (HasNext (IsNodeLine head (length list)) rest) → Outcome heading bytes
node_step heading head list bytes rest is judged few stood more (inr never) =
    let place : ℕ = head.start + length list in
    text_fault_from heading bytes place why.Syntax
    (exit_node heading head list (Rejected place why.Syntax) nothing (Some bytes) (Some []) is judged few
    (refused (lines_of_head heading head ++ node_lines 0 list) (IsWrongNext place (IsNodeLine head (length list)) (BreaksNode head (map position_of list))) place why.Syntax bytes
    (rest, stood, (refl, never))))
node_step heading head list bytes rest is judged few stood more (inl next) =
    judged_step heading head list bytes rest is judged few stood more next (judged_node head (map position_of list) (length (map position_of list) + 1 == head.count) next.form.0)

nodes_step : (left : ℕ) (heading : Heading) (head : Head) (list : List AnyNode) (bytes rest : List ℕ) → IsHead heading head → AreJudged head list
    → length list + left ≡ head.count → StandFirst (lines_of_head heading head ++ node_lines 0 list) bytes rest → Outcome heading bytes
nodes_step zero heading head list bytes rest is judged number stood =
    end_step heading head list bytes rest is judged (omega (arith, number)) stood (decided_next (λ line. line ≡ end_line) (λ line whole. decided_lists line end_line) rest)
nodes_step (suc left) heading head list bytes rest is judged number stood =
    node_step heading head list bytes rest is judged (omega (arith, number)) stood
    (λ node more all stands. nodes_step left heading head (list ++ node ∷ []) bytes more is all (omega (arith, number, length_push list node)) stands)
    (decided_next (IsNodeLine head (length list)) (λ line whole. decided_node head (length list) line (omega (arith, number, is.high)) whole) rest)

-- ---- the head lines

count_step : (heading : Heading) (format : Format) (game : GameNumbers) (sizes : List ℕ) (side : Side) (bytes rest : List ℕ) → IsFront heading format game sizes
    → IsWanted (wanted_of heading) side → StandFirst (front_lines heading format game sizes ++ side_line side ∷ []) bytes rest → Decided (HasNext IsCountLine rest)
    → Outcome heading bytes
count_step heading format game sizes side bytes rest is_front of_side stood (inr never) =
    let place : ℕ = side_place heading + 1 in
    text_fault_from heading bytes place why.Syntax
    (exit_count heading format game sizes side (Rejected place why.Syntax) nothing (Some bytes) (Some []) is_front of_side
    (refused (front_lines heading format game sizes ++ side_line side ∷ []) (IsWrongNext place IsCountLine NoRule) place why.Syntax bytes (rest, stood, (refl, never))))
count_step heading format game sizes side bytes rest is_front of_side stood (inl next) =
    let count = next.form.0 in
    let spells : SpellsCount next.line count = next.form.1 in
    let head : Head = record { format = format; game = game; sizes = sizes; side = side; count = count; start = side_place heading + 2 } in
    let is : IsHead heading head = record { front = is_front; wanted_side = of_side; low = spells.low; high = spells.high; start = refl } in
    let front : List (List ℕ) = front_lines heading format game sizes in
    let pushed = StandFirst-push (front ++ side_line side ∷ []) next.line bytes rest next.rest stood next.whole next.split in
    nodes_step count heading head [] bytes next.rest is (AreJudged-none head) (omega arith)
    (subst (λ (lines : List (List ℕ)). StandFirst lines bytes next.rest) (sym (append-nil (lines_of_head heading head)))
    (subst (λ (line : List ℕ). StandFirst (front ++ side_line side ∷ line ∷ []) bytes next.rest) spells.spelled
    (subst (λ (lines : List (List ℕ)). StandFirst lines bytes next.rest) (append_assoc front (side_line side ∷ []) (next.line ∷ [])) pushed)))

wanted_step : (heading : Heading) (format : Format) (game : GameNumbers) (sizes : List ℕ) (bytes rest : List ℕ) → IsFront heading format game sizes
    → StandFirst (front_lines heading format game sizes) bytes rest → (next : HasNext IsSideLine rest) → Decided (IsWanted (wanted_of heading) next.form.0)
    → Outcome heading bytes
wanted_step heading format game sizes bytes rest is_front stood next (inr other) =
    let place : ℕ = side_place heading in
    text_fault_from heading bytes place (why.Rule rules.Side)
    (exit_side heading format game sizes (Rejected place (why.Rule rules.Side)) nothing (Some bytes) (Some []) is_front
    (refused (front_lines heading format game sizes) (IsWrongNext place IsSideLine (BreaksSide (wanted_of heading))) place (why.Rule rules.Side) bytes
    (rest, stood, (refl, record { line = next.line; rest = next.rest; whole = next.whole; split = next.split; form = (refl, (next.form.0, next.form.1, other)) }))))
wanted_step heading format game sizes bytes rest is_front stood next (inl of_side) =
    let front : List (List ℕ) = front_lines heading format game sizes in
    let pushed = StandFirst-push front next.line bytes rest next.rest stood next.whole next.split in
    count_step heading format game sizes next.form.0 bytes next.rest is_front of_side
    (subst (λ (line : List ℕ). StandFirst (front ++ line ∷ []) bytes next.rest) next.form.1 pushed)
    (decided_next IsCountLine (λ line whole. decided_count line) next.rest)

side_step : (heading : Heading) (format : Format) (game : GameNumbers) (sizes : List ℕ) (bytes rest : List ℕ) → IsFront heading format game sizes
    → StandFirst (front_lines heading format game sizes) bytes rest → Decided (HasNext IsSideLine rest) → Outcome heading bytes
side_step heading format game sizes bytes rest is_front stood (inr never) =
    let place : ℕ = side_place heading in
    text_fault_from heading bytes place why.Syntax
    (exit_side heading format game sizes (Rejected place why.Syntax) nothing (Some bytes) (Some []) is_front
    (refused (front_lines heading format game sizes) (IsWrongNext place IsSideLine (BreaksSide (wanted_of heading))) place why.Syntax bytes (rest, stood, (refl, never))))
side_step heading format game sizes bytes rest is_front stood (inl next) =
    wanted_step heading format game sizes bytes rest is_front stood next (decided_wanted (wanted_of heading) next.form.0)

side_decided : (heading : Heading) (format : Format) (game : GameNumbers) (sizes : List ℕ) (bytes rest : List ℕ) → IsFront heading format game sizes
    → StandFirst (front_lines heading format game sizes) bytes rest → Outcome heading bytes
side_decided heading format game sizes bytes rest is_front stood =
    side_step heading format game sizes bytes rest is_front stood (decided_next IsSideLine (λ line whole. decided_side line) rest)

listed_step : (format : Format) (game : GameNumbers) (bytes rest : List ℕ) → IsFormatOf headings.Listed format → IsGame game
    → StandFirst (listed_line ∷ game_line game ∷ []) bytes rest → (next : HasNext IsSizesLine rest) → Decided (AreSizes game.capacity next.form.0)
    → Outcome headings.Listed bytes
listed_step format game bytes rest of_format of_game stood next (inr other) =
    text_fault_from headings.Listed bytes 3 why.Sizes
    (exit_sizes headings.Listed format game (Rejected 3 why.Sizes) nothing (Some bytes) (Some []) refl of_format of_game
    (refused (listed_line ∷ game_line game ∷ []) (IsWrongNext 3 IsSizesLine (BreaksSizes game)) 3 why.Sizes bytes
    (rest, stood, (refl, record { line = next.line; rest = next.rest; whole = next.whole; split = next.split; form = (refl, (next.form.0, next.form.1, other)) }))))
listed_step format game bytes rest of_format of_game stood next (inl of_sizes) =
    let pushed = StandFirst-push (listed_line ∷ game_line game ∷ []) next.line bytes rest next.rest stood next.whole next.split in
    side_decided headings.Listed format game next.form.0 bytes next.rest (record { of_format = of_format; of_game = of_game; of_sizes = of_sizes })
    (subst (λ (line : List ℕ). StandFirst (listed_line ∷ game_line game ∷ line ∷ []) bytes next.rest) next.form.1.spelled pushed)

sizes_step : (format : Format) (game : GameNumbers) (bytes rest : List ℕ) → IsFormatOf headings.Listed format → IsGame game
    → StandFirst (listed_line ∷ game_line game ∷ []) bytes rest → Decided (HasNext IsSizesLine rest) → Outcome headings.Listed bytes
sizes_step format game bytes rest of_format of_game stood (inr never) =
    text_fault_from headings.Listed bytes 3 why.Syntax
    (exit_sizes headings.Listed format game (Rejected 3 why.Syntax) nothing (Some bytes) (Some []) refl of_format of_game
    (refused (listed_line ∷ game_line game ∷ []) (IsWrongNext 3 IsSizesLine (BreaksSizes game)) 3 why.Syntax bytes (rest, stood, (refl, never))))
sizes_step format game bytes rest of_format of_game stood (inl next) =
    listed_step format game bytes rest of_format of_game stood next (decided_are_sizes game.capacity next.form.0)

-- what comes after the line of the game
after_game : (heading : Heading) (format : Format) (game : GameNumbers) (bytes rest : List ℕ) → IsFormatOf heading format → IsGame game
    → StandFirst (first_of heading format ∷ game_line game ∷ []) bytes rest → Outcome heading bytes
after_game (headings.Strategy wanted) format game bytes rest of_format of_game stood =
    side_decided (headings.Strategy wanted) format game (sizes_of game) bytes rest (record { of_format = of_format; of_game = of_game; of_sizes = refl }) stood
after_game headings.Listed format game bytes rest of_format of_game stood =
    sizes_step format game bytes rest of_format of_game stood (decided_next IsSizesLine (λ line whole. decided_sizes line) rest)

range_step : (heading : Heading) (format : Format) (bytes rest : List ℕ) → IsFormatOf heading format → StandFirst (first_of heading format ∷ []) bytes rest
    → (next : HasNext IsGameLine rest) → Decided (IsGame next.form.0) → Outcome heading bytes
range_step heading format bytes rest of_format stood next (inr outside) =
    text_fault_from heading bytes 2 (why.Rule rules.Game)
    (exit_game heading format (Rejected 2 (why.Rule rules.Game)) nothing (Some bytes) (Some []) of_format
    (refused (first_of heading format ∷ []) (IsWrongNext 2 IsGameLine BreaksGame) 2 (why.Rule rules.Game) bytes
    (rest, stood, (refl, record { line = next.line; rest = next.rest; whole = next.whole; split = next.split; form = (refl, (next.form.0, next.form.1, outside)) }))))
range_step heading format bytes rest of_format stood next (inl of_game) =
    let pushed = StandFirst-push (first_of heading format ∷ []) next.line bytes rest next.rest stood next.whole next.split in
    after_game heading format next.form.0 bytes next.rest of_format of_game
    (subst (λ (line : List ℕ). StandFirst (first_of heading format ∷ line ∷ []) bytes next.rest) next.form.1.spelled pushed)

game_step : (heading : Heading) (format : Format) (bytes rest : List ℕ) → IsFormatOf heading format → StandFirst (first_of heading format ∷ []) bytes rest
    → Decided (HasNext IsGameLine rest) → Outcome heading bytes
game_step heading format bytes rest of_format stood (inr never) =
    text_fault_from heading bytes 2 why.Syntax
    (exit_game heading format (Rejected 2 why.Syntax) nothing (Some bytes) (Some []) of_format
    (refused (first_of heading format ∷ []) (IsWrongNext 2 IsGameLine BreaksGame) 2 why.Syntax bytes (rest, stood, (refl, never))))
game_step heading format bytes rest of_format stood (inl next) = range_step heading format bytes rest of_format stood next (decided_game next.form.0)

first_step : (heading : Heading) (bytes : List ℕ) → Decided (HasNext (IsFirstLine heading) bytes) → Outcome heading bytes
first_step heading bytes (inr never) =
    text_fault_from heading bytes 1 why.Syntax
    (exit_first heading (Rejected 1 why.Syntax) nothing (Some bytes) (Some [])
    (refused [] (IsWrongNext 1 (IsFirstLine heading) NoRule) 1 why.Syntax bytes (bytes, record { whole = All-nil IsLine; split = refl }, (refl, never))))
first_step heading bytes (inl next) =
    let pushed = StandFirst-push [] next.line bytes bytes next.rest (record { whole = All-nil IsLine; split = refl }) next.whole next.split in
    game_step heading next.form.0 bytes next.rest next.form.1
    (subst (λ (line : List ℕ). StandFirst (line ∷ []) bytes next.rest) next.form.2 pushed)
    (decided_next IsGameLine (λ line whole. decided_game_line line) next.rest)

pub outcome : (heading : Heading) (bytes : List ℕ) → Outcome heading bytes
outcome heading bytes = first_step heading bytes (decided_next (IsFirstLine heading) (λ line whole. decided_first heading line) bytes)

-- ---- laws

has_no_fault : (heading : Heading) (bytes : List ℕ) → IsTextUnder heading bytes → HasNoFault heading bytes
has_no_fault (headings.Strategy wanted) bytes legal = legal_text_has_no_fault wanted bytes legal
has_no_fault headings.Listed bytes legal = listed_text_has_no_fault bytes legal

none_from : (heading : Heading) (bytes : List ℕ) → Outcome heading bytes → HasFirstFault heading bytes ⊎ HasNoFault heading bytes
none_from heading bytes (inl fault) = inl fault
none_from heading bytes (inr legal) = inr (has_no_fault heading bytes legal)

pub first_fault_or_none : EveryTextHasAFirstFaultOrNone
first_fault_or_none heading bytes = none_from heading bytes (outcome heading bytes)

legal_from_none : (heading : Heading) (bytes : List ℕ) → Outcome heading bytes → HasNoFault heading bytes → IsTextUnder heading bytes
legal_from_none heading bytes (inl fault) none = absurd (none fault.0 fault.1 fault.2.has)
legal_from_none heading bytes (inr legal) none = legal

pub only_legal_texts : OnlyLegalTextsHaveNoFault
only_legal_texts wanted bytes =
    (legal_from_none (headings.Strategy wanted) bytes (outcome (headings.Strategy wanted) bytes), legal_text_has_no_fault wanted bytes)

pub only_legal_listed_texts : OnlyLegalListedTextsHaveNoFault
only_legal_listed_texts bytes = (legal_from_none headings.Listed bytes (outcome headings.Listed bytes), listed_text_has_no_fault bytes)
