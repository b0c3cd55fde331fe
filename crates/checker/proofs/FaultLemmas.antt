-- The first fault of bytes, from the lines that stand first and what is wrong after them.
use Rattle.std.proofs.Common.{◌≡◌, ◌≢◌, ◌==◌, ℕ, ◌+◌, ◌<◌, ◌≤◌, List, [], ◌∷◌, ◌++◌, length, get_or}
use Rattle.std.proofs.Common.{take, map, Option, Some, sym, ap, ◌∙◌, subst, refl, arith, length-append}
use Rattle.std.specs.List.{slice_get}
use Rattle.std.proofs.lemmas.List.{length-map, length_push, append-nil}
use Rattle.std.proofs.lemmas.Option.{slice_get_within, slice_get-get_or}
use Rattle.port_io.specs.Lines.{ReaderState}
use Rattle.items.proofs.ListLemmas.{slice_get-front}
use Rattle.items.specs.Game.{GameNumbers, IsGame}
use Rattle.items.specs.Multiset.{AreSizes}
use Rattle.loads.specs.declared.position.Position.{Position}
use Rattle.strategy_text.specs.Spelling.{SpellsGame, most_nodes}
use Rattle.strategy_text.specs.Text.{AnyNode, node_line, node_lines, game_line, side_line, end_line}
use Rattle.strategy_text.specs.declared.node.Format.{Format}
use Rattle.strategy_text.specs.declared.node.Side.{Side}
use Rattle.strategy_text.specs.declared.rule.Rule.{Rule}
use Rattle.checker.specs.Accepted.{IsFaultUnder, IsTextFaultUnder, IsTextLine}
use Rattle.checker.specs.FirstFault.{HasForm, HasWhole, HasBytesPast, HasPositions, HasSizes, IsWanted, IsFirstLine, IsGameLine, IsSizesLine, IsSideLine, IsCountLine}
use Rattle.checker.specs.FirstFault.{IsFormatOf, first_of, side_place, wanted_of}
use Rattle.checker.specs.FirstFault.{HasHead, HeadFault, first_syntax, game_syntax, game_rule, sizes_syntax, sizes_rule, side_syntax, side_rule, count_syntax, BodyFault}
use Rattle.checker.specs.FirstFault.{node_syntax, node_rule, end_syntax, past_syntax, LineFault, in_head, in_body, FirstFault}
use Rattle.strategies.specs.AnyNode.{position_of, EachMeetsRules}
use Rattle.checker.specs.Head.{Head, MeetsUnder, EachMeetsUnder, IsNodeLine, IsBrokenNodeLine}
use Rattle.checker.specs.Listed.{SpellsSizes}
use Rattle.checker.specs.Progress.{StandFirst, IsWrongNext, IsWrongAfter, RefusesAfter, IsPastEnd, NoRule, BreaksGame, BreaksSizes, BreaksSide, BreaksNode, IsFront, IsHead}
use Rattle.checker.specs.Progress.{front_lines, lines_of_head, AreJudged}
use Rattle.checker.specs.declared.fault.CheckFault.{CheckFault}
use Rattle.checker.specs.declared.fault.CheckFault.TheVariants.{Rejected, Read, Memory}
use Rattle.checker.specs.declared.fault.Heading.{Heading}
use Rattle.checker.specs.declared.fault.Heading.TheVariants as headings
use Rattle.checker.specs.declared.fault.Why.{Why}
use Rattle.checker.specs.declared.fault.Why.TheVariants as why
use Rattle.checker.proofs.HeadLemmas.{game_same, sizes_same, side_same, head_same, first_from, game_from, sizes_from, side_from, head_from}
use Rattle.checker.proofs.HeadLemmas.{side_after, side_before, listed_side, length-front, length-lines_of_head}
use Rattle.checker.proofs.LineLemmas.{no_lf, same_rest, next_from, form_from, line_at, after_get, HasWhole-from, few_whole}
use Rattle.checker.proofs.NodeLemmas.{meets_excludes, HasNodes, node_same, positions_front, HasPositions-from, length-node_lines, node_lines_get}
use Rattle.checker.proofs.ProgressLemmas.{told_all, told_at}

-- ---- no fault before a line

-- nodes stand in their lines, among them one of this number, and each meets every rule
record FaultlessNode (bytes : List ℕ) (head : Head) (k : ℕ) : Type 0 where
  nodes : List AnyNode
  node : AnyNode
  at : slice_get nodes k ≡ Some node
  stand : HasNodes bytes head nodes
  each : EachMeetsUnder head nodes

-- what the lines before line n are after a head, where none of them has a fault
record FaultlessBody (bytes : List ℕ) (head : Head) (n : ℕ) : Type 0 where
  node : (k : ℕ) → k < head.count → head.start + k < n → FaultlessNode bytes head k
  end : head.start + head.count < n → HasForm bytes (head.start + head.count) (λ line. line ≡ end_line)
  past : head.start + head.count + 1 < n → HasBytesPast bytes (head.start + head.count) → ⊥

-- the sizes of line 3, which are sizes of the game of line 2
abbrev pub TellsSizes : List ℕ → Type 0
TellsSizes bytes =
    (game : GameNumbers) × (sizes : List ℕ) × HasForm bytes 2 (λ line. SpellsGame line game) × HasForm bytes 3 (λ line. SpellsSizes line sizes) × AreSizes game.capacity sizes

-- what the lines before line n are, where none of them has a fault
pub record Faultless (heading : Heading) (bytes : List ℕ) (n : ℕ) : Type 0 where
  first : 1 < n → HasForm bytes 1 (IsFirstLine heading)
  game : 2 < n → (game : GameNumbers) × HasForm bytes 2 (λ line. SpellsGame line game) × IsGame game
  sizes : heading ≡ headings.Listed → 3 < n → TellsSizes bytes
  side : side_place heading < n → (side : Side) × HasForm bytes (side_place heading) (λ line. line ≡ side_line side) × IsWanted (wanted_of heading) side
  count : side_place heading + 1 < n → HasForm bytes (side_place heading + 1) IsCountLine
  body : (head : Head) → HasHead heading bytes head → FaultlessBody bytes head n

no_sizes_fault : (bytes : List ℕ) (game : GameNumbers) (sizes : List ℕ) → TellsSizes bytes → HasForm bytes 2 (λ line. SpellsGame line game)
    → HasForm bytes 3 (λ line. SpellsSizes line sizes) → AreSizes game.capacity sizes
no_sizes_fault bytes game sizes t form spelled =
    subst (λ (g : GameNumbers). AreSizes g.capacity sizes) (game_same bytes 2 t.0 game t.2 form)
    (subst (λ (xs : List ℕ). AreSizes (t.0).capacity xs) (sizes_same bytes 3 t.1 sizes t.3 spelled) t.4)

no_head_fault : (heading : Heading) (bytes : List ℕ) (n : ℕ) → Faultless heading bytes n → (line : ℕ) (fault : Why) → line < n → HeadFault heading bytes line fault → ⊥
no_head_fault heading bytes n h line fault low (first_syntax never) = never (h.first low)
no_head_fault heading bytes n h line fault low (game_syntax never) = let g = h.game low in never (g.1.0, g.1.1, (g.0, g.1.2))
no_head_fault heading bytes n h line fault low (game_rule game form never) = let g = h.game low in never (subst IsGame (game_same bytes 2 g.0 game g.1 form) g.2)
no_head_fault heading bytes n h line fault low (sizes_syntax e never) = let t = h.sizes e low in never (t.3.0, t.3.1, (t.1, t.3.2))
no_head_fault heading bytes n h line fault low (sizes_rule e game sizes form of_game spelled never) = never (no_sizes_fault bytes game sizes (h.sizes e low) form spelled)
no_head_fault heading bytes n h line fault low (side_syntax never) = let s = h.side low in never (s.1.0, s.1.1, (s.0, s.1.2))
no_head_fault heading bytes n h line fault low (side_rule side form never) =
    let s = h.side low in never (subst (IsWanted (wanted_of heading)) (side_same bytes (side_place heading) s.0 side s.1 form) s.2)
no_head_fault heading bytes n h line fault low (count_syntax never) = never (h.count low)

-- a node of a list of which each meets every rule
meets_at : (head : Head) (nodes : List AnyNode) (k : ℕ) (node : AnyNode) → EachMeetsUnder head nodes → slice_get nodes k ≡ Some node
    → MeetsUnder head (map position_of (take k nodes)) (k + 1 == head.count) node
unfolding EachMeetsRules
meets_at head nodes k node each at = each k node at

-- a node that meets every rule stands where one is said to break a rule
node_meets : (bytes : List ℕ) (head : Head) (earlier : List Position) (rule : Rule) → head.count ≤ most_nodes → FaultlessNode bytes head (length earlier)
    → length earlier < head.count → HasPositions bytes head earlier → HasForm bytes (head.start + length earlier) (IsBrokenNodeLine head earlier rule) → ⊥
node_meets bytes head earlier rule high f few told form =
    let broken = form.2 in
    let within : length earlier < length f.nodes = slice_get_within f.nodes (length earlier) f.node f.at in
    let same : f.node ≡ broken.0 = node_same bytes head (head.start + length earlier) (length earlier) f.node broken.0 (omega arith) (f.stand (length earlier) f.node f.at)
    (form.0, form.1, broken.1) in
    let front : map position_of (take (length earlier) f.nodes) ≡ earlier = positions_front bytes head f.nodes earlier (omega arith) (omega arith) f.stand told in
    let meets : MeetsUnder head (map position_of (take (length earlier) f.nodes)) (length earlier + 1 == head.count) f.node = meets_at head f.nodes
    (length earlier) f.node f.each f.at in
    let here : MeetsUnder head earlier (length earlier + 1 == head.count) broken.0 =
    subst (λ (n : AnyNode). MeetsUnder head earlier (length earlier + 1 == head.count) n) same
    (subst (λ (ps : List Position). MeetsUnder head ps (length earlier + 1 == head.count) f.node) front meets) in
    meets_excludes head earlier (length earlier + 1 == head.count) broken.0 rule here broken.2

no_body_fault : (bytes : List ℕ) (head : Head) (n : ℕ) → head.count ≤ most_nodes → FaultlessBody bytes head n → (line : ℕ) (fault : Why) → line < n
    → BodyFault bytes head line fault → ⊥
no_body_fault bytes head n high h line fault low (node_syntax k few never) = let f = h.node k few low in let s = f.stand k f.node f.at in never (s.0, s.1, (f.node, s.2))
no_body_fault bytes head n high h line fault low (node_rule earlier rule few told form) = node_meets bytes head earlier rule high (h.node (length earlier) few low) few told form
no_body_fault bytes head n high h line fault low (end_syntax never) = never (h.end low)
no_body_fault bytes head n high h line fault low (past_syntax past) = h.past low past

pub none_below : (heading : Heading) (bytes : List ℕ) (n : ℕ) → Faultless heading bytes n → (line : ℕ) (fault : Why) → line < n → LineFault heading bytes line fault → ⊥
none_below heading bytes n h line fault low (in_head f) = no_head_fault heading bytes n h line fault low f
none_below heading bytes n h line fault low (in_body head has f) = no_body_fault bytes head n has.nodes.2.high (h.body head has) line fault low f

FirstFault-at : (heading : Heading) (bytes : List ℕ) (n line : ℕ) (fault : Why) → line ≡ n → LineFault heading bytes n fault → Faultless heading bytes n
    → FirstFault heading bytes line fault
FirstFault-at heading bytes n line fault e f clean = record {
  has = subst (λ (i : ℕ). LineFault heading bytes i fault) (sym e) f;
  first = λ earlier other low g. none_below heading bytes n clean earlier other (omega arith) g;
}

-- ---- lines that stand first have no fault

-- head lines, of which not more than all stand
Faultless-head : (heading : Heading) (bytes : List ℕ) (n : ℕ) → n ≤ side_place heading + 2 → (1 < n → HasForm bytes 1 (IsFirstLine heading))
    → (2 < n → (game : GameNumbers) × HasForm bytes 2 (λ line. SpellsGame line game) × IsGame game) → (heading ≡ headings.Listed → 3 < n → TellsSizes bytes)
    → (side_place heading < n → (side : Side) × HasForm bytes (side_place heading) (λ line. line ≡ side_line side) × IsWanted (wanted_of heading) side)
    → (side_place heading + 1 < n → HasForm bytes (side_place heading + 1) IsCountLine) → Faultless heading bytes n
Faultless-head heading bytes n low first game sizes side count = record {
  first = first;
  game = game;
  sizes = sizes;
  side = side;
  count = count;
  body = λ head has. record {
    node = λ k few past. absurd (omega (arith, has.start));
    end = λ past. absurd (omega (arith, has.start));
    past = λ past. absurd (omega (arith, has.start));
  };
}

slice_at : (nodes : List AnyNode) (k : ℕ) → k < length nodes → (node : AnyNode) × (slice_get nodes k ≡ Some node)
slice_at [] k within = absurd (omega arith)
slice_at (node ∷ nodes) k within = let at = get_or (node ∷ nodes) k node in (at, slice_get-get_or (node ∷ nodes) k node within)

listed_told : (heading : Heading) (bytes : List ℕ) (game : GameNumbers) (sizes : List ℕ) → heading ≡ headings.Listed → HasForm bytes 2 (λ line. SpellsGame line game)
    → HasSizes heading bytes game sizes → TellsSizes bytes
listed_told heading bytes game sizes e numbers has =
    let told = subst (λ (h : Heading). HasSizes h bytes game sizes) e has in (game, sizes, numbers, told.0, told.1)

-- a head, nodes and maybe more
pub Faultless-body : (heading : Heading) (bytes : List ℕ) (n : ℕ) (head : Head) (nodes : List AnyNode) → HasHead heading bytes head → HasNodes bytes head nodes
    → EachMeetsUnder head nodes → ((k : ℕ) → k < head.count → head.start + k < n → k < length nodes)
    → (head.start + head.count < n → HasForm bytes (head.start + head.count) (λ line. line ≡ end_line))
    → (head.start + head.count + 1 < n → HasBytesPast bytes (head.start + head.count) → ⊥) → Faultless heading bytes n
Faultless-body heading bytes n head nodes has stand each reach end past = record {
  first = λ low. (has.first.0, has.first.1, (head.format, has.of_format, has.first.2));
  game = λ low. (head.game, has.numbers, has.of_game);
  sizes = λ e low. listed_told heading bytes head.game head.sizes e has.numbers has.sizes;
  side = λ low. (head.side, has.side, has.wanted_side);
  count = λ low. (has.nodes.0, has.nodes.1, (head.count, has.nodes.2));
  body = λ other told. subst (λ (h : Head). FaultlessBody bytes h n) (head_same heading bytes head other has told) (record {
    node = λ k few low.
        (let at = slice_at nodes k (reach k few low) in
        record { nodes = nodes; node = at.0; at = at.1; stand = stand; each = each });
    end = end;
    past = past;
  });
}

-- nodes whose lines stand after the head lines
pub HasNodes-from : (heading : Heading) (head : Head) (nodes : List AnyNode) (more : List (List ℕ)) (bytes rest : List ℕ) → head.start ≡ side_place heading + 2
    → AreJudged head nodes → StandFirst (lines_of_head heading head ++ (node_lines 0 nodes ++ more)) bytes rest → HasNodes bytes head nodes
HasNodes-from heading head nodes more bytes rest start judged stood k node e =
    let line : List ℕ = node_line k node in
    let get : slice_get (node_lines 0 nodes ++ more) k ≡ Some line = slice_get-front (node_lines 0 nodes) more k line
    (node_lines_get 0 nodes k node e ∙ ap (λ (i : ℕ). Some (node_line i node)) (omega arith)) in (
      line,
      line_at (lines_of_head heading head ++ (node_lines 0 nodes ++ more)) bytes rest (length (lines_of_head heading head) + k) (head.start + k) line stood
          (after_get (lines_of_head heading head) (node_lines 0 nodes ++ more) k line get) (omega (arith, start, length-lines_of_head heading head)),
      judged.spelled k node e,
    )

-- ---- what was refused is the first fault

-- What is wrong after lines that have no fault is the first fault. Where a read failed after them, no whole line has a fault.
conclude : (heading : Heading) (given : List (List ℕ)) (Wrong : CheckFault → List ℕ → Type 0) (fault : CheckFault) (old : ReaderState) (left new_left : Option (List ℕ))
    → ((bytes rest : List ℕ) → StandFirst given bytes rest → Faultless heading bytes (length given + 1))
    → ((bytes rest : List ℕ) (line : ℕ) (cause : Why) → StandFirst given bytes rest → Wrong (Rejected line cause) rest → (line ≡ length given + 1)
    × LineFault heading bytes (length given + 1) cause) → RefusesAfter given Wrong fault old left new_left → IsFaultUnder heading old.held fault left new_left
conclude heading given Wrong (Rejected line cause) old left new_left clean wrong r =
    let first : (bytes : List ℕ) → IsWrongAfter given Wrong (Rejected line cause) bytes
    → FirstFault heading bytes line cause = λ bytes w. (let f = wrong bytes w.0 line cause w.1 w.2 in FirstFault-at heading bytes (length given + 1) line cause f.0 f.1
    (clean bytes w.0 w.1)) in
    record {
      read = r.read;
      gone = r.gone;
      first = first (old.held ++ r.read) r.in_hand;
      first_of_input = told_all (λ bytes. FirstFault heading (old.held ++ bytes) line cause) left
          (λ bytes e. first (old.held ++ bytes) (told_at (λ bytes. IsWrongAfter given Wrong (Rejected line cause) (old.held ++ bytes)) left bytes r.in_all e));
    }
conclude heading given Wrong Read old left new_left clean wrong r =
    let n = r.no_line refl in
    record {
      read = r.read;
      gone = r.gone;
      faultless = λ line rest fault whole f. none_below heading (old.held ++ r.read) (length given + 1) (clean (old.held ++ r.read) n.0 n.1) line fault
          (omega (arith, few_whole given (old.held ++ r.read) n.0 rest line n.1 n.2 whole)) f;
    }
conclude heading given Wrong Memory old left new_left clean wrong r = (r.read, r.gone)

-- Where the line that comes next is one of the text, the first fault is in a line of the text.
conclude_text : (heading : Heading) (given : List (List ℕ)) (Wrong : CheckFault → List ℕ → Type 0) (fault : CheckFault) (old : ReaderState) (left new_left : Option (List ℕ))
    → ((bytes rest : List ℕ) → StandFirst given bytes rest → Faultless heading bytes (length given + 1))
    → ((bytes rest : List ℕ) (line : ℕ) (cause : Why) → StandFirst given bytes rest → Wrong (Rejected line cause) rest → (line ≡ length given + 1)
    × LineFault heading bytes (length given + 1) cause)
    → ((bytes rest : List ℕ) (head : Head) → StandFirst given bytes rest → HasHead heading bytes head → length given + 1 ≤ head.start + head.count)
    → RefusesAfter given Wrong fault old left new_left → IsTextFaultUnder heading old.held fault left new_left
unfolding conclude
conclude_text heading given Wrong (Rejected line cause) old left new_left clean wrong high r =
    let of_text : (bytes : List ℕ) → IsWrongAfter given Wrong (Rejected line cause) bytes → IsTextLine heading bytes line = λ bytes w.
    (let f = wrong bytes w.0 line cause w.1 w.2 in
    let place : line ≡ length given + 1 = f.0 in
    (omega (arith, place), λ head has. omega (arith, place, high bytes w.0 head w.1 has))) in
    record {
      rejects = conclude heading given Wrong (Rejected line cause) old left new_left clean wrong r;
      of_text = of_text (old.held ++ r.read) r.in_hand;
      of_text_of_input = told_all (λ bytes. IsTextLine heading (old.held ++ bytes) line) left
          (λ bytes e. of_text (old.held ++ bytes) (told_at (λ bytes. IsWrongAfter given Wrong (Rejected line cause) (old.held ++ bytes)) left bytes r.in_all e));
    }
conclude_text heading given Wrong Read old left new_left clean wrong high r =
    let n = r.no_line refl in
    let cut = conclude heading given Wrong Read old left new_left clean wrong r in
    record {
      read = cut.read;
      gone = cut.gone;
      faultless = cut.faultless;
      unfinished = λ head rest has whole. absurd (omega (
        arith,
        few_whole given (old.held ++ r.read) n.0 rest (head.start + head.count) n.1 n.2 whole,
        high (old.held ++ r.read) n.0 head n.1 has,
      ));
    }
conclude_text heading given Wrong Memory old left new_left clean wrong high r = (r.read, r.gone)

-- what is wrong with line n
abbrev RefusedAt : List ℕ → ℕ → (List ℕ → Type 0) → (Why → List ℕ → Type 0) → Why → Type 0
RefusedAt bytes n Form Breaking why.Syntax = HasForm bytes n Form → ⊥
RefusedAt bytes n Form Breaking (why.Rule rule) = HasForm bytes n (Breaking (why.Rule rule))
RefusedAt bytes n Form Breaking why.Sizes = HasForm bytes n (Breaking why.Sizes)

refused_at : (given : List (List ℕ)) (n : ℕ) (Form : List ℕ → Type 0) (Breaking : Why → List ℕ → Type 0) (bytes rest : List ℕ) (line : ℕ) (cause : Why) → length given + 1 ≡ n
    → StandFirst given bytes rest → IsWrongNext n Form Breaking (Rejected line cause) rest → (line ≡ n) × RefusedAt bytes n Form Breaking cause
refused_at given n Form Breaking bytes rest line why.Syntax place stood h = (h.0, λ form. h.1 (next_from given bytes rest n Form stood place form))
refused_at given n Form Breaking bytes rest line (why.Rule rule) place stood h = (h.0, form_from given bytes rest n (Breaking (why.Rule rule)) stood place h.1)
refused_at given n Form Breaking bytes rest line why.Sizes place stood h = (h.0, form_from given bytes rest n (Breaking why.Sizes) stood place h.1)

first_fault : (heading : Heading) (bytes : List ℕ) (cause : Why) → RefusedAt bytes 1 (IsFirstLine heading) NoRule cause → LineFault heading bytes 1 cause
first_fault heading bytes why.Syntax h = in_head (first_syntax h)
first_fault heading bytes (why.Rule rule) h = absurd h.2
first_fault heading bytes why.Sizes h = absurd h.2

game_broken : (heading : Heading) (bytes : List ℕ) (cause : Why) → HasForm bytes 2 (BreaksGame cause) → LineFault heading bytes 2 cause
game_broken heading bytes cause h =
    let breaks = h.2 in
    subst (λ (c : Why). LineFault heading bytes 2 c) (sym breaks.0) (in_head (game_rule breaks.1.0 (h.0, h.1, breaks.1.1) breaks.1.2))

game_fault : (heading : Heading) (bytes : List ℕ) (cause : Why) → RefusedAt bytes 2 IsGameLine BreaksGame cause → LineFault heading bytes 2 cause
game_fault heading bytes why.Syntax h = in_head (game_syntax h)
game_fault heading bytes (why.Rule rule) h = game_broken heading bytes (why.Rule rule) h
game_fault heading bytes why.Sizes h = game_broken heading bytes why.Sizes h

sizes_broken : (heading : Heading) (bytes : List ℕ) (game : GameNumbers) (cause : Why) → heading ≡ headings.Listed → HasForm bytes 2 (λ line. SpellsGame line game) → IsGame game
    → HasForm bytes 3 (BreaksSizes game cause) → LineFault heading bytes 3 cause
sizes_broken heading bytes game cause e form of_game h =
    let breaks = h.2 in
    subst (λ (c : Why). LineFault heading bytes 3 c) (sym breaks.0) (in_head (sizes_rule e game breaks.1.0 form of_game (h.0, h.1, breaks.1.1) breaks.1.2))

sizes_fault : (heading : Heading) (bytes : List ℕ) (game : GameNumbers) (cause : Why) → heading ≡ headings.Listed → HasForm bytes 2 (λ line. SpellsGame line game) → IsGame game
    → RefusedAt bytes 3 IsSizesLine (BreaksSizes game) cause → LineFault heading bytes 3 cause
sizes_fault heading bytes game why.Syntax e form of_game h = in_head (sizes_syntax e h)
sizes_fault heading bytes game (why.Rule rule) e form of_game h = sizes_broken heading bytes game (why.Rule rule) e form of_game h
sizes_fault heading bytes game why.Sizes e form of_game h = sizes_broken heading bytes game why.Sizes e form of_game h

side_broken : (heading : Heading) (bytes : List ℕ) (cause : Why) → HasForm bytes (side_place heading) (BreaksSide (wanted_of heading) cause)
    → LineFault heading bytes (side_place heading) cause
side_broken heading bytes cause h =
    let breaks = h.2 in
    subst (λ (c : Why). LineFault heading bytes (side_place heading) c) (sym breaks.0) (in_head (side_rule breaks.1.0 (h.0, h.1, breaks.1.1) breaks.1.2))

side_fault : (heading : Heading) (bytes : List ℕ) (cause : Why) → RefusedAt bytes (side_place heading) IsSideLine (BreaksSide (wanted_of heading)) cause
    → LineFault heading bytes (side_place heading) cause
side_fault heading bytes why.Syntax h = in_head (side_syntax h)
side_fault heading bytes (why.Rule rule) h = side_broken heading bytes (why.Rule rule) h
side_fault heading bytes why.Sizes h = side_broken heading bytes why.Sizes h

count_fault : (heading : Heading) (bytes : List ℕ) (cause : Why) → RefusedAt bytes (side_place heading + 1) IsCountLine NoRule cause
    → LineFault heading bytes (side_place heading + 1) cause
count_fault heading bytes why.Syntax h = in_head (count_syntax h)
count_fault heading bytes (why.Rule rule) h = absurd h.2
count_fault heading bytes why.Sizes h = absurd h.2

-- ---- where a head line was refused

pub exit_first : (heading : Heading) (fault : CheckFault) (old : ReaderState) (left new_left : Option (List ℕ))
    → RefusesAfter [] (IsWrongNext 1 (IsFirstLine heading) NoRule) fault old left new_left → IsTextFaultUnder heading old.held fault left new_left
exit_first heading fault old left new_left r =
    let low = side_after heading in
    conclude_text heading [] (IsWrongNext 1 (IsFirstLine heading) NoRule) fault old left new_left
    (λ bytes rest stood. Faultless-head heading bytes 1 (omega (arith, low)) (λ l. absurd (omega arith)) (λ l. absurd (omega arith)) (λ e l. absurd (omega arith))
    (λ l. absurd (omega (arith, low))) (λ l. absurd (omega (arith, low))))
    (λ bytes rest line cause stood w. let f = refused_at [] 1 (IsFirstLine heading) NoRule bytes rest line cause refl stood w in (f.0, first_fault heading bytes cause f.1))
    (λ bytes rest head stood has. omega (arith, has.start, low))
    r

pub exit_game : (heading : Heading) (format : Format) (fault : CheckFault) (old : ReaderState) (left new_left : Option (List ℕ)) → IsFormatOf heading format
    → RefusesAfter (first_of heading format ∷ []) (IsWrongNext 2 IsGameLine BreaksGame) fault old left new_left → IsTextFaultUnder heading old.held fault left new_left
exit_game heading format fault old left new_left of_format r =
    let low = side_after heading in
    conclude_text heading (first_of heading format ∷ []) (IsWrongNext 2 IsGameLine BreaksGame) fault old left new_left
    (λ bytes rest stood. let one = first_from heading format [] bytes rest stood in Faultless-head heading bytes 2 (omega (arith, low))
    (λ l. (one.0, one.1, (format, of_format, one.2)))
    (λ l. absurd (omega arith)) (λ e l. absurd (omega arith)) (λ l. absurd (omega (arith, low))) (λ l. absurd (omega (arith, low))))
    (λ bytes rest line cause stood w. let f = refused_at (first_of heading format ∷ []) 2 IsGameLine BreaksGame bytes rest line cause refl stood w in
    (f.0, game_fault heading bytes cause f.1))
    (λ bytes rest head stood has. omega (arith, has.start, low))
    r

pub exit_sizes : (heading : Heading) (format : Format) (game : GameNumbers) (fault : CheckFault) (old : ReaderState) (left new_left : Option (List ℕ)) → heading ≡ headings.Listed
    → IsFormatOf heading format → IsGame game → RefusesAfter (first_of heading format ∷ game_line game ∷ []) (IsWrongNext 3 IsSizesLine (BreaksSizes game)) fault old left new_left
    → IsTextFaultUnder heading old.held fault left new_left
exit_sizes heading format game fault old left new_left e of_format of_game r =
    let four = listed_side heading e in
    conclude_text heading (first_of heading format ∷ game_line game ∷ []) (IsWrongNext 3 IsSizesLine (BreaksSizes game)) fault old left new_left
    (λ bytes rest stood.
    let one = first_from heading format (game_line game ∷ []) bytes rest stood in
    Faultless-head heading bytes 3 (omega (arith, four)) (λ l. (one.0, one.1, (format, of_format, one.2)))
    (λ l. (game, game_from (first_of heading format) game [] bytes rest of_game stood, of_game)) (λ e l. absurd (omega arith))
    (λ l. absurd (omega (arith, four))) (λ l. absurd (omega (arith, four))))
    (λ bytes rest line cause stood w.
    let f = refused_at (first_of heading format ∷ game_line game ∷ []) 3 IsSizesLine (BreaksSizes game) bytes rest line cause refl stood w in
    (f.0, sizes_fault heading bytes game cause e (game_from (first_of heading format) game [] bytes rest of_game stood) of_game f.1))
    (λ bytes rest head stood has. omega (arith, has.start, four))
    r

-- the head lines up to that of the sizes stand first, and no line before the next one has a fault
Faultless-front : (heading : Heading) (format : Format) (game : GameNumbers) (sizes : List ℕ) (more : List (List ℕ)) (bytes rest : List ℕ) (n : ℕ) → IsFront heading format game sizes
    → StandFirst (front_lines heading format game sizes ++ more) bytes rest → n ≤ side_place heading + 2
    → (side_place heading < n → (side : Side) × HasForm bytes (side_place heading) (λ line. line ≡ side_line side) × IsWanted (wanted_of heading) side)
    → (side_place heading + 1 < n → HasForm bytes (side_place heading + 1) IsCountLine) → Faultless heading bytes n
Faultless-front heading format game sizes more bytes rest n is stood low side count =
    let one = first_from heading format _ bytes rest stood in
    let two = game_from (first_of heading format) game _ bytes rest is.of_game stood in
    Faultless-head heading bytes n low (λ l. (one.0, one.1, (format, is.of_format, one.2))) (λ l. (game, two, is.of_game))
    (λ e l. listed_told heading bytes game sizes e two (sizes_from heading format game sizes more bytes rest is stood)) side count

pub exit_side : (heading : Heading) (format : Format) (game : GameNumbers) (sizes : List ℕ) (fault : CheckFault) (old : ReaderState) (left new_left : Option (List ℕ))
    → IsFront heading format game sizes
    → RefusesAfter (front_lines heading format game sizes) (IsWrongNext (side_place heading) IsSideLine (BreaksSide (wanted_of heading))) fault old left new_left
    → IsTextFaultUnder heading old.held fault left new_left
exit_side heading format game sizes fault old left new_left is r =
    let given : List (List ℕ) = front_lines heading format game sizes in
    let place : length given + 1 ≡ side_place heading = length-front heading format game sizes in
    conclude_text heading given (IsWrongNext (side_place heading) IsSideLine (BreaksSide (wanted_of heading))) fault old left new_left
    (λ bytes rest stood.
    Faultless-front heading format game sizes [] bytes rest (length given + 1) is (subst (λ (lines : List (List ℕ)). StandFirst lines bytes rest) (sym (append-nil given)) stood)
    (omega (arith, place)) (λ l. absurd (omega (arith, place, l))) (λ l. absurd (omega (arith, place, l))))
    (λ bytes rest line cause stood w.
    let f = refused_at given (side_place heading) IsSideLine (BreaksSide (wanted_of heading)) bytes rest line cause place stood w in
    (f.0 ∙ sym place, subst (λ (i : ℕ). LineFault heading bytes i cause) (sym place) (side_fault heading bytes cause f.1)))
    (λ bytes rest head stood has. omega (arith, has.start, place))
    r

pub exit_count : (heading : Heading) (format : Format) (game : GameNumbers) (sizes : List ℕ) (side : Side) (fault : CheckFault) (old : ReaderState) (left new_left : Option (List ℕ))
    → IsFront heading format game sizes → IsWanted (wanted_of heading) side
    → RefusesAfter (front_lines heading format game sizes ++ side_line side ∷ []) (IsWrongNext (side_place heading + 1) IsCountLine NoRule) fault old left new_left
    → IsTextFaultUnder heading old.held fault left new_left
exit_count heading format game sizes side fault old left new_left is of_side r =
    let front : List (List ℕ) = front_lines heading format game sizes in
    let given : List (List ℕ) = front ++ side_line side ∷ [] in
    let place : length given + 1 ≡ side_place heading + 1 = omega (arith, length_push front (side_line side), length-front heading format game sizes) in
    conclude_text heading given (IsWrongNext (side_place heading + 1) IsCountLine NoRule) fault old left new_left
    (λ bytes rest stood.
    Faultless-front heading format game sizes (side_line side ∷ []) bytes rest (length given + 1) is stood
    (omega (arith, place)) (λ l. (side, side_from heading format game sizes side [] bytes rest stood, of_side)) (λ l. absurd (omega (arith, place, l))))
    (λ bytes rest line cause stood w.
    let f = refused_at given (side_place heading + 1) IsCountLine NoRule bytes rest line cause place stood w in
    (f.0 ∙ sym place, subst (λ (i : ℕ). LineFault heading bytes i cause) (sym place) (count_fault heading bytes cause f.1)))
    (λ bytes rest head stood has. omega (arith, has.start, place))
    r

-- ---- where a line after the head was refused

-- the bytes in which a head and nodes stand first
record Stands (heading : Heading) (head : Head) (nodes : List AnyNode) (bytes : List ℕ) : Type 0 where
  has : HasHead heading bytes head
  stand : HasNodes bytes head nodes

stands_from : (heading : Heading) (head : Head) (nodes : List AnyNode) (more : List (List ℕ)) (bytes rest : List ℕ) → IsHead heading head → AreJudged head nodes
    → StandFirst (lines_of_head heading head ++ (node_lines 0 nodes ++ more)) bytes rest → Stands heading head nodes bytes
stands_from heading head nodes more bytes rest is judged stood = record {
  has = head_from heading head (node_lines 0 nodes ++ more) bytes rest is stood;
  stand = HasNodes-from heading head nodes more bytes rest is.start judged stood;
}

node_fault : (heading : Heading) (head : Head) (nodes : List AnyNode) (bytes : List ℕ) (cause : Why) → Stands heading head nodes bytes → length nodes < head.count
    → RefusedAt bytes (head.start + length nodes) (IsNodeLine head (length nodes)) (BreaksNode head (map position_of nodes)) cause
    → LineFault heading bytes (head.start + length nodes) cause
node_fault heading head nodes bytes why.Syntax s few h = in_body head s.has (node_syntax (length nodes) few h)
node_fault heading head nodes bytes why.Sizes s few h = absurd h.2
node_fault heading head nodes bytes (why.Rule rule) s few h =
    let same : length (map position_of nodes) ≡ length nodes = length-map nodes position_of in
    in_body head s.has
    (subst (λ (i : ℕ). BodyFault bytes head (head.start + i) (why.Rule rule)) same
    (node_rule (map position_of nodes) rule (omega (arith, same)) (HasPositions-from bytes head nodes s.stand)
    (subst (λ (i : ℕ). HasForm bytes (head.start + i) (IsBrokenNodeLine head (map position_of nodes) rule)) (sym same) h)))

pub exit_node : (heading : Heading) (head : Head) (nodes : List AnyNode) (fault : CheckFault) (old : ReaderState) (left new_left : Option (List ℕ)) → IsHead heading head
    → AreJudged head nodes → length nodes < head.count
    → RefusesAfter (lines_of_head heading head ++ node_lines 0 nodes) (IsWrongNext (head.start + length nodes) (IsNodeLine head (length nodes))
    (BreaksNode head (map position_of nodes))) fault old left new_left → IsTextFaultUnder heading old.held fault left new_left
exit_node heading head nodes fault old left new_left is judged few r =
    let given : List (List ℕ) = lines_of_head heading head ++ node_lines 0 nodes in
    let place : length given + 1 ≡ head.start + length nodes = omega (arith, length-append (lines_of_head heading head) (node_lines 0 nodes), length-lines_of_head heading head, length-node_lines 0 nodes, is.start) in
    let stands = λ (bytes rest : List ℕ) (stood : StandFirst given bytes rest). stands_from heading head nodes [] bytes rest is judged
    (subst (λ (lines : List (List ℕ)). StandFirst (lines_of_head heading head ++ lines) bytes rest) (sym (append-nil (node_lines 0 nodes))) stood) in
    conclude_text heading given (IsWrongNext (head.start + length nodes) (IsNodeLine head (length nodes)) (BreaksNode head (map position_of nodes))) fault old left new_left
    (λ bytes rest stood.
    let s = stands bytes rest stood in
    Faultless-body heading bytes (length given + 1) head nodes s.has s.stand judged.each (λ k low past. omega (arith, place)) (λ past. absurd (omega (arith, place)))
    (λ past. absurd (omega (arith, place))))
    (λ bytes rest line cause stood w.
    let f = refused_at given (head.start + length nodes) (IsNodeLine head (length nodes)) (BreaksNode head (map position_of nodes)) bytes rest line cause place stood w in
    (f.0 ∙ sym place, subst (λ (i : ℕ). LineFault heading bytes i cause) (sym place) (node_fault heading head nodes bytes cause (stands bytes rest stood) few f.1)))
    (λ bytes rest other stood told. subst (λ (h : Head). length given + 1 ≤ h.start + h.count) (head_same heading bytes head other (stands bytes rest stood).has told)
    (omega (arith, place, few)))
    r

end_fault : (heading : Heading) (head : Head) (bytes : List ℕ) (cause : Why) → HasHead heading bytes head
    → RefusedAt bytes (head.start + head.count) (λ line. line ≡ end_line) NoRule cause → LineFault heading bytes (head.start + head.count) cause
end_fault heading head bytes why.Syntax has h = in_body head has (end_syntax h)
end_fault heading head bytes (why.Rule rule) has h = absurd h.2
end_fault heading head bytes why.Sizes has h = absurd h.2

pub exit_end : (heading : Heading) (head : Head) (nodes : List AnyNode) (fault : CheckFault) (old : ReaderState) (left new_left : Option (List ℕ)) → IsHead heading head
    → AreJudged head nodes → length nodes ≡ head.count
    → RefusesAfter (lines_of_head heading head ++ node_lines 0 nodes) (IsWrongNext (head.start + head.count) (λ line. line ≡ end_line) NoRule) fault old left new_left
    → IsTextFaultUnder heading old.held fault left new_left
exit_end heading head nodes fault old left new_left is judged all r =
    let given : List (List ℕ) = lines_of_head heading head ++ node_lines 0 nodes in
    let place : length given + 1 ≡ head.start + head.count = omega (arith, length-append (lines_of_head heading head) (node_lines 0 nodes), length-lines_of_head heading head, length-node_lines 0 nodes, is.start, all) in
    let stands = λ (bytes rest : List ℕ) (stood : StandFirst given bytes rest). stands_from heading head nodes [] bytes rest is judged
    (subst (λ (lines : List (List ℕ)). StandFirst (lines_of_head heading head ++ lines) bytes rest) (sym (append-nil (node_lines 0 nodes))) stood) in
    conclude_text heading given (IsWrongNext (head.start + head.count) (λ line. line ≡ end_line) NoRule) fault old left new_left
    (λ bytes rest stood.
    let s = stands bytes rest stood in
    Faultless-body heading bytes (length given + 1) head nodes s.has s.stand judged.each (λ k low past. omega (arith, all)) (λ past. absurd (omega (arith, place)))
    (λ past. absurd (omega (arith, place))))
    (λ bytes rest line cause stood w.
    let f = refused_at given (head.start + head.count) (λ line. line ≡ end_line) NoRule bytes rest line cause place stood w in
    (f.0 ∙ sym place, subst (λ (i : ℕ). LineFault heading bytes i cause) (sym place) (end_fault heading head bytes cause (stands bytes rest stood).has f.1)))
    (λ bytes rest other stood told. subst (λ (h : Head). length given + 1 ≤ h.start + h.count) (head_same heading bytes head other (stands bytes rest stood).has told)
    (omega (arith, place)))
    r

past_fault : (n line : ℕ) (cause : Why) (rest : List ℕ) → IsPastEnd n (Rejected line cause) rest → (line ≡ n) × (cause ≡ why.Syntax) × (rest ≢ [])
past_fault n line why.Syntax rest h = (h.0, refl, h.1)
past_fault n line (why.Rule rule) rest h = absurd h
past_fault n line why.Sizes rest h = absurd h

-- the lines of a whole text
abbrev pub lines_of_text : Heading → Head → List AnyNode → List (List ℕ)
lines_of_text heading head nodes = lines_of_head heading head ++ (node_lines 0 nodes ++ end_line ∷ [])

pub length-lines_of_text : (heading : Heading) (head : Head) (nodes : List AnyNode) → length (lines_of_text heading head nodes) ≡ side_place heading + 2 + length nodes
length-lines_of_text heading head nodes = omega (
  arith,
  length-append (lines_of_head heading head) (node_lines 0 nodes ++ end_line ∷ []),
  length_push (node_lines 0 nodes) end_line,
  length-node_lines 0 nodes,
  length-lines_of_head heading head,
)

-- where a whole text stands first, no line up to its last has a fault
pub Faultless-text : (heading : Heading) (head : Head) (nodes : List AnyNode) (bytes rest : List ℕ) → IsHead heading head → AreJudged head nodes → length nodes ≡ head.count
    → StandFirst (lines_of_text heading head nodes) bytes rest → Faultless heading bytes (head.start + head.count + 1)
Faultless-text heading head nodes bytes rest is judged all stood =
    let s = stands_from heading head nodes (end_line ∷ []) bytes rest is judged stood in
    let get : slice_get (lines_of_text heading head nodes) (length (lines_of_head heading head) + (length (node_lines 0 nodes) + 0)) ≡ Some end_line = after_get (lines_of_head heading head) (node_lines 0 nodes ++ end_line ∷ [])
    (length (node_lines 0 nodes) + 0) end_line (after_get (node_lines 0 nodes) (end_line ∷ []) 0 end_line refl) in
    let end : HasForm bytes (head.start + head.count) (λ line. line ≡ end_line) = (
      end_line,
      line_at (lines_of_text heading head nodes) bytes rest (length (lines_of_head heading head) + (length (node_lines 0 nodes) + 0))
          (head.start + head.count) end_line stood get (omega (arith, length-node_lines 0 nodes, length-lines_of_head heading head, is.start, all)),
      refl,
    ) in
    Faultless-body heading bytes (head.start + head.count + 1) head nodes s.has s.stand judged.each (λ k low past. omega (arith, all)) (λ past. end) (λ past. absurd (omega arith))

-- no line of a whole text has a fault
pub no_fault_in_whole : (heading : Heading) (head : Head) (nodes : List AnyNode) (bytes : List ℕ) → IsHead heading head → AreJudged head nodes → length nodes ≡ head.count
    → StandFirst (lines_of_text heading head nodes) bytes [] → (line : ℕ) (fault : Why) → LineFault heading bytes line fault → ⊥
no_fault_in_whole heading head nodes bytes is judged all stood line fault f =
    let lines : List (List ℕ) = lines_of_text heading head nodes in
    let s = stands_from heading head nodes (end_line ∷ []) bytes [] is judged stood in
    let clean = Faultless-text heading head nodes bytes [] is judged all stood in
    let body = clean.body head s.has in
    let past : HasBytesPast bytes (head.start + head.count) → ⊥ =
    λ p. p.2 (same_rest p.1.lines lines p.0 [] p.1.each (no_lf lines stood.whole) (omega (arith, p.1.place, length-lines_of_text heading head nodes, is.start, all))
    (sym p.1.split ∙ stood.split)) in
    none_below heading bytes (line + 1) (Faultless-body heading bytes (line + 1) head nodes s.has s.stand judged.each (λ k few far. omega (arith, all, few))
    (λ far. body.end (omega arith)) (λ far. past)) line fault (omega arith) f

pub exit_past : (heading : Heading) (head : Head) (nodes : List AnyNode) (fault : CheckFault) (old : ReaderState) (left new_left : Option (List ℕ)) → IsHead heading head
    → AreJudged head nodes → length nodes ≡ head.count → RefusesAfter (lines_of_text heading head nodes) (IsPastEnd (head.start + head.count + 1)) fault old left new_left
    → IsFaultUnder heading old.held fault left new_left
exit_past heading head nodes fault old left new_left is judged all r =
    let place : length (lines_of_text heading head nodes) + 1 ≡ head.start + head.count + 1 = omega (arith, length-lines_of_text heading head nodes, is.start, all) in
    conclude heading (lines_of_text heading head nodes) (IsPastEnd (head.start + head.count + 1)) fault old left new_left
    (λ bytes rest stood. subst (λ (i : ℕ). Faultless heading bytes i) (sym place) (Faultless-text heading head nodes bytes rest is judged all stood))
    (λ bytes rest line cause stood w.
    let p = past_fault (head.start + head.count + 1) line cause rest w in
    let s = stands_from heading head nodes (end_line ∷ []) bytes rest is judged stood in
    let whole : HasWhole bytes (head.start + head.count) rest = subst
    (λ (i : ℕ). HasWhole bytes i rest) (omega (arith, place)) (HasWhole-from (lines_of_text heading head nodes) bytes rest stood) in (
      p.0 ∙ sym place,
      subst (λ (i : ℕ). LineFault heading bytes i cause) (sym place) (subst
          (λ (c : Why). LineFault heading bytes (head.start + head.count + 1) c) (sym p.1) (in_body head s.has (past_syntax (rest, whole, p.2)))),
    ))
    r
