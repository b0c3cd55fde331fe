-- A text has at most one first fault.
use Rattle.std.proofs.Common.{◌≡◌, ◌==◌, ℕ, ◌+◌, ◌<◌, ◌≤◌, List, length, sym, ap, ◌∙◌, subst, refl, arith, ⊎_elim}
use Rattle.std.proofs.lemmas.Bool.{cases_lt}
use Rattle.std.proofs.lemmas.Option.{slice_get_within}
use Rattle.items.specs.Game.{GameNumbers}
use Rattle.loads.specs.declared.position.Position.{Position}
use Rattle.strategy_text.specs.Spelling.{SpellsGame, most_child, most_nodes}
use Rattle.strategy_text.specs.Text.{AnyNode, side_line}
use Rattle.strategy_text.specs.declared.node.Side.{Side}
use Rattle.strategy_text.specs.declared.rule.Rule.{Rule}
use Rattle.strategy_text.proofs.NodesSame.{line_tells}
use Rattle.checker.specs.declared.fault.Heading.{Heading}
use Rattle.checker.specs.declared.fault.Heading.TheVariants as headings
use Rattle.checker.specs.declared.fault.Why.{Why}
use Rattle.checker.specs.declared.fault.Why.TheVariants as why
use Rattle.strategies.specs.AnyNode.{position_of}
use Rattle.checker.specs.Head.{Head, BreaksUnder, IsNodeLine, IsNodeLineAt, IsBrokenNodeLine}
use Rattle.checker.specs.FirstFault.{HasForm, HasPositions, HeadFault, first_syntax, game_syntax, game_rule, sizes_syntax, sizes_rule, side_syntax, side_rule, count_syntax, BodyFault, node_syntax}
use Rattle.checker.specs.FirstFault.{node_rule, end_syntax, past_syntax, LineFault, in_head, in_body, FirstFault, OneFirstFault, side_place}
use Rattle.checker.specs.Listed.{SpellsSizes}
use Rattle.checker.proofs.LineLemmas.{HasForm-both}
use Rattle.checker.proofs.HeadLemmas.{head_same, side_after, listed_side}
use Rattle.checker.proofs.NodeLemmas.{broken_same, lists_same}

-- ---- head lines

-- a line that spells a game, sizes or a side, has no syntax fault
clash_game : (heading : Heading) (bytes : List ℕ) (n : ℕ) (game : GameNumbers) → n ≡ 2 → HasForm bytes 2 (λ line. SpellsGame line game) → HeadFault heading bytes n why.Syntax → ⊥
clash_game heading bytes n game e form (first_syntax never) = absurd (omega arith)
clash_game heading bytes n game e form (game_syntax never) = never (form.0, form.1, (game, form.2))
clash_game heading bytes n game e form (sizes_syntax is never) = absurd (omega arith)
clash_game heading bytes n game e form (side_syntax never) = absurd (omega (arith, e, side_after heading))
clash_game heading bytes n game e form (count_syntax never) = absurd (omega (arith, e, side_after heading))

clash_sizes : (heading : Heading) (bytes : List ℕ) (n : ℕ) (sizes : List ℕ) → n ≡ 3 → heading ≡ headings.Listed → HasForm bytes 3 (λ line. SpellsSizes line sizes)
    → HeadFault heading bytes n why.Syntax → ⊥
clash_sizes heading bytes n sizes e is form (first_syntax never) = absurd (omega arith)
clash_sizes heading bytes n sizes e is form (game_syntax never) = absurd (omega arith)
clash_sizes heading bytes n sizes e is form (sizes_syntax also never) = never (form.0, form.1, (sizes, form.2))
clash_sizes heading bytes n sizes e is form (side_syntax never) = absurd (omega (arith, e, listed_side heading is))
clash_sizes heading bytes n sizes e is form (count_syntax never) = absurd (omega (arith, e, listed_side heading is))

clash_side : (heading : Heading) (bytes : List ℕ) (n : ℕ) (side : Side) → n ≡ side_place heading → HasForm bytes (side_place heading) (λ line. line ≡ side_line side)
    → HeadFault heading bytes n why.Syntax → ⊥
clash_side heading bytes n side e form (first_syntax never) = absurd (omega (arith, e, side_after heading))
clash_side heading bytes n side e form (game_syntax never) = absurd (omega (arith, e, side_after heading))
clash_side heading bytes n side e form (sizes_syntax is never) = absurd (omega (arith, e, listed_side heading is))
clash_side heading bytes n side e form (side_syntax never) = never (form.0, form.1, (side, form.2))
clash_side heading bytes n side e form (count_syntax never) = absurd (omega (arith, e))

-- a line that breaks a rule
abbrev IsRule : Why → Type 0
IsRule why.Syntax = ⊥
IsRule (why.Rule rule) = Unit {0}
IsRule why.Sizes = Unit {0}

clash_head : (heading : Heading) (bytes : List ℕ) (n m : ℕ) (cause : Why) → n ≡ m → IsRule cause → HeadFault heading bytes n why.Syntax → HeadFault heading bytes m cause → ⊥
clash_head heading bytes n m cause e rule f (game_rule game form never) = clash_game heading bytes n game e form f
clash_head heading bytes n m cause e rule f (sizes_rule is game sizes form of_game spelled never) = clash_sizes heading bytes n sizes e is spelled f
clash_head heading bytes n m cause e rule f (side_rule side form never) = clash_side heading bytes n side e form f
clash_head heading bytes n m cause e rule f (first_syntax never) = absurd rule
clash_head heading bytes n m cause e rule f (game_syntax never) = absurd rule
clash_head heading bytes n m cause e rule f (sizes_syntax is never) = absurd rule
clash_head heading bytes n m cause e rule f (side_syntax never) = absurd rule
clash_head heading bytes n m cause e rule f (count_syntax never) = absurd rule

head_rules_same : (heading : Heading) (bytes : List ℕ) (n m : ℕ) (r s : Rule) → n ≡ m → HeadFault heading bytes n (why.Rule r) → HeadFault heading bytes m (why.Rule s) → r ≡ s
head_rules_same heading bytes n m r s e (game_rule g f h) (game_rule g' f' h') = refl
head_rules_same heading bytes n m r s e (game_rule g f h) (side_rule t f' h') = absurd (omega (arith, e, side_after heading))
head_rules_same heading bytes n m r s e (side_rule t f h) (game_rule g' f' h') = absurd (omega (arith, e, side_after heading))
head_rules_same heading bytes n m r s e (side_rule t f h) (side_rule t' f' h') = refl

-- the rule of the sizes is no other rule
sizes_apart : (heading : Heading) (bytes : List ℕ) (n m : ℕ) (r : Rule) → n ≡ m → HeadFault heading bytes n (why.Rule r) → HeadFault heading bytes m why.Sizes → ⊥
sizes_apart heading bytes n m r e (game_rule g f h) (sizes_rule is game sizes form of_game spelled never) = absurd (omega (arith, e))
sizes_apart heading bytes n m r e (side_rule t f h) (sizes_rule is game sizes form of_game spelled never) = absurd (omega (arith, e, listed_side heading is))

head_faults_same : (heading : Heading) (bytes : List ℕ) (n m : ℕ) (a b : Why) → n ≡ m → HeadFault heading bytes n a → HeadFault heading bytes m b → a ≡ b
head_faults_same heading bytes n m why.Syntax why.Syntax e f g = refl
head_faults_same heading bytes n m why.Syntax (why.Rule s) e f g = absurd (clash_head heading bytes n m (why.Rule s) e tt f g)
head_faults_same heading bytes n m why.Syntax why.Sizes e f g = absurd (clash_head heading bytes n m why.Sizes e tt f g)
head_faults_same heading bytes n m (why.Rule r) why.Syntax e f g = absurd (clash_head heading bytes m n (why.Rule r) (sym e) tt g f)
head_faults_same heading bytes n m (why.Rule r) (why.Rule s) e f g = ap why.Rule (head_rules_same heading bytes n m r s e f g)
head_faults_same heading bytes n m (why.Rule r) why.Sizes e f g = absurd (sizes_apart heading bytes n m r e f g)
head_faults_same heading bytes n m why.Sizes why.Syntax e f g = absurd (clash_head heading bytes m n why.Sizes (sym e) tt g f)
head_faults_same heading bytes n m why.Sizes (why.Rule s) e f g = absurd (sizes_apart heading bytes m n s (sym e) g f)
head_faults_same heading bytes n m why.Sizes why.Sizes e f g = refl

-- ---- lines after the head

-- two positions that one line tells
position_told : (bytes : List ℕ) (head : Head) (n k : ℕ) (p q : Position) → k ≤ most_child → HasForm bytes n (IsNodeLineAt head k p)
    → HasForm bytes n (IsNodeLineAt head k q) → p ≡ q
position_told bytes head n k p q le x y =
    let both = HasForm-both bytes n (IsNodeLineAt head k p) (IsNodeLineAt head k q) x y in
    let same : both.1.0 ≡ both.2.0 = line_tells head.format k both.0 both.1.0 both.2.0 le both.1.1.spells both.2.1.spells in
    sym both.1.2 ∙ ap position_of same ∙ both.2.2

positions_same : (bytes : List ℕ) (head : Head) (a b : List Position) → length a ≡ length b → length a ≤ most_child → HasPositions bytes head a → HasPositions bytes head b → a ≡ b
positions_same bytes head a b e le x y =
    lists_same a b e (λ k p q f g.
    let low : k < length a = slice_get_within a k p f in
    position_told bytes head (head.start + k) k p q (omega arith) (x k p f) (y k q g))

-- two rules that one line's node breaks first
rules_told : (bytes : List ℕ) (head : Head) (n : ℕ) (earlier : List Position) (r s : Rule) → length earlier ≤ most_child
    → HasForm bytes n (IsBrokenNodeLine head earlier r) → HasForm bytes n (IsBrokenNodeLine head earlier s) → r ≡ s
rules_told bytes head n earlier r s le x y =
    let both = HasForm-both bytes n (IsBrokenNodeLine head earlier r) (IsBrokenNodeLine head earlier s) x y in
    let same : both.1.0 ≡ both.2.0 = line_tells head.format (length earlier) both.0 both.1.0 both.2.0 le both.1.1.spells both.2.1.spells in
    let moved : BreaksUnder head earlier (length earlier + 1 == head.count) both.2.0 r =
    subst (λ (node : AnyNode). BreaksUnder head earlier (length earlier + 1 == head.count) node r) same both.1.2 in
    broken_same head earlier (length earlier + 1 == head.count) both.2.0 r s moved both.2.2

node_rules_same : (bytes : List ℕ) (head : Head) (earlier others : List Position) (r s : Rule) → head.count ≤ most_nodes
    → length earlier ≡ length others → length earlier < head.count → HasPositions bytes head earlier → HasPositions bytes head others
    → HasForm bytes (head.start + length earlier) (IsBrokenNodeLine head earlier r)
    → HasForm bytes (head.start + length others) (IsBrokenNodeLine head others s) → r ≡ s
node_rules_same bytes head earlier others r s high e few x y form form' =
    let lists : others ≡ earlier = sym (positions_same bytes head earlier others e (omega arith) x y) in
    rules_told bytes head (head.start + length earlier) earlier r s (omega arith) form
    (subst (λ (ps : List Position). HasForm bytes (head.start + length ps) (IsBrokenNodeLine head ps s)) lists form')

-- a line that spells a node has no syntax fault
clash_node : (bytes : List ℕ) (head : Head) (n number : ℕ) → n ≡ head.start + number → number < head.count
    → HasForm bytes (head.start + number) (IsNodeLine head number) → BodyFault bytes head n why.Syntax → ⊥
clash_node bytes head n number e few form (node_syntax k low never) =
    let at : number ≡ k = omega arith in
    never (subst (λ (i : ℕ). HasForm bytes (head.start + i) (IsNodeLine head i)) at form)
clash_node bytes head n number e few form (end_syntax never) = absurd (omega arith)
clash_node bytes head n number e few form (past_syntax past) = absurd (omega arith)

clash_body : (bytes : List ℕ) (head : Head) (n m : ℕ) (rule : Rule) → n ≡ m → BodyFault bytes head n why.Syntax → BodyFault bytes head m (why.Rule rule) → ⊥
clash_body bytes head n m rule e f (node_rule earlier r few told form) =
    let broken = form.2 in clash_node bytes head n (length earlier) e few (form.0, form.1, (broken.0, broken.1)) f

body_rules_same : (bytes : List ℕ) (head : Head) (n m : ℕ) (r s : Rule) → head.count ≤ most_nodes → n ≡ m → BodyFault bytes head n (why.Rule r)
    → BodyFault bytes head m (why.Rule s) → r ≡ s
body_rules_same bytes head n m r s high e (node_rule p r1 l w f) (node_rule q s1 l' w' f') = node_rules_same bytes head p q r1 s1 high (omega arith) l w w' f f'

-- no line after the head breaks the rule of the sizes
no_sizes_is : (bytes : List ℕ) (head : Head) (n : ℕ) (a : Why) → BodyFault bytes head n a → a ≡ why.Sizes → ⊥
no_sizes_is bytes head n a (node_syntax k low never) e = absurd cc
no_sizes_is bytes head n a (node_rule earlier r few told form) e = absurd cc
no_sizes_is bytes head n a (end_syntax never) e = absurd cc
no_sizes_is bytes head n a (past_syntax past) e = absurd cc

no_sizes_in_body : (bytes : List ℕ) (head : Head) (n : ℕ) → BodyFault bytes head n why.Sizes → ⊥
no_sizes_in_body bytes head n f = no_sizes_is bytes head n why.Sizes f refl

body_faults_same : (bytes : List ℕ) (head : Head) (n m : ℕ) (a b : Why) → head.count ≤ most_nodes → n ≡ m → BodyFault bytes head n a → BodyFault bytes head m b → a ≡ b
body_faults_same bytes head n m why.Syntax why.Syntax high e f g = refl
body_faults_same bytes head n m why.Syntax (why.Rule s) high e f g = absurd (clash_body bytes head n m s e f g)
body_faults_same bytes head n m (why.Rule r) why.Syntax high e f g = absurd (clash_body bytes head m n r (sym e) g f)
body_faults_same bytes head n m (why.Rule r) (why.Rule s) high e f g = ap why.Rule (body_rules_same bytes head n m r s high e f g)
body_faults_same bytes head n m why.Sizes b high e f g = absurd (no_sizes_in_body bytes head n f)
body_faults_same bytes head n m a why.Sizes high e f g = absurd (no_sizes_in_body bytes head m g)

-- ---- all lines

pub head_low : (heading : Heading) (bytes : List ℕ) (n : ℕ) (a : Why) → HeadFault heading bytes n a → n ≤ side_place heading + 1
head_low heading bytes n a (first_syntax never) = omega (arith, side_after heading)
head_low heading bytes n a (game_syntax never) = omega (arith, side_after heading)
head_low heading bytes n a (game_rule g f h) = omega (arith, side_after heading)
head_low heading bytes n a (sizes_syntax is never) = omega (arith, side_after heading)
head_low heading bytes n a (sizes_rule is game sizes form of_game spelled never) = omega (arith, side_after heading)
head_low heading bytes n a (side_syntax never) = omega arith
head_low heading bytes n a (side_rule t f h) = omega arith
head_low heading bytes n a (count_syntax never) = omega arith

pub body_high : (bytes : List ℕ) (head : Head) (n : ℕ) (a : Why) → BodyFault bytes head n a → head.start ≤ n
body_high bytes head n a (node_syntax k low never) = omega arith
body_high bytes head n a (node_rule p r l w f) = omega arith
body_high bytes head n a (end_syntax never) = omega arith
body_high bytes head n a (past_syntax past) = omega arith

-- one line has one fault at most
pub faults_same : (heading : Heading) (bytes : List ℕ) (n m : ℕ) (a b : Why) → n ≡ m → LineFault heading bytes n a → LineFault heading bytes m b → a ≡ b
faults_same heading bytes n m a b e (in_head f) (in_head g) = head_faults_same heading bytes n m a b e f g
faults_same heading bytes n m a b e (in_head f) (in_body head has g) = absurd (omega (arith, head_low heading bytes n a f, body_high bytes head m b g, has.start))
faults_same heading bytes n m a b e (in_body head has f) (in_head g) = absurd (omega (arith, head_low heading bytes m b g, body_high bytes head n a f, has.start))
faults_same heading bytes n m a b e (in_body head has f) (in_body other told g) =
    body_faults_same bytes head n m a b has.nodes.2.high e f (subst (λ (h : Head). BodyFault bytes h m b) (head_same heading bytes other head told has) g)

lines_same : (heading : Heading) (bytes : List ℕ) (line other : ℕ) (fault another : Why) → FirstFault heading bytes line fault → FirstFault heading bytes other another → line ≡ other
lines_same heading bytes line other fault another a b =
    ⊎_elim
    (λ (low : line < other). absurd (b.first line fault low a.has))
    (λ (high : other ≤ line). ⊎_elim (λ (low : other < line). absurd (a.first other another low b.has)) (λ (up : line ≤ other). omega arith) (cases_lt other line))
    (cases_lt line other)

pub one_first_fault : OneFirstFault
one_first_fault heading bytes line other fault another a b =
    let same = lines_same heading bytes line other fault another a b in
    (same, faults_same heading bytes line other fault another same a.has b.has)
