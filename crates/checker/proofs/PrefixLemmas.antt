-- The fault of a line depends on the bytes up to its line feed alone.
use Rattle.std.proofs.Common.{◌≡◌, ◌≢◌, ℕ, zero, suc, ◌+◌, ◌<◌, ◌≤◌, List, [], ◌∷◌, ◌++◌, length, All, sym, ap, ◌∙◌, subst, refl, arith, append_assoc, length-append}
use Rattle.std.proofs.lemmas.List.{nil_from_length}
use Rattle.std.proofs.lemmas.List.Elements.{All-head, All-tail, All-cons, All-nil}
use Rattle.std.proofs.lemmas.Option.{slice_get_within}
use Rattle.port_io.specs.Lines.{HasNoLf, with_lf}
use Rattle.port_io.proofs.NextLemmas.{with_lf-only}
use Rattle.loads.specs.declared.position.Position.{Position}
use Rattle.items.specs.Game.{GameNumbers}
use Rattle.strategy_text.specs.Text.{text_of_lines, side_line}
use Rattle.strategy_text.specs.Spelling.{SpellsGame, SpellsCount}
use Rattle.checker.specs.declared.fault.Heading.{Heading}
use Rattle.checker.specs.declared.fault.Heading.TheVariants as headings
use Rattle.checker.specs.declared.fault.Why.{Why}
use Rattle.checker.specs.Head.{Head, IsNodeLineAt}
use Rattle.checker.specs.FirstFault.{HasLine, HasForm, HasWhole, HasBytesPast, HasPositions, HasHead, HeadFault, first_syntax, game_syntax, game_rule, sizes_syntax, sizes_rule, side_syntax, side_rule}
use Rattle.checker.specs.FirstFault.{HasSizes, first_of, side_place}
use Rattle.checker.specs.Listed.{SpellsSizes}
use Rattle.checker.specs.FirstFault.{count_syntax, BodyFault, node_syntax, node_rule, end_syntax, past_syntax, LineFault, in_head, in_body, FaultDependsOnLinesBefore}
use Rattle.checker.proofs.LineLemmas.{same_rest}
use Rattle.checker.proofs.HeadLemmas.{side_after}
use Rattle.checker.proofs.OneFault.{body_high}

-- ---- bytes cut before a line

-- so many lines, a line, and what stands after it
pub record IsCut (bytes : List ℕ) (k : ℕ) : Type 0 where
  pub before : List (List ℕ)
  pub line : List ℕ
  pub after : List ℕ
  pub place : length before ≡ k
  pub lines : All HasNoLf before
  pub no_lf : HasNoLf line
  pub split : bytes ≡ text_of_lines before ++ (with_lf line ++ after)

pub cut_lines : (lines : List (List ℕ)) (rest bytes : List ℕ) (k : ℕ) → k < length lines → All HasNoLf lines → bytes ≡ text_of_lines lines ++ rest → IsCut bytes k
cut_lines [] rest bytes k within each e = absurd (omega arith)
cut_lines (l ∷ ls) rest bytes zero within each e = record {
  before = [];
  line = l;
  after = text_of_lines ls ++ rest;
  place = refl;
  lines = All-nil HasNoLf;
  no_lf = All-head HasNoLf l ls each;
  split = e ∙ append_assoc (with_lf l) (text_of_lines ls) rest;
}
cut_lines (l ∷ ls) rest bytes (suc k) within each e =
    let c = cut_lines ls rest (text_of_lines ls ++ rest) k (omega arith) (All-tail HasNoLf l ls each) refl in
    record {
      before = l ∷ c.before;
      line = c.line;
      after = c.after;
      place = ap suc c.place;
      lines = All-cons HasNoLf l c.before (All-head HasNoLf l ls each) c.lines;
      no_lf = c.no_lf;
      split = e ∙ append_assoc (with_lf l) (text_of_lines ls) rest ∙ ap (λ (x : List ℕ). with_lf l ++ x) c.split
          ∙ sym (append_assoc (with_lf l) (text_of_lines c.before) (with_lf c.line ++ c.after));
    }

-- ---- lines of bytes, and of these bytes with more

HasLine-more : (bytes more : List ℕ) (m : ℕ) (line : List ℕ) → HasLine bytes m line → HasLine (bytes ++ more) m line
HasLine-more bytes more m line h = record {
  before = h.before;
  rest = h.rest ++ more;
  place = h.place;
  lines = h.lines;
  whole = h.whole;
  split = ap (λ (x : List ℕ). x ++ more) h.split ∙ append_assoc (text_of_lines h.before) (with_lf line ++ h.rest) more
      ∙ ap (λ (x : List ℕ). text_of_lines h.before ++ x) (append_assoc (with_lf line) h.rest more);
}

HasLine-less : (bytes more rest : List ℕ) (n m : ℕ) (line : List ℕ) → HasWhole bytes n rest → m ≤ n → HasLine (bytes ++ more) m line → HasLine bytes m line
HasLine-less bytes more rest n m line w le h =
    let place : length h.before + 1 ≡ m = h.place in
    let c = cut_lines w.lines rest bytes (length h.before) (omega (arith, w.place)) w.each w.split in
    let all : bytes ++ more ≡ text_of_lines c.before ++ (with_lf c.line ++ (c.after ++ more)) =
    ap (λ (x : List ℕ). x ++ more) c.split ∙ append_assoc (text_of_lines c.before) (with_lf c.line ++ c.after) more
    ∙ ap (λ (x : List ℕ). text_of_lines c.before ++ x) (append_assoc (with_lf c.line) c.after more) in
    let left : with_lf line ++ h.rest ≡ with_lf c.line ++ (c.after ++ more) =
    same_rest h.before c.before (with_lf line ++ h.rest) (with_lf c.line ++ (c.after ++ more)) h.lines c.lines (sym c.place) (sym h.split ∙ all) in
    let same : line ≡ c.line = (with_lf-only line c.line h.rest (c.after ++ more) h.whole.no_lf c.no_lf left).0 in
    record {
      before = c.before;
      rest = c.after;
      place = omega (arith, c.place);
      lines = c.lines;
      whole = h.whole;
      split = subst (λ (l : List ℕ). bytes ≡ text_of_lines c.before ++ (with_lf l ++ c.after)) (sym same) c.split;
    }

append_some : (xs ys : List ℕ) → (xs ≢ []) → xs ++ ys ≢ []
append_some xs ys some none = some (nil_from_length xs (omega (arith, ap length none, length-append xs ys)))

past-more : (bytes more : List ℕ) (m : ℕ) → HasBytesPast bytes m → HasBytesPast (bytes ++ more) m
past-more bytes more m p =
    let w = p.1 in (
      p.0 ++ more,
      record { lines = w.lines; place = w.place; each = w.each; split = ap (λ (x : List ℕ). x ++ more) w.split ∙ append_assoc (text_of_lines w.lines) p.0 more },
      append_some p.0 more p.2,
    )

with_lf_some : (line after : List ℕ) → with_lf line ++ after ≢ []
with_lf_some line after none = absurd (omega (arith, ap length none, length-append (with_lf line) after, length-append line (10 ∷ [])))

past-less : (bytes rest : List ℕ) (n m : ℕ) → HasWhole bytes n rest → m + 1 ≤ n → HasBytesPast bytes m
past-less bytes rest n m w le =
    let c = cut_lines w.lines rest bytes m (omega (arith, w.place)) w.each w.split in (
      with_lf c.line ++ c.after,
      record { lines = c.before; place = c.place; each = c.lines; split = c.split },
      with_lf_some c.line c.after,
    )

-- ---- what is told of some bytes up to line n is told of others

record Tells (a b : List ℕ) (n : ℕ) : Type 0 where
  line : (m : ℕ) (l : List ℕ) → m ≤ n → HasLine a m l → HasLine b m l
  past : (m : ℕ) → m + 1 ≤ n → HasBytesPast a m → HasBytesPast b m

form_moves : (a b : List ℕ) (n : ℕ) → Tells a b n → (m : ℕ) (Form : List ℕ → Type 0) → m ≤ n → HasForm a m Form → HasForm b m Form
form_moves a b n to m Form le f = (f.0, to.line m f.0 le f.1, f.2)

tells_more : (bytes more : List ℕ) (n : ℕ) → Tells bytes (bytes ++ more) n
tells_more bytes more n = record {
  line = λ m l le h. HasLine-more bytes more m l h;
  past = λ m le p. past-more bytes more m p;
}

tells_less : (bytes more rest : List ℕ) (n : ℕ) → HasWhole bytes n rest → Tells (bytes ++ more) bytes n
tells_less bytes more rest n w = record {
  line = λ m l le h. HasLine-less bytes more rest n m l w le h;
  past = λ m le p. past-less bytes rest n m w le;
}

head_moves : (heading : Heading) (a b : List ℕ) (n : ℕ) → Tells a b n → Tells b a n → (line : ℕ) (fault : Why) → line ≤ n
    → HeadFault heading a line fault → HeadFault heading b line fault
head_moves heading a b n to from line fault le (first_syntax never) = first_syntax (λ f. never (form_moves b a n from 1 _ le f))
head_moves heading a b n to from line fault le (game_syntax never) = game_syntax (λ f. never (form_moves b a n from 2 _ le f))
head_moves heading a b n to from line fault le (game_rule game form never) = game_rule game (form_moves a b n to 2 (λ l. SpellsGame l game) le form) never
head_moves heading a b n to from line fault le (sizes_syntax is never) = sizes_syntax is (λ f. never (form_moves b a n from 3 _ le f))
head_moves heading a b n to from line fault le (sizes_rule is game sizes form of_game spelled never) =
    sizes_rule is game sizes (form_moves a b n to 2 (λ l. SpellsGame l game) (omega (arith, le)) form) of_game (form_moves a b n to 3 (λ l. SpellsSizes l sizes) le spelled) never
head_moves heading a b n to from line fault le (side_syntax never) = side_syntax (λ f. never (form_moves b a n from (side_place heading) _ le f))
head_moves heading a b n to from line fault le (side_rule side form never) =
    side_rule side (form_moves a b n to (side_place heading) (λ l. l ≡ side_line side) le form) never
head_moves heading a b n to from line fault le (count_syntax never) = count_syntax (λ f. never (form_moves b a n from (side_place heading + 1) _ le f))

sizes_move : (heading : Heading) (a b : List ℕ) (n : ℕ) (game : GameNumbers) (sizes : List ℕ) → Tells a b n → 3 ≤ n → HasSizes heading a game sizes → HasSizes heading b game sizes
sizes_move (headings.Strategy wanted) a b n game sizes to le h = h
sizes_move headings.Listed a b n game sizes to le h = (form_moves a b n to 3 (λ l. SpellsSizes l sizes) le h.0, h.1)

has_moves : (heading : Heading) (a b : List ℕ) (n : ℕ) (head : Head) → Tells a b n → side_place heading + 1 ≤ n → HasHead heading a head → HasHead heading b head
has_moves heading a b n head to le h =
    let low = side_after heading in
    record {
      of_format = h.of_format;
      first = form_moves a b n to 1 (λ l. l ≡ first_of heading head.format) (omega (arith, le, low)) h.first;
      numbers = form_moves a b n to 2 (λ l. SpellsGame l head.game) (omega (arith, le, low)) h.numbers;
      of_game = h.of_game;
      sizes = sizes_move heading a b n head.game head.sizes to (omega (arith, le, low)) h.sizes;
      side = form_moves a b n to (side_place heading) (λ l. l ≡ side_line head.side) (omega (arith, le)) h.side;
      wanted_side = h.wanted_side;
      nodes = form_moves a b n to (side_place heading + 1) (λ l. SpellsCount l head.count) le h.nodes;
      start = h.start;
    }

positions_move : (a b : List ℕ) (n : ℕ) (head : Head) (earlier : List Position) → Tells a b n → head.start + length earlier ≤ n
    → HasPositions a head earlier → HasPositions b head earlier
positions_move a b n head earlier to le h k p e =
    let within : k < length earlier = slice_get_within earlier k p e in
    form_moves a b n to (head.start + k) (IsNodeLineAt head k p) (omega arith) (h k p e)

body_moves : (a b : List ℕ) (n : ℕ) (head : Head) → Tells a b n → Tells b a n → (line : ℕ) (fault : Why) → line ≤ n → BodyFault a head line fault → BodyFault b head line fault
body_moves a b n head to from line fault le (node_syntax k few never) = node_syntax k few (λ f. never (form_moves b a n from (head.start + k) _ le f))
body_moves a b n head to from line fault le (node_rule earlier rule few told form) =
    node_rule earlier rule few (positions_move a b n head earlier to le told) (form_moves a b n to (head.start + length earlier) _ le form)
body_moves a b n head to from line fault le (end_syntax never) = end_syntax (λ f. never (form_moves b a n from (head.start + head.count) _ le f))
body_moves a b n head to from line fault le (past_syntax past) = past_syntax (to.past (head.start + head.count) le past)

moves : (heading : Heading) (a b : List ℕ) (n : ℕ) → Tells a b n → Tells b a n → (line : ℕ) (fault : Why) → line ≤ n → LineFault heading a line fault → LineFault heading b line fault
moves heading a b n to from line fault le (in_head f) = in_head (head_moves heading a b n to from line fault le f)
moves heading a b n to from line fault le (in_body head has f) =
    let high : head.start ≤ line = body_high a head line fault f in
    in_body head (has_moves heading a b n head to (omega (arith, high, le, has.start)) has) (body_moves a b n head to from line fault le f)

pub depends_on_lines_before : FaultDependsOnLinesBefore
depends_on_lines_before heading bytes more n line rest fault w le = (
  moves heading bytes (bytes ++ more) n (tells_more bytes more n) (tells_less bytes more rest n w) line fault le,
  moves heading (bytes ++ more) bytes n (tells_less bytes more rest n w) (tells_more bytes more n) line fault le,
)
