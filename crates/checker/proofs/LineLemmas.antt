-- Lines in their places.
use Rattle.std.proofs.Common.{◌≡◌, ℕ, suc, zero, ◌+◌, ◌≤◌, List, [], ◌∷◌, ◌++◌}
use Rattle.std.proofs.Common.{length, All, Some, None, sym, ap, ◌∙◌, subst, refl, arith, append_assoc}
use Rattle.std.specs.List.{slice_get}
use Rattle.std.proofs.lemmas.Grind.{flat_map-append}
use Rattle.std.proofs.lemmas.List.Elements.{All-head, All-tail, All-cons, All-nil}
use Rattle.port_io.specs.Lines.{IsLine, HasNoLf, with_lf}
use Rattle.port_io.proofs.NextLemmas.{HasNoLf-with_lf, with_lf-only}
use Rattle.strategy_text.specs.Text.{text_of_lines}
use Rattle.checker.specs.FirstFault.{HasLine, HasForm, HasWhole}
use Rattle.checker.specs.Progress.{StandFirst, HasNext}

pub no_lf : (lines : List (List ℕ)) → All IsLine lines → All HasNoLf lines
no_lf lines each k d within = (each k d within).no_lf

-- bytes are cut at line feeds in one way
pub same_rest : (a b : List (List ℕ)) (x y : List ℕ) → All HasNoLf a → All HasNoLf b → length a ≡ length b → text_of_lines a ++ x ≡ text_of_lines b ++ y → x ≡ y
same_rest [] [] x y p q e is = is
same_rest [] (m ∷ ms) x y p q e is = absurd (omega arith)
same_rest (l ∷ ls) [] x y p q e is = absurd (omega arith)
same_rest (l ∷ ls) (m ∷ ms) x y p q e is =
    let cut = with_lf-only l m (text_of_lines ls ++ x) (text_of_lines ms ++ y) (All-head HasNoLf l ls p) (All-head HasNoLf m ms q)
    (sym (append_assoc (with_lf l) (text_of_lines ls) x) ∙ is ∙ append_assoc (with_lf m) (text_of_lines ms) y) in
    same_rest ls ms x y (All-tail HasNoLf l ls p) (All-tail HasNoLf m ms q) (omega arith) cut.1

pub HasLine-same : (bytes : List ℕ) (n : ℕ) (a b : List ℕ) → HasLine bytes n a → HasLine bytes n b → a ≡ b
HasLine-same bytes n a b h k =
    let rest : with_lf a ++ h.rest ≡ with_lf b ++ k.rest = same_rest h.before k.before (with_lf a ++ h.rest) (with_lf b ++ k.rest) h.lines k.lines (omega (arith, h.place, k.place))
    (sym h.split ∙ k.split) in
    (with_lf-only a b h.rest k.rest h.whole.no_lf k.whole.no_lf rest).0

-- two facts on one line
pub HasForm-both : (bytes : List ℕ) (n : ℕ) (One Other : List ℕ → Type 0) → HasForm bytes n One → HasForm bytes n Other → (line : List ℕ) × One line × Other line
HasForm-both bytes n One Other a b = (a.0, a.2, subst Other (HasLine-same bytes n b.0 a.0 b.1 a.1) b.2)

-- ---- lines that stand first

pub next_from : (given : List (List ℕ)) (bytes rest : List ℕ) (n : ℕ) (Form : List ℕ → Type 0) → StandFirst given bytes rest → length given + 1 ≡ n → HasForm bytes n Form
    → HasNext Form rest
next_from given bytes rest n Form stood place form =
    let l = form.1 in
    let counted : length l.before + 1 ≡ n = l.place in
    let same : rest ≡ with_lf form.0 ++ l.rest = same_rest given l.before rest (with_lf form.0 ++ l.rest) (no_lf given stood.whole) l.lines (omega arith)
    (sym stood.split ∙ l.split) in
    record { line = form.0; rest = l.rest; whole = l.whole; split = same; form = form.2 }

pub form_from : (given : List (List ℕ)) (bytes rest : List ℕ) (n : ℕ) (Form : List ℕ → Type 0) → StandFirst given bytes rest → length given + 1 ≡ n → HasNext Form rest
    → HasForm bytes n Form
form_from given bytes rest n Form stood place next = (
  next.line,
  record {
    before = given;
    rest = next.rest;
    place = place;
    lines = no_lf given stood.whole;
    whole = next.whole;
    split = stood.split ∙ ap (λ more. text_of_lines given ++ more) next.split;
  },
  next.form,
)

split_at : (lines : List (List ℕ)) (k : ℕ) (line : List ℕ) → slice_get lines k ≡ Some line
    → (before : List (List ℕ)) × (after : List (List ℕ)) × (length before ≡ k) × (lines ≡ before ++ line ∷ after)
split_at [] k line e = let none : None ≡ Some line = e in absurd cc
split_at (l ∷ ls) zero line e = let same : l ≡ line = cc in ([], ls, refl, ap (λ (x : List ℕ). x ∷ ls) same)
split_at (l ∷ ls) (suc k) line e =
    let r = split_at ls k line e in
    (l ∷ r.0, r.1, ap suc r.2, ap (λ (xs : List (List ℕ)). l ∷ xs) r.3)

pub All-front : {X : Type 0} (P : X → Type 0) (xs ys : List X) → All P (xs ++ ys) → All P xs
All-front P [] ys h = All-nil P
All-front P (x ∷ xs) ys h = All-cons P x xs (All-head P x (xs ++ ys) h) (All-front P xs ys (All-tail P x (xs ++ ys) h))

pub All-after : {X : Type 0} (P : X → Type 0) (xs ys : List X) → All P (xs ++ ys) → All P ys
All-after P [] ys h = h
All-after P (x ∷ xs) ys h = All-after P xs ys (All-tail P x (xs ++ ys) h)

-- lines that stand first, in two parts
pub StandFirst-parts : (first next : List (List ℕ)) (bytes rest : List ℕ) → StandFirst (first ++ next) bytes rest
    → StandFirst first bytes (text_of_lines next ++ rest) × StandFirst next (text_of_lines next ++ rest) rest
StandFirst-parts first next bytes rest s = (
  record {
    whole = All-front IsLine first next s.whole;
    split = s.split ∙ ap (λ (front : List ℕ). front ++ rest) (flat_map-append (λ line. line ++ 10 ∷ []) first next) ∙ append_assoc (text_of_lines first) (text_of_lines next) rest;
  },
  record { whole = All-after IsLine first next s.whole; split = refl },
)

-- the lines that stand first stand in their places
pub line_at : (lines : List (List ℕ)) (bytes rest : List ℕ) (k n : ℕ) (line : List ℕ) → StandFirst lines bytes rest → slice_get lines k ≡ Some line → k + 1 ≡ n
    → HasLine bytes n line
line_at lines bytes rest k n line stood at place =
    let s = split_at lines k line at in
    let all : All IsLine (s.0 ++ line ∷ s.1) = subst (λ (ls : List (List ℕ)). All IsLine ls) s.3 stood.whole in
    let counted : length s.0 ≡ k = s.2 in
    record {
      before = s.0;
      rest = text_of_lines s.1 ++ rest;
      place = omega arith;
      lines = no_lf s.0 (All-front IsLine s.0 (line ∷ s.1) all);
      whole = All-head IsLine line s.1 (All-after IsLine s.0 (line ∷ s.1) all);
      split = stood.split ∙ ap (λ (ls : List (List ℕ)). text_of_lines ls ++ rest) s.3
          ∙ ap (λ (front : List ℕ). front ++ rest) (flat_map-append (λ line. line ++ 10 ∷ []) s.0 (line ∷ s.1))
          ∙ append_assoc (text_of_lines s.0) (with_lf line ++ text_of_lines s.1) rest
          ∙ ap (λ (more : List ℕ). text_of_lines s.0 ++ more) (append_assoc (with_lf line) (text_of_lines s.1) rest);
    }

pub after_get : {X : Type 0} (xs more : List X) (k : ℕ) (x : X) → slice_get more k ≡ Some x → slice_get (xs ++ more) (length xs + k) ≡ Some x
after_get [] more k x e = let at : k ≡ 0 + k = omega arith in subst (λ (i : ℕ). slice_get more i ≡ Some x) at e
after_get (y ∷ ys) more k x e =
    let at : suc (length ys + k) ≡ suc (length ys) + k = omega arith in
    subst (λ (i : ℕ). slice_get (y ∷ (ys ++ more)) i ≡ Some x) at (after_get ys more k x e)

-- lines that stand first are whole lines
pub HasWhole-from : (lines : List (List ℕ)) (bytes rest : List ℕ) → StandFirst lines bytes rest → HasWhole bytes (length lines) rest
HasWhole-from lines bytes rest s = record { lines = lines; place = refl; each = no_lf lines s.whole; split = s.split }

-- lines that bytes without a line feed follow are at least as many as any lines that the bytes begin with
fewer : (a b : List (List ℕ)) (x y : List ℕ) → All HasNoLf a → All HasNoLf b → HasNoLf x → text_of_lines a ++ x ≡ text_of_lines b ++ y → length b ≤ length a
fewer a [] x y p q none e = omega arith
fewer [] (m ∷ ms) x y p q none e = absurd (HasNoLf-with_lf m (text_of_lines ms ++ y) x (e ∙ append_assoc (with_lf m) (text_of_lines ms) y) none)
fewer (l ∷ ls) (m ∷ ms) x y p q none e =
    let cut = with_lf-only l m (text_of_lines ls ++ x) (text_of_lines ms ++ y) (All-head HasNoLf l ls p) (All-head HasNoLf m ms q)
    (sym (append_assoc (with_lf l) (text_of_lines ls) x) ∙ e ∙ append_assoc (with_lf m) (text_of_lines ms) y) in
    let less : length ms ≤ length ls = fewer ls ms x y (All-tail HasNoLf l ls p) (All-tail HasNoLf m ms q) none cut.1 in
    omega arith

-- where lines stand first and no line feed after them, no further line is whole
pub few_whole : (lines : List (List ℕ)) (bytes rest more : List ℕ) (n : ℕ) → StandFirst lines bytes rest → HasNoLf rest → HasWhole bytes n more → n ≤ length lines
few_whole lines bytes rest more n s none w =
    let less : length w.lines ≤ length lines = fewer lines w.lines rest more (no_lf lines s.whole) w.each none (sym s.split ∙ w.split) in omega (arith, w.place)
