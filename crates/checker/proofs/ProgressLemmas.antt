-- What was read grows by a line, and what was refused after it.
use Rattle.std.proofs.Common.{◌≡◌, ◌∙◌, ℕ, ◌++◌, ◌∷◌, [], List, Option, Some, None, sym, ap, subst, refl, append_assoc, IfSome, IfNone, IsTrue, Bool, true, false}
use Rattle.std.specs.Prelude.{Result, Ok, Err, IfErr, IsErrAnd, MatchOption}
use Rattle.std.specs.Io.KnownBytes.{prepend_known}
use Rattle.std.proofs.lemmas.List.{append-nil}
use Rattle.std.proofs.lemmas.List.Elements.{All-append, All-nil, All-cons, All-head}
use Rattle.std.proofs.lemmas.Grind.{flat_map-append}
use Rattle.port_io.specs.Lines.{ReaderState, HasNoLf, IsLine, with_lf, StandsNext, to_come, line_given}
use Rattle.port_io.specs.Reading.{ReadsOn}
use Rattle.port_io.specs.declared.lines.Line.{Line}
use Rattle.port_io.specs.declared.lines.Line.TheVariants.{Text, End, TooLong, Unfinished}
use Rattle.port_io.specs.declared.sources.Failed.{Failed}
use Rattle.port_io.proofs.NextLemmas.{with_lf-only, StandsNext-only}
use Rattle.std.proofs.KnownBytes.{prepend_known-nil}
use Rattle.port_io.proofs.ToldLemmas.{prepend_known-prepend}
use Rattle.strategy_text.specs.Text.{text_of_lines}
use Rattle.strategy_text.specs.declared.rule.Rule.{Rule}
use Rattle.checker.specs.Accepted.{IsGone}
use Rattle.checker.specs.Progress.{StandFirst, ReadsLines, HasNext, IsWrongNext, IsWrongAfter, RefusesAfter, RefusesNext, IsRefusedLine, IsPastEnd, AnyLine, NoRule, ReadsEnd}
use Rattle.checker.specs.declared.fault.CheckFault.{CheckFault}
use Rattle.checker.specs.declared.fault.CheckFault.TheVariants.{Rejected, Read, Memory}
use Rattle.checker.specs.declared.fault.Why.{Why}
use Rattle.checker.specs.declared.fault.Why.TheVariants as why

-- ---- lines stand first

pub StandFirst-none : (bytes : List ℕ) → StandFirst [] bytes bytes
StandFirst-none bytes = record { whole = All-nil IsLine; split = refl }

pub StandFirst-one : (text bytes rest : List ℕ) → IsLine text → bytes ≡ with_lf text ++ rest → StandFirst (text ∷ []) bytes rest
StandFirst-one text bytes rest whole e = record {
  whole = All-cons IsLine text [] whole (All-nil IsLine);
  split = e ∙ ap (λ front. front ++ rest) (sym (append-nil (with_lf text)));
}

pub StandFirst-then : (first next : List (List ℕ)) (bytes mid rest : List ℕ) → StandFirst first bytes mid → StandFirst next mid rest → StandFirst (first ++ next) bytes rest
StandFirst-then first next bytes mid rest a b = record {
  whole = All-append IsLine first next a.whole b.whole;
  split = a.split ∙ ap (λ more. text_of_lines first ++ more) b.split ∙ sym (append_assoc (text_of_lines first) (text_of_lines next) rest)
      ∙ ap (λ front. front ++ rest) (sym (flat_map-append (λ line. line ++ 10 ∷ []) first next));
}

-- more bytes come after all
pub StandFirst-more : (lines : List (List ℕ)) (bytes rest more : List ℕ) → StandFirst lines bytes rest → StandFirst lines (bytes ++ more) (rest ++ more)
StandFirst-more lines bytes rest more s = record {
  whole = s.whole;
  split = ap (λ front. front ++ more) s.split ∙ append_assoc (text_of_lines lines) rest more;
}

-- the line that stands first is this one
pub next_is : (text bytes rest : List ℕ) (Form : List ℕ → Type 0) → StandFirst (text ∷ []) bytes rest → HasNext Form bytes → Form text
next_is text bytes rest Form s next =
    let e : bytes ≡ with_lf text ++ rest = s.split ∙ ap (λ front. front ++ rest) (append-nil (with_lf text)) in
    let whole : IsLine text = All-head IsLine text [] s.whole in
    subst Form (with_lf-only next.line text next.rest rest next.whole.no_lf whole.no_lf (sym next.split ∙ e)).0 next.form

pub HasNext-from : (text bytes rest : List ℕ) (Form : List ℕ → Type 0) → StandFirst (text ∷ []) bytes rest → Form text → HasNext Form bytes
HasNext-from text bytes rest Form s form = record {
  line = text;
  rest = rest;
  whole = All-head IsLine text [] s.whole;
  split = s.split ∙ ap (λ front. front ++ rest) (append-nil (with_lf text));
  form = form;
}

-- ---- what was read, and all bytes

-- what the source had left is what was read and what it has left
pub told_split : (bytes read : List ℕ) (new_left : Option (List ℕ)) → IsGone read (Some bytes) new_left → (more : List ℕ) × (new_left ≡ Some more) × (bytes ≡ read ++ more)
told_split bytes read None gone = absurd cc
told_split bytes read (Some more) gone = let same : bytes ≡ read ++ more = cc in (more, refl, same)

-- the lines stand first in all bytes too
pub stand_in_all : (lines : List (List ℕ)) (old new : ReaderState) (bytes more : List ℕ) (left new_left : Option (List ℕ)) (r : ReadsLines lines old new left new_left)
    → bytes ≡ r.read ++ more → StandFirst lines (old.held ++ bytes) (new.held ++ more)
stand_in_all lines old new bytes more left new_left r e =
    subst (λ (all : List ℕ). StandFirst lines all (new.held ++ more)) (append_assoc old.held r.read more ∙ ap (λ all. old.held ++ all) (sym e))
    (StandFirst-more lines (old.held ++ r.read) new.held more r.stand)

pub ReadsLines-then : (first next : List (List ℕ)) (old mid new : ReaderState) (left mid_left new_left : Option (List ℕ)) → ReadsLines first old mid left mid_left
    → ReadsLines next mid new mid_left new_left → ReadsLines (first ++ next) old new left new_left
ReadsLines-then first next old mid new left mid_left new_left a b = record {
  open_still = b.open_still;
  read = a.read ++ b.read;
  gone = a.gone ∙ ap (prepend_known a.read) b.gone ∙ prepend_known-prepend a.read b.read new_left;
  stand = StandFirst-then first next (old.held ++ (a.read ++ b.read)) (mid.held ++ b.read) new.held
      (subst (λ (all : List ℕ). StandFirst first all (mid.held ++ b.read)) (append_assoc old.held a.read b.read)
      (StandFirst-more first (old.held ++ a.read) mid.held b.read a.stand))
      b.stand;
}

pub ReadsLines-none : (old : ReaderState) (left : Option (List ℕ)) → old.ending ≡ None → ReadsLines [] old old left left
ReadsLines-none old left open_still = record {
  open_still = open_still;
  read = [];
  gone = sym (prepend_known-nil left);
  stand = record { whole = All-nil IsLine; split = append-nil old.held };
}

-- ---- one call of the reader

pub reads_one : (text : List ℕ) (old new : ReaderState) (left new_left : Option (List ℕ)) → IsLine text → new.ending ≡ None
    → ReadsOn old.held (with_lf text ++ new.held) left new_left → ReadsLines (text ∷ []) old new left new_left
reads_one text old new left new_left whole open_still reads = record {
  open_still = open_still;
  read = reads.0;
  gone = reads.2;
  stand = StandFirst-one text (old.held ++ reads.0) new.held whole (sym reads.1);
}

-- what holds of all bytes, where the source tells them
pub told_all : (P : List ℕ → Type 0) (left : Option (List ℕ)) → ((bytes : List ℕ) → left ≡ Some bytes → P bytes) → IfSome left P
told_all P None h = tt
told_all P (Some bytes) h = h bytes refl

pub told_at : (P : List ℕ → Type 0) (left : Option (List ℕ)) (bytes : List ℕ) → IfSome left P → left ≡ Some bytes → P bytes
told_at P left bytes h e = subst (λ (told : Option (List ℕ)). IfSome told P) e h

stands_text : (Form : List ℕ → Type 0) (bytes : List ℕ) → HasNext Form bytes → StandsNext Text bytes
stands_text Form bytes next = (next.line, next.rest, next.whole, next.split)

-- where another thing stands next, no whole line does
no_next : (number : ℕ) (other : Line) (bytes : List ℕ) → (other ≡ Text → ⊥) → StandsNext other bytes
    → IsWrongAfter [] (IsWrongNext number AnyLine NoRule) (Rejected number why.Syntax) bytes
no_next number other bytes differs h =
    (bytes, StandFirst-none bytes, (refl, λ next. differs (StandsNext-only other Text bytes h (stands_text AnyLine bytes next))))

not_read : (line : ℕ) (fault : Why) → Rejected line fault ≡ Read → ⊥
not_read line fault e = absurd cc

-- no whole line stands next
pub refuses_ending : (number : ℕ) (other : Line) (text : List ℕ) (old new : ReaderState) (left new_left : Option (List ℕ)) → (other ≡ Text → ⊥)
    → ReadsOn old.held (line_given {E = Failed} (Ok other) text ++ new.held) left new_left → StandsNext other (line_given {E = Failed} (Ok other) text ++ new.held)
    → IfSome (to_come old left) (StandsNext other) → RefusesNext number AnyLine NoRule (Rejected number why.Syntax) old left new_left
refuses_ending number other text old new left new_left differs reads shown answer = record {
  read = reads.0;
  gone = reads.2;
  in_hand = no_next number other (old.held ++ reads.0) differs (subst (StandsNext other) reads.1 shown);
  in_all = told_all (λ bytes. IsWrongAfter [] (IsWrongNext number AnyLine NoRule) (Rejected number why.Syntax) (old.held ++ bytes)) left
      (λ bytes e. no_next number other (old.held ++ bytes) differs (told_at (StandsNext other) (to_come old left) (old.held ++ bytes) answer (ap (prepend_known old.held) e)));
  no_line = λ e. absurd (not_read number why.Syntax e);
}

-- a read failed
pub refuses_read : (number : ℕ) (Form : List ℕ → Type 0) (Breaking : Why → List ℕ → Type 0) (old new : ReaderState) (left new_left : Option (List ℕ))
    → ReadsOn old.held new.held left new_left → HasNoLf new.held → RefusesNext number Form Breaking Read old left new_left
refuses_read number Form Breaking old new left new_left reads none = record {
  read = reads.0;
  gone = reads.2;
  in_hand = (old.held ++ reads.0, StandFirst-none (old.held ++ reads.0), tt);
  in_all = told_all (λ bytes. IsWrongAfter [] (IsWrongNext number Form Breaking) Read (old.held ++ bytes)) left
      (λ bytes e. (old.held ++ bytes, StandFirst-none (old.held ++ bytes), tt));
  no_line = λ e. (old.held ++ reads.0, StandFirst-none (old.held ++ reads.0), subst HasNoLf reads.1 none);
}

-- ---- a whole line stood next

-- what was wrong next is so for a stricter form, and for rules that the line does not come to
pub refuses_form_of : (number : ℕ) (Form : List ℕ → Type 0) (Breaking : Why → List ℕ → Type 0) (fault : CheckFault) (bytes : List ℕ)
    → IsWrongAfter [] (IsWrongNext number AnyLine NoRule) fault bytes → IsWrongAfter [] (IsWrongNext number Form Breaking) fault bytes
refuses_form_of number Form Breaking (Rejected line why.Syntax) bytes h =
    (h.0, h.1, (h.2.0, λ next. h.2.1 (record { line = next.line; rest = next.rest; whole = next.whole; split = next.split; form = tt })))
refuses_form_of number Form Breaking (Rejected line (why.Rule rule)) bytes h = absurd h.2.1.form
refuses_form_of number Form Breaking (Rejected line why.Sizes) bytes h = absurd h.2.1.form
refuses_form_of number Form Breaking Read bytes h = (h.0, h.1, tt)
refuses_form_of number Form Breaking Memory bytes h = (h.0, h.1, tt)

pub refuses_next : (number : ℕ) (Form : List ℕ → Type 0) (Breaking : Why → List ℕ → Type 0) (fault : CheckFault) (old : ReaderState) (left new_left : Option (List ℕ))
    → RefusesNext number AnyLine NoRule fault old left new_left → RefusesNext number Form Breaking fault old left new_left
refuses_next number Form Breaking fault old left new_left r = record {
  read = r.read;
  gone = r.gone;
  in_hand = refuses_form_of number Form Breaking fault (old.held ++ r.read) r.in_hand;
  in_all = told_all (λ bytes. IsWrongAfter [] (IsWrongNext number Form Breaking) fault (old.held ++ bytes)) left
      (λ bytes e. refuses_form_of number Form Breaking fault (old.held ++ bytes)
      (told_at (λ bytes. IsWrongAfter [] (IsWrongNext number AnyLine NoRule) fault (old.held ++ bytes)) left bytes r.in_all e));
  no_line = r.no_line;
}

-- what is wrong with the line that stood next is wrong in all bytes
refuses_given : (Wrong : CheckFault → List ℕ → Type 0) (line : ℕ) (fault : Why) (lines : List (List ℕ)) (old new : ReaderState) (left new_left : Option (List ℕ))
    → ReadsLines lines old new left new_left → ((bytes rest : List ℕ) → StandFirst lines bytes rest → Wrong (Rejected line fault) bytes)
    → RefusesAfter [] Wrong (Rejected line fault) old left new_left
refuses_given Wrong line fault lines old new left new_left r wrong = record {
  read = r.read;
  gone = r.gone;
  in_hand = (old.held ++ r.read, StandFirst-none (old.held ++ r.read), wrong (old.held ++ r.read) new.held r.stand);
  in_all = told_all (λ bytes. IsWrongAfter [] Wrong (Rejected line fault) (old.held ++ bytes)) left (λ bytes e.
      let s = told_split bytes r.read new_left (sym e ∙ r.gone) in
      (old.held ++ bytes, StandFirst-none (old.held ++ bytes), wrong (old.held ++ bytes) (new.held ++ s.0) (stand_in_all lines old new bytes s.0 left new_left r s.2)));
  no_line = λ e. absurd (not_read line fault e);
}

-- a whole line stood next that is not of the form
pub refuses_form : (number : ℕ) (Form : List ℕ → Type 0) (Breaking : Why → List ℕ → Type 0) (text : List ℕ) (old new : ReaderState) (left new_left : Option (List ℕ))
    → ReadsLines (text ∷ []) old new left new_left → (Form text → ⊥) → RefusesNext number Form Breaking (Rejected number why.Syntax) old left new_left
refuses_form number Form Breaking text old new left new_left r never =
    refuses_given (IsWrongNext number Form Breaking) number why.Syntax (text ∷ []) old new left new_left r
    (λ bytes rest s. (refl, λ next. never (next_is text bytes rest Form s next)))

-- a whole line stood next that breaks a rule
pub refuses_rule : (number : ℕ) (Form : List ℕ → Type 0) (Breaking : Why → List ℕ → Type 0) (rule : Rule) (text : List ℕ) (old new : ReaderState) (left new_left : Option (List ℕ))
    → ReadsLines (text ∷ []) old new left new_left → Breaking (why.Rule rule) text → RefusesNext number Form Breaking (Rejected number (why.Rule rule)) old left new_left
refuses_rule number Form Breaking rule text old new left new_left r breaks =
    refuses_given (IsWrongNext number Form Breaking) number (why.Rule rule) (text ∷ []) old new left new_left r
    (λ bytes rest s. (refl, HasNext-from text bytes rest (Breaking (why.Rule rule)) s breaks))

pub refuses_sizes : (number : ℕ) (Form : List ℕ → Type 0) (Breaking : Why → List ℕ → Type 0) (text : List ℕ) (old new : ReaderState) (left new_left : Option (List ℕ))
    → ReadsLines (text ∷ []) old new left new_left → Breaking why.Sizes text → RefusesNext number Form Breaking (Rejected number why.Sizes) old left new_left
refuses_sizes number Form Breaking text old new left new_left r breaks =
    refuses_given (IsWrongNext number Form Breaking) number why.Sizes (text ∷ []) old new left new_left r
    (λ bytes rest s. (refl, HasNext-from text bytes rest (Breaking why.Sizes) s breaks))

-- lines were read, and memory was refused
pub refuses_memory : (Wrong : CheckFault → List ℕ → Type 0) (lines : List (List ℕ)) (old new : ReaderState) (left new_left : Option (List ℕ))
    → ReadsLines lines old new left new_left → ((bytes : List ℕ) → Wrong Memory bytes) → RefusesAfter [] Wrong Memory old left new_left
refuses_memory Wrong lines old new left new_left r wrong = record {
  read = r.read;
  gone = r.gone;
  in_hand = (old.held ++ r.read, StandFirst-none (old.held ++ r.read), wrong (old.held ++ r.read));
  in_all = told_all (λ bytes. IsWrongAfter [] Wrong Memory (old.held ++ bytes)) left
      (λ bytes e. (old.held ++ bytes, StandFirst-none (old.held ++ bytes), wrong (old.held ++ bytes)));
  no_line = λ e. absurd cc;
}

-- a line that stood next was refused
pub refuses_line : (number : ℕ) (Form : List ℕ → Type 0) (Breaking : Why → List ℕ → Type 0) (fault : CheckFault) (text : List ℕ) (old new : ReaderState)
    (left new_left : Option (List ℕ)) → ReadsLines (text ∷ []) old new left new_left → IsRefusedLine number Form Breaking fault text
    → RefusesNext number Form Breaking fault old left new_left
refuses_line number Form Breaking (Rejected line why.Syntax) text old new left new_left r h =
    subst (λ (l : ℕ). RefusesNext number Form Breaking (Rejected l why.Syntax) old left new_left) (sym h.0) (refuses_form number Form Breaking text old new left new_left r h.1)
refuses_line number Form Breaking (Rejected line (why.Rule rule)) text old new left new_left r h =
    subst (λ (l : ℕ). RefusesNext number Form Breaking (Rejected l (why.Rule rule)) old left new_left) (sym h.0)
    (refuses_rule number Form Breaking rule text old new left new_left r h.1)
refuses_line number Form Breaking (Rejected line why.Sizes) text old new left new_left r h =
    subst (λ (l : ℕ). RefusesNext number Form Breaking (Rejected l why.Sizes) old left new_left) (sym h.0) (refuses_sizes number Form Breaking text old new left new_left r h.1)
refuses_line number Form Breaking Read text old new left new_left r h = absurd h
refuses_line number Form Breaking Memory text old new left new_left r h = refuses_memory (IsWrongNext number Form Breaking) (text ∷ []) old new left new_left r (λ bytes. tt)

-- lines were read before those after which something was refused
wrong_after : (first given : List (List ℕ)) (Wrong : CheckFault → List ℕ → Type 0) (fault : CheckFault) (bytes mid : List ℕ) → StandFirst first bytes mid
    → IsWrongAfter given Wrong fault mid → IsWrongAfter (first ++ given) Wrong fault bytes
wrong_after first given Wrong fault bytes mid s h = (h.0, StandFirst-then first given bytes mid h.0 s h.1, h.2)

pub RefusesAfter-then : (first given : List (List ℕ)) (Wrong : CheckFault → List ℕ → Type 0) (fault : CheckFault) (old mid : ReaderState) (left mid_left new_left : Option (List ℕ))
    → ReadsLines first old mid left mid_left → RefusesAfter given Wrong fault mid mid_left new_left → RefusesAfter (first ++ given) Wrong fault old left new_left
RefusesAfter-then first given Wrong fault old mid left mid_left new_left a b =
    let hand : StandFirst first (old.held ++ (a.read ++ b.read)) (mid.held ++ b.read) = stand_in_all first old mid (a.read ++ b.read) b.read left mid_left a refl in
    record {
      read = a.read ++ b.read;
      gone = a.gone ∙ ap (prepend_known a.read) b.gone ∙ prepend_known-prepend a.read b.read new_left;
      in_hand = wrong_after first given Wrong fault (old.held ++ (a.read ++ b.read)) (mid.held ++ b.read) hand b.in_hand;
      in_all = told_all (λ bytes. IsWrongAfter (first ++ given) Wrong fault (old.held ++ bytes)) left (λ bytes e.
          let s = told_split bytes a.read mid_left (sym e ∙ a.gone) in
          wrong_after first given Wrong fault (old.held ++ bytes) (mid.held ++ s.0) (stand_in_all first old mid bytes s.0 left mid_left a s.2)
          (told_at (λ bytes. IsWrongAfter given Wrong fault (mid.held ++ bytes)) mid_left s.0 b.in_all s.1));
      no_line = λ e. let n = b.no_line e in (n.0, StandFirst-then first given (old.held ++ (a.read ++ b.read)) (mid.held ++ b.read) n.0 hand n.1, n.2);
    }

pub none_met : {P : Type 0} {A : Type 0} (met : Option A) → met ≡ None → IfNone met P → P
none_met None e h = h
none_met (Some x) e h = absurd cc

pub none_matched : {A : Type 0} (found : Option A) (P : Type 0) (Q : A → Type 0) → found ≡ None → MatchOption found P Q → P
none_matched None P Q e h = h
none_matched (Some x) P Q e h = absurd cc

pub some_matched : {A : Type 0} (found : Option A) (x : A) (P : Type 0) (Q : A → Type 0) → found ≡ Some x → MatchOption found P Q → Q x
some_matched {A = A} found x P Q e h = subst (λ (o : Option A). MatchOption o P Q) e h

pub not_true : IsTrue false → ⊥
not_true e = absurd cc

-- what is so of a fault is so of the answer that passes it on
pub passed_on : {X : Type 0} (P : CheckFault → Type 0) (fault : CheckFault) (result : Result X CheckFault) → IsErrAnd result (λ y. y ≡ fault) → P fault → IfErr result P
passed_on P fault (Ok x) h k = tt
passed_on P fault (Err y) h k = subst P (sym h) k

pub both_ways : (b : Bool) → b ≡ false → b ≡ true → ⊥
both_ways true e f = absurd cc
both_ways false e f = absurd cc

pub err_so : {X : Type 0} (P Q : CheckFault → Type 0) (result : Result X CheckFault) → ((fault : CheckFault) → P fault → Q fault) → IfErr result P → IfErr result Q
err_so P Q (Ok x) h k = tt
err_so P Q (Err fault) h k = h fault k

-- the line after those that were given was refused
pub RefusesNext-after : (given : List (List ℕ)) (Wrong : CheckFault → List ℕ → Type 0) (fault : CheckFault) (old mid : ReaderState) (left mid_left new_left : Option (List ℕ))
    → ReadsLines given old mid left mid_left → RefusesAfter [] Wrong fault mid mid_left new_left → RefusesAfter given Wrong fault old left new_left
RefusesNext-after given Wrong fault old mid left mid_left new_left a b =
    subst (λ (lines : List (List ℕ)). RefusesAfter lines Wrong fault old left new_left) (append-nil given)
    (RefusesAfter-then given [] Wrong fault old mid left mid_left new_left a b)

-- ---- the end of the input

front_nil : (xs ys : List ℕ) → xs ++ ys ≡ [] → xs ≡ []
front_nil [] ys e = refl
front_nil (x ∷ xs) ys e = absurd cc

-- bytes stood where the input is to end
pub refuses_past : (number : ℕ) (other : Line) (text : List ℕ) (old new : ReaderState) (left new_left : Option (List ℕ)) → (other ≡ End → ⊥)
    → ReadsOn old.held (line_given {E = Failed} (Ok other) text ++ new.held) left new_left → StandsNext other (line_given {E = Failed} (Ok other) text ++ new.held)
    → RefusesAfter [] (IsPastEnd number) (Rejected number why.Syntax) old left new_left
refuses_past number other text old new left new_left differs reads shown =
    let some : (old.held ++ reads.0 ≡ [] → ⊥) = λ none. differs (StandsNext-only other End (old.held ++ reads.0) (subst (StandsNext other) reads.1 shown) none) in
    record {
      read = reads.0;
      gone = reads.2;
      in_hand = (old.held ++ reads.0, StandFirst-none (old.held ++ reads.0), (refl, some));
      in_all = told_all (λ bytes. IsWrongAfter [] (IsPastEnd number) (Rejected number why.Syntax) (old.held ++ bytes)) left (λ bytes e.
          let s = told_split bytes reads.0 new_left (sym e ∙ reads.2) in (
            old.held ++ bytes,
            StandFirst-none (old.held ++ bytes),
            (
              refl,
              λ none. some
                  (front_nil (old.held ++ reads.0) s.0 (append_assoc old.held reads.0 s.0 ∙ ap (λ (more : List ℕ). old.held ++ more) (sym s.2) ∙ none)),
            ),
          ));
      no_line = λ e. absurd (not_read number why.Syntax e);
    }

-- a read failed where the input is to end
pub past_read : (number : ℕ) (old new : ReaderState) (left new_left : Option (List ℕ)) → ReadsOn old.held new.held left new_left → HasNoLf new.held
    → RefusesAfter [] (IsPastEnd number) Read old left new_left
past_read number old new left new_left reads none = record {
  read = reads.0;
  gone = reads.2;
  in_hand = (old.held ++ reads.0, StandFirst-none (old.held ++ reads.0), tt);
  in_all = told_all (λ bytes. IsWrongAfter [] (IsPastEnd number) Read (old.held ++ bytes)) left (λ bytes e. (old.held ++ bytes, StandFirst-none (old.held ++ bytes), tt));
  no_line = λ e. (old.held ++ reads.0, StandFirst-none (old.held ++ reads.0), subst HasNoLf reads.1 none);
}

nil_parts : (xs ys : List ℕ) → xs ++ ys ≡ [] → (xs ≡ []) × (ys ≡ [])
nil_parts [] ys e = (refl, e)
nil_parts (x ∷ xs) ys e = absurd cc

-- the input ended
pub reads_end : (text : List ℕ) (old new : ReaderState) (left new_left : Option (List ℕ)) → ReadsOn old.held (line_given {E = Failed} (Ok End) text ++ new.held) left new_left
    → StandsNext End (line_given {E = Failed} (Ok End) text ++ new.held) → IfSome (to_come old left) (StandsNext End) → ReadsEnd old left new_left
reads_end text old new left new_left reads shown answer =
    let parts = nil_parts old.held reads.0 (sym reads.1 ∙ shown) in
    record {
      held = parts.0;
      gone = subst (λ (read : List ℕ). IsGone read left new_left) parts.1 reads.2;
      whole = told_all (λ rest. rest ≡ []) new_left (λ rest e.
          let all : left ≡ Some (reads.0 ++ rest) = reads.2 ∙ ap (prepend_known reads.0) e in
          (nil_parts reads.0 rest (nil_parts old.held (reads.0 ++ rest) (told_at (StandsNext End) (to_come old left) (old.held ++ (reads.0 ++ rest)) answer
          (ap (prepend_known old.held) all))).1).1);
    }

pub ended : (other : Line) (text : List ℕ) (old new : ReaderState) (left new_left : Option (List ℕ)) → other ≡ End
    → ReadsOn old.held (line_given {E = Failed} (Ok other) text ++ new.held) left new_left → StandsNext other (line_given {E = Failed} (Ok other) text ++ new.held)
    → IfSome (to_come old left) (StandsNext other) → ReadsEnd old left new_left
ended End text old new left new_left e reads shown answer = reads_end text old new left new_left reads shown answer
ended Text text old new left new_left e reads shown answer = absurd cc
ended TooLong text old new left new_left e reads shown answer = absurd cc
ended Unfinished text old new left new_left e reads shown answer = absurd cc
