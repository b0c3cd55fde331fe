-- The turns of a referee.
use Rattle.std.proofs.Common.{◌≡◌, ℕ, ◌<◌, List, [], ◌∷◌, ◌++◌, Option, Some, None, IfSome, length, take, refl, ap, sym, ◌∙◌, subst, arith, append_assoc, inl, inr, ◌⊎◌}
use Rattle.std.specs.Prelude.{MatchResult, OnErr, OnOk, Result, Ok, Err, true, false}
use Rattle.std.specs.Result.{is_err}
use Rattle.std.specs.Io.KnownBytes.{append_known, prepend_known}
use Rattle.std.proofs.lemmas.List.{append-nil, length-append}
use Rattle.std.proofs.lemmas.List.Elements.{All-nil}
use Rattle.std.proofs.Math.Seq.{take-append_seam}
use Rattle.std.proofs.KnownBytes.{prepend_known-nil}
use Rattle.port_io.specs.Lines.{ReaderState, to_come, with_lf}
use Rattle.port_io.specs.Reading.{ReadsOn}
use Rattle.port_io.specs.Told.{AppendsSome}
use Rattle.port_io.specs.declared.lines.Line.{Line}
use Rattle.port_io.specs.declared.lines.Line.TheVariants as lines
use Rattle.port_io.proofs.ReadingLemmas.{ReadsOn-none, prepend_known-read}
use Rattle.port_io.proofs.ToldLemmas.{append_known-nil, append_known-append, prepend_known-prepend}
use Rattle.adversary_graph.specs.Pools.{Pool}
use Rattle.referee_session.specs.Answering.{Asking, Gives, GivesOther, Meets, StopsAsking}
use Rattle.referee_session.specs.Due.{AreAnswers, Comes, ComesNext, HaltsAt, IsNoAnswer, IsOver, closing, met_by, said_in}
use Rattle.referee_session.specs.Halt.{Halt, ending_of, taken_for}
use Rattle.referee_session.specs.Halt as why
use Rattle.referee_session.specs.Lines.{answer_lines, bin_line, line_at, session_line}
use Rattle.referee_session.specs.Refereed.{ComesTo, HasAnswers, HasEnding, IsOutcome, Sitting, StopsClosing, StopsReading, StopsSaying, said_before_last}
use Rattle.referee_session.specs.Session.{HasEnded, SessionState, state_of, talk_in, talk_of}
use Rattle.referee_session.specs.Turns.{GoesOn, IsLegal}
use Rattle.referee_session.specs.declared.refereeing.Ending.{Ending}
use Rattle.referee_session.specs.declared.refereeing.SessionFault.{SessionFault}
use Rattle.referee_session.specs.declared.refereeing.SessionFault.TheVariants as faults
use Rattle.referee_session.proofs.LineLemmas.{answer_lines-push, said-nil, said-push}
use Rattle.referee_session.proofs.TalkLemmas.{talk-nil}
use Rattle.referee_session.specs.Talk as talks

-- more was taken after what was taken
reads_after : (held first now taken more : List ℕ) (left mid new : Option (List ℕ)) → ReadsOn held (taken ++ first) left mid → ReadsOn first (more ++ now) mid new
    → ReadsOn held ((taken ++ more) ++ now) left new
reads_after held first now taken more left mid new before reads = (
  before.0 ++ reads.0,
  append_assoc taken more now ∙ ap (λ (xs : List ℕ). taken ++ xs) reads.1 ∙ sym (append_assoc taken first reads.0)
      ∙ ap (λ (xs : List ℕ). xs ++ reads.0) before.1 ∙ append_assoc held before.0 reads.0,
  before.2 ∙ ap (prepend_known before.0) reads.2 ∙ prepend_known-prepend before.0 reads.0 new,
)

-- what was to come is what was taken, and then what is to come
to_come_after : (held now taken : List ℕ) (left new : Option (List ℕ)) → ReadsOn held (taken ++ now) left new
    → prepend_known held left ≡ prepend_known taken (prepend_known now new)
to_come_after held now taken left new reads = prepend_known-read held (taken ++ now) left new reads ∙ sym (prepend_known-prepend taken now new)

if_prepended : (P Q : List ℕ → Type 0) (taken : List ℕ) (known whole : Option (List ℕ)) → whole ≡ prepend_known taken known
    → ((bytes : List ℕ) → P bytes → Q (taken ++ bytes)) → IfSome known P → IfSome whole Q
if_prepended P Q taken None whole e on h = rw e tt
if_prepended P Q taken (Some bytes) whole e on h = rw e (on bytes h)

if_all : (P : List ℕ → Type 0) (known : Option (List ℕ)) → ((bytes : List ℕ) → P bytes) → IfSome known P
if_all P None all = tt
if_all P (Some bytes) all = all bytes

before_last-push : (pool : Pool) (root : ℕ) (bins : List ℕ) (bin : ℕ) → said_before_last pool root (bins ++ bin ∷ []) ≡ said_in pool root bins
before_last-push pool root [] bin = refl
before_last-push pool root (first ∷ bins) bin =
    let short : length (bins ++ bin ∷ []) ≡ length (first ∷ bins) = omega (arith, length-append bins (bin ∷ [])) in
    ap (λ (n : ℕ). said_in pool root (take n ((first ∷ bins) ++ bin ∷ []))) short ∙ ap (said_in pool root) (take-append_seam (first ∷ bins) (bin ∷ []))

-- what was said before the first answer
pub opening : (s : SessionState) (first : List ℕ) → s.answers ≡ [] → first ≡ session_line s.pool.game
    → first ++ line_at s.pool.game s.pool.nodes (talk_of s) ≡ said_in s.pool s.root []
opening s first none is =
    ap (λ (xs : List ℕ). xs ++ line_at s.pool.game s.pool.nodes (talk_of s)) is
    ∙ ap (λ (answers : List ℕ). session_line s.pool.game ++ line_at s.pool.game s.pool.nodes (talk_in s.pool s.root answers)) none
    ∙ sym (said-nil s.pool.game s.pool.nodes s.root)

-- what a result tells, once it is known which one it is
pub at_err : {T E P : Type 0} (r : Result T E) → is_err r ≡ true → OnErr r P → P
at_err (Ok x) e h = absurd cc
at_err (Err x) e h = h

pub at_ok : {T E P : Type 0} (r : Result T E) → is_err r ≡ false → OnOk r P → P
at_ok (Ok x) e h = h
at_ok (Err x) e h = absurd cc

-- a session of the same pool and root
over_same : (p q : Pool) (r s : ℕ) (bins : List ℕ) → p ≡ q → r ≡ s → IsOver q s bins → IsOver p r bins
over_same p q r s bins pe re over =
    subst (λ (p : Pool). IsOver p r bins) (sym pe) (subst (λ (r : ℕ). IsOver q r bins) (sym re) over)

answers_same : (p q : Pool) (r s : ℕ) (bins : List ℕ) → p ≡ q → r ≡ s → AreAnswers p r bins → AreAnswers q s bins
answers_same p q r s bins pe re are = subst (λ (p : Pool). AreAnswers p s bins) pe (subst (λ (r : ℕ). AreAnswers p r bins) re are)

line_same : (p q : Pool) (r s : ℕ) (bins : List ℕ) → p ≡ q → r ≡ s
    → line_at p.game p.nodes (talk_in p r bins) ≡ line_at q.game q.nodes (talk_in q s bins)
line_same p q r s bins pe re =
    ap (λ (p : Pool). line_at p.game p.nodes (talk_in p r bins)) pe ∙ ap (λ (r : ℕ). line_at q.game q.nodes (talk_in q r bins)) re

module _ (pool : Pool) (root : ℕ) (reader : ReaderState) (left written : Option (List ℕ)) where
  -- the sitting so far
  abbrev pub sitting : List ℕ → ReaderState → Option (List ℕ) → Option (List ℕ) → Sitting
  sitting answers now new_left new_written = record {
    pool = pool;
    root = root;
    answers = answers;
    reader = reader;
    new_reader = now;
    left = left;
    new_left = new_left;
    written = written;
    new_written = new_written;
  }

  abbrev pub asking : ℕ → ReaderState → ReaderState → Option (List ℕ) → Option (List ℕ) → Asking
  asking bins now next mid new = record { bins = bins; reader = now; new_reader = next; left = mid; new_left = new }

  -- before the first answer
  no_answers : AreAnswers pool root []
  no_answers = record {
    below = All-nil (λ bin. bin < pool.game.bins);
    asked = ap (λ (t : talks.Talk). t.bins) (talk-nil pool.game pool.nodes root);
  }

  pub begins : (new : Option (List ℕ)) → new ≡ append_known written (said_in pool root []) → GoesOn (sitting [] reader left new)
  begins new e = record { has = record { answers = no_answers; takes = ReadsOn-none reader.held left }; met = refl; unmet = inl refl; written = e }

  pub begins_not : (new : Option (List ℕ)) → AppendsSome written new (said_in pool root []) → StopsSaying (sitting [] reader left new)
  begins_not new some = record {
    has = record { answers = no_answers; takes = ReadsOn-none reader.held left };
    writes = record {
      rest = said_in pool root [];
      is = refl;
      some = subst (λ (w : Option (List ℕ)). AppendsSome w new (said_in pool root [])) (sym (append_known-nil written)) some;
    };
  }

  module _ (answers : List ℕ) (now : ReaderState) (mid told : Option (List ℕ)) (on : GoesOn (sitting answers now mid told)) where
    -- one more answer
    pub given : (bins bin : ℕ) (next : ReaderState) (new : Option (List ℕ)) → AreAnswers pool root (answers ++ bin ∷ []) → Gives (asking bins now next mid new) (bin_line bin)
        → HasAnswers (sitting (answers ++ bin ∷ []) next new told)
    given bins bin next new are gives = record {
      answers = are;
      takes = subst (λ (taken : List ℕ). ReadsOn reader.held (taken ++ next.held) left new) (sym (answer_lines-push answers bin))
          (reads_after reader.held now.held next.held (answer_lines answers) (with_lf (bin_line bin)) left mid new on.has.takes gives.reads);
    }

    pub goes_on : (bins bin : ℕ) (next : ReaderState) (new more : Option (List ℕ)) → AreAnswers pool root (answers ++ bin ∷ [])
        → Gives (asking bins now next mid new) (bin_line bin) → more ≡ append_known told (line_at pool.game pool.nodes (talk_in pool root (answers ++ bin ∷ [])))
        → GoesOn (sitting (answers ++ bin ∷ []) next new more)
    goes_on bins bin next new more are gives e =
        let line = line_at pool.game pool.nodes (talk_in pool root (answers ++ bin ∷ [])) in
        let has = given bins bin next new are gives in
        record {
          has = record { answers = has.answers; takes = has.takes };
          met = gives.still ∙ sym (sym on.met ∙ gives.unmet);
          unmet = inr (sym on.met ∙ gives.unmet);
          written = e ∙ ap (λ (w : Option (List ℕ)). append_known w line) on.written ∙ append_known-append written (said_in pool root answers) line
              ∙ ap (append_known written) (sym (said-push pool.game pool.nodes root answers bin));
        }

    pub stops_saying : (bins bin : ℕ) (next : ReaderState) (new more : Option (List ℕ)) → AreAnswers pool root (answers ++ bin ∷ [])
        → Gives (asking bins now next mid new) (bin_line bin) → AppendsSome told more (line_at pool.game pool.nodes (talk_in pool root (answers ++ bin ∷ [])))
        → StopsSaying (sitting (answers ++ bin ∷ []) next new more)
    stops_saying bins bin next new more are gives some =
        let line = line_at pool.game pool.nodes (talk_in pool root (answers ++ bin ∷ [])) in
        let has = given bins bin next new are gives in
        record {
          has = record { answers = has.answers; takes = has.takes };
          writes = record {
            rest = line;
            is = said-push pool.game pool.nodes root answers bin ∙ ap (λ (xs : List ℕ). xs ++ line) (sym (before_last-push pool root answers bin));
            some = subst (λ (w : Option (List ℕ)). AppendsSome w more line) (on.written ∙ ap (append_known written) (sym (before_last-push pool root answers bin))) some;
          };
        }

    -- a read that failed
    pub stops_reading : (bins : ℕ) (next : ReaderState) (new : Option (List ℕ)) → ¬ (IsOver pool root answers) → StopsAsking (asking bins now next mid new)
        → StopsReading (sitting answers next new told)
    stops_reading bins next new not_over stops = record {
      has = record {
        answers = on.has.answers;
        takes = subst (λ (taken : List ℕ). ReadsOn reader.held (taken ++ next.held) left new) (append-nil (answer_lines answers))
            (reads_after reader.held now.held next.held (answer_lines answers) [] left mid new on.has.takes stops.reads);
      };
      going_on = not_over;
      no_lf = stops.no_lf;
      written = on.written;
    }

    -- a talk that halts
    comes_by : (halt : Halt) (next : ReaderState) (new more : Option (List ℕ)) → ReadsOn now.held (taken_for halt ++ next.held) mid new
        → HaltsAt pool root (met_by reader.ending) answers (taken_for halt ++ next.held) halt
        → IfSome (to_come now mid) (λ bytes. HaltsAt pool root (met_by reader.ending) answers bytes halt)
        → ComesTo (sitting answers next new more) halt
    comes_by halt next new more reads here all = record {
      takes = reads_after reader.held now.held next.held (answer_lines answers) (taken_for halt) left mid new on.has.takes reads;
      in_hand = record {
        answers = on.has.answers;
        unmet = on.unmet;
        rest = taken_for halt ++ next.held;
        lines = append_assoc (answer_lines answers) (taken_for halt) next.held;
        halts = here;
      };
      in_input = if_prepended (λ bytes. HaltsAt pool root (met_by reader.ending) answers bytes halt) (λ bytes. Comes pool root (met_by reader.ending) bytes answers halt)
          (answer_lines answers) (to_come now mid) (to_come reader left) (to_come_after reader.held now.held (answer_lines answers) left mid on.has.takes)
          (λ bytes halts. record { answers = on.has.answers; unmet = on.unmet; rest = bytes; lines = refl; halts = halts }) all;
    }

    pub comes_lost : IsOver pool root answers → ComesTo (sitting answers now mid told) why.lost
    comes_lost over = comes_by why.lost now mid told (ReadsOn-none now.held mid) over (if_all (λ bytes. IsOver pool root answers) (to_come now mid) (λ bytes. over))

    -- what an ending of the input is to the talk
    meets : (bins : ℕ) (line : Line) (next : ReaderState) (new : Option (List ℕ)) → Meets (asking bins now next mid new) line
        → ComesNext (met_by reader.ending) line next.held × IfSome (to_come now mid) (λ bytes. ComesNext (met_by reader.ending) line bytes)
    meets bins line next new m =
        subst (λ (met : Option Line). ComesNext met line next.held × IfSome (to_come now mid) (λ bytes. ComesNext met line bytes)) on.met (m.shown, m.input)

    pub comes_ended : (bins : ℕ) (next : ReaderState) (new more : Option (List ℕ)) → ¬ (IsOver pool root answers) → Meets (asking bins now next mid new) lines.End
        → ComesTo (sitting answers next new more) why.ended
    comes_ended bins next new more not_over m =
        let h = meets bins lines.End next new m in
        comes_by why.ended next new more m.reads (not_over, h.0)
        (if_prepended (ComesNext (met_by reader.ending) lines.End) (λ bytes. HaltsAt pool root (met_by reader.ending) answers bytes why.ended) [] (to_come now mid)
        (to_come now mid) (sym (prepend_known-nil (to_come now mid))) (λ bytes c. (not_over, c)) h.1)

    pub comes_cut : (bins : ℕ) (next : ReaderState) (new more : Option (List ℕ)) → ¬ (IsOver pool root answers)
        → (Meets (asking bins now next mid new) lines.Unfinished ⊎ Meets (asking bins now next mid new) lines.TooLong)
        → ComesTo (sitting answers next new more) why.cut
    comes_cut bins next new more not_over (inl m) =
        let h = meets bins lines.Unfinished next new m in
        comes_by why.cut next new more m.reads (not_over, inl h.0)
        (if_prepended (ComesNext (met_by reader.ending) lines.Unfinished) (λ bytes. HaltsAt pool root (met_by reader.ending) answers bytes why.cut) [] (to_come now mid)
        (to_come now mid) (sym (prepend_known-nil (to_come now mid))) (λ bytes c. (not_over, inl c)) h.1)
    comes_cut bins next new more not_over (inr m) =
        let h = meets bins lines.TooLong next new m in
        comes_by why.cut next new more m.reads (not_over, inr h.0)
        (if_prepended (ComesNext (met_by reader.ending) lines.TooLong) (λ bytes. HaltsAt pool root (met_by reader.ending) answers bytes why.cut) [] (to_come now mid)
        (to_come now mid) (sym (prepend_known-nil (to_come now mid))) (λ bytes c. (not_over, inr c)) h.1)

    pub comes_other : (bins : ℕ) (line : List ℕ) (next : ReaderState) (new more : Option (List ℕ)) → bins ≡ pool.game.bins → ¬ (IsOver pool root answers)
        → GivesOther (asking bins now next mid new) line → ComesTo (sitting answers next new more) (why.other line)
    comes_other bins line next new more of_game not_over other =
        let unmet : met_by reader.ending ≡ None = sym on.met ∙ other.gives.unmet in
        let none : IsNoAnswer pool line = λ bin below e. other.no_answer bin (omega (arith, of_game, below)) e in
        let halts : (bytes : List ℕ) → HaltsAt pool root (met_by reader.ending) answers (with_lf line ++ bytes) (why.other line) =
        λ bytes. (not_over, record { not_met = unmet; is_line = other.is_line; no_answer = none; rest = bytes; first = refl }) in
        comes_by (why.other line) next new more other.gives.reads (halts next.held)
        (if_prepended (λ bytes. Unit {0}) (λ bytes. HaltsAt pool root (met_by reader.ending) answers bytes (why.other line)) (with_lf line) (prepend_known next.held new)
        (to_come now mid) (to_come_after now.held next.held (with_lf line) mid new other.gives.reads) (λ bytes _. halts bytes)
        (if_all (λ bytes. Unit {0}) (prepend_known next.held new) (λ bytes. tt)))

    -- the line that closes it
    pub closes : (halt : Halt) (next : ReaderState) (new more : Option (List ℕ)) → ComesTo (sitting answers next new told) halt
        → more ≡ append_known told (closing (length answers) halt) → HasEnding (sitting answers next new more) (ending_of halt)
    closes halt next new more comes e = record {
      halt = halt;
      comes = record { takes = comes.takes; in_hand = comes.in_hand; in_input = comes.in_input };
      is = refl;
      written = e ∙ ap (λ (w : Option (List ℕ)). append_known w (closing (length answers) halt)) on.written
          ∙ append_known-append written (said_in pool root answers) (closing (length answers) halt);
    }

    pub stops_closing : (halt : Halt) (next : ReaderState) (new more : Option (List ℕ)) → ComesTo (sitting answers next new told) halt
        → AppendsSome told more (closing (length answers) halt) → StopsClosing (sitting answers next new more)
    stops_closing halt next new more comes some = record {
      halt = halt;
      comes = record { takes = comes.takes; in_hand = comes.in_hand; in_input = comes.in_input };
      writes = record {
        rest = closing (length answers) halt;
        is = refl;
        some = subst (λ (w : Option (List ℕ)). AppendsSome w more (closing (length answers) halt)) on.written some;
      };
    }

  -- the play of a session of this pool and root has not ended
  pub not_ended : (s : SessionState) → s.pool ≡ pool → s.root ≡ root → (HasEnded s → ⊥) → ¬ (IsOver pool root s.answers)
  not_ended s of_pool of_root not = λ over. not (over_same s.pool pool s.root root s.answers of_pool of_root over)

  module _ (s a : SessionState) (bin : ℕ) (of_pool : s.pool ≡ pool) (of_root : s.root ≡ root) where
    module _ (answered : a ≡ state_of s.pool s.root (s.answers ++ bin ∷ [])) (legal : IsLegal a) (now next : ReaderState) where
      module _ (mid told new more : Option (List ℕ)) (on : GoesOn (sitting s.answers now mid told)) (bins : ℕ) (gives : Gives (asking bins now next mid new) (bin_line bin)) where
        still_answers : AreAnswers pool root (s.answers ++ bin ∷ [])
        still_answers =
            answers_same s.pool pool s.root root (s.answers ++ bin ∷ []) of_pool of_root
            (subst (λ (state : SessionState). AreAnswers state.pool state.root state.answers) answered legal.answers)

        still_line : line_at a.pool.game a.pool.nodes (talk_of a) ≡ line_at pool.game pool.nodes (talk_in pool root (s.answers ++ bin ∷ []))
        still_line =
            ap (λ (state : SessionState). line_at state.pool.game state.pool.nodes (talk_of state)) answered
            ∙ line_same s.pool pool s.root root (s.answers ++ bin ∷ []) of_pool of_root

        pub goes_on_by : more ≡ append_known told (line_at a.pool.game a.pool.nodes (talk_of a)) → GoesOn (sitting a.answers next new more)
        goes_on_by e =
            subst (λ (answers : List ℕ). GoesOn (sitting answers next new more)) (sym (ap (λ (state : SessionState). state.answers) answered))
            (goes_on s.answers now mid told on bins bin next new more still_answers gives (e ∙ ap (append_known told) still_line))

        pub stops_saying_by : AppendsSome told more (line_at a.pool.game a.pool.nodes (talk_of a)) → StopsSaying (sitting a.answers next new more)
        stops_saying_by some =
            subst (λ (answers : List ℕ). StopsSaying (sitting answers next new more)) (sym (ap (λ (state : SessionState). state.answers) answered))
            (stops_saying s.answers now mid told on bins bin next new more still_answers gives (subst (AppendsSome told more) still_line some))

  -- what the writing of the last line comes to
  pub closed : (answers : List ℕ) (now next : ReaderState) (mid told new more : Option (List ℕ)) (ending : Ending) (line : List ℕ) (halt : Halt) (r : Result Ending SessionFault)
      (Q : Type 0) → GoesOn (sitting answers now mid told) → ComesTo (sitting answers next new told) halt → ending ≡ ending_of halt → line ≡ closing (length answers) halt
      → MatchResult r (λ given. (given ≡ ending) × (more ≡ append_known told line)) (λ fault. (fault ≡ faults.Write) × AppendsSome told more line × Q)
      → IsOutcome (sitting answers next new more) r
  closed answers now next mid told new more ending line halt (Ok value) Q on comes is line_is h =
      subst (HasEnding (sitting answers next new more)) (sym (h.0 ∙ is)) (closes answers now mid told on halt next new more comes (h.1 ∙ ap (append_known told) line_is))
  closed answers now next mid told new more ending line halt (Err faults.Read) Q on comes is line_is h = absurd (let e : faults.Read ≡ faults.Write = h.0 in cc)
  closed answers now next mid told new more ending line halt (Err faults.Write) Q on comes is line_is h =
      inr (stops_closing answers now mid told on halt next new more comes (subst (AppendsSome told more) line_is h.1))
