-- What the command `session` comes to, by what its referee gave.
use Rattle.std.proofs.Common.{◌≡◌, ℕ, ◌-◌, ◌≤◌, List, [], ◌++◌, Option, Some, None, Result, Ok, Err, IfErr, IfOk, IfSome, inl, inr, sym, ap, subst, refl, ◌∙◌, append_assoc, length}
use Rattle.std.specs.Io.KnownBytes.{append_known, prepend_known}
use Rattle.adversary_graph.specs.Pools.{IsPool, IsRoot, Pool}
use Rattle.checker.specs.Accepted.{IsTextFaultOf, IsTextInterrupted, Spells as SpellsText}
use Rattle.checker.specs.declared.fault.CheckFault.{CheckFault}
use Rattle.checker.specs.declared.fault.CheckFault.TheVariants as check_fault
use Rattle.checker.specs.declared.fault.Wanted.{Wanted}
use Rattle.checker.specs.declared.fault.Wanted.TheVariants.{Only}
use Rattle.node_pool.specs.Pools as pools
use Rattle.node_pool.specs.Terms.{Terms, whole_game as whole_terms}
use Rattle.port_io.specs.Faults.{Rose}
use Rattle.port_io.specs.Lines.{ReaderState, to_come}
use Rattle.port_io.specs.Reading.{ReadsOn}
use Rattle.port_io.specs.Told.{AppendsSome}
use Rattle.port_io.specs.declared.lines.Line.{Line}
use Rattle.port_io.proofs.FaultLemmas.{then-Rose}
use Rattle.port_io.proofs.ToldLemmas.{AppendsSome-then, prepend_known-prepend}
use Rattle.referee_session.specs.Due.{AreAnswers, Comes, IsOver, due_text, met_by, said_in}
use Rattle.referee_session.specs.Halt.{Halt, ending_of, taken_for}
use Rattle.referee_session.specs.Halt as why
use Rattle.referee_session.specs.Laws.{IsLost}
use Rattle.referee_session.specs.Lines.{answer_lines}
use Rattle.referee_session.specs.Refereed.{ComesTo, IsOutcome as IsRefereed, Sitting, StopsReading, Takes}
use Rattle.referee_session.specs.Refereed.{said_before_last}
use Rattle.referee_session.specs.Session.{SessionState, state_of}
use Rattle.referee_session.specs.declared.refereeing.Ending.{Ending}
use Rattle.referee_session.specs.declared.refereeing.Ending.TheVariants.{Lost, Ended, Bad}
use Rattle.referee_session.specs.declared.refereeing.SessionFault.{SessionFault}
use Rattle.referee_session.specs.declared.refereeing.SessionFault.TheVariants.{Read, Write}
use Rattle.referee_session.proofs.DueLemmas.{said_is_at_the_front, some_text_is_due}
use Rattle.referee_session.proofs.PlayedLemmas.{over_is_lost}
use Rattle.strategy_text.specs.Text.{text_of}
use Rattle.strategy_text.specs.declared.node.AdvNode.{AdvNode}
use Rattle.strategy_text.specs.declared.node.Nodes.TheVariants as nodes_of_side
use Rattle.strategy_text.specs.declared.node.Side.TheVariants.{Adversary}
use Rattle.strategy_text.specs.declared.node.Strategy.{Strategy}
use Rattle.stretch_bench.specs.Call.{Players}
use Rattle.stretch_bench.specs.Commands.{Spells}
use Rattle.stretch_bench.specs.Due.{IsDue, IsFrontRejected, IsRejected, bad_answer, commanded, done, input_ended}
use Rattle.stretch_bench.specs.Form.{IsReadFirst, reads_front}
use Rattle.stretch_bench.specs.Pieces.{IsDueWith, IsEnding, IsFrontStop, IsStop}
use Rattle.stretch_bench.specs.Run.{IsAnswer, answer_unread, memory_refused, talk_unsaid, write_failed, wrote}
use Rattle.stretch_bench.specs.Session.{DueBeginsWith, IsPartOfTalk, IsTalkCut, IsTalkOf, IsUnanswered, last_of, pool_in}
use Rattle.stretch_bench.specs.Talking.{IsTalked, Talking, said_all, status_at, status_given, unanswered, unbegun, unclosed, unsaid}
use Rattle.stretch_bench.specs.declared.command.Command.TheVariants.{Session}
use Rattle.stretch_bench.specs.declared.due.Due.{Due}
use Rattle.stretch_bench.specs.declared.due.Stop.{Stop}
use Rattle.stretch_bench.specs.declared.due.Stop.TheVariants as stops
use Rattle.stretch_bench.specs.declared.status.Status.{Status}
use Rattle.stretch_bench.specs.declared.status.Status.TheVariants as statuses
use Rattle.stretch_bench.proofs.OutcomeLemmas.{fault_due}
use Rattle.stretch_bench.proofs.RunLemmas.{answer_by, call_of, cut_for, known_is_read, made_is_due, run_of, unread_where}

-- ---- what a referee gave is a talk

-- what is so of all that is to come is so of what was read and what is left
after_read : (P : List ℕ → Type 0) (rest : List ℕ) (all new_left : Option (List ℕ)) → all ≡ prepend_known rest new_left → IfSome all P
    → IfSome new_left (λ more. P (rest ++ more))
after_read P rest all None e h = tt
after_read P rest all (Some more) e h = subst (λ (o : Option (List ℕ)). IfSome o P) e h

abbrev pub sitting_of : Pool → ℕ → List ℕ → ReaderState → ReaderState → Option (List ℕ) → Option (List ℕ) → Option (List ℕ) → Option (List ℕ) → Sitting
sitting_of pool root answers reader new_reader left new_left written new_written = record {
  pool = pool;
  root = root;
  answers = answers;
  reader = reader;
  new_reader = new_reader;
  left = left;
  new_left = new_left;
  written = written;
  new_written = new_written;
}

abbrev pub talking_of : Strategy → List ℕ → Option (List ℕ) → Option (List ℕ) → ℕ → ℕ → Option (List ℕ) → Option (List ℕ) → ℕ → ℕ → Talking
talking_of strategy held left new_left reads new_reads written new_written writes new_writes = record {
  strategy = strategy;
  held = held;
  left = left;
  new_left = new_left;
  reads_failed = reads;
  new_reads_failed = new_reads;
  written = written;
  new_written = new_written;
  writes_failed = writes;
  new_writes_failed = new_writes;
}

module _ (strategy : Strategy) (nodes : List AdvNode) (of : strategy.nodes ≡ nodes_of_side.Adversary nodes) (pool : Pool) (root : ℕ)
    (is_pool : pool ≡ pool_in strategy nodes) (is_root : root ≡ last_of nodes) (legal : IsPool pool) (at_root : IsRoot pool.nodes root)
    (answers : List ℕ) (reader new_reader : ReaderState) (opened : reader.ending ≡ None) (left new_left written new_written : Option (List ℕ)) where
  abbrev sitting : Sitting
  sitting = sitting_of pool root answers reader new_reader left new_left written new_written

  -- what is so of the pool is so of the nodes of the strategy
  moved : (P : Pool → ℕ → Type 0) → P pool root → P (pool_in strategy nodes) (last_of nodes)
  moved P h = subst (P (pool_in strategy nodes)) is_root (subst (λ (p : Pool). P p root) is_pool h)

  unmet : met_by reader.ending ≡ None
  unmet = ap met_by opened

  -- the bytes that follow the text of the strategy, by those that were taken
  abbrev rest_of : List ℕ → List ℕ
  rest_of taken = taken ++ new_reader.held

  all_to_come : (taken : List ℕ) → Takes sitting taken → to_come reader left ≡ prepend_known (rest_of taken) new_left
  all_to_come taken takes =
      ap (prepend_known reader.held) takes.2 ∙ prepend_known-prepend reader.held takes.0 new_left
      ∙ ap (λ (bytes : List ℕ). prepend_known bytes new_left) (sym takes.1)

  over_of : (ending : Ending) (halt : Halt) (rest : List ℕ) → ending ≡ ending_of halt → ending ≡ Lost → Comes pool root None rest answers halt → IsOver pool root answers
  over_of ending why.lost rest e f comes = comes.halts
  over_of ending why.ended rest e f comes = absurd cc
  over_of ending why.cut rest e f comes = absurd cc
  over_of ending (why.other line) rest e f comes = absurd cc

  talk_of : (ending : Ending) (halt : Halt) → ending ≡ ending_of halt → (comes : ComesTo sitting halt)
      → IsTalkOf ending strategy (rest_of (answer_lines answers ++ taken_for halt)) new_left (due_text pool root answers halt)
  talk_of ending halt e comes =
      let rest = rest_of (answer_lines answers ++ taken_for halt) in
      let came : Comes pool root None rest answers halt = subst (λ (met : Option Line). Comes pool root met rest answers halt) unmet comes.in_hand in
      let whole = after_read (λ bytes. Comes pool root (met_by reader.ending) bytes answers halt) rest (to_come reader left) new_left
      (all_to_come (answer_lines answers ++ taken_for halt) comes.takes) comes.in_input in
      let all : IfSome new_left (λ more. Comes pool root None (rest ++ more) answers halt) =
      subst (λ (met : Option Line). IfSome new_left (λ more. Comes pool root met (rest ++ more) answers halt)) unmet whole in
      record {
        nodes = nodes;
        of_adversary = of;
        bins = answers;
        halt = halt;
        is = e;
        came = moved (λ p r. Comes p r None rest answers halt) came;
        comes = moved (λ p r. IfSome new_left (λ more. Comes p r None (rest ++ more) answers halt)) all;
        lost = λ f. moved (λ p r. IsLost p r answers) (over_is_lost pool root answers legal at_root came.answers (over_of ending halt rest e f came));
        spelled = moved (λ p r. due_text pool root answers halt ≡ due_text p r answers halt) refl;
      }

  cut_of : (stops : StopsReading sitting) → IsTalkCut strategy (rest_of (answer_lines answers)) (said_in pool root answers)
  cut_of stops = record {
    nodes = nodes;
    of_adversary = of;
    bins = answers;
    answers = moved (λ p r. AreAnswers p r answers) stops.has.answers;
    going_on = moved (λ p r. ¬ (IsOver p r answers)) stops.going_on;
    cut = new_reader.held;
    no_lf = stops.no_lf;
    lines = refl;
    spelled = moved (λ p r. said_in pool root answers ≡ said_in p r answers) refl;
  }

  -- what is said to answers that came is the front of what is due
  front_over : (bytes rest : List ℕ) → AreAnswers pool root answers → bytes ≡ answer_lines answers ++ rest → DueBeginsWith pool root bytes (said_in pool root answers)
  front_over bytes rest are e =
      let due = some_text_is_due pool root None bytes legal at_root in
      let front = said_is_at_the_front pool root None bytes answers rest due.0 due.1 legal are (inr refl) e due.2 in
      record { bins = due.0; halt = due.1; comes = due.2; more = front.0; begins = front.1 }

  fronts : (o : Option (List ℕ)) → AreAnswers pool root answers
      → IfSome o (λ more. DueBeginsWith pool root (rest_of (answer_lines answers) ++ more) (said_in pool root answers))
  fronts None are = tt
  fronts (Some more) are =
      front_over (rest_of (answer_lines answers) ++ more) (new_reader.held ++ more) are (append_assoc (answer_lines answers) new_reader.held more)

  part_of : AreAnswers pool root answers → IsPartOfTalk strategy (rest_of (answer_lines answers)) new_left (said_in pool root answers)
  part_of are = record {
    nodes = nodes;
    of_adversary = of;
    bins = answers;
    answers = moved (λ p r. AreAnswers p r answers) are;
    ahead = new_reader.held;
    lines = refl;
    spelled = moved (λ p r. said_in pool root answers ≡ said_in p r answers) refl;
    front = moved
        (λ p r. IfSome new_left (λ more. DueBeginsWith p r (rest_of (answer_lines answers) ++ more) (said_in pool root answers)))
        (fronts new_left are);
  }

  -- a prefix was written that begins with some of the text
  some_of : (front text : List ℕ) (rest : List ℕ) → text ≡ front ++ rest → AppendsSome (append_known written front) new_written rest → AppendsSome written new_written text
  some_of front text rest e some =
      subst (λ (t : List ℕ). AppendsSome written new_written t) (sym e) (AppendsSome-then written (append_known written front) new_written front rest refl some)

  module _ (reads new_reads writes new_writes : ℕ) where
    abbrev talking : Talking
    talking = talking_of strategy reader.held left new_left reads new_reads written new_written writes new_writes

    talked_by : (given : Result Ending SessionFault) (status : Status) → status ≡ status_given given → IsRefereed sitting given
        → (given ≡ Err Read → Rose reads new_reads) → (given ≡ Err Write → Rose writes new_writes) → IsTalked talking status
    talked_by (Ok ending) status e is rose failed =
        said_all ending (rest_of (answer_lines answers ++ taken_for is.halt)) (due_text pool root answers is.halt) e is.comes.takes
        (talk_of ending is.halt is.is is.comes) is.written
    talked_by (Err Read) status e is rose failed =
        unanswered (rest_of (answer_lines answers)) (said_in pool root answers) e (rose refl) is.has.takes (cut_of is) is.written
    talked_by (Err Write) status e (inl is) rose failed =
        unsaid (rest_of (answer_lines answers)) (said_in pool root answers) e (failed refl) is.has.takes (part_of is.has.answers)
        (some_of (said_before_last pool root answers) (said_in pool root answers) is.writes.rest is.writes.is is.writes.some)
    talked_by (Err Write) status e (inr is) rose failed =
        unclosed (ending_of is.halt) (rest_of (answer_lines answers ++ taken_for is.halt)) (due_text pool root answers is.halt) e (failed refl) is.comes.takes
        (talk_of (ending_of is.halt) is.halt refl is.comes)
        (some_of (said_in pool root answers) (due_text pool root answers is.halt) is.writes.rest is.writes.is is.writes.some)

-- a session over the pool of a strategy's nodes, from the last one on
pub refereed_by : (strategy : Strategy) (pool : Pool) (count : ℕ) (state : SessionState) (answers : List ℕ) (reader new_reader : ReaderState)
    (left new_left written new_written : Option (List ℕ)) (reads new_reads writes new_writes : ℕ) (given : Result Ending SessionFault) (status : Status)
    → pools.terms_in pool ≡ whole_terms strategy.format strategy.game → strategy.nodes ≡ nodes_of_side.Adversary pool.nodes → IsPool pool
    → count ≡ length pool.nodes → IsRoot pool.nodes (length pool.nodes - 1) → state ≡ state_of pool (count - 1) [] → reader.ending ≡ None
    → status ≡ status_given given → IsRefereed (sitting_of state.pool state.root answers reader new_reader left new_left written new_written) given
    → (given ≡ Err Read → Rose reads new_reads) → (given ≡ Err Write → Rose writes new_writes)
    → IsTalked (talking_of strategy reader.held left new_left reads new_reads written new_written writes new_writes) status
refereed_by strategy pool count state answers reader new_reader left new_left written new_written reads new_reads writes new_writes given status terms of legal many at begun
    opened e is rose failed =
    let pool_is : state.pool ≡ pool = ap (λ (s : SessionState). s.pool) begun in
    let root_is : state.root ≡ last_of pool.nodes = ap (λ (s : SessionState). s.root) begun ∙ ap (λ (n : ℕ). n - 1) many in
    let whole : pool ≡ pool_in strategy pool.nodes = ap (λ (t : Terms). pools.pool_of t pool.nodes) terms in
    let rooted : IsRoot state.pool.nodes state.root =
    subst (λ (p : Pool). IsRoot p.nodes state.root) (sym pool_is) (subst (IsRoot pool.nodes) (sym root_is) at) in
    talked_by strategy pool.nodes of state.pool state.root (pool_is ∙ whole) root_is (subst IsPool (sym pool_is) legal) rooted answers reader new_reader opened left new_left
    written new_written reads new_reads writes new_writes given status e is rose failed

-- ---- the text of the strategy was read before

-- a read that failed is no ending of a talk
read_status : (ending : Ending) (status : Status) → status ≡ status_at ending → status ≡ statuses.ReadFault → ⊥
read_status Lost status e f = absurd cc
read_status Ended status e f = absurd cc
read_status Bad status e f = absurd cc

module _ (left mid new_left : Option (List ℕ)) (strategy : Strategy) (first held : List ℕ) (none : first ≡ [])
    (loads : SpellsText (Only Adversary) strategy first held left mid) where
  -- the bytes that were read
  text_is : loads.read ≡ text_of strategy ++ held
  text_is = ap (λ (bytes : List ℕ). bytes ++ loads.read) (sym none) ∙ loads.spelled

  read_first : (Is : Strategy → List ℕ → Type 0) (rest : List ℕ) → ReadsOn held rest mid new_left → Is strategy rest → IsReadFirst (Only Adversary) left new_left Is
  read_first Is rest reads is = record {
    strategy = strategy;
    legal = loads.legal;
    wanted_side = loads.wanted_side;
    rest = rest;
    gone = loads.gone ∙ ap (prepend_known loads.read) reads.2 ∙ prepend_known-prepend loads.read reads.0 new_left
        ∙ ap
        (λ (bytes : List ℕ). prepend_known bytes new_left)
        (ap (λ (bytes : List ℕ). bytes ++ reads.0) text_is ∙ append_assoc (text_of strategy) held reads.0 ∙ ap (λ (bytes : List ℕ). text_of strategy ++ bytes) (sym reads.1));
    is = is;
  }

  module _ (reads mid_reads new_reads writes new_writes : ℕ) (written new_written : Option (List ℕ)) where
    abbrev talking_on : Talking
    talking_on = talking_of strategy held mid new_left mid_reads new_reads written new_written writes new_writes

    -- a read that failed while an answer was asked for
    unanswered_so : (rest text : List ℕ) → ReadsOn held rest mid new_left → IsTalkCut strategy rest text → new_written ≡ append_known written text
        → IsUnanswered left new_left written new_written
    unanswered_so rest text on talk told = record { text = text; talk = read_first (λ s bytes. IsTalkCut s bytes text) rest on talk; told = told }

    pub unanswered_by : (status : Status) → IsTalked talking_on status → status ≡ statuses.ReadFault → IsUnanswered left new_left written new_written
    unanswered_by status (said_all ending rest text e on talk told) f = absurd (read_status ending status e f)
    unanswered_by status (unanswered rest text e rose on talk told) f = unanswered_so rest text on talk told
    unanswered_by status (unsaid rest text e rose on talk some) f = absurd cc
    unanswered_by status (unclosed ending rest text e rose on talk some) f = absurd cc
    unanswered_by status (unbegun e same) f = absurd cc

    module _ (players : Players) (words : List (List ℕ)) (spells : Spells players words Session) where
      -- a talk that ended is due
      due_at : (ending : Ending) (rest text : List ℕ) → ReadsOn held rest mid new_left → IsTalkOf ending strategy rest new_left text
          → IsDue (call_of players words left new_left) (status_at ending) text
      due_at Lost rest text on talk = commanded Session spells (done refl (read_first (λ s bytes. IsTalkOf Lost s bytes new_left text) rest on talk))
      due_at Ended rest text on talk =
          commanded Session spells (input_ended refl refl (read_first (λ s bytes. IsTalkOf Ended s bytes new_left text) rest on talk))
      due_at Bad rest text on talk =
          commanded Session spells (bad_answer refl refl (read_first (λ s bytes. IsTalkOf Bad s bytes new_left text) rest on talk))

      pub talk_answers : (status : Status) → reads ≤ mid_reads → IsTalked talking_on status
          → IsAnswer (run_of (call_of players words left new_left) reads new_reads written new_written writes new_writes) status
      talk_answers status before (said_all ending rest text e on talk told) =
          wrote text (subst (λ (s : Status). IsDue (call_of players words left new_left) s text) (sym e) (due_at ending rest text on talk)) told
      talk_answers status before (unanswered rest text e rose on talk told) =
          answer_unread e (then-Rose reads mid_reads new_reads before rose) (record { spells = spells; unanswered = unanswered_so rest text on talk told })
      talk_answers status before (unsaid rest text e rose on talk some) =
          talk_unsaid e rose
          (record { spells = spells; unsaid = record { text = text; talk = read_first (λ s bytes. IsPartOfTalk s bytes new_left text) rest on talk; some = some } })
      talk_answers status before (unclosed ending rest text e rose on talk some) =
          write_failed (status_at ending) text e rose (due_at ending rest text on talk) some
      talk_answers status before (unbegun e same) = memory_refused e same

-- ---- the text of a strategy has a fault

-- the line of the fault was due, or a read failed, or memory was refused
pub fault_answers : (players : Players) (words : List (List ℕ)) (left new_left : Option (List ℕ)) (first : List ℕ) (reads new_reads writes new_writes : ℕ)
    (written new_written : Option (List ℕ)) (fault : CheckFault) (made : Result Due Stop) (status : Status) → Spells players words Session → first ≡ []
    → IsTextFaultOf (Only Adversary) first fault left new_left → (fault ≡ check_fault.Read → Rose reads new_reads)
    → ((w : Wanted) (l n : Option (List ℕ)) → IsStop w l n fault → IfOk made (IsDueWith statuses.Rejected (IsRejected w l n)))
    → ((w : Wanted) (l n : Option (List ℕ)) → IsFrontStop w l n fault → IfOk made (IsDueWith statuses.Rejected (IsFrontRejected w l n)))
    → (made ≡ Err stops.Read → fault ≡ check_fault.Read) → (fault ≡ check_fault.Memory → made ≡ Err stops.Memory)
    → IsEnding made written new_written writes new_writes status
    → IsAnswer (run_of (call_of players words left new_left) reads new_reads written new_written writes new_writes) status
fault_answers players words left new_left first reads new_reads writes new_writes written new_written fault made status spells none of rose whole front read memory ending =
    let stop : IsFrontStop (Only Adversary) left new_left fault = inr (subst (λ (bytes : List ℕ). IsTextFaultOf (Only Adversary) bytes fault left new_left) none of) in
    answer_by (call_of players words left new_left) reads new_reads written new_written writes new_writes made status
    (made_is_due players words left new_left Session made spells (fault_due players left new_left Session fault made stop whole front memory))
    (λ e. rose (read e))
    (λ e. record { command = Session; spells = spells; cut = cut_for players left new_left (reads_front (Only Adversary)) fault stop (read e) })
    ending

-- where a read failed, nothing was written, and the whole text was not read
pub unread_front : (Same : Type 0) (left new_left : Option (List ℕ)) (first : List ℕ) (fault : CheckFault) (made : Result Due Stop)
    (old new : Option (List ℕ)) (writes new_writes : ℕ) (status : Status) → first ≡ [] → IsTextFaultOf (Only Adversary) first fault left new_left
    → IfOk made (λ due. due.status ≡ statuses.Rejected) → IfErr made (λ stop. Same) → (made ≡ Err stops.Read → fault ≡ check_fault.Read)
    → IsEnding made old new writes new_writes status → status ≡ statuses.ReadFault → Same × IsTextInterrupted (Only Adversary) [] left new_left
unread_front Same left new_left first fault made old new writes new_writes status none of rejected same read ending f =
    let at_front : IsTextFaultOf (Only Adversary) [] fault left new_left = subst (λ (bytes : List ℕ). IsTextFaultOf (Only Adversary) bytes fault left new_left) none of in
    unread_where Same (IsTextInterrupted (Only Adversary) [] left new_left) made old new writes new_writes status
    (known_is_read statuses.Rejected made (λ e. absurd cc) rejected) same
    (λ e. subst (λ (g : CheckFault). IsTextFaultOf (Only Adversary) [] g left new_left) (read e) at_front) ending f
