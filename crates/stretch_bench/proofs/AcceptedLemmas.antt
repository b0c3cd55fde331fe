-- What stands after an accepted line, and where a command is served.
use Rattle.std.proofs.Common.{◌≡◌, ◌⊎◌, ◌≤◌, ℕ, List, [], ◌∷◌, ◌++◌, length, get_or, take, drop, codes}
use Rattle.std.proofs.Common.{Option, Some, None, inl, inr, refl, ap, sym, subst, ◌∙◌, arith, append_assoc, append-nil, take-append-drop}
use Rattle.std.proofs.lemmas.List.{append_cancel_left, length-map}
use Rattle.std.specs.Prelude.{unwrap_or}
use Rattle.std.specs.Io.KnownBytes.{append_known}
use Rattle.port_io.specs.Told.{AppendsSome}
use Rattle.items.specs.Game.{GameNumbers, IsGame}
use Rattle.items.specs.Multiset.{sizes_of}
use Rattle.online_play.specs.Algorithm.{ForcesEvery}
use Rattle.online_play.specs.declared.transcript.Transcript.{Transcript}
use Rattle.strategy_text.specs.Spelling.{most_nodes}
use Rattle.strategy_text.specs.Text.{of_adversary, of_algorithm, nodes_of, side_of, text_of, first_line, line_of, text_of_lines}
use Rattle.strategy_text.specs.declared.node.Format.{Format}
use Rattle.strategy_text.specs.declared.node.Format.TheVariants.{One, Two}
use Rattle.strategy_text.specs.declared.node.Nodes.{Nodes}
use Rattle.strategy_text.specs.declared.node.Nodes.TheVariants as sides
use Rattle.strategy_text.specs.declared.node.Side.TheVariants.{Adversary, Algorithm}
use Rattle.strategy_text.specs.declared.node.Strategy.{Strategy}
use Rattle.strategy_text.specs.Writing.{spaced}
use Rattle.strategy_text.proofs.Spaced.{line_spaced}
use Rattle.algorithm_graph.proofs.BelowLemmas.{legal_replies_keep_below}
use Rattle.algorithm_graph.proofs.ReplayLemmas.{replies_are_an_algorithm}
use Rattle.checker.specs.Accepted.{Accepts, BeginsWithLegalText, IsLoaded}
use Rattle.checker.specs.FirstFault.{IsLegalText}
use Rattle.strategies.specs.AnyNode.{AreLegalNodes}
use Rattle.checker.specs.declared.fault.Accepted.{Accepted}
use Rattle.checker.specs.declared.fault.Wanted.{Wanted}
use Rattle.checker.specs.declared.fault.Wanted.TheVariants.{Either, Only}
use Rattle.checker.proofs.ForcedLemmas as forced
use Rattle.checker.proofs.ExactLemmas.{no_fault_in_text}
use Rattle.checker.proofs.LegalText.{legal_text_has_no_fault}
use Rattle.match_player.specs.Lines.{answer_text, game_words, pack_line, play_text, run_lines}
use Rattle.match_player.specs.declared.answered.Answered.{Answered}
use Rattle.adversary_graph.specs.Pools.{Pool}
use Rattle.referee_session.specs.Due.{closing, said_in}
use Rattle.referee_session.specs.Lines.{said}
use Rattle.referee_session.specs.declared.refereeing.Ending.{Ending}
use Rattle.stretch_bench.specs.Call.{Call, Players}
use Rattle.stretch_bench.specs.Check.{accepted_line, accepted_of, adversary_accepted, algorithm_accepted}
use Rattle.stretch_bench.specs.Commands.{Spells, SpellsNone, form_of, reads_by}
use Rattle.stretch_bench.specs.Due.{IsDue, IsFrontRejected, IsOutcome, IsRejected, bad_answer, commanded, done, input_ended, not_found, rejected, rejected_front}
use Rattle.stretch_bench.specs.Due.{undecided, unpackable, unscaled, unvalued, unweakened, usage}
use Rattle.stretch_bench.specs.Form.{IsDone, IsReadFirst, Reads, Work, in_turns, of_strategy, of_words, reads_front, reads_nothing, reads_of, reads_whole}
use Rattle.stretch_bench.specs.Replying.{Replying}
use Rattle.stretch_bench.specs.Run.{IsAnswer, IsExact, IsServed, IsStopped, Run, answer_unread, memory_refused, read_failed, talk_unsaid, write_failed, wrote}
use Rattle.stretch_bench.specs.Session.{IsTalkOf, last_of, pool_in}
use Rattle.stretch_bench.specs.Value.{IsValued}
use Rattle.stretch_bench.specs.Written.{WritesFirst}
use Rattle.stretch_bench.specs.declared.command.Command.{Command}
use Rattle.stretch_bench.specs.declared.command.Command.TheVariants.{Check, Play, Answer, Minimise, Upgrade, Report, Drill, Search, Session}
use Rattle.stretch_bench.specs.declared.command.Command.TheVariants.{Force, Scale, Value, Weaken}
use Rattle.stretch_bench.specs.declared.status.Status.{Status}
use Rattle.stretch_bench.specs.declared.status.Status.TheVariants.{Done, Rejected, Usage, WriteFault, OutOfMemory}
use Rattle.stretch_bench.proofs.Fronts.{HasSmallNumbers, same_line}
use Rattle.stretch_bench.proofs.OnceLemmas.{words_spell_one_command}

-- the numbers of a legal strategy are small
small_nodes : (format : Format) (game : GameNumbers) (sizes : List ℕ) (nodes : Nodes) → AreLegalNodes format game sizes nodes → IsGame game × (length (nodes_of nodes) ≤ most_nodes)
small_nodes format game sizes (sides.Adversary list) legal = (legal.of_game, omega (arith, legal.high, length-map list of_adversary))
small_nodes format game sizes (sides.Algorithm list) legal = (legal.of_game, omega (arith, legal.high, length-map list of_algorithm))

legal_numbers : (accepted : Accepted) (left new_left : Option (List ℕ)) → Accepts Either accepted left new_left → HasSmallNumbers accepted
legal_numbers accepted left new_left stands =
    let strategy = stands.strategy in
    let small = small_nodes strategy.format strategy.game (sizes_of strategy.game) strategy.nodes stands.loaded.legal in
    let of_game : IsGame accepted.game = subst IsGame (sym stands.game) small.0 in
    record {
      bins = omega (arith, of_game.bins.high);
      capacity = omega (arith, of_game.capacity.high);
      target = omega (arith, of_game.capacity.high, of_game.target.high);
      nodes = omega (arith, small.1, stands.number);
    }

-- the first line of a text begins with its first word
first_line_of : (word : List ℕ) (words lines : List (List ℕ))
    → text_of_lines (line_of (word ∷ words) ∷ lines) ≡ ((word ++ spaced words) ++ 10 ∷ []) ++ text_of_lines lines
first_line_of word words lines = ap (λ (line : List ℕ). (line ++ 10 ∷ []) ++ text_of_lines lines) (line_spaced word words)

-- a play begins with another letter than an accepted line, and answers differ from it in their second
not_played : (name : List ℕ) (game : GameNumbers) (transcript : Transcript) (accepted : Accepted) (more : List ℕ)
    → play_text name game transcript ≡ accepted_line accepted ++ more → ⊥
unfolding play_text
not_played name game transcript accepted more e =
    let lines = run_lines transcript.items transcript.bins transcript.loads ++ pack_line transcript.packing ∷ [] in
    let text : ((codes "play" ++ spaced (name ∷ game_words game)) ++ 10 ∷ []) ++ text_of_lines lines ≡ accepted_line accepted ++ more =
    sym (first_line_of (codes "play") (name ∷ game_words game) lines) ∙ e in
    absurd (let other : 112 ≡ 97 = ap (λ (l : List ℕ). get_or l 0 0) text in omega arith)

not_answered : (game : GameNumbers) (answered : Answered) (accepted : Accepted) (more : List ℕ) → answer_text game answered ≡ accepted_line accepted ++ more → ⊥
unfolding answer_text
not_answered game answered accepted more e =
    let lines = run_lines answered.items answered.bins answered.loads in
    let text : ((codes "answer" ++ spaced (game_words game)) ++ 10 ∷ []) ++ text_of_lines lines ≡ accepted_line accepted ++ more =
    sym (first_line_of (codes "answer") (game_words game) lines) ∙ e in
    absurd (let other : 110 ≡ 99 = ap (λ (l : List ℕ). get_or l 1 0) text in omega arith)

-- the text of a strategy begins with another letter
first_letter : (format : Format) (rest : List ℕ) → get_or ((first_line format ++ 10 ∷ []) ++ rest) 0 0 ≡ 115
first_letter One rest = refl
first_letter Two rest = refl

not_spelled : (strategy : Strategy) (accepted : Accepted) (more : List ℕ) → text_of strategy ≡ accepted_line accepted ++ more → ⊥
not_spelled strategy accepted more e =
    absurd (let other : 115 ≡ 97 = sym (first_letter strategy.format _) ∙ ap (λ (l : List ℕ). get_or l 0 0) e in omega arith)

-- what is said in a talk begins with another letter
said_letter : (pool : Pool) (root : ℕ) (bins rest : List ℕ) → get_or (said_in pool root bins ++ rest) 0 0 ≡ 115
unfolding said
said_letter pool root bins rest = refl

not_said : (pool : Pool) (root : ℕ) (bins rest : List ℕ) (accepted : Accepted) (more : List ℕ) → said_in pool root bins ++ rest ≡ accepted_line accepted ++ more → ⊥
not_said pool root bins rest accepted more e =
    absurd (let other : 115 ≡ 97 = sym (said_letter pool root bins rest) ∙ ap (λ (l : List ℕ). get_or l 0 0) e in omega arith)

not_talked : (ending : Ending) (strategy : Strategy) (rest : List ℕ) (new_left : Option (List ℕ)) (text : List ℕ) (accepted : Accepted) (more : List ℕ)
    → IsTalkOf ending strategy rest new_left text → text ≡ accepted_line accepted ++ more → ⊥
not_talked ending strategy rest new_left text accepted more talk e =
    not_said (pool_in strategy talk.nodes) (last_of talk.nodes) talk.bins (closing (length talk.bins) talk.halt) accepted more (sym talk.spelled ∙ e)

-- the line of a value begins with another letter
not_valued : (bins capacity budget : ℕ) (text : List ℕ) (accepted : Accepted) (more : List ℕ) → IsValued bins capacity budget text
    → text ≡ accepted_line accepted ++ more → ⊥
not_valued bins capacity budget text accepted more (inl at) e =
    absurd (let other : 118 ≡ 97 = ap (λ (l : List ℕ). get_or l 0 0) (sym at.spelled ∙ e) in omega arith)
not_valued bins capacity budget text accepted more (inr nowhere) e =
    absurd (let other : 118 ≡ 97 = ap (λ (l : List ℕ). get_or l 0 0) (sym nowhere.spelled ∙ e) in omega arith)

-- only the text of a check that was done begins with an accepted line, and a legal strategy stands behind it
done_stands : (players : Players) (left new_left : Option (List ℕ)) (command : Command) (text : List ℕ) (accepted : Accepted) (more : List ℕ)
    → IsDone (form_of players command).work left new_left text → text ≡ accepted_line accepted ++ more → Accepts Either accepted left new_left
done_stands players left new_left Check text accepted more due e =
    let strategy = due.strategy in
    let stands : Accepts Either (accepted_of strategy) left new_left =
    record { strategy = strategy; loaded = due.loaded; game = refl; side = refl; number = refl } in
    subst (λ (a : Accepted). Accepts Either a left new_left)
    (same_line (accepted_of strategy) accepted more (legal_numbers (accepted_of strategy) left new_left stands) (sym due.is ∙ e)) stands
done_stands players left new_left (Play place) text accepted more due e =
    absurd (not_played due.is.name due.strategy.game due.is.play.transcript accepted more (sym due.is.play.lines ∙ e))
done_stands players left new_left (Answer items) text accepted more due e =
    absurd (not_answered due.strategy.game _ accepted more (sym due.is.lines ∙ e))
done_stands players left new_left Minimise text accepted more due e = absurd (not_spelled _ accepted more (sym due.is.spelled ∙ e))
done_stands players left new_left Upgrade text accepted more due e = absurd (not_spelled due.is.made accepted more (sym due.is.spelled ∙ e))
done_stands players left new_left Report text accepted more due e =
    absurd (let other : 114 ≡ 97 = ap (λ (l : List ℕ). get_or l 0 0) (sym due.is.line ∙ e) in omega arith)
done_stands players left new_left (Drill number copies) text accepted more due e =
    absurd (let other : 100 ≡ 97 = ap (λ (l : List ℕ). get_or l 0 0) (sym due.1 ∙ e) in omega arith)
done_stands players left new_left (Search game budget table) text accepted more due e =
    absurd (not_spelled due.1.strategy accepted more (sym due.1.spelled ∙ e))
done_stands players left new_left Session text accepted more due e = absurd (not_talked _ due.strategy due.rest new_left text accepted more due.is e)
done_stands players left new_left (Scale factor) text accepted more due e = absurd (not_spelled _ accepted more (sym due.is.spelled ∙ e))
done_stands players left new_left (Weaken target) text accepted more due e = absurd (not_spelled _ accepted more (sym due.is.spelled ∙ e))
done_stands players left new_left (Value bins capacity budget table) text accepted more due e =
    absurd (not_valued bins capacity budget text accepted more due.1 e)
done_stands players left new_left (Force game pass budget table) text accepted more due e =
    absurd (not_spelled due.1.strategy accepted more (sym due.1.spelled ∙ e))

outcome_stands : (players : Players) (left new_left : Option (List ℕ)) (command : Command) (status : Status) (text : List ℕ) (accepted : Accepted) (more : List ℕ)
    → IsOutcome players left new_left command status text → text ≡ accepted_line accepted ++ more → Accepts Either accepted left new_left
outcome_stands players left new_left command status text accepted more (done s is) e = done_stands players left new_left command text accepted more is e
outcome_stands players left new_left command status text accepted more (rejected wanted s w is) e =
    absurd (let other : 114 ≡ 97 = ap (λ (l : List ℕ). get_or l 0 0) (sym is.line ∙ e) in omega arith)
outcome_stands players left new_left command status text accepted more (rejected_front wanted s w is) e =
    absurd (let other : 114 ≡ 97 = ap (λ (l : List ℕ). get_or l 0 0) (sym is.line ∙ e) in omega arith)
outcome_stands players left new_left command status text accepted more (unpackable items s c is) e =
    absurd (let other : 117 ≡ 97 = ap (λ (l : List ℕ). get_or l 0 0) (sym is.is.line ∙ e) in omega arith)
outcome_stands players left new_left command status text accepted more (undecided game budget table s c l is) e =
    absurd (let other : 117 ≡ 97 = ap (λ (l : List ℕ). get_or l 0 0) (sym is.line ∙ e) in omega arith)
outcome_stands players left new_left command status text accepted more (input_ended s c is) e =
    absurd (not_talked _ is.strategy is.rest new_left text accepted more is.is e)
outcome_stands players left new_left command status text accepted more (bad_answer s c is) e =
    absurd (not_talked _ is.strategy is.rest new_left text accepted more is.is e)
outcome_stands players left new_left command status text accepted more (unscaled factor s c is) e =
    absurd (let other : 110 ≡ 97 = ap (λ (l : List ℕ). get_or l 0 0) (sym is.is.line ∙ e) in omega arith)
outcome_stands players left new_left command status text accepted more (unweakened target s c is) e =
    absurd (let other : 110 ≡ 97 = ap (λ (l : List ℕ). get_or l 0 0) (sym is.is.line ∙ e) in omega arith)
outcome_stands players left new_left command status text accepted more (unvalued bins capacity budget table s c l is) e =
    absurd (let other : 117 ≡ 97 = ap (λ (l : List ℕ). get_or l 0 0) (sym is.line ∙ e) in omega arith)
outcome_stands players left new_left command status text accepted more (not_found game pass budget table s c l is) e =
    absurd (let other : 110 ≡ 97 = ap (λ (l : List ℕ). get_or l 0 0) (sym is.line ∙ e) in omega arith)

stands_after : (call : Call) (status : Status) (text : List ℕ) (accepted : Accepted) (more : List ℕ) → IsDue call status text
    → text ≡ accepted_line accepted ++ more → Accepts Either accepted call.left call.new_left
stands_after call status text accepted more (commanded command spells is) e =
    outcome_stands call.players call.left call.new_left command status text accepted more is e
stands_after call status text accepted more (usage s none l is) e =
    absurd (let other : 117 ≡ 97 = ap (λ (l : List ℕ). get_or l 0 0) (sym is ∙ e) in omega arith)

-- what was written first is the beginning of what was appended
first_of : (old new : Option (List ℕ)) (text bytes : List ℕ) → new ≡ append_known old text → WritesFirst old new bytes → (more : List ℕ) × (text ≡ bytes ++ more)
first_of None new text bytes e first = absurd first
first_of (Some xs) new text bytes e first =
    (first.0, append_cancel_left xs text (bytes ++ first.0) (ap (λ o. unwrap_or o []) (sym e ∙ first.1)))

-- nothing was written
known_nil : (known : Option (List ℕ)) → known ≡ append_known known []
known_nil None = refl
known_nil (Some xs) = ap Some (sym (append-nil xs))

not_empty : (bytes : List ℕ) → [] ≡ bytes → get_or bytes 0 0 ≡ 97 → ⊥
not_empty bytes e first = let differ : 0 ≡ get_or bytes 0 0 = ap (λ l. get_or l 0 0) e in omega arith

none_written : (known : Option (List ℕ)) (accepted : Accepted) → WritesFirst known known (accepted_line accepted) → ⊥
none_written known accepted first =
    let found = first_of known known [] (accepted_line accepted) (known_nil known) first in
    not_empty (accepted_line accepted ++ found.0) found.1 refl

-- an accepted line at the front of a text that was written
whole_front : (old new : Option (List ℕ)) (text : List ℕ) (accepted : Accepted) → new ≡ append_known old text → WritesFirst old new (accepted_line accepted)
    → (more : List ℕ) × (text ≡ accepted_line accepted ++ more)
whole_front old new text accepted whole first = first_of old new text (accepted_line accepted) whole first

-- and of a text of which a prefix was written
part_front : (old new : Option (List ℕ)) (text : List ℕ) (accepted : Accepted) → AppendsSome old new text → WritesFirst old new (accepted_line accepted)
    → (more : List ℕ) × (text ≡ accepted_line accepted ++ more)
part_front old new text accepted some first =
    let n = some.0 in
    let found = first_of old new (take n text) (accepted_line accepted) some.2 first in (
      found.0 ++ drop n text,
      sym (take-append-drop n text) ∙ ap (λ (l : List ℕ). l ++ drop n text) found.1 ∙ append_assoc (accepted_line accepted) found.0 (drop n text),
    )

-- what is said in a talk is no accepted line
said_nothing : (pool : Pool) (root : ℕ) (bins text : List ℕ) (accepted : Accepted) → text ≡ said_in pool root bins
    → (more : List ℕ) × (text ≡ accepted_line accepted ++ more) → ⊥
said_nothing pool root bins text accepted e front =
    not_said pool root bins [] accepted front.0 (append-nil (said_in pool root bins) ∙ sym e ∙ front.1)

-- a legal strategy stands after an accepted line that was written
pub accepted_stands : (run : Run) (status : Status) → IsAnswer run status → (accepted : Accepted) → WritesFirst run.written run.new_written (accepted_line accepted)
    → Accepts Either accepted run.call.left run.call.new_left
accepted_stands run status (wrote text due whole) accepted first =
    let front = whole_front run.written run.new_written text accepted whole first in
    stands_after run.call status text accepted front.0 due front.1
accepted_stands run status (write_failed what text s rose due some) accepted first =
    let front = part_front run.written run.new_written text accepted some first in
    stands_after run.call what text accepted front.0 due front.1
accepted_stands run status (read_failed s rose cut same) accepted first =
    absurd (none_written run.written accepted (subst (λ (w : Option (List ℕ)). WritesFirst run.written w (accepted_line accepted)) same first))
accepted_stands run status (answer_unread s rose cut) accepted first =
    let un = cut.unanswered in
    let talk = un.talk.is in
    absurd (said_nothing (pool_in un.talk.strategy talk.nodes) (last_of talk.nodes) talk.bins un.text accepted talk.spelled
    (whole_front run.written run.new_written un.text accepted un.told first))
accepted_stands run status (talk_unsaid s rose cut) accepted first =
    let un = cut.unsaid in
    let talk = un.talk.is in
    absurd (said_nothing (pool_in un.talk.strategy talk.nodes) (last_of talk.nodes) talk.bins un.text accepted talk.spelled
    (part_front run.written run.new_written un.text accepted un.some first))
accepted_stands run status (memory_refused s same) accepted first =
    absurd (none_written run.written accepted (subst (λ (w : Option (List ℕ)). WritesFirst run.written w (accepted_line accepted)) same first))

-- ---- where a command is served

-- where all bytes were read, they are the text of the strategy
legal_bytes : (wanted : Wanted) (strategy : Strategy) (bytes : List ℕ) (new_left : Option (List ℕ)) → IsLoaded wanted strategy (Some bytes) new_left
    → IsLegalText wanted bytes
legal_bytes wanted strategy bytes None loads = let gone : Some bytes ≡ None = loads.gone in absurd cc
legal_bytes wanted strategy bytes (Some rest) loads =
    let none : rest ≡ [] = loads.whole in
    let all : bytes ≡ loads.read ++ rest = (let gone : Some bytes ≡ Some (loads.read ++ rest) = loads.gone in cc) in
    record {
      strategy = strategy;
      legal = loads.legal;
      wanted_side = loads.wanted_side;
      spelled = all ∙ ap (λ (more : List ℕ). loads.read ++ more) none ∙ append-nil loads.read ∙ loads.spelled;
    }

-- a status is no other
not_rejected : (status : Status) → status ≡ Rejected → IsServed status → ⊥
not_rejected status e (inl d) = absurd cc
not_rejected status e (inr (inl u)) = absurd cc
not_rejected status e (inr (inr (inl n))) = absurd cc
not_rejected status e (inr (inr (inr (inl d)))) = absurd cc
not_rejected status e (inr (inr (inr (inr b)))) = absurd cc

-- where more bytes were read, they begin with the text of the strategy
begins_with : (wanted : Wanted) (bytes : List ℕ) (new_left : Option (List ℕ)) (Is : Strategy → List ℕ → Type 0) → IsReadFirst wanted (Some bytes) new_left Is
    → BeginsWithLegalText wanted bytes
begins_with wanted bytes None Is first = let gone : Some bytes ≡ None = first.gone in absurd cc
begins_with wanted bytes (Some more) Is first =
    let all : bytes ≡ (text_of first.strategy ++ first.rest) ++ more =
    (let gone : Some bytes ≡ Some ((text_of first.strategy ++ first.rest) ++ more) = first.gone in cc) in
    record {
      strategy = first.strategy;
      legal = first.legal;
      wanted_side = first.wanted_side;
      rest = first.rest ++ more;
      begins = all ∙ append_assoc (text_of first.strategy) first.rest more;
    }

-- a session that was served
session_exact : (wanted : Wanted) (bytes : List ℕ) (new_left : Option (List ℕ)) (status : Status) (Is : Strategy → List ℕ → Type 0) → IsServed status
    → IsReadFirst wanted (Some bytes) new_left Is → IsExact (reads_front wanted) (Some bytes) status
session_exact wanted bytes new_left status Is served first = λ on. (λ is. begins_with wanted bytes new_left Is first, λ begins. served)

-- a command that was done is served exactly where the bytes are a legal text of the side that it wants
done_exact : (work : Work) (bytes : List ℕ) (new_left : Option (List ℕ)) (status : Status) (text : List ℕ) → status ≡ Done
    → IsDone work (Some bytes) new_left text → IsExact (reads_of work) (Some bytes) status
done_exact (of_words Is) bytes new_left status text s is = tt
done_exact (of_strategy wanted Is) bytes new_left status text s is =
    λ on. (λ served. legal_bytes wanted is.strategy bytes new_left is.loaded, λ legal. inl s)
done_exact (in_turns wanted Is) bytes new_left status text s is = session_exact wanted bytes new_left status _ (inl s) is

rejected_exact : (reads : Reads) (w : Wanted) (bytes : List ℕ) (new_left : Option (List ℕ)) (status : Status) (text : List ℕ) → status ≡ Rejected
    → reads ≡ reads_whole w → IsRejected w (Some bytes) new_left text → IsExact reads (Some bytes) status
rejected_exact reads w bytes new_left status text s e is =
    subst (λ (o : Reads). IsExact o (Some bytes) status) (sym e)
    (λ on. (λ served. absurd (not_rejected status s served), λ legal. absurd (legal_text_has_no_fault w bytes legal is.at is.why is.rejects.first_of_input.has)))

front_exact : (reads : Reads) (w : Wanted) (bytes : List ℕ) (new_left : Option (List ℕ)) (status : Status) (text : List ℕ) → status ≡ Rejected
    → reads ≡ reads_front w → IsFrontRejected w (Some bytes) new_left text → IsExact reads (Some bytes) status
front_exact reads w bytes new_left status text s e is =
    subst (λ (o : Reads). IsExact o (Some bytes) status) (sym e)
    (λ on. (
      λ served. absurd (not_rejected status s served),
      λ begins. absurd (no_fault_in_text w bytes is.at is.why begins is.rejects.rejects.first_of_input is.rejects.of_text_of_input),
    ))

outcome_exact : (players : Players) (bytes : List ℕ) (new_left : Option (List ℕ)) (command : Command) (status : Status) (text : List ℕ)
    → IsOutcome players (Some bytes) new_left command status text → IsExact (reads_by players command) (Some bytes) status
outcome_exact players bytes new_left command status text (done s is) = done_exact (form_of players command).work bytes new_left status text s is
outcome_exact players bytes new_left command status text (rejected wanted s w is) =
    rejected_exact (reads_by players command) wanted bytes new_left status text s w is
outcome_exact players bytes new_left command status text (rejected_front wanted s w is) =
    front_exact (reads_by players command) wanted bytes new_left status text s w is
outcome_exact players bytes new_left command status text (unpackable items s c is) =
    subst (λ (x : Command). IsExact (reads_by players x) (Some bytes) status) (sym c)
    (λ on. (λ served. legal_bytes (Only Algorithm) is.strategy bytes new_left is.loaded, λ legal. inr (inl s)))
outcome_exact players bytes new_left command status text (undecided game budget table s c l is) =
    subst (λ (x : Command). IsExact (reads_by players x) (Some bytes) status) (sym c) tt
outcome_exact players bytes new_left command status text (input_ended s c is) =
    subst (λ (x : Command). IsExact (reads_by players x) (Some bytes) status) (sym c) (session_exact _ bytes new_left status _ (inr (inr (inr (inl s)))) is)
outcome_exact players bytes new_left command status text (bad_answer s c is) =
    subst (λ (x : Command). IsExact (reads_by players x) (Some bytes) status) (sym c) (session_exact _ bytes new_left status _ (inr (inr (inr (inr s)))) is)
outcome_exact players bytes new_left command status text (unscaled factor s c is) =
    subst (λ (x : Command). IsExact (reads_by players x) (Some bytes) status) (sym c)
    (λ on. (λ served. legal_bytes (Only Adversary) is.strategy bytes new_left is.loaded, λ legal. inr (inr (inl s))))
outcome_exact players bytes new_left command status text (unweakened target s c is) =
    subst (λ (x : Command). IsExact (reads_by players x) (Some bytes) status) (sym c)
    (λ on. (λ served. legal_bytes Either is.strategy bytes new_left is.loaded, λ legal. inr (inr (inl s))))
outcome_exact players bytes new_left command status text (unvalued bins capacity budget table s c l is) =
    subst (λ (x : Command). IsExact (reads_by players x) (Some bytes) status) (sym c) tt
outcome_exact players bytes new_left command status text (not_found game pass budget table s c l is) =
    subst (λ (x : Command). IsExact (reads_by players x) (Some bytes) status) (sym c) tt

-- nothing is claimed of a source that tells nothing
untold : (reads : Reads) (status : Status) → IsExact reads None status
untold reads_nothing status = tt
untold (reads_whole wanted) status = tt
untold (reads_front wanted) status = tt

due_exact : (call : Call) (left : Option (List ℕ)) (status : Status) (text : List ℕ) (command : Command) → left ≡ call.left → IsDue call status text
    → Spells call.players call.words command → IsExact (reads_by call.players command) left status
due_exact call None status text command e due spells = untold (reads_by call.players command) status
due_exact call (Some bytes) status text command e (commanded other other_spells is) spells =
    subst (λ (x : Command). IsExact (reads_by call.players x) (Some bytes) status)
    (words_spell_one_command call.players call.words other command other_spells spells)
    (outcome_exact call.players bytes call.new_left other status text
    (subst (λ (l : Option (List ℕ)). IsOutcome call.players l call.new_left other status text) (sym e) is))
due_exact call (Some bytes) status text command e (usage s none l is) spells = absurd (none command spells)

-- a run that was stopped says nothing of the input
stopped_exact : (reads : Reads) (left : Option (List ℕ)) (status : Status) → IsStopped status → IsExact reads left status
stopped_exact reads_nothing left status h = tt
stopped_exact reads None status h = untold reads status
stopped_exact (reads_whole wanted) (Some bytes) status h = λ on. absurd (on h)
stopped_exact (reads_front wanted) (Some bytes) status h = λ on. absurd (on h)

pub exact_answer : (run : Run) (status : Status) → IsAnswer run status → (command : Command) → Spells run.call.players run.call.words command
    → IsExact (reads_by run.call.players command) run.call.left status
exact_answer run status (wrote text due whole) command spells = due_exact run.call run.call.left status text command refl due spells
exact_answer run status (read_failed s rose cut same) command spells = stopped_exact (reads_by run.call.players command) run.call.left status (inl s)
exact_answer run status (write_failed what text s rose due some) command spells =
    stopped_exact (reads_by run.call.players command) run.call.left status (inr (inl s))
exact_answer run status (answer_unread s rose cut) command spells = stopped_exact (reads_by run.call.players command) run.call.left status (inl s)
exact_answer run status (talk_unsaid s rose cut) command spells = stopped_exact (reads_by run.call.players command) run.call.left status (inr (inl s))
exact_answer run status (memory_refused s same) command spells = stopped_exact (reads_by run.call.players command) run.call.left status (inr (inr s))

-- ---- words that spell no command

pub usage_answer : (run : Run) (status : Status) → IsAnswer run status → SpellsNone run.call.players run.call.words
    → (status ≡ Usage) ⊎ (status ≡ WriteFault) ⊎ (status ≡ OutOfMemory)
usage_answer run status (wrote text (commanded command spells is) whole) none = absurd (none command spells)
usage_answer run status (wrote text (usage s un l is) whole) none = inl s
usage_answer run status (read_failed s rose cut same) none = absurd (none cut.command cut.spells)
usage_answer run status (answer_unread s rose cut) none = absurd (none Session cut.spells)
usage_answer run status (talk_unsaid s rose cut) none = absurd (none Session cut.spells)
usage_answer run status (write_failed what text s rose due some) none = inr (inl s)
usage_answer run status (memory_refused s same) none = inr (inr s)

-- ---- what an accepted strategy does

pub accepted_forces : (game : GameNumbers) (nodes : ℕ) (left new_left : Option (List ℕ)) → Accepts Either (adversary_accepted game nodes) left new_left → ForcesEvery game
accepted_forces game nodes left new_left stands = forced.accepted_forces Either (adversary_accepted game nodes) left new_left stands refl

-- the replies of a legal strategy of the algorithm keep every load below the target
strategy_replies : (format : Format) (game : GameNumbers) (number : ℕ) (nodes : Nodes) (left new_left : Option (List ℕ))
    → IsLoaded Either (record { format = format; game = game; nodes = nodes }) left new_left → number ≡ length (nodes_of nodes) → side_of nodes ≡ Algorithm
    → Replying game number left new_left
strategy_replies format game number (sides.Adversary list) left new_left loads e side = absurd cc
strategy_replies format game number (sides.Algorithm list) left new_left loads e side =
    record {
      format = format;
      nodes = list;
      number_of_nodes = e ∙ length-map list of_algorithm;
      loaded = loads;
      algorithm = replies_are_an_algorithm game list loads.legal.of_game;
      keeps = legal_replies_keep_below format game list loads.legal;
    }

pub accepted_replies : (game : GameNumbers) (nodes : ℕ) (left new_left : Option (List ℕ)) → Accepts Either (algorithm_accepted game nodes) left new_left
    → Replying game nodes left new_left
accepted_replies game nodes left new_left stands =
    let strategy = stands.strategy in
    subst (λ g. Replying g nodes left new_left) (sym stands.game)
    (strategy_replies strategy.format strategy.game nodes strategy.nodes left new_left stands.loaded stands.number (sym stands.side))
