-- What the work of a command comes to.
use Rattle.std.proofs.Common.{◌≡◌, ◌*◌, ◌≤◌, ◌<◌, ◌+◌, ℕ, List, [], length, lt_of_not-le}
use Rattle.std.proofs.Common.{Option, Some, Result, Ok, Err, IfOk, inl, inr, sym, ap, subst, refl, ◌∙◌, arith}
use Rattle.std.specs.Prelude.{slice_get}
use Rattle.items.specs.Game.{GameNumbers}
use Rattle.items.specs.Multiset.{sizes_of}
use Rattle.checker.specs.Accepted.{Accepts, IsFaultOf, IsLoaded, IsTextFaultOf}
use Rattle.checker.specs.declared.fault.Accepted.{Accepted}
use Rattle.checker.specs.declared.fault.CheckFault.{CheckFault}
use Rattle.checker.specs.declared.fault.CheckFault.TheVariants as check_fault
use Rattle.checker.specs.declared.fault.Wanted.{Wanted}
use Rattle.checker.specs.declared.fault.Wanted.TheVariants.{Either, Only}
use Rattle.checker.specs.declared.fault.Why.{Why}
use Rattle.loads.specs.Wins.{IsWon, empty_position}
use Rattle.minimax.specs.Answers.{IsAnswer, IsDecided, IsFor}
use Rattle.minimax.specs.Budgets.{AreNumbersOfReachable, HasRoom, IsOfAdversary, reachable_before}
use Rattle.minimax.specs.declared.answer.Answer.{Answer as SearchAnswer}
use Rattle.minimax.specs.declared.answer.Answer.TheVariants as answers
use Rattle.minimise.specs.Strategies.{canonical_form}
use Rattle.strategies.specs.AnyNode.{IsLegal}
use Rattle.minimise.specs.Upgrade.{IsCanonicalUpgrade}
use Rattle.minimise.proofs.StrategyLemmas.{canonical_forms_have_no_more_nodes}
use Rattle.monotone.specs.Passes.{allowed_in, whole_game}
use Rattle.monotone.specs.Positions.{CountsAllReachable}
use Rattle.monotone.specs.Visits.{most_visits}
use Rattle.monotone.specs.declared.path.PathMove.{PathMove}
use Rattle.strategy_text.specs.Text.{nodes_of, side_of, text_of}
use Rattle.strategy_text.specs.declared.node.Side.TheVariants.{Adversary, Algorithm}
use Rattle.strategy_text.specs.declared.node.Strategy.{Strategy}
use Rattle.stretch_bench.specs.Answer.{IsAnswerOf, IsUnpackable}
use Rattle.stretch_bench.specs.Call.{Players}
use Rattle.stretch_bench.specs.Check.{IsAcceptedLine, accepted_line}
use Rattle.stretch_bench.specs.Commands.{form_of, reads_by}
use Rattle.stretch_bench.specs.Drill.{drilled}
use Rattle.stretch_bench.specs.Due.{IsFrontRejected, IsRejected, done, not_found, rejected, rejected_front, undecided, unpackable, unscaled, unvalued, unweakened}
use Rattle.stretch_bench.specs.Form.{IsDone, IsRead, Reads, reads_front, reads_nothing, reads_whole}
use Rattle.stretch_bench.specs.Lines.{rejected_line}
use Rattle.stretch_bench.specs.Minimise.{IsMinimised}
use Rattle.stretch_bench.specs.Pieces.{IsDueWith, IsEither, IsFrontStop, IsMade, IsStop, IsStopOf, due_text}
use Rattle.stretch_bench.specs.Play.{IsPlayOf}
use Rattle.stretch_bench.specs.Report.{IsSummaryOf}
use Rattle.stretch_bench.specs.Search.{IsFound, IsUndecided, undecided_line}
use Rattle.stretch_bench.specs.Scale.{IsScaled, IsUnscaled, no_transfer_line}
use Rattle.stretch_bench.specs.Weaken.{IsUnweakened, IsWeakened}
use Rattle.stretch_bench.specs.Value.{IsUnvalued, IsValued}
use Rattle.stretch_bench.specs.Force.{IsForcing, IsNotFound}
use Rattle.stretch_bench.specs.Upgrade.{IsUpgraded}
use Rattle.stretch_bench.specs.declared.command.Command.{Command}
use Rattle.stretch_bench.specs.declared.command.Command.TheVariants.{Check, Play, Answer, Minimise, Upgrade, Report, Drill, Search, Scale, Weaken, Value}
use Rattle.stretch_bench.specs.declared.command.Command.TheVariants.{Force}
use Rattle.stretch_bench.specs.declared.due.Due.{Due}
use Rattle.stretch_bench.specs.declared.due.Stop.{Stop}
use Rattle.stretch_bench.specs.declared.due.Stop.TheVariants.{Memory}
use Rattle.stretch_bench.specs.declared.status.Status.{Status}
use Rattle.stretch_bench.specs.declared.status.Status.TheVariants.{Done, Rejected, Undecided, Unpackable, NoTransfer, NotFound}
use Rattle.strategy_transfer.specs.Scaled.{scaled_strategy}
use Rattle.strategy_transfer.specs.Targets.{CanScaleStrategy, CanWeakenStrategy}
use Rattle.strategy_transfer.specs.Weakened.{weakened_strategy}
use Rattle.adversary_graph.specs.Pools.{IsLegalOfAdversary}
use Rattle.stretch_bench.proofs.LegalLemmas.{canonical_alike, canonical_is, upgrade_alike, upgrade_is}

-- another kind of text
pub due_as : (status : Status) (Is Also : List ℕ → Type 0) (due : Due) → ((text : List ℕ) → Is text → Also text) → IsDueWith status Is due → IsDueWith status Also due
due_as status Is Also due gives with = record { status_is = with.status_is; writable = with.writable; text = gives (due_text due) with.text }

-- a text that is known
pub due_is : (status : Status) (Is : List ℕ → Type 0) (known : List ℕ) (due : Due) → Is known → IsDueWith status (λ text. text ≡ known) due → IsDueWith status Is due
due_is status Is known due is with = due_as status (λ text. text ≡ known) Is due (λ text e. subst Is (sym e) is) with

module _ (players : Players) (left new_left : Option (List ℕ)) where
  -- a command is done
  done_with : (command : Command) (Is : List ℕ → Type 0) (due : Due)
      → ((text : List ℕ) → Is text → IsDone (form_of players command).work left new_left text)
      → IsDueWith Done Is due → IsMade players left new_left command due
  done_with command Is due gives with = record { outcome = done with.status_is (gives (due_text due) with.text); writable = with.writable }

  -- a command under another name
  pub made_as : (one other : Command) (due : Due) → one ≡ other → IsMade players left new_left other due → IsMade players left new_left one due
  made_as one other due e made = subst (λ (command : Command). IsMade players left new_left command due) (sym e) made

  pub check_made : (due : Due) → IsDueWith Done (λ text. IsRead Either left new_left (λ strategy. IsAcceptedLine strategy text)) due
      → IsMade players left new_left Check due
  check_made due with = done_with Check (λ text. IsRead Either left new_left (λ strategy. IsAcceptedLine strategy text)) due (λ text read. read) with

  pub play_made : (place : ℕ) (name : List ℕ) (answer : GameNumbers → List ℕ → ℕ) (strategy : Strategy) (due : Due)
      → slice_get players.names place ≡ Some name → slice_get players.answers place ≡ Some answer → IsLoaded (Only Adversary) strategy left new_left
      → IsDueWith Done (IsPlayOf name answer strategy) due → IsMade players left new_left (Play place) due
  play_made place name answer strategy due named so loads with =
      done_with (Play place) (IsPlayOf name answer strategy) due
      (λ text play. record {
        strategy = strategy;
        loaded = loads;
        is = record { name = name; named = named; answer = answer; answers_so = so; play = play };
      })
      with

  pub answer_made : (items : List ℕ) (strategy : Strategy) (due : Due) → IsLoaded (Only Algorithm) strategy left new_left
      → IsEither Done (IsAnswerOf items strategy) Unpackable (IsUnpackable items strategy) due → IsMade players left new_left (Answer items) due
  answer_made items strategy due loads (inl with) =
      done_with (Answer items) (IsAnswerOf items strategy) due (λ text is. record { strategy = strategy; loaded = loads; is = is }) with
  answer_made items strategy due loads (inr with) = record {
    outcome = unpackable items with.status_is refl (record { strategy = strategy; loaded = loads; is = with.text });
    writable = with.writable;
  }

  pub minimise_made : (strategy : Strategy) (due : Due) → IsLoaded Either strategy left new_left → IsDueWith Done (IsMinimised strategy) due
      → IsMade players left new_left Minimise due
  minimise_made strategy due loads with =
      done_with Minimise (IsMinimised strategy) due (λ text is. record { strategy = strategy; loaded = loads; is = is }) with

  pub upgrade_made : (strategy : Strategy) (due : Due) → IsLoaded Either strategy left new_left → IsDueWith Done (IsUpgraded strategy) due
      → IsMade players left new_left Upgrade due
  upgrade_made strategy due loads with =
      done_with Upgrade (IsUpgraded strategy) due (λ text is. record { strategy = strategy; loaded = loads; is = is }) with

  pub report_made : (strategy : Strategy) (due : Due) → IsLoaded Either strategy left new_left → IsDueWith Done (IsSummaryOf strategy) due
      → IsMade players left new_left Report due
  report_made strategy due loads with =
      done_with Report (IsSummaryOf strategy) due (λ text is. record { strategy = strategy; loaded = loads; is = is }) with

  pub drill_made : (number copies : ℕ) (due : Due) → new_left ≡ left → IsDueWith Done (λ text. text ≡ drilled number copies) due
      → IsMade players left new_left (Drill number copies) due
  drill_made number copies due unread with =
      done_with (Drill number copies) (λ text. text ≡ drilled number copies) due (λ text is. (unread, is)) with

  pub search_made : (game : GameNumbers) (budget table : ℕ) (due : Due) → new_left ≡ left
      → IsEither Done (IsFound game budget) Undecided (IsUndecided game budget table) due → IsMade players left new_left (Search game budget table) due
  search_made game budget table due unread (inl with) =
      done_with (Search game budget table) (IsFound game budget) due (λ text is. (unread, is)) with
  search_made game budget table due unread (inr with) =
      record { outcome = undecided game budget table with.status_is refl unread with.text; writable = with.writable }

  pub scale_made : (factor : ℕ) (strategy : Strategy) (due : Due) → IsLoaded (Only Adversary) strategy left new_left
      → IsEither Done (IsScaled factor strategy) NoTransfer (IsUnscaled factor strategy) due → IsMade players left new_left (Scale factor) due
  scale_made factor strategy due loads (inl with) =
      done_with (Scale factor) (IsScaled factor strategy) due (λ text is. record { strategy = strategy; loaded = loads; is = is }) with
  scale_made factor strategy due loads (inr with) = record {
    outcome = unscaled factor with.status_is refl (record { strategy = strategy; loaded = loads; is = with.text });
    writable = with.writable;
  }

  pub weaken_made : (target : ℕ) (strategy : Strategy) (due : Due) → IsLoaded Either strategy left new_left
      → IsEither Done (IsWeakened target strategy) NoTransfer (IsUnweakened target strategy) due → IsMade players left new_left (Weaken target) due
  weaken_made target strategy due loads (inl with) =
      done_with (Weaken target) (IsWeakened target strategy) due (λ text is. record { strategy = strategy; loaded = loads; is = is }) with
  weaken_made target strategy due loads (inr with) = record {
    outcome = unweakened target with.status_is refl (record { strategy = strategy; loaded = loads; is = with.text });
    writable = with.writable;
  }

  pub value_made : (bins capacity budget table : ℕ) (due : Due) → new_left ≡ left
      → IsEither Done (IsValued bins capacity budget) Undecided (IsUnvalued bins capacity budget table) due
      → IsMade players left new_left (Value bins capacity budget table) due
  value_made bins capacity budget table due unread (inl with) =
      done_with (Value bins capacity budget table) (IsValued bins capacity budget) due (λ text is. (unread, is)) with
  value_made bins capacity budget table due unread (inr with) =
      record { outcome = unvalued bins capacity budget table with.status_is refl unread with.text; writable = with.writable }

  pub force_made : (game : GameNumbers) (pass budget table : ℕ) (due : Due) → new_left ≡ left
      → IsEither Done (IsForcing game) NotFound (IsNotFound game budget) due → IsMade players left new_left (Force game pass budget table) due
  force_made game pass budget table due unread (inl with) =
      done_with (Force game pass budget table) (IsForcing game) due (λ text is. (unread, is)) with
  force_made game pass budget table due unread (inr with) =
      record { outcome = not_found game pass budget table with.status_is refl unread with.text; writable = with.writable }

  -- the line of a fault
  fault_by : (command : Command) (reads : Reads) (fault : CheckFault) (r : Result Due Stop) → reads_by players command ≡ reads
      → IsStopOf reads left new_left fault
      → ((w : Wanted) (l n : Option (List ℕ)) → IsStop w l n fault → IfOk r (IsDueWith Rejected (IsRejected w l n)))
      → ((w : Wanted) (l n : Option (List ℕ)) → IsFrontStop w l n fault → IfOk r (IsDueWith Rejected (IsFrontRejected w l n)))
      → (fault ≡ check_fault.Memory → r ≡ Err Memory) → IfOk r (IsMade players left new_left command)
  fault_by command reads_nothing fault (Ok due) e stop gives fronts memory = absurd (let never : Ok due ≡ Err Memory = memory stop in cc)
  fault_by command (reads_whole wanted) fault (Ok due) e stop gives fronts memory =
      let with : IsDueWith Rejected (IsRejected wanted left new_left) due = gives wanted left new_left stop in
      record { outcome = rejected wanted with.status_is e with.text; writable = with.writable }
  fault_by command (reads_front wanted) fault (Ok due) e stop gives fronts memory =
      let with : IsDueWith Rejected (IsFrontRejected wanted left new_left) due = fronts wanted left new_left stop in
      record { outcome = rejected_front wanted with.status_is e with.text; writable = with.writable }
  fault_by command reads fault (Err why) e stop gives fronts memory = tt

  pub fault_due : (command : Command) (fault : CheckFault) (r : Result Due Stop) → IsStopOf (reads_by players command) left new_left fault
      → ((w : Wanted) (l n : Option (List ℕ)) → IsStop w l n fault → IfOk r (IsDueWith Rejected (IsRejected w l n)))
      → ((w : Wanted) (l n : Option (List ℕ)) → IsFrontStop w l n fault → IfOk r (IsDueWith Rejected (IsFrontRejected w l n)))
      → (fault ≡ check_fault.Memory → r ≡ Err Memory) → IfOk r (IsMade players left new_left command)
  fault_due command fault r stop gives fronts memory = fault_by command (reads_by players command) fault r refl stop gives fronts memory

-- ---- what is made

-- the canonical form of a strategy
pub minimise_due : (strategy made : Strategy) (due : Due) → IsLegal strategy → made ≡ canonical_form strategy → IsDueWith Done (λ text. text ≡ text_of made) due
    → IsDueWith Done (IsMinimised strategy) due
minimise_due strategy made due legal is with =
    due_is Done (IsMinimised strategy) (text_of made) due
    (record { canonical = canonical_is strategy legal; alike = canonical_alike strategy; spelled = ap text_of is })
    with

pub upgrade_due : (strategy made : Strategy) (due : Due) → IsLegal strategy → IsCanonicalUpgrade strategy made → IsDueWith Done (λ text. text ≡ text_of made) due
    → IsDueWith Done (IsUpgraded strategy) due
upgrade_due strategy made due legal is with =
    due_is Done (IsUpgraded strategy) (text_of made) due
    (record { made = made; upgrade = is; canonical = upgrade_is strategy made legal is; alike = upgrade_alike strategy made is; spelled = refl })
    with

-- a strategy on another scale
pub scaled_due : (factor : ℕ) (strategy made : Strategy) (due : Due) → CanScaleStrategy factor strategy → made ≡ scaled_strategy factor strategy
    → IsLegalOfAdversary made → IsDueWith Done (λ text. text ≡ text_of made) due → IsDueWith Done (IsScaled factor strategy) due
scaled_due factor strategy made due can is legal with =
    due_is Done (IsScaled factor strategy) (text_of made) due
    (record { can = can; legal = subst IsLegalOfAdversary is legal; spelled = ap text_of is })
    with

-- the canonical form of a strategy at another target
pub weakened_due : (target : ℕ) (strategy weaker made : Strategy) (due : Due) → CanWeakenStrategy target strategy → weaker ≡ weakened_strategy target strategy
    → IsLegal weaker → side_of weaker.nodes ≡ side_of strategy.nodes → made ≡ canonical_form weaker → IsDueWith Done (λ text. text ≡ text_of made) due
    → IsDueWith Done (IsWeakened target strategy) due
weakened_due target strategy weaker made due can is legal side form with =
    let same : made ≡ canonical_form (weakened_strategy target strategy) = form ∙ ap canonical_form is in
    due_is Done (IsWeakened target strategy) (text_of made) due
    (record {
      can = can;
      canonical = canonical_is (weakened_strategy target strategy) (subst IsLegal is legal);
      game = refl;
      side = (canonical_alike (weakened_strategy target strategy)).side ∙ subst (λ (s : Strategy). side_of s.nodes ≡ side_of strategy.nodes) is side;
      spelled = ap text_of same;
    })
    with

-- the line of a game to which a strategy can't be moved
pub unscaled_due : (factor : ℕ) (strategy : Strategy) (line : List ℕ) (due : Due) → ¬ CanScaleStrategy factor strategy
    → line ≡ no_transfer_line strategy.game.bins (strategy.game.capacity * factor) (strategy.game.target * factor)
    → IsDueWith NoTransfer (λ text. text ≡ line) due → IsDueWith NoTransfer (IsUnscaled factor strategy) due
unscaled_due factor strategy line due cannot told with =
    due_is NoTransfer (IsUnscaled factor strategy) line due (record { cannot = cannot; line = told }) with

pub unweakened_due : (target bins capacity : ℕ) (strategy : Strategy) (line : List ℕ) (due : Due) → ¬ CanWeakenStrategy target strategy
    → bins ≡ strategy.game.bins → capacity ≡ strategy.game.capacity → line ≡ no_transfer_line bins capacity target
    → IsDueWith NoTransfer (λ text. text ≡ line) due → IsDueWith NoTransfer (IsUnweakened target strategy) due
unweakened_due target bins capacity strategy line due cannot m g told with =
    due_is NoTransfer (IsUnweakened target strategy) line due
    (record { cannot = cannot; line = told ∙ λ i. no_transfer_line (m i) (g i) target })
    with

-- the canonical form of a strategy that was found
pub found_due : (game : GameNumbers) (budget : ℕ) (strategy made : Strategy) (due : Due) → IsLegal strategy → IsFor game budget strategy
    → made ≡ canonical_form strategy → IsDueWith Done (λ text. text ≡ text_of made) due → IsDueWith Done (IsFound game budget) due
found_due game budget strategy made due legal for is with =
    due_is Done (IsFound game budget) (text_of made) due
    (record {
      strategy = canonical_form strategy;
      canonical = canonical_is strategy legal;
      of_game = for.of_game;
      of_format = for.of_format;
      few = omega (arith, canonical_forms_have_no_more_nodes strategy legal, for.few);
      spelled = ap text_of is;
    })
    with

-- the visit that was due where a search spent its budget
pub undecided_due : (game : GameNumbers) (budget table room visits pass : ℕ) (path : List PathMove) (answer : SearchAnswer) (line : List ℕ) (due : Due)
    → answer ≡ answers.Undecided visits pass path → room ≡ table → IsAnswer game budget answer
    → (most_visits (whole_game game) ≤ budget → IsDecided answer)
    → ((all : ℕ) → CountsAllReachable game all → all ≤ room → game.capacity * all ≤ budget → IsDecided answer)
    → ((numbers : ℕ → ℕ) → AreNumbersOfReachable game numbers → HasRoom game room → reachable_before numbers game.capacity ≤ budget → IsDecided answer)
    → ((numbers : ℕ → ℕ) (won : ℕ) → AreNumbersOfReachable game numbers → HasRoom game room
    → IsWon game (allowed_in (sizes_of game) won) (empty_position game) → reachable_before numbers (won + 1) ≤ budget → IsOfAdversary answer)
    → line ≡ undecided_line game visits pass path → IsDueWith Undecided (λ text. text ≡ line) due → IsDueWith Undecided (IsUndecided game budget table) due
undecided_due game budget table room visits pass path answer line due e same is many all each won told with =
    let at = subst (IsAnswer game budget) e is in
    due_is Undecided (IsUndecided game budget table) line due
    (record {
      pass = pass;
      path = path;
      due = at.1;
      fewer_than_visits = lt_of_not-le (λ h. subst IsDecided e (many h));
      fewer_than_positions = λ number counts within. lt_of_not-le
          (λ h. subst IsDecided e (all number counts (subst (λ (r : ℕ). number ≤ r) (sym same) within) h));
      fewer_than_passes = λ numbers are room_for. lt_of_not-le
          (λ h. subst IsDecided e (each numbers are (subst (HasRoom game) (sym same) room_for) h));
      fewer_than_won = λ numbers pass are room_for is_won. lt_of_not-le
          (λ h. subst IsOfAdversary e (won numbers pass are (subst (HasRoom game) (sym same) room_for) is_won h));
      line = told ∙ ap (λ (v : ℕ). undecided_line game v pass path) at.0;
    })
    with

-- the line of a strategy that was accepted
pub accepted_due : (accepted : Accepted) (left new_left : Option (List ℕ)) (line : List ℕ) (due : Due) → Accepts Either accepted left new_left
    → line ≡ accepted_line accepted → IsDueWith Done (λ text. text ≡ line) due
    → IsDueWith Done (λ text. IsRead Either left new_left (λ strategy. IsAcceptedLine strategy text)) due
accepted_due accepted left new_left line due accepts told with =
    let strategy = accepts.strategy in
    let same : accepted ≡ record { game = strategy.game; side = side_of strategy.nodes; nodes = length (nodes_of strategy.nodes) } =
    λ i. record { game = accepts.game i; side = accepts.side i; nodes = accepts.number i } in
    due_is Done (λ text. IsRead Either left new_left (λ strategy. IsAcceptedLine strategy text)) line due
    (record { strategy = strategy; loaded = accepts.loaded; is = told ∙ ap accepted_line same })
    with

-- the line of a fault that was found
pub rejected_due : (wanted : Wanted) (left new_left : Option (List ℕ)) (fault : CheckFault) (at : ℕ) (why : Why) (line : List ℕ) (due : Due)
    → fault ≡ check_fault.Rejected at why → IsStop wanted left new_left fault → line ≡ rejected_line at why
    → IsDueWith Rejected (λ text. text ≡ line) due → IsDueWith Rejected (IsRejected wanted left new_left) due
rejected_due wanted left new_left fault at why line due e (inl memory) told with = absurd cc
rejected_due wanted left new_left fault at why line due e (inr of) told with =
    due_is Rejected (IsRejected wanted left new_left) line due
    (record { at = at; why = why; rejects = subst (λ (f : CheckFault). IsFaultOf wanted [] f left new_left) e of; line = told })
    with

-- the same in a line of the text that the input begins with
pub front_due : (wanted : Wanted) (left new_left : Option (List ℕ)) (fault : CheckFault) (at : ℕ) (why : Why) (line : List ℕ) (due : Due)
    → fault ≡ check_fault.Rejected at why → IsFrontStop wanted left new_left fault → line ≡ rejected_line at why
    → IsDueWith Rejected (λ text. text ≡ line) due → IsDueWith Rejected (IsFrontRejected wanted left new_left) due
front_due wanted left new_left fault at why line due e (inl memory) told with = absurd cc
front_due wanted left new_left fault at why line due e (inr of) told with =
    due_is Rejected (IsFrontRejected wanted left new_left) line due
    (record { at = at; why = why; rejects = subst (λ (f : CheckFault). IsTextFaultOf wanted [] f left new_left) e of; line = told })
    with
