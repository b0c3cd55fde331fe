use Rattle.std.proofs.Common.{◌∙◌, ◌+◌, ℕ, length, sum, sym, ap, subst, inl, arith}
use Rattle.loads.specs.Loads.{IsLoads}
use Rattle.loads.specs.Position.{position}
use Rattle.loads.specs.Wins.{empty_position}
use Rattle.monotone.specs.Visits.{IsLater, Metered, visit}
use Rattle.minimax.specs.Serving.{IsServedBy, KeepsServing}
use Rattle.minimax.specs.State.{FindsVerdict, IsNeverWon, IsPlayable, IsSpent, IsWonIn, Stops}
use Rattle.minimax.specs.Fresh.{IsShort, progress}
use Rattle.minimax.specs.Writing.{MayWrite}
use Rattle.minimax.proofs.FreshLemmas.{IsLessThanReachable-short, IsWithinReachable-next, IsWithinReachable-start}
use Rattle.minimax.proofs.StateLemmas.{AreSound-later, never_by_led}
use Rattle.minimax.proofs.RootLemmas.{AreSound-new, HasSpare-new, IsDue-spent, IsFor-more, IsPlayable-empty, few_wins, may_visit_root, may_write, may_write_wins}
use Rattle.minimax.proofs.RootLemmas.{none_more}
use Rattle.minimax.proofs.ServingLemmas.{spare_after}
use Rattle.minimax.proofs.game_search.search_passes.Goals as goal

pub loop-pass-init : goal.loop-pass-init
loop-pass-init g c = record {
  sound = AreSound-new c.args.space.now c.args.space.now.first_pass c.args.budget c.new.result c.new-2.result c.new-3.result (g.M.Memo.entries c.args.memo.now) c.new.ensures.unused c.new-2.ensures.empty
      c.new-3.ensures.empty c.requires.empty c.requires.most;
  behind = HasSpare-new (record {
    alloc = c.args.alloc;
    meter = c.new.result;
    wins = c.new-2.result;
    replies = c.new-3.result;
    rooms = c.args.space.now.game;
    path = c.new-5.result;
    most = 0;
  }) c.args.space.now (g.M.Memo.entries c.args.memo.now) c.new-2.ensures.empty c.new-3.ensures.empty c.requires.empty;
  reachable = IsWithinReachable-start c.args.space.now (g.M.Memo.room c.args.memo.now) c.args.budget c.new.result (g.M.Memo.entries c.args.memo.now)
      c.new.ensures.unused c.requires.empty;
  path = c.new-5.ensures.none;
  most = c.g.ensures.value;
  rooms = c.in_ok-new.ensures;
  budget = ap (λ (m : Metered). m.budget) c.new.ensures.unused;
  none_before = λ earlier first l won. omega (arith, l);
  later = λ path. subst (λ (m : Metered). IsLater m (visit c.args.space.now.first_pass path)) (sym c.new.ensures.unused) tt;
  from_first = omega arith;
  of_game = c.requires.first;
}

pub expand-requires-clause-may : goal.expand-requires-clause-may
expand-requires-clause-may g c =
    let space = c.args.space.now in
    let root = c.in_ok-key.ensures.ok ∙ ap (λ xs. position xs c.empty.result) c.zero.ensures.value ∙ ap (position (empty_position space.game).loads) c.empty.ensures.none in
    may_visit_root space c.loop-pass.pass c.loop-pass.search c.in_ok-key.key c.loop-pass.invariant.from_first c.loop-pass.invariant.of_game
    (subst (IsLoads space.game) c.zero.ensures.value c.zero.ensures.legal) root c.loop-pass.invariant.path c.loop-pass.invariant.most c.loop-pass.invariant.rooms
    c.loop-pass.invariant.later

pub write_wins-requires-clause-may : goal.write_wins-requires-clause-may
write_wins-requires-clause-may g c =
    let space = c.args.space.now in
    let e0 = g.M.Memo.entries c.loop-pass.memo in
    let e = g.M.Memo.entries c.expand.new.memo in
    let s = c.expand.new.search in
    let root = c.in_ok-key.key in
    let is = c.in_ok-key.ensures.ok ∙ ap (λ xs. position xs c.empty.result) c.zero.ensures.value ∙ ap (position (empty_position space.game).loads) c.empty.ensures.none in
    let finds = subst (FindsVerdict space c.loop-pass.pass root c.loop-pass.search s e) c.in-Ok-Adversary.field-0-is c.in-Ok-Adversary.ensures.found in
    let behind = spare_after space 0 0 c.loop-pass.search s e0 e _ c.in-Ok-Adversary.ensures.serves c.loop-pass.invariant.behind in
    may_write_wins space c.loop-pass.pass s e root c.in-Ok-Adversary.number finds.went.sound behind is finds.tells.says

-- the root in the search, and what was found of it
pub returns-in-Ok-Adversary-clause-answer : goal.returns-in-Ok-Adversary-clause-answer
returns-in-Ok-Adversary-clause-answer g c =
    let space = c.args.space.now in
    let e0 = g.M.Memo.entries c.loop-pass.memo in
    let e = g.M.Memo.entries c.expand.new.memo in
    let s = c.expand.new.search in
    let root = c.in_ok-key.key in
    let finds = subst (FindsVerdict space c.loop-pass.pass root c.loop-pass.search s e) c.in-Ok-Adversary.field-0-is c.in-Ok-Adversary.ensures.found in
    let behind = spare_after space 0 0 c.loop-pass.search s e0 e _ c.in-Ok-Adversary.ensures.serves c.loop-pass.invariant.behind in
    let few = few_wins space c.loop-pass.pass c.args.budget s e finds.went.sound behind (finds.went.goes.budget ∙ c.loop-pass.invariant.budget) in
    (c.in_ok-strategy-in-Ok-Adversary.ensures.legal, IsFor-more space.game (length s.wins) c.args.budget _ few c.in_ok-strategy-in-Ok-Adversary.ensures.for_game)

pub write_replies-requires-clause-may : goal.write_replies-requires-clause-may
write_replies-requires-clause-may g c =
    let space = c.args.space.now in
    let e0 = g.M.Memo.entries c.loop-pass.memo in
    let e = g.M.Memo.entries c.expand.new.memo in
    let s = c.expand.new.search in
    let root = c.in_ok-key.key in
    let told : ℕ = c.in-Ok-Algorithm.told in
    let is = c.in_ok-key.ensures.ok ∙ ap (λ xs. position xs c.empty.result) c.zero.ensures.value ∙ ap (position (empty_position space.game).loads) c.empty.ensures.none in
    let finds = subst (FindsVerdict space c.loop-pass.pass root c.loop-pass.search s e) c.in-Ok-Algorithm.field-0-is c.in-Ok-Algorithm.ensures.found in
    let serves = subst (λ v. KeepsServing space 0 c.loop-pass.search e0 s e (λ later. IsServedBy space later root v)) c.in-Ok-Algorithm.field-0-is c.in-Ok-Algorithm.ensures.serves in
    let behind = c.loop-pass.invariant.behind in
    let h = serves 0 behind.0 behind.1 in
    let playable = subst (IsPlayable space) (sym is) (IsPlayable-empty space (subst (IsLoads space.game) c.zero.ensures.value c.zero.ensures.legal)) in
    subst (λ q. MayWrite space s.replies q told c.args.budget) c.in_ok-key.ensures.ok
    (may_write space c.loop-pass.pass c.args.budget s e root told finds.went.sound (h.later, h.behind) (finds.went.goes.budget ∙ c.loop-pass.invariant.budget)
    h.more playable is finds.tells.says)

pub returns-in-Err-Spent-clause-answer : goal.returns-in-Err-Spent-clause-answer
returns-in-Err-Spent-clause-answer g c =
    let stops = subst (Stops c.args.space.now c.loop-pass.pass c.loop-pass.search.meter.budget c.expand.new.search) c.in-Err-Spent.field-0-is c.in-Err-Spent.ensures.found in
    let spent = subst (λ budget. IsSpent c.args.space.now c.loop-pass.pass budget c.expand.new.search) c.loop-pass.invariant.budget stops in
    (c.count.ensures.value ∙ spent.count, IsDue-spent c.args.space.now c.loop-pass.pass c.args.budget c.expand.new.search c.loop-pass.invariant.none_before spent)

pub returns-in-Err-Spent-clause-within : goal.returns-in-Err-Spent-clause-within
returns-in-Err-Spent-clause-within g c =
    let space = c.args.space.now in
    let at = progress c.loop-pass.search.meter (g.M.Memo.entries c.loop-pass.memo) (g.M.Memo.room c.loop-pass.memo) in
    let volume : ℕ = sum c.in_ok-key.key.items in
    let short = subst (IsShort space c.loop-pass.pass volume at) c.in-Err-Spent.field-0-is c.in-Err-Spent.ensures.counts in
    IsLessThanReachable-short space (g.M.Memo.room c.args.memo.now) c.args.budget c.loop-pass.pass volume at c.loop-pass.invariant.from_first c.loop-pass.invariant.of_game c.loop-pass.invariant.reachable short

pub returns-in-Ok-Algorithm-clause-within : goal.returns-in-Ok-Algorithm-clause-within
returns-in-Ok-Algorithm-clause-within g c =
    let space = c.args.space.now in
    let e = g.M.Memo.entries c.expand.new.memo in
    let s = c.expand.new.search in
    let root = c.in_ok-key.ensures.ok ∙ ap (λ xs. position xs c.empty.result) c.zero.ensures.value ∙ ap (position (empty_position space.game).loads) c.empty.ensures.none in
    let finds = subst (FindsVerdict space c.loop-pass.pass c.in_ok-key.key c.loop-pass.search s e) c.in-Ok-Algorithm.field-0-is
    c.in-Ok-Algorithm.ensures.found in
    subst (IsNeverWon space) root (never_by_led space c.loop-pass.pass s.meter s.wins s.replies e c.in_ok-key.key
    c.in-Ok-Algorithm.told finds.went.sound finds.tells.says)

pub loop-pass-preserved : goal.loop-pass-preserved
loop-pass-preserved g c =
    let space = c.args.space.now in
    let pass : ℕ = c.loop-pass.pass in
    let s2 = c.expand.new.search in
    let e = g.M.Memo.entries c.expand.new.memo in
    let root = c.in_ok-key.ensures.ok ∙ ap (λ xs. position xs c.empty.result) c.zero.ensures.value ∙ ap (position (empty_position space.game).loads) c.empty.ensures.none in
    let finds = subst (FindsVerdict space pass c.in_ok-key.key c.loop-pass.search s2 e) c.in-Ok-Held.field-0-is c.in-Ok-Held.ensures.found in
    let goes = finds.went.goes in
    record {
      sound = AreSound-later space pass s2.meter s2.wins s2.replies e (pass + 1) (omega arith) finds.went.sound;
      behind = spare_after c.args.space.now 0 0 c.loop-pass.search s2 (g.M.Memo.entries c.loop-pass.memo) e _ c.in-Ok-Held.ensures.serves c.loop-pass.invariant.behind;
      reachable = IsWithinReachable-next space (g.M.Memo.room c.args.memo.now) c.args.budget pass (sum c.in_ok-key.key.items) _ _
          c.loop-pass.invariant.from_first c.loop-pass.invariant.of_game c.loop-pass.invariant.reachable c.in-Ok-Held.ensures.counts;
      path = goes.path ∙ c.loop-pass.invariant.path;
      most = goes.most ∙ c.loop-pass.invariant.most;
      rooms = goes.rooms ∙ c.loop-pass.invariant.rooms;
      budget = goes.budget ∙ c.loop-pass.invariant.budget;
      none_before = none_more space pass c.loop-pass.invariant.none_before
          (λ won. finds.tells.says.not_won
          (subst (IsWonIn space c.in-Ok-Held.field-0-0) (sym root) (subst (λ k. IsWonIn space k (empty_position space.game)) (sym finds.tells.of_pass) won)));
      later = λ path. finds.went.passed (visit (pass + 1) path) (inl (omega arith));
      from_first = omega (arith, c.loop-pass.invariant.from_first);
      of_game = omega (arith, finds.tells.says.before_last, finds.tells.of_pass);
    }
