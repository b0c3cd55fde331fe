use Rattle.std.proofs.Common.{◌≡◌, ◌∙◌, ◌+◌, List, sum, refl, sym, ap}
use Rattle.std.specs.Prelude.{Err}
use Rattle.std.proofs.lemmas.Bool.{true≢false}
use Rattle.loads.specs.Position.{are_equal}
use Rattle.loads.specs.declared.position.Position.{Position}
use Rattle.monotone.specs.Visits.{Metered, visit}
use Rattle.transposition.specs.Bounded.{SameEntries}
use Rattle.transposition.specs.declared.verdict.Verdict.{Verdict}
use Rattle.transposition.specs.declared.verdict.Verdict.TheVariants.{Algorithm}
use Rattle.minimax.specs.Fresh.{IsShort, is_fresh, progress}
use Rattle.minimax.specs.declared.finish_nodes.TheConstants.{FINISHES}
use Rattle.minimax.proofs.ExpansionLemmas.{serves_finished, serves_known}
use Rattle.minimax.proofs.FinishLemmas.{IsNeverWon-finish, finish_told}
use Rattle.minimax.proofs.FreshLemmas.{CountsFresh-refl, CountsFresh-same, CountsFresh-visited, IsShort-fault, IsVisited}
use Rattle.minimax.proofs.StepLemmas.{finds_finish, finds_known, passed_on, sound_visited}
use Rattle.minimax.proofs.expanding.visit_finish.Goals as goal

-- nothing was put
unchanged : (entries : List (Position × Verdict)) → SameEntries are_equal entries entries
unchanged entries = record { values = λ key. refl; number = refl }

pub returns-in_err-visit-clause-counts : goal.returns-in_err-visit-clause-counts
returns-in_err-visit-clause-counts g c =
    let space = c.args.space.now in
    let fault = c.in_err-visit.field-0.0 in
    let a = progress c.args.search.now.meter (g.M.Memo.entries c.args.memo.now) (g.M.Memo.room c.args.memo.now) in
    let none = c.in_ok-remember_finish.ensures.is_new.0 c.if-branch.true in
    let short = IsShort-fault space c.args.pass c.args.key c.args.search.now.path a fault c.requires.may.stands (ap (is_fresh c.args.pass) none)
    (λ e. c.in_err-visit.ensures.spent.0 (ap Err e)) in
    passed_on _ (IsShort space c.args.pass (sum c.args.key.items) a) fault c.from_residual-in_err-visit.result c.from_residual-in_err-visit.ensures.1 short

pub returns-in_ok-visit-clause-found : goal.returns-in_ok-visit-clause-found
returns-in_ok-visit-clause-found g c =
    let space = c.args.space.now in
    let s = c.args.search.now in
    let e0 = g.M.Memo.entries c.args.memo.now in
    let e1 = g.M.Memo.entries c.remember_finish.new.memo in
    let counted = c.in_ok-visit.ensures.ok in
    let left : s.meter.count ≡ s.meter.budget → ⊥ = λ e. let bad = c.in_ok-visit.ensures.spent.1 e in cc in
    let sound = sound_visited space c.args.pass s c.args.key e0 e0 c.visit.new.self c.requires.sound c.requires.may counted left (unchanged e0) in
    let never = IsNeverWon-finish space c.args.key c.requires.legal c.requires.may.stands.playable c.requires.finishes in
    finds_finish space c.args.pass s c.visit.new.self c.args.key e0 e1 counted sound (ap (λ (m : Metered). m.last) counted)
    (record { told = refl; finishes = c.requires.finishes; never = never }) c.in_ok-remember_finish.ensures.only

pub returns-in_ok-visit-clause-counts : goal.returns-in_ok-visit-clause-counts
returns-in_ok-visit-clause-counts g c =
    let space = c.args.space.now in
    let p = c.args.key in
    let path = c.args.search.now.path in
    let e0 = g.M.Memo.entries c.args.memo.now in
    let room = g.M.Memo.room c.args.memo.now in
    let a = progress c.args.search.now.meter e0 room in
    let b = progress c.visit.new.self e0 room in
    let none = c.in_ok-remember_finish.ensures.is_new.0 c.if-branch.true in
    let visited : IsVisited space c.args.pass p path a b =
    record { stands = c.requires.may.stands; fresh = ap (is_fresh c.args.pass) none; meter = c.in_ok-visit.ensures.ok; same = unchanged e0; room = refl } in
    CountsFresh-visited space c.args.pass p path a b b (g.M.Memo.entries c.remember_finish.new.memo) (g.M.Memo.room c.remember_finish.new.memo) (Algorithm FINISHES)
    visited (CountsFresh-refl space c.args.pass (sum p.items + 1) b) tt c.remember_finish.ensures.valid
    (λ left. c.in_ok-remember_finish.ensures.put (left none)) c.remember_finish.ensures.capacity

pub returns-in_ok-visit-clause-serves : goal.returns-in_ok-visit-clause-serves
returns-in_ok-visit-clause-serves g c =
    let e0 = g.M.Memo.entries c.args.memo.now in
    serves_finished c.args.space.now c.args.search.now c.visit.new.self (visit c.args.pass c.args.search.now.path) c.args.key e0 e0
    (g.M.Memo.entries c.remember_finish.new.memo) c.in_ok-visit.ensures.ok (unchanged e0) c.in_ok-remember_finish.ensures.only

-- the table told it

pub returns-else-branch-clause-found : goal.returns-else-branch-clause-found
returns-else-branch-clause-found g c =
    let space = c.args.space.now in
    let s = c.args.search.now in
    let e0 = g.M.Memo.entries c.args.memo.now in
    let told = finish_told space c.args.pass s e0 c.args.key c.requires.legal c.requires.sound c.requires.may.stands.playable c.requires.finishes
    (λ none. true≢false (sym (c.in_ok-remember_finish.ensures.is_new.1 none) ∙ c.if-branch.false)) in
    finds_known space c.args.pass s c.args.key e0 (g.M.Memo.entries c.remember_finish.new.memo) (Algorithm FINISHES) c.requires.sound c.requires.may told tt
    (c.in_ok-remember_finish.ensures.same told)

pub returns-else-branch-clause-counts : goal.returns-else-branch-clause-counts
returns-else-branch-clause-counts g c =
    let space = c.args.space.now in
    let s = c.args.search.now in
    let e0 = g.M.Memo.entries c.args.memo.now in
    let told = finish_told space c.args.pass s e0 c.args.key c.requires.legal c.requires.sound c.requires.may.stands.playable c.requires.finishes
    (λ none. true≢false (sym (c.in_ok-remember_finish.ensures.is_new.1 none) ∙ c.if-branch.false)) in
    CountsFresh-same space c.args.pass (sum c.args.key.items) s.meter e0 (g.M.Memo.entries c.remember_finish.new.memo) (g.M.Memo.room c.args.memo.now)
    (g.M.Memo.room c.remember_finish.new.memo) (c.in_ok-remember_finish.ensures.same told) c.remember_finish.ensures.capacity

pub returns-else-branch-clause-serves : goal.returns-else-branch-clause-serves
returns-else-branch-clause-serves g c =
    let space = c.args.space.now in
    let s = c.args.search.now in
    let e0 = g.M.Memo.entries c.args.memo.now in
    let told = finish_told space c.args.pass s e0 c.args.key c.requires.legal c.requires.sound c.requires.may.stands.playable c.requires.finishes
    (λ none. true≢false (sym (c.in_ok-remember_finish.ensures.is_new.1 none) ∙ c.if-branch.false)) in
    serves_known space s c.args.key e0 (g.M.Memo.entries c.remember_finish.new.memo) (Algorithm FINISHES) told (c.in_ok-remember_finish.ensures.same told)
