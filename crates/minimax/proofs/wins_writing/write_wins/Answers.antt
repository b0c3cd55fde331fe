use Rattle.std.proofs.Common.{◌≡◌, ◌<◌, ◌∙◌, ◌≤◌, ℕ, List, Some, length, get_or, refl, sym, ap, subst, arith}
use Rattle.std.proofs.lemmas.List.{get_or_read}
use Rattle.std.proofs.lemmas.Option.{slice_get_read}
use Rattle.adversary_graph.specs.Pools.{IsRoot}
use Rattle.node_pool.specs.Pools.{nodes_up_to}
use Rattle.node_pool.specs.Terms.{Terms}
use Rattle.minimax.specs.WinsWriting.{MayPutWin}
use Rattle.minimax.specs.declared.wins.Win.{Win}
use Rattle.minimax.proofs.WinsWritingLemmas.{IsFor-wins, IsLegalOfAdversary-of_pool, may_put_win, number_within, root_written, wins_more}
use Rattle.minimax.proofs.wins_writing.write_wins.Goals as goal

pub bounds-as_slice-k : goal.bounds-as_slice-k
bounds-as_slice-k c =
    subst (λ (xs : List Win). c.loop-k.k < length xs) (sym c.as_slice.ensures.value)
    (omega (arith, c.loop-k-test.true, c.len-k-end.ensures, c.in_ok-marks.ensures.up_to, number_within c.args.space.now c.args.wins.now c.args.root c.requires.may))

pub write_win-requires : goal.write_win-requires
write_win-requires c =
    let wins : List Win = c.args.wins.now in
    let k = c.loop-k.k in
    let win = c.index-as_slice-k.result in
    let reached = c.in_ok-marks.ensures in
    let marks = c.in_ok-marks.marks.items in
    let within : k < length wins = omega (arith, c.loop-k-test.true, c.len-k-end.ensures, reached.up_to, number_within c.args.space.now wins c.args.root c.requires.may) in
    let has_mark : k < length marks = omega (arith, c.loop-k-test.true, c.len-k-end.ensures) in
    let here = slice_get_read wins _ k win refl within (subst (λ xs. win ≡ get_or xs k win) c.as_slice.ensures.value c.index-as_slice-k.is) in
    let mark = slice_get_read marks _ k c.index.result.now refl has_mark c.index.ensures in
    record {
      may = λ yes. subst (λ ns. MayPutWin c.args.space.now c.loop-k.pool ns win) (sym c.as_slice-in-loop-k.ensures.value)
          (may_put_win c.args.space.now wins c.args.root k marks c.loop-k.pool c.loop-k.numbers.items win c.requires.may reached c.loop-k.invariant here
          (mark ∙ ap Some yes));
    }

pub loop-k-preserved : goal.loop-k-preserved
loop-k-preserved c =
    let wins : List Win = c.args.wins.now in
    let k = c.loop-k.k in
    let win = c.index-as_slice-k.result in
    let reached = c.in_ok-marks.ensures in
    let marks = c.in_ok-marks.marks.items in
    let within : k < length wins = omega (arith, c.loop-k-test.true, c.len-k-end.ensures, reached.up_to, number_within c.args.space.now wins c.args.root c.requires.may) in
    let has_mark : k < length marks = omega (arith, c.loop-k-test.true, c.len-k-end.ensures) in
    let here = slice_get_read wins _ k win refl within (subst (λ xs. win ≡ get_or xs k win) c.as_slice.ensures.value c.index-as_slice-k.is) in
    let mark = slice_get_read marks _ k c.index.result.now refl has_mark c.index.ensures in
    wins_more c.args.space.now wins marks k c.loop-k.pool c.write_win.new.pool c.loop-k.numbers.items c.push.new.self.items win c.index.result.now c.in_ok-number.number
    c.loop-k.invariant here mark c.in_ok-number.ensures c.in_ok-push.ensures.items

pub into_strategy-requires : goal.into_strategy-requires
into_strategy-requires c =
    let l : c.args.root < c.loop-k.k = omega (arith, c.loop-k-test.false, c.len-k-end.ensures, c.in_ok-marks.ensures.up_to) in
    let numbers : List ℕ = c.loop-k.numbers.items in
    let number = get_or_read numbers c.args.root c.index-2.result.now (omega (arith, l, c.loop-k.invariant.one_each)) c.index-2.ensures 0 in
    record {
      root = subst (IsRoot c.loop-k.pool.nodes) (sym number)
          (root_written c.args.space.now c.args.wins.now c.args.root c.loop-k.k c.in_ok-marks.marks.items c.loop-k.pool numbers c.requires.may c.in_ok-marks.ensures
          c.loop-k.invariant l);
    }

pub returns-clause-for_game : goal.returns-clause-for_game
returns-clause-for_game c =
    let few : c.loop-k.k ≤ length c.args.wins.now =
    omega (arith, c.loop-k.auto.k-end, c.len-k-end.ensures, c.in_ok-marks.ensures.up_to, number_within c.args.space.now c.args.wins.now c.args.root c.requires.may) in
    IsFor-wins c.args.space.now c.args.wins.now c.in_ok-marks.marks.items c.loop-k.k c.index-2.result.now c.loop-k.pool c.loop-k.numbers.items c.into_strategy.result
    c.loop-k.invariant few c.into_strategy.ensures.format c.into_strategy.ensures.game c.into_strategy.ensures.nodes

pub returns-clause-legal : goal.returns-clause-legal
returns-clause-legal c =
    let made = c.into_strategy.ensures in
    let pool = c.loop-k.pool in
    IsLegalOfAdversary-of_pool c.args.space.now.sizes c.into_strategy.result pool (nodes_up_to c.index-2.result.now pool.nodes) (ap (λ (t : Terms). t.sizes) c.loop-k.invariant.of_format)
    made.format made.game made.nodes made.legal
