-- Talks and plays.
use Rattle.std.proofs.Common.{◌≡◌, ℕ, zero, suc, ◌+◌, ◌-◌, ◌*◌, ◌<◌, ◌≤◌, List, [], ◌∷◌, ◌++◌, Option, Some, None, length, take, drop, replicate}
use Rattle.std.proofs.Common.{refl, ap, sym, ◌∙◌, subst, arith, ⊎_elim, ltb}
use Rattle.std.specs.Prelude.{All, Any, fold, option_map}
use Rattle.std.specs.List.{slice_get, concat}
use Rattle.std.specs.Option.{option_and_then, unwrap_or}
use Rattle.std.proofs.Math.Seq.{take-length}
use Rattle.std.proofs.lemmas.Bool.{cases_lt, cond-true, cond-false, lt-ltb, le-ltb}
use Rattle.std.proofs.lemmas.List.{append-nil, length-append, length-replicate, length-take-le, take-append-drop, take-append-le, take-take, append_assoc}
use Rattle.std.proofs.lemmas.List.Elements.{All-append, All-replicate, All-take}
use Rattle.std.proofs.lemmas.List.Sums.{fold-append}
use Rattle.std.proofs.lemmas.Option.{none-some, same_Some}
use Rattle.items.specs.Game.{GameNumbers}
use Rattle.items.specs.Packable.{Packable}
use Rattle.packing_witness.proofs.PackableLemmas.{sum-Packable-le}
use Rattle.online_play.proofs.ListLemmas.{length-le-sum}
use Rattle.online_play.specs.Algorithm.{bins_of, loads_by_bin}
use Rattle.online_play.proofs.RunLemmas.{bins_of-push}
use Rattle.strategy_text.specs.declared.node.AdvNode.{AdvNode}
use Rattle.strategy_text.specs.declared.node.Placement.{Placement}
use Rattle.strategy_text.specs.declared.node.Step.{Step}
use Rattle.strategy_text.specs.declared.node.Step.TheVariants.{Send, Burst}
use Rattle.strategy_text.specs.declared.node.Then.{Then}
use Rattle.strategy_text.specs.declared.node.Then.TheVariants.{Over, To}
use Rattle.adversary_graph.specs.Nodes.{sent_items, sent_size}
use Rattle.adversary_graph.specs.Play.{End, Play, beyond, end_at, end_by_step, end_of, goes_on, load_hit, next_at, play_to, play_with, without_all}
use Rattle.adversary_graph.specs.Pools.{Pool, IsPool, IsRoot}
use Rattle.adversary_graph.proofs.EndLemmas.{ends_lost, has_end, has_end_packing}
use Rattle.adversary_graph.proofs.PlayLemmas.{root_ready, times_more}
use Rattle.referee_session.specs.Due.{AreAnswers, IsOver}
use Rattle.referee_session.specs.Laws.{IsLost, IsPlayOf}
use Rattle.referee_session.specs.Session.{talk_in}
use Rattle.referee_session.specs.Talk.{IsEnd, Talk, answered, answers_from, loads_of, packing_at, stand_after, stand_at, talk, talk_begins, talk_to, told_next}
use Rattle.referee_session.specs.declared.stand.Stand.{Stand}
use Rattle.referee_session.specs.declared.stand.Stand.TheVariants.{Waits, Ended}
use Rattle.referee_session.proofs.TalkLemmas.{bins_from, bins_from_take, from_is_algorithm, sends_some}

-- ---- along a play

module _ (game : GameNumbers) (answer : List ℕ → ℕ) (nodes : List AdvNode) where
  -- an algorithm's talk where its play stands after these items
  abbrev so_far : List ℕ → Stand → Talk
  so_far items stand = talk_to items (bins_of answer items) stand

  -- the answers go on from there to the talk after other items
  pub record Leads (from : Talk) (before items : List ℕ) (stand : Stand) : Type 0 where
    pub more : List ℕ
    pub bins : bins_of answer items ≡ bins_of answer before ++ more
    pub to : fold (answered game nodes) from more ≡ so_far items stand

  -- one answer
  one : (number done : ℕ) (history : List ℕ) (node : AdvNode) → slice_get nodes number ≡ Some node
      → answered game nodes (so_far history (Waits number done)) (answer (history ++ sent_size node.step ∷ []))
      ≡ so_far (history ++ sent_size node.step ∷ []) (stand_after number done (load_hit game answer history (sent_size node.step)) node.step)
  one number done history node is =
      let t = so_far history (Waits number done) in
      let bin = answer (history ++ sent_size node.step ∷ []) in
      let items : List ℕ = history ++ sent_size node.step ∷ [] in
      ap (λ (node : Option AdvNode). unwrap_or (option_map (λ (node : AdvNode). told_next game t bin number done node.step) node) t) is
      ∙ ap (λ (bins : List ℕ). talk_to items bins (stand_after number done (load_hit game answer history (sent_size node.step)) node.step))
      (sym (bins_of-push answer history (sent_size node.step)))

  -- one answer, and then those that lead on
  then_leads : (number done : ℕ) (history items : List ℕ) (node : AdvNode) (stand end : Stand) → slice_get nodes number ≡ Some node
      → stand_after number done (load_hit game answer history (sent_size node.step)) node.step ≡ stand
      → Leads (so_far (history ++ sent_size node.step ∷ []) stand) (history ++ sent_size node.step ∷ []) items end
      → Leads (so_far history (Waits number done)) history items end
  then_leads number done history items node stand end is at leads =
      let size = sent_size node.step in
      let bin = answer (history ++ size ∷ []) in
      record {
        more = bin ∷ leads.more;
        bins = leads.bins ∙ ap (λ (bins : List ℕ). bins ++ leads.more) (bins_of-push answer history size) ∙ append_assoc (bins_of answer history) (bin ∷ []) leads.more;
        to = ap (λ (t : Talk). fold (answered game nodes) t leads.more) (one number done history node is ∙ ap (so_far (history ++ size ∷ [])) at) ∙ leads.to;
      }

  here : (items : List ℕ) (stand : Stand) → Leads (so_far items stand) items items stand
  here items stand = record { more = []; bins = sym (append-nil (bins_of answer items)); to = refl }

  -- a burst is played to its end
  module _ (number times size : ℕ) (pack : List (List ℕ)) (node : AdvNode) (past : List ℕ) (is : slice_get nodes number ≡ Some node) (s : node.step ≡ Burst times size pack) where
    next_of_burst : (done : ℕ) → (past ++ replicate done size) ++ sent_size node.step ∷ [] ≡ past ++ replicate (done + 1) size
    next_of_burst done = ap (λ (step : Step). (past ++ replicate done size) ++ sent_size step ∷ []) s ∙ times_more past done size

    burst_last : (done : ℕ) → done + 1 ≡ times
        → Leads (so_far (past ++ replicate done size) (Waits number done)) (past ++ replicate done size) (past ++ replicate times size) (Ended number)
    burst_last done e =
        let before : List ℕ = past ++ replicate done size in
        let last : past ++ replicate (done + 1) size ≡ past ++ replicate times size = ap (λ (n : ℕ). past ++ replicate n size) e in
        then_leads number done before (past ++ replicate times size) node (Ended number) (Ended number) is
        (ap (stand_after number done (load_hit game answer before (sent_size node.step))) s
        ∙ cond-false (ltb (done + 1) times) (Waits number (done + 1)) (Ended number) (le-ltb (done + 1) times (omega arith)))
        (subst (λ (items : List ℕ). Leads (so_far items (Ended number)) items (past ++ replicate times size) (Ended number)) (sym (next_of_burst done ∙ last))
        (here (past ++ replicate times size) (Ended number)))

    burst_more : (done : ℕ) → done + 1 < times
        → Leads (so_far (past ++ replicate (done + 1) size) (Waits number (done + 1))) (past ++ replicate (done + 1) size) (past ++ replicate times size) (Ended number)
        → Leads (so_far (past ++ replicate done size) (Waits number done)) (past ++ replicate done size) (past ++ replicate times size) (Ended number)
    burst_more done l leads =
        let before : List ℕ = past ++ replicate done size in
        then_leads number done before (past ++ replicate times size) node (Waits number (done + 1)) (Ended number) is
        (ap (stand_after number done (load_hit game answer before (sent_size node.step))) s
        ∙ cond-true (ltb (done + 1) times) (Waits number (done + 1)) (Ended number) (lt-ltb (done + 1) times l))
        (subst (λ (items : List ℕ). Leads (so_far items (Waits number (done + 1))) items (past ++ replicate times size) (Ended number)) (sym (next_of_burst done)) leads)

    burst_leads : (k done : ℕ) → (done + 1) + k ≡ times
        → Leads (so_far (past ++ replicate done size) (Waits number done)) (past ++ replicate done size) (past ++ replicate times size) (Ended number)
    burst_leads zero done e = burst_last done (omega arith)
    burst_leads (suc k) done e = burst_more done (omega arith) (burst_leads k (done + 1) (omega arith))

  -- what follows after one item
  sends_on : (go : ℕ → List ℕ → Option End) (number size : ℕ) (history : List ℕ) (node : AdvNode) (pack : Option (List (List ℕ))) (placements : List Placement) (end : End)
      → slice_get nodes number ≡ Some node → node.step ≡ Send size pack placements
      → ((child : ℕ) (items : List ℕ) → go child items ≡ Some end → Leads (so_far items (Waits child 0)) items end.items (Ended end.number))
      → (next : Option Then) → next_at (load_hit game answer history size) placements ≡ next → goes_on go number (history ++ size ∷ []) next ≡ Some end
      → Leads (so_far (history ++ size ∷ []) (stand_at number next)) (history ++ size ∷ []) end.items (Ended end.number)
  sends_on go number size history node pack placements end is s on None next e = absurd (none-some end e)
  sends_on go number size history node pack placements end is s on (Some Over) next e =
      subst (λ (end : End). Leads (so_far (history ++ size ∷ []) (Ended number)) (history ++ size ∷ []) end.items (Ended end.number))
      (same_Some (end_at (history ++ size ∷ []) number) end e) (here (history ++ size ∷ []) (Ended number))
  sends_on go number size history node pack placements end is s on (Some (To child)) next e = on child (history ++ size ∷ []) e

  by_step : (go : ℕ → List ℕ → Option End) (number : ℕ) (history : List ℕ) (node : AdvNode) (end : End) → slice_get nodes number ≡ Some node → 0 < length (sent_items node.step)
      → ((child : ℕ) (items : List ℕ) → go child items ≡ Some end → Leads (so_far items (Waits child 0)) items end.items (Ended end.number))
      → (step : Step) → node.step ≡ step → end_by_step game answer go number history step ≡ Some end
      → Leads (so_far history (Waits number 0)) history end.items (Ended end.number)
  by_step go number history node end is some on (Send size pack placements) s e =
      let next = next_at (load_hit game answer history size) placements in
      then_leads number 0 history end.items node (stand_at number next) (Ended end.number) is
      (ap (λ (step : Step). stand_after number 0 (load_hit game answer history (sent_size step)) step) s)
      (subst (λ (step : Step). Leads (so_far (history ++ sent_size step ∷ []) (stand_at number next)) (history ++ sent_size step ∷ []) end.items (Ended end.number)) (sym s)
      (sends_on go number size history node pack placements end is s on next refl e))
  by_step go number history node end is some on (Burst times size pack) s e =
      let many : 0 < times = omega (arith, some, ap (λ (step : Step). length (sent_items step)) s, length-replicate times size) in
      let leads = burst_leads number times size pack node history is s (times - 1) 0 (omega (arith, many)) in
      subst (λ (end : End). Leads (so_far history (Waits number 0)) history end.items (Ended end.number)) (same_Some (end_at (history ++ replicate times size) number) end e)
      (subst (λ (items : List ℕ). Leads (so_far items (Waits number 0)) items (history ++ replicate times size) (Ended number)) (append-nil history) leads)

module _ (pool : Pool) (p : IsPool pool) (answer : List ℕ → ℕ) where
  by_node : (n number : ℕ) (history : List ℕ) (end : End)
      → ((child : ℕ) (items : List ℕ) → end_of pool.game answer pool.nodes n child items ≡ Some end
      → Leads pool.game answer pool.nodes (so_far pool.game answer pool.nodes items (Waits child 0)) items end.items (Ended end.number))
      → (found : Option AdvNode) → slice_get pool.nodes number ≡ found
      → option_and_then (λ (node : AdvNode). end_by_step pool.game answer (end_of pool.game answer pool.nodes n) number history node.step) found ≡ Some end
      → Leads pool.game answer pool.nodes (so_far pool.game answer pool.nodes history (Waits number 0)) history end.items (Ended end.number)
  by_node n number history end on None is e = absurd (none-some end e)
  by_node n number history end on (Some node) is e =
      by_step pool.game answer pool.nodes (end_of pool.game answer pool.nodes n) number history node end is (sends_some pool p number node is) on node.step refl e

  play_leads : (n number : ℕ) (history : List ℕ) (end : End) → end_of pool.game answer pool.nodes n number history ≡ Some end
      → Leads pool.game answer pool.nodes (so_far pool.game answer pool.nodes history (Waits number 0)) history end.items (Ended end.number)
  unfolding end_of
  play_leads zero number history end e = absurd (none-some end e)
  play_leads (suc n) number history end e = by_node n number history end (λ child items. play_leads n child items end) (slice_get pool.nodes number) refl e

-- the talk of the bins that an algorithm answers comes to the end of its play
pub plays_are_talks : (pool : Pool) (root : ℕ) (answer : List ℕ → ℕ) (end : End) → IsPool pool → end_of pool.game answer pool.nodes (root + 1) root [] ≡ Some end
    → talk_in pool root (bins_of answer end.items) ≡ talk_to end.items (bins_of answer end.items) (Ended end.number)
unfolding talk
plays_are_talks pool root answer end p e =
    let leads = play_leads pool p answer (root + 1) root [] end e in
    ap (fold (answered pool.game pool.nodes) (talk_begins root)) leads.bins ∙ leads.to

-- ---- after the end of a play nothing is answered

stays_by : (game : GameNumbers) (nodes : List AdvNode) (items bins more : List ℕ) (stand : Stand) → IsEnd stand
    → fold (answered game nodes) (talk_to items bins stand) more ≡ talk_to items bins stand
stays_by game nodes items bins [] stand over = refl
stays_by game nodes items bins (bin ∷ more) (Waits number done) over = absurd over
stays_by game nodes items bins (bin ∷ more) (Ended number) over = stays_by game nodes items bins more (Ended number) over

pub stays_over : (pool : Pool) (root : ℕ) (bins more : List ℕ) → IsOver pool root bins → talk_in pool root (bins ++ more) ≡ talk_in pool root bins
unfolding talk
stays_over pool root bins more over =
    let t = talk_in pool root bins in
    fold-append (answered pool.game pool.nodes) (talk_begins root) bins more ∙ stays_by pool.game pool.nodes t.items t.bins more t.stand over

-- ---- the end of every talk

pub each_talk_ends : (pool : Pool) (root : ℕ) (bins : List ℕ) → IsPool pool → IsRoot pool.nodes root → All (λ bin. bin < pool.game.bins) bins
    → length bins ≡ pool.game.bins * pool.game.capacity → (count : ℕ) × (count ≤ length bins) × IsLost pool root (take count bins)
each_talk_ends pool root bins p r below many =
    let answer = answers_from bins in
    let algorithm = from_is_algorithm pool.game bins (omega (arith, p.of_game.bins.low)) below in
    let ready = root_ready pool answer root p r in
    let end = has_end pool p answer algorithm (root + 1) root [] (omega arith) ready in
    let facts = ends_lost pool p answer algorithm (root + 1) root [] end.0 ready end.1 in
    let items = end.0.items in
    let short : length items ≤ length bins =
    omega (arith, many, sum-Packable-le pool.game items facts.packable, length-le-sum pool.game.capacity items facts.packable.1.item_list) in
    let same = bins_from bins items short in
    let talk_is : talk_in pool root (take (length items) bins) ≡ talk_to items (take (length items) bins) (Ended end.0.number) =
    subst (λ (front : List ℕ). talk_in pool root front ≡ talk_to items front (Ended end.0.number)) same (plays_are_talks pool root answer end.0 p end.1) in (
      length items,
      short,
      record {
        answers = record { below = All-take (λ bin. bin < pool.game.bins) (length items) bins below; asked = ap (λ (t : Talk). t.bins) talk_is };
        over = subst (λ (t : Talk). IsEnd t.stand) (sym talk_is) tt;
        packable = subst (λ (t : Talk). Packable pool.game t.items) (sym talk_is) facts.packable;
        reached = subst (λ (t : Talk). Any (λ load. pool.game.target ≤ load) (loads_of pool.game t)) (sym talk_is)
            (subst (λ (front : List ℕ). Any (λ load. pool.game.target ≤ load) (loads_by_bin pool.game items front)) same facts.reached);
      },
    )

-- ---- a talk that has ended is lost

-- no answers go on after the end of a play
none_after : (pool : Pool) (root : ℕ) (bins more all : List ℕ) → all ≡ bins ++ more → AreAnswers pool root bins → IsOver pool root bins
    → AreAnswers pool root all → all ≡ bins
none_after pool root bins more all e are over also =
    sym also.asked ∙ ap (λ (xs : List ℕ). (talk_in pool root xs).bins) e ∙ ap (λ (t : Talk). t.bins) (stays_over pool root bins more over) ∙ are.asked

-- of two fronts of one list at whose end the play has ended one is the other
one_end : (pool : Pool) (root : ℕ) (bins all : List ℕ) (count n : ℕ) → bins ≡ take n all → AreAnswers pool root bins → IsOver pool root bins
    → IsLost pool root (take count all) → IsLost pool root bins
one_end pool root bins all count n e are over lost =
    let front = take count all in
    ⊎_elim
    (λ (less : count < n).
    let split : bins ≡ front ++ drop count bins =
    sym (take-append-drop count bins) ∙ ap (λ (xs : List ℕ). xs ++ drop count bins) (ap (take count) e ∙ take-take count n all (omega (arith, less))) in
    subst (IsLost pool root) (sym (none_after pool root front (drop count bins) bins split lost.answers lost.over are)) lost)
    (λ (more : n ≤ count).
    let split : front ≡ bins ++ drop n front =
    sym (take-append-drop n front) ∙ ap (λ (xs : List ℕ). xs ++ drop n front) (take-take n count all more ∙ sym e) in
    subst (IsLost pool root) (none_after pool root bins (drop n front) front split are over lost.answers) lost)
    (cases_lt count n)

-- the play ends with a load of at least the target, and its items are packable
pub over_is_lost : (pool : Pool) (root : ℕ) (bins : List ℕ) → IsPool pool → IsRoot pool.nodes root → AreAnswers pool root bins → IsOver pool root bins
    → IsLost pool root bins
over_is_lost pool root bins p r are over =
    let most = pool.game.bins * pool.game.capacity in
    let zeros : List ℕ = replicate most 0 in
    let all = bins ++ zeros in
    let below = λ (bin : ℕ). bin < pool.game.bins in
    let long : most ≤ length all = omega (arith, length-append bins zeros, length-replicate {A = ℕ} most 0) in
    let each : All below all = All-append below bins zeros are.below (All-replicate below most 0 (omega (arith, p.of_game.bins.low))) in
    let end = each_talk_ends pool root (take most all) p r (All-take below most all each) (length-take-le most all long) in
    let within : end.0 ≤ most = omega (arith, end.1, length-take-le most all long) in
    let lost : IsLost pool root (take end.0 all) = subst (IsLost pool root) (take-take end.0 most all within) end.2 in
    let front : bins ≡ take (length bins) all = sym (take-length bins) ∙ sym (take-append-le (length bins) bins zeros (omega arith)) in
    one_end pool root bins all end.0 (length bins) front are over lost

-- ---- a talk is a play

prefix_bins : (answer : List ℕ → ℕ) (items more : List ℕ) → (rest : List ℕ) × (bins_of answer (items ++ more) ≡ bins_of answer items ++ rest)
prefix_bins answer items [] = ([], ap (bins_of answer) (append-nil items) ∙ sym (append-nil (bins_of answer items)))
prefix_bins answer items (x ∷ more) =
    let h = prefix_bins answer (items ++ x ∷ []) more in
    let bin = answer (items ++ x ∷ []) in (
      bin ∷ h.0,
      ap (bins_of answer) (sym (append_assoc items (x ∷ []) more)) ∙ h.1 ∙ ap (λ (bins : List ℕ). bins ++ h.0) (bins_of-push answer items x)
          ∙ append_assoc (bins_of answer items) (bin ∷ []) h.0,
    )

-- the play of the bins of a talk that has ended is as long as the talk
ends_there : (pool : Pool) (root : ℕ) (bins : List ℕ) (end : End) → IsPool pool → AreAnswers pool root bins → IsOver pool root bins
    → end_of pool.game (answers_from bins) pool.nodes (root + 1) root [] ≡ Some end → bins_of (answers_from bins) end.items ≡ bins
ends_there pool root bins end p are over e =
    let answer = answers_from bins in
    let items = end.items in
    let talk_is = plays_are_talks pool root answer end p e in
    ⊎_elim
    (λ longer.
    let n = length bins in
    let front : bins_of answer (take n items) ≡ bins = bins_from_take bins items n (omega (arith, longer)) (omega arith) ∙ take-length bins in
    let rest = prefix_bins answer (take n items) (drop n items) in
    let all : bins_of answer items ≡ bins ++ rest.0 = ap (bins_of answer) (sym (take-append-drop n items)) ∙ rest.1 ∙ ap (λ (xs : List ℕ). xs ++ rest.0) front in
    let same : bins_of answer items ≡ bins = sym (ap (λ (t : Talk). t.bins) talk_is) ∙ ap (λ (xs : List ℕ). (talk_in pool root xs).bins) all
    ∙ ap (λ (t : Talk). t.bins) (stays_over pool root bins rest.0 over) ∙ are.asked in
    same)
    (λ within.
    let n = length items in
    let front = bins_from bins items within in
    let ended : IsOver pool root (take n bins) = subst (λ (xs : List ℕ). IsOver pool root xs) front (subst (λ (t : Talk). IsEnd t.stand) (sym talk_is) tt) in
    let stays = stays_over pool root (take n bins) (drop n bins) ended in
    let whole : (talk_in pool root (take n bins)).bins ≡ bins =
    sym (ap (λ (t : Talk). t.bins) stays) ∙ ap (λ (xs : List ℕ). (talk_in pool root xs).bins) (take-append-drop n bins) ∙ are.asked in
    sym (ap (λ (t : Talk). t.bins) talk_is) ∙ ap (λ (xs : List ℕ). (talk_in pool root xs).bins) front ∙ whole)
    (cases_lt (length bins) (length items))

pub talks_are_plays : (pool : Pool) (root : ℕ) (bins : List ℕ) → IsPool pool → IsRoot pool.nodes root → AreAnswers pool root bins → IsOver pool root bins
    → (played : Play) × IsPlayOf pool root bins played
talks_are_plays pool root bins p r are over =
    let answer = answers_from bins in
    let algorithm = from_is_algorithm pool.game bins (omega (arith, p.of_game.bins.low)) are.below in
    let ready = root_ready pool answer root p r in
    let end = has_end pool p answer algorithm (root + 1) root [] (omega arith) ready in
    let facts = ends_lost pool p answer algorithm (root + 1) root [] end.0 ready end.1 in
    let has = has_end_packing pool p (end.0.number + 1) end.0.number facts.node (omega arith) facts.is in
    let made = λ (bins : List (List ℕ)). play_with pool.game answer end.0.items bins in
    let items = end.0.items in
    let same = ends_there pool root bins end.0 p are over end.1 in
    let talk_is : talk_in pool root bins ≡ talk_to items bins (Ended end.0.number) =
    subst (λ (xs : List ℕ). talk_in pool root xs ≡ talk_to items xs (Ended end.0.number)) same (plays_are_talks pool root answer end.0 p end.1) in
    let out = λ (bins : List (List ℕ)). without_all (beyond pool.game (concat bins) items) bins in (
      made has.0,
      record {
        is = ap (option_and_then (play_to pool.game answer pool.nodes)) end.1 ∙ ap (option_map made) has.1;
        items = sym (ap (λ (t : Talk). t.items) talk_is);
        bins_are = same;
        loads = ap (loads_by_bin pool.game items) same ∙ sym (ap (loads_of pool.game) talk_is);
        packing = ap (λ (t : Talk). packing_at pool.game pool.nodes t.items t.stand) talk_is ∙ ap (option_map out) has.1;
      },
    )
