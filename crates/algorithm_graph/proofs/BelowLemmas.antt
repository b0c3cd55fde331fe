-- The replies of a legal strategy keep every load below the target.
use Rattle.std.proofs.Common.{◌≡◌, ℕ, suc, ◌+◌, ◌-◌, ◌<◌, eqb, true, false, set, Option, Some, None, List, [], ◌∷◌, ◌++◌, length, get_or, take, map, replicate, refl}
use Rattle.std.proofs.Common.{sym, ap, ◌∙◌}
use Rattle.std.proofs.Common.{subst, arith, inl, inr}
use Rattle.std.specs.Prelude.{All, Contains, find, fold, position, slice_get, MatchOption}
use Rattle.std.proofs.lemmas.Bool.{cases_Bool, eqb-true, eqb-false, eq-eqb}
use Rattle.std.proofs.lemmas.List.{append_assoc}
use Rattle.std.proofs.lemmas.List.Elements.{All-head, All-tail, All-contains, All-weaker}
use Rattle.std.proofs.lemmas.Option.{slice_get-map, slice_get-get_or}
use Rattle.items.specs.Game.{GameNumbers}
use Rattle.items.specs.Multiset.{Same, IsSize, count, put_ascending, sizes_of}
use Rattle.items.specs.Packable.{Packable}
use Rattle.items.proofs.MemberLemmas.{Contains-tail, Contains-nil, Contains-Same}
use Rattle.items.proofs.MultisetLemmas.{Same-push_put}
use Rattle.items.proofs.SameLemmas.{All-Same, Same-append, Same-push, Same-sym}
use Rattle.items.proofs.SizesLemmas.{Contains_from_size}
use Rattle.items.proofs.ListLemmas.{slice_get-take, mapped}
use Rattle.packing_witness.proofs.PackableLemmas.{Packable-Same, Packable-front}
use Rattle.loads.specs.After.{after}
use Rattle.loads.specs.Loads.{IsLoads, IsLowestBin, loads_after}
use Rattle.loads.specs.Position.{AreItemsOf, IsEmptyPosition, StandsAt}
use Rattle.loads.specs.Wins.{empty_position}
use Rattle.loads.specs.declared.position.Position.{Position}
use Rattle.loads.proofs.DescendingLemmas.{position-cases}
use Rattle.loads.proofs.LoadsLemmas.{Same-loads_after}
use Rattle.loads.specs.ByBin.{placed}
use Rattle.online_play.proofs.WonLemmas.{empty_is}
use Rattle.good_situations.specs.Finish.{Finishes}
use Rattle.good_situations.specs.BigFinish.{BigFinishes}
use Rattle.good_situations.specs.KeptOrder.{KeptOrder, kept_order, finish_bin, big_bin, big_order_after}
use Rattle.good_situations.specs.KeptPlays.{with_item, loads_under_finish, loads_under_big}
use Rattle.good_situations.proofs.KeepingLemmas.{finish_stays_below, big_finish_stays_below}
use Rattle.strategy_text.specs.declared.node.Act.{Act}
use Rattle.strategy_text.specs.declared.node.Act.TheVariants.{Finish, Big, Reply}
use Rattle.strategy_text.specs.declared.node.AlgNode.{AlgNode}
use Rattle.strategy_text.specs.declared.node.Entry.{Entry}
use Rattle.strategy_text.specs.declared.node.Format.{Format}
use Rattle.algorithm_graph.specs.Nodes.{position_of, entries_of}
use Rattle.algorithm_graph.specs.Rules.{FinishesIfSaid, BigFinishesIfSaid, RepliesIfSaid, ReplyToEach, NamesLoad}
use Rattle.algorithm_graph.specs.Judging.{sizes_in, LeadsOn}
use Rattle.algorithm_graph.specs.Laws.{LegalRepliesKeepBelow}
use Rattle.algorithm_graph.specs.Legal.{IsLegal, EachMeetsRules}
use Rattle.algorithm_graph.specs.Replies.{at_node, under_finish, under_big, Move, bin_move, entry_move, act_move, node_move, moved, after_item, replayed}
use Rattle.algorithm_graph.proofs.ReplayLemmas.{runs_are_replays}

-- ---- lists

-- the entry that is found for a size
pub record IsEntryFor (entries : List Entry) (size : ℕ) (entry : Entry) : Type 0 where
  pub found : find (λ other. eqb other.size size) entries ≡ Some entry
  pub size_is : entry.size ≡ size
  pub member : Contains entries entry

contains_later : {X : Type 0} (x y : X) (ys : List X) → Contains ys x → Contains (y ∷ ys) x
contains_later x y ys h = (suc h.0, omega (arith, h.1), h.2)

entry_later : (first : Entry) (entries : List Entry) (size : ℕ) → eqb first.size size ≡ false → (entry : Entry) × IsEntryFor entries size entry
    → (entry : Entry) × IsEntryFor (first ∷ entries) size entry
entry_later first entries size e h = (
  h.0,
  record {
    found = rw e h.1.found;
    size_is = h.1.size_is;
    member = contains_later h.0 first entries h.1.member;
  },
)

pub entry_for : (entries : List Entry) (size : ℕ) → Contains (sizes_in entries) size → (entry : Entry) × IsEntryFor entries size entry
entry_for [] size c = absurd (Contains-nil size c)
entry_for (first ∷ entries) size c = elim (cases_Bool (eqb first.size size)) [
  | inl e ↦ (first, record { found = rw e refl; size_is = eqb-true first.size size e; member = (0, omega arith, refl) })
  | inr e ↦ entry_later first entries size e (entry_for entries size (Contains-tail size first.size (sizes_in entries) (λ s. eqb-false first.size size e (sym s)) c))
]

-- the lowest bin of a load that some bin has
pub record IsBinFor (actual : List ℕ) (load bin : ℕ) : Type 0 where
  pub found : position (λ held. eqb held load) actual ≡ Some bin
  pub lowest : IsLowestBin actual load bin

bin_cases : (actual : List ℕ) (load : ℕ) (o : Option ℕ) → Contains actual load → position (λ held. eqb held load) actual ≡ o
    → MatchOption o (¬ Contains actual load) (IsLowestBin actual load) → (bin : ℕ) × IsBinFor actual load bin
bin_cases actual load None c e h = absurd (h c)
bin_cases actual load (Some bin) c e h = (bin, record { found = e; lowest = h })

pub bin_for : (actual : List ℕ) (load : ℕ) → Contains actual load → (bin : ℕ) × IsBinFor actual load bin
bin_for actual load c = bin_cases actual load (position (λ held. eqb held load) actual) c refl (position-cases load actual)

-- ---- earlier nodes

-- the earlier node that stands at a position
pub earlier_node : (nodes : List AlgNode) (k child : ℕ) (p : Position) → StandsAt (map position_of (take k nodes)) child p
    → (node : AlgNode) × (slice_get nodes child ≡ Some node) × (position_of node ≡ p)
earlier_node nodes k child p e =
    let h = mapped position_of (slice_get (take k nodes) child) p (sym (slice_get-map position_of (take k nodes) child) ∙ e) in
    let t = slice_get-take nodes k child h.0 h.1 in
    (h.0, t.0, h.2)

-- ---- the rules of a node by their names

pub record Meets (game : GameNumbers) (sizes : List ℕ) (earlier : List Position) (node : AlgNode) : Type 0 where
  pub loads : IsLoads game node.loads
  pub items : AreItemsOf sizes node.loads node.items
  pub finish : FinishesIfSaid game node node.act
  pub big : BigFinishesIfSaid game node node.act
  pub replies : RepliesIfSaid game sizes node node.act
  pub reply : All (NamesLoad game node.loads) (entries_of node.act)
  pub child : All (LeadsOn earlier (position_of node)) (entries_of node.act)

meets : (format : Format) (game : GameNumbers) (sizes : List ℕ) (nodes : List AlgNode) → IsLegal format game sizes nodes → (k : ℕ) (node : AlgNode)
    → slice_get nodes k ≡ Some node
    → Meets game sizes (map position_of (take k nodes)) node
meets format game sizes nodes legal k node here =
    let m = legal.each k node here in
    record { loads = m.0; items = m.1.0; finish = m.1.1.0; big = m.1.1.1.0; replies = m.1.1.1.1.0; reply = m.1.1.1.1.1.0; child = m.1.1.1.1.1.1.0 }

-- ---- under a kept order

finish_loads : (game : GameNumbers) (nodes : List AlgNode) (order : KeptOrder) (sizes actual : List ℕ)
    → (fold (after_item game nodes) (record { actual = actual; stand = under_finish order }) sizes).actual ≡ loads_under_finish game order actual sizes
finish_loads game nodes order [] actual = refl
finish_loads game nodes order (size ∷ sizes) actual = finish_loads game nodes order sizes (with_item actual (finish_bin game order actual size) size)

big_loads : (game : GameNumbers) (nodes : List AlgNode) (sizes actual : List ℕ) (order : KeptOrder)
    → (fold (after_item game nodes) (record { actual = actual; stand = under_big order }) sizes).actual ≡ loads_under_big game order actual sizes
big_loads game nodes [] actual order = refl
big_loads game nodes (size ∷ sizes) actual order = big_loads game nodes sizes (with_item actual (big_bin game order actual size) size) (big_order_after game order size)

-- ---- at a node

AreBelow : GameNumbers → List ℕ → Type 0
AreBelow game loads = All (λ load. load < game.target) loads

-- the history and the loads by bin number are those of a node, but for their order
pub record StandsAtNode (nodes : List AlgNode) (k : ℕ) (node : AlgNode) (history actual : List ℕ) : Type 0 where
  pub here : slice_get nodes k ≡ Some node
  pub loads : Same actual node.loads
  pub items : Same history node.items

-- from each node that a replay can stand at, these items keep every load below the target
abbrev KeepFrom : GameNumbers → List ℕ → List AlgNode → List ℕ → Type 0
KeepFrom game sizes nodes more =
    (k : ℕ) (node : AlgNode) (history actual : List ℕ) → StandsAtNode nodes k node history actual → Packable game (history ++ more) → All (Contains sizes) more
    → All (λ load. load < game.target) (fold (after_item game nodes) (record { actual = actual; stand = at_node k }) more).actual

module _ (format : Format) (game : GameNumbers) (sizes : List ℕ) (nodes : List AlgNode) (legal : IsLegal format game sizes nodes) where
  -- the loads after a move and the items that are left
  loads_from : (actual more : List ℕ) (size : ℕ) (move : Move) → List ℕ
  loads_from actual more size move = (fold (after_item game nodes) (moved actual size move) more).actual

  -- one step by an entry
  entry_keeps : (more : List ℕ) → KeepFrom game sizes nodes more → (k : ℕ) (node : AlgNode) (history actual : List ℕ) (size : ℕ) (entry : Entry)
      → StandsAtNode nodes k node history actual → Packable game (history ++ size ∷ more) → All (Contains sizes) more → entry.size ≡ size → NamesLoad game node.loads entry
      → LeadsOn (map position_of (take k nodes)) (position_of node) entry
      → All (λ load. load < game.target) (loads_from actual more size (entry_move k actual (Some entry)))
  unfolding loads_from
  entry_keeps more keep k node history actual size entry at packable all is names leads =
      let c : Contains actual entry.load = Contains-Same entry.load node.loads actual (Same-sym actual node.loads at.loads) names.load in
      let bin = bin_for actual entry.load c in
      let child = earlier_node nodes k entry.to (after (position_of node) entry.load entry.size) leads in
      let loads : child.0.loads ≡ loads_after node.loads entry.load size =
      ap (λ (p : Position). p.loads) child.2 ∙ ap (λ s. loads_after node.loads entry.load s) is in
      let items : child.0.items ≡ put_ascending size node.items = ap (λ (p : Position). p.items) child.2 ∙ ap (λ s. put_ascending s node.items) is in
      let put : placed actual bin.0 size ≡ set actual bin.0 (entry.load + size) = ap (λ load. set actual bin.0 (load + size)) bin.1.lowest.has_load in
      let same_loads : Same (placed actual bin.0 size) child.0.loads =
      subst (λ (xs : List ℕ). Same (placed actual bin.0 size) xs) (sym loads)
      (subst (λ (xs : List ℕ). Same xs (loads_after node.loads entry.load size)) (sym put)
      (Same-loads_after actual node.loads bin.0 entry.load size at.loads bin.1.lowest.in_range bin.1.lowest.has_load)) in
      let same_items : Same (history ++ size ∷ []) child.0.items =
      subst (λ (xs : List ℕ). Same (history ++ size ∷ []) xs) (sym items)
      (λ x. Same-push history node.items size at.items x ∙ Same-push_put size node.items x) in
      let next = keep entry.to child.0 (history ++ size ∷ []) (placed actual bin.0 size) (record { here = child.1; loads = same_loads; items = same_items })
      (subst (Packable game) (sym (append_assoc history (size ∷ []) more)) packable) all in
      subst (λ (o : Option ℕ). All (λ load. load < game.target) (fold (after_item game nodes) (moved actual size (bin_move k entry.to o)) more).actual) (sym bin.1.found) next

  -- one step of a node by what it does
  act_keeps : (more : List ℕ) → KeepFrom game sizes nodes more → (k : ℕ) (node : AlgNode) (history actual : List ℕ) (size : ℕ) (act : Act) → node.act ≡ act
      → StandsAtNode nodes k node history actual → Packable game (history ++ size ∷ more) → All (Contains sizes) (size ∷ more)
      → All (λ load. load < game.target) (loads_from actual more size (act_move game k actual size act))
  unfolding loads_from
  act_keeps more keep k node history actual size Finish is at packable all =
      let rules = meets format game sizes nodes legal k node at.here in
      let finishes : Finishes game node.loads = subst (FinishesIfSaid game node) is rules.finish in
      let fits = Packable-Same game (history ++ size ∷ more) (node.items ++ size ∷ more)
      (Same-append history node.items (size ∷ more) (size ∷ more) at.items (λ z. refl)) packable in
      let order : KeptOrder = kept_order game actual 0 in
      subst (λ (xs : List ℕ). All (λ load. load < game.target) xs) (sym (finish_loads game nodes order more (with_item actual (finish_bin game order actual size) size)))
      (finish_stays_below game node.loads node.items actual (size ∷ more) legal.of_game
      (record { legal = rules.loads; renamed = at.loads; total = rules.items.total }) finishes fits)
  act_keeps more keep k node history actual size (Big b) is at packable all =
      let rules = meets format game sizes nodes legal k node at.here in
      let finishes : BigFinishes game node.loads node.items b = subst (BigFinishesIfSaid game node) is rules.big in
      let fits = Packable-Same game (history ++ size ∷ more) (node.items ++ size ∷ more)
      (Same-append history node.items (size ∷ more) (size ∷ more) at.items (λ z. refl)) packable in
      let order : KeptOrder = kept_order game actual b in
      subst (λ (xs : List ℕ). All (λ load. load < game.target) xs)
      (sym (big_loads game nodes more (with_item actual (big_bin game order actual size) size) (big_order_after game order size)))
      (big_finish_stays_below game node.loads node.items actual (size ∷ more) b legal.of_game
      (record { legal = rules.loads; renamed = at.loads; total = rules.items.total }) finishes fits)
  act_keeps more keep k node history actual size (Reply entries) is at packable all =
      let rules = meets format game sizes nodes legal k node at.here in
      let each : ReplyToEach game sizes node.items entries = subst (RepliesIfSaid game sizes node) is rules.replies in
      let one : Packable game (history ++ size ∷ []) =
      Packable-front game (history ++ size ∷ []) more (subst (Packable game) (sym (append_assoc history (size ∷ []) more)) packable) in
      let may_come = Packable-Same game (history ++ size ∷ []) (node.items ++ size ∷ []) (Same-push history node.items size at.items) one in
      let allowed : Contains sizes size = All-head (Contains sizes) size more all in
      let entry = entry_for entries size ((each.exact size).1 (allowed, may_come)) in
      let names = All-contains (NamesLoad game node.loads) entries entry.0 (subst (λ (a : Act). All (NamesLoad game node.loads) (entries_of a)) is rules.reply) entry.1.member in
      let earlier : List Position = map position_of (take k nodes) in
      let leads = All-contains (LeadsOn earlier (position_of node)) entries entry.0
      (subst (λ (a : Act). All (LeadsOn earlier (position_of node)) (entries_of a)) is rules.child) entry.1.member in
      subst (λ (o : Option Entry). All (λ load. load < game.target) (fold (after_item game nodes) (moved actual size (entry_move k actual o)) more).actual) (sym entry.1.found)
      (entry_keeps more keep k node history actual size entry.0 at packable (All-tail (Contains sizes) size more all) entry.1.size_is names leads)

  -- from each node
  keep_from : (more : List ℕ) → KeepFrom game sizes nodes more
  unfolding loads_from
  keep_from [] k node history actual at packable all =
      let rules = meets format game sizes nodes legal k node at.here in
      All-Same (λ load. load < game.target) node.loads actual (Same-sym actual node.loads at.loads) rules.loads.below_target
  keep_from (size ∷ more) k node history actual at packable all =
      subst (λ (o : Option AlgNode). All (λ load. load < game.target) (fold (after_item game nodes) (moved actual size (node_move game k actual size o)) more).actual) (sym at.here)
      (act_keeps more (keep_from more) k node history actual size node.act refl at packable all)

  -- the root
  pub root : (node : AlgNode) × StandsAtNode nodes (length nodes - 1) node [] (replicate game.bins 0)
  root =
      let k : ℕ = length nodes - 1 in
      let last : k < length nodes = omega (arith, legal.low) in
      let node : AlgNode = get_or nodes k (record { loads = []; items = []; act = Finish }) in
      let here : slice_get nodes k ≡ Some node = slice_get-get_or nodes k (record { loads = []; items = []; act = Finish }) last in
      let m = legal.each k node here in
      let is_last : eqb (k + 1) (length nodes) ≡ true = eq-eqb (k + 1) (length nodes) (omega arith) in
      let empty : IsEmptyPosition (position_of node) = m.1.1.1.1.1.1.1.0 is_last in
      let is : position_of node ≡ empty_position game = empty_is game (position_of node) m.0.one_each empty.loads empty.items in
      let loads : node.loads ≡ replicate game.bins 0 = ap (λ (p : Position). p.loads) is in (
        node,
        record {
          here = here;
          loads = λ x. ap (count x) (sym loads);
          items = λ x. ap (count x) (sym empty.items);
        },
      )

  pub replay_stays_below : (items : List ℕ) → Packable game items → All (Contains sizes) items → All (λ load. load < game.target) (replayed game nodes items).actual
  replay_stays_below items packable all =
      let r = root in
      keep_from items (length nodes - 1) r.0 [] (replicate game.bins 0) r.1 packable all

pub legal_replies_keep_below : LegalRepliesKeepBelow
legal_replies_keep_below format game nodes legal items packable =
    let all : All (Contains (sizes_of game)) items = All-weaker (IsSize game.capacity) (Contains (sizes_of game)) (Contains_from_size game.capacity) items packable.1.item_list in
    subst (λ (loads : List ℕ). All (λ load. load < game.target) loads) (sym (runs_are_replays game nodes items legal.of_game))
    (replay_stays_below format game (sizes_of game) nodes legal items packable all)
