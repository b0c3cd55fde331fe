-- Each rule of a node is met or not, so a node meets every rule or breaks one first.
use Rattle.std.proofs.Common.{◌≡◌, ◌⊎◌, ◌↔◌, inl, inr, Bool, ℕ, ◌+◌, ◌-◌, ◌*◌, ◌<◌, ◌≤◌, List, [], ◌∷◌, ◌++◌, length, map, drop, All, Contains, Option, Some, None}
use Rattle.std.proofs.Common.{IfSome, refl}
use Rattle.std.specs.Prelude.{IsTrue, sum, count_by, slice_index}
use Rattle.std.specs.List.Sorted.{IsNonDecreasing}
use Rattle.std.proofs.lemmas.List.Elements.{All-weaker, All-contains, All-contains_itself}
use Rattle.items.specs.Game.{GameNumbers}
use Rattle.items.specs.Multiset.{is_big}
use Rattle.items.specs.Packable.{IsPacking, Packable}
use Rattle.loads.specs.After.{after}
use Rattle.loads.specs.Descending.{IsDescending, distinct}
use Rattle.loads.specs.Loads.{IsLoads}
use Rattle.loads.specs.Position.{AreItemsOf, IsEmptyPosition, StandsAt}
use Rattle.loads.specs.declared.position.Position.{Position}
use Rattle.good_situations.specs.BigFinish.{BigFinishes, CoversWithReserved}
use Rattle.strategy_text.specs.Rules.{AllMet, IsFirstBroken}
use Rattle.strategy_text.specs.Text.{AnyNode, of_adversary, of_algorithm}
use Rattle.strategy_text.specs.declared.node.Act.{Act}
use Rattle.strategy_text.specs.declared.node.Act.TheVariants.{Finish, Big, Reply}
use Rattle.strategy_text.specs.declared.node.AdvNode.{AdvNode}
use Rattle.strategy_text.specs.declared.node.AlgNode.{AlgNode}
use Rattle.strategy_text.specs.declared.node.Entry.{Entry}
use Rattle.strategy_text.specs.declared.node.Format.{Format}
use Rattle.strategy_text.specs.declared.node.Format.TheVariants.{One, Two}
use Rattle.strategy_text.specs.declared.node.Step.{Step}
use Rattle.strategy_text.specs.declared.node.Step.TheVariants.{Send, Burst}
use Rattle.strategy_text.specs.declared.node.Then.{Then}
use Rattle.strategy_text.specs.declared.node.Then.TheVariants.{Over, To}
use Rattle.strategy_text.specs.declared.rule.Rule.{Rule}
use Rattle.adversary_graph.specs.NodeRules as adversary_rules
use Rattle.adversary_graph.specs.Nodes.{sent_size, sent_items, packing_of, placements_of}
use Rattle.adversary_graph.specs.Nodes as adversary_nodes
use Rattle.adversary_graph.specs.Rules.{most_below_target, IsLongEnough, IsOver, IsPackingAsked, IsShown, IsPacked, PlacesEachLoad, IsOverAtTarget, LeadsTo}
use Rattle.adversary_graph.specs.Rules as adversary
use Rattle.algorithm_graph.specs.Nodes.{entries_of}
use Rattle.algorithm_graph.specs.Nodes as algorithm_nodes
use Rattle.algorithm_graph.specs.Rules.{FinishesIfSaid, BigFinishesIfSaid, IsStrictlyAscending, ReplyToEach, RepliesIfSaid, NamesLoad}
use Rattle.algorithm_graph.specs.Rules as algorithm
use Rattle.checker.specs.Head.{Head, MeetsUnder, BreaksUnder}
use Rattle.checker.proofs.DecideLemmas.{Decided, decided_by, decided_both, decided_if, decided_iff, decided_true, decided_eq, decided_lt, decided_le, decided_all, decided_contains}
use Rattle.checker.proofs.DecideLemmas.{decided_lists, decided_ascending, decided_neighbours, decided_packing, decided_packable, decided_stands}

-- ---- a list of rules

-- every rule is met, or one is broken first
abbrev Judged : {R : Type 0} → (R → Type 0) → List R → Type 0
Judged {R} IsMet rs = AllMet IsMet rs ⊎ ((r : R) × IsFirstBroken IsMet rs r)

judge_more : {R : Type 0} (IsMet : R → Type 0) (r : R) (rs : List R) → Decided (IsMet r) → Judged IsMet rs → Judged IsMet (r ∷ rs)
judge_more IsMet r rs (inr fails) d = inr (r, inl (refl, fails))
judge_more IsMet r rs (inl met) (inl all) = inl (met, all)
judge_more IsMet r rs (inl met) (inr broken) = inr (broken.0, inr (met, broken.1))

judge_all : {R : Type 0} (IsMet : R → Type 0) → ((r : R) → Decided (IsMet r)) → (rs : List R) → Judged IsMet rs
judge_all IsMet d [] = inl tt
judge_all IsMet d (r ∷ rs) = judge_more IsMet r rs (d r) (judge_all IsMet d rs)

-- ---- a position

decided_loads : (game : GameNumbers) (loads : List ℕ) → Decided (IsLoads game loads)
decided_loads game loads =
    let Below : Type 0 = All (λ load. load < game.target) loads in
    decided_by (((length loads ≡ game.bins) × IsDescending loads) × Below) (IsLoads game loads)
    (λ h. record { one_each = h.0.0; descending = h.0.1; below_target = h.1 })
    (λ h. ((h.one_each, h.descending), h.below_target))
    (decided_both ((length loads ≡ game.bins) × IsDescending loads) Below
    (decided_both (length loads ≡ game.bins) (IsDescending loads) (decided_eq (length loads) game.bins)
    (decided_neighbours (λ k l. slice_index loads l ≤ slice_index loads k) (λ k l. decided_le (slice_index loads l) (slice_index loads k)) (length loads)))
    (decided_all (λ load. load < game.target) (λ load. decided_lt load game.target) loads))

decided_items : (sizes loads items : List ℕ) → Decided (AreItemsOf sizes loads items)
decided_items sizes loads items =
    let Allowed : Type 0 = All (Contains sizes) items in
    decided_by ((IsNonDecreasing items × Allowed) × (sum items ≡ sum loads)) (AreItemsOf sizes loads items)
    (λ h. record { ascending = h.0.0; allowed = h.0.1; total = h.1 })
    (λ h. ((h.ascending, h.allowed), h.total))
    (decided_both (IsNonDecreasing items × Allowed) (sum items ≡ sum loads)
    (decided_both (IsNonDecreasing items) Allowed (decided_ascending items) (decided_all (Contains sizes) (decided_contains sizes) items))
    (decided_eq (sum items) (sum loads)))

decided_empty : (position : Position) → Decided (IsEmptyPosition position)
decided_empty position =
    let Empty : Type 0 = All (λ load. load ≡ 0) position.loads in
    decided_by (Empty × (position.items ≡ [])) (IsEmptyPosition position) (λ h. record { loads = h.0; items = h.1 }) (λ h. (h.loads, h.items))
    (decided_both Empty (position.items ≡ []) (decided_all (λ load. load ≡ 0) (λ load. decided_eq load 0) position.loads) (decided_lists position.items []))

-- ---- a node of the adversary

decided_long : (game : GameNumbers) (loads : List ℕ) (step : Step) → Decided (IsLongEnough game loads step)
decided_long game loads (Send size pack placements) = inl tt
decided_long game loads (Burst number size pack) = decided_lt (most_below_target game size loads) number

decided_over : (next : Then) → Decided (IsOver next)
decided_over Over = inl tt
decided_over (To child) = inr (λ h. h)

decided_asked : (format : Format) (step : Step) → Decided (IsPackingAsked format step)
decided_asked One step = inl tt
decided_asked Two (Send size pack placements) = decided_all (λ placement. IsOver placement.next) (λ placement. decided_over placement.next) placements
decided_asked Two (Burst number size pack) = inl tt

decided_shown : (pack : Option (List (List ℕ))) → Decided (IsShown pack)
decided_shown None = inr (λ h. h)
decided_shown (Some bins) = inl tt

decided_holds : (game : GameNumbers) (pack : Option (List (List ℕ))) (items : List ℕ) → Decided (IfSome pack (λ bins. IsPacking game bins items))
decided_holds game None items = inl tt
decided_holds game (Some bins) items = decided_packing game bins items

decided_packed : (game : GameNumbers) (format : Format) (node : AdvNode) → Decided (IsPacked game format node)
decided_packed game format node =
    let Shown : Type 0 = (IsShown (packing_of node.step) ↔ IsPackingAsked format node.step) in
    let Holds : Type 0 = IfSome (packing_of node.step) (λ bins. IsPacking game bins (node.items ++ sent_items node.step)) in
    decided_by (Shown × Holds) (IsPacked game format node) (λ h. record { shown = h.0; holds = h.1 }) (λ h. (h.shown, h.holds))
    (decided_both Shown Holds (decided_iff (IsShown (packing_of node.step)) (IsPackingAsked format node.step) (decided_shown (packing_of node.step))
    (decided_asked format node.step))
    (decided_holds game (packing_of node.step) (node.items ++ sent_items node.step)))

decided_places : (loads : List ℕ) (step : Step) → Decided (PlacesEachLoad loads step)
decided_places loads (Send size pack placements) = decided_lists (map (λ placement. placement.load) placements) (distinct loads)
decided_places loads (Burst number size pack) = inl tt

decided_leads : (earlier : List Position) (next : Then) (position : Position) → Decided (LeadsTo earlier next position)
decided_leads earlier Over position = inl tt
decided_leads earlier (To child) position = decided_stands earlier child position

decided_root : (last : Bool) (position : Position) → Decided (IsTrue last → IsEmptyPosition position)
decided_root last position = decided_if (IsTrue last) (IsEmptyPosition position) (decided_true last) (decided_empty position)

decided_adversary : (format : Format) (game : GameNumbers) (sizes : List ℕ) (earlier : List Position) (last : Bool) (node : AdvNode) (rule : adversary_rules.NodeRule)
    → Decided (adversary.Meets format game sizes earlier last node rule)
decided_adversary format game sizes earlier last node adversary_rules.loads = decided_loads game node.loads
decided_adversary format game sizes earlier last node adversary_rules.items = decided_items sizes node.loads node.items
decided_adversary format game sizes earlier last node adversary_rules.send = decided_contains sizes (sent_size node.step)
decided_adversary format game sizes earlier last node adversary_rules.burst = decided_long game node.loads node.step
decided_adversary format game sizes earlier last node adversary_rules.pack = decided_packed game format node
decided_adversary format game sizes earlier last node adversary_rules.placements = decided_places node.loads node.step
decided_adversary format game sizes earlier last node adversary_rules.over =
    decided_all (IsOverAtTarget game (sent_size node.step))
    (λ placement. decided_iff (IsOver placement.next) (game.target ≤ placement.load + sent_size node.step) (decided_over placement.next)
    (decided_le game.target (placement.load + sent_size node.step)))
    (placements_of node.step)
decided_adversary format game sizes earlier last node adversary_rules.child =
    decided_all (λ placement. LeadsTo earlier placement.next (after (adversary_nodes.position_of node) placement.load (sent_size node.step)))
    (λ placement. decided_leads earlier placement.next (after (adversary_nodes.position_of node) placement.load (sent_size node.step)))
    (placements_of node.step)
decided_adversary format game sizes earlier last node adversary_rules.root = decided_root last (adversary_nodes.position_of node)

-- ---- a node of the algorithm

decided_finish : (game : GameNumbers) (node : AlgNode) (act : Act) → Decided (FinishesIfSaid game node act)
decided_finish game node Finish = decided_le (game.bins * game.capacity) _
decided_finish game node (Big b) = inl tt
decided_finish game node (Reply entries) = inl tt

decided_big_finish : (game : GameNumbers) (loads items : List ℕ) (reserved : ℕ) → Decided (BigFinishes game loads items reserved)
decided_big_finish game loads items reserved =
    let Left : Type 0 = (reserved ≤ game.bins - 1) in
    let Enough : Type 0 = (game.bins ≤ reserved + count_by (is_big game.capacity) items) in
    let Takes : Type 0 = All (λ load. load + game.capacity < game.target) (drop (game.bins - reserved) loads) in
    let Covers : Type 0 = CoversWithReserved game loads reserved in
    decided_by ((Left × Enough) × (Takes × Covers)) (BigFinishes game loads items reserved)
    (λ h. record { some_left = h.0.0; enough = h.0.1; takes_any = h.1.0; covers = h.1.1 })
    (λ h. ((h.some_left, h.enough), (h.takes_any, h.covers)))
    (decided_both (Left × Enough) (Takes × Covers)
    (decided_both Left Enough (decided_le reserved (game.bins - 1)) (decided_le game.bins (reserved + count_by (is_big game.capacity) items)))
    (decided_both Takes Covers (decided_all (λ load. load + game.capacity < game.target) (λ load. decided_lt (load + game.capacity) game.target)
    (drop (game.bins - reserved) loads)) (decided_le (game.bins * game.capacity) _)))

decided_big : (game : GameNumbers) (node : AlgNode) (act : Act) → Decided (BigFinishesIfSaid game node act)
decided_big game node Finish = inl tt
decided_big game node (Big b) = decided_big_finish game node.loads node.items b
decided_big game node (Reply entries) = inl tt

-- the sizes of entries are those that may come
decided_exact : (game : GameNumbers) (sizes items names : List ℕ) → Decided ((size : ℕ) → Contains names size ↔ (Contains sizes size × Packable game (items ++ size ∷ [])))
decided_exact game sizes items names =
    let MayCome : ℕ → Type 0 = λ size. (Contains sizes size × Packable game (items ++ size ∷ [])) in
    let IsNamed : ℕ → Type 0 = λ size. (Packable game (items ++ size ∷ []) → Contains names size) in
    let packable : (size : ℕ) → Decided (Packable game (items ++ size ∷ [])) = λ size. decided_packable game (items ++ size ∷ []) in
    decided_by (All MayCome names × All IsNamed sizes) ((size : ℕ) → Contains names size ↔ (Contains sizes size × Packable game (items ++ size ∷ [])))
    (λ h size. ((λ c. All-contains MayCome names size h.0 c), (λ m. All-contains IsNamed sizes size h.1 m.0 m.1)))
    (λ h. (
      All-weaker (Contains names) MayCome (λ size c. (h size).0 c) names (All-contains_itself names),
      All-weaker (Contains sizes) IsNamed
          (λ size c p. (h size).1 (c, p)) sizes (All-contains_itself sizes),
    ))
    (decided_both (All MayCome names) (All IsNamed sizes)
    (decided_all MayCome (λ size. decided_both (Contains sizes size) (Packable game (items ++ size ∷ [])) (decided_contains sizes size) (packable size)) names)
    (decided_all IsNamed (λ size. decided_if (Packable game (items ++ size ∷ [])) (Contains names size) (packable size) (decided_contains names size)) sizes))

decided_reply : (game : GameNumbers) (sizes items : List ℕ) (entries : List Entry) → Decided (ReplyToEach game sizes items entries)
decided_reply game sizes items entries =
    let names : List ℕ = map (λ entry. entry.size) entries in
    let Exact : Type 0 = ((size : ℕ) → Contains names size ↔ (Contains sizes size × Packable game (items ++ size ∷ []))) in
    decided_by (IsStrictlyAscending names × Exact) (ReplyToEach game sizes items entries) (λ h. record { ascending = h.0; exact = h.1 }) (λ h. (h.ascending, h.exact))
    (decided_both (IsStrictlyAscending names) Exact
    (decided_neighbours (λ k l. slice_index names k < slice_index names l) (λ k l. decided_lt (slice_index names k) (slice_index names l)) (length names))
    (decided_exact game sizes items names))

decided_replies : (game : GameNumbers) (sizes : List ℕ) (node : AlgNode) (act : Act) → Decided (RepliesIfSaid game sizes node act)
decided_replies game sizes node Finish = inl tt
decided_replies game sizes node (Big b) = inl tt
decided_replies game sizes node (Reply entries) = decided_reply game sizes node.items entries

decided_names : (game : GameNumbers) (loads : List ℕ) (entry : Entry) → Decided (NamesLoad game loads entry)
decided_names game loads entry =
    decided_by (Contains loads entry.load × (entry.load + entry.size < game.target)) (NamesLoad game loads entry) (λ h. record { load = h.0; below = h.1 }) (λ h. (h.load, h.below))
    (decided_both (Contains loads entry.load) (entry.load + entry.size < game.target) (decided_contains loads entry.load) (decided_lt (entry.load + entry.size) game.target))

decided_algorithm : (game : GameNumbers) (sizes : List ℕ) (earlier : List Position) (last : Bool) (node : AlgNode) (rule : algorithm.NodeRule)
    → Decided (algorithm.Meets game sizes earlier last node rule)
decided_algorithm game sizes earlier last node algorithm.loads = decided_loads game node.loads
decided_algorithm game sizes earlier last node algorithm.items = decided_items sizes node.loads node.items
decided_algorithm game sizes earlier last node algorithm.finish = decided_finish game node node.act
decided_algorithm game sizes earlier last node algorithm.big = decided_big game node node.act
decided_algorithm game sizes earlier last node algorithm.replies = decided_replies game sizes node node.act
decided_algorithm game sizes earlier last node algorithm.reply = decided_all (NamesLoad game node.loads) (decided_names game node.loads) (entries_of node.act)
decided_algorithm game sizes earlier last node algorithm.child =
    decided_all (λ entry. StandsAt earlier entry.to (after (algorithm_nodes.position_of node) entry.load entry.size))
    (λ entry. decided_stands earlier entry.to (after (algorithm_nodes.position_of node) entry.load entry.size))
    (entries_of node.act)
decided_algorithm game sizes earlier last node algorithm.root = decided_root last (algorithm_nodes.position_of node)

-- ---- a node of either side

-- a node meets every rule, or breaks one first
abbrev pub IsJudged : Head → List Position → Bool → AnyNode → Type 0
IsJudged head earlier last node = MeetsUnder head earlier last node ⊎ ((rule : Rule) × BreaksUnder head earlier last node rule)

adversary_judged : (head : Head) (earlier : List Position) (last : Bool) (node : AdvNode)
    → Judged (adversary.Meets head.format head.game head.sizes earlier last node) adversary.node_rules
    → IsJudged head earlier last (of_adversary node)
adversary_judged head earlier last node (inl all) = inl all
adversary_judged head earlier last node (inr broken) = inr (adversary_rules.rule_of broken.0, (broken.0, refl, broken.1))

algorithm_judged : (head : Head) (earlier : List Position) (last : Bool) (node : AlgNode)
    → Judged (algorithm.Meets head.game head.sizes earlier last node) algorithm.node_rules → IsJudged head earlier last (of_algorithm node)
algorithm_judged head earlier last node (inl all) = inl all
algorithm_judged head earlier last node (inr broken) = inr (algorithm.rule_of broken.0, (broken.0, refl, broken.1))

pub judged_node : (head : Head) (earlier : List Position) (last : Bool) (node : AnyNode) → IsJudged head earlier last node
judged_node head earlier last (of_adversary node) =
    adversary_judged head earlier last node (judge_all (adversary.Meets head.format head.game head.sizes earlier last node)
    (decided_adversary head.format head.game head.sizes earlier last node) adversary.node_rules)
judged_node head earlier last (of_algorithm node) =
    algorithm_judged head earlier last node (judge_all (algorithm.Meets head.game head.sizes earlier last node)
    (decided_algorithm head.game head.sizes earlier last node) algorithm.node_rules)
