-- An upgrade of a legal strategy is legal.
use Rattle.std.proofs.Common.{◌≡◌, ℕ, zero, suc, ◌+◌, ◌-◌, ◌/◌, ◌<◌, ◌≤◌, Bool, List, [], ◌∷◌, ◌++◌, Some, length, get_or, map, take, replicate, eqb}
use Rattle.std.proofs.Common.{Result, Ok, Err, arith, refl, ap, sym, subst, ◌∙◌, inl, inr}
use Rattle.std.specs.Result.{IfOk}
use Rattle.std.specs.List.{All, AllZip, Contains, slice_get}
use Rattle.std.proofs.Math.Nat.{div-eq_of_lt}
use Rattle.std.proofs.lemmas.List.{get_or-map, get_or_default, length-map}
use Rattle.std.proofs.lemmas.List.Elements.{All-contains, All-nil, length_all_zip}
use Rattle.std.proofs.lemmas.List.Sums.{sum_by-cons}
use Rattle.std.proofs.lemmas.Option.{none-some, same_Some, slice_get-get_or}
use Rattle.items.specs.Game.{GameNumbers, IsGame}
use Rattle.items.specs.Multiset.{IsSize, sizes_of}
use Rattle.items.specs.Packable.{Packable}
use Rattle.loads.specs.After.{after}
use Rattle.loads.specs.Descending.{distinct}
use Rattle.loads.specs.Position.{position}
use Rattle.loads.specs.declared.position.Position.{Position}
use Rattle.loads.proofs.DistinctLemmas.{Contains-distinct}
use Rattle.strategy_text.specs.Text.{nodes_of, of_adversary, of_algorithm, side_of}
use Rattle.strategy_text.specs.declared.node.Act.{Act}
use Rattle.strategy_text.specs.declared.node.Act.TheVariants.{Finish, Big, Reply}
use Rattle.strategy_text.specs.declared.node.AdvNode.{AdvNode}
use Rattle.strategy_text.specs.declared.node.AlgNode.{AlgNode}
use Rattle.strategy_text.specs.declared.node.Format.{Format}
use Rattle.strategy_text.specs.declared.node.Format.TheVariants.{Two}
use Rattle.strategy_text.specs.declared.node.Nodes.{Nodes}
use Rattle.strategy_text.specs.declared.node.Nodes.TheVariants.{Adversary, Algorithm}
use Rattle.strategy_text.specs.declared.node.Placement.{Placement}
use Rattle.strategy_text.specs.declared.node.Step.{Step}
use Rattle.strategy_text.specs.declared.node.Strategy.{Strategy}
use Rattle.strategy_text.specs.declared.node.Step.TheVariants.{Send, Burst}
use Rattle.adversary_graph.specs.Judging.{node_at}
use Rattle.adversary_graph.specs.Legal as adversary_legal
use Rattle.adversary_graph.specs.Nodes as adversary
use Rattle.adversary_graph.specs.Rules as adversary_rules
use Rattle.adversary_graph.specs.Rules.{IsOver, IsOverAtTarget, LeadsTo, most_below_target}
use Rattle.items.proofs.SizesLemmas.{sizes_are_sizes}
use Rattle.loads.proofs.LoadsLemmas.{multiset_from_items}
use Rattle.adversary_graph.proofs.WonLemmas.{EachFollows-from_legal, packable_node}
use Rattle.algorithm_graph.specs.Judging as algorithm_judging
use Rattle.algorithm_graph.specs.Legal as algorithm_legal
use Rattle.algorithm_graph.specs.Nodes as algorithm
use Rattle.algorithm_graph.specs.Rules as algorithm_rules
use Rattle.strategies.specs.AnyNode.{AreLegalNodes}
use Rattle.minimise.specs.Laws.{UpgradesAreLegal}
use Rattle.minimise.specs.Strategies.{canonical_form}
use Rattle.minimise.specs.Upgrade.{IsCanonicalUpgrade, IsUpgradeOf}
use Rattle.minimise.specs.Upgrade.{UpgradesAct, UpgradesAdversary, UpgradesAlgorithm, UpgradesNodes, UpgradesStep, least_burst}
use Rattle.minimise.specs.Upgrading.{CanUpgradeAdversary, CanUpgradeAlgorithm, CanUpgradeNodes}

-- ---- nodes at the same numbers

-- the node before, of a node after
paired : {X : Type 0} (R : X → X → Type 0) (xs ys : List X) (k : ℕ) (y : X) → AllZip R xs ys → slice_get ys k ≡ Some y
    → (x : X) × (slice_get xs k ≡ Some x) × R x y
paired R [] [] k y zip e = absurd (none-some y e)
paired R [] (y' ∷ ys) k y zip e = absurd zip
paired R (x ∷ xs) [] k y zip e = absurd zip
paired R (x ∷ xs) (y' ∷ ys) zero y zip e = (x, refl, subst (λ z. R x z) (same_Some y' y e) zip.0)
paired R (x ∷ xs) (y' ∷ ys) (suc k) y zip e = paired R xs ys k y zip.1 e

-- what is the same of each node is the same of the first nodes
same_fronts : {X Y : Type 0} (R : X → X → Type 0) (f : X → Y) → ((x y : X) → R x y → f y ≡ f x) → (xs ys : List X) → AllZip R xs ys → (k : ℕ)
    → map f (take k ys) ≡ map f (take k xs)
same_fronts R f same [] [] zip k = refl
same_fronts R f same [] (y ∷ ys) zip k = absurd zip
same_fronts R f same (x ∷ xs) [] zip k = absurd zip
same_fronts R f same (x ∷ xs) (y ∷ ys) zip zero = refl
same_fronts R f same (x ∷ xs) (y ∷ ys) zip (suc k) =
    ap (λ z. z ∷ map f (take k ys)) (same x y zip.0) ∙ ap (λ zs. f x ∷ zs) (same_fronts R f same xs ys zip.1 k)

same_position : (loads loads' items items' : List ℕ) → loads' ≡ loads → items' ≡ items → position loads' items' ≡ position loads items
same_position loads loads' items items' l i = ap (λ ls. position ls items') l ∙ ap (λ is. position loads is) i

-- ---- of the adversary

none_below : (game : GameNumbers) (size : ℕ) (loads : List ℕ) → 1 ≤ size → 1 ≤ game.target → All (λ load. game.target ≤ load + size) loads → most_below_target game size loads ≡ 0
none_below game size [] low some all = refl
none_below game size (load ∷ loads) low some all =
    let here = all 0 load (omega arith) in
    let rest = none_below game size loads low some (λ k d l. all (suc k) d (omega (arith, l))) in
    let first : (game.target - 1 - load) / size ≡ 0 = div-eq_of_lt (omega (arith, here, low, some)) in
    omega (arith, first, rest, sum_by-cons (λ x. (game.target - 1 - x) / size) load loads)

-- where each placement is over, each load reaches the target
all_reach : (game : GameNumbers) (size : ℕ) (loads : List ℕ) (placements : List Placement) → map (λ (placement : Placement). placement.load) placements ≡ distinct loads
    → All (IsOverAtTarget game size) placements → All (λ placement. IsOver placement.next) placements → All (λ load. game.target ≤ load + size) loads
all_reach game size loads placements e overs all k d l =
    let load = get_or loads k d in
    let c : Contains (map (λ (placement : Placement). placement.load) placements) load =
    subst (λ (xs : List ℕ). Contains xs load) (sym e) (Contains-distinct load loads (k, l, get_or_default loads k load d l)) in
    let within : c.0 < length placements = omega (arith, c.1, length-map placements (λ (placement : Placement). placement.load)) in
    let none : Placement = record { load = 0; next = Rattle.strategy_text.specs.declared.node.Then.TheVariants.Over } in
    let is : (get_or placements c.0 none).load ≡ load = sym (get_or-map (λ (placement : Placement). placement.load) placements c.0 none load within) ∙ c.2 in
    omega (arith, (overs c.0 none within).0 (all c.0 none within), is)

no_packing : (game : GameNumbers) (size : ℕ) (loads items : List ℕ) (placements : List Placement) → 1 ≤ size → 1 ≤ game.target
    → map (λ (placement : Placement). placement.load) placements ≡ distinct loads → All (IsOverAtTarget game size) placements
    → Packable game (items ++ size ∷ []) → (Packable game (items ++ replicate (least_burst game size loads) size) → ⊥)
    → All (λ placement. IsOver placement.next) placements → ⊥
no_packing game size loads items placements low some e overs packable not all =
    let zero_is = none_below game size loads low some (all_reach game size loads placements e overs all) in
    let one_is : least_burst game size loads ≡ 1 = omega (arith, zero_is) in
    not (subst (λ n. Packable game (items ++ replicate n size)) (sym one_is) packable)

-- the rules of the upgraded node
adversary_meets : (format : Format) (game : GameNumbers) (earlier : List Position) (last : Bool) (loads items : List ℕ) (step new : Step) → IsGame game
    → adversary_rules.MeetsRules format game (sizes_of game) earlier last (node_at (position loads items) step)
    → Packable game (items ++ adversary.sent_items step)
    → UpgradesStep game (node_at (position loads items) step) step new
    → adversary_rules.MeetsRules Two game (sizes_of game) earlier last (node_at (position loads items) new)
adversary_meets format game earlier last loads items (Send size pack placements) new g m packable (inl burst) =
    let sizes = sizes_of game in
    subst (λ (s : Step). adversary_rules.MeetsRules Two game sizes earlier last (node_at (position loads items) s)) (sym burst.1) (
      m.0,
      (
        m.1.0,
        (
          m.1.1.0,
          (
            omega arith,
            (
              record { shown = ((λ _. tt), (λ _. tt)); holds = burst.2 },
              (
                tt,
                (
                  All-nil (IsOverAtTarget game size),
                  (
                    All-nil (λ (placement : Placement). LeadsTo earlier placement.next (after (position loads items) placement.load size)),
                    (m.1.1.1.1.1.1.1.1.0, tt),
                  ),
                ),
              ),
            ),
          ),
        ),
      ),
    )
adversary_meets format game earlier last loads items (Send size pack placements) new g m packable (inr same) =
    let sizes = sizes_of game in
    let low = All-contains (IsSize game.capacity) sizes size (sizes_are_sizes game) m.1.1.0 in
    let not_over = no_packing game size loads items placements low.low (omega (arith, g.target.low)) m.1.1.1.1.1.0 m.1.1.1.1.1.1.0 packable same.0 in
    subst (λ (s : Step). adversary_rules.MeetsRules Two game sizes earlier last (node_at (position loads items) s)) (sym same.1) (
      m.0,
      (
        m.1.0,
        (
          m.1.1.0,
          (
            tt,
            (
              record { shown = ((λ v. absurd v), not_over); holds = tt },
              (m.1.1.1.1.1.0, (m.1.1.1.1.1.1.0, (m.1.1.1.1.1.1.1.0, (m.1.1.1.1.1.1.1.1.0, tt)))),
            ),
          ),
        ),
      ),
    )
adversary_meets format game earlier last loads items (Burst times size pack) new g m packable same =
    let sizes = sizes_of game in
    subst (λ (s : Step). adversary_rules.MeetsRules Two game sizes earlier last (node_at (position loads items) s)) (sym same) (
      m.0,
      (
        m.1.0,
        (
          m.1.1.0,
          (
            m.1.1.1.0,
            (
              record { shown = ((λ _. tt), (λ _. tt)); holds = m.1.1.1.1.0.holds },
              (tt, (m.1.1.1.1.1.1.0, (m.1.1.1.1.1.1.1.0, (m.1.1.1.1.1.1.1.1.0, tt)))),
            ),
          ),
        ),
      ),
    )

adversary_upgrade : (format : Format) (game : GameNumbers) (nodes news : List AdvNode) → adversary_legal.IsLegal format game (sizes_of game) nodes
    → AllZip (UpgradesAdversary game) nodes news → adversary_legal.IsLegal Two game (sizes_of game) news
adversary_upgrade format game nodes news legal zip =
    let sizes = sizes_of game in
    let R = UpgradesAdversary game in
    let long = length_all_zip R nodes news zip in
    let Meets = λ (k : ℕ) (earlier : List Position) (count : ℕ) (node : AdvNode). adversary_rules.MeetsRules Two game sizes earlier (eqb (k + 1) count) node in
    record {
      of_game = legal.of_game;
      low = omega (arith, legal.low, long);
      high = omega (arith, legal.high, long);
      formed = λ k d l. tt;
      each = λ k new e.
          let h = paired R nodes news k new zip e in
          let node = h.0 in
          let earlier = map adversary.position_of (take k nodes) in
          let follows = EachFollows-from_legal format game sizes nodes legal in
          let packable = packable_node format game sizes nodes (sizes_are_sizes game) follows (k + 1) k node (omega arith) h.1 in
          let last = eqb (k + 1) (length nodes) in
          let rules = legal.each k node h.1 in
          let m = adversary_meets format game earlier last node.loads node.items node.step new.step legal.of_game rules packable h.2.step in
          let same_before = same_fronts R adversary.position_of (λ x y r. same_position x.loads y.loads x.items y.items r.loads r.items) nodes news zip k in
          let here = same_position node.loads new.loads node.items new.items h.2.loads h.2.items in
          subst (λ ps. Meets k ps (length news) new) (sym same_before)
          (subst (λ n. Meets k earlier n new) long
          (subst (λ (p : Position). Meets k earlier (length nodes) (node_at p new.step)) (sym here) m));
    }

-- ---- of the algorithm

algorithm_meets : (game : GameNumbers) (earlier : List Position) (last : Bool) (loads items : List ℕ) (act new : Act)
    → algorithm_rules.MeetsRules game (sizes_of game) earlier last (algorithm_judging.node_at (position loads items) act)
    → UpgradesAct game (algorithm_judging.node_at (position loads items) act) act new
    → algorithm_rules.MeetsRules game (sizes_of game) earlier last (algorithm_judging.node_at (position loads items) new)
algorithm_meets game earlier last loads items Finish new m same =
    subst (λ (a : Act). algorithm_rules.MeetsRules game (sizes_of game) earlier last (algorithm_judging.node_at (position loads items) a)) (sym same) m
algorithm_meets game earlier last loads items (Big b) new m same =
    subst (λ (a : Act). algorithm_rules.MeetsRules game (sizes_of game) earlier last (algorithm_judging.node_at (position loads items) a)) (sym same) m
algorithm_meets game earlier last loads items (Reply entries) new m (inr same) =
    subst (λ (a : Act). algorithm_rules.MeetsRules game (sizes_of game) earlier last (algorithm_judging.node_at (position loads items) a)) (sym same.1) m
algorithm_meets game earlier last loads items (Reply entries) new m (inl big) =
    subst (λ (a : Act). algorithm_rules.MeetsRules game (sizes_of game) earlier last (algorithm_judging.node_at (position loads items) a)) (sym big.2) (
      m.0,
      (
        m.1.0,
        (
          tt,
          (
            big.1.finishes,
            (
              tt,
              (
                All-nil (algorithm_rules.NamesLoad game loads),
                (All-nil (algorithm_judging.LeadsOn earlier (position loads items)), (m.1.1.1.1.1.1.1.0, tt)),
              ),
            ),
          ),
        ),
      ),
    )

algorithm_upgrade : (format : Format) (game : GameNumbers) (nodes news : List AlgNode) → algorithm_legal.IsLegal format game (sizes_of game) nodes
    → AllZip (UpgradesAlgorithm game) nodes news → algorithm_legal.IsLegal Two game (sizes_of game) news
algorithm_upgrade format game nodes news legal zip =
    let sizes = sizes_of game in
    let R = UpgradesAlgorithm game in
    let long = length_all_zip R nodes news zip in
    let Meets = λ (k : ℕ) (earlier : List Position) (count : ℕ) (node : AlgNode). algorithm_rules.MeetsRules game sizes earlier (eqb (k + 1) count) node in
    record {
      of_game = legal.of_game;
      low = omega (arith, legal.low, long);
      high = omega (arith, legal.high, long);
      formed = λ k d l. tt;
      each = λ k new e.
          let h = paired R nodes news k new zip e in
          let node = h.0 in
          let earlier = map algorithm.position_of (take k nodes) in
          let m = algorithm_meets game earlier (eqb (k + 1) (length nodes)) node.loads node.items node.act new.act (legal.each k node h.1) h.2.act in
          let same_before = same_fronts R algorithm.position_of (λ x y r. same_position x.loads y.loads x.items y.items r.loads r.items) nodes news zip k in
          let here = same_position node.loads new.loads node.items new.items h.2.loads h.2.items in
          subst (λ ps. Meets k ps (length news) new) (sym same_before)
          (subst (λ n. Meets k earlier n new) long
          (subst (λ (p : Position). Meets k earlier (length nodes) (algorithm_judging.node_at p new.act)) (sym here) m));
    }

-- ---- of either side

pub upgrade_is_legal : (format : Format) (game : GameNumbers) (nodes news : Nodes) → AreLegalNodes format game (sizes_of game) nodes → UpgradesNodes game nodes news
    → AreLegalNodes Two game (sizes_of game) news
upgrade_is_legal format game (Adversary nodes) (Adversary news) legal zip = adversary_upgrade format game nodes news legal zip
upgrade_is_legal format game (Adversary nodes) (Algorithm news) legal zip = absurd zip
upgrade_is_legal format game (Algorithm nodes) (Adversary news) legal zip = absurd zip
upgrade_is_legal format game (Algorithm nodes) (Algorithm news) legal zip = algorithm_upgrade format game nodes news legal zip

pub upgrades_are_legal : UpgradesAreLegal
upgrades_are_legal strategy upgraded legal of =
    let news = upgrade_is_legal strategy.format strategy.game strategy.nodes upgraded.nodes legal of.nodes in
    subst (λ (f : Format). AreLegalNodes f upgraded.game (sizes_of upgraded.game) upgraded.nodes) (sym of.format)
    (subst (λ (g : GameNumbers). AreLegalNodes Two g (sizes_of g) upgraded.nodes) (sym of.game) news)

pub upgrade_side : (game : GameNumbers) (nodes news : Nodes) → UpgradesNodes game nodes news → side_of news ≡ side_of nodes
upgrade_side game (Adversary nodes) (Adversary news) zip = refl
upgrade_side game (Adversary nodes) (Algorithm news) zip = absurd zip
upgrade_side game (Algorithm nodes) (Adversary news) zip = absurd zip
upgrade_side game (Algorithm nodes) (Algorithm news) zip = refl

pub upgrade_number : (game : GameNumbers) (nodes news : Nodes) → UpgradesNodes game nodes news → length (nodes_of news) ≡ length (nodes_of nodes)
upgrade_number game (Adversary nodes) (Adversary news) zip =
    omega (arith, length_all_zip (UpgradesAdversary game) nodes news zip, length-map nodes of_adversary, length-map news of_adversary)
upgrade_number game (Adversary nodes) (Algorithm news) zip = absurd zip
upgrade_number game (Algorithm nodes) (Adversary news) zip = absurd zip
upgrade_number game (Algorithm nodes) (Algorithm news) zip =
    omega (arith, length_all_zip (UpgradesAlgorithm game) nodes news zip, length-map nodes of_algorithm, length-map news of_algorithm)

-- ---- what is asked of the nodes

adversary_can : (format : Format) (game : GameNumbers) (nodes : List AdvNode) → adversary_legal.IsLegal format game (sizes_of game) nodes → All (CanUpgradeAdversary game) nodes
adversary_can format game nodes legal k d l =
    let sizes = sizes_of game in
    let node = get_or nodes k d in
    let m = legal.each k node (slice_get-get_or nodes k d l) in
    record {
      loads = m.0;
      items = multiset_from_items game sizes node.loads node.items legal.of_game (sizes_are_sizes game) m.0 m.1.0;
      size = All-contains (IsSize game.capacity) sizes (adversary.sent_size node.step) (sizes_are_sizes game) m.1.1.0;
    }

algorithm_can : (format : Format) (game : GameNumbers) (nodes : List AlgNode) → algorithm_legal.IsLegal format game (sizes_of game) nodes → All (CanUpgradeAlgorithm game) nodes
algorithm_can format game nodes legal k d l =
    let sizes = sizes_of game in
    let node = get_or nodes k d in
    let m = legal.each k node (slice_get-get_or nodes k d l) in
    record {
      loads = m.0;
      items = multiset_from_items game sizes node.loads node.items legal.of_game (sizes_are_sizes game) m.0 m.1.0;
    }

pub legal_can_upgrade : (format : Format) (game : GameNumbers) (nodes : Nodes) → AreLegalNodes format game (sizes_of game) nodes → CanUpgradeNodes game nodes
legal_can_upgrade format game (Adversary nodes) legal = adversary_can format game nodes legal
legal_can_upgrade format game (Algorithm nodes) legal = algorithm_can format game nodes legal

-- the canonical form of an upgrade
pub canonical_upgrade : {E : Type 0} (strategy raised : Strategy) (r : Result Strategy E) → IsUpgradeOf strategy raised
    → IfOk r (λ made. made ≡ canonical_form raised) → IfOk r (IsCanonicalUpgrade strategy)
canonical_upgrade strategy raised (Ok made) of is = (raised, of, is)
canonical_upgrade strategy raised (Err e) of is = tt
