-- The nodes of a pool up to a root, the bins that they leave, and a node that may come next.
use Rattle.std.proofs.Common.{◌≡◌, ℕ, zero, suc, ◌+◌, ◌<◌, ◌≤◌, false, List, [], ◌∷◌, Some, None, length, take, map, arith, sym, subst, Option}
use Rattle.std.specs.List.{slice_get}
use Rattle.std.specs.Prelude.{MatchOption}
use Rattle.std.proofs.lemmas.List.{length-take}
use Rattle.std.proofs.lemmas.Option.{none-some, slice_get_past}
use Rattle.items.specs.Game.{GameNumbers}
use Rattle.items.specs.Multiset.{sizes_of}
use Rattle.loads.specs.declared.position.Position.{Position}
use Rattle.node_pool.specs.Pools as pools
use Rattle.node_pool.specs.Pools.{nodes_up_to, terms_in}
use Rattle.node_pool.specs.Terms.{Terms}
use Rattle.node_pool.proofs.PoolLemmas.{AreLegal-from_pool}
use Rattle.strategy_text.specs.Spelling.{most_nodes}
use Rattle.strategy_text.specs.declared.node.AlgNode.{AlgNode}
use Rattle.strategy_text.specs.declared.node.Format.{Format}
use Rattle.strategy_text.specs.declared.node.Nodes.{Nodes}
use Rattle.strategy_text.specs.declared.node.Nodes.TheVariants as sides
use Rattle.strategy_text.specs.declared.node.Strategy.{Strategy}
use Rattle.strategy_text.specs.declared.node.Act.{Act}
use Rattle.strategy_text.specs.declared.node.Act.TheVariants.{Finish, Big, Reply}
use Rattle.strategy_text.specs.declared.rule.Rule.{Rule}
use Rattle.algorithm_graph.specs.Legal.{IsLegal, IsNodeOfFormat, MeetsRulesUnder}
use Rattle.algorithm_graph.specs.Nodes.{position_of}
use Rattle.algorithm_graph.specs.NodesAreJudged.{root_is_asked_last}
use Rattle.algorithm_graph.specs.Pools.{AreLegal, IsLegalOfAlgorithm, IsPool, IsRoot, MayComeNext, Pool}
use Rattle.algorithm_graph.specs.Rules.{BigFinishesIfSaid, Breaks, MeetsRules}
use Rattle.algorithm_graph.specs.Replaying.{LeavesABin}

-- an element of the first ones of a list
pub slice_get-take-within : {X : Type 0} (xs : List X) (k i : ℕ) (x : X) → i < k → slice_get xs i ≡ Some x → slice_get (take k xs) i ≡ Some x
slice_get-take-within xs zero i x l e = absurd (omega arith)
slice_get-take-within [] (suc k) i x l e = absurd (none-some x e)
slice_get-take-within (y ∷ ys) (suc k) zero x l e = e
slice_get-take-within (y ∷ ys) (suc k) (suc i) x l e = slice_get-take-within ys k i x (omega arith) e

-- the nodes up to the root, and the bins that they leave
pub node_up_to : (nodes : List AlgNode) (root number : ℕ) (node : AlgNode) → number ≤ root → slice_get nodes number ≡ Some node
    → slice_get (nodes_up_to root nodes) number ≡ Some node
node_up_to nodes root number node le e = slice_get-take-within nodes (root + 1) number node (omega arith) e

pub none_past : (nodes : List AlgNode) (root number : ℕ) → root < number → slice_get (nodes_up_to root nodes) number ≡ None
none_past nodes root number l = slice_get_past (take (root + 1) nodes) number (omega (arith, length-take (root + 1) nodes))

leaves_a_bin : (game : GameNumbers) (node : AlgNode) (act : Act) → BigFinishesIfSaid game node act → LeavesABin game act
leaves_a_bin game node Finish big = tt
leaves_a_bin game node (Big b) big = big.some_left
leaves_a_bin game node (Reply entries) big = tt

pub pool_leaves_a_bin : (pool : Pool) (number : ℕ) (node : AlgNode) → IsPool pool → slice_get pool.nodes number ≡ Some node → LeavesABin pool.game node.act
pool_leaves_a_bin pool number node p e = let m = p.follow number node e in leaves_a_bin pool.game node node.act m.1.1.1.0

-- the nodes of a pool of the whole game up to one with the empty position are legal
pub IsLegal-from_pool : (pool : Pool) (root : ℕ) → IsPool pool → pool.sizes ≡ sizes_of pool.game → IsRoot pool.nodes root
    → IsLegal pool.format pool.game (sizes_of pool.game) (nodes_up_to root pool.nodes)
IsLegal-from_pool pool root p whole r =
    subst (λ (sizes : List ℕ). IsLegal pool.format pool.game sizes (nodes_up_to root pool.nodes)) whole
    (AreLegal-from_pool position_of IsNodeOfFormat MeetsRulesUnder root_is_asked_last pool root p r)

-- a node that breaks no rule may come next into a pool
pub may_come_next : (pool : Pool) (node : AlgNode) (terms : Terms) (earlier : List Position) (fault : Option Rule) → terms ≡ terms_in pool
    → earlier ≡ map position_of pool.nodes → fault ≡ None
    → MatchOption fault (MeetsRules terms.game terms.sizes earlier false node) (Breaks terms.game terms.sizes earlier false node)
    → length pool.nodes < most_nodes → IsNodeOfFormat pool.format node → MayComeNext pool node
may_come_next pool node terms earlier None t e none m room formed = record {
  room = room;
  formed = formed;
  follows = subst (λ (positions : List Position). MeetsRules pool.game pool.sizes positions false node) e
      (subst (λ (t : Terms). MeetsRules t.game t.sizes earlier false node) t m);
}
may_come_next pool node terms earlier (Some rule) t e none m room formed = absurd (none-some rule (sym none))

-- the strategy of a pool of the whole game is legal
legal_nodes : (format : Format) (game : GameNumbers) (list : Nodes) (nodes : List AlgNode) → list ≡ sides.Algorithm nodes → IsLegal format game (sizes_of game) nodes
    → AreLegal format game list
legal_nodes format game list nodes e legal = subst (AreLegal format game) (sym e) legal

pub IsLegal-of_pool : (strategy : Strategy) (pool : Pool) (nodes : List AlgNode) → pool.sizes ≡ sizes_of pool.game → strategy.format ≡ pool.format → strategy.game ≡ pool.game
    → strategy.nodes ≡ sides.Algorithm nodes → pools.AreLegal position_of IsNodeOfFormat MeetsRulesUnder (terms_in pool) nodes → IsLegalOfAlgorithm strategy
IsLegal-of_pool strategy pool nodes whole format game is legal =
    legal_nodes strategy.format strategy.game strategy.nodes nodes is
    (subst (λ (f : Format). IsLegal f strategy.game (sizes_of strategy.game) nodes) (sym format)
    (subst (λ (g : GameNumbers). IsLegal pool.format g (sizes_of g) nodes) (sym game)
    (subst (λ (sizes : List ℕ). IsLegal pool.format pool.game sizes nodes) whole legal)))
