-- A legal strategy of the algorithm is legal at a higher target.
use Rattle.std.proofs.Common.{ℕ, ◌+◌, ◌-◌, ◌/◌, ◌<◌, ◌≤◌, Bool, List, [], ◌∷◌, ◌++◌, map, take, drop, max, arith}
use Rattle.std.proofs.lemmas.List.Elements.{All-weaker}
use Rattle.std.proofs.lemmas.List.Sums.{sum_by-cons}
use Rattle.items.specs.Game.{GameNumbers, IsGame}
use Rattle.items.specs.Multiset.{sizes_of}
use Rattle.items.specs.Packable.{Packable}
use Rattle.loads.specs.Loads.{IsLoads}
use Rattle.loads.specs.Position.{position}
use Rattle.loads.specs.declared.position.Position.{Position}
use Rattle.good_situations.specs.BigFinish.{BigFinishes}
use Rattle.good_situations.specs.Finish.{Finishes, raised_total}
use Rattle.strategy_text.specs.declared.node.Act.{Act}
use Rattle.strategy_text.specs.declared.node.Act.TheVariants.{Finish, Big, Reply}
use Rattle.strategy_text.specs.declared.node.AlgNode.{AlgNode}
use Rattle.strategy_text.specs.declared.node.Entry.{Entry}
use Rattle.strategy_text.specs.declared.node.Format.{Format}
use Rattle.algorithm_graph.specs.Judging.{node_at}
use Rattle.algorithm_graph.specs.Legal.{IsLegal}
use Rattle.algorithm_graph.specs.Nodes.{entries_of, position_of}
use Rattle.algorithm_graph.specs.Rules.{BigFinishesIfSaid, FinishesIfSaid, MeetsRules, NamesLoad, RepliesIfSaid, ReplyToEach}
use Rattle.strategy_transfer.specs.Weakened.{with_target}

module _ (game : GameNumbers) (target : ℕ) (higher : game.target ≤ target) where
  abbrev raised : GameNumbers
  raised = with_target target game

  -- what is packable does not depend on the target
  packable_at : (items : List ℕ) → Packable game items → Packable raised items
  packable_at items p = (p.0, record { item_list = p.1.item_list; one_each = p.1.one_each; of_game = p.1.of_game; fits = p.1.fits })

  packable_from : (items : List ℕ) → Packable raised items → Packable game items
  packable_from items p = (p.0, record { item_list = p.1.item_list; one_each = p.1.one_each; of_game = p.1.of_game; fits = p.1.fits })

  more_raised : (floor higher : ℕ) (loads : List ℕ) → floor ≤ higher → raised_total floor loads ≤ raised_total higher loads
  more_raised floor higher [] l = omega arith
  more_raised floor higher (load ∷ loads) l =
      omega (arith, l, more_raised floor higher loads l, sum_by-cons (λ x. max x floor) load loads, sum_by-cons (λ x. max x higher) load loads)

  finishes_at : (loads : List ℕ) → Finishes game loads → Finishes raised loads
  finishes_at loads f =
      omega (arith, f, more_raised (game.target - game.capacity) (target - game.capacity) (take (game.bins - 1) loads) (omega (arith, higher)), higher)

  big_at : (loads items : List ℕ) (b : ℕ) → BigFinishes game loads items b → BigFinishes raised loads items b
  big_at loads items b f = record {
    some_left = f.some_left;
    enough = f.enough;
    takes_any = All-weaker (λ load. load + game.capacity < game.target) (λ load. load + game.capacity < target) (λ load l. omega (arith, l, higher))
        (drop (game.bins - b) loads) f.takes_any;
    covers = omega (
      arith,
      f.covers,
      more_raised (game.target - game.capacity / 2) (target - game.capacity / 2) (take (game.bins - b - 1) loads) (omega (arith, higher)),
      higher,
    );
  }

  finish_if_said : (loads items : List ℕ) (act : Act) → FinishesIfSaid game (node_at (position loads items) act) act
      → FinishesIfSaid raised (node_at (position loads items) act) act
  finish_if_said loads items Finish f = finishes_at loads f
  finish_if_said loads items (Big b) f = tt
  finish_if_said loads items (Reply entries) f = tt

  big_if_said : (loads items : List ℕ) (act : Act) → BigFinishesIfSaid game (node_at (position loads items) act) act
      → BigFinishesIfSaid raised (node_at (position loads items) act) act
  big_if_said loads items Finish f = tt
  big_if_said loads items (Big b) f = big_at loads items b f
  big_if_said loads items (Reply entries) f = tt

  reply_at : (items : List ℕ) (entries : List Entry) → ReplyToEach game (sizes_of game) items entries → ReplyToEach raised (sizes_of game) items entries
  reply_at items entries r = record {
    ascending = r.ascending;
    exact = λ size. (
      λ c. let e = (r.exact size).0 c in (e.0, packable_at (items ++ size ∷ []) e.1),
      λ c. (r.exact size).1 (c.0, packable_from (items ++ size ∷ []) c.1),
    );
  }

  replies_if_said : (loads items : List ℕ) (act : Act) → RepliesIfSaid game (sizes_of game) (node_at (position loads items) act) act
      → RepliesIfSaid raised (sizes_of game) (node_at (position loads items) act) act
  replies_if_said loads items Finish r = tt
  replies_if_said loads items (Big b) r = tt
  replies_if_said loads items (Reply entries) r = reply_at items entries r

  rules_at : (earlier : List Position) (last : Bool) (loads items : List ℕ) (act : Act)
      → MeetsRules game (sizes_of game) earlier last (node_at (position loads items) act)
      → MeetsRules raised (sizes_of game) earlier last (node_at (position loads items) act)
  rules_at earlier last loads items act m =
      let loads_are : IsLoads raised loads = record {
        one_each = m.0.one_each;
        descending = m.0.descending;
        below_target = All-weaker (λ load. load < game.target) (λ load. load < target) (λ load l. omega (arith, l, higher)) loads m.0.below_target;
      } in
      let named = All-weaker (NamesLoad game loads) (NamesLoad raised loads) (λ entry n. record { load = n.load; below = omega (arith, n.below, higher) })
      (entries_of act) m.1.1.1.1.1.0 in (
        loads_are,
        (
          m.1.0,
          (
            finish_if_said loads items act m.1.1.0,
            (big_if_said loads items act m.1.1.1.0, (replies_if_said loads items act m.1.1.1.1.0, (named, (m.1.1.1.1.1.1.0, (m.1.1.1.1.1.1.1.0, tt))))),
          ),
        ),
      )

  pub raised_is_legal : (format : Format) (nodes : List AlgNode) → IsGame raised → IsLegal format game (sizes_of game) nodes → IsLegal format raised (sizes_of game) nodes
  raised_is_legal format nodes g legal = record {
    of_game = g;
    low = legal.low;
    high = legal.high;
    formed = legal.formed;
    each = λ k node e. rules_at (map position_of (take k nodes)) _ node.loads node.items node.act (legal.each k node e);
  }
