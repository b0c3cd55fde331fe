-- How the wins that a search kept become a strategy.
use Rattle.std.proofs.Common.{◌≡◌, ℕ, zero, suc, ◌+◌, ◌<◌, ◌≤◌, Bool, true, Some, List, [], ◌∷◌, ◌++◌, length, map, take, get_or}
use Rattle.std.proofs.Common.{refl, sym, ap, ◌∙◌, subst, inl, inr, arith}
use Rattle.std.specs.Prelude.{slice_get}
use Rattle.std.proofs.lemmas.Bool.{cases_lt, false≢true}
use Rattle.std.proofs.lemmas.List.{get_or_append_left, get_or_push, length-map, length_push}
use Rattle.std.proofs.lemmas.List.Elements.{All-map, All-weaker}
use Rattle.std.proofs.lemmas.Option.{none-some, same_Some, slice_get_within}
use Rattle.items.specs.Game.{GameNumbers}
use Rattle.minimax.specs.declared.space.Space.{Space}
use Rattle.loads.specs.After.{after}
use Rattle.loads.specs.Position.{StandsAt}
use Rattle.loads.specs.Wins.{empty_position}
use Rattle.loads.specs.declared.position.Position.{Position}
use Rattle.strategy_text.specs.Text.{nodes_of, of_adversary}
use Rattle.strategy_text.specs.declared.node.AdvNode.{AdvNode}
use Rattle.strategy_text.specs.declared.node.Format.{Format}
use Rattle.strategy_text.specs.declared.node.Nodes.{Nodes}
use Rattle.strategy_text.specs.declared.node.Nodes.TheVariants.{Adversary}
use Rattle.node_pool.specs.Pools.{nodes_up_to, terms_in}
use Rattle.node_pool.specs.Terms.{Terms}
use Rattle.strategy_text.specs.declared.node.Placement.{Placement}
use Rattle.strategy_text.specs.declared.node.Strategy.{Strategy}
use Rattle.strategy_text.specs.declared.node.Then.{Then}
use Rattle.strategy_text.specs.declared.node.Then.TheVariants.{Over, To}
use Rattle.adversary_graph.specs.Nodes as adversary
use Rattle.adversary_graph.specs.Pools as adversary_pools
use Rattle.adversary_graph.specs.Rules.{IsOverAtTarget, LeadsTo}
use Rattle.adversary_graph.specs.Legal.{IsLegal}
use Rattle.minimax.specs.Answers.{IsFor, IsLegalOfAdversaryOver}
use Rattle.minimax.specs.Reached.{AreReached, IsMarked, LeadsToMarked}
use Rattle.minimax.specs.State.{GoesOn, position_of_win}
use Rattle.minimax.specs.WinsWriting.{AreWritten, MayPutWin, MayWriteWins, WritesWin, renumbered, renumbered_next}
use Rattle.minimax.specs.declared.wins.Win.{Win}
use Rattle.minimax.proofs.ReachedLemmas.{leads_below, win_below, all_below}
use Rattle.minimax.proofs.RootLemmas.{length-take-short, root_of_win}
use Rattle.minimax.proofs.StateLemmas.{GoesOn-refl, IsPlain-same, StandsAt-goes, StandsAt-last}

-- ---- placements with the numbers of the nodes

over_at : (game : GameNumbers) (numbers : List ℕ) (size load : ℕ) (next : Then) → IsOverAtTarget game size (record { load = load; next = next })
    → IsOverAtTarget game size (renumbered numbers (record { load = load; next = next }))
over_at game numbers size load Over h = h
over_at game numbers size load (To child) h = h

loads_renumbered : (numbers : List ℕ) (placements : List Placement)
    → map (λ (placement : Placement). placement.load) (map (renumbered numbers) placements) ≡ map (λ (placement : Placement). placement.load) placements
loads_renumbered numbers [] = refl
loads_renumbered numbers (p ∷ ps) = ap (λ xs. p.load ∷ xs) (loads_renumbered numbers ps)

-- the win that stands at a position
record IsWinAt (wins : List Win) (number : ℕ) (position : Position) (win : Win) : Type 0 where
  here : slice_get wins number ≡ Some win
  stands : win.position ≡ position

win_at : (wins : List Win) (number : ℕ) (position : Position) → StandsAt (map position_of_win wins) number position
    → (win : Win) × IsWinAt wins number position win
win_at [] number position h = absurd (none-some position h)
win_at (w ∷ ws) zero position h = (w, record { here = refl; stands = same_Some w.position position h })
win_at (w ∷ ws) (suc number) position h =
    let found = win_at ws number position h in
    (found.0, record { here = found.1.here; stands = found.1.stands })

-- so among the first wins
stands_earlier : (wins : List Win) (k number : ℕ) (position : Position) → StandsAt (map position_of_win (take k wins)) number position
    → StandsAt (map position_of_win wins) number position
stands_earlier wins zero number position h = absurd (none-some position h)
stands_earlier [] (suc k) number position h = h
stands_earlier (w ∷ ws) (suc k) zero position h = h
stands_earlier (w ∷ ws) (suc k) (suc number) position h = stands_earlier ws k number position h

leads_written : (space : Space) (wins : List Win) (marks : List Bool) (k : ℕ) (pool : adversary_pools.Pool) (numbers : List ℕ) (next : Then)
    (position : Position) → AreWritten space wins marks k pool numbers → LeadsTo (map position_of_win (take k wins)) next position → LeadsToMarked marks next
    → LeadsTo (map adversary.position_of pool.nodes) (renumbered_next numbers next) position
leads_written space wins marks k pool numbers Over position w h m = tt
leads_written space wins marks k pool numbers (To child) position w h m =
    let found = win_at wins child position (stands_earlier wins k child position h) in
    subst (StandsAt (map adversary.position_of pool.nodes) (get_or numbers child 0)) found.1.stands
    (w.stand child found.0 (leads_below wins k (To child) position h) found.1.here m)

-- ---- the next win

pub may_put_win : (space : Space) (wins : List Win) (root k : ℕ) (marks : List Bool) (pool : adversary_pools.Pool) (numbers : List ℕ) (win : Win)
    → MayWriteWins space wins root → AreReached wins root 0 marks → AreWritten space wins marks k pool numbers → slice_get wins k ≡ Some win → IsMarked marks k
    → MayPutWin space pool numbers win
may_put_win space wins root k marks pool numbers win may reached w e m =
    let ready = may.ready k win e in
    let places = ready.places in
    let earlier = map position_of_win (take k wins) in
    let nodes = map adversary.position_of pool.nodes in
    let marked = reached.follow k win (omega arith) e m in
    record {
      playable = ready.playable;
      listed = ready.listed;
      may_come = ready.may_come;
      of_format = w.of_format;
      room = omega (arith, w.few, slice_get_within wins k win e, may.few);
      below = all_below k (length numbers) win.placements (omega (arith, w.one_each)) (win_below space wins k win may.ready e);
      places = record {
        each_load = loads_renumbered numbers win.placements ∙ places.each_load;
        over = All-map (IsOverAtTarget space.game win.size) (renumbered numbers) win.placements
            (All-weaker (IsOverAtTarget space.game win.size) (λ placement. IsOverAtTarget space.game win.size (renumbered numbers placement))
            (λ placement h. over_at space.game numbers win.size placement.load placement.next h) win.placements places.over);
        leads = All-map (λ placement. LeadsTo nodes placement.next (after win.position placement.load win.size)) (renumbered numbers) win.placements
            (λ i d l. let placement : Placement = get_or win.placements i d in
            leads_written space wins marks k pool numbers placement.next (after win.position placement.load win.size) w (places.leads i d l) (marked i d l));
      };
    }

put_goes : (before next : adversary_pools.Pool) (win : Win) (reached : Bool) (number : ℕ) → WritesWin before next win reached number
    → GoesOn before.nodes next.nodes × (next.game ≡ before.game) × (terms_in next ≡ terms_in before) × (length next.nodes ≤ length before.nodes + 1)
put_goes before next win reached number (inl (unreached, same)) =
    subst (λ (p : adversary_pools.Pool). GoesOn before.nodes p.nodes × (p.game ≡ before.game) × (terms_in p ≡ terms_in before) × (length p.nodes ≤ length before.nodes + 1))
    (sym same) (GoesOn-refl before.nodes, refl, refl, omega arith)
put_goes before next win reached number (inr puts) = (
  (puts.node ∷ [], ap (λ (p : adversary_pools.Pool). p.nodes) puts.pool),
  ap (λ (p : adversary_pools.Pool). p.game) puts.pool,
  ap (λ (p : adversary_pools.Pool). terms_in p) puts.pool,
  omega (arith, ap (λ (p : adversary_pools.Pool). length p.nodes) puts.pool, length_push before.nodes puts.node),
)

put_stands : (before next : adversary_pools.Pool) (win : Win) (reached : Bool) (number : ℕ) → WritesWin before next win reached number → reached ≡ true
    → StandsAt (map adversary.position_of next.nodes) number win.position
put_stands before next win reached number (inl (unreached, same)) marked = absurd (false≢true (sym unreached ∙ marked))
put_stands before next win reached number (inr puts) marked =
    StandsAt-last adversary.position_of before.nodes next.nodes puts.node number win.position (ap (λ (p : adversary_pools.Pool). p.nodes) puts.pool) puts.is_last puts.stands

pub wins_more : (space : Space) (wins : List Win) (marks : List Bool) (k : ℕ) (pool next : adversary_pools.Pool) (numbers more : List ℕ) (win : Win)
    (reached : Bool) (number : ℕ) → AreWritten space wins marks k pool numbers → slice_get wins k ≡ Some win → slice_get marks k ≡ Some reached
    → WritesWin pool next win reached number → more ≡ numbers ++ number ∷ [] → AreWritten space wins marks (k + 1) next more
wins_more space wins marks k pool next numbers more win reached number w e m writes is =
    let goes = put_goes pool next win reached number writes in
    let nodes = map adversary.position_of next.nodes in
    subst (AreWritten space wins marks (k + 1) next) (sym is) (record {
      of_game = goes.1 ∙ w.of_game;
      of_format = IsPlain-same space pool next goes.2 w.of_format;
      few = omega (arith, goes.3, w.few);
      one_each = length_push numbers number ∙ ap (λ n. n + 1) w.one_each;
      stand = λ j other l f marked. elim (cases_lt j k) [
        | inl before ↦ subst (λ i. StandsAt nodes i other.position) (sym (get_or_append_left numbers (number ∷ []) 0 j (omega (arith, before, w.one_each))))
            (StandsAt-goes adversary.position_of pool.nodes next.nodes (get_or numbers j 0) other.position goes.0 (w.stand j other before f marked))
        | inr here ↦
            let at : j ≡ k = omega (arith, here, l) in
            let same : win ≡ other = same_Some win other (sym e ∙ subst (λ i. slice_get wins i ≡ Some other) at f) in
            let is_reached : reached ≡ true = same_Some reached true (sym m ∙ subst (IsMarked marks) at marked) in
            subst (λ i. StandsAt nodes i other.position) (sym (get_or_push numbers number 0 j (w.one_each ∙ sym at)))
            (subst (λ (one : Win). StandsAt nodes number one.position) same (put_stands pool next win reached number writes is_reached))
      ];
    })

-- ---- the root

pub root_written : (space : Space) (wins : List Win) (root k : ℕ) (marks : List Bool) (pool : adversary_pools.Pool) (numbers : List ℕ)
    → MayWriteWins space wins root → AreReached wins root 0 marks → AreWritten space wins marks k pool numbers → root < k
    → adversary_pools.IsRoot pool.nodes (get_or numbers root 0)
root_written space wins root k marks pool numbers may reached w l =
    let found = win_at wins root (empty_position space.game) may.is_root in
    root_of_win space 0 pool.nodes (get_or numbers root 0) (empty_position space.game) refl
    (subst (StandsAt (map adversary.position_of pool.nodes) (get_or numbers root 0)) found.1.stands (w.stand root found.0 l found.1.here reached.root_marked))

pub IsFor-wins : (space : Space) (wins : List Win) (marks : List Bool) (k root : ℕ) (pool : adversary_pools.Pool) (numbers : List ℕ) (strategy : Strategy)
    → AreWritten space wins marks k pool numbers → k ≤ length wins
    → strategy.format ≡ pool.format → strategy.game ≡ pool.game → strategy.nodes ≡ Adversary (nodes_up_to root pool.nodes) → IsFor space.game (length wins) strategy
IsFor-wins space wins marks k root pool numbers strategy w l format of_game is = record {
  of_game = of_game ∙ w.of_game;
  of_format = format ∙ ap (λ (t : Terms). t.format) w.of_format;
  few = omega (arith, w.few, l, ap (λ n. length (nodes_of n)) is, length-map (take (root + 1) pool.nodes) of_adversary, length-take-short (root + 1) pool.nodes);
}

-- the root is the number of a win
pub number_within : (space : Space) (wins : List Win) (root : ℕ) → MayWriteWins space wins root → root < length wins
number_within space wins root may =
    let found = win_at wins root (empty_position space.game) may.is_root in
    slice_get_within wins root found.0 found.1.here

-- the strategy of a pool is legal over its sizes
pub IsLegalOfAdversary-of_pool : (sizes : List ℕ) (strategy : Strategy) (pool : adversary_pools.Pool) (nodes : List AdvNode) → pool.sizes ≡ sizes
    → strategy.format ≡ pool.format → strategy.game ≡ pool.game → strategy.nodes ≡ Adversary nodes
    → IsLegal pool.format pool.game pool.sizes nodes → IsLegalOfAdversaryOver sizes strategy
IsLegalOfAdversary-of_pool sizes strategy pool nodes of format game is legal =
    legal_nodes strategy.format strategy.game strategy.nodes is
    (subst (λ f. IsLegal f strategy.game sizes nodes) (sym format)
    (subst (λ g. IsLegal pool.format g sizes nodes) (sym game)
    (subst (λ xs. IsLegal pool.format pool.game xs nodes) of legal)))
  where
    legal_nodes : (f : Format) (g : GameNumbers) (all : Nodes) → all ≡ Adversary nodes → IsLegal f g sizes nodes
        → IsLegalOfAdversaryOver sizes (record { format = f; game = g; nodes = all })
    legal_nodes f g all e h = subst (λ ns. IsLegalOfAdversaryOver sizes (record { format = f; game = g; nodes = ns })) (sym e) h
