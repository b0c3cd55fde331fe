-- How the replies that a search kept become a strategy.
use Rattle.std.proofs.Common.{◌≡◌, ℕ, zero, suc, ◌+◌, ◌-◌, ◌<◌, ◌≤◌, ◌⊎◌, Some, List, [], ◌∷◌, ◌++◌, length, map, take, get_or}
use Rattle.std.proofs.Common.{refl, sym, ap, ◌∙◌, subst, append_assoc, inl, inr, arith}
use Rattle.std.specs.Prelude.{Contains, IsSome, slice_get}
use Rattle.std.proofs.lemmas.List.{get_or_append_left, get_or-append-add, length-map, length-take-le, length_push, take_more}
use Rattle.std.proofs.lemmas.List.Elements.{All-weaker}
use Rattle.std.proofs.lemmas.Option.{none-some}
use Rattle.items.specs.Game.{GameNumbers}
use Rattle.minimax.specs.declared.space.Space.{Space}
use Rattle.loads.specs.Position.{StandsAt}
use Rattle.loads.specs.declared.position.Position.{Position}
use Rattle.strategy_text.specs.Text.{nodes_of, of_algorithm}
use Rattle.strategy_text.specs.declared.node.AlgNode.{AlgNode}
use Rattle.strategy_text.specs.declared.node.Format.{Format}
use Rattle.strategy_text.specs.declared.node.Nodes.{Nodes}
use Rattle.strategy_text.specs.declared.node.Nodes.TheVariants.{Algorithm}
use Rattle.node_pool.specs.Pools.{nodes_up_to, terms_in}
use Rattle.node_pool.specs.Terms.{Terms}
use Rattle.strategy_text.specs.declared.node.Entry.{Entry}
use Rattle.strategy_text.specs.declared.node.Strategy.{Strategy}
use Rattle.algorithm_graph.specs.Nodes as algorithm
use Rattle.algorithm_graph.specs.Pools as algorithm_pools
use Rattle.algorithm_graph.specs.Legal.{IsLegal}
use Rattle.minimax.specs.Answers.{IsFor, IsLegalOfAlgorithmOver}
use Rattle.minimax.specs.Naming.{AreNumbered, HasReplies, IsEntryPlaced, IsPlaced, Numbers, PutsNamed, number_of}
use Rattle.minimax.specs.Serving.{led_to}
use Rattle.minimax.specs.State.{GoesOn, IsPlain, position_of_reply}
use Rattle.minimax.specs.Writing.{IsWrittenUpTo, MayPut, MayWrite, Puts}
use Rattle.minimax.specs.declared.replies.Reply.{Reply}
use Rattle.minimax.specs.declared.writing.Written.{Written}
use Rattle.minimax.proofs.NamingLemmas.{Stays-all, Stays-numbers, leaves_all, leaves_number, numbers_stand}
use Rattle.minimax.proofs.RootLemmas.{length-take-short}
use Rattle.minimax.proofs.StateLemmas.{IsPlain-same, StandsAt-goes, StandsAt-last}

-- ---- the next reply

element : (replies : List Reply) (k : ℕ) (reply d : Reply) → k < length replies → reply ≡ get_or replies k d → slice_get replies k ≡ Some reply
element [] k reply d l e = absurd (omega (arith, l))
element (x ∷ xs) zero reply d l e = ap Some (sym e)
element (x ∷ xs) (suc k) reply d l e = element xs k reply d (omega (arith, l)) e

contains_element : (replies : List Reply) (k : ℕ) (reply d : Reply) → k < length replies → reply ≡ get_or replies k d → Contains replies reply
contains_element replies k reply d l e = (k, l, sym (e ∙ same_default replies k d reply l))
  where
    same_default : (xs : List Reply) (i : ℕ) (a b : Reply) → i < length xs → get_or xs i a ≡ get_or xs i b
    same_default [] i a b m = absurd (omega (arith, m))
    same_default (y ∷ ys) zero a b m = refl
    same_default (y ∷ ys) (suc i) a b m = same_default ys i a b (omega (arith, m))

pub may_put : (space : Space) (replies : List Reply) (root : Position) (told budget k : ℕ) (w : Written) (reply d : Reply)
    → MayWrite space replies root told budget → IsWrittenUpTo space replies root told budget k w → k < length replies → reply ≡ get_or replies k d → MayPut space w reply
may_put space replies root told budget k w reply d may up l e =
    let ready = may.ready k reply (element replies k reply d l e) in
    record {
      earlier = take k replies;
      ready = ready;
      may = record {
        replies = up.has;
        playable = ready.playable;
        pending = ready.pending;
        numbered = up.numbered;
        few = omega (arith, length-take-le k replies (omega (arith, l)), may.few, may.limit, l);
        limit = budget;
        within = may.limit;
        unnamed = up.left;
        under = record { few = omega (arith, up.under.few, l); named = up.under.named };
        placed = up.placed reply (contains_element replies k reply d l e);
      };
    }

-- an element of a list with one more stands before, or is the last
stands_before : (xs : List Reply) (x : Reply) (j : ℕ) (p : Position) → StandsAt (map position_of_reply (xs ++ x ∷ [])) j p
    → ((j < length xs) × StandsAt (map position_of_reply xs) j p) ⊎ ((j ≡ length xs) × (position_of_reply x ≡ p))
stands_before [] x zero p h = inr (refl, (let is : Some (position_of_reply x) ≡ Some p = h in cc))
stands_before [] x (suc j) p h = absurd (none-some p h)
stands_before (y ∷ ys) x zero p h = inl (omega arith, h)
stands_before (y ∷ ys) x (suc j) p h = elim (stands_before ys x j p h) [
  | inl (l, before) ↦ inl (omega (arith, l), before)
  | inr (e, last) ↦ inr (omega (arith, e), last)
]

-- what stays where a reply is written
put_nodes : (space : Space) (w next : Written) (reply : Reply) → (puts : Puts space w next reply) → GoesOn w.pool.nodes next.pool.nodes
put_nodes space w next reply puts =
    let named = puts.puts in
    let stays = Stays-all space reply.position reply.entries.items w named.between named.all in
    let nodes : puts.between.pool.nodes ≡ named.between.pool.nodes ++ named.puts.node ∷ [] = ap (λ p. p.nodes) named.puts.pool in
    let same : next.pool.nodes ≡ puts.between.pool.nodes = ap (λ (t : Written). t.pool.nodes) puts.same in
    (stays.nodes.0 ++ named.puts.node ∷ [], same ∙ nodes ∙ ap (λ xs. xs ++ named.puts.node ∷ []) stays.nodes.1 ∙ append_assoc w.pool.nodes stays.nodes.0 (named.puts.node ∷ []))

put_stands : (space : Space) (w next : Written) (reply : Reply) → (puts : Puts space w next reply)
    → StandsAt (map algorithm.position_of next.pool.nodes) puts.number reply.position
put_stands space w next reply puts =
    let named = puts.puts in
    let nodes : next.pool.nodes ≡ named.between.pool.nodes ++ named.puts.node ∷ [] = ap (λ (t : Written). t.pool.nodes) puts.same ∙ ap (λ p. p.nodes) named.puts.pool in
    StandsAt-last algorithm.position_of named.between.pool.nodes next.pool.nodes named.puts.node puts.number reply.position nodes named.puts.is_last named.puts.stands

numbered_more : (space : Space) (earlier : List Reply) (w next : Written) (reply : Reply) → (puts : Puts space w next reply) → AreNumbered earlier w
    → AreNumbered (earlier ++ reply ∷ []) next
numbered_more space earlier w next reply puts n = record {
  one_each = ap length puts.numbers ∙ length_push w.numbers.items puts.number ∙ ap (λ k. k + 1) n.one_each ∙ sym (length_push earlier reply);
  stand = λ j p h. subst (λ xs. StandsAt (map algorithm.position_of next.pool.nodes) (get_or xs j 0) p) (sym puts.numbers) (elim (stands_before earlier reply j p h) [
    | inl (l, before) ↦ subst (λ k. StandsAt (map algorithm.position_of next.pool.nodes) k p)
        (sym (get_or_append_left w.numbers.items (puts.number ∷ []) 0 j (omega (arith, l, n.one_each))))
        (StandsAt-goes algorithm.position_of w.pool.nodes next.pool.nodes (get_or w.numbers.items j 0) p (put_nodes space w next reply puts) (n.stand j p before))
    | inr (e, last) ↦
        let at : j ≡ length w.numbers.items + 0 = omega (arith, e, n.one_each) in
        let is : get_or (w.numbers.items ++ puts.number ∷ []) j 0 ≡ puts.number =
        ap (λ i. get_or (w.numbers.items ++ puts.number ∷ []) i 0) at ∙ get_or-append-add w.numbers.items (puts.number ∷ []) 0 0 in
        subst (λ k. StandsAt (map algorithm.position_of next.pool.nodes) k p) (sym is)
        (subst (StandsAt (map algorithm.position_of next.pool.nodes) puts.number) last (put_stands space w next reply puts))
  ]);
}

pub written_more : (space : Space) (replies : List Reply) (root : Position) (told budget k : ℕ) (w next : Written) (reply d : Reply)
    → IsWrittenUpTo space replies root told budget k w → k < length replies → reply ≡ get_or replies k d → Puts space w next reply
    → IsWrittenUpTo space replies root told budget (k + 1) next
written_more space replies root told budget k w next reply d up l e puts =
    let named = puts.puts in
    let all = named.all in
    let stays = Stays-all space reply.position reply.entries.items w named.between all in
    let left = leaves_all space reply.position reply.entries.items w named.between all budget (length replies - k) up.left up.under
    (up.placed reply (contains_element replies k reply d l e)) in
    let nodes : next.pool.nodes ≡ named.between.pool.nodes ++ named.puts.node ∷ [] = ap (λ (t : Written). t.pool.nodes) puts.same ∙ ap (λ p. p.nodes) named.puts.pool in
    let finishes : next.finishes ≡ named.between.finishes = ap (λ (t : Written). t.finishes) puts.same ∙ ap (λ (t : Written). t.finishes) named.same in
    let keeps : (p : Position) → IsPlaced up.left w p → IsPlaced left.left next p =
    λ p h. subst (λ fs. Contains left.left p ⊎ IsSome (number_of fs p)) (sym finishes) (left.keeps p h) in
    record {
      has = record {
        of_game = ap (λ (t : Written). t.pool.game) puts.same ∙ ap (λ p. p.game) named.puts.pool ∙ stays.of_game ∙ up.has.of_game;
        of_format = IsPlain-same space w.pool next.pool (ap (λ (t : Written). terms_in t.pool) puts.same ∙ ap (λ p. terms_in p) named.puts.pool ∙ stays.of_terms) up.has.of_format;
      };
      numbered = subst (λ xs. AreNumbered xs next) (ap (λ x. take k replies ++ x ∷ []) e ∙ sym (take_more replies k d l))
          (numbered_more space (take k replies) w next reply puts up.numbered);
      left = left.left;
      under = record {
        few = omega (arith, left.room.few, ap length nodes, length_push named.between.pool.nodes named.puts.node, l);
        named = λ p number told. StandsAt-goes algorithm.position_of named.between.pool.nodes next.pool.nodes number p (named.puts.node ∷ [], nodes)
            (left.room.named p number (subst (λ fs. number_of fs p ≡ Some number) finishes told));
      };
      placed = λ one c. All-weaker (IsEntryPlaced up.left w one.position) (IsEntryPlaced left.left next one.position)
          (λ entry h f. keeps (led_to one.position entry) (h f)) one.entries.items (up.placed one c);
      root_placed = λ f. keeps root (up.root_placed f);
    }

-- the strategy up to the root has no more nodes than the budget
pub written_root : (space : Space) (replies : List Reply) (root : Position) (told budget k number : ℕ) (w next : Written) → MayWrite space replies root told budget
    → IsWrittenUpTo space replies root told budget k w → Numbers w next root told number
    → StandsAt (map algorithm.position_of next.pool.nodes) number root × HasReplies space next × (length next.pool.nodes ≤ budget)
written_root space replies root told budget k number w next may up is =
    let stays = Stays-numbers w next root told number is in (
      numbers_stand w next root told number budget (length replies - k) up.left is up.under,
      record { of_game = stays.of_game ∙ up.has.of_game; of_format = IsPlain-same space w.pool next.pool stays.of_terms up.has.of_format },
      few_nodes is,
    )
  where
    few_nodes : Numbers w next root told number → length next.pool.nodes ≤ budget
    few_nodes (inl (e, h)) = subst (λ (t : Written). length t.pool.nodes ≤ budget) (sym e) (omega (arith, up.under.few))
    few_nodes (inr (e, names)) = let left = leaves_number w next root number budget (length replies - k) up.left names up.under (up.root_placed e) in
        omega (arith, left.room.few)

pub IsFor-written : (space : Space) (budget root : ℕ) (pool : algorithm_pools.Pool) (strategy : Strategy) → pool.game ≡ space.game → IsPlain space pool
    → length pool.nodes ≤ budget
    → strategy.format ≡ pool.format → strategy.game ≡ pool.game → strategy.nodes ≡ Algorithm (nodes_up_to root pool.nodes) → IsFor space.game budget strategy
IsFor-written space budget root pool strategy of_game plain few same_format same_game is = record {
  of_game = same_game ∙ of_game;
  of_format = same_format ∙ ap (λ (t : Terms). t.format) plain;
  few = omega (arith, few, ap (λ n. length (nodes_of n)) is, length-map (take (root + 1) pool.nodes) of_algorithm, length-take-short (root + 1) pool.nodes);
}

-- the numbers of the replies stay where nodes are put
pub numbers_stay : (space : Space) (w next : Written) (position : Position) (entries : List Entry) (number : ℕ) → PutsNamed space w next position entries number
    → next.numbers ≡ w.numbers
numbers_stay space w next position entries number puts =
    ap (λ (t : Written). t.numbers) puts.same ∙ (Stays-all space position entries w puts.between puts.all).numbers

-- the strategy of a pool is legal over its sizes
pub IsLegalOfAlgorithm-of_pool : (sizes : List ℕ) (strategy : Strategy) (pool : algorithm_pools.Pool) (nodes : List AlgNode) → pool.sizes ≡ sizes
    → strategy.format ≡ pool.format → strategy.game ≡ pool.game → strategy.nodes ≡ Algorithm nodes
    → IsLegal pool.format pool.game pool.sizes nodes → IsLegalOfAlgorithmOver sizes strategy
IsLegalOfAlgorithm-of_pool sizes strategy pool nodes of format game is legal =
    legal_nodes strategy.format strategy.game strategy.nodes is
    (subst (λ f. IsLegal f strategy.game sizes nodes) (sym format)
    (subst (λ g. IsLegal pool.format g sizes nodes) (sym game)
    (subst (λ xs. IsLegal pool.format pool.game xs nodes) of legal)))
  where
    legal_nodes : (f : Format) (g : GameNumbers) (all : Nodes) → all ≡ Algorithm nodes → IsLegal f g sizes nodes
        → IsLegalOfAlgorithmOver sizes (record { format = f; game = g; nodes = all })
    legal_nodes f g all e h = subst (λ ns. IsLegalOfAlgorithmOver sizes (record { format = f; game = g; nodes = ns })) (sym e) h
