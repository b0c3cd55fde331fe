-- What nodes lead to, the numbers of the nodes whose packings are end packings, and new numbers.
use Rattle.std.proofs.Common.{leb, ◌≡◌, ℕ, zero, suc, ◌+◌, ◌<◌, ◌≤◌, Option, Some, None, List, [], ◌∷◌, ◌++◌, length, map, take, get_or, cond, ⊎_elim, refl, sym, ap, ◌∙◌, subst}
use Rattle.std.proofs.Common.{arith}
use Rattle.std.specs.Prelude.{All, IfSome, slice_get, slice_index}
use Rattle.std.specs.Option.{option_and_then, option_or}
use Rattle.std.specs.List.{concat, cons_option, filter_map, range_with_len}
use Rattle.std.proofs.lemmas.Bool.{cases_lt}
use Rattle.std.proofs.Math.ListN.{get_or-append}
use Rattle.std.proofs.Math.Seq.{get_or-append_seam}
use Rattle.std.proofs.lemmas.List.{length-append, length-map, length-take-le}
use Rattle.std.proofs.lemmas.List.Elements.{All-head, All-tail}
use Rattle.std.proofs.lemmas.Option.{none-some, same_Some, slice_get_within}
use Rattle.items.specs.Game.{GameNumbers}
use Rattle.items.specs.Multiset.{count, sizes_of}
use Rattle.loads.specs.Position.{position}
use Rattle.loads.specs.declared.position.Position.{Position}
use Rattle.strategy_text.specs.declared.node.AdvNode.{AdvNode}
use Rattle.strategy_text.specs.declared.node.Format.{Format}
use Rattle.strategy_text.specs.declared.node.Placement.{Placement}
use Rattle.strategy_text.specs.declared.node.Step.{Step}
use Rattle.strategy_text.specs.declared.node.Step.TheVariants.{Send, Burst}
use Rattle.strategy_text.specs.declared.node.Then.{Then}
use Rattle.strategy_text.specs.declared.node.Then.TheVariants.{Over, To}
use Rattle.adversary_graph.specs.Judging.{node_at}
use Rattle.adversary_graph.specs.Legal.{IsLegal}
use Rattle.adversary_graph.specs.Nodes.{packing_of, placements_of, position_of, sent_items}
use Rattle.adversary_graph.specs.Play.{child_of, end_packing, first_child}
use Rattle.adversary_graph.specs.Playing.{ShowsEndPacking}
use Rattle.adversary_graph.specs.Rules.{LeadsTo}
use Rattle.adversary_graph.proofs.EndLemmas.{few_of_each, packed_here, packed_later}
use Rattle.adversary_graph.proofs.WonLemmas.{met}
use Rattle.adversary_graph.proofs.RenamedLemmas.{renamed_alike}
use Rattle.strategy_transfer.specs.Weakened.{kept_at, kept_node, new_number, sending, stays, weakened_adversary, weakened_placement, weakened_step}
use Rattle.strategy_transfer.specs.Weakening.{AreLinked, IsNumbered, LeadsBelow, ShowEndPackings, packed_number}
use Rattle.strategy_transfer.proofs.LegalEnds.{legal_ends, legal_first}
use Rattle.strategy_transfer.proofs.WeakenLemmas.{filter_map_push}

-- ---- legal nodes are linked

child_before : (earlier : List Position) (next : Then) (at : Position) (count : ℕ) → length earlier ≤ count → LeadsTo earlier next at
    → IfSome (child_of next) (λ child. child < count)
child_before earlier Over at count few h = tt
child_before earlier (To child) at count few h = omega (arith, slice_get_within earlier child at h, few)

pub legal_linked : (format : Format) (game : GameNumbers) (nodes : List AdvNode) → IsLegal format game (sizes_of game) nodes → AreLinked nodes
legal_linked format game nodes legal = record {
  few = legal.high;
  back = λ number node e.
      let earlier = map position_of (take number nodes) in
      let few : length earlier ≤ number = omega (
        arith,
        length-map (take number nodes) position_of,
        length-take-le number nodes (omega (arith, slice_get_within nodes number node e)),
      ) in
      let rules = met format game (sizes_of game) earlier _ node (legal.each number node e) in
      λ k d l. child_before earlier _ _ number few (rules.child k d l);
  first = legal_first format game nodes legal;
  ends = λ number node bins e is.
      let ends = legal_ends format game nodes legal number node e in
      let same : ends.0 ≡ bins = same_Some ends.0 bins (sym ends.1 ∙ is) in
      subst (λ (b : List (List ℕ)). (x : ℕ) → count x (concat b) ≤ 960) same
      (few_of_each game (node.items ++ sent_items node.step) ends.0 legal.of_game ends.2);
}

-- ---- lists

-- what holds of each number by its place holds with one more at the end
pushed : (P : ℕ → ℕ → Type 0) (n x : ℕ) (xs : List ℕ) → length xs ≡ n → ((k : ℕ) → k < n → P k (get_or xs k 0)) → P n x
    → (k : ℕ) → k < n + 1 → P k (get_or (xs ++ x ∷ []) k 0)
pushed P n x xs long each last k l = ⊎_elim
    (λ below. subst (P k) (sym (get_or-append xs (x ∷ []) 0 k (omega (arith, below, long)))) (each k below))
    (λ above.
    let is : n ≡ k = omega (arith, above, l) in
    let at : get_or (xs ++ x ∷ []) n 0 ≡ x = ap (λ m. get_or (xs ++ x ∷ []) m 0) (sym long) ∙ get_or-append_seam xs x [] 0 in
    subst (λ m. P m (get_or (xs ++ x ∷ []) m 0)) is (subst (P n) (sym at) last))
    (cases_lt k n)

-- ---- end packings

module _ (nodes : List AdvNode) (linked : AreLinked nodes) where
  abbrev own : ℕ → AdvNode → Option (List (List ℕ))
  own b node = option_or (packing_of node.step) (option_and_then (end_packing nodes b) (first_child (placements_of node.step)))

  own_alike : (n m number : ℕ) (node : AdvNode) (pack : Option (List (List ℕ))) → slice_get nodes number ≡ Some node → packing_of node.step ≡ pack
      → ((child : ℕ) → child < number → end_packing nodes n child ≡ end_packing nodes m child) → own n node ≡ own m node
  own_alike n m number node (Some bins) e shown again =
      ap (λ p. option_or p (option_and_then (end_packing nodes n) (first_child (placements_of node.step)))) shown
      ∙ sym (ap (λ p. option_or p (option_and_then (end_packing nodes m) (first_child (placements_of node.step)))) shown)
  own_alike n m number node None e none again =
      let first = linked.first number node e none in
      ap (λ p. option_or p (option_and_then (end_packing nodes n) (first_child (placements_of node.step)))) none
      ∙ ap (option_and_then (end_packing nodes n)) first.1
      ∙ again first.0 first.2
      ∙ sym (ap (option_and_then (end_packing nodes m)) first.1)
      ∙ sym (ap (λ p. option_or p (option_and_then (end_packing nodes m) (first_child (placements_of node.step)))) none)

  ends_alike : (n m number : ℕ) (o : Option AdvNode) → slice_get nodes number ≡ o → ((child : ℕ) → child < number → end_packing nodes n child ≡ end_packing nodes m child)
      → option_and_then (own n) (slice_get nodes number) ≡ option_and_then (own m) (slice_get nodes number)
  ends_alike n m number None e again = ap (option_and_then (own n)) e ∙ sym (ap (option_and_then (own m)) e)
  ends_alike n m number (Some node) e again =
      ap (option_and_then (own n)) e ∙ own_alike n m number node (packing_of node.step) e refl again ∙ sym (ap (option_and_then (own m)) e)

  -- how many nodes may be passed does not matter once it is above the number
  end_bound : (n m number : ℕ) → number < n → number < m → end_packing nodes n number ≡ end_packing nodes m number
  unfolding end_packing
  end_bound zero m number l k = absurd (omega (arith, l))
  end_bound (suc n) zero number l k = absurd (omega (arith, k))
  end_bound (suc n) (suc m) number l k =
      ends_alike n m number (slice_get nodes number) refl (λ child below. end_bound n m child (omega (arith, below, l)) (omega (arith, below, k)))

  shows_next : (number at : ℕ) (packed : List ℕ) (node : AdvNode) (pack : Option (List (List ℕ))) (child : Option ℕ) → slice_get nodes number ≡ Some node
      → packing_of node.step ≡ pack → first_child (placements_of node.step) ≡ child → ShowEndPackings nodes number packed → at ≡ packed_number packed number pack child
      → ShowsEndPacking nodes number at
  shows_next number at packed node (Some bins) child e shown first before is =
      subst (ShowsEndPacking nodes number) (sym is) (node, e, bins, shown, packed_here nodes (number + 1) number node bins (omega arith) e shown)
  shows_next number at packed node None None e none first before is =
      let has = linked.first number node e none in
      absurd (none-some has.0 (sym first ∙ has.1))
  shows_next number at packed node None (Some child) e none first before is =
      let has = linked.first number node e none in
      let same : has.0 ≡ child = same_Some has.0 child (sym has.1 ∙ first) in
      let below : child < number = omega (arith, has.2, same) in
      let shows = before.each child below in
      let later = packed_later nodes (number + 1) number child node (omega arith) e none first below in
      subst (ShowsEndPacking nodes number) (sym is)
      (shows.0, shows.1, shows.2, shows.3, later.2 ∙ end_bound later.0 (child + 1) child later.1 (omega arith) ∙ shows.4)

  pub shown_more : (number at : ℕ) (packed after : List ℕ) (node : AdvNode) → slice_get nodes number ≡ Some node → ShowEndPackings nodes number packed
      → at ≡ packed_number packed number (packing_of node.step) (first_child (placements_of node.step)) → after ≡ packed ++ at ∷ []
      → ShowEndPackings nodes (number + 1) after
  shown_more number at packed after node e before is put =
      subst (ShowEndPackings nodes (number + 1)) (sym put) (record {
        one_each = length-append packed (at ∷ []) ∙ ap (λ n. n + 1) before.one_each;
        each = pushed (ShowsEndPacking nodes) number at packed before.one_each before.each
            (shows_next number at packed node (packing_of node.step) (first_child (placements_of node.step)) e refl refl before is);
      })

-- ---- new numbers

pub numbered_more : (target : ℕ) (nodes : List AdvNode) (number : ℕ) (numbers after : List ℕ) → IsNumbered target nodes number numbers
    → after ≡ numbers ++ new_number target nodes number ∷ [] → IsNumbered target nodes (number + 1) after
numbered_more target nodes number numbers after before put =
    subst (IsNumbered target nodes (number + 1)) (sym put) (record {
      one_each = length-append numbers (new_number target nodes number ∷ []) ∙ ap (λ n. n + 1) before.one_each;
      each = pushed (λ k x. x ≡ new_number target nodes k) number (new_number target nodes number) numbers before.one_each before.each refl;
    })

abbrev AreNamedAlike : (ℕ → ℕ) → (ℕ → ℕ) → List Placement → Type 0
AreNamedAlike name another placements = All (λ placement. IfSome (child_of placement.next) (λ child. name child ≡ another child)) placements

placements_alike : (target : ℕ) (name another : ℕ → ℕ) (size : ℕ) (placements : List Placement) → AreNamedAlike name another placements
    → map (weakened_placement target name size) placements ≡ map (weakened_placement target another size) placements
placements_alike target name another size [] all = refl
placements_alike target name another size (placement ∷ placements) all =
    let P : (Placement → Type 0) = λ p. IfSome (child_of p.next) (λ child. name child ≡ another child) in
    let here = renamed_alike name another placement.next (All-head P placement placements all) in
    let first : weakened_placement target name size placement ≡ weakened_placement target another size placement =
    ap (λ next. record { load = placement.load; next = cond (leb target (placement.load + size)) Over next }) here in
    ap (λ p. p ∷ map (weakened_placement target name size) placements) first
    ∙ ap (λ ps. weakened_placement target another size placement ∷ ps) (placements_alike target name another size placements (All-tail P placement placements all))

step_alike : (game : GameNumbers) (target : ℕ) (name another : ℕ → ℕ) (end : Option (List (List ℕ))) (items : List ℕ) (step : Step)
    → AreNamedAlike name another (placements_of step) → weakened_step game target name end items step ≡ weakened_step game target another end items step
step_alike game target name another end items (Send size pack placements) all =
    ap (sending game end items size pack) (placements_alike target name another size placements all)
step_alike game target name another end items (Burst number size pack) all = refl

kept_alike : (game : GameNumbers) (target : ℕ) (name another : ℕ → ℕ) (end : Option (List (List ℕ))) (node : AdvNode) → AreNamedAlike name another (placements_of node.step)
    → kept_node game target name end node ≡ kept_node game target another end node
kept_alike game target name another end node all =
    ap (λ step. cond (stays target node) (Some (node_at (position node.loads node.items) step)) None) (step_alike game target name another end node.items node.step all)

number_alike : (target : ℕ) (nodes : List AdvNode) (numbers : List ℕ) (count : ℕ) (next : Then) → IsNumbered target nodes (length nodes) numbers → count ≤ length nodes
    → IfSome (child_of next) (λ child. child < count) → IfSome (child_of next) (λ child. slice_index numbers child ≡ new_number target nodes child)
number_alike target nodes numbers count Over numbered l h = tt
number_alike target nodes numbers count (To child) numbered l h = numbered.each child (omega (arith, h, l))

-- what is made of a node is what the definition says of its number
pub kept_is : (game : GameNumbers) (target : ℕ) (nodes : List AdvNode) (number : ℕ) (node : AdvNode) (numbers : List ℕ) (bins : List (List ℕ)) (kept : Option AdvNode)
    → AreLinked nodes → slice_get nodes number ≡ Some node → IsNumbered target nodes (length nodes) numbers → end_packing nodes (number + 1) number ≡ Some bins
    → kept ≡ kept_node game target (slice_index numbers) (Some bins) node → kept ≡ kept_at game target nodes number
kept_is game target nodes number node numbers bins kept linked e numbered ends is =
    let within = slice_get_within nodes number node e in
    let name = new_number target nodes in
    let alike : AreNamedAlike (slice_index numbers) name (placements_of node.step) =
    λ k d l. number_alike target nodes numbers number (get_or (placements_of node.step) k d).next numbered (omega (arith, within)) (linked.back number node e k d l) in
    is
    ∙ kept_alike game target (slice_index numbers) name (Some bins) node alike
    ∙ ap (λ end. kept_node game target name end node) (sym ends)
    ∙ sym (ap (option_and_then (kept_node game target name (end_packing nodes (number + 1) number))) e)

pub made_more : (game : GameNumbers) (target : ℕ) (nodes : List AdvNode) (number : ℕ) (made after : List AdvNode) (kept : Option AdvNode)
    → made ≡ filter_map (kept_at game target nodes) (range_with_len 0 number) → kept ≡ kept_at game target nodes number → after ≡ made ++ cons_option kept []
    → after ≡ filter_map (kept_at game target nodes) (range_with_len 0 (number + 1))
made_more game target nodes number made after kept so_far is put =
    put ∙ ap (λ xs. xs ++ cons_option kept []) so_far
    ∙ ap (λ o. filter_map (kept_at game target nodes) (range_with_len 0 number) ++ cons_option o []) is
    ∙ sym (filter_map_push (kept_at game target nodes) number)

-- the children of a node are numbered
pub below_numbers : (target : ℕ) (nodes : List AdvNode) (number : ℕ) (node : AdvNode) (numbers : List ℕ) → AreLinked nodes → slice_get nodes number ≡ Some node
    → IsNumbered target nodes (length nodes) numbers → LeadsBelow (length numbers) (placements_of node.step)
below_numbers target nodes number node numbers linked e numbered k d l =
    further (get_or (placements_of node.step) k d).next number (length numbers)
    (omega (arith, slice_get_within nodes number node e, numbered.one_each)) (linked.back number node e k d l)
  where
    further : (next : Then) (count more : ℕ) → count ≤ more → IfSome (child_of next) (λ child. child < count) → IfSome (child_of next) (λ child. child < more)
    further Over count more l h = tt
    further (To child) count more l h = omega (arith, h, l)

pub made_whole : (game : GameNumbers) (target : ℕ) (nodes : List AdvNode) (number : ℕ) (made : List AdvNode) → number ≡ length nodes
    → made ≡ filter_map (kept_at game target nodes) (range_with_len 0 number) → made ≡ weakened_adversary game target nodes
unfolding weakened_adversary
made_whole game target nodes number made is so_far = so_far ∙ ap (λ n. filter_map (kept_at game target nodes) (range_with_len 0 n)) is
