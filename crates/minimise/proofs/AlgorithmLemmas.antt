-- Nodes of the algorithm as nodes of a side: references to earlier nodes, and the rules after a renaming.
use Rattle.std.proofs.Common.{◌≡◌, ◌↔◌, ℕ, ◌++◌, ◌<◌, Bool, IsTrue, List, [], ◌∷◌, length, map, get_or, refl, sym, ap, ◌∙◌}
use Rattle.std.proofs.Common.{subst}
use Rattle.std.specs.Prelude.{All, Contains}
use Rattle.std.proofs.lemmas.List.Elements.{All-map, All-nil, Contains-get_or}
use Rattle.std.proofs.lemmas.Option.{slice_get_within}
use Rattle.std.proofs.lemmas.Simd.{map-map}
use Rattle.items.specs.Game.{GameNumbers}
use Rattle.items.specs.Packable.{Packable}
use Rattle.loads.specs.After.{after}
use Rattle.loads.specs.Position.{IsEmptyPosition, StandsAt, position}
use Rattle.loads.specs.declared.position.Position.{Position}
use Rattle.strategy_text.specs.declared.node.Act.{Act}
use Rattle.strategy_text.specs.declared.node.Act.TheVariants.{Finish, Big, Reply}
use Rattle.strategy_text.specs.declared.node.AlgNode.{AlgNode}
use Rattle.strategy_text.specs.declared.node.Format.TheVariants.{One, Two}
use Rattle.strategy_text.specs.declared.node.Entry.{Entry}
use Rattle.strategy_text.specs.declared.node.Format.{Format}
use Rattle.node_pool.specs.Terms.{Terms}
use Rattle.algorithm_graph.specs.Judging.{node_at}
use Rattle.algorithm_graph.specs.Legal.{IsNodeOfFormat, MeetsRulesUnder}
use Rattle.algorithm_graph.specs.NodesAreJudged.{root_is_asked_last, rules_give_a_position}
use Rattle.algorithm_graph.specs.Nodes.{IsOfFormat, entries_of, position_of}
use Rattle.algorithm_graph.specs.Rules.{IsStrictlyAscending, MeetsRules, NamesLoad, ReplyToEach}
use Rattle.minimise.specs.References.{algorithm_references, renamed_act, renamed_algorithm, renamed_entry}
use Rattle.minimise.proofs.FormLemmas.{map_alike}
use Rattle.minimise.proofs.SideLemmas.{IsSide}
use Rattle.minimise.proofs.NodeLemmas.{map_at}
use Rattle.minimise.proofs.FirstsLemmas.{Contains-map}

references_before : (terms : Terms) (earlier : List Position) (last : Bool) (node : AlgNode) → MeetsRulesUnder terms earlier last node
    → All (λ child. child < length earlier) (algorithm_references node)
references_before terms earlier last node m =
    All-map (λ child. child < length earlier) (λ (entry : Entry). entry.to) (entries_of node.act)
    (λ k d l. slice_get_within earlier (get_or (entries_of node.act) k d).to _ (m.1.1.1.1.1.1.0 k d l))

-- ---- a renaming

algorithm_renames : (name : ℕ → ℕ) (node : AlgNode) → algorithm_references (renamed_algorithm name node) ≡ map name (algorithm_references node)
algorithm_renames name node = by node.act
  where
    by : (act : Act) → map (λ (entry : Entry). entry.to) (entries_of (renamed_act name act)) ≡ map name (map (λ (entry : Entry). entry.to) (entries_of act))
    by Finish = refl
    by (Big b) = refl
    by (Reply entries) = map-map (λ (entry : Entry). entry.to) (renamed_entry name) entries ∙ sym (map-map name (λ (entry : Entry). entry.to) entries)

-- where each reference leads on as before, a renamed node meets the rules as the node did
meets_renamed : (name : ℕ → ℕ) (game : GameNumbers) (sizes : List ℕ) (earlier later : List Position) (last final : Bool) (loads items : List ℕ)
    (act : Act) → MeetsRules game sizes earlier last (node_at (position loads items) act)
    → ((child : ℕ) (p : Position) → Contains (algorithm_references (node_at (position loads items) act)) child → StandsAt earlier child p → StandsAt later (name child) p)
    → (IsTrue final → IsEmptyPosition (position loads items))
    → MeetsRules game sizes later final (node_at (position loads items) (renamed_act name act))
meets_renamed name game sizes earlier later last final loads items Finish m leads root =
    (m.0, (m.1.0, (m.1.1.0, (m.1.1.1.0, (m.1.1.1.1.0, (m.1.1.1.1.1.0, (All-nil _, (root, tt))))))))
meets_renamed name game sizes earlier later last final loads items (Big b) m leads root =
    (m.0, (m.1.0, (m.1.1.0, (m.1.1.1.0, (m.1.1.1.1.0, (m.1.1.1.1.1.0, (All-nil _, (root, tt))))))))
meets_renamed name game sizes earlier later last final loads items (Reply entries) m leads root =
    let same = map-map (λ (entry : Entry). entry.size) (renamed_entry name) entries in
    let replies : ReplyToEach game sizes items (map (renamed_entry name) entries) = record {
      ascending = subst IsStrictlyAscending (sym same) (m.1.1.1.1.0.ascending);
      exact = λ size. subst (λ list. Contains list size ↔ (Contains sizes size × Packable game (items ++ size ∷ []))) (sym same) (m.1.1.1.1.0.exact size);
    } in
    let reply = All-map (NamesLoad game loads) (renamed_entry name) entries (λ k d l.
    let h = m.1.1.1.1.1.0 k d l in
    record { load = h.load; below = h.below }) in
    let child = All-map (λ (entry : Entry). StandsAt later entry.to (after (position loads items) entry.load entry.size)) (renamed_entry name) entries (λ k d l.
    let entry = get_or entries k d in
    leads entry.to (after (position loads items) entry.load entry.size) (Contains-map (λ (e : Entry). e.to) entries entry (Contains-get_or entries k d l))
    (m.1.1.1.1.1.1.0 k d l)) in
    (m.0, (m.1.0, (m.1.1.0, (m.1.1.1.0, (replies, (reply, (child, (root, tt))))))))

of_format_renamed : (name : ℕ → ℕ) (format : Format) (act : Act) → IsOfFormat format act → IsOfFormat format (renamed_act name act)
of_format_renamed name One Finish h = h
of_format_renamed name One (Big b) h = h
of_format_renamed name One (Reply entries) h = h
of_format_renamed name Two act h = h

-- ---- one renaming after another, and two that are alike

act_twice : (name again : ℕ → ℕ) (act : Act) → renamed_act again (renamed_act name act) ≡ renamed_act (λ child. again (name child)) act
act_twice name again Finish = refl
act_twice name again (Big b) = refl
act_twice name again (Reply entries) = ap Reply (map-map (renamed_entry again) (renamed_entry name) entries)

act_alike : (name another : ℕ → ℕ) (act : Act) → All (λ child. name child ≡ another child) (map (λ (entry : Entry). entry.to) (entries_of act))
    → renamed_act name act ≡ renamed_act another act
act_alike name another Finish all = refl
act_alike name another (Big b) all = refl
act_alike name another (Reply entries) all = ap Reply (map_alike (renamed_entry name) (renamed_entry another) entries (λ k d l.
    let entry = get_or entries k d in
    ap (λ to. record { size = entry.size; load = entry.load; to = to }) (map_at (λ child. name child ≡ another child) (λ (e : Entry). e.to) entries k d l all)))

twice : (name again : ℕ → ℕ) (node : AlgNode) → renamed_algorithm again (renamed_algorithm name node) ≡ renamed_algorithm (λ child. again (name child)) node
twice name again node = ap (node_at (position node.loads node.items)) (act_twice name again node.act)

alike : (name another : ℕ → ℕ) (node : AlgNode) → All (λ child. name child ≡ another child) (algorithm_references node)
    → renamed_algorithm name node ≡ renamed_algorithm another node
alike name another node all = ap (node_at (position node.loads node.items)) (act_alike name another node.act all)

-- ---- the side

pub algorithm_side : IsSide position_of algorithm_references renamed_algorithm IsNodeOfFormat MeetsRulesUnder
algorithm_side = record {
  asked = root_is_asked_last;
  give = rules_give_a_position;
  before = references_before;
  keeps = λ name node. refl;
  renames = algorithm_renames;
  twice = twice;
  alike = alike;
  meets = λ terms name earlier later last final node. meets_renamed name terms.game terms.sizes earlier later last final node.loads node.items node.act;
  formed = λ format name node. of_format_renamed name format node.act;
  some = node_at (position [] []) Finish;
}
