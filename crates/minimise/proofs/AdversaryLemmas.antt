-- Nodes of the adversary as nodes of a side: references to earlier nodes, and the rules after a renaming.
use Rattle.std.proofs.Common.{◌≡◌, ◌↔◌, ℕ, ◌<◌, Bool, IsTrue, Option, List, [], ◌∷◌, length, map, get_or, refl, ap, ◌∙◌}
use Rattle.std.specs.Prelude.{All, Contains, IfSome}
use Rattle.std.specs.List.{cons_option, filter_map}
use Rattle.std.proofs.lemmas.List.Elements.{All-map, All-nil, All-weaker}
use Rattle.std.proofs.lemmas.Option.{slice_get_within}
use Rattle.std.proofs.lemmas.Simd.{map-map}
use Rattle.items.specs.Game.{GameNumbers}
use Rattle.loads.specs.After.{after}
use Rattle.loads.specs.Position.{IsEmptyPosition, StandsAt, position}
use Rattle.loads.specs.declared.position.Position.{Position}
use Rattle.strategy_text.specs.declared.node.AdvNode.{AdvNode}
use Rattle.strategy_text.specs.declared.node.Format.{Format}
use Rattle.strategy_text.specs.declared.node.Placement.{Placement}
use Rattle.strategy_text.specs.declared.node.Format.TheVariants.{One, Two}
use Rattle.strategy_text.specs.declared.node.Step.{Step}
use Rattle.strategy_text.specs.declared.node.Step.TheVariants.{Send, Burst}
use Rattle.strategy_text.specs.declared.node.Then.{Then}
use Rattle.strategy_text.specs.declared.node.Then.TheVariants.{Over, To}
use Rattle.node_pool.specs.Terms.{Terms}
use Rattle.adversary_graph.specs.Judging.{node_at}
use Rattle.adversary_graph.specs.Legal.{IsNodeOfFormat, MeetsRulesUnder}
use Rattle.adversary_graph.specs.NodesAreJudged.{root_is_asked_last, rules_give_a_position}
use Rattle.adversary_graph.specs.Nodes.{IsOfFormat, placements_of, position_of}
use Rattle.adversary_graph.specs.Play.{child_of}
use Rattle.adversary_graph.specs.Rules.{IsOver, IsOverAtTarget, IsPackingAsked, IsPacked, LeadsTo, MeetsRules}
use Rattle.adversary_graph.proofs.WonLemmas.{met}
use Rattle.minimise.specs.References.{adversary_references, renamed_adversary, renamed_placement, renamed_step}
use Rattle.adversary_graph.specs.Renamed.{renamed_then}
use Rattle.adversary_graph.proofs.RenamedLemmas.{renamed_alike}
use Rattle.minimise.proofs.FormLemmas.{map_alike}
use Rattle.minimise.proofs.SideLemmas.{IsSide}
use Rattle.minimise.proofs.NodeLemmas.{All-filter_map, Contains-filter_map, filter_map_at, map_at}

child_before : (earlier : List Position) (next : Then) (position : Position) → LeadsTo earlier next position → IfSome (child_of next) (λ child. child < length earlier)
child_before earlier Over position h = tt
child_before earlier (To child) position h = slice_get_within earlier child position h

references_before : (terms : Terms) (earlier : List Position) (last : Bool) (node : AdvNode) → MeetsRulesUnder terms earlier last node
    → All (λ child. child < length earlier) (adversary_references node)
references_before terms earlier last node m =
    let rules = met terms.format terms.game terms.sizes earlier last node m in
    All-filter_map (λ child. child < length earlier) (λ (placement : Placement). child_of placement.next) (placements_of node.step)
    (λ k d l. child_before earlier _ _ (rules.child k d l))

-- ---- a renaming

renamed_child : (name : ℕ → ℕ) (next : Then) (some : List ℕ)
    → cons_option (child_of (renamed_then name next)) (map name some) ≡ map name (cons_option (child_of next) some)
renamed_child name Over some = refl
renamed_child name (To child) some = refl

renamed_children : (name : ℕ → ℕ) (placements : List Placement)
    → filter_map (λ (placement : Placement). child_of placement.next) (map (renamed_placement name) placements)
    ≡ map name (filter_map (λ (placement : Placement). child_of placement.next) placements)
renamed_children name [] = refl
renamed_children name (placement ∷ placements) =
    ap (cons_option (child_of (renamed_then name placement.next))) (renamed_children name placements)
    ∙ renamed_child name placement.next (filter_map (λ (p : Placement). child_of p.next) placements)

renamed_references : (name : ℕ → ℕ) (step : Step)
    → filter_map (λ (placement : Placement). child_of placement.next) (placements_of (renamed_step name step))
    ≡ map name (filter_map (λ (placement : Placement). child_of placement.next) (placements_of step))
renamed_references name (Send size pack placements) = renamed_children name placements
renamed_references name (Burst count size pack) = refl

adversary_renames : (name : ℕ → ℕ) (node : AdvNode) → adversary_references (renamed_adversary name node) ≡ map name (adversary_references node)
adversary_renames name node = renamed_references name node.step

over_renamed : (name : ℕ → ℕ) (next : Then) → IsOver next ↔ IsOver (renamed_then name next)
over_renamed name Over = (λ h. h, λ h. h)
over_renamed name (To child) = (λ h. h, λ h. h)

asked_renamed : (name : ℕ → ℕ) (format : Format) (size : ℕ) (pack : Option (List (List ℕ))) (placements : List Placement)
    → IsPackingAsked format (Send size pack placements) ↔ IsPackingAsked format (Send size pack (map (renamed_placement name) placements))
asked_renamed name One size pack placements = (λ h. h, λ h. h)
asked_renamed name Two size pack placements = (
  λ all. All-map (λ (p : Placement). IsOver p.next) (renamed_placement name) placements
      (All-weaker (λ (p : Placement). IsOver p.next) (λ p. IsOver (renamed_then name p.next)) (λ p h. (over_renamed name p.next).0 h) placements all),
  λ all k d l. (over_renamed name (get_or placements k d).next).1 (map_at (λ (p : Placement). IsOver p.next) (renamed_placement name) placements k d l all),
)

leads_renamed : (name : ℕ → ℕ) (earlier later : List Position) (next : Then) (position : Position)
    → ((child : ℕ) → next ≡ To child → StandsAt earlier child position → StandsAt later (name child) position)
    → LeadsTo earlier next position → LeadsTo later (renamed_then name next) position
leads_renamed name earlier later Over position leads h = tt
leads_renamed name earlier later (To child) position leads h = leads child refl h

-- where each reference leads on as before, a renamed node meets the rules as the node did
meets_renamed : (name : ℕ → ℕ) (format : Format) (game : GameNumbers) (sizes : List ℕ) (earlier later : List Position) (last final : Bool) (loads items : List ℕ)
    (step : Step) → MeetsRules format game sizes earlier last (node_at (position loads items) step)
    → ((child : ℕ) (p : Position) → Contains (adversary_references (node_at (position loads items) step)) child → StandsAt earlier child p → StandsAt later (name child) p)
    → (IsTrue final → IsEmptyPosition (position loads items))
    → MeetsRules format game sizes later final (node_at (position loads items) (renamed_step name step))
meets_renamed name format game sizes earlier later last final loads items (Send size pack placements) m leads root =
    let rules = met format game sizes earlier last (node_at (position loads items) (Send size pack placements)) m in
    let asked = asked_renamed name format size pack placements in
    let packed : IsPacked game format (node_at (position loads items) (Send size pack (map (renamed_placement name) placements))) = record {
      shown = (λ h. asked.0 (rules.pack.shown.0 h), λ h. rules.pack.shown.1 (asked.1 h));
      holds = rules.pack.holds;
    } in
    let placed = map-map (λ (p : Placement). p.load) (renamed_placement name) placements ∙ rules.placements in
    let over = All-map (IsOverAtTarget game size) (renamed_placement name) placements (λ k d l.
    let same = over_renamed name (get_or placements k d).next in
    let h = rules.over k d l in
    (λ o. h.0 (same.1 o), λ t. same.0 (h.1 t))) in
    let child = All-map (λ (p : Placement). LeadsTo later p.next (after (position loads items) p.load size)) (renamed_placement name) placements (λ k d l.
    let p = get_or placements k d in
    leads_renamed name earlier later p.next (after (position loads items) p.load size)
    (λ number e. leads number (after (position loads items) p.load size)
    (Contains-filter_map (λ (q : Placement). child_of q.next) placements k d number l (ap child_of e)))
    (rules.child k d l)) in
    (m.0, (m.1.0, (m.1.1.0, (m.1.1.1.0, (packed, (placed, (over, (child, (root, tt)))))))))
meets_renamed name format game sizes earlier later last final loads items (Burst count size pack) m leads root =
    (m.0, (m.1.0, (m.1.1.0, (m.1.1.1.0, (m.1.1.1.1.0, (m.1.1.1.1.1.0, (m.1.1.1.1.1.1.0, (All-nil _, (root, tt)))))))))

of_format_renamed : (name : ℕ → ℕ) (format : Format) (step : Step) → IsOfFormat format step → IsOfFormat format (renamed_step name step)
of_format_renamed name One (Send size pack placements) h = h
of_format_renamed name One (Burst count size pack) h = h
of_format_renamed name Two step h = h

-- ---- one renaming after another, and two that are alike

twice_renamed : (name again : ℕ → ℕ) (next : Then) → renamed_then again (renamed_then name next) ≡ renamed_then (λ child. again (name child)) next
twice_renamed name again Over = refl
twice_renamed name again (To child) = refl

placements_twice : (name again : ℕ → ℕ) (placements : List Placement)
    → map (renamed_placement again) (map (renamed_placement name) placements) ≡ map (renamed_placement (λ child. again (name child))) placements
placements_twice name again [] = refl
placements_twice name again (placement ∷ placements) =
    ap (λ next. (record { load = placement.load; next = next }) ∷ map (renamed_placement again) (map (renamed_placement name) placements))
    (twice_renamed name again placement.next)
    ∙ ap (λ list. renamed_placement (λ child. again (name child)) placement ∷ list) (placements_twice name again placements)

step_twice : (name again : ℕ → ℕ) (step : Step) → renamed_step again (renamed_step name step) ≡ renamed_step (λ child. again (name child)) step
step_twice name again (Send size pack placements) = ap (Send size pack) (placements_twice name again placements)
step_twice name again (Burst count size pack) = refl

placements_alike : (name another : ℕ → ℕ) (placements : List Placement)
    → All (λ child. name child ≡ another child) (filter_map (λ (placement : Placement). child_of placement.next) placements)
    → map (renamed_placement name) placements ≡ map (renamed_placement another) placements
placements_alike name another placements all =
    map_alike (renamed_placement name) (renamed_placement another) placements (λ k d l.
    let placement = get_or placements k d in
    ap (λ next. record { load = placement.load; next = next }) (renamed_alike name another placement.next
    (filter_map_at (λ child. name child ≡ another child) (λ (p : Placement). child_of p.next) placements k d l all)))

step_alike : (name another : ℕ → ℕ) (step : Step)
    → All (λ child. name child ≡ another child) (filter_map (λ (placement : Placement). child_of placement.next) (placements_of step))
    → renamed_step name step ≡ renamed_step another step
step_alike name another (Send size pack placements) all = ap (Send size pack) (placements_alike name another placements all)
step_alike name another (Burst count size pack) all = refl

twice : (name again : ℕ → ℕ) (node : AdvNode) → renamed_adversary again (renamed_adversary name node) ≡ renamed_adversary (λ child. again (name child)) node
twice name again node = ap (node_at (position node.loads node.items)) (step_twice name again node.step)

alike : (name another : ℕ → ℕ) (node : AdvNode) → All (λ child. name child ≡ another child) (adversary_references node)
    → renamed_adversary name node ≡ renamed_adversary another node
alike name another node all = ap (node_at (position node.loads node.items)) (step_alike name another node.step all)

-- ---- the side

pub adversary_side : IsSide position_of adversary_references renamed_adversary IsNodeOfFormat MeetsRulesUnder
adversary_side = record {
  asked = root_is_asked_last;
  give = rules_give_a_position;
  before = references_before;
  keeps = λ name node. refl;
  renames = adversary_renames;
  twice = twice;
  alike = alike;
  meets = λ terms name earlier later last final node. meets_renamed name terms.format terms.game terms.sizes earlier later last final node.loads node.items node.step;
  formed = λ format name node. of_format_renamed name format node.step;
  some = node_at (position [] []) (Burst 0 0 []);
}
