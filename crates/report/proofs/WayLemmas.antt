-- The ways on from a node, by its placements or entries.
use Rattle.std.proofs.Common.{◌≡◌, ℕ, List, [], ◌∷◌, Option, map, arith, refl, ap, sym, subst, ◌∙◌}
use Rattle.std.specs.List.{All}
use Rattle.std.proofs.lemmas.List.{get_or-map, length-map}
use Rattle.strategy_text.specs.Text.{of_adversary, of_algorithm}
use Rattle.strategy_text.specs.declared.node.Act.{Act}
use Rattle.strategy_text.specs.declared.node.Act.TheVariants.{Reply}
use Rattle.strategy_text.specs.declared.node.AdvNode.{AdvNode}
use Rattle.strategy_text.specs.declared.node.AlgNode.{AlgNode}
use Rattle.strategy_text.specs.declared.node.Entry.{Entry}
use Rattle.strategy_text.specs.declared.node.Placement.{Placement}
use Rattle.strategy_text.specs.declared.node.Step.{Step}
use Rattle.strategy_text.specs.declared.node.Step.TheVariants.{Send}
use Rattle.report.specs.Measuring.{IsKnown, depth_by}
use Rattle.report.specs.Ways.{goes_to, way_of, ways_of, ways_of_step, ways_of_act, ways_of_replies}

pub All-unmap : {X Y : Type 0} (P : Y → Type 0) (f : X → Y) (xs : List X) → All P (map f xs) → All (λ x. P (f x)) xs
All-unmap P f xs all k d l = subst P (get_or-map f xs k d (f d) l) (all k (f d) (omega (arith, l, length-map xs f)))

pub known_placements : (depths : List ℕ) (node : AdvNode) (size : ℕ) (pack : Option (List (List ℕ))) (placements list : List Placement) → node.step ≡ Send size pack placements
    → list ≡ placements → All (IsKnown depths) (ways_of (of_adversary node)) → All (λ placement. IsKnown depths (way_of placement.next)) list
known_placements depths node size pack placements list e same all =
    subst (λ (ps : List Placement). All (λ placement. IsKnown depths (way_of placement.next)) ps) (sym same)
    (All-unmap (IsKnown depths) (λ (placement : Placement). way_of placement.next) placements
    (subst (λ (step : Step). All (IsKnown depths) (ways_of_step step)) e all))

known_replies : (depths : List ℕ) (entries : List Entry) → All (IsKnown depths) (ways_of_replies entries) → All (λ entry. IsKnown depths (goes_to entry.to)) entries
known_replies depths [] all = λ k d l. absurd (omega (arith, l))
known_replies depths (entry ∷ entries) all = All-unmap (IsKnown depths) (λ (reply : Entry). goes_to reply.to) (entry ∷ entries) all

pub known_entries : (depths : List ℕ) (node : AlgNode) (entries list : List Entry) → node.act ≡ Reply entries → list ≡ entries
    → All (IsKnown depths) (ways_of (of_algorithm node)) → All (λ entry. IsKnown depths (goes_to entry.to)) list
known_entries depths node entries list e same all =
    subst (λ (es : List Entry). All (λ entry. IsKnown depths (goes_to entry.to)) es) (sym same)
    (known_replies depths entries (subst (λ (act : Act). All (IsKnown depths) (ways_of_act act)) e all))

depth_by_replies : (depths : List ℕ) (entries : List Entry) → depth_by depths (map (λ entry. goes_to entry.to) entries) ≡ depth_by depths (ways_of_replies entries)
depth_by_replies depths [] = refl
depth_by_replies depths (entry ∷ entries) = refl

pub depth_by_entries : (depths : List ℕ) (node : AlgNode) (entries list : List Entry) → node.act ≡ Reply entries → list ≡ entries
    → depth_by depths (map (λ entry. goes_to entry.to) list) ≡ depth_by depths (ways_of (of_algorithm node))
depth_by_entries depths node entries list e same =
    ap (λ (es : List Entry). depth_by depths (map (λ entry. goes_to entry.to) es)) same
    ∙ depth_by_replies depths entries
    ∙ ap (λ (act : Act). depth_by depths (ways_of_act act)) (sym e)
