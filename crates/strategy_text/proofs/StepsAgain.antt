-- The words of what the adversary sends are read as it.
use Rattle.std.proofs.Common.{◌≡◌, ◌≢◌, ℕ, ◌≤◌, List, [], ◌∷◌, ◌++◌, length, decimal, codes, Some, None, refl, sym, ap, ◌∙◌, arith, append_assoc, All}
use Rattle.std.specs.List.{flat_map, AllByRecursion}
use Rattle.std.proofs.lemmas.List.{append-nil}
use Rattle.std.proofs.lemmas.List.Elements.{recursion_from_All}
use Rattle.strategy_text.specs.declared.node.AdvNode.{AdvNode}
use Rattle.strategy_text.specs.declared.node.Format.{Format}
use Rattle.strategy_text.specs.declared.node.Placement.{Placement}
use Rattle.strategy_text.specs.declared.node.Step.{Step}
use Rattle.strategy_text.specs.declared.node.Step.TheVariants.{Send, Burst}
use Rattle.strategy_text.specs.declared.node.Then.TheVariants.{Over, To}
use Rattle.strategy_text.specs.Text.{list_words, pack_words, packing_words, then_words, placement_words, step_words, position_words}
use Rattle.strategy_text.specs.Spelling.{IsNumber, IsThen, IsPlacement, IsPack, IsOptionalPack, IsStep, IsSpellableAdversary}
use Rattle.strategy_text.specs.Words.{number_of, after}
use Rattle.strategy_text.specs.Reading.{list_at, pack_at, optional_pack_at, then_at, placement_at, placements_at, send_at, burst_at, step_at, adversary_at}
use Rattle.strategy_text.proofs.Steps.{after_again, number_at_again, some_again}
use Rattle.strategy_text.proofs.StepsTaken.{pack_bins, on_words}
use Rattle.strategy_text.proofs.Again.{Ends, ReadsAgain, list_again, many_again, many_fit, position_again}

-- ---- packings

slash_ends : (bin : List ℕ) (ws : List (List ℕ)) → Ends (codes "/" ∷ (list_words bin ++ ws))
unfolding number_of
slash_ends bin ws = refl

slash_again : (bin : List ℕ) (rest : List (List ℕ)) → after (codes "/") (codes "/" ∷ (list_words bin ++ rest)) ≡ Some (list_words bin ++ rest)
slash_again bin rest = after_again (codes "/") (list_words bin ++ rest)

one_slash : (bin : List ℕ) → 1 ≤ length (codes "/" ∷ list_words bin)
one_slash bin = omega arith

-- words that end a packing
pub record EndsPack (words : List (List ℕ)) : Type 0 where
  pub ends : Ends words
  pub slash : after (codes "/") words ≡ None
  pub none : after (codes "pack") words ≡ None

each_recursion : (bins : List (List ℕ)) → AllByRecursion (All IsNumber) bins → AllByRecursion (AllByRecursion IsNumber) bins
each_recursion [] h = tt
each_recursion (bin ∷ bins) h = (recursion_from_All IsNumber bin h.0, each_recursion bins h.1)

pub pack_lists : (pack : List (List ℕ)) → IsPack pack → AllByRecursion (AllByRecursion IsNumber) pack
pack_lists pack h = each_recursion pack (recursion_from_All (All IsNumber) pack h.each)

slashes_end : (bins rest : List (List ℕ)) → Ends rest → Ends (flat_map (λ b. codes "/" ∷ list_words b) bins ++ rest)
unfolding number_of
slashes_end [] rest h = h
slashes_end (bin ∷ bins) rest h = refl

bins_again : (bin : List ℕ) (bins rest : List (List ℕ)) → AllByRecursion (AllByRecursion IsNumber) (bin ∷ bins) → EndsPack rest
    → pack_at (pack_words (bin ∷ bins) ++ rest) ≡ Some (bin ∷ bins, rest)
unfolding pack_at
bins_again bin bins rest fits end =
    let others = flat_map (λ b. codes "/" ∷ list_words b) bins in
    let regrouped : pack_words (bin ∷ bins) ++ rest ≡ list_words bin ++ (others ++ rest) = ap (λ (t : List (List ℕ)). t ++ rest) (pack_bins bin bins) ∙ append_assoc
    (list_words bin) others rest in
    let follow : Ends (others ++ rest) = slashes_end bins rest end.ends in
    ap pack_at regrouped ∙ rw (
      list_again bin (others ++ rest) fits.0 follow,
      many_again (codes "/" ∷ []) (after (codes "/")) list_at list_words (AllByRecursion IsNumber) Ends
          slash_again list_again slash_ends bins rest (length (others ++ rest)) fits.1 end.ends end.slash (many_fit (λ b. codes "/" ∷ list_words b) bins rest one_slash),
    ) refl

pack_again : ReadsAgain pack_words IsPack EndsPack pack_at
pack_again [] rest fits end = absurd (fits.some refl)
pack_again (bin ∷ bins) rest fits end = bins_again bin bins rest (pack_lists (bin ∷ bins) fits) end

optional_pack_again : (format : Format) → ReadsAgain packing_words (IsOptionalPack format) EndsPack (optional_pack_at format)
unfolding optional_pack_at
optional_pack_again format None rest fits end = rw (end.none, fits) refl
optional_pack_again format (Some pack) rest fits end = rw (after_again (codes "pack") (pack_words pack ++ rest), pack_again pack rest fits end) refl

-- ---- placements

to_not_over : (ws : List (List ℕ)) → after (codes "over") (codes "to" ∷ ws) ≡ None
unfolding after
to_not_over ws = refl

abbrev Anything : List (List ℕ) → Type 0
Anything ws = Unit {0}

then_again : ReadsAgain then_words IsThen Anything then_at
unfolding then_at
then_again Over rest fits follows = rw (after_again (codes "over") rest) refl
then_again (To child) rest fits follows =
    rw (to_not_over (decimal child ∷ rest), after_again (codes "to") (decimal child ∷ rest), number_at_again 4294967295 child rest (omega arith) fits) refl

placement_again : ReadsAgain on_words IsPlacement Anything placement_at
unfolding placement_at
placement_again placement rest fits follows =
    rw (number_at_again 65535 placement.load (then_words placement.next ++ rest) (omega arith) fits.load, then_again placement.next rest fits.next tt) refl

on_none : after (codes "on") [] ≡ None
unfolding after
on_none = refl

on_again : (p : Placement) (rest : List (List ℕ)) → after (codes "on") (codes "on" ∷ (on_words p ++ rest)) ≡ Some (on_words p ++ rest)
on_again p rest = after_again (codes "on") (on_words p ++ rest)

one_on : (p : Placement) → 1 ≤ length (placement_words p)
one_on p = omega arith

placements_again : (placements : List Placement) → placements ≢ [] → All IsPlacement placements → placements_at (flat_map placement_words placements ++ []) ≡ Some (placements, [])
unfolding placements_at
placements_again placements some fits =
    rw (many_again (codes "on" ∷ []) (after (codes "on")) placement_at on_words IsPlacement Anything on_again placement_again (λ p ws. tt) placements []
    (length (flat_map placement_words placements ++ [])) (recursion_from_All IsPlacement placements fits) tt on_none (many_fit placement_words placements [] one_on)) (some_again
    placements [] some)

on_ends : (ws : List (List ℕ)) → EndsPack (codes "on" ∷ ws)
unfolding number_of after
on_ends ws = record { ends = refl; slash = refl; none = refl }

nothing_ends : EndsPack []
unfolding after
nothing_ends = record { ends = tt; slash = refl; none = refl }

placements_end : (placements : List Placement) → placements ≢ [] → EndsPack (flat_map placement_words placements ++ [])
placements_end [] some = absurd (some refl)
placements_end (p ∷ ps) some = on_ends ((decimal p.load ∷ then_words p.next ++ flat_map placement_words ps) ++ [])

-- ---- what is sent

burst_not_send : (ws : List (List ℕ)) → after (codes "send") (codes "burst" ∷ ws) ≡ None
unfolding after
burst_not_send ws = refl

step_again : (format : Format) (step : Step) → IsStep format step → step_at format (step_words step ++ []) ≡ Some (step, [])
unfolding step_at send_at burst_at
step_again format (Send size pack placements) fits =
    let on = flat_map placement_words placements ++ [] in
    let parts : step_words (Send size pack placements) ++ [] ≡ codes "send" ∷ decimal size ∷ (packing_words pack ++ on) = ap
    (λ (t : List (List ℕ)). codes "send" ∷ decimal size ∷ t) (append_assoc (packing_words pack) (flat_map placement_words placements) []) in
    ap (step_at format) parts ∙ rw (
      after_again (codes "send") (decimal size ∷ (packing_words pack ++ on)),
      number_at_again 65535 size (packing_words pack ++ on) (omega arith)
          fits.sent,
      optional_pack_again format pack on fits.packed (placements_end placements fits.some),
      placements_again placements fits.some fits.each,
    ) refl
step_again format (Burst count size pack) fits =
    let bins = pack_words pack ++ [] in
    rw (
      burst_not_send (decimal count ∷ decimal size ∷ codes "pack" ∷ bins),
      fits.second,
      after_again (codes "burst") (decimal count ∷ decimal size ∷ codes "pack" ∷ bins),
      number_at_again 65535 count (decimal size ∷ codes "pack" ∷ bins) (omega arith) fits.times,
      number_at_again 65535 size (codes "pack" ∷ bins) (omega arith) fits.sent,
      after_again
          (codes "pack") bins,
      pack_again pack [] fits.packed nothing_ends,
    ) refl

pub step_ends : (step : Step) → Ends (step_words step ++ [])
unfolding number_of
step_ends (Send size pack placements) = refl
step_ends (Burst count size pack) = refl

-- the words of a node are read as the node
pub adversary_again : (format : Format) (number : ℕ) (node : AdvNode) → number ≤ 4294967295 → IsSpellableAdversary format node
    → adversary_at format number (decimal number ∷ position_words node.loads node.items ++ step_words node.step) ≡ Some node
unfolding adversary_at
adversary_again format number node le h =
    let so_far = decimal number ∷ position_words node.loads node.items in
    let parts : so_far ++ step_words node.step ≡ so_far ++ (step_words node.step ++ []) = ap (λ (t : List (List ℕ)). so_far ++ t) (sym (append-nil (step_words node.step))) in
    ap (adversary_at format number) parts ∙ rw (
      position_again number le (node.loads, node.items) (step_words node.step ++ []) (h.loads, h.items) (step_ends node.step),
      step_again
          format node.step h.step,
    ) refl
