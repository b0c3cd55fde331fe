-- No word of a node has a space or a line feed.
use Rattle.std.proofs.Common.{ℕ, ◌≤◌, List, [], ◌∷◌, ◌++◌, map, decimal, codes, Option, Some, None, refl, arith, All}
use Rattle.std.specs.List.{flat_map, AllByRecursion}
use Rattle.std.proofs.lemmas.List.Elements.{recursion_from_All}
use Rattle.strategy_text.specs.declared.node.Act.{Act}
use Rattle.strategy_text.specs.declared.node.Act.TheVariants.{Finish, Big, Reply}
use Rattle.strategy_text.specs.declared.node.AdvNode.{AdvNode}
use Rattle.strategy_text.specs.declared.node.AlgNode.{AlgNode}
use Rattle.strategy_text.specs.declared.node.Entry.{Entry}
use Rattle.strategy_text.specs.declared.node.Format.{Format}
use Rattle.strategy_text.specs.declared.node.Placement.{Placement}
use Rattle.strategy_text.specs.declared.node.Step.{Step}
use Rattle.strategy_text.specs.declared.node.Step.TheVariants.{Send, Burst}
use Rattle.strategy_text.specs.declared.node.Then.{Then}
use Rattle.strategy_text.specs.declared.node.Then.TheVariants.{Over, To}
use Rattle.strategy_text.specs.Text.{list_words, pack_words, packing_words, then_words, placement_words, step_words, entry_words, entries_words, act_words, position_words}
use Rattle.strategy_text.specs.Spelling.{IsNumber, IsThen, IsPlacement, IsPack, IsOptionalPack, IsStep, IsEntry, IsAct, IsSpellableAdversary, IsSpellableAlgorithm}
use Rattle.strategy_text.proofs.Lines.{AreWords, AreWords-append, decimal_word}
use Rattle.strategy_text.proofs.StepsTaken.{pack_bins}
use Rattle.strategy_text.proofs.StepsAgain.{pack_lists}

numbers_words : (xs : List ℕ) → AllByRecursion IsNumber xs → AreWords (map decimal xs)
numbers_words [] h = tt
numbers_words (x ∷ xs) h = (decimal_word x (omega (arith, h.0)), numbers_words xs h.1)

lists_words : (xs : List ℕ) → AllByRecursion IsNumber xs → AreWords (list_words xs)
lists_words [] h = (refl, tt)
lists_words (x ∷ xs) h = numbers_words (x ∷ xs) h

each_words : {X : Type 0} (spell : X → List (List ℕ)) (Fits : X → Type 0) → ((x : X) → Fits x → AreWords (spell x)) → (xs : List X) → AllByRecursion Fits xs
    → AreWords (flat_map spell xs)
each_words spell Fits one [] h = tt
each_words spell Fits one (x ∷ xs) h = AreWords-append (spell x) (flat_map spell xs) (one x h.0) (each_words spell Fits one xs h.1)

-- ---- the parts of a node of the adversary

bins_words : (bins : List (List ℕ)) → AllByRecursion (AllByRecursion IsNumber) bins → AreWords (pack_words bins)
bins_words [] h = tt
bins_words (bin ∷ bins) h =
    rw (pack_bins bin bins) (AreWords-append (list_words bin) (flat_map (λ b. codes "/" ∷ list_words b) bins) (lists_words bin h.0)
    (each_words (λ b. codes "/" ∷ list_words b) (AllByRecursion IsNumber) (λ b f. (refl, lists_words b f)) bins h.1))

packs_words : (pack : List (List ℕ)) → IsPack pack → AreWords (pack_words pack)
packs_words pack h = bins_words pack (pack_lists pack h)

optional_packs_words : (format : Format) (pack : Option (List (List ℕ))) → IsOptionalPack format pack → AreWords (packing_words pack)
optional_packs_words format None h = tt
optional_packs_words format (Some pack) h = (refl, packs_words pack h)

thens_words : (next : Then) → IsThen next → AreWords (then_words next)
thens_words Over h = (refl, tt)
thens_words (To child) h = (refl, (decimal_word child (omega (arith, h)), tt))

placements_words : (p : Placement) → IsPlacement p → AreWords (placement_words p)
placements_words p h = (refl, (decimal_word p.load (omega (arith, h.load)), thens_words p.next h.next))

pub steps_words : (format : Format) (step : Step) → IsStep format step → AreWords (step_words step)
steps_words format (Send size pack placements) h = (
  refl,
  (
    decimal_word size (omega (arith, h.sent)),
    AreWords-append (packing_words pack) (flat_map placement_words placements) (optional_packs_words format pack h.packed)
        (each_words placement_words IsPlacement placements_words placements (recursion_from_All IsPlacement placements h.each)),
  ),
)
steps_words format (Burst count size pack) h =
    (refl, (decimal_word count (omega (arith, h.times)), (decimal_word size (omega (arith, h.sent)), (refl, packs_words pack h.packed))))

-- ---- the parts of a node of the algorithm

one_entry_words : (e : Entry) → IsEntry e → AreWords (entry_words e)
one_entry_words e h = (decimal_word e.size (omega (arith, h.size)), (refl, (decimal_word e.load (omega (arith, h.load)), (refl, (decimal_word e.to (omega (arith, h.to)), tt)))))

all_entries_words : (entries : List Entry) → All IsEntry entries → AreWords (entries_words entries)
all_entries_words [] h = (refl, tt)
all_entries_words (e ∷ es) h = each_words entry_words IsEntry one_entry_words (e ∷ es) (recursion_from_All IsEntry (e ∷ es) h)

pub acts_words : (format : Format) (act : Act) → IsAct format act → AreWords (act_words act)
acts_words format Finish h = (refl, tt)
acts_words format (Big bins) h = (refl, (decimal_word bins (omega (arith, h.kept)), tt))
acts_words format (Reply entries) h = (refl, all_entries_words entries h)

-- ---- the words of a node

positions_words : (number : ℕ) (loads items : List ℕ) → number ≤ 4294967295 → All IsNumber loads → All IsNumber items → AreWords (decimal number ∷ position_words loads items)
positions_words number loads items le l i = (
  decimal_word number (omega arith),
  AreWords-append (codes "loads" ∷ list_words loads) (codes "items" ∷ list_words items)
      (refl, lists_words loads (recursion_from_All IsNumber loads l)) (refl, lists_words items (recursion_from_All IsNumber items i)),
)

pub adversarys_words : (format : Format) (number : ℕ) (node : AdvNode) → number ≤ 4294967295 → IsSpellableAdversary format node
    → AreWords (decimal number ∷ position_words node.loads node.items ++ step_words node.step)
adversarys_words format number node le h =
    AreWords-append (decimal number ∷ position_words node.loads node.items) (step_words node.step) (positions_words number node.loads node.items le h.loads h.items)
    (steps_words format node.step h.step)

pub algorithms_words : (format : Format) (number : ℕ) (node : AlgNode) → number ≤ 4294967295 → IsSpellableAlgorithm format node
    → AreWords (decimal number ∷ position_words node.loads node.items ++ act_words node.act)
algorithms_words format number node le h =
    AreWords-append (decimal number ∷ position_words node.loads node.items) (act_words node.act) (positions_words number node.loads node.items le h.loads h.items)
    (acts_words format node.act h.act)
