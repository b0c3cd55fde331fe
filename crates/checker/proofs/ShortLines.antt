-- The lines of nodes whose parts are small have at most 16,384 bytes.
use Rattle.std.proofs.Common.{◌≡◌, ℕ, ◌+◌, ◌*◌, ◌<◌, ◌≤◌, List, [], ◌∷◌, ◌++◌, length, map, decimal, codes, Option, Some, None, arith, length-append, IfSome}
use Rattle.std.specs.List.{AllByRecursion, flat_map, join_with_byte, concat}
use Rattle.std.proofs.lemmas.Fmt.{length-decimal-le}
use Rattle.strategy_text.specs.Spelling.{IsThen, most_child}
use Rattle.strategy_text.specs.Text.{AnyNode, of_adversary, of_algorithm, list_words, pack_words, packing_words, then_words, placement_words, step_words, entry_words}
use Rattle.strategy_text.specs.Text.{entries_words, act_words, position_words, adversary_line, algorithm_line, node_line}
use Rattle.strategy_text.specs.declared.node.Act.{Act}
use Rattle.strategy_text.specs.declared.node.Act.TheVariants.{Finish, Big, Reply}
use Rattle.strategy_text.specs.declared.node.Entry.{Entry}
use Rattle.strategy_text.specs.declared.node.Placement.{Placement}
use Rattle.strategy_text.specs.declared.node.Step.{Step}
use Rattle.strategy_text.specs.declared.node.Step.TheVariants.{Send, Burst}
use Rattle.checker.specs.Listed.{sizes_line}
use Rattle.strategy_text.specs.declared.node.Then.{Then}
use Rattle.strategy_text.specs.declared.node.Then.TheVariants.{Over, To}

-- the bytes of words, each with a space
abbrev pub cost : List (List ℕ) → ℕ
cost [] = 0
cost (w ∷ ws) = (length w + 1) + cost ws

pub length-joined : (ws : List (List ℕ)) → length (join_with_byte 32 ws) ≤ cost ws
length-joined [] = omega arith
length-joined (w ∷ []) = omega arith
length-joined (w ∷ v ∷ ws) = omega (arith, length-append w (32 ∷ join_with_byte 32 (v ∷ ws)), length-joined (v ∷ ws))

cost-append : (vs ws : List (List ℕ)) → cost (vs ++ ws) ≡ cost vs + cost ws
cost-append [] ws = omega arith
cost-append (v ∷ vs) ws = omega (arith, cost-append vs ws)

pub short_number : (n : ℕ) → n < 1000 → length (decimal n) ≤ 3
short_number n h = length-decimal-le 3 n (omega arith) (omega arith) (omega arith)

pub long_number : (n : ℕ) → n ≤ 4294967295 → length (decimal n) ≤ 10
long_number n h = length-decimal-le 10 n (omega arith) (omega arith) (omega arith)

decimals_cost : (xs : List ℕ) → AllByRecursion (λ x. x < 1000) xs → cost (map decimal xs) ≤ 4 * length xs
decimals_cost [] h = omega arith
decimals_cost (x ∷ xs) h = omega (arith, short_number x h.0, decimals_cost xs h.1)

list_cost : (xs : List ℕ) → AllByRecursion (λ x. x < 1000) xs → cost (list_words xs) ≤ 4 * length xs + 2
list_cost [] h = omega arith
list_cost (x ∷ xs) h = omega (arith, decimals_cost (x ∷ xs) h)

-- the line of at most 120 small sizes
pub sizes_line_short : (xs : List ℕ) → AllByRecursion (λ x. x < 1000) xs → length xs ≤ 120 → length (sizes_line xs) ≤ 16384
unfolding sizes_line
sizes_line_short xs h few = omega (arith, length-joined (codes "sizes" ∷ list_words xs), list_cost xs h, few)

pack_cost : (bins : List (List ℕ)) → AllByRecursion (AllByRecursion (λ x. x < 1000)) bins → cost (pack_words bins) ≤ 4 * length (concat bins) + 4 * length bins
pack_cost [] h = omega arith
pack_cost (bin ∷ []) h = omega (arith, list_cost bin h.0, length-append bin [])
pack_cost (bin ∷ next ∷ bins) h =
    omega (arith, list_cost bin h.0, pack_cost (next ∷ bins) h.1, cost-append (list_words bin) (codes "/" ∷ pack_words (next ∷ bins)), length-append bin (concat (next ∷ bins)))

-- ---- what the adversary sends

-- a packing of few small items
pub record IsSmallPack (bins : List (List ℕ)) : Type 0 where
  pub each : AllByRecursion (AllByRecursion (λ x. x < 1000)) bins
  pub few_bins : length bins ≤ 8
  pub few_packed : length (concat bins) ≤ 960

-- a placement of a small load
pub record IsShort (placement : Placement) : Type 0 where
  pub load : placement.load < 1000
  pub next : IsThen placement.next

pub record IsSmallSend (size : ℕ) (pack : Option (List (List ℕ))) (placements : List Placement) : Type 0 where
  pub sent : size < 1000
  pub packed : IfSome pack IsSmallPack
  pub each : AllByRecursion IsShort placements
  pub few : length placements ≤ 8

pub record IsSmallBurst (count size : ℕ) (pack : List (List ℕ)) : Type 0 where
  pub times : count < 1000
  pub sent : size < 1000
  pub packed : IsSmallPack pack

abbrev pub IsSmallStep : Step → Type 0
IsSmallStep (Send size pack placements) = IsSmallSend size pack placements
IsSmallStep (Burst count size pack) = IsSmallBurst count size pack

small_pack_cost : (bins : List (List ℕ)) → IsSmallPack bins → cost (pack_words bins) ≤ 3872
small_pack_cost bins h = omega (arith, pack_cost bins h.each, h.few_bins, h.few_packed)

packing_cost : (pack : Option (List (List ℕ))) → IfSome pack IsSmallPack → cost (packing_words pack) ≤ 3877
packing_cost None h = omega arith
packing_cost (Some bins) h = omega (arith, small_pack_cost bins h)

then_cost : (next : Then) → IsThen next → cost (then_words next) ≤ 14
then_cost Over h = omega arith
then_cost (To child) h = omega (arith, long_number child h)

placements_cost : (ps : List Placement) → AllByRecursion IsShort ps → cost (flat_map placement_words ps) ≤ 21 * length ps
placements_cost [] h = omega arith
placements_cost (p ∷ ps) h =
    omega (arith, short_number p.load h.0.load, then_cost p.next h.0.next, placements_cost ps h.1, cost-append (placement_words p) (flat_map placement_words ps))

step_cost : (step : Step) → IsSmallStep step → cost (step_words step) ≤ 4100
step_cost (Send size pack placements) h =
    omega (
      arith,
      short_number size h.sent,
      packing_cost pack h.packed,
      placements_cost placements h.each,
      h.few,
      cost-append (packing_words pack)
          (flat_map placement_words placements),
    )
step_cost (Burst count size pack) h = omega (arith, short_number count h.times, short_number size h.sent, small_pack_cost pack h.packed)

-- ---- what the algorithm does

-- a reply to a small item
pub record IsShortEntry (entry : Entry) : Type 0 where
  pub size : entry.size < 1000
  pub load : entry.load < 1000
  pub to : entry.to ≤ most_child

pub record IsSmallReply (entries : List Entry) : Type 0 where
  pub each : AllByRecursion IsShortEntry entries
  pub few : length entries ≤ 120

abbrev pub IsSmallAct : Act → Type 0
IsSmallAct Finish = Unit {0}
IsSmallAct (Big bins) = bins < 1000
IsSmallAct (Reply entries) = IsSmallReply entries

entry_cost : (e : Entry) → IsShortEntry e → cost (entry_words e) ≤ 25
entry_cost e h = omega (arith, short_number e.size h.size, short_number e.load h.load, long_number e.to h.to)

each_entry_cost : (es : List Entry) → AllByRecursion IsShortEntry es → cost (flat_map entry_words es) ≤ 25 * length es
each_entry_cost [] h = omega arith
each_entry_cost (e ∷ es) h = omega (arith, entry_cost e h.0, each_entry_cost es h.1, cost-append (entry_words e) (flat_map entry_words es))

entries_cost : (es : List Entry) → AllByRecursion IsShortEntry es → cost (entries_words es) ≤ 25 * length es + 2
entries_cost [] h = omega arith
entries_cost (e ∷ es) h = omega (arith, each_entry_cost (e ∷ es) h)

act_cost : (act : Act) → IsSmallAct act → cost (act_words act) ≤ 4100
act_cost Finish h = omega arith
act_cost (Big bins) h = omega (arith, short_number bins h)
act_cost (Reply entries) h = omega (arith, entries_cost entries h.each, h.few)

-- ---- a whole line

-- few small loads, and small items
pub record IsSmallPosition (loads items : List ℕ) : Type 0 where
  pub each_load : AllByRecursion (λ x. x < 1000) loads
  pub few_loads : length loads ≤ 8
  pub each_item : AllByRecursion (λ x. x < 1000) items
  pub few_items : length items ≤ 1912

abbrev pub IsSmallNode : AnyNode → Type 0
IsSmallNode (of_adversary node) = IsSmallPosition node.loads node.items × IsSmallStep node.step
IsSmallNode (of_algorithm node) = IsSmallPosition node.loads node.items × IsSmallAct node.act

position_cost : (number : ℕ) (loads items : List ℕ) → number ≤ most_child → IsSmallPosition loads items → cost (decimal number ∷ position_words loads items) ≤ 7707
position_cost number loads items le h =
    omega (
      arith,
      long_number number le,
      list_cost loads h.each_load,
      h.few_loads,
      list_cost items h.each_item,
      h.few_items,
      cost-append (list_words loads)
          (codes "items" ∷ list_words items),
    )

words_short : (front back : List (List ℕ)) → cost front ≤ 7707 → cost back ≤ 4100 → length (join_with_byte 32 (front ++ back)) ≤ 16384
words_short front back f b = omega (arith, length-joined (front ++ back), cost-append front back)

pub node_short : (number : ℕ) (node : AnyNode) → number ≤ most_child → IsSmallNode node → length (node_line number node) ≤ 16384
unfolding adversary_line algorithm_line
node_short number (of_adversary node) le h =
    words_short (decimal number ∷ position_words node.loads node.items) (step_words node.step) (position_cost number node.loads node.items le h.0) (step_cost node.step h.1)
node_short number (of_algorithm node) le h =
    words_short (decimal number ∷ position_words node.loads node.items) (act_words node.act) (position_cost number node.loads node.items le h.0) (act_cost node.act h.1)
