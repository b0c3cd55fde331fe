-- The text of a legal strategy has no fault: its lines are whole, and spell what they are to spell.
use Rattle.std.proofs.Common.{◌≡◌, ◌≢◌, ◌↔◌, replicate, ℕ, zero, suc, ◌+◌, ◌*◌, ◌<◌, ◌≤◌, Bool, List, [], ◌∷◌, ◌++◌, length, get_or, map, All, Contains, Option, Some}
use Rattle.std.proofs.Common.{None, ap, subst, refl, arith, length-append, IfSome, mul-le-mul}
use Rattle.std.specs.List.{AllByRecursion, concat}
use Rattle.std.specs.Prelude.{sum}
use Rattle.std.proofs.Math.ListN.{get_or-map}
use Rattle.std.proofs.lemmas.List.{length-map, length-replicate}
use Rattle.std.proofs.lemmas.List.Sums.{get_or-le-sum_by, sum_by-cons}
use Rattle.std.proofs.lemmas.List.Elements.{All-nil, All-cons, All-append, All-replicate, All-weaker, All-contains, All-contains_itself, All-get_or, recursion_from_All}
use Rattle.std.proofs.lemmas.Option.{slice_get_within}
use Rattle.items.specs.Game.{GameNumbers, IsGame}
use Rattle.items.specs.Multiset.{IsSize}
use Rattle.items.specs.Packable.{IsPacking}
use Rattle.items.proofs.MultisetLemmas.{length-Same}
use Rattle.items.proofs.SizesLemmas.{size_from_Contains}
use Rattle.loads.proofs.LoadsLemmas.{loads_total}
use Rattle.packing_witness.proofs.PackableLemmas.{sum-packing-le}
use Rattle.loads.specs.After.{after}
use Rattle.loads.specs.Descending.{distinct}
use Rattle.loads.specs.Loads.{IsLoads}
use Rattle.loads.specs.Position.{AreItemsOf}
use Rattle.loads.specs.declared.position.Position.{Position}
use Rattle.loads.proofs.DistinctLemmas.{length-distinct-le, length-distinct_above_zero, Contains-from_distinct}
use Rattle.strategy_text.specs.Spelling.{IsNumber, IsThen, IsPlacement, IsPack, IsOptionalPack, IsStep, IsEntry, IsAct, IsSpellableNode, most_nodes}
use Rattle.strategy_text.specs.Text.{AnyNode, of_adversary, of_algorithm}
use Rattle.strategy_text.specs.declared.node.Act.{Act}
use Rattle.strategy_text.specs.declared.node.Act.TheVariants.{Finish, Big, Reply}
use Rattle.strategy_text.specs.declared.node.AdvNode.{AdvNode}
use Rattle.strategy_text.specs.declared.node.AlgNode.{AlgNode}
use Rattle.strategy_text.specs.declared.node.Entry.{Entry}
use Rattle.strategy_text.specs.declared.node.Format.{Format}
use Rattle.strategy_text.specs.declared.node.Format.TheVariants.{One, Two}
use Rattle.strategy_text.specs.declared.node.Placement.{Placement}
use Rattle.strategy_text.specs.declared.node.Step.{Step}
use Rattle.strategy_text.specs.declared.node.Step.TheVariants.{Send, Burst}
use Rattle.strategy_text.specs.declared.node.Then.{Then}
use Rattle.strategy_text.specs.declared.node.Then.TheVariants.{Over, To}
use Rattle.adversary_graph.specs.Nodes.{sent_size, sent_items, packing_of, placements_of}
use Rattle.adversary_graph.specs.Nodes as adversary_nodes
use Rattle.adversary_graph.specs.Rules.{PlacesEachLoad, LeadsTo}
use Rattle.adversary_graph.specs.Rules as adversary
use Rattle.algorithm_graph.specs.Nodes.{entries_of}
use Rattle.algorithm_graph.specs.Nodes as algorithm_nodes
use Rattle.algorithm_graph.specs.Rules.{IsStrictlyAscending, RepliesIfSaid, NamesLoad, BigFinishesIfSaid}
use Rattle.algorithm_graph.specs.Rules as algorithm
use Rattle.checker.specs.Head.{Head, MeetsUnder}
use Rattle.checker.proofs.ShortLines.{IsSmallPack, IsShort, IsSmallStep, IsShortEntry, IsSmallAct, IsSmallPosition, IsSmallNode}

-- ---- numbers

below_thousand : (xs : List ℕ) (most : ℕ) → All (λ x. x < most) xs → most ≤ 1000 → AllByRecursion (λ x. x < 1000) xs
below_thousand xs most h le = recursion_from_All (λ x. x < 1000) xs (All-weaker (λ x. x < most) (λ x. x < 1000) (λ x l. omega arith) xs h)

below_numbers : (xs : List ℕ) (most : ℕ) → All (λ x. x < most) xs → most ≤ 1000 → All IsNumber xs
below_numbers xs most h le = All-weaker (λ x. x < most) IsNumber (λ x l. omega arith) xs h

count_from_sizes : (most : ℕ) (xs : List ℕ) → AllByRecursion (IsSize most) xs → length xs ≤ sum xs
count_from_sizes most [] h = omega arith
count_from_sizes most (x ∷ xs) h = let low : 1 ≤ x = h.0.low in omega (arith, count_from_sizes most xs h.1, sum_by-cons (λ n. n) x xs)

-- the items of a list whose total is small
each_of_sum : (xs : List ℕ) (most : ℕ) → sum xs ≤ most → most < 1000 → All (λ x. x < 1000) xs
each_of_sum xs most h le k d within = omega (arith, get_or-le-sum_by (λ x. x) xs k d within)

bins_small : (bins : List (List ℕ)) (most : ℕ) → AllByRecursion (λ bin. sum bin ≤ most) bins → most < 1000 → AllByRecursion (AllByRecursion (λ x. x < 1000)) bins
bins_small [] most h le = tt
bins_small (bin ∷ bins) most h le = (recursion_from_All (λ x. x < 1000) bin (each_of_sum bin most h.0 le), bins_small bins most h.1 le)

bins_numbers : (bins : List (List ℕ)) (most : ℕ) → All (λ bin. sum bin ≤ most) bins → most < 1000 → All (All IsNumber) bins
bins_numbers bins most h le k d within j e inside =
    let small : get_or (get_or bins k d) j e < 1000 = each_of_sum (get_or bins k d) most (h k d within) le j e inside in
    omega arith

-- ---- the position of a node

items_are_sizes : (game : GameNumbers) (sizes loads items : List ℕ) → All (IsSize game.capacity) sizes → AreItemsOf sizes loads items → All (IsSize game.capacity) items
items_are_sizes game sizes loads items z a =
    All-weaker (Contains sizes) (IsSize game.capacity) (λ x c. All-contains (IsSize game.capacity) sizes x z c) items a.allowed

pub sizes_small : (game : GameNumbers) (items : List ℕ) → IsGame game → All (IsSize game.capacity) items → All (λ x. x < 1000) items
sizes_small game items g h = All-weaker (IsSize game.capacity) (λ x. x < 1000) (λ x s. omega (arith, s.high, g.capacity.high)) items h

position_small : (game : GameNumbers) (allowed loads items : List ℕ) → IsGame game → All (IsSize game.capacity) allowed → IsLoads game loads → AreItemsOf allowed loads items
    → IsSmallPosition loads items
position_small game allowed loads items g z l a =
    let sizes = items_are_sizes game allowed loads items z a in
    record {
      each_load = below_thousand loads game.target l.below_target (omega (arith, g.target.high, g.capacity.high));
      few_loads = omega (arith, l.one_each, g.bins.high);
      each_item = recursion_from_All (λ x. x < 1000) items (sizes_small game items g sizes);
      few_items = omega (arith, count_from_sizes game.capacity items (recursion_from_All (IsSize game.capacity) items sizes), a.total, loads_total game loads g l);
    }

loads_numbers : (game : GameNumbers) (loads : List ℕ) → IsGame game → IsLoads game loads → All IsNumber loads
loads_numbers game loads g l = below_numbers loads game.target l.below_target (omega (arith, g.target.high, g.capacity.high))

items_numbers : (game : GameNumbers) (sizes loads items : List ℕ) → IsGame game → All (IsSize game.capacity) sizes → AreItemsOf sizes loads items → All IsNumber items
items_numbers game sizes loads items g z a = below_numbers items 1000 (sizes_small game items g (items_are_sizes game sizes loads items z a)) (omega arith)

-- ---- what the adversary sends

few_packed : (game : GameNumbers) (bins : List (List ℕ)) (items : List ℕ) → IsGame game → All (IsSize game.capacity) items → IsPacking game bins items → length items ≤ 960
few_packed game bins items g sizes p =
    let volume : game.bins * game.capacity ≤ 960 = mul-le-mul g.bins.high g.capacity.high in
    omega (arith, volume, sum-packing-le game bins items p, count_from_sizes game.capacity items (recursion_from_All (IsSize game.capacity) items sizes))

pack_small : (game : GameNumbers) (bins : List (List ℕ)) (items : List ℕ) → IsGame game → All (IsSize game.capacity) items → IsPacking game bins items → IsSmallPack bins
pack_small game bins items g sizes p = record {
  each = bins_small bins game.capacity (recursion_from_All (λ bin. sum bin ≤ game.capacity) bins p.fits) (omega (arith, g.capacity.high));
  few_bins = omega (arith, p.one_each, g.bins.high);
  few_packed = omega (arith, length-Same (concat bins) items p.together, few_packed game bins items g sizes p);
}

pack_spellable : (game : GameNumbers) (bins : List (List ℕ)) (items : List ℕ) → IsGame game → IsPacking game bins items → IsPack bins
pack_spellable game bins items g p = record {
  some = λ none. absurd (omega (arith, ap length none, p.one_each, g.bins.low));
  each = bins_numbers bins game.capacity p.fits (omega (arith, g.capacity.high));
}

if_small : (game : GameNumbers) (pack : Option (List (List ℕ))) (items : List ℕ) → IsGame game → All (IsSize game.capacity) items
    → IfSome pack (λ bins. IsPacking game bins items) → IfSome pack IsSmallPack
if_small game None items g sizes h = tt
if_small game (Some bins) items g sizes h = pack_small game bins items g sizes h

-- what follows a placement leads to an earlier node
then_leads : (earlier : List Position) (next : Then) (at : Position) → LeadsTo earlier next at → length earlier ≤ most_nodes → IsThen next
then_leads earlier Over at h le = tt
then_leads earlier (To child) at h le = let low : child < length earlier = slice_get_within earlier child at h in omega arith

placed_some : (loads : List ℕ) (placements : List Placement) → 0 < length loads → map (λ placement. placement.load) placements ≡ distinct loads → placements ≢ []
placed_some [] placements some e none = absurd (omega arith)
placed_some (x ∷ xs) placements some e none =
    let above : 0 < length (distinct (x ∷ xs)) = length-distinct_above_zero x xs in
    let same : length (map (λ (placement : Placement). placement.load) placements) ≡ length (distinct (x ∷ xs)) = ap length e in
    let nothing : length placements ≡ 0 = ap length none in
    absurd (omega (arith, length-map placements (λ (placement : Placement). placement.load)))

-- a placement of a node that places each load has one of the loads
placed_load : (loads placed : List ℕ) (k d : ℕ) → placed ≡ distinct loads → k < length placed → Contains loads (get_or placed k d)
placed_load loads placed k d e l =
    let each : All (Contains loads) (distinct loads) =
    All-weaker (Contains (distinct loads)) (Contains loads) (λ x. Contains-from_distinct x loads) (distinct loads) (All-contains_itself (distinct loads)) in
    rw e (All-get_or (Contains loads) (distinct loads) k d (rw e at l) each)

placed_low : (game : GameNumbers) (loads : List ℕ) (placements : List Placement) → IsGame game → IsLoads game loads
    → map (λ placement. placement.load) placements ≡ distinct loads → All (λ placement. placement.load < 1000) placements
placed_low game loads placements g are placed k d within =
    let count : length (map (λ (p : Placement). p.load) placements) ≡ length placements = length-map placements (λ (p : Placement). p.load) in
    let there : Contains loads (get_or (map (λ (p : Placement). p.load) placements) k d.load) =
    placed_load loads (map (λ (p : Placement). p.load) placements) k d.load placed (omega arith) in
    let same : get_or (map (λ (p : Placement). p.load) placements) k d.load ≡ (get_or placements k d).load = get_or-map (λ (p : Placement). p.load) placements k d in
    let low : get_or (map (λ (p : Placement). p.load) placements) k d.load < game.target =
    All-contains (λ load. load < game.target) loads (get_or (map (λ (p : Placement). p.load) placements) k d.load) are.below_target there in
    omega (arith, low, same, g.target.high, g.capacity.high)

-- what the rules say of what a node sends, as far as its line is concerned
record JudgedStep (format : Format) (game : GameNumbers) (earlier : List Position) (loads items : List ℕ) (step : Step) : Type 0 where
  are : IsLoads game loads
  sizes : All (IsSize game.capacity) items
  sent : IsSize game.capacity (sent_size step)
  asked : (packing_of step ≡ None) → format ≡ Two
  packed : IfSome (packing_of step) (λ bins. IsPacking game bins (items ++ sent_items step))
  placed : PlacesEachLoad loads step
  next : All (λ placement. IsThen placement.next) (placements_of step)

short_placements : (placements : List Placement) → All (λ placement. placement.load < 1000) placements
    → All (λ placement. IsThen placement.next) placements → All IsShort placements
short_placements placements loads next k d within = record { load = loads k d within; next = next k d within }

number_placements : (placements : List Placement) → All (λ placement. placement.load < 1000) placements
    → All (λ placement. IsThen placement.next) placements → All IsPlacement placements
number_placements placements loads next k d within = record { load = omega (arith, loads k d within); next = next k d within }

step_small : (format : Format) (game : GameNumbers) (earlier : List Position) (loads items : List ℕ) (step : Step) → IsGame game
    → JudgedStep format game earlier loads items step → IsSmallStep step
step_small format game earlier loads items (Send size pack placements) g j =
    let all : All (IsSize game.capacity) (items ++ size ∷ []) =
    All-append (IsSize game.capacity) items (size ∷ []) j.sizes (All-cons (IsSize game.capacity) size [] j.sent (All-nil (IsSize game.capacity))) in
    record {
      sent = omega (arith, j.sent.high, g.capacity.high);
      packed = if_small game pack (items ++ size ∷ []) g all j.packed;
      each = recursion_from_All IsShort placements (short_placements placements (placed_low game loads placements g j.are j.placed) j.next);
      few = omega (arith, ap length j.placed, length-map placements (λ (p : Placement). p.load), length-distinct-le loads, j.are.one_each, g.bins.high);
    }
step_small format game earlier loads items (Burst count size pack) g j =
    let all : All (IsSize game.capacity) (items ++ replicate count size) =
    All-append (IsSize game.capacity) items (replicate count size) j.sizes (All-replicate (IsSize game.capacity) count size j.sent) in
    record {
      times = omega (arith, few_packed game pack (items ++ replicate count size) g all j.packed, length-append items (replicate count size), length-replicate count size);
      sent = omega (arith, j.sent.high, g.capacity.high);
      packed = pack_small game pack (items ++ replicate count size) g all j.packed;
    }

optional_pack : (format : Format) (game : GameNumbers) (pack : Option (List (List ℕ))) (items : List ℕ) → IsGame game → (pack ≡ None → format ≡ Two)
    → IfSome pack (λ bins. IsPacking game bins items) → IsOptionalPack format pack
optional_pack format game None items g asked h = asked refl
optional_pack format game (Some bins) items g asked h = pack_spellable game bins items g h

second_format : (format : Format) (count size : ℕ) (pack : List (List ℕ)) → adversary_nodes.IsOfFormat format (Burst count size pack) → format ≡ Two
second_format One count size pack h = absurd h
second_format Two count size pack h = refl

step_spellable : (format : Format) (game : GameNumbers) (earlier : List Position) (loads items : List ℕ) (step : Step) → IsGame game
    → adversary_nodes.IsOfFormat format step → JudgedStep format game earlier loads items step → IsStep format step
step_spellable format game earlier loads items (Send size pack placements) g formed j = record {
  sent = omega (arith, j.sent.high, g.capacity.high);
  packed = optional_pack format game pack (items ++ size ∷ []) g j.asked j.packed;
  some = placed_some loads placements (omega (arith, j.are.one_each, g.bins.low)) j.placed;
  each = number_placements placements (placed_low game loads placements g j.are j.placed) j.next;
}
step_spellable format game earlier loads items (Burst count size pack) g formed j =
    let all : All (IsSize game.capacity) (items ++ replicate count size) =
    All-append (IsSize game.capacity) items (replicate count size) j.sizes (All-replicate (IsSize game.capacity) count size j.sent) in
    record {
      second = second_format format count size pack formed;
      times = omega (arith, few_packed game pack (items ++ replicate count size) g all j.packed, length-append items (replicate count size), length-replicate count size);
      sent = omega (arith, j.sent.high, g.capacity.high);
      packed = pack_spellable game pack (items ++ replicate count size) g j.packed;
    }

-- a packing is missing in format 2 alone
asked_second : (format : Format) (game : GameNumbers) (node : AdvNode) (pack : Option (List (List ℕ))) (step : Step)
    → (adversary.IsShown pack ↔ adversary.IsPackingAsked format step) → pack ≡ None → format ≡ Two
asked_second One game node None step h e = absurd (h.1 tt)
asked_second One game node (Some bins) step h e = absurd cc
asked_second Two game node pack step h e = refl

judged_step : (format : Format) (game : GameNumbers) (sizes : List ℕ) (earlier : List Position) (last : Bool) (node : AdvNode) → All (IsSize game.capacity) sizes
    → length earlier ≤ most_nodes → adversary.MeetsRules format game sizes earlier last node → JudgedStep format game earlier node.loads node.items node.step
judged_step format game sizes earlier last node z le m = record {
  are = m.0;
  sizes = items_are_sizes game sizes node.loads node.items z m.1.0;
  sent = All-contains (IsSize game.capacity) sizes (sent_size node.step) z m.1.1.0;
  asked = asked_second format game node (packing_of node.step) node.step m.1.1.1.1.0.shown;
  packed = m.1.1.1.1.0.holds;
  placed = m.1.1.1.1.1.0;
  next = λ k d within. then_leads earlier (get_or (placements_of node.step) k d).next
      (after (adversary_nodes.position_of node) (get_or (placements_of node.step) k d).load (sent_size node.step)) (m.1.1.1.1.1.1.1.0 k d within) le;
}

-- ---- what the algorithm does

ascends : (xs : List ℕ) (most : ℕ) → IsStrictlyAscending xs → All (IsSize most) xs → (k : ℕ) → k < length xs → k + 1 ≤ get_or xs k 0
ascends xs most h sizes zero within = let s : IsSize most (get_or xs 0 0) = sizes 0 0 within in s.low
ascends xs most h sizes (suc k) within =
    let at : k + 1 ≡ suc k = omega arith in
    let next : get_or xs k 0 < get_or xs (k + 1) 0 = h k (omega arith) in
    let up : get_or xs k 0 < get_or xs (suc k) 0 = subst (λ (i : ℕ). get_or xs k 0 < get_or xs i 0) at next in
    omega (arith, up, ascends xs most h sizes k (omega arith))

-- sizes that strictly ascend are at most as many as there are
pub few_sizes : (xs : List ℕ) (most : ℕ) → IsStrictlyAscending xs → All (IsSize most) xs → length xs ≤ most
few_sizes [] most h sizes = omega arith
few_sizes (x ∷ xs) most h sizes =
    let last : IsSize most (get_or (x ∷ xs) (length xs) 0) = sizes (length xs) 0 (omega arith) in
    omega (arith, ascends (x ∷ xs) most h sizes (length xs) (omega arith), last.high)

-- what the rules say of what a node does, as far as its line is concerned
record JudgedAct (format : Format) (game : GameNumbers) (sizes : List ℕ) (earlier : List Position) (loads items : List ℕ) (act : Act) : Type 0 where
  of_sizes : All (IsSize game.capacity) sizes
  are : IsLoads game loads
  kept : BigFinishesIfSaid game (record { loads = loads; items = items; act = act }) act
  replies : RepliesIfSaid game sizes (record { loads = loads; items = items; act = act }) act
  named : All (NamesLoad game loads) (entries_of act)
  next : All (λ entry. entry.to ≤ most_nodes) (entries_of act)

entry_sizes : (game : GameNumbers) (sizes items : List ℕ) (entries : List Entry) → All (IsSize game.capacity) sizes → algorithm.ReplyToEach game sizes items entries
    → All (IsSize game.capacity) (map (λ entry. entry.size) entries)
entry_sizes game sizes items entries z h =
    All-weaker (Contains (map (λ (e : Entry). e.size) entries)) (IsSize game.capacity) (λ size c. All-contains (IsSize game.capacity) sizes size z ((h.exact size).0 c).0)
    (map (λ (e : Entry). e.size) entries) (All-contains_itself (map (λ (e : Entry). e.size) entries))

short_entries : (game : GameNumbers) (loads items : List ℕ) (entries : List Entry) → IsGame game
    → All (IsSize game.capacity) (map (λ entry. entry.size) entries) → All (NamesLoad game loads) entries
    → All (λ entry. entry.to ≤ most_nodes) entries → All IsShortEntry entries
short_entries game loads items entries g sizes named next k d within =
    let count : length (map (λ (e : Entry). e.size) entries) ≡ length entries = length-map entries (λ (e : Entry). e.size) in
    let same : get_or (map (λ (e : Entry). e.size) entries) k d.size ≡ (get_or entries k d).size = get_or-map (λ (e : Entry). e.size) entries k d in
    let size : IsSize game.capacity (get_or (map (λ (e : Entry). e.size) entries) k d.size) = sizes k d.size (omega arith) in
    let name : NamesLoad game loads (get_or entries k d) = named k d within in
    let to : (get_or entries k d).to ≤ most_nodes = next k d within in
    record {
      size = omega (arith, same, size.high, g.capacity.high);
      load = omega (arith, name.below, g.target.high, g.capacity.high);
      to = omega arith;
    }

entry_number : (entries : List Entry) → All IsShortEntry entries → All IsEntry entries
entry_number entries h = All-weaker IsShortEntry IsEntry (λ e s. record { size = omega (arith, s.size); load = omega (arith, s.load); to = s.to }) entries h

act_small : (format : Format) (game : GameNumbers) (sizes : List ℕ) (earlier : List Position) (loads items : List ℕ) (act : Act) → IsGame game
    → JudgedAct format game sizes earlier loads items act → IsSmallAct act
act_small format game sizes earlier loads items Finish g j = tt
act_small format game sizes earlier loads items (Big bins) g j = omega (arith, j.kept.some_left, g.bins.high)
act_small format game sizes earlier loads items (Reply entries) g j =
    let each = entry_sizes game sizes items entries j.of_sizes j.replies in
    record {
      each = recursion_from_All IsShortEntry entries (short_entries game loads items entries g each j.named j.next);
      few = omega (arith, few_sizes (map (λ (e : Entry). e.size) entries) game.capacity j.replies.ascending each, length-map entries (λ (e : Entry). e.size), g.capacity.high);
    }

second_act : (format : Format) (bins : ℕ) → algorithm_nodes.IsOfFormat format (Big bins) → format ≡ Two
second_act One bins h = absurd h
second_act Two bins h = refl

act_spellable : (format : Format) (game : GameNumbers) (sizes : List ℕ) (earlier : List Position) (loads items : List ℕ) (act : Act) → IsGame game
    → algorithm_nodes.IsOfFormat format act → JudgedAct format game sizes earlier loads items act → IsAct format act
act_spellable format game sizes earlier loads items Finish g formed j = tt
act_spellable format game sizes earlier loads items (Big bins) g formed j = record { second = second_act format bins formed; kept = omega (arith, j.kept.some_left, g.bins.high) }
act_spellable format game sizes earlier loads items (Reply entries) g formed j =
    entry_number entries (short_entries game loads items entries g (entry_sizes game sizes items entries j.of_sizes j.replies) j.named j.next)

judged_act : (format : Format) (game : GameNumbers) (sizes : List ℕ) (earlier : List Position) (last : Bool) (node : AlgNode) → All (IsSize game.capacity) sizes
    → length earlier ≤ most_nodes → algorithm.MeetsRules game sizes earlier last node → JudgedAct format game sizes earlier node.loads node.items node.act
judged_act format game sizes earlier last node z le m = record {
  of_sizes = z;
  are = m.0;
  kept = m.1.1.1.0;
  replies = m.1.1.1.1.0;
  named = m.1.1.1.1.1.0;
  next = λ k d within. omega (
    arith,
    slice_get_within earlier (get_or (entries_of node.act) k d).to
        (after (algorithm_nodes.position_of node) (get_or (entries_of node.act) k d).load (get_or (entries_of node.act) k d).size) (m.1.1.1.1.1.1.0 k d within),
  );
}

-- ---- a node of either side

-- a node has a form of the format
abbrev pub IsFormed : Format → AnyNode → Type 0
IsFormed format (of_adversary node) = adversary_nodes.IsOfFormat format node.step
IsFormed format (of_algorithm node) = algorithm_nodes.IsOfFormat format node.act

pub node_small : (head : Head) (earlier : List Position) (last : Bool) (node : AnyNode) → IsGame head.game → All (IsSize head.game.capacity) head.sizes
    → length earlier ≤ most_nodes → MeetsUnder head earlier last node → IsSmallNode node
node_small head earlier last (of_adversary node) g z le m = (
  position_small head.game head.sizes node.loads node.items g z m.0 m.1.0,
  step_small head.format head.game earlier node.loads node.items node.step g
      (judged_step head.format head.game head.sizes earlier last node z le m),
)
node_small head earlier last (of_algorithm node) g z le m = (
  position_small head.game head.sizes node.loads node.items g z m.0 m.1.0,
  act_small head.format head.game head.sizes earlier node.loads node.items node.act g
      (judged_act head.format head.game head.sizes earlier last node z le m),
)

pub node_spellable : (head : Head) (earlier : List Position) (last : Bool) (node : AnyNode) → IsGame head.game → All (IsSize head.game.capacity) head.sizes
    → length earlier ≤ most_nodes → IsFormed head.format node → MeetsUnder head earlier last node → IsSpellableNode head.format node
node_spellable head earlier last (of_adversary node) g z le formed m = record {
  loads = loads_numbers head.game node.loads g m.0;
  items = items_numbers head.game head.sizes node.loads node.items g z m.1.0;
  step = step_spellable head.format head.game earlier node.loads node.items node.step g formed (judged_step head.format head.game head.sizes earlier last node z le m);
}
node_spellable head earlier last (of_algorithm node) g z le formed m = record {
  loads = loads_numbers head.game node.loads g m.0;
  items = items_numbers head.game head.sizes node.loads node.items g z m.1.0;
  act = act_spellable head.format head.game head.sizes earlier node.loads node.items node.act g formed (judged_act head.format head.game head.sizes earlier last node z le m);
}
