-- A whole text that was read is that of a legal strategy.
use Rattle.std.proofs.Common.{◌≡◌, ◌==◌, ℕ, suc, zero, ◌+◌, List, [], ◌∷◌, ◌++◌, length, take, map, get_or}
use Rattle.std.proofs.Common.{Option, Some, None, sym, ap, ◌∙◌, subst, refl, arith}
use Rattle.std.specs.Prelude.{Result, Ok, Err, IfOk, IfErr, OnOk}
use Rattle.std.specs.Io.KnownBytes.{prepend_known}
use Rattle.std.specs.List.{slice_get}
use Rattle.std.proofs.lemmas.List.{length-map, append-nil}
use Rattle.std.proofs.lemmas.Option.{slice_get-get_or}
use Rattle.port_io.specs.Lines.{ReaderState}
use Rattle.std.proofs.KnownBytes.{prepend_known-nil}
use Rattle.port_io.proofs.ToldLemmas.{prepend_known-prepend}
use Rattle.items.specs.Multiset.{sizes_of}
use Rattle.loads.specs.declared.position.Position.{Position}
use Rattle.strategy_text.specs.Spelling.{IsStep, IsAct}
use Rattle.strategy_text.specs.Text.{AnyNode, of_adversary, of_algorithm, node_lines, nodes_of, side_of, end_line, head_lines, text_of_lines}
use Rattle.strategy_text.specs.declared.node.Act.{Act}
use Rattle.strategy_text.specs.declared.node.Act.TheVariants.{Finish, Big, Reply}
use Rattle.strategy_text.specs.declared.node.AdvNode.{AdvNode}
use Rattle.strategy_text.specs.declared.node.AlgNode.{AlgNode}
use Rattle.strategy_text.specs.declared.node.Format.{Format}
use Rattle.strategy_text.specs.declared.node.Format.TheVariants.{One, Two}
use Rattle.strategy_text.specs.declared.node.Nodes.{Nodes}
use Rattle.strategy_text.specs.declared.node.Nodes.TheVariants as nodes
use Rattle.strategy_text.specs.declared.node.Side.{Side}
use Rattle.strategy_text.specs.declared.node.Side.TheVariants.{Adversary, Algorithm}
use Rattle.strategy_text.specs.declared.node.Step.{Step}
use Rattle.strategy_text.specs.declared.node.Step.TheVariants.{Send, Burst}
use Rattle.strategy_text.specs.declared.node.Strategy.{Strategy}
use Rattle.adversary_graph.specs.Legal as adversary_legal
use Rattle.adversary_graph.specs.Nodes as adversary_nodes
use Rattle.algorithm_graph.specs.Legal as algorithm_legal
use Rattle.algorithm_graph.specs.Nodes as algorithm_nodes
use Rattle.checker.specs.Accepted.{Spells, IsLoaded, Accepts, AcceptsListed, IsFaultUnder, IsTextFaultUnder}
use Rattle.checker.specs.Listed.{IsLegalOver, listed_head_lines}
use Rattle.checker.specs.FirstFault.{IsWanted}
use Rattle.strategies.specs.AnyNode.{position_of, side_of_node, AreLegalNodes, EachMeetsRules}
use Rattle.checker.specs.Head.{Head, MeetsUnder, EachMeetsUnder}
use Rattle.checker.specs.Progress.{ReadsText, ReadsWhole, ReadsEnd, AreKept, RefusesAfter, IsPastEnd, IsHead, AreJudged, strategy_or, strategy_of_parts, told_by}
use Rattle.checker.specs.declared.fault.Accepted.{Accepted}
use Rattle.checker.specs.declared.head.Head as declared
use Rattle.checker.specs.declared.fault.CheckFault.{CheckFault}
use Rattle.checker.specs.declared.fault.CheckFault.TheVariants.{Rejected, Read, Memory}
use Rattle.checker.specs.declared.fault.AcceptedListed.{AcceptedListed}
use Rattle.checker.specs.declared.fault.Heading.{Heading}
use Rattle.checker.specs.declared.fault.Heading.TheVariants as headings
use Rattle.checker.specs.declared.fault.Wanted.{Wanted}
use Rattle.checker.proofs.FaultLemmas.{exit_past, lines_of_text}
use Rattle.checker.proofs.ProgressLemmas.{RefusesNext-after}

-- ---- nodes of one side

map_get : {X Y : Type 0} (f : X → Y) (xs : List X) (k : ℕ) (x : X) → slice_get xs k ≡ Some x → slice_get (map f xs) k ≡ Some (f x)
map_get f [] k x e = let none : None ≡ Some x = e in absurd cc
map_get f (y ∷ ys) zero x e = let same : y ≡ x = cc in ap (λ z. Some (f z)) same
map_get f (y ∷ ys) (suc k) x e = map_get f ys k x e

adversary_positions : (k : ℕ) (list : List AdvNode) → map position_of (take k (map of_adversary list)) ≡ map adversary_nodes.position_of (take k list)
adversary_positions zero [] = refl
adversary_positions zero (node ∷ list) = refl
adversary_positions (suc k) [] = refl
adversary_positions (suc k) (node ∷ list) = ap (λ ps. adversary_nodes.position_of node ∷ ps) (adversary_positions k list)

algorithm_positions : (k : ℕ) (list : List AlgNode) → map position_of (take k (map of_algorithm list)) ≡ map algorithm_nodes.position_of (take k list)
algorithm_positions zero [] = refl
algorithm_positions zero (node ∷ list) = refl
algorithm_positions (suc k) [] = refl
algorithm_positions (suc k) (node ∷ list) = ap (λ ps. algorithm_nodes.position_of node ∷ ps) (algorithm_positions k list)

adversary_each : (head : Head) (list : List AdvNode) → EachMeetsUnder head (map of_adversary list) → adversary_legal.EachMeetsRules head.format head.game head.sizes head.count list
unfolding EachMeetsRules
adversary_each head list each k node e =
    subst (λ (ps : List Position). MeetsUnder head ps (k + 1 == head.count) (of_adversary node)) (adversary_positions k list)
    (each k (of_adversary node) (map_get of_adversary list k node e))

algorithm_each : (head : Head) (list : List AlgNode) → EachMeetsUnder head (map of_algorithm list) → algorithm_legal.EachMeetsRules head.format head.game head.sizes head.count list
unfolding EachMeetsRules
algorithm_each head list each k node e =
    subst (λ (ps : List Position). MeetsUnder head ps (k + 1 == head.count) (of_algorithm node)) (algorithm_positions k list)
    (each k (of_algorithm node) (map_get of_algorithm list k node e))

step_formed : (format : Format) (step : Step) → IsStep format step → adversary_nodes.IsOfFormat format step
step_formed One (Send size pack placements) h = tt
step_formed One (Burst number size pack) h = let two : One ≡ Two = h.second in absurd cc
step_formed Two step h = tt

act_formed : (format : Format) (act : Act) → IsAct format act → algorithm_nodes.IsOfFormat format act
act_formed One Finish h = tt
act_formed One (Big b) h = let two : One ≡ Two = h.second in absurd cc
act_formed One (Reply entries) h = tt
act_formed Two act h = tt

-- nodes that were judged under a head are legal over its sizes
pub legal_from : (heading : Heading) (head : Head) (kept : Nodes) → IsHead heading head → length (nodes_of kept) ≡ head.count → AreJudged head (nodes_of kept)
    → AreLegalNodes head.format head.game head.sizes kept
legal_from heading head (nodes.Adversary list) is number judged =
    let count : length list ≡ head.count = sym (length-map list of_adversary) ∙ number in
    record {
      of_game = is.front.of_game;
      low = omega (arith, count, is.low);
      high = omega (arith, count, is.high);
      formed = λ k d within. step_formed head.format (get_or list k d).step
          (judged.spelled k (of_adversary (get_or list k d)) (map_get of_adversary list k (get_or list k d) (slice_get-get_or list k d within))).spells.spellable.step;
      each = subst (λ (n : ℕ). adversary_legal.EachMeetsRules head.format head.game head.sizes n list) (sym count) (adversary_each head list judged.each);
    }
legal_from heading head (nodes.Algorithm list) is number judged =
    let count : length list ≡ head.count = sym (length-map list of_algorithm) ∙ number in
    record {
      of_game = is.front.of_game;
      low = omega (arith, count, is.low);
      high = omega (arith, count, is.high);
      formed = λ k d within. act_formed head.format (get_or list k d).act
          (judged.spelled k (of_algorithm (get_or list k d)) (map_get of_algorithm list k (get_or list k d) (slice_get-get_or list k d within))).spells.spellable.act;
      each = subst (λ (n : ℕ). algorithm_legal.EachMeetsRules head.format head.game head.sizes n list) (sym count) (algorithm_each head list judged.each);
    }

-- over all sizes of the game, where the head lines are those of a strategy
pub legal_strategy_from : (wanted : Wanted) (head : Head) (kept : Nodes) → IsHead (headings.Strategy wanted) head → length (nodes_of kept) ≡ head.count
    → AreJudged head (nodes_of kept) → AreLegalNodes head.format head.game (sizes_of head.game) kept
legal_strategy_from wanted head kept is number judged =
    subst (λ (sizes : List ℕ). AreLegalNodes head.format head.game sizes kept) is.front.of_sizes (legal_from (headings.Strategy wanted) head kept is number judged)

-- the nodes of a side, as a strategy keeps them
adversary_kept : (list : List AnyNode) → ((k : ℕ) (node : AnyNode) → slice_get list k ≡ Some node → side_of_node node ≡ Adversary)
    → (kept : List AdvNode) × (map of_adversary kept ≡ list)
adversary_kept [] h = ([], refl)
adversary_kept (of_adversary node ∷ list) h = let r = adversary_kept list (λ k n e. h (suc k) n e) in (node ∷ r.0, ap (λ ns. of_adversary node ∷ ns) r.1)
adversary_kept (of_algorithm node ∷ list) h = let other : Algorithm ≡ Adversary = h zero (of_algorithm node) refl in absurd cc

algorithm_kept : (list : List AnyNode) → ((k : ℕ) (node : AnyNode) → slice_get list k ≡ Some node → side_of_node node ≡ Algorithm)
    → (kept : List AlgNode) × (map of_algorithm kept ≡ list)
algorithm_kept [] h = ([], refl)
algorithm_kept (of_algorithm node ∷ list) h = let r = algorithm_kept list (λ k n e. h (suc k) n e) in (node ∷ r.0, ap (λ ns. of_algorithm node ∷ ns) r.1)
algorithm_kept (of_adversary node ∷ list) h = let other : Adversary ≡ Algorithm = h zero (of_adversary node) refl in absurd cc

pub nodes_kept : (side : Side) (list : List AnyNode) → ((k : ℕ) (node : AnyNode) → slice_get list k ≡ Some node → side_of_node node ≡ side)
    → (kept : Nodes) × (nodes_of kept ≡ list) × (side_of kept ≡ side)
nodes_kept Adversary list h = let r = adversary_kept list h in (nodes.Adversary r.0, r.1, refl)
nodes_kept Algorithm list h = let r = algorithm_kept list h in (nodes.Algorithm r.0, r.1, refl)

-- ---- a text that was read

pub Spells-from : (wanted : Wanted) (head : Head) (kept : Nodes) (old new : ReaderState) (left new_left : Option (List ℕ)) → side_of kept ≡ head.side
    → ReadsText (headings.Strategy wanted) head (nodes_of kept) old new left new_left → Spells wanted (record { format = head.format; game = head.game; nodes = kept }) old.held new.held left new_left
Spells-from wanted head kept old new left new_left side r = record {
  legal = legal_strategy_from wanted head kept r.is_head r.number r.judged;
  wanted_side = subst (IsWanted wanted) (sym side) r.is_head.wanted_side;
  read = r.reads.read;
  gone = r.reads.gone;
  spelled = subst (λ (s : Side). old.held ++ r.reads.read ≡ text_of_lines
      (head_lines head.format head.game s (length (nodes_of kept)) ++ node_lines 0 (nodes_of kept) ++ end_line ∷ []) ++ new.held) (sym side)
      (subst (λ (n : ℕ). old.held ++ r.reads.read ≡ text_of_lines (head_lines head.format head.game head.side n ++ node_lines 0 (nodes_of kept) ++ end_line ∷ []) ++ new.held)
      (sym r.number) r.reads.stand.split);
}

-- a text that was read, and then the end of the input
pub ReadsWhole-from : (heading : Heading) (head : Head) (list : List AnyNode) (old mid : ReaderState) (left mid_left new_left : Option (List ℕ)) → old.held ≡ []
    → ReadsText heading head list old mid left mid_left → ReadsEnd mid mid_left new_left → ReadsWhole heading head list left new_left
ReadsWhole-from heading head list old mid left mid_left new_left fresh r end =
    let text : List ℕ = text_of_lines (lines_of_text heading head list) in
    record {
      is_head = r.is_head;
      number = r.number;
      judged = r.judged;
      read = r.reads.read;
      gone = r.reads.gone ∙ ap (prepend_known r.reads.read) end.gone ∙ prepend_known-prepend r.reads.read [] new_left
          ∙ ap (λ (read : List ℕ). prepend_known read new_left) (append-nil r.reads.read);
      spelled = ap (λ (held : List ℕ). held ++ r.reads.read) (sym fresh) ∙ r.reads.stand.split ∙ ap (λ (held : List ℕ). text ++ held) end.held ∙ append-nil text;
      whole = end.whole;
    }

pub IsLoaded-from : (wanted : Wanted) (head : Head) (kept : Nodes) (left new_left : Option (List ℕ)) → side_of kept ≡ head.side
    → ReadsWhole (headings.Strategy wanted) head (nodes_of kept) left new_left → IsLoaded wanted (record { format = head.format; game = head.game; nodes = kept }) left new_left
IsLoaded-from wanted head kept left new_left side r = record {
  legal = legal_strategy_from wanted head kept r.is_head r.number r.judged;
  wanted_side = subst (IsWanted wanted) (sym side) r.is_head.wanted_side;
  read = r.read;
  gone = r.gone;
  spelled = subst (λ (s : Side). r.read ≡ text_of_lines (head_lines head.format head.game s (length (nodes_of kept)) ++ node_lines 0 (nodes_of kept) ++ end_line ∷ [])) (sym side)
      (subst (λ (n : ℕ). r.read ≡ text_of_lines (head_lines head.format head.game head.side n ++ node_lines 0 (nodes_of kept) ++ end_line ∷ [])) (sym r.number) r.spelled);
  whole = r.whole;
}

pub Accepts-from : (wanted : Wanted) (head : Head) (list : List AnyNode) (accepted : Accepted) (left new_left : Option (List ℕ))
    → ReadsWhole (headings.Strategy wanted) head list left new_left → accepted.game ≡ head.game → accepted.side ≡ head.side → accepted.nodes ≡ head.count → Accepts wanted accepted left new_left
Accepts-from wanted head list accepted left new_left r game side number =
    let kept = nodes_kept head.side list (λ k node e. (r.judged.spelled k node e).side) in
    let text : ReadsWhole (headings.Strategy wanted) head (nodes_of kept.0) left new_left = subst (λ (ns : List AnyNode). ReadsWhole (headings.Strategy wanted) head ns left new_left) (sym kept.1) r in
    record {
      strategy = record { format = head.format; game = head.game; nodes = kept.0 };
      loaded = IsLoaded-from wanted head kept.0 left new_left kept.2 text;
      game = game;
      side = side ∙ sym kept.2;
      number = number ∙ sym r.number ∙ ap length (sym kept.1);
    }

pub AcceptsListed-from : (head : Head) (list : List AnyNode) (accepted : AcceptedListed) (left new_left : Option (List ℕ))
    → ReadsWhole headings.Listed head list left new_left → accepted.game ≡ head.game → accepted.sizes ≡ head.sizes → accepted.side ≡ head.side → accepted.nodes ≡ head.count
    → AcceptsListed accepted left new_left
AcceptsListed-from head list accepted left new_left r game sizes side number =
    let kept = nodes_kept head.side list (λ k node e. (r.judged.spelled k node e).side) in
    let text : ReadsWhole headings.Listed head (nodes_of kept.0) left new_left = subst (λ (ns : List AnyNode). ReadsWhole headings.Listed head ns left new_left) (sym kept.1) r in
    let tail : List (List ℕ) = node_lines 0 (nodes_of kept.0) ++ end_line ∷ [] in
    let legal : IsLegalOver head.sizes (record { format = head.format; game = head.game; nodes = kept.0 }) = record {
      of_format = r.is_head.front.of_format;
      are_sizes = r.is_head.front.of_sizes;
      nodes = legal_from headings.Listed head kept.0 text.is_head text.number text.judged;
    } in
    record {
      strategy = record { format = head.format; game = head.game; nodes = kept.0 };
      legal = subst (λ (z : List ℕ). IsLegalOver z (record { format = head.format; game = head.game; nodes = kept.0 })) (sym sizes) legal;
      read = text.read;
      gone = text.gone;
      spelled = text.spelled ∙ ap (λ (z : List ℕ). text_of_lines (listed_head_lines head.game z head.side head.count ++ tail)) (sym sizes)
          ∙ ap (λ (s : Side). text_of_lines (listed_head_lines head.game accepted.sizes s head.count ++ tail)) (sym kept.2)
          ∙ ap (λ (n : ℕ). text_of_lines (listed_head_lines head.game accepted.sizes (side_of kept.0) n ++ tail)) (sym text.number);
      whole = text.whole;
      game = game;
      side = side ∙ sym kept.2;
      number = number ∙ sym text.number;
    }

-- bytes past the end of a text were refused
pub past_fault_of : (heading : Heading) (head : Head) (list : List AnyNode) (number : ℕ) (fault : CheckFault) (old mid : ReaderState) (left mid_left new_left : Option (List ℕ))
    → old.held ≡ [] → number ≡ head.start + head.count + 1 → ReadsText heading head list old mid left mid_left → RefusesAfter [] (IsPastEnd number) fault mid mid_left new_left
    → IsFaultUnder heading [] fault left new_left
past_fault_of heading head list number fault old mid left mid_left new_left fresh at r refused =
    subst (λ (held : List ℕ). IsFaultUnder heading held fault left new_left) fresh
    (exit_past heading head list fault old left new_left r.is_head r.judged r.number
    (RefusesNext-after (lines_of_text heading head list) (IsPastEnd (head.start + head.count + 1)) fault old mid left mid_left new_left r.reads
    (subst (λ (n : ℕ). RefusesAfter [] (IsPastEnd n) fault mid mid_left new_left) at refused)))

pub no_memory : (heading : Heading) (left : Option (List ℕ)) → IsFaultUnder heading [] Memory left left
no_memory heading left = ([], sym (prepend_known-nil left))

-- ---- the strategy of what was read

-- some nodes were read, and are the nodes kept
abbrev pub ReadsSome : Wanted → declared.Head → Nodes → ReaderState → ReaderState → Option (List ℕ) → Option (List ℕ) → Type 0
ReadsSome wanted head kept old new left new_left =
    (nodes : List AnyNode) × ReadsText (headings.Strategy wanted) (told_by head) nodes old new left new_left × AreKept kept head.side nodes

abbrev pub ReadsSomeWhole : Wanted → declared.Head → Nodes → Option (List ℕ) → Option (List ℕ) → Type 0
ReadsSomeWhole wanted head kept left new_left = (nodes : List AnyNode) × ReadsWhole (headings.Strategy wanted) (told_by head) nodes left new_left × AreKept kept head.side nodes

pub spelled_from : (wanted : Wanted) (read : Result declared.Head CheckFault) (result : Result Strategy CheckFault) (kept : Nodes) (old new : ReaderState)
    (left new_left : Option (List ℕ)) → result ≡ strategy_or read kept → IfOk read (λ head. ReadsSome wanted head kept old new left new_left)
    → IfOk result (λ strategy. Spells wanted strategy old.held new.held left new_left)
spelled_from wanted (Ok head) result kept old new left new_left e r =
    subst (λ (x : Result Strategy CheckFault). IfOk x (λ strategy. Spells wanted strategy old.held new.held left new_left)) (sym e)
    (Spells-from wanted (told_by head) kept old new left new_left r.2.1
    (subst (λ (ns : List AnyNode). ReadsText (headings.Strategy wanted) (told_by head) ns old new left new_left) (sym r.2.0) r.1))
spelled_from wanted (Err fault) result kept old new left new_left e r =
    subst (λ (x : Result Strategy CheckFault). IfOk x (λ strategy. Spells wanted strategy old.held new.held left new_left)) (sym e) tt

pub open_from : (wanted : Wanted) (read : Result declared.Head CheckFault) (result : Result Strategy CheckFault) (kept : Nodes) (old new : ReaderState)
    (left new_left : Option (List ℕ)) → result ≡ strategy_or read kept → IfOk read (λ head. ReadsSome wanted head kept old new left new_left)
    → OnOk result (new.ending ≡ None)
open_from wanted (Ok head) result kept old new left new_left e r =
    subst (λ (x : Result Strategy CheckFault). OnOk x (new.ending ≡ None)) (sym e) r.1.reads.open_still
open_from wanted (Err fault) result kept old new left new_left e r =
    subst (λ (x : Result Strategy CheckFault). OnOk x (new.ending ≡ None)) (sym e) tt

pub loaded_from : (wanted : Wanted) (read : Result declared.Head CheckFault) (result : Result Strategy CheckFault) (kept : Nodes) (left new_left : Option (List ℕ))
    → result ≡ strategy_or read kept → IfOk read (λ head. ReadsSomeWhole wanted head kept left new_left)
    → IfOk result (λ strategy. IsLoaded wanted strategy left new_left)
loaded_from wanted (Ok head) result kept left new_left e r =
    subst (λ (x : Result Strategy CheckFault). IfOk x (λ strategy. IsLoaded wanted strategy left new_left)) (sym e)
    (IsLoaded-from wanted (told_by head) kept left new_left r.2.1
    (subst (λ (ns : List AnyNode). ReadsWhole (headings.Strategy wanted) (told_by head) ns left new_left) (sym r.2.0) r.1))
loaded_from wanted (Err fault) result kept left new_left e r =
    subst (λ (x : Result Strategy CheckFault). IfOk x (λ strategy. IsLoaded wanted strategy left new_left)) (sym e) tt

-- why no head was read is why no strategy was
pub refused_from : (read : Result declared.Head CheckFault) (result : Result Strategy CheckFault) (kept : Nodes) (P : CheckFault → Type 0) → result ≡ strategy_or read kept
    → IfErr read P → IfErr result P
refused_from (Ok head) result kept P e h = subst (λ (x : Result Strategy CheckFault). IfErr x P) (sym e) tt
refused_from (Err fault) result kept P e h = subst (λ (x : Result Strategy CheckFault). IfErr x P) (sym e) h

err_is : {X : Type 0} (result : Result X CheckFault) (fault other : CheckFault) → result ≡ Err fault → result ≡ Err other → fault ≡ other
err_is result fault other a b = cc

pub failed_from : (read : Result declared.Head CheckFault) (result : Result Strategy CheckFault) (kept : Nodes) (P : Type 0) → result ≡ strategy_or read kept
    → (read ≡ Err Read → P) → result ≡ Err Read → P
failed_from (Ok head) result kept P e h failed = let other : Ok (strategy_of_parts head kept) ≡ Err Read = sym e ∙ failed in absurd cc
failed_from (Err fault) result kept P e h failed = h (ap Err (err_is result fault Read e failed))

-- a fault in a line of the text is one of the input
pub fault_of_text : (heading : Heading) (held : List ℕ) (fault : CheckFault) (left new_left : Option (List ℕ)) → IsTextFaultUnder heading held fault left new_left
    → IsFaultUnder heading held fault left new_left
fault_of_text heading held (Rejected line cause) left new_left f = f.rejects
fault_of_text heading held Read left new_left f = record { read = f.read; gone = f.gone; faultless = f.faultless }
fault_of_text heading held Memory left new_left f = f
