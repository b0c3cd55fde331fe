-- The words of answers, and the replies that are written.
use Rattle.std.proofs.Common.{◌≡◌, ◌≢◌, ◌<◌, ◌≤◌, ◌+◌, ◌-◌, Result, Ok, Err, IfOk, Option, Some, None, ℕ, All, List, [], ◌∷◌, length, get_or, drop, map, codes}
use Rattle.std.proofs.Common.{decimal, String, string_bytes, sym, ap, ◌∙◌, subst, arith, refl}
use Rattle.std.proofs.lemmas.List.{take_all, get_or-map, length-map}
use Rattle.std.proofs.lemmas.List.Elements.{All-get_or}
use Rattle.std.proofs.lemmas.Option.{slice_get_within}
use Rattle.std.specs.Prelude.{MatchOption}
use Rattle.std.specs.declared.alloc.Global.{Global}
use Rattle.algorithm_graph.specs.Pools as algorithm
use Rattle.algorithm_graph.specs.Replies.{replies}
use Rattle.items.specs.Game.{GameNumbers}
use Rattle.items.specs.Multiset.{IsSize, sizes_of}
use Rattle.items.specs.Packable.{Packable}
use Rattle.match_player.specs.Answers.{IsLeastUnpackable, answered_by}
use Rattle.match_player.specs.Lines.{answer_text}
use Rattle.match_player.specs.declared.answered.Answered.{Answered}
use Rattle.node_pool.specs.Pools.{nodes_up_to}
use Rattle.strategy_text.specs.declared.node.Strategy.{Strategy}
use Rattle.stretch_bench.specs.Answer.{IsAnswerOf, IsUnpackable, most_item, unpackable_line}
use Rattle.stretch_bench.specs.Call.{Players}
use Rattle.stretch_bench.specs.Commands.{Spells, spelling_of}
use Rattle.stretch_bench.specs.declared.command.Command.TheVariants.{Answer}
use Rattle.stretch_bench.specs.Pieces.{IsDueWith}
use Rattle.stretch_bench.specs.declared.due.Due.{Due}
use Rattle.stretch_bench.specs.declared.status.Status.TheVariants.{Done, Unpackable}
use Rattle.stretch_bench.proofs.LegalLemmas.{pool_is}
use Rattle.stretch_bench.proofs.OutcomeLemmas.{due_is}

pub answer_words : {E : Type 0} (players : Players) (words rest : List (List ℕ)) (r : Result (Option (List ℕ)) E) → words ≡ codes "answer" ∷ rest
    → IfOk r (λ read. MatchOption read ((items : List ℕ) → All (IsSize most_item) items → rest ≢ map decimal items)
    (λ items. (rest ≡ map decimal items) × All (IsSize most_item) items))
    → IfOk r (λ read. MatchOption read ((items : List ℕ) → Spells players words (Answer items) → ⊥) (λ items. Spells players words (Answer items)))
answer_words players words rest (Ok (Some items)) e told = record { spelled = e ∙ ap (λ (ws : List (List ℕ)). codes "answer" ∷ ws) told.0; allowed = told.1 }
answer_words players words rest (Ok None) e told = λ items spells. told items spells.allowed (ap (λ (ws : List (List ℕ)). drop 1 ws) (sym e ∙ spells.spelled))
answer_words players words rest (Err f) e told = tt

-- ---- items

-- a word that is no item
pub no_item : (words : List (String Global)) (k high : ℕ) (word : String Global) (read : List ℕ) → k < length words → word ≡ get_or words k word
    → read ≡ string_bytes word → high ≡ most_item → ((n : ℕ) → 1 ≤ n → n ≤ high → read ≢ decimal n)
    → (items : List ℕ) → All (IsSize most_item) items → spelling_of words ≢ map decimal items
no_item words k high word read l at is most none items sizes e =
    let n : length words ≡ length items = sym (length-map words string_bytes) ∙ ap length e ∙ length-map items decimal in
    let item = get_or items k 0 in
    let size = All-get_or (IsSize most_item) items k 0 (omega (arith, n, l)) sizes in
    let spelled : string_bytes word ≡ decimal item =
    ap string_bytes at ∙ sym (get_or-map string_bytes words k word [] l) ∙ ap (λ ws. get_or ws k []) e ∙ get_or-map decimal items k 0 [] (omega (arith, n, l)) in
    none item size.low (omega (arith, size.high, most)) (is ∙ spelled)

-- ---- the replies

-- the replies of a pool's nodes are those of the strategy that it was made from
pub answer_of : (strategy : Strategy) (pool file : algorithm.Pool) (root : ℕ) (items text : List ℕ) (answered : Answered) → strategy ≡ algorithm.strategy_of pool
    → algorithm.IsRoot pool.nodes (length pool.nodes - 1) → root ≡ length pool.nodes - 1
    → pool.sizes ≡ sizes_of pool.game → file ≡ algorithm.pool_of pool.format pool.game (nodes_up_to root pool.nodes) → Packable file.game items
    → answered ≡ answered_by file.game (replies file.game file.nodes) items → All (λ load. load < file.game.target) answered.loads
    → text ≡ answer_text strategy.game answered → IsAnswerOf items strategy text
answer_of strategy pool file root items text answered e is_root last whole same packable is below lines =
    let some = slice_get_within pool.nodes (length pool.nodes - 1) is_root.0 is_root.1 in
    let all : nodes_up_to root pool.nodes ≡ pool.nodes = take_all (root + 1) pool.nodes (omega (arith, last, some)) in
    let file_is : file ≡ pool = same ∙ ap (λ nodes. algorithm.pool_of pool.format pool.game nodes) all ∙ pool_is pool whole in
    let answers : answered ≡ answered_by pool.game (replies pool.game pool.nodes) items =
    is ∙ ap (λ (f : algorithm.Pool). answered_by f.game (replies f.game f.nodes) items) file_is in
    let made : IsAnswerOf items (algorithm.strategy_of pool) text = record {
      nodes = pool.nodes;
      of_algorithm = refl;
      packable = subst (λ (f : algorithm.Pool). Packable f.game items) file_is packable;
      below = subst (λ (a : Answered). All (λ load. load < pool.game.target) a.loads) answers
          (subst (λ (f : algorithm.Pool). All (λ load. load < f.game.target) answered.loads) file_is below);
      lines = lines ∙ ap (λ (s : Strategy). answer_text s.game answered) e ∙ ap (answer_text pool.game) answers;
    } in
    subst (λ (s : Strategy). IsAnswerOf items s text) (sym e) made

pub answer_due : (strategy : Strategy) (pool file : algorithm.Pool) (root : ℕ) (items text : List ℕ) (answered : Answered) (due : Due) → strategy ≡ algorithm.strategy_of pool
    → algorithm.IsRoot pool.nodes (length pool.nodes - 1) → root ≡ length pool.nodes - 1
    → pool.sizes ≡ sizes_of pool.game → file ≡ algorithm.pool_of pool.format pool.game (nodes_up_to root pool.nodes) → Packable file.game items
    → answered ≡ answered_by file.game (replies file.game file.nodes) items → All (λ load. load < file.game.target) answered.loads
    → text ≡ answer_text strategy.game answered → IsDueWith Done (λ written. written ≡ text) due → IsDueWith Done (IsAnswerOf items strategy) due
answer_due strategy pool file root items text answered due e is_root last whole same packable is below lines with =
    due_is Done (IsAnswerOf items strategy) text due (answer_of strategy pool file root items text answered e is_root last whole same packable is below lines) with

-- items that do not fit the game of a pool's nodes
pub unpackable_due : (strategy : Strategy) (pool file : algorithm.Pool) (root : ℕ) (items : List ℕ) (place other : ℕ) (line : List ℕ) (due : Due)
    → strategy ≡ algorithm.strategy_of pool → file ≡ algorithm.pool_of pool.format pool.game (nodes_up_to root pool.nodes)
    → IsLeastUnpackable file.game items place → other ≡ place → line ≡ unpackable_line other → IsDueWith Unpackable (λ text. text ≡ line) due
    → IsDueWith Unpackable (IsUnpackable items strategy) due
unpackable_due strategy pool file root items place other line due e same least is told with =
    let of_pool : file.game ≡ strategy.game = ap (λ (f : algorithm.Pool). f.game) same ∙ sym (ap (λ (s : Strategy). s.game) e) in
    due_is Unpackable (IsUnpackable items strategy) line due
    (record { place = place; least = subst (λ (g : GameNumbers). IsLeastUnpackable g items place) of_pool least; line = told ∙ ap unpackable_line is })
    with
