-- The words of a play, and the player that they mean.
use Rattle.std.proofs.Common.{◌≡◌, ◌≢◌, ◌<◌, ◌≤◌, ◌+◌, ◌-◌, true, false, ⊎_elim, Option, Some, None, ℕ, List, [], ◌∷◌, length, get_or, map, codes}
use Rattle.std.proofs.Common.{String, string_bytes, sym, ap, ◌∙◌, subst, arith, refl}
use Rattle.std.proofs.lemmas.Bool.{cases_lt}
use Rattle.std.proofs.lemmas.List.{length-map}
use Rattle.std.proofs.lemmas.Option.{slice_get-map, slice_get-get_or, slice_get_past, slice_get_within}
use Rattle.std.specs.Cmp.Lexicographic.{pointwise, same_text}
use Rattle.std.specs.Prelude.{slice_get, nat_eq, option_map, unwrap_or, MatchOption}
use Rattle.std.specs.declared.alloc.Global.{Global}
use Rattle.adversary_graph.specs.Play.{IsLost, play}
use Rattle.adversary_graph.specs.Told.{play_of}
use Rattle.adversary_graph.specs.Pools as adversary
use Rattle.items.specs.Game.{GameNumbers}
use Rattle.match_player.specs.Lines.{play_text}
use Rattle.online_play.specs.declared.transcript.Transcript.{Transcript}
use Rattle.strategy_text.specs.declared.node.Strategy.{Strategy}
use Rattle.stretch_bench.specs.Call.{Players}
use Rattle.stretch_bench.specs.Commands.{Spells, form_of, spelling_of}
use Rattle.stretch_bench.specs.Play.{IsFirstNamed, IsPlayOf, name_at}
use Rattle.stretch_bench.specs.declared.command.Command.{Command}
use Rattle.stretch_bench.specs.declared.command.Command.TheVariants.{Play}
use Rattle.stretch_bench.proofs.WordLemmas.{length_spelled, other_text, two_of, word_at}

pub play_words : (words : List (String Global)) (first name : String Global) (word read : List ℕ) → 2 ≤ length words → length words < 3
    → first ≡ get_or words 0 first → word ≡ string_bytes first → true ≡ pointwise nat_eq word (codes "play") → name ≡ get_or words 1 name
    → read ≡ string_bytes name → spelling_of words ≡ codes "play" ∷ read ∷ []
play_words words first name word read low high first_at first_is same name_at name_is =
    two_of (spelling_of words) (omega (arith, length_spelled words, low, high))
    ∙ ap (λ (w : List ℕ). w ∷ get_or (spelling_of words) 1 [] ∷ []) (word_at words 0 first word (omega (arith, low)) first_at first_is ∙ same_text word (codes "play") same)
    ∙ ap (λ (w : List ℕ). codes "play" ∷ w ∷ []) (word_at words 1 name read (omega (arith, low)) name_at name_is)

-- the name of a player that stands at a place
pub name_there : (names : List (List ℕ)) (name : List ℕ) (place : ℕ) → IsFirstNamed names name place → name_at names place ≡ name
name_there names name place named = ap (λ (o : Option (List ℕ)). unwrap_or o []) named.here

-- the player of a play by the name in its words
pub player_named : (players : Players) (words : List (List ℕ)) (read : List ℕ) (r : Option ℕ) → words ≡ codes "play" ∷ read ∷ []
    → MatchOption r ((place : ℕ) → IsFirstNamed players.names read place → ⊥) (IsFirstNamed players.names read)
    → MatchOption r ((place : ℕ) → Spells players words (Play place) → ⊥) (λ place. Spells players words (Play place))
player_named players words read (Some place) e named =
    let is = name_there players.names read place named in
    record {
      spelled = e ∙ ap (λ (name : List ℕ). codes "play" ∷ name ∷ []) (sym is);
      allowed = subst (λ (name : List ℕ). IsFirstNamed players.names name place) (sym is) named;
    }
player_named players words read None e none = λ place spells.
    let same : name_at players.names place ≡ read = ap (λ (ws : List (List ℕ)). get_or ws 1 []) (sym spells.spelled ∙ e) in
    none place (subst (λ (name : List ℕ). IsFirstNamed players.names name place) same spells.allowed)

-- ---- names of players

pub named_at : {X Y : Type 0} (name_of : X → Y) (xs : List X) (k : ℕ) (x : X) → k < length xs → x ≡ get_or xs k x → slice_get (map name_of xs) k ≡ Some (name_of x)
named_at name_of xs k x l at = slice_get-map name_of xs k ∙ ap (λ o. option_map name_of o) (slice_get-get_or xs k x l ∙ ap Some (sym at))

-- the element at a place has this name
pub named_here : {X : Type 0} (name_of : X → List ℕ) (xs : List X) (k : ℕ) (x : X) (read name : List ℕ) → k < length xs → x ≡ get_or xs k x
    → read ≡ name_of x → true ≡ pointwise nat_eq read name → slice_get (map name_of xs) k ≡ Some name
named_here name_of xs k x read name l at is same =
    named_at name_of xs k x l at ∙ ap Some (sym is ∙ same_text read name same)

-- none before has the name, and this one has not
pub not_named_here : {X : Type 0} (name_of : X → List ℕ) (xs : List X) (k : ℕ) (x : X) (read name : List ℕ) → k < length xs → x ≡ get_or xs k x
    → read ≡ name_of x → false ≡ pointwise nat_eq read name
    → ((earlier : ℕ) → earlier < k → slice_get (map name_of xs) earlier ≢ Some name)
    → (earlier : ℕ) → earlier < k + 1 → slice_get (map name_of xs) earlier ≢ Some name
not_named_here name_of xs k x read name l at is differ before earlier less =
    ⊎_elim
    (λ (sooner : earlier < k). before earlier sooner)
    (λ (not : k ≤ earlier).
    let here : earlier ≡ k = omega arith in
    λ e.
    let found : Some (name_of x) ≡ Some name =
    sym (named_at name_of xs k x l at) ∙ ap (λ n. slice_get (map name_of xs) n) (sym here) ∙ e in
    let same : name_of x ≡ name = (cc) in
    other_text read (name_of x) name is differ same)
    (cases_lt earlier k)

-- no place has the name
pub none_named : {X : Type 0} (name_of : X → List ℕ) (xs : List X) (k : ℕ) (name : List ℕ) → length xs ≤ k
    → ((earlier : ℕ) → earlier < k → slice_get (map name_of xs) earlier ≢ Some name) → (place : ℕ) → IsFirstNamed (map name_of xs) name place → ⊥
none_named name_of xs k name l before place named =
    ⊎_elim
    (λ (sooner : place < k). before place sooner named.here)
    (λ (not : k ≤ place).
    let out : Some name ≡ None = sym named.here ∙ slice_get_past (map name_of xs) place (omega (arith, length-map xs name_of)) in
    absurd cc)
    (cases_lt place k)

-- the player of a play that is allowed stands in the list
pub place_within : (players : Players) (command : Command) (place : ℕ) → command ≡ Play place → (form_of players command).IsAllowed → place < length players.names
place_within players command place e allowed =
    slice_get_within players.names place (name_at players.names place)
    (subst (λ (x : Command). (form_of players x).IsAllowed) e allowed).here

-- ---- the play

-- the play of a pool's nodes is that of the strategy that it was made from
pub play_of_pool : (name : List ℕ) (answer : GameNumbers → List ℕ → ℕ) (strategy : Strategy) (pool : adversary.Pool) (root : ℕ) (text : List ℕ)
    (transcript : Transcript) → strategy ≡ adversary.strategy_of pool → root ≡ length pool.nodes - 1
    → play pool.game pool.nodes root (answer pool.game) ≡ Some (play_of transcript) → IsLost pool.game (play_of transcript)
    → text ≡ play_text name strategy.game transcript → IsPlayOf name answer strategy text
play_of_pool name answer strategy pool root text transcript e last played lost lines =
    let made : IsPlayOf name answer (adversary.strategy_of pool) text = record {
      nodes = pool.nodes;
      of_adversary = refl;
      transcript = transcript;
      played = subst (λ r. play pool.game pool.nodes r (answer pool.game) ≡ Some (play_of transcript)) last played;
      lost = lost;
      lines = lines ∙ ap (λ (s : Strategy). play_text name s.game transcript) e;
    } in
    subst (λ (s : Strategy). IsPlayOf name answer s text) (sym e) made
