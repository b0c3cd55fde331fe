-- Words spell one command at most: the first word is the name of the command, and names differ.
use Rattle.std.proofs.Common.{◌≡◌, ◌<◌, ◌≤◌, false, true, ⊎_elim, ℕ, All, Some, List, [], ◌∷◌, get_or, drop, map, decimal, refl, ap, sym, ◌∙◌, arith}
use Rattle.std.proofs.lemmas.Bool.{cases_lt}
use Rattle.std.proofs.lemmas.Fmt.{decimal_injective}
use Rattle.std.proofs.lemmas.List.Elements.{All-head, All-tail}
use Rattle.std.specs.Cmp.Lexicographic.{pointwise, bytes_decides}
use Rattle.std.specs.Prelude.{nat_eq}
use Rattle.items.specs.Game.{GameNumbers, IsGame, numbers}
use Rattle.items.specs.Multiset.{IsSize}
use Rattle.stretch_bench.specs.Answer.{most_item}
use Rattle.stretch_bench.specs.Commands.{WordsSpellOneCommand, form_of}
use Rattle.stretch_bench.specs.Play.{IsFirstNamed, name_at}
use Rattle.stretch_bench.specs.declared.command.Command.TheVariants.{Check, Play, Answer, Minimise, Upgrade, Report, Drill, Search, Session}
use Rattle.stretch_bench.specs.declared.command.Command.TheVariants.{Force, Scale, Value, Weaken}

-- two names that differ
differ : (a b : List ℕ) (words rest more : List (List ℕ)) → pointwise nat_eq a b ≡ false → words ≡ a ∷ rest → words ≡ b ∷ more → ⊥
differ a b words rest more other e f =
    let same : a ≡ b = ap (λ (ws : List (List ℕ)). get_or ws 0 []) (sym e ∙ f) in
    let both : false ≡ true = sym other ∙ (bytes_decides a b).1 same in
    absurd cc

-- the word at a place of two spellings
at : (k : ℕ) (words one other : List (List ℕ)) → words ≡ one → words ≡ other → get_or one k [] ≡ get_or other k []
at k words one other e f = ap (λ (ws : List (List ℕ)). get_or ws k []) (sym e ∙ f)

-- a name stands first at one place
one_place : (names : List (List ℕ)) (one other : ℕ) → IsFirstNamed names (name_at names one) one → IsFirstNamed names (name_at names other) other
    → name_at names one ≡ name_at names other → one ≡ other
one_place names one other e f same =
    ⊎_elim
    (λ (less : one < other). absurd (f.first one less (e.here ∙ ap Some same)))
    (λ (not_less : other ≤ one).
    ⊎_elim
    (λ (more : other < one). absurd (e.first other more (f.here ∙ ap Some (sym same))))
    (λ (not_more : one ≤ other). omega (arith, not_less, not_more))
    (cases_lt other one))
    (cases_lt one other)

-- items are told by their words
one_list : (one other : List ℕ) → All (IsSize most_item) one → All (IsSize most_item) other → map decimal one ≡ map decimal other → one ≡ other
one_list [] [] e f same = refl
one_list [] (y ∷ ys) e f same = absurd cc
one_list (x ∷ xs) [] e f same = absurd cc
one_list (x ∷ xs) (y ∷ ys) e f same =
    let head : x ≡ y = decimal_injective x y (omega (arith, (All-head (IsSize most_item) x xs e).high)) (omega (arith, (All-head (IsSize most_item) y ys f).high))
    (ap (λ (ws : List (List ℕ)). get_or ws 0 []) same) in
    let tail : xs ≡ ys = one_list xs ys (All-tail (IsSize most_item) x xs e) (All-tail (IsSize most_item) y ys f) (ap (λ (ws : List (List ℕ)). drop 1 ws) same) in
    cc

-- the numbers of a game are told by their words
one_game : (one other : GameNumbers) → IsGame one → IsGame other → decimal one.bins ≡ decimal other.bins → decimal one.capacity ≡ decimal other.capacity
    → decimal one.target ≡ decimal other.target → one ≡ other
one_game one other e f bins capacity target =
    let m = decimal_injective one.bins other.bins (omega (arith, e.bins.high)) (omega (arith, f.bins.high)) bins in
    let g = decimal_injective one.capacity other.capacity (omega (arith, e.capacity.high)) (omega (arith, f.capacity.high)) capacity in
    let t = decimal_injective one.target other.target (omega (arith, e.capacity.high, e.target.high)) (omega (arith, f.capacity.high, f.target.high)) target in
    λ i. numbers (m i) (g i) (t i)

pub words_spell_one_command : WordsSpellOneCommand
words_spell_one_command players words Check Check e f = refl
words_spell_one_command players words (Play one) (Play other) e f =
    ap Play (one_place players.names one other e.allowed f.allowed (at 1 words _ _ e.spelled f.spelled))
words_spell_one_command players words (Answer one) (Answer other) e f =
    ap Answer (one_list one other e.allowed f.allowed (ap (λ (ws : List (List ℕ)). drop 1 ws) (sym e.spelled ∙ f.spelled)))
words_spell_one_command players words Minimise Minimise e f = refl
words_spell_one_command players words Upgrade Upgrade e f = refl
words_spell_one_command players words Report Report e f = refl
words_spell_one_command players words (Drill number copies) (Drill other more) e f =
    let numbers = decimal_injective number other (omega (arith, e.allowed.in_range)) (omega (arith, f.allowed.in_range)) (at 1 words _ _ e.spelled f.spelled) in
    let times = decimal_injective copies more (omega (arith, e.allowed.most)) (omega (arith, f.allowed.most)) (at 2 words _ _ e.spelled f.spelled) in
    λ i. Drill (numbers i) (times i)
words_spell_one_command players words (Search game budget table) (Search other visits entries) e f =
    let games = one_game game other e.allowed.of_game f.allowed.of_game (at 1 words _ _ e.spelled f.spelled) (at 2 words _ _ e.spelled f.spelled)
    (at 3 words _ _ e.spelled f.spelled) in
    let budgets = decimal_injective budget visits (omega (arith, e.allowed.setting.most_visits)) (omega (arith, f.allowed.setting.most_visits))
    (ap (λ (word : List ℕ). drop 7 word) (at 4 words _ _ e.spelled f.spelled)) in
    let tables = decimal_injective table entries (omega (arith, e.allowed.setting.most_entries)) (omega (arith, f.allowed.setting.most_entries))
    (ap (λ (word : List ℕ). drop 6 word) (at 5 words _ _ e.spelled f.spelled)) in
    λ i. Search (games i) (budgets i) (tables i)
words_spell_one_command players words Session Session e f = refl
words_spell_one_command players words (Scale factor) (Scale other) e f =
    ap Scale (decimal_injective factor other (omega (arith, e.allowed.most)) (omega (arith, f.allowed.most)) (at 1 words _ _ e.spelled f.spelled))
words_spell_one_command players words (Weaken target) (Weaken other) e f =
    ap Weaken (decimal_injective target other (omega (arith, e.allowed.most)) (omega (arith, f.allowed.most)) (at 1 words _ _ e.spelled f.spelled))
words_spell_one_command players words (Value bins capacity budget table) (Value other more visits entries) e f =
    let numbers = decimal_injective bins other (omega (arith, e.allowed.of_bins.high)) (omega (arith, f.allowed.of_bins.high)) (at 1 words _ _ e.spelled f.spelled) in
    let sizes = decimal_injective capacity more (omega (arith, e.allowed.of_capacity.high)) (omega (arith, f.allowed.of_capacity.high))
    (at 2 words _ _ e.spelled f.spelled) in
    let budgets = decimal_injective budget visits (omega (arith, e.allowed.setting.most_visits)) (omega (arith, f.allowed.setting.most_visits))
    (ap (λ (word : List ℕ). drop 7 word) (at 3 words _ _ e.spelled f.spelled)) in
    let tables = decimal_injective table entries (omega (arith, e.allowed.setting.most_entries)) (omega (arith, f.allowed.setting.most_entries))
    (ap (λ (word : List ℕ). drop 6 word) (at 4 words _ _ e.spelled f.spelled)) in
    λ i. Value (numbers i) (sizes i) (budgets i) (tables i)
words_spell_one_command players words (Force game pass budget table) (Force other first visits entries) e f =
    let games = one_game game other e.allowed.of_game f.allowed.of_game (at 1 words _ _ e.spelled f.spelled) (at 2 words _ _ e.spelled f.spelled)
    (at 3 words _ _ e.spelled f.spelled) in
    let passes = decimal_injective pass first (omega (arith, e.allowed.a_pass, e.allowed.of_game.capacity.high))
    (omega (arith, f.allowed.a_pass, f.allowed.of_game.capacity.high)) (ap (λ (word : List ℕ). drop 5 word) (at 4 words _ _ e.spelled f.spelled)) in
    let budgets = decimal_injective budget visits (omega (arith, e.allowed.most_visits)) (omega (arith, f.allowed.most_visits))
    (ap (λ (word : List ℕ). drop 7 word) (at 5 words _ _ e.spelled f.spelled)) in
    let tables = decimal_injective table entries (omega (arith, e.allowed.most_entries)) (omega (arith, f.allowed.most_entries))
    (ap (λ (word : List ℕ). drop 6 word) (at 6 words _ _ e.spelled f.spelled)) in
    λ i. Force (games i) (passes i) (budgets i) (tables i)
words_spell_one_command players words one other e f =
    absurd (differ (form_of players one).name (form_of players other).name words (form_of players one).arguments (form_of players other).arguments refl e.spelled
    f.spelled)
