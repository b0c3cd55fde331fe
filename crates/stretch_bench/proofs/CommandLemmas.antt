-- The command that words spell, among all commands.
use Rattle.std.proofs.Common.{◌≡◌, ℕ, List, [], ◌∷◌, true, false, IsTrue, Option, Some, None, codes, subst}
use Rattle.std.specs.Prelude.{MatchOption}
use Rattle.items.specs.Game.{GameNumbers}
use Rattle.stretch_bench.specs.Call.{Players}
use Rattle.stretch_bench.specs.Commands.{Spells, SpellsNone}
use Rattle.stretch_bench.specs.declared.command.Command.{Command}
use Rattle.stretch_bench.specs.declared.command.Command.TheVariants.{Check, Play, Answer, Minimise, Upgrade, Report, Drill, Search, Session}
use Rattle.stretch_bench.specs.declared.command.Command.TheVariants.{Force, Scale, Value, Weaken}

-- what was read is spelled
pub items_spelled : (players : Players) (words : List (List ℕ)) (r : Option (List ℕ)) (items : List ℕ)
    → MatchOption r ((items : List ℕ) → Spells players words (Answer items) → ⊥) (λ items. Spells players words (Answer items)) → r ≡ Some items
    → Spells players words (Answer items)
items_spelled players words r items told is =
    subst (λ (o : Option (List ℕ)). MatchOption o ((items : List ℕ) → Spells players words (Answer items) → ⊥) (λ items. Spells players words (Answer items))) is told

pub no_items : (players : Players) (words : List (List ℕ)) (r : Option (List ℕ))
    → MatchOption r ((items : List ℕ) → Spells players words (Answer items) → ⊥) (λ items. Spells players words (Answer items)) → r ≡ None
    → (items : List ℕ) → Spells players words (Answer items) → ⊥
no_items players words r told is =
    subst (λ (o : Option (List ℕ)). MatchOption o ((items : List ℕ) → Spells players words (Answer items) → ⊥) (λ items. Spells players words (Answer items))) is told

untrue : IsTrue false → ⊥
untrue t = let wrong : false ≡ true = t in absurd cc

-- no reader found the words of its command
pub record FindsNone (players : Players) (words : List (List ℕ)) : Type 0 where
  pub check : words ≡ codes "check" ∷ [] → IsTrue false
  pub minimise : words ≡ codes "minimise" ∷ [] → IsTrue false
  pub upgrade : words ≡ codes "upgrade" ∷ [] → IsTrue false
  pub report : words ≡ codes "report" ∷ [] → IsTrue false
  pub session : words ≡ codes "session" ∷ [] → IsTrue false
  pub play : (place : ℕ) → Spells players words (Play place) → ⊥
  pub drill : (number copies : ℕ) → Spells players words (Drill number copies) → ⊥
  pub searches : (game : GameNumbers) (budget table : ℕ) → Spells players words (Search game budget table) → ⊥
  pub scales : (factor : ℕ) → Spells players words (Scale factor) → ⊥
  pub weakens : (target : ℕ) → Spells players words (Weaken target) → ⊥
  pub values : (bins capacity budget table : ℕ) → Spells players words (Value bins capacity budget table) → ⊥
  pub forces : (game : GameNumbers) (pass budget table : ℕ) → Spells players words (Force game pass budget table) → ⊥
  pub answer : (items : List ℕ) → Spells players words (Answer items) → ⊥

-- words that spell none of the commands
pub none_spelled : (players : Players) (words : List (List ℕ)) → FindsNone players words → SpellsNone players words
none_spelled players words none Check spells = untrue (none.check spells.spelled)
none_spelled players words none Minimise spells = untrue (none.minimise spells.spelled)
none_spelled players words none Upgrade spells = untrue (none.upgrade spells.spelled)
none_spelled players words none Report spells = untrue (none.report spells.spelled)
none_spelled players words none Session spells = untrue (none.session spells.spelled)
none_spelled players words none (Play place) spells = none.play place spells
none_spelled players words none (Drill number copies) spells = none.drill number copies spells
none_spelled players words none (Search game budget table) spells = none.searches game budget table spells
none_spelled players words none (Scale factor) spells = none.scales factor spells
none_spelled players words none (Weaken target) spells = none.weakens target spells
none_spelled players words none (Value bins capacity budget table) spells = none.values bins capacity budget table spells
none_spelled players words none (Force game pass budget table) spells = none.forces game pass budget table spells
none_spelled players words none (Answer items) spells = none.answer items spells

-- the command that was read is spelled
pub spelled_of : (players : Players) (words : List (List ℕ)) (r : Option Command) (command : Command)
    → MatchOption r (SpellsNone players words) (Spells players words) → r ≡ Some command → Spells players words command
spelled_of players words r command told is = subst (λ (o : Option Command). MatchOption o (SpellsNone players words) (Spells players words)) is told

pub none_of : (players : Players) (words : List (List ℕ)) (r : Option Command)
    → MatchOption r (SpellsNone players words) (Spells players words) → r ≡ None → SpellsNone players words
none_of players words r told is = subst (λ (o : Option Command). MatchOption o (SpellsNone players words) (Spells players words)) is told

-- the words spell a command under another name
pub spells_as : (players : Players) (words : List (List ℕ)) (one other : Command) → one ≡ other → Spells players words one → Spells players words other
spells_as players words one other e spells = subst (Spells players words) e spells
