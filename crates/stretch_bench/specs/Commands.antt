-- The commands, and the words that spell them.
use Rattle.std.specs.Prelude.{◌≡◌, ℕ, List, ◌∷◌, map, String, string_bytes}
use Rattle.std.specs.declared.alloc.Global.{Global}
use Rattle.stretch_bench.specs.Call.{Players}
use Rattle.stretch_bench.specs.Form.{Form, Reads, reads_of}
use Rattle.stretch_bench.specs.declared.command.Command.{Command}
use Rattle.stretch_bench.specs.declared.command.Command.TheVariants.{Check, Play, Answer, Minimise, Upgrade}
use Rattle.stretch_bench.specs.declared.command.Command.TheVariants.{Report, Drill, Search, Session}
use Rattle.stretch_bench.specs.declared.command.Command.TheVariants.{Report, Drill, Search, Scale, Weaken, Value}
use Rattle.stretch_bench.specs.declared.command.Command.TheVariants.{Force}
use Rattle.stretch_bench.specs.Check.{check}
use Rattle.stretch_bench.specs.Play.{play_against}
use Rattle.stretch_bench.specs.Answer.{answer}
use Rattle.stretch_bench.specs.Minimise.{minimise}
use Rattle.stretch_bench.specs.Upgrade.{upgrade}
use Rattle.stretch_bench.specs.Report.{report}
use Rattle.stretch_bench.specs.Drill.{drill}
use Rattle.stretch_bench.specs.Search.{search}
use Rattle.stretch_bench.specs.Session.{session}
use Rattle.stretch_bench.specs.Scale.{scale}
use Rattle.stretch_bench.specs.Weaken.{weaken}
use Rattle.stretch_bench.specs.Value.{value}
use Rattle.stretch_bench.specs.Force.{force}

-- the list of commands
abbrev pub form_of : Players → Command → Form
form_of players Check = check
form_of players (Play place) = play_against players place
form_of players (Answer items) = answer items
form_of players Minimise = minimise
form_of players Upgrade = upgrade
form_of players Report = report
form_of players (Drill number copies) = drill number copies
form_of players (Search game budget table) = search game budget table
form_of players Session = session
form_of players (Scale factor) = scale factor
form_of players (Weaken target) = weaken target
form_of players (Value bins capacity budget table) = value bins capacity budget table
form_of players (Force game pass budget table) = force game pass budget table

-- what a command reads
abbrev pub reads_by : Players → Command → Reads
reads_by players command = reads_of (form_of players command).work

-- the words as bytes
abbrev pub spelling_of : List (String Global) → List (List ℕ)
spelling_of words = map string_bytes words

-- the words spell this command: its name and its arguments, and what these tell is allowed
pub record Spells (players : Players) (words : List (List ℕ)) (command : Command) : Type 0 where
  pub spelled : words ≡ (form_of players command).name ∷ (form_of players command).arguments
  pub allowed : (form_of players command).IsAllowed

-- the words spell no command
abbrev pub SpellsNone : Players → List (List ℕ) → Type 0
SpellsNone players words = (command : Command) → Spells players words command → ⊥

-- words spell one command at most
abbrev pub WordsSpellOneCommand : Type 0
WordsSpellOneCommand =
    (players : Players) (words : List (List ℕ)) (one other : Command)
    → Spells players words one → Spells players words other → one ≡ other
