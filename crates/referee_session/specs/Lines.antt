-- The lines of a session: what is said, and what is answered.
use Rattle.std.specs.Prelude.{ℕ, List, [], ◌∷◌, ◌++◌, codes, decimal, Option, Some, None}
use Rattle.std.specs.List.{flat_map}
use Rattle.port_io.specs.Lines.{with_lf}
use Rattle.items.specs.Game.{GameNumbers}
use Rattle.online_play.specs.Algorithm.{prefixes}
use Rattle.strategy_text.specs.declared.node.AdvNode.{AdvNode}
use Rattle.strategy_text.specs.Text.{line_of, list_words}
use Rattle.referee_session.specs.Talk.{Talk, due_at, loads_of, talk}

-- the first line tells the game
abbrev pub session_line : GameNumbers → List ℕ
session_line game =
    with_lf (line_of (codes "session" ∷ decimal game.bins ∷ decimal game.capacity ∷ decimal game.target ∷ []))

-- an item that waits for its bin
abbrev pub item_line : ℕ → List ℕ
item_line size = with_lf (line_of (codes "item" ∷ decimal size ∷ []))

-- the end of a play: the loads by bin number
abbrev pub lost_line : List ℕ → List ℕ
lost_line loads = with_lf (line_of (codes "lost" ∷ codes "loads" ∷ list_words loads))

-- the line for the item that is due, or for the loads where none is
abbrev pub line_for : Option ℕ → List ℕ → List ℕ
line_for (Some size) loads = item_line size
line_for None loads = lost_line loads

-- the line that is said where a talk stands
abbrev pub line_at : GameNumbers → List AdvNode → Talk → List ℕ
line_at game nodes t = line_for (due_at nodes t.stand) (loads_of game t)

-- what is said in a talk of these answers: the game, and a line before the first answer and after each
unfoldable pub said : GameNumbers → List AdvNode → ℕ → List ℕ → List ℕ
said game nodes root bins =
    session_line game ++ flat_map (λ answers. line_at game nodes (talk game nodes root answers)) ([] ∷ prefixes bins)

-- the input ended after so many answers
abbrev pub ended_line : ℕ → List ℕ
ended_line count = with_lf (line_of (codes "ended" ∷ decimal count ∷ []))

-- the answer of this number, counted from 1, is none
abbrev pub bad_line : ℕ → List ℕ
bad_line number = with_lf (line_of (codes "badanswer" ∷ decimal number ∷ []))

-- the line, without its line feed, that answers a bin
abbrev pub bin_line : ℕ → List ℕ
bin_line bin = line_of (codes "bin" ∷ decimal bin ∷ [])

-- the lines of answers
abbrev pub answer_lines : List ℕ → List ℕ
answer_lines bins = flat_map (λ bin. with_lf (bin_line bin)) bins
