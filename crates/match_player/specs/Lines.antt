-- The lines that tell a play, or the answers of an algorithm to a list of items.
use Rattle.std.specs.Prelude.{ℕ, List, [], ◌∷◌, ◌++◌, decimal, codes}
use Rattle.items.specs.Game.{GameNumbers}
use Rattle.match_player.specs.declared.answered.Answered.{Answered}
use Rattle.online_play.specs.declared.transcript.Transcript.{Transcript}
use Rattle.strategy_text.specs.Text.{line_of, list_words, pack_words, text_of_lines}

-- the bins, the capacity and the target
abbrev pub game_words : GameNumbers → List (List ℕ)
game_words game = decimal game.bins ∷ decimal game.capacity ∷ decimal game.target ∷ []

-- the line of a list after its label
abbrev pub list_line : List ℕ → List ℕ → List ℕ
list_line label list = line_of (label ∷ list_words list)

-- the items in the order in which they came, the bin of each, and the loads by the numbers of the bins
abbrev pub run_lines : List ℕ → List ℕ → List ℕ → List (List ℕ)
run_lines items bins loads =
    list_line (codes "items") items ∷ list_line (codes "bins") bins ∷ list_line (codes "loads") loads ∷ []

-- the line of a packing, with a slash between two of its lists
abbrev pub pack_line : List (List ℕ) → List ℕ
pack_line packing = line_of (codes "pack" ∷ pack_words packing)

-- a play against the player of this name
abbrev pub play_lines : List ℕ → GameNumbers → Transcript → List (List ℕ)
play_lines name game play =
    line_of (codes "play" ∷ name ∷ game_words game)
    ∷ run_lines play.items play.bins play.loads ++ pack_line play.packing ∷ []

-- what an algorithm answered
abbrev pub answer_lines : GameNumbers → Answered → List (List ℕ)
answer_lines game answered =
    line_of (codes "answer" ∷ game_words game) ∷ run_lines answered.items answered.bins answered.loads

-- the text of a play against the player of this name
unfoldable pub play_text : List ℕ → GameNumbers → Transcript → List ℕ
play_text name game play = text_of_lines (play_lines name game play)

-- the text of what an algorithm answered
unfoldable pub answer_text : GameNumbers → Answered → List ℕ
answer_text game answered = text_of_lines (answer_lines game answered)
