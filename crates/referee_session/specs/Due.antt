-- What is due of a referee, over the lines that come.
use Rattle.std.specs.Prelude.{◌≡◌, ◌⊎◌, ℕ, ◌+◌, ◌<◌, List, [], ◌++◌, Option, Some, None, All, length}
use Rattle.port_io.specs.declared.lines.Line.{Line}
use Rattle.port_io.specs.declared.lines.Line.TheVariants.{Text, End, TooLong, Unfinished}
use Rattle.port_io.specs.Lines.{IsLine, StandsNext, with_lf}
use Rattle.adversary_graph.specs.Pools.{Pool}
use Rattle.referee_session.specs.Halt.{Halt}
use Rattle.referee_session.specs.Halt as why
use Rattle.referee_session.specs.Lines.{answer_lines, bad_line, bin_line, ended_line, said}
use Rattle.referee_session.specs.Session.{talk_in}
use Rattle.referee_session.specs.Talk.{IsEnd}

-- what is said in a talk over the nodes of a pool
abbrev pub said_in : Pool → ℕ → List ℕ → List ℕ
said_in pool root bins = said pool.game pool.nodes root bins

-- the play has ended after these answers
abbrev pub IsOver : Pool → ℕ → List ℕ → Type 0
IsOver pool root bins = IsEnd (talk_in pool root bins).stand

-- bins of the game, of which each was asked for: none goes on after the play's end
pub record AreAnswers (pool : Pool) (root : ℕ) (bins : List ℕ) : Type 0 where
  pub below : All (λ bin. bin < pool.game.bins) bins
  pub asked : (talk_in pool root bins).bins ≡ bins

-- a line that answers no bin of the game
abbrev pub IsNoAnswer : Pool → List ℕ → Type 0
IsNoAnswer pool line = (bin : ℕ) → bin < pool.game.bins → line ≡ bin_line bin → ⊥

-- the ending that a reader of lines has met; a whole line is none
abbrev pub met_by : Option Line → Option Line
met_by None = None
met_by (Some Text) = None
met_by (Some End) = Some End
met_by (Some TooLong) = Some TooLong
met_by (Some Unfinished) = Some Unfinished

-- what stands next for a reader that has met an ending is this ending, and else what stands next in the bytes
abbrev pub ComesNext : Option Line → Line → List ℕ → Type 0
ComesNext None line bytes = StandsNext line bytes
ComesNext (Some met) line bytes = line ≡ met

-- the next line is there whole, and is no answer
pub record HasOther (pool : Pool) (met : Option Line) (line bytes : List ℕ) : Type 0 where
  pub not_met : met ≡ None
  pub is_line : IsLine line
  pub no_answer : IsNoAnswer pool line
  pub rest : List ℕ
  pub first : bytes ≡ with_lf line ++ rest

-- after these answers no further one is asked for, or none comes, for this reason; the bytes are those after the
-- answers
abbrev pub HaltsAt : Pool → ℕ → Option Line → List ℕ → List ℕ → Halt → Type 0
HaltsAt pool root met bins bytes why.lost = IsOver pool root bins
HaltsAt pool root met bins bytes why.ended = ¬ (IsOver pool root bins) × ComesNext met End bytes
HaltsAt pool root met bins bytes why.cut =
    ¬ (IsOver pool root bins) × (ComesNext met Unfinished bytes ⊎ ComesNext met TooLong bytes)
HaltsAt pool root met bins bytes (why.other line) = ¬ (IsOver pool root bins) × HasOther pool met line bytes

-- the bytes are the lines of these answers, as many as are asked for and come, and then the talk halts for this reason
pub record Comes (pool : Pool) (root : ℕ) (met : Option Line) (bytes bins : List ℕ) (halt : Halt) : Type 0 where
  pub answers : AreAnswers pool root bins
  pub unmet : (bins ≡ []) ⊎ (met ≡ None)
  pub rest : List ℕ
  pub lines : bytes ≡ answer_lines bins ++ rest
  pub halts : HaltsAt pool root met bins rest halt

-- the line that closes a talk after so many answers
abbrev pub closing : ℕ → Halt → List ℕ
closing count why.lost = []
closing count why.ended = ended_line count
closing count why.cut = bad_line (count + 1)
closing count (why.other line) = bad_line (count + 1)

-- the text that is due
abbrev pub due_text : Pool → ℕ → List ℕ → Halt → List ℕ
due_text pool root bins halt = said_in pool root bins ++ closing (length bins) halt
