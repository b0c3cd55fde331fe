-- The laws of talks, and of what is due of a referee.
use Rattle.std.specs.Prelude.{◌≡◌, ◌⊎◌, ℕ, ◌+◌, ◌*◌, ◌<◌, ◌≤◌, List, [], ◌++◌, Option, None, Some, All, Any, length}
use Rattle.std.specs.Prelude.{take}
use Rattle.port_io.specs.declared.lines.Line.{Line}
use Rattle.items.specs.Packable.{Packable}
use Rattle.online_play.specs.Algorithm.{bins_of}
use Rattle.adversary_graph.specs.Play.{End, Play, end_of, play}
use Rattle.adversary_graph.specs.Pools.{IsPool, IsRoot, Pool}
use Rattle.referee_session.specs.Due.{AreAnswers, Comes, IsOver, due_text, met_by, said_in}
use Rattle.referee_session.specs.Halt.{Halt}
use Rattle.referee_session.specs.Lines.{answer_lines}
use Rattle.referee_session.specs.Session.{talk_in}
use Rattle.referee_session.specs.Talk.{answers_from, loads_of, packing_at, talk_to}
use Rattle.referee_session.specs.declared.stand.Stand.TheVariants.{Ended}

-- the talk of the bins that an algorithm answers along its play comes to the end of the play
abbrev pub PlaysAreTalks : Type 0
PlaysAreTalks =
    (pool : Pool) (root : ℕ) (answer : List ℕ → ℕ) (end : End) → IsPool pool
    → end_of pool.game answer pool.nodes (root + 1) root [] ≡ Some end
    → talk_in pool root (bins_of answer end.items) ≡ talk_to end.items (bins_of answer end.items) (Ended end.number)

-- the play of the algorithm that answers the bins of a talk is this talk
pub record IsPlayOf (pool : Pool) (root : ℕ) (bins : List ℕ) (played : Play) : Type 0 where
  pub is : play pool.game pool.nodes root (answers_from bins) ≡ Some played
  pub items : played.items ≡ (talk_in pool root bins).items
  pub bins_are : played.bins ≡ bins
  pub loads : played.loads ≡ loads_of pool.game (talk_in pool root bins)
  pub packing : packing_at pool.game pool.nodes (talk_in pool root bins).items (talk_in pool root bins).stand
      ≡ Some played.packing

-- a talk that has ended is the play against the algorithm that answers its bins
abbrev pub TalksArePlays : Type 0
TalksArePlays =
    (pool : Pool) (root : ℕ) (bins : List ℕ) → IsPool pool → IsRoot pool.nodes root → AreAnswers pool root bins
    → IsOver pool root bins → (played : Play) × IsPlayOf pool root bins played

-- the algorithm has lost a talk: a load reached the target, and the items are packable
pub record IsLost (pool : Pool) (root : ℕ) (bins : List ℕ) : Type 0 where
  pub answers : AreAnswers pool root bins
  pub over : IsOver pool root bins
  pub packable : Packable pool.game (talk_in pool root bins).items
  pub reached : Any (λ load. pool.game.target ≤ load) (loads_of pool.game (talk_in pool root bins))

-- a list of as many bins as there can be items has a prefix at whose end the play has ended, and the algorithm lost it
abbrev pub EachTalkEnds : Type 0
EachTalkEnds =
    (pool : Pool) (root : ℕ) (bins : List ℕ) → IsPool pool → IsRoot pool.nodes root
    → All (λ bin. bin < pool.game.bins) bins → length bins ≡ pool.game.bins * pool.game.capacity
    → (count : ℕ) × (count ≤ length bins) × IsLost pool root (take count bins)

-- where the play has ended, the algorithm has lost
abbrev pub EachEndIsLost : Type 0
EachEndIsLost =
    (pool : Pool) (root : ℕ) (bins : List ℕ) → IsPool pool → IsRoot pool.nodes root → AreAnswers pool root bins
    → IsOver pool root bins → IsLost pool root bins

-- whatever comes, some list of answers comes, and then a reason to halt
abbrev pub SomeTextIsDue : Type 0
SomeTextIsDue =
    (pool : Pool) (root : ℕ) (met : Option Line) (bytes : List ℕ) → IsPool pool → IsRoot pool.nodes root
    → (bins : List ℕ) × (halt : Halt) × Comes pool root (met_by met) bytes bins halt

-- whatever comes, only one list of answers comes, and only one reason to halt
abbrev pub OneTextIsDue : Type 0
OneTextIsDue =
    (pool : Pool) (root : ℕ) (met : Option Line) (bytes bins others : List ℕ) (halt reason : Halt) → IsPool pool
    → Comes pool root met bytes bins halt → Comes pool root met bytes others reason → (bins ≡ others) × (halt ≡ reason)

-- what is said to answers that come is the front of the text that is due
abbrev pub SaidIsAtTheFront : Type 0
SaidIsAtTheFront =
    (pool : Pool) (root : ℕ) (met : Option Line) (bytes bins rest all : List ℕ) (halt : Halt) → IsPool pool
    → AreAnswers pool root bins → ((bins ≡ []) ⊎ (met ≡ None)) → bytes ≡ answer_lines bins ++ rest
    → Comes pool root met bytes all halt
    → (more : List ℕ) × (due_text pool root all halt ≡ said_in pool root bins ++ more)
