-- The command `session`: a strategy of the adversary plays against answers that come line by line.
use Rattle.std.specs.Prelude.{◌≡◌, ℕ, ◌-◌, List, [], ◌++◌, codes, length, Option, None, IfSome}
use Rattle.std.specs.Io.KnownBytes.{append_known}
use Rattle.adversary_graph.specs.Pools.{Pool, pool_of}
use Rattle.checker.specs.declared.fault.Wanted.TheVariants.{Only}
use Rattle.port_io.specs.Lines.{HasNoLf}
use Rattle.port_io.specs.Told.{AppendsSome}
use Rattle.referee_session.specs.Due.{AreAnswers, Comes, IsOver, due_text, said_in}
use Rattle.referee_session.specs.Halt.{Halt, ending_of}
use Rattle.referee_session.specs.Laws.{IsLost}
use Rattle.referee_session.specs.Lines.{answer_lines}
use Rattle.referee_session.specs.declared.refereeing.Ending.{Ending}
use Rattle.referee_session.specs.declared.refereeing.Ending.TheVariants.{Lost}
use Rattle.strategy_text.specs.declared.node.AdvNode.{AdvNode}
use Rattle.strategy_text.specs.declared.node.Nodes.TheVariants as nodes_of_side
use Rattle.strategy_text.specs.declared.node.Side.TheVariants.{Adversary}
use Rattle.strategy_text.specs.declared.node.Strategy.{Strategy}
use Rattle.stretch_bench.specs.Form.{Form, IsReadFirst, in_turns}

-- the nodes of a strategy of the adversary as a pool
abbrev pub pool_in : Strategy → List AdvNode → Pool
pool_in strategy nodes = pool_of strategy.format strategy.game nodes

-- the node at which the play begins: the last one
abbrev pub last_of : List AdvNode → ℕ
last_of nodes = length nodes - 1

-- The talk of a strategy of the adversary came to this ending, and this is the text that is due then. The lines after
-- the text of the strategy, those that were read and those of the whole input, are the lines of the answers of these
-- bins, and then the talk halts. Where it was lost, a load has reached the target, and the items are packable.
pub record IsTalkOf (ending : Ending) (strategy : Strategy) (rest : List ℕ) (new_left : Option (List ℕ))
    (text : List ℕ) : Type 0 where
  pub nodes : List AdvNode
  pub of_adversary : strategy.nodes ≡ nodes_of_side.Adversary nodes
  pub bins : List ℕ
  pub halt : Halt
  pub is : ending ≡ ending_of halt
  pub came : Comes (pool_in strategy nodes) (last_of nodes) None rest bins halt
  pub comes : IfSome new_left (λ more. Comes (pool_in strategy nodes) (last_of nodes) None (rest ++ more) bins halt)
  pub lost : ending ≡ Lost → IsLost (pool_in strategy nodes) (last_of nodes) bins
  pub spelled : text ≡ due_text (pool_in strategy nodes) (last_of nodes) bins halt

-- The talk of a strategy of the adversary goes on after the answers whose lines were read whole, and this is what is
-- said to them.
pub record IsTalkCut (strategy : Strategy) (rest text : List ℕ) : Type 0 where
  pub nodes : List AdvNode
  pub of_adversary : strategy.nodes ≡ nodes_of_side.Adversary nodes
  pub bins : List ℕ
  pub answers : AreAnswers (pool_in strategy nodes) (last_of nodes) bins
  pub going_on : ¬ (IsOver (pool_in strategy nodes) (last_of nodes) bins)
  pub cut : List ℕ
  pub no_lf : HasNoLf cut
  pub lines : rest ≡ answer_lines bins ++ cut
  pub spelled : text ≡ said_in (pool_in strategy nodes) (last_of nodes) bins

-- what is due of a referee over these bytes begins with a text
pub record DueBeginsWith (pool : Pool) (root : ℕ) (bytes text : List ℕ) : Type 0 where
  pub bins : List ℕ
  pub halt : Halt
  pub comes : Comes pool root None bytes bins halt
  pub more : List ℕ
  pub begins : due_text pool root bins halt ≡ text ++ more

-- A text is what is said to answers that came: the front of what is due over the whole input.
pub record IsPartOfTalk (strategy : Strategy) (rest : List ℕ) (new_left : Option (List ℕ)) (text : List ℕ)
    : Type 0 where
  pub nodes : List AdvNode
  pub of_adversary : strategy.nodes ≡ nodes_of_side.Adversary nodes
  pub bins : List ℕ
  pub answers : AreAnswers (pool_in strategy nodes) (last_of nodes) bins
  pub ahead : List ℕ
  pub lines : rest ≡ answer_lines bins ++ ahead
  pub spelled : text ≡ said_in (pool_in strategy nodes) (last_of nodes) bins
  pub front : IfSome new_left (λ more. DueBeginsWith (pool_in strategy nodes) (last_of nodes) (rest ++ more) text)

-- an answer was asked for and not read: what is said to the answers before it was written, no more and no less
pub record IsUnanswered (left new_left written new_written : Option (List ℕ)) : Type 0 where
  pub text : List ℕ
  pub talk : IsReadFirst (Only Adversary) left new_left (λ strategy rest. IsTalkCut strategy rest text)
  pub told : new_written ≡ append_known written text

-- of what is said to answers that came a prefix was written, but not all of it
pub record IsUnsaid (left new_left written new_written : Option (List ℕ)) : Type 0 where
  pub text : List ℕ
  pub talk : IsReadFirst (Only Adversary) left new_left (λ strategy rest. IsPartOfTalk strategy rest new_left text)
  pub some : AppendsSome written new_written text

abbrev pub session : Form
session = record {
  name = codes "session";
  arguments = [];
  IsAllowed = Unit {0};
  work = in_turns (Only Adversary) (IsTalkOf Lost);
}
