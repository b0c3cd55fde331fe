use Rattle.std.specs.Prelude.{◌≡◌, ℕ, ◌+◌, ◌≤◌, List, [], ◌++◌, length, Option, IfSome}
use Rattle.std.specs.Io.KnownBytes.{prepend_known}
use Rattle.strategy_text.specs.Text.{nodes_of, side_of, text_of}
use Rattle.strategy_text.specs.declared.node.Strategy.{Strategy}
use Rattle.strategies.specs.AnyNode.{IsLegal}
use Rattle.checker.specs.Head.{Head}
use Rattle.checker.specs.FirstFault.{IsWanted, HasHead, HasWhole, FirstFault, HasNoWholeFault}
use Rattle.checker.specs.Listed.{IsLegalOver, listed_text_of}
use Rattle.checker.specs.declared.fault.Accepted.{Accepted}
use Rattle.checker.specs.declared.fault.AcceptedListed.{AcceptedListed}
use Rattle.checker.specs.declared.fault.CheckFault.{CheckFault}
use Rattle.checker.specs.declared.fault.CheckFault.TheVariants.{Rejected, Read, Memory}
use Rattle.checker.specs.declared.fault.Heading.{Heading}
use Rattle.checker.specs.declared.fault.Heading.TheVariants.{Strategy as OfStrategy}
use Rattle.checker.specs.declared.fault.Wanted.{Wanted}
use Rattle.checker.specs.declared.fault.Why.{Why}

-- bytes were read: they are gone from what the source had left, where it tells that
abbrev pub IsGone : List ℕ → Option (List ℕ) → Option (List ℕ) → Type 0
IsGone read left new_left = left ≡ prepend_known read new_left

-- nothing is left, where the source tells what is left
abbrev pub IsReadWhole : Option (List ℕ) → Type 0
IsReadWhole new_left = IfSome new_left (λ rest. rest ≡ [])

-- ---- texts that were taken

-- the strategy is legal and of a wanted side, and the bytes in hand, which are those held before and those read, are
-- its text and what is held now
pub record Spells (wanted : Wanted) (strategy : Strategy) (held new_held : List ℕ) (left new_left : Option (List ℕ))
    : Type 0 where
  pub legal : IsLegal strategy
  pub wanted_side : IsWanted wanted (side_of strategy.nodes)
  pub read : List ℕ
  pub gone : IsGone read left new_left
  pub spelled : held ++ read ≡ text_of strategy ++ new_held

-- the strategy is legal and of a wanted side; the bytes that were read are its text, and all bytes were read
pub record IsLoaded (wanted : Wanted) (strategy : Strategy) (left new_left : Option (List ℕ)) : Type 0 where
  pub legal : IsLegal strategy
  pub wanted_side : IsWanted wanted (side_of strategy.nodes)
  pub read : List ℕ
  pub gone : IsGone read left new_left
  pub spelled : read ≡ text_of strategy
  pub whole : IsReadWhole new_left

-- a legal strategy of a wanted side stands after the answer, with its game, its side and its number of nodes; where the
-- source tells its bytes, they are the strategy's text, and all of them were read
pub record Accepts (wanted : Wanted) (accepted : Accepted) (left new_left : Option (List ℕ)) : Type 0 where
  pub strategy : Strategy
  pub loaded : IsLoaded wanted strategy left new_left
  pub game : accepted.game ≡ strategy.game
  pub side : accepted.side ≡ side_of strategy.nodes
  pub number : accepted.nodes ≡ length (nodes_of strategy.nodes)

-- the bytes begin with the text of a legal strategy of a wanted side
pub record BeginsWithLegalText (wanted : Wanted) (bytes : List ℕ) : Type 0 where
  pub strategy : Strategy
  pub legal : IsLegal strategy
  pub wanted_side : IsWanted wanted (side_of strategy.nodes)
  pub rest : List ℕ
  pub begins : bytes ≡ text_of strategy ++ rest

-- a legal strategy with listed sizes stands after the answer, with its game, its sizes, its side and its number of nodes;
-- where the source tells its bytes, they are its text, and all of them were read
pub record AcceptsListed (accepted : AcceptedListed) (left new_left : Option (List ℕ)) : Type 0 where
  pub strategy : Strategy
  pub legal : IsLegalOver accepted.sizes strategy
  pub read : List ℕ
  pub gone : IsGone read left new_left
  pub spelled : read ≡ listed_text_of accepted.sizes strategy
  pub whole : IsReadWhole new_left
  pub game : accepted.game ≡ strategy.game
  pub side : accepted.side ≡ side_of strategy.nodes
  pub number : accepted.nodes ≡ length (nodes_of strategy.nodes)

-- ---- texts that were not taken

-- the bytes in hand, which are those held before and those read, have this first fault, and so has the whole input,
-- where the source tells it
pub record RejectsUnder (heading : Heading) (held : List ℕ) (line : ℕ) (fault : Why) (left new_left : Option (List ℕ))
    : Type 0 where
  pub read : List ℕ
  pub gone : IsGone read left new_left
  pub first : FirstFault heading (held ++ read) line fault
  pub first_of_input : IfSome left (λ bytes. FirstFault heading (held ++ bytes) line fault)

-- a line of the text that the bytes begin with: from line 1 to its last line, the one after its nodes, which the head
-- lines tell where they have no fault
abbrev pub IsTextLine : Heading → List ℕ → ℕ → Type 0
IsTextLine heading bytes line =
    (1 ≤ line) × ((head : Head) → HasHead heading bytes head → line ≤ head.start + head.count)

-- the same, in a line of the text, whatever stands after it
pub record RejectsTextLineUnder (heading : Heading) (held : List ℕ) (line : ℕ) (fault : Why) (left new_left : Option (List ℕ))
    : Type 0 where
  pub rejects : RejectsUnder heading held line fault left new_left
  pub of_text : IsTextLine heading (held ++ rejects.read) line
  pub of_text_of_input : IfSome left (λ bytes. IsTextLine heading (held ++ bytes) line)

-- a read failed, and no whole line of the bytes in hand has a fault
pub record IsInterruptedUnder (heading : Heading) (held : List ℕ) (left new_left : Option (List ℕ)) : Type 0 where
  pub read : List ℕ
  pub gone : IsGone read left new_left
  pub faultless : HasNoWholeFault heading (held ++ read)

-- a read failed, no whole line of the bytes in hand has a fault, and the last line of the text that they begin with is
-- not whole
pub record IsTextInterruptedUnder (heading : Heading) (held : List ℕ) (left new_left : Option (List ℕ)) : Type 0 where
  pub read : List ℕ
  pub gone : IsGone read left new_left
  pub faultless : HasNoWholeFault heading (held ++ read)
  pub unfinished : (head : Head) (rest : List ℕ) → HasHead heading (held ++ read) head
      → HasWhole (held ++ read) (head.start + head.count) rest → ⊥

-- why a text was not accepted, over the bytes that were held before, and what the source had left and has left
abbrev pub IsFaultUnder : Heading → List ℕ → CheckFault → Option (List ℕ) → Option (List ℕ) → Type 0
IsFaultUnder heading held (Rejected line why) left new_left = RejectsUnder heading held line why left new_left
IsFaultUnder heading held Read left new_left = IsInterruptedUnder heading held left new_left
IsFaultUnder heading held Memory left new_left = (read : List ℕ) × IsGone read left new_left

-- why no text was found at the beginning of the bytes
abbrev pub IsTextFaultUnder : Heading → List ℕ → CheckFault → Option (List ℕ) → Option (List ℕ) → Type 0
IsTextFaultUnder heading held (Rejected line why) left new_left = RejectsTextLineUnder heading held line why left new_left
IsTextFaultUnder heading held Read left new_left = IsTextInterruptedUnder heading held left new_left
IsTextFaultUnder heading held Memory left new_left = (read : List ℕ) × IsGone read left new_left

-- ---- the same of the texts of strategies of a wanted side

abbrev pub Rejects : Wanted → List ℕ → ℕ → Why → Option (List ℕ) → Option (List ℕ) → Type 0
Rejects wanted held line fault left new_left = RejectsUnder (OfStrategy wanted) held line fault left new_left

abbrev pub RejectsTextLine : Wanted → List ℕ → ℕ → Why → Option (List ℕ) → Option (List ℕ) → Type 0
RejectsTextLine wanted held line fault left new_left =
    RejectsTextLineUnder (OfStrategy wanted) held line fault left new_left

abbrev pub IsInterrupted : Wanted → List ℕ → Option (List ℕ) → Option (List ℕ) → Type 0
IsInterrupted wanted held left new_left = IsInterruptedUnder (OfStrategy wanted) held left new_left

-- a read failed before the whole text of a legal strategy was in hand, and no whole line of the bytes in hand has a
-- fault
pub record IsTextInterrupted (wanted : Wanted) (held : List ℕ) (left new_left : Option (List ℕ)) : Type 0 where
  pub read : List ℕ
  pub gone : IsGone read left new_left
  pub faultless : HasNoWholeFault (OfStrategy wanted) (held ++ read)
  pub no_text : BeginsWithLegalText wanted (held ++ read) → ⊥

abbrev pub IsFaultOf : Wanted → List ℕ → CheckFault → Option (List ℕ) → Option (List ℕ) → Type 0
IsFaultOf wanted held fault left new_left = IsFaultUnder (OfStrategy wanted) held fault left new_left

abbrev pub IsTextFaultOf : Wanted → List ℕ → CheckFault → Option (List ℕ) → Option (List ℕ) → Type 0
IsTextFaultOf wanted held (Rejected line why) left new_left = RejectsTextLine wanted held line why left new_left
IsTextFaultOf wanted held Read left new_left = IsTextInterrupted wanted held left new_left
IsTextFaultOf wanted held Memory left new_left = (read : List ℕ) × IsGone read left new_left
