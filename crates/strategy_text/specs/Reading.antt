-- What the lines of a strategy are read as, from left to right, word by word. Private contracts alone cite these.
use Rattle.std.specs.Prelude.{◌≡◌, ℕ, zero, suc, ◌==◌, List, [], ◌∷◌, ◌++◌, length, Option, Some, None, Result, Ok}
use Rattle.std.specs.Prelude.{Err, option_and_then, if◌then◌else◌, codes}
use Rattle.items.specs.Game.{GameNumbers, numbers}
use Rattle.strategy_text.specs.declared.node.Act.{Act}
use Rattle.strategy_text.specs.declared.node.Act.TheVariants.{Finish, Big, Reply}
use Rattle.strategy_text.specs.declared.node.AdvNode.{AdvNode}
use Rattle.strategy_text.specs.declared.node.AlgNode.{AlgNode}
use Rattle.strategy_text.specs.declared.node.Entry.{Entry}
use Rattle.strategy_text.specs.declared.node.Format.{Format}
use Rattle.strategy_text.specs.declared.node.Format.TheVariants.{One, Two}
use Rattle.strategy_text.specs.declared.node.Placement.{Placement}
use Rattle.strategy_text.specs.declared.node.Step.{Step}
use Rattle.strategy_text.specs.declared.node.Step.TheVariants.{Send, Burst}
use Rattle.strategy_text.specs.declared.node.Then.{Then}
use Rattle.strategy_text.specs.declared.node.Then.TheVariants.{Over, To}
use Rattle.strategy_text.specs.declared.stop.LineStop.{LineStop}
use Rattle.strategy_text.specs.declared.stop.LineStop.TheVariants.{Memory, Form}
use Rattle.strategy_text.specs.Words.{number_of, after, number_at}

infixl 10 ◌>>=◌
abbrev pub ◌>>=◌ : {A B : Type 0} → Option A → (A → Option B) → Option B
o >>= f = option_and_then f o

-- ---- what a function returned

-- a value after which the line ends
abbrev pub whole : {X : Type 0} → X → List (List ℕ) → Option X
whole x [] = Some x
whole x (w ∷ ws) = None

-- what a function returned, with the words that it left, is what reading gives
abbrev pub Takes : {X : Type 0} → Option X → List (List ℕ) → Option (X × List (List ℕ)) → Type 0
Takes None left read = read ≡ None
Takes (Some x) left read = read ≡ Some (x, left)

-- what a function returned, with the words that it left, is what reading gives, unless memory ran out
abbrev pub Reads : {X : Type 0} → Result X LineStop → List (List ℕ) → Option (X × List (List ℕ)) → Type 0
Reads (Ok x) left read = read ≡ Some (x, left)
Reads (Err Memory) left read = Unit {0}
Reads (Err Form) left read = read ≡ None

-- what a function wrote, with the words that it left, is what reading gives, unless memory ran out
abbrev pub ReadsInto : {X : Type 0} → Result (Unit {0}) LineStop → X → List (List ℕ)
    → Option (X × List (List ℕ)) → Type 0
ReadsInto (Ok u) x left read = read ≡ Some (x, left)
ReadsInto (Err Memory) x left read = Unit {0}
ReadsInto (Err Form) x left read = read ≡ None

-- what a function returned of the whole line is what reading gives, unless memory ran out
abbrev pub Gives : {X : Type 0} → Result X LineStop → Option X → Type 0
Gives (Ok x) read = read ≡ Some x
Gives (Err Memory) read = Unit {0}
Gives (Err Form) read = read ≡ None

abbrev pub GivesInto : {X : Type 0} → Result (Unit {0}) LineStop → X → Option X → Type 0
GivesInto (Ok u) x read = read ≡ Some x
GivesInto (Err Memory) x read = Unit {0}
GivesInto (Err Form) x read = read ≡ None

-- ---- the lines of a head

-- the three numbers of a game
unfoldable pub game_at : List (List ℕ) → Option GameNumbers
game_at words = do
  rest ← after (codes "game") words
  bins ← number_at 65535 rest
  capacity ← number_at 65535 bins.1
  target ← number_at 65535 capacity.1
  whole (numbers bins.0 capacity.0 target.0) target.1

-- a number of nodes
unfoldable pub count_at : List (List ℕ) → Option ℕ
count_at words = do
  rest ← after (codes "nodes") words
  nodes ← number_at 4000000000 rest
  if nodes.0 == 0 then None else whole nodes.0 nodes.1

-- ---- choices

-- one thing where the words go on after a word, and another where that word is missing
abbrev pub choose : {X : Type 0} → Option (List (List ℕ)) → (List (List ℕ) → Option X) → Option X → Option X
choose None here other = other
choose (Some rest) here other = here rest

-- what format 2 alone has
abbrev pub second : {X : Type 0} → Format → Option X → Option X
second One read = None
second Two read = read

-- ---- lists

-- a number before other numbers, or no number before these words
abbrev pub numbers_from : Option ℕ → List (List ℕ) → List ℕ × List (List ℕ) → List ℕ × List (List ℕ)
numbers_from None words others = ([], words)
numbers_from (Some n) words others = (n ∷ others.0, others.1)

-- the numbers up to the first word that is none
unfoldable pub numbers_at : List (List ℕ) → List ℕ × List (List ℕ)
numbers_at [] = ([], [])
numbers_at (w ∷ ws) = numbers_from (number_of 65535 w) (w ∷ ws) (numbers_at ws)

-- at least one value
abbrev pub some_at : {X : Type 0} → List X × List (List ℕ) → Option (List X × List (List ℕ))
some_at found = if length found.0 == 0 then None else Some found

-- a list of numbers
unfoldable pub list_at : List (List ℕ) → Option (List ℕ × List (List ℕ))
list_at words = choose (after (codes "-") words) (λ rest. Some ([], rest)) (some_at (numbers_at words))

-- values before the others
abbrev pub prepended : {X : Type 0} → List X → Option (List X × List (List ℕ)) → Option (List X × List (List ℕ))
prepended so_far read = read >>= λ x. Some (so_far ++ x.0, x.1)

abbrev pub many_from : {X : Type 0} → Option (List (List ℕ)) → List (List ℕ)
    → (List (List ℕ) → Option (X × List (List ℕ))) → (List (List ℕ) → Option (List X × List (List ℕ)))
    → Option (List X × List (List ℕ))
many_from None words item others = Some ([], words)
many_from (Some rest) words item others = item rest >>= λ x. prepended (x.0 ∷ []) (others x.1)

-- values of which each has its beginning, as many as there are but at most so many
unfoldable pub many_at : {X : Type 0} → (List (List ℕ) → Option (List (List ℕ)))
    → (List (List ℕ) → Option (X × List (List ℕ))) → ℕ → List (List ℕ) → Option (List X × List (List ℕ))
many_at begin item zero words = Some ([], words)
many_at begin item (suc n) words = many_from (begin words) words item (many_at begin item n)

-- all values of which each has its beginning
abbrev pub each_at : {X : Type 0} → (List (List ℕ) → Option (List (List ℕ)))
    → (List (List ℕ) → Option (X × List (List ℕ))) → List (List ℕ) → Option (List X × List (List ℕ))
each_at begin item words = many_at begin item (length words) words

-- ---- a position

-- the number of the node
unfoldable pub numbered_at : ℕ → List (List ℕ) → Option (List (List ℕ))
numbered_at number words = do
  own ← number_at 4294967295 words
  if own.0 == number then Some own.1 else None

-- a list after a word
unfoldable pub labelled_at : List ℕ → List (List ℕ) → Option (List ℕ × List (List ℕ))
labelled_at word words = after word words >>= list_at

-- the loads and the items of the node of this number
unfoldable pub position_at : ℕ → List (List ℕ) → Option ((List ℕ × List ℕ) × List (List ℕ))
position_at number words = do
  rest ← numbered_at number words
  loads ← labelled_at (codes "loads") rest
  items ← labelled_at (codes "items") loads.1
  Some ((loads.0, items.0), items.1)

-- ---- what the adversary sends

-- the lists of a packing after the first
abbrev pub bins_at : List ℕ → List (List ℕ) → Option (List (List ℕ) × List (List ℕ))
bins_at first words = prepended (first ∷ []) (each_at (after (codes "/")) list_at words)

-- the lists of a packing
unfoldable pub pack_at : List (List ℕ) → Option (List (List ℕ) × List (List ℕ))
pack_at words = do
  bin ← list_at words
  bins_at bin.0 bin.1

-- a packing, which may be missing in format 2
unfoldable pub optional_pack_at : Format → List (List ℕ) → Option (Option (List (List ℕ)) × List (List ℕ))
optional_pack_at format words =
    choose (after (codes "pack") words) (λ rest. pack_at rest >>= λ x. Some (Some x.0, x.1))
    (second format (Some (None, words)))

abbrev pub child_at : List (List ℕ) → Option (Then × List (List ℕ))
child_at words = do
  rest ← after (codes "to") words
  child ← number_at 4294967295 rest
  Some (To child.0, child.1)

-- what follows a placement
unfoldable pub then_at : List (List ℕ) → Option (Then × List (List ℕ))
then_at words = choose (after (codes "over") words) (λ rest. Some (Over, rest)) (child_at words)

-- a placement after its first word
unfoldable pub placement_at : List (List ℕ) → Option (Placement × List (List ℕ))
placement_at words = do
  load ← number_at 65535 words
  next ← then_at load.1
  Some (record { load = load.0; next = next.0 }, next.1)

-- the placements, at least one
unfoldable pub placements_at : List (List ℕ) → Option (List Placement × List (List ℕ))
placements_at words = each_at (after (codes "on")) placement_at words >>= some_at

-- an item that is sent, after the first word
unfoldable pub send_at : Format → List (List ℕ) → Option (Step × List (List ℕ))
send_at format words = do
  size ← number_at 65535 words
  pack ← optional_pack_at format size.1
  placements ← placements_at pack.1
  Some (Send size.0 pack.0 placements.0, placements.1)

-- a burst
unfoldable pub burst_at : List (List ℕ) → Option (Step × List (List ℕ))
burst_at words = do
  rest ← after (codes "burst") words
  count ← number_at 65535 rest
  size ← number_at 65535 count.1
  bins ← after (codes "pack") size.1
  pack ← pack_at bins
  Some (Burst count.0 size.0 pack.0, pack.1)

-- what is sent
unfoldable pub step_at : Format → List (List ℕ) → Option (Step × List (List ℕ))
step_at format words = choose (after (codes "send") words) (send_at format) (second format (burst_at words))

-- a node of the adversary of this number
unfoldable pub adversary_at : Format → ℕ → List (List ℕ) → Option AdvNode
adversary_at format number words = do
  position ← position_at number words
  step ← step_at format position.1
  whole (record { loads = position.0.0; items = position.0.1; step = step.0 }) step.1

-- ---- what the algorithm does

-- the words, where there is one
abbrev pub more_words : List (List ℕ) → Option (List (List ℕ))
more_words [] = None
more_words (w ∷ ws) = Some (w ∷ ws)

-- a reply
unfoldable pub entry_at : List (List ℕ) → Option (Entry × List (List ℕ))
entry_at words = do
  size ← number_at 65535 words
  on ← after (codes "on") size.1
  load ← number_at 65535 on
  to ← after (codes "to") load.1
  child ← number_at 4294967295 to
  Some (record { size = size.0; load = load.0; to = child.0 }, child.1)

-- the replies, to the end of the line
unfoldable pub entries_at : List (List ℕ) → Option (List Entry × List (List ℕ))
entries_at words =
    choose (after (codes "-") words) (λ rest. Some ([], rest)) (each_at more_words entry_at words >>= some_at)

-- bins kept for big items
unfoldable pub big_at : List (List ℕ) → Option (Act × List (List ℕ))
big_at words = do
  rest ← after (codes "big") words
  bins ← number_at 65535 rest
  Some (Big bins.0, bins.1)

-- replies, or bins kept for big items
unfoldable pub reply_at : Format → List (List ℕ) → Option (Act × List (List ℕ))
reply_at format words =
    choose (after (codes "reply") words) (λ rest. entries_at rest >>= λ x. Some (Reply x.0, x.1))
    (second format (big_at words))

-- what is done
unfoldable pub act_at : Format → List (List ℕ) → Option (Act × List (List ℕ))
act_at format words = choose (after (codes "finish") words) (λ rest. Some (Finish, rest)) (reply_at format words)

-- a node of the algorithm of this number
unfoldable pub algorithm_at : Format → ℕ → List (List ℕ) → Option AlgNode
algorithm_at format number words = do
  position ← position_at number words
  act ← act_at format position.1
  whole (record { loads = position.0.0; items = position.0.1; act = act.0 }) act.1
