use Rattle.std.specs.Prelude.{◌≡◌, ℕ, ◌-◌, ◌+◌, ◌*◌, ◌^◌, ◌<◌, ◌≤◌, ◌⊎◌, Option, Some, None, IfSome, List, length}
use Rattle.std.specs.Prelude.{slice_get, All, AllPairs}
use Rattle.items.specs.Game.{GameNumbers}
use Rattle.monotone.specs.declared.path.PathMove.{PathMove}
use Rattle.monotone.specs.Paths.{ComesBefore, IsLegalPath}
use Rattle.monotone.specs.Passes.{SearchSpace, allowed_in, passes_of}

-- a path in a pass
pub record Visit : Type 0 where
  pub pass : ℕ
  pub path : List PathMove

abbrev pub visit : ℕ → List PathMove → Visit
visit pass path = record { pass = pass; path = path }

-- one of the passes, and a path that is legal in it
pub record IsVisit (space : SearchSpace) (visited : Visit) : Type 0 where
  pub from_first : space.first_pass ≤ visited.pass
  pub to_last : visited.pass < space.game.capacity
  pub legal : IsLegalPath space.game (allowed_in space.sizes visited.pass) visited.path

-- the visits of an earlier pass come first, and within a pass those of an earlier path
abbrev pub IsEarlierVisit : Visit → Visit → Type 0
IsEarlierVisit first second =
    (first.pass < second.pass) ⊎ ((first.pass ≡ second.pass) × ComesBefore first.path second.path)

-- what a meter holds: its game, how many visits it allows, how many it counted, and the last of them
pub record Metered : Type 0 where
  pub game : GameNumbers
  pub budget : ℕ
  pub count : ℕ
  pub last : Option Visit

-- the meter before the first visit
abbrev pub unused : GameNumbers → ℕ → Metered
unused game budget = record { game = game; budget = budget; count = 0; last = None }

-- the meter after one more visit
abbrev pub counted : Metered → Visit → Metered
counted meter next = record { game = meter.game; budget = meter.budget; count = meter.count + 1; last = Some next }

-- the visit comes after the last that was counted
abbrev pub IsLater : Metered → Visit → Type 0
IsLater meter next = IfSome meter.last (λ last. IsEarlierVisit last next)

-- these are the visits that were counted, each before all later ones
pub record AreCounted (space : SearchSpace) (meter : Metered) (visits : List Visit) : Type 0 where
  pub length_is : length visits ≡ meter.count
  pub visits_of : All (IsVisit space) visits
  pub in_order : AllPairs IsEarlierVisit visits
  pub last : slice_get visits (length visits - 1) ≡ meter.last

-- the meter counted visits of this space alone
abbrev pub CountsVisits : SearchSpace → Metered → Type 0
CountsVisits space meter = (visits : List Visit) × AreCounted space meter visits

-- so many visits of the space come before this one, each before all later ones
pub record AreBefore (space : SearchSpace) (number : ℕ) (next : Visit) (visits : List Visit) : Type 0 where
  pub length_is : length visits ≡ number
  pub visits_of : All (IsVisit space) visits
  pub in_order : AllPairs IsEarlierVisit visits
  pub before : All (λ visited. IsEarlierVisit visited next) visits

abbrev pub HasVisitsBefore : SearchSpace → ℕ → Visit → Type 0
HasVisitsBefore space number next = (visits : List Visit) × AreBefore space number next visits

-- there are at most so many visits of a space
abbrev pub most_visits : SearchSpace → ℕ
most_visits space = passes_of space * (space.game.bins + 1) ^ (space.game.bins * space.game.capacity)
