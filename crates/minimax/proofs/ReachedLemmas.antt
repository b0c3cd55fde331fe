-- Which of the wins that a search kept are reached from one of them.
use Rattle.std.proofs.Common.{◌≡◌, ℕ, zero, suc, ◌+◌, ◌<◌, ◌≤◌, Bool, true, Some, List, [], ◌∷◌, length, map, take, set}
use Rattle.std.proofs.Common.{refl, ◌∙◌, subst, inl, inr, arith}
use Rattle.std.specs.Prelude.{All, slice_get}
use Rattle.std.proofs.lemmas.Bool.{cases_lt}
use Rattle.std.proofs.lemmas.List.{length-set}
use Rattle.std.proofs.lemmas.List.Elements.{All-weaker}
use Rattle.std.proofs.lemmas.Option.{none-some}
use Rattle.minimax.specs.declared.space.Space.{Space}
use Rattle.loads.specs.After.{after}
use Rattle.loads.specs.Position.{StandsAt}
use Rattle.loads.specs.declared.position.Position.{Position}
use Rattle.strategy_text.specs.declared.node.Placement.{Placement}
use Rattle.strategy_text.specs.declared.node.Then.{Then}
use Rattle.strategy_text.specs.declared.node.Then.TheVariants.{Over, To}
use Rattle.adversary_graph.specs.Rules.{LeadsTo}
use Rattle.minimax.specs.Reached.{AreReached, IsMarked, LeadsBelow, LeadsToMarked, LooksAt, MarksBelow}
use Rattle.minimax.specs.State.{AreReadyWins, position_of_win}
use Rattle.minimax.specs.declared.wins.Win.{Win}

-- ---- marks

marked_set : (marks : List Bool) (i : ℕ) → i < length marks → IsMarked (set marks i true) i
marked_set [] i l = absurd (omega (arith, l))
marked_set (m ∷ ms) zero l = refl
marked_set (m ∷ ms) (suc i) l = marked_set ms i (omega (arith, l))

keeps_set : (marks : List Bool) (i k : ℕ) → IsMarked marks k → IsMarked (set marks i true) k
keeps_set [] i k h = absurd (none-some true h)
keeps_set (m ∷ ms) zero zero h = refl
keeps_set (m ∷ ms) zero (suc k) h = h
keeps_set (m ∷ ms) (suc i) zero h = h
keeps_set (m ∷ ms) (suc i) (suc k) h = keeps_set ms i k h

only_set : (marks : List Bool) (i k : ℕ) → i < k → IsMarked (set marks i true) k → IsMarked marks k
only_set [] i k l h = absurd (none-some true h)
only_set (m ∷ ms) i zero l h = absurd (omega (arith, l))
only_set (m ∷ ms) zero (suc k) l h = h
only_set (m ∷ ms) (suc i) (suc k) l h = only_set ms i k (omega (arith, l)) h

pub MarksBelow-refl : (high : ℕ) (marks : List Bool) → MarksBelow high marks marks
MarksBelow-refl high marks = record { as_many = refl; keeps = λ k h. h; only = λ k l h. h }

pub MarksBelow-trans : (high : ℕ) (a b c : List Bool) → MarksBelow high a b → MarksBelow high b c → MarksBelow high a c
MarksBelow-trans high a b c f g = record {
  as_many = g.as_many ∙ f.as_many;
  keeps = λ k h. g.keeps k (f.keeps k h);
  only = λ k l h. f.only k l (g.only k l h);
}

pub MarksBelow-set : (high : ℕ) (marks : List Bool) (i : ℕ) → i < high → MarksBelow high marks (set marks i true)
MarksBelow-set high marks i l = record {
  as_many = length-set marks i true;
  keeps = keeps_set marks i;
  only = λ k m h. only_set marks i k (omega (arith, l, m)) h;
}

-- what was marked still is
pub LeadsToMarked-keeps : (high : ℕ) (before after : List Bool) (next : Then) → MarksBelow high before after → LeadsToMarked before next → LeadsToMarked after next
LeadsToMarked-keeps high before after Over b h = tt
LeadsToMarked-keeps high before after (To child) b h = b.keeps child h

pub all_marked : (high : ℕ) (before after : List Bool) (placements : List Placement) → MarksBelow high before after
    → All (λ placement. LeadsToMarked before placement.next) placements → All (λ placement. LeadsToMarked after placement.next) placements
all_marked high before after placements b all =
    All-weaker (λ placement. LeadsToMarked before placement.next) (λ placement. LeadsToMarked after placement.next)
    (λ placement h. LeadsToMarked-keeps high before after placement.next b h) placements all

-- ---- wins

-- what leads to an earlier win leads below
pub leads_below : (wins : List Win) (k : ℕ) (next : Then) (position : Position) → LeadsTo (map position_of_win (take k wins)) next position → LeadsBelow k next
leads_below wins k Over position h = tt
leads_below wins k (To child) position h = below wins k child h
  where
    below : (wins : List Win) (k child : ℕ) → StandsAt (map position_of_win (take k wins)) child position → child < k
    below wins zero child h = absurd (none-some position h)
    below [] (suc k) child h = absurd (none-some position h)
    below (w ∷ ws) (suc k) zero h = omega arith
    below (w ∷ ws) (suc k) (suc child) h = omega (arith, below ws k child h)

-- so do all that follow a win
pub win_below : (space : Space) (wins : List Win) (k : ℕ) (win : Win) → AreReadyWins space wins → slice_get wins k ≡ Some win
    → All (λ placement. LeadsBelow k placement.next) win.placements
win_below space wins k win ready e =
    All-weaker (λ placement. LeadsTo (map position_of_win (take k wins)) placement.next (after win.position placement.load win.size))
    (λ placement. LeadsBelow k placement.next) (λ placement h. leads_below wins k placement.next _ h) win.placements (ready k win e).places.leads

pub LeadsBelow-more : (low high : ℕ) (next : Then) → low ≤ high → LeadsBelow low next → LeadsBelow high next
LeadsBelow-more low high Over l h = tt
LeadsBelow-more low high (To child) l h = omega (arith, l, h)

pub all_below : (low high : ℕ) (placements : List Placement) → low ≤ high → All (λ placement. LeadsBelow low placement.next) placements
    → All (λ placement. LeadsBelow high placement.next) placements
all_below low high placements l all =
    All-weaker (λ placement. LeadsBelow low placement.next) (λ placement. LeadsBelow high placement.next)
    (λ placement h. LeadsBelow-more low high placement.next l h) placements all

-- one more win was looked at
pub AreReached-more : (wins : List Win) (root from : ℕ) (before after : List Bool) → AreReached wins root (from + 1) before → LooksAt wins from before after
    → AreReached wins root from after
AreReached-more wins root from before after r looks = record {
  up_to = looks.below.as_many ∙ r.up_to;
  root_marked = looks.below.keeps root r.root_marked;
  follow = λ k win l e m. elim (cases_lt from k) [
    | inl above ↦ all_marked from before after win.placements looks.below (r.follow k win (omega (arith, above)) e (looks.below.only k l m))
    | inr here ↦
        let is : k ≡ from = omega (arith, here, l) in
        looks.follow win (subst (λ j. slice_get wins j ≡ Some win) is e) (looks.below.only from (omega arith) (subst (IsMarked after) is m))
  ];
}
