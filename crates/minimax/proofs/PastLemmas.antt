-- Which visits are past a path, and what a meter has passed.
use Rattle.std.proofs.Common.{◌≡◌, ℕ, List, [], ◌∷◌, ◌++◌, Option, Some, None, refl, sym, subst, inl, inr}
use Rattle.std.specs.Prelude.{IfSome}
use Rattle.monotone.specs.Paths.{ComesBefore, IsEarlierMove}
use Rattle.monotone.specs.Visits.{Visit, visit, Metered, IsEarlierVisit, IsLater}
use Rattle.monotone.specs.declared.path.PathMove.{PathMove}
use Rattle.monotone.proofs.OrderLemmas.{IsEarlierMove-trans}
use Rattle.monotone.proofs.VisitLemmas.{IsEarlierVisit-trans}
use Rattle.minimax.specs.State.{HasPassed, IsPast}

-- ---- paths

pub IsPast-push : (path : List PathMove) (step : PathMove) (next : List PathMove) → IsPast path next → IsPast (path ++ step ∷ []) next
IsPast-push [] step next h = absurd h
IsPast-push (a ∷ path) step [] h = absurd h
IsPast-push (a ∷ path) step (b ∷ next) (inl h) = inl h
IsPast-push (a ∷ path) step (b ∷ next) (inr (e, h)) = inr (e, IsPast-push path step next h)

pub IsPast-earlier : (path : List PathMove) (a b : PathMove) (next : List PathMove) → IsEarlierMove a b → IsPast (path ++ b ∷ []) next → IsPast (path ++ a ∷ []) next
IsPast-earlier [] a b [] l h = absurd h
IsPast-earlier [] a b (c ∷ next) l (inl h) = inl (IsEarlierMove-trans a b c l h)
IsPast-earlier [] a b (c ∷ next) l (inr (e, h)) = absurd h
IsPast-earlier (x ∷ path) a b [] l h = absurd h
IsPast-earlier (x ∷ path) a b (c ∷ next) l (inl h) = inl h
IsPast-earlier (x ∷ path) a b (c ∷ next) l (inr (e, h)) = inr (e, IsPast-earlier path a b next l h)

IsPast-siblings : (path : List PathMove) (a b : PathMove) → IsEarlierMove a b → IsPast (path ++ a ∷ []) (path ++ b ∷ [])
IsPast-siblings [] a b h = inl h
IsPast-siblings (x ∷ path) a b h = inr (refl, IsPast-siblings path a b h)

ComesBefore-past : (path next : List PathMove) → IsPast path next → ComesBefore path next
ComesBefore-past [] next h = absurd h
ComesBefore-past (a ∷ path) [] h = absurd h
ComesBefore-past (a ∷ path) (b ∷ next) (inl h) = inl h
ComesBefore-past (a ∷ path) (b ∷ next) (inr (e, h)) = inr (e, ComesBefore-past path next h)

ComesBefore-past_child : (path : List PathMove) (step : PathMove) (next : List PathMove) → IsPast (path ++ step ∷ []) next → ComesBefore path next
ComesBefore-past_child [] step [] h = absurd h
ComesBefore-past_child [] step (b ∷ next) h = tt
ComesBefore-past_child (a ∷ path) step [] h = absurd h
ComesBefore-past_child (a ∷ path) step (b ∷ next) (inl h) = inl h
ComesBefore-past_child (a ∷ path) step (b ∷ next) (inr (e, h)) = inr (e, ComesBefore-past_child path step next h)

-- ---- what a meter has passed

later_still : (o : Option Visit) (first next : Visit) → IfSome o (λ last. IsEarlierVisit last first) → IsEarlierVisit first next
    → IfSome o (λ last. IsEarlierVisit last next)
later_still None first next h k = tt
later_still (Some last) first next h k = IsEarlierVisit-trans last first next h k

pub IsLater-trans : (meter : Metered) (first next : Visit) → IsLater meter first → IsEarlierVisit first next → IsLater meter next
IsLater-trans meter first next h k = later_still meter.last first next h k

-- where a visit may come, all that is past it may come
pub HasPassed-later : (meter : Metered) (pass : ℕ) (path : List PathMove) → IsLater meter (visit pass path) → HasPassed meter pass path
HasPassed-later meter pass path h next past = IsLater-trans meter (visit pass path) next h
    (elim past [
      | inl l ↦ inl l
      | inr (e, k) ↦ inr (e, ComesBefore-past path next.path k)
    ])

-- what is past a later move is past an earlier one
pub HasPassed-moves : (meter : Metered) (pass : ℕ) (path : List PathMove) (a b : PathMove) → IsEarlierMove a b → HasPassed meter pass (path ++ a ∷ [])
    → HasPassed meter pass (path ++ b ∷ [])
HasPassed-moves meter pass path a b l h next past = h next (elim past [
  | inl k ↦ inl k
  | inr (e, k) ↦ inr (e, IsPast-earlier path a b next.path l k)
])

-- what is past a path is past each move from it
pub HasPassed-path : (meter : Metered) (pass : ℕ) (path : List PathMove) (a : PathMove) → HasPassed meter pass (path ++ a ∷ []) → HasPassed meter pass path
HasPassed-path meter pass path a h next past = h next (elim past [
  | inl k ↦ inl k
  | inr (e, k) ↦ inr (e, IsPast-push path a next.path k)
])

-- after a visit of a path all that goes on from it may come
pub HasPassed-visited : (meter : Metered) (pass : ℕ) (path : List PathMove) (a : PathMove) → meter.last ≡ Some (visit pass path)
    → HasPassed meter pass (path ++ a ∷ [])
HasPassed-visited meter pass path a e next past =
    let earlier : IsEarlierVisit (visit pass path) next = elim past [
      | inl k ↦ inl k
      | inr (f, k) ↦ inr (f, ComesBefore-past_child path a next.path k)
    ] in
    subst (λ o. IfSome o (λ last. IsEarlierVisit last next)) (sym e) earlier

-- a later move may come
pub IsLater-move : (meter : Metered) (pass : ℕ) (path : List PathMove) (a b : PathMove) → HasPassed meter pass (path ++ a ∷ []) → IsEarlierMove a b
    → IsLater meter (visit pass (path ++ b ∷ []))
IsLater-move meter pass path a b h l = h (visit pass (path ++ b ∷ [])) (inr (refl, IsPast-siblings path a b l))
