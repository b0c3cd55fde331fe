-- The order of moves and of paths.
use Rattle.std.proofs.Common.{◌≡◌, ◌↔◌, ℕ, suc, ◌+◌, ◌<◌, ◌≤◌, ◌⊎◌, Bool, true, false, not, ◌&&◌, eqb, List, [], ◌∷◌, length, get_or, drop, refl, sym, ap, ◌∙◌, subst}
use Rattle.std.proofs.Common.{inl, inr, arith, drop-cons, add-one, length-drop}
use Rattle.std.proofs.lemmas.Bool.{cases_order}
use Rattle.std.proofs.lemmas.Bool.Decides.{nat_tests}
use Rattle.std.proofs.Math.ListN.{drop_of_length-le}
use Rattle.monotone.specs.declared.path.PathMove.{PathMove}
use Rattle.monotone.specs.Paths.{moved, IsEarlierMove, ComesBefore}

pub no_move_before_itself : (a : PathMove) → IsEarlierMove a a → ⊥
no_move_before_itself a (inl l) = omega (arith, l)
no_move_before_itself a (inr (e, l)) = omega (arith, l)

pub IsEarlierMove-trans : (a b c : PathMove) → IsEarlierMove a b → IsEarlierMove b c → IsEarlierMove a c
IsEarlierMove-trans a b c (inl l) (inl m) = inl (omega (arith, l, m))
IsEarlierMove-trans a b c (inl l) (inr (e, m)) = inl (omega (arith, l, e))
IsEarlierMove-trans a b c (inr (e, l)) (inl m) = inl (omega (arith, e, m))
IsEarlierMove-trans a b c (inr (e, l)) (inr (f, m)) = inr (e ∙ f, omega (arith, l, m))

pub moves_compare : (a b : PathMove) → IsEarlierMove a b ⊎ ((a ≡ b) ⊎ IsEarlierMove b a)
moves_compare a b = elim (cases_order a.item b.item) [
  | inl e ↦ elim (cases_order a.load b.load) [
    | inl f ↦ inr (inl (ap (λ item. moved item a.load) e ∙ ap (moved b.item) f))
    | inr (inl l) ↦ inr (inr (inr (sym e, l)))
    | inr (inr l) ↦ inl (inr (e, l))
  ]
  | inr (inl l) ↦ inr (inr (inl l))
  | inr (inr l) ↦ inl (inl l)
]

pub no_path_before_itself : (path : List PathMove) → ComesBefore path path → ⊥
no_path_before_itself [] h = h
no_path_before_itself (a ∷ path) (inl h) = no_move_before_itself a h
no_path_before_itself (a ∷ path) (inr (e, h)) = no_path_before_itself path h

pub ComesBefore-trans : (first second third : List PathMove) → ComesBefore first second → ComesBefore second third → ComesBefore first third
ComesBefore-trans first [] third h k = absurd h
ComesBefore-trans first (b ∷ second) [] h k = absurd k
ComesBefore-trans [] (b ∷ second) (c ∷ third) h k = tt
ComesBefore-trans (a ∷ first) (b ∷ second) (c ∷ third) (inl h) (inl k) = inl (IsEarlierMove-trans a b c h k)
ComesBefore-trans (a ∷ first) (b ∷ second) (c ∷ third) (inl h) (inr (e, k)) = inl (subst (IsEarlierMove a) e h)
ComesBefore-trans (a ∷ first) (b ∷ second) (c ∷ third) (inr (e, h)) (inl k) = inl (subst (λ x. IsEarlierMove x c) (sym e) k)
ComesBefore-trans (a ∷ first) (b ∷ second) (c ∷ third) (inr (e, h)) (inr (f, k)) = inr (e ∙ f, ComesBefore-trans first second third h k)

pub paths_compare : (first second : List PathMove) → ComesBefore first second ⊎ ((first ≡ second) ⊎ ComesBefore second first)
paths_compare [] [] = inr (inl refl)
paths_compare [] (b ∷ second) = inl tt
paths_compare (a ∷ first) [] = inr (inr tt)
paths_compare (a ∷ first) (b ∷ second) = elim (moves_compare a b) [
  | inl h ↦ inl (inl h)
  | inr (inl e) ↦ elim (paths_compare first second) [
    | inl h ↦ inl (inr (e, h))
    | inr (inl f) ↦ inr (inl (ap (λ x. x ∷ first) e ∙ ap (λ xs. b ∷ xs) f))
    | inr (inr h) ↦ inr (inr (inr (sym e, h)))
  ]
  | inr (inr h) ↦ inr (inr (inl h))
]

nothing_before_none : (first : List PathMove) → ComesBefore first [] → ⊥
nothing_before_none first h = h

-- of paths with equal first moves the rest decides
pub decided_by_rest : (a b : PathMove) (first second : List PathMove) → a ≡ b → ComesBefore (a ∷ first) (b ∷ second) ↔ ComesBefore first second
decided_by_rest a b first second e = (
  λ h. elim h [
    | inl k ↦ absurd (no_move_before_itself b (subst (λ x. IsEarlierMove x b) e k))
    | inr (f, k) ↦ k
  ],
  λ h. inr (e, h),
)

-- of paths with different first moves these decide
pub decided_by_moves : (a b : PathMove) (first second : List PathMove) → (a ≡ b → ⊥) → ComesBefore (a ∷ first) (b ∷ second) ↔ IsEarlierMove a b
decided_by_moves a b first second apart = (
  λ h. elim h [
    | inl k ↦ k
    | inr (e, k) ↦ absurd (apart e)
  ],
  λ h. inl h,
)

-- the path without moves comes before every other
pub decided_by_end : (second : List PathMove) → ComesBefore [] second ↔ (0 < length second)
decided_by_end [] = (λ h. absurd h, λ l. absurd (omega (arith, l)))
decided_by_end (b ∷ second) = (λ h. omega arith, λ l. tt)

-- the order of two paths is that of what follows their first moves, as far as these were compared
abbrev pub IsDecidedFrom : ℕ → List PathMove → List PathMove → Type 0
IsDecidedFrom i first second = ComesBefore first second ↔ ComesBefore (drop i first) (drop i second)

pub decided_at_end : (i : ℕ) (first second : List PathMove) → length first ≤ i → i ≤ length first → IsDecidedFrom i first second
    → ComesBefore first second ↔ (length first < length second)
decided_at_end i first second l m h =
    let gone : drop i first ≡ [] = drop_of_length-le first l in
    let e = decided_by_end (drop i second) in (
      λ k. let rest : 0 < length (drop i second) = e.0 (subst (λ xs. ComesBefore xs (drop i second)) gone (h.0 k)) in omega (arith, length-drop i second, rest),
      λ k. h.1 (subst (λ xs. ComesBefore xs (drop i second)) (sym gone) (e.1 (omega (arith, length-drop i second, k)))),
    )

pub decided_past_end : (i : ℕ) (first second : List PathMove) → i ≡ length second → IsDecidedFrom i first second → ComesBefore first second → ⊥
decided_past_end i first second e h k =
    let gone : drop i second ≡ [] = drop_of_length-le second (omega (arith, e)) in
    nothing_before_none (drop i first) (subst (ComesBefore (drop i first)) gone (h.0 k))

pub decided_at_moves : (i : ℕ) (first second : List PathMove) (d : PathMove) → i < length first → i < length second → (get_or first i d ≡ get_or second i d → ⊥)
    → IsDecidedFrom i first second → ComesBefore first second ↔ IsEarlierMove (get_or first i d) (get_or second i d)
decided_at_moves i first second d l m apart h =
    let e = drop-cons first i d l in
    let f = drop-cons second i d m in
    let by_moves = decided_by_moves (get_or first i d) (get_or second i d) (drop (suc i) first) (drop (suc i) second) apart in (
      λ k. by_moves.0 (subst (λ ys. ComesBefore (get_or first i d ∷ drop (suc i) first) ys) f (subst (λ xs. ComesBefore xs (drop i second)) e (h.0 k))),
      λ k. h.1 (subst (λ xs. ComesBefore xs (drop i second)) (sym e) (subst (λ ys. ComesBefore (get_or first i d ∷ drop (suc i) first) ys) (sym f) (by_moves.1 k))),
    )

pub decided_from_next : (i : ℕ) (first second : List PathMove) (d : PathMove) → i < length first → i < length second → get_or first i d ≡ get_or second i d
    → IsDecidedFrom i first second → IsDecidedFrom (i + 1) first second
decided_from_next i first second d l m same h =
    let e : drop i first ≡ get_or first i d ∷ drop (i + 1) first = rw add-one (drop-cons first i d l) in
    let f : drop i second ≡ get_or second i d ∷ drop (i + 1) second = rw add-one (drop-cons second i d m) in
    let by_rest = decided_by_rest (get_or first i d) (get_or second i d) (drop (i + 1) first) (drop (i + 1) second) same in (
      λ k. by_rest.0 (subst (λ ys. ComesBefore (get_or first i d ∷ drop (i + 1) first) ys) f (subst (λ xs. ComesBefore xs (drop i second)) e (h.0 k))),
      λ k. h.1 (subst (λ xs. ComesBefore xs (drop i second)) (sym e) (subst (λ ys. ComesBefore (get_or first i d ∷ drop (i + 1) first) ys) (sym f) (by_rest.1 k))),
    )

-- what the comparison of two moves says
abbrev same_moves : PathMove → PathMove → Bool
same_moves a b = eqb a.item b.item && eqb a.load b.load

pub same_from_ne : (a b : PathMove) (r : Bool) → r ≡ not (same_moves a b) → r ≡ false → a ≡ b
same_from_ne a b r e f =
    let both : same_moves a b ≡ true = grind (arith, nat_tests) in
    let items : a.item ≡ b.item = grind (arith, nat_tests) in
    let loads : a.load ≡ b.load = grind (arith, nat_tests) in
    ap (λ item. moved item a.load) items ∙ ap (moved b.item) loads

pub apart_from_ne : (a b : PathMove) (r : Bool) → r ≡ not (same_moves a b) → r ≡ true → a ≡ b → ⊥
apart_from_ne a b r e f same =
    let items : a.item ≡ b.item = ap (λ x. x.item) same in
    let loads : a.load ≡ b.load = ap (λ x. x.load) same in
    grind (arith, nat_tests)
