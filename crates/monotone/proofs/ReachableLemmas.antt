-- The reachable positions, and their number.
use Rattle.std.proofs.Common.{◌≡◌, ◌≢◌, ◌↔◌, ℕ, ◌-◌, ◌<◌, ◌≤◌, ◌⊎◌, Bool, true, false, cond, ◌&&◌, eqb, List, [], ◌∷◌, map, length, get_or, refl, sym, ap, ◌∙◌, subst}
use Rattle.std.proofs.Common.{⊎_elim, inl, inr, arith}
use Rattle.std.specs.Prelude.{All, AllPairs, Contains, IsTrue}
use Rattle.std.specs.List.{filter, list_any}
use Rattle.std.proofs.lemmas.Bool.{eqb-true, eq-eqb}
use Rattle.std.proofs.lemmas.List.Elements.{Contains-get_or}
use Rattle.items.specs.Game.{GameNumbers}
use Rattle.items.specs.Multiset.{sizes_of}
use Rattle.loads.specs.declared.position.Position.{Position}
use Rattle.loads.specs.After.{after}
use Rattle.monotone.specs.declared.path.PathMove.{PathMove}
use Rattle.loads.specs.Wins.{empty_position}
use Rattle.monotone.specs.Paths.{IsLegalFrom, IsLegalPath, position_after}
use Rattle.monotone.specs.Passes.{allowed_in}
use Rattle.monotone.specs.Positions.{IsReachable, AreReachable, CountsReachable, CountsReachableOfPass, CountsAllReachable}
use Rattle.monotone.proofs.ListLemmas.{Contains-first, Contains-later, Contains-nothing, Contains-split, Contains-map, from_map, AllPairs-cons, length-le-members}
use Rattle.monotone.proofs.PassLemmas.{allowed_later}
use Rattle.monotone.proofs.DecideLemmas.{both, any_found, any_told, is_legal_from, path_told}
use Rattle.monotone.proofs.EnumerationLemmas.{paths_of, legal_in_paths_of}

-- whether two lists, and two positions, are the same
abbrev pub same_lists : List ℕ → List ℕ → Bool
same_lists [] [] = true
same_lists [] (y ∷ ys) = false
same_lists (x ∷ xs) [] = false
same_lists (x ∷ xs) (y ∷ ys) = eqb x y && same_lists xs ys

lists_told : (xs ys : List ℕ) → IsTrue (same_lists xs ys) ↔ (xs ≡ ys)
lists_told [] [] = (λ h. refl, λ e. refl)
lists_told [] (y ∷ ys) = (λ h. cc, λ e. cc)
lists_told (x ∷ xs) [] = (λ h. cc, λ e. cc)
lists_told (x ∷ xs) (y ∷ ys) =
    let t = both (eqb x y) (same_lists xs ys) (x ≡ y) (xs ≡ ys) (eqb-true x y, eq-eqb x y) (lists_told xs ys) in
    (λ h. let r = t.0 h in ap (λ z. z ∷ xs) r.0 ∙ ap (λ zs. y ∷ zs) r.1, λ e. t.1 (cc, cc))

abbrev pub same_position : Position → Position → Bool
same_position p q = same_lists p.loads q.loads && same_lists p.items q.items

abbrev position : List ℕ → List ℕ → Position
position loads items = record { loads = loads; items = items }

position_told : (p q : Position) → IsTrue (same_position p q) ↔ (p ≡ q)
position_told p q =
    let t = both (same_lists p.loads q.loads) (same_lists p.items q.items) (p.loads ≡ q.loads) (p.items ≡ q.items) (lists_told p.loads q.loads) (lists_told p.items q.items) in
    (λ h. let r = t.0 h in ap (λ loads. position loads p.items) r.0 ∙ ap (position q.loads) r.1, λ e. t.1 (ap (λ x. x.loads) e, ap (λ x. x.items) e))

-- a list of positions with repeats taken out
unfoldable pub each_once : List Position → List Position
each_once [] = []
each_once (p ∷ ps) = cond (list_any (same_position p) ps) (each_once ps) (p ∷ each_once ps)

stands_later : (p : Position) (ps : List Position) → IsTrue (list_any (same_position p) ps) ↔ Contains ps p
stands_later p ps = (
  λ h. let r = any_found (same_position p) (λ q. p ≡ q) (position_told p) ps h in subst (Contains ps) (sym r.2) r.1,
  λ c. any_told (same_position p) (λ q. p ≡ q) (position_told p) ps p c refl,
)

abbrev KeepsAll : List Position → List Position → Type 0
KeepsAll ps qs = (q : Position) → Contains qs q ↔ Contains ps q

record IsOnceOf (ps qs : List Position) : Type 0 where
  keeps : KeepsAll ps qs
  once : AllPairs ◌≢◌ qs

once_with : (p : Position) (ps : List Position) → IsOnceOf ps (each_once ps) → (b : Bool) → IsTrue b ↔ Contains ps p → IsOnceOf (p ∷ ps) (cond b (each_once ps)
    (p ∷ each_once ps))
once_with p ps h true told = record {
  keeps = λ q. (
    λ c. Contains-later p ps q ((h.keeps q).0 c),
    λ c. (h.keeps q).1 (⊎_elim (λ e. subst (Contains ps) e (told.0 refl)) (λ later. later) (Contains-split p ps q c)),
  );
  once = h.once;
}
once_with p ps h false told = record {
  keeps = λ q. (
    λ c. ⊎_elim (λ e. subst (Contains (p ∷ ps)) e (Contains-first p ps)) (λ later. Contains-later p ps q ((h.keeps q).0 later)) (Contains-split p (each_once ps) q c),
    λ c. ⊎_elim (λ e. subst (Contains (p ∷ each_once ps)) e (Contains-first p (each_once ps))) (λ later. Contains-later p (each_once ps) q ((h.keeps q).1 later))
        (Contains-split p ps q c),
  );
  once = AllPairs-cons ◌≢◌ p (each_once ps) (λ k d l e. let found : Contains ps p = (h.keeps p).0 (subst (Contains (each_once ps)) (sym e)
      (Contains-get_or (each_once ps) k d l)) in let no : false ≡ true = told.1 found in cc) h.once;
}

IsOnceOf-each_once : (ps : List Position) → IsOnceOf ps (each_once ps)
unfolding each_once
IsOnceOf-each_once [] = record { keeps = λ q. (λ c. c, λ c. c); once = λ i j d l m. absurd (omega (arith, m)) }
IsOnceOf-each_once (p ∷ ps) = once_with p ps (IsOnceOf-each_once ps) (list_any (same_position p) ps) (stands_later p ps)

-- the elements of a list that pass a test
filter_cases : (b : Bool) (x : List PathMove) (xs : List (List PathMove)) (y : List PathMove) → Contains (cond b (x ∷ xs) xs) y → (IsTrue b × (x ≡ y)) ⊎ Contains xs y
filter_cases true x xs y c = ⊎_elim (λ e. inl (refl, e)) (λ later. inr later) (Contains-split x xs y c)
filter_cases false x xs y c = inr c

filter_here : (b : Bool) (x : List PathMove) (xs : List (List PathMove)) → IsTrue b → Contains (cond b (x ∷ xs) xs) x
filter_here true x xs h = Contains-first x xs
filter_here false x xs h = cc

filter_later : (b : Bool) (x : List PathMove) (xs : List (List PathMove)) (y : List PathMove) → Contains xs y → Contains (cond b (x ∷ xs) xs) y
filter_later true x xs y c = Contains-later x xs y c
filter_later false x xs y c = c

module _ (test : List PathMove → Bool) where
  passed : (xs : List (List PathMove)) (y : List PathMove) → Contains (filter test xs) y → IsTrue (test y)
  passed [] y c = absurd (Contains-nothing y c)
  passed (x ∷ xs) y c = ⊎_elim (λ h. subst (λ z. IsTrue (test z)) h.1 h.0) (λ later. passed xs y later) (filter_cases (test x) x (filter test xs) y c)

  kept : (xs : List (List PathMove)) (y : List PathMove) → Contains xs y → IsTrue (test y) → Contains (filter test xs) y
  kept [] y c h = absurd (Contains-nothing y c)
  kept (x ∷ xs) y c h = ⊎_elim (λ e. subst (Contains (filter test (x ∷ xs))) e (filter_here (test x) x (filter test xs) (subst (λ z. IsTrue (test z)) (sym e) h)))
      (λ later. filter_later (test x) x (filter test xs) y (kept xs y later h)) (Contains-split x xs y c)

-- the reachable positions, written out
module _ (game : GameNumbers) (allowed : List ℕ → ℕ → Bool) where
  unfoldable pub legal_paths : List (List PathMove)
  legal_paths = filter (is_legal_from game allowed (empty_position game)) (paths_of game)

  legal_path_there : (path : List PathMove) → IsLegalPath game allowed path → Contains legal_paths path
  unfolding legal_paths
  legal_path_there path h =
      kept (is_legal_from game allowed (empty_position game)) (paths_of game) path (legal_in_paths_of game allowed path h)
      ((path_told game allowed (empty_position game) path).1 h)

  legal_if_there : (path : List PathMove) → Contains legal_paths path → IsLegalPath game allowed path
  unfolding legal_paths
  legal_if_there path c =
      (path_told game allowed (empty_position game) path).0 (passed (is_legal_from game allowed (empty_position game)) (paths_of game) path c)

  unfoldable pub reachable : List Position
  reachable = each_once (map (position_after (empty_position game)) legal_paths)

  pub AreReachable-reachable : AreReachable game allowed reachable
  unfolding reachable
  AreReachable-reachable =
      let all = map (position_after (empty_position game)) legal_paths in
      let h = IsOnceOf-each_once all in
      record {
        exact = λ p. (
          λ c. let r = from_map (position_after (empty_position game)) legal_paths p ((h.keeps p).0 c) in (r.0, legal_if_there r.0 r.1, sym r.2),
          λ e. (h.keeps p).1 (subst (Contains all) (sym e.2) (Contains-map (position_after (empty_position game)) legal_paths e.0 (legal_path_there e.0 e.1))),
        );
        once = h.once;
      }

  pub reachable_positions_are_counted : (number : ℕ) × CountsReachable game allowed number
  reachable_positions_are_counted = (length reachable, (reachable, AreReachable-reachable, refl))

  pub reachable_are_no_more : (number : ℕ) (positions : List Position) → CountsReachable game allowed number → All (IsReachable game allowed) positions → AllPairs ◌≢◌ positions
      → length positions ≤ number
  reachable_are_no_more number positions (all, h, e) are once =
      let few = length-le-members positions all once (λ k d l. (h.exact (get_or positions k d)).1 (are k d l)) in
      omega (arith, few, e)

  number_le : (one other : ℕ) → CountsReachable game allowed one → CountsReachable game allowed other → one ≤ other
  number_le one other (all, h, e) others =
      let few = reachable_are_no_more other all others (λ k d l. (h.exact (get_or all k d)).0 (Contains-get_or all k d l)) h.once in
      omega (arith, few, e)

  pub one_number_of_reachable : (one other : ℕ) → CountsReachable game allowed one → CountsReachable game allowed other → one ≡ other
  one_number_of_reachable one other h k = omega (arith, number_le one other h k, number_le other one k h)

-- what more sizes are allowed in, more paths are legal in
legal_in_more : (game : GameNumbers) (allowed more : List ℕ → ℕ → Bool) → ((items : List ℕ) (size : ℕ) → IsTrue (allowed items size) → IsTrue (more items size))
    → (start : Position) (path : List PathMove) → IsLegalFrom game allowed start path → IsLegalFrom game more start path
legal_in_more game allowed more h start [] l = tt
legal_in_more game allowed more h start (step ∷ path) l = (
  record { allowed_size = h start.items step.item l.0.allowed_size; packable = l.0.packable; has_load = l.0.has_load; below_target = l.0.below_target },
  legal_in_more game allowed more h (after start step.load step.item) path l.1,
)

pub last_pass_has_most : (game : GameNumbers) (pass number all : ℕ) → pass < game.capacity → CountsReachableOfPass game pass number → CountsAllReachable game all → number ≤ all
last_pass_has_most game pass number all below (reachable, h, e) most =
    let sizes = sizes_of game in
    let last = game.capacity - 1 in
    let more = legal_in_more game (allowed_in sizes pass) (allowed_in sizes last) (λ items size. allowed_later sizes items pass last size (omega (arith, below)))
    (empty_position game) in
    let each : All (IsReachable game (allowed_in sizes last)) reachable = λ k d l.
    let is = (h.exact (get_or reachable k d)).0 (Contains-get_or reachable k d l) in
    (is.0, more is.0 is.1, is.2) in
    let few = reachable_are_no_more game (allowed_in sizes last) all reachable most each h.once in
    omega (arith, few, e)
