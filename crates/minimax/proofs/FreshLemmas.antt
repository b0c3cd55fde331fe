-- How many positions are still to be visited, and what is left of a budget where the table has room for all reachable positions.
use Rattle.std.proofs.Common.{◌≡◌, ◌≢◌, ℕ, zero, suc, ◌+◌, ◌-◌, ◌*◌, ◌<◌, ◌≤◌, Bool, true, false, cond, not, ◌&&◌, eqb, leb, Option, Some, None}
use Rattle.std.proofs.Common.{List, [], ◌∷◌, ◌++◌, length, refl, sym, ap, ◌∙◌, subst, inl, inr, arith, rules}
use Rattle.std.specs.Prelude.{AllPairs, Contains, IfOk, IsSome, Result, ◌^◌, count_by, if◌then◌else◌, sum, sum_by, ◌==◌}
use Rattle.std.specs.Cmp.{IsEquivalence}
use Rattle.std.specs.Cmp.Lexicographic.{pointwise, same_text}
use Rattle.std.specs.Cmp.Rules.{comparing}
use Rattle.std.specs.List.{range_with_len}
use Rattle.std.proofs.Math.Bool.{and-true}
use Rattle.std.proofs.lemmas.Bool.{and_from, and_right, cases_lt, eq-eqb, eqb-true, false_from_ne_true, le-leb, leb-true, not_from_false, not_from_true}
use Rattle.std.proofs.lemmas.List.FromFn.{length-range_with_len, sum_by-map-range_with_len_more}
use Rattle.std.proofs.lemmas.List.Sums.{count_by-le-length, sum-map, sum_by-cons, sum_by-le}
use Rattle.items.specs.Game.{GameNumbers}
use Rattle.minimax.specs.declared.space.Space.{Space}
use Rattle.items.specs.Multiset.{sizes_of}
use Rattle.items.specs.Packable.{Packable}
use Rattle.items.proofs.MultisetLemmas.{sum-put_ascending}
use Rattle.loads.specs.After.{after}
use Rattle.loads.specs.Position.{are_equal}
use Rattle.loads.specs.Position.{position as position_with}
use Rattle.loads.specs.Wins.{empty_position}
use Rattle.loads.specs.declared.position.Position.{Position}
use Rattle.packing_witness.proofs.PackingLemmas.{size_of_last}
use Rattle.good_situations.specs.Finish.{Finishes}
use Rattle.minimax.specs.declared.replies.Reply.{Reply}
use Rattle.minimax.specs.declared.wins.Win.{Win}
use Rattle.monotone.specs.Passes.{allowed_in, listed_sizes, passes_of, whole_game}
use Rattle.monotone.specs.Paths.{IsLegalFrom}
use Rattle.monotone.specs.Positions.{CountsAllReachable, CountsReachable, IsReachable}
use Rattle.monotone.specs.Visits.{Metered, counted, most_visits, unused, visit}
use Rattle.monotone.specs.declared.meter.VisitFault.{VisitFault}
use Rattle.monotone.specs.declared.meter.VisitFault.TheVariants.{Memory, Spent}
use Rattle.monotone.specs.declared.path.PathMove.{PathMove}
use Rattle.monotone.proofs.ReachableLemmas.{reachable_positions_are_counted, last_pass_has_most}
use Rattle.monotone.proofs.ListLemmas.{AllPairs-first, AllPairs-tail, Contains-first, Contains-later, Contains-nothing, Contains-split, all_range}
use Rattle.monotone.proofs.PassLemmas.{allowed_later, both_true}
use Rattle.transposition.specs.Bounded.{IsBoundedMap, Puts, SameEntries, bounded}
use Rattle.transposition.specs.Memo.{verdict_of}
use Rattle.transposition.specs.declared.verdict.Verdict.{Verdict}
use Rattle.transposition.specs.declared.verdict.Verdict.TheVariants.{Adversary, Algorithm, Held}
use Rattle.transposition.proofs.RoomLemmas.{new_positions_find_room}
use Rattle.std.specs.declared.alloc.AllocError.{AllocError}
use Rattle.minimax.proofs.RootLemmas.{on_ok}
use Rattle.minimax.specs.Answers.{IsAnswerOver, IsDecided}
use Rattle.minimax.specs.declared.answer.Answer.{Answer}
use Rattle.minimax.specs.declared.answer.Answer.TheVariants as Answers
use Rattle.minimax.specs.Budgets.{AreNumbersOfReachable, HasRoom, IsOfAdversary, reachable_before}
use Rattle.minimax.specs.Fresh.{AreOfReachable, HasRoomIn, CountsFresh, IsLessThanReachable, IsShort, IsWithin, IsWithinReachable, Looks, Progress, but, counted_and_fresh}
use Rattle.minimax.specs.Fresh.{is_fresh, number_fresh, progress}
use Rattle.minimax.specs.State.{AreKnown, IsOfPass, IsTold, IsWonIn, StandsAtPath, allowed_by, space_of}
use Rattle.minimax.specs.declared.table.Told.{Told}
use Rattle.minimax.specs.declared.table.Told.TheVariants.{Earlier, Settled, Unknown}

-- ---- equal positions

pub equal_positions : IsEquivalence are_equal
equal_positions = search (comparing, rules)

pub are_equal-told : (p q : Position) → are_equal p q ≡ true → p ≡ q
are_equal-told p q h =
    let both = (both_true (pointwise ◌==◌ p.loads q.loads) (pointwise ◌==◌ p.items q.items)).0 h in
    ap (λ loads. position_with loads p.items) (same_text p.loads q.loads (sym both.0)) ∙ ap (position_with q.loads) (same_text p.items q.items (sym both.1))

are_equal-apart : (p q : Position) → (p ≡ q → ⊥) → are_equal p q ≡ false
are_equal-apart p q apart = false_from_ne_true (are_equal p q) (λ e. apart (are_equal-told p q e))

but-here : (looked : Position → Bool) (p : Position) → but looked p p ≡ false
but-here looked p = and_right (looked p) (not (are_equal p p)) (not_from_true (are_equal p p) (equal_positions.refl p))

but-other : (looked : Position → Bool) (p q : Position) → (p ≡ q → ⊥) → but looked p q ≡ looked q
but-other looked p q apart = ap (λ b. looked q && not b) (are_equal-apart p q apart) ∙ and-true (looked q)

-- another position that is looked at still is
pub but-keeps : (looked : Position → Bool) (p q : Position) → looked q ≡ true → (p ≡ q → ⊥) → but looked p q ≡ true
but-keeps looked p q is apart = but-other looked p q apart ∙ is

-- ---- counts by a test

count_by-first : (f : Position → Bool) (p : Position) (ps : List Position) → count_by f (p ∷ ps) ≡ cond (f p) 1 0 + count_by f ps
count_by-first f p ps = sum_by-cons (λ x. cond (f x) 1 0) p ps

-- tests that agree on a list
count_by-alike : (f g : Position → Bool) (ps : List Position) → ((p : Position) → Contains ps p → f p ≡ g p) → count_by f ps ≡ count_by g ps
count_by-alike f g [] h = refl
count_by-alike f g (p ∷ ps) h =
    count_by-first f p ps
    ∙ ap (λ b. cond b 1 0 + count_by f ps) (h p (Contains-first p ps))
    ∙ ap (λ n. cond (g p) 1 0 + n) (count_by-alike f g ps (λ q c. h q (Contains-later p ps q c)))
    ∙ sym (count_by-first g p ps)

one_here : (a b c d : ℕ) → a ≡ 1 + b → c ≡ 0 + d → b ≡ d → a ≡ c + 1
one_here a b c d l r e = omega (arith, l, r, e)

one_later : (a b c d k : ℕ) → a ≡ k + b → c ≡ k + d → b ≡ d + 1 → a ≡ c + 1
one_later a b c d k l r e = omega (arith, l, r, e)

-- tests that agree but at one element of a list in which nothing stands twice
count_by-but_one : (f g : Position → Bool) (one : Position) (ps : List Position) → f one ≡ true → g one ≡ false
    → ((q : Position) → (one ≡ q → ⊥) → f q ≡ g q) → AllPairs ◌≢◌ ps → Contains ps one → count_by f ps ≡ count_by g ps + 1
count_by-but_one f g one [] is none same once c = absurd (Contains-nothing one c)
count_by-but_one f g one (p ∷ ps) is none same once c = elim (Contains-split p ps one c) [
  | inl e ↦ one_here (count_by f (p ∷ ps)) (count_by f ps) (count_by g (p ∷ ps)) (count_by g ps)
      (count_by-first f p ps ∙ ap (λ b. cond b 1 0 + count_by f ps) (ap f e ∙ is))
      (count_by-first g p ps ∙ ap (λ b. cond b 1 0 + count_by g ps) (ap g e ∙ none))
      (count_by-alike f g ps (λ q among. same q (λ s. AllPairs-first ◌≢◌ p ps q once among (e ∙ s))))
  | inr later ↦ one_later (count_by f (p ∷ ps)) (count_by f ps) (count_by g (p ∷ ps)) (count_by g ps) (cond (g p) 1 0)
      (count_by-first f p ps ∙ ap (λ b. cond b 1 0 + count_by f ps) (same p (λ s. AllPairs-first ◌≢◌ p ps one once later (sym s))))
      (count_by-first g p ps)
      (count_by-but_one f g one ps is none same (AllPairs-tail ◌≢◌ p ps once) later)
]

-- ---- fresh positions

-- a position that is looked at and to be visited
abbrev is_due : ℕ → (Position → Bool) → List (Position × Verdict) → Position → Bool
is_due pass looked entries p = looked p && is_fresh pass (verdict_of entries p)

pub number_fresh-same : (pass : ℕ) (looked : Position → Bool) (old new : List (Position × Verdict)) (positions : List Position)
    → SameEntries are_equal old new → number_fresh pass looked new positions ≡ number_fresh pass looked old positions
number_fresh-same pass looked old new positions same =
    count_by-alike (is_due pass looked new) (is_due pass looked old) positions (λ p c. ap (λ o. looked p && is_fresh pass o) (same.values p))

pub number_fresh-visit : (pass : ℕ) (looked : Position → Bool) (entries : List (Position × Verdict)) (positions : List Position) (position : Position)
    → AllPairs ◌≢◌ positions → Contains positions position → looked position ≡ true → is_fresh pass (verdict_of entries position) ≡ true
    → number_fresh pass looked entries positions ≡ number_fresh pass (but looked position) entries positions + 1
number_fresh-visit pass looked entries positions p once c is fresh =
    count_by-but_one (is_due pass looked entries) (is_due pass (but looked p) entries) p positions
    (and_from (looked p) (is_fresh pass (verdict_of entries p)) is fresh)
    (ap (λ b. b && is_fresh pass (verdict_of entries p)) (but-here looked p))
    (λ q apart. ap (λ b. b && is_fresh pass (verdict_of entries q)) (sym (but-other looked p q apart))) once c

put_alike : (pass : ℕ) (l e : Bool) (o n : Option Verdict) (verdict : Verdict) → n ≡ (if e then Some verdict else o)
    → is_fresh pass (Some verdict) ≡ false → (l && is_fresh pass n) ≡ ((l && not e) && is_fresh pass o)
put_alike pass false e o n verdict h stale = refl
put_alike pass true true o n verdict h stale = ap (is_fresh pass) h ∙ stale
put_alike pass true false o n verdict h stale = ap (is_fresh pass) h

pub number_fresh-put : (pass more : ℕ) (looked : Position → Bool) (old new : List (Position × Verdict)) (positions : List Position) (position : Position)
    (verdict : Verdict) → Puts are_equal old new position verdict more → is_fresh pass (Some verdict) ≡ false
    → number_fresh pass looked new positions ≡ number_fresh pass (but looked position) old positions
number_fresh-put pass more looked old new positions p verdict puts stale =
    count_by-alike (is_due pass looked new) (is_due pass (but looked p) old) positions
    (λ q c. put_alike pass (looked q) (are_equal p q) (verdict_of old q) (verdict_of new q) verdict (puts.values q) stale)

pub number_fresh-le : (pass : ℕ) (looked : Position → Bool) (entries : List (Position × Verdict)) (positions : List Position)
    → number_fresh pass looked entries positions ≤ length positions
number_fresh-le pass looked entries positions = count_by-le-length (is_due pass looked entries) positions

-- a verdict of a pass leaves nothing to be visited in it, and any other leaves the position fresh
pub is_fresh-of_pass : (pass : ℕ) (verdict : Verdict) → IsOfPass pass verdict → is_fresh pass (Some verdict) ≡ false
is_fresh-of_pass pass (Adversary number) h = refl
is_fresh-of_pass pass (Algorithm number) h = refl
is_fresh-of_pass pass (Held held) h = not_from_true (eqb held pass) (eq-eqb held pass h)

pub is_fresh-other : (pass : ℕ) (verdict : Verdict) → (IsOfPass pass verdict → ⊥) → is_fresh pass (Some verdict) ≡ true
is_fresh-other pass (Adversary number) h = absurd (h tt)
is_fresh-other pass (Algorithm number) h = absurd (h tt)
is_fresh-other pass (Held held) h = not_from_false (eqb held pass) (false_from_ne_true (eqb held pass) (λ e. h (eqb-true held pass e)))

-- where the table does not settle a position it is to be visited
fresh_told : (pass : ℕ) (o : Option Verdict) (told : Told) → IsTold pass o told → ((verdict : Verdict) → told ≡ Settled verdict → ⊥) → is_fresh pass o ≡ true
fresh_told pass o (Settled verdict) h not_settled = absurd (not_settled verdict refl)
fresh_told pass o (Earlier held) h not_settled = subst (λ x. is_fresh pass x ≡ true) (sym h.0) (is_fresh-other pass (Held held) h.1)
fresh_told pass o Unknown h not_settled = subst (λ x. is_fresh pass x ≡ true) (sym h) refl

pub fresh_at : (pass : ℕ) (entries : List (Position × Verdict)) (key position : Position) (told : Told) → key ≡ position → IsTold pass (verdict_of entries key) told
    → ((verdict : Verdict) → told ≡ Settled verdict → ⊥) → is_fresh pass (verdict_of entries position) ≡ true
fresh_at pass entries key position told e h not_settled =
    subst (λ p. is_fresh pass (verdict_of entries p) ≡ true) e (fresh_told pass (verdict_of entries key) told h not_settled)

-- a position that finishes and is to be visited has no entry
pub none_for_finish : (space : Space) (pass : ℕ) (wins : List Win) (replies : List Reply) (entries : List (Position × Verdict)) (position : Position)
    → AreKnown space wins replies entries → Finishes space.game position.loads → is_fresh pass (verdict_of entries position) ≡ true → verdict_of entries position ≡ None
none_for_finish space pass wins replies entries position known finishes fresh = by_entry (verdict_of entries position) refl fresh
  where
    by_entry : (o : Option Verdict) → verdict_of entries position ≡ o → is_fresh pass o ≡ true → verdict_of entries position ≡ None
    by_entry None e h = e
    by_entry (Some (Adversary number)) e h = let no : false ≡ true = h in cc
    by_entry (Some (Algorithm number)) e h = let no : false ≡ true = h in cc
    by_entry (Some (Held held)) e h = absurd ((known position (Held held) e).unfinished finishes)

-- ---- a table with room for all reachable positions drops nothing

legal_later : (space : Space) (pass later : ℕ) → pass ≤ later → (start : Position) (path : List PathMove)
    → IsLegalFrom space.game (allowed_by space pass) start path → IsLegalFrom space.game (allowed_by space later) start path
legal_later space pass later l start [] h = tt
legal_later space pass later l start (step ∷ path) h = (
  record {
    allowed_size = allowed_later space.sizes start.items pass later step.item l h.0.allowed_size;
    packable = h.0.packable;
    has_load = h.0.has_load;
    below_target = h.0.below_target;
  },
  legal_later space pass later l (after start step.load step.item) path h.1,
)

pub IsReachable-stands : (space : Space) (pass : ℕ) (path : List PathMove) (position : Position) → StandsAtPath space pass path position
    → IsReachable space.game (allowed_by space pass) position
IsReachable-stands space pass path position s = (path, s.legal, s.here)

-- what is reachable in a pass is so in the last pass
pub IsReachable-last : (space : Space) (pass : ℕ) (path : List PathMove) (position : Position) → StandsAtPath space pass path position
    → IsReachable space.game (allowed_by space (space.game.capacity - 1)) position
IsReachable-last space pass path position s =
    (path, legal_later space pass (space.game.capacity - 1) (omega (arith, s.of_game)) (empty_position space.game) path s.legal, s.here)

-- a new entry of a reachable position finds room
pub room_for_reachable : (space : Space) (entries : List (Position × Verdict)) (room : ℕ) (position : Position) → HasRoomIn space room → AreOfReachable space entries
    → IsBoundedMap are_equal (bounded entries room) → IsReachable space.game (allowed_by space (space.game.capacity - 1)) position → verdict_of entries position ≡ None
    → length entries < room
room_for_reachable space entries room position (all, (positions, reachable, long), l) of_reachable valid is none =
    let few = new_positions_find_room entries room positions position valid (λ one some. (reachable.exact one).1 (of_reachable one some)) ((reachable.exact position).1 is) none in
    omega (arith, few, long, l)

put_by : (old new : List (Position × Verdict)) (key : Position) (verdict : Verdict) (room : ℕ) (o : Option Verdict) → verdict_of old key ≡ o
    → (IsSome (verdict_of old key) → Puts are_equal old new key verdict 0)
    → (verdict_of old key ≡ None → length old < room → Puts are_equal old new key verdict 1)
    → (verdict_of old key ≡ None → length old < room) → (more : ℕ) × Puts are_equal old new key verdict more
put_by old new key verdict room None e present below left = (1, below e (left e))
put_by old new key verdict room (Some told) e present below left = (0, present (subst IsSome (sym e) refl))

-- where a new entry finds room, a verdict is put and nothing is dropped
pub put_in_room : (old new : List (Position × Verdict)) (key : Position) (verdict : Verdict) (room : ℕ)
    → (IsSome (verdict_of old key) → Puts are_equal old new key verdict 0)
    → (verdict_of old key ≡ None → length old < room → Puts are_equal old new key verdict 1)
    → (verdict_of old key ≡ None → length old < room) → (more : ℕ) × Puts are_equal old new key verdict more
put_in_room old new key verdict room present below left = put_by old new key verdict room (verdict_of old key) refl present below left

reachable_or_old : (space : Space) (old : List (Position × Verdict)) (key p : Position) (verdict : Verdict) (b : Bool) (o : Option Verdict) → are_equal key p ≡ b
    → o ≡ (if b then Some verdict else verdict_of old p) → AreOfReachable space old → IsReachable space.game (allowed_by space (space.game.capacity - 1)) key → IsSome o
    → IsReachable space.game (allowed_by space (space.game.capacity - 1)) p
reachable_or_old space old key p verdict true o same e of_reachable is some = subst (IsReachable space.game (allowed_by space (space.game.capacity - 1))) (are_equal-told key p same) is
reachable_or_old space old key p verdict false o same e of_reachable is some = of_reachable p (subst IsSome e some)

pub AreOfReachable-put : (space : Space) (more : ℕ) (old new : List (Position × Verdict)) (key : Position) (verdict : Verdict) → Puts are_equal old new key verdict more
    → AreOfReachable space old → IsReachable space.game (allowed_by space (space.game.capacity - 1)) key → AreOfReachable space new
AreOfReachable-put space more old new key verdict puts of_reachable is = λ p some.
    reachable_or_old space old key p verdict (are_equal key p) (verdict_of new p) refl (puts.values p) of_reachable is some

AreOfReachable-same : (space : Space) (old new : List (Position × Verdict)) → SameEntries are_equal old new → AreOfReachable space old → AreOfReachable space new
AreOfReachable-same space old new same of_reachable = λ p some. of_reachable p (subst IsSome (same.values p) some)

-- ---- steps of a search

module _ (space : Space) (pass : ℕ) where
  Looks-after : (volume : ℕ) (looked : Position → Bool) (positions : List Position) (a b : Progress) → CountsFresh space pass volume a b
      → Looks space pass volume looked positions a → Looks space pass volume looked positions b
  Looks-after volume looked positions a b g l = record {
    has_room = subst (HasRoomIn space) (sym g.room) l.has_room;
    of_reachable = g.of_reachable l.has_room l.of_reachable;
    reachable = l.reachable;
    looks = l.looks;
  }

  Looks-above : (volume more : ℕ) (looked : Position → Bool) (positions : List Position) (a : Progress) → volume ≤ more
      → Looks space pass volume looked positions a → Looks space pass more looked positions a
  Looks-above volume more looked positions a up l =
      record { has_room = l.has_room; of_reachable = l.of_reachable; reachable = l.reachable; looks = λ p m. l.looks p (omega (arith, m, up)) }

  pub CountsFresh-refl : (volume : ℕ) (a : Progress) → CountsFresh space pass volume a a
  CountsFresh-refl volume a = record { room = refl; budget = refl; of_reachable = λ r e. e; fresh = λ looked positions l. omega arith }

  -- the table was asked
  pub CountsFresh-same : (volume : ℕ) (meter : Metered) (old new : List (Position × Verdict)) (room more : ℕ) → SameEntries are_equal old new → more ≡ room
      → CountsFresh space pass volume (progress meter old room) (progress meter new more)
  CountsFresh-same volume meter old new room more same e = record {
    room = e;
    budget = refl;
    of_reachable = λ r of_reachable. AreOfReachable-same space old new same of_reachable;
    fresh = λ looked positions l. omega (arith, number_fresh-same pass looked old new positions same);
  }

  pub CountsFresh-trans : (volume : ℕ) (a b c : Progress) → CountsFresh space pass volume a b → CountsFresh space pass volume b c → CountsFresh space pass volume a c
  CountsFresh-trans volume a b c g h = record {
    room = h.room ∙ g.room;
    budget = h.budget ∙ g.budget;
    of_reachable = λ r e. h.of_reachable (subst (HasRoomIn space) (sym g.room) r) (g.of_reachable r e);
    fresh = λ looked positions l. omega (arith, g.fresh looked positions l, h.fresh looked positions (Looks-after volume looked positions a b g l));
  }

  -- what holds of larger volumes holds of smaller ones
  pub CountsFresh-above : (volume more : ℕ) (a b : Progress) → volume ≤ more → CountsFresh space pass more a b → CountsFresh space pass volume a b
  CountsFresh-above volume more a b up g = record {
    room = g.room;
    budget = g.budget;
    of_reachable = g.of_reachable;
    fresh = λ looked positions l. g.fresh looked positions (Looks-above volume more looked positions a up l);
  }

  pub IsShort-after : (volume : ℕ) (a b : Progress) (fault : VisitFault) → CountsFresh space pass volume a b → IsShort space pass volume b fault
      → IsShort space pass volume a fault
  IsShort-after volume a b Spent g h =
      λ looked positions l. omega (arith, g.budget, g.fresh looked positions l, h looked positions (Looks-after volume looked positions a b g l))
  IsShort-after volume a b Memory g h = tt

  pub IsShort-above : (volume more : ℕ) (a : Progress) (fault : VisitFault) → volume ≤ more → IsShort space pass more a fault → IsShort space pass volume a fault
  IsShort-above volume more a Spent up h = λ looked positions l. h looked positions (Looks-above volume more looked positions a up l)
  IsShort-above volume more a Memory up h = tt

  -- the volume rises with an item
  pub volume_after : (position : Position) (load size : ℕ) → Packable space.game (position.items ++ size ∷ []) → sum position.items + 1 ≤ sum (after position load size).items
  volume_after position load size p = omega (arith, sum-put_ascending size position.items, (size_of_last space.game position.items size p).low)

  -- ---- a visit of a position

  -- a position without a verdict of this pass was visited
  pub record IsVisited (position : Position) (path : List PathMove) (before visited : Progress) : Type 0 where
    pub stands : StandsAtPath space pass path position
    pub fresh : is_fresh pass (verdict_of before.entries position) ≡ true
    pub meter : visited.meter ≡ counted before.meter (visit pass path)
    pub same : SameEntries are_equal before.entries visited.entries
    pub room : visited.room ≡ before.room

  fresh_here : (looked : Position → Bool) (positions : List Position) (position : Position) (path : List PathMove) (a : Progress)
      → Looks space pass (sum position.items) looked positions a → StandsAtPath space pass path position → is_fresh pass (verdict_of a.entries position) ≡ true
      → number_fresh pass looked a.entries positions ≡ number_fresh pass (but looked position) a.entries positions + 1
  fresh_here looked positions position path a l stands fresh =
      number_fresh-visit pass looked a.entries positions position l.reachable.once ((l.reachable.exact position).1 (IsReachable-stands space pass path position stands))
      (l.looks position (omega arith)) fresh

  -- the budget has ended where a fresh position was due
  pub IsShort-spent : (position : Position) (path : List PathMove) (a : Progress) → StandsAtPath space pass path position
      → is_fresh pass (verdict_of a.entries position) ≡ true → a.meter.count ≡ a.meter.budget → IsShort space pass (sum position.items) a Spent
  IsShort-spent position path a stands fresh e = λ looked positions l. omega (arith, e, fresh_here looked positions position path a l stands fresh)

  -- a visit that was not counted was due where the budget has ended
  pub IsShort-fault : (position : Position) (path : List PathMove) (a : Progress) (fault : VisitFault) → StandsAtPath space pass path position
      → is_fresh pass (verdict_of a.entries position) ≡ true → (fault ≡ Spent → a.meter.count ≡ a.meter.budget) → IsShort space pass (sum position.items) a fault
  IsShort-fault position path a Spent stands fresh e = IsShort-spent position path a stands fresh (e refl)
  IsShort-fault position path a Memory stands fresh e = tt

  larger_apart : (p q : Position) → sum p.items + 1 ≤ sum q.items → p ≡ q → ⊥
  larger_apart p q m e =
      let same : sum p.items ≡ sum q.items = ap (λ r. sum r.items) e in
      omega (arith, m, same)

  Looks-visited : (position : Position) (path : List PathMove) (a b : Progress) (looked : Position → Bool) (positions : List Position) → IsVisited position path a b
      → Looks space pass (sum position.items) looked positions a → Looks space pass (sum position.items + 1) (but looked position) positions b
  Looks-visited position path a b looked positions v l = record {
    has_room = subst (HasRoomIn space) (sym v.room) l.has_room;
    of_reachable = AreOfReachable-same space a.entries b.entries v.same l.of_reachable;
    reachable = l.reachable;
    looks = λ q m. but-keeps looked position q (l.looks q (omega (arith, m))) (larger_apart position q m);
  }

  total_visited : (position : Position) (path : List PathMove) (a b : Progress) (looked : Position → Bool) (positions : List Position) → IsVisited position path a b
      → Looks space pass (sum position.items) looked positions a
      → counted_and_fresh pass (but looked position) positions b ≡ counted_and_fresh pass looked positions a
  total_visited position path a b looked positions v l =
      let one : b.meter.count ≡ a.meter.count + 1 = ap (λ m. m.count) v.meter in
      let still = number_fresh-same pass (but looked position) a.entries b.entries positions v.same in
      let here = fresh_here looked positions position path a l v.stands v.fresh in
      omega (arith, one, still, here)

  pub IsShort-visited : (position : Position) (path : List PathMove) (a b : Progress) (fault : VisitFault) → IsVisited position path a b
      → IsShort space pass (sum position.items + 1) b fault → IsShort space pass (sum position.items) a fault
  IsShort-visited position path a b Spent v h = λ looked positions l.
      let same : b.meter.budget ≡ a.meter.budget = ap (λ m. m.budget) v.meter in
      let short = h (but looked position) positions (Looks-visited position path a b looked positions v l) in
      omega (arith, same, short, total_visited position path a b looked positions v l)
  IsShort-visited position path a b Memory v h = tt

  -- a visited position was decided, and its verdict put
  pub CountsFresh-visited : (position : Position) (path : List PathMove) (a b c : Progress) (entries : List (Position × Verdict)) (room : ℕ) (verdict : Verdict)
      → IsVisited position path a b → CountsFresh space pass (sum position.items + 1) b c → IsOfPass pass verdict → IsBoundedMap are_equal (bounded c.entries c.room)
      → ((verdict_of c.entries position ≡ None → length c.entries < c.room) → (more : ℕ) × Puts are_equal c.entries entries position verdict more)
      → room ≡ c.room → CountsFresh space pass (sum position.items) a (progress c.meter entries room)
  CountsFresh-visited position path a b c entries room verdict v g of_pass valid put e = record {
    room = e ∙ g.room ∙ v.room;
    budget = g.budget ∙ ap (λ m. m.budget) v.meter;
    of_reachable = λ r of_reachable. let p = puts r of_reachable in
        AreOfReachable-put space p.0 c.entries entries position verdict p.1 (reachable_decided r of_reachable) (IsReachable-last space pass path position v.stands);
    fresh = λ looked positions l.
        let p = puts l.has_room l.of_reachable in
        let all = number_fresh-put pass p.0 looked c.entries entries positions position verdict p.1 (is_fresh-of_pass pass verdict of_pass) in
        let kept = g.fresh (but looked position) positions (Looks-visited position path a b looked positions v l) in
        omega (arith, all, kept, total_visited position path a b looked positions v l);
  }
    where
      reachable_decided : HasRoomIn space a.room → AreOfReachable space a.entries → AreOfReachable space c.entries
      reachable_decided r of_reachable = g.of_reachable (subst (HasRoomIn space) (sym v.room) r) (AreOfReachable-same space a.entries b.entries v.same of_reachable)

      puts : HasRoomIn space a.room → AreOfReachable space a.entries → (more : ℕ) × Puts are_equal c.entries entries position verdict more
      puts r of_reachable = put (λ none. room_for_reachable space c.entries c.room position (subst (HasRoomIn space) (sym (g.room ∙ v.room)) r) (reachable_decided r of_reachable) valid
          (IsReachable-last space pass path position v.stands) none)

-- ---- sums of the numbers of reachable positions

pub numbers_of_reachable : (game : GameNumbers) → ℕ → ℕ
numbers_of_reachable game pass = (reachable_positions_are_counted game (allowed_in (sizes_of game) pass)).0

pub AreNumbersOfReachable-numbers : (game : GameNumbers) → AreNumbersOfReachable game (numbers_of_reachable game)
unfolding numbers_of_reachable
AreNumbersOfReachable-numbers game pass = (reachable_positions_are_counted game (allowed_in (sizes_of game) pass)).1

pub reachable_before-more : (numbers : ℕ → ℕ) (pass : ℕ) → reachable_before numbers (pass + 1) ≡ reachable_before numbers pass + numbers pass
reachable_before-more numbers pass = sum_by-map-range_with_len_more (λ x. x) numbers 0 pass pass (omega arith)

reachable_before-later : (numbers : ℕ → ℕ) (pass k later : ℕ) → later ≡ pass + k → reachable_before numbers pass ≤ reachable_before numbers later
reachable_before-later numbers pass zero later e =
    let same : later ≡ pass = omega (arith, e) in
    subst (λ n. reachable_before numbers pass ≤ reachable_before numbers n) (sym same) (omega arith)
reachable_before-later numbers pass (suc k) later e =
    let next : later ≡ (pass + k) + 1 = omega (arith, e) in
    let rest = reachable_before-later numbers pass k (pass + k) refl in
    subst (λ n. reachable_before numbers pass ≤ reachable_before numbers n) (sym next) (omega (arith, rest, reachable_before-more numbers (pass + k)))

-- a sum of more of them is no less
pub reachable_before-le : (numbers : ℕ → ℕ) (pass later : ℕ) → pass ≤ later → reachable_before numbers pass ≤ reachable_before numbers later
reachable_before-le numbers pass later l = reachable_before-later numbers pass (later - pass) later (omega (arith, l))

-- so many numbers of at most this much each
pub reachable_before-bound : (numbers : ℕ → ℕ) (most passes : ℕ) → ((pass : ℕ) → pass < passes → numbers pass ≤ most) → reachable_before numbers passes ≤ passes * most
reachable_before-bound numbers most passes h =
    let few = sum_by-le numbers most (range_with_len 0 passes) (all_range (λ pass. numbers pass ≤ most) passes h) in
    subst (λ total. total ≤ passes * most) (sym (sum-map numbers (range_with_len 0 passes)))
    (subst (λ count. sum_by numbers (range_with_len 0 passes) ≤ count * most) (length-range_with_len 0 passes) few)

-- the passes before one have at most so many reachable positions as the last pass, each
pub reachable_before-all : (game : GameNumbers) (all passes : ℕ) (numbers : ℕ → ℕ) → passes ≤ game.capacity → CountsAllReachable game all → AreNumbersOfReachable game numbers
    → reachable_before numbers passes ≤ passes * all
reachable_before-all game all passes numbers l counts are =
    reachable_before-bound numbers all passes (λ pass m. last_pass_has_most game pass (numbers pass) all (omega (arith, l, m)) (are pass) counts)

-- one more pass: what was counted before it, and its fresh positions
pub counted_after_pass : (before after fresh left number sum more : ℕ) → after + left ≤ before + fresh → fresh ≤ number → before ≤ sum → more ≡ sum + number
    → after ≤ more
counted_after_pass before after fresh left number sum more g few counted e = omega (arith, g, few, counted, e)

-- ---- passes of a search

module _ (space : Space) (room budget : ℕ) where
  pub IsWithinReachable-start : (meter : Metered) (entries : List (Position × Verdict)) → meter ≡ unused space.game budget → entries ≡ []
      → IsWithinReachable space room budget space.first_pass (progress meter entries room)
  IsWithinReachable-start meter entries e none = record {
    same_room = refl;
    same_budget = ap (λ m. m.budget) e;
    of_reachable = λ r p some. let no_entry : false ≡ true = subst (λ es. IsSome (verdict_of es p)) none some in cc;
    counted = λ r numbers are. let zero_count : meter.count ≡ 0 = ap (λ m. m.count) e in omega (arith, zero_count);
  }

  -- all positions are looked at
  whole_pass : (pass volume number : ℕ) (a : Progress) → IsWithinReachable space room budget pass a → HasRoomIn space room → (counts : CountsReachable space.game (allowed_by space pass) number)
      → Looks space pass volume (λ p. true) counts.0 a
  whole_pass pass volume number a w r counts = record {
    has_room = subst (HasRoomIn space) (sym w.same_room) r;
    of_reachable = w.of_reachable r;
    reachable = counts.1;
    looks = λ p l. refl;
  }

  pub IsWithinReachable-next : (pass volume : ℕ) (a b : Progress) → space.first_pass ≤ pass → pass < space.game.capacity → IsWithinReachable space room budget pass a → CountsFresh space pass volume a b
      → IsWithinReachable space room budget (pass + 1) b
  IsWithinReachable-next pass volume a b from of_game w g = record {
    same_room = g.room ∙ w.same_room;
    same_budget = g.budget ∙ w.same_budget;
    of_reachable = λ r. g.of_reachable (subst (HasRoomIn space) (sym w.same_room) r) (w.of_reachable r);
    counted = λ r numbers are.
        let counts = are pass from of_game in
        let all : Position → Bool = λ p. true in
        counted_after_pass a.meter.count b.meter.count (number_fresh pass all a.entries counts.0) (number_fresh pass all b.entries counts.0) (numbers pass)
        (reachable_before numbers pass) (reachable_before numbers (pass + 1)) (g.fresh all counts.0 (whole_pass pass volume (numbers pass) a w r counts))
        (omega (arith, number_fresh-le pass all a.entries counts.0, counts.2)) (w.counted r numbers are) (reachable_before-more numbers pass);
  }

  -- where the budget ended in a pass
  pub IsLessThanReachable-short : (pass volume : ℕ) (a : Progress) → space.first_pass ≤ pass → pass < space.game.capacity → IsWithinReachable space room budget pass a → IsShort space pass volume a Spent
      → IsLessThanReachable space room budget pass
  IsLessThanReachable-short pass volume a from of_game w h = λ r numbers are.
      let counts = are pass from of_game in
      let all : Position → Bool = λ p. true in
      let short = h all counts.0 (whole_pass pass volume (numbers pass) a w r counts) in
      let few = number_fresh-le pass all a.entries counts.0 in
      omega (arith, short, few, counts.2, w.same_budget, w.counted r numbers are, reachable_before-more numbers pass)

-- ---- what was promised of an answer

-- all sizes of a game, in all passes
abbrev pub whole : GameNumbers → Space
whole game = record { game = game; sizes = sizes_of game; first_pass = 0 }

module _ (game : GameNumbers) (room budget : ℕ) where
  -- with room for all reachable positions, and a budget of all of them for each pass
  pub decided_by_all : (answer : Answer) → IsAnswerOver (whole_game game) budget answer → IsWithin (whole game) room budget answer → (all : ℕ) → CountsAllReachable game all → all ≤ room
      → game.capacity * all ≤ budget → IsDecided answer
  decided_by_all (Answers.Adversary strategy) is within all counts l enough = tt
  decided_by_all (Answers.Algorithm strategy) is within all counts l enough = tt
  decided_by_all (Answers.Undecided visits pass path) is within all counts l enough =
      let numbers = numbers_of_reachable game in
      let less = within (all, counts, l) numbers (λ k from of_game. AreNumbersOfReachable-numbers game k) in
      let up = reachable_before-le numbers (pass + 1) game.capacity (omega (arith, is.1.is_visit.to_last)) in
      let most = reachable_before-all game all game.capacity numbers (omega arith) counts (AreNumbersOfReachable-numbers game) in
      absurd (omega (arith, less, up, most, enough))

  -- with room for all reachable positions, and a budget of those of each pass
  pub decided_by_passes : (answer : Answer) → IsAnswerOver (whole_game game) budget answer → IsWithin (whole game) room budget answer → HasRoom game room → (numbers : ℕ → ℕ)
      → AreNumbersOfReachable game numbers → reachable_before numbers game.capacity ≤ budget → IsDecided answer
  decided_by_passes (Answers.Adversary strategy) is within r numbers are enough = tt
  decided_by_passes (Answers.Algorithm strategy) is within r numbers are enough = tt
  decided_by_passes (Answers.Undecided visits pass path) is within r numbers are enough =
      let up = reachable_before-le numbers (pass + 1) game.capacity (omega (arith, is.1.is_visit.to_last)) in
      absurd (omega (arith, within r numbers (λ k from of_game. are k), up, enough))

  -- where the adversary wins a pass, and the budget is that of the reachable positions of the passes up to it
  pub won_by_pass : (answer : Answer) → IsAnswerOver (whole_game game) budget answer → IsWithin (whole game) room budget answer → HasRoom game room → (numbers : ℕ → ℕ)
      → AreNumbersOfReachable game numbers → (won : ℕ) → IsWonIn (whole game) won (empty_position game) → reachable_before numbers (won + 1) ≤ budget → IsOfAdversary answer
  won_by_pass (Answers.Adversary strategy) is within r numbers are won wins enough = tt
  won_by_pass (Answers.Algorithm strategy) is within r numbers are won wins enough = within won wins
  won_by_pass (Answers.Undecided visits pass path) is within r numbers are won wins enough = elim (cases_lt won pass) [
    | inl before ↦ is.1.settled.earlier_passes won (omega arith) before wins
    | inr from ↦ let up = reachable_before-le numbers (pass + 1) (won + 1) (omega (arith, from)) in omega (arith, within r numbers (λ k from of_game. are k), up, enough)
  ]

-- these sizes of a game, in the last pass
abbrev pub listed : GameNumbers → List ℕ → Space
listed game sizes = record { game = game; sizes = sizes; first_pass = game.capacity - 1 }

-- with room for all reachable positions of the last pass, and a budget of as many
pub decided_by_listed : (game : GameNumbers) (sizes : List ℕ) (room budget : ℕ) (answer : Answer) → IsAnswerOver (listed_sizes game sizes) budget answer
    → IsWithin (listed game sizes) room budget answer → (all : ℕ) → CountsReachable game (allowed_in sizes (game.capacity - 1)) all
    → all ≤ room → all ≤ budget → IsDecided answer
decided_by_listed game sizes room budget (Answers.Adversary strategy) is within all counts l enough = tt
decided_by_listed game sizes room budget (Answers.Algorithm strategy) is within all counts l enough = tt
decided_by_listed game sizes room budget (Answers.Undecided visits pass path) is within all counts l enough =
    let last : ℕ = game.capacity - 1 in
    let of_visit = is.1.is_visit in
    let here : pass ≡ last = omega (arith, of_visit.from_first, of_visit.to_last) in
    let numbers : ℕ → ℕ = λ k. cond (leb last k) all 0 in
    let at_last : (k : ℕ) → last ≤ k → numbers k ≡ all = λ k from. ap (λ b. cond b all 0) (le-leb last k from) in
    let before : (k : ℕ) → k < last → numbers k ≡ 0 =
    λ k l. ap (λ b. cond b all 0) (false_from_ne_true (leb last k) (λ e. let up = leb-true last k e in omega (arith, up, l))) in
    let less = within (all, counts, l) numbers (λ k from of_game.
    let same : last ≡ k = omega (arith, from, of_game) in
    subst (λ n. CountsReachable game (allowed_in sizes k) n) (sym (at_last k from))
    (subst (λ n. CountsReachable game (allowed_in sizes n) all) same counts)) in
    let none = reachable_before-bound numbers 0 pass (λ k m. omega (arith, before k (omega (arith, m, here)))) in
    absurd (omega (arith, less, enough, none, reachable_before-more numbers pass, at_last pass (omega (arith, here))))

-- what follows from two facts of an answer over all sizes of a game
pub on_whole : {R : Answer → Type 0} (game : GameNumbers) (sizes : List ℕ) (room budget : ℕ) (result : Result Answer AllocError) → sizes ≡ sizes_of game
    → IfOk result (IsAnswerOver (space_of (record { game = game; sizes = sizes; first_pass = 0 })) budget)
    → IfOk result (IsWithin (record { game = game; sizes = sizes; first_pass = 0 }) room budget)
    → ((answer : Answer) → IsAnswerOver (whole_game game) budget answer → IsWithin (whole game) room budget answer → R answer) → IfOk result R
on_whole game sizes room budget result e answer within h = on_ok result
    (subst (λ xs. IfOk result (IsAnswerOver (space_of (record { game = game; sizes = xs; first_pass = 0 })) budget)) e answer)
    (subst (λ xs. IfOk result (IsWithin (record { game = game; sizes = xs; first_pass = 0 }) room budget)) e within) h

-- so over listed sizes
pub on_listed : {R : Answer → Type 0} (game : GameNumbers) (sizes listing : List ℕ) (room budget last : ℕ) (result : Result Answer AllocError) → listing ≡ sizes
    → last ≡ game.capacity - 1
    → IfOk result (IsAnswerOver (space_of (record { game = game; sizes = listing; first_pass = last })) budget)
    → IfOk result (IsWithin (record { game = game; sizes = listing; first_pass = last }) room budget)
    → ((answer : Answer) → IsAnswerOver (listed_sizes game sizes) budget answer → IsWithin (listed game sizes) room budget answer → R answer) → IfOk result R
on_listed game sizes listing room budget last result e f answer within h = on_ok result
    (subst (λ n. IfOk result (IsAnswerOver (space_of (record { game = game; sizes = sizes; first_pass = n })) budget)) f
    (subst (λ xs. IfOk result (IsAnswerOver (space_of (record { game = game; sizes = xs; first_pass = last })) budget)) e answer))
    (subst (λ n. IfOk result (IsWithin (record { game = game; sizes = sizes; first_pass = n }) room budget)) f
    (subst (λ xs. IfOk result (IsWithin (record { game = game; sizes = xs; first_pass = last }) room budget)) e within)) h

-- one pass has at most so many visits
pub visits_of_one_pass : (game : GameNumbers) (sizes : List ℕ) (budget : ℕ) → 1 ≤ game.capacity → (game.bins + 1) ^ (game.bins * game.capacity) ≤ budget
    → most_visits (listed_sizes game sizes) ≤ budget
visits_of_one_pass game sizes budget low enough =
    let one : passes_of (listed_sizes game sizes) ≡ 1 = omega (arith, low) in
    subst (λ n. n * (game.bins + 1) ^ (game.bins * game.capacity) ≤ budget) (sym one) (omega (arith, enough))
