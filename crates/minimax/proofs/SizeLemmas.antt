-- The sizes and the loads of a position, one after the other.
use Rattle.std.proofs.Common.{◌≡◌, ◌↔◌, ℕ, zero, suc, ◌+◌, ◌-◌, ◌<◌, ◌≤◌, ◌⊎◌, List, [], ◌∷◌, ◌++◌, map}
use Rattle.std.proofs.Common.{take, length, get_or, refl, sym, ap, ◌∙◌, subst, inl, inr, arith, add-one}
use Rattle.std.specs.Prelude.{All, Contains}
use Rattle.std.proofs.lemmas.List.{map-append, length_push, length-map, get_or-map, get_or_append_left, get_or_default, get_or_push, take_more}
use Rattle.std.proofs.lemmas.List.Elements.{All-push, All-weaker, All-contains}
use Rattle.std.proofs.lemmas.Bool.{cases_lt}
use Rattle.items.specs.Game.{IsGame}
use Rattle.minimax.specs.declared.space.Space.{Space}
use Rattle.items.specs.Multiset.{largest_of}
use Rattle.items.specs.Packable.{Packable}
use Rattle.items.proofs.MultisetLemmas.{largest_of-le}
use Rattle.loads.specs.After.{after}
use Rattle.loads.specs.Descending.{IsDescending, IsStrictlyDescending, distinct}
use Rattle.loads.specs.declared.position.Position.{Position}
use Rattle.loads.proofs.DistinctLemmas.{Contains-distinct, Contains-from_distinct, IsStrictlyDescending-distinct}
use Rattle.packing_witness.proofs.PackableLemmas.{Packable-prefix}
use Rattle.packing_witness.proofs.PackingLemmas.{size_of_last, le_room}
use Rattle.strategy_text.specs.declared.node.Entry.{Entry}
use Rattle.strategy_text.specs.declared.node.Placement.{Placement}
use Rattle.strategy_text.specs.declared.node.Then.{Then}
use Rattle.strategy_text.specs.declared.node.Then.TheVariants.{Over}
use Rattle.adversary_graph.specs.Rules.{IsOverAtTarget, LeadsTo}
use Rattle.monotone.specs.Paths.{IsEarlierMove, moved}
use Rattle.monotone.specs.Visits.{IsLater, visit}
use Rattle.monotone.specs.declared.path.PathMove.{PathMove}
use Rattle.monotone.proofs.PassLemmas.{allowed_in-exact}
use Rattle.transposition.specs.declared.verdict.Verdict.{Verdict}
use Rattle.transposition.specs.declared.verdict.Verdict.TheVariants.{Adversary, Algorithm, Held}
use Rattle.minimax.specs.State.{IsBound, FindsVerdict, FollowsUp, HasAnswered, HasPassed, HasWeighed, IsNeverWon, IsNoWin, IsOpenAt}
use Rattle.minimax.specs.State.{AreOfAll, AreOfSizes, IsOpenFrom, IsPending, IsPlayable, IsReady, IsReadyWin, KeepsReply, KeepsWin}
use Rattle.minimax.specs.State.{IsSound, IsWonIn, MayCome, PlacesAll, Tells, WentOn, WinsBy, allowed_by, kept_of}
use Rattle.minimax.specs.State.{position_of_win, with_move}
use Rattle.minimax.specs.Serving.{IsSkipped}
use Rattle.minimax.specs.declared.expanding.Search.{Search}
use Rattle.minimax.specs.declared.finish_nodes.TheConstants.{FINISHES}
use Rattle.minimax.specs.declared.table.Told.{Told}
use Rattle.minimax.specs.declared.replies.Reply.{Reply}
use Rattle.minimax.specs.declared.wins.Win.{Win}
use Rattle.minimax.specs.declared.expanding.Weighed.{Weighed}
use Rattle.minimax.specs.declared.expanding.Weighed.TheVariants.{NoReply, Unlisted}
use Rattle.minimax.proofs.FinishLemmas.{IsNeverWon-finish}
use Rattle.minimax.proofs.PastLemmas.{IsLater-move}
use Rattle.minimax.proofs.PlayableLemmas.{IsPlayable-after}
use Rattle.minimax.proofs.ServingLemmas.{Contains-pushed}
use Rattle.minimax.proofs.StateLemmas.{FollowsUp-goes, IsPending-goes, never_by_led, not_won_by_verdict}
use Rattle.minimax.proofs.StepLemmas.{Goes-trans, WentOn-later, WentOn-refl, WentOn-then, stands_still}
use Rattle.minimax.proofs.WinLemmas.{IsNeverWon-answered, no_winning_size}

-- ---- different loads

down : (xs : List ℕ) → IsStrictlyDescending xs → (i n k : ℕ) → k ≡ i + n → k < length xs → get_or xs k 0 ≤ get_or xs i 0
down xs d i zero k e l =
    let same : i ≡ k = omega (arith, e) in
    subst (λ j. get_or xs j 0 ≤ get_or xs i 0) same (omega arith)
down xs d i (suc n) k e l =
    let above = down xs d i n (i + n) refl (omega (arith, e, l)) in
    let step = d (i + n) (omega (arith, e, l)) in
    let same : i + n + 1 ≡ k = omega (arith, e) in
    subst (λ j. get_or xs j 0 ≤ get_or xs i 0) same (omega (arith, above, step))

-- a greater number stands at an earlier place
earlier_place : (xs : List ℕ) (i k : ℕ) → IsStrictlyDescending xs → k < length xs → get_or xs i 0 < get_or xs k 0 → k < i
earlier_place xs i k d l g = elim (cases_lt k i) [
  | inl below ↦ below
  | inr above ↦ absurd (let h = down xs d i (k - i) k (omega (arith, above)) l in omega (arith, h, g))
]

-- the load that was tried before is greater, and so is the target
bound_above : (space : Space) (loads : List ℕ) (i : ℕ) → IsDescending loads → All (λ load. load < space.game.target) loads → i < length (distinct loads)
    → get_or (distinct loads) i 0 < get_or (space.game.target ∷ distinct loads) i 0
bound_above space loads zero d below l =
    let member = Contains-from_distinct (get_or (distinct loads) 0 0) loads (0, l, get_or_default (distinct loads) 0 _ _ l) in
    All-contains (λ load. load < space.game.target) loads (get_or (distinct loads) 0 0) below member
bound_above space loads (suc j) d below l =
    let h = IsStrictlyDescending-distinct loads d j (omega (arith, l)) in
    rw add-one at h

pub next_bound : (target : ℕ) (xs : List ℕ) (i : ℕ) → get_or (target ∷ xs) (i + 1) 0 ≡ get_or xs i 0
next_bound target xs i = rw add-one refl

-- a smaller number at the end
descends_push : (xs : List ℕ) (x : ℕ) → IsStrictlyDescending xs → ((y : ℕ) → Contains xs y → x < y) → IsStrictlyDescending (xs ++ x ∷ [])
descends_push xs x d above k l = elim (cases_lt (k + 1) (length xs)) [
  | inl within ↦ omega (
    arith,
    d k within,
    get_or_append_left xs (x ∷ []) 0 k (omega (arith, within)),
    get_or_append_left xs (x ∷ []) 0 (k + 1) within,
  )
  | inr past ↦
      let last : k + 1 ≡ length xs = omega (arith, past, l, length_push xs x) in
      let lower = above (get_or xs k 0) (k, omega (arith, last), get_or_default xs k _ _ (omega (arith, last))) in
      omega (arith, lower, get_or_append_left xs (x ∷ []) 0 k (omega (arith, last)), get_or_push xs x 0 (k + 1) (sym last))
]

module _ (space : Space) (pass : ℕ) where
  -- at the next load
  pub opens_load : (s0 s1 : Search) (position : Position) (size i load : ℕ) (entries : List (Position × Verdict)) → IsOpenFrom space pass size s0 position
      → WentOn space pass (with_move s0 size (get_or (space.game.target ∷ distinct position.loads) i 0)) s0 s1 entries
      → ((k : ℕ) → k < i → (space.game.target ≤ get_or (distinct position.loads) k 0 + size) ⊎ IsWonIn space pass (after position (get_or (distinct position.loads) k 0) size))
      → i < length (distinct position.loads) → load ≡ get_or (distinct position.loads) i 0 → Contains position.loads load
      → IsOpenAt space pass size load s1 position
  opens_load s0 s1 position size i load entries o g won l e member =
      let loads = position.loads in
      let ds : List ℕ = distinct loads in
      let legal = o.stands.playable.loads in
      let strict = IsStrictlyDescending-distinct loads legal.descending in
      let above = bound_above space loads i legal.descending legal.below_target l in
      let bound : ℕ = get_or (space.game.target ∷ ds) i 0 in
      let lower : load < bound = omega (arith, above, e) in
      record {
        stands = stands_still space pass s0.path s1.path position g.goes.path o.stands;
        bound = subst (IsBound space.game position.items) (sym g.goes.most) o.bound;
        rooms = g.goes.rooms ∙ o.rooms;
        unfinished = o.unfinished;
        larger_sizes = o.larger_sizes;
        larger_loads = λ other c greater below.
            let at = Contains-distinct other loads c in
            let is : get_or ds at.0 0 ≡ other = get_or_default ds at.0 0 other at.1 ∙ at.2 in
            let place = earlier_place ds i at.0 strict at.1 (omega (arith, is, e, greater)) in
            elim (won at.0 place) [
              | inl over ↦ absurd (omega (arith, over, is, below))
              | inr w ↦ subst (λ x. IsWonIn space pass (after position x size)) is w
            ];
        has_load = member;
        later = subst (λ p. IsLater s1.meter (visit pass (p ++ moved size load ∷ []))) (sym g.goes.path)
            (IsLater-move s1.meter pass s0.path (moved size bound) (moved size load) g.passed (inr (refl, lower)));
      }

  -- the next smaller size comes after each load
  next_size : (size load : ℕ) → 1 ≤ size → IsEarlierMove (moved size load) (moved (size - 1) space.game.target)
  next_size size load low = inl (omega (arith, low))

  pub past_size : (s0 s1 : Search) (position : Position) (size load : ℕ) (entries : List (Position × Verdict)) → Packable space.game (position.items ++ size ∷ [])
      → WentOn space pass (with_move s0 size load) s0 s1 entries → WentOn space pass (with_move s0 (size - 1) space.game.target) s0 s1 entries
  past_size s0 s1 position size load entries packable g =
      WentOn-later space pass (moved size load) (moved (size - 1) space.game.target) s0 s1 entries
      (next_size size load (size_of_last space.game position.items size packable).low) g

  -- one more placement
  pub placed_more : (position : Position) (i load : ℕ) (next : Then) (placements more : List Placement) → load ≡ get_or (distinct position.loads) i 0 → i <
      length (distinct position.loads)
      → map (λ (placement : Placement). placement.load) placements ≡ take i (distinct position.loads)
      → more ≡ placements ++ record { load = load; next = next } ∷ []
      → map (λ (placement : Placement). placement.load) more ≡ take (i + 1) (distinct position.loads)
  placed_more position i load next placements more e l places is =
      let ds : List ℕ = distinct position.loads in
      let loads_of : Placement → ℕ = λ placement. placement.load in
      ap (map loads_of) is ∙ map-append loads_of placements (record { load = load; next = next } ∷ [])
      ∙ ap (λ xs. xs ++ load ∷ []) places ∙ ap (λ x. take i ds ++ x ∷ []) e ∙ sym (take_more ds i 0 l)

  pub follows_more : (s1 s2 : Search) (position : Position) (size load : ℕ) (next : Then) (placements more : List Placement) (entries : List (Position ×
      Verdict)) (past : List PathMove)
      → WentOn space pass past s1 s2 entries → All (FollowsUp space pass s1 position size) placements
      → FollowsUp space pass s2 position size (record { load = load; next = next }) → more ≡ placements ++ record { load = load; next = next } ∷ []
      → All (FollowsUp space pass s2 position size) more
  follows_more s1 s2 position size load next placements more entries past g all f is =
      subst (All (FollowsUp space pass s2 position size)) (sym is)
      (All-push (FollowsUp space pass s2 position size) placements (record { load = load; next = next })
      (All-weaker (FollowsUp space pass s1 position size) (FollowsUp space pass s2 position size)
      (λ placement h. FollowsUp-goes space pass s1 s2 position size placement g.goes.wins h) placements all) f)

  -- ---- a size

  -- a size that the pass does not allow
  -- a pass that does not allow all sizes is not the last
  pub before_last : (position : Position) → IsPlayable space position → (largest_of position.items ≤ 1 + pass → ⊥) → pass + 1 < space.game.capacity
  before_last position p not =
      let most = largest_of-le space.game.capacity position.items p.packable.1.item_list in
      elim (cases_lt (1 + pass) (largest_of position.items)) [
        | inl above ↦ omega (arith, above, most)
        | inr below ↦ absurd (not below)
      ]

  pub not_allowed : (s : Search) (position : Position) (size : ℕ) (entries : List (Position × Verdict)) → IsSound space pass s entries
      → IsOpenFrom space pass size s position → Packable space.game (position.items ++ size ∷ []) → (largest_of position.items ≤ size + pass → ⊥)
      → HasAnswered space pass size position s s entries NoReply
  not_allowed s position size entries sound o packable not =
      let low = (size_of_last space.game position.items size packable).low in
      let most = largest_of-le space.game.capacity position.items (Packable-prefix space.game position.items size packable).1.item_list in
      record {
        went = past_size s s position size space.game.target entries packable (WentOn-refl space pass (with_move s size space.game.target) s entries sound o.passed);
        none = λ w. not ((allowed_in-exact space.sizes position.items pass size).0 w.allows).1;
        answered = elim (cases_lt (size + pass) (largest_of position.items)) [
          | inl above ↦ omega (arith, above, most, low)
          | inr below ↦ absurd (not below)
        ];
      }

  -- a size that is not listed
  pub not_listed : (s : Search) (position : Position) (size : ℕ) (entries : List (Position × Verdict)) → IsSound space pass s entries
      → IsOpenFrom space pass size s position → Packable space.game (position.items ++ size ∷ []) → (Contains space.sizes size → ⊥)
      → HasAnswered space pass size position s s entries Unlisted
  not_listed s position size entries sound o packable not = record {
    went = past_size s s position size space.game.target entries packable (WentOn-refl space pass (with_move s size space.game.target) s entries sound o.passed);
    none = λ w. not ((allowed_in-exact space.sizes position.items pass size).0 w.allows).0;
    answered = not;
  }

  pub may_come_allowed : (position : Position) (size : ℕ) → Contains space.sizes size → Packable space.game (position.items ++ size ∷ []) → largest_of position.items ≤ size + pass
      → MayCome space pass position size
  may_come_allowed position size listed packable l = record {
    allowed = (allowed_in-exact space.sizes position.items pass size).1
        (listed, l);
    packable = packable;
  }

  -- the placement of a load
  placement_of : (P : Placement → Type 0) (placements : List Placement) (load : ℕ) → All P placements
      → Contains (map (λ (placement : Placement). placement.load) placements) load → (placement : Placement) × P placement × (placement.load ≡ load)
  placement_of P placements load all c =
      let none : Placement = record { load = 0; next = Over } in
      let loads_of : Placement → ℕ = λ placement. placement.load in
      let within : c.0 < length placements = omega (arith, c.1, length-map placements loads_of) in
      (get_or placements c.0 none, all c.0 none within, sym (get_or-map loads_of placements c.0 none load within) ∙ c.2)

  -- a size wins with which each load reaches the target or leads to a won position
  pub wins_by : (s : Search) (position : Position) (size : ℕ) (placements : List Placement) → MayCome space pass position size
      → map (λ (placement : Placement). placement.load) placements ≡ distinct position.loads → All (FollowsUp space pass s position size) placements
      → WinsBy space pass position size
  wins_by s position size placements may places all = record {
    allows = may.allowed;
    may_come = may.packable;
    each_load = λ load c.
        let at = placement_of (FollowsUp space pass s position size) placements load all (subst (λ xs. Contains xs load) (sym places) (Contains-distinct load position.loads c)) in
        subst (λ l. (space.game.target ≤ l + size) ⊎ IsWonIn space pass (after position l size)) at.2 at.1.won;
  }

  places_all : (s : Search) (position : Position) (size : ℕ) (placements : List Placement)
      → map (λ (placement : Placement). placement.load) placements ≡ distinct position.loads → All (FollowsUp space pass s position size) placements
      → PlacesAll space.game (map position_of_win s.wins) position size placements
  places_all s position size placements places all = record {
    each_load = places;
    over = All-weaker (FollowsUp space pass s position size) (IsOverAtTarget space.game size) (λ placement f. f.over) placements all;
    leads = All-weaker (FollowsUp space pass s position size)
        (λ placement. LeadsTo (map position_of_win s.wins) placement.next (after position placement.load size)) (λ placement f. f.leads) placements all;
  }

  -- the win that was kept is ready to be written
  pub ready_win : (s : Search) (more : List Win) (position : Position) (size : ℕ) (placements : List Placement) (number : ℕ)
      → (k : KeepsWin s.wins more position size placements number) → IsPlayable space position → Contains space.sizes size → Packable space.game (position.items ++ size ∷ [])
      → map (λ (placement : Placement). placement.load) placements ≡ distinct position.loads → All (FollowsUp space pass s position size) placements
      → IsReadyWin space s.wins k.win
  ready_win s more position size placements number k playable listed may_come each_load all = record {
    playable = subst (IsPlayable space) (sym k.stands) playable;
    listed = subst (Contains space.sizes) (sym k.sends) listed;
    may_come = subst (λ (p : Position). Packable space.game (p.items ++ k.win.size ∷ [])) (sym k.stands)
        (subst (λ x. Packable space.game (position.items ++ x ∷ [])) (sym k.sends) may_come);
    places = subst (λ p. PlacesAll space.game (map position_of_win s.wins) p k.win.size k.win.placements) (sym k.stands)
        (subst (λ x. PlacesAll space.game (map position_of_win s.wins) position x k.win.placements) (sym k.sends)
        (subst (PlacesAll space.game (map position_of_win s.wins) position size) (sym k.kept) (places_all s position size placements each_load all)));
  }

  -- a size with an answer
  pub weighs : (s0 s1 : Search) (position : Position) (size load : ℕ) (entries : List (Position × Verdict)) (verdict : Verdict)
      → WentOn space pass (with_move s0 (size - 1) space.game.target) s0 s1 entries → Contains space.sizes size → Packable space.game (position.items ++ size ∷ [])
      → Contains position.loads load → load + size < space.game.target → IsNoWin verdict
      → Tells space pass s1 (after position load size) verdict → HasWeighed space pass size position s0 s1 entries (kept_of size load verdict)
  weighs s0 s1 position size load entries (Adversary number) g listed may c below nothing t = absurd nothing
  weighs s0 s1 position size load entries (Algorithm number) g listed may c below nothing t = record {
    went = g;
    none = no_winning_size space.game (allowed_by space pass) position size load c below
        (not_won_by_verdict space pass s1 entries (after position load size) (Algorithm number) g.sound nothing t);
    answered = (refl, record { names = record { load = c; below = below }; listed = listed; may_come = may; leads = t.says });
  }
  weighs s0 s1 position size load entries (Held held) g listed may c below nothing t = record {
    went = g;
    none = no_winning_size space.game (allowed_by space pass) position size load c below
        (not_won_by_verdict space pass s1 entries (after position load size) (Held held) g.sound nothing t);
    answered = omega (arith, t.says.before_last, t.of_pass);
  }

  -- a size that an earlier pass tried is answered by a position that finishes
  pub weighs_skipped : (told : Told) (s : Search) (position : Position) (size load : ℕ) (entries : List (Position × Verdict)) → IsGame space.game
      → IsSound space pass s entries → IsOpenFrom space pass size s position → Packable space.game (position.items ++ size ∷ []) → IsSkipped space told position size load
      → HasWeighed space pass size position s s entries (kept_of size load (Algorithm FINISHES))
  weighs_skipped told s position size load entries g sound o may skipped =
      let first = skipped.first in
      let listed = ((allowed_in-exact space.sizes position.items skipped.pass size).0 skipped.allowed).0 in
      let playable = IsPlayable-after space position load size o.stands.playable first.has_load first.below listed may in
      let never = IsNeverWon-finish space (after position load size) g playable skipped.finishes in
      let went = WentOn-refl space pass (with_move s size space.game.target) s entries sound o.passed in
      weighs s s position size load entries (Algorithm FINISHES) (past_size s s position size space.game.target entries may went) listed may first.has_load first.below tt
      (record { says = inr (record { told = refl; finishes = skipped.finishes; never = never }); of_pass = tt })

  -- ---- all sizes

  -- at the next size
  pub opens_size : (s0 s1 : Search) (position : Position) (room size : ℕ) (entries : List (Position × Verdict)) → IsOpenFrom space pass room s0 position
      → WentOn space pass (with_move s0 size space.game.target) s0 s1 entries → ((other : ℕ) → size < other → WinsBy space pass position other → ⊥)
      → IsOpenFrom space pass size s1 position
  opens_size s0 s1 position room size entries o g none = record {
    stands = stands_still space pass s0.path s1.path position g.goes.path o.stands;
    bound = subst (IsBound space.game position.items) (sym g.goes.most) o.bound;
    rooms = g.goes.rooms ∙ o.rooms;
    unfinished = o.unfinished;
    larger_sizes = none;
    passed = subst (λ p. HasPassed s1.meter pass (p ++ moved size space.game.target ∷ [])) (sym g.goes.path) g.passed;
  }

  -- the verdict is also that of the search before
  pub finds_after : (s0 s1 s2 : Search) (past : List PathMove) (position : Position) (e1 e2 : List (Position × Verdict)) (verdict : Verdict)
      → WentOn space pass past s0 s1 e1 → FindsVerdict space pass position s1 s2 e2 verdict → FindsVerdict space pass position s0 s2 e2 verdict
  finds_after s0 s1 s2 past position e1 e2 verdict g f = record {
    went = record {
      goes = Goes-trans s0 s1 s2 g.goes f.went.goes;
      sound = f.went.sound;
      passed = subst (HasPassed s2.meter pass) g.goes.path f.went.passed;
    };
    tells = f.tells;
  }

  -- past one more size
  pub past_more : (s0 s1 s2 : Search) (position : Position) (room tried : ℕ) (e1 e2 : List (Position × Verdict)) (weighed : Weighed)
      → WentOn space pass (with_move s0 (room - tried) space.game.target) s0 s1 e1 → HasAnswered space pass (room - tried) position s1 s2 e2 weighed
      → WentOn space pass (with_move s0 (room - (tried + 1)) space.game.target) s0 s2 e2
  past_more s0 s1 s2 position room tried e1 e2 weighed g a =
      let next : room - tried - 1 ≡ room - (tried + 1) = omega arith in
      subst (λ size. WentOn space pass (with_move s0 size space.game.target) s0 s2 e2) next
      (WentOn-then space pass (room - tried - 1) space.game.target (with_move s0 (room - tried) space.game.target) s0 s1 s2 e1 e2 g a.went)

  pub none_more : (position : Position) (room tried : ℕ) → tried < room → ((size : ℕ) → room - tried < size → WinsBy space pass position size → ⊥)
      → (WinsBy space pass position (room - tried) → ⊥) → (size : ℕ) → room - (tried + 1) < size → WinsBy space pass position size → ⊥
  none_more position room tried l none here size above w = elim (cases_lt (room - tried) size) [
    | inl larger ↦ none size larger w
    | inr small ↦ let same : size ≡ room - tried = omega (arith, above, small, l) in here (subst (WinsBy space pass position) same w)
  ]

  -- an entry of the next smaller size, which is listed, after those of the larger ones
  pub sizes_more : (room tried : ℕ) (entry : Entry) (entries more : List Entry) → tried < room → AreOfSizes space (room - tried) room entries
      → Contains space.sizes (room - tried) → entry.size ≡ room - tried → more ≡ entries ++ entry ∷ []
      → AreOfSizes space (room - (tried + 1)) room more
  sizes_more room tried entry entries more l of listed e is =
      let size_of : Entry → ℕ = λ entry. entry.size in
      let sizes : List ℕ = map size_of entries in
      let all : map size_of more ≡ sizes ++ (room - tried) ∷ [] =
      ap (map size_of) is ∙ map-append size_of entries (entry ∷ []) ∙ ap (λ x. sizes ++ x ∷ []) e in
      let last : Contains (sizes ++ (room - tried) ∷ []) (room - tried) =
      (length sizes, omega (arith, length_push sizes (room - tried)), get_or_push sizes (room - tried) (room - tried) (length sizes) refl) in
      record {
        descending = subst IsStrictlyDescending (sym all)
            (descends_push sizes (room - tried) of.descending (λ size c. ((of.exact size).0 c).1));
        exact = λ size. subst (λ xs. Contains xs size ↔ (Contains space.sizes size × (room - (tried + 1) < size) × (size ≤ room))) (sym all) (
          λ c. elim (Contains-pushed sizes (room - tried) size c) [
            | inl same ↦ (subst (Contains space.sizes) same listed, omega (arith, same, l), omega (arith, same))
            | inr before ↦ let h = (of.exact size).0 before in (h.0, omega (arith, h.1), h.2)
          ],
          λ h. elim (cases_lt (room - tried) size) [
            | inl larger ↦
                let c = (of.exact size).1 (h.0, larger, h.2) in
                (c.0, omega (arith, c.1, length_push sizes (room - tried)), get_or_append_left sizes ((room - tried) ∷ []) size c.0 c.1 ∙ c.2)
            | inr small ↦
                let same : room - tried ≡ size = omega (arith, small, h.1, l) in
                subst (Contains (sizes ++ (room - tried) ∷ [])) same last
          ],
        );
      }

  -- no entry of a size that is not listed
  pub sizes_same : (room tried : ℕ) (entries more : List Entry) → tried < room → AreOfSizes space (room - tried) room entries
      → (Contains space.sizes (room - tried) → ⊥) → more ≡ entries → AreOfSizes space (room - (tried + 1)) room more
  sizes_same room tried entries more l of unlisted is = subst (AreOfSizes space (room - (tried + 1)) room) (sym is) (record {
    descending = of.descending;
    exact = λ size. (
      λ c. let h = (of.exact size).0 c in (h.0, omega (arith, h.1), h.2),
      λ h. elim (cases_lt (room - tried) size) [
        | inl larger ↦ (of.exact size).1 (h.0, larger, h.2)
        | inr small ↦
            let same : size ≡ room - tried = omega (arith, small, h.1, l) in
            absurd (unlisted (subst (Contains space.sizes) same h.0))
      ],
    );
  })

  -- before the first size there are none
  pub sizes_none : (room : ℕ) (entries : List Entry) → entries ≡ [] → AreOfSizes space (room - 0) room entries
  sizes_none room entries none = subst (AreOfSizes space (room - 0) room) (sym none) (record {
    descending = λ k l. absurd (omega (arith, l));
    exact = λ size. (λ c. absurd (omega (arith, c.1)), λ h. absurd (omega (arith, h.1, h.2)));
  })

  pub replies_still : (s1 s2 : Search) (position : Position) (past : List PathMove) (entries : List Entry) (e2 : List (Position × Verdict))
      → WentOn space pass past s1 s2 e2 → All (IsPending space s1.replies position) entries → All (IsPending space s2.replies position) entries
  replies_still s1 s2 position past entries e2 g all =
      All-weaker (IsPending space s1.replies position) (IsPending space s2.replies position)
      (λ entry r. IsPending-goes space s1.replies s2.replies position entry g.goes.replies r) entries all

  pub replies_more : (s1 s2 : Search) (position : Position) (past : List PathMove) (entry : Entry) (entries more : List Entry) (e2 : List (Position × Verdict))
      → WentOn space pass past s1 s2 e2 → All (IsPending space s1.replies position) entries → IsPending space s2.replies position entry
      → more ≡ entries ++ entry ∷ [] → All (IsPending space s2.replies position) more
  replies_more s1 s2 position past entry entries more e2 g all r is =
      subst (All (IsPending space s2.replies position)) (sym is)
      (All-push (IsPending space s2.replies position) entries entry (replies_still s1 s2 position past entries e2 g all) r)

  -- a position with a reply to each size is never won
  pub never_by_replies : (s : Search) (position : Position) (replies : List Entry) (entries : List (Position × Verdict)) → IsSound space pass s entries
      → AreOfAll space position replies → All (IsPending space s.replies position) replies → IsNeverWon space position
  never_by_replies s position replies entries sound r each = IsNeverWon-answered space position (λ size listed packable.
      let size_of : Entry → ℕ = λ entry. entry.size in
      let none : Entry = record { size = 0; load = 0; to = 0 } in
      let low = (size_of_last space.game position.items size packable).low in
      let high = le_room space.game position.items r.room size r.is_room packable in
      let c = (r.sizes.exact size).1 (listed, low, high) in
      let within : c.0 < length replies = omega (arith, c.1, length-map replies size_of) in
      let entry : Entry = get_or replies c.0 none in
      let reply = each c.0 none within in
      let is : entry.size ≡ size = sym (get_or-map size_of replies c.0 none size within) ∙ c.2 in
      record {
        load = entry.load;
        member = reply.names.load;
        below = subst (λ x. entry.load + x < space.game.target) is reply.names.below;
        never = subst (λ x. IsNeverWon space (after position entry.load x)) is
            (never_by_led space pass s.meter s.wins s.replies entries (after position entry.load entry.size) entry.to sound reply.leads);
      })

  -- the replies that were kept are ready to be written
  pub ready_reply : (replies more : List Reply) (position : Position) (entries : List Entry) (number : ℕ)
      → (k : KeepsReply replies more position entries number) → IsPlayable space position → AreOfAll space position entries
      → All (IsPending space replies position) entries → IsReady space replies k.reply
  ready_reply replies more position entries number k playable of_all pending = record {
    playable = subst (IsPlayable space) (sym k.stands) playable;
    of_all = subst (λ p. AreOfAll space p k.reply.entries.items) (sym k.stands) (subst (AreOfAll space position) (sym k.kept) of_all);
    pending = subst (λ p. All (IsPending space replies p) k.reply.entries.items) (sym k.stands)
        (subst (All (IsPending space replies position)) (sym k.kept) pending);
  }
