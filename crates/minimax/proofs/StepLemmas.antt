-- The steps of a search: what each part of an expansion leaves to the next.
use Rattle.std.proofs.Common.{◌≡◌, ℕ, ◌+◌, ◌<◌, ◌≤◌, Option, Some, None, List, [], ◌∷◌, ◌++◌, length}
use Rattle.std.proofs.Common.{refl, sym, ap, ◌∙◌, subst, inl, inr, arith}
use Rattle.std.specs.Prelude.{Err, MatchOption, MatchResult, Ok, Result}
use Rattle.std.specs.Result.{IsErrAnd}
use Rattle.std.proofs.lemmas.List.{length_push}
use Rattle.items.specs.Game.{GameNumbers}
use Rattle.minimax.specs.declared.space.Space.{Space}
use Rattle.items.specs.Packable.{IsRoom}
use Rattle.items.specs.Multiset.{put_ascending}
use Rattle.items.proofs.MultisetLemmas.{count-append, count-put_ascending}
use Rattle.packing_witness.proofs.PackableLemmas.{Packable-part}
use Rattle.loads.specs.After.{after}
use Rattle.loads.specs.Wins.{empty_position}
use Rattle.loads.specs.Position.{are_equal}
use Rattle.loads.specs.declared.position.Position.{Position}
use Rattle.packing_witness.proofs.PackingLemmas.{le_room}
use Rattle.good_situations.specs.Finish.{Finishes}
use Rattle.strategy_text.specs.declared.node.Then.TheVariants.{Over}
use Rattle.monotone.specs.Paths.{IsEarlierMove, IsLegalMove, moved, position_after}
use Rattle.monotone.specs.Visits.{visit, Metered, IsLater, counted}
use Rattle.monotone.specs.declared.meter.VisitFault.{VisitFault}
use Rattle.monotone.specs.declared.path.PathMove.{PathMove}
use Rattle.monotone.proofs.PassLemmas.{allowed_in-exact}
use Rattle.monotone.proofs.PathLemmas.{IsLegalFrom-push, position_after-push}
use Rattle.transposition.specs.Bounded.{SameEntries}
use Rattle.transposition.specs.Memo.{verdict_of}
use Rattle.transposition.specs.declared.verdict.Verdict.{Verdict}
use Rattle.transposition.specs.declared.verdict.Verdict.TheVariants.{Adversary, Algorithm, Held}
use Rattle.minimax.specs.Settled.{AreSettledFrom, IsSettledMove}
use Rattle.minimax.specs.State.{IsBound, IsFinish, AreSound, FindsVerdict, FollowsUp, Goes, HasPassed, HasReached, IsHeld, IsNeverWon, IsOfPass, IsOpenAt, IsOpenFrom}
use Rattle.minimax.specs.State.{IsSound, IsWonIn, MayCome, MayVisit, PutsOnly, Says, StandsAtPath, Tells, WentOn}
use Rattle.minimax.specs.State.{allowed_by, reached_by, with_move}
use Rattle.minimax.specs.State.{IsReady, IsReadyWin, KeepsReply, KeepsWin, position_of_reply, position_of_win}
use Rattle.minimax.specs.declared.wins.Win.{Win}
use Rattle.strategy_text.specs.declared.node.Entry.{Entry}
use Rattle.strategy_text.specs.declared.node.Placement.{Placement}
use Rattle.minimax.specs.declared.expanding.Search.{Search}
use Rattle.minimax.specs.declared.replies.Reply.{Reply}
use Rattle.minimax.specs.declared.finish_nodes.TheConstants.{FINISHES}
use Rattle.minimax.proofs.PastLemmas.{HasPassed-later, HasPassed-moves, HasPassed-path, HasPassed-visited}
use Rattle.minimax.proofs.PlayableLemmas.{IsPlayable-after}
use Rattle.minimax.proofs.StateLemmas.{AreSound-counted, AreSound-known, AreSound-put, AreSound-reply, AreSound-win}
use Rattle.minimax.proofs.StateLemmas.{GoesOn-refl, GoesOn-trans}
use Rattle.minimax.proofs.StateLemmas.{StandsAt-last, won_by_win}

-- ---- faults

-- a fault that is passed on
pub passed_on : {X : Type 0} (P : X → Type 0) (Q : VisitFault → Type 0) (fault : VisitFault) (result : Result X VisitFault)
    → IsErrAnd result (λ other. other ≡ fault) → Q fault → MatchResult result P Q
passed_on P Q fault (Ok x) h q = absurd h
passed_on P Q fault (Err other) h q = subst Q (sym h) q

-- ---- going on

pub Goes-refl : (search : Search) → Goes search search
Goes-refl s = record {
  wins = GoesOn-refl s.wins;
  replies = GoesOn-refl s.replies;
  path = refl;
  most = refl;
  rooms = refl;
  budget = refl;
}

pub Goes-trans : (s0 s1 s2 : Search) → Goes s0 s1 → Goes s1 s2 → Goes s0 s2
Goes-trans s0 s1 s2 g h = record {
  wins = GoesOn-trans s0.wins s1.wins s2.wins g.wins h.wins;
  replies = GoesOn-trans s0.replies s1.replies s2.replies g.replies h.replies;
  path = h.path ∙ g.path;
  most = h.most ∙ g.most;
  rooms = h.rooms ∙ g.rooms;
  budget = h.budget ∙ g.budget;
}

module _ (space : Space) (pass : ℕ) where
  pub WentOn-refl : (past : List PathMove) (s : Search) (entries : List (Position × Verdict)) → IsSound space pass s entries → HasPassed s.meter pass past
      → WentOn space pass past s s entries
  WentOn-refl past s entries sound passed = record { goes = Goes-refl s; sound = sound; passed = passed }

  -- one step after another; what is past a move of the path is so from either state
  pub WentOn-then : (size load : ℕ) (past : List PathMove) (s0 s1 s2 : Search) (e1 e2 : List (Position × Verdict)) → WentOn space pass past s0 s1 e1
      → WentOn space pass (with_move s1 size load) s1 s2 e2 → WentOn space pass (with_move s0 size load) s0 s2 e2
  WentOn-then size load past s0 s1 s2 e1 e2 g h = record {
    goes = Goes-trans s0 s1 s2 g.goes h.goes;
    sound = h.sound;
    passed = subst (λ p. HasPassed s2.meter pass (p ++ moved size load ∷ [])) g.goes.path h.passed;
  }

  -- past a later move
  pub WentOn-later : (a b : PathMove) (s0 s1 : Search) (entries : List (Position × Verdict)) → IsEarlierMove a b
      → WentOn space pass (s0.path ++ a ∷ []) s0 s1 entries → WentOn space pass (s0.path ++ b ∷ []) s0 s1 entries
  WentOn-later a b s0 s1 entries l g =
      record { goes = g.goes; sound = g.sound; passed = HasPassed-moves s1.meter pass s0.path a b l g.passed }

  -- the path leads where it led
  pub stands_still : (path more : List PathMove) (position : Position) → more ≡ path → StandsAtPath space pass path position → StandsAtPath space pass more position
  stands_still path more position e s = subst (λ p. StandsAtPath space pass p position) (sym e) s

  -- ---- an expansion

  pub finds_known : (s : Search) (position : Position) (entries more : List (Position × Verdict)) (verdict : Verdict) → IsSound space pass s entries
      → MayVisit space pass s position → verdict_of entries position ≡ Some verdict → IsOfPass pass verdict → SameEntries are_equal entries more
      → FindsVerdict space pass position s s more verdict
  finds_known s position entries more verdict sound may told of same = record {
    went = WentOn-refl s.path s more
        (AreSound-known space pass s.meter s.wins s.replies entries more sound (λ p v e. sound.known p v (sym (same.values p) ∙ e)))
        (HasPassed-later s.meter pass s.path may.later);
    tells = record { says = sound.known position verdict told; of_pass = of };
  }

  pub sound_visited : (s : Search) (position : Position) (entries more : List (Position × Verdict)) (meter : Metered) → IsSound space pass s entries
      → MayVisit space pass s position → meter ≡ counted s.meter (visit pass s.path) → (s.meter.count ≡ s.meter.budget → ⊥) → SameEntries are_equal entries more
      → AreSound space pass meter s.wins s.replies more
  sound_visited s position entries more meter sound may e left same =
      AreSound-counted space pass s.meter s.wins s.replies more meter (visit pass s.path)
      (AreSound-known space pass s.meter s.wins s.replies entries more sound (λ p v told. sound.known p v (sym (same.values p) ∙ told))) e
      (record { from_first = may.stands.from_first; to_last = may.stands.of_game; legal = may.stands.legal }) may.later left

  pub finds_expanded : (s0 s2 : Search) (meter : Metered) (position : Position) (entries more : List (Position × Verdict)) (verdict : Verdict)
      → meter ≡ counted s0.meter (visit pass s0.path) → FindsVerdict space pass position (record s0 { meter = meter }) s2 entries verdict
      → PutsOnly entries more position verdict → FindsVerdict space pass position s0 s2 more verdict
  finds_expanded s0 s2 meter position entries more verdict e f puts =
      let g = f.went.goes in
      record {
        went = record {
          goes = record {
            wins = g.wins;
            replies = g.replies;
            path = g.path;
            most = g.most;
            rooms = g.rooms;
            budget = g.budget ∙ ap (λ m. m.budget) e;
          };
          sound = AreSound-put space pass s2.meter s2.wins s2.replies entries more position verdict f.went.sound puts f.tells.says;
          passed = f.went.passed;
        };
        tells = f.tells;
      }

  -- the position finishes
  pub finds_finish : (s0 : Search) (meter : Metered) (position : Position) (entries more : List (Position × Verdict))
      → meter ≡ counted s0.meter (visit pass s0.path) → AreSound space pass meter s0.wins s0.replies entries → meter.last ≡ Some (visit pass s0.path)
      → IsFinish space position FINISHES → PutsOnly entries more position (Algorithm FINISHES)
      → FindsVerdict space pass position s0 (record s0 { meter = meter }) more (Algorithm FINISHES)
  finds_finish s0 meter position entries more e sound last finish puts =
      finds_expanded s0 (record s0 { meter = meter }) meter position entries more (Algorithm FINISHES) e (record {
        went = WentOn-refl s0.path (record s0 { meter = meter }) entries sound
            (HasPassed-path meter pass s0.path (moved 0 0) (HasPassed-visited meter pass s0.path (moved 0 0) last));
        tells = record { says = inr finish; of_pass = tt };
      }) puts

  -- ---- a decision

  -- replies give the verdict
  pub finds_reply : (s0 s1 : Search) (replies : List Reply) (a : PathMove) (position : Position) (made : List Entry) (entries : List (Position × Verdict)) (number : ℕ)
      → WentOn space pass (s0.path ++ a ∷ []) s0 s1 entries → (p : KeepsReply s1.replies replies position made number) → IsNeverWon space position
      → (Finishes space.game position.loads → ⊥) → IsReady space s1.replies p.reply
      → FindsVerdict space pass position s0 (record s1 { replies = replies }) entries (Algorithm number)
  finds_reply s0 s1 replies a position made entries number g p never unfinished ready = record {
    went = record {
      goes = record {
        wins = g.goes.wins;
        replies = GoesOn-trans s0.replies s1.replies replies g.goes.replies (p.reply ∷ [], p.list);
        path = g.goes.path;
        most = g.goes.most;
        rooms = g.goes.rooms;
        budget = g.goes.budget;
      };
      sound = AreSound-reply space pass s1.meter s1.wins s1.replies entries replies position made number g.sound p never ready;
      passed = HasPassed-path s1.meter pass s0.path a g.passed;
    };
    tells = record {
      says = inl (record {
        stands = StandsAt-last position_of_reply s1.replies replies p.reply number position p.list p.is_last p.stands;
        unfinished = unfinished;
      });
      of_pass = tt;
    };
  }

  -- a win gives the verdict
  pub finds_win : (s0 s1 : Search) (wins : List Win) (a : PathMove) (position : Position) (size : ℕ) (placements : List Placement)
      (entries : List (Position × Verdict)) (number : ℕ) → WentOn space pass (s0.path ++ a ∷ []) s0 s1 entries
      → (p : KeepsWin s1.wins wins position size placements number) → IsWonIn space pass position → IsReadyWin space s1.wins p.win
      → FindsVerdict space pass position s0 (record s1 { wins = wins }) entries (Adversary number)
  finds_win s0 s1 wins a position size placements entries number g p won ready = record {
    went = record {
      goes = record {
        wins = GoesOn-trans s0.wins s1.wins wins g.goes.wins (p.win ∷ [], p.list);
        replies = g.goes.replies;
        path = g.goes.path;
        most = g.goes.most;
        rooms = g.goes.rooms;
        budget = g.goes.budget;
      };
      sound = AreSound-win space pass s1.meter s1.wins s1.replies entries wins position size placements number g.sound p won ready;
      passed = HasPassed-path s1.meter pass s0.path a g.passed;
    };
    tells = record { says = StandsAt-last position_of_win s1.wins wins p.win number position p.list p.is_last p.stands; of_pass = tt };
  }

  -- that no size wins gives the verdict
  pub finds_held : (s0 s1 : Search) (a : PathMove) (position : Position) (entries : List (Position × Verdict))
      → WentOn space pass (s0.path ++ a ∷ []) s0 s1 entries → IsHeld space pass position
      → FindsVerdict space pass position s0 s1 entries (Held pass)
  finds_held s0 s1 a position entries g held = record {
    went = record {
      goes = record {
        wins = g.goes.wins;
        replies = g.goes.replies;
        path = g.goes.path;
        most = g.goes.most;
        rooms = g.goes.rooms;
        budget = g.goes.budget;
      };
      sound = g.sound;
      passed = HasPassed-path s1.meter pass s0.path a g.passed;
    };
    tells = record { says = held; of_pass = refl };
  }

  -- the bound on the room is put back
  pub finds_decided : (s0 s1 : Search) (rooms : GameNumbers) (room : ℕ) (position : Position) (entries : List (Position × Verdict)) (verdict : Verdict)
      → rooms ≡ s0.rooms → FindsVerdict space pass position (record s0 { rooms = rooms; most = room }) s1 entries verdict
      → FindsVerdict space pass position s0 (record s1 { most = s0.most }) entries verdict
  finds_decided s0 s1 rooms room position entries verdict same f =
      let g = f.went.goes in
      record {
        went = record {
          goes = record { wins = g.wins; replies = g.replies; path = g.path; most = refl; rooms = g.rooms ∙ same; budget = g.budget };
          sound = f.went.sound;
          passed = f.went.passed;
        };
        tells = record { says = f.tells.says; of_pass = f.tells.of_pass };
      }

  -- after a visit the sizes from the room on are to be weighed
  pub opens : (s : Search) (rooms : GameNumbers) (position : Position) (room : ℕ) → StandsAtPath space pass s.path position → s.meter.last ≡ Some (visit pass s.path)
      → (Finishes space.game position.loads → ⊥) → IsRoom space.game position.items room
      → rooms ≡ space.game → IsOpenFrom space pass room (record s { rooms = rooms; most = room }) position
  opens s rooms position room stands last unfinished is_room same = record {
    stands = stands;
    bound = λ size p. le_room space.game position.items room size is_room p;
    rooms = same;
    unfinished = unfinished;
    larger_sizes = λ other l w. omega (arith, l, le_room space.game position.items room other is_room w.may_come);
    passed = HasPassed-visited s.meter pass s.path (moved room space.game.target) last;
  }

  -- ---- a load

  AreSettledFrom-push : (start : Position) (path : List PathMove) (step : PathMove) → AreSettledFrom space.game (allowed_by space pass) start path
      → IsSettledMove space.game (allowed_by space pass) (position_after start path) step → AreSettledFrom space.game (allowed_by space pass) start (path ++ step ∷ [])
  AreSettledFrom-push start [] step h m = (m, tt)
  AreSettledFrom-push start (x ∷ path) step h m = (h.0, AreSettledFrom-push (after start x.load x.item) path step h.1 m)

  -- a bound is one also after one more item
  IsBound-after : (items : List ℕ) (size most : ℕ) → IsBound space.game items most → IsBound space.game (put_ascending size items) most
  IsBound-after items size most bound other p =
      bound other (Packable-part space.game (items ++ other ∷ []) (put_ascending size items ++ other ∷ []) (λ x. omega (
        arith,
        count-append x items (other ∷ []),
        count-append x (put_ascending size items) (other ∷ []),
        count-put_ascending x size items,
      )) p)

  -- the position after the item may be visited
  pub may_visit_child : (s : Search) (path : List PathMove) (position child : Position) (size load : ℕ) → IsOpenAt space pass size load s position
      → MayCome space pass position size → load + size < space.game.target → path ≡ with_move s size load → child ≡ after position load size
      → MayVisit space pass (record s { path = path }) child
  may_visit_child s path position child size load o may below e f =
      let step : PathMove = moved size load in
      let start = empty_position space.game in
      let listed = ((allowed_in-exact space.sizes position.items pass size).0 may.allowed).0 in
      let legal : IsLegalMove space.game (allowed_by space pass) position step =
      record { allowed_size = may.allowed; packable = may.packable; has_load = o.has_load; below_target = below } in
      let settled : IsSettledMove space.game (allowed_by space pass) position step =
      record { unfinished = o.unfinished; larger_sizes = o.larger_sizes; larger_loads = o.larger_loads } in
      let stands : StandsAtPath space pass (s.path ++ step ∷ []) (after position load size) = record {
        from_first = o.stands.from_first;
        of_game = o.stands.of_game;
        playable = IsPlayable-after space position load size o.stands.playable o.has_load below listed may.packable;
        legal = IsLegalFrom-push space.game (allowed_by space pass) start s.path step o.stands.legal
            (subst (λ p. IsLegalMove space.game (allowed_by space pass) p step) o.stands.here legal);
        here = ap (λ p. after p load size) o.stands.here ∙ sym (position_after-push start s.path step);
        settled = AreSettledFrom-push start s.path step o.stands.settled
            (subst (λ p. IsSettledMove space.game (allowed_by space pass) p step) o.stands.here settled);
      } in
      record {
        stands = subst (λ p. StandsAtPath space pass p child) (sym e) (subst (StandsAtPath space pass (s.path ++ step ∷ [])) (sym f) stands);
        bound = subst (λ (p : Position). IsBound space.game p.items s.most) (sym f) (IsBound-after position.items size s.most o.bound);
        rooms = o.rooms;
        later = subst (λ p. IsLater s.meter (visit pass p)) (sym e) o.later;
      }

  same_front : (xs ys : List PathMove) (x y : PathMove) → xs ++ x ∷ [] ≡ ys ++ y ∷ [] → xs ≡ ys
  same_front [] [] x y e = refl
  same_front [] (b ∷ ys) x y e = absurd (omega (arith, ap length e, length_push ys y))
  same_front (a ∷ xs) [] x y e = absurd (omega (arith, ap length e, length_push xs x))
  same_front (a ∷ xs) (b ∷ ys) x y e =
      let heads : a ≡ b = cc in
      let tails : xs ++ x ∷ [] ≡ ys ++ y ∷ [] = cc in
      ap (λ h. h ∷ xs) heads ∙ ap (λ t. b ∷ t) (same_front xs ys x y tails)

  -- the path without its last move
  pub popped : (old new base : List PathMove) (step : PathMove) (o : Option PathMove) → old ≡ base ++ step ∷ []
      → MatchOption o ((old ≡ []) × (new ≡ [])) (λ last. old ≡ new ++ last ∷ []) → new ≡ base
  popped old new base step None e h = absurd (omega (arith, ap length e, ap length h.0, length_push base step))
  popped old new base step (Some last) e h = same_front new base last step (sym h ∙ e)

  reaches : (s : Search) (entries : List (Position × Verdict)) (position : Position) (size load : ℕ) (verdict : Verdict) → load + size < space.game.target
      → IsSound space pass s entries → Tells space pass s (after position load size) verdict → HasReached space pass s position size load (reached_by verdict)
  reaches s entries position size load (Adversary number) below sound t = record {
    over = (λ o. absurd o, λ l. absurd (omega (arith, l, below)));
    leads = t.says;
    won = inr (won_by_win space pass s.meter s.wins s.replies entries (after position load size) number sound t.says);
  }
  reaches s entries position size load (Algorithm number) below sound t = (below, tt, t)
  reaches s entries position size load (Held held) below sound t = (below, tt, t)

  -- what the position after the item comes to
  pub reached_child : (s0 s2 : Search) (path back : List PathMove) (o : Option PathMove) (position child : Position) (size load : ℕ)
      (entries : List (Position × Verdict)) (verdict : Verdict) → load + size < space.game.target → path ≡ with_move s0 size load → child ≡ after position load size
      → FindsVerdict space pass child (record s0 { path = path }) s2 entries verdict
      → MatchOption o ((s2.path ≡ []) × (back ≡ [])) (λ last. s2.path ≡ back ++ last ∷ [])
      → WentOn space pass (with_move s0 size load) s0 (record s2 { path = back }) entries
      × HasReached space pass (record s2 { path = back }) position size load (reached_by verdict)
  reached_child s0 s2 path back o position child size load entries verdict below e f finds h =
      let g = finds.went.goes in
      let base : back ≡ s0.path = popped s2.path back s0.path (moved size load) o (g.path ∙ e) h in (
        record {
          goes = record { wins = g.wins; replies = g.replies; path = base; most = g.most; rooms = g.rooms; budget = g.budget };
          sound = finds.went.sound;
          passed = subst (HasPassed s2.meter pass) e finds.went.passed;
        },
        reaches (record s2 { path = back }) entries position size load verdict below finds.went.sound
            (record {
              says = subst (λ p. Says space s2.wins s2.replies p verdict) f finds.tells.says;
              of_pass = finds.tells.of_pass;
            }),
      )

  -- a load at which the item reaches the target
  pub reached_over : (s : Search) (position : Position) (size load : ℕ) (entries : List (Position × Verdict)) → IsSound space pass s entries
      → IsOpenAt space pass size load s position → space.game.target ≤ load + size
      → WentOn space pass (with_move s size load) s s entries × FollowsUp space pass s position size (record { load = load; next = Over })
  reached_over s position size load entries sound o over = (
    WentOn-refl (with_move s size load) s entries sound (HasPassed-later s.meter pass (with_move s size load) o.later),
    record { over = (λ h. over, λ h. tt); leads = tt; won = inl over },
  )
