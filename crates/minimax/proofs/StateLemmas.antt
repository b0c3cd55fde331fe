-- How a search keeps what it keeps: pools that go on, verdicts that stay true, and states that stay sound.
use Rattle.std.proofs.Common.{◌≡◌, ℕ, zero, suc, ◌<◌, ◌≤◌, Some, List, [], ◌∷◌, ◌++◌, map, length}
use Rattle.std.proofs.Common.{refl, sym, ap, ◌∙◌, subst, append_assoc, inl, inr, arith}
use Rattle.std.specs.Prelude.{All, slice_get}
use Rattle.std.proofs.lemmas.Bool.{cases_lt}
use Rattle.std.proofs.lemmas.List.{append-nil, length_push, map-append, take-append-le, take_all}
use Rattle.std.proofs.lemmas.List.Elements.{All-push, All-weaker}
use Rattle.std.proofs.lemmas.Option.{slice_get-map, get_or_from_slice_get, slice_get_within, same_Some}
use Rattle.minimax.specs.declared.space.Space.{Space}
use Rattle.loads.specs.After.{after}
use Rattle.loads.specs.Position.{StandsAt}
use Rattle.loads.specs.declared.position.Position.{Position}
use Rattle.strategy_text.specs.declared.node.AlgNode.{AlgNode}
use Rattle.strategy_text.specs.declared.node.Entry.{Entry}
use Rattle.strategy_text.specs.declared.node.Placement.{Placement}
use Rattle.strategy_text.specs.declared.node.Then.{Then}
use Rattle.strategy_text.specs.declared.node.Then.TheVariants.{Over, To}
use Rattle.adversary_graph.specs.Rules.{LeadsTo}
use Rattle.items.proofs.ListLemmas.{mapped, slice_get-front}
use Rattle.algorithm_graph.specs.Nodes as algorithm
use Rattle.monotone.specs.Visits.{Visit, Metered, IsLater, IsVisit, counted}
use Rattle.monotone.proofs.VisitLemmas.{CountsVisits-counted}
use Rattle.transposition.specs.declared.verdict.Verdict.{Verdict}
use Rattle.transposition.specs.declared.verdict.Verdict.TheVariants.{Adversary, Algorithm, Held}
use Rattle.minimax.specs.State.{AreKnown, AreSound, EachOver, FollowsUp, GoesOn, IsLed, IsNeverWon, IsNoWin}
use Rattle.node_pool.specs.Pools.{Pool, terms_in}
use Rattle.minimax.specs.State.{IsPending, IsPlain, IsReady, IsReadyWin, IsReply, IsSound, IsWonIn, KeepsReply, KeepsWin}
use Rattle.minimax.specs.State.{PutsOnly, Says, Tells, position_of_reply, position_of_win, space_of}
use Rattle.minimax.specs.declared.expanding.Search.{Search}
use Rattle.minimax.specs.declared.replies.Reply.{Reply}
use Rattle.minimax.specs.declared.wins.Win.{Win}
use Rattle.minimax.proofs.WinLemmas.{IsWonIn-later}

-- ---- lists that go on

pub GoesOn-refl : {X : Type 0} (xs : List X) → GoesOn xs xs
GoesOn-refl xs = ([], sym (append-nil xs))

pub GoesOn-push : {X : Type 0} (xs : List X) (x : X) → GoesOn xs (xs ++ x ∷ [])
GoesOn-push xs x = (x ∷ [], refl)

pub GoesOn-trans : {X : Type 0} (xs ys zs : List X) → GoesOn xs ys → GoesOn ys zs → GoesOn xs zs
GoesOn-trans xs ys zs a b = (a.0 ++ b.0, b.1 ∙ ap (λ l. l ++ b.0) a.1 ∙ append_assoc xs a.0 b.0)

slice_get-before : {X : Type 0} (xs more : List X) (k : ℕ) → k < length xs → slice_get (xs ++ more) k ≡ slice_get xs k
slice_get-before [] more k l = absurd (omega (arith, l))
slice_get-before (y ∷ ys) more zero l = refl
slice_get-before (y ∷ ys) more (suc k) l = slice_get-before ys more k (omega (arith, l))

slice_get-last : {X : Type 0} (xs : List X) (x : X) (k : ℕ) → k ≡ length xs → slice_get (xs ++ x ∷ []) k ≡ Some x
slice_get-last xs x k e = subst (λ n. slice_get (xs ++ x ∷ []) n ≡ Some x) (sym e) (at_end xs)
  where
    at_end : {X : Type 0} {x : X} (xs : List X) → slice_get (xs ++ x ∷ []) (length xs) ≡ Some x
    at_end [] = refl
    at_end (y ∷ ys) = at_end ys

pub StandsAt-goes : {X : Type 0} (f : X → Position) (xs ys : List X) (n : ℕ) (p : Position) → GoesOn xs ys → StandsAt (map f xs) n p → StandsAt (map f ys) n p
StandsAt-goes f xs ys n p g h =
    subst (λ l. StandsAt (map f l) n p) (sym g.1)
    (subst (λ l. StandsAt l n p) (sym (map-append f xs g.0)) (slice_get-front (map f xs) (map f g.0) n p h))

last_at : {X : Type 0} (f : X → Position) (xs : List X) (x : X) → StandsAt (map f (xs ++ x ∷ [])) (length xs) (f x)
last_at f [] x = refl
last_at f (y ∷ ys) x = last_at f ys x

pub StandsAt-last : {X : Type 0} (f : X → Position) (xs ys : List X) (x : X) (n : ℕ) (p : Position) → ys ≡ xs ++ x ∷ [] → n ≡ length xs → f x ≡ p
    → StandsAt (map f ys) n p
StandsAt-last f xs ys x n p e number at =
    subst (λ l. StandsAt (map f l) n p) (sym e)
    (subst (λ k. StandsAt (map f (xs ++ x ∷ [])) k p) (sym number) (subst (StandsAt (map f (xs ++ x ∷ [])) (length xs)) at (last_at f xs x)))

all_at : {X : Type 0} (P : X → Type 0) (xs : List X) (n : ℕ) (x : X) → All P xs → slice_get xs n ≡ Some x → P x
all_at P xs n x all e = subst P (get_or_from_slice_get xs n x x e) (all n x (slice_get_within xs n x e))

pub all_stand : {X : Type 0} (f : X → Position) (P : Position → Type 0) (xs : List X) (n : ℕ) (p : Position) → All (λ x. P (f x)) xs → StandsAt (map f xs) n p → P p
all_stand f P xs n p all h =
    let m = mapped f (slice_get xs n) p (sym (slice_get-map f xs n) ∙ h) in
    subst P m.2 (all_at (λ x. P (f x)) xs n m.0 all m.1)

-- ---- verdicts

pub IsLed-goes : (space : Space) (replies more : List Reply) (position : Position) (number : ℕ) → GoesOn replies more
    → IsLed space replies position number → IsLed space more position number
IsLed-goes space replies more position number g (inl h) =
    inl (record { stands = StandsAt-goes position_of_reply replies more number position g h.stands; unfinished = h.unfinished })
IsLed-goes space replies more position number g (inr h) = inr h

pub Says-goes : (space : Space) (wins more_wins : List Win) (replies more_replies : List Reply) (position : Position) (verdict : Verdict)
    → GoesOn wins more_wins → GoesOn replies more_replies → Says space wins replies position verdict → Says space more_wins more_replies position verdict
Says-goes space wins more_wins replies more_replies position (Adversary number) g h s = StandsAt-goes position_of_win wins more_wins number position g s
Says-goes space wins more_wins replies more_replies position (Algorithm number) g h s = IsLed-goes space replies more_replies position number h s
Says-goes space wins more_wins replies more_replies position (Held held) g h s = s

-- where a verdict is a win of the adversary, it wins this pass
pub won_by_win : (space : Space) (pass : ℕ) (meter : Metered) (wins : List Win) (replies : List Reply) (entries : List (Position × Verdict))
    (position : Position) (number : ℕ) → AreSound space pass meter wins replies entries → StandsAt (map position_of_win wins) number position
    → IsWonIn space pass position
won_by_win space pass meter wins replies entries position number s h = all_stand position_of_win (IsWonIn space pass) wins number position s.won h

-- where a verdict is the algorithm's, the position is won in no pass
pub never_by_node : (space : Space) (pass : ℕ) (meter : Metered) (wins : List Win) (replies : List Reply) (entries : List (Position × Verdict))
    (position : Position) (number : ℕ) → AreSound space pass meter wins replies entries → StandsAt (map position_of_reply replies) number position
    → IsNeverWon space position
never_by_node space pass meter wins replies entries position number s h = all_stand position_of_reply (IsNeverWon space) replies number position s.lost h

-- so where it finishes
pub never_by_led : (space : Space) (pass : ℕ) (meter : Metered) (wins : List Win) (replies : List Reply) (entries : List (Position × Verdict))
    (position : Position) (number : ℕ) → AreSound space pass meter wins replies entries → IsLed space replies position number → IsNeverWon space position
never_by_led space pass meter wins replies entries position number s (inl h) = never_by_node space pass meter wins replies entries position number s h.stands
never_by_led space pass meter wins replies entries position number s (inr h) = h.never

-- a verdict that is no win of the adversary says that it does not win this pass
pub not_won_by_verdict : (space : Space) (pass : ℕ) (search : Search) (entries : List (Position × Verdict)) (position : Position) (verdict : Verdict)
    → IsSound space pass search entries → IsNoWin verdict → Tells space pass search position verdict → IsWonIn space pass position → ⊥
not_won_by_verdict space pass state entries position (Adversary number) s nothing t won = nothing
not_won_by_verdict space pass state entries position (Algorithm number) s nothing t won =
    never_by_led space pass state.meter state.wins state.replies entries position number s t.says pass won
not_won_by_verdict space pass state entries position (Held held) s nothing t won = t.says.not_won (subst (λ k. IsWonIn space k position) (sym t.of_pass) won)

-- ---- what follows an item

pub LeadsTo-goes : (wins more : List Win) (next : Then) (position : Position) → GoesOn wins more → LeadsTo (map position_of_win wins) next position
    → LeadsTo (map position_of_win more) next position
LeadsTo-goes wins more Over position g h = tt
LeadsTo-goes wins more (To child) position g h = StandsAt-goes position_of_win wins more child position g h

pub FollowsUp-goes : (space : Space) (pass : ℕ) (before after : Search) (position : Position) (size : ℕ) (placement : Placement)
    → GoesOn before.wins after.wins → FollowsUp space pass before position size placement → FollowsUp space pass after position size placement
FollowsUp-goes space pass before after position size placement g f =
    record { over = f.over; leads = LeadsTo-goes before.wins after.wins placement.next _ g f.leads; won = f.won }

pub IsReply-goes : (space : Space) (replies more : List AlgNode) (position : Position) (entry : Entry) → GoesOn replies more
    → IsReply space.game replies position entry → IsReply space.game more position entry
IsReply-goes space replies more position entry g r = record { names = r.names; leads = StandsAt-goes algorithm.position_of replies more entry.to _ g r.leads }

pub IsPending-goes : (space : Space) (replies more : List Reply) (position : Position) (entry : Entry) → GoesOn replies more
    → IsPending space replies position entry → IsPending space more position entry
IsPending-goes space replies more position entry g p =
    record { names = p.names; listed = p.listed; may_come = p.may_come; leads = IsLed-goes space replies more (after position entry.load entry.size) entry.to g p.leads }

-- ---- lists of which something holds over the elements before

-- what holds of each element over those before it holds of one more
pub EachOver-push : {X : Type 0} (P : List X → X → Type 0) (xs : List X) (x : X) → EachOver P xs → P xs x → EachOver P (xs ++ x ∷ [])
EachOver-push P xs x each here k y e = elim (cases_lt k (length xs)) [
  | inl before ↦ subst (λ front. P front y) (sym (take-append-le k xs (x ∷ []) (omega (arith, before))))
      (each k y (sym (slice_get-before xs (x ∷ []) k before) ∙ e))
  | inr after ↦
      let within = slice_get_within (xs ++ x ∷ []) k y e in
      let last : k ≡ length xs = omega (arith, after, within, length_push xs x) in
      let is : x ≡ y = same_Some x y (sym (slice_get-last xs x k last) ∙ e) in
      subst (λ front. P front y) (sym (take-append-le k xs (x ∷ []) (omega (arith, last)) ∙ take_all k xs (omega (arith, last))))
      (subst (P xs) is here)
]

-- ---- states that stay sound

module _ (space : Space) (pass : ℕ) (meter : Metered) (wins : List Win) (replies : List Reply) (entries : List (Position × Verdict)) where
  -- with other entries that hold
  pub AreSound-known : (more : List (Position × Verdict)) → AreSound space pass meter wins replies entries → AreKnown space wins replies more
      → AreSound space pass meter wins replies more
  AreSound-known more s known = record {
    ready_wins = s.ready_wins;
    ready = s.ready;
    counts = s.counts;
    within = s.within;
    budget = s.budget;
    won = s.won;
    lost = s.lost;
    known = known;
  }

  -- after a verdict was put that says what holds
  pub AreSound-put : (more : List (Position × Verdict)) (position : Position) (verdict : Verdict) → AreSound space pass meter wins replies entries
      → PutsOnly entries more position verdict → Says space wins replies position verdict → AreSound space pass meter wins replies more
  AreSound-put more position verdict s puts says = AreSound-known more s
      (λ one told e. elim (puts one told e) [
        | inl (p, v) ↦ subst (λ q. Says space wins replies q told) (sym p) (subst (Says space wins replies position) (sym v) says)
        | inr old ↦ s.known one told old
      ])

  -- after one more visit
  pub AreSound-counted : (after : Metered) (next : Visit) → AreSound space pass meter wins replies entries → after ≡ counted meter next
      → IsVisit (space_of space) next → IsLater meter next → (meter.count ≡ meter.budget → ⊥) → AreSound space pass after wins replies entries
  AreSound-counted after next s e is later left = subst (λ m. AreSound space pass m wins replies entries) (sym e) (record {
    ready_wins = s.ready_wins;
    ready = s.ready;
    counts = CountsVisits-counted (space_of space) meter next s.counts is later;
    within = omega (arith, s.within, left);
    budget = s.budget;
    won = s.won;
    lost = s.lost;
    known = s.known;
  })

  -- after a win at a won position
  pub AreSound-win : (after : List Win) (position : Position) (size : ℕ) (placements : List Placement) (number : ℕ) → AreSound space pass meter wins replies entries
      → (p : KeepsWin wins after position size placements number) → IsWonIn space pass position → IsReadyWin space wins p.win
      → AreSound space pass meter after replies entries
  AreSound-win after position size placements number s p won ready = subst (λ w. AreSound space pass meter w replies entries) (sym p.list) (record {
    ready_wins = EachOver-push (IsReadyWin space) wins p.win s.ready_wins ready;
    ready = s.ready;
    counts = s.counts;
    within = s.within;
    budget = s.budget;
    won = All-push (λ win. IsWonIn space pass (position_of_win win)) wins p.win s.won (subst (IsWonIn space pass) (sym p.stands) won);
    lost = s.lost;
    known = λ one told e. Says-goes space wins (wins ++ p.win ∷ []) replies replies one told
        (GoesOn-push wins p.win) (GoesOn-refl replies) (s.known one told e);
  })

  -- after replies at a position that is never won
  pub AreSound-reply : (after : List Reply) (position : Position) (made : List Entry) (number : ℕ) → AreSound space pass meter wins replies entries
      → (p : KeepsReply replies after position made number) → IsNeverWon space position → IsReady space replies p.reply
      → AreSound space pass meter wins after entries
  AreSound-reply after position made number s p never ready = subst (λ r. AreSound space pass meter wins r entries) (sym p.list) (record {
    ready_wins = s.ready_wins;
    ready = EachOver-push (IsReady space) replies p.reply s.ready ready;
    counts = s.counts;
    within = s.within;
    budget = s.budget;
    won = s.won;
    lost = All-push (λ reply. IsNeverWon space (position_of_reply reply)) replies p.reply s.lost (subst (IsNeverWon space) (sym p.stands) never);
    known = λ one told e. Says-goes space wins wins replies (replies ++ p.reply ∷ []) one told
        (GoesOn-refl wins) (GoesOn-push replies p.reply) (s.known one told e);
  })

  -- in a later pass
  pub AreSound-later : (later : ℕ) → pass ≤ later → AreSound space pass meter wins replies entries → AreSound space later meter wins replies entries
  AreSound-later later l s = record {
    ready_wins = s.ready_wins;
    ready = s.ready;
    counts = s.counts;
    within = s.within;
    budget = s.budget;
    won = All-weaker (λ win. IsWonIn space pass (position_of_win win)) (λ win. IsWonIn space later (position_of_win win))
        (λ win w. IsWonIn-later space pass later (position_of_win win) l w) wins s.won;
    lost = s.lost;
    known = s.known;
  }

-- ---- pools

-- a pool of format 1 for the game with its sizes is one still where its terms stay
pub IsPlain-same : {Node : Type 0} (space : Space) (before next : Pool Node) → terms_in next ≡ terms_in before → IsPlain space before
    → IsPlain space next
IsPlain-same space before next same plain = same ∙ plain
