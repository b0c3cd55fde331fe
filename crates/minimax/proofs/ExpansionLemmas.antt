-- That there are no more nodes than visits, along the parts of an expansion.
use Rattle.std.proofs.Common.{◌≡◌, ℕ, ◌+◌, ◌-◌, ◌<◌, ◌≤◌, Some, List, [], ◌∷◌, ◌++◌, length, refl, sym, ap, subst, inl, inr, arith}
use Rattle.std.specs.Prelude.{All, Contains, IsTrue}
use Rattle.std.proofs.lemmas.Bool.{cases_lt}
use Rattle.std.proofs.lemmas.List.Elements.{All-push, All-weaker}
use Rattle.items.specs.Game.{IsGame}
use Rattle.minimax.specs.declared.space.Space.{Space}
use Rattle.items.specs.Packable.{Packable}
use Rattle.good_situations.specs.Finish.{Finishes}
use Rattle.loads.specs.After.{after}
use Rattle.loads.specs.Position.{are_equal}
use Rattle.loads.specs.declared.position.Position.{Position}
use Rattle.strategy_text.specs.Spelling.{most_nodes}
use Rattle.strategy_text.specs.declared.node.Entry.{Entry}
use Rattle.strategy_text.specs.declared.node.Placement.{Placement}
use Rattle.monotone.specs.Visits.{Metered, Visit, counted}
use Rattle.transposition.specs.Bounded.{SameEntries}
use Rattle.transposition.specs.Memo.{verdict_of}
use Rattle.transposition.specs.declared.verdict.Verdict.{Verdict}
use Rattle.transposition.specs.declared.verdict.Verdict.TheVariants.{Adversary, Algorithm, Held}
use Rattle.minimax.specs.State.{HasTried, IsNoWin, IsPlayable, IsTold, KeepsReply, KeepsWin, PutsOnly, Tells, allowed_by, kept_of, reached_by}
use Rattle.minimax.specs.declared.expanding.Search.{Search}
use Rattle.minimax.specs.declared.expanding.Tried.TheVariants.{Answered}
use Rattle.minimax.specs.declared.expanding.Weighed.TheVariants.{NoReply, Unlisted}
use Rattle.minimax.specs.declared.table.Told.{Told}
use Rattle.minimax.specs.Serving.{AreTried, IsBehind, IsEntryServed, IsFirstServed, IsServed, IsServedAt, IsServedBy, IsServedFor, IsSizeTried, IsSkipped}
use Rattle.minimax.specs.Serving.{IsTriedBefore, KeepsServing, KeepsServingTold, led_to, taken_by}
use Rattle.minimax.specs.declared.finish_nodes.TheConstants.{FINISHES}
use Rattle.minimax.proofs.FinishLemmas.{IsNeverWon-finish}
use Rattle.minimax.proofs.PlayableLemmas.{IsPlayable-after}
use Rattle.minimax.proofs.ServingLemmas.{AreServed-put, AreServed-reply, AreServed-same, IsBehind-less, Serving-refl, serves_finish}
use Rattle.minimax.specs.declared.replies.Reply.{Reply}
use Rattle.minimax.specs.declared.wins.Win.{Win}
use Rattle.std.proofs.lemmas.List.{length_push}

-- ---- the parts of an expansion

-- a visit, a decision, and the verdict put
pub serves_expanded : (space : Space) (s0 s2 : Search) (meter : Metered) (next : Visit) (position : Position) (e0 e1 e2 e3 : List (Position × Verdict))
    (verdict : Verdict) → meter ≡ counted s0.meter next → SameEntries are_equal e0 e1
    → KeepsServing space 1 (record s0 { meter = meter }) e1 s2 e2 (λ later. IsServedBy space later position verdict) → PutsOnly e2 e3 position verdict
    → KeepsServing space 0 s0 e0 s2 e3 (λ later. IsServedBy space later position verdict)
serves_expanded space s0 s2 meter next position e0 e1 e2 e3 verdict e same serves puts spare unnamed behind =
    let one : meter.count ≡ s0.meter.count + 1 = ap (λ m. m.count) e in
    let h = serves spare unnamed (omega (arith, behind.0, one), AreServed-same space unnamed s0.replies e0 e1 same behind.1) in
    record {
      later = h.later;
      behind = (h.behind.0, AreServed-put space h.later s2.replies e2 e3 position verdict puts h.more h.behind.1);
      keeps = h.keeps;
      more = h.more;
    }

-- a visit of a position that finishes
pub serves_finished : (space : Space) (s0 : Search) (meter : Metered) (next : Visit) (position : Position) (e0 e1 e2 : List (Position × Verdict))
    → meter ≡ counted s0.meter next → SameEntries are_equal e0 e1 → PutsOnly e1 e2 position (Algorithm FINISHES)
    → KeepsServing space 0 s0 e0 (record s0 { meter = meter }) e2 (λ later. IsServedBy space later position (Algorithm FINISHES))
serves_finished space s0 meter next position e0 e1 e2 e same puts spare unnamed behind =
    let one : meter.count ≡ s0.meter.count + 1 = ap (λ m. m.count) e in
    let h = serves_finish space spare unnamed (record s0 { meter = meter }) e1 e2 position puts
    (omega (arith, behind.0, one), AreServed-same space unnamed s0.replies e0 e1 same behind.1) in
    record { later = h.later; behind = h.behind; keeps = h.keeps; more = h.more }

-- the table told the verdict
pub serves_known : (space : Space) (s : Search) (position : Position) (old new : List (Position × Verdict)) (verdict : Verdict)
    → verdict_of old position ≡ Some verdict → SameEntries are_equal old new
    → KeepsServing space 0 s old s new (λ later. IsServedBy space later position verdict)
serves_known space s position old new verdict told same spare unnamed behind =
    Serving-refl space spare unnamed s new (λ later. IsServedBy space later position verdict)
    (omega (arith, behind.0), AreServed-same space unnamed s.replies old new same behind.1) (behind.1.known position verdict told)

-- nothing was done
pub serves_nothing : (space : Space) (took : ℕ) (s : Search) (entries : List (Position × Verdict)) (More : List Position → Type 0) → ((later : List Position) → More later)
    → KeepsServing space took s entries s entries More
serves_nothing space took s entries More m spare unnamed behind =
    Serving-refl space spare unnamed s entries More (IsBehind-less space (took + spare) spare unnamed s entries (omega arith) behind) (m unnamed)

-- what a verdict after an item says
pub served_at : (space : Space) (unnamed : List Position) (position child : Position) (size load : ℕ) (verdict : Verdict) → child ≡ after position load size
    → IsServedBy space unnamed child verdict → IsServedAt space unnamed position size load (reached_by verdict)
served_at space unnamed position child size load (Adversary number) e h = tt
served_at space unnamed position child size load (Algorithm number) e h = subst (λ q. IsServedBy space unnamed q (Algorithm number)) e h
served_at space unnamed position child size load (Held held) e h = subst (λ q. IsServedBy space unnamed q (Held held)) e h

-- an answer at a position that finishes tells so
finish_served : (space : Space) (pass : ℕ) (unnamed : List Position) (s : Search) (position : Position) (verdict : Verdict) → IsNoWin verdict
    → Tells space pass s position verdict → Finishes space.game position.loads → IsServedBy space unnamed position verdict → IsServed unnamed position
finish_served space pass unnamed s position (Adversary number) nothing t finishes served = absurd nothing
finish_served space pass unnamed s position (Algorithm number) nothing t finishes served = elim t.says [
  | inl node ↦ absurd (node.unfinished finishes)
  | inr finish ↦ served.0 (ap Algorithm finish.told)
]
finish_served space pass unnamed s position (Held held) nothing t finishes served = absurd (t.says.unfinished finishes)

-- where a size was answered, the first load below the target is served
pub first_served : (space : Space) (pass : ℕ) (unnamed : List Position) (s : Search) (position : Position) (size load : ℕ) (verdict : Verdict) → IsGame space.game
    → IsPlayable space position → Contains space.sizes size → Packable space.game (position.items ++ size ∷ []) → HasTried space pass s position size (Answered load verdict)
    → IsServedBy space unnamed (after position load size) verdict → IsFirstServed space unnamed position size
first_served space pass unnamed s position size load verdict g playable listed may (has_load, below, nothing, tells, above) served first_load first finishes =
    let next : Position = after position first_load size in
    let never = IsNeverWon-finish space next g (IsPlayable-after space position first_load size playable first.has_load first.below listed may) finishes in
    elim (cases_lt first_load load) [
      | inl lower ↦ absurd (omega (arith, first.larger load has_load lower, below))
      | inr up ↦ elim (cases_lt load first_load) [
        | inl larger ↦ absurd (never pass (above first_load first.has_load larger first.below))
        | inr down ↦
            let same : load ≡ first_load = omega (arith, up, down) in
            finish_served space pass unnamed s next verdict nothing (subst (λ l. Tells space pass s (after position l size) verdict) same tells) finishes
            (subst (λ l. IsServedBy space unnamed (after position l size) verdict) same served)
      ]
    ]

-- a size that was answered
pub serves_kept : (space : Space) (pass : ℕ) (told : Told) (s0 s1 : Search) (position : Position) (size load : ℕ) (e0 e1 : List (Position × Verdict)) (verdict : Verdict)
    → ((later : List Position) → IsServedBy space later (after position load size) verdict → IsFirstServed space later position size)
    → KeepsServing space 0 s0 e0 s1 e1 (λ later. IsServedBy space later (after position load size) verdict)
    → KeepsServingTold space told position (taken_by (kept_of size load verdict)) s0 e0 s1 e1
    (λ later. IsServedFor space pass later position size (kept_of size load verdict))
serves_kept space pass told s0 s1 position size load e0 e1 (Adversary number) first f spare unnamed behind tried =
    let h = f spare unnamed behind in
    record { later = h.later; behind = h.behind; keeps = h.keeps; more = λ allowed. first h.later h.more }
serves_kept space pass told s0 s1 position size load e0 e1 (Algorithm number) first f spare unnamed behind tried =
    let h = f spare unnamed behind in
    record { later = h.later; behind = h.behind; keeps = h.keeps; more = (λ e. h.more.0 (ap Algorithm e), λ allowed. first h.later h.more) }
serves_kept space pass told s0 s1 position size load e0 e1 (Held held) first f spare unnamed behind tried =
    let h = f spare unnamed behind in
    record { later = h.later; behind = h.behind; keeps = h.keeps; more = λ allowed. first h.later h.more }

-- a size that an earlier pass tried
pub serves_skipped : (space : Space) (pass : ℕ) (told : Told) (s : Search) (position : Position) (size load : ℕ) (entries : List (Position × Verdict))
    → Packable space.game (position.items ++ size ∷ []) → IsSkipped space told position size load
    → KeepsServingTold space told position 0 s entries s entries
    (λ later. IsServedFor space pass later position size (kept_of size load (Algorithm FINISHES)))
serves_skipped space pass told s position size load entries may skipped spare unnamed behind tried =
    let first = tried skipped.pass skipped.earlier size skipped.allowed may in
    Serving-refl space spare unnamed s entries _ (IsBehind-less space (0 + spare) spare unnamed s entries (omega arith) behind)
    (λ e. first load skipped.first skipped.finishes, λ allowed. first)

-- a size that the pass does not allow
pub serves_not_allowed : (space : Space) (pass : ℕ) (told : Told) (s : Search) (position : Position) (size : ℕ) (entries : List (Position × Verdict))
    → (IsTrue (allowed_by space pass position.items size) → ⊥)
    → KeepsServingTold space told position 0 s entries s entries (λ later. IsServedFor space pass later position size NoReply)
serves_not_allowed space pass told s position size entries none spare unnamed behind tried =
    Serving-refl space spare unnamed s entries _ (IsBehind-less space (0 + spare) spare unnamed s entries (omega arith) behind) (λ allowed. absurd (none allowed))

-- a size that is not listed
pub serves_not_listed : (space : Space) (pass : ℕ) (told : Told) (s : Search) (position : Position) (size : ℕ) (entries : List (Position × Verdict))
    → (IsTrue (allowed_by space pass position.items size) → ⊥)
    → KeepsServingTold space told position 0 s entries s entries (λ later. IsServedFor space pass later position size Unlisted)
serves_not_listed space pass told s position size entries none spare unnamed behind tried =
    Serving-refl space spare unnamed s entries _ (IsBehind-less space (0 + spare) spare unnamed s entries (omega arith) behind) (λ allowed. absurd (none allowed))

-- a size that wins
pub serves_won : (space : Space) (told : Told) (s0 s1 : Search) (wins : List Win) (position : Position) (size : ℕ)
    (placements : List Placement) (number : ℕ) (e0 e1 : List (Position × Verdict)) (M : List Position → Type 0)
    → KeepsWin s1.wins wins position size placements number → KeepsServing space 0 s0 e0 s1 e1 M
    → KeepsServingTold space told position 1 s0 e0 (record s1 { wins = wins }) e1 (λ later. Unit {0})
serves_won space told s0 s1 wins position size placements number e0 e1 M keeps f spare unnamed behind tried =
    let h = f (1 + spare) unnamed (IsBehind-less space (1 + spare) (0 + (1 + spare)) unnamed s0 e0 (omega arith) behind) in
    record {
      later = h.later;
      behind = (omega (arith, h.behind.0, ap (λ (ws : List Win). length ws) keeps.list, length_push s1.wins keeps.win), h.behind.1);
      keeps = h.keeps;
      more = tt;
    }

-- a visit that was left over and not taken
pub serves_more : (space : Space) (s0 s1 : Search) (e0 e1 : List (Position × Verdict)) (M N : List Position → Type 0) → ((later : List Position) → M later → N later)
    → KeepsServing space 0 s0 e0 s1 e1 M → KeepsServing space 1 s0 e0 s1 e1 N
serves_more space s0 s1 e0 e1 M N n f spare unnamed behind =
    let h = f spare unnamed (IsBehind-less space (1 + spare) (0 + spare) unnamed s0 e0 (omega arith) behind) in
    record { later = h.later; behind = h.behind; keeps = h.keeps; more = n h.later h.more }

-- a size after others, of a position that is tried out as the table told
pub serves_size : (space : Space) (told : Told) (position : Position) (took : ℕ) (s0 s1 s2 : Search) (e0 e1 e2 : List (Position × Verdict))
    (M N O : List Position → Type 0) → KeepsServing space 0 s0 e0 s1 e1 M → KeepsServingTold space told position took s1 e1 s2 e2 N
    → ((later : List Position) → M later → IsTriedBefore space told later position)
    → ((before later : List Position) → ((p : Position) → IsServed before p → IsServed later p) → M before → N later → O later)
    → KeepsServing space took s0 e0 s2 e2 O
serves_size space told position took s0 s1 s2 e0 e1 e2 M N O f g tried join spare unnamed behind =
    let first = f (took + spare) unnamed (IsBehind-less space (took + spare) (0 + (took + spare)) unnamed s0 e0 (omega arith) behind) in
    let second = g spare first.later first.behind (tried first.later first.more) in
    record {
      later = second.later;
      behind = second.behind;
      keeps = λ p h. second.keeps p (first.keeps p h);
      more = join first.later second.later second.keeps first.more second.more;
    }

-- what the table told holds of each list
pub tried_before : (space : Space) (pass spare : ℕ) (told : Told) (unnamed : List Position) (s : Search) (position : Position) (entries : List (Position × Verdict))
    → IsTold pass (verdict_of entries position) told → IsBehind space spare unnamed s entries → IsTriedBefore space told unnamed position
tried_before space pass spare told unnamed s position entries is behind k e =
    let held = subst (IsTold pass (verdict_of entries position)) e is in
    (behind.1.known position (Held k) held.0).1 k refl

pub tried_still : (space : Space) (told : Told) (before later : List Position) (position : Position)
    → ((p : Position) → IsServed before p → IsServed later p) → IsTriedBefore space told before position → IsTriedBefore space told later position
tried_still space told before later position keeps tried k e size allowed may load first finishes =
    keeps (after position load size) (tried k e size allowed may load first finishes)

-- one more size was tried
pub sizes_tried : (space : Space) (pass room tried : ℕ) (before later : List Position) (position : Position) → tried < room
    → ((p : Position) → IsServed before p → IsServed later p) → AreTried space pass (room - tried) room before position
    → IsSizeTried space pass later position (room - tried) → AreTried space pass (room - (tried + 1)) room later position
sizes_tried space pass room tried before later position l keeps all here size above within allowed load first finishes = elim (cases_lt (room - tried) size) [
  | inl larger ↦ keeps (after position load size) (all size larger within allowed load first finishes)
  | inr small ↦
      let same : room - tried ≡ size = omega (arith, above, small, l) in
      subst (λ n. IsSizeTried space pass later position n) same here allowed load first finishes
]

-- entries that are served still are, and one more is
pub entries_still : (before later : List Position) (position : Position) (entries more : List Entry)
    → ((p : Position) → IsServed before p → IsServed later p) → All (IsEntryServed before position) entries → more ≡ entries
    → All (IsEntryServed later position) more
entries_still before later position entries more keeps all is =
    subst (All (IsEntryServed later position)) (sym is)
    (All-weaker (IsEntryServed before position) (IsEntryServed later position) (λ e h f. keeps (led_to position e) (h f)) entries all)

pub entries_served : (before later : List Position) (position : Position) (entries more : List Entry) (entry : Entry)
    → ((p : Position) → IsServed before p → IsServed later p) → All (IsEntryServed before position) entries → IsEntryServed later position entry
    → more ≡ entries ++ entry ∷ [] → All (IsEntryServed later position) more
entries_served before later position entries more entry keeps all one is =
    subst (All (IsEntryServed later position)) (sym is)
    (All-push (IsEntryServed later position) entries entry
    (All-weaker (IsEntryServed before position) (IsEntryServed later position) (λ e h f. keeps (led_to position e) (h f)) entries all) one)

-- the replies to all sizes
pub serves_replied : (space : Space) (s0 s1 : Search) (replies : List Reply) (position : Position) (entries : List Entry) (number : ℕ)
    (e0 e1 : List (Position × Verdict)) (M : List Position → Type 0) → KeepsReply s1.replies replies position entries number → s1.meter.count ≤ most_nodes
    → KeepsServing space 0 s0 e0 s1 e1 M → ((later : List Position) → M later → All (IsEntryServed later position) entries)
    → KeepsServing space 1 s0 e0 (record s1 { replies = replies }) e1 (λ later. IsServedBy space later position (Algorithm number))
serves_replied space s0 s1 replies position entries number e0 e1 M keeps limit f each spare unnamed behind =
    let h = f (1 + spare) unnamed (IsBehind-less space (1 + spare) (0 + (1 + spare)) unnamed s0 e0 (omega arith) behind) in
    let few : number < FINISHES = omega (arith, h.behind.0, limit, keeps.is_last) in
    record {
      later = h.later;
      behind = (
        omega (arith, h.behind.0, ap (λ (rs : List Reply). length rs) keeps.list, length_push s1.replies keeps.reply),
        AreServed-reply space h.later s1.replies replies e1 position entries number keeps (each h.later h.more) h.behind.1,
      );
      keeps = h.keeps;
      more = (
        λ told. absurd (let same : number ≡ FINISHES = algorithm_number told in omega (arith, same, few)),
        λ k told. absurd (let no : Algorithm number ≡ Held k = told in cc),
      );
    }
  where
    algorithm_number : {a b : ℕ} → Algorithm a ≡ Algorithm b → a ≡ b
    algorithm_number e = cc
