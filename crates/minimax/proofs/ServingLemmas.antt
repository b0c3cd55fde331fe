-- That there are no more nodes than visits: how the list of positions that finish goes along with a search.
use Rattle.std.proofs.Common.{◌≡◌, ℕ, ◌+◌, ◌≤◌, ◌⊎◌, List, [], ◌∷◌, ◌++◌, sym, ◌∙◌, subst, inl, inr, ⊎_elim, arith}
use Rattle.std.specs.Prelude.{All, Contains}
use Rattle.std.proofs.lemmas.List.Elements.{All-weaker}
use Rattle.minimax.specs.declared.space.Space.{Space}
use Rattle.loads.specs.After.{after}
use Rattle.loads.specs.Position.{are_equal}
use Rattle.loads.specs.declared.position.Position.{Position}
use Rattle.strategy_text.specs.declared.node.Entry.{Entry}
use Rattle.monotone.proofs.ListLemmas.{Contains-first, Contains-later, Contains-nothing, Contains-split}
use Rattle.transposition.specs.Bounded.{SameEntries}
use Rattle.transposition.specs.declared.verdict.Verdict.{Verdict}
use Rattle.transposition.specs.declared.verdict.Verdict.TheVariants.{Algorithm, Held}
use Rattle.minimax.specs.State.{KeepsReply, PutsOnly}
use Rattle.minimax.specs.Serving.{AreServed, IsBehind, IsEntryServed, IsServed, IsServedBy, KeepsServing, Serving, led_to}
use Rattle.minimax.specs.declared.expanding.Search.{Search}
use Rattle.minimax.specs.declared.finish_nodes.TheConstants.{FINISHES}
use Rattle.minimax.specs.declared.replies.Reply.{Reply}

-- ---- one step after another

pub IsBehind-less : (space : Space) (more less : ℕ) (unnamed : List Position) (s : Search) (entries : List (Position × Verdict)) → less ≤ more
    → IsBehind space more unnamed s entries → IsBehind space less unnamed s entries
IsBehind-less space more less unnamed s entries l b = (omega (arith, l, b.0), b.1)

pub Serving-refl : (space : Space) (spare : ℕ) (unnamed : List Position) (s : Search) (entries : List (Position × Verdict)) (More : List Position → Type 0)
    → IsBehind space spare unnamed s entries → More unnamed → Serving space spare unnamed s s entries More
Serving-refl space spare unnamed s entries More b m = record { later = unnamed; behind = b; keeps = λ p h. h; more = m }

pub KeepsServing-then : (space : Space) (a b took : ℕ) (s0 s1 s2 : Search) (e0 e1 e2 : List (Position × Verdict)) (M N : List Position → Type 0) → a + b ≡ took
    → KeepsServing space a s0 e0 s1 e1 M → KeepsServing space b s1 e1 s2 e2 N → KeepsServing space took s0 e0 s2 e2 N
KeepsServing-then space a b took s0 s1 s2 e0 e1 e2 M N e f g spare unnamed behind =
    let first = f (b + spare) unnamed (IsBehind-less space (took + spare) (a + (b + spare)) unnamed s0 e0 (omega (arith, e)) behind) in
    let second = g spare first.later first.behind in
    record { later = second.later; behind = second.behind; keeps = λ p h. second.keeps p (first.keeps p h); more = second.more }

pub KeepsServing-weaker : (space : Space) (took : ℕ) (s0 s1 : Search) (e0 e1 : List (Position × Verdict)) (M N : List Position → Type 0)
    → ((later : List Position) → M later → N later) → KeepsServing space took s0 e0 s1 e1 M → KeepsServing space took s0 e0 s1 e1 N
KeepsServing-weaker space took s0 s1 e0 e1 M N w f spare unnamed behind =
    let h = f spare unnamed behind in
    record { later = h.later; behind = h.behind; keeps = h.keeps; more = w h.later h.more }

-- there are so many visits left over still
pub spare_after : (space : Space) (spare took : ℕ) (s0 s1 : Search) (e0 e1 : List (Position × Verdict)) (M : List Position → Type 0)
    → KeepsServing space took s0 e0 s1 e1 M → (h : (unnamed : List Position) × IsBehind space (took + spare) unnamed s0 e0)
    → (unnamed : List Position) × IsBehind space spare unnamed s1 e1
spare_after space spare took s0 s1 e0 e1 M f h =
    let next = f spare h.0 h.1 in (next.later, next.behind)

-- ---- a longer list

-- what was served still is, so also by a verdict
pub served_still : (space : Space) (before later : List Position) (position : Position) (verdict : Verdict)
    → ((p : Position) → IsServed before p → IsServed later p) → IsServedBy space before position verdict → IsServedBy space later position verdict
served_still space before later position verdict keeps h =
    (λ e. keeps position (h.0 e), λ k e size allowed may load first finishes. keeps (after position load size) (h.1 k e size allowed may load first finishes))

pub AreServed-still : (space : Space) (before later : List Position) (replies : List Reply) (entries : List (Position × Verdict))
    → ((p : Position) → IsServed before p → IsServed later p) → AreServed space before replies entries → AreServed space later replies entries
AreServed-still space before later replies entries keeps a = record {
  known = λ p v told. served_still space before later p v keeps (a.known p v told);
  replied = λ reply c. All-weaker (IsEntryServed before reply.position) (IsEntryServed later reply.position) (λ e h f. keeps (led_to reply.position e) (h f))
      reply.entries.items (a.replied reply c);
}

-- ---- the table

-- the table was asked
pub AreServed-same : (space : Space) (unnamed : List Position) (replies : List Reply) (old new : List (Position × Verdict)) → SameEntries are_equal old new
    → AreServed space unnamed replies old → AreServed space unnamed replies new
AreServed-same space unnamed replies old new same a = record { known = λ p v told. a.known p v (sym (same.values p) ∙ told); replied = a.replied }

-- a verdict was put
pub AreServed-put : (space : Space) (unnamed : List Position) (replies : List Reply) (old new : List (Position × Verdict)) (position : Position) (verdict : Verdict)
    → PutsOnly old new position verdict → IsServedBy space unnamed position verdict → AreServed space unnamed replies old → AreServed space unnamed replies new
AreServed-put space unnamed replies old new position verdict puts served a = record {
  known = λ p v told. elim (puts p v told) [
    | inl (e, w) ↦ subst (λ q. IsServedBy space unnamed q v) (sym e) (subst (IsServedBy space unnamed position) (sym w) served)
    | inr before ↦ a.known p v before
  ];
  replied = a.replied;
}

-- a position that finishes takes the visit that is left over
pub serves_finish : (space : Space) (spare : ℕ) (unnamed : List Position) (s : Search) (old new : List (Position × Verdict)) (position : Position)
    → PutsOnly old new position (Algorithm FINISHES) → IsBehind space (1 + spare) unnamed s old
    → Serving space spare unnamed s s new (λ later. IsServedBy space later position (Algorithm FINISHES))
serves_finish space spare unnamed s old new position puts b =
    let keeps : (p : Position) → IsServed unnamed p → IsServed (position ∷ unnamed) p = λ p c. Contains-later position unnamed p c in
    let served : IsServedBy space (position ∷ unnamed) position (Algorithm FINISHES) =
    (λ e. Contains-first position unnamed, λ k e. absurd (let no : Algorithm FINISHES ≡ Held k = e in cc)) in
    record {
      later = position ∷ unnamed;
      behind = (
        omega (arith, b.0),
        AreServed-put space (position ∷ unnamed) s.replies old new position (Algorithm FINISHES) puts served
            (AreServed-still space unnamed (position ∷ unnamed) s.replies old keeps b.1),
      );
      keeps = keeps;
      more = served;
    }

-- ---- replies

-- an element of a list with one more
pub Contains-pushed : {X : Type 0} (xs : List X) (x y : X) → Contains (xs ++ x ∷ []) y → (x ≡ y) ⊎ Contains xs y
Contains-pushed [] x y c = ⊎_elim (λ e. inl e) (λ none. absurd (Contains-nothing y none)) (Contains-split x [] y c)
Contains-pushed (z ∷ zs) x y c = elim (Contains-split z (zs ++ x ∷ []) y c) [
  | inl e ↦ inr (subst (Contains (z ∷ zs)) e (Contains-first z zs))
  | inr later ↦ ⊎_elim (λ e. inl e) (λ there. inr (Contains-later z zs y there)) (Contains-pushed zs x y later)
]

-- replies whose entries are served were kept
pub AreServed-reply : (space : Space) (unnamed : List Position) (replies more : List Reply) (told : List (Position × Verdict)) (position : Position)
    (entries : List Entry) (number : ℕ) → KeepsReply replies more position entries number → All (IsEntryServed unnamed position) entries
    → AreServed space unnamed replies told → AreServed space unnamed more told
AreServed-reply space unnamed replies more told position entries number k each a = record {
  known = a.known;
  replied = λ reply c. elim (Contains-pushed replies k.reply reply (subst (λ xs. Contains xs reply) k.list c)) [
    | inl e ↦ subst (λ (r : Reply). All (IsEntryServed unnamed r.position) r.entries.items) e
        (subst (λ p. All (IsEntryServed unnamed p) k.reply.entries.items) (sym k.stands) (subst (All (IsEntryServed unnamed position)) (sym k.kept) each))
    | inr before ↦ a.replied reply before
  ];
}
