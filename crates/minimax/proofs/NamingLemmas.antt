-- The nodes to which replies lead, and those of positions that finish, which are put where a reply leads to them.
use Rattle.std.proofs.Common.{◌≡◌, ◌↔◌, ℕ, ◌+◌, ◌<◌, ◌≤◌, ◌⊎◌, Bool, true, false, Option, Some, List, [], ◌∷◌, ◌++◌, length, map, take, get_or}
use Rattle.std.proofs.Common.{refl, sym, ap, ◌∙◌, subst, inl, inr, ⊎_elim, arith}
use Rattle.std.specs.Prelude.{All, Contains, Err, IfOk, IsSome, Ok, Result, if◌then◌else◌}
use Rattle.std.specs.declared.alloc.AllocError.{AllocError}
use Rattle.std.proofs.lemmas.List.{length_push, map-append, take_more}
use Rattle.std.proofs.lemmas.List.Elements.{All-push, All-weaker, All-contains}
use Rattle.minimax.specs.declared.space.Space.{Space}
use Rattle.loads.specs.After.{after}
use Rattle.loads.specs.Descending.{IsStrictlyDescending}
use Rattle.loads.specs.Position.{are_equal}
use Rattle.loads.specs.Position.{StandsAt}
use Rattle.loads.specs.declared.position.Position.{Position}
use Rattle.strategy_text.specs.declared.node.Entry.{Entry}
use Rattle.algorithm_graph.specs.Nodes as algorithm
use Rattle.monotone.proofs.ListLemmas.{Contains-first, Contains-later, Contains-nothing, Contains-split}
use Rattle.minimax.specs.Naming.{AreNumbered, HasReplies, IsEntryPlaced, IsNamed, IsPlaced, LeavesRoom, MayName, MayNameAll, Names, NamesAll, NamesNew}
use Rattle.minimax.specs.Naming.{Numbers, PutsNamed, none_named, number_of, one_named}
use Rattle.minimax.specs.Serving.{led_to}
use Rattle.node_pool.specs.Pools.{terms_in}
use Rattle.minimax.specs.State.{AreOfSizes, GoesOn, IsPending, IsReply, PutsReply}
use Rattle.minimax.specs.declared.replies.Reply.{Reply}
use Rattle.minimax.specs.declared.writing.Written.{Written}
use Rattle.minimax.proofs.FreshLemmas.{are_equal-told, equal_positions}
use Rattle.minimax.proofs.PlayableLemmas.{IsPlayable-after}
use Rattle.minimax.proofs.StateLemmas.{GoesOn-refl, IsPlain-same, GoesOn-trans, IsReply-goes, StandsAt-goes, StandsAt-last}

-- what stays where nodes that finish are put
pub record Stays (before next : Written) : Type 0 where
  pub nodes : GoesOn before.pool.nodes next.pool.nodes
  pub of_game : next.pool.game ≡ before.pool.game
  pub of_terms : terms_in next.pool ≡ terms_in before.pool
  pub numbers : next.numbers ≡ before.numbers

pub Stays-refl : (w : Written) → Stays w w
Stays-refl w = record { nodes = GoesOn-refl w.pool.nodes; of_game = refl; of_terms = refl; numbers = refl }

pub Stays-names : (w next : Written) (position : Position) (number : ℕ) → Names w next position number → Stays w next
Stays-names w next position number (inl (e, told)) = subst (Stays w) (sym e) (Stays-refl w)
Stays-names w next position number (inr new) = record {
  nodes = (new.puts.node ∷ [], ap (λ p. p.nodes) new.puts.pool);
  of_game = ap (λ p. p.game) new.puts.pool;
  of_terms = ap (λ p. terms_in p) new.puts.pool;
  numbers = ap (λ (t : Written). t.numbers) new.same;
}

pub Stays-trans : (a b c : Written) → Stays a b → Stays b c → Stays a c
Stays-trans a b c g h = record {
  nodes = GoesOn-trans a.pool.nodes b.pool.nodes c.pool.nodes g.nodes h.nodes;
  of_game = h.of_game ∙ g.of_game;
  of_terms = h.of_terms ∙ g.of_terms;
  numbers = h.numbers ∙ g.numbers;
}

pub Stays-all : (space : Space) (position : Position) (entries : List Entry) (w next : Written) → NamesAll space position entries w next → Stays w next
Stays-all space position entries w next (none_named t) = Stays-refl t
Stays-all space position entries w next (one_named start middle end entry number all c e names) =
    Stays-trans w middle next (Stays-all space position entries w middle all) (Stays-names middle next (led_to position entry) number names)

pub Stays-numbers : (w next : Written) (position : Position) (told number : ℕ) → Numbers w next position told number → Stays w next
Stays-numbers w next position told number (inl (e, h)) = subst (Stays w) (sym e) (Stays-refl w)
Stays-numbers w next position told number (inr (e, names)) = Stays-names w next position number names

pub HasReplies-stays : (space : Space) (w next : Written) → Stays w next → HasReplies space w → HasReplies space next
HasReplies-stays space w next s h = record { of_game = s.of_game ∙ h.of_game; of_format = IsPlain-same space w.pool next.pool s.of_terms h.of_format }

pub AreNumbered-stays : (earlier : List Reply) (w next : Written) → Stays w next → AreNumbered earlier w → AreNumbered earlier next
AreNumbered-stays earlier w next s n = record {
  one_each = ap (λ v. length v.items) s.numbers ∙ n.one_each;
  stand = λ k p h. subst (λ v. StandsAt (map algorithm.position_of next.pool.nodes) (get_or v.items k 0) p) (sym s.numbers)
      (StandsAt-goes algorithm.position_of w.pool.nodes next.pool.nodes (get_or w.numbers.items k 0) p s.nodes (n.stand k p h));
}

-- ---- the number stands at the position

pub names_stand : (w next : Written) (position : Position) (number limit spare : ℕ) (unnamed : List Position) → Names w next position number
    → LeavesRoom limit spare unnamed w → StandsAt (map algorithm.position_of next.pool.nodes) number position
names_stand w next position number limit spare unnamed (inl (e, told)) room =
    subst (λ (t : Written). StandsAt (map algorithm.position_of t.pool.nodes) number position) (sym e) (room.named position number told)
names_stand w next position number limit spare unnamed (inr new) room =
    StandsAt-last algorithm.position_of w.pool.nodes next.pool.nodes new.puts.node number position (ap (λ p. p.nodes) new.puts.pool) new.puts.is_last
    new.puts.stands

pub numbers_stand : (w next : Written) (position : Position) (told number limit spare : ℕ) (unnamed : List Position) → Numbers w next position told number
    → LeavesRoom limit spare unnamed w → StandsAt (map algorithm.position_of next.pool.nodes) number position
numbers_stand w next position told number limit spare unnamed (inl (e, h)) room =
    subst (λ (t : Written). StandsAt (map algorithm.position_of t.pool.nodes) number position) (sym e) h
numbers_stand w next position told number limit spare unnamed (inr (e, names)) room = names_stand w next position number limit spare unnamed names room

-- ---- the list of positions without a node

-- a list without an element that it has
record IsWithout (xs : List Position) (x : Position) (ys : List Position) : Type 0 where
  one_less : length ys + 1 ≡ length xs
  others : (y : Position) → Contains xs y → (x ≡ y) ⊎ Contains ys y

without : (xs : List Position) (x : Position) → Contains xs x → (ys : List Position) × IsWithout xs x ys
without [] x c = absurd (Contains-nothing x c)
without (z ∷ zs) x c = elim (Contains-split z zs x c) [
  | inl e ↦ (
    zs,
    record {
      one_less = omega arith;
      others = λ y d. ⊎_elim (λ same. inl (sym e ∙ same)) (λ later. inr later) (Contains-split z zs y d);
    },
  )
  | inr later ↦
      let r = without zs x later in (
        z ∷ r.0,
        record {
          one_less = omega (arith, r.1.one_less);
          others = λ y d. elim (Contains-split z zs y d) [
            | inl same ↦ inr (subst (Contains (z ∷ r.0)) same (Contains-first z r.0))
            | inr rest ↦ ⊎_elim (λ e. inl e) (λ there. inr (Contains-later z r.0 y there)) (r.1.others y rest)
          ];
        },
      )
]

-- the nodes that may be put still, after a step: those of another list, which with the nodes has all that the first had
pub record Leaves (limit spare : ℕ) (unnamed : List Position) (w next : Written) : Type 0 where
  pub left : List Position
  pub room : LeavesRoom limit spare left next
  pub keeps : (p : Position) → IsPlaced unnamed w p → IsPlaced left next p

pub Leaves-refl : (limit spare : ℕ) (unnamed : List Position) (w : Written) → LeavesRoom limit spare unnamed w → Leaves limit spare unnamed w w
Leaves-refl limit spare unnamed w room = record { left = unnamed; room = room; keeps = λ p h. h }

module _ (w next : Written) (position : Position) (number : ℕ) (new : NamesNew w next position number) where
  nodes : next.pool.nodes ≡ w.pool.nodes ++ new.puts.node ∷ []
  nodes = ap (λ p. p.nodes) new.puts.pool

  number_stands : (p : Position) (k : ℕ) (b : Bool) (o : Option ℕ) → are_equal position p ≡ b → (if b then Some number else o) ≡ Some k
      → (o ≡ Some k → StandsAt (map algorithm.position_of w.pool.nodes) k p) → StandsAt (map algorithm.position_of next.pool.nodes) k p
  number_stands p k true o same told before =
      let equal : k ≡ number = cc in
      StandsAt-last algorithm.position_of w.pool.nodes next.pool.nodes new.puts.node k p nodes (equal ∙ new.puts.is_last)
      (new.puts.stands ∙ are_equal-told position p same)
  number_stands p k false o same told before =
      StandsAt-goes algorithm.position_of w.pool.nodes next.pool.nodes k p (new.puts.node ∷ [], nodes) (before told)

  some_with : (b : Bool) (o : Option ℕ) → IsSome o → IsSome (if b then Some number else o)
  some_with true o h = refl
  some_with false o h = h

  some_here : (p : Position) → position ≡ p → IsSome (number_of next.finishes p)
  some_here p e =
      let equal : are_equal position p ≡ true = subst (λ q. are_equal position q ≡ true) e (equal_positions.refl position) in
      subst IsSome (sym (new.numbers p ∙ ap (λ b. if b then Some number else number_of w.finishes p) equal)) refl

  not_named : (unnamed : List Position) → IsPlaced unnamed w position → Contains unnamed position
  not_named unnamed (inl c) = c
  not_named unnamed (inr some) = let no : false ≡ true = subst IsSome new.none some in cc

  leaves_new : (limit spare : ℕ) (unnamed : List Position) → LeavesRoom limit spare unnamed w → IsPlaced unnamed w position → Leaves limit spare unnamed w next
  leaves_new limit spare unnamed room placed =
      let r = without unnamed position (not_named unnamed placed) in record {
        left = r.0;
        room = record {
          few = omega (arith, room.few, r.1.one_less, ap length nodes, length_push w.pool.nodes new.puts.node);
          named = λ p k told. number_stands p k (are_equal position p) (number_of w.finishes p) refl (sym (new.numbers p) ∙ told) (room.named p k);
        };
        keeps = λ p h. ⊎_elim
            (λ c. ⊎_elim (λ e. inr (some_here p e)) (λ there. inl there) (r.1.others p c))
            (λ some. inr (subst IsSome (sym (new.numbers p)) (some_with (are_equal position p) (number_of w.finishes p) some))) h;
      }

-- the position has a node after its number was told
pub leaves_number : (w next : Written) (position : Position) (number limit spare : ℕ) (unnamed : List Position) → Names w next position number
    → LeavesRoom limit spare unnamed w → IsPlaced unnamed w position → Leaves limit spare unnamed w next
leaves_number w next position number limit spare unnamed (inl (e, told)) room placed = subst (Leaves limit spare unnamed w) (sym e) (Leaves-refl limit spare unnamed w room)
leaves_number w next position number limit spare unnamed (inr new) room placed = leaves_new w next position number new limit spare unnamed room placed

-- where entries whose positions are placed were named, so is all that was
pub leaves_all : (space : Space) (position : Position) (entries : List Entry) (w next : Written) → NamesAll space position entries w next → (limit spare : ℕ)
    (unnamed : List Position) → LeavesRoom limit spare unnamed w → All (IsEntryPlaced unnamed w position) entries → Leaves limit spare unnamed w next
leaves_all space position entries w next (none_named t) limit spare unnamed room placed = Leaves-refl limit spare unnamed w room
leaves_all space position entries w next (one_named start middle end entry number all c e names) limit spare unnamed room placed =
    let first = leaves_all space position entries w middle all limit spare unnamed room placed in
    let here = first.keeps (led_to position entry) (All-contains (IsEntryPlaced unnamed w position) entries entry placed c e) in
    let second = leaves_number middle next (led_to position entry) number limit spare first.left names first.room here in
    record { left = second.left; room = second.room; keeps = λ p h. second.keeps p (first.keeps p h) }

-- ---- the entries of a position

-- entries with the same sizes
pub AreOfSizes-same : (space : Space) (above high : ℕ) (entries named : List Entry)
    → map (λ (entry : Entry). entry.size) named ≡ map (λ (entry : Entry). entry.size) entries → AreOfSizes space above high entries
    → AreOfSizes space above high named
AreOfSizes-same space above high entries named e of = record {
  descending = subst IsStrictlyDescending (sym e) of.descending;
  exact = λ size. subst (λ xs. Contains xs size ↔ (Contains space.sizes size × (above < size) × (size ≤ high))) (sym e) (of.exact size);
}

-- while entries get their numbers, each may get its own
pub may_name : (space : Space) (earlier : List Reply) (position : Position) (entries : List Entry) (entry : Entry) (w next : Written)
    → NamesAll space position entries w next → MayNameAll space earlier w position entries → Contains entries entry → MayName space earlier next position entry
may_name space earlier position entries entry w next all may c =
    let stays = Stays-all space position entries w next all in
    let left = leaves_all space position entries w next all may.limit 1 may.unnamed may.under may.placed in
    let pending = All-contains (IsPending space earlier position) entries entry may.pending c in
    record {
      playable = may.playable;
      pending = pending;
      number = record {
        replies = HasReplies-stays space w next stays may.replies;
        playable = IsPlayable-after space position entry.load entry.size may.playable pending.names.load pending.names.below pending.listed pending.may_come;
        led = pending.leads;
        numbered = AreNumbered-stays earlier w next stays may.numbered;
        few = may.few;
        room = λ e none. omega (arith, left.room.few, may.within);
      };
    }

-- an entry that got its number leads to a node
pub reply_named : (space : Space) (earlier : List Reply) (before later : Written) (position : Position) (entry named : Entry) (limit spare : ℕ)
    (unnamed : List Position) → IsPending space earlier position entry → LeavesRoom limit spare unnamed before → IsNamed before later position entry named
    → IsReply space.game later.pool.nodes position named
reply_named space earlier before later position entry named limit spare unnamed pending room is =
    let stands = numbers_stand before later (led_to position entry) entry.to named.to limit spare unnamed is.number room in
    record {
      names = record {
        load = subst (Contains position.loads) (sym is.load) pending.names.load;
        below = subst (λ l. l + named.size < space.game.target) (sym is.load) (subst (λ x. entry.load + x < space.game.target) (sym is.size) pending.names.below);
      };
      leads = subst (λ l. StandsAt (map algorithm.position_of later.pool.nodes) named.to (after position l named.size)) (sym is.load)
          (subst (λ x. StandsAt (map algorithm.position_of later.pool.nodes) named.to (after position entry.load x)) (sym is.size) stands);
    }

-- one more entry got its number
pub names_more : (space : Space) (position : Position) (entries : List Entry) (entry named : Entry) (w middle next : Written)
    → NamesAll space position entries w middle → Contains entries entry → IsNamed middle next position entry named → NamesAll space position entries w next
names_more space position entries entry named w middle next all c is = elim is.number [
  | inl (e, h) ↦ subst (NamesAll space position entries w) (sym e) all
  | inr (e, names) ↦ one_named w middle next entry named.to all c e names
]

pub sizes_named : (entries all more : List Entry) (entry named : Entry) (i : ℕ) → i < length entries → entry ≡ get_or entries i entry → named.size ≡ entry.size
    → more ≡ all ++ named ∷ [] → map (λ (entry : Entry). entry.size) all ≡ map (λ (entry : Entry). entry.size) (take i entries)
    → map (λ (entry : Entry). entry.size) more ≡ map (λ (entry : Entry). entry.size) (take (i + 1) entries)
sizes_named entries all more entry named i l at size is before =
    let size_of : Entry → ℕ = λ entry. entry.size in
    ap (map size_of) is ∙ map-append size_of all (named ∷ []) ∙ ap (λ xs. xs ++ named.size ∷ []) before
    ∙ ap (λ x. map size_of (take i entries) ++ x ∷ []) (size ∙ ap size_of at)
    ∙ sym (map-append size_of (take i entries) (get_or entries i entry ∷ [])) ∙ sym (ap (map size_of) (take_more entries i entry l))

pub replies_named : (space : Space) (w next : Written) (position : Position) (all more : List Entry) (entry named : Entry)
    → IsNamed w next position entry named → All (IsReply space.game w.pool.nodes position) all → IsReply space.game next.pool.nodes position named
    → more ≡ all ++ named ∷ [] → All (IsReply space.game next.pool.nodes position) more
replies_named space w next position all more entry named is each reply e =
    let stays = Stays-numbers w next (led_to position entry) entry.to named.to is.number in
    subst (All (IsReply space.game next.pool.nodes position)) (sym e)
    (All-push (IsReply space.game next.pool.nodes position) all named (All-weaker (IsReply space.game w.pool.nodes position)
    (IsReply space.game next.pool.nodes position) (λ one r. IsReply-goes space w.pool.nodes next.pool.nodes position one stays.nodes r) all each) reply)

-- the node that replies was put after those that finish
pub puts_named : (space : Space) (position : Position) (entries : List Entry) (w between next : Written) (result : Result ℕ AllocError)
    → NamesAll space position entries w between → next ≡ record between { pool = next.pool } → IfOk result (PutsReply between.pool next.pool position)
    → IfOk result (PutsNamed space w next position entries)
puts_named space position entries w between next (Ok number) all same puts = record { between = between; all = all; puts = puts; same = same }
puts_named space position entries w between next (Err error) all same puts = tt
