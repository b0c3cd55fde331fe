-- The sizes that are at most the room, in ascending order, and what it is to reply to each of them.
use Rattle.std.proofs.Common.{◌≡◌, ℕ, zero, suc, ◌+◌, ◌<◌, ◌≤◌, List, [], ◌∷◌, ◌++◌, cond, length, get_or}
use Rattle.std.proofs.Common.{refl, sym, ap, ◌∙◌, subst, arith, inl, inr}
use Rattle.std.specs.Prelude.{All, Contains, slice_index, slice_get, Some}
use Rattle.std.proofs.lemmas.Bool.{cases_eq, cases_lt, lt-ltb, le-ltb}
use Rattle.std.proofs.lemmas.List.{get_or_append_left, get_or_at, get_or-map, length-append, length-map, append-nil}
use Rattle.std.proofs.lemmas.List.Elements.{All-contains, Contains-get_or, Contains-append_left, Contains-append_right, Contains-append_cases}
use Rattle.items.specs.Game.{GameNumbers}
use Rattle.items.specs.Multiset.{count, IsSize}
use Rattle.items.specs.Packable.{IsRoom}
use Rattle.items.proofs.MemberLemmas.{Contains-cons, Contains-here, Contains-tail, Contains-nil, Contains-from_count, count_above_zero}
use Rattle.packing_witness.proofs.PackingLemmas.{le_room, Packable-from_room, size_of_last}
use Rattle.strategy_text.specs.declared.node.Act.{Act}
use Rattle.strategy_text.specs.declared.node.Act.TheVariants.{Finish, Big, Reply}
use Rattle.strategy_text.specs.declared.node.AlgNode.{AlgNode}
use Rattle.strategy_text.specs.declared.node.Entry.{Entry}
use Rattle.algorithm_graph.specs.Nodes.{entries_of}
use Rattle.algorithm_graph.specs.Rules.{IsStrictlyAscending, ReplyToEach, RepliesIfSaid}
use Rattle.algorithm_graph.specs.Judging.{sizes_in, if_one_of, sizes_up_to, HaveRoom, HasSize}

-- one size, where it is one of the sizes and where it is not
pub if_one_of_yes : (sizes : List ℕ) (size : ℕ) → Contains sizes size → if_one_of sizes size ≡ size ∷ []
if_one_of_yes sizes size h = ap (λ b. cond b (size ∷ []) []) (lt-ltb 0 (count size sizes) (count_above_zero size sizes h))

if_one_of_none : (sizes : List ℕ) (size : ℕ) → count size sizes ≤ 0 → if_one_of sizes size ≡ []
if_one_of_none sizes size h = ap (λ b. cond b (size ∷ []) []) (le-ltb 0 (count size sizes) h)

pub if_one_of_no : (sizes : List ℕ) (size : ℕ) → ¬ Contains sizes size → if_one_of sizes size ≡ []
if_one_of_no sizes size n = elim (cases_lt 0 (count size sizes)) [
  | inl l ↦ absurd (n (Contains-from_count size sizes l))
  | inr l ↦ if_one_of_none sizes size l
]

Contains-one : (y x : ℕ) → Contains (y ∷ []) x → x ≡ y
Contains-one y x (zero, l, e) = sym e
Contains-one y x (suc k, l, e) = absurd (omega (arith, l))

Contains-if_one_of : (sizes : List ℕ) (size x : ℕ) → Contains (if_one_of sizes size) x → Contains sizes size × (x ≡ size)
Contains-if_one_of sizes size x h = elim (cases_lt 0 (count size sizes)) [
  | inl l ↦
      let c = Contains-from_count size sizes l in
      (c, Contains-one size x (subst (λ (xs : List ℕ). Contains xs x) (if_one_of_yes sizes size c) h))
  | inr l ↦ absurd (Contains-nil x (subst (λ (xs : List ℕ). Contains xs x) (if_one_of_none sizes size l) h))
]

-- the members of the sizes that are at most so large
pub size_up_to : (sizes : List ℕ) (n x : ℕ) → Contains (sizes_up_to sizes n) x → Contains sizes x × (1 ≤ x) × (x ≤ n)
unfolding sizes_up_to
size_up_to sizes zero x h = absurd (Contains-nil x h)
size_up_to sizes (suc n) x h = elim (Contains-append_cases (sizes_up_to sizes n) (if_one_of sizes (suc n)) x h) [
  | inl c ↦ let r = size_up_to sizes n x c in (r.0, r.1, omega (arith, r.2))
  | inr c ↦
      let r = Contains-if_one_of sizes (suc n) x c in
      (subst (λ z. Contains sizes z) (sym r.1) r.0, omega (arith, r.1), omega (arith, r.1))
]

pub Contains-sizes_up_to : (sizes : List ℕ) (n x : ℕ) → Contains sizes x → 1 ≤ x → x ≤ n → Contains (sizes_up_to sizes n) x
unfolding sizes_up_to
Contains-sizes_up_to sizes zero x c low high = absurd (omega arith)
Contains-sizes_up_to sizes (suc n) x c low high = elim (cases_eq x (suc n)) [
  | inl e ↦
      let here : Contains (suc n ∷ []) x = subst (λ z. Contains (suc n ∷ []) z) (sym e) (Contains-here (suc n) []) in
      let one = if_one_of_yes sizes (suc n) (subst (λ z. Contains sizes z) e c) in
      Contains-append_right (sizes_up_to sizes n) (if_one_of sizes (suc n)) x (subst (λ (xs : List ℕ). Contains xs x) (sym one) here)
  | inr ne ↦ Contains-append_left (sizes_up_to sizes n) (if_one_of sizes (suc n)) x (Contains-sizes_up_to sizes n x c low (omega arith))
]

-- their order
IsStrictlyAscending-push : (xs : List ℕ) (x : ℕ) → ((z : ℕ) → Contains xs z → z < x) → IsStrictlyAscending xs → IsStrictlyAscending (xs ++ x ∷ [])
IsStrictlyAscending-push xs x below h k l = elim (cases_lt (k + 1) (length xs)) [
  | inl m ↦ omega (arith, get_or_append_left xs (x ∷ []) 0 k (omega arith), get_or_append_left xs (x ∷ []) 0 (k + 1) m, h k m)
  | inr m ↦
      let e : length xs ≡ k + 1 = omega (arith, l, m, length-append xs (x ∷ [])) in
      let inside : k < length xs = omega arith in
      let b = below (get_or xs k 0) (Contains-get_or xs k 0 inside) in
      omega (arith, get_or_append_left xs (x ∷ []) 0 k inside, get_or_at xs x [] 0 (k + 1) e, b)
]

pub IsStrictlyAscending-sizes_up_to : (sizes : List ℕ) (n : ℕ) → IsStrictlyAscending (sizes_up_to sizes n)
unfolding sizes_up_to
IsStrictlyAscending-sizes_up_to sizes zero = λ k l. absurd (omega (arith, l))
IsStrictlyAscending-sizes_up_to sizes (suc n) = elim (cases_lt 0 (count (suc n) sizes)) [
  | inl l ↦
      let one = if_one_of_yes sizes (suc n) (Contains-from_count (suc n) sizes l) in
      let above : (z : ℕ) → Contains (sizes_up_to sizes n) z → z < suc n = λ z c. let r = size_up_to sizes n z c in omega (arith, r.2) in
      subst (λ (ys : List ℕ). IsStrictlyAscending (sizes_up_to sizes n ++ ys)) (sym one)
      (IsStrictlyAscending-push (sizes_up_to sizes n) (suc n) above (IsStrictlyAscending-sizes_up_to sizes n))
  | inr l ↦
      subst (λ (ys : List ℕ). IsStrictlyAscending (sizes_up_to sizes n ++ ys)) (sym (if_one_of_none sizes (suc n) l))
      (subst IsStrictlyAscending (sym (append-nil (sizes_up_to sizes n))) (IsStrictlyAscending-sizes_up_to sizes n))
]

-- each number is greater than the one before it, and the first is at least low
abbrev ClimbsFrom : ℕ → List ℕ → Type 0
ClimbsFrom low [] = Unit {0}
ClimbsFrom low (x ∷ xs) = (low ≤ x) × ClimbsFrom (x + 1) xs

climbs : (low : ℕ) (xs : List ℕ) → (0 < length xs → low ≤ slice_index xs 0) → IsStrictlyAscending xs → ClimbsFrom low xs
climbs low [] f h = tt
climbs low (x ∷ xs) f h = (
  f (omega arith),
  climbs (x + 1) xs (λ l. let e = h 0 (omega (arith, l)) in omega (arith, e))
      (λ k l. let e : suc k + 1 ≡ suc (k + 1) = omega arith in rw e at (h (suc k) (omega (arith, l)))),
)

climbs_bound : (low : ℕ) (xs : List ℕ) (x : ℕ) → ClimbsFrom low xs → Contains xs x → low ≤ x
climbs_bound low [] x r c = absurd (Contains-nil x c)
climbs_bound low (y ∷ ys) x r c = elim (cases_eq x y) [
  | inl e ↦ omega (arith, e, r.0)
  | inr n ↦ let h = climbs_bound (y + 1) ys x r.1 (Contains-tail x y ys n c) in omega (arith, h, r.0)
]

first_bound : (low y : ℕ) (ys : List ℕ) (x : ℕ) → ClimbsFrom low (y ∷ ys) → Contains (y ∷ ys) x → y ≤ x
first_bound low y ys x r c = elim (cases_eq x y) [
  | inl e ↦ omega (arith, e)
  | inr n ↦ let h = climbs_bound (y + 1) ys x r.1 (Contains-tail x y ys n c) in omega (arith, h)
]

-- lists that climb and have the same members are equal
same_members : (low : ℕ) (xs ys : List ℕ) → ClimbsFrom low xs → ClimbsFrom low ys
    → ((x : ℕ) → Contains xs x → Contains ys x) → ((x : ℕ) → Contains ys x → Contains xs x) → xs ≡ ys
same_members low [] [] r q f g = refl
same_members low [] (y ∷ ys) r q f g = absurd (Contains-nil y (g y (Contains-here y ys)))
same_members low (x ∷ xs) [] r q f g = absurd (Contains-nil x (f x (Contains-here x xs)))
same_members low (x ∷ xs) (y ∷ ys) r q f g =
    let a = first_bound low y ys x q (f x (Contains-here x xs)) in
    let b = first_bound low x xs y r (g y (Contains-here y ys)) in
    let e : x ≡ y = omega (arith, a, b) in
    let later : (z : ℕ) → Contains xs z → Contains ys z = λ z c.
    let m = climbs_bound (x + 1) xs z r.1 c in
    Contains-tail z y ys (λ s. omega (arith, s, m, e)) (f z (Contains-cons z x xs c)) in
    let earlier : (z : ℕ) → Contains ys z → Contains xs z = λ z c.
    let m = climbs_bound (y + 1) ys z q.1 c in
    Contains-tail z x xs (λ s. omega (arith, s, m, e)) (g z (Contains-cons z y ys c)) in
    ap (λ v. v ∷ xs) e
    ∙ ap (λ (vs : List ℕ). y ∷ vs) (same_members (x + 1) xs ys r.1 (subst (λ v. ClimbsFrom (v + 1) ys) (sym e) q.1) later earlier)

-- the room tells which sizes may come
pub HaveRoom-from_room : (game : GameNumbers) (items : List ℕ) (room : ℕ) → IsRoom game items room → HaveRoom game items room
HaveRoom-from_room game items room r size =
    (λ p. ((size_of_last game items size p).low, le_room game items room size r p), λ h. Packable-from_room game items room size r h.0 h.1)

-- entries reply to each size that may come exactly where their sizes are those that are at most the room
pub replies_from_sizes : (game : GameNumbers) (sizes items : List ℕ) (entries : List Entry) (room : ℕ) → HaveRoom game items room
    → sizes_in entries ≡ sizes_up_to sizes room → ReplyToEach game sizes items entries
replies_from_sizes game sizes items entries room law e = record {
  ascending = subst IsStrictlyAscending (sym e) (IsStrictlyAscending-sizes_up_to sizes room);
  exact = λ size. (
    λ c. let r = size_up_to sizes room size (subst (λ (xs : List ℕ). Contains xs size) e c) in (r.0, (law size).1 (r.1, r.2)),
    λ h. let r = (law size).0 h.1 in subst (λ (xs : List ℕ). Contains xs size) (sym e) (Contains-sizes_up_to sizes room size h.0 r.0 r.1),
  );
}

pub sizes_from_replies : (game : GameNumbers) (sizes items : List ℕ) (entries : List Entry) (room : ℕ) → HaveRoom game items room
    → ReplyToEach game sizes items entries → sizes_in entries ≡ sizes_up_to sizes room
sizes_from_replies game sizes items entries room law r =
    same_members 0 (sizes_in entries) (sizes_up_to sizes room) (climbs 0 (sizes_in entries) (λ _. omega arith) r.ascending)
    (climbs 0 (sizes_up_to sizes room) (λ _. omega arith) (IsStrictlyAscending-sizes_up_to sizes room))
    (λ x c. let p = (r.exact x).0 c in let q = (law x).0 p.1 in Contains-sizes_up_to sizes room x p.0 q.0 q.1)
    (λ x c. let m = size_up_to sizes room x c in (r.exact x).1 (m.0, (law x).1 (m.1, m.2)))

-- the size at a place
pub size_at : (entries : List Entry) (place : ℕ) (d : Entry) → place < length entries → get_or (sizes_in entries) place 0 ≡ (get_or entries place d).size
size_at entries place d l = get_or-map (λ (entry : Entry). entry.size) entries place d 0 l

pub sizes_length : (entries : List Entry) → length (sizes_in entries) ≡ length entries
sizes_length entries = length-map entries (λ entry. entry.size)

-- the entries of a node that replies to each size that may come have sizes of the game
pub entries_have_sizes : (game : GameNumbers) (sizes items : List ℕ) (entries : List Entry) → All (IsSize game.capacity) sizes
    → ReplyToEach game sizes items entries → All (HasSize game) entries
entries_have_sizes game sizes items entries all r = λ k d l.
    let size = (get_or entries k d).size in
    let within : k < length (sizes_in entries) = omega (arith, sizes_length entries, l) in
    let c : Contains (sizes_in entries) size = subst (λ v. Contains (sizes_in entries) v) (size_at entries k d l) (Contains-get_or (sizes_in entries) k 0 within) in
    All-contains (IsSize game.capacity) sizes size all ((r.exact size).0 c).0

pub entries_of_have_sizes : (game : GameNumbers) (sizes : List ℕ) (node : AlgNode) (act : Act) → All (IsSize game.capacity) sizes
    → RepliesIfSaid game sizes node act → All (HasSize game) (entries_of act)
entries_of_have_sizes game sizes node Finish all r = λ k d l. absurd (omega (arith, l))
entries_of_have_sizes game sizes node (Big b) all r = λ k d l. absurd (omega (arith, l))
entries_of_have_sizes game sizes node (Reply entries) all r = entries_have_sizes game sizes node.items entries all r

-- a size stands after the smaller ones
slice_get_after : (xs : List ℕ) (x : ℕ) → slice_get (xs ++ x ∷ []) (length xs) ≡ Some x
slice_get_after [] x = refl
slice_get_after (y ∷ ys) x = slice_get_after ys x

slice_get_left : (xs ys : List ℕ) (i x : ℕ) → slice_get xs i ≡ Some x → slice_get (xs ++ ys) i ≡ Some x
slice_get_left [] ys i x h = absurd (cc)
slice_get_left (z ∷ zs) ys zero x h = h
slice_get_left (z ∷ zs) ys (suc i) x h = slice_get_left zs ys i x h

pub size_after_smaller : (sizes : List ℕ) (k room : ℕ) → k < room → Contains sizes (k + 1)
    → slice_get (sizes_up_to sizes room) (length (sizes_up_to sizes k)) ≡ Some (k + 1)
unfolding sizes_up_to
size_after_smaller sizes k zero l c = absurd (omega (arith, l))
size_after_smaller sizes k (suc n) l c = elim (cases_eq k n) [
  | inl e ↦
      let next : k + 1 ≡ suc n = omega (arith, e) in
      let one = if_one_of_yes sizes (suc n) (subst (λ z. Contains sizes z) next c) in
      subst (λ z. slice_get (sizes_up_to sizes (suc n)) (length (sizes_up_to sizes k)) ≡ Some z) (sym next)
      (subst (λ z. slice_get (sizes_up_to sizes (suc n)) (length (sizes_up_to sizes z)) ≡ Some (suc n)) (sym e)
      (subst (λ (ys : List ℕ). slice_get (sizes_up_to sizes n ++ ys) (length (sizes_up_to sizes n)) ≡ Some (suc n)) (sym one)
      (slice_get_after (sizes_up_to sizes n) (suc n))))
  | inr ne ↦
      slice_get_left (sizes_up_to sizes n) (if_one_of sizes (suc n)) (length (sizes_up_to sizes k)) (k + 1)
      (size_after_smaller sizes k n (omega (arith, l)) c)
]

-- the sizes up to the next one
pub sizes_up_to_next : (sizes : List ℕ) (n k : ℕ) → n ≡ k + 1 → sizes_up_to sizes n ≡ sizes_up_to sizes k ++ if_one_of sizes n
unfolding sizes_up_to
sizes_up_to_next sizes n k e =
    let next : n ≡ suc k = omega (arith, e) in
    subst (λ z. sizes_up_to sizes z ≡ sizes_up_to sizes k ++ if_one_of sizes z) (sym next) refl

pub sizes_up_to_zero : (sizes : List ℕ) → sizes_up_to sizes 0 ≡ []
unfolding sizes_up_to
sizes_up_to_zero sizes = refl
