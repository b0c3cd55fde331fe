-- Assignments with one more item, and the totals of their bins.
use Rattle.std.proofs.Common.{◌≡◌, ℕ, ◌+◌, ◌<◌, ◌≤◌, eqb, List, [], ◌∷◌, ◌++◌, length, get_or, set, take, replicate, refl, sym, ap, ◌∙◌, subst, arith, inl, inr}
use Rattle.std.specs.Prelude.{All}
use Rattle.std.proofs.lemmas.Bool.{cases_eq, eq-eqb, ne_eqb, cond-true, cond-false}
use Rattle.std.proofs.lemmas.List.{ext_get_or, get_or-set_same, get_or-set_other, length-set, take_more, take_all, length_push, get_or-replicate, length-replicate}
use Rattle.std.proofs.lemmas.List.FromFn.{length-map-range_with_len, get_or-map-range_with_len}
use Rattle.std.proofs.lemmas.List.Elements.{All-push, All-cons, All-head, All-tail, All-nil}
use Rattle.items.specs.Game.{GameNumbers}
use Rattle.items.specs.Multiset.{IsSize}
use Rattle.items.specs.Packable.{IsAssignment, bin_total}
use Rattle.items.proofs.AssignmentLemmas.{bin_total-push}
use Rattle.reach_planes.specs.Reached.{totals}

-- the totals by bin number
pub length-totals : (game : GameNumbers) (items bins : List ℕ) → length (totals game items bins) ≡ game.bins
length-totals game items bins = length-map-range_with_len (λ bin. bin_total bin items bins) 0 game.bins

pub get_or-totals : (game : GameNumbers) (items bins : List ℕ) (bin d : ℕ) → bin < game.bins → get_or (totals game items bins) bin d ≡ bin_total bin items bins
get_or-totals game items bins bin d l = get_or-map-range_with_len (λ b. bin_total b items bins) 0 game.bins bin bin d l (omega arith)

-- one more item adds to the bin that it went to
pub bin_total-push_here : (bin size to : ℕ) (items bins : List ℕ) → length bins ≡ length items → bin ≡ to
    → bin_total bin (items ++ size ∷ []) (bins ++ to ∷ []) ≡ bin_total bin items bins + size
bin_total-push_here bin size to items bins e h = omega (arith, bin_total-push bin size to items bins e, cond-true (eqb bin to) size 0 (eq-eqb bin to h))

pub bin_total-push_other : (bin size to : ℕ) (items bins : List ℕ) → length bins ≡ length items → (bin ≡ to → ⊥)
    → bin_total bin (items ++ size ∷ []) (bins ++ to ∷ []) ≡ bin_total bin items bins
bin_total-push_other bin size to items bins e h = omega (arith, bin_total-push bin size to items bins e, cond-false (eqb bin to) size 0 (ne_eqb bin to h))

pub totals-push : (game : GameNumbers) (items bins : List ℕ) (size to : ℕ) → length bins ≡ length items → to < game.bins
    → totals game (items ++ size ∷ []) (bins ++ to ∷ []) ≡ set (totals game items bins) to (bin_total to items bins + size)
totals-push game items bins size to e l =
    let n = length-totals game items bins in
    let m = length-totals game (items ++ size ∷ []) (bins ++ to ∷ []) in
    ext_get_or 0 _ _ (m ∙ sym (length-set (totals game items bins) to (bin_total to items bins + size) ∙ n)) (λ bin h.
    let within : bin < game.bins = omega (arith, m, h) in
    get_or-totals game (items ++ size ∷ []) (bins ++ to ∷ []) bin 0 within ∙ elim (cases_eq bin to) [
      | inl q ↦ bin_total-push_here bin size to items bins e q ∙ ap {B = ℕ} (λ b. bin_total b items bins + size) q
          ∙ sym (ap (λ b. get_or (set (totals game items bins) to (bin_total to items bins + size)) b 0) q
          ∙ get_or-set_same (totals game items bins) to (bin_total to items bins + size) 0 (omega (arith, n)))
      | inr q ↦ bin_total-push_other bin size to items bins e q
          ∙ sym (get_or-set_other (totals game items bins) to bin (bin_total to items bins + size) 0 q ∙ get_or-totals game items bins bin 0 within)
    ])

-- an item may be put to a bin that has room for it
pub IsAssignment-push : (game : GameNumbers) (items bins : List ℕ) (size to : ℕ) → IsAssignment game items bins → IsSize game.capacity size → to < game.bins
    → bin_total to items bins + size ≤ game.capacity → IsAssignment game (items ++ size ∷ []) (bins ++ to ∷ [])
IsAssignment-push game items bins size to a s l h = record {
  item_list = All-push (IsSize game.capacity) items size a.item_list s;
  one_each = omega (arith, length_push bins to, length_push items size, a.one_each);
  of_game = All-push (λ bin. bin < game.bins) bins to a.of_game l;
  fits = λ bin within. elim (cases_eq bin to) [
    | inl q ↦ omega (arith, bin_total-push_here bin size to items bins a.one_each q, ap {B = ℕ} (λ b. bin_total b items bins) q, h)
    | inr q ↦ omega (arith, bin_total-push_other bin size to items bins a.one_each q, a.fits bin within)
  ];
}

-- how an assignment of a list places the last item
pub record PutsLast (game : GameNumbers) (items : List ℕ) (size : ℕ) (bins : List ℕ) : Type 0 where
  pub before : List ℕ
  pub to : ℕ
  pub is : bins ≡ before ++ to ∷ []
  pub assigned : IsAssignment game items before
  pub in_game : to < game.bins
  pub has_room : bin_total to items before + size ≤ game.capacity
  pub of_game : IsSize game.capacity size

All-push_parts : (P : ℕ → Type 0) (xs : List ℕ) (x : ℕ) → All P (xs ++ x ∷ []) → All P xs × P x
All-push_parts P [] x a = (All-nil P, a 0 0 (omega arith))
All-push_parts P (y ∷ ys) x a =
    let r = All-push_parts P ys x (All-tail P y (ys ++ x ∷ []) a) in
    (All-cons P y ys (All-head P y (ys ++ x ∷ []) a) r.0, r.1)

-- a list that is not empty is its other elements and its last
pub front_and_last : (xs : List ℕ) (n : ℕ) → length xs ≡ n + 1 → xs ≡ take n xs ++ get_or xs n 0 ∷ []
front_and_last xs n e = sym (take_all (n + 1) xs (omega arith)) ∙ take_more xs n 0 (omega arith)

-- the parts of an assignment whose bins are given as the earlier ones and the last
parts : (game : GameNumbers) (items : List ℕ) (size : ℕ) (before : List ℕ) (to : ℕ) → IsAssignment game (items ++ size ∷ []) (before ++ to ∷ [])
    → PutsLast game items size (before ++ to ∷ [])
parts game items size before to a =
    let bins = All-push_parts (λ bin. bin < game.bins) before to a.of_game in
    let sizes = All-push_parts (IsSize game.capacity) items size a.item_list in
    let e : length before ≡ length items = omega (arith, length_push before to, length_push items size, a.one_each) in
    record {
      before = before;
      to = to;
      is = refl;
      assigned = record {
        item_list = sizes.0;
        one_each = e;
        of_game = bins.0;
        fits = λ bin within. omega (arith, bin_total-push bin size to items before e, a.fits bin within);
      };
      in_game = bins.1;
      has_room = omega (arith, bin_total-push_here to size to items before e refl, a.fits to bins.1);
      of_game = sizes.1;
    }

pub puts_last : (game : GameNumbers) (items : List ℕ) (size : ℕ) (bins : List ℕ) → IsAssignment game (items ++ size ∷ []) bins → PutsLast game items size bins
puts_last game items size bins a =
    let n : length bins ≡ length items + 1 = omega (arith, length_push items size, a.one_each) in
    let e : bins ≡ take (length items) bins ++ get_or bins (length items) 0 ∷ [] = front_and_last bins (length items) n in
    subst (PutsLast game items size) (sym e) (parts game items size (take (length items) bins) (get_or bins (length items) 0) (subst (IsAssignment game (items ++ size ∷ [])) e a))

pub totals-nil : (game : GameNumbers) → totals game [] [] ≡ replicate game.bins 0
totals-nil game =
    let n = length-totals game [] [] in
    ext_get_or 0 _ _ (n ∙ sym (length-replicate game.bins 0)) (λ bin h. get_or-totals game [] [] bin 0 (omega (arith, n, h))
    ∙ sym (get_or-replicate game.bins bin 0 0 (omega (arith, n, h))))
