use Rattle.std.specs.Prelude.{slice_index}
use Rattle.std.proofs.Common.{◌≡◌, ◌∙◌, ◌<◌, ◌+◌, ◌-◌, ◌++◌, ◌∷◌, [], ap, sym, subst, get_or, length, arith, ℕ, List}
use Rattle.std.proofs.lemmas.List.{get_or_default}
use Rattle.items.specs.Game.{GameNumbers}
use Rattle.reach_planes.specs.Reached.{ItemsSent, HasTotals}
use Rattle.reach_planes.specs.Layout.{IsStart, rows_of, digits_of}
use Rattle.reach_planes.proofs.LoadLemmas.{AreLoadsAt, loads_at}
use Rattle.reach_planes.proofs.planes.Planes.loads_of.Goals as goal
use Rattle.reach_planes.proofs.planes.Planes.loads_of.Goals.{In_ok-push_digits}

-- what is known of the row, in the words of the fields
record Asked (game : GameNumbers) (items : List ℕ) (load row : ℕ) : Type 0 where
  pub in_rows : row < rows_of game
  pub start : IsStart game items (load ∷ digits_of (game.capacity + 1) (game.bins - 2) row)

asked : (c : In_ok-push_digits) → Asked c.self.inside.game c.self.inside.items c.args.load c.args.row
asked c = subst (λ (x : ItemsSent). Asked x.game x.items c.args.load c.args.row) (sym c.self.view_is) (record { in_rows = c.requires.row; start = c.requires.start })

known : (c : In_ok-push_digits) → AreLoadsAt c.self.inside.game c.self.inside.items c.self.inside.sums.items c.self.inside.total c.args.load c.args.row
known c =
    let a =
    asked c in loads_at c.self.inside.game c.self.inside.items c.self.inside.sums.items c.self.inside.words.items c.self.inside.total c.args.load c.args.row c.g.ensures.legal
    c.self.invariant a.in_rows a.start

sum_is : (c : In_ok-push_digits) (x : ℕ) → x ≡ get_or c.self.inside.sums.items c.args.row x → x ≡ slice_index c.self.inside.sums.items c.args.row
sum_is c x e =
    let l : c.args.row < length c.self.inside.sums.items = omega (arith, (asked c).in_rows, c.self.invariant.sums_are.size) in
    let place = c.args.row in e ∙ sym (get_or_default c.self.inside.sums.items place 0 x l)

-- a list to which the loads were pushed
pushed : (load base base' places places' row last last' : ℕ) (none one more all : List ℕ) → none ≡ [] → one ≡ none ++ load ∷ [] → more ≡ one ++ digits_of base' places' row
    → all ≡ more ++ last' ∷ [] → base' ≡ base → places' ≡ places → last' ≡ last → all ≡ load ∷ (digits_of base places row ++ last ∷ [])
pushed load base base' places places' row last last' none one more all n o m a b p l =
    let first : one ≡ load ∷ [] = o ∙ ap (λ xs. xs ++ load ∷ []) n in
    let digits : digits_of base' places' row ≡ digits_of base places row = ap (λ x. digits_of x places' row) b ∙ ap (λ x. digits_of base x row) p in
    a ∙ ap (λ x. more ++ x ∷ []) l ∙ ap (λ xs. xs ++ last ∷ []) (m ∙ ap (λ xs. xs ++ digits_of base' places' row) first ∙ ap (λ xs. load ∷ xs) digits)

pub overflow_sub-self-inside : goal.overflow_sub-self-inside
overflow_sub-self-inside c = let b = goal.at.overflow_sub-self-inside c in (known b.In_ok-push_digits).first

pub overflow_sub-self-inside-2 : goal.overflow_sub-self-inside-2
overflow_sub-self-inside-2 c =
    let b = goal.at.overflow_sub-self-inside-2 c in
    omega (arith, (known b.In_ok-push_digits).others, sum_is b.In_ok-push_digits c.index.result.now c.index.ensures)

pub returns : goal.returns
returns c =
    let b = goal.at.returns c in
    let k = known b.In_ok-push_digits in
    let game = c.self.inside.game in
    let s = sum_is b.In_ok-push_digits c.index.result.now c.index.ensures in
    let last = ap (λ n. c.self.inside.total - c.args.load - n) s in
    let all = pushed c.args.load (game.capacity + 1) (c.from.result + 1) (game.bins - 2)
    (c.m.result - 2) c.args.row _ _ c.new-loads.result c.push.new.self c.push_digits.new.list c.push-2.new.self c.new-loads.ensures.empty c.in_ok-push.ensures.ok
    c.in_ok-push_digits.ensures c.in_ok-push-2.ensures.ok (omega (arith, c.from.ensures, c.g.ensures.value)) (omega (arith, c.m.ensures.value)) last in
    subst (λ xs. HasTotals c.args.self.now.game c.args.self.now.items xs) (sym all)
    (subst (λ (x : ItemsSent). HasTotals x.game x.items (c.args.load ∷ (digits_of (game.capacity + 1)
    (game.bins - 2) c.args.row ++ (c.self.inside.total - c.args.load - slice_index c.self.inside.sums.items c.args.row) ∷ []))) c.self.view_is k.reached)
