-- Histories of a play: their prefixes, and loads that stay small.
use Rattle.std.proofs.Common.{◌≡◌, ◌≢◌, ℕ, ◌+◌, ◌<◌, ◌≤◌, eqb, List, [], ◌∷◌, ◌++◌, length, get_or, take, drop, sum, sym, ap, ◌∙◌, inl, inr, subst, arith}
use Rattle.std.specs.Prelude.{All}
use Rattle.std.proofs.lemmas.Bool.{cases_eq, cond-true, cond-false, eq-eqb, ne_eqb}
use Rattle.std.proofs.lemmas.List.{take_more, take-append-drop, length-take}
use Rattle.std.proofs.lemmas.List.Sums.{sum_by-cons, sum_by-take-le, sum_by_more}
use Rattle.std.proofs.lemmas.Nat.{mul-le}
use Rattle.items.specs.Game.{GameNumbers, IsGame}
use Rattle.items.specs.Packable.{Packable, bin_total}
use Rattle.packing_witness.proofs.PackableLemmas.{Packable-front, sum-Packable-le}
use Rattle.loads.specs.ByBin.{placed}
use Rattle.online_play.specs.Algorithm.{IsAlgorithm, bins_of, run}
use Rattle.online_play.proofs.RunLemmas.{run-push, length-run, get_or-loads_by_bin}

-- the prefixes of a packable history are packable
pub Packable-take : (game : GameNumbers) (n : ℕ) (items : List ℕ) → Packable game items → Packable game (take n items)
Packable-take game n items p = Packable-front game (take n items) (drop n items) (subst (Packable game) (sym (take-append-drop n items)) p)

-- the total of a packable list of a game is small
pub sum_small : (game : GameNumbers) (items : List ℕ) → IsGame game → Packable game items → sum items ≤ 960
sum_small game items legal p =
    let total = sum-Packable-le game items p in
    let most = mul-le game.bins game.capacity 8 120 legal.bins.high legal.capacity.high in
    omega arith

-- a bin's total is at most that of all items
pub bin_total-le-sum : (bin : ℕ) (items bins : List ℕ) → bin_total bin items bins ≤ sum items
bin_total-le-sum bin [] bins = omega arith
bin_total-le-sum bin (item ∷ items) [] = omega arith
bin_total-le-sum bin (item ∷ items) (b ∷ bins) =
    let rest = bin_total-le-sum bin items bins in
    let total = sum_by-cons (λ n. n) item items in
    elim (cases_eq bin b) [
      | inl e ↦ omega (arith, cond-true (eqb bin b) item 0 (eq-eqb bin b e))
      | inr n ↦ omega (arith, cond-false (eqb bin b) item 0 (ne_eqb bin b n))
    ]

module _ (game : GameNumbers) (answer : List ℕ → ℕ) (history : List ℕ) (legal : IsGame game) (algorithm : IsAlgorithm game answer) (packable : Packable game history) where
  pub bin_in_range : (i bin : ℕ) (actual : List ℕ) → actual ≡ run game answer (take i history) → i < length history → bin ≡ answer (take (i + 1) history) → bin < length actual
  bin_in_range i bin actual e l is =
      let some : take (i + 1) history ≢ [] = λ q. omega (arith, ap length q, length-take (i + 1) history, l) in
      let within = algorithm (take (i + 1) history) some (Packable-take game (i + 1) history packable) in
      omega (arith, ap length e, length-run game answer (take i history), is, within)

  pub load_fits : (i bin : ℕ) (actual : List ℕ) → actual ≡ run game answer (take i history) → bin < length actual → i < length history
      → get_or actual bin 0 + get_or history i 0 < 65536
  load_fits i bin actual e l h =
      let n = length-run game answer (take i history) in
      let load = get_or-loads_by_bin game (take i history) (bins_of answer (take i history)) bin 0 (omega (arith, ap length e, n, l)) in
      let small = bin_total-le-sum bin (take i history) (bins_of answer (take i history)) in
      let more = sum_by_more (λ n. n) history i 0 h in
      let part = sum_by-take-le (λ n. n) history (i + 1) in
      let total = sum_small game history legal packable in
      omega (arith, ap {B = ℕ} (λ loads. get_or loads bin 0) e)

  pub run_more : (i bin : ℕ) (actual next : List ℕ) → actual ≡ run game answer (take i history) → i < length history → bin < length actual
      → bin ≡ answer (take (i + 1) history) → next ≡ placed actual bin (get_or history i 0)
      → next ≡ run game answer (take (i + 1) history)
  run_more i bin actual next e h l is put =
      let more = take_more history i 0 h in
      let hit : answer (take i history ++ get_or history i 0 ∷ []) ≡ bin = sym (is ∙ ap answer more) in
      let within : bin < game.bins = omega (arith, ap length e, length-run game answer (take i history), l) in
      put ∙ ap (λ loads. placed loads bin (get_or history i 0)) e ∙ sym (ap (run game answer) more ∙ run-push game answer (take i history) (get_or history i 0) bin hit within)

-- no load of a run is above the total of the items
pub run-le-sum : (game : GameNumbers) (answer : List ℕ → ℕ) (items : List ℕ) → All (λ load. load ≤ sum items) (run game answer items)
run-le-sum game answer items bin d l =
    let within : bin < game.bins = omega (arith, l, length-run game answer items) in
    let load = get_or-loads_by_bin game items (bins_of answer items) bin d within in
    omega (arith, bin_total-le-sum bin items (bins_of answer items))
