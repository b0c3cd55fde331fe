-- From a won position every algorithm is forced.
use Rattle.std.proofs.Common.{◌≡◌, ℕ, zero, suc, ◌+◌, ◌<◌, ◌≤◌, Bool, List, [], ◌∷◌, ◌++◌, length, get_or, set, replicate, refl, sym, ◌∙◌, ⊎_elim, inl, inr, subst, arith}
use Rattle.std.specs.Prelude.{All, Any, Contains, IsTrue}
use Rattle.std.proofs.lemmas.List.Elements.{All-head, All-tail, Contains-get_or}
use Rattle.std.proofs.lemmas.List.Quantifiers.{any-set}
use Rattle.std.proofs.lemmas.List.FromFn.{fill_by_all}
use Rattle.std.proofs.lemmas.List.{get_or-replicate, length-replicate}
use Rattle.items.specs.Game.{GameNumbers, numbers}
use Rattle.items.specs.Multiset.{Same}
use Rattle.items.specs.Packable.{Packable}
use Rattle.items.proofs.MultisetLemmas.{Same-push_put}
use Rattle.items.proofs.SameLemmas.{Same-push}
use Rattle.packing_witness.proofs.PackableLemmas.{Packable-Same, Packable-nil}
use Rattle.loads.specs.declared.position.Position.{Position}
use Rattle.loads.specs.After.{after}
use Rattle.loads.specs.Loads.{loads_after}
use Rattle.loads.specs.Wins.{IsWinningSize, Wins, IsWon, empty_position}
use Rattle.loads.proofs.CountLemmas.{Contains-Same}
use Rattle.loads.proofs.LoadsLemmas.{Same-loads_after}
use Rattle.online_play.specs.Algorithm.{IsAlgorithm, run, Forced, KeepsBelow, ForcesEvery}
use Rattle.online_play.specs.Laws.{ComesTo}
use Rattle.online_play.proofs.RunLemmas.{run-push, length-run}

push_not_empty : (items : List ℕ) (item : ℕ) → items ++ item ∷ [] ≡ [] → ⊥
push_not_empty [] item e = cc
push_not_empty (x ∷ items) item e = cc

module _ (game : GameNumbers) (answer : List ℕ → ℕ) (history : List ℕ) (position : Position) (size : ℕ) (at : ComesTo game answer history position) where
  -- the load of the bin that the algorithm answers
  pub load_hit : ℕ
  load_hit = get_or (run game answer history) (answer (history ++ size ∷ [])) 0

  loads_next : answer (history ++ size ∷ []) < game.bins → run game answer (history ++ size ∷ []) ≡ set (run game answer history) (answer (history ++ size ∷ [])) (load_hit + size)
  unfolding load_hit
  loads_next within = run-push game answer history size (answer (history ++ size ∷ [])) refl within

  -- one more item leads to the position after it
  pub ComesTo-after : Packable game (history ++ size ∷ []) → answer (history ++ size ∷ []) < game.bins → ComesTo game answer (history ++ size ∷ []) (after position load_hit size)
  unfolding load_hit
  ComesTo-after packable within = record {
    packable = packable;
    loads = subst (λ loads. Same loads (loads_after position.loads load_hit size)) (sym (loads_next within))
        (Same-loads_after (run game answer history) position.loads (answer (history ++ size ∷ [])) load_hit size at.loads
        (omega (arith, length-run game answer history, within)) refl);
    items = λ x. Same-push history position.items size at.items x ∙ Same-push_put size position.items x;
  }

  -- an item that takes the load to the target forces the algorithm
  pub forced_next : Packable game (history ++ size ∷ []) → answer (history ++ size ∷ []) < game.bins → game.target ≤ load_hit + size → Forced game answer
  forced_next packable within reached = (
    history ++ size ∷ [],
    record {
      packable = packable;
      reached = subst (Any (λ load. game.target ≤ load)) (sym (loads_next within))
          (any-set (λ load. game.target ≤ load) (run game answer history) (answer (history ++ size ∷ [])) (load_hit + size)
          (omega (arith, length-run game answer history, within)) reached);
    },
  )

  pub hit_is_load : answer (history ++ size ∷ []) < game.bins → Contains position.loads load_hit
  unfolding load_hit
  hit_is_load within =
      Contains-Same load_hit (run game answer history) position.loads at.loads
      (Contains-get_or (run game answer history) (answer (history ++ size ∷ [])) 0 (omega (arith, length-run game answer history, within)))

pub won_forces : (game : GameNumbers) (allowed : List ℕ → ℕ → Bool) (answer : List ℕ → ℕ) → IsAlgorithm game answer
    → (n : ℕ) (history : List ℕ) (position : Position) → ComesTo game answer history position → Wins game allowed n position → Forced game answer
unfolding Wins
won_forces game allowed answer algorithm zero history position at wins = absurd wins
won_forces game allowed answer algorithm (suc n) history position at wins =
    let size = wins.0 in
    let packable : Packable game (history ++ size ∷ []) =
    Packable-Same game (position.items ++ size ∷ []) (history ++ size ∷ []) (λ x. sym (Same-push history position.items size at.items x)) wins.1.may_come in
    let within : answer (history ++ size ∷ []) < game.bins = algorithm (history ++ size ∷ []) (push_not_empty history size) packable in
    ⊎_elim (λ reached. forced_next game answer history position size at packable within reached)
    (λ next. won_forces game allowed answer algorithm n (history ++ size ∷ []) (after position (load_hit game answer history position size at) size)
    (ComesTo-after game answer history position size at packable within) next)
    (wins.1.each_load (load_hit game answer history position size at) (hit_is_load game answer history position size at within))

-- before the first item
pub run-nil : (game : GameNumbers) (answer : List ℕ → ℕ) → replicate game.bins 0 ≡ run game answer []
run-nil game answer = fill_by_all (λ bin. 0) (replicate game.bins 0) game.bins 0 (length-replicate game.bins 0) (λ k l. get_or-replicate game.bins k 0 0 l)

pub ComesTo-empty : (game : GameNumbers) (answer : List ℕ → ℕ) → ComesTo game answer [] (empty_position game)
ComesTo-empty game answer = record {
  packable = Packable-nil game;
  loads = subst (λ loads. Same loads (replicate game.bins 0)) (run-nil game answer) (λ x. refl);
  items = λ x. refl;
}

pub won_game_forces : (game : GameNumbers) (allowed : List ℕ → ℕ → Bool) → IsWon game allowed (empty_position game) → ForcesEvery game
won_game_forces game allowed won answer algorithm = won_forces game allowed answer algorithm won.0 [] (empty_position game) (ComesTo-empty game answer) won.1

-- an algorithm that is forced does not keep below the target
pub forced_not_below : (game : GameNumbers) (answer : List ℕ → ℕ) → Forced game answer → KeepsBelow game answer → ⊥
forced_not_below game answer forced keeps =
    let reached = forced.1.reached in
    let below = keeps forced.0 forced.1.packable reached.0 reached.1 reached.2 in
    let same : reached.1 < game.target = subst (λ load. load < game.target) reached.3 below in
    omega (arith, same, reached.4)

-- the target plays no part in what is packable
Packable-at_target : (game : GameNumbers) (target : ℕ) (items : List ℕ) → Packable game items → Packable (numbers game.bins game.capacity target) items
Packable-at_target game target items p = (p.0, record { item_list = p.1.item_list; one_each = p.1.one_each; of_game = p.1.of_game; fits = p.1.fits })

pub lower_target_forces : (game : GameNumbers) (target : ℕ) → target ≤ game.target → ForcesEvery game → ForcesEvery (numbers game.bins game.capacity target)
lower_target_forces game target le forces answer algorithm =
    let forced = forces answer (λ items some p. algorithm items some (Packable-at_target game target items p)) in (
      forced.0,
      record {
        packable = Packable-at_target game target forced.0 forced.1.packable;
        reached = let r = forced.1.reached in (r.0, r.1, r.2, r.3, omega (arith, le, r.4));
      },
    )

-- an item that wins still wins where what is allowed, packable, reached or won next is more
winning_size : (game other : GameNumbers) (allowed wider : List ℕ → ℕ → Bool) (P Q : Position → Type 0) (position : Position) (size : ℕ)
    → (IsTrue (allowed position.items size) → IsTrue (wider position.items size))
    → (Packable game (position.items ++ size ∷ []) → Packable other (position.items ++ size ∷ [])) → other.target ≤ game.target
    → ((next : Position) → P next → Q next) → IsWinningSize game allowed P position size → IsWinningSize other wider Q position size
winning_size game other allowed wider P Q position size more fit le each w = record {
  allows = more w.allows;
  may_come = fit w.may_come;
  each_load = λ load member. ⊎_elim (λ reached. inl (omega (arith, le, reached))) (λ next. inr (each (after position load size) next)) (w.each_load load member);
}

pub Wins-more_items : (game : GameNumbers) (allowed : List ℕ → ℕ → Bool) (few many : ℕ) (position : Position) → few ≤ many → Wins game allowed few position
    → Wins game allowed many position
unfolding Wins
Wins-more_items game allowed zero many position le wins = absurd wins
Wins-more_items game allowed (suc few) zero position le wins = absurd (omega arith)
Wins-more_items game allowed (suc few) (suc many) position le wins = (
  wins.0,
  winning_size game game allowed allowed (Wins game allowed few) (Wins game allowed many) position wins.0 (λ h. h) (λ p. p) (omega arith)
      (λ next w. Wins-more_items game allowed few many next (omega arith) w) wins.1,
)

pub Wins-more_sizes : (game : GameNumbers) (allowed wider : List ℕ → ℕ → Bool) (n : ℕ) (position : Position)
    → ((items : List ℕ) (size : ℕ) → IsTrue (allowed items size) → IsTrue (wider items size))
    → Wins game allowed n position → Wins game wider n position
unfolding Wins
Wins-more_sizes game allowed wider zero position more wins = absurd wins
Wins-more_sizes game allowed wider (suc n) position more wins = (
  wins.0,
  winning_size game game allowed wider (Wins game allowed n) (Wins game wider n) position wins.0 (more position.items wins.0) (λ p. p) (omega arith)
      (λ next w. Wins-more_sizes game allowed wider n next more w) wins.1,
)

pub Wins-lower_target : (game : GameNumbers) (target : ℕ) (allowed : List ℕ → ℕ → Bool) (n : ℕ) (position : Position) → target ≤ game.target
    → Wins game allowed n position → Wins (numbers game.bins game.capacity target) allowed n position
unfolding Wins
Wins-lower_target game target allowed zero position le wins = absurd wins
Wins-lower_target game target allowed (suc n) position le wins = (
  wins.0,
  winning_size game (numbers game.bins game.capacity target) allowed allowed (Wins game allowed n)
      (Wins (numbers game.bins game.capacity target) allowed n) position wins.0 (λ h. h)
      (Packable-at_target game target (position.items ++ wins.0 ∷ [])) le (λ next w. Wins-lower_target game target allowed n next le w) wins.1,
)

-- loads that are all 0 are the loads before the first item
all_zero : (n : ℕ) (loads : List ℕ) → length loads ≡ n → All (λ load. load ≡ 0) loads → loads ≡ replicate n 0
all_zero zero [] e h = refl
all_zero zero (load ∷ loads) e h = absurd (omega arith)
all_zero (suc n) [] e h = absurd (omega arith)
all_zero (suc n) (load ∷ loads) e h =
    let first : load ≡ 0 = All-head (λ load. load ≡ 0) load loads h in
    let others = all_zero n loads (omega arith) (All-tail (λ load. load ≡ 0) load loads h) in
    cc

pub empty_is : (game : GameNumbers) (position : Position) → length position.loads ≡ game.bins → All (λ load. load ≡ 0) position.loads → position.items ≡ []
    → position ≡ empty_position game
empty_is game position n zeros none = let loads = all_zero game.bins position.loads n zeros in λ i. record { loads = loads i; items = none i }
