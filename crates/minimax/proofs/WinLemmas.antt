-- Who wins a position: from its sizes, in later passes, and where the algorithm has an answer.
use Rattle.std.proofs.Common.{ℕ, zero, suc, ◌+◌, ◌<◌, ◌≤◌, ◌⊎◌, Bool, List, [], ◌∷◌, ◌++◌, Contains, sym, subst, inl, inr, arith}
use Rattle.std.proofs.lemmas.Bool.{cases_eq}
use Rattle.items.specs.Game.{GameNumbers}
use Rattle.minimax.specs.declared.space.Space.{Space}
use Rattle.items.specs.Packable.{Packable}
use Rattle.items.proofs.MemberLemmas.{Contains-cons, Contains-here, Contains-tail, Contains-nil}
use Rattle.loads.specs.After.{after}
use Rattle.loads.specs.Wins.{IsWinningSize, IsWon, Wins}
use Rattle.loads.specs.declared.position.Position.{Position}
use Rattle.online_play.proofs.WonLemmas.{Wins-more_items, Wins-more_sizes}
use Rattle.monotone.proofs.PassLemmas.{allowed_in-exact, allowed_later}
use Rattle.minimax.specs.State.{IsNeverWon, IsWonIn, allowed_by}

-- a win in a pass is one in each later pass
pub IsWonIn-later : (space : Space) (pass later : ℕ) (position : Position) → pass ≤ later → IsWonIn space pass position → IsWonIn space later position
IsWonIn-later space pass later position l (n, w) =
    (n, Wins-more_sizes space.game (allowed_by space pass) (allowed_by space later) n position (λ items size h. allowed_later space.sizes items pass later size l h) w)

-- a number of items that is enough at each of some loads
enough : (game : GameNumbers) (allowed : List ℕ → ℕ → Bool) (position : Position) (size : ℕ) (loads : List ℕ)
    → ((load : ℕ) → Contains loads load → (game.target ≤ load + size) ⊎ IsWon game allowed (after position load size))
    → (n : ℕ) × ((load : ℕ) → Contains loads load → (game.target ≤ load + size) ⊎ Wins game allowed n (after position load size))
enough game allowed position size [] h = (0, λ load c. absurd (Contains-nil load c))
enough game allowed position size (x ∷ xs) h =
    let rest = enough game allowed position size xs (λ load c. h load (Contains-cons load x xs c)) in
    elim (h x (Contains-here x xs)) [
      | inl over ↦ (
        rest.0,
        λ load c. elim (cases_eq load x) [
          | inl e ↦ inl (omega (arith, over, e))
          | inr apart ↦ rest.1 load (Contains-tail load x xs apart c)
        ],
      )
      | inr won ↦ (
        won.0 + rest.0,
        λ load c. elim (cases_eq load x) [
          | inl e ↦ inr (Wins-more_items game allowed won.0 (won.0 + rest.0) (after position load size) (omega arith)
              (subst (λ l. Wins game allowed won.0 (after position l size)) (sym e) won.1))
          | inr apart ↦ elim (rest.1 load (Contains-tail load x xs apart c)) [
            | inl over ↦ inl over
            | inr w ↦ inr (Wins-more_items game allowed rest.0 (won.0 + rest.0) (after position load size) (omega arith) w)
          ]
        ],
      )
    ]

-- a position with a winning size is won
pub IsWon-by : (game : GameNumbers) (allowed : List ℕ → ℕ → Bool) (position : Position) (size : ℕ)
    → IsWinningSize game allowed (IsWon game allowed) position size → IsWon game allowed position
unfolding Wins
IsWon-by game allowed position size w =
    let n = enough game allowed position size position.loads w.each_load in
    (suc n.0, (size, record { allows = w.allows; may_come = w.may_come; each_load = n.1 }))

-- a won position has a winning size
pub winning_size_of : (game : GameNumbers) (allowed : List ℕ → ℕ → Bool) (position : Position) → IsWon game allowed position
    → (size : ℕ) × IsWinningSize game allowed (IsWon game allowed) position size
unfolding Wins
winning_size_of game allowed position (zero, w) = absurd w
winning_size_of game allowed position (suc n, w) = (
  w.0,
  record {
    allows = w.1.allows;
    may_come = w.1.may_come;
    each_load = λ load c. elim (w.1.each_load load c) [
      | inl over ↦ inl over
      | inr v ↦ inr (n, v)
    ];
  },
)

-- a position without a winning size is not won
pub not_won : (game : GameNumbers) (allowed : List ℕ → ℕ → Bool) (position : Position)
    → ((size : ℕ) → IsWinningSize game allowed (IsWon game allowed) position size → ⊥) → IsWon game allowed position → ⊥
not_won game allowed position none won = let w = winning_size_of game allowed position won in none w.0 w.1

-- a size is no winning one where a load stays below the target and leads to a position that is not won
pub no_winning_size : (game : GameNumbers) (allowed : List ℕ → ℕ → Bool) (position : Position) (size load : ℕ) → Contains position.loads load
    → load + size < game.target → (IsWon game allowed (after position load size) → ⊥)
    → IsWinningSize game allowed (IsWon game allowed) position size → ⊥
no_winning_size game allowed position size load c below not w = elim (w.each_load load c) [
  | inl over ↦ omega (arith, over, below)
  | inr won ↦ not won
]

-- a load that stays below the target with a size, and leads to a position that is never won
pub record HasAnswer (space : Space) (position : Position) (size : ℕ) : Type 0 where
  pub load : ℕ
  pub member : Contains position.loads load
  pub below : load + size < space.game.target
  pub never : IsNeverWon space (after position load size)

-- a position with an answer to each of the sizes that may come is never won
pub IsNeverWon-answered : (space : Space) (position : Position)
    → ((size : ℕ) → Contains space.sizes size → Packable space.game (position.items ++ size ∷ []) → HasAnswer space position size)
    → IsNeverWon space position
IsNeverWon-answered space position answer = λ pass won.
    let w = winning_size_of space.game (allowed_by space pass) position won in
    let listed = ((allowed_in-exact space.sizes position.items pass w.0).0 w.1.allows).0 in
    let a = answer w.0 listed w.1.may_come in
    no_winning_size space.game (allowed_by space pass) position w.0 a.load a.member a.below (a.never pass) w.1
