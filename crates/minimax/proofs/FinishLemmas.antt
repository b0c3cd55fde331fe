-- Positions that finish are never won.
use Rattle.std.proofs.Common.{◌≡◌, ◌∙◌, ℕ, zero, suc, ◌+◌, ◌<◌, Option, Some, None, List, [], ◌∷◌, ◌++◌, Contains, length, get_or, set, refl, ap, subst}
use Rattle.std.proofs.Common.{arith, get_or-set_same, inl, inr}
use Rattle.std.proofs.lemmas.List.{get_or_default, length-set}
use Rattle.items.specs.Game.{IsGame}
use Rattle.minimax.specs.declared.space.Space.{Space}
use Rattle.items.specs.Packable.{Packable}
use Rattle.items.proofs.SameLemmas.{Same-refl}
use Rattle.loads.specs.After.{after}
use Rattle.loads.specs.Wins.{Wins}
use Rattle.loads.specs.declared.position.Position.{Position}
use Rattle.good_situations.specs.Finish.{Finishes}
use Rattle.good_situations.specs.KeptOrder.{KeptOrder, finish_bin, kept_order}
use Rattle.good_situations.proofs.KeepingLemmas.{finish_stays_below, finishes_after}
use Rattle.good_situations.proofs.OrderLemmas.{IsOrderOf-kept_order, finish_bin-lt}
use Rattle.monotone.proofs.PassLemmas.{allowed_in-exact}
use Rattle.transposition.specs.Memo.{verdict_of}
use Rattle.transposition.specs.declared.verdict.Verdict.{Verdict}
use Rattle.transposition.specs.declared.verdict.Verdict.TheVariants.{Adversary, Algorithm, Held}
use Rattle.minimax.specs.State.{IsLed, IsNeverWon, IsPlayable, IsSound, allowed_by}
use Rattle.minimax.specs.declared.expanding.Search.{Search}
use Rattle.minimax.specs.declared.finish_nodes.TheConstants.{FINISHES}
use Rattle.minimax.proofs.StateLemmas.{won_by_win}
use Rattle.minimax.proofs.PlayableLemmas.{IsPlayable-after}

-- a load that stays below the target with a size
pub record IsLoadFor (space : Space) (position : Position) (size : ℕ) : Type 0 where
  pub load : ℕ
  pub member : Contains position.loads load
  pub below : load + size < space.game.target

pub load_below : (space : Space) (position : Position) (size : ℕ) → IsGame space.game → IsPlayable space position → Finishes space.game position.loads
    → Packable space.game (position.items ++ size ∷ []) → IsLoadFor space position size
load_below space position size g p finishes packable =
    let loads = position.loads in
    let order : KeptOrder = kept_order space.game loads 0 in
    let bin : ℕ = finish_bin space.game order loads size in
    let len : length loads ≡ space.game.bins = p.loads.one_each in
    let within : bin < length loads = omega (arith, len, finish_bin-lt space.game order loads size space.game.bins (IsOrderOf-kept_order space.game loads 0 len (omega (arith, g.bins.low)))) in
    let stays = finish_stays_below space.game loads position.items loads (size ∷ []) g
    (record { legal = p.loads; renamed = Same-refl loads; total = p.items.total }) finishes packable in
    let placed : List ℕ = set loads bin (get_or loads bin 0 + size) in
    let in_placed : bin < length placed = omega (arith, within, length-set loads bin (get_or loads bin 0 + size)) in
    let here : get_or placed bin 0 < space.game.target = stays bin 0 in_placed in
    record {
      load = get_or loads bin 0;
      member = (bin, within, get_or_default loads bin _ _ within);
      below = subst (λ n. n < space.game.target) (get_or-set_same loads bin (get_or loads bin 0 + size) 0 within) here;
    }

finish_not_won : (space : Space) (pass n : ℕ) (position : Position) → IsGame space.game → IsPlayable space position
    → Finishes space.game position.loads → Wins space.game (allowed_by space pass) n position → ⊥
unfolding Wins
finish_not_won space pass zero position g p finishes wins = wins
finish_not_won space pass (suc n) position g p finishes wins =
    let size = wins.0 in
    let w = wins.1 in
    let listed = ((allowed_in-exact space.sizes position.items pass size).0 w.allows).0 in
    let l = load_below space position size g p finishes w.may_come in
    elim (w.each_load l.load l.member) [
      | inl over ↦ omega (arith, over, l.below)
      | inr v ↦ finish_not_won space pass n (after position l.load size) g (IsPlayable-after space position l.load size p l.member l.below listed w.may_come)
          (finishes_after space.game position.loads l.load size p.loads l.member l.below finishes) v
    ]

pub IsNeverWon-finish : (space : Space) (position : Position) → IsGame space.game → IsPlayable space position → Finishes space.game position.loads
    → IsNeverWon space position
IsNeverWon-finish space position g p finishes = λ pass won. finish_not_won space pass won.0 position g p finishes won.1

-- where the table has a position that finishes, it tells so
pub finish_told : (space : Space) (pass : ℕ) (s : Search) (entries : List (Position × Verdict)) (position : Position) → IsGame space.game → IsSound space pass s entries
    → IsPlayable space position → Finishes space.game position.loads → (verdict_of entries position ≡ None → ⊥)
    → verdict_of entries position ≡ Some (Algorithm FINISHES)
finish_told space pass s entries position g sound playable finishes known = by_entry (verdict_of entries position) refl
  where
    led : (number : ℕ) → verdict_of entries position ≡ Some (Algorithm number) → IsLed space s.replies position number
        → verdict_of entries position ≡ Some (Algorithm FINISHES)
    led number e (inl node) = absurd (node.unfinished finishes)
    led number e (inr finish) = e ∙ ap (λ n. Some (Algorithm n)) finish.told

    by_entry : (o : Option Verdict) → verdict_of entries position ≡ o → verdict_of entries position ≡ Some (Algorithm FINISHES)
    by_entry None e = absurd (known e)
    by_entry (Some (Adversary number)) e =
        absurd (IsNeverWon-finish space position g playable finishes pass
        (won_by_win space pass s.meter s.wins s.replies entries position number sound (sound.known position (Adversary number) e)))
    by_entry (Some (Algorithm number)) e = led number e (sound.known position (Algorithm number) e)
    by_entry (Some (Held held)) e = absurd ((sound.known position (Held held) e).unfinished finishes)
