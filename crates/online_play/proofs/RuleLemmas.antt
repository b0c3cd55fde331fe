-- What the rules of the named players name, and that each answers as an algorithm of the game.
use Rattle.std.proofs.Common.{◌≡◌, ℕ, ◌+◌, ◌-◌, ◌<◌, ◌≤◌, Bool, ◌&&◌, ◌==◌, Option, List, length, get_or, take, sum, sym, ap, ◌∙◌, inl, inr, arith}
use Rattle.std.specs.Prelude.{filter, nat_lt, position, unwrap_or}
use Rattle.std.proofs.lemmas.Bool.{cases_lt, lt-ltb, le-ltb}
use Rattle.std.proofs.lemmas.List.Sums.{get_or-le-sum_by, sum_by-set, sum_by_more, sum_by-take-le}
use Rattle.items.specs.Game.{GameNumbers, IsGame}
use Rattle.items.specs.Packable.{Packable}
use Rattle.loads.specs.ByBin.{placed}
use Rattle.online_play.specs.Rules.{lowest_bin, greatest, least, best_fit}
use Rattle.online_play.specs.Replays.{rule_of}
use Rattle.online_play.specs.PlayersAnswer.{NamesABin, first_fit_names, best_fit_names, least_loaded_names}
use Rattle.online_play.specs.declared.rule.PlayerRule.{PlayerRule}
use Rattle.online_play.specs.declared.rule.PlayerRule.TheVariants.{FirstFit, BestFit, LeastLoaded}
use Rattle.online_play.proofs.PlayLemmas.{sum_small}

-- a load has room below the target exactly where the item leaves it below
below_limit : (target size load : ℕ) → nat_lt load (target - size) ≡ nat_lt (load + size) target
below_limit target size load = elim (cases_lt (load + size) target) [
  | inl l ↦ lt-ltb load (target - size) (omega arith) ∙ sym (lt-ltb (load + size) target l)
  | inr l ↦ le-ltb load (target - size) (omega arith) ∙ sym (le-ltb (load + size) target l)
]

best_by : (ℕ → Bool) → List ℕ → ℕ
best_by fits loads = lowest_bin (λ load. fits load && load == greatest (filter fits loads)) loads

pub best_fit_is : (target size limit most bin : ℕ) (loads : List ℕ) (place : Option ℕ) → limit ≡ target - size → most ≡ greatest (filter (λ load. nat_lt load limit) loads)
    → place ≡ position (λ load. nat_lt load limit && load == most) loads → bin ≡ unwrap_or place 0 → bin ≡ best_fit target loads size
unfolding best_by
best_fit_is target size limit most bin loads place limit_is most_is place_is bin_is =
    bin_is ∙ ap (λ o. unwrap_or o 0) place_is
    ∙ ap (λ (m : ℕ). lowest_bin (λ load. nat_lt load limit && load == m) loads) most_is
    ∙ ap (λ (n : ℕ). best_by (λ load. nat_lt load n) loads) limit_is
    ∙ ap (λ fits. best_by fits loads) (λ i load. below_limit target size load i)

pub least_loaded_is : (wanted bin : ℕ) (loads : List ℕ) (place : Option ℕ) → wanted ≡ least loads → place ≡ position (λ load. load == wanted) loads → bin ≡ unwrap_or place 0
    → bin ≡ lowest_bin (λ load. load == least loads) loads
least_loaded_is wanted bin loads place wanted_is place_is bin_is =
    bin_is ∙ ap (λ o. unwrap_or o 0) place_is ∙ ap (λ (w : ℕ). lowest_bin (λ load. load == w) loads) wanted_is

-- the bin that a named player's rule names is one of the bins
pub rules_name : (rule : PlayerRule) → NamesABin (rule_of rule)
rules_name FirstFit = first_fit_names
rules_name BestFit = best_fit_names
rules_name LeastLoaded = least_loaded_names

-- the bin that a rule named for an item of a replay is one of the bins
pub named_in_range : (rule : PlayerRule) (target size bin : ℕ) (loads actual : List ℕ) → loads ≡ actual → 0 < length actual → bin ≡ rule_of rule target loads size
    → bin < length actual
named_in_range rule target size bin loads actual e l is =
    let n = ap length e in
    let h = rules_name rule in
    let within = h.in_range target loads size (omega arith) in
    omega arith

-- the loads of a replay stay small
pub replay_fits : (game : GameNumbers) (history actual : List ℕ) (i bin : ℕ) → IsGame game → Packable game history → i < length history
    → sum actual ≤ sum (take i history) → bin < length actual
    → get_or actual bin 0 + get_or history i 0 < 65536
replay_fits game history actual i bin legal packable l total within =
    let load = get_or-le-sum_by (λ x. x) actual bin 0 within in
    let more = sum_by_more (λ x. x) history i 0 l in
    let part = sum_by-take-le (λ x. x) history (i + 1) in
    let all = sum_small game history legal packable in
    omega arith

pub replay_total : (history actual : List ℕ) (i bin : ℕ) → i < length history → sum actual ≤ sum (take i history) → bin < length actual
    → sum (placed actual bin (get_or history i 0)) ≤ sum (take (i + 1) history)
replay_total history actual i bin l total within =
    let more = sum_by_more (λ x. x) history i 0 l in
    let put = sum_by-set (λ x. x) actual bin (get_or actual bin 0 + get_or history i 0) 0 within in
    omega arith
