use Rattle.std.specs.Prelude.{ℕ, ◌-◌, List, fold, length, replicate, slice_index, take}
use Rattle.items.specs.Game.{GameNumbers}
use Rattle.loads.specs.ByBin.{placed}
use Rattle.online_play.specs.Rules.{best_fit, first_fit, least_loaded}
use Rattle.online_play.specs.declared.rule.PlayerRule.{PlayerRule}
use Rattle.online_play.specs.declared.rule.PlayerRule.TheVariants.{FirstFit, BestFit, LeastLoaded}

-- the rule of a named player
abbrev pub rule_of : PlayerRule → ℕ → List ℕ → ℕ → ℕ
rule_of FirstFit = first_fit
rule_of BestFit = best_fit
rule_of LeastLoaded = least_loaded

-- the loads by bin number after each item of a list went to the bin that a rule names at the loads before it
abbrev pub loads_under : (ℕ → List ℕ → ℕ → ℕ) → GameNumbers → List ℕ → List ℕ
loads_under rule game items =
    fold (λ loads size. placed loads (rule game.target loads size) size) (replicate game.bins 0) items

-- the answer of a rule to a history: what it names for the last item at the loads after the items before it
abbrev pub answer_under : (ℕ → List ℕ → ℕ → ℕ) → GameNumbers → List ℕ → ℕ
answer_under rule game history =
    let before = length history - 1 in
    rule game.target (loads_under rule game (take before history)) (slice_index history before)
