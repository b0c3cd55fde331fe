-- The command `report`: what a strategy shows.
use Rattle.std.specs.Prelude.{◌≡◌, ℕ, List, [], ◌∷◌, ◌++◌, codes, decimal}
use Rattle.checker.specs.declared.fault.Wanted.TheVariants.{Either}
use Rattle.report.specs.Report.{IsReportOf}
use Rattle.report.specs.declared.summary.Report.{Report}
use Rattle.strategy_text.specs.Text.{line_of, side_word}
use Rattle.strategy_text.specs.declared.node.Strategy.{Strategy}
use Rattle.stretch_bench.specs.Form.{Form, of_strategy}

-- the words of a report that tell the strategy
abbrev pub report_words : Report → List ℕ
report_words report =
    line_of (codes "report" ∷ side_word report.side
    ∷ decimal report.game.bins ∷ decimal report.game.capacity ∷ decimal report.game.target
    ∷ codes "nodes" ∷ decimal report.nodes ∷ [])

-- what a strategy shows: its depth, and its target over its capacity in lowest terms
abbrev pub report_line : Report → List ℕ
report_line report =
    (report_words report
    ++ 32 ∷ line_of (codes "depth" ∷ decimal report.depth
    ∷ codes "target" ∷ (decimal report.top ++ 47 ∷ decimal report.bottom) ∷ [])) ++ 10 ∷ []

-- the line of what a strategy shows
pub record IsSummaryOf (strategy : Strategy) (text : List ℕ) : Type 0 where
  pub shown : Report
  pub shows : IsReportOf strategy shown
  pub line : text ≡ report_line shown

abbrev pub report : Form
report = record {
  name = codes "report";
  arguments = [];
  IsAllowed = Unit {0};
  work = of_strategy Either IsSummaryOf;
}
