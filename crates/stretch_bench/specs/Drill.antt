-- The command `drill`: a large legal strategy of two numbers, checked and minimised.
use Rattle.std.specs.Prelude.{◌≡◌, ℕ, ◌+◌, ◌*◌, ◌≤◌, List, [], ◌∷◌, codes, decimal, length}
use Rattle.minimise.specs.Strategies.{canonical_form}
use Rattle.report.specs.Drill.{drill as drill_strategy}
use Rattle.report.specs.declared.drill.TheConstants.{MOST_COPIES}
use Rattle.strategy_text.specs.Text.{nodes_of, text_of}
use Rattle.stretch_bench.specs.Form.{Form, of_words}
use Rattle.stretch_bench.specs.Lines.{written_line}

-- the numbers of a drill, the first below 2 to the power of 64
pub record IsDrill (number copies : ℕ) : Type 0 where
  pub in_range : number ≤ 18446744073709551615
  pub some : 1 ≤ copies
  pub most : copies ≤ MOST_COPIES

-- a drill: how many nodes and bytes its strategy has, and how many nodes its canonical form
abbrev pub drill_line : ℕ → ℕ → ℕ → ℕ → ℕ → List ℕ
drill_line number copies nodes bytes minimised =
    written_line (codes "drill" ∷ decimal number ∷ decimal copies ∷ codes "nodes" ∷ decimal nodes
    ∷ codes "bytes" ∷ decimal bytes ∷ codes "accepted" ∷ codes "minimised" ∷ decimal minimised ∷ [])

-- the line of the drill of these numbers
abbrev pub drilled : ℕ → ℕ → List ℕ
drilled number copies =
    drill_line number copies (4 * copies + 1) (length (text_of (drill_strategy number copies)))
    (length (nodes_of (canonical_form (drill_strategy number copies)).nodes))

abbrev pub drill : ℕ → ℕ → Form
drill number copies = record {
  name = codes "drill";
  arguments = decimal number ∷ decimal copies ∷ [];
  IsAllowed = IsDrill number copies;
  work = of_words (λ text. text ≡ drilled number copies);
}
