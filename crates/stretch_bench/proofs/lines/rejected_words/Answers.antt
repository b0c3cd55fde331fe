use Rattle.stretch_bench.proofs.LineLemmas.{said, sizes_text, syntax_text, rule_text}
use Rattle.stretch_bench.proofs.lines.rejected_words.Goals as goal

pub returns-in-Syntax : goal.returns-in-Syntax
returns-in-Syntax c = said _ _ _ c.format.ensures.ok (syntax_text c.args.line c.args.why c.in-Syntax.is)

pub returns-in-Sizes : goal.returns-in-Sizes
returns-in-Sizes c = said _ _ _ c.format-in-Sizes.ensures.ok (sizes_text c.args.line c.args.why c.in-Sizes.is)

pub returns-in-Rule : goal.returns-in-Rule
returns-in-Rule c = said _ _ _ c.format-in-Rule.ensures.ok (rule_text c.args.line c.args.why c.in-Rule.rule _ c.in-Rule.is c.word-name.ensures.value)
