use Rattle.std.proofs.Common.{◌∙◌, Some, sym, ap, refl, arith}
use Rattle.std.proofs.lemmas.List.{take_rest}
use Rattle.strategy_text.specs.Words.{number_at, words_left}
use Rattle.strategy_text.proofs.FirstWord.{words_split_at, left_from-past_word, number_at-none, number_at-some}
use Rattle.strategy_text.proofs.words.Words.number.Goals as goal
use Rattle.strategy_text.proofs.words.Words.number.Goals.{Else-at-line}

pub returns-in_default-clause-read : goal.returns-in_default-clause-read
returns-in_default-clause-read c =
    let d = (goal.at.returns-in_default-clause-read c).Else-at-line in (
      ap (number_at c.args.high) (words_split_at d.self.inside.line.now _ _ d.self.view_is (omega (arith, d.if-at-line.false)))
          ∙ number_at-none c.args.high _ _ c.in_default.ensures.exact,
      refl,
    )

pub returns-clause-read : goal.returns-clause-read
returns-clause-read c =
    let d = (goal.at.returns-clause-read c).Else-at-line in
    let line = c.self.inside.line.now in
    let at = c.self.inside.at in
    let n = c.in-Some.n in
    let past = left_from-past_word line _ at c.in-Some.end (omega (arith, c.if-at-line.false)) (take_rest line at) c.in-Some.ensures.exact.1 in
    ap (number_at c.args.high) (words_split_at d.self.inside.line.now _ _ d.self.view_is (omega (arith, d.if-at-line.false)))
    ∙ number_at-some c.args.high n _ _ c.in-Some.ensures.exact.0
    ∙ ap (λ left. Some (n, words_left left)) (sym past)
