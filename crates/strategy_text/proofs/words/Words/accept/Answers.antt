use Rattle.std.proofs.Common.{◌∙◌, Some, sym, ap, refl, length, arith}
use Rattle.std.proofs.lemmas.Bool.{false≢true}
use Rattle.std.proofs.lemmas.List.{take_rest}
use Rattle.strategy_text.specs.Words.{after, words_left}
use Rattle.strategy_text.proofs.FirstWord.{words_split_at, left_from-past_word, after_other, after_same}
use Rattle.strategy_text.proofs.words.Words.accept.Goals as goal
use Rattle.strategy_text.proofs.words.Words.accept.Goals.{Else-at-line}

pub returns-then-not-is_first : goal.returns-then-not-is_first
returns-then-not-is_first c =
    let d = (goal.at.returns-then-not-is_first c).Else-at-line in
    let word = c.args.word.now in (
      ap (after word) (words_split_at d.self.inside.line.now _ _ d.self.view_is (omega (arith, d.if-at-line.false)))
          ∙ after_other word _ _ (λ e. false≢true (c.if-not-is_first.ensures.exact.1 e)),
      refl,
    )

pub returns : goal.returns
returns c =
    let d = (goal.at.returns c).Else-at-line in
    let line = c.self.inside.line.now in
    let at = c.self.inside.at in
    let word = c.args.word.now in
    let same = c.if-not-is_first.ensures.exact.0 refl in
    let past = left_from-past_word line _ at (length word) (omega (arith, c.if-at-line.false)) (take_rest line at) (sym (ap length same)) in
    ap (after word) (words_split_at d.self.inside.line.now _ _ d.self.view_is (omega (arith, d.if-at-line.false)))
    ∙ after_same word _ _ same ∙ ap (λ left. Some (words_left left)) (sym past)
