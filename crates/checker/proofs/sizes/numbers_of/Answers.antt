use Rattle.checker.proofs.SizesLemmas.{no_number, numbers_push}
use Rattle.checker.proofs.sizes.numbers_of.Goals as goal

pub returns-in_default : goal.returns-in_default
returns-in_default c =
    no_number (λ word. word.now) c.args.words.now.items c.deref-word-items.result.now c.loop-word.word-index _ c.deref-word-items.ensures.value c.loop-word-test.true
    c.in_default.ensures.exact

pub loop-word-preserved : goal.loop-word-preserved
loop-word-preserved c =
    numbers_push (λ word. word.now) c.args.words.now.items c.deref-word-items.result.now c.loop-word.word-index _ c.deref-word-items.ensures.value c.loop-word-test.true
    c.in-Some.number c.loop-word.list c.push.new.self c.in-Some.ensures.exact c.in_ok-push.ensures.ok c.loop-word.invariant
