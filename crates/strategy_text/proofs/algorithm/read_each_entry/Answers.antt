use Rattle.std.proofs.Common.{sym, ◌∙◌}
use Rattle.strategy_text.specs.Reading.{more_words, entry_at}
use Rattle.strategy_text.proofs.Loops.{many_more, many_stops, many_ends, from_none, more_some, more_none}
use Rattle.strategy_text.proofs.ActsTaken.{entry_shrinks}
use Rattle.strategy_text.proofs.algorithm.read_each_entry.Goals as goal

pub returns-in_default : goal.returns-in_default
returns-in_default c =
    let more = more_some c.loop-words.words (sym c.is_at_end.ensures ∙ c.loop-words-test.true) in
    from_none c.args.empty _ _ c.requires (many_stops more_words entry_at c.loop-words.entries c.loop-words.words c.loop-words.words _ more.0
    c.in_default.ensures more.1 c.loop-words.invariant)

pub loop-words-smaller : goal.loop-words-smaller
loop-words-smaller c = entry_shrinks c.loop-words.words (c.in-Some.entry, c.read_entry.new.words) c.in-Some.ensures

pub loop-words-preserved : goal.loop-words-preserved
loop-words-preserved c =
    let more = more_some c.loop-words.words (sym c.is_at_end.ensures ∙ c.loop-words-test.true) in
    let less = entry_shrinks c.loop-words.words (c.in-Some.entry, c.read_entry.new.words) c.in-Some.ensures in
    rw c.in_ok-push.ensures.ok (many_more more_words entry_at c.loop-words.entries c.loop-words.words c.loop-words.words c.read_entry.new.words c.in-Some.entry _ more.0
    c.in-Some.ensures less c.loop-words.invariant)

pub returns : goal.returns
returns c =
    let none = more_none c.loop-words.words (sym c.is_at_end.ensures ∙ c.loop-words-test.false) in
    from_none c.args.empty _ _ c.requires (many_ends more_words entry_at c.loop-words.entries c.loop-words.words _ none c.loop-words.invariant)
