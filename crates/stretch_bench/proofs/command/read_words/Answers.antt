use Rattle.stretch_bench.specs.Commands.{spelling_of}
use Rattle.stretch_bench.proofs.CommandLemmas.{items_spelled, no_items, none_spelled}
use Rattle.stretch_bench.proofs.command.read_words.Goals as goal

pub returns-in-Some-2 : goal.returns-in-Some-2
returns-in-Some-2 g c = record {
  exact = items_spelled _ (spelling_of c.args.words.now) c.in_ok-items.field-0 c.in-Some-2.items (c.in_ok-items.ensures _) c.in-Some-2.is;
}

pub returns-in-None : goal.returns-in-None
returns-in-None g c = record {
  exact = none_spelled _ (spelling_of c.args.words.now) (record {
    check = c.if-is_word.ensures.exact.1;
    minimise = c.if-is_word-2.ensures.exact.1;
    upgrade = c.if-is_word-3.ensures.exact.1;
    report = c.if-is_word-4.ensures.exact.1;
    session = c.if-is_word-5.ensures.exact.1;
    play = c.in_default.ensures _;
    drill = c.in_default-drill_of.ensures _;
    searches = c.in_default-search_of.ensures _;
    scales = c.in_default-scale_of.ensures _;
    weakens = c.in_default-weaken_of.ensures _;
    values = c.in_default-value_of.ensures _;
    forces = c.in_default-force_of.ensures _;
    answer = no_items _ (spelling_of c.args.words.now) c.in_ok-items.field-0 (c.in_ok-items.ensures _) c.in-None.is;
  });
}
