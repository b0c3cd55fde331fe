use Rattle.online_play.proofs.ListLemmas.{packable_from_test, test_from_packable, written_is_packable, packable_is_written}
use Rattle.online_play.proofs.laws.packable_lists_are_written.Goals as goal

pub returns : goal.returns
returns c = record {
  tested = λ game items. (packable_from_test game items, test_from_packable game items);
  written = λ game items. (written_is_packable game items, packable_is_written game items);
}
