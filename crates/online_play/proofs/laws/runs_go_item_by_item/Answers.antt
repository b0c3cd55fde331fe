use Rattle.std.proofs.Common.{sym}
use Rattle.online_play.proofs.RunLemmas.{bins_of-push, loads_by_bin-push, run-push}
use Rattle.online_play.proofs.WonLemmas.{run-nil}
use Rattle.online_play.proofs.PlayLemmas.{run-le-sum}
use Rattle.online_play.proofs.laws.runs_go_item_by_item.Goals as goal

pub returns : goal.returns
returns c = record {
  bins = bins_of-push;
  loads = loads_by_bin-push;
  run = run-push;
  begin = λ game answer. sym (run-nil game answer);
  within = run-le-sum;
}
