use Rattle.match_player.proofs.WordLemmas.{put_pack}
use Rattle.match_player.proofs.words.put_bins.Goals as goal

pub returns-in_ok-put_list-in-len1-up : goal.returns-in_ok-put_list-in-len1-up
returns-in_ok-put_list-in-len1-up c =
    put_pack c.put_next_bins.result c.first-item.result c.args.bins.now _ _ _ c.in-len1-up.len_at_least c.first-item.is
    (rw c.as_slice.ensures.value at c.in_ok-put_list-in-len1-up.ensures) c.put_next_bins.ensures
