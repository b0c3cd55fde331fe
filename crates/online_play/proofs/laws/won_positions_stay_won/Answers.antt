use Rattle.online_play.proofs.WonLemmas.{Wins-more_items, Wins-more_sizes, Wins-lower_target}
use Rattle.online_play.proofs.laws.won_positions_stay_won.Goals as goal

pub returns : goal.returns
returns c = record { items = Wins-more_items; sizes = Wins-more_sizes; target = Wins-lower_target }
