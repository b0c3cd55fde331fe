use Rattle.monotone.proofs.VisitLemmas.{CountsVisits-unused, CountsVisits-counted, count-le-rank, visits_before, count_below_bound}
use Rattle.monotone.proofs.laws.meters_count_visits.Goals as goal

pub returns : goal.returns
returns c = record {
  unused = CountsVisits-unused;
  counted = CountsVisits-counted;
  rank = count-le-rank;
  before = visits_before;
  bound = count_below_bound;
}
