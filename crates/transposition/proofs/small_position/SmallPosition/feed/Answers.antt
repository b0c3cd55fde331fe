use Rattle.std.proofs.Common.{◌≡◌, ◌∙◌, ap, sym, take}
use Rattle.items.specs.Counters.{counters_of}
use Rattle.transposition.specs.SmallPositions.{padded}
use Rattle.transposition.proofs.SmallLemmas.{first-counters_of}
use Rattle.transposition.proofs.small_position.SmallPosition.feed.Goals as goal

pub returns : goal.returns
returns g c =
    let told = c.self.told in
    let loads : padded c.args.self.now.loads ≡ c.self.inside.loads = sym (ap (λ r. padded r.loads) c.self.view_is) ∙ c.self.invariant.rest in
    let counters : take 32 (counters_of c.args.self.now.items) ≡ c.self.inside.counters =
    sym (ap (λ r. take 32 (counters_of r.items)) c.self.view_is) ∙ first-counters_of c.self.inside.counters told.1 in
    rw (loads, counters) (c.write-2.ensures ∙ ap (λ s. g.H.Hasher.write s c.self.inside.counters) c.write.ensures)
