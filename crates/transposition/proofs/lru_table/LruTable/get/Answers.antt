use Rattle.std.proofs.Common.{ap, sym}
use Rattle.transposition.proofs.LookupLemmas.{SameEntries-promoted}
use Rattle.transposition.proofs.lru_table.LruTable.get.Goals as goal

pub returns-clause-same : goal.returns-clause-same
returns-clause-same g c =
    let same = SameEntries-promoted g.K.PartialEq.eq g.met.K.Eq.laws c.args.key.now c.self.inside.cache.entries c.len.ensures.valid.0 in
    rw (← c.self.view_is, ap (λ cache. cache.entries) c.get-2.follows.holds-at-none) same
