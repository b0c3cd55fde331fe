use Rattle.std.proofs.Common.{refl, arith}
use Rattle.transposition.proofs.LookupLemmas.{put-present, put-below, put-full}
use Rattle.transposition.proofs.lru_table.LruTable.insert.Goals as goal

pub returns-clause-present : goal.returns-clause-present
returns-clause-present g c = rw (← c.self.view_is, c.in_ok-old.ensures.entries) (λ is.
    (refl, put-present g.K.PartialEq.eq g.met.K.Eq.laws c.self.inside.cache.entries c.self.inside.cache.cap c.args.key c.args.value c.len.ensures.valid.0 is))

pub returns-clause-below : goal.returns-clause-below
returns-clause-below g c = rw (← c.self.view_is, c.in_ok-old.ensures.entries) (λ none below.
    put-below g.K.PartialEq.eq g.met.K.Eq.laws c.self.inside.cache.entries c.self.inside.cache.cap c.args.key c.args.value below none)

pub returns-clause-full : goal.returns-clause-full
returns-clause-full g c = rw (← c.self.view_is, c.in_ok-old.ensures.entries) (λ none full.
    let valid = c.len.ensures.valid in
    put-full g.K.PartialEq.eq g.met.K.Eq.laws c.self.inside.cache.entries c.self.inside.cache.cap c.args.key c.args.value valid.0 valid.2 (omega (arith, valid.1, full)) none)
