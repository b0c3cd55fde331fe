use Rattle.std.proofs.Common.{◌≡◌, ◌∙◌, ap, subst, length}
use Rattle.online_play.proofs.RunLemmas.{length-loads_by_bin}
use Rattle.referee_session.specs.Session.{SessionState}
use Rattle.referee_session.proofs.session.Session.loads.Goals as goal

pub returns-clause-of_bins : goal.returns-clause-of_bins
returns-clause-of_bins c =
    let s = c.self.inside in
    subst (λ (state : SessionState). length c.as_slice.result.now ≡ state.pool.game.bins) c.self.view_is
    (ap length (c.as_slice.ensures.value ∙ c.self.invariant.3) ∙ length-loads_by_bin s.pool.game s.told.items s.told.bins)
