use Rattle.std.proofs.Common.{◌≡◌, subst}
use Rattle.online_play.proofs.online.BoxDynOnlineOnline.place.Goals as goal

pub returns : goal.returns
returns g c = record {
  value = subst (λ p. c.place.result ≡ (g.dyn-1.0.entry p.0).1.answer p.1 c.args.game.now c.args.history.now) c.deref_box-1.ensures.1 c.place.ensures;
}
