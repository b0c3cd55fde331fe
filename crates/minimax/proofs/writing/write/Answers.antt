use Rattle.std.proofs.Common.{◌∙◌, ◌++◌, ◌∷◌, [], ℕ, Vec, Global, refl, sym, ap, subst}
use Rattle.minimax.specs.Naming.{PutsNamed}
use Rattle.minimax.specs.State.{AreOfAll}
use Rattle.minimax.proofs.WritingLemmas.{numbers_stay}
use Rattle.minimax.proofs.writing.write.Goals as goal

pub put_reply-requires-clause-of_all : goal.put_reply-requires-clause-of_all
put_reply-requires-clause-of_all c =
    let reply = c.args.reply.now in
    subst (λ p. AreOfAll c.args.space.now p c.as_slice.result.now) (sym c.position-position.ensures.value)
    (subst (AreOfAll c.args.space.now reply.position) (sym c.as_slice.ensures.value) c.requires.ready.of_all)

pub returns : goal.returns
returns c =
    let space = c.args.space.now in
    let reply = c.args.reply.now in
    let between = c.put_reply.new.written in
    let puts = subst (λ p. PutsNamed space c.args.written.now between p c.as_slice.result.now c.in_ok-number.number) c.position-position.ensures.value c.in_ok-number.ensures in
    record {
      number = c.in_ok-number.number;
      between = between;
      puts = subst (λ xs. PutsNamed space c.args.written.now between reply.position xs c.in_ok-number.number) c.as_slice.ensures.value puts;
      same = refl;
      numbers = c.in_ok-push.ensures.items
          ∙ ap (λ (v : Vec ℕ Global). v.items ++ c.in_ok-number.number ∷ []) (numbers_stay space c.args.written.now between _ _ c.in_ok-number.number c.in_ok-number.ensures);
    }
