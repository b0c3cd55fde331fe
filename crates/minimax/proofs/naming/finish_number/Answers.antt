use Rattle.std.proofs.Common.{◌≡◌, ◌∙◌, Some, None, refl, sym, subst, inl}
use Rattle.loads.specs.declared.position.Position.{Position}
use Rattle.minimax.specs.Naming.{number_of}
use Rattle.minimax.proofs.naming.finish_number.Goals as goal

pub returns-in-Some : goal.returns-in-Some
returns-in-Some c =
    let told = sym c.number.ensures.value ∙ c.in-Some.is in
    inl (refl, subst (λ (p : Position). number_of c.args.written.now.finishes p ≡ Some c.in-Some.number) c.in_ok-key.ensures.ok told)

pub push_finish-requires-clause-room : goal.push_finish-requires-clause-room
push_finish-requires-clause-room c =
    let none = sym c.number.ensures.value ∙ c.in_default.is in
    c.requires.room (subst (λ (p : Position). number_of c.args.written.now.finishes p ≡ None) c.in_ok-key.ensures.ok none)
