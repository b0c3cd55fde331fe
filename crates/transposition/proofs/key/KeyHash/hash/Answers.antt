use Rattle.std.proofs.Common.{◌≡◌, true, false, ap, subst, sym, ◌∙◌}
use Rattle.loads.specs.declared.position.Position.{Position}
use Rattle.transposition.specs.Forms.{IsFormOfItems, position_of_form}
use Rattle.transposition.specs.SmallPositions.{are_small}
use Rattle.transposition.proofs.SmallLemmas.{hashed-small, hashed-large}
use Rattle.transposition.proofs.key.KeyHash.hash.Goals as goal

pub returns-in-Small : goal.returns-in-Small
returns-in-Small g c =
    let is : c.in-Small.small ≡ c.args.self.now = sym (ap position_of_form c.in-Small.is) ∙ c.self.view_is in
    let small : are_small c.args.self.now.items ≡ true = subst (λ (p : Position). are_small p.items ≡ true) is (subst IsFormOfItems c.in-Small.is c.self.invariant) in
    rw (hashed-small c.args.self.now.loads c.args.self.now.items small, ← is) c.feed.ensures

pub returns-in-Large : goal.returns-in-Large
returns-in-Large g c =
    let is : c.in-Large.packed ≡ c.args.self.now = sym (ap position_of_form c.in-Large.is) ∙ c.self.view_is in
    let large : are_small c.args.self.now.items ≡ false = subst (λ (p : Position). are_small p.items ≡ false) is (subst IsFormOfItems c.in-Large.is c.self.invariant) in
    rw (hashed-large c.args.self.now.loads c.args.self.now.items large, ← is) c.hash.ensures
