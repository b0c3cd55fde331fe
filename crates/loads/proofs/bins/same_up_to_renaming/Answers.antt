use Rattle.std.proofs.Common.{◌≡◌, rules, arith, ap, length}
use Rattle.std.proofs.lemmas.Bool.{false≢true}
use Rattle.items.proofs.MultisetLemmas.{length-Same}
use Rattle.std.specs.Prelude.{All, IsTrue, ◌↔◌}
use Rattle.items.specs.Multiset.{count}
use Rattle.items.proofs.MemberLemmas.{Same-from_members}
use Rattle.loads.proofs.bins.same_up_to_renaming.Goals as goal

pub returns-then-all_as_often : goal.returns-then-all_as_often
returns-then-all_as_often c =
    let xs = c.args.actual.now in
    let ys = c.args.loads.now in
    let own : All (λ load. count load xs ≡ count load ys) xs = search rules in
    let others : IsTrue c.all_as_often-then-all_as_often.result ↔ All (λ load. count load xs ≡ count load ys) ys = search rules in
    record { same = (λ t. Same-from_members xs ys own (others.0 t), λ h. others.1 (λ k d l. h _)) }

pub returns-then-actual-loads : goal.returns-then-actual-loads
returns-then-actual-loads c =
    record { same = (λ t. absurd (false≢true t), λ h. absurd (omega (arith, length-Same c.args.actual.now c.args.loads.now h, ap length c.as_slice-loads.ensures.value))) }
