use Rattle.std.proofs.Common.{rules, ◌≡◌, eqb, sym, ◌∙◌}
use Rattle.std.specs.Prelude.{count_by}
use Rattle.items.proofs.MemberLemmas.{count-count_by}
use Rattle.adversary_graph.proofs.plays.times.Goals as goal

pub returns : goal.returns
returns c =
    let e : c.count.result ≡ count_by (λ held. eqb held c.args.size) c.args.list.now = search rules in
    e ∙ sym (count-count_by c.args.size c.args.list.now)
