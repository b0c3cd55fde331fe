use Rattle.std.proofs.Common.{ℕ, List, ◌≡◌, ◌∷◌, ◌++◌, [], ◌∙◌, ap, codes, decimal, map, take}
use Rattle.std.proofs.lemmas.List.{take_all}
use Rattle.strategy_text.specs.Writing.{spaced}
use Rattle.referee_session.proofs.LineLemmas.{lost_line_is}
use Rattle.referee_session.proofs.line.lost_line.Goals as goal

pub returns : goal.returns
returns c =
    let loads = c.args.loads.now in
    let all : take c.loop-load.load-index loads ≡ loads = take_all c.loop-load.load-index loads c.loop-load-test.false in
    c.put-2.ensures ∙ ap (λ (xs : List ℕ). xs ++ 10 ∷ []) (c.loop-load.invariant.text ∙ ap (λ (xs : List ℕ). codes "lost loads" ++ spaced (map decimal xs)) all)
    ∙ lost_line_is loads c.requires.some
