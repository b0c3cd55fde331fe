use Rattle.std.proofs.Common.{◌∙◌, codes, ap, sym, subst, ◌++◌, List, ℕ}
use Rattle.checker.specs.Listed.{SpellsSizes}
use Rattle.checker.proofs.ProgressLemmas.{both_ways}
use Rattle.checker.proofs.SizesLemmas.{no_prefix, none_spelled, prefix_is, sizes_read}
use Rattle.checker.proofs.sizes.parse_sizes.Goals as goal

pub returns-in_default : goal.returns-in_default
returns-in_default c = record { exact = no_prefix c.args.line.now c.as_slice.result.now c.as_slice.ensures c.in_default.ensures.cases }

pub returns-then-is_dash : goal.returns-then-is_dash
returns-then-is_dash c =
    let is = c.in-Some.ensures.cases in
    let line = prefix_is c.args.line.now c.in-Some.list.now c.as_slice.result.now c.as_slice.ensures is.0 is.1 in
    record {
      exact = subst (SpellsSizes c.args.line.now) (sym c.new.ensures.empty)
          (none_spelled c.args.line.now (line ∙ ap (λ (x : List ℕ). codes "sizes " ++ x) (c.is_dash.ensures.exact.0 c.if-is_dash.true)));
    }

pub returns : goal.returns
returns c =
    let is = c.in-Some.ensures.cases in
    let line = prefix_is c.args.line.now c.in-Some.list.now c.as_slice.result.now c.as_slice.ensures is.0 is.1 in
    record {
      exact = sizes_read c.args.line.now c.in-Some.list.now _ c.in_ok-found.found line
          (λ e. both_ways c.is_dash.result c.if-is_dash.false (c.is_dash.ensures.exact.1 e)) c.in_ok-words.ensures c.in_ok-found.ensures;
    }
