use Rattle.std.proofs.Common.{arith, ◌≡◌, ap, length}
use Rattle.port_io.proofs.LineLemmas.{NoLfBelow-read, no_line-held}
use Rattle.port_io.proofs.ReadingLemmas.{ReadsOn-then}
use Rattle.port_io.proofs.lines.find_next.Goals as goal

pub returns-in_err-refill-clause-reads : goal.returns-in_err-refill-clause-reads
returns-in_err-refill-clause-reads g c =
    ReadsOn-then _ _ _ _ _ _ c.loop-length.invariant.reads c.refill.ensures.reads

pub returns-in_err-refill-clause-held : goal.returns-in_err-refill-clause-held
returns-in_err-refill-clause-held g c =
    λ found. absurd (no_line-held c.args.ahead.now.held c.loop-length.ahead.held c.held-held.result.now c.held-held.ensures c.in_default.ensures.none
    (omega arith) c.loop-length.invariant.held found)

pub returns-else-is_empty-clause-held : goal.returns-else-is_empty-clause-held
returns-else-is_empty-clause-held g c =
    λ found. absurd (no_line-held c.args.ahead.now.held c.loop-length.ahead.held c.held-held.result.now c.held-held.ensures c.in_default.ensures.none
    (omega arith) c.loop-length.invariant.held found)

pub loop-length-preserved : goal.loop-length-preserved
loop-length-preserved g c =
    let same = c.held-held.ensures in
    let size : length c.held-held.result.now ≡ length c.loop-length.ahead.held = ap length same in
    record {
      searched = omega (arith, c.in_ok-refill.ensures.amount);
      short = omega arith;
      no_lf = NoLfBelow-read 16385 c.held-held.result.now c.refill.new.self.held c.refill.ensures.reads.0 c.in_default.ensures.none (omega arith)
          (rw same c.refill.ensures.reads.1);
      text = c.refill.ensures.text;
      count = omega (arith, c.refill.ensures.count, c.loop-length.invariant.count);
      reads = ReadsOn-then _ _ _ _ _ _ c.loop-length.invariant.reads c.refill.ensures.reads;
      held = λ found. absurd (no_line-held c.args.ahead.now.held c.loop-length.ahead.held c.held-held.result.now same c.in_default.ensures.none
          (omega arith) c.loop-length.invariant.held found);
    }
