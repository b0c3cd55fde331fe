use Rattle.std.proofs.Common.{◌∙◌, false, sym}
use Rattle.checker.proofs.ProgressLemmas.{both_ways}
use Rattle.checker.proofs.SizesLemmas.{empty_is_none, led_is_none, plain_number}
use Rattle.checker.proofs.sizes.number_of.Goals as goal

pub returns-then-is_empty : goal.returns-then-is_empty
returns-then-is_empty c = record { exact = empty_is_none c.args.word.now (sym c.is_empty.ensures ∙ c.if-is_empty.true) }

pub returns-then-is_led_by_zero : goal.returns-then-is_led_by_zero
returns-then-is_led_by_zero c = record { exact = led_is_none c.args.word.now (c.is_led_by_zero.ensures.exact.0 c.if-is_led_by_zero.true) }

pub returns : goal.returns
returns c = record {
  exact = plain_number c.args.word.now c.digits.result (sym c.is_empty.ensures ∙ c.if-is_empty.false)
      (λ led. both_ways c.is_led_by_zero.result c.if-is_led_by_zero.false (c.is_led_by_zero.ensures.exact.1 led)) c.digits.ensures.exact;
}
