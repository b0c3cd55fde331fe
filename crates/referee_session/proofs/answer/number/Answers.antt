use Rattle.std.proofs.Common.{◌∙◌, ◌<◌, sym, refl, arith, length, get_or}
use Rattle.std.proofs.lemmas.Bool.{eqb-true, eqb-false, eq-eqb, ne_eqb, false≢true}
use Rattle.strategy_text.proofs.FirstWord.{number_empty, number_is, number_leads}
use Rattle.referee_session.proofs.answer.number.Goals as goal

pub returns-then-is_empty : goal.returns-then-is_empty
returns-then-is_empty c =
    sym (number_empty 65535 c.args.word.now (eqb-true (length c.args.word.now) 0 (sym c.is_empty.ensures ∙ c.if-is_empty.true)))

pub returns-then-is_led_by_zero : goal.returns-then-is_led_by_zero
returns-then-is_led_by_zero c =
    let led = c.if-is_led_by_zero.ensures.0 refl in
    sym (number_leads 65535 c.args.word.now led.0 (eq-eqb (get_or c.args.word.now 0 0) 48 led.1))

pub returns : goal.returns
returns c =
    let word = c.args.word.now in
    let lead = λ (long : 1 < length word). ne_eqb (get_or word 0 0) 48 (λ e. false≢true (sym c.if-is_led_by_zero.false ∙ c.is_led_by_zero.ensures.1 (long, e))) in
    let some = eqb-false (length word) 0 (sym c.is_empty.ensures ∙ c.if-is_empty.false) in
    c.digits.ensures ∙ sym (number_is 65535 word (omega (arith, some)) lead)
