use Rattle.std.proofs.Common.{◌∙◌, ◌<◌, sym, arith, refl, length, get_or}
use Rattle.std.proofs.lemmas.Bool.{eq-eqb, ne_eqb, false≢true}
use Rattle.strategy_text.specs.Words.{first_word}
use Rattle.strategy_text.proofs.FirstWord.{number_none, number_empty, number_leads, number_is, first_byte, first_word-short}
use Rattle.strategy_text.proofs.words.first_number.Goals as goal

pub returns-in_default-clause-exact : goal.returns-in_default-clause-exact
returns-in_default-clause-exact c = number_none c.args.high (first_word c.args.bytes.now) c.in_default.ensures.exact

pub returns-then-end-eq0-clause-exact : goal.returns-then-end-eq0-clause-exact
returns-then-end-eq0-clause-exact c =
    number_empty c.args.high (first_word c.args.bytes.now) (sym c.in-Some.ensures.exact.1 ∙ c.if-end-eq0.true)

pub is_led_by_zero-requires : goal.is_led_by_zero-requires
is_led_by_zero-requires c = omega (arith, c.in-Some.ensures.exact.1, first_word-short c.args.bytes.now)

pub returns-then-is_led_by_zero-clause-exact : goal.returns-then-is_led_by_zero-clause-exact
returns-then-is_led_by_zero-clause-exact c =
    let bytes = c.args.bytes.now in
    let led = c.if-is_led_by_zero.ensures.0 refl in
    let long : 1 < length (first_word bytes) = omega (arith, led.0, c.in-Some.ensures.exact.1) in
    number_leads c.args.high (first_word bytes) long (eq-eqb _ _ (sym (first_byte bytes (omega (arith, long))) ∙ led.1))

pub returns-clause-exact : goal.returns-clause-exact
returns-clause-exact c =
    let bytes = c.args.bytes.now in
    let word = first_word bytes in
    let at = c.in-Some.ensures.exact in
    let some : 0 < length word = omega (arith, at.1, c.if-end-eq0.false) in
    let lead = λ (long : 1 < length word). ne_eqb (get_or word 0 0) 48 (λ e. false≢true (sym c.if-is_led_by_zero.false ∙ c.is_led_by_zero.ensures.1
    (omega (arith, long, at.1), first_byte bytes some ∙ e))) in
    (number_is c.args.high word some lead ∙ at.0, at.1)
