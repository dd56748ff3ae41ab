use Rattle.std.proofs.Common.{◌≡◌, get_or, take, length, true, sym, ◌∙◌, arith}
use Rattle.std.specs.Char.{digit_value}
use Rattle.go_syntax.specs.lexical.Numbers.{is_digit_of}
use Rattle.go_base.proofs.Lists.{length_take}
use Rattle.go_lex.proofs.CountedDigits.{wrong_digit, value_more, passes_more, small_more, digit_below, small_enough}
use Rattle.go_lex.proofs.quote.counted.Goals as goal

pub returns-then-not-is_digit_of-clause-none : goal.returns-then-not-is_digit_of-clause-none
returns-then-not-is_digit_of-clause-none c ds more a e =
    wrong_digit c.args.base c.args.count c.args.bytes.now ds more c.loop-digit.digit-index a e c.loop-digit-test.true (sym c.is_digit_of.ensures ∙ c.if-not-is_digit_of.true)

pub overflow_mul-value : goal.overflow_mul-value
overflow_mul-value c =
    let size : length (take c.args.count c.args.bytes.now) ≡ c.args.count = length_take c.args.count c.args.bytes.now c.if-bytes-count.false in
    let digit = digit_below c.args.base (get_or (take c.args.count c.args.bytes.now) c.loop-digit.digit-index 0) (sym c.is_digit_of.ensures ∙ c.if-not-is_digit_of.false) in
    omega (arith, small_enough c.args.base c.loop-digit.value c.loop-digit.digit-index (digit_value (get_or (take c.args.count c.args.bytes.now) c.loop-digit.digit-index 0)) c.requires.0 (omega (arith, c.loop-digit-test.true, c.requires.1)) c.loop-digit.invariant.small digit)

pub overflow_add-value : goal.overflow_add-value
overflow_add-value c =
    let size : length (take c.args.count c.args.bytes.now) ≡ c.args.count = length_take c.args.count c.args.bytes.now c.if-bytes-count.false in
    let digit = digit_below c.args.base (get_or (take c.args.count c.args.bytes.now) c.loop-digit.digit-index 0) (sym c.is_digit_of.ensures ∙ c.if-not-is_digit_of.false) in
    omega (
      arith,
      c.digit_value.ensures,
      small_enough c.args.base c.loop-digit.value c.loop-digit.digit-index (digit_value (get_or (take c.args.count c.args.bytes.now) c.loop-digit.digit-index 0)) c.requires.0 (omega (arith, c.loop-digit-test.true, c.requires.1)) c.loop-digit.invariant.small digit,
    )

pub loop-digit-preserved : goal.loop-digit-preserved
loop-digit-preserved c =
    let items = take c.args.count c.args.bytes.now in
    let passes : is_digit_of c.args.base (get_or items c.loop-digit.digit-index 0) ≡ true = sym c.is_digit_of.ensures ∙ c.if-not-is_digit_of.false in
    let digit = digit_below c.args.base (get_or (take c.args.count c.args.bytes.now) c.loop-digit.digit-index 0) passes in
    rw c.digit_value.ensures (record {
      so_far = sym (value_more c.args.base c.loop-digit.value c.loop-digit.digit-index items c.requires.0 c.loop-digit-test.true passes) ∙ c.loop-digit.invariant.so_far;
      passed = passes_more (is_digit_of c.args.base) c.loop-digit.digit-index items c.loop-digit-test.true c.loop-digit.invariant.passed passes;
      small = small_more c.args.base c.loop-digit.value c.loop-digit.digit-index (digit_value (get_or (take c.args.count c.args.bytes.now) c.loop-digit.digit-index 0)) c.requires.0 c.loop-digit.invariant.small digit;
    })
