use Rattle.api_words.proofs.NumberWords.{not_number, other_text}
use Rattle.api_words.proofs.numbers.number_in.Goals as goal

pub returns-in_default : goal.returns-in_default
returns-in_default c = not_number c.args.word.now c.parse.result c.in_default.field-0 c.parse.ensures.value.0 c.in_default.is

pub returns-then-not-is_decimal : goal.returns-then-not-is_decimal
returns-then-not-is_decimal c = λ n e h. other_text c.args.word.now c.parse.result c.in-Ok.number c.is_decimal.result c.parse.ensures.value.0 c.in-Ok.is (rw c.as_bytes.ensures.value at c.is_decimal.ensures) c.if-not-is_decimal.true n e h
