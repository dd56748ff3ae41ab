use Rattle.std.proofs.Common.{◌≡◌, ◌<◌, ◌^◌, take, drop}
use Rattle.go_base.specs.Lists.{Passes}
use Rattle.go_syntax.specs.lexical.Numbers.{is_digit_of, value_from}
use Rattle.go_lex.proofs.quote.counted.Given as goal

abbrev pub invariant-loop-digit : goal.invariant-loop-digit
invariant-loop-digit l = record {
  so_far : value_from l.base l.value (drop l.digit-index l.digit-items) ≡ value_from l.base 0 l.digit-items;
  passed : Passes (is_digit_of l.base) (take l.digit-index l.digit-items);
  small : l.value < 16 ^ l.digit-index;
}
