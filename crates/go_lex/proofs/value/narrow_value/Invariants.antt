use Rattle.std.proofs.Common.{◌≡◌, ◌<◌, ◌^◌, drop}
use Rattle.go_syntax.specs.lexical.Numbers.{value_from}
use Rattle.go_lex.proofs.value.narrow_value.Given as goal

abbrev pub invariant-loop-b : goal.invariant-loop-b
invariant-loop-b l = record {
  so_far : value_from l.base l.value (drop l.b-index l.digits) ≡ value_from l.base 0 l.digits;
  narrow : l.value < 2 ^ 127;
}
