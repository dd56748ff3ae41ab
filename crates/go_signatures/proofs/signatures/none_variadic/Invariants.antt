use Rattle.std.proofs.Common.{◌≡◌, drop}
use Rattle.go_syntax.specs.grammar.Grammar.{none_variadic}
use Rattle.go_signatures.proofs.signatures.none_variadic.Given as goal

abbrev pub invariant-loop-parameter : goal.invariant-loop-parameter
invariant-loop-parameter l = none_variadic l.parameters ≡ none_variadic (drop l.parameter-index l.parameters)
