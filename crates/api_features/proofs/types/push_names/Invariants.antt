use Rattle.std.proofs.Common.{◌≡◌, ◌++◌, drop, map}
use Rattle.api_features.specs.TypeTexts.{commas, name_of_method}
use Rattle.api_features.proofs.TypeParts.{separated}
use Rattle.api_features.proofs.types.push_names.Given as goal

abbrev pub invariant-loop-method : goal.invariant-loop-method
invariant-loop-method l = l.out.items ++ separated l.separator (map name_of_method (drop l.method-index l.methods)) ≡ l.fn.out.items ++ commas (map name_of_method l.methods)
