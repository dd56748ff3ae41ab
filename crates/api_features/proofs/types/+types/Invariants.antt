use Rattle.std.proofs.Common.{◌≡◌, ◌+◌, ◌++◌, drop, length, map}
use Rattle.api_features.specs.TypeTexts.{commas, parameter_texts, shown_type, type_text}
use Rattle.api_features.proofs.TypeParts.{separated}
use Rattle.api_features.proofs.types.+types.Given as goal

abbrev pub invariant-push_parameters-loop-term : goal.invariant-push_parameters-loop-term
invariant-push_parameters-loop-term l = record {
  left : l.left + l.term-index ≡ length l.terms;
  so_far : l.out.items ++ separated l.separator (parameter_texts (map (shown_type l.world.packages l.path) (drop l.term-index l.terms)) l.variadic) ≡ l.fn.out.items ++ commas (parameter_texts (map (shown_type l.world.packages l.path) l.terms) l.variadic);
}

abbrev pub invariant-push_types-loop-term : goal.invariant-push_types-loop-term
invariant-push_types-loop-term l = l.out.items ++ separated l.separator (map (type_text l.world.packages l.path) (drop l.term-index l.terms)) ≡ l.fn.out.items ++ commas (map (type_text l.world.packages l.path) l.terms)
