use Rattle.std.proofs.Common.{◌≡◌, ◌||◌, filter}
use Rattle.go_declaration_graph.proofs.references.by_value_or_in_length.Given as goal

abbrev pub invariant-loop-reference : goal.invariant-loop-reference
invariant-loop-reference l = l.kept ≡ filter (λ r. r.by_value || r.in_length) l.yielded
