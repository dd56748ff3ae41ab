use Rattle.std.proofs.Common.{◌≡◌, map}
use Rattle.api_lines.proofs.printed.with_texts.Given as goal

abbrev pub invariant-loop-value : goal.invariant-loop-value
invariant-loop-value g l = map (λ p. p.value) l.all.items ≡ l.yielded
