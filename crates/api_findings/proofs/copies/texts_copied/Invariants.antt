use Rattle.std.proofs.Common.{◌≡◌, take}
use Rattle.api_findings.proofs.copies.texts_copied.Given as goal

abbrev pub invariant-loop-text : goal.invariant-loop-text
invariant-loop-text l = l.copy ≡ take l.text-index l.texts
