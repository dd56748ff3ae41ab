use Rattle.std.proofs.Common.{◌≡◌, ◌++◌, drop}
use Rattle.go_leads.specs.Listed.{names_of}
use Rattle.go_leads.specs.inner.FieldKeys.{key_names}
use Rattle.go_leads.proofs.keys.push_keys.Given as goal

abbrev pub invariant-loop-element : goal.invariant-loop-element
invariant-loop-element l = names_of l.keys ++ key_names (drop l.element-index l.elements) ≡ names_of l.initial.keys ++ key_names l.elements
