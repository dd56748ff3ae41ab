use Rattle.std.proofs.Common.{◌≡◌, ◌++◌, map, take}
use Rattle.go_type_images.specs.Parts.{method_type}
use Rattle.api_correspond.specs.inner.Parts.{type_of}
use Rattle.api_correspond.proofs.parts.push_methods.Given as goal

abbrev pub invariant-loop-method : goal.invariant-loop-method
invariant-loop-method l = map type_of l.all.items ≡ map type_of l.fn.all.items ++ map method_type (take l.method-index l.methods)
