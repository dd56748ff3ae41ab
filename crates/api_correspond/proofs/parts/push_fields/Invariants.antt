use Rattle.std.proofs.Common.{◌≡◌, ◌++◌, map, take}
use Rattle.go_type_images.specs.Parts.{field_type}
use Rattle.api_correspond.specs.inner.Parts.{type_of}
use Rattle.api_correspond.proofs.parts.push_fields.Given as goal

abbrev pub invariant-loop-field : goal.invariant-loop-field
invariant-loop-field l = map type_of l.all.items ≡ map type_of l.fn.all.items ++ map field_type (take l.field-index l.fields)
