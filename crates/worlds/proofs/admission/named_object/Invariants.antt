use Rattle.std.proofs.Common.{◌≡◌, drop}
use Rattle.go_base.specs.Keys.{first_with}
use Rattle.go_model.specs.worlds.Worlds.{object_name}
use Rattle.worlds.proofs.admission.named_object.Given as goal

abbrev pub invariant-loop-object : goal.invariant-loop-object
invariant-loop-object l = first_with object_name (drop l.object-index l.objects) l.name ≡ first_with object_name l.objects l.name
