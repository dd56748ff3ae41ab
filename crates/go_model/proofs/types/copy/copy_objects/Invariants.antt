use Rattle.std.proofs.Common.{◌≡◌, take}
use Rattle.go_model.proofs.types.copy.copy_objects.Given as goal

abbrev pub invariant-loop-object : goal.invariant-loop-object
invariant-loop-object l = l.copied ≡ take l.object-index l.objects
