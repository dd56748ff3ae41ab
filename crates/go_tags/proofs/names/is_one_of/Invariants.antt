use Rattle.std.proofs.Common.{◌≡◌, drop, map}
use Rattle.go_model.specs.files.BuildTags.{is_one_of}
use Rattle.go_tags.proofs.names.is_one_of.Given as goal

abbrev pub invariant-loop-candidate : goal.invariant-loop-candidate
invariant-loop-candidate l = is_one_of (map (λ w. w.now) l.names) l.name ≡ is_one_of (map (λ w. w.now) (drop l.candidate-index l.names)) l.name
