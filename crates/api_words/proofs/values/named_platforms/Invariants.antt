use Rattle.std.proofs.Common.{◌≡◌, map, take}
use Rattle.go_model.specs.files.Platforms.{name_of}
use Rattle.api_words.proofs.values.named_platforms.Given as goal

abbrev pub invariant-loop-name : goal.invariant-loop-name
invariant-loop-name l = map (λ name. name.now) (take l.name-index l.names) ≡ map name_of l.platforms
