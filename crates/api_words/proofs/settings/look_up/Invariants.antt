use Rattle.std.proofs.Common.{List, ℕ, drop}
use Rattle.go_base.specs.Lists.{Has}
use Rattle.api_words.proofs.settings.look_up.Given as goal

abbrev pub invariant-loop-setting : goal.invariant-loop-setting
invariant-loop-setting l = (value : List ℕ) → Has l.settings (record { name = l.name; value = value }) → Has (drop l.setting-index l.settings) (record { name = l.name; value = value })
