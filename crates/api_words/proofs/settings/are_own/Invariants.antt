use Rattle.std.proofs.Common.{◌⊎◌, take}
use Rattle.go_base.specs.Lists.{Each, Has}
use Rattle.api_words.specs.Options.{needs, permits}
use Rattle.api_words.specs.declared.settings.Setting.{Setting}
use Rattle.api_words.proofs.settings.are_own.Given as goal

abbrev pub invariant-loop-setting : goal.invariant-loop-setting
invariant-loop-setting l = Each (λ (s : Setting). Has (needs l.mode) s.name ⊎ Has (permits l.mode) s.name) (take l.setting-index l.settings)
