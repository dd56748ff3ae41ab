use Rattle.std.proofs.Common.{take, map}
use Rattle.go_base.specs.Lists.{Each, Has}
use Rattle.api_words.specs.Words.{option_in}
use Rattle.api_words.specs.declared.option_name.OptionName.{OptionName}
use Rattle.api_words.proofs.settings.are_given.Given as goal

abbrev pub invariant-loop-name : goal.invariant-loop-name
invariant-loop-name l = Each (λ (name : OptionName). Has (map option_in l.settings) name) (take l.name-index l.names)
