use Rattle.std.proofs.Common.{sym, ◌∙◌}
use denote.Enum.Bare.{same_true}
use Rattle.api_words.specs.contracts.option_name.OptionName.{the_type}
use Rattle.api_words.proofs.GivenOptions.{given_at}
use Rattle.api_words.proofs.settings.look_up.Goals as goal

pub returns-then-eq : goal.returns-then-eq
returns-then-eq c = given_at c.args.settings.now c.loop-setting.setting-index c.setting-item.result c.args.name c.bytes.result.now c.loop-setting-test.true c.setting-item.is (same_true the_type tt _ _ (sym c.eq.ensures ∙ c.if-eq.true)) c.bytes.ensures
