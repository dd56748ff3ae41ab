use Rattle.std.proofs.Common.{sym, refl, ◌∙◌}
use denote.Enum.Bare.{same_true, true_same}
use Rattle.api_words.specs.contracts.option_name.OptionName.{the_type}
use Rattle.api_words.proofs.Searches.{any_has, has_any}
use Rattle.api_words.proofs.option_name.is_among.Goals as goal

pub returns : goal.returns
returns c = (
  (λ t. any_has _ (λ a b e. same_true the_type tt a b e) (λ a. true_same the_type a a refl) c.args.names.now c.args.name (sym c.contains.ensures.value ∙ t)),
  (λ h. c.contains.ensures.value ∙ has_any _ (λ a b e. same_true the_type tt a b e) (λ a. true_same the_type a a refl) c.args.names.now c.args.name h),
)
