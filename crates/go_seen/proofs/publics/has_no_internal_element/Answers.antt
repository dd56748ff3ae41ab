use Rattle.std.proofs.Common.{rules}
use Rattle.std.proofs.Common.{tests}
use Rattle.std.proofs.lemmas.Iterator.Search.{all_from_yields_List}
use Rattle.std.proofs.lemmas.Iterator.Splits.{YieldsList-from_slice_split}
use Rattle.go_typings.specs.PackageWorlds.{is_public_element, is_slash}
use Rattle.go_seen.proofs.publics.has_no_internal_element.Goals as goal

pub returns : goal.returns
returns c = all_from_yields_List is_public_element _ _ _ c.all.ensures.ran (YieldsList-from_slice_split _ is_slash c.args.path.now c.split.ensures.rest c.split.ensures.done c.split.ensures.closure (λ x b q k. search (rules, tests))) (λ x b q k. search (rules, tests))
