use Rattle.std.proofs.Common.{◌≡◌, rules, sym, subst}
use Rattle.std.specs.List.{dedup}
use Rattle.std.proofs.lemmas.Fn.{dedup_same}
use Rattle.go_rules.specs.Names.{Named}
use Rattle.go_declared.specs.declared.names.NamePlace.{NamePlace}
use Rattle.go_declared.specs.inner.EntryOrder.{Rise, TellSame}
use Rattle.go_declared.proofs.EntryOrder.{are_namesakes, firsts_rise, told_by_firsts}
use Rattle.go_declared.proofs.names.keep_firsts.Goals as goal

firsts : (c : goal.After-dedup_by) → c.dedup_by.new.self.items ≡ dedup are_namesakes c.args.entries.now.items
firsts c = dedup_same _ are_namesakes _ (λ x y b f x' y' called. search rules) c.args.entries.now.items c.dedup_by.new.self.items c.dedup_by.ensures.filtered

pub returns-clause-same : goal.returns-clause-same
returns-clause-same c = subst (λ (es : Named NamePlace). TellSame c.args.entries.now.items es) (sym (firsts c)) (told_by_firsts c.args.entries.now.items)

pub returns-clause-rise : goal.returns-clause-rise
returns-clause-rise c = subst (λ (es : Named NamePlace). Rise es) (sym (firsts c)) (firsts_rise c.args.entries.now.items c.requires)
