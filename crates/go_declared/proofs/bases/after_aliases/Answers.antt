use Rattle.std.proofs.Common.{None, Some, ap, sym, ◌∙◌}
use Rattle.go_declared.proofs.AliasWalks.{after_named, after_qualified, end_by}
use Rattle.go_declared.proofs.bases.after_aliases.Goals as goal

pub returns-then-is_some : goal.returns-then-is_some
returns-then-is_some c = λ ds are told. after_qualified ds c.args.name.now (sym c.is_some.ensures ∙ c.if-is_some.true)

pub returns-in-None : goal.returns-in-None
returns-in-None c = λ ds are told.
    after_named ds c.args.names.now are c.args.ends.now told c.args.name.now None (sym c.is_some.ensures ∙ c.if-is_some.false)
    (ap (end_by c.args.ends.now) (sym c.get.ensures ∙ c.in-None.is))

pub returns-in-None-name_at : goal.returns-in-None-name_at
returns-in-None-name_at c = λ ds are told.
    after_named ds c.args.names.now are c.args.ends.now told c.args.name.now None (sym c.is_some.ensures ∙ c.if-is_some.false)
    (ap (end_by c.args.ends.now) (sym c.get.ensures ∙ c.in-Some.is) ∙ sym c.in-None-name_at.ensures)

pub returns-in-Some-name_at : goal.returns-in-Some-name_at
returns-in-Some-name_at c = λ ds are told.
    after_named ds c.args.names.now are c.args.ends.now told c.args.name.now (Some c.in-Some-name_at.end.now) (sym c.is_some.ensures ∙ c.if-is_some.false)
    (ap (end_by c.args.ends.now) (sym c.get.ensures ∙ c.in-Some.is) ∙ sym c.in-Some-name_at.ensures)
