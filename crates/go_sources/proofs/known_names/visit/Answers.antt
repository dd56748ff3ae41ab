use Rattle.std.proofs.Common.{ap, ◌∙◌, sym}
use Rattle.go_typings.specs.go_rules.Expressions.{is_blank}
use Rattle.go_sources.specs.inner.KnownNames.{keys_of, role_of}
use Rattle.go_sources.proofs.Barring.{barred_steps, free_steps}
use Rattle.go_sources.proofs.known_names.visit.Goals as goal

pub returns-then-is_free : goal.returns-then-is_free
returns-then-is_free c =
    free_steps c.args.place.file c.args.place.offset c.args.name.now (role_of c.args.role) (keys_of c.args.known.now) (keys_of c.declare.new.known) (ap is_blank (sym c.bytes.ensures) ∙ sym c.is_blank.ensures ∙ c.if-is_blank.false)
    (c.in_ok-is_free.ensures.free c.if-is_free.true) (c.in_ok-is_free.ensures.grows c.if-is_free.true)

pub returns-else-is_free : goal.returns-else-is_free
returns-else-is_free c =
    barred_steps c.args.place.file c.args.place.offset c.args.name.now (role_of c.args.role) (keys_of c.args.known.now) (keys_of c.declare.new.known) (ap is_blank (sym c.bytes.ensures) ∙ sym c.is_blank.ensures ∙ c.if-is_blank.false)
    (c.in_ok-is_free.ensures.barred c.if-is_free.false)
