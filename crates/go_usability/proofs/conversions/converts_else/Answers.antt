use Rattle.std.proofs.Common.{sym, ◌∙◌}
use Rattle.go_rules.specs.Scopes.{env_of}
use Rattle.go_usability.proofs.Assigning.{granted, refused}
use Rattle.go_usability.proofs.Converting.{converts_unentered, converts_interface, converts_other, converts_pointers}
use Rattle.go_usability.proofs.conversions.converts_else.Goals as goal

pub returns-then-are_pointers : goal.returns-then-are_pointers
returns-then-are_pointers c = converts_pointers (env_of c.args.context.now.env.now) c.args.from.now c.args.to.now c.requires.unassignable c.bases_entered.result (sym c.are_pointers.ensures ∙ c.if-are_pointers.true) c.requires.table c.bases_entered.ensures

pub returns-then-not-is_entered : goal.returns-then-not-is_entered
returns-then-not-is_entered c = converts_unentered (env_of c.args.context.now.env.now) c.args.from.now c.args.to.now c.requires.unassignable (sym c.are_pointers.ensures ∙ c.if-are_pointers.false) (λ x. (refused c.is_entered.result c.if-not-is_entered.true c.is_entered.ensures) x.0)

pub returns-then-not-is_entered-2 : goal.returns-then-not-is_entered-2
returns-then-not-is_entered-2 c = converts_unentered (env_of c.args.context.now.env.now) c.args.from.now c.args.to.now c.requires.unassignable (sym c.are_pointers.ensures ∙ c.if-are_pointers.false) (λ x. (refused c.is_entered-2.result c.if-not-is_entered-2.true c.is_entered-2.ensures) x.1)

pub returns-then-not-is_interface : goal.returns-then-not-is_interface
returns-then-not-is_interface c = converts_other (env_of c.args.context.now.env.now) c.args.from.now c.args.to.now c.requires.unassignable (sym c.are_pointers.ensures ∙ c.if-are_pointers.false) (granted c.is_entered.result c.if-not-is_entered.false c.is_entered.ensures) (granted c.is_entered-2.result c.if-not-is_entered-2.false c.is_entered-2.ensures) (sym c.is_interface.ensures ∙ c.if-not-is_interface.true) c.requires.table

pub returns : goal.returns
returns c = converts_interface (env_of c.args.context.now.env.now) c.args.from.now c.args.to.now c.requires.unassignable c.in_ok-answer.answer (sym c.are_pointers.ensures ∙ c.if-are_pointers.false) (granted c.is_entered.result c.if-not-is_entered.false c.is_entered.ensures) (granted c.is_entered-2.result c.if-not-is_entered-2.false c.is_entered-2.ensures) (sym c.is_interface.ensures ∙ c.if-not-is_interface.false) c.in_ok-answer.ensures
