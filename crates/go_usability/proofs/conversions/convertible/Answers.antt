use Rattle.go_rules.specs.Scopes.{env_of}
use Rattle.go_usability.proofs.Assigning.{granted, refused}
use Rattle.go_usability.proofs.Converting.{converts_table}
use Rattle.go_usability.proofs.conversions.convertible.Goals as goal

pub returns-then-not-branch : goal.returns-then-not-branch
returns-then-not-branch c = λ x. (refused c.in_ok-convertible.field-0 c.if-not-branch.true c.in_ok-convertible.ensures) (converts_table (env_of c.args.context.now.env.now) c.args.from.now c.args.to.now x)

pub converts_else-requires : goal.converts_else-requires
converts_else-requires c = record {
  table = granted c.in_ok-convertible.field-0 c.if-not-branch.false c.in_ok-convertible.ensures;
  unassignable = refused c.in_ok-assignable.field-0 c.if-branch.false c.in_ok-assignable.ensures;
}
