use Rattle.go_declarations.specs.Forms.{form_of}
use Rattle.go_type_terms.specs.Answers.{env_in}
use Rattle.go_declaration_asks.proofs.ToldAsks.{asks_decided, asks_not}
use Rattle.go_declaration_asks.proofs.asks.asks.Goals as goal

pub returns-then-not-branch : goal.returns-then-not-branch
returns-then-not-branch c = λ u number named placed told. asks_not (env_in c.args.context.now) u number c.args.package_name.now named placed c.args.base (form_of c.args.form) told c.in_ok-form_meets.field-0 c.if-not-branch.true c.in_ok-form_meets.ensures

pub returns : goal.returns
returns c = λ u number named placed told. asks_decided (env_in c.args.context.now) u number c.args.package_name.now named placed c.args.base (form_of c.args.form) told c.in_ok-form_meets.field-0 c.in_ok-met.met c.if-not-branch.false c.in_ok-form_meets.ensures c.in_ok-met.ensures
