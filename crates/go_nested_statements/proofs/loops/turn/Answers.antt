use Rattle.go_judged.specs.Judging.{both}
use Rattle.go_nested_statements.specs.Heads.{behind}
use Rattle.std.proofs.Common.{◌≡◌, ◌∙◌, Bool, refl, subst, sym}
use Rattle.go_nested_statements.proofs.loops.turn.Goals as goal

pub returns-then-not-typed : goal.returns-then-not-typed
returns-then-not-typed c = subst (λ (b : Bool). c.args.after ≡ behind b c.args.after c.args.body) (sym c.if-not-typed.true) refl

pub returns : goal.returns
returns c = c.both.ensures ∙ subst (λ (b : Bool). both c.args.after c.args.body ≡ behind b c.args.after c.args.body) (sym c.if-not-typed.false) refl
