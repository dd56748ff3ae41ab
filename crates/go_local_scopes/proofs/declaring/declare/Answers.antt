use Rattle.go_local_scopes.proofs.Declared.{blank_declared, nothing_declared}
use Rattle.go_local_scopes.proofs.Standing.{kept_none}
use Rattle.go_local_scopes.specs.Slots.{name_in}
use Rattle.go_rules.specs.Expressions.{is_blank}
use Rattle.go_statement_rules.specs.Scopes.{Declares}
use Rattle.go_syntax.specs.declared.name.Name.{Name}
use Rattle.std.proofs.Common.{◌∙◌, ◌∷◌, [], Option, ap, subst, sym}
use denote.Ref.{Bor}
use Rattle.go_local_scopes.proofs.declaring.declare.Goals as goal

pub returns-then-is_blank-clause-kept : goal.returns-then-is_blank-clause-kept
returns-then-is_blank-clause-kept c = kept_none c.args.env.now c.requires

pub returns-then-is_blank-clause-declared : goal.returns-then-is_blank-clause-declared
returns-then-is_blank-clause-declared c =
    let o = c.args.env.now.opened in
    let m = c.args.seen.now in
    subst (λ (z : Option (Bor Name)). Declares o (name_in z ∷ []) (m ∷ []) o) (sym c.in-Some.is) (blank_declared o c.in-Some.name.now m (ap is_blank (sym c.bytes.ensures) ∙ sym c.is_blank.ensures ∙ c.if-is_blank.true))

pub returns-in-None-clause-kept : goal.returns-in-None-clause-kept
returns-in-None-clause-kept c = kept_none c.args.env.now c.requires

pub returns-in-None-clause-declared : goal.returns-in-None-clause-declared
returns-in-None-clause-declared c =
    let o = c.args.env.now.opened in
    let m = c.args.seen.now in
    subst (λ (z : Option (Bor Name)). Declares o (name_in z ∷ []) (m ∷ []) o) (sym c.in-None.is) (nothing_declared o m)
