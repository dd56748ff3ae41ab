use Rattle.go_local_scopes.proofs.Declared.{err_same, name_barred, name_declared, name_kept, ok_already}
use Rattle.go_local_scopes.proofs.Standing.{kept_none, kept_same}
use Rattle.go_rules.specs.Scopes.{is_declared, with_meaning}
use Rattle.std.proofs.Common.{◌∙◌, ap, sym}
use Rattle.go_local_scopes.proofs.declaring.declare_other.Goals as goal

pub returns-in_err-text-clause-kept : goal.returns-in_err-text-clause-kept
returns-in_err-text-clause-kept c = kept_none c.args.env.now c.requires

pub returns-in_err-meaning-clause-kept : goal.returns-in_err-meaning-clause-kept
returns-in_err-meaning-clause-kept c = kept_none c.args.env.now c.requires

pub returns-in-Ok-clause-kept : goal.returns-in-Ok-clause-kept
returns-in-Ok-clause-kept c =
    let e = c.args.env.now in
    let n = c.args.name.now in
    let m = c.args.seen.now in
    name_kept e c.requires n m c.declare.new.self
    (c.in-Ok.ensures.ok ∙ ap (λ t. with_meaning e t c.in_ok-meaning.meaning) c.in_ok-text.ensures ∙ ap (with_meaning e n.text) (c.in_ok-meaning.ensures ∙ c.meaning.ensures))

pub returns-in-Ok-clause-declared : goal.returns-in-Ok-clause-declared
returns-in-Ok-clause-declared c = λ b.
    let e = c.args.env.now in
    let n = c.args.name.now in
    let m = c.args.seen.now in
    name_declared e c.requires n m c.declare.new.self
    (c.in-Ok.ensures.ok ∙ ap (λ t. with_meaning e t c.in_ok-meaning.meaning) c.in_ok-text.ensures ∙ ap (with_meaning e n.text) (c.in_ok-meaning.ensures ∙ c.meaning.ensures)) b
    (λ h. ok_already (c.in-Ok.ensures.already.1 (ap (is_declared e) c.in_ok-text.ensures ∙ h)))

pub returns-in-Err-Already-clause-kept : goal.returns-in-Err-Already-clause-kept
returns-in-Err-Already-clause-kept c = kept_same c.args.env.now c.args.env.now c.declare.new.self c.in-Err-Already.ensures.err (kept_none c.args.env.now c.requires)

pub returns-in-Err-Already-clause-declared : goal.returns-in-Err-Already-clause-declared
returns-in-Err-Already-clause-declared c = λ b.
    let e = c.args.env.now in
    name_barred e c.requires c.args.name.now c.args.seen.now b
    (ap (is_declared e) (sym c.in_ok-text.ensures) ∙ c.in-Err-Already.ensures.already.0 (err_same c.in-Err-Already.field-0-is))

pub returns-in-Err-NoMemory-clause-kept : goal.returns-in-Err-NoMemory-clause-kept
returns-in-Err-NoMemory-clause-kept c = kept_same c.args.env.now c.args.env.now c.declare.new.self c.in-Err-NoMemory.ensures.err (kept_none c.args.env.now c.requires)
