use Rattle.std.proofs.Common.{◌≡◌, ◌<◌, ◌∙◌, Bool, List, ℕ, Option, Some, ap, arith, length, subst, sym}
use Rattle.std.proofs.lemmas.Result.{IfOk-weaker}
use Rattle.go_declarations.specs.Listings.{declarations_of}
use Rattle.go_exposed.specs.Causes.{HasToldCause}
use Rattle.go_exposed.specs.SkippedValues.{cause_of}
use Rattle.go_exposed.specs.declared.skipped.Cause.{Cause}
use Rattle.go_graphs.specs.Flags.{is_flagged}
use Rattle.go_left_out.proofs.ToldCauses.{inexact_cause, missing_cause, number_cause, other_cause}
use Rattle.go_left_out.specs.inner.Causes.{IsBy}
use Rattle.go_reach.specs.LeastOthers.{IsLeastOther}
use Rattle.go_typings.specs.Declarations.{Declaration, declarations}
use Rattle.go_import_uses.proofs.go_beyond_proofs.DecidedFlags.{listed_length}
use Rattle.go_left_out.proofs.causes.cause.Goals as goal

pub returns-then-is_number : goal.returns-then-is_number
returns-then-is_number c s u a lost same l are told =
    let w : c.args.number < length (declarations u) = (let e = ap length same in let m = listed_length c.args.declarations.now in omega (arith, l, e, m)) in
    number_cause s u a lost c.args.told.now told c.args.number w (ap (λ (xs : List Bool). is_flagged xs c.args.number) (sym c.deref.ensures.value) ∙ sym c.flag-is_number.ensures ∙ c.if-is_number.true)

pub returns-then-is_inexact : goal.returns-then-is_inexact
returns-then-is_inexact c s u a lost same l are told =
    let w : c.args.number < length (declarations u) = (let e = ap length same in let m = listed_length c.args.declarations.now in omega (arith, l, e, m)) in
    inexact_cause s u a lost c.args.told.now told c.args.number w (ap (λ (xs : List Bool). is_flagged xs c.args.number) (sym c.deref.ensures.value) ∙ sym c.flag-is_number.ensures ∙ c.if-is_number.false)
    (ap (λ (xs : List Bool). is_flagged xs c.args.number) (sym c.deref-2.ensures.value) ∙ sym c.flag-is_inexact.ensures ∙ c.if-is_inexact.true)

pub returns-then-is_missing : goal.returns-then-is_missing
returns-then-is_missing c s u a lost same l are told =
    let w : c.args.number < length (declarations u) = (let e = ap length same in let m = listed_length c.args.declarations.now in omega (arith, l, e, m)) in
    missing_cause s u a lost c.args.told.now told c.args.number w (ap (λ (xs : List Bool). is_flagged xs c.args.number) (sym c.deref.ensures.value) ∙ sym c.flag-is_number.ensures ∙ c.if-is_number.false)
    (ap (λ (xs : List Bool). is_flagged xs c.args.number) (sym c.deref-2.ensures.value) ∙ sym c.flag-is_inexact.ensures ∙ c.if-is_inexact.false)
    (ap (λ (xs : List Bool). is_flagged xs c.args.number) (sym c.deref-3.ensures.value) ∙ sym c.flag-is_missing.ensures ∙ c.if-is_missing.true)

pub returns-in-Some : goal.returns-in-Some
returns-in-Some c s u a lost same l are told =
    let w : c.args.number < length (declarations u) = (let e = ap length same in let m = listed_length c.args.declarations.now in omega (arith, l, e, m)) in
    let least = subst (λ (xs : List Bool). IsLeastOther c.row-row.result.now xs c.args.number (Some c.in-Some.other)) c.deref-4.ensures.value c.in-Some.ensures in
    IfOk-weaker c.by_other.result (IsBy (declarations_of c.args.declarations.now) c.in-Some.other) (λ (x : Cause). HasToldCause s u a lost c.args.number (cause_of x))
    (λ x by. other_cause s u a lost c.args.told.now told c.args.number w (ap (λ (xs : List Bool). is_flagged xs c.args.number) (sym c.deref.ensures.value) ∙ sym c.flag-is_number.ensures ∙ c.if-is_number.false)
    (ap (λ (xs : List Bool). is_flagged xs c.args.number) (sym c.deref-2.ensures.value) ∙ sym c.flag-is_inexact.ensures ∙ c.if-is_inexact.false)
    (ap (λ (xs : List Bool). is_flagged xs c.args.number) (sym c.deref-3.ensures.value) ∙ sym c.flag-is_missing.ensures ∙ c.if-is_missing.false) c.args.depends.now are c.in-Some.other x
    (subst (λ (r : List ℕ). IsLeastOther r c.args.told.now.beyond.items c.args.number (Some c.in-Some.other)) c.row-row.ensures least) (subst (λ (ds : List Declaration). IsBy ds c.in-Some.other x) (sym same) by))
    c.by_other.ensures
