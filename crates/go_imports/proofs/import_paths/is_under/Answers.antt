use Rattle.std.proofs.Common.{◌≡◌, length, get_or, sym, ◌∙◌, arith}
use mathlib.Core.Bool.{true≢false}
use Rattle.std.proofs.lemmas.Bool.Decides.{nat_tests}
use Rattle.go_imports.proofs.Paths.{not_under, under_same, under_more, under_not}
use Rattle.go_imports.proofs.import_paths.is_under.Goals as goal

pub returns-then-not-begins_with : goal.returns-then-not-begins_with
returns-then-not-begins_with c = (λ e. absurd (true≢false (sym e)), λ e. not_under c.args.path.now c.args.root.now (sym c.begins_with.ensures.value ∙ c.if-not-begins_with.true))

pub returns-then-path-root : goal.returns-then-path-root
returns-then-path-root c = (λ e. under_same c.args.path.now c.args.root.now (sym c.begins_with.ensures.value ∙ c.if-not-begins_with.false) c.if-path-root.true, λ e. absurd (true≢false e))

pub returns : goal.returns
returns c = (
  λ e. let b : get_or c.args.path.now (length c.args.root.now) 0 ≡ 47 = grind (arith, nat_tests, e) in
      under_more c.args.path.now c.args.root.now (sym c.begins_with.ensures.value ∙ c.if-not-begins_with.false) c.if-path-root.false b,
  λ e. under_not c.args.path.now c.args.root.now c.if-path-root.false (λ b. absurd (grind (arith, nat_tests, e, b))),
)
