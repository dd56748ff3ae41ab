use Rattle.std.proofs.Common.{◌≡◌, List, ℕ, Option, option_map, sym, subst, refl, true}
use denote.Ref.{Bor}
use Rattle.go_model.specs.files.Headers.{IsPackageName, IsClause}
use Rattle.go_tags.proofs.OneClause.{clause_run}
use Rattle.go_tags.proofs.clause.clause_name.Goals as goal

pub returns-in_err-past_keyword : goal.returns-in_err-past_keyword
returns-in_err-past_keyword c =
    subst (λ (r : Option (Bor (List ℕ))). IsClause c.args.bytes.now (option_map (λ n. n.now) r)) (sym c.from_residual.ensures)
    (λ name b. c.in_err-past_keyword.ensures.none refl b.behind (b.keyword, b.apart))

pub returns-else-is_package_name : goal.returns-else-is_package_name
returns-else-is_package_name c name b =
    let same = clause_run c.args.bytes.now c.in_ok-past_keyword.field-0.now c.past_front-rest.ensures.0 c.past_front-rest.result.now c.run_len.result c.in_ok-past_keyword.ensures.some c.past_front-rest.ensures.1 c.run_len.ensures.run name b in
    let found : c.is_package_name.result ≡ true = c.is_package_name.ensures.1 (subst IsPackageName (sym same) b.is_name) in
    let missed = c.if-is_package_name.false in
    absurd (cc)
