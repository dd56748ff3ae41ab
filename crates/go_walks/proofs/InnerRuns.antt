-- What is found in statements inside of others.
use Rattle.std.proofs.Common.{◌≡◌, ℕ, true, List, [], ◌∷◌, Option, None, Some, refl, sym, ap, ◌∙◌, subst}
use Rattle.go_judged.specs.Judging.{Finds, Judges, JudgesTo, found, tested}
use Rattle.go_judged.specs.declared.judged.Judged.{Judged}
use Rattle.go_judged.proofs.Found.{found_run, found_typed, leaves_one, one_leaves}
use Rattle.go_judged.proofs.Joining.{judged_as, so_reached}
use Rattle.go_rules.specs.Environments.{Env}
use Rattle.go_statement_rules.specs.Bodies.{IsTypedRun}
use Rattle.go_statement_rules.specs.Functions.{Enclosing, run}
use Rattle.go_statement_rules.specs.Scopes.{Scopes, opened}
use Rattle.go_statement_rules.specs.Statements.{AreTyped, IsTypedBlock, Leaves, kind_of, typed_block}
use Rattle.go_syntax.specs.declared.statement.LiteralBlock.{LiteralBlock}
use Rattle.go_syntax.specs.declared.statement.Stmt.{Stmt}
use Rattle.go_untyped_places.specs.Parts.{IsLone}
use Rattle.go_untyped_places.proofs.Surveying.{survey_as, survey_none}
use Rattle.go_walks.specs.Standing.{Stays}

no_stmt : {x : Stmt} → None ≡ Some x → ⊥
no_stmt e = absurd (cc)

same_stmt : {x y : Stmt} → Some x ≡ Some y → x ≡ y
same_stmt e = cc

module _ (E : Env) (blocks : List LiteralBlock) (r : Enclosing) (s : Scopes) where
  pub lone_found : (x : Stmt) (t : Scopes) (p : Option ℕ) → Finds E blocks r s (x ∷ []) t p → JudgesTo E blocks (Leaves E blocks r s (kind_of x)) t (λ v. v ≡ run r s (x ∷ [])) (found p)
  lone_found x t p f =
      let j = found_run E blocks r s (x ∷ []) t p f in
      (so_reached (AreTyped E blocks r s (x ∷ [])) (Leaves E blocks r s (kind_of x)) t (found p).typed (one_leaves E blocks r s x t) (λ u. leaves_one E blocks r s x u) j.0, j.1)

  pub some_stays : (x : Stmt) (t : Scopes) (j : Judged) → JudgesTo E blocks (Leaves E blocks r s (kind_of x)) t (λ v. v ≡ run r s (x ∷ [])) j → JudgesTo E blocks (Stays E blocks r s (Some x)) t (IsLone E blocks r s (Some x)) j
  some_stays x t j k = (k.0, survey_as E blocks (λ v. v ≡ run r s (x ∷ [])) (IsLone E blocks r s (Some x)) j.place (λ v e. (x, refl, e)) (λ v l. l.2 ∙ ap (λ (y : Stmt). run r s (y ∷ [])) (sym (same_stmt l.1))) k.1)

  pub none_stays : (t : Scopes) → t ≡ s → JudgesTo E blocks (Stays E blocks r s None) t (IsLone E blocks r s None) (tested true)
  none_stays t e = (e, survey_none E blocks (IsLone E blocks r s None) (λ v l. no_stmt l.1))

  pub none_judged : (t : Scopes) → t ≡ s → (j : Judged) → j ≡ tested true → JudgesTo E blocks (Stays E blocks r s None) t (IsLone E blocks r s None) j
  none_judged t e j h = subst (λ (k : Judged). JudgesTo E blocks (Stays E blocks r s None) t (IsLone E blocks r s None) k) (sym h) (none_stays t e)

  to_block : (ss : List Stmt) → IsTypedRun E blocks (run r (opened s) ss) → IsTypedBlock E blocks r s ss
  to_block ss y = typed_block y.1

  of_block : (ss : List Stmt) → IsTypedBlock E blocks r s ss → IsTypedRun E blocks (run r (opened s) ss)
  of_block ss (typed_block {t = t} a) = (t, a)

  pub block_found : (ss : List Stmt) (t : Scopes) (p : Option ℕ) → Finds E blocks r (opened s) ss t p → Judges E blocks (IsTypedBlock E blocks r s ss) (λ v. v ≡ run r (opened s) ss) (found p)
  block_found ss t p f =
      judged_as E blocks (IsTypedRun E blocks (run r (opened s) ss)) (IsTypedBlock E blocks r s ss) (λ v. v ≡ run r (opened s) ss) (λ v. v ≡ run r (opened s) ss) (found p) (to_block ss) (of_block ss) (λ v e. e) (λ v e. e)
      (found_typed E blocks r (opened s) ss t p f)
