-- Headers: a statement that may be left out, and what stands behind it.
use Rattle.std.proofs.Common.{inl, inr, ◌≡◌, ◌⊎◌, Bool, true, false, List, [], ◌∷◌, Option, None, Some, refl, sym, subst}
use Rattle.go_clauses.specs.Clauses.{IsConditionOf}
use Rattle.go_judged.specs.Judging.{Judges, JudgesTo, both, tested, with_test}
use Rattle.go_judged.specs.declared.judged.Judged.{Judged}
use Rattle.go_judged.proofs.Joining.{judged_alone, judged_as, judged_test}
use Rattle.go_nested_statements.specs.Heads.{InHead}
use Rattle.go_nested_statements.proofs.Behind.{both_reached, none_reached}
use Rattle.go_local_scopes.proofs.Standing.{reached, unreached}
use Rattle.go_rules.specs.Environments.{Env}
use Rattle.go_rules.specs.Nodes.{Node, expression}
use Rattle.go_selectors.specs.Answers.{Decides as Tells}
use Rattle.go_statement_rules.specs.Contexts.{Decides, decides}
use Rattle.go_statement_rules.specs.Functions.{Enclosing, Run}
use Rattle.go_statement_rules.specs.Scopes.{Scopes, opened, within}
use Rattle.go_statement_rules.specs.Statements.{Begins, IsCondition, LiteralsAreTyped, begins_alone, begins_with, condition, is_operand, no_condition, tag_nodes}
use Rattle.go_statement_rules.proofs.OneRun.{begins_once}
use Rattle.go_syntax.specs.declared.expression.Expr.{Expr}
use Rattle.go_syntax.specs.declared.statement.LiteralBlock.{LiteralBlock}
use Rattle.go_syntax.specs.declared.statement.Stmt.{Stmt}
use Rattle.go_untyped_places.specs.LiteralRuns.{IsLiteralRun}
use Rattle.go_untyped_places.specs.Parts.{InHeader, IsLone}
use Rattle.go_untyped_places.proofs.Surveying.{survey_as, survey_both}
use Rattle.go_flat_statements.specs.go_walks.Literals.{LiteralsTyped}
use Rattle.go_flat_statements.specs.go_walks.Standing.{Stays}

module _ (E : Env) (blocks : List LiteralBlock) (r : Enclosing) where
  -- ---- the literals of one tree

  pub one_literals : (s : Scopes) (n : Node) → LiteralsAreTyped E blocks r s n → LiteralsTyped E blocks r s (n ∷ [])
  one_literals s n l m (inl e) = subst (LiteralsAreTyped E blocks r s) e l
  one_literals s n l m (inr h) = absurd h

  -- ---- a condition

  to_condition : (s : Scopes) (e : Expr) → LiteralsTyped E blocks r s (expression e ∷ []) × IsConditionOf (within E s) e → IsCondition E blocks r s (Some e)
  to_condition s e h = condition (is_operand h.1.1 (h.0 (expression e) (inl refl))) h.1.2

  of_condition : (s : Scopes) (e : Expr) → IsCondition E blocks r s (Some e) → LiteralsTyped E blocks r s (expression e ∷ []) × IsConditionOf (within E s) e
  of_condition s e (condition {o = o} (is_operand h l) t) = (one_literals s (expression e) l, (o, h, t))

  pub condition_judged : (s : Scopes) (e : Expr) (j : Judged) (b : Bool) → Judges E blocks (LiteralsTyped E blocks r s (expression e ∷ [])) (IsLiteralRun E blocks r s (expression e ∷ [])) j → Tells b (IsConditionOf (within E s) e)
      → Judges E blocks (IsCondition E blocks r s (Some e)) (IsLiteralRun E blocks r s (tag_nodes (Some e))) (with_test j b)
  condition_judged s e j b k d =
      judged_as E blocks (LiteralsTyped E blocks r s (expression e ∷ []) × IsConditionOf (within E s) e) (IsCondition E blocks r s (Some e)) (IsLiteralRun E blocks r s (expression e ∷ [])) (IsLiteralRun E blocks r s (tag_nodes (Some e))) (with_test j b)
      (to_condition s e) (of_condition s e) (λ v h. h) (λ v h. h)
      (judged_test E blocks (LiteralsTyped E blocks r s (expression e ∷ [])) (IsConditionOf (within E s) e) (IsLiteralRun E blocks r s (expression e ∷ [])) j b k d)

  pub no_condition_judged : (s : Scopes) → Judges E blocks (IsCondition E blocks r s None) (IsLiteralRun E blocks r s (tag_nodes None)) (tested true)
  no_condition_judged s = judged_alone E blocks (IsCondition E blocks r s None) (IsLiteralRun E blocks r s []) true no_condition (λ v h. h.among)

  -- ---- the statement of a header

  begins_where : (s : Scopes) (x : Option Stmt) (t : Scopes) → Stays E blocks r (opened s) x t → Begins E blocks r s x t
  begins_where s None t e = subst (Begins E blocks r s None) (sym e) begins_alone
  begins_where s (Some x) t l = begins_with l

  stays_where : (s : Scopes) (x : Option Stmt) (t : Scopes) → Begins E blocks r s x t → Stays E blocks r (opened s) x t
  stays_where s None t begins_alone = refl
  stays_where s (Some x) t (begins_with l) = l

  module _ (s : Scopes) (init : Option Stmt) where
    pub to_begins : (t : Scopes) → Stays E blocks r (opened s) init t → Begins E blocks r s init t
    to_begins t h = begins_where s init t h

    pub of_begins : (t : Scopes) → Begins E blocks r s init t → Stays E blocks r (opened s) init t
    of_begins t b = stays_where s init t b

    -- the literals behind it
    pub to_header : (t : Scopes) (ns : List Node) → Begins E blocks r s init t → (v : Run) → IsLiteralRun E blocks r t ns v → InHeader E blocks r s init ns v
    to_header t ns b v l = (t, b, l)

    pub of_header : (t : Scopes) (ns : List Node) → Begins E blocks r s init t → (v : Run) → InHeader E blocks r s init ns v → IsLiteralRun E blocks r t ns v
    of_header t ns b v h = subst (λ (z : Scopes). IsLiteralRun E blocks r z ns v) (begins_once E blocks h.1 b) h.2

    -- ---- a condition behind it

    module _ (e : Option Expr) (t : Scopes) where
      abbrev Decided : Scopes → Type 0
      Decided u = Decides E blocks r s init e u

      begun : (u : Scopes) → Decided u → Begins E blocks r s init u
      begun u (decides b c) = b

      conditioned : (u : Scopes) → Decided u → IsCondition E blocks r u e
      conditioned u (decides b c) = c

      pub decided_failed : (a : Judged) → a.typed ≡ false → JudgesTo E blocks (Stays E blocks r (opened s) init) t (IsLone E blocks r (opened s) init) a → (u : Scopes) → JudgesTo E blocks Decided u (InHead E blocks r s init (tag_nodes e)) a
      decided_failed a f j u =
          let none = unreached (Stays E blocks r (opened s) init) t a.typed f j.0 in (
            none_reached Decided u a.typed f (λ w d. none w (of_begins w (begun w d))),
            survey_as E blocks (IsLone E blocks r (opened s) init) (InHead E blocks r s init (tag_nodes e)) a.place (λ v l. inl l) (λ v h. elim h [ inl l ↦ l | inr k ↦ absurd (none k.0 (of_begins k.0 k.1)) ]) j.1,
          )

      pub decided_both : (a b : Judged) → a.typed ≡ true → JudgesTo E blocks (Stays E blocks r (opened s) init) t (IsLone E blocks r (opened s) init) a → Judges E blocks (IsCondition E blocks r t e) (IsLiteralRun E blocks r t (tag_nodes e)) b
          → JudgesTo E blocks Decided t (InHead E blocks r s init (tag_nodes e)) (both a b)
      decided_both a b f j k =
          let there = to_begins t (reached (Stays E blocks r (opened s) init) t a.typed f j.0) in (
            both_reached Decided (IsCondition E blocks r t e) t a.typed b.typed f k.0 (decides there) (λ u d. subst (λ (z : Scopes). IsCondition E blocks r z e) (begins_once E blocks (begun u d) there) (conditioned u d)),
            survey_as E blocks (λ v. IsLone E blocks r (opened s) init v ⊎ IsLiteralRun E blocks r t (tag_nodes e) v) (InHead E blocks r s init (tag_nodes e)) (both a b).place
                (λ v h. elim h [ inl l ↦ inl l | inr l ↦ inr (to_header t (tag_nodes e) there v l) ]) (λ v h. elim h [ inl l ↦ inl l | inr l ↦ inr (of_header t (tag_nodes e) there v l) ])
                (survey_both E blocks (IsLone E blocks r (opened s) init) (IsLiteralRun E blocks r t (tag_nodes e)) a.place b.place j.1 k.1),
          )

      -- decided in one list of scopes
      pub decided_once : (u w : Scopes) → Decided u → Decided w → u ≡ w
      decided_once u w c d = begins_once E blocks (begun u c) (begun w d)
