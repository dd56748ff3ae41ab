-- What is found in a `select` statement.
use Rattle.std.proofs.Common.{inl, inr, ◌≡◌, ◌∙◌, ◌⊎◌, ℕ, Bool, true, false, ◌&&◌, List, [], ◌∷◌, Option, ap, subst}
use Rattle.go_base.specs.Lists.{Each}
use Rattle.go_nested_statements.specs.go_flat_statements.Judging.{JudgesKind}
use Rattle.go_judged.specs.Judging.{Among, Finds, Judges, JudgesTo, both, found}
use Rattle.go_judged.specs.declared.judged.Judged.{Judged}
use Rattle.go_judged.proofs.Found.{found_typed}
use Rattle.go_judged.proofs.Joining.{reaches_by, so_decided}
use Rattle.go_switch_statements.specs.Selecting.{InSelectCase, IsTypedSelectCase}
use Rattle.go_nested_statements.proofs.Headed.{of_begins, to_begins}
use Rattle.go_local_scopes.proofs.Standing.{reached, unreached}
use Rattle.go_rules.specs.Environments.{Env}
use Rattle.go_selectors.specs.Answers.{Decides}
use Rattle.go_statement_rules.specs.Bodies.{IsTypedRun}
use Rattle.go_statement_rules.specs.Functions.{Enclosing, Run, run}
use Rattle.go_statement_rules.specs.Scopes.{Scopes, opened}
use Rattle.go_statement_rules.specs.Statements.{AreSelectCases, AreTyped, Begins, Leaves, leaves_select, select_cases_more, select_cases_none}
use Rattle.go_statement_rules.proofs.OneRun.{begins_once}
use Rattle.go_syntax.specs.declared.statement.LiteralBlock.{LiteralBlock}
use Rattle.go_syntax.specs.declared.statement.SelectCase.{SelectCase, out-SelectCase}
use Rattle.go_syntax.specs.declared.statement.StmtKind.{StmtKind-F}
use Rattle.go_untyped_places.specs.Parts.{IsLone}
use Rattle.go_untyped_places.proofs.Surveying.{survey_as, survey_both}
use Rattle.go_walks.specs.Standing.{Stays}

select_parts : {E : Env} {blocks : List LiteralBlock} {r : Enclosing} {s u : Scopes} {cs : List SelectCase} → Leaves E blocks r s (StmtKind-F.Select cs) u → AreSelectCases E blocks r s cs
select_parts (leaves_select h) = h

module _ (E : Env) (blocks : List LiteralBlock) (r : Enclosing) (s : Scopes) where
  module _ (c : SelectCase) where
    abbrev Lone : Run → Type 0
    Lone v = IsLone E blocks r (opened s) (out-SelectCase c).communication v

    abbrev Begun : Scopes → Type 0
    Begun t = Begins E blocks r s (out-SelectCase c).communication t

    untyped : (a : Bool) → a ≡ false → (IsTypedSelectCase E blocks r s c → ⊥) → Decides a (IsTypedSelectCase E blocks r s c)
    untyped true e n = absurd (cc)
    untyped false e n = n

    pub select_case_failed : (t : Scopes) (a : Judged) → a.typed ≡ false → JudgesTo E blocks (Stays E blocks r (opened s) (out-SelectCase c).communication) t Lone a → Judges E blocks (IsTypedSelectCase E blocks r s c) (InSelectCase E blocks r s c) a
    select_case_failed t a f j =
        let none = unreached (Stays E blocks r (opened s) (out-SelectCase c).communication) t a.typed f j.0 in
        let begins_none = λ (u : Scopes) (b : Begun u). none u (of_begins E blocks r s (out-SelectCase c).communication u b) in
        (untyped a.typed f (λ h. begins_none h.0 h.2), survey_as E blocks Lone (InSelectCase E blocks r s c) a.place (λ v l. inl l) (λ v h. elim h [ inl l ↦ l | inr k ↦ absurd (begins_none k.0 k.1) ]) j.1)

    both_typed : (T : Type 0) (a b : Bool) → a ≡ true → Decides b T → (T → IsTypedSelectCase E blocks r s c) → (IsTypedSelectCase E blocks r s c → T) → Decides (a && b) (IsTypedSelectCase E blocks r s c)
    both_typed T false b e d to from = absurd (cc)
    both_typed T true b e d to from = and_true b (so_decided T (IsTypedSelectCase E blocks r s c) b to from d)
      where
        and_true : (b : Bool) → Decides b (IsTypedSelectCase E blocks r s c) → Decides (true && b) (IsTypedSelectCase E blocks r s c)
        and_true true h = h
        and_true false h = h

    pub select_case_followed : (t u : Scopes) (a : Judged) (p : Option ℕ) → a.typed ≡ true → JudgesTo E blocks (Stays E blocks r (opened s) (out-SelectCase c).communication) t Lone a → Finds E blocks r t (out-SelectCase c).body u p
        → Judges E blocks (IsTypedSelectCase E blocks r s c) (InSelectCase E blocks r s c) (both a (found p))
    select_case_followed t u a p f j k =
        let b = to_begins E blocks r s (out-SelectCase c).communication t (reached (Stays E blocks r (opened s) (out-SelectCase c).communication) t a.typed f j.0) in
        let body = found_typed E blocks r t (out-SelectCase c).body u p k in (
          both_typed (IsTypedRun E blocks (run r t (out-SelectCase c).body)) a.typed (found p).typed f body.0 (λ y. (t, y.0, b, y.1)) (λ h. (h.1, subst (λ (z : Scopes). AreTyped E blocks r z (out-SelectCase c).body h.1) (begins_once E blocks h.2 b) h.3)),
          survey_as E blocks (λ v. Lone v ⊎ (v ≡ run r t (out-SelectCase c).body)) (InSelectCase E blocks r s c) (both a (found p)).place (λ v h. elim h [ inl l ↦ inl l | inr e ↦ inr (t, b, e) ])
              (λ v h. elim h [ inl l ↦ inl l | inr m ↦ inr (m.2 ∙ ap (λ (z : Scopes). run r z (out-SelectCase c).body) (begins_once E blocks m.1 b)) ])
              (survey_both E blocks Lone (λ v. v ≡ run r t (out-SelectCase c).body) a.place (found p).place j.1 body.1),
        )

  to_cases : (cs : List SelectCase) → Each (IsTypedSelectCase E blocks r s) cs → AreSelectCases E blocks r s cs
  to_cases [] h = select_cases_none
  to_cases (c ∷ cs) h = select_cases_more h.0.2 h.0.3 (to_cases cs h.1)

  of_cases : (cs : List SelectCase) → AreSelectCases E blocks r s cs → Each (IsTypedSelectCase E blocks r s) cs
  of_cases [] h = tt
  of_cases (c ∷ cs) (select_cases_more {t = t} {last = last} b y rest) = ((t, last, b, y), of_cases cs rest)

  of_select : (cs : List SelectCase) (u : Scopes) → Leaves E blocks r s (StmtKind-F.Select cs) u → Each (IsTypedSelectCase E blocks r s) cs
  of_select cs u l = of_cases cs (select_parts l)

  pub select_judged : (cs : List SelectCase) (j : Judged) → Judges E blocks (Each (IsTypedSelectCase E blocks r s) cs) (Among (InSelectCase E blocks r s) cs) j → JudgesKind E blocks r s (StmtKind-F.Select cs) s j
  select_judged cs j k =
      (reaches_by (Each (IsTypedSelectCase E blocks r s) cs) (Leaves E blocks r s (StmtKind-F.Select cs)) s j.typed (λ h. leaves_select (to_cases cs h)) (of_select cs) k.0, k.1)
