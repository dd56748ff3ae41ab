-- What is found in an expression switch.
use Rattle.std.proofs.Common.{inl, inr, ◌≡◌, ◌∙◌, ◌⊎◌, Bool, true, false, ◌&&◌, List, [], ◌∷◌, map, Option, None, Some, refl, sym, ap, subst}
use Rattle.go_base.specs.Lists.{Each}
use Rattle.go_type_switches.specs.go_clauses.Clauses.{AreCasesOf, IsTagOf, tag_of}
use Rattle.go_nested_statements.specs.go_flat_statements.Judging.{JudgesKind}
use Rattle.go_nested_statements.proofs.go_flat_statements_proofs.MetTrees.{met_own, met_parts, met_whole, own_met}
use Rattle.go_judged.specs.Judging.{Among, Judges, JudgesTo, both, tested, with_test}
use Rattle.go_judged.specs.declared.judged.Judged.{Judged}
use Rattle.go_judged.proofs.Joining.{judged_alone, judged_as, judged_both, judged_test, so_false, so_reached, so_true}
use Rattle.go_model.specs.declared.types.package.ConstTerm.{ConstTerm}
use Rattle.go_model.specs.declared.types.package.ConstTerm.TheVariants as constant
use Rattle.go_model.specs.declared.types.term.Term.{Term}
use Rattle.go_switch_statements.specs.Casing.{AreValues, InTagged, InValues, IsTypedCase, IsTypedTagged, Tags}
use Rattle.go_nested_statements.proofs.Behind.{Opens, opening_failed, opening_followed}
use Rattle.go_nested_statements.proofs.Headed.{of_begins, to_begins}
use Rattle.go_rules.specs.Asks.{Meets}
use Rattle.go_rules.specs.Environments.{Env}
use Rattle.go_rules.specs.Nodes.{expression}
use Rattle.go_rules.specs.Operands.{default_type}
use Rattle.go_rules.specs.declared.operand.Operand.{Operand}
use Rattle.go_rules.proofs.OneKind.{const_in, typed}
use Rattle.go_rules.proofs.OneName.{none_some}
use Rattle.go_rules.proofs.OneOperand.{has_once}
use Rattle.go_selectors.specs.Answers.{Decides}
use Rattle.go_statement_rules.specs.Clauses.{IsTag, no_tag, tag}
use Rattle.go_statement_rules.specs.Contexts.{Switches, switches}
use Rattle.go_statement_rules.specs.Functions.{Enclosing, Run, run}
use Rattle.go_statement_rules.specs.Scopes.{Scopes, opened, within}
use Rattle.go_statement_rules.specs.Statements.{AreCases, Begins, IsTypedBlock, KindLayer, Leaves, cases_default, cases_none, cases_values, leaves_switch, tag_nodes}
use Rattle.go_statement_rules.proofs.OneRun.{begins_once}
use Rattle.go_syntax.specs.declared.expression.Expr.{Expr}
use Rattle.go_syntax.specs.declared.statement.Case.{Case, out-Case}
use Rattle.go_syntax.specs.declared.statement.LiteralBlock.{LiteralBlock}
use Rattle.go_syntax.specs.declared.statement.Stmt.{Stmt}
use Rattle.go_syntax.specs.declared.statement.StmtKind.{StmtKind-F}
use Rattle.go_typings.specs.Initializers.{TypeOfValue, default_of_constant, default_of_truth, own_type}
use Rattle.go_untyped_places.specs.LiteralRuns.{IsLiteralRun}
use Rattle.go_untyped_places.specs.Parts.{InCase, IsLone, IsPart}
use Rattle.go_untyped_places.specs.Surveys.{Surveyed}
use Rattle.go_untyped_places.proofs.Surveying.{survey_as}
use Rattle.go_walks.specs.Literals.{LiteralsTyped}
use Rattle.go_walks.specs.Standing.{Stays}

-- ---- one tag

abbrev of_const : ConstTerm → Term
of_const (constant.OfTerm t) = t
of_const (constant.OfKind k) = default_type k

value_term : {E : Env} {o : Operand} {t : Term} → TypeOfValue E o t → of_const (const_in o.shape) ≡ t
value_term (own_type h) = ap of_const (typed h)
value_term (default_of_constant h) = refl
value_term default_of_truth = refl

tag_once : (E : Env) (e : Option Expr) {t u : Term} → IsTag E e t → IsTag E e u → t ≡ u
tag_once E None no_tag no_tag = refl
tag_once E (Some e) (tag {o = o} h v) (tag {o = p} k w) = sym (value_term v) ∙ ap (λ (z : Operand). of_const (const_in z.shape)) (has_once E h k) ∙ value_term w

same_values : {xs ys : List Expr} → Some xs ≡ Some ys → xs ≡ ys
same_values e = cc

tag_met : (F : Env) (x : Option Expr) → Each (Meets F) (tag_nodes x) → Each (λ y. Meets F (expression y)) (tag_of x)
tag_met F None h = tt
tag_met F (Some y) h = (h.0, tt)

met_tag : (F : Env) (x : Option Expr) → Each (λ y. Meets F (expression y)) (tag_of x) → Each (Meets F) (tag_nodes x)
met_tag F None h = tt
met_tag F (Some y) h = (h.0, tt)

module _ (E : Env) (blocks : List LiteralBlock) (r : Enclosing) where
  -- ---- a clause

  module _ (s : Scopes) (u : Term) where
    module _ (es : List Expr) where
      abbrev Own : Type 0
      Own = LiteralsTyped E blocks r s (map expression es)

      to_values : Own × AreCasesOf (within E s) u es → AreValues E blocks r s u (Some es)
      to_values h = (h.1.0, met_whole E blocks r (within E s) s (map expression es) (met_own (within E s) es h.1.1) h.0)

      of_values : AreValues E blocks r s u (Some es) → Own × AreCasesOf (within E s) u es
      of_values h = let parts = met_parts E blocks r (within E s) s (map expression es) h.1 in (parts.1, (h.0, own_met (within E s) es parts.0))

      pub values_judged : (j : Judged) (b : Bool) → Judges E blocks Own (IsLiteralRun E blocks r s (map expression es)) j → Decides b (AreCasesOf (within E s) u es) → Judges E blocks (AreValues E blocks r s u (Some es)) (InValues E blocks r s (Some es)) (with_test j b)
      values_judged j b k d =
          judged_as E blocks (Own × AreCasesOf (within E s) u es) (AreValues E blocks r s u (Some es)) (IsLiteralRun E blocks r s (map expression es)) (InValues E blocks r s (Some es)) (with_test j b) to_values of_values
          (λ v l. (es, refl, l)) (λ v l. subst (λ (xs : List Expr). IsLiteralRun E blocks r s (map expression xs) v) (sym (same_values l.1)) l.2)
          (judged_test E blocks Own (AreCasesOf (within E s) u es) (IsLiteralRun E blocks r s (map expression es)) j b k d)

    pub no_values_judged : Judges E blocks (AreValues E blocks r s u None) (InValues E blocks r s None) (tested true)
    no_values_judged = judged_alone E blocks (Unit {0}) (InValues E blocks r s None) true tt (λ v l. none_some l.1)

    pub case_judged : (c : Case) (a b : Judged) → Judges E blocks (AreValues E blocks r s u (out-Case c).values) (InValues E blocks r s (out-Case c).values) a → Judges E blocks (IsTypedBlock E blocks r s (out-Case c).body) (λ v. v ≡ run r (opened s) (out-Case c).body) b
        → Judges E blocks (IsTypedCase E blocks r s u c) (InCase E blocks r s c) (both a b)
    case_judged c a b j k = judged_both E blocks (AreValues E blocks r s u (out-Case c).values) (IsTypedBlock E blocks r s (out-Case c).body) (InValues E blocks r s (out-Case c).values) (λ v. v ≡ run r (opened s) (out-Case c).body) a b j k

    one_case : (c : Case) (cs : List Case) (xs : Option (List Expr)) → (out-Case c).values ≡ xs → AreValues E blocks r s u xs → IsTypedBlock E blocks r s (out-Case c).body → AreCases E blocks r s u cs → AreCases E blocks r s u (c ∷ cs)
    one_case c cs None e h d rest = cases_default e d rest
    one_case c cs (Some es) e h d rest = cases_values e h.0 h.1 d rest

    to_cases : (cs : List Case) → Each (IsTypedCase E blocks r s u) cs → AreCases E blocks r s u cs
    to_cases [] h = cases_none
    to_cases (c ∷ cs) h = one_case c cs (out-Case c).values refl h.0.0 h.0.1 (to_cases cs h.1)

    of_cases : (cs : List Case) → AreCases E blocks r s u cs → Each (IsTypedCase E blocks r s u) cs
    of_cases [] h = tt
    of_cases (c ∷ cs) (cases_default e d rest) = ((subst (AreValues E blocks r s u) (sym e) tt, d), of_cases cs rest)
    of_cases (c ∷ cs) (cases_values e h m d rest) = ((subst (AreValues E blocks r s u) (sym e) (h, m), d), of_cases cs rest)

  -- ---- the tag and the clauses

  module _ (t : Scopes) (e : Option Expr) (cs : List Case) where
    abbrev Literals : Type 0
    Literals = LiteralsTyped E blocks r t (tag_nodes e)

    abbrev InTag : Run → Type 0
    InTag v = IsLiteralRun E blocks r t (tag_nodes e) v

    abbrev Whole : Type 0
    Whole = IsTypedTagged E blocks r t e cs

    abbrev InWhole : Run → Type 0
    InWhole v = InTagged E blocks r t e cs v

    literals_of : (u : Term) → Tags E blocks r t e u → Literals
    literals_of u g = (met_parts E blocks r (within E t) t (tag_nodes e) g.1).1

    tag_of_met : (u : Term) → Tags E blocks r t e u → IsTagOf (within E t) e u
    tag_of_met u g = (g.0, tag_met (within E t) e (met_parts E blocks r (within E t) t (tag_nodes e) g.1).0)

    met_of_tag : (u : Term) → IsTagOf (within E t) e u → Literals → Tags E blocks r t e u
    met_of_tag u g l = (g.0, met_whole E blocks r (within E t) t (tag_nodes e) (met_tag (within E t) e g.1) l)

    last_false : (a : Bool) → (Whole → ⊥) → Decides (a && false) Whole
    last_false true n = n
    last_false false n = n

    module _ (a : Judged) (j : Judges E blocks Literals InTag a) where
      tag_alone : ((u : Term) → Tags E blocks r t e u → ⊥) → (b : Judged) → b.place ≡ a.place → Decides b.typed Whole → Judges E blocks Whole InWhole b
      tag_alone none b p d = (d, subst (Surveyed E blocks InWhole) (sym p) (survey_as E blocks InTag InWhole a.place (λ v l. inl l) (λ v h. elim h [ inl l ↦ l | inr m ↦ absurd (none m.0 m.1) ]) j.1))

      -- there is no tag
      pub untagged : ((u : Term) → IsTagOf (within E t) e u → ⊥) → Judges E blocks Whole InWhole (with_test a false)
      untagged none = tag_alone (λ u g. none u (tag_of_met u g)) (with_test a false) refl (last_false a.typed (λ h. none h.0 (tag_of_met h.0 h.1)))

      -- a function literal in it isn't typed
      pub tag_unliteral : a.typed ≡ false → Judges E blocks Whole InWhole a
      tag_unliteral f =
          let none = so_false Literals a.typed f j.0 in
          tag_alone (λ u g. none (literals_of u g)) a refl (subst (λ (z : Bool). Decides z Whole) (sym f) (λ h. none (literals_of h.0 h.1)))

      pub tag_followed : (u : Term) → IsTagOf (within E t) e u → a.typed ≡ true → (b : Judged) → Judges E blocks (Each (IsTypedCase E blocks r t u) cs) (Among (InCase E blocks r t) cs) b → Judges E blocks Whole InWhole (both a b)
      tag_followed u g f b k =
          let l = so_true Literals a.typed f j.0 in
          let tags = met_of_tag u g l in
          judged_as E blocks (Literals × Each (IsTypedCase E blocks r t u) cs) Whole (λ v. InTag v ⊎ Among (InCase E blocks r t) cs v) InWhole (both a b)
          (λ h. (u, tags, to_cases t u cs h.1))
          (λ h. (l, of_cases t u cs (subst (λ (z : Term). AreCases E blocks r t z cs) (tag_once (within E t) e h.1.0 g.0) h.2)))
          (λ v h. elim h [ inl p ↦ inl p | inr q ↦ inr (u, tags, q.0, q.1, q.2) ]) (λ v h. elim h [ inl p ↦ inl p | inr q ↦ inr (q.2, q.3, q.4) ])
          (judged_both E blocks Literals (Each (IsTypedCase E blocks r t u) cs) InTag (Among (InCase E blocks r t) cs) a b j k)

  -- ---- behind the statement of the header

  switch_parts : {s v : Scopes} {init : Option Stmt} {e : Option Expr} {cs : List Case} → Leaves E blocks r s (StmtKind-F.Switch init e cs) v → (t : Scopes) × Begins E blocks r s init t × IsTypedTagged E blocks r t e cs
  switch_parts (leaves_switch {t = t} {u = u} b g m c) = (t, b, (u, (g, m), c))

  module _ (s : Scopes) (init : Option Stmt) (e : Option Expr) (cs : List Case) where
    abbrev Kind : KindLayer
    Kind = StmtKind-F.Switch init e cs

    abbrev Begun : Scopes → Type 0
    Begun t = Begins E blocks r s init t

    abbrev Lone : Run → Type 0
    Lone v = IsLone E blocks r (opened s) init v

    abbrev Behind : Scopes → Type 0
    Behind t = IsTypedTagged E blocks r t e cs

    abbrev InBehind : Scopes → Run → Type 0
    InBehind t v = InTagged E blocks r t e cs v

    to_switch : (t : Scopes) → Begun t → Behind t → Leaves E blocks r s Kind s
    to_switch t b h = leaves_switch b h.1.0 h.1.1 h.2

    of_switch : (u : Scopes) → Leaves E blocks r s Kind u → (t : Scopes) × Begun t × Behind t
    of_switch u l = switch_parts l

    tagged_by : (t : Scopes) → Switches E blocks r s init e t → Begun t × ((u : Term) × Tags E blocks r t e u)
    tagged_by t (switches {u = u} b g m) = (b, (u, (g, m)))

    to_part : (v : Run) → Lone v ⊎ ((t : Scopes) × Begun t × InBehind t v) → IsPart E blocks r s Kind v
    to_part v (inl l) = inl l
    to_part v (inr (t, b, inl l)) = inr (inl (t, b, l))
    to_part v (inr (t, b, inr (u, g, c, i, k))) = inr (inr (t, switches b g.0 g.1, c, i, k))

    of_part : (v : Run) → IsPart E blocks r s Kind v → Lone v ⊎ ((t : Scopes) × Begun t × InBehind t v)
    of_part v (inl l) = inl l
    of_part v (inr (inl (t, b, l))) = inr (t, b, inl l)
    of_part v (inr (inr (t, w, c, i, k))) = let g = tagged_by t w in inr (t, g.0, inr (g.1.0, g.1.1, c, i, k))

    opens : Opens E blocks r s Kind Begun Behind Lone InBehind
    opens = record { once = λ t u a b. begins_once E blocks a b; leaves_in = to_switch; leaves_by = of_switch; part_in = to_part; part_by = of_part }

    begun : (t : Scopes) (h : Judged) → JudgesTo E blocks (Stays E blocks r (opened s) init) t Lone h → JudgesTo E blocks Begun t Lone h
    begun t h j = (so_reached (Stays E blocks r (opened s) init) Begun t h.typed (to_begins E blocks r s init t) (of_begins E blocks r s init) j.0, j.1)

    pub switch_failed : (t : Scopes) (h : Judged) → h.typed ≡ false → JudgesTo E blocks (Stays E blocks r (opened s) init) t Lone h → JudgesKind E blocks r s Kind s h
    switch_failed t h f j = opening_failed E blocks r s Kind Begun Behind Lone InBehind opens t h f (begun t h j)

    pub switch_followed : (t : Scopes) (h b : Judged) → h.typed ≡ true → JudgesTo E blocks (Stays E blocks r (opened s) init) t Lone h → Judges E blocks (Behind t) (InBehind t) b → JudgesKind E blocks r s Kind s (both h b)
    switch_followed t h b f j k = opening_followed E blocks r s Kind Begun Behind Lone InBehind opens t h b f (begun t h j) k
