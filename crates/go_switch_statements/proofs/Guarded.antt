-- What is found in a type switch.
use Rattle.std.proofs.Common.{inl, inr, ◌≡◌, ◌∙◌, ◌⊎◌, ◌≤◌, ℕ, Bool, true, false, ◌&&◌, List, [], ◌∷◌, Option, None, Some, Result, Ok, Err, arith, get_or, length, not, refl, sym, ap, subst}
use Rattle.std.specs.Prelude.{IfOk}
use Rattle.go_base.specs.Lists.{Each}
use Rattle.go_base.specs.declared.memory.NoMemory.{NoMemory}
use Rattle.go_type_switches.specs.go_clauses.Clauses.{IsGuardOf}
use Rattle.go_nested_statements.specs.go_flat_statements.Judging.{JudgesKind}
use Rattle.go_nested_statements.proofs.go_flat_statements_proofs.MetTrees.{met_parts, met_whole}
use Rattle.go_judged.specs.Judging.{Among, Finds, Judges, JudgesTo, both, found, tested, with_test}
use Rattle.go_judged.specs.declared.judged.Judged.{Judged}
use Rattle.go_judged.proofs.Found.{found_typed}
use Rattle.go_judged.proofs.Joining.{judged_alone, judged_as, judged_both, judged_test, no_typed, so_false, so_reached, so_true}
use Rattle.go_local_scopes.specs.States.{Reaches}
use Rattle.go_model.specs.declared.types.term.Term.{Term}
use Rattle.go_switch_statements.specs.Binding.{BoundRun, Guards, InGuarded, InTypeCase, IsTypedBound, IsTypedGuarded, IsTypedTypeCase, ListsMet}
use Rattle.go_nested_statements.proofs.Behind.{Opens, opening_failed, opening_followed}
use Rattle.go_nested_statements.proofs.Headed.{of_begins, one_literals, to_begins}
use Rattle.go_rules.specs.Environments.{Env}
use Rattle.go_rules.specs.Expressions.{is_blank}
use Rattle.go_rules.specs.Nodes.{expression}
use Rattle.go_rules.specs.Operands.{IsTyped}
use Rattle.go_rules.specs.declared.operand.Operand.{Operand}
use Rattle.go_rules.specs.declared.seen.Seen.TheVariants as seen
use Rattle.go_rules.proofs.OneKind.{one_type}
use Rattle.go_rules.proofs.OneOperand.{has_once}
use Rattle.go_selectors.specs.Answers.{Decides}
use Rattle.go_statement_rules.specs.Bodies.{IsTypedRun}
use Rattle.go_statement_rules.specs.Clauses.{bound_type}
use Rattle.go_statement_rules.specs.Contexts.{SwitchesTypes, switches_types}
use Rattle.go_statement_rules.specs.Functions.{Enclosing, Run, run}
use Rattle.go_statement_rules.specs.Scopes.{Declares, Scopes, opened, within}
use Rattle.go_statement_rules.specs.Statements.{AreListed, AreMet, AreTypeCases, Begins, KindLayer, Leaves, ListsClauses, NamesSomething, bound, is_operand, leaves_type_switch, listed_nodes, type_cases_more, type_cases_none}
use Rattle.go_statement_rules.proofs.OneRun.{begins_once, bound_once, listed_once}
use Rattle.go_syntax.specs.declared.expression.Expr.{Expr}
use Rattle.go_syntax.specs.declared.name.Name.{Name}
use Rattle.go_syntax.specs.declared.statement.LiteralBlock.{LiteralBlock}
use Rattle.go_syntax.specs.declared.statement.Stmt.{Stmt}
use Rattle.go_syntax.specs.declared.statement.StmtKind.{StmtKind-F}
use Rattle.go_syntax.specs.declared.statement.TypeCase.{TypeCase, out-TypeCase}
use Rattle.go_type_switches.specs.Switches.{AreClausesOf}
use Rattle.go_untyped_places.specs.LiteralRuns.{IsLiteralRun}
use Rattle.go_untyped_places.specs.Parts.{IsBound, IsLone, IsPart}
use Rattle.go_untyped_places.specs.Surveys.{Surveyed}
use Rattle.go_untyped_places.proofs.Surveying.{survey_as}
use Rattle.go_walks.specs.Literals.{LiteralsTyped}
use Rattle.go_walks.specs.Standing.{Stays}

module _ (E : Env) (blocks : List LiteralBlock) (r : Enclosing) (s : Scopes) (n : Option Name) where
  -- ---- the statements of a clause

  module _ (t : Term) (ss : List Stmt) where
    pub bound_none : (b : Bool) → b ≡ false → (u : Scopes) → Reaches b (bound n t s) u → Judges E blocks (IsTypedBound E blocks r s n t ss) (BoundRun r s n t ss) (tested false)
    bound_none true f u d = absurd (no_typed f)
    bound_none false f u d = judged_alone E blocks (IsTypedBound E blocks r s n t ss) (BoundRun r s n t ss) false (λ k. d k.1.0 k.1.1) (λ v k. d k.0 k.1)

    pub bound_found : (b : Bool) → b ≡ true → (u : Scopes) → Reaches b (bound n t s) u → (w : Scopes) (p : Option ℕ) → Finds E blocks r u ss w p → Judges E blocks (IsTypedBound E blocks r s n t ss) (BoundRun r s n t ss) (found p)
    bound_found false f u d w p k = absurd (no_typed (sym f))
    bound_found true f u d w p k =
        let same = λ (v : Run) (l : BoundRun r s n t ss v). l.2 ∙ ap (λ (z : Scopes). run r z ss) (bound_once n t s l.1 d) in
        judged_as E blocks (IsTypedRun E blocks (run r u ss)) (IsTypedBound E blocks r s n t ss) (λ v. v ≡ run r u ss) (BoundRun r s n t ss) (found p)
        (λ y. (run r u ss, (u, d, refl), y)) (λ y. subst (IsTypedRun E blocks) (same y.0 y.1) y.2) (λ v e. (u, d, e)) same (found_typed E blocks r u ss w p k)

  -- ---- a clause

  module _ (i : Term) (c : TypeCase) where
    abbrev Own : Type 0
    Own = LiteralsTyped E blocks r s (listed_nodes (out-TypeCase c).types)

    abbrev InOwn : Run → Type 0
    InOwn v = IsLiteralRun E blocks r s (listed_nodes (out-TypeCase c).types) v

    abbrev Clause : Type 0
    Clause = IsTypedTypeCase E blocks r s n i c

    lists_met : (xs : List (Option Term)) → AreListed (within E s) i (out-TypeCase c).types xs → AreMet E blocks r (within E s) s (listed_nodes (out-TypeCase c).types) → ListsMet (within E s) i (out-TypeCase c).types xs
    lists_met xs l m = (l, (met_parts E blocks r (within E s) s (listed_nodes (out-TypeCase c).types) m).0)

    own_of : AreMet E blocks r (within E s) s (listed_nodes (out-TypeCase c).types) → Own
    own_of m = (met_parts E blocks r (within E s) s (listed_nodes (out-TypeCase c).types) m).1

    last_false : (a : Bool) → (Clause → ⊥) → Decides (a && false) Clause
    last_false true k = k
    last_false false k = k

    module _ (a : Judged) (j : Judges E blocks Own InOwn a) where
      own_alone : ((v : Run) → IsBound E blocks r s n i c v → ⊥) → (b : Judged) → b.place ≡ a.place → Decides b.typed Clause → Judges E blocks Clause (InTypeCase E blocks r s n i c) b
      own_alone none b p d = (d, subst (Surveyed E blocks (InTypeCase E blocks r s n i c)) (sym p) (survey_as E blocks InOwn (InTypeCase E blocks r s n i c) a.place (λ v l. inl l) (λ v h. elim h [ inl l ↦ l | inr m ↦ absurd (none v m) ]) j.1))

      -- it lists what it may not list
      pub unlisted : ((xs : List (Option Term)) → ListsMet (within E s) i (out-TypeCase c).types xs → ⊥) → Judges E blocks Clause (InTypeCase E blocks r s n i c) (with_test a false)
      unlisted none = own_alone (λ v b. none b.0 (lists_met b.0 b.2 b.3)) (with_test a false) refl (last_false a.typed (λ k. none k.0 (lists_met k.0 k.1 k.2)))

      pub unliteral : a.typed ≡ false → Judges E blocks Clause (InTypeCase E blocks r s n i c) a
      unliteral f =
          let none = so_false Own a.typed f j.0 in
          own_alone (λ v b. none (own_of b.3)) a refl (subst (λ (z : Bool). Decides z Clause) (sym f) (λ k. none (own_of k.2)))

      pub type_cased : (xs : List (Option Term)) → ListsMet (within E s) i (out-TypeCase c).types xs → a.typed ≡ true → (b : Judged)
          → Judges E blocks (IsTypedBound E blocks r s n (bound_type i xs) (out-TypeCase c).body) (BoundRun r s n (bound_type i xs) (out-TypeCase c).body) b → Judges E blocks Clause (InTypeCase E blocks r s n i c) (both a b)
      type_cased xs l f b k =
          let own = so_true Own a.typed f j.0 in
          let met = met_whole E blocks r (within E s) s (listed_nodes (out-TypeCase c).types) l.1 own in
          let same = λ (ys : List (Option Term)) (h : AreListed (within E s) i (out-TypeCase c).types ys). listed_once (within E s) i (out-TypeCase c).types h l.0 in
          judged_as E blocks (Own × IsTypedBound E blocks r s n (bound_type i xs) (out-TypeCase c).body) Clause (λ v. InOwn v ⊎ BoundRun r s n (bound_type i xs) (out-TypeCase c).body v) (InTypeCase E blocks r s n i c) (both a b)
          (λ h. (xs, l.0, met, h.1)) (λ h. (own, subst (λ (ys : List (Option Term)). IsTypedBound E blocks r s n (bound_type i ys) (out-TypeCase c).body) (same h.0 h.1) h.3))
          (λ v h. elim h [ inl p ↦ inl p | inr q ↦ inr (xs, q.0, l.0, met, q.1, q.2) ])
          (λ v h. elim h [ inl p ↦ inl p | inr q ↦ inr (q.1, subst (λ (ys : List (Option Term)). bound n (bound_type i ys) s q.1) (same q.0 q.2) q.4, q.5) ])
          (judged_both E blocks Own (IsTypedBound E blocks r s n (bound_type i xs) (out-TypeCase c).body) InOwn (BoundRun r s n (bound_type i xs) (out-TypeCase c).body) a b j k)

  -- ---- the clauses

  one_type_case : (i : Term) (c : TypeCase) (cs : List TypeCase) → IsTypedTypeCase E blocks r s n i c → AreTypeCases E blocks r s n i cs → AreTypeCases E blocks r s n i (c ∷ cs)
  one_type_case i c cs h rest = of_run h.3.2 (sym h.3.1.2)
    where
      of_run : {v : Run} → IsTypedRun E blocks v → run r h.3.1.0 (out-TypeCase c).body ≡ v → AreTypeCases E blocks r s n i (c ∷ cs)
      of_run y e = let z = subst (IsTypedRun E blocks) (sym e) y in type_cases_more h.0 h.1 h.2 h.3.1.1 z.1 rest

  to_type_cases : (i : Term) (cs : List TypeCase) → Each (IsTypedTypeCase E blocks r s n i) cs → AreTypeCases E blocks r s n i cs
  to_type_cases i [] h = type_cases_none
  to_type_cases i (c ∷ cs) h = one_type_case i c cs h.0 (to_type_cases i cs h.1)

  of_type_cases : (i : Term) (cs : List TypeCase) → AreTypeCases E blocks r s n i cs → Each (IsTypedTypeCase E blocks r s n i) cs
  of_type_cases i [] h = tt
  of_type_cases i (c ∷ cs) (type_cases_more {u = u} {last = last} xs l m b y rest) = ((xs, l, m, (run r u (out-TypeCase c).body, (u, b, refl), (last, y))), of_type_cases i cs rest)

  -- ---- the guard

  module _ (e : Expr) (cs : List TypeCase) where
    abbrev Literals : Type 0
    Literals = LiteralsTyped E blocks r s (expression e ∷ [])

    abbrev InGuard : Run → Type 0
    InGuard v = IsLiteralRun E blocks r s (expression e ∷ []) v

    abbrev Whole : Type 0
    Whole = IsTypedGuarded E blocks r s n e cs

    guard_of : (i : Term) → Guards E blocks r s n e i → Literals × IsGuardOf (within E s) e i
    guard_of i (o, ms, k, is_operand h l, t, u) = (one_literals E blocks r s (expression e) l, (o, ms, h, t, u))

    guards_by : (i : Term) → NamesSomething n → Literals → IsGuardOf (within E s) e i → Guards E blocks r s n e i
    guards_by i k l (o, ms, h, t, u) = (o, ms, k, is_operand h (l (expression e) (inl refl)), t, u)

    guard_once : (i k : Term) → IsGuardOf (within E s) e i → IsGuardOf (within E s) e k → i ≡ k
    guard_once i k g h = one_type (subst (λ (o : Operand). IsTyped o i) (has_once (within E s) g.2.is h.2.is) g.3) h.3

    abbrev Head : Type 0
    Head = Literals × NamesSomething n

    head_of : (i : Term) → Guards E blocks r s n e i → Head
    head_of i g = ((guard_of i g).0, g.2)

    whole_false : (a : Bool) → (Whole → ⊥) → Decides (a && false) Whole
    whole_false true k = k
    whole_false false k = k

    module _ (a : Judged) (j : Judges E blocks Head InGuard a) where
      guard_alone : ((i : Term) → Guards E blocks r s n e i → ⊥) → (b : Judged) → b.place ≡ a.place → Decides b.typed Whole → Judges E blocks Whole (InGuarded E blocks r s n e cs) b
      guard_alone none b p d = (d, subst (Surveyed E blocks (InGuarded E blocks r s n e cs)) (sym p) (survey_as E blocks InGuard (InGuarded E blocks r s n e cs) a.place (λ v l. inl l) (λ v h. elim h [ inl l ↦ l | inr m ↦ absurd (none m.0 m.1) ]) j.1))

      pub unguarded : ((i : Term) → IsGuardOf (within E s) e i → ⊥) → Judges E blocks Whole (InGuarded E blocks r s n e cs) (with_test a false)
      unguarded none = guard_alone (λ i g. none i (guard_of i g).1) (with_test a false) refl (whole_false a.typed (λ h. none h.0 (guard_of h.0 h.2).1))

      pub unnamed : a.typed ≡ false → Judges E blocks Whole (InGuarded E blocks r s n e cs) a
      unnamed f =
          let none = so_false Head a.typed f j.0 in
          guard_alone (λ i g. none (head_of i g)) a refl (subst (λ (z : Bool). Decides z Whole) (sym f) (λ h. none (head_of h.0 h.2)))

      pub guarded : (i : Term) → IsGuardOf (within E s) e i → a.typed ≡ true → (b : Judged) (d : Bool) → Judges E blocks (Each (IsTypedTypeCase E blocks r s n i) cs) (Among (InTypeCase E blocks r s n i) cs) b
          → Decides d (AreClausesOf (within E s) i cs) → Judges E blocks Whole (InGuarded E blocks r s n e cs) (both a (with_test b d))
      guarded i g f b d k listed =
          let head = so_true Head a.typed f j.0 in
          let whole = guards_by i head.1 head.0 g in
          let same = λ (m : Term) (h : Guards E blocks r s n e m). guard_once m i (guard_of m h).1 g in
          let Cases = Each (IsTypedTypeCase E blocks r s n i) cs in
          judged_as E blocks (Head × (Cases × AreClausesOf (within E s) i cs)) Whole (λ v. InGuard v ⊎ Among (InTypeCase E blocks r s n i) cs v) (InGuarded E blocks r s n e cs) (both a (with_test b d))
          (λ h. (i, h.1.1.0, whole, h.1.1.1, h.1.1.2, to_type_cases i cs h.1.0))
          (λ h. (head, (of_type_cases i cs (subst (λ (m : Term). AreTypeCases E blocks r s n m cs) (same h.0 h.2) h.5), (h.1, subst (λ (m : Term). ListsClauses (within E s) m cs h.1) (same h.0 h.2) h.3, h.4))))
          (λ v h. elim h [ inl p ↦ inl p | inr q ↦ inr (i, whole, q.0, q.1, q.2) ])
          (λ v h. elim h [ inl p ↦ inl p | inr q ↦ inr (q.2, q.3, subst (λ (m : Term). InTypeCase E blocks r s n m q.2 v) (same q.0 q.1) q.4) ])
          (judged_both E blocks Head (Cases × AreClausesOf (within E s) i cs) InGuard (Among (InTypeCase E blocks r s n i) cs) a (with_test b d) j (judged_test E blocks Cases (AreClausesOf (within E s) i cs) (Among (InTypeCase E blocks r s n i) cs) b d k listed))

-- ---- behind the statement of the header

type_switch_parts : {E : Env} {blocks : List LiteralBlock} {r : Enclosing} {s v : Scopes} {init : Option Stmt} {n : Option Name} {e : Expr} {cs : List TypeCase} → Leaves E blocks r s (StmtKind-F.TypeSwitch init n e cs) v
    → (t : Scopes) × Begins E blocks r s init t × IsTypedGuarded E blocks r t n e cs
type_switch_parts (leaves_type_switch {t = t} {o = o} {u = w} {ms = ms} {xs = xs} b k i ty un l once c) = (t, b, (w, xs, (o, ms, k, i, ty, un), l, once, c))

module _ (E : Env) (blocks : List LiteralBlock) (r : Enclosing) (s : Scopes) (init : Option Stmt) (n : Option Name) (e : Expr) (cs : List TypeCase) where
  abbrev Kind : KindLayer
  Kind = StmtKind-F.TypeSwitch init n e cs

  abbrev Begun : Scopes → Type 0
  Begun t = Begins E blocks r s init t

  abbrev Lone : Run → Type 0
  Lone v = IsLone E blocks r (opened s) init v

  abbrev Behind : Scopes → Type 0
  Behind t = IsTypedGuarded E blocks r t n e cs

  abbrev InBehind : Scopes → Run → Type 0
  InBehind t v = InGuarded E blocks r t n e cs v

  to_switch : (t : Scopes) → Begun t → Behind t → Leaves E blocks r s Kind s
  to_switch t b h = leaves_type_switch b h.2.2 h.2.3 h.2.4 h.2.5 h.3 h.4 h.5

  of_switch : (u : Scopes) → Leaves E blocks r s Kind u → (t : Scopes) × Begun t × Behind t
  of_switch u l = type_switch_parts l

  switched : (t : Scopes) (i : Term) → SwitchesTypes E blocks r s init n e t i → Begun t × Guards E blocks r t n e i
  switched t i (switches_types {o = o} {ms = ms} b k o2 ty un) = (b, (o, ms, k, o2, ty, un))

  to_part : (v : Run) → Lone v ⊎ ((t : Scopes) × Begun t × InBehind t v) → IsPart E blocks r s Kind v
  to_part v (inl l) = inl l
  to_part v (inr (t, b, inl l)) = inr (inl (t, b, l))
  to_part v (inr (t, b, inr (i, g, c, h, k))) = inr (inr (t, i, switches_types b g.2 g.3 g.4 g.5, c, h, k))

  of_part : (v : Run) → IsPart E blocks r s Kind v → Lone v ⊎ ((t : Scopes) × Begun t × InBehind t v)
  of_part v (inl l) = inl l
  of_part v (inr (inl (t, b, l))) = inr (t, b, inl l)
  of_part v (inr (inr (t, i, w, c, h, k))) = let g = switched t i w in inr (t, g.0, inr (i, g.1, c, h, k))

  opens : Opens E blocks r s Kind Begun Behind Lone InBehind
  opens = record { once = λ t u a b. begins_once E blocks a b; leaves_in = to_switch; leaves_by = of_switch; part_in = to_part; part_by = of_part }

  begun : (t : Scopes) (h : Judged) → JudgesTo E blocks (Stays E blocks r (opened s) init) t Lone h → JudgesTo E blocks Begun t Lone h
  begun t h j = (so_reached (Stays E blocks r (opened s) init) Begun t h.typed (to_begins E blocks r s init t) (of_begins E blocks r s init) j.0, j.1)

  pub type_switch_failed : (t : Scopes) (h : Judged) → h.typed ≡ false → JudgesTo E blocks (Stays E blocks r (opened s) init) t Lone h → JudgesKind E blocks r s Kind s h
  type_switch_failed t h f j = opening_failed E blocks r s Kind Begun Behind Lone InBehind opens t h f (begun t h j)

  pub type_switch_followed : (t : Scopes) (h b : Judged) → h.typed ≡ true → JudgesTo E blocks (Stays E blocks r (opened s) init) t Lone h → Judges E blocks (Behind t) (InBehind t) b → JudgesKind E blocks r s Kind s (both h b)
  type_switch_followed t h b f j k = opening_followed E blocks r s Kind Begun Behind Lone InBehind opens t h b f (begun t h j) k

-- ---- the type of the name

pub alone : {A : Type 0} (xs : List A) (x : A) → 1 ≤ length xs → length xs ≤ 1 → x ≡ get_or xs 0 x → xs ≡ x ∷ []
alone [] x a b i = absurd (omega arith)
alone (y ∷ []) x a b i = ap (λ z. z ∷ []) (sym i)
alone (y ∷ z ∷ xs) x a b i = absurd (omega arith)

pub unlisted_bound : (t : Term) (xs : List (Option Term)) → length xs ≤ 0 → t ≡ bound_type t xs
unlisted_bound t [] h = refl
unlisted_bound t (x ∷ xs) h = absurd (omega arith)

pub several_bound : (t : Term) (xs : List (Option Term)) → 2 ≤ length xs → t ≡ bound_type t xs
several_bound t [] h = refl
several_bound t (None ∷ []) h = refl
several_bound t (Some u ∷ []) h = absurd (omega arith)
several_bound t (None ∷ y ∷ xs) h = refl
several_bound t (Some u ∷ y ∷ xs) h = refl

-- ---- its declaration

pub bound_told : (n : Option Name) (m : Name) (t : Term) → n ≡ Some m → (o u : Scopes) (r : Result Bool NoMemory) → IfOk r (λ b. Reaches b (Declares o (Some m ∷ []) (seen.Local t ∷ [])) u) → IfOk r (λ b. (s : Scopes) → o ≡ opened s → Reaches b (bound n t s) u)
bound_told n m t i o u (Err x) h = tt
bound_told n m t i o u (Ok b) h = λ s k. subst (λ (z : Option Name). Reaches b (bound z t s) u) (sym i) (subst (λ (z : Scopes). Reaches b (Declares z (Some m ∷ []) (seen.Local t ∷ [])) u) k h)

pub bound_nothing : (n : Option Name) (t : Term) → n ≡ None → (o : Scopes) (s : Scopes) → o ≡ opened s → bound n t s o
bound_nothing n t i o s k = subst (λ (z : Option Name). bound z t s o) (sym i) k

-- ---- the name of the guard

pub named_told : (n : Option Name) (m : Name) (b : Bool) → n ≡ Some m → b ≡ is_blank m.text → Decides (not b) (NamesSomething n)
named_told n m b i e = subst (λ (z : Option Name). Decides (not b) (NamesSomething z)) (sym i) (by_test b e)
  where
    by_test : (c : Bool) → c ≡ is_blank m.text → Decides (not c) (is_blank m.text ≡ false)
    by_test true e = λ h. no_typed (e ∙ h)
    by_test false e = sym e
