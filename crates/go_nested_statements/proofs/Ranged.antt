-- What is found in a range.
use Rattle.std.proofs.Common.{inl, inr, ◌≡◌, ◌∙◌, ◌≤◌, ◌⊎◌, Bool, true, false, ◌&&◌, List, [], ◌∷◌, Result, Ok, Err, length, map, take, refl, sym, ap, subst}
use Rattle.std.specs.Prelude.{IfOk}
use Rattle.go_base.specs.declared.memory.NoMemory.{NoMemory}
use Rattle.go_clauses.specs.Clauses.{RangesOver, TakesNames, TakesValues}
use Rattle.go_flat_statements.specs.Judging.{JudgesKind}
use Rattle.go_flat_statements.proofs.MetTrees.{met_parts, met_whole, own_met, met_own}
use Rattle.go_judged.specs.Judging.{Judges, both, tested, with_test}
use Rattle.go_judged.specs.declared.judged.Judged.{Judged}
use Rattle.go_judged.proofs.Joining.{judged_alone, judged_as, judged_test, no_typed}
use Rattle.go_local_scopes.specs.States.{Reaches}
use Rattle.go_model.specs.declared.types.term.Term.{Term}
use Rattle.go_nested_statements.specs.Ranging.{AssignsRange, IsTypedNamed, NamedRun, Names}
use Rattle.go_nested_statements.proofs.Behind.{Follows, head_failed, head_followed}
use Rattle.go_nested_statements.proofs.Headed.{one_literals}
use Rattle.go_rules.specs.Asks.{HasOperand}
use Rattle.go_rules.specs.Environments.{Env}
use Rattle.go_rules.specs.Nodes.{expression}
use Rattle.go_rules.specs.Operands.{plain}
use Rattle.go_rules.specs.declared.operand.Operand.{Operand}
use Rattle.go_rules.proofs.OneOperand.{has_once}
use Rattle.go_selectors.specs.Answers.{Decides}
use Rattle.go_statement_rules.specs.Assignments.{AreAssigned}
use Rattle.go_statement_rules.specs.Clauses.{Ranges}
use Rattle.go_statement_rules.specs.Functions.{Enclosing, Run, run}
use Rattle.go_statement_rules.specs.Scopes.{Scopes, opened, within}
use Rattle.go_statement_rules.specs.Statements.{AreMet, IsNew, IsOperand, IsTypedBlock, KindLayer, Leaves, LiteralsAreTyped, is_operand, leaves_range, leaves_range_assigned, leaves_range_defined}
use Rattle.go_statement_rules.proofs.OneRun.{ranges_once}
use Rattle.go_statement_rules.proofs.OneScope.{declares_once}
use Rattle.go_syntax.specs.declared.expression.Expr.{Expr}
use Rattle.go_syntax.specs.declared.name.Name.{Name}
use Rattle.go_syntax.specs.declared.statement.LiteralBlock.{LiteralBlock}
use Rattle.go_syntax.specs.declared.statement.Stmt.{Stmt}
use Rattle.go_syntax.specs.declared.statement.StmtKind.{StmtKind-F}
use Rattle.go_untyped_places.specs.LiteralRuns.{IsLiteralRun}
use Rattle.go_untyped_places.specs.Parts.{IsPart}
use Rattle.go_untyped_places.proofs.Surveying.{survey_as}
use Rattle.go_flat_statements.specs.go_walks.Literals.{LiteralsTyped}

-- a range over an expression gives one list of types
range_once : (F : Env) (e : Expr) (ts us : List Term) → RangesOver F e ts → RangesOver F e us → ts ≡ us
range_once F e ts us a b = ranges_once (subst (λ (z : Operand). Ranges F z ts) (has_once F a.1.is b.1.is) a.2) b.2

module _ (E : Env) (blocks : List LiteralBlock) (r : Enclosing) where
  bare_parts : {s u : Scopes} {e : Expr} {ss : List Stmt} → Leaves E blocks r s (StmtKind-F.Range e ss) u → (o : Operand) × (ts : List Term) × IsOperand E blocks r s e o × Ranges (within E s) o ts × IsTypedBlock E blocks r s ss
  bare_parts (leaves_range {o = o} {ts = ts} i g d) = (o, ts, i, g, d)

  assigned_parts : {s u : Scopes} {es : List Expr} {e : Expr} {ss : List Stmt} → Leaves E blocks r s (StmtKind-F.RangeAssign es e ss) u → (o : Operand) × (ts : List Term) × IsOperand E blocks r s e o × Ranges (within E s) o ts
      × (length es ≤ length ts) × AreAssigned (within E s) es (map plain (take (length es) ts)) × AreMet E blocks r (within E s) s (map expression es) × IsTypedBlock E blocks r s ss
  assigned_parts (leaves_range_assigned {o = o} {ts = ts} i g n a m d) = (o, ts, i, g, n, a, m, d)

  defined_parts : {s u : Scopes} {ns : List Name} {e : Expr} {ss : List Stmt} → Leaves E blocks r s (StmtKind-F.RangeDefine ns e ss) u → (o : Operand) × (ts : List Term) × (t : Scopes) × IsOperand E blocks r s e o × Ranges (within E s) o ts
      × (length ns ≤ length ts) × IsNew ns × Names (opened s) ns ts t × IsTypedBlock E blocks r t ss
  defined_parts (leaves_range_defined {t = t} {o = o} {ts = ts} i g n w d b) = (o, ts, t, i, g, n, w, d, b)

module _ (E : Env) (blocks : List LiteralBlock) (r : Enclosing) (s : Scopes) (e : Expr) where
  abbrev Own : Type 0
  Own = LiteralsTyped E blocks r s (expression e ∷ [])

  abbrev InOwn : Run → Type 0
  InOwn v = IsLiteralRun E blocks r s (expression e ∷ []) v

  to_operand : {o : Operand} → HasOperand (within E s) e o → Own → IsOperand E blocks r s e o
  to_operand h l = is_operand h (l (expression e) (inl refl))

  of_operand : {o : Operand} → IsOperand E blocks r s e o → HasOperand (within E s) e o × LiteralsAreTyped E blocks r s (expression e)
  of_operand (is_operand h l) = (h, l)

  over_once : (ts us : List Term) → RangesOver (within E s) e ts → RangesOver (within E s) e us → ts ≡ us
  over_once ts us a b = range_once (within E s) e ts us a b

  -- ---- whose values go nowhere

  module _ (ss : List Stmt) where
    abbrev Bare : KindLayer
    Bare = StmtKind-F.Range e ss

    abbrev BareHead : Type 0
    BareHead = Own × ((ts : List Term) × RangesOver (within E s) e ts)

    to_bare : BareHead → IsTypedBlock E blocks r s ss → Leaves E blocks r s Bare s
    to_bare h d = leaves_range (to_operand h.1.1.1 h.0) h.1.1.2 d

    of_bare : (u : Scopes) → Leaves E blocks r s Bare u → BareHead × IsTypedBlock E blocks r s ss
    of_bare u l = let p = bare_parts E blocks r l in let k = of_operand p.2 in ((one_literals E blocks r s (expression e) k.1, (p.1, (p.0, k.0, p.3))), p.4)

    bare_in : (v : Run) → InOwn v ⊎ (BareHead × (v ≡ run r (opened s) ss)) → IsPart E blocks r s Bare v
    bare_in v (inl l) = inl l
    bare_in v (inr k) = inr (k.0.1.1.0, k.0.1.0, to_operand k.0.1.1.1 k.0.0, k.0.1.1.2, k.1)

    bare_by : (v : Run) → IsPart E blocks r s Bare v → InOwn v ⊎ (BareHead × (v ≡ run r (opened s) ss))
    bare_by v (inl l) = inl l
    bare_by v (inr k) = let i = of_operand k.2 in inr ((one_literals E blocks r s (expression e) i.1, (k.1, (k.0, i.0, k.3))), k.4)

    bare_follows : Follows E blocks r s Bare BareHead (IsTypedBlock E blocks r s ss) InOwn (λ v. v ≡ run r (opened s) ss)
    bare_follows = record { to_leaves = to_bare; of_leaves = of_bare; to_part = bare_in; of_part = bare_by }

    pub bare_head : (j : Judged) (b : Bool) → Judges E blocks Own InOwn j → Decides b ((ts : List Term) × RangesOver (within E s) e ts) → Judges E blocks BareHead InOwn (with_test j b)
    bare_head j b k d = judged_test E blocks Own ((ts : List Term) × RangesOver (within E s) e ts) InOwn j b k d

    pub bare_failed : (h : Judged) → h.typed ≡ false → Judges E blocks BareHead InOwn h → JudgesKind E blocks r s Bare s h
    bare_failed h f j = head_failed E blocks r s Bare BareHead (IsTypedBlock E blocks r s ss) InOwn (λ v. v ≡ run r (opened s) ss) bare_follows h f j

    pub bare_followed : (h b : Judged) → h.typed ≡ true → Judges E blocks BareHead InOwn h → Judges E blocks (IsTypedBlock E blocks r s ss) (λ v. v ≡ run r (opened s) ss) b → JudgesKind E blocks r s Bare s (both h b)
    bare_followed h b f j k = head_followed E blocks r s Bare BareHead (IsTypedBlock E blocks r s ss) InOwn (λ v. v ≡ run r (opened s) ss) bare_follows h b f j k

  -- ---- whose values are assigned

  module _ (es : List Expr) (ss : List Stmt) where
    abbrev Assigned : KindLayer
    Assigned = StmtKind-F.RangeAssign es e ss

    abbrev All : Type 0
    All = LiteralsTyped E blocks r s (expression e ∷ map expression es)

    abbrev InAll : Run → Type 0
    InAll v = IsLiteralRun E blocks r s (expression e ∷ map expression es) v

    abbrev AssignedHead : Type 0
    AssignedHead = All × AssignsRange (within E s) es e

    own_of : All → Own
    own_of l n (inl i) = l n (inl i)
    own_of l n (inr h) = absurd h

    sides_of : All → LiteralsTyped E blocks r s (map expression es)
    sides_of l n h = l n (inr h)

    all_of : Own → LiteralsTyped E blocks r s (map expression es) → All
    all_of a b n (inl i) = a n (inl i)
    all_of a b n (inr h) = b n h

    head_assigned : {o : Operand} {ts : List Term} → IsOperand E blocks r s e o → Ranges (within E s) o ts → length es ≤ length ts → AreAssigned (within E s) es (map plain (take (length es) ts)) → AreMet E blocks r (within E s) s (map expression es) → AssignedHead
    head_assigned {o = o} {ts = ts} i g n a m =
        let k = of_operand i in
        let parts = met_parts E blocks r (within E s) s (map expression es) m in
        (all_of (one_literals E blocks r s (expression e) k.1) parts.1, (ts, (o, k.0, g), (n, a, own_met (within E s) es parts.0)))

    met_sides : (h : AssignedHead) → AreMet E blocks r (within E s) s (map expression es)
    met_sides h = met_whole E blocks r (within E s) s (map expression es) (met_own (within E s) es h.1.2.2) (sides_of h.0)

    to_assigned : AssignedHead → IsTypedBlock E blocks r s ss → Leaves E blocks r s Assigned s
    to_assigned h d = leaves_range_assigned (to_operand h.1.1.1 (own_of h.0)) h.1.1.2 h.1.2.0 h.1.2.1 (met_sides h) d

    of_assigned : (u : Scopes) → Leaves E blocks r s Assigned u → AssignedHead × IsTypedBlock E blocks r s ss
    of_assigned u l = let p = assigned_parts E blocks r l in (head_assigned p.2 p.3 p.4 p.5 p.6, p.7)

    assigned_in : (v : Run) → InAll v ⊎ (AssignedHead × (v ≡ run r (opened s) ss)) → IsPart E blocks r s Assigned v
    assigned_in v (inl l) = inl l
    assigned_in v (inr k) = let h = k.0 in inr (h.1.1.0, h.1.0, to_operand h.1.1.1 (own_of h.0), h.1.1.2, h.1.2.0, h.1.2.1, met_sides h, k.1)

    assigned_by : (v : Run) → IsPart E blocks r s Assigned v → InAll v ⊎ (AssignedHead × (v ≡ run r (opened s) ss))
    assigned_by v (inl l) = inl l
    assigned_by v (inr k) = inr (head_assigned k.2 k.3 k.4 k.5 k.6, k.7)

    assigned_follows : Follows E blocks r s Assigned AssignedHead (IsTypedBlock E blocks r s ss) InAll (λ v. v ≡ run r (opened s) ss)
    assigned_follows = record { to_leaves = to_assigned; of_leaves = of_assigned; to_part = assigned_in; of_part = assigned_by }

    pub assigned_head : (j : Judged) (b : Bool) → Judges E blocks All InAll j → Decides b (AssignsRange (within E s) es e) → Judges E blocks AssignedHead InAll (with_test j b)
    assigned_head j b k d = judged_test E blocks All (AssignsRange (within E s) es e) InAll j b k d

    pub assigned_failed : (h : Judged) → h.typed ≡ false → Judges E blocks AssignedHead InAll h → JudgesKind E blocks r s Assigned s h
    assigned_failed h f j = head_failed E blocks r s Assigned AssignedHead (IsTypedBlock E blocks r s ss) InAll (λ v. v ≡ run r (opened s) ss) assigned_follows h f j

    pub assigned_followed : (h b : Judged) → h.typed ≡ true → Judges E blocks AssignedHead InAll h → Judges E blocks (IsTypedBlock E blocks r s ss) (λ v. v ≡ run r (opened s) ss) b → JudgesKind E blocks r s Assigned s (both h b)
    assigned_followed h b f j k = head_followed E blocks r s Assigned AssignedHead (IsTypedBlock E blocks r s ss) InAll (λ v. v ≡ run r (opened s) ss) assigned_follows h b f j k

  -- ---- whose values are declared

  module _ (ns : List Name) (ss : List Stmt) where
    abbrev Defined : KindLayer
    Defined = StmtKind-F.RangeDefine ns e ss

    -- by these types
    module _ (ts : List Term) (over : RangesOver (within E s) e ts) where
      abbrev DefinedHead : Type 0
      DefinedHead = Own × TakesNames ns ts

      abbrev Typed : Type 0
      Typed = IsTypedNamed E blocks r (opened s) ns ts ss

      abbrev InNamed : Run → Type 0
      InNamed v = NamedRun r (opened s) ns ts ss v

      to_defined : DefinedHead → Typed → Leaves E blocks r s Defined s
      to_defined h d = leaves_range_defined (to_operand over.1 h.0) over.2 h.1.0 h.1.1 d.1 d.2

      of_defined : (u : Scopes) → Leaves E blocks r s Defined u → DefinedHead × Typed
      of_defined u l =
          let p = defined_parts E blocks r l in
          let k = of_operand p.3 in
          let same = over_once p.1 ts (p.0, k.0, p.4) over in
          ((one_literals E blocks r s (expression e) k.1, (subst (λ (z : List Term). length ns ≤ length z) same p.5, p.6)), (p.2, subst (λ (z : List Term). Names (opened s) ns z p.2) same p.7, p.8))

      defined_in : (v : Run) → InOwn v ⊎ (DefinedHead × InNamed v) → IsPart E blocks r s Defined v
      defined_in v (inl l) = inl l
      defined_in v (inr k) = let h = k.0 in inr (over.0, ts, k.1.0, to_operand over.1 h.0, over.2, h.1.0, h.1.1, k.1.1, k.1.2)

      defined_by : (v : Run) → IsPart E blocks r s Defined v → InOwn v ⊎ (DefinedHead × InNamed v)
      defined_by v (inl l) = inl l
      defined_by v (inr k) =
          let i = of_operand k.3 in
          let same = over_once k.1 ts (k.0, i.0, k.4) over in
          inr ((one_literals E blocks r s (expression e) i.1, (subst (λ (z : List Term). length ns ≤ length z) same k.5, k.6)), (k.2, subst (λ (z : List Term). Names (opened s) ns z k.2) same k.7, k.8))

      defined_follows : Follows E blocks r s Defined DefinedHead Typed InOwn InNamed
      defined_follows = record { to_leaves = to_defined; of_leaves = of_defined; to_part = defined_in; of_part = defined_by }

      pub defined_head : (j : Judged) (b : Bool) → Judges E blocks Own InOwn j → Decides b (TakesNames ns ts) → Judges E blocks DefinedHead InOwn (with_test j b)
      defined_head j b k d = judged_test E blocks Own (TakesNames ns ts) InOwn j b k d

      pub defined_failed : (h : Judged) → h.typed ≡ false → Judges E blocks DefinedHead InOwn h → JudgesKind E blocks r s Defined s h
      defined_failed h f j = head_failed E blocks r s Defined DefinedHead Typed InOwn InNamed defined_follows h f j

      pub defined_followed : (h b : Judged) → h.typed ≡ true → Judges E blocks DefinedHead InOwn h → Judges E blocks Typed InNamed b → JudgesKind E blocks r s Defined s (both h b)
      defined_followed h b f j k = head_followed E blocks r s Defined DefinedHead Typed InOwn InNamed defined_follows h b f j k

    -- where there is no range over it
    pub defined_nothing : ((ts : List Term) → RangesOver (within E s) e ts → ⊥) → (j : Judged) → Judges E blocks Own InOwn j → JudgesKind E blocks r s Defined s (with_test j false)
    defined_nothing none j k = (
      by_test j.typed,
      survey_as E blocks InOwn (IsPart E blocks r s Defined) j.place (λ v l. inl l) (λ v p. elim p [ inl l ↦ l | inr m ↦ absurd (none m.1 (m.0, (of_operand m.3).0, m.4)) ]) k.1,
    )
      where
        no_range : (u : Scopes) → Leaves E blocks r s Defined u → ⊥
        no_range u l = let p = defined_parts E blocks r l in none p.1 (p.0, (of_operand p.3).0, p.4)

        by_test : (a : Bool) → Reaches (a && false) (Leaves E blocks r s Defined) s
        by_test true = no_range
        by_test false = no_range

-- ---- the names

module _ (E : Env) (blocks : List LiteralBlock) (r : Enclosing) (o : Scopes) (ns : List Name) (ts : List Term) (ss : List Stmt) where
  pub named_none : (b : Bool) → b ≡ false → (t : Scopes) → Reaches b (Names o ns ts) t → Judges E blocks (IsTypedNamed E blocks r o ns ts ss) (NamedRun r o ns ts ss) (tested false)
  named_none true f t d = absurd (no_typed f)
  named_none false f t d = judged_alone E blocks (IsTypedNamed E blocks r o ns ts ss) (NamedRun r o ns ts ss) false (λ k. d k.0 k.1) (λ v k. d k.0 k.1)

  pub named_judged : (b : Bool) → b ≡ true → (t : Scopes) → Reaches b (Names o ns ts) t → (j : Judged) → Judges E blocks (IsTypedBlock E blocks r t ss) (λ v. v ≡ run r (opened t) ss) j → Judges E blocks (IsTypedNamed E blocks r o ns ts ss) (NamedRun r o ns ts ss) j
  named_judged false f t d j k = absurd (no_typed (sym f))
  named_judged true f t d j k =
      judged_as E blocks (IsTypedBlock E blocks r t ss) (IsTypedNamed E blocks r o ns ts ss) (λ v. v ≡ run r (opened t) ss) (NamedRun r o ns ts ss) j
      (λ y. (t, d, y)) (λ y. subst (λ (z : Scopes). IsTypedBlock E blocks r z ss) (declares_once y.1 d) y.2) (λ v e. (t, d, e)) (λ v e. e.2 ∙ ap (λ (z : Scopes). run r (opened z) ss) (declares_once e.1 d)) k

-- ---- what else is asked

enough_fit : (ns : List Name) (ts : List Term) (a b : Bool) → (a && b) ≡ true → Decides b (TakesNames ns ts) → length ns ≤ length ts
enough_fit ns ts true true e d = d.0
enough_fit ns ts true false e d = absurd (no_typed (sym e))
enough_fit ns ts false true e d = absurd (no_typed (sym e))
enough_fit ns ts false false e d = absurd (no_typed (sym e))

pub enough_named : (ns : List Name) (ts : List Term) (j h : Judged) (b : Bool) → h ≡ with_test j b → h.typed ≡ true → Decides b (TakesNames ns ts) → length ns ≤ length ts
enough_named ns ts j h b e f d = enough_fit ns ts j.typed b (sym (ap (λ (x : Judged). x.typed) e) ∙ f) d

module _ (F : Env) (es : List Expr) (e : Expr) where
  pub assigns_none : ((ts : List Term) → RangesOver F e ts → ⊥) → AssignsRange F es e → ⊥
  assigns_none none h = none h.0 h.1

  assigns_by : (ts : List Term) → RangesOver F e ts → (b : Bool) → Decides b (TakesValues F es ts) → Decides b (AssignsRange F es e)
  assigns_by ts over true d = (ts, over, d)
  assigns_by ts over false d = λ h. d (subst (λ (us : List Term). TakesValues F es us) (range_once F e h.0 ts h.1 over) h.2)

  pub assigns_decided : (ts : List Term) → RangesOver F e ts → (r : Result Bool NoMemory) → IfOk r (λ b. Decides b (TakesValues F es ts)) → IfOk r (λ b. Decides b (AssignsRange F es e))
  assigns_decided ts over (Ok b) d = assigns_by ts over b d
  assigns_decided ts over (Err x) d = tt
