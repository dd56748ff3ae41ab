-- What is found in a `for` statement without a range.
use Rattle.std.proofs.Common.{inl, inr, ◌≡◌, ◌∙◌, ◌⊎◌, Bool, true, false, not, List, Option, Some, refl, sym, subst}
use Rattle.go_flat_statements.specs.Judging.{JudgesKind}
use Rattle.go_judged.specs.Judging.{Judges, JudgesTo, both, with_test}
use Rattle.go_judged.specs.declared.judged.Judged.{Judged}
use Rattle.go_judged.proofs.Joining.{judged_as, judged_both, judged_test, no_typed, none_decided, so_false, so_true}
use Rattle.go_nested_statements.specs.Heads.{InHead, behind, turned}
use Rattle.go_nested_statements.proofs.Behind.{Follows, Opens, head_failed, head_followed, opening_failed, opening_followed}
use Rattle.go_nested_statements.proofs.Branched.{stand_judged}
use Rattle.go_nested_statements.proofs.Headed.{decided_once}
use Rattle.go_rules.specs.Environments.{Env}
use Rattle.go_selectors.specs.Answers.{Decides as Tells}
use Rattle.go_statement_rules.specs.Contexts.{Decides, decides}
use Rattle.go_statement_rules.specs.Functions.{Enclosing, Run, run}
use Rattle.go_statement_rules.specs.Scopes.{Scopes, opened}
use Rattle.go_statement_rules.specs.Statements.{IsCondition, IsPost, IsTypedBlock, KindLayer, Leaves, MayStand, is_definition, kind_of, leaves_for, leaves_while, tag_nodes}
use Rattle.go_syntax.specs.declared.expression.Expr.{Expr}
use Rattle.go_syntax.specs.declared.statement.LiteralBlock.{LiteralBlock}
use Rattle.go_syntax.specs.declared.statement.Stmt.{Stmt}
use Rattle.go_syntax.specs.declared.statement.StmtKind.{StmtKind-F}
use Rattle.go_untyped_places.specs.LiteralRuns.{IsLiteralRun}
use Rattle.go_untyped_places.specs.Parts.{IsLone, IsPart}
use Rattle.go_untyped_places.proofs.Surveying.{survey_as}
use Rattle.go_flat_statements.specs.go_walks.Standing.{Stays}

module _ (E : Env) (blocks : List LiteralBlock) (r : Enclosing) where
  -- ---- the block waits for the statement behind the condition

  module _ (t : Scopes) (post : Option Stmt) (ss : List Stmt) where
    abbrev Turn : Type 0
    Turn = IsPost post × MayStand E blocks r t post × IsTypedBlock E blocks r t ss

    abbrev InTurn : Run → Type 0
    InTurn v = IsLone E blocks r t post v ⊎ (IsPost post × MayStand E blocks r t post × (v ≡ run r (opened t) ss))

    abbrev Ready : Type 0
    Ready = MayStand E blocks r t post × IsPost post

    module _ (h body : Judged) (j : Judges E blocks Ready (IsLone E blocks r t post) h) (k : Judges E blocks (IsTypedBlock E blocks r t ss) (λ v. v ≡ run r (opened t) ss) body) where
      unready : h.typed ≡ false → Judges E blocks Turn InTurn h
      unready e =
          let none = so_false Ready h.typed e j.0 in (
            none_decided Ready Turn h.typed e (λ d. (d.1, d.0)) j.0,
            survey_as E blocks (IsLone E blocks r t post) InTurn h.place (λ v l. inl l) (λ v d. elim d [ inl l ↦ l | inr m ↦ absurd (none (m.1, m.0)) ]) j.1,
          )

      readied : h.typed ≡ true → Judges E blocks Turn InTurn (both h body)
      readied e =
          let y = so_true Ready h.typed e j.0 in
          judged_as E blocks (Ready × IsTypedBlock E blocks r t ss) Turn (λ v. IsLone E blocks r t post v ⊎ (v ≡ run r (opened t) ss)) InTurn (both h body)
          (λ d. (d.0.1, d.0.0, d.1)) (λ d. ((d.1, d.0), d.2)) (λ v d. elim d [ inl l ↦ inl l | inr i ↦ inr (y.1, y.0, i) ]) (λ v d. elim d [ inl l ↦ inl l | inr m ↦ inr m.2 ])
          (judged_both E blocks Ready (IsTypedBlock E blocks r t ss) (IsLone E blocks r t post) (λ v. v ≡ run r (opened t) ss) h body j k)

      turned_where : (c : Bool) → h.typed ≡ c → Judges E blocks Turn InTurn (behind c h body)
      turned_where true e = readied e
      turned_where false e = unready e

    pub turn_judged : (after body : Judged) (posted : Bool) → Judges E blocks (MayStand E blocks r t post) (IsLone E blocks r t post) after → Tells posted (IsPost post) → Judges E blocks (IsTypedBlock E blocks r t ss) (λ v. v ≡ run r (opened t) ss) body
        → Judges E blocks Turn InTurn (turned (with_test after posted) body)
    turn_judged after body posted j p k =
        turned_where (with_test after posted) body (judged_test E blocks (MayStand E blocks r t post) (IsPost post) (IsLone E blocks r t post) after posted j p) k (with_test after posted).typed refl

  -- ---- a header of three parts

  for_parts : {s u : Scopes} {init post : Option Stmt} {e : Option Expr} {ss : List Stmt} → Leaves E blocks r s (StmtKind-F.For init e post ss) u → (t : Scopes) × Decides E blocks r s init e t × Turn t post ss
  for_parts (leaves_for {t = t} b c p m d) = (t, decides b c, (p, m, d))

  module _ (s : Scopes) (init post : Option Stmt) (e : Option Expr) (ss : List Stmt) where
    abbrev For : KindLayer
    For = StmtKind-F.For init e post ss

    abbrev Decided : Scopes → Type 0
    Decided t = Decides E blocks r s init e t

    abbrev Head : Run → Type 0
    Head v = InHead E blocks r s init (tag_nodes e) v

    abbrev Turns : Scopes → Type 0
    Turns t = Turn t post ss

    abbrev InTurns : Scopes → Run → Type 0
    InTurns t v = InTurn t post ss v

    to_for : (t : Scopes) → Decided t → Turns t → Leaves E blocks r s For s
    to_for t (decides b c) h = leaves_for b c h.0 h.1 h.2

    of_for : (u : Scopes) → Leaves E blocks r s For u → (t : Scopes) × Decided t × Turns t
    of_for u l = for_parts l

    to_part : (v : Run) → Head v ⊎ ((t : Scopes) × Decided t × InTurns t v) → IsPart E blocks r s For v
    to_part v (inl (inl l)) = inl l
    to_part v (inl (inr h)) = inr (inl h)
    to_part v (inr k) = inr (inr k)

    of_part : (v : Run) → IsPart E blocks r s For v → Head v ⊎ ((t : Scopes) × Decided t × InTurns t v)
    of_part v (inl l) = inl (inl l)
    of_part v (inr (inl h)) = inl (inr h)
    of_part v (inr (inr k)) = inr k

    opens : Opens E blocks r s For Decided Turns Head InTurns
    opens = record { once = λ t u c d. decided_once E blocks r s init e t t u c d; leaves_in = to_for; leaves_by = of_for; part_in = to_part; part_by = of_part }

    pub for_failed : (t : Scopes) (h : Judged) → h.typed ≡ false → JudgesTo E blocks Decided t Head h → JudgesKind E blocks r s For s h
    for_failed t h f j = opening_failed E blocks r s For Decided Turns Head InTurns opens t h f j

    pub for_followed : (t u : Scopes) (h after body : Judged) (posted : Bool) → h.typed ≡ true → JudgesTo E blocks Decided t Head h → Judges E blocks (IsTypedBlock E blocks r t ss) (λ v. v ≡ run r (opened t) ss) body
        → JudgesTo E blocks (Stays E blocks r t post) u (IsLone E blocks r t post) after → Tells posted (IsPost post) → JudgesKind E blocks r s For s (both h (turned (with_test after posted) body))
    for_followed t u h after body posted f j k l p =
        opening_followed E blocks r s For Decided Turns Head InTurns opens t h (turned (with_test after posted) body) f j (turn_judged t post ss after body posted (stand_judged E blocks r t post u after l) p k)

  -- ---- a condition alone

  while_parts : {s u : Scopes} {e : Option Expr} {ss : List Stmt} → Leaves E blocks r s (StmtKind-F.While e ss) u → IsCondition E blocks r s e × IsTypedBlock E blocks r s ss
  while_parts (leaves_while c d) = (c, d)

  module _ (s : Scopes) (e : Option Expr) (ss : List Stmt) where
    abbrev While : KindLayer
    While = StmtKind-F.While e ss

    to_while : IsCondition E blocks r s e → IsTypedBlock E blocks r s ss → Leaves E blocks r s While s
    to_while c d = leaves_while c d

    of_while : (u : Scopes) → Leaves E blocks r s While u → IsCondition E blocks r s e × IsTypedBlock E blocks r s ss
    of_while u l = while_parts l

    follows : Follows E blocks r s While (IsCondition E blocks r s e) (IsTypedBlock E blocks r s ss) (IsLiteralRun E blocks r s (tag_nodes e)) (λ v. v ≡ run r (opened s) ss)
    follows = record { to_leaves = to_while; of_leaves = of_while; to_part = λ v h. h; of_part = λ v h. h }

    pub while_failed : (h : Judged) → h.typed ≡ false → Judges E blocks (IsCondition E blocks r s e) (IsLiteralRun E blocks r s (tag_nodes e)) h → JudgesKind E blocks r s While s h
    while_failed h f j = head_failed E blocks r s While (IsCondition E blocks r s e) (IsTypedBlock E blocks r s ss) (IsLiteralRun E blocks r s (tag_nodes e)) (λ v. v ≡ run r (opened s) ss) follows h f j

    pub while_followed : (h b : Judged) → h.typed ≡ true → Judges E blocks (IsCondition E blocks r s e) (IsLiteralRun E blocks r s (tag_nodes e)) h → Judges E blocks (IsTypedBlock E blocks r s ss) (λ v. v ≡ run r (opened s) ss) b → JudgesKind E blocks r s While s (both h b)
    while_followed h b f j k = head_followed E blocks r s While (IsCondition E blocks r s e) (IsTypedBlock E blocks r s ss) (IsLiteralRun E blocks r s (tag_nodes e)) (λ v. v ≡ run r (opened s) ss) follows h b f j k

-- ---- the statement behind the condition

pub post_told : (p : Option Stmt) (x : Stmt) (b : Bool) → p ≡ Some x → b ≡ is_definition (kind_of x) → Tells (not b) (IsPost p)
post_told p x b i e = subst (λ (z : Option Stmt). Tells (not b) (IsPost z)) (sym i) (by_test b e)
  where
    by_test : (c : Bool) → c ≡ is_definition (kind_of x) → Tells (not c) (is_definition (kind_of x) ≡ false)
    by_test true e = λ h. no_typed (e ∙ h)
    by_test false e = sym e
