-- What is found in an `if` statement.
use Rattle.std.proofs.Common.{inl, inr, ◌≡◌, ◌⊎◌, Bool, true, false, List, [], ◌∷◌, Option, None, Some, refl}
use Rattle.go_flat_statements.specs.Judging.{JudgesKind}
use Rattle.go_judged.specs.Judging.{Judges, JudgesTo, both}
use Rattle.go_judged.specs.declared.judged.Judged.{Judged}
use Rattle.go_judged.proofs.Joining.{judged_both}
use Rattle.go_local_scopes.specs.States.{Reaches}
use Rattle.go_nested_statements.specs.Heads.{InHead}
use Rattle.go_nested_statements.proofs.Behind.{Opens, opening_failed, opening_followed}
use Rattle.go_nested_statements.proofs.Headed.{decided_once}
use Rattle.go_rules.specs.Environments.{Env}
use Rattle.go_rules.specs.Nodes.{expression}
use Rattle.go_selectors.specs.Answers.{Decides as Tells}
use Rattle.go_statement_rules.specs.Contexts.{Decides, decides}
use Rattle.go_statement_rules.specs.Functions.{Enclosing, Run, run}
use Rattle.go_statement_rules.specs.Scopes.{Scopes, opened}
use Rattle.go_statement_rules.specs.Statements.{IsTypedBlock, KindLayer, Leaves, MayStand, leaves_if_then, may_be, may_lack}
use Rattle.go_syntax.specs.declared.expression.Expr.{Expr}
use Rattle.go_syntax.specs.declared.statement.LiteralBlock.{LiteralBlock}
use Rattle.go_syntax.specs.declared.statement.Stmt.{Stmt}
use Rattle.go_syntax.specs.declared.statement.StmtKind.{StmtKind-F}
use Rattle.go_untyped_places.specs.Parts.{IsLone, IsPart}
use Rattle.go_flat_statements.specs.go_walks.Standing.{Stays}

module _ (E : Env) (blocks : List LiteralBlock) (r : Enclosing) where
  -- ---- a statement that may be left out

  to_stand : (s : Scopes) (x : Option Stmt) → (u : Scopes) × Stays E blocks r s x u → MayStand E blocks r s x
  to_stand s None h = may_lack
  to_stand s (Some x) h = may_be h.1

  of_stand : (s : Scopes) (x : Option Stmt) → MayStand E blocks r s x → (u : Scopes) × Stays E blocks r s x u
  of_stand s None may_lack = (s, refl)
  of_stand s (Some x) (may_be {t = u} l) = (u, l)

  stand_decided : (s : Scopes) (x : Option Stmt) (u : Scopes) (b : Bool) → Reaches b (Stays E blocks r s x) u → Tells b (MayStand E blocks r s x)
  stand_decided s x u true h = to_stand s x (u, h)
  stand_decided s x u false h = λ m. let w = of_stand s x m in h w.0 w.1

  pub stand_judged : (s : Scopes) (x : Option Stmt) (u : Scopes) (j : Judged) → JudgesTo E blocks (Stays E blocks r s x) u (IsLone E blocks r s x) j → Judges E blocks (MayStand E blocks r s x) (IsLone E blocks r s x) j
  stand_judged s x u j k = (stand_decided s x u j.typed k.0, k.1)

  -- ---- the branches

  if_parts : {s u : Scopes} {init : Option Stmt} {e : Expr} {ss : List Stmt} {other : Option Stmt} → Leaves E blocks r s (StmtKind-F.If init e ss other) u
      → (t : Scopes) × Decides E blocks r s init (Some e) t × (IsTypedBlock E blocks r t ss × MayStand E blocks r t other)
  if_parts (leaves_if_then {t = t} b c d m) = (t, decides b c, (d, m))

  module _ (s : Scopes) (init : Option Stmt) (e : Expr) (ss : List Stmt) (other : Option Stmt) where
    abbrev Kind : KindLayer
    Kind = StmtKind-F.If init e ss other

    abbrev Decided : Scopes → Type 0
    Decided t = Decides E blocks r s init (Some e) t

    abbrev Both : Scopes → Type 0
    Both t = IsTypedBlock E blocks r t ss × MayStand E blocks r t other

    abbrev Head : Run → Type 0
    Head v = InHead E blocks r s init (expression e ∷ []) v

    abbrev Branch : Scopes → Run → Type 0
    Branch t v = (v ≡ run r (opened t) ss) ⊎ IsLone E blocks r t other v

    to_if : (t : Scopes) → Decided t → Both t → Leaves E blocks r s Kind s
    to_if t (decides b c) h = leaves_if_then b c h.0 h.1

    of_if : (u : Scopes) → Leaves E blocks r s Kind u → (t : Scopes) × Decided t × Both t
    of_if u l = if_parts l

    to_part : (v : Run) → Head v ⊎ ((t : Scopes) × Decided t × Branch t v) → IsPart E blocks r s Kind v
    to_part v (inl (inl l)) = inl l
    to_part v (inl (inr h)) = inr (inl h)
    to_part v (inr k) = inr (inr k)

    of_part : (v : Run) → IsPart E blocks r s Kind v → Head v ⊎ ((t : Scopes) × Decided t × Branch t v)
    of_part v (inl l) = inl (inl l)
    of_part v (inr (inl h)) = inl (inr h)
    of_part v (inr (inr k)) = inr k

    opens : Opens E blocks r s Kind Decided Both Head Branch
    opens = record { once = λ t u c d. decided_once E blocks r s init (Some e) t t u c d; leaves_in = to_if; leaves_by = of_if; part_in = to_part; part_by = of_part }

    pub if_failed : (t : Scopes) (h : Judged) → h.typed ≡ false → JudgesTo E blocks Decided t Head h → JudgesKind E blocks r s Kind s h
    if_failed t h f j = opening_failed E blocks r s Kind Decided Both Head Branch opens t h f j

    pub if_followed : (t u : Scopes) (h a b : Judged) → h.typed ≡ true → JudgesTo E blocks Decided t Head h → Judges E blocks (IsTypedBlock E blocks r t ss) (λ v. v ≡ run r (opened t) ss) a → JudgesTo E blocks (Stays E blocks r t other) u (IsLone E blocks r t other) b
        → JudgesKind E blocks r s Kind s (both h (both a b))
    if_followed t u h a b f j k l =
        opening_followed E blocks r s Kind Decided Both Head Branch opens t h (both a b) f j
        (judged_both E blocks (IsTypedBlock E blocks r t ss) (MayStand E blocks r t other) (λ v. v ≡ run r (opened t) ss) (IsLone E blocks r t other) a b k (stand_judged t other u b l))
