-- What is found in blocks and behind labels, as in statements.
use Rattle.std.proofs.Common.{◌≡◌, List, [], ◌∷◌, Result, sym, ap, ◌∙◌, subst}
use Rattle.std.proofs.lemmas.Result.{IfOk-weaker}
use Rattle.std.specs.Prelude.{IfOk}
use Rattle.go_base.specs.declared.memory.NoMemory.{NoMemory}
use Rattle.go_switch_statements.specs.go_flat_statements.Judging.{JudgesHere, JudgesKind, JudgesStatement}
use Rattle.go_judged.specs.Judging.{Judges, JudgesTo}
use Rattle.go_judged.specs.declared.judged.Judged.{Judged}
use Rattle.go_judged.proofs.Joining.{reaches_by, so_reached}
use Rattle.go_local_scopes.specs.States.{IsAt}
use Rattle.go_rules.specs.Environments.{Env}
use Rattle.go_rules.specs.Scopes.{Scopes as Known}
use Rattle.go_statement_rules.specs.Functions.{Enclosing, run}
use Rattle.go_statement_rules.specs.Scopes.{Scopes, opened}
use Rattle.go_statement_rules.specs.Statements.{IsTypedBlock, KindLayer, Leaves, kind_of, leaves_inner_block, leaves_labeled}
use Rattle.go_syntax.specs.declared.name.Name.{Name}
use Rattle.go_syntax.specs.declared.statement.LiteralBlock.{LiteralBlock}
use Rattle.go_syntax.specs.declared.statement.Stmt.{Stmt}
use Rattle.go_syntax.specs.declared.statement.StmtKind.{StmtKind-F}
use Rattle.go_switch_statements.specs.go_walks.Below.{blocks_of, enclosing_of}
use Rattle.go_switch_statements.specs.go_walks.declared.frame.Frame.{Frame}

module _ (E : Env) (blocks : List LiteralBlock) (r : Enclosing) where
  of_block : {s u : Scopes} (ss : List Stmt) → Leaves E blocks r s (StmtKind-F.Block ss) u → IsTypedBlock E blocks r s ss
  of_block ss (leaves_inner_block d) = d

  of_label : {s u : Scopes} (n : Name) (x : Stmt) → Leaves E blocks r s (StmtKind-F.Labeled n x) u → Leaves E blocks r s (kind_of x) u
  of_label n x (leaves_labeled l) = l

module _ (E : Env) (blocks : List LiteralBlock) (r : Enclosing) (s : Scopes) where
  pub block_judged : (ss : List Stmt) (j : Judged) → Judges E blocks (IsTypedBlock E blocks r s ss) (λ v. v ≡ run r (opened s) ss) j → JudgesKind E blocks r s (StmtKind-F.Block ss) s j
  block_judged ss j k = (reaches_by (IsTypedBlock E blocks r s ss) (Leaves E blocks r s (StmtKind-F.Block ss)) s j.typed leaves_inner_block (λ u l. of_block E blocks r ss l) k.0, k.1)

  pub labeled_judged : (n : Name) (x : Stmt) (t : Scopes) (j : Judged) → JudgesTo E blocks (Leaves E blocks r s (kind_of x)) t (λ v. v ≡ run r s (x ∷ [])) j → JudgesKind E blocks r s (StmtKind-F.Labeled n x) t j
  labeled_judged n x t j k = (so_reached (Leaves E blocks r s (kind_of x)) (Leaves E blocks r s (StmtKind-F.Labeled n x)) t j.typed leaves_labeled (λ u l. of_label E blocks r n x l) k.0, k.1)

  -- the scopes that are left stay as they were
  pub judged_there : (k : KindLayer) (t : Scopes) (j : Judged) → t ≡ s → JudgesKind E blocks r s k s j → JudgesKind E blocks r s k t j
  judged_there k t j e h = subst (λ (u : Scopes). JudgesKind E blocks r s k u j) (sym e) h

-- ---- by the kind

module _ (f : Frame) (e : Known) (k m : KindLayer) (i : k ≡ m) (r : Result Judged NoMemory) where
  pub statement_as : (g : Known) → JudgesStatement f e m g r → JudgesStatement f e k g r
  statement_as g h = subst (λ (z : KindLayer). JudgesStatement f e z g r) (sym i) h

  pub here_as : JudgesHere f e m r → JudgesHere f e k r
  here_as h = subst (λ (z : KindLayer). JudgesHere f e z r) (sym i) h

-- a statement that leaves the scopes as they are
pub here_statement : (f : Frame) (e g : Known) (k : KindLayer) (r : Result Judged NoMemory) → g ≡ e → JudgesHere f e k r → JudgesStatement f e k g r
here_statement f e g k r m h =
    IfOk-weaker r (λ (j : Judged). (E : Env) (s : Scopes) → IsAt E s e → JudgesKind E (blocks_of f) (enclosing_of f) s k s j) (λ (j : Judged). (E : Env) (s : Scopes) → IsAt E s e → JudgesKind E (blocks_of f) (enclosing_of f) s k g.opened j)
    (λ j a E s at. judged_there E (blocks_of f) (enclosing_of f) s k g.opened j (ap (λ (z : Known). z.opened) m ∙ at.scopes) (a E s at)) h

-- behind a label
pub labeled_statement : (f : Frame) (e g : Known) (n : Name) (x : Stmt) (r : Result Judged NoMemory)
    → IfOk r (λ j. (E : Env) (s : Scopes) → IsAt E s e → JudgesTo E (blocks_of f) (Leaves E (blocks_of f) (enclosing_of f) s (kind_of x)) g.opened (λ v. v ≡ run (enclosing_of f) s (x ∷ [])) j)
    → JudgesStatement f e (StmtKind-F.Labeled n x) g r
labeled_statement f e g n x r h =
    IfOk-weaker r
    (λ (j : Judged). (E : Env) (s : Scopes) → IsAt E s e → JudgesTo E (blocks_of f) (Leaves E (blocks_of f) (enclosing_of f) s (kind_of x)) g.opened (λ v. v ≡ run (enclosing_of f) s (x ∷ [])) j)
    (λ (j : Judged). (E : Env) (s : Scopes) → IsAt E s e → JudgesKind E (blocks_of f) (enclosing_of f) s (StmtKind-F.Labeled n x) g.opened j)
    (λ j a E s at. labeled_judged E (blocks_of f) (enclosing_of f) s n x g.opened j (a E s at)) h

-- a block
pub block_here : (f : Frame) (e : Known) (ss : List Stmt) (r : Result Judged NoMemory)
    → IfOk r (λ j. (E : Env) (s : Scopes) → IsAt E s e → Judges E (blocks_of f) (IsTypedBlock E (blocks_of f) (enclosing_of f) s ss) (λ v. v ≡ run (enclosing_of f) (opened s) ss) j)
    → JudgesHere f e (StmtKind-F.Block ss) r
block_here f e ss r h =
    IfOk-weaker r
    (λ (j : Judged). (E : Env) (s : Scopes) → IsAt E s e → Judges E (blocks_of f) (IsTypedBlock E (blocks_of f) (enclosing_of f) s ss) (λ v. v ≡ run (enclosing_of f) (opened s) ss) j)
    (λ (j : Judged). (E : Env) (s : Scopes) → IsAt E s e → JudgesKind E (blocks_of f) (enclosing_of f) s (StmtKind-F.Block ss) s j)
    (λ j a E s at. block_judged E (blocks_of f) (enclosing_of f) s ss j (a E s at)) h
