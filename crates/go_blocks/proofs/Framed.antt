-- What is found where `iota` has no value, and in a frame.
use Rattle.std.proofs.Common.{◌≡◌, ℕ, List, Option, None, Some, Result, Ok, Err, refl, sym, ap, ◌∙◌, subst}
use Rattle.std.proofs.lemmas.Result.{IfOk-weaker}
use Rattle.std.specs.Prelude.{IfOk}
use Rattle.go_base.specs.declared.memory.NoMemory.{NoMemory as Starved}
use Rattle.go_blocks.specs.Answers.{FindsBlock, TellsBlock, answer_by}
use Rattle.go_blocks.specs.declared.error.BlockError.{BlockError}
use Rattle.go_judged.specs.Judging.{Finds}
use Rattle.go_literal_blocks.specs.declared.blocks.Blocks.{Blocks}
use Rattle.go_local_scopes.specs.States.{IsAt, around}
use Rattle.go_model.specs.declared.types.term.Term.{Term}
use Rattle.go_rules.specs.Environments.{Env}
use Rattle.go_rules.specs.Scopes.{Scopes as Known}
use Rattle.go_statement_rules.specs.Functions.{Enclosing}
use Rattle.go_statement_rules.specs.Scopes.{Scopes, opened}
use Rattle.go_statement_rules.specs.Statements.{typed_block}
use Rattle.go_syntax.specs.declared.statement.LiteralBlock.{LiteralBlock}
use Rattle.go_syntax.specs.declared.statement.Stmt.{Stmt}
use Rattle.go_switch_statements.specs.go_walks.Below.{blocks_of, enclosing_of}
use Rattle.go_switch_statements.specs.go_walks.declared.frame.Frame.{Frame}

-- ---- iota

pub without_iota : (e f : Known) → f ≡ record e { iota = None } → IsAt (around e) e.opened f
without_iota e f m = subst (IsAt (around e) e.opened) (sym m) (record { outside = refl; scopes = refl; no_iota = refl })

pub iota_back : (e f g h : Known) (i : Option ℕ) → f ≡ record e { iota = None } → g ≡ f → i ≡ e.iota → h ≡ record g { iota = i } → h ≡ e
iota_back e f g h i m n k l = l ∙ ap (λ (z : Known). record z { iota = i }) (n ∙ m) ∙ ap (λ (j : Option ℕ). record e { iota = j }) k

-- what is told wherever the environment without a value of iota stands
pub told_there : {A : Type 0} (e f : Known) → f ≡ record e { iota = None } → (r : Result A Starved) (P : Env → Scopes → A → Type 0) → IfOk r (λ j. (E : Env) (s : Scopes) → IsAt E s f → P E s j) → IfOk r (P (around e) e.opened)
told_there {A} e f m r P h = IfOk-weaker r (λ (j : A). (E : Env) (s : Scopes) → IsAt E s f → P E s j) (P (around e) e.opened) (λ j k. k (around e) e.opened (without_iota e f m)) h

-- ---- a frame

frame_is : (f : Frame) (ts : List Term) (n : ℕ) → f.results.now ≡ ts → f.first ≡ n → ◌≡◌ {A = Enclosing} (enclosing_of f) (record { results = ts; first = n })
frame_is f ts n e h = λ i. record { results = e i; first = h i }

pub in_frame : (f : Frame) (b : Blocks) (ts : List Term) (n : ℕ) → f.blocks.now ≡ b → f.results.now ≡ ts → f.first ≡ n → (P : List LiteralBlock → Enclosing → Type 0) → P (blocks_of f) (enclosing_of f) → P b.list.now (record { results = ts; first = n })
in_frame f b ts n i e h P k = subst (λ (x : List LiteralBlock). P x (record { results = ts; first = n })) (ap (λ (x : Blocks). x.list.now) i) (subst (P (blocks_of f)) (frame_is f ts n e h) k)

-- ---- a block

module _ (E : Env) (blocks : List LiteralBlock) (r : Enclosing) (s : Scopes) (ss : List Stmt) where
  pub block_finds : (t : Scopes) (p : Option ℕ) → Finds E blocks r (opened s) ss t p → FindsBlock E blocks r s ss p
  block_finds t None f = typed_block f
  block_finds t (Some p) f = f

  told : (p : Result (Option ℕ) Starved) → IfOk p (FindsBlock E blocks r s ss) → TellsBlock E blocks r s ss (answer_by p)
  told (Ok None) f = f
  told (Ok (Some p)) f = f
  told (Err e) f = tt

  pub told_block : (p : Result (Option ℕ) Starved) (a : Result (Unit {0}) BlockError) → a ≡ answer_by p → IfOk p (FindsBlock E blocks r s ss) → TellsBlock E blocks r s ss a
  told_block p a e f = subst (TellsBlock E blocks r s ss) (sym e) (told p f)
