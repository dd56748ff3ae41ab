-- What the readers of expressions, types, simple statements and groups find is in the grammar, where bodies are skipped.
use Rattle.std.proofs.Common.{◌≡◌, ℕ, zero, suc, Bool, true, false, List, Some, None}
use Rattle.go_cursor.specs.Skipping.{skipped_body}
use Rattle.go_cursor.proofs.Steps.{Sound}
use Rattle.go_descent.specs.Levels.{levels}
use Rattle.go_descent.specs.Rules.{expr_of, exprs, primary_expr, typ_of, unary_expr}
use Rattle.go_descent.proofs.Bodies.{skips_sound}
use Rattle.go_descent.proofs.SoundLevels.{parts_sound}
use Rattle.go_descent.proofs.SoundOperators.{expr_sound, unary_sound}
use Rattle.go_descent.proofs.SoundParts.{SoundParts}
use Rattle.go_descent.proofs.SoundPosts.{exprs_sound, primary_sound}
use Rattle.go_descent.proofs.SoundTypes.{type_sound}
use Rattle.go_parse.specs.Declarations.{group, const_spec, var_spec}
use Rattle.go_parse.proofs.SoundDeclarations.{group_sound, const_spec_sound, var_spec_sound}
use Rattle.go_simple_stmts.specs.SimpleStatements.{simple}
use Rattle.go_simple_stmts.proofs.SoundSimple.{simple_sound}
use Rattle.go_stmt_descent.specs.Headers.{simple_at}
use Rattle.go_syntax.specs.grammar.Declarations.{IsGroup, IsConstSpec, IsVarSpec}
use Rattle.go_syntax.specs.grammar.Grammar.{IsExpr, IsExprs, IsPrimary, IsType, IsUnary}
use Rattle.go_syntax.specs.grammar.SourceFiles.{Skips}
use Rattle.go_syntax.specs.grammar.Statements.{IsSimple}

parts_at : (h : ℕ) → SoundParts Skips (levels h) h
parts_at h = parts_sound Skips (λ _. skipped_body) skips_sound h

pub expr_found : (b : Bool) (h : ℕ) → Sound (IsExpr Skips b h) (expr_of b (levels h))
expr_found b h = expr_sound Skips (levels h) h (parts_at h) b

pub exprs_found : (b : Bool) (h : ℕ) → Sound (IsExprs Skips b h) (exprs (expr_of b (levels h)))
exprs_found b h = exprs_sound Skips b h (expr_of b (levels h)) (expr_found b h)

pub type_found : (h : ℕ) → Sound (IsType Skips h) (typ_of (levels h))
type_found h = type_sound Skips (levels h) h (parts_at h)

pub unary_found : (h : ℕ) → Sound (IsUnary Skips true h) (unary_expr true (levels h))
unary_found h = unary_sound Skips (levels h) h (parts_at h) true

pub primary_found : (h : ℕ) → Sound (IsPrimary Skips false h) (primary_expr false (levels h))
primary_found h = primary_sound Skips (levels h) h (parts_at h) false

pub simple_found : (b : Bool) (h : ℕ) → Sound (IsSimple Skips b (suc h)) (simple b (levels h))
simple_found b h = simple_sound Skips b h (levels h) (expr_found b h)

pub simple_at_found : (b : Bool) (h : ℕ) → Sound (IsSimple Skips b h) (simple_at b h)
unfolding simple_at
simple_at_found b zero ts k rest e = absurd (cc)
simple_at_found b (suc h) ts k rest e = simple_found b h ts k rest e

pub consts_found : (h : ℕ) → Sound (IsGroup (IsConstSpec Skips h)) (group (const_spec (levels (suc h))))
consts_found h = group_sound (IsConstSpec Skips h) (const_spec (levels (suc h))) (const_spec_sound Skips h (levels (suc h)) (parts_at (suc h)))

pub vars_found : (h : ℕ) → Sound (IsGroup (IsVarSpec Skips h)) (group (var_spec (levels (suc h))))
vars_found h = group_sound (IsVarSpec Skips h) (var_spec (levels (suc h))) (var_spec_sound Skips h (levels (suc h)) (parts_at (suc h)))
