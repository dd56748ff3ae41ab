-- What is read of a part at height 0, and above it.
use Rattle.std.proofs.Common.{◌≡◌, ℕ, suc, List, Result, Err, sym, subst, refl}
use Rattle.go_syntax.specs.declared.token.Token.{Token}
use Rattle.go_syntax.specs.grammar.Terminals.{Terminal}
use Rattle.go_descent.specs.go_cursor.declared.error.ParseError.{ParseError}
use Rattle.go_descent.specs.go_cursor.declared.error.ParseError.TheVariants.{Syntax}
use Rattle.go_descent.specs.declared.grammar.Part.{Part}
use Rattle.go_descent.specs.declared.grammar.Part.TheVariants as part
use Rattle.go_descent.specs.declared.grammar.PartTree.{PartTree}
use Rattle.go_descent.specs.Rules.{Parts, no_parts, whole_parts}
use Rattle.go_descent.specs.go_cursor.Skipping.{skipped_body}
use Rattle.go_descent.specs.Levels.{levels}
use Rattle.go_descent.specs.Parts.{ReadsPart}
use Rattle.go_descent.proofs.Heights.{bottom, higher}

at_bottom : (p : Part) (ts : List Terminal) (new : List Token) → ReadsPart no_parts p ts (Err Syntax) new
at_bottom part.Expr ts new = refl
at_bottom (part.Unary b) ts new = refl
at_bottom part.Type ts new = refl
at_bottom part.CompositeType ts new = refl
at_bottom part.Signature ts new = refl
at_bottom part.LiteralValue ts new = refl

-- nothing at height 0
pub nothing_below : (h : ℕ) → h ≡ 0 → (p : Part) (ts : List Terminal) (new : List Token) → ReadsPart (levels h) p ts (Err Syntax) new
nothing_below h e p ts new = subst (λ (l : Parts). ReadsPart l p ts (Err Syntax) new) (sym (bottom h e)) (at_bottom p ts new)

-- above it, what is read of the parts of the height below
pub part_above : (h k : ℕ) → h ≡ suc k → (p : Part) (ts : List Terminal) (r : Result PartTree ParseError) (new : List Token) → ReadsPart (whole_parts skipped_body (levels k)) p ts r new → ReadsPart (levels h) p ts r new
part_above h k e p ts r new d = subst (λ (l : Parts). ReadsPart l p ts r new) (sym (higher h k e)) d
