-- What follows expressions in statements, and what begins none.
use Rattle.std.proofs.Common.{◌≡◌, Bool, true, false, List, [], ◌∷◌, Some, None, refl}
use Rattle.go_base.specs.declared.operator.AssignOperator.{AssignOperator}
use Rattle.go_base.specs.declared.operator.StepOperator.{StepOperator}
use Rattle.go_cursor.specs.LookAheads.{begins_type_switch}
use Rattle.go_cursor.specs.Reading.{goes_on}
use Rattle.go_descent.specs.Follow.{OverExpr}
use Rattle.go_descent.proofs.BeginsExpr.{begins_expr}
use Rattle.go_descent.proofs.CompleteParts.{over}
use Rattle.go_simple_stmts.specs.Follow.{OverSimple}
use Rattle.go_stmt_descent.specs.Headers.{ranges}
use Rattle.go_syntax.specs.declared.token.TokenKind.{TokenKind}
use Rattle.go_syntax.specs.declared.token.TokenKind.TheVariants as kind
use Rattle.go_syntax.specs.grammar.Statements.{assign_operator, step_operator}
use Rattle.go_syntax.specs.grammar.Symbols.{Takes, begins, closes, Ends, ends_semicolon, ends_closing, takes}
use Rattle.go_syntax.specs.grammar.Terminals.{Extent, Terminal, Sign}

-- what is next where a keyword or an operator is taken
pub sign_next : {k : TokenKind} {ts us : List Terminal} → Takes k ts us → (at : Extent) × (ts ≡ Sign k at ∷ us)
sign_next (takes at) = (at, refl)

-- what stands behind all the expressions that a simple statement begins with
pub record Behind (b : Bool) (rest : List Terminal) : Type 0 where
  pub over : OverExpr b rest
  pub brace : begins kind.LeftBrace rest ≡ false
  pub guard : begins_type_switch rest ≡ false
  pub colon : begins kind.Colon rest ≡ false
  pub define : begins kind.Define rest ≡ false
  pub stops : goes_on rest ≡ false
  pub ranges_not : ranges kind.Assign rest ≡ false

pub behind_assign : (b : Bool) (at : Extent) (ts : List Terminal) → begins kind.RangeWord ts ≡ false → Behind b (Sign kind.Assign at ∷ ts)
behind_assign b at ts e = record { over = over b (Sign kind.Assign at ∷ ts) refl (λ _. refl) refl refl refl refl refl; brace = refl; guard = refl; colon = refl; define = refl; stops = refl; ranges_not = e }

-- whether a token ends the expressions that a simple statement begins with, and is neither `=` nor `:=`
abbrev pub ends_exprs : TokenKind → Bool
ends_exprs kind.Arrow = true
ends_exprs kind.Semicolon = true
ends_exprs kind.RightParen = true
ends_exprs kind.RightBrace = true
ends_exprs kind.Increment = true
ends_exprs kind.Decrement = true
ends_exprs kind.AddAssign = true
ends_exprs kind.SubtractAssign = true
ends_exprs kind.OrAssign = true
ends_exprs kind.XorAssign = true
ends_exprs kind.MultiplyAssign = true
ends_exprs kind.DivideAssign = true
ends_exprs kind.RemainderAssign = true
ends_exprs kind.ShiftLeftAssign = true
ends_exprs kind.ShiftRightAssign = true
ends_exprs kind.AndAssign = true
ends_exprs kind.AndNotAssign = true
ends_exprs _ = false

pub behind_sign : (b : Bool) (k : TokenKind) (at : Extent) (ts : List Terminal) → ends_exprs k ≡ true → Behind b (Sign k at ∷ ts)
behind_sign b kind.Arrow at ts e = record { over = over b (Sign kind.Arrow at ∷ ts) refl (λ _. refl) refl refl refl refl refl; brace = refl; guard = refl; colon = refl; define = refl; stops = refl; ranges_not = refl }
behind_sign b kind.Semicolon at ts e = record { over = over b (Sign kind.Semicolon at ∷ ts) refl (λ _. refl) refl refl refl refl refl; brace = refl; guard = refl; colon = refl; define = refl; stops = refl; ranges_not = refl }
behind_sign b kind.RightParen at ts e = record { over = over b (Sign kind.RightParen at ∷ ts) refl (λ _. refl) refl refl refl refl refl; brace = refl; guard = refl; colon = refl; define = refl; stops = refl; ranges_not = refl }
behind_sign b kind.RightBrace at ts e = record { over = over b (Sign kind.RightBrace at ∷ ts) refl (λ _. refl) refl refl refl refl refl; brace = refl; guard = refl; colon = refl; define = refl; stops = refl; ranges_not = refl }
behind_sign b kind.Increment at ts e = record { over = over b (Sign kind.Increment at ∷ ts) refl (λ _. refl) refl refl refl refl refl; brace = refl; guard = refl; colon = refl; define = refl; stops = refl; ranges_not = refl }
behind_sign b kind.Decrement at ts e = record { over = over b (Sign kind.Decrement at ∷ ts) refl (λ _. refl) refl refl refl refl refl; brace = refl; guard = refl; colon = refl; define = refl; stops = refl; ranges_not = refl }
behind_sign b kind.AddAssign at ts e = record { over = over b (Sign kind.AddAssign at ∷ ts) refl (λ _. refl) refl refl refl refl refl; brace = refl; guard = refl; colon = refl; define = refl; stops = refl; ranges_not = refl }
behind_sign b kind.SubtractAssign at ts e = record { over = over b (Sign kind.SubtractAssign at ∷ ts) refl (λ _. refl) refl refl refl refl refl; brace = refl; guard = refl; colon = refl; define = refl; stops = refl; ranges_not = refl }
behind_sign b kind.OrAssign at ts e = record { over = over b (Sign kind.OrAssign at ∷ ts) refl (λ _. refl) refl refl refl refl refl; brace = refl; guard = refl; colon = refl; define = refl; stops = refl; ranges_not = refl }
behind_sign b kind.XorAssign at ts e = record { over = over b (Sign kind.XorAssign at ∷ ts) refl (λ _. refl) refl refl refl refl refl; brace = refl; guard = refl; colon = refl; define = refl; stops = refl; ranges_not = refl }
behind_sign b kind.MultiplyAssign at ts e = record { over = over b (Sign kind.MultiplyAssign at ∷ ts) refl (λ _. refl) refl refl refl refl refl; brace = refl; guard = refl; colon = refl; define = refl; stops = refl; ranges_not = refl }
behind_sign b kind.DivideAssign at ts e = record { over = over b (Sign kind.DivideAssign at ∷ ts) refl (λ _. refl) refl refl refl refl refl; brace = refl; guard = refl; colon = refl; define = refl; stops = refl; ranges_not = refl }
behind_sign b kind.RemainderAssign at ts e = record { over = over b (Sign kind.RemainderAssign at ∷ ts) refl (λ _. refl) refl refl refl refl refl; brace = refl; guard = refl; colon = refl; define = refl; stops = refl; ranges_not = refl }
behind_sign b kind.ShiftLeftAssign at ts e = record { over = over b (Sign kind.ShiftLeftAssign at ∷ ts) refl (λ _. refl) refl refl refl refl refl; brace = refl; guard = refl; colon = refl; define = refl; stops = refl; ranges_not = refl }
behind_sign b kind.ShiftRightAssign at ts e = record { over = over b (Sign kind.ShiftRightAssign at ∷ ts) refl (λ _. refl) refl refl refl refl refl; brace = refl; guard = refl; colon = refl; define = refl; stops = refl; ranges_not = refl }
behind_sign b kind.AndAssign at ts e = record { over = over b (Sign kind.AndAssign at ∷ ts) refl (λ _. refl) refl refl refl refl refl; brace = refl; guard = refl; colon = refl; define = refl; stops = refl; ranges_not = refl }
behind_sign b kind.AndNotAssign at ts e = record { over = over b (Sign kind.AndNotAssign at ∷ ts) refl (λ _. refl) refl refl refl refl refl; brace = refl; guard = refl; colon = refl; define = refl; stops = refl; ranges_not = refl }
behind_sign b _ at ts e = absurd (cc)

pub step_ends : (k : TokenKind) (op : StepOperator) → step_operator k ≡ Some op → ends_exprs k ≡ true
step_ends kind.Increment op e = refl
step_ends kind.Decrement op e = refl
step_ends _ op e = absurd (cc)

pub operation_ends : (k : TokenKind) (op : AssignOperator) → assign_operator k ≡ Some op → ends_exprs k ≡ true
operation_ends kind.AddAssign op e = refl
operation_ends kind.SubtractAssign op e = refl
operation_ends kind.OrAssign op e = refl
operation_ends kind.XorAssign op e = refl
operation_ends kind.MultiplyAssign op e = refl
operation_ends kind.DivideAssign op e = refl
operation_ends kind.RemainderAssign op e = refl
operation_ends kind.ShiftLeftAssign op e = refl
operation_ends kind.ShiftRightAssign op e = refl
operation_ends kind.AndAssign op e = refl
operation_ends kind.AndNotAssign op e = refl
operation_ends _ op e = absurd (cc)

pub over_define : (b : Bool) (at : Extent) (ts : List Terminal) → OverExpr b (Sign kind.Define at ∷ ts)
over_define b at ts = over b (Sign kind.Define at ∷ ts) refl (λ _. refl) refl refl refl refl refl

pub over_assign : (b : Bool) (at : Extent) (ts : List Terminal) → OverExpr b (Sign kind.Assign at ∷ ts)
over_assign b at ts = over b (Sign kind.Assign at ∷ ts) refl (λ _. refl) refl refl refl refl refl

pub over_arrow : (b : Bool) (at : Extent) (ts : List Terminal) → OverExpr b (Sign kind.Arrow at ∷ ts)
over_arrow b at ts = over b (Sign kind.Arrow at ∷ ts) refl (λ _. refl) refl refl refl refl refl

-- the block behind a header
pub over_brace : (at : Extent) (ts : List Terminal) → OverExpr false (Sign kind.LeftBrace at ∷ ts)
over_brace at ts = over false (Sign kind.LeftBrace at ∷ ts) refl (λ e. absurd (cc)) refl refl refl refl refl

-- the guard of a type switch behind its operand
pub over_guard : (at a c : Extent) (ts : List Terminal) → OverExpr false (Sign kind.Period at ∷ (Sign kind.LeftParen a ∷ (Sign kind.TypeWord c ∷ ts)))
over_guard at a c ts = over false (Sign kind.Period at ∷ (Sign kind.LeftParen a ∷ (Sign kind.TypeWord c ∷ ts))) refl (λ _. refl) refl refl refl refl refl

-- the end of a simple statement

pub simple_semicolon : (b : Bool) (at : Extent) (ts : List Terminal) → OverSimple b (Sign kind.Semicolon at ∷ ts)
simple_semicolon b at ts = record { expr = over b (Sign kind.Semicolon at ∷ ts) refl (λ _. refl) refl refl refl refl refl; comma = refl; arrow = refl; assign = refl; define = refl; step = refl; operation = refl }

pub simple_brace : (at : Extent) (ts : List Terminal) → OverSimple false (Sign kind.LeftBrace at ∷ ts)
simple_brace at ts = record { expr = over_brace at ts; comma = refl; arrow = refl; assign = refl; define = refl; step = refl; operation = refl }

simple_closes : (ts : List Terminal) → closes ts ≡ true → OverSimple true ts
simple_closes [] e = absurd (cc)
simple_closes (Sign kind.RightParen at ∷ ts) e = record { expr = over true (Sign kind.RightParen at ∷ ts) refl (λ _. refl) refl refl refl refl refl; comma = refl; arrow = refl; assign = refl; define = refl; step = refl; operation = refl }
simple_closes (Sign kind.RightBrace at ∷ ts) e = record { expr = over true (Sign kind.RightBrace at ∷ ts) refl (λ _. refl) refl refl refl refl refl; comma = refl; arrow = refl; assign = refl; define = refl; step = refl; operation = refl }
simple_closes (_ ∷ ts) e = absurd (cc)

pub simple_ends : {ts rest : List Terminal} → Ends ts rest → OverSimple true ts
simple_ends (ends_semicolon {rest = rest} (takes at)) = simple_semicolon true at rest
simple_ends {ts} (ends_closing e) = simple_closes ts e

behind_closes : (ts : List Terminal) → closes ts ≡ true → Behind true ts
behind_closes [] e = absurd (cc)
behind_closes (Sign kind.RightParen at ∷ ts) e = behind_sign true kind.RightParen at ts refl
behind_closes (Sign kind.RightBrace at ∷ ts) e = behind_sign true kind.RightBrace at ts refl
behind_closes (_ ∷ ts) e = absurd (cc)

pub behind_ends : {ts rest : List Terminal} → Ends ts rest → Behind true ts
behind_ends (ends_semicolon {rest = rest} (takes at)) = behind_sign true kind.Semicolon at rest refl
behind_ends {ts} (ends_closing e) = behind_closes ts e

-- what begins no expression

pub expr_not_semicolon : (ts : List Terminal) → begins_expr ts ≡ true → begins kind.Semicolon ts ≡ false
expr_not_semicolon [] e = refl
expr_not_semicolon (Sign kind.Semicolon at ∷ ts) e = absurd (cc)
expr_not_semicolon (_ ∷ ts) e = refl

pub expr_not_range : (ts : List Terminal) → begins_expr ts ≡ true → begins kind.RangeWord ts ≡ false
expr_not_range [] e = refl
expr_not_range (Sign kind.RangeWord at ∷ ts) e = absurd (cc)
expr_not_range (_ ∷ ts) e = refl

pub expr_not_case : (ts : List Terminal) → begins_expr ts ≡ true → begins kind.CaseWord ts ≡ false
expr_not_case [] e = refl
expr_not_case (Sign kind.CaseWord at ∷ ts) e = absurd (cc)
expr_not_case (_ ∷ ts) e = refl

pub expr_not_default : (ts : List Terminal) → begins_expr ts ≡ true → begins kind.DefaultWord ts ≡ false
expr_not_default [] e = refl
expr_not_default (Sign kind.DefaultWord at ∷ ts) e = absurd (cc)
expr_not_default (_ ∷ ts) e = refl

pub expr_not_brace : (ts : List Terminal) → begins_expr ts ≡ true → begins kind.LeftBrace ts ≡ false
expr_not_brace [] e = refl
expr_not_brace (Sign kind.LeftBrace at ∷ ts) e = absurd (cc)
expr_not_brace (_ ∷ ts) e = refl

-- what ends no statement

closes_not_else : (ts : List Terminal) → closes ts ≡ true → begins kind.ElseWord ts ≡ false
closes_not_else [] e = refl
closes_not_else (Sign kind.ElseWord at ∷ ts) e = absurd (cc)
closes_not_else (_ ∷ ts) e = refl

pub ends_not_else : {ts rest : List Terminal} → Ends ts rest → begins kind.ElseWord ts ≡ false
ends_not_else (ends_semicolon (takes at)) = refl
ends_not_else {ts} (ends_closing e) = closes_not_else ts e

closes_not_brace : (ts : List Terminal) → closes ts ≡ true → begins kind.LeftBrace ts ≡ false
closes_not_brace [] e = refl
closes_not_brace (Sign kind.LeftBrace at ∷ ts) e = absurd (cc)
closes_not_brace (_ ∷ ts) e = refl

pub ends_not_brace : {ts rest : List Terminal} → Ends ts rest → begins kind.LeftBrace ts ≡ false
ends_not_brace (ends_semicolon (takes at)) = refl
ends_not_brace {ts} (ends_closing e) = closes_not_brace ts e
