-- What the look-aheads past a name find.
use Rattle.std.proofs.Common.{◌≡◌, List, [], ◌∷◌, drop, true, false, refl, ap, ◌∙◌}
use Rattle.go_cursor.specs.Reading.{begins_name}
use Rattle.go_stmt_descent.specs.Headers.{begins_binding}
use Rattle.go_stmt_descent.specs.Statements.{begins_label}
use Rattle.go_syntax.specs.declared.token.TokenKind.TheVariants as kind
use Rattle.go_syntax.specs.grammar.Symbols.{begins}
use Rattle.go_syntax.specs.grammar.Terminals.{Terminal, Sign, Identifier, Basic, Odd}

pub no_binding : (ts : List Terminal) → begins_name ts ≡ false → begins_binding ts ≡ false
no_binding [] e = refl
no_binding (Sign k at ∷ ts) e = refl
no_binding (Identifier n ∷ ts) e = absurd (cc)
no_binding (Basic l place ∷ ts) e = refl
no_binding (Odd ∷ ts) e = refl

pub some_binding : (ts : List Terminal) → begins_name ts ≡ true → begins_binding ts ≡ begins kind.Define (drop 1 ts)
some_binding [] e = absurd (cc)
some_binding (Sign k at ∷ ts) e = absurd (cc)
some_binding (Identifier n ∷ ts) e = refl
some_binding (Basic l place ∷ ts) e = absurd (cc)
some_binding (Odd ∷ ts) e = absurd (cc)

pub no_label : (ts : List Terminal) → begins_name ts ≡ false → begins_label ts ≡ false
no_label [] e = refl
no_label (Sign k at ∷ ts) e = refl
no_label (Identifier n ∷ ts) e = absurd (cc)
no_label (Basic l place ∷ ts) e = refl
no_label (Odd ∷ ts) e = refl

pub some_label : (ts : List Terminal) → begins_name ts ≡ true → begins_label ts ≡ begins kind.Colon (drop 1 ts)
some_label [] e = absurd (cc)
some_label (Sign k at ∷ ts) e = absurd (cc)
some_label (Identifier n ∷ ts) e = refl
some_label (Basic l place ∷ ts) e = absurd (cc)
some_label (Odd ∷ ts) e = absurd (cc)
