-- What the readers of declarations and of a source file find, where the readers of the parts are given.
-- Own: how the parser reads what the grammar derives.
use Rattle.std.specs.Prelude.{ℕ, Bool, true, false, if◌then◌else◌, List, [], ◌∷◌, ◌++◌, drop, Option, Some, None, codes}
use Rattle.std.specs.Str.{bytes_eq}
use Rattle.go_syntax.specs.declared.declaration.ConstSpec.{ConstSpec}
use Rattle.go_syntax.specs.declared.declaration.Decl.{Decl}
use Rattle.go_syntax.specs.declared.declaration.Decl.TheVariants as decl
use Rattle.go_syntax.specs.declared.declaration.File.{File}
use Rattle.go_syntax.specs.declared.declaration.Func.{Func}
use Rattle.go_syntax.specs.declared.declaration.ImportSpec.{ImportSpec}
use Rattle.go_syntax.specs.declared.declaration.TypeSpec.{TypeSpec}
use Rattle.go_syntax.specs.declared.declaration.VarSpec.{VarSpec}
use Rattle.go_syntax.specs.declared.expression.Expr.{Expr}
use Rattle.go_syntax.specs.declared.name.Name.{Name}
use Rattle.go_syntax.specs.declared.body.BodyRange.{BodyRange}
use Rattle.go_syntax.specs.declared.types.ParameterDecl.{ParameterDecl, out-ParameterDecl}
use Rattle.go_syntax.specs.declared.types.«Type».{«Type» as Typ}
use Rattle.go_syntax.specs.declared.token.TokenKind.TheVariants as kind
use Rattle.go_syntax.specs.grammar.Declarations.{constants, variables, function}
use Rattle.go_syntax.specs.grammar.Declarations.{type_spec as specified_type}
use Rattle.go_syntax.specs.grammar.Grammar.{is_variadic, at_most_one}
use Rattle.go_syntax.specs.grammar.SourceFiles.{import, source_file}
use Rattle.go_syntax.specs.grammar.Symbols.{begins, begins_type, closes}
use Rattle.go_syntax.specs.grammar.Terminals.{Terminal}
use Rattle.go_cursor.specs.Names.{names}
use Rattle.go_cursor.specs.Reading.{Found, Reader, Next, Stop, Fail, More, bind, after, run, step_of, expect, close, ended, spec_item, step_all, name, begins_name, string_at}
use Rattle.go_descent.specs.Rules.{Parts, exprs, parameters}

-- Groups

unfoldable pub specs : {A : Type 0} → Reader A → Reader (List A)
specs item ts = run (step_of (spec_item item)) [] ts

abbrev pub alone : {A : Type 0} → A → Reader (List A)
alone x ts = Some (x ∷ [], ts)

-- one item, or items in brackets
unfoldable pub group : {A : Type 0} → Reader A → Reader (List A)
group item ts = if begins kind.LeftParen ts then bind (specs item (drop 1 ts)) (close kind.RightParen) else bind (item ts) alone

-- Constants, variables and types

-- values, and the constants or variables that they make
unfoldable pub values : {A : Type 0} → (List Expr → A) → Parts → Reader A
values made l ts = bind (exprs l.expr ts) (λ xs u. Some (made xs, u))

unfoldable pub typed_const : Parts → List Name → Reader ConstSpec
typed_const l ns ts = bind (l.typ ts) (λ t u. bind (expect kind.Assign u) (λ _. values (constants ns (Some t)) l))

unfoldable pub const_end : Parts → List Name → Reader ConstSpec
const_end l ns ts =
    if begins kind.Assign ts then values (constants ns None) l (drop 1 ts) else
    if begins_type ts then typed_const l ns ts else Some (constants ns None [], ts)

unfoldable pub const_spec : Parts → Reader ConstSpec
const_spec l ts = bind (names ts) (const_end l)

-- after the type of variables
unfoldable pub typed_var : Parts → List Name → Typ → Reader VarSpec
typed_var l ns t ts = if begins kind.Assign ts then values (variables ns (Some t)) l (drop 1 ts) else Some (variables ns (Some t) [], ts)

unfoldable pub var_end : Parts → List Name → Reader VarSpec
var_end l ns ts = if begins kind.Assign ts then values (variables ns None) l (drop 1 ts) else bind (l.typ ts) (typed_var l ns)

unfoldable pub var_spec : Parts → Reader VarSpec
var_spec l ts = bind (names ts) (var_end l)

-- from the type on
unfoldable pub type_end : Parts → Name → Bool → Reader TypeSpec
type_end l n alias ts = bind (l.typ ts) (λ t u. Some (specified_type n alias t, u))

unfoldable pub type_spec : Parts → Reader TypeSpec
type_spec l ts = bind (name ts) (λ n u. if begins kind.Assign u then type_end l n true (drop 1 u) else type_end l n false u)

-- Functions

abbrev pub only_receiver : List ParameterDecl → Reader (Option ParameterDecl)
only_receiver [] ts = None
only_receiver (d ∷ []) ts = if is_variadic d then None else if at_most_one (out-ParameterDecl d).names then Some (Some d, ts) else None
only_receiver (d ∷ e ∷ ds) ts = None

unfoldable pub receiver : Parts → Reader (Option ParameterDecl)
receiver l ts = if begins kind.LeftParen ts then bind (parameters l.typ ts) only_receiver else Some (None, ts)

unfoldable pub optional_body : Parts → Reader (Option BodyRange)
optional_body l ts = if begins kind.LeftBrace ts then bind (l.body ts) (λ b u. Some (Some b, u)) else Some (None, ts)

-- from the name on
unfoldable pub func_end : Parts → Option ParameterDecl → Reader Func
func_end l r ts = bind (name ts) (λ n u. bind (l.signature u) (λ s v. bind (optional_body l v) (λ b w. Some (function r n s b, w))))

-- from behind `func` on
unfoldable pub func : Parts → Reader Func
func l ts = bind (receiver l ts) (func_end l)

-- Declarations

abbrev pub with_semicolon : {A B : Type 0} → (A → B) → Found A → Next B
with_semicolon made found = after (bind found (λ a. close kind.Semicolon (made a)))

-- a declaration, and the semicolon after it
unfoldable pub decl_item : Parts → List Terminal → Next Decl
decl_item l ts =
    if begins kind.ConstWord ts then with_semicolon decl.ConstGroup (group (const_spec l) (drop 1 ts)) else
    if begins kind.VarWord ts then with_semicolon decl.VarGroup (group (var_spec l) (drop 1 ts)) else
    if begins kind.TypeWord ts then with_semicolon decl.TypeGroup (group (type_spec l) (drop 1 ts)) else
    if begins kind.FuncWord ts then with_semicolon decl.FuncDecl (func l (drop 1 ts)) else Stop

unfoldable pub decls : Parts → Reader (List Decl)
decls l ts = run (step_of (decl_item l)) [] ts

-- Source files

abbrev pub import_at : Option Name → Option (List ℕ × ℕ) → Reader ImportSpec
import_at n None ts = None
import_at n (Some s) ts = Some (import n s.0 s.1, drop 1 ts)

-- from the path on
unfoldable pub import_path : Option Name → Reader ImportSpec
import_path n ts = import_at n (string_at ts) ts

unfoldable pub import_spec : Reader ImportSpec
import_spec ts = if begins_name ts then bind (name ts) (λ n. import_path (Some n)) else import_path None ts

unfoldable pub import_item : List Terminal → Next (List ImportSpec)
import_item ts = if begins kind.ImportWord ts then with_semicolon (λ xs. xs) (group import_spec (drop 1 ts)) else Stop

unfoldable pub imports : Reader (List ImportSpec)
imports ts = run (step_all import_item) [] ts

unfoldable pub package_name : Reader Name
package_name ts = bind (name ts) (λ n u. if bytes_eq n.text (codes "_") then None else Some (n, u))

unfoldable pub package_clause : Reader Name
package_clause ts = bind (expect kind.PackageWord ts) (λ _ u. bind (package_name u) (close kind.Semicolon))

-- a file's clauses; what is left after them is no declaration
unfoldable pub file : Parts → Reader File
file l ts = bind (package_clause ts) (λ n u. bind (imports u) (λ is v. bind (decls l v) (λ ds w. Some (source_file n is ds, w))))
