-- What the readers of names find: lists of names, the names of types and the tags of fields.
-- Own: how the parser reads what the grammar derives.
use Rattle.std.specs.Prelude.{ℕ, if◌then◌else◌, List, [], ◌∷◌, drop, Option, Some, None}
use Rattle.go_syntax.specs.declared.name.Name.{Name}
use Rattle.go_syntax.specs.declared.name.QualifiedName.{QualifiedName}
use Rattle.go_syntax.specs.declared.token.TokenKind.TheVariants as kind
use Rattle.go_syntax.specs.grammar.Symbols.{begins, begins_selector}
use Rattle.go_syntax.specs.grammar.Terminals.{Terminal}
use Rattle.go_cursor.specs.Reading.{Reader, Next, Stop, bind, after, run, step_of, name, string_at}

-- List(Name)
abbrev pub name_item : List Terminal → Next Name
name_item ts = if begins kind.Comma ts then after (name (drop 1 ts)) else Stop

unfoldable pub names : Reader (List Name)
names ts = bind (name ts) (λ n. run (step_of name_item) (n ∷ []))

abbrev pub qualified : Option Name → Name → QualifiedName
qualified qualifier name = record { qualifier = qualifier; name = name }

unfoldable pub type_name : Reader QualifiedName
type_name ts = bind (name ts) (λ n u. if begins_selector u then bind (name (drop 1 u)) (λ m v. Some (qualified (Some n) m, v)) else Some (qualified None n, u))

abbrev pub tag_of : Option (List ℕ × ℕ) → Reader (Option (List ℕ))
tag_of None ts = Some (None, ts)
tag_of (Some s) ts = Some (Some s.0, drop 1 ts)

unfoldable pub tag : Reader (Option (List ℕ))
tag ts = tag_of (string_at ts) ts
