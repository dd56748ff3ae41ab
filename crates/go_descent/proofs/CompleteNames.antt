-- Each list of names, each type's name and each tag is found.
use Rattle.std.proofs.Common.{◌≡◌, ℕ, List, [], ◌∷◌, ◌++◌, false, Option, Some, None, refl, ap, arith}
use Rattle.go_syntax.specs.declared.name.Name.{Name}
use Rattle.go_syntax.specs.declared.name.QualifiedName.{QualifiedName}
use Rattle.go_syntax.specs.declared.token.TokenKind.TheVariants as kind
use Rattle.go_syntax.specs.grammar.Grammar as grammar
use Rattle.go_syntax.specs.grammar.Symbols.{takes, takes_name, takes_string, begins}
use Rattle.go_syntax.specs.grammar.Terminals.{Terminal, Sign, Identifier}
use Rattle.go_cursor.specs.Names.{name_item, names, type_name, tag_of, tag}
use Rattle.go_cursor.specs.Reading.{step_of, string_at}
use Rattle.go_descent.proofs.Begins.{if_not, Gives, gives_stop, gives_more, runs}

more_names_read : {ts rest : List Terminal} {ns : List Name} → grammar.IsMoreNames ts ns rest → begins kind.Comma rest ≡ false → (acc : List Name) → Gives (step_of name_item) acc ts (Some (acc ++ ns, rest))
more_names_read {ts} grammar.names_none e acc = gives_stop name_item acc ts (if_not _ _ _ e refl)
more_names_read {ts} {rest} (grammar.names_more {v = v} {n = n} {ns = ns} (takes at) takes_name d) e acc = gives_more name_item acc n ns (Sign kind.Comma at ∷ (Identifier n ∷ v)) v rest refl (omega arith) (more_names_read d e (acc ++ n ∷ []))

pub names_read : {ts rest : List Terminal} {ns : List Name} → grammar.IsNames ts ns rest → begins kind.Comma rest ≡ false → names ts ≡ Some (ns, rest)
unfolding names
names_read {rest = rest} {ns = ns} (grammar.names {u = u} {n = n} takes_name d) e = runs (step_of name_item) (n ∷ []) u (Some (ns, rest)) (more_names_read d e (n ∷ []))

pub type_name_read : {ts rest : List Terminal} {q : QualifiedName} → grammar.IsTypeName ts q rest → type_name ts ≡ Some (q, rest)
unfolding type_name
type_name_read (grammar.type_name_alone takes_name e) = if_not _ _ _ e refl
type_name_read (grammar.type_name_qualified takes_name (takes at) takes_name) = refl

pub tag_read : {ts rest : List Terminal} {text : Option (List ℕ)} → grammar.IsTag ts text rest → string_at rest ≡ None → tag ts ≡ Some (text, rest)
unfolding tag
tag_read {ts} grammar.tag_none e = ap (λ s. tag_of s ts) e
tag_read (grammar.tag_some place takes_string) e = refl
