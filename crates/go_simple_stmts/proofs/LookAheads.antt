-- What the look-ahead for `:=` finds where a name is next, and where none is.
use Rattle.std.proofs.Common.{◌≡◌, ◌≤◌, List, [], ◌∷◌, length, drop, true, false, refl, sym, ap, ◌∙◌, arith}
use Rattle.go_cursor.specs.Reading.{begins_name}
use Rattle.go_cursor.proofs.Steps.{taken}
use Rattle.go_simple_stmts.specs.SimpleStatements.{begins_definition}
use Rattle.go_syntax.specs.declared.name.Name.{Name}
use Rattle.go_syntax.specs.declared.token.TokenKind.TheVariants as kind
use Rattle.go_syntax.specs.grammar.Symbols.{Takes, takes, begins}
use Rattle.go_syntax.specs.grammar.Terminals.{Terminal, Sign, Identifier, Basic, Odd}

pub no_name : (ts : List Terminal) → begins_name ts ≡ false → begins_definition ts ≡ false
unfolding begins_definition
no_name [] e = refl
no_name (Sign k at ∷ ts) e = refl
no_name (Identifier n ∷ ts) e = absurd (cc)
no_name (Basic l place ∷ ts) e = refl
no_name (Odd ∷ ts) e = refl

last_by : (n : Name) (ts : List Terminal) → begins kind.Comma ts ≡ false → begins_definition (Identifier n ∷ ts) ≡ begins kind.Define ts
unfolding begins_definition
last_by n [] e = refl
last_by n (Sign kind.Comma at ∷ ts) e = absurd (cc)
last_by n (_ ∷ ts) e = refl

comma_by : (n : Name) {ts us : List Terminal} → Takes kind.Comma ts us → begins_definition (Identifier n ∷ ts) ≡ begins_definition us
unfolding begins_definition
comma_by n (takes at) = refl

last_name_by : (ts : List Terminal) → begins_name ts ≡ true → begins kind.Comma (drop 1 ts) ≡ false → begins_definition ts ≡ begins kind.Define (drop 1 ts)
last_name_by [] e c = absurd (cc)
last_name_by (Sign k at ∷ ts) e c = absurd (cc)
last_name_by (Identifier n ∷ ts) e c = last_by n ts c
last_name_by (Basic l place ∷ ts) e c = absurd (cc)
last_name_by (Odd ∷ ts) e c = absurd (cc)

name_and_comma_by : (ts : List Terminal) → begins_name ts ≡ true → begins kind.Comma (drop 1 ts) ≡ true → begins_definition ts ≡ begins_definition (drop 1 (drop 1 ts))
name_and_comma_by [] e c = absurd (cc)
name_and_comma_by (Sign k at ∷ ts) e c = absurd (cc)
name_and_comma_by (Identifier n ∷ ts) e c = comma_by n (taken kind.Comma ts c)
name_and_comma_by (Basic l place ∷ ts) e c = absurd (cc)
name_and_comma_by (Odd ∷ ts) e c = absurd (cc)

module _ (ts us : List Terminal) (name : begins_name ts ≡ true) (past : us ≡ drop 1 ts) where
  pub last_name : begins kind.Comma us ≡ false → begins_definition ts ≡ begins kind.Define us
  last_name c = last_name_by ts name (ap (begins kind.Comma) (sym past) ∙ c) ∙ ap (begins kind.Define) (sym past)

  pub name_and_comma : (vs : List Terminal) → begins kind.Comma us ≡ true → vs ≡ drop 1 us → begins_definition ts ≡ begins_definition vs
  name_and_comma vs c q = name_and_comma_by ts name (ap (begins kind.Comma) (sym past) ∙ c) ∙ ap begins_definition (sym (q ∙ ap (drop 1) past))

pub none_left : (ts : List Terminal) → length ts ≤ 0 → begins_definition ts ≡ false
unfolding begins_definition
none_left [] h = refl
none_left (t ∷ ts) h = absurd (omega arith)
