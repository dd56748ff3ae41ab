-- What a look-ahead finds where a name is next, and where none is.
use Rattle.std.proofs.Common.{◌≡◌, ◌-◌, ◌≤◌, List, [], ◌∷◌, length, drop, Bool, true, false, if◌then◌else◌, refl, sym, ap, ◌∙◌, arith}
use Rattle.std.proofs.lemmas.List.{length-drop}
use Rattle.go_syntax.specs.declared.name.Name.{Name}
use Rattle.go_syntax.specs.declared.token.TokenKind.TheVariants as kind
use Rattle.go_syntax.specs.grammar.Symbols.{Takes, takes, begins, begins_type, begins_selector}
use Rattle.go_syntax.specs.grammar.Terminals.{Terminal, Sign, Identifier, Basic, Odd}
use Rattle.go_cursor.specs.LookAheads.{is_named, names_field, names_method, names_composite}
use Rattle.go_cursor.specs.Reading.{begins_name}
use Rattle.go_cursor.specs.Skipping.{past_name}
use Rattle.go_cursor.proofs.Steps.{taken}

-- Names with commas between them

pub no_name : (ts : List Terminal) → begins_name ts ≡ false → is_named ts ≡ false
unfolding is_named
no_name [] e = refl
no_name (Sign k at ∷ ts) e = refl
no_name (Identifier n ∷ ts) e = absurd (cc)
no_name (Basic l place ∷ ts) e = refl
no_name (Odd ∷ ts) e = refl

last_by : (n : Name) (ts : List Terminal) → begins kind.Comma ts ≡ false → is_named (Identifier n ∷ ts) ≡ (if begins kind.Ellipsis ts then true else begins_type ts)
unfolding is_named
last_by n [] e = refl
last_by n (Sign kind.Comma at ∷ ts) e = absurd (cc)
last_by n (_ ∷ ts) e = refl

comma_by : (n : Name) {ts us : List Terminal} → Takes kind.Comma ts us → is_named (Identifier n ∷ ts) ≡ is_named us
unfolding is_named
comma_by n (takes at) = refl

last_name_by : (ts : List Terminal) → begins_name ts ≡ true → begins kind.Comma (drop 1 ts) ≡ false → is_named ts ≡ (if begins kind.Ellipsis (drop 1 ts) then true else begins_type (drop 1 ts))
last_name_by [] e c = absurd (cc)
last_name_by (Sign k at ∷ ts) e c = absurd (cc)
last_name_by (Identifier n ∷ ts) e c = last_by n ts c
last_name_by (Basic l place ∷ ts) e c = absurd (cc)
last_name_by (Odd ∷ ts) e c = absurd (cc)

name_and_comma_by : (ts : List Terminal) → begins_name ts ≡ true → begins kind.Comma (drop 1 ts) ≡ true → is_named ts ≡ is_named (drop 1 (drop 1 ts))
name_and_comma_by [] e c = absurd (cc)
name_and_comma_by (Sign k at ∷ ts) e c = absurd (cc)
name_and_comma_by (Identifier n ∷ ts) e c = comma_by n (taken kind.Comma ts c)
name_and_comma_by (Basic l place ∷ ts) e c = absurd (cc)
name_and_comma_by (Odd ∷ ts) e c = absurd (cc)

module _ (ts us : List Terminal) (name : begins_name ts ≡ true) (past : us ≡ drop 1 ts) where
  pub last_name : begins kind.Comma us ≡ false → is_named ts ≡ (if begins kind.Ellipsis us then true else begins_type us)
  last_name c = last_name_by ts name (ap (begins kind.Comma) (sym past) ∙ c) ∙ ap (λ (w : List Terminal). if begins kind.Ellipsis w then true else begins_type w) (sym past)

  pub name_and_comma : (vs : List Terminal) → begins kind.Comma us ≡ true → vs ≡ drop 1 us → is_named ts ≡ is_named vs
  name_and_comma vs c q = name_and_comma_by ts name (ap (begins kind.Comma) (sym past) ∙ c) ∙ ap is_named (sym (q ∙ ap (drop 1) past))

pub two_fewer : (ts us vs : List Terminal) → us ≡ drop 1 ts → vs ≡ drop 1 us → length vs ≡ length ts - 2
two_fewer ts us vs p q = ap length (q ∙ ap (drop 1) p) ∙ omega (arith, length-drop 1 (drop 1 ts), length-drop 1 ts)

pub none_left : (ts : List Terminal) → length ts ≤ 0 → is_named ts ≡ false
unfolding is_named
none_left [] h = refl
none_left (t ∷ ts) h = absurd (omega arith)

-- A name alone

pub no_field : (ts : List Terminal) → begins_name ts ≡ false → names_field ts ≡ false
no_field [] e = refl
no_field (Sign k at ∷ ts) e = refl
no_field (Identifier n ∷ ts) e = absurd (cc)
no_field (Basic l place ∷ ts) e = refl
no_field (Odd ∷ ts) e = refl

pub some_field : (ts : List Terminal) → begins_name ts ≡ true → names_field ts ≡ (if begins kind.Comma (drop 1 ts) then true else begins_type (drop 1 ts))
some_field [] e = absurd (cc)
some_field (Sign k at ∷ ts) e = absurd (cc)
some_field (Identifier n ∷ ts) e = refl
some_field (Basic l place ∷ ts) e = absurd (cc)
some_field (Odd ∷ ts) e = absurd (cc)

pub no_method : (ts : List Terminal) → begins_name ts ≡ false → names_method ts ≡ false
no_method [] e = refl
no_method (Sign k at ∷ ts) e = refl
no_method (Identifier n ∷ ts) e = absurd (cc)
no_method (Basic l place ∷ ts) e = refl
no_method (Odd ∷ ts) e = refl

pub some_method : (ts : List Terminal) → begins_name ts ≡ true → names_method ts ≡ begins kind.LeftParen (drop 1 ts)
some_method [] e = absurd (cc)
some_method (Sign k at ∷ ts) e = absurd (cc)
some_method (Identifier n ∷ ts) e = refl
some_method (Basic l place ∷ ts) e = absurd (cc)
some_method (Odd ∷ ts) e = absurd (cc)

pub no_composite : (ts : List Terminal) → begins_name ts ≡ false → names_composite ts ≡ false
no_composite [] e = refl
no_composite (Sign k at ∷ ts) e = refl
no_composite (Identifier n ∷ ts) e = absurd (cc)
no_composite (Basic l place ∷ ts) e = refl
no_composite (Odd ∷ ts) e = refl

brace_by : (ts : List Terminal) (c : Bool) → (if c then begins kind.LeftBrace (drop 2 ts) else begins kind.LeftBrace ts) ≡ begins kind.LeftBrace (if c then drop 2 ts else ts)
brace_by ts true = refl
brace_by ts false = refl

pub some_composite : (ts : List Terminal) → begins_name ts ≡ true → names_composite ts ≡ begins kind.LeftBrace (past_name (drop 1 ts))
some_composite [] e = absurd (cc)
some_composite (Sign k at ∷ ts) e = absurd (cc)
some_composite (Identifier n ∷ ts) e = brace_by ts (begins_selector ts)
some_composite (Basic l place ∷ ts) e = absurd (cc)
some_composite (Odd ∷ ts) e = absurd (cc)
