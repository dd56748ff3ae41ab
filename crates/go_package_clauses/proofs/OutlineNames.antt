-- The first two tokens of a file with an outline: the word `package`, and the name.
use Rattle.std.proofs.Common.{◌≡◌, ◌≢◌, ℕ, List, [], ◌∷◌, refl, sym, ap, ◌∙◌, Option, Some, None}
use Rattle.std.specs.Prelude.{codes, ℤ, pos, negsuc}
use Rattle.go_syntax.specs.declared.declaration.File.{File}
use Rattle.go_syntax.specs.declared.expression.Literal.{Literal}
use Rattle.go_syntax.specs.declared.expression.Literal.TheVariants as literal
use Rattle.go_syntax.specs.declared.name.Name.{Name}
use Rattle.go_syntax.specs.declared.token.Token.{Token}
use Rattle.go_syntax.specs.declared.token.TokenKind.{TokenKind}
use Rattle.go_syntax.specs.declared.token.TokenKind.TheVariants as kind
use Rattle.go_syntax.specs.declared.token.TokenValue.{TokenValue}
use Rattle.go_syntax.specs.declared.token.TokenValue.TheVariants as value
use Rattle.go_syntax.specs.grammar.SourceFiles.{HasOutline, IsSourceFile, Skips, file}
use Rattle.go_syntax.specs.grammar.Symbols.{sign_of, takes, takes_name}
use Rattle.go_syntax.specs.grammar.Terminals.{Extent, Identifier, Sign, Terminal, naming, number, rune, silent, string, terminal_of, terminals, whole}
use Rattle.go_package_clauses.proofs.Openings.{first_same, no_items, rest_same}

abbrev value_or : {A : Type 0} → A → Option A → A
value_or d None = d
value_or d (Some x) = x

one_some : {A : Type 0} {x y : A} → ◌≡◌ {A = Option A} (Some x) (Some y) → x ≡ y
one_some {x = x} e = ap (value_or x) e

none_some : {A : Type 0} {x : A} → ◌≡◌ {A = Option A} None (Some x) → ⊥
none_some e = absurd (cc)

-- the name that a terminal is
abbrev name_in : Terminal → Option Name
name_in (Identifier n) = Some n
name_in t = None

-- ---- a keyword's token

naming_sign : (k : TokenKind) (text : List ℕ) (at : ℕ) → sign_of (naming k text at) ≡ None
naming_sign kind.Ident text at = refl
naming_sign k text at = refl

whole_sign : (k : TokenKind) (l : Literal) (at : ℕ) → sign_of (whole k l at) ≡ None
whole_sign kind.IntLit l at = refl
whole_sign k l at = refl

number_sign : (k : TokenKind) (n : ℤ) (at : ℕ) → sign_of (number k n at) ≡ None
number_sign k (pos n) at = whole_sign k (literal.Int (pos n)) at
number_sign k (negsuc n) at = refl

rune_sign : (k : TokenKind) (n at : ℕ) → sign_of (rune k n at) ≡ None
rune_sign kind.RuneLit n at = refl
rune_sign k n at = refl

string_sign : (k : TokenKind) (text : List ℕ) (at : ℕ) → sign_of (string k text at) ≡ None
string_sign kind.StrLit text at = refl
string_sign k text at = refl

silent_sign : (k j : TokenKind) (at : Extent) → sign_of (silent k at) ≡ Some j → k ≡ j
silent_sign kind.Ident j at e = absurd (none_some e)
silent_sign kind.IntLit j at e = absurd (none_some e)
silent_sign kind.FloatLit j at e = absurd (none_some e)
silent_sign kind.ImagLit j at e = absurd (none_some e)
silent_sign kind.RuneLit j at e = absurd (none_some e)
silent_sign kind.StrLit j at e = absurd (none_some e)
silent_sign k j at e = one_some e

sign_kind : (k : TokenKind) (v : TokenValue) (at : Extent) (j : TokenKind) → sign_of (terminal_of k v at) ≡ Some j → k ≡ j
sign_kind k value.Nothing at j e = silent_sign k j at e
sign_kind k (value.Ident text) at j e = absurd (none_some (sym (naming_sign k text at.0) ∙ e))
sign_kind k (value.Number n) at j e = absurd (none_some (sym (number_sign k n at.0) ∙ e))
sign_kind k value.Wide at j e = absurd (none_some (sym (whole_sign k literal.Wide at.0) ∙ e))
sign_kind k (value.Rune n) at j e = absurd (none_some (sym (rune_sign k n at.0) ∙ e))
sign_kind k (value.Str text) at j e = absurd (none_some (sym (string_sign k text at.0) ∙ e))

-- ---- a name's token

silent_name : (k : TokenKind) (at : Extent) → name_in (silent k at) ≡ None
silent_name kind.Ident at = refl
silent_name kind.IntLit at = refl
silent_name kind.FloatLit at = refl
silent_name kind.ImagLit at = refl
silent_name kind.RuneLit at = refl
silent_name kind.StrLit at = refl
silent_name k at = refl

whole_name : (k : TokenKind) (l : Literal) (at : ℕ) → name_in (whole k l at) ≡ None
whole_name kind.IntLit l at = refl
whole_name k l at = refl

number_name : (k : TokenKind) (n : ℤ) (at : ℕ) → name_in (number k n at) ≡ None
number_name k (pos n) at = whole_name k (literal.Int (pos n)) at
number_name k (negsuc n) at = refl

rune_name : (k : TokenKind) (n at : ℕ) → name_in (rune k n at) ≡ None
rune_name kind.RuneLit n at = refl
rune_name k n at = refl

string_name : (k : TokenKind) (text : List ℕ) (at : ℕ) → name_in (string k text at) ≡ None
string_name kind.StrLit text at = refl
string_name k text at = refl

naming_name : (k : TokenKind) (text : List ℕ) (at : ℕ) (n : Name) → name_in (naming k text at) ≡ Some n → (k ≡ kind.Ident) × (text ≡ n.text)
naming_name kind.Ident text at n e = (refl, ap (λ (x : Name). x.text) (one_some e))
naming_name k text at n e = absurd (none_some e)

name_kind : (k : TokenKind) (v : TokenValue) (at : Extent) (n : Name) → name_in (terminal_of k v at) ≡ Some n → (k ≡ kind.Ident) × (v ≡ value.Ident n.text)
name_kind k value.Nothing at n e = absurd (none_some (sym (silent_name k at) ∙ e))
name_kind k (value.Ident text) at n e = let f = naming_name k text at.0 n e in (f.0, ap value.Ident f.1)
name_kind k (value.Number m) at n e = absurd (none_some (sym (number_name k m at.0) ∙ e))
name_kind k value.Wide at n e = absurd (none_some (sym (whole_name k literal.Wide at.0) ∙ e))
name_kind k (value.Rune m) at n e = absurd (none_some (sym (rune_name k m at.0) ∙ e))
name_kind k (value.Str text) at n e = absurd (none_some (sym (string_name k text at.0) ∙ e))

-- ---- both tokens

record Begun (ts : List Terminal) (f : File) : Type 0 where
  pub at : Extent
  pub others : List Terminal
  pub are : ts ≡ Sign kind.PackageWord at ∷ Identifier f.«package» ∷ others
  pub named : f.«package».text ≢ codes "_"

begun : (ts : List Terminal) (f : File) → IsSourceFile Skips 256 ts f → Begun ts f
begun ts f (file {v = v} (takes at) takes_name some c i d) = record { at = at; others = v; are = refl; named = some }

-- the tokens are the word, the name and others
pub record Named (tokens : List Token) (name : List ℕ) : Type 0 where
  pub word : Token
  pub second : Token
  pub others : List Token
  pub are : tokens ≡ word ∷ second ∷ others
  pub is_word : word.kind ≡ kind.PackageWord
  pub is_name : second.kind ≡ kind.Ident
  pub said : second.value ≡ value.Ident name
  pub named : name ≢ codes "_"

two_tokens : (tokens : List Token) (f : File) → Begun (terminals tokens) f → Named tokens f.«package».text
two_tokens [] f b = absurd (no_items b.are)
two_tokens (t ∷ []) f b = absurd (no_items (rest_same b.are))
two_tokens (t ∷ u ∷ ts) f b =
    let n = name_kind u.kind u.value (u.start, u.end) f.«package» (ap name_in (first_same (rest_same b.are))) in
    record {
      word = t;
      second = u;
      others = ts;
      are = refl;
      is_word = sign_kind t.kind t.value (t.start, t.end) kind.PackageWord (ap sign_of (first_same b.are));
      is_name = n.0;
      said = n.1;
      named = b.named;
    }

pub outline_named : (tokens : List Token) (f : File) → HasOutline tokens f → Named tokens f.«package».text
outline_named tokens f o = two_tokens tokens f (begun (terminals tokens) f o)
