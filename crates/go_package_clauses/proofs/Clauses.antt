-- The header of a file with an outline tells the name in the outline's package clause.
use Rattle.std.proofs.Common.{◌≡◌, ◌≢◌, inl, inr, ℕ, Bool, true, false, ◌||◌, ◌==◌, List, ◌∷◌, ◌++◌, refl, sym, ap, ◌∙◌, subst, Option, Some, None, if◌then◌else◌}
use Rattle.std.specs.Prelude.{codes}
use Rattle.std.specs.List.{list_any}
use Rattle.go_base.specs.Characters.{IsRun, is_name_character}
use Rattle.go_base.specs.Comments.{IsFront, starts_with, without_mark}
use Rattle.go_base.proofs.Fronts.{front_once}
use Rattle.go_model.specs.declared.files.build.Header.{Header}
use Rattle.go_model.specs.files.Headers.{BeginsClause, IsClause, IsHeader, IsPackageName}
use Rattle.go_syntax.specs.declared.declaration.File.{File}
use Rattle.go_syntax.specs.declared.token.LexemeKind.TheVariants as lexeme
use Rattle.go_syntax.specs.declared.token.Token.{Token}
use Rattle.go_syntax.specs.declared.token.TokenKind.{TokenKind}
use Rattle.go_syntax.specs.declared.token.TokenKind.TheVariants as token
use Rattle.go_syntax.specs.declared.token.TokenValue.{TokenValue}
use Rattle.go_syntax.specs.declared.token.TokenValue.TheVariants as value
use Rattle.go_syntax.specs.grammar.SourceFiles.{HasOutline}
use Rattle.go_syntax.specs.lexical.Lexemes.{BeginsLongest, IsLexeme, Lexeme, opens_comment}
use Rattle.go_syntax.specs.lexical.Tokens.{IsTokens, ends_line, tokens_of}
use Rattle.go_tags.proofs.OneClause.{clause_once}
use Rattle.go_package_clauses.proofs.Openings.{Opens, is_token, opens}
use Rattle.go_package_clauses.proofs.OutlineNames.{outline_named}
use Rattle.go_package_clauses.proofs.Words.{ident_name, is_package_text, name_ends, name_run, no_keyword, package_name}

opposite : {b : Bool} → b ≡ true → b ≡ false → ⊥
opposite e f = let g : true ≡ false = sym e ∙ f in absurd (cc)

no_comment_token : (b : Bool) → is_token (if b then lexeme.Newline else lexeme.Blank) ≡ false
no_comment_token true = refl
no_comment_token false = refl

-- a token stands where no comment opens
token_there : (bytes : List ℕ) (x : Lexeme) (after : List ℕ) (k : TokenKind) → BeginsLongest bytes x after → x.kind ≡ lexeme.Token k → (opens_comment bytes ≡ false) × IsLexeme x.kind x.value x.text
token_there bytes x after k b e = elim b.begins.stands [
  | inl c ↦ absurd (opposite (ap is_token e) (ap is_token c.kind_is ∙ no_comment_token (starts_with (codes "//") x.text || list_any (λ z. z == 10) x.text)))
  | inr p ↦ p
]

same_ident : (a b : List ℕ) → ◌≡◌ {A = TokenValue} (value.Ident a) (value.Ident b) → a ≡ b
same_ident a b e = cc

-- the bytes at the first token of a file begin with the clause of its outline
clause_here : (t u : Token) (ts : List Token) (name : List ℕ) (bytes : List ℕ) (o : Opens bytes t (u ∷ ts)) → t.kind ≡ token.PackageWord → u.kind ≡ token.Ident → u.value ≡ value.Ident name → name ≢ codes "_" → BeginsClause o.rest name
clause_here t u ts name bytes o is_word is_name said some =
    let first = token_there o.rest o.word o.after token.PackageWord o.stands (o.is ∙ ap lexeme.Token is_word) in
    let word = package_name o.word.kind o.word.value o.word.text first.1 (o.is ∙ ap lexeme.Token is_word) in
    let p = opens o.after o.later o.cut o.start u ts (sym (ap (λ k. tokens_of o.start (if ends_line k then Some o.start else None) o.later) is_word) ∙ sym o.others) in
    let second = token_there p.rest p.word p.after token.Ident p.stands (p.is ∙ ap lexeme.Token is_name) in
    let ident = ident_name p.word.kind p.word.value p.word.text second.1 (p.is ∙ ap lexeme.Token is_name) in
    let same : p.word.text ≡ name = same_ident p.word.text name (sym ident.said ∙ sym p.said ∙ said) in
    let n = ident.is_name in
    record {
      behind = o.after;
      pieces = p.pieces;
      rest = p.after;
      keyword = o.stands.begins.joined ∙ ap (λ w. w ++ o.after) (is_package_text o.word.text word.kind);
      apart = name_ends o.rest o.word o.after o.stands first.0 word.is_name;
      front = subst (λ w. IsFront o.after p.pieces w) (p.stands.begins.joined ∙ ap (λ w. w ++ p.after) same) p.front;
      run = subst (λ w. IsRun is_name_character w p.after) same (name_run p.word.text p.after n (name_ends p.rest p.word p.after p.stands second.0 n));
      is_name = subst IsPackageName same (record {
        letter = (n.0, n.1, n.2, n.3, n.5);
        word = no_keyword p.word.text ident.kind;
        named = λ e. some (sym same ∙ e);
      });
    }

told : (bytes name : List ℕ) (o : Option (List ℕ)) → BeginsClause bytes name → IsClause bytes o → o ≡ Some name
told bytes name None b c = absurd (c name b)
told bytes name (Some m) b c = ap Some (clause_once bytes m name c b)

pub clause_told : (bytes : List ℕ) (header : Header) (tokens : List Token) (f : File) → IsHeader bytes header → IsTokens bytes tokens → HasOutline tokens f → header.clause ≡ Some f.«package».text
clause_told bytes header tokens f (comments, rest, has, constraint, clause) t outline =
    let n = outline_named tokens f outline in
    let o = opens (without_mark bytes) t.lexemes t.cut _ n.word (n.second ∷ n.others) (sym t.tokens_are ∙ n.are) in
    let b = clause_here n.word n.second n.others f.«package».text (without_mark bytes) o n.is_word n.is_name n.said n.named in
    let same = (front_once o.front has.pieces rest (without_mark bytes) refl has.front).1 in
    told rest f.«package».text header.clause (subst (λ w. BeginsClause w f.«package».text) same b) clause
