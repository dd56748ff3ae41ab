use Rattle.std.proofs.Common.{◌≡◌, ◌≢◌, List, [], Result, Ok, Err, Some, IfOk, refl, sym, subst}
use Rattle.std.specs.Prelude.{IsErrOf, IsErr}
use Rattle.go_syntax.specs.declared.declaration.File.{File}
use Rattle.go_syntax.specs.declared.token.Token.{Token}
use Rattle.go_syntax.specs.grammar.SourceFiles.{HasOutline}
use Rattle.go_syntax.specs.grammar.Terminals.{Terminal, terminals}
use Rattle.go_cursor.specs.declared.error.ParseError.{ParseError}
use Rattle.go_cursor.specs.declared.error.ParseError.TheVariants.{Syntax, NoMemory}
use Rattle.go_parse.specs.Declarations.{file}
use Rattle.go_descent.specs.Levels.{levels}
use Rattle.go_cursor.specs.Reads.{Reads}
use Rattle.go_parse.proofs.Files.{has_outline, no_outline, more_than_outline}
use Rattle.go_parse.proofs.outline.parse_outline.Goals as goal

refused : (e : ParseError) (tokens new : List Token) → Reads {A = File} (file (levels 257) (terminals tokens)) (Err e) new → IsErrOf {T = File} (Err e) Syntax → (f : File) → HasOutline tokens f → ⊥
refused Syntax tokens new r s f d = no_outline 256 257 refl (terminals tokens) r f d
refused NoMemory tokens new r s f d = absurd (cc)

tree_of : (r : Result File ParseError) (tokens : List Token) (left : List Terminal) (g : File) → file (levels 257) (terminals tokens) ≡ Some (g, left) → IfOk r (λ f. (f ≡ g) × (left ≡ [])) → IfOk r (HasOutline tokens)
tree_of (Ok f) tokens left g q o = subst (HasOutline tokens) (sym o.0) (has_outline tokens g (subst (λ (w : List Terminal). file (levels 257) (terminals tokens) ≡ Some (g, w)) o.1 q))
tree_of (Err e) tokens left g q o = tt

none_of : (r : Result File ParseError) (tokens : List Token) (left : List Terminal) (g : File) → file (levels 257) (terminals tokens) ≡ Some (g, left) → (IsErr r → left ≢ []) → IsErrOf r Syntax → (f : File) → HasOutline tokens f → ⊥
none_of (Ok z) tokens left g q o s f d = absurd (cc)
none_of (Err e) tokens left g q o s f d = more_than_outline 256 257 refl (terminals tokens) g left q (o refl) f d

pub returns-in-Ok : goal.returns-in-Ok
returns-in-Ok c =
    let found : file (levels 257) (terminals c.args.tokens.now) ≡ Some (c.in-Ok.found, terminals c.file.new.tokens) =
    subst (λ (tokens : List Token). file (levels 257) (terminals tokens) ≡ Some (c.in-Ok.found, terminals c.file.new.tokens)) c.new-cursor.ensures c.in-Ok.ensures in
    record {
      tree = tree_of c.whole.result c.args.tokens.now (terminals c.file.new.tokens) c.in-Ok.found found c.whole.ensures.tree;
      syntax = none_of c.whole.result c.args.tokens.now (terminals c.file.new.tokens) c.in-Ok.found found c.whole.ensures.syntax;
    }

pub returns-in-Err : goal.returns-in-Err
returns-in-Err c = record {
  tree = tt;
  syntax = refused c.in-Err.error c.args.tokens.now c.file.new.tokens
      (subst (λ (tokens : List Token). Reads {A = File} (file (levels 257) (terminals tokens)) (Err c.in-Err.error) c.file.new.tokens) c.new-cursor.ensures c.in-Err.ensures);
}
