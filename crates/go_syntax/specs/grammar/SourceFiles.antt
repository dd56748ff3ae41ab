-- The grammar of a source file, by cases, and its outline: the tree whose bodies are skipped.
-- Public source: Go specification, "Source file organization", "Package clause" and "Import declarations".
use Rattle.std.specs.Prelude.{◌≢◌, ℕ, List, [], ◌∷◌, ◌++◌, Option, Some, None, codes}
use Rattle.go_syntax.specs.declared.declaration.Decl.{Decl}
use Rattle.go_syntax.specs.declared.declaration.File.{File}
use Rattle.go_syntax.specs.declared.declaration.ImportSpec.{ImportSpec}
use Rattle.go_syntax.specs.declared.name.Name.{Name}
use Rattle.go_syntax.specs.declared.body.BodyRange.{BodyRange}
use Rattle.go_syntax.specs.declared.token.Token.{Token}
use Rattle.go_syntax.specs.declared.token.TokenKind.TheVariants as kind
use Rattle.go_syntax.specs.grammar.Brackets.{IsSkipped}
use Rattle.go_syntax.specs.grammar.Declarations.{IsGroup, IsDecl}
use Rattle.go_syntax.specs.grammar.Symbols.{Rule, Takes, TakesName, TakesString}
use Rattle.go_syntax.specs.grammar.Terminals.{Terminal, terminals}

abbrev pub import : Option Name → List ℕ → ℕ → ImportSpec
import name path place = record { name = name; path = path; place = place }

-- ImportSpec = [ Name ] StrLit
pub data IsImportSpec : List Terminal → ImportSpec → List Terminal → Type 0 where
  import_plain : {ts rest : List Terminal} {path : List ℕ} {place : ℕ} → TakesString path place ts rest → IsImportSpec ts (import None path place) rest
  import_named : {ts u rest : List Terminal} {n : Name} {path : List ℕ} {place : ℕ} → TakesName n ts u → TakesString path place u rest → IsImportSpec ts (import (Some n) path place) rest

-- { Imp ";" }, where Imp = "import" Group(ImportSpec)
pub data IsImports : List Terminal → List ImportSpec → List Terminal → Type 0 where
  imports_none : {ts : List Terminal} → IsImports ts [] ts
  imports_more : {ts u v w rest : List Terminal} {xs ys : List ImportSpec} → Takes kind.ImportWord ts u → IsGroup IsImportSpec u xs v → Takes kind.Semicolon v w → IsImports w ys rest → IsImports ts (xs ++ ys) rest

-- { Decl ";" }
pub data IsDecls (Body : ℕ → Rule BodyRange) (h : ℕ) : List Terminal → List Decl → List Terminal → Type 0 where
  decls_none : {ts : List Terminal} → IsDecls Body h ts [] ts
  decls_more : {ts u v rest : List Terminal} {d : Decl} {ds : List Decl} → IsDecl Body h ts d u → Takes kind.Semicolon u v → IsDecls Body h v ds rest → IsDecls Body h ts (d ∷ ds) rest

abbrev pub source_file : Name → List ImportSpec → List Decl → File
source_file name imports decls = record { «package» = name; imports = imports; decls = decls }

-- File = "package" Name ";" { Imp ";" } { Decl ";" }, where the name isn't `_` and nothing follows
pub data IsSourceFile (Body : ℕ → Rule BodyRange) (h : ℕ) : List Terminal → File → Type 0 where
  file : {ts u v w y : List Terminal} {n : Name} {imports : List ImportSpec} {decls : List Decl} → Takes kind.PackageWord ts u → TakesName n u v → n.text ≢ codes "_" → Takes kind.Semicolon v w → IsImports w imports y → IsDecls Body h y decls []
      → IsSourceFile Body h ts (source_file n imports decls)

-- bodies that are skipped, which add nothing to a height
abbrev pub Skips : ℕ → Rule BodyRange
Skips height = IsSkipped

-- the tree is the outline of a file of these tokens: bodies skipped, and of a height of at most 256
abbrev pub HasOutline : List Token → File → Type 0
HasOutline tokens f = IsSourceFile Skips 256 (terminals tokens) f
