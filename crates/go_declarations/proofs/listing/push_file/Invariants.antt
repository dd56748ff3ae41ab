use Rattle.std.proofs.Common.{◌≡◌, ◌++◌, drop, map}
use Rattle.go_typings.specs.go_base.Gathered.{gather}
use Rattle.go_declarations.specs.Listings.{declarations_of}
use Rattle.go_typings.specs.Declarations.{forms, in_file}
use Rattle.go_declarations.proofs.listing.push_file.Given as goal

abbrev pub invariant-loop-decl : goal.invariant-loop-decl
invariant-loop-decl l = declarations_of l.listed ++ map (in_file l.file) (gather forms (drop l.decl-index l.decls)) ≡ declarations_of l.initial.listed ++ map (in_file l.file) (gather forms l.decls)
