-- The names, the selectors, and the struct and interface types that stand in the types of a package.
-- Own: parts of a package.
use Rattle.std.specs.Prelude.{List, [], ◌∷◌, ◌++◌}
use Rattle.go_model.specs.declared.types.names.TypeName.{TypeName}
use Rattle.go_model.specs.declared.types.names.Sel.{Sel}
use Rattle.go_model.specs.declared.types.package.Package.{Package}
use Rattle.go_model.specs.declared.types.package.Object.{Object}
use Rattle.go_model.specs.declared.types.package.Defined.{Defined}
use Rattle.go_model.specs.declared.types.package.MethodOf.{MethodOf}
use Rattle.go_model.specs.declared.types.package.Entity.{Entity}
use Rattle.go_model.specs.declared.types.package.Entity.TheVariants as entity
use Rattle.go_model.specs.declared.types.package.ConstTerm.TheVariants as constant
use Rattle.go_model.specs.declared.types.term.Term.{Term}
use Rattle.go_model.specs.declared.types.term.Signature.{Signature}
use Rattle.go_base.specs.Gathered.{gather}
use Rattle.go_model.specs.types.TypeNames.{names, signature_names}
use Rattle.go_model.specs.types.Members.{Members, members, signature_members}
use Rattle.go_model.specs.types.TypeSelectors.{selectors, signature_selectors}

-- what the types give of what a name denotes
abbrev pub of_entity : {A : Type 0} → (Term → List A) → (Signature → List A) → Entity → List A
of_entity term signature (entity.Const (constant.OfTerm t) v) = term t
of_entity term signature (entity.Const (constant.OfKind k) v) = []
of_entity term signature (entity.Var t) = term t
of_entity term signature (entity.Function g) = signature g
of_entity term signature (entity.TypeOf t) = term t

abbrev pub object_names : Object → List TypeName
object_names o = of_entity names signature_names o.entity

abbrev pub defined_names : Defined → List TypeName
defined_names d = names d.underlying ++ gather (λ m. signature_names m.signature) d.methods

-- the names in the types of a package
abbrev pub package_names : Package → List TypeName
package_names p = gather object_names p.objects ++ gather defined_names p.defined

abbrev pub object_selectors : Object → List Sel
object_selectors o = of_entity selectors signature_selectors o.entity

abbrev pub declared_selectors : MethodOf → List Sel
declared_selectors m = m.sel ∷ signature_selectors m.signature

abbrev pub defined_selectors : Defined → List Sel
defined_selectors d = selectors d.underlying ++ gather declared_selectors d.methods

-- the selectors in the types of a package, and those of its declared methods
abbrev pub package_selectors : Package → List Sel
package_selectors p = gather object_selectors p.objects ++ gather defined_selectors p.defined

abbrev pub object_members : Object → List Members
object_members o = of_entity members signature_members o.entity

abbrev pub defined_members : Defined → List Members
defined_members d = members d.underlying ++ gather (λ m. signature_members m.signature) d.methods

-- the struct and interface types in the types of a package
abbrev pub package_members : Package → List Members
package_members p = gather object_members p.objects ++ gather defined_members p.defined
