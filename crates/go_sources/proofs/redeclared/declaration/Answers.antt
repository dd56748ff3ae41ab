use Rattle.std.proofs.Common.{List, subst, sym}
use Rattle.std.specs.Result.{IfOk}
use Rattle.go_base.specs.Gathered.{gather}
use Rattle.go_syntax.specs.declared.declaration.ConstSpec.{ConstSpec}
use Rattle.go_syntax.specs.declared.declaration.Decl.{Decl}
use Rattle.go_syntax.specs.declared.declaration.TypeSpec.{TypeSpec}
use Rattle.go_syntax.specs.declared.declaration.VarSpec.{VarSpec}
use Rattle.go_typings.specs.Redeclarations.{Site}
use Rattle.go_sources.specs.inner.DeclarationSites.{const_sites, decl_sites, type_sites, var_sites}
use Rattle.go_sources.specs.inner.KnownNames.{keys_of, Steps}
use Rattle.go_sources.proofs.Sites.{const_decl, type_decl, var_decl}
use Rattle.go_sources.proofs.redeclared.declaration.Goals as goal

pub returns-in-ConstGroup : goal.returns-in-ConstGroup
returns-in-ConstGroup c =
    subst (λ (d : Decl). IfOk c.constants.result (Steps (decl_sites c.args.file d) (keys_of c.args.known.now) (keys_of c.constants.new.known))) (sym c.in-ConstGroup.is)
    (subst (λ (w : List Site). IfOk c.constants.result (Steps w (keys_of c.args.known.now) (keys_of c.constants.new.known))) (const_decl c.args.file c.in-ConstGroup.specs)
    (subst (λ (ss : List ConstSpec). IfOk c.constants.result (Steps (gather (const_sites c.args.file) ss) (keys_of c.args.known.now) (keys_of c.constants.new.known))) c.items.ensures c.constants.ensures))

pub returns-in-VarGroup : goal.returns-in-VarGroup
returns-in-VarGroup c =
    subst (λ (d : Decl). IfOk c.variables.result (Steps (decl_sites c.args.file d) (keys_of c.args.known.now) (keys_of c.variables.new.known))) (sym c.in-VarGroup.is)
    (subst (λ (w : List Site). IfOk c.variables.result (Steps w (keys_of c.args.known.now) (keys_of c.variables.new.known))) (var_decl c.args.file c.in-VarGroup.specs)
    (subst (λ (ss : List VarSpec). IfOk c.variables.result (Steps (gather (var_sites c.args.file) ss) (keys_of c.args.known.now) (keys_of c.variables.new.known))) c.items-in-VarGroup.ensures c.variables.ensures))

pub returns-in-TypeGroup : goal.returns-in-TypeGroup
returns-in-TypeGroup c =
    subst (λ (d : Decl). IfOk c.types.result (Steps (decl_sites c.args.file d) (keys_of c.args.known.now) (keys_of c.types.new.known))) (sym c.in-TypeGroup.is)
    (subst (λ (w : List Site). IfOk c.types.result (Steps w (keys_of c.args.known.now) (keys_of c.types.new.known))) (type_decl c.args.file c.in-TypeGroup.specs)
    (subst (λ (ss : List TypeSpec). IfOk c.types.result (Steps (gather (type_sites c.args.file) ss) (keys_of c.args.known.now) (keys_of c.types.new.known))) c.items-in-TypeGroup.ensures c.types.ensures))
