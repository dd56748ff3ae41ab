use Rattle.std.proofs.Common.{List, ap, subst, sym, ◌∙◌, map}
use Rattle.std.proofs.lemmas.Result.{IfOk-weaker}
use Rattle.go_declaration_graph.proofs.DependencyRows.{dependency_rows}
use Rattle.go_declaration_graph.specs.inner.DependencyRows.{HasDependencies}
use Rattle.go_declaration_graph.specs.inner.NamedNumbers.{dependencies}
use Rattle.go_declarations.specs.Listings.{declarations_of}
use Rattle.go_declared.specs.MethodTables.{AreMethods}
use Rattle.go_declared.specs.NameTables.{AreDeclared}
use Rattle.go_sifting.specs.Graphs.{AreRows}
use Rattle.go_soundness.specs.LostDeclarations.{Depends}
use Rattle.go_typings.specs.Declarations.{Declaration}
use Rattle.go_declaration_graph.proofs.dependencies.dependencies.Goals as goal

pub returns : goal.returns
returns c s u a same =
    let names = c.args.tables.now.names.now in
    let methods = c.args.tables.now.methods.now in
    let ds = declarations_of c.args.tables.now.declarations.now in
    IfOk-weaker c.rows_of.result (HasDependencies names methods ds) (AreRows s u a (Depends s u a))
    (λ rows is. subst (AreRows s u a (Depends s u a)) (sym (is ∙ ap (λ (es : List Declaration). map (λ d. dependencies names methods d.form) es) (sym same)))
    (dependency_rows names methods u (subst (λ (es : List Declaration). AreDeclared es names) (sym same) c.requires.names) (subst (λ (es : List Declaration). AreMethods es methods) (sym same) c.requires.methods) s a))
    c.rows_of.ensures
