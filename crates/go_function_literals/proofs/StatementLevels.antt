-- What one level of a statement gives, where each part gives its function literals: their places, and the ranges of their bodies.
use Rattle.std.proofs.Common.{◌≡◌, ◌∙◌, ap}
use Rattle.go_function_literals.specs.Places.{Places}
use Rattle.go_function_literals.specs.StatementPlaces as places
use Rattle.go_function_literals.specs.StatementPlaces.{case_places, kind_places, select_case_places, stmt_places, type_case_places}
use Rattle.go_syntax.specs.declared.statement.Case.{Case, Case-F, fold-Case, fold_out-Case, map-Case, out-Case}
use Rattle.go_syntax.specs.declared.statement.SelectCase.{SelectCase, SelectCase-F, fold-SelectCase, fold_out-SelectCase, map-SelectCase, out-SelectCase}
use Rattle.go_syntax.specs.declared.statement.Stmt.{Stmt, Stmt-F, fold_out-Stmt, map-Stmt, out-Stmt}
use Rattle.go_syntax.specs.declared.statement.StmtKind.{StmtKind, StmtKind-F, fold-StmtKind, fold_out-StmtKind, map-StmtKind, out-StmtKind}
use Rattle.go_syntax.specs.declared.statement.TypeCase.{TypeCase, TypeCase-F, fold-TypeCase, fold_out-TypeCase, map-TypeCase, out-TypeCase}
use Rattle.go_syntax.specs.Literals as literals
use Rattle.go_syntax.specs.Literals.{Ranges, stmt_literals}

abbrev pub KindLayer : Type 0
KindLayer = StmtKind-F StmtKind Case SelectCase Stmt TypeCase

abbrev pub CaseLayer : Type 0
CaseLayer = Case-F StmtKind Case SelectCase Stmt TypeCase

abbrev pub SelectCaseLayer : Type 0
SelectCaseLayer = SelectCase-F StmtKind Case SelectCase Stmt TypeCase

abbrev pub StmtLayer : Type 0
StmtLayer = Stmt-F StmtKind Case SelectCase Stmt TypeCase

abbrev pub TypeCaseLayer : Type 0
TypeCaseLayer = TypeCase-F StmtKind Case SelectCase Stmt TypeCase

-- the ranges of each kind of tree

abbrev pub kind_literals : StmtKind → Ranges
kind_literals = fold-StmtKind Ranges Ranges Ranges Ranges Ranges literals.kind_step literals.case_step literals.select_case_step literals.stmt_step literals.type_case_step

abbrev pub case_literals : Case → Ranges
case_literals = fold-Case Ranges Ranges Ranges Ranges Ranges literals.kind_step literals.case_step literals.select_case_step literals.stmt_step literals.type_case_step

abbrev pub select_case_literals : SelectCase → Ranges
select_case_literals = fold-SelectCase Ranges Ranges Ranges Ranges Ranges literals.kind_step literals.case_step literals.select_case_step literals.stmt_step literals.type_case_step

abbrev pub type_case_literals : TypeCase → Ranges
type_case_literals = fold-TypeCase Ranges Ranges Ranges Ranges Ranges literals.kind_step literals.case_step literals.select_case_step literals.stmt_step literals.type_case_step

-- one level

abbrev pub kind_level : KindLayer → Places
kind_level l = places.kind_step (map-StmtKind StmtKind Case SelectCase Stmt TypeCase Places Places Places Places Places kind_places case_places select_case_places stmt_places type_case_places l)

abbrev pub kind_ranges : KindLayer → Ranges
kind_ranges l = literals.kind_step (map-StmtKind StmtKind Case SelectCase Stmt TypeCase Ranges Ranges Ranges Ranges Ranges kind_literals case_literals select_case_literals stmt_literals type_case_literals l)

abbrev pub case_level : CaseLayer → Places
case_level l = places.case_step (map-Case StmtKind Case SelectCase Stmt TypeCase Places Places Places Places Places kind_places case_places select_case_places stmt_places type_case_places l)

abbrev pub case_ranges : CaseLayer → Ranges
case_ranges l = literals.case_step (map-Case StmtKind Case SelectCase Stmt TypeCase Ranges Ranges Ranges Ranges Ranges kind_literals case_literals select_case_literals stmt_literals type_case_literals l)

abbrev pub select_case_level : SelectCaseLayer → Places
select_case_level l = places.select_case_step (map-SelectCase StmtKind Case SelectCase Stmt TypeCase Places Places Places Places Places kind_places case_places select_case_places stmt_places type_case_places l)

abbrev pub select_case_ranges : SelectCaseLayer → Ranges
select_case_ranges l = literals.select_case_step (map-SelectCase StmtKind Case SelectCase Stmt TypeCase Ranges Ranges Ranges Ranges Ranges kind_literals case_literals select_case_literals stmt_literals type_case_literals l)

abbrev pub stmt_level : StmtLayer → Places
stmt_level l = places.stmt_step (map-Stmt StmtKind Case SelectCase Stmt TypeCase Places Places Places Places Places kind_places case_places select_case_places stmt_places type_case_places l)

abbrev pub stmt_ranges : StmtLayer → Ranges
stmt_ranges l = literals.stmt_step (map-Stmt StmtKind Case SelectCase Stmt TypeCase Ranges Ranges Ranges Ranges Ranges kind_literals case_literals select_case_literals stmt_literals type_case_literals l)

abbrev pub type_case_level : TypeCaseLayer → Places
type_case_level l = places.type_case_step (map-TypeCase StmtKind Case SelectCase Stmt TypeCase Places Places Places Places Places kind_places case_places select_case_places stmt_places type_case_places l)

abbrev pub type_case_ranges : TypeCaseLayer → Ranges
type_case_ranges l = literals.type_case_step (map-TypeCase StmtKind Case SelectCase Stmt TypeCase Ranges Ranges Ranges Ranges Ranges kind_literals case_literals select_case_literals stmt_literals type_case_literals l)

-- what a tree gives is what its level gives

pub kind_placed : (x : StmtKind) (l : KindLayer) → out-StmtKind x ≡ l → kind_places x ≡ kind_level l
kind_placed x l e = fold_out-StmtKind Places Places Places Places Places places.kind_step places.case_step places.select_case_step places.stmt_step places.type_case_step x ∙ ap kind_level e

pub kind_ranged : (x : StmtKind) (l : KindLayer) → out-StmtKind x ≡ l → kind_literals x ≡ kind_ranges l
kind_ranged x l e = fold_out-StmtKind Ranges Ranges Ranges Ranges Ranges literals.kind_step literals.case_step literals.select_case_step literals.stmt_step literals.type_case_step x ∙ ap kind_ranges e

pub case_placed : (x : Case) (l : CaseLayer) → out-Case x ≡ l → case_places x ≡ case_level l
case_placed x l e = fold_out-Case Places Places Places Places Places places.kind_step places.case_step places.select_case_step places.stmt_step places.type_case_step x ∙ ap case_level e

pub case_ranged : (x : Case) (l : CaseLayer) → out-Case x ≡ l → case_literals x ≡ case_ranges l
case_ranged x l e = fold_out-Case Ranges Ranges Ranges Ranges Ranges literals.kind_step literals.case_step literals.select_case_step literals.stmt_step literals.type_case_step x ∙ ap case_ranges e

pub select_case_placed : (x : SelectCase) (l : SelectCaseLayer) → out-SelectCase x ≡ l → select_case_places x ≡ select_case_level l
select_case_placed x l e = fold_out-SelectCase Places Places Places Places Places places.kind_step places.case_step places.select_case_step places.stmt_step places.type_case_step x ∙ ap select_case_level e

pub select_case_ranged : (x : SelectCase) (l : SelectCaseLayer) → out-SelectCase x ≡ l → select_case_literals x ≡ select_case_ranges l
select_case_ranged x l e = fold_out-SelectCase Ranges Ranges Ranges Ranges Ranges literals.kind_step literals.case_step literals.select_case_step literals.stmt_step literals.type_case_step x ∙ ap select_case_ranges e

pub stmt_placed : (x : Stmt) (l : StmtLayer) → out-Stmt x ≡ l → stmt_places x ≡ stmt_level l
stmt_placed x l e = fold_out-Stmt Places Places Places Places Places places.kind_step places.case_step places.select_case_step places.stmt_step places.type_case_step x ∙ ap stmt_level e

pub stmt_ranged : (x : Stmt) (l : StmtLayer) → out-Stmt x ≡ l → stmt_literals x ≡ stmt_ranges l
stmt_ranged x l e = fold_out-Stmt Ranges Ranges Ranges Ranges Ranges literals.kind_step literals.case_step literals.select_case_step literals.stmt_step literals.type_case_step x ∙ ap stmt_ranges e

pub type_case_placed : (x : TypeCase) (l : TypeCaseLayer) → out-TypeCase x ≡ l → type_case_places x ≡ type_case_level l
type_case_placed x l e = fold_out-TypeCase Places Places Places Places Places places.kind_step places.case_step places.select_case_step places.stmt_step places.type_case_step x ∙ ap type_case_level e

pub type_case_ranged : (x : TypeCase) (l : TypeCaseLayer) → out-TypeCase x ≡ l → type_case_literals x ≡ type_case_ranges l
type_case_ranged x l e = fold_out-TypeCase Ranges Ranges Ranges Ranges Ranges literals.kind_step literals.case_step literals.select_case_step literals.stmt_step literals.type_case_step x ∙ ap type_case_ranges e
