-- The outline of a file may be sent to another thread and shared with one. It is proved of its parts, since a search that goes
-- down through all of them gives up.
use denote.Param.Send.{plain_send, plain_sync, recorded_send, recorded_sync, sendable}
use Rattle.std.proofs.option.Option.TheSendSync as options
use Rattle.std.specs.Thread.{IsSend, IsSync}
use Rattle.go_base.proofs.boxed.Box.TheSendSync as boxes
use Rattle.go_base.proofs.list.List.TheSendSync as lists
use Rattle.go_base.proofs.operator.CompareOp.TheSendSync as compare
use Rattle.go_base.proofs.operator.PrefixOperator.TheSendSync as prefix
use Rattle.go_base.proofs.operator.ProductOperator.TheSendSync as product
use Rattle.go_base.proofs.operator.SumOperator.TheSendSync as sum
use Rattle.go_base.proofs.text.Text.TheSendSync as text
use Rattle.go_syntax.proofs.body.BodyRange.TheSendSync as body
use Rattle.go_syntax.proofs.declaration.ImportSpec.TheSendSync as import_spec
use Rattle.go_syntax.proofs.expression.ElementValue.TheLaws.TheKnot.{crosses}
use Rattle.go_syntax.proofs.expression.Literal.TheSendSync as literal
use Rattle.go_syntax.proofs.name.Name.TheSendSync as name
use Rattle.go_syntax.proofs.name.QualifiedName.TheSendSync as qualified
use Rattle.go_syntax.specs.contracts.declaration.ConstSpec as const_spec
use Rattle.go_syntax.specs.contracts.declaration.Decl as decl
use Rattle.go_syntax.specs.contracts.declaration.File as file
use Rattle.go_syntax.specs.contracts.declaration.Func as func
use Rattle.go_syntax.specs.contracts.declaration.ImportSpec as import_row
use Rattle.go_syntax.specs.contracts.declaration.TypeSpec as type_spec
use Rattle.go_syntax.specs.contracts.declaration.VarSpec as var_spec
use Rattle.go_syntax.specs.contracts.expression.Expr as expr
use Rattle.go_syntax.specs.contracts.name.Name as name_row
use Rattle.go_syntax.specs.contracts.types.ParameterDecl as parameter
use Rattle.go_syntax.specs.contracts.types.Signature as signature
use Rattle.go_syntax.specs.contracts.types.«Type» as «type»

ruleset sends = (
  crosses,
  plain_send,
  recorded_send,
  options.the_send,
  options.the_field_send,
  boxes.the_send,
  lists.the_send,
  compare.the_send,
  compare.the_field_send,
  prefix.the_send,
  prefix.the_field_send,
  product.the_send,
  product.the_field_send,
  sum.the_send,
  sum.the_field_send,
  text.the_send,
  body.the_send,
  body.the_field_send,
  literal.the_send,
  literal.the_field_send,
  name.the_send,
  name.the_field_send,
  qualified.the_send,
  qualified.the_field_send,
)

ruleset syncs = (
  crosses,
  plain_sync,
  recorded_sync,
  options.the_sync,
  options.the_field_sync,
  boxes.the_sync,
  lists.the_sync,
  compare.the_sync,
  compare.the_field_sync,
  prefix.the_sync,
  prefix.the_field_sync,
  product.the_sync,
  product.the_field_sync,
  sum.the_sync,
  sum.the_field_sync,
  text.the_sync,
  body.the_sync,
  body.the_field_sync,
  literal.the_sync,
  literal.the_field_sync,
  name.the_sync,
  name.the_field_sync,
  qualified.the_sync,
  qualified.the_field_sync,
)

type_field_send : IsSend («type».the_field).row
type_field_send = search sends depth 20

type_field_sync : IsSync («type».the_field).row
type_field_sync = search syncs depth 20

type_send : IsSend «type».the_row
type_send = let t = type_field_send in search sendable depth 20

type_sync : IsSync «type».the_row
type_sync = let t = type_field_sync in search sendable depth 20

expr_field_send : IsSend (expr.the_field).row
expr_field_send = search sends depth 20

expr_field_sync : IsSync (expr.the_field).row
expr_field_sync = search syncs depth 20

expr_send : IsSend expr.the_row
expr_send = let x = expr_field_send in search sendable depth 20

expr_sync : IsSync expr.the_row
expr_sync = let x = expr_field_sync in search sendable depth 20

parameter_field_send : IsSend (parameter.the_field).row
parameter_field_send = search sends depth 20

parameter_field_sync : IsSync (parameter.the_field).row
parameter_field_sync = search syncs depth 20

parameter_send : IsSend parameter.the_row
parameter_send = let p = parameter_field_send in search sendable depth 20

parameter_sync : IsSync parameter.the_row
parameter_sync = let p = parameter_field_sync in search sendable depth 20

signature_field_send : IsSend (signature.the_field).row
signature_field_send = search sends depth 20

signature_field_sync : IsSync (signature.the_field).row
signature_field_sync = search syncs depth 20

const_spec_send : IsSend const_spec.the_row
const_spec_send =
    let n = lists.the_send name_row.the_row name.the_send in
    let t = options.the_field_send «type».the_row type_send in
    let x = lists.the_send expr.the_row expr_send in
    search sendable depth 20

const_spec_sync : IsSync const_spec.the_row
const_spec_sync =
    let n = lists.the_sync name_row.the_row name.the_sync in
    let t = options.the_field_sync «type».the_row type_sync in
    let x = lists.the_sync expr.the_row expr_sync in
    search sendable depth 20

var_spec_send : IsSend var_spec.the_row
var_spec_send =
    let n = lists.the_send name_row.the_row name.the_send in
    let t = options.the_field_send «type».the_row type_send in
    let x = lists.the_send expr.the_row expr_send in
    search sendable depth 20

var_spec_sync : IsSync var_spec.the_row
var_spec_sync =
    let n = lists.the_sync name_row.the_row name.the_sync in
    let t = options.the_field_sync «type».the_row type_sync in
    let x = lists.the_sync expr.the_row expr_sync in
    search sendable depth 20

type_spec_send : IsSend type_spec.the_row
type_spec_send = let n = name.the_field_send in let t = type_field_send in search sendable depth 20

type_spec_sync : IsSync type_spec.the_row
type_spec_sync = let n = name.the_field_sync in let t = type_field_sync in search sendable depth 20

func_send : IsSend func.the_row
func_send =
    let p = options.the_field_send parameter.the_row parameter_send in
    let n = name.the_field_send in
    let g = signature_field_send in
    search sendable depth 20

func_sync : IsSync func.the_row
func_sync =
    let p = options.the_field_sync parameter.the_row parameter_sync in
    let n = name.the_field_sync in
    let g = signature_field_sync in
    search sendable depth 20

decl_send : IsSend decl.the_row
decl_send =
    let c = lists.the_send const_spec.the_row const_spec_send in
    let v = lists.the_send var_spec.the_row var_spec_send in
    let t = lists.the_send type_spec.the_row type_spec_send in
    let f = boxes.the_send func.the_row func_send in
    search sendable depth 20

decl_sync : IsSync decl.the_row
decl_sync =
    let c = lists.the_sync const_spec.the_row const_spec_sync in
    let v = lists.the_sync var_spec.the_row var_spec_sync in
    let t = lists.the_sync type_spec.the_row type_spec_sync in
    let f = boxes.the_sync func.the_row func_sync in
    search sendable depth 20

pub file_send : IsSend file.the_row
file_send =
    let n = name.the_field_send in
    let i = lists.the_send import_row.the_row import_spec.the_send in
    let d = lists.the_send decl.the_row decl_send in
    search sendable depth 20

pub file_sync : IsSync file.the_row
file_sync =
    let n = name.the_field_sync in
    let i = lists.the_sync import_row.the_row import_spec.the_sync in
    let d = lists.the_sync decl.the_row decl_sync in
    search sendable depth 20

pub file_field_send : IsSend (file.the_field).row
file_field_send =
    let n = name.the_field_send in
    let i = lists.the_send import_row.the_row import_spec.the_send in
    let d = lists.the_send decl.the_row decl_send in
    search sendable depth 20

pub file_field_sync : IsSync (file.the_field).row
file_field_sync =
    let n = name.the_field_sync in
    let i = lists.the_sync import_row.the_row import_spec.the_sync in
    let d = lists.the_sync decl.the_row decl_sync in
    search sendable depth 20
