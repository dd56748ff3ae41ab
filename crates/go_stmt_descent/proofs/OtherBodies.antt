-- A tree whose function literals have bodies of one kind is also one with bodies of another, where each body of the first kind is one of the other.
use Rattle.std.proofs.Common.{ℕ, suc, List, [], Bool, Option}
use Rattle.go_syntax.specs.declared.body.BodyRange.{BodyRange}
use Rattle.go_syntax.specs.declared.statement.Case.{Case}
use Rattle.go_syntax.specs.declared.expression.Element.{Element}
use Rattle.go_syntax.specs.declared.expression.ElementValue.{ElementValue}
use Rattle.go_syntax.specs.declared.expression.Expr.{Expr}
use Rattle.go_syntax.specs.declared.types.FieldDecl.{FieldDecl}
use Rattle.go_syntax.specs.declared.types.InterfaceElem.{InterfaceElem}
use Rattle.go_syntax.specs.declared.name.Name.{Name}
use Rattle.go_syntax.specs.declared.types.ParameterDecl.{ParameterDecl}
use Rattle.go_syntax.specs.declared.expression.Post.{Post}
use Rattle.go_syntax.specs.declared.statement.SelectCase.{SelectCase}
use Rattle.go_syntax.specs.declared.types.Signature.{Signature}
use Rattle.go_syntax.specs.declared.statement.Stmt.{Stmt}
use Rattle.go_syntax.specs.declared.statement.StmtKind.{StmtKind}
use Rattle.go_syntax.specs.declared.statement.TypeCase.{TypeCase}
use Rattle.go_syntax.specs.declared.declaration.ConstSpec.{ConstSpec}
use Rattle.go_syntax.specs.declared.declaration.VarSpec.{VarSpec}
use Rattle.go_base.specs.declared.operator.CompareOp.{CompareOp}
use Rattle.go_base.specs.declared.operator.ProductOperator.{ProductOperator}
use Rattle.go_base.specs.declared.operator.SumOperator.{SumOperator}
use Rattle.go_syntax.specs.declared.types.«Type».{«Type» as Typ}
use Rattle.go_syntax.specs.grammar.Declarations as declarations
use Rattle.go_syntax.specs.grammar.Declarations.{IsGroup, IsSpecs}
use Rattle.go_syntax.specs.grammar.Grammar as grammar
use Rattle.go_syntax.specs.grammar.Statements as statements
use Rattle.go_syntax.specs.grammar.Symbols.{Rule}
use Rattle.go_syntax.specs.grammar.Terminals.{Terminal}

module _ {A : Type 0} {X Y : Rule A} (item : (ts : List Terminal) (x : A) (rest : List Terminal) → X ts x rest → Y ts x rest) where
  specs_of : {ts rest : List Terminal} {xs : List A} → IsSpecs X ts xs rest → IsSpecs Y ts xs rest
  specs_of declarations.specs_none = declarations.specs_none
  specs_of (declarations.specs_more a b c) = declarations.specs_more (item _ _ _ a) b (specs_of c)

  group_of : {ts rest : List Terminal} {xs : List A} → IsGroup X ts xs rest → IsGroup Y ts xs rest
  group_of (declarations.group_one a) = declarations.group_one (item _ _ _ a)
  group_of (declarations.group_specs a b c) = declarations.group_specs a (specs_of b) c

module _ {Body Other : ℕ → Rule BodyRange} (body_of : (h : ℕ) (ts : List Terminal) (b : BodyRange) (rest : List Terminal) → Body h ts b rest → Other h ts b rest) where
  mutual
    pub type_of : {h : ℕ} {ts : List Terminal} {a : Typ} {rest : List Terminal} → grammar.IsType Body h ts a rest → grammar.IsType Other h ts a rest
    type_of (grammar.type_name a0) = grammar.type_name a0
    type_of (grammar.type_paren a0 a1 a2) = grammar.type_paren a0 (type_of a1) a2
    type_of (grammar.type_pointer a0 a1) = grammar.type_pointer a0 (type_of a1)
    type_of (grammar.type_receive a0 a1 a2) = grammar.type_receive a0 a1 (type_of a2)
    type_of (grammar.type_func a0 a1) = grammar.type_func a0 (signature_of a1)
    type_of (grammar.type_composite a0) = grammar.type_composite (composite_type_of a0)
    type_of (grammar.type_other a0) = grammar.type_other (other_type_of a0)

    pub composite_type_of : {h : ℕ} {ts : List Terminal} {a : Typ} {rest : List Terminal} → grammar.IsCompositeType Body h ts a rest → grammar.IsCompositeType Other h ts a rest
    composite_type_of (grammar.type_slice a0 a1 a2) = grammar.type_slice a0 a1 (type_of a2)
    composite_type_of (grammar.type_array a0 a1 a2 a3) = grammar.type_array a0 (expr_of a1) a2 (type_of a3)
    composite_type_of (grammar.type_map a0 a1 a2 a3 a4) = grammar.type_map a0 a1 (type_of a2) a3 (type_of a4)
    composite_type_of (grammar.type_struct_empty a0 a1 a2) = grammar.type_struct_empty a0 a1 a2
    composite_type_of (grammar.type_struct a0 a1 a2 a3) = grammar.type_struct a0 a1 (fields_of a2) a3

    pub other_type_of : {h : ℕ} {ts : List Terminal} {a : Typ} {rest : List Terminal} → grammar.IsOtherType Body h ts a rest → grammar.IsOtherType Other h ts a rest
    other_type_of (grammar.type_chan a0 a1 a2) = grammar.type_chan a0 a1 (type_of a2)
    other_type_of (grammar.type_send a0 a1 a2) = grammar.type_send a0 a1 (type_of a2)
    other_type_of (grammar.type_interface_empty a0 a1 a2) = grammar.type_interface_empty a0 a1 a2
    other_type_of (grammar.type_interface a0 a1 a2 a3) = grammar.type_interface a0 a1 (interface_elems_of a2) a3

    pub signature_of : {h : ℕ} {ts : List Terminal} {a : Signature} {rest : List Terminal} → grammar.IsSignature Body h ts a rest → grammar.IsSignature Other h ts a rest
    signature_of (grammar.signature_alone a0 a1 a2) = grammar.signature_alone (parameters_of a0) a1 a2
    signature_of (grammar.signature_parameters a0 a1 a2 a3) = grammar.signature_parameters (parameters_of a0) a1 (parameters_of a2) a3
    signature_of (grammar.signature_type a0 a1 a2 a3) = grammar.signature_type (parameters_of a0) a1 a2 (type_of a3)

    pub parameters_of : {h : ℕ} {ts : List Terminal} {a : List ParameterDecl} {rest : List Terminal} → grammar.IsParameters Body h ts a rest → grammar.IsParameters Other h ts a rest
    parameters_of (grammar.parameters_none a0 a1) = grammar.parameters_none a0 a1
    parameters_of (grammar.parameters_unnamed a0 a1 a2 a3) = grammar.parameters_unnamed a0 (unnamed_of a1) a2 a3
    parameters_of (grammar.parameters_named a0 a1 a2 a3) = grammar.parameters_named a0 (named_of a1) a2 a3

    pub parameter_of : {h : ℕ} {ns : List Name} {ts : List Terminal} {a : ParameterDecl} {rest : List Terminal} → grammar.IsParameter Body h ns ts a rest → grammar.IsParameter Other h ns ts a rest
    parameter_of (grammar.parameter_one a0) = grammar.parameter_one (type_of a0)
    parameter_of (grammar.parameter_variadic a0 a1) = grammar.parameter_variadic a0 (type_of a1)

    pub unnamed_of : {h : ℕ} {ts : List Terminal} {a : List ParameterDecl} {rest : List Terminal} → grammar.IsUnnamed Body h ts a rest → grammar.IsUnnamed Other h ts a rest
    unnamed_of (grammar.unnamed a0 a1) = grammar.unnamed (parameter_of a0) (more_unnamed_of a1)

    pub more_unnamed_of : {h : ℕ} {ts : List Terminal} {a : List ParameterDecl} {rest : List Terminal} → grammar.IsMoreUnnamed Body h ts a rest → grammar.IsMoreUnnamed Other h ts a rest
    more_unnamed_of grammar.unnamed_none = grammar.unnamed_none
    more_unnamed_of (grammar.unnamed_more a0 a1 a2) = grammar.unnamed_more a0 (parameter_of a1) (more_unnamed_of a2)

    pub named_of : {h : ℕ} {ts : List Terminal} {a : List ParameterDecl} {rest : List Terminal} → grammar.IsNamed Body h ts a rest → grammar.IsNamed Other h ts a rest
    named_of (grammar.named a0 a1 a2) = grammar.named a0 (parameter_of a1) (more_named_of a2)

    pub more_named_of : {h : ℕ} {ts : List Terminal} {a : List ParameterDecl} {rest : List Terminal} → grammar.IsMoreNamed Body h ts a rest → grammar.IsMoreNamed Other h ts a rest
    more_named_of grammar.named_none = grammar.named_none
    more_named_of (grammar.named_more a0 a1 a2 a3) = grammar.named_more a0 a1 (parameter_of a2) (more_named_of a3)

    pub fields_of : {h : ℕ} {ts : List Terminal} {a : List FieldDecl} {rest : List Terminal} → grammar.IsFields Body h ts a rest → grammar.IsFields Other h ts a rest
    fields_of grammar.fields_none = grammar.fields_none
    fields_of (grammar.fields_more a0 a1 a2) = grammar.fields_more (field_of a0) a1 (fields_of a2)

    pub field_of : {h : ℕ} {ts : List Terminal} {a : FieldDecl} {rest : List Terminal} → grammar.IsField Body h ts a rest → grammar.IsField Other h ts a rest
    field_of (grammar.field_named a0 a1 a2) = grammar.field_named a0 (type_of a1) a2
    field_of (grammar.field_embedded a0 a1) = grammar.field_embedded a0 a1
    field_of (grammar.field_pointer a0 a1 a2) = grammar.field_pointer a0 a1 a2

    pub interface_elems_of : {h : ℕ} {ts : List Terminal} {a : List InterfaceElem} {rest : List Terminal} → grammar.IsInterfaceElems Body h ts a rest → grammar.IsInterfaceElems Other h ts a rest
    interface_elems_of grammar.elems_none = grammar.elems_none
    interface_elems_of (grammar.elems_more a0 a1 a2) = grammar.elems_more (interface_elem_of a0) a1 (interface_elems_of a2)

    pub interface_elem_of : {h : ℕ} {ts : List Terminal} {a : InterfaceElem} {rest : List Terminal} → grammar.IsInterfaceElem Body h ts a rest → grammar.IsInterfaceElem Other h ts a rest
    interface_elem_of (grammar.elem_method a0 a1) = grammar.elem_method a0 (signature_of a1)
    interface_elem_of (grammar.elem_embedded a0) = grammar.elem_embedded a0

    pub expr_of : {b : Bool} {h : ℕ} {ts : List Terminal} {a : Expr} {rest : List Terminal} → grammar.IsExpr Body b h ts a rest → grammar.IsExpr Other b h ts a rest
    expr_of (grammar.expr_or a0 a1) = grammar.expr_or (and_of a0) (more_or_of a1)

    pub more_or_of : {b : Bool} {h : ℕ} {ts : List Terminal} {a : List Expr} {rest : List Terminal} → grammar.IsMoreOr Body b h ts a rest → grammar.IsMoreOr Other b h ts a rest
    more_or_of grammar.or_none = grammar.or_none
    more_or_of (grammar.or_more a0 a1 a2) = grammar.or_more a0 (and_of a1) (more_or_of a2)

    pub and_of : {b : Bool} {h : ℕ} {ts : List Terminal} {a : Expr} {rest : List Terminal} → grammar.IsAnd Body b h ts a rest → grammar.IsAnd Other b h ts a rest
    and_of (grammar.expr_and a0 a1) = grammar.expr_and (compare_of a0) (more_and_of a1)

    pub more_and_of : {b : Bool} {h : ℕ} {ts : List Terminal} {a : List Expr} {rest : List Terminal} → grammar.IsMoreAnd Body b h ts a rest → grammar.IsMoreAnd Other b h ts a rest
    more_and_of grammar.and_none = grammar.and_none
    more_and_of (grammar.and_more a0 a1 a2) = grammar.and_more a0 (compare_of a1) (more_and_of a2)

    pub compare_of : {b : Bool} {h : ℕ} {ts : List Terminal} {a : Expr} {rest : List Terminal} → grammar.IsCompare Body b h ts a rest → grammar.IsCompare Other b h ts a rest
    compare_of (grammar.expr_compare a0 a1) = grammar.expr_compare (sum_of a0) (more_compare_of a1)

    pub more_compare_of : {b : Bool} {h : ℕ} {ts : List Terminal} {a : List CompareOp} {c : List Expr} {rest : List Terminal} → grammar.IsMoreCompare Body b h ts a c rest → grammar.IsMoreCompare Other b h ts a c rest
    more_compare_of grammar.compare_none = grammar.compare_none
    more_compare_of (grammar.compare_more a0 a1 a2 a3) = grammar.compare_more a0 a1 (sum_of a2) (more_compare_of a3)

    pub sum_of : {b : Bool} {h : ℕ} {ts : List Terminal} {a : Expr} {rest : List Terminal} → grammar.IsSum Body b h ts a rest → grammar.IsSum Other b h ts a rest
    sum_of (grammar.expr_sum a0 a1) = grammar.expr_sum (product_of a0) (more_sum_of a1)

    pub more_sum_of : {b : Bool} {h : ℕ} {ts : List Terminal} {a : List SumOperator} {c : List Expr} {rest : List Terminal} → grammar.IsMoreSum Body b h ts a c rest → grammar.IsMoreSum Other b h ts a c rest
    more_sum_of grammar.sum_none = grammar.sum_none
    more_sum_of (grammar.sum_more a0 a1 a2 a3) = grammar.sum_more a0 a1 (product_of a2) (more_sum_of a3)

    pub product_of : {b : Bool} {h : ℕ} {ts : List Terminal} {a : Expr} {rest : List Terminal} → grammar.IsProduct Body b h ts a rest → grammar.IsProduct Other b h ts a rest
    product_of (grammar.expr_product a0 a1) = grammar.expr_product (unary_of a0) (more_product_of a1)

    pub more_product_of : {b : Bool} {h : ℕ} {ts : List Terminal} {a : List ProductOperator} {c : List Expr} {rest : List Terminal} → grammar.IsMoreProduct Body b h ts a c rest → grammar.IsMoreProduct Other b h ts a c rest
    more_product_of grammar.product_none = grammar.product_none
    more_product_of (grammar.product_more a0 a1 a2 a3) = grammar.product_more a0 a1 (unary_of a2) (more_product_of a3)

    pub unary_of : {b : Bool} {h : ℕ} {ts : List Terminal} {a : Expr} {rest : List Terminal} → grammar.IsUnary Body b h ts a rest → grammar.IsUnary Other b h ts a rest
    unary_of (grammar.unary_prefix a0 a1 a2 a3) = grammar.unary_prefix a0 a1 a2 (unary_of a3)
    unary_of (grammar.unary_primary a0) = grammar.unary_primary (primary_of a0)

    pub primary_of : {b : Bool} {h : ℕ} {ts : List Terminal} {a : Expr} {rest : List Terminal} → grammar.IsPrimary Body b h ts a rest → grammar.IsPrimary Other b h ts a rest
    primary_of (grammar.primary a0 a1) = grammar.primary (operand_of a0) (posts_of a1)

    pub posts_of : {h : ℕ} {ts : List Terminal} {a : List Post} {rest : List Terminal} → grammar.IsPosts Body h ts a rest → grammar.IsPosts Other h ts a rest
    posts_of grammar.posts_none = grammar.posts_none
    posts_of (grammar.posts_more a0 a1) = grammar.posts_more (post_of a0) (posts_of a1)

    pub post_of : {h : ℕ} {ts : List Terminal} {a : Post} {rest : List Terminal} → grammar.IsPost Body h ts a rest → grammar.IsPost Other h ts a rest
    post_of (grammar.post_selector a0 a1) = grammar.post_selector a0 a1
    post_of (grammar.post_assertion a0 a1 a2 a3) = grammar.post_assertion a0 a1 (type_of a2) a3
    post_of (grammar.post_index a0 a1 a2) = grammar.post_index a0 (expr_of a1) a2
    post_of (grammar.post_slice a0 a1 a2 a3 a4) = grammar.post_slice a0 (optional_of a1) a2 (optional_of a3) a4
    post_of (grammar.post_full_slice a0 a1 a2 a3 a4 a5 a6) = grammar.post_full_slice a0 (optional_of a1) a2 (expr_of a3) a4 (expr_of a5) a6
    post_of (grammar.post_call_none a0 a1) = grammar.post_call_none a0 a1
    post_of (grammar.post_call a0 a1 a2 a3 a4) = grammar.post_call a0 (exprs_of a1) a2 a3 a4
    post_of (grammar.post_call_receive a0 a1 a2 a3 a4 a5 a6 a7) = grammar.post_call_receive a0 a1 a2 (type_of a3) (more_exprs_of a4) a5 a6 a7

    pub optional_of : {b : Bool} {h : ℕ} {ts : List Terminal} {a : Option Expr} {rest : List Terminal} → grammar.IsOptional Body b h ts a rest → grammar.IsOptional Other b h ts a rest
    optional_of grammar.optional_none = grammar.optional_none
    optional_of (grammar.optional_some a0) = grammar.optional_some (expr_of a0)

    pub exprs_of : {b : Bool} {h : ℕ} {ts : List Terminal} {a : List Expr} {rest : List Terminal} → grammar.IsExprs Body b h ts a rest → grammar.IsExprs Other b h ts a rest
    exprs_of (grammar.exprs a0 a1) = grammar.exprs (expr_of a0) (more_exprs_of a1)

    pub more_exprs_of : {b : Bool} {h : ℕ} {ts : List Terminal} {a : List Expr} {rest : List Terminal} → grammar.IsMoreExprs Body b h ts a rest → grammar.IsMoreExprs Other b h ts a rest
    more_exprs_of grammar.exprs_none = grammar.exprs_none
    more_exprs_of (grammar.exprs_more a0 a1 a2) = grammar.exprs_more a0 (expr_of a1) (more_exprs_of a2)

    pub operand_of : {b : Bool} {h : ℕ} {ts : List Terminal} {a : Expr} {rest : List Terminal} → grammar.IsOperand Body b h ts a rest → grammar.IsOperand Other b h ts a rest
    operand_of (grammar.operand_literal a0) = grammar.operand_literal a0
    operand_of (grammar.operand_name a0) = grammar.operand_name a0
    operand_of (grammar.operand_func a0 a1 a2) = grammar.operand_func a0 (signature_of a1) (body_of _ _ _ _ a2)
    operand_of (grammar.operand_named_composite a0 a1) = grammar.operand_named_composite a0 (literal_value_of a1)
    operand_of (grammar.operand_composite a0 a1) = grammar.operand_composite (composite_type_of a0) (literal_value_of a1)
    operand_of (grammar.operand_composite_array a0 a1 a2 a3 a4) = grammar.operand_composite_array a0 a1 a2 (type_of a3) (literal_value_of a4)
    operand_of (grammar.operand_composite_type a0 a1) = grammar.operand_composite_type (composite_type_of a0) a1
    operand_of (grammar.operand_func_type a0 a1 a2) = grammar.operand_func_type a0 (signature_of a1) a2
    operand_of (grammar.operand_other_type a0) = grammar.operand_other_type (other_type_of a0)
    operand_of (grammar.operand_paren a0 a1 a2) = grammar.operand_paren a0 (expr_of a1) a2
    operand_of (grammar.operand_paren_receive a0 a1 a2 a3 a4) = grammar.operand_paren_receive a0 a1 a2 (type_of a3) a4

    pub literal_value_of : {h : ℕ} {ts : List Terminal} {a : List Element} {rest : List Terminal} → grammar.IsLiteralValue Body h ts a rest → grammar.IsLiteralValue Other h ts a rest
    literal_value_of (grammar.literal_none a0 a1) = grammar.literal_none a0 a1
    literal_value_of (grammar.literal_some a0 a1 a2 a3 a4) = grammar.literal_some a0 (element_of a1) (more_elements_of a2) a3 a4

    pub more_elements_of : {h : ℕ} {ts : List Terminal} {a : List Element} {rest : List Terminal} → grammar.IsMoreElements Body h ts a rest → grammar.IsMoreElements Other h ts a rest
    more_elements_of grammar.elements_none = grammar.elements_none
    more_elements_of (grammar.elements_more a0 a1 a2) = grammar.elements_more a0 (element_of a1) (more_elements_of a2)

    pub element_of : {h : ℕ} {ts : List Terminal} {a : Element} {rest : List Terminal} → grammar.IsElement Body h ts a rest → grammar.IsElement Other h ts a rest
    element_of (grammar.element_alone a0) = grammar.element_alone (element_value_of a0)
    element_of (grammar.element_keyed a0 a1 a2) = grammar.element_keyed (element_value_of a0) a1 (element_value_of a2)

    pub element_value_of : {h : ℕ} {ts : List Terminal} {a : ElementValue} {rest : List Terminal} → grammar.IsElementValue Body h ts a rest → grammar.IsElementValue Other h ts a rest
    element_value_of (grammar.value_expr a0) = grammar.value_expr (expr_of a0)
    element_value_of (grammar.value_literal a0) = grammar.value_literal (literal_value_of a0)

  pub const_spec_of : {h : ℕ} {ts : List Terminal} {a : ConstSpec} {rest : List Terminal} → declarations.IsConstSpec Body h ts a rest → declarations.IsConstSpec Other h ts a rest
  const_spec_of (declarations.const_names a0) = declarations.const_names a0
  const_spec_of (declarations.const_values a0 a1 a2) = declarations.const_values a0 a1 (exprs_of a2)
  const_spec_of (declarations.const_typed a0 a1 a2 a3) = declarations.const_typed a0 (type_of a1) a2 (exprs_of a3)

  pub var_spec_of : {h : ℕ} {ts : List Terminal} {a : VarSpec} {rest : List Terminal} → declarations.IsVarSpec Body h ts a rest → declarations.IsVarSpec Other h ts a rest
  var_spec_of (declarations.var_type a0 a1) = declarations.var_type a0 (type_of a1)
  var_spec_of (declarations.var_values a0 a1 a2) = declarations.var_values a0 a1 (exprs_of a2)
  var_spec_of (declarations.var_typed a0 a1 a2 a3) = declarations.var_typed a0 (type_of a1) a2 (exprs_of a3)

  pub simple_of : {b : Bool} {h : ℕ} {ts : List Terminal} {a : StmtKind} {rest : List Terminal} → statements.IsSimple Body b h ts a rest → statements.IsSimple Other b h ts a rest
  simple_of (statements.simple_expr a0) = statements.simple_expr (expr_of a0)
  simple_of (statements.simple_send a0 a1 a2) = statements.simple_send (expr_of a0) a1 (expr_of a2)
  simple_of (statements.simple_step a0 a1 a2) = statements.simple_step (expr_of a0) a1 a2
  simple_of (statements.simple_assign a0 a1 a2) = statements.simple_assign (exprs_of a0) a1 (exprs_of a2)
  simple_of (statements.simple_operation a0 a1 a2 a3) = statements.simple_operation (expr_of a0) a1 a2 (expr_of a3)
  simple_of (statements.simple_define a0 a1 a2) = statements.simple_define a0 a1 (exprs_of a2)

  pub clause_of : {h : ℕ} {ts : List Terminal} {a : Option Stmt} {rest : List Terminal} → statements.IsClause Body h ts a rest → statements.IsClause Other h ts a rest
  clause_of statements.clause_none = statements.clause_none
  clause_of (statements.clause_some a0) = statements.clause_some (simple_of a0)

  pub init_of : {h : ℕ} {ts : List Terminal} {a : Option Stmt} {rest : List Terminal} → statements.IsInit Body h ts a rest → statements.IsInit Other h ts a rest
  init_of statements.init_none = statements.init_none
  init_of (statements.init_empty a0) = statements.init_empty a0
  init_of (statements.init_some a0 a1) = statements.init_some (simple_of a0) a1

  pub receive_of : {h : ℕ} {ts : List Terminal} {a : Expr} {rest : List Terminal} → statements.IsReceive Body h ts a rest → statements.IsReceive Other h ts a rest
  receive_of (statements.receive a0 a1) = statements.receive a0 (unary_of a1)
  receive_of (statements.receive_paren a0 a1 a2) = statements.receive_paren a0 (receive_of a1) a2

  pub communication_of : {h : ℕ} {ts : List Terminal} {a : StmtKind} {rest : List Terminal} → statements.IsCommunication Body h ts a rest → statements.IsCommunication Other h ts a rest
  communication_of (statements.communication_send a0 a1 a2) = statements.communication_send (expr_of a0) a1 (expr_of a2)
  communication_of (statements.communication_receive a0) = statements.communication_receive (receive_of a0)
  communication_of (statements.communication_assign a0 a1 a2) = statements.communication_assign (exprs_of a0) a1 (receive_of a2)
  communication_of (statements.communication_define a0 a1 a2) = statements.communication_define a0 a1 (receive_of a2)

  pub more_types_of : {h : ℕ} {ts : List Terminal} {a : List Typ} {rest : List Terminal} → statements.IsMoreTypes Body h ts a rest → statements.IsMoreTypes Other h ts a rest
  more_types_of statements.types_none = statements.types_none
  more_types_of (statements.types_more a0 a1 a2) = statements.types_more a0 (type_of a1) (more_types_of a2)

  mutual
    pub block_of : {h : ℕ} {ts : List Terminal} {a : List Stmt} {rest : List Terminal} → statements.IsBlock Body h ts a rest → statements.IsBlock Other h ts a rest
    block_of (statements.block_of a0 a1 a2) = statements.block_of a0 (stmts_of a1) a2

    pub stmts_of : {h : ℕ} {ts : List Terminal} {a : List Stmt} {rest : List Terminal} → statements.IsStmts Body h ts a rest → statements.IsStmts Other h ts a rest
    stmts_of statements.stmts_none = statements.stmts_none
    stmts_of (statements.stmts_more a0 a1 a2) = statements.stmts_more (stmt_of a0) a1 (stmts_of a2)
    stmts_of (statements.stmts_last a0 a1 a2) = statements.stmts_last (stmt_of a0) a1 a2

    pub stmt_of : {h : ℕ} {ts : List Terminal} {a : Stmt} {rest : List Terminal} → statements.IsStmt Body h ts a rest → statements.IsStmt Other h ts a rest
    stmt_of (statements.stmt_at a0) = statements.stmt_at (stmt_kind_of a0)

    pub stmt_kind_of : {h : ℕ} {ts : List Terminal} {a : StmtKind} {rest : List Terminal} → statements.IsStmtKind Body h ts a rest → statements.IsStmtKind Other h ts a rest
    stmt_kind_of statements.stmt_empty = statements.stmt_empty
    stmt_kind_of (statements.stmt_simple a0) = statements.stmt_simple (simple_of a0)
    stmt_kind_of (statements.stmt_const a0 a1) = statements.stmt_const a0 (group_of (λ w x u s. const_spec_of s) a1)
    stmt_kind_of (statements.stmt_var a0 a1) = statements.stmt_var a0 (group_of (λ w x u s. var_spec_of s) a1)
    stmt_kind_of (statements.stmt_labeled a0 a1 a2) = statements.stmt_labeled a0 a1 (stmt_of a2)
    stmt_kind_of (statements.stmt_go a0 a1) = statements.stmt_go a0 (expr_of a1)
    stmt_kind_of (statements.stmt_defer a0 a1) = statements.stmt_defer a0 (expr_of a1)
    stmt_kind_of (statements.stmt_return_none a0) = statements.stmt_return_none a0
    stmt_kind_of (statements.stmt_return a0 a1) = statements.stmt_return a0 (exprs_of a1)
    stmt_kind_of (statements.stmt_break a0 a1) = statements.stmt_break a0 a1
    stmt_kind_of (statements.stmt_break_alone a0) = statements.stmt_break_alone a0
    stmt_kind_of (statements.stmt_continue a0 a1) = statements.stmt_continue a0 a1
    stmt_kind_of (statements.stmt_continue_alone a0) = statements.stmt_continue_alone a0
    stmt_kind_of (statements.stmt_goto a0 a1) = statements.stmt_goto a0 a1
    stmt_kind_of (statements.stmt_fallthrough a0) = statements.stmt_fallthrough a0
    stmt_kind_of (statements.stmt_block a0) = statements.stmt_block (block_of a0)
    stmt_kind_of (statements.stmt_if a0) = statements.stmt_if (if_of a0)
    stmt_kind_of (statements.stmt_switch a0 a1 a2 a3 a4 a5) = statements.stmt_switch a0 (init_of a1) (optional_of a2) a3 (cases_of a4) a5
    stmt_kind_of (statements.stmt_type_switch a0 a1 a2 a3 a4 a5 a6 a7 a8 a9 a10) = statements.stmt_type_switch a0 (init_of a1) a2 (primary_of a3) a4 a5 a6 a7 a8 (type_cases_of a9) a10
    stmt_kind_of (statements.stmt_select a0 a1 a2 a3) = statements.stmt_select a0 a1 (select_cases_of a2) a3
    stmt_kind_of (statements.stmt_while a0 a1 a2) = statements.stmt_while a0 (optional_of a1) (block_of a2)
    stmt_kind_of (statements.stmt_for a0 a1 a2 a3 a4 a5 a6) = statements.stmt_for a0 (clause_of a1) a2 (optional_of a3) a4 (clause_of a5) (block_of a6)
    stmt_kind_of (statements.stmt_range a0 a1 a2 a3) = statements.stmt_range a0 a1 (expr_of a2) (block_of a3)
    stmt_kind_of (statements.stmt_range_assign a0 a1 a2 a3 a4 a5) = statements.stmt_range_assign a0 (exprs_of a1) a2 a3 (expr_of a4) (block_of a5)
    stmt_kind_of (statements.stmt_range_define a0 a1 a2 a3 a4 a5) = statements.stmt_range_define a0 a1 a2 a3 (expr_of a4) (block_of a5)

    pub if_of : {h : ℕ} {ts : List Terminal} {a : StmtKind} {rest : List Terminal} → statements.IsIf Body h ts a rest → statements.IsIf Other h ts a rest
    if_of (statements.if_alone a0 a1 a2 a3) = statements.if_alone a0 (init_of a1) (expr_of a2) (block_of a3)
    if_of (statements.if_else_if a0 a1 a2 a3 a4 a5) = statements.if_else_if a0 (init_of a1) (expr_of a2) (block_of a3) a4 (if_of a5)
    if_of (statements.if_else a0 a1 a2 a3 a4 a5) = statements.if_else a0 (init_of a1) (expr_of a2) (block_of a3) a4 (block_of a5)

    pub cases_of : {h : ℕ} {ts : List Terminal} {a : List Case} {rest : List Terminal} → statements.IsCases Body h ts a rest → statements.IsCases Other h ts a rest
    cases_of statements.cases_none = statements.cases_none
    cases_of (statements.cases_values a0 a1 a2 a3 a4) = statements.cases_values a0 (exprs_of a1) a2 (stmts_of a3) (cases_of a4)
    cases_of (statements.cases_default a0 a1 a2 a3) = statements.cases_default a0 a1 (stmts_of a2) (cases_of a3)

    pub type_cases_of : {h : ℕ} {ts : List Terminal} {a : List TypeCase} {rest : List Terminal} → statements.IsTypeCases Body h ts a rest → statements.IsTypeCases Other h ts a rest
    type_cases_of statements.type_cases_none = statements.type_cases_none
    type_cases_of (statements.type_cases_types a0 a1 a2 a3 a4 a5) = statements.type_cases_types a0 (type_of a1) (more_types_of a2) a3 (stmts_of a4) (type_cases_of a5)
    type_cases_of (statements.type_cases_default a0 a1 a2 a3) = statements.type_cases_default a0 a1 (stmts_of a2) (type_cases_of a3)

    pub select_cases_of : {h : ℕ} {ts : List Terminal} {a : List SelectCase} {rest : List Terminal} → statements.IsSelectCases Body h ts a rest → statements.IsSelectCases Other h ts a rest
    select_cases_of statements.select_cases_none = statements.select_cases_none
    select_cases_of (statements.select_cases_communication a0 a1 a2 a3 a4) = statements.select_cases_communication a0 (communication_of a1) a2 (stmts_of a3) (select_cases_of a4)
    select_cases_of (statements.select_cases_default a0 a1 a2 a3) = statements.select_cases_default a0 a1 (stmts_of a2) (select_cases_of a3)
