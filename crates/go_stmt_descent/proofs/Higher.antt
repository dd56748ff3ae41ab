-- A tree of a height is also one of each greater height, where each body of a function literal is.
use Rattle.std.proofs.Common.{ℕ, suc, List, Bool, Option}
use Rattle.go_syntax.specs.declared.body.BodyRange.{BodyRange}
use Rattle.go_syntax.specs.declared.expression.Element.{Element}
use Rattle.go_syntax.specs.declared.expression.ElementValue.{ElementValue}
use Rattle.go_syntax.specs.declared.expression.Expr.{Expr}
use Rattle.go_syntax.specs.declared.types.FieldDecl.{FieldDecl}
use Rattle.go_syntax.specs.declared.types.InterfaceElem.{InterfaceElem}
use Rattle.go_syntax.specs.declared.name.Name.{Name}
use Rattle.go_syntax.specs.declared.types.ParameterDecl.{ParameterDecl}
use Rattle.go_syntax.specs.declared.expression.Post.{Post}
use Rattle.go_syntax.specs.declared.types.Signature.{Signature}
use Rattle.go_base.specs.declared.operator.CompareOp.{CompareOp}
use Rattle.go_base.specs.declared.operator.ProductOperator.{ProductOperator}
use Rattle.go_base.specs.declared.operator.SumOperator.{SumOperator}
use Rattle.go_syntax.specs.declared.types.«Type».{«Type» as Typ}
use Rattle.go_syntax.specs.grammar.Grammar as grammar
use Rattle.go_syntax.specs.grammar.Symbols.{Rule}
use Rattle.go_syntax.specs.grammar.Terminals.{Terminal}

module _ {Body : ℕ → Rule BodyRange} (body_higher : (h : ℕ) (ts : List Terminal) (b : BodyRange) (rest : List Terminal) → Body h ts b rest → Body (suc h) ts b rest) where
  mutual
    pub type_higher : {h : ℕ} {ts : List Terminal} {a : Typ} {rest : List Terminal} → grammar.IsType Body h ts a rest → grammar.IsType Body (suc h) ts a rest
    type_higher (grammar.type_name a0) = grammar.type_name a0
    type_higher (grammar.type_paren a0 a1 a2) = grammar.type_paren a0 (type_higher a1) a2
    type_higher (grammar.type_pointer a0 a1) = grammar.type_pointer a0 (type_higher a1)
    type_higher (grammar.type_receive a0 a1 a2) = grammar.type_receive a0 a1 (type_higher a2)
    type_higher (grammar.type_func a0 a1) = grammar.type_func a0 (signature_higher a1)
    type_higher (grammar.type_composite a0) = grammar.type_composite (composite_type_higher a0)
    type_higher (grammar.type_other a0) = grammar.type_other (other_type_higher a0)

    pub composite_type_higher : {h : ℕ} {ts : List Terminal} {a : Typ} {rest : List Terminal} → grammar.IsCompositeType Body h ts a rest → grammar.IsCompositeType Body (suc h) ts a rest
    composite_type_higher (grammar.type_slice a0 a1 a2) = grammar.type_slice a0 a1 (type_higher a2)
    composite_type_higher (grammar.type_array a0 a1 a2 a3) = grammar.type_array a0 (expr_higher a1) a2 (type_higher a3)
    composite_type_higher (grammar.type_map a0 a1 a2 a3 a4) = grammar.type_map a0 a1 (type_higher a2) a3 (type_higher a4)
    composite_type_higher (grammar.type_struct_empty a0 a1 a2) = grammar.type_struct_empty a0 a1 a2
    composite_type_higher (grammar.type_struct a0 a1 a2 a3) = grammar.type_struct a0 a1 (fields_higher a2) a3

    pub other_type_higher : {h : ℕ} {ts : List Terminal} {a : Typ} {rest : List Terminal} → grammar.IsOtherType Body h ts a rest → grammar.IsOtherType Body (suc h) ts a rest
    other_type_higher (grammar.type_chan a0 a1 a2) = grammar.type_chan a0 a1 (type_higher a2)
    other_type_higher (grammar.type_send a0 a1 a2) = grammar.type_send a0 a1 (type_higher a2)
    other_type_higher (grammar.type_interface_empty a0 a1 a2) = grammar.type_interface_empty a0 a1 a2
    other_type_higher (grammar.type_interface a0 a1 a2 a3) = grammar.type_interface a0 a1 (interface_elems_higher a2) a3

    pub signature_higher : {h : ℕ} {ts : List Terminal} {a : Signature} {rest : List Terminal} → grammar.IsSignature Body h ts a rest → grammar.IsSignature Body (suc h) ts a rest
    signature_higher (grammar.signature_alone a0 a1 a2) = grammar.signature_alone (parameters_higher a0) a1 a2
    signature_higher (grammar.signature_parameters a0 a1 a2 a3) = grammar.signature_parameters (parameters_higher a0) a1 (parameters_higher a2) a3
    signature_higher (grammar.signature_type a0 a1 a2 a3) = grammar.signature_type (parameters_higher a0) a1 a2 (type_higher a3)

    pub parameters_higher : {h : ℕ} {ts : List Terminal} {a : List ParameterDecl} {rest : List Terminal} → grammar.IsParameters Body h ts a rest → grammar.IsParameters Body (suc h) ts a rest
    parameters_higher (grammar.parameters_none a0 a1) = grammar.parameters_none a0 a1
    parameters_higher (grammar.parameters_unnamed a0 a1 a2 a3) = grammar.parameters_unnamed a0 (unnamed_higher a1) a2 a3
    parameters_higher (grammar.parameters_named a0 a1 a2 a3) = grammar.parameters_named a0 (named_higher a1) a2 a3

    pub parameter_higher : {h : ℕ} {ns : List Name} {ts : List Terminal} {a : ParameterDecl} {rest : List Terminal} → grammar.IsParameter Body h ns ts a rest → grammar.IsParameter Body (suc h) ns ts a rest
    parameter_higher (grammar.parameter_one a0) = grammar.parameter_one (type_higher a0)
    parameter_higher (grammar.parameter_variadic a0 a1) = grammar.parameter_variadic a0 (type_higher a1)

    pub unnamed_higher : {h : ℕ} {ts : List Terminal} {a : List ParameterDecl} {rest : List Terminal} → grammar.IsUnnamed Body h ts a rest → grammar.IsUnnamed Body (suc h) ts a rest
    unnamed_higher (grammar.unnamed a0 a1) = grammar.unnamed (parameter_higher a0) (more_unnamed_higher a1)

    pub more_unnamed_higher : {h : ℕ} {ts : List Terminal} {a : List ParameterDecl} {rest : List Terminal} → grammar.IsMoreUnnamed Body h ts a rest → grammar.IsMoreUnnamed Body (suc h) ts a rest
    more_unnamed_higher grammar.unnamed_none = grammar.unnamed_none
    more_unnamed_higher (grammar.unnamed_more a0 a1 a2) = grammar.unnamed_more a0 (parameter_higher a1) (more_unnamed_higher a2)

    pub named_higher : {h : ℕ} {ts : List Terminal} {a : List ParameterDecl} {rest : List Terminal} → grammar.IsNamed Body h ts a rest → grammar.IsNamed Body (suc h) ts a rest
    named_higher (grammar.named a0 a1 a2) = grammar.named a0 (parameter_higher a1) (more_named_higher a2)

    pub more_named_higher : {h : ℕ} {ts : List Terminal} {a : List ParameterDecl} {rest : List Terminal} → grammar.IsMoreNamed Body h ts a rest → grammar.IsMoreNamed Body (suc h) ts a rest
    more_named_higher grammar.named_none = grammar.named_none
    more_named_higher (grammar.named_more a0 a1 a2 a3) = grammar.named_more a0 a1 (parameter_higher a2) (more_named_higher a3)

    pub fields_higher : {h : ℕ} {ts : List Terminal} {a : List FieldDecl} {rest : List Terminal} → grammar.IsFields Body h ts a rest → grammar.IsFields Body (suc h) ts a rest
    fields_higher grammar.fields_none = grammar.fields_none
    fields_higher (grammar.fields_more a0 a1 a2) = grammar.fields_more (field_higher a0) a1 (fields_higher a2)

    pub field_higher : {h : ℕ} {ts : List Terminal} {a : FieldDecl} {rest : List Terminal} → grammar.IsField Body h ts a rest → grammar.IsField Body (suc h) ts a rest
    field_higher (grammar.field_named a0 a1 a2) = grammar.field_named a0 (type_higher a1) a2
    field_higher (grammar.field_embedded a0 a1) = grammar.field_embedded a0 a1
    field_higher (grammar.field_pointer a0 a1 a2) = grammar.field_pointer a0 a1 a2

    pub interface_elems_higher : {h : ℕ} {ts : List Terminal} {a : List InterfaceElem} {rest : List Terminal} → grammar.IsInterfaceElems Body h ts a rest → grammar.IsInterfaceElems Body (suc h) ts a rest
    interface_elems_higher grammar.elems_none = grammar.elems_none
    interface_elems_higher (grammar.elems_more a0 a1 a2) = grammar.elems_more (interface_elem_higher a0) a1 (interface_elems_higher a2)

    pub interface_elem_higher : {h : ℕ} {ts : List Terminal} {a : InterfaceElem} {rest : List Terminal} → grammar.IsInterfaceElem Body h ts a rest → grammar.IsInterfaceElem Body (suc h) ts a rest
    interface_elem_higher (grammar.elem_method a0 a1) = grammar.elem_method a0 (signature_higher a1)
    interface_elem_higher (grammar.elem_embedded a0) = grammar.elem_embedded a0

    pub expr_higher : {b : Bool} {h : ℕ} {ts : List Terminal} {a : Expr} {rest : List Terminal} → grammar.IsExpr Body b h ts a rest → grammar.IsExpr Body b (suc h) ts a rest
    expr_higher (grammar.expr_or a0 a1) = grammar.expr_or (and_higher a0) (more_or_higher a1)

    pub more_or_higher : {b : Bool} {h : ℕ} {ts : List Terminal} {a : List Expr} {rest : List Terminal} → grammar.IsMoreOr Body b h ts a rest → grammar.IsMoreOr Body b (suc h) ts a rest
    more_or_higher grammar.or_none = grammar.or_none
    more_or_higher (grammar.or_more a0 a1 a2) = grammar.or_more a0 (and_higher a1) (more_or_higher a2)

    pub and_higher : {b : Bool} {h : ℕ} {ts : List Terminal} {a : Expr} {rest : List Terminal} → grammar.IsAnd Body b h ts a rest → grammar.IsAnd Body b (suc h) ts a rest
    and_higher (grammar.expr_and a0 a1) = grammar.expr_and (compare_higher a0) (more_and_higher a1)

    pub more_and_higher : {b : Bool} {h : ℕ} {ts : List Terminal} {a : List Expr} {rest : List Terminal} → grammar.IsMoreAnd Body b h ts a rest → grammar.IsMoreAnd Body b (suc h) ts a rest
    more_and_higher grammar.and_none = grammar.and_none
    more_and_higher (grammar.and_more a0 a1 a2) = grammar.and_more a0 (compare_higher a1) (more_and_higher a2)

    pub compare_higher : {b : Bool} {h : ℕ} {ts : List Terminal} {a : Expr} {rest : List Terminal} → grammar.IsCompare Body b h ts a rest → grammar.IsCompare Body b (suc h) ts a rest
    compare_higher (grammar.expr_compare a0 a1) = grammar.expr_compare (sum_higher a0) (more_compare_higher a1)

    pub more_compare_higher : {b : Bool} {h : ℕ} {ts : List Terminal} {a : List CompareOp} {c : List Expr} {rest : List Terminal} → grammar.IsMoreCompare Body b h ts a c rest → grammar.IsMoreCompare Body b (suc h) ts a c rest
    more_compare_higher grammar.compare_none = grammar.compare_none
    more_compare_higher (grammar.compare_more a0 a1 a2 a3) = grammar.compare_more a0 a1 (sum_higher a2) (more_compare_higher a3)

    pub sum_higher : {b : Bool} {h : ℕ} {ts : List Terminal} {a : Expr} {rest : List Terminal} → grammar.IsSum Body b h ts a rest → grammar.IsSum Body b (suc h) ts a rest
    sum_higher (grammar.expr_sum a0 a1) = grammar.expr_sum (product_higher a0) (more_sum_higher a1)

    pub more_sum_higher : {b : Bool} {h : ℕ} {ts : List Terminal} {a : List SumOperator} {c : List Expr} {rest : List Terminal} → grammar.IsMoreSum Body b h ts a c rest → grammar.IsMoreSum Body b (suc h) ts a c rest
    more_sum_higher grammar.sum_none = grammar.sum_none
    more_sum_higher (grammar.sum_more a0 a1 a2 a3) = grammar.sum_more a0 a1 (product_higher a2) (more_sum_higher a3)

    pub product_higher : {b : Bool} {h : ℕ} {ts : List Terminal} {a : Expr} {rest : List Terminal} → grammar.IsProduct Body b h ts a rest → grammar.IsProduct Body b (suc h) ts a rest
    product_higher (grammar.expr_product a0 a1) = grammar.expr_product (unary_higher a0) (more_product_higher a1)

    pub more_product_higher : {b : Bool} {h : ℕ} {ts : List Terminal} {a : List ProductOperator} {c : List Expr} {rest : List Terminal} → grammar.IsMoreProduct Body b h ts a c rest → grammar.IsMoreProduct Body b (suc h) ts a c rest
    more_product_higher grammar.product_none = grammar.product_none
    more_product_higher (grammar.product_more a0 a1 a2 a3) = grammar.product_more a0 a1 (unary_higher a2) (more_product_higher a3)

    pub unary_higher : {b : Bool} {h : ℕ} {ts : List Terminal} {a : Expr} {rest : List Terminal} → grammar.IsUnary Body b h ts a rest → grammar.IsUnary Body b (suc h) ts a rest
    unary_higher (grammar.unary_prefix a0 a1 a2 a3) = grammar.unary_prefix a0 a1 a2 (unary_higher a3)
    unary_higher (grammar.unary_primary a0) = grammar.unary_primary (primary_higher a0)

    pub primary_higher : {b : Bool} {h : ℕ} {ts : List Terminal} {a : Expr} {rest : List Terminal} → grammar.IsPrimary Body b h ts a rest → grammar.IsPrimary Body b (suc h) ts a rest
    primary_higher (grammar.primary a0 a1) = grammar.primary (operand_higher a0) (posts_higher a1)

    pub posts_higher : {h : ℕ} {ts : List Terminal} {a : List Post} {rest : List Terminal} → grammar.IsPosts Body h ts a rest → grammar.IsPosts Body (suc h) ts a rest
    posts_higher grammar.posts_none = grammar.posts_none
    posts_higher (grammar.posts_more a0 a1) = grammar.posts_more (post_higher a0) (posts_higher a1)

    pub post_higher : {h : ℕ} {ts : List Terminal} {a : Post} {rest : List Terminal} → grammar.IsPost Body h ts a rest → grammar.IsPost Body (suc h) ts a rest
    post_higher (grammar.post_selector a0 a1) = grammar.post_selector a0 a1
    post_higher (grammar.post_assertion a0 a1 a2 a3) = grammar.post_assertion a0 a1 (type_higher a2) a3
    post_higher (grammar.post_index a0 a1 a2) = grammar.post_index a0 (expr_higher a1) a2
    post_higher (grammar.post_slice a0 a1 a2 a3 a4) = grammar.post_slice a0 (optional_higher a1) a2 (optional_higher a3) a4
    post_higher (grammar.post_full_slice a0 a1 a2 a3 a4 a5 a6) = grammar.post_full_slice a0 (optional_higher a1) a2 (expr_higher a3) a4 (expr_higher a5) a6
    post_higher (grammar.post_call_none a0 a1) = grammar.post_call_none a0 a1
    post_higher (grammar.post_call a0 a1 a2 a3 a4) = grammar.post_call a0 (exprs_higher a1) a2 a3 a4
    post_higher (grammar.post_call_receive a0 a1 a2 a3 a4 a5 a6 a7) = grammar.post_call_receive a0 a1 a2 (type_higher a3) (more_exprs_higher a4) a5 a6 a7

    pub optional_higher : {b : Bool} {h : ℕ} {ts : List Terminal} {a : Option Expr} {rest : List Terminal} → grammar.IsOptional Body b h ts a rest → grammar.IsOptional Body b (suc h) ts a rest
    optional_higher grammar.optional_none = grammar.optional_none
    optional_higher (grammar.optional_some a0) = grammar.optional_some (expr_higher a0)

    pub exprs_higher : {b : Bool} {h : ℕ} {ts : List Terminal} {a : List Expr} {rest : List Terminal} → grammar.IsExprs Body b h ts a rest → grammar.IsExprs Body b (suc h) ts a rest
    exprs_higher (grammar.exprs a0 a1) = grammar.exprs (expr_higher a0) (more_exprs_higher a1)

    pub more_exprs_higher : {b : Bool} {h : ℕ} {ts : List Terminal} {a : List Expr} {rest : List Terminal} → grammar.IsMoreExprs Body b h ts a rest → grammar.IsMoreExprs Body b (suc h) ts a rest
    more_exprs_higher grammar.exprs_none = grammar.exprs_none
    more_exprs_higher (grammar.exprs_more a0 a1 a2) = grammar.exprs_more a0 (expr_higher a1) (more_exprs_higher a2)

    pub operand_higher : {b : Bool} {h : ℕ} {ts : List Terminal} {a : Expr} {rest : List Terminal} → grammar.IsOperand Body b h ts a rest → grammar.IsOperand Body b (suc h) ts a rest
    operand_higher (grammar.operand_literal a0) = grammar.operand_literal a0
    operand_higher (grammar.operand_name a0) = grammar.operand_name a0
    operand_higher (grammar.operand_func a0 a1 a2) = grammar.operand_func a0 (signature_higher a1) (body_higher _ _ _ _ a2)
    operand_higher (grammar.operand_named_composite a0 a1) = grammar.operand_named_composite a0 (literal_value_higher a1)
    operand_higher (grammar.operand_composite a0 a1) = grammar.operand_composite (composite_type_higher a0) (literal_value_higher a1)
    operand_higher (grammar.operand_composite_array a0 a1 a2 a3 a4) = grammar.operand_composite_array a0 a1 a2 (type_higher a3) (literal_value_higher a4)
    operand_higher (grammar.operand_composite_type a0 a1) = grammar.operand_composite_type (composite_type_higher a0) a1
    operand_higher (grammar.operand_func_type a0 a1 a2) = grammar.operand_func_type a0 (signature_higher a1) a2
    operand_higher (grammar.operand_other_type a0) = grammar.operand_other_type (other_type_higher a0)
    operand_higher (grammar.operand_paren a0 a1 a2) = grammar.operand_paren a0 (expr_higher a1) a2
    operand_higher (grammar.operand_paren_receive a0 a1 a2 a3 a4) = grammar.operand_paren_receive a0 a1 a2 (type_higher a3) a4

    pub literal_value_higher : {h : ℕ} {ts : List Terminal} {a : List Element} {rest : List Terminal} → grammar.IsLiteralValue Body h ts a rest → grammar.IsLiteralValue Body (suc h) ts a rest
    literal_value_higher (grammar.literal_none a0 a1) = grammar.literal_none a0 a1
    literal_value_higher (grammar.literal_some a0 a1 a2 a3 a4) = grammar.literal_some a0 (element_higher a1) (more_elements_higher a2) a3 a4

    pub more_elements_higher : {h : ℕ} {ts : List Terminal} {a : List Element} {rest : List Terminal} → grammar.IsMoreElements Body h ts a rest → grammar.IsMoreElements Body (suc h) ts a rest
    more_elements_higher grammar.elements_none = grammar.elements_none
    more_elements_higher (grammar.elements_more a0 a1 a2) = grammar.elements_more a0 (element_higher a1) (more_elements_higher a2)

    pub element_higher : {h : ℕ} {ts : List Terminal} {a : Element} {rest : List Terminal} → grammar.IsElement Body h ts a rest → grammar.IsElement Body (suc h) ts a rest
    element_higher (grammar.element_alone a0) = grammar.element_alone (element_value_higher a0)
    element_higher (grammar.element_keyed a0 a1 a2) = grammar.element_keyed (element_value_higher a0) a1 (element_value_higher a2)

    pub element_value_higher : {h : ℕ} {ts : List Terminal} {a : ElementValue} {rest : List Terminal} → grammar.IsElementValue Body h ts a rest → grammar.IsElementValue Body (suc h) ts a rest
    element_value_higher (grammar.value_expr a0) = grammar.value_expr (expr_higher a0)
    element_value_higher (grammar.value_literal a0) = grammar.value_literal (literal_value_higher a0)
