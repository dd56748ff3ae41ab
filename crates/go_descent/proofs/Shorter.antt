-- What follows a tree is no longer than the terminals at which it begins.
use Rattle.std.proofs.Common.{ℕ, ◌≤◌, List, length, Bool, Option, arith}
use Rattle.go_syntax.specs.declared.expression.Element.{Element}
use Rattle.go_syntax.specs.declared.expression.ElementValue.{ElementValue}
use Rattle.go_syntax.specs.declared.expression.Expr.{Expr}
use Rattle.go_syntax.specs.declared.expression.Post.{Post}
use Rattle.go_syntax.specs.declared.name.Name.{Name}
use Rattle.go_syntax.specs.declared.name.QualifiedName.{QualifiedName}
use Rattle.go_cursor.specs.go_base.declared.operator.CompareOp.{CompareOp}
use Rattle.go_cursor.specs.go_base.declared.operator.ProductOperator.{ProductOperator}
use Rattle.go_cursor.specs.go_base.declared.operator.SumOperator.{SumOperator}
use Rattle.go_syntax.specs.declared.body.BodyRange.{BodyRange}
use Rattle.go_syntax.specs.declared.types.FieldDecl.{FieldDecl}
use Rattle.go_syntax.specs.declared.types.InterfaceElem.{InterfaceElem}
use Rattle.go_syntax.specs.declared.types.ParameterDecl.{ParameterDecl}
use Rattle.go_syntax.specs.declared.types.Signature.{Signature}
use Rattle.go_syntax.specs.declared.types.«Type».{«Type» as Typ}
use Rattle.go_syntax.specs.declared.token.TokenKind.{TokenKind}
use Rattle.go_syntax.specs.grammar.Brackets.{IsRun, run_none, run_plain, run_nest, skipped}
use Rattle.go_syntax.specs.grammar.Grammar as grammar
use Rattle.go_syntax.specs.grammar.SourceFiles.{Skips}
use Rattle.go_syntax.specs.grammar.Symbols.{Rule, takes, MayTake, takes_none, takes_one, Marks, unmarked, marked, takes_name, takes_literal, takes_string, Ends, ends_semicolon, ends_closing}
use Rattle.go_syntax.specs.grammar.Terminals.{Terminal}

pub may_shorter : {k : TokenKind} {ts rest : List Terminal} → MayTake k ts rest → length rest ≤ length ts
may_shorter takes_none = omega arith
may_shorter (takes_one (takes at)) = omega arith

pub marks_shorter : {k : TokenKind} {ts rest : List Terminal} {b : Bool} → Marks k ts b rest → length rest ≤ length ts
marks_shorter unmarked = omega arith
marks_shorter (marked (takes at)) = omega arith

pub ends_shorter : {ts rest : List Terminal} → Ends ts rest → length rest ≤ length ts
ends_shorter (ends_semicolon (takes at)) = omega arith
ends_shorter (ends_closing e) = omega arith

pub more_names_shorter : {ts rest : List Terminal} {ns : List Name} → grammar.IsMoreNames ts ns rest → length rest ≤ length ts
more_names_shorter grammar.names_none = omega arith
more_names_shorter (grammar.names_more (takes at) takes_name d) = omega (arith, more_names_shorter d)

pub names_shorter : {ts rest : List Terminal} {ns : List Name} → grammar.IsNames ts ns rest → length rest ≤ length ts
names_shorter (grammar.names takes_name d) = omega (arith, more_names_shorter d)

pub type_name_shorter : {ts rest : List Terminal} {q : QualifiedName} → grammar.IsTypeName ts q rest → length rest ≤ length ts
type_name_shorter (grammar.type_name_alone takes_name e) = omega arith
type_name_shorter (grammar.type_name_qualified takes_name (takes at) takes_name) = omega arith

pub tag_shorter : {ts rest : List Terminal} {text : Option (List ℕ)} → grammar.IsTag ts text rest → length rest ≤ length ts
tag_shorter grammar.tag_none = omega arith
tag_shorter (grammar.tag_some place takes_string) = omega arith

-- what is asked of the bodies of function literals
abbrev pub Shortens : (ℕ → Rule BodyRange) → Type 0
Shortens Body = (h : ℕ) (ts : List Terminal) (b : BodyRange) (rest : List Terminal) → Body h ts b rest → length rest ≤ length ts

module _ (Body : ℕ → Rule BodyRange) (body_shorter : Shortens Body) where
  mutual
    pub type_shorter : {h : ℕ} {ts : List Terminal} {t : Typ} {rest : List Terminal} → grammar.IsType Body h ts t rest → length rest ≤ length ts
    type_shorter (grammar.type_name d0) = omega (arith, type_name_shorter d0)
    type_shorter (grammar.type_paren (takes at0) d1 (takes at2)) = omega (arith, type_shorter d1)
    type_shorter (grammar.type_pointer (takes at0) d1) = omega (arith, type_shorter d1)
    type_shorter (grammar.type_receive (takes at0) (takes at1) d2) = omega (arith, type_shorter d2)
    type_shorter (grammar.type_func (takes at0) d1) = omega (arith, signature_shorter d1)
    type_shorter (grammar.type_composite d0) = omega (arith, composite_type_shorter d0)
    type_shorter (grammar.type_other d0) = omega (arith, other_type_shorter d0)

    pub composite_type_shorter : {h : ℕ} {ts : List Terminal} {t : Typ} {rest : List Terminal} → grammar.IsCompositeType Body h ts t rest → length rest ≤ length ts
    composite_type_shorter (grammar.type_slice (takes at0) (takes at1) d2) = omega (arith, type_shorter d2)
    composite_type_shorter (grammar.type_array (takes at0) d1 (takes at2) d3) = omega (arith, expr_shorter d1, type_shorter d3)
    composite_type_shorter (grammar.type_map (takes at0) (takes at1) d2 (takes at3) d4) = omega (arith, type_shorter d2, type_shorter d4)
    composite_type_shorter (grammar.type_struct_empty (takes at0) (takes at1) (takes at2)) = omega arith
    composite_type_shorter (grammar.type_struct (takes at0) (takes at1) d2 (takes at3)) = omega (arith, fields_shorter d2)

    pub other_type_shorter : {h : ℕ} {ts : List Terminal} {t : Typ} {rest : List Terminal} → grammar.IsOtherType Body h ts t rest → length rest ≤ length ts
    other_type_shorter (grammar.type_chan (takes at0) e1 d2) = omega (arith, type_shorter d2)
    other_type_shorter (grammar.type_send (takes at0) (takes at1) d2) = omega (arith, type_shorter d2)
    other_type_shorter (grammar.type_interface_empty (takes at0) (takes at1) (takes at2)) = omega arith
    other_type_shorter (grammar.type_interface (takes at0) (takes at1) d2 (takes at3)) = omega (arith, interface_elems_shorter d2)

    pub signature_shorter : {h : ℕ} {ts : List Terminal} {s : Signature} {rest : List Terminal} → grammar.IsSignature Body h ts s rest → length rest ≤ length ts
    signature_shorter (grammar.signature_alone d0 e1 e2) = omega (arith, parameters_shorter d0)
    signature_shorter (grammar.signature_parameters d0 e1 d2 e3) = omega (arith, parameters_shorter d0, parameters_shorter d2)
    signature_shorter (grammar.signature_type d0 e1 e2 d3) = omega (arith, parameters_shorter d0, type_shorter d3)

    pub parameters_shorter : {h : ℕ} {ts : List Terminal} {ds : List ParameterDecl} {rest : List Terminal} → grammar.IsParameters Body h ts ds rest → length rest ≤ length ts
    parameters_shorter (grammar.parameters_none (takes at0) (takes at1)) = omega arith
    parameters_shorter (grammar.parameters_unnamed (takes at0) d1 d2 (takes at3)) = omega (arith, unnamed_shorter d1, may_shorter d2)
    parameters_shorter (grammar.parameters_named (takes at0) d1 d2 (takes at3)) = omega (arith, named_shorter d1, may_shorter d2)

    pub parameter_shorter : {h : ℕ} {ns : List Name} {ts : List Terminal} {d : ParameterDecl} {rest : List Terminal} → grammar.IsParameter Body h ns ts d rest → length rest ≤ length ts
    parameter_shorter (grammar.parameter_one d0) = omega (arith, type_shorter d0)
    parameter_shorter (grammar.parameter_variadic (takes at0) d1) = omega (arith, type_shorter d1)

    pub unnamed_shorter : {h : ℕ} {ts : List Terminal} {ds : List ParameterDecl} {rest : List Terminal} → grammar.IsUnnamed Body h ts ds rest → length rest ≤ length ts
    unnamed_shorter (grammar.unnamed d0 d1) = omega (arith, parameter_shorter d0, more_unnamed_shorter d1)

    pub more_unnamed_shorter : {h : ℕ} {ts : List Terminal} {ds : List ParameterDecl} {rest : List Terminal} → grammar.IsMoreUnnamed Body h ts ds rest → length rest ≤ length ts
    more_unnamed_shorter grammar.unnamed_none = omega arith
    more_unnamed_shorter (grammar.unnamed_more (takes at0) d1 d2) = omega (arith, parameter_shorter d1, more_unnamed_shorter d2)

    pub named_shorter : {h : ℕ} {ts : List Terminal} {ds : List ParameterDecl} {rest : List Terminal} → grammar.IsNamed Body h ts ds rest → length rest ≤ length ts
    named_shorter (grammar.named d0 d1 d2) = omega (arith, names_shorter d0, parameter_shorter d1, more_named_shorter d2)

    pub more_named_shorter : {h : ℕ} {ts : List Terminal} {ds : List ParameterDecl} {rest : List Terminal} → grammar.IsMoreNamed Body h ts ds rest → length rest ≤ length ts
    more_named_shorter grammar.named_none = omega arith
    more_named_shorter (grammar.named_more (takes at0) d1 d2 d3) = omega (arith, names_shorter d1, parameter_shorter d2, more_named_shorter d3)

    pub fields_shorter : {h : ℕ} {ts : List Terminal} {fs : List FieldDecl} {rest : List Terminal} → grammar.IsFields Body h ts fs rest → length rest ≤ length ts
    fields_shorter grammar.fields_none = omega arith
    fields_shorter (grammar.fields_more d0 d1 d2) = omega (arith, field_shorter d0, ends_shorter d1, fields_shorter d2)

    pub field_shorter : {h : ℕ} {ts : List Terminal} {f : FieldDecl} {rest : List Terminal} → grammar.IsField Body h ts f rest → length rest ≤ length ts
    field_shorter (grammar.field_named d0 d1 d2) = omega (arith, names_shorter d0, type_shorter d1, tag_shorter d2)
    field_shorter (grammar.field_embedded d0 d1) = omega (arith, type_name_shorter d0, tag_shorter d1)
    field_shorter (grammar.field_pointer (takes at0) d1 d2) = omega (arith, type_name_shorter d1, tag_shorter d2)

    pub interface_elems_shorter : {h : ℕ} {ts : List Terminal} {es : List InterfaceElem} {rest : List Terminal} → grammar.IsInterfaceElems Body h ts es rest → length rest ≤ length ts
    interface_elems_shorter grammar.elems_none = omega arith
    interface_elems_shorter (grammar.elems_more d0 d1 d2) = omega (arith, interface_elem_shorter d0, ends_shorter d1, interface_elems_shorter d2)

    pub interface_elem_shorter : {h : ℕ} {ts : List Terminal} {e : InterfaceElem} {rest : List Terminal} → grammar.IsInterfaceElem Body h ts e rest → length rest ≤ length ts
    interface_elem_shorter (grammar.elem_method takes_name d1) = omega (arith, signature_shorter d1)
    interface_elem_shorter (grammar.elem_embedded d0) = omega (arith, type_name_shorter d0)

    pub expr_shorter : {b : Bool} {h : ℕ} {ts : List Terminal} {x : Expr} {rest : List Terminal} → grammar.IsExpr Body b h ts x rest → length rest ≤ length ts
    expr_shorter (grammar.expr_or d0 d1) = omega (arith, and_shorter d0, more_or_shorter d1)

    pub more_or_shorter : {b : Bool} {h : ℕ} {ts : List Terminal} {xs : List Expr} {rest : List Terminal} → grammar.IsMoreOr Body b h ts xs rest → length rest ≤ length ts
    more_or_shorter grammar.or_none = omega arith
    more_or_shorter (grammar.or_more (takes at0) d1 d2) = omega (arith, and_shorter d1, more_or_shorter d2)

    pub and_shorter : {b : Bool} {h : ℕ} {ts : List Terminal} {x : Expr} {rest : List Terminal} → grammar.IsAnd Body b h ts x rest → length rest ≤ length ts
    and_shorter (grammar.expr_and d0 d1) = omega (arith, compare_shorter d0, more_and_shorter d1)

    pub more_and_shorter : {b : Bool} {h : ℕ} {ts : List Terminal} {xs : List Expr} {rest : List Terminal} → grammar.IsMoreAnd Body b h ts xs rest → length rest ≤ length ts
    more_and_shorter grammar.and_none = omega arith
    more_and_shorter (grammar.and_more (takes at0) d1 d2) = omega (arith, compare_shorter d1, more_and_shorter d2)

    pub compare_shorter : {b : Bool} {h : ℕ} {ts : List Terminal} {x : Expr} {rest : List Terminal} → grammar.IsCompare Body b h ts x rest → length rest ≤ length ts
    compare_shorter (grammar.expr_compare d0 d1) = omega (arith, sum_shorter d0, more_compare_shorter d1)

    pub more_compare_shorter : {b : Bool} {h : ℕ} {ts : List Terminal} {ops : List CompareOp} {xs : List Expr} {rest : List Terminal} → grammar.IsMoreCompare Body b h ts ops xs rest → length rest ≤ length ts
    more_compare_shorter grammar.compare_none = omega arith
    more_compare_shorter (grammar.compare_more (takes at0) e1 d2 d3) = omega (arith, sum_shorter d2, more_compare_shorter d3)

    pub sum_shorter : {b : Bool} {h : ℕ} {ts : List Terminal} {x : Expr} {rest : List Terminal} → grammar.IsSum Body b h ts x rest → length rest ≤ length ts
    sum_shorter (grammar.expr_sum d0 d1) = omega (arith, product_shorter d0, more_sum_shorter d1)

    pub more_sum_shorter : {b : Bool} {h : ℕ} {ts : List Terminal} {ops : List SumOperator} {xs : List Expr} {rest : List Terminal} → grammar.IsMoreSum Body b h ts ops xs rest → length rest ≤ length ts
    more_sum_shorter grammar.sum_none = omega arith
    more_sum_shorter (grammar.sum_more (takes at0) e1 d2 d3) = omega (arith, product_shorter d2, more_sum_shorter d3)

    pub product_shorter : {b : Bool} {h : ℕ} {ts : List Terminal} {x : Expr} {rest : List Terminal} → grammar.IsProduct Body b h ts x rest → length rest ≤ length ts
    product_shorter (grammar.expr_product d0 d1) = omega (arith, unary_shorter d0, more_product_shorter d1)

    pub more_product_shorter : {b : Bool} {h : ℕ} {ts : List Terminal} {ops : List ProductOperator} {xs : List Expr} {rest : List Terminal} → grammar.IsMoreProduct Body b h ts ops xs rest → length rest ≤ length ts
    more_product_shorter grammar.product_none = omega arith
    more_product_shorter (grammar.product_more (takes at0) e1 d2 d3) = omega (arith, unary_shorter d2, more_product_shorter d3)

    pub unary_shorter : {b : Bool} {h : ℕ} {ts : List Terminal} {x : Expr} {rest : List Terminal} → grammar.IsUnary Body b h ts x rest → length rest ≤ length ts
    unary_shorter (grammar.unary_prefix (takes at0) e1 e2 d3) = omega (arith, unary_shorter d3)
    unary_shorter (grammar.unary_primary d0) = omega (arith, primary_shorter d0)

    pub primary_shorter : {b : Bool} {h : ℕ} {ts : List Terminal} {x : Expr} {rest : List Terminal} → grammar.IsPrimary Body b h ts x rest → length rest ≤ length ts
    primary_shorter (grammar.primary d0 d1) = omega (arith, operand_shorter d0, posts_shorter d1)

    pub posts_shorter : {h : ℕ} {ts : List Terminal} {ps : List Post} {rest : List Terminal} → grammar.IsPosts Body h ts ps rest → length rest ≤ length ts
    posts_shorter grammar.posts_none = omega arith
    posts_shorter (grammar.posts_more d0 d1) = omega (arith, post_shorter d0, posts_shorter d1)

    pub post_shorter : {h : ℕ} {ts : List Terminal} {p : Post} {rest : List Terminal} → grammar.IsPost Body h ts p rest → length rest ≤ length ts
    post_shorter (grammar.post_selector (takes at0) takes_name) = omega arith
    post_shorter (grammar.post_assertion (takes at0) (takes at1) d2 (takes at3)) = omega (arith, type_shorter d2)
    post_shorter (grammar.post_index (takes at0) d1 (takes at2)) = omega (arith, expr_shorter d1)
    post_shorter (grammar.post_slice (takes at0) d1 (takes at2) d3 (takes at4)) = omega (arith, optional_shorter d1, optional_shorter d3)
    post_shorter (grammar.post_full_slice (takes at0) d1 (takes at2) d3 (takes at4) d5 (takes at6)) = omega (arith, optional_shorter d1, expr_shorter d3, expr_shorter d5)
    post_shorter (grammar.post_call_none (takes at0) (takes at1)) = omega arith
    post_shorter (grammar.post_call (takes at0) d1 d2 d3 (takes at4)) = omega (arith, exprs_shorter d1, marks_shorter d2, may_shorter d3)
    post_shorter (grammar.post_call_receive (takes at0) (takes at1) (takes at2) d3 d4 d5 d6 (takes at7)) = omega (arith, type_shorter d3, more_exprs_shorter d4, marks_shorter d5, may_shorter d6)

    pub optional_shorter : {b : Bool} {h : ℕ} {ts : List Terminal} {x : Option Expr} {rest : List Terminal} → grammar.IsOptional Body b h ts x rest → length rest ≤ length ts
    optional_shorter grammar.optional_none = omega arith
    optional_shorter (grammar.optional_some d0) = omega (arith, expr_shorter d0)

    pub exprs_shorter : {b : Bool} {h : ℕ} {ts : List Terminal} {xs : List Expr} {rest : List Terminal} → grammar.IsExprs Body b h ts xs rest → length rest ≤ length ts
    exprs_shorter (grammar.exprs d0 d1) = omega (arith, expr_shorter d0, more_exprs_shorter d1)

    pub more_exprs_shorter : {b : Bool} {h : ℕ} {ts : List Terminal} {xs : List Expr} {rest : List Terminal} → grammar.IsMoreExprs Body b h ts xs rest → length rest ≤ length ts
    more_exprs_shorter grammar.exprs_none = omega arith
    more_exprs_shorter (grammar.exprs_more (takes at0) d1 d2) = omega (arith, expr_shorter d1, more_exprs_shorter d2)

    pub operand_shorter : {b : Bool} {h : ℕ} {ts : List Terminal} {x : Expr} {rest : List Terminal} → grammar.IsOperand Body b h ts x rest → length rest ≤ length ts
    operand_shorter (grammar.operand_literal (takes_literal place)) = omega arith
    operand_shorter (grammar.operand_name takes_name) = omega arith
    operand_shorter (grammar.operand_func (takes at0) d1 d2) = omega (arith, signature_shorter d1, body_shorter _ _ _ _ d2)
    operand_shorter (grammar.operand_named_composite d0 d1) = omega (arith, type_name_shorter d0, literal_value_shorter d1)
    operand_shorter (grammar.operand_composite d0 d1) = omega (arith, composite_type_shorter d0, literal_value_shorter d1)
    operand_shorter (grammar.operand_composite_array (takes at0) (takes at1) (takes at2) d3 d4) = omega (arith, type_shorter d3, literal_value_shorter d4)
    operand_shorter (grammar.operand_composite_type d0 e1) = omega (arith, composite_type_shorter d0)
    operand_shorter (grammar.operand_func_type (takes at0) d1 e2) = omega (arith, signature_shorter d1)
    operand_shorter (grammar.operand_other_type d0) = omega (arith, other_type_shorter d0)
    operand_shorter (grammar.operand_paren (takes at0) d1 (takes at2)) = omega (arith, expr_shorter d1)
    operand_shorter (grammar.operand_paren_receive (takes at0) (takes at1) (takes at2) d3 (takes at4)) = omega (arith, type_shorter d3)

    pub literal_value_shorter : {h : ℕ} {ts : List Terminal} {es : List Element} {rest : List Terminal} → grammar.IsLiteralValue Body h ts es rest → length rest ≤ length ts
    literal_value_shorter (grammar.literal_none (takes at0) (takes at1)) = omega arith
    literal_value_shorter (grammar.literal_some (takes at0) d1 d2 d3 (takes at4)) = omega (arith, element_shorter d1, more_elements_shorter d2, may_shorter d3)

    pub more_elements_shorter : {h : ℕ} {ts : List Terminal} {es : List Element} {rest : List Terminal} → grammar.IsMoreElements Body h ts es rest → length rest ≤ length ts
    more_elements_shorter grammar.elements_none = omega arith
    more_elements_shorter (grammar.elements_more (takes at0) d1 d2) = omega (arith, element_shorter d1, more_elements_shorter d2)

    pub element_shorter : {h : ℕ} {ts : List Terminal} {e : Element} {rest : List Terminal} → grammar.IsElement Body h ts e rest → length rest ≤ length ts
    element_shorter (grammar.element_alone d0) = omega (arith, element_value_shorter d0)
    element_shorter (grammar.element_keyed d0 (takes at1) d2) = omega (arith, element_value_shorter d0, element_value_shorter d2)

    pub element_value_shorter : {h : ℕ} {ts : List Terminal} {v : ElementValue} {rest : List Terminal} → grammar.IsElementValue Body h ts v rest → length rest ≤ length ts
    element_value_shorter (grammar.value_expr d0) = omega (arith, expr_shorter d0)
    element_value_shorter (grammar.value_literal d0) = omega (arith, literal_value_shorter d0)

-- Bodies that are skipped

pub run_shorter : {ts rest : List Terminal} → IsRun ts rest → length rest ≤ length ts
run_shorter run_none = omega arith
run_shorter (run_plain e d) = omega (arith, run_shorter d)
run_shorter (run_nest at end e d f) = omega (arith, run_shorter d, run_shorter f)

pub skipped_shorter : Shortens Skips
skipped_shorter h ts b rest (skipped start start_end end_start end d) = omega (arith, run_shorter d)
