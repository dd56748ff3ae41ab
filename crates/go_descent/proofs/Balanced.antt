-- Each tree of the grammar covers a balanced run, where each body does.
use Rattle.std.specs.Prelude.{◌≡◌, ℕ, Bool, true, List, Option, Some}
use Rattle.std.proofs.Common.{refl}
use Rattle.go_syntax.specs.declared.expression.Element.{Element}
use Rattle.go_syntax.specs.declared.expression.ElementValue.{ElementValue}
use Rattle.go_syntax.specs.declared.expression.Expr.{Expr}
use Rattle.go_syntax.specs.declared.expression.Literal.{Literal}
use Rattle.go_syntax.specs.declared.expression.Post.{Post}
use Rattle.go_syntax.specs.declared.name.Name.{Name}
use Rattle.go_syntax.specs.declared.name.QualifiedName.{QualifiedName}
use Rattle.go_cursor.specs.go_base.declared.operator.CompareOp.{CompareOp}
use Rattle.go_cursor.specs.go_base.declared.operator.PrefixOperator.{PrefixOperator}
use Rattle.go_cursor.specs.go_base.declared.operator.ProductOperator.{ProductOperator}
use Rattle.go_cursor.specs.go_base.declared.operator.SumOperator.{SumOperator}
use Rattle.go_syntax.specs.declared.body.BodyRange.{BodyRange}
use Rattle.go_syntax.specs.declared.types.FieldDecl.{FieldDecl}
use Rattle.go_syntax.specs.declared.types.InterfaceElem.{InterfaceElem}
use Rattle.go_syntax.specs.declared.types.ParameterDecl.{ParameterDecl}
use Rattle.go_syntax.specs.declared.types.Signature.{Signature}
use Rattle.go_syntax.specs.declared.types.«Type».{«Type» as Typ}
use Rattle.go_syntax.specs.declared.token.TokenKind.{TokenKind}
use Rattle.go_syntax.specs.declared.token.TokenKind.TheVariants as kind
use Rattle.go_syntax.specs.grammar.Brackets.{IsRun, run_none, run_plain, run_nest, no_bracket, closer}
use Rattle.go_syntax.specs.grammar.Grammar.{comparison, sum_operator, product_operator, prefix_operator}
use Rattle.go_syntax.specs.grammar.Grammar.{IsNames, names, IsMoreNames, names_none, names_more, IsTypeName, type_name_alone, type_name_qualified, IsTag, tag_none, tag_some, IsType, type_name, type_paren, type_pointer, type_receive, type_func, type_composite, type_other, IsCompositeType, type_slice, type_array, type_map, type_struct_empty, type_struct, IsOtherType, type_chan, type_send, type_interface_empty, type_interface, IsSignature, signature_alone, signature_parameters, signature_type, IsParameters, parameters_none, parameters_unnamed, parameters_named, IsParameter, parameter_one, parameter_variadic, IsUnnamed, unnamed, IsMoreUnnamed, unnamed_none, unnamed_more, IsNamed, named, IsMoreNamed, named_none, named_more, IsFields, fields_none, fields_more, IsField, field_named, field_embedded, field_pointer, IsInterfaceElems, elems_none, elems_more, IsInterfaceElem, elem_method, elem_embedded, IsExpr, expr_or, IsMoreOr, or_none, or_more, IsAnd, expr_and, IsMoreAnd, and_none, and_more, IsCompare, expr_compare, IsMoreCompare, compare_none, compare_more, IsSum, expr_sum, IsMoreSum, sum_none, sum_more, IsProduct, expr_product, IsMoreProduct, product_none, product_more, IsUnary, unary_prefix, unary_primary, IsPrimary, primary, IsPosts, posts_none, posts_more, IsPost, post_selector, post_assertion, post_index, post_slice, post_full_slice, post_call_none, post_call, post_call_receive, IsOptional, optional_none, optional_some, IsExprs, exprs, IsMoreExprs, exprs_none, exprs_more, IsOperand, operand_literal, operand_name, operand_func, operand_named_composite, operand_composite, operand_composite_array, operand_composite_type, operand_func_type, operand_other_type, operand_paren, operand_paren_receive, IsLiteralValue, literal_none, literal_some, IsMoreElements, elements_none, elements_more, IsElement, element_alone, element_keyed, IsElementValue, value_expr, value_literal}
use Rattle.go_syntax.specs.grammar.Symbols.{Rule, Takes, takes, MayTake, takes_none, takes_one, Marks, unmarked, marked, TakesName, takes_name, TakesLiteral, takes_literal, TakesString, takes_string, Ends, ends_semicolon, ends_closing}
use Rattle.go_syntax.specs.grammar.Terminals.{Terminal}
use Rattle.go_cursor.proofs.Runs.{run_and}

pub takes_run : {k : TokenKind} {ts rest : List Terminal} → no_bracket k ≡ true → Takes k ts rest → IsRun ts rest
takes_run p (takes at) = run_plain p run_none

pub may_run : {k : TokenKind} {ts rest : List Terminal} → no_bracket k ≡ true → MayTake k ts rest → IsRun ts rest
may_run p takes_none = run_none
may_run p (takes_one t) = takes_run p t

pub marks_run : {k : TokenKind} {b : Bool} {ts rest : List Terminal} → no_bracket k ≡ true → Marks k ts b rest → IsRun ts rest
marks_run p unmarked = run_none
marks_run p (marked t) = takes_run p t

pub takes_name_run : {n : Name} {ts rest : List Terminal} → TakesName n ts rest → IsRun ts rest
takes_name_run takes_name = run_plain refl run_none

pub takes_literal_run : {l : Literal} {ts rest : List Terminal} → TakesLiteral l ts rest → IsRun ts rest
takes_literal_run (takes_literal place) = run_plain refl run_none

pub takes_string_run : {text : List ℕ} {place : ℕ} {ts rest : List Terminal} → TakesString text place ts rest → IsRun ts rest
takes_string_run takes_string = run_plain refl run_none

pub ends_run : {ts rest : List Terminal} → Ends ts rest → IsRun ts rest
ends_run (ends_semicolon t) = takes_run refl t
ends_run (ends_closing c) = run_none

-- a run in brackets
pub nest_run : {j k : TokenKind} {ts u v rest : List Terminal} → closer j ≡ Some k → Takes j ts u → IsRun u v → Takes k v rest → IsRun ts rest
nest_run e (takes at) r (takes end) = run_nest at end e r run_none

compare_plain : (k : TokenKind) (op : CompareOp) → comparison k ≡ Some op → no_bracket k ≡ true
compare_plain kind.LeftParen op e = absurd (cc)
compare_plain kind.LeftBracket op e = absurd (cc)
compare_plain kind.LeftBrace op e = absurd (cc)
compare_plain kind.RightParen op e = absurd (cc)
compare_plain kind.RightBracket op e = absurd (cc)
compare_plain kind.RightBrace op e = absurd (cc)
compare_plain _ op e = refl

sum_plain : (k : TokenKind) (op : SumOperator) → sum_operator k ≡ Some op → no_bracket k ≡ true
sum_plain kind.LeftParen op e = absurd (cc)
sum_plain kind.LeftBracket op e = absurd (cc)
sum_plain kind.LeftBrace op e = absurd (cc)
sum_plain kind.RightParen op e = absurd (cc)
sum_plain kind.RightBracket op e = absurd (cc)
sum_plain kind.RightBrace op e = absurd (cc)
sum_plain _ op e = refl

product_plain : (k : TokenKind) (op : ProductOperator) → product_operator k ≡ Some op → no_bracket k ≡ true
product_plain kind.LeftParen op e = absurd (cc)
product_plain kind.LeftBracket op e = absurd (cc)
product_plain kind.LeftBrace op e = absurd (cc)
product_plain kind.RightParen op e = absurd (cc)
product_plain kind.RightBracket op e = absurd (cc)
product_plain kind.RightBrace op e = absurd (cc)
product_plain _ op e = refl

prefix_plain : (k : TokenKind) (op : PrefixOperator) → prefix_operator k ≡ Some op → no_bracket k ≡ true
prefix_plain kind.LeftParen op e = absurd (cc)
prefix_plain kind.LeftBracket op e = absurd (cc)
prefix_plain kind.LeftBrace op e = absurd (cc)
prefix_plain kind.RightParen op e = absurd (cc)
prefix_plain kind.RightBracket op e = absurd (cc)
prefix_plain kind.RightBrace op e = absurd (cc)
prefix_plain _ op e = refl

mutual
  pub names_run : {ts : List Terminal} {a : List Name} {rest : List Terminal} → IsNames ts a rest → IsRun ts rest
  names_run (names a b) = run_and (takes_name_run a) (more_names_run b)

  pub more_names_run : {ts : List Terminal} {a : List Name} {rest : List Terminal} → IsMoreNames ts a rest → IsRun ts rest
  more_names_run names_none = run_none
  more_names_run (names_more a b c) = run_and (takes_run refl a) (run_and (takes_name_run b) (more_names_run c))

pub type_name_run : {ts : List Terminal} {a : QualifiedName} {rest : List Terminal} → IsTypeName ts a rest → IsRun ts rest
type_name_run (type_name_alone a b) = takes_name_run a
type_name_run (type_name_qualified a b c) = run_and (takes_name_run a) (run_and (takes_run refl b) (takes_name_run c))

pub tag_run : {ts : List Terminal} {a : Option (List ℕ)} {rest : List Terminal} → IsTag ts a rest → IsRun ts rest
tag_run tag_none = run_none
tag_run (tag_some place a) = takes_string_run a

-- each body covers a balanced run
abbrev pub Balances : (ℕ → Rule BodyRange) → Type 0
Balances Body = (h : ℕ) (ts : List Terminal) (b : BodyRange) (rest : List Terminal) → Body h ts b rest → IsRun ts rest

module _ {Body : ℕ → Rule BodyRange} (balanced : Balances Body) where
  mutual
    pub type_run : {h : ℕ} {ts : List Terminal} {a : Typ} {rest : List Terminal} → IsType Body h ts a rest → IsRun ts rest
    type_run (type_name a) = type_name_run a
    type_run (type_paren a b c) = nest_run refl a (type_run b) c
    type_run (type_pointer a b) = run_and (takes_run refl a) (type_run b)
    type_run (type_receive a b c) = run_and (takes_run refl a) (run_and (takes_run refl b) (type_run c))
    type_run (type_func a b) = run_and (takes_run refl a) (signature_run b)
    type_run (type_composite a) = composite_type_run a
    type_run (type_other a) = other_type_run a

    pub composite_type_run : {h : ℕ} {ts : List Terminal} {a : Typ} {rest : List Terminal} → IsCompositeType Body h ts a rest → IsRun ts rest
    composite_type_run (type_slice a b c) = run_and (nest_run refl a run_none b) (type_run c)
    composite_type_run (type_array a b c d) = run_and (nest_run refl a (expr_run b) c) (type_run d)
    composite_type_run (type_map a b c d e) = run_and (takes_run refl a) (run_and (nest_run refl b (type_run c) d) (type_run e))
    composite_type_run (type_struct_empty a b c) = run_and (takes_run refl a) (nest_run refl b run_none c)
    composite_type_run (type_struct a b c d) = run_and (takes_run refl a) (nest_run refl b (fields_run c) d)

    pub other_type_run : {h : ℕ} {ts : List Terminal} {a : Typ} {rest : List Terminal} → IsOtherType Body h ts a rest → IsRun ts rest
    other_type_run (type_chan a b c) = run_and (takes_run refl a) (type_run c)
    other_type_run (type_send a b c) = run_and (takes_run refl a) (run_and (takes_run refl b) (type_run c))
    other_type_run (type_interface_empty a b c) = run_and (takes_run refl a) (nest_run refl b run_none c)
    other_type_run (type_interface a b c d) = run_and (takes_run refl a) (nest_run refl b (interface_elems_run c) d)

    pub signature_run : {h : ℕ} {ts : List Terminal} {a : Signature} {rest : List Terminal} → IsSignature Body h ts a rest → IsRun ts rest
    signature_run (signature_alone a b c) = parameters_run a
    signature_run (signature_parameters a b c d) = run_and (parameters_run a) (parameters_run c)
    signature_run (signature_type a b c d) = run_and (parameters_run a) (type_run d)

    pub parameters_run : {h : ℕ} {ts : List Terminal} {a : List ParameterDecl} {rest : List Terminal} → IsParameters Body h ts a rest → IsRun ts rest
    parameters_run (parameters_none a b) = nest_run refl a run_none b
    parameters_run (parameters_unnamed a b c d) = nest_run refl a (run_and (unnamed_run b) (may_run refl c)) d
    parameters_run (parameters_named a b c d) = nest_run refl a (run_and (named_run b) (may_run refl c)) d

    pub parameter_run : {h : ℕ} {a : List Name} {ts : List Terminal} {c : ParameterDecl} {rest : List Terminal} → IsParameter Body h a ts c rest → IsRun ts rest
    parameter_run (parameter_one a) = type_run a
    parameter_run (parameter_variadic a b) = run_and (takes_run refl a) (type_run b)

    pub unnamed_run : {h : ℕ} {ts : List Terminal} {a : List ParameterDecl} {rest : List Terminal} → IsUnnamed Body h ts a rest → IsRun ts rest
    unnamed_run (unnamed a b) = run_and (parameter_run a) (more_unnamed_run b)

    pub more_unnamed_run : {h : ℕ} {ts : List Terminal} {a : List ParameterDecl} {rest : List Terminal} → IsMoreUnnamed Body h ts a rest → IsRun ts rest
    more_unnamed_run unnamed_none = run_none
    more_unnamed_run (unnamed_more a b c) = run_and (takes_run refl a) (run_and (parameter_run b) (more_unnamed_run c))

    pub named_run : {h : ℕ} {ts : List Terminal} {a : List ParameterDecl} {rest : List Terminal} → IsNamed Body h ts a rest → IsRun ts rest
    named_run (named a b c) = run_and (names_run a) (run_and (parameter_run b) (more_named_run c))

    pub more_named_run : {h : ℕ} {ts : List Terminal} {a : List ParameterDecl} {rest : List Terminal} → IsMoreNamed Body h ts a rest → IsRun ts rest
    more_named_run named_none = run_none
    more_named_run (named_more a b c d) = run_and (takes_run refl a) (run_and (names_run b) (run_and (parameter_run c) (more_named_run d)))

    pub fields_run : {h : ℕ} {ts : List Terminal} {a : List FieldDecl} {rest : List Terminal} → IsFields Body h ts a rest → IsRun ts rest
    fields_run fields_none = run_none
    fields_run (fields_more a b c) = run_and (field_run a) (run_and (ends_run b) (fields_run c))

    pub field_run : {h : ℕ} {ts : List Terminal} {a : FieldDecl} {rest : List Terminal} → IsField Body h ts a rest → IsRun ts rest
    field_run (field_named a b c) = run_and (names_run a) (run_and (type_run b) (tag_run c))
    field_run (field_embedded a b) = run_and (type_name_run a) (tag_run b)
    field_run (field_pointer a b c) = run_and (takes_run refl a) (run_and (type_name_run b) (tag_run c))

    pub interface_elems_run : {h : ℕ} {ts : List Terminal} {a : List InterfaceElem} {rest : List Terminal} → IsInterfaceElems Body h ts a rest → IsRun ts rest
    interface_elems_run elems_none = run_none
    interface_elems_run (elems_more a b c) = run_and (interface_elem_run a) (run_and (ends_run b) (interface_elems_run c))

    pub interface_elem_run : {h : ℕ} {ts : List Terminal} {a : InterfaceElem} {rest : List Terminal} → IsInterfaceElem Body h ts a rest → IsRun ts rest
    interface_elem_run (elem_method a b) = run_and (takes_name_run a) (signature_run b)
    interface_elem_run (elem_embedded a) = type_name_run a

    pub expr_run : {b : Bool} {h : ℕ} {ts : List Terminal} {a : Expr} {rest : List Terminal} → IsExpr Body b h ts a rest → IsRun ts rest
    expr_run (expr_or a b) = run_and (and_run a) (more_or_run b)

    pub more_or_run : {b : Bool} {h : ℕ} {ts : List Terminal} {a : List Expr} {rest : List Terminal} → IsMoreOr Body b h ts a rest → IsRun ts rest
    more_or_run or_none = run_none
    more_or_run (or_more a b c) = run_and (takes_run refl a) (run_and (and_run b) (more_or_run c))

    pub and_run : {b : Bool} {h : ℕ} {ts : List Terminal} {a : Expr} {rest : List Terminal} → IsAnd Body b h ts a rest → IsRun ts rest
    and_run (expr_and a b) = run_and (compare_run a) (more_and_run b)

    pub more_and_run : {b : Bool} {h : ℕ} {ts : List Terminal} {a : List Expr} {rest : List Terminal} → IsMoreAnd Body b h ts a rest → IsRun ts rest
    more_and_run and_none = run_none
    more_and_run (and_more a b c) = run_and (takes_run refl a) (run_and (compare_run b) (more_and_run c))

    pub compare_run : {b : Bool} {h : ℕ} {ts : List Terminal} {a : Expr} {rest : List Terminal} → IsCompare Body b h ts a rest → IsRun ts rest
    compare_run (expr_compare a b) = run_and (sum_run a) (more_compare_run b)

    pub more_compare_run : {b : Bool} {h : ℕ} {ts : List Terminal} {a : List CompareOp} {c : List Expr} {rest : List Terminal} → IsMoreCompare Body b h ts a c rest → IsRun ts rest
    more_compare_run compare_none = run_none
    more_compare_run (compare_more {k = k} {op = op} a b c d) = run_and (takes_run (compare_plain k op b) a) (run_and (sum_run c) (more_compare_run d))

    pub sum_run : {b : Bool} {h : ℕ} {ts : List Terminal} {a : Expr} {rest : List Terminal} → IsSum Body b h ts a rest → IsRun ts rest
    sum_run (expr_sum a b) = run_and (product_run a) (more_sum_run b)

    pub more_sum_run : {b : Bool} {h : ℕ} {ts : List Terminal} {a : List SumOperator} {c : List Expr} {rest : List Terminal} → IsMoreSum Body b h ts a c rest → IsRun ts rest
    more_sum_run sum_none = run_none
    more_sum_run (sum_more {k = k} {op = op} a b c d) = run_and (takes_run (sum_plain k op b) a) (run_and (product_run c) (more_sum_run d))

    pub product_run : {b : Bool} {h : ℕ} {ts : List Terminal} {a : Expr} {rest : List Terminal} → IsProduct Body b h ts a rest → IsRun ts rest
    product_run (expr_product a b) = run_and (unary_run a) (more_product_run b)

    pub more_product_run : {b : Bool} {h : ℕ} {ts : List Terminal} {a : List ProductOperator} {c : List Expr} {rest : List Terminal} → IsMoreProduct Body b h ts a c rest → IsRun ts rest
    more_product_run product_none = run_none
    more_product_run (product_more {k = k} {op = op} a b c d) = run_and (takes_run (product_plain k op b) a) (run_and (unary_run c) (more_product_run d))

    pub unary_run : {b : Bool} {h : ℕ} {ts : List Terminal} {a : Expr} {rest : List Terminal} → IsUnary Body b h ts a rest → IsRun ts rest
    unary_run (unary_prefix {k = k} {op = op} a b c d) = run_and (takes_run (prefix_plain k op b) a) (unary_run d)
    unary_run (unary_primary a) = primary_run a

    pub primary_run : {b : Bool} {h : ℕ} {ts : List Terminal} {a : Expr} {rest : List Terminal} → IsPrimary Body b h ts a rest → IsRun ts rest
    primary_run (primary a b) = run_and (operand_run a) (posts_run b)

    pub posts_run : {h : ℕ} {ts : List Terminal} {a : List Post} {rest : List Terminal} → IsPosts Body h ts a rest → IsRun ts rest
    posts_run posts_none = run_none
    posts_run (posts_more a b) = run_and (post_run a) (posts_run b)

    pub post_run : {h : ℕ} {ts : List Terminal} {a : Post} {rest : List Terminal} → IsPost Body h ts a rest → IsRun ts rest
    post_run (post_selector a b) = run_and (takes_run refl a) (takes_name_run b)
    post_run (post_assertion a b c d) = run_and (takes_run refl a) (nest_run refl b (type_run c) d)
    post_run (post_index a b c) = nest_run refl a (expr_run b) c
    post_run (post_slice a b c d e) = nest_run refl a (run_and (optional_run b) (run_and (takes_run refl c) (optional_run d))) e
    post_run (post_full_slice a b c d e f g) = nest_run refl a (run_and (optional_run b) (run_and (takes_run refl c) (run_and (expr_run d) (run_and (takes_run refl e) (expr_run f))))) g
    post_run (post_call_none a b) = nest_run refl a run_none b
    post_run (post_call a b c d e) = nest_run refl a (run_and (exprs_run b) (run_and (marks_run refl c) (may_run refl d))) e
    post_run (post_call_receive a b c d e f g i) = nest_run refl a (run_and (takes_run refl b) (run_and (takes_run refl c) (run_and (type_run d) (run_and (more_exprs_run e) (run_and (marks_run refl f) (may_run refl g)))))) i

    pub optional_run : {b : Bool} {h : ℕ} {ts : List Terminal} {a : Option Expr} {rest : List Terminal} → IsOptional Body b h ts a rest → IsRun ts rest
    optional_run optional_none = run_none
    optional_run (optional_some a) = expr_run a

    pub exprs_run : {b : Bool} {h : ℕ} {ts : List Terminal} {a : List Expr} {rest : List Terminal} → IsExprs Body b h ts a rest → IsRun ts rest
    exprs_run (exprs a b) = run_and (expr_run a) (more_exprs_run b)

    pub more_exprs_run : {b : Bool} {h : ℕ} {ts : List Terminal} {a : List Expr} {rest : List Terminal} → IsMoreExprs Body b h ts a rest → IsRun ts rest
    more_exprs_run exprs_none = run_none
    more_exprs_run (exprs_more a b c) = run_and (takes_run refl a) (run_and (expr_run b) (more_exprs_run c))

    pub operand_run : {b : Bool} {h : ℕ} {ts : List Terminal} {a : Expr} {rest : List Terminal} → IsOperand Body b h ts a rest → IsRun ts rest
    operand_run (operand_literal a) = takes_literal_run a
    operand_run (operand_name a) = takes_name_run a
    operand_run (operand_func a b c) = run_and (takes_run refl a) (run_and (signature_run b) (balanced _ _ _ _ c))
    operand_run (operand_named_composite a b) = run_and (type_name_run a) (literal_value_run b)
    operand_run (operand_composite a b) = run_and (composite_type_run a) (literal_value_run b)
    operand_run (operand_composite_array a b c d e) = run_and (nest_run refl a (takes_run refl b) c) (run_and (type_run d) (literal_value_run e))
    operand_run (operand_composite_type a b) = composite_type_run a
    operand_run (operand_func_type a b c) = run_and (takes_run refl a) (signature_run b)
    operand_run (operand_other_type a) = other_type_run a
    operand_run (operand_paren a b c) = nest_run refl a (expr_run b) c
    operand_run (operand_paren_receive a b c d e) = nest_run refl a (run_and (takes_run refl b) (run_and (takes_run refl c) (type_run d))) e

    pub literal_value_run : {h : ℕ} {ts : List Terminal} {a : List Element} {rest : List Terminal} → IsLiteralValue Body h ts a rest → IsRun ts rest
    literal_value_run (literal_none a b) = nest_run refl a run_none b
    literal_value_run (literal_some a b c d e) = nest_run refl a (run_and (element_run b) (run_and (more_elements_run c) (may_run refl d))) e

    pub more_elements_run : {h : ℕ} {ts : List Terminal} {a : List Element} {rest : List Terminal} → IsMoreElements Body h ts a rest → IsRun ts rest
    more_elements_run elements_none = run_none
    more_elements_run (elements_more a b c) = run_and (takes_run refl a) (run_and (element_run b) (more_elements_run c))

    pub element_run : {h : ℕ} {ts : List Terminal} {a : Element} {rest : List Terminal} → IsElement Body h ts a rest → IsRun ts rest
    element_run (element_alone a) = element_value_run a
    element_run (element_keyed a b c) = run_and (element_value_run a) (run_and (takes_run refl b) (element_value_run c))

    pub element_value_run : {h : ℕ} {ts : List Terminal} {a : ElementValue} {rest : List Terminal} → IsElementValue Body h ts a rest → IsRun ts rest
    element_value_run (value_expr a) = expr_run a
    element_value_run (value_literal a) = literal_value_run a
