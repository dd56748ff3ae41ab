use Rattle.std.proofs.Common.{◌∷◌, [], ap, ◌∙◌, sym}
use Rattle.go_rules.specs.Expressions.{Denotes, HasForm}
use Rattle.go_rules.specs.Nodes.{expression}
use Rattle.go_literals.proofs.go_type_terms_proofs.Handed.{handed_told}
use Rattle.go_syntax.specs.declared.expression.Expr.{Expr-F, out-Expr}
use Rattle.go_syntax.specs.declared.expression.Expr.TheVariants.{outs-And, outs-Literal, outs-Name, outs-Compare, outs-Composite, outs-CompositeArray, outs-FuncLit, outs-Or, outs-Paren, outs-ParenReceiveChan, outs-Prefix, outs-Primary, outs-Product, outs-Sum, outs-Type}
use Rattle.go_literals.specs.go_type_terms.Answers.{env_in}
use Rattle.go_expr.proofs.ByForm.{and_form, compare_form, literal_none, name_none, name_some, or_form, paren_form, product_form, same_form, sum_form, whole_form}
use Rattle.go_expr.proofs.exprs.Exprs.form.Goals as goal

pub returns-in-Or : goal.returns-in-Or
returns-in-Or g c =
    let E = env_in c.args.self.now.literals.operations.typing.context.now in
    let e = c.args.expr.now in
    let x = c.value.result.now in
    let es = c.items.result.now in
    let i = ap out-Expr c.in-Or.is ∙ outs-Or c.in-Or.first c.in-Or.others ∙ ap (λ y. Expr-F.Or y c.in-Or.others) (sym c.value.ensures) ∙ ap (Expr-F.Or x) (sym c.items.ensures) in
    or_form E e x es i c.chain.result c.chain.ensures

pub returns-in-And : goal.returns-in-And
returns-in-And g c =
    let E = env_in c.args.self.now.literals.operations.typing.context.now in
    let e = c.args.expr.now in
    let x = c.value-in-And.result.now in
    let es = c.items-in-And.result.now in
    let i = ap out-Expr c.in-And.is ∙ outs-And c.in-And.first c.in-And.others ∙ ap (λ y. Expr-F.And y c.in-And.others) (sym c.value-in-And.ensures) ∙ ap (Expr-F.And x) (sym c.items-in-And.ensures) in
    and_form E e x es i c.chain-in-And.result c.chain-in-And.ensures

pub returns-in-Compare : goal.returns-in-Compare
returns-in-Compare g c =
    let E = env_in c.args.self.now.literals.operations.typing.context.now in
    let e = c.args.expr.now in
    let x = c.value-in-Compare.result.now in
    let ops = c.items-in-Compare.result.now in
    let es = c.items-in-Compare-2.result.now in
    let i = ap out-Expr c.in-Compare.is ∙ outs-Compare c.in-Compare.first c.in-Compare.operators c.in-Compare.others ∙ ap (λ y. Expr-F.Compare y c.in-Compare.operators c.in-Compare.others) (sym c.value-in-Compare.ensures) ∙ ap (λ y. Expr-F.Compare x y c.in-Compare.others) (sym c.items-in-Compare.ensures) ∙ ap (Expr-F.Compare x ops) (sym c.items-in-Compare-2.ensures) in
    compare_form E e x ops es i c.chain-in-Compare.result c.chain-in-Compare.ensures

pub returns-in-Sum : goal.returns-in-Sum
returns-in-Sum g c =
    let E = env_in c.args.self.now.literals.operations.typing.context.now in
    let e = c.args.expr.now in
    let x = c.value-in-Sum.result.now in
    let ops = c.items-in-Sum.result.now in
    let es = c.items-in-Sum-2.result.now in
    let i = ap out-Expr c.in-Sum.is ∙ outs-Sum c.in-Sum.first c.in-Sum.operators c.in-Sum.others ∙ ap (λ y. Expr-F.Sum y c.in-Sum.operators c.in-Sum.others) (sym c.value-in-Sum.ensures) ∙ ap (λ y. Expr-F.Sum x y c.in-Sum.others) (sym c.items-in-Sum.ensures) ∙ ap (Expr-F.Sum x ops) (sym c.items-in-Sum-2.ensures) in
    sum_form E e x ops es i c.chain-in-Sum.result c.chain-in-Sum.ensures

pub returns-in-Product : goal.returns-in-Product
returns-in-Product g c =
    let E = env_in c.args.self.now.literals.operations.typing.context.now in
    let e = c.args.expr.now in
    let x = c.value-in-Product.result.now in
    let ops = c.items-in-Product.result.now in
    let es = c.items-in-Product-2.result.now in
    let i = ap out-Expr c.in-Product.is ∙ outs-Product c.in-Product.first c.in-Product.operators c.in-Product.others ∙ ap (λ y. Expr-F.Product y c.in-Product.operators c.in-Product.others) (sym c.value-in-Product.ensures) ∙ ap (λ y. Expr-F.Product x y c.in-Product.others) (sym c.items-in-Product.ensures) ∙ ap (Expr-F.Product x ops) (sym c.items-in-Product-2.ensures) in
    product_form E e x ops es i c.chain-in-Product.result c.chain-in-Product.ensures

pub returns-in-Prefix : goal.returns-in-Prefix
returns-in-Prefix g c =
    let E = env_in c.args.self.now.literals.operations.typing.context.now in
    let e = c.args.expr.now in
    let i = ap out-Expr c.in-Prefix.is ∙ outs-Prefix c.in-Prefix.operator c.in-Prefix.operand ∙ ap (Expr-F.Prefix c.in-Prefix.operator) (sym c.value-in-Prefix.ensures) in
    whole_form E e (Expr-F.Prefix c.in-Prefix.operator c.value-in-Prefix.result.now) i c.prefixed.result (c.prefixed.ensures e i)

pub returns-in-Primary : goal.returns-in-Primary
returns-in-Primary g c =
    let E = env_in c.args.self.now.literals.operations.typing.context.now in
    let e = c.args.expr.now in
    let x = c.value-in-Primary.result.now in
    let i = ap out-Expr c.in-Primary.is ∙ outs-Primary c.in-Primary.operand c.in-Primary.posts ∙ ap (λ y. Expr-F.Primary y c.in-Primary.posts) (sym c.value-in-Primary.ensures) ∙ ap (Expr-F.Primary x) (sym c.items-in-Primary.ensures) in
    whole_form E e (Expr-F.Primary x c.items-in-Primary.result.now) i c.primary.result (c.primary.ensures e i)

pub returns-in-FuncLit : goal.returns-in-FuncLit
returns-in-FuncLit g c =
    let E = env_in c.args.self.now.literals.operations.typing.context.now in
    let e = c.args.expr.now in
    let i = ap out-Expr c.in-FuncLit.is ∙ outs-FuncLit c.in-FuncLit.signature c.in-FuncLit.field-1 ∙ ap (λ y. Expr-F.FuncLit y c.in-FuncLit.field-1) (sym c.value-in-FuncLit.ensures) in
    same_form E e (Expr-F.FuncLit c.value-in-FuncLit.result.now c.in-FuncLit.field-1) i tt c.function.result (c.function.ensures c.in-FuncLit.field-1)

pub returns-in-Composite : goal.returns-in-Composite
returns-in-Composite g c =
    let E = env_in c.args.self.now.literals.operations.typing.context.now in
    let e = c.args.expr.now in
    let i = ap out-Expr c.in-Composite.is ∙ outs-Composite c.in-Composite.form c.in-Composite.elements ∙ (λ j. Expr-F.Composite (sym c.value-in-Composite.ensures j) (sym c.items-in-Composite.ensures j)) in
    same_form E e (Expr-F.Composite c.value-in-Composite.result.now c.items-in-Composite.result.now) i tt c.composite.result c.composite.ensures

pub returns-in-CompositeArray : goal.returns-in-CompositeArray
returns-in-CompositeArray g c =
    let E = env_in c.args.self.now.literals.operations.typing.context.now in
    let e = c.args.expr.now in
    let i = ap out-Expr c.in-CompositeArray.is ∙ outs-CompositeArray c.in-CompositeArray.form c.in-CompositeArray.elements ∙ (λ j. Expr-F.CompositeArray (sym c.value-in-CompositeArray.ensures j) (sym c.items-in-CompositeArray.ensures j)) in
    same_form E e (Expr-F.CompositeArray c.value-in-CompositeArray.result.now c.items-in-CompositeArray.result.now) i tt c.composite_array.result c.composite_array.ensures

pub returns-in-Type : goal.returns-in-Type
returns-in-Type g c =
    let E = env_in c.args.self.now.literals.operations.typing.context.now in
    let e = c.args.expr.now in
    let i = ap out-Expr c.in-Type.is ∙ outs-Type c.in-Type.form ∙ ap Expr-F.«Expr::Type» (sym c.value-in-Type.ensures) in
    same_form E e (Expr-F.«Expr::Type» c.value-in-Type.result.now) i tt c.type_operand.result c.type_operand.ensures

pub returns-in-Paren : goal.returns-in-Paren
returns-in-Paren g c =
    let E = env_in c.args.self.now.literals.operations.typing.context.now in
    let e = c.args.expr.now in
    let i = ap out-Expr c.in-Paren.is ∙ outs-Paren c.in-Paren.inner ∙ ap Expr-F.«Expr::Paren» (sym c.value-in-Paren.ensures) in
    paren_form E e c.value-in-Paren.result.now i c.expr_below.result c.expr_below.ensures

pub returns-in-ParenReceiveChan : goal.returns-in-ParenReceiveChan
returns-in-ParenReceiveChan g c =
    let E = env_in c.args.self.now.literals.operations.typing.context.now in
    let e = c.args.expr.now in
    let i = ap out-Expr c.in-ParenReceiveChan.is ∙ outs-ParenReceiveChan c.in-ParenReceiveChan.element ∙ ap Expr-F.ParenReceiveChan (sym c.value-in-ParenReceiveChan.ensures) in
    same_form E e (Expr-F.ParenReceiveChan c.value-in-ParenReceiveChan.result.now) i tt c.channel_operand.result c.channel_operand.ensures

pub returns-in_err-operand-in-Literal : goal.returns-in_err-operand-in-Literal
returns-in_err-operand-in-Literal g c =
    let E = env_in c.args.self.now.literals.operations.typing.context.now in
    let e = c.args.expr.now in
    let i = ap out-Expr c.in-Literal.is ∙ outs-Literal c.in-Literal.token in
    handed_told E (HasForm E (Expr-F.«Expr::Literal» c.in-Literal.token)) (HasForm E (out-Expr e)) (expression e ∷ []) c.in_err-operand-in-Literal.field-0.0 c.from_residual.result c.from_residual.ensures.1 (c.in_err-operand-in-Literal.ensures E) (literal_none E e c.in-Literal.token i)

pub returns-in_err-operand-in-Name : goal.returns-in_err-operand-in-Name
returns-in_err-operand-in-Name g c =
    let E = env_in c.args.self.now.literals.operations.typing.context.now in
    let e = c.args.expr.now in
    let i = ap out-Expr c.in-Name.is ∙ outs-Name c.in-Name.name in
    handed_told E (Denotes E c.in-Name.name) (HasForm E (out-Expr e)) (expression e ∷ []) c.in_err-operand-in-Name.field-0.0 c.from_residual-in_err-operand-in-Name.result c.from_residual-in_err-operand-in-Name.ensures.1 c.in_err-operand-in-Name.ensures (name_none E e c.in-Name.name i)

pub returns-in_ok-operand-in-Name : goal.returns-in_ok-operand-in-Name
returns-in_ok-operand-in-Name g c =
    let E = env_in c.args.self.now.literals.operations.typing.context.now in
    let e = c.args.expr.now in
    let i = ap out-Expr c.in-Name.is ∙ outs-Name c.in-Name.name in
    name_some E e c.in-Name.name i c.in_ok-operand-in-Name.operand c.in_ok-operand-in-Name.ensures
