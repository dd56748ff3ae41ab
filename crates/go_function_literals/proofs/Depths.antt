-- The depth of a later part of an expression is below the expression's.
use Rattle.std.proofs.Common.{◌≡◌, ◌∙◌, List, ◌<◌, ap, arith}
use denote.Param.Weighed.{most}
use Rattle.go_base.specs.declared.operator.CompareOp.{CompareOp}
use Rattle.go_base.specs.declared.operator.ProductOperator.{ProductOperator}
use Rattle.go_base.specs.declared.operator.SumOperator.{SumOperator}
use Rattle.go_syntax.specs.declared.expression.Expr.{Expr, out-Expr, size-Expr, size_is-Expr}
use Rattle.go_syntax.specs.declared.expression.Expr.TheVariants as expr
use Rattle.go_syntax.specs.declared.expression.Post.{Post, size-Post}

pub or_below : (x first : Expr) (others w : List Expr) → x ≡ expr.Or first others → w ≡ others → most size-Expr w < size-Expr x
or_below x first others w e f = omega (arith, rw (ap out-Expr e ∙ expr.outs-Or first others) at (size_is-Expr x), ap (most size-Expr) f)

pub and_below : (x first : Expr) (others w : List Expr) → x ≡ expr.And first others → w ≡ others → most size-Expr w < size-Expr x
and_below x first others w e f = omega (arith, rw (ap out-Expr e ∙ expr.outs-And first others) at (size_is-Expr x), ap (most size-Expr) f)

pub compare_below : (x first : Expr) (ops : List CompareOp) (others w : List Expr) → x ≡ expr.Compare first ops others → w ≡ others → most size-Expr w < size-Expr x
compare_below x first ops others w e f = omega (arith, rw (ap out-Expr e ∙ expr.outs-Compare first ops others) at (size_is-Expr x), ap (most size-Expr) f)

pub sum_below : (x first : Expr) (ops : List SumOperator) (others w : List Expr) → x ≡ expr.Sum first ops others → w ≡ others → most size-Expr w < size-Expr x
sum_below x first ops others w e f = omega (arith, rw (ap out-Expr e ∙ expr.outs-Sum first ops others) at (size_is-Expr x), ap (most size-Expr) f)

pub product_below : (x first : Expr) (ops : List ProductOperator) (others w : List Expr) → x ≡ expr.Product first ops others → w ≡ others → most size-Expr w < size-Expr x
product_below x first ops others w e f = omega (arith, rw (ap out-Expr e ∙ expr.outs-Product first ops others) at (size_is-Expr x), ap (most size-Expr) f)

pub primary_below : (x operand : Expr) (posts w : List Post) → x ≡ expr.Primary operand posts → w ≡ posts → most size-Post w < size-Expr x
primary_below x operand posts w e f = omega (arith, rw (ap out-Expr e ∙ expr.outs-Primary operand posts) at (size_is-Expr x), ap (most size-Post) f)
