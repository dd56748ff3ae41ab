-- What two readings of parts add to a list of places.
use Rattle.std.proofs.Common.{◌≡◌, ◌∙◌, ℕ, List, ◌++◌, map, OnOk, Result, ap, sym, append_assoc}
use Rattle.std.proofs.lemmas.Result.{on_ok_weaker}
use Rattle.go_base.specs.declared.memory.NoMemory.{NoMemory}
use Rattle.go_base.specs.declared.operator.CompareOp.{CompareOp}
use Rattle.go_base.specs.declared.operator.ProductOperator.{ProductOperator}
use Rattle.go_base.specs.declared.operator.SumOperator.{SumOperator}
use Rattle.go_function_literals.specs.declared.place.LiteralPlace.{LiteralPlace}
use Rattle.go_function_literals.specs.Places.{Places, below, element_places, expr_places, exprs_places, joined, literal, post_places, signature_places, type_places}
use Rattle.go_function_literals.proofs.TreeLevels.{expr_placed}
use Rattle.go_syntax.specs.declared.body.BodyRange.{BodyRange}
use Rattle.go_syntax.specs.declared.expression.Element.{Element}
use Rattle.go_syntax.specs.declared.expression.Expr.{Expr, Expr-F, out-Expr}
use Rattle.go_syntax.specs.declared.expression.Expr.TheVariants as expr
use Rattle.go_syntax.specs.declared.expression.Post.{Post}
use Rattle.go_syntax.specs.declared.types.Signature.{Signature}
use Rattle.go_syntax.specs.declared.types.«Type».{«Type» as Typ}

-- one list after another
pub added : (r : Result (Unit {0}) NoMemory) (found mid new first second whole : List LiteralPlace) → mid ≡ found ++ first → whole ≡ first ++ second → OnOk r (new ≡ mid ++ second) → OnOk r (new ≡ found ++ whole)
added r found mid new first second whole e g k = on_ok_weaker r (λ (f : new ≡ mid ++ second). f ∙ ap (λ l. l ++ second) e ∙ append_assoc found first second ∙ ap (λ l. found ++ l) (sym g)) k

-- What an expression gives by its kind

pub or_is : (x first : Expr) (others : List Expr) (h : ℕ) → x ≡ expr.Or first others → expr_places x h ≡ expr_places first h ++ exprs_places others h
or_is x first others h e = ap (λ (f : Places). f h) (expr_placed x (Expr-F.Or first others) (ap out-Expr e ∙ expr.outs-Or first others))

pub and_is : (x first : Expr) (others : List Expr) (h : ℕ) → x ≡ expr.And first others → expr_places x h ≡ expr_places first h ++ exprs_places others h
and_is x first others h e = ap (λ (f : Places). f h) (expr_placed x (Expr-F.And first others) (ap out-Expr e ∙ expr.outs-And first others))

pub compare_is : (x first : Expr) (ops : List CompareOp) (others : List Expr) (h : ℕ) → x ≡ expr.Compare first ops others → expr_places x h ≡ expr_places first h ++ exprs_places others h
compare_is x first ops others h e = ap (λ (f : Places). f h) (expr_placed x (Expr-F.Compare first ops others) (ap out-Expr e ∙ expr.outs-Compare first ops others))

pub sum_is : (x first : Expr) (ops : List SumOperator) (others : List Expr) (h : ℕ) → x ≡ expr.Sum first ops others → expr_places x h ≡ expr_places first h ++ exprs_places others h
sum_is x first ops others h e = ap (λ (f : Places). f h) (expr_placed x (Expr-F.Sum first ops others) (ap out-Expr e ∙ expr.outs-Sum first ops others))

pub product_is : (x first : Expr) (ops : List ProductOperator) (others : List Expr) (h : ℕ) → x ≡ expr.Product first ops others → expr_places x h ≡ expr_places first h ++ exprs_places others h
product_is x first ops others h e = ap (λ (f : Places). f h) (expr_placed x (Expr-F.Product first ops others) (ap out-Expr e ∙ expr.outs-Product first ops others))

pub primary_is : (x operand : Expr) (posts : List Post) (h : ℕ) → x ≡ expr.Primary operand posts → expr_places x h ≡ expr_places operand h ++ joined (map post_places posts) h
primary_is x operand posts h e = ap (λ (f : Places). f h) (expr_placed x (Expr-F.Primary operand posts) (ap out-Expr e ∙ expr.outs-Primary operand posts))

pub func_is : (x : Expr) (signature : Signature) (body : BodyRange) (h : ℕ) → x ≡ expr.FuncLit signature body → expr_places x h ≡ signature_places signature (below h) ++ literal body (below h)
func_is x signature body h e = ap (λ (f : Places). f h) (expr_placed x (Expr-F.FuncLit signature body) (ap out-Expr e ∙ expr.outs-FuncLit signature body))

pub composite_is : (x : Expr) (type_ : Typ) (elements : List Element) (h : ℕ) → x ≡ expr.Composite type_ elements → expr_places x h ≡ type_places type_ (below h) ++ joined (map element_places elements) (below (below h))
composite_is x type_ elements h e = ap (λ (f : Places). f h) (expr_placed x (Expr-F.Composite type_ elements) (ap out-Expr e ∙ expr.outs-Composite type_ elements))

pub composite_array_is : (x : Expr) (type_ : Typ) (elements : List Element) (h : ℕ) → x ≡ expr.CompositeArray type_ elements → expr_places x h ≡ type_places type_ (below h) ++ joined (map element_places elements) (below (below h))
composite_array_is x type_ elements h e = ap (λ (f : Places). f h) (expr_placed x (Expr-F.CompositeArray type_ elements) (ap out-Expr e ∙ expr.outs-CompositeArray type_ elements))

-- What is added of two parts, of which each is read as a call hands it on

pub chain_added : (x first v : Expr) (others w : List Expr) (h : ℕ) (found mid new : List LiteralPlace) (r : Result (Unit {0}) NoMemory) → expr_places x h ≡ expr_places first h ++ exprs_places others h → v ≡ first → w ≡ others
    → mid ≡ found ++ expr_places v h → OnOk r (new ≡ mid ++ exprs_places w h) → OnOk r (new ≡ found ++ expr_places x h)
chain_added x first v others w h found mid new r is e f a k =
    added r found mid new (expr_places v h) (exprs_places w h) (expr_places x h) a
    (is ∙ ap (λ y. expr_places y h ++ exprs_places others h) (sym e) ∙ ap (λ ys. expr_places v h ++ exprs_places ys h) (sym f)) k

pub primary_added : (x operand v : Expr) (posts w : List Post) (h : ℕ) (found mid new : List LiteralPlace) (r : Result (Unit {0}) NoMemory) → expr_places x h ≡ expr_places operand h ++ joined (map post_places posts) h → v ≡ operand → w ≡ posts
    → mid ≡ found ++ expr_places v h → OnOk r (new ≡ mid ++ joined (map post_places w) h) → OnOk r (new ≡ found ++ expr_places x h)
primary_added x operand v posts w h found mid new r is e f a k =
    added r found mid new (expr_places v h) (joined (map post_places w) h) (expr_places x h) a
    (is ∙ ap (λ y. expr_places y h ++ joined (map post_places posts) h) (sym e) ∙ ap (λ ys. expr_places v h ++ joined (map post_places ys) h) (sym f)) k

pub func_added : (x : Expr) (signature : Signature) (body : BodyRange) (h m n : ℕ) (found mid new : List LiteralPlace) (r : Result (Unit {0}) NoMemory) → expr_places x h ≡ signature_places signature (below h) ++ literal body (below h) → m ≡ below h → n ≡ below h
    → mid ≡ found ++ signature_places signature m → OnOk r (new ≡ mid ++ literal body n) → OnOk r (new ≡ found ++ expr_places x h)
func_added x signature body h m n found mid new r is e f a k =
    added r found mid new (signature_places signature m) (literal body n) (expr_places x h) a
    (is ∙ ap (λ i. signature_places signature i ++ literal body (below h)) (sym e) ∙ ap (λ i. signature_places signature m ++ literal body i) (sym f)) k

pub composite_added : (x : Expr) (type_ : Typ) (elements w : List Element) (h l m n : ℕ) (found mid new : List LiteralPlace) (r : Result (Unit {0}) NoMemory) → expr_places x h ≡ type_places type_ (below h) ++ joined (map element_places elements) (below (below h)) → w ≡ elements
    → l ≡ below h → m ≡ below h → n ≡ below m → mid ≡ found ++ type_places type_ l → OnOk r (new ≡ mid ++ joined (map element_places w) n) → OnOk r (new ≡ found ++ expr_places x h)
composite_added x type_ elements w h l m n found mid new r is q e f g a k =
    added r found mid new (type_places type_ l) (joined (map element_places w) n) (expr_places x h) a
    (is ∙ ap (λ i. type_places type_ i ++ joined (map element_places elements) (below (below h))) (sym e)
    ∙ ap (λ i. type_places type_ l ++ joined (map element_places elements) (below i)) (sym f)
    ∙ ap (λ i. type_places type_ l ++ joined (map element_places elements) i) (sym g)
    ∙ ap (λ ys. type_places type_ l ++ joined (map element_places ys) n) (sym q)) k
