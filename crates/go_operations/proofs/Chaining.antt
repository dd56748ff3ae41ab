-- Chains of operators, operand by operand.
use Rattle.std.proofs.Common.{◌≡◌, ◌<◌, ◌≤◌, ◌+◌, ℕ, zero, suc, List, [], ◌∷◌, ◌++◌, length, drop, get_or, map, refl, sym, ap, ◌∙◌, subst, Bool, true, false, ◌||◌, Option, Some, None, IsTrue, ◌↔◌, arith}
use Rattle.std.specs.List.{slice_get}
use Rattle.std.specs.Prelude.{replicate}
use Rattle.std.proofs.lemmas.List.{drop_more}
use Rattle.std.proofs.lemmas.Option.{get_or_from_slice_get, slice_get_within}
use Rattle.go_base.specs.declared.operator.CompareOp.{CompareOp}
use Rattle.go_base.specs.declared.operator.ProductOperator.{ProductOperator}
use Rattle.go_base.specs.declared.operator.SumOperator.{SumOperator}
use Rattle.go_model.specs.declared.constants.value.BinaryOp.{BinaryOp}
use Rattle.go_model.specs.declared.constants.value.BinaryOp.TheVariants as binary
use Rattle.go_rules.specs.Environments.{Env}
use Rattle.go_rules.specs.Expressions.{Has, HasForm, has_or, has_and, has_compare, has_sum, has_product, HasLogical, logical_none, logical_more, HasComparisons, comparisons_none, comparisons_more, HasSum, sum_none, sum_more, HasProduct, product_none, product_more, product_operator}
use Rattle.go_rules.specs.Nodes.{Node, expression}
use Rattle.go_rules.specs.declared.operand.Operand.{Operand}
use Rattle.go_rules.proofs.OneOperand.{has_once}
use Rattle.go_rules.proofs.OneResult.{one_comparison, one_computes, one_product}
use Rattle.go_syntax.specs.declared.expression.Expr.{Expr, Expr-F}
use Rattle.go_operators.specs.go_usability.Answers.{Gives}
use Rattle.go_type_terms.specs.Loudness.{AreLoud}
use Rattle.go_type_terms.proofs.LoudTrees.{none_loud}
use Rattle.go_operations.specs.Chains.{Chains, chain_none, chain_more, ChainsFrom, Combines, Steps}
use Rattle.go_operations.specs.declared.operators.Operator.{Operator}
use Rattle.go_operations.specs.declared.operators.Operator.TheVariants as operator
use Rattle.go_operations.proofs.Walks.{Walk, set_out, walk_on, arrived}

-- the operator that is the first of some, where there is one
abbrev pub Before : Option Operator → List Operator → Type 0
Before None ops = ops ≡ []
Before (Some op) ops = (later : List Operator) × (ops ≡ op ∷ later)

-- the operator at a place of some, before those behind it
pub before_at : (ops : List Operator) (i : ℕ) (op : Option Operator) → op ≡ slice_get ops i → Before op (drop i ops)
before_at [] zero op e = subst (λ (o : Option Operator). Before o []) (sym e) refl
before_at [] (suc i) op e = subst (λ (o : Option Operator). Before o []) (sym e) refl
before_at (x ∷ xs) zero op e = subst (λ (o : Option Operator). Before o (x ∷ xs)) (sym e) (xs, refl)
before_at (x ∷ xs) (suc i) op e = before_at xs i op e

module _ (E : Env) where
  -- the chain that goes on from the operators and the operand
  abbrev pub Onward : List Operator × Operand → List Expr → Operand → Type 0
  Onward s es r = Chains E s.0 s.1 es r

  combine_once : (op : Operator) (l r a b : Operand) → Combines E op l r a → Combines E op l r b → a ≡ b
  combine_once (operator.Logical op) l r a b h k = one_computes h k
  combine_once (operator.Compare op) l r a b h k = one_comparison h k
  combine_once (operator.Sum op) l r a b h k = one_computes h k
  combine_once (operator.Product op) l r a b h k = one_product E (product_operator op) l r h k

  step_once : (op : Operator) (l : Operand) (e : Expr) (a b : Operand) → Steps E (Some op) l e a → Steps E (Some op) l e b → a ≡ b
  step_once op l e a b h k = combine_once op l k.0 a b (subst (λ (q : Operand). Combines E op l q a) (has_once E h.1 k.1) h.2) k.2

  -- what an operator makes of the next operand
  pub no_step : (op : Operator) (l : Operand) (e : Expr) (o : Operand) → Has E e o → ((r : Operand) → Combines E op l o r → ⊥) → (r : Operand) → Steps E (Some op) l e r → ⊥
  no_step op l e o h none r s = none r (subst (λ (q : Operand). Combines E op l q r) (has_once E s.1 h) s.2)

  pub no_step_of : (m : Option Operator) (op : Operator) → m ≡ Some op → (l : Operand) (e : Expr) (o : Operand) → Has E e o → (q : Option Operand) → q ≡ None → Gives (Combines E op l o) q → (r : Operand) → Steps E m l e r → ⊥
  no_step_of m op i l e o h q j g r s = no_step op l e o h (subst (Gives (Combines E op l o)) j g) r (subst (λ (x : Option Operator). Steps E x l e r) i s)

  first_step : {ops : List Operator} {op : Operator} {o s : Operand} {e : Expr} {es : List Expr} → Chains E (op ∷ ops) o (e ∷ es) s → (r : Operand) × Steps E (Some op) o e r × Chains E ops r es s
  first_step (chain_more h k) = (_, h, k)

  no_operators : {o s : Operand} {e : Expr} {es : List Expr} → Chains E [] o (e ∷ es) s → ⊥
  no_operators h = elim h [ ]

  no_operands : {op : Operator} {ops : List Operator} {o s : Operand} → Chains E (op ∷ ops) o [] s → ⊥
  no_operands h = elim h [ ]

  abbrev pub Goes : List Operator → Operand → List Expr → List Operator → Operand → List Expr → Bool → Type 0
  Goes ops first es later left rest loud = Walk E (map expression) Onward (ops, first) es (later, left) rest loud

  pub chain_begins : (ops : List Operator) (first : Operand) (es : List Expr) → Goes ops first es ops first es false
  chain_begins ops first es = set_out E (map expression) Onward (ops, first) es

  pub chain_goes_on : (ops : List Operator) (first : Operand) (es : List Expr) (op : Operator) (later : List Operator) (left next : Operand) (e : Expr) (rest : List Expr) (loud b : Bool)
      → Steps E (Some op) left e next → AreLoud E (expression e ∷ []) b → Goes ops first es (op ∷ later) left (e ∷ rest) loud → Goes ops first es later next rest (loud || b)
  chain_goes_on ops first es op later left next e rest loud b s l g =
      walk_on E (map expression) Onward (ops, first) es (op ∷ later, left) (later, next) e rest loud b (expression e ∷ []) refl l
      (λ r h. chain_more s h)
      (λ r h. let f = first_step h in subst (λ (q : Operand). Chains E later q rest r) (step_once op left e f.0 next f.1 s) f.2)
      g

  -- the chain, where no operand and no operator is left
  pub chain_ends : (ops : List Operator) (first : Operand) (es : List Expr) (left : Operand) (loud : Bool) → Goes ops first es [] left [] loud → Chains E ops first es left × AreLoud E (map expression es) loud
  chain_ends ops first es left loud g = arrived E (map expression) Onward (ops, first) es ([], left) loud left chain_none (none_loud E) g

  pub chain_too_long : (ops : List Operator) (first : Operand) (es : List Expr) (op : Operator) (later : List Operator) (left : Operand) (loud : Bool) → Goes ops first es (op ∷ later) left [] loud → (r : Operand) → Chains E ops first es r → ⊥
  chain_too_long ops first es op later left loud g r h = no_operands (g.from r h)

  -- ---- at a place

  next_at : (ops : List Operator) (i : ℕ) (op : Operator) → slice_get ops i ≡ Some op → drop i ops ≡ op ∷ drop (i + 1) ops
  next_at ops i op e = drop_more ops i op (slice_get_within ops i op e) ∙ ap (λ (x : Operator). x ∷ drop (i + 1) ops) (get_or_from_slice_get ops i op op e)

  next_expr : (es : List Expr) (i : ℕ) (e : Expr) → i < length es → e ≡ get_or es i e → drop i es ≡ e ∷ drop (i + 1) es
  next_expr es i e h k = drop_more es i e h ∙ ap (λ (x : Expr). x ∷ drop (i + 1) es) (sym k)

  on_from : (ops : List Operator) (first : Operand) (es : List Expr) (now later : List Operator) (left next : Operand) (e : Expr) (all rest : List Expr) (loud b : Bool) (op : Operator)
      → now ≡ op ∷ later → all ≡ e ∷ rest → Steps E (Some op) left e next → AreLoud E (expression e ∷ []) b → Goes ops first es now left all loud → Goes ops first es later next rest (loud || b)
  on_from ops first es now later left next e all rest loud b op p q s l g =
      chain_goes_on ops first es op later left next e rest loud b s l (subst (λ (x : List Expr). Goes ops first es (op ∷ later) left x loud) q (subst (λ (x : List Operator). Goes ops first es x left all loud) p g))

  pub chain_next : (ops : List Operator) (first : Operand) (es : List Expr) (i : ℕ) (op : Option Operator) (left next : Operand) (e : Expr) (loud b : Bool)
      → i < length es → op ≡ slice_get ops i → e ≡ get_or es i e → Steps E op left e next → AreLoud E (expression e ∷ []) b
      → Goes ops first es (drop i ops) left (drop i es) loud → Goes ops first es (drop (i + 1) ops) next (drop (i + 1) es) (loud || b)
  chain_next ops first es i None left next e loud b within at is s l g = absurd s
  chain_next ops first es i (Some op) left next e loud b within at is s l g =
      on_from ops first es (drop i ops) (drop (i + 1) ops) left next e (drop i es) (drop (i + 1) es) loud b op (next_at ops i op (sym at)) (next_expr es i e within is) s l g

  done : {A : Type 0} (xs : List A) (i : ℕ) → length xs ≤ i → drop i xs ≡ []
  done [] zero h = refl
  done [] (suc i) h = refl
  done (x ∷ xs) zero h = absurd (omega arith)
  done (x ∷ xs) (suc i) h = done xs i (omega arith)

  left_over : (xs : List Operator) (i : ℕ) → (length xs ≤ i → ⊥) → (x : Operator) × (later : List Operator) × (drop i xs ≡ x ∷ later)
  left_over [] zero h = absurd (h (omega arith))
  left_over [] (suc i) h = absurd (h (omega arith))
  left_over (x ∷ xs) zero h = (x, xs, refl)
  left_over (x ∷ xs) (suc i) h = left_over xs i (λ k. h (omega arith))

  pub chain_done : (ops : List Operator) (first : Operand) (es : List Expr) (i : ℕ) (left : Operand) (loud : Bool)
      → length es ≤ i → length ops ≤ i → Goes ops first es (drop i ops) left (drop i es) loud → Chains E ops first es left × AreLoud E (map expression es) loud
  chain_done ops first es i left loud h k g =
      chain_ends ops first es left loud (subst (λ (x : List Expr). Goes ops first es [] left x loud) (done es i h) (subst (λ (x : List Operator). Goes ops first es x left (drop i es) loud) (done ops i k) g))

  pub chain_left_over : (ops : List Operator) (first : Operand) (es : List Expr) (i : ℕ) (left : Operand) (loud : Bool)
      → length es ≤ i → (length ops ≤ i → ⊥) → Goes ops first es (drop i ops) left (drop i es) loud → (r : Operand) → Chains E ops first es r → ⊥
  chain_left_over ops first es i left loud h none g =
      let o = left_over ops i none in
      chain_too_long ops first es o.0 o.1 left loud (subst (λ (x : List Expr). Goes ops first es (o.0 ∷ o.1) left x loud) (done es i h) (subst (λ (x : List Operator). Goes ops first es x left (drop i es) loud) o.2 g))

  pub chain_first : (ops : List Operator) (first : Operand) (es : List Expr) (i : ℕ) (op : Option Operator) (left : Operand) (e : Expr) (loud : Bool)
      → i < length es → op ≡ slice_get ops i → e ≡ get_or es i e → Goes ops first es (drop i ops) left (drop i es) loud → (r : Operand) → Chains E ops first es r → (s : Operand) × Steps E op left e s
  chain_first ops first es i op left e loud within at is g r h =
      first_in op (drop i ops) (before_at ops i op at) (subst (λ (x : List Expr). Chains E (drop i ops) left x r) (next_expr es i e within is) (g.from r h))
    where
      first_in : (m : Option Operator) (later : List Operator) → Before m later → Chains E later left (e ∷ drop (i + 1) es) r → (s : Operand) × Steps E m left e s
      first_in None later b c = absurd (no_operators (subst (λ (x : List Operator). Chains E x left (e ∷ drop (i + 1) es) r) b c))
      first_in (Some o) later b c = let f = first_step (subst (λ (x : List Operator). Chains E x left (e ∷ drop (i + 1) es) r) b.1 c) in (f.0, f.1)

  pub chain_over : (ops : List Operator) (first : Operand) (es : List Expr) (i : ℕ) (left : Operand) (loud : Bool)
      → i ≡ length es → (IsTrue false ↔ (length ops ≤ length es)) → Goes ops first es (drop i ops) left (drop i es) loud → (r : Operand) → Chains E ops first es r → ⊥
  chain_over ops first es i left loud k d g = chain_left_over ops first es i left loud (omega arith) (λ h. not_true (d.1 (omega arith))) g
    where
      not_true : IsTrue false → ⊥
      not_true h = absurd (cc)

  pub chain_whole : (ops : List Operator) (first : Operand) (es : List Expr) (i : ℕ) (left : Operand) (loud : Bool)
      → i ≡ length es → (IsTrue true ↔ (length ops ≤ length es)) → Goes ops first es (drop i ops) left (drop i es) loud → Chains E ops first es left × AreLoud E (map expression es) loud
  chain_whole ops first es i left loud k d g = let h = d.0 refl in chain_done ops first es i left loud (omega arith) (omega arith) g

  -- ---- with the first operand

  pub chain_from : (ops : List Operator) (e : Expr) (es : List Expr) (o : Operand) → Has E e o → (r : Operand) → ChainsFrom E ops e es r → (s : Operand) × Chains E ops o es s
  chain_from ops e es o h r c = (r, subst (λ (q : Operand). Chains E ops q es r) (has_once E c.1 h) c.2)

  -- ---- the chains of each operator

  chain_steps : {op : Operator} {ops : List Operator} {o r s : Operand} {e : Expr} {es : List Expr} → (q : Operand) × Has E e q × Combines E op o q r → Chains E ops r es s → Chains E (op ∷ ops) o (e ∷ es) s
  chain_steps s c = chain_more s c

  to_logical : (op : BinaryOp) (o : Operand) (es : List Expr) (r : Operand) → Chains E (replicate (length es) (operator.Logical op)) o es r → HasLogical E op o es r
  to_logical op o [] r chain_none = logical_none
  to_logical op o (e ∷ es) r h = let f = first_step h in logical_more f.1.1 f.1.2 (to_logical op f.0 es r f.2)

  in_logical : {op : BinaryOp} {o : Operand} {es : List Expr} {r : Operand} → HasLogical E op o es r → Chains E (replicate (length es) (operator.Logical op)) o es r
  in_logical logical_none = chain_none
  in_logical (logical_more h k m) = chain_more (_, h, k) (in_logical m)

  to_comparisons : (ops : List CompareOp) (o : Operand) (es : List Expr) (r : Operand) → Chains E (map operator.Compare ops) o es r → HasComparisons E o ops es r
  to_comparisons [] o [] r chain_none = comparisons_none
  to_comparisons [] o (e ∷ es) r h = absurd (no_operators h)
  to_comparisons (op ∷ ops) o [] r h = absurd (no_operands h)
  to_comparisons (op ∷ ops) o (e ∷ es) r h = let f = first_step h in comparisons_more f.1.1 f.1.2 (to_comparisons ops f.0 es r f.2)

  in_comparisons : {ops : List CompareOp} {o : Operand} {es : List Expr} {r : Operand} → HasComparisons E o ops es r → Chains E (map operator.Compare ops) o es r
  in_comparisons comparisons_none = chain_none
  in_comparisons (comparisons_more h k m) = chain_more (_, h, k) (in_comparisons m)

  to_sums : (ops : List SumOperator) (o : Operand) (es : List Expr) (r : Operand) → Chains E (map operator.Sum ops) o es r → HasSum E o ops es r
  to_sums [] o [] r chain_none = sum_none
  to_sums [] o (e ∷ es) r h = absurd (no_operators h)
  to_sums (op ∷ ops) o [] r h = absurd (no_operands h)
  to_sums (op ∷ ops) o (e ∷ es) r h = let f = first_step h in sum_more f.1.1 f.1.2 (to_sums ops f.0 es r f.2)

  in_sums : {ops : List SumOperator} {o : Operand} {es : List Expr} {r : Operand} → HasSum E o ops es r → Chains E (map operator.Sum ops) o es r
  in_sums sum_none = chain_none
  in_sums (sum_more h k m) = chain_more (_, h, k) (in_sums m)

  to_products : (ops : List ProductOperator) (o : Operand) (es : List Expr) (r : Operand) → Chains E (map operator.Product ops) o es r → HasProduct E o ops es r
  to_products [] o [] r chain_none = product_none
  to_products [] o (e ∷ es) r h = absurd (no_operators h)
  to_products (op ∷ ops) o [] r h = absurd (no_operands h)
  to_products (op ∷ ops) o (e ∷ es) r h = let f = first_step h in product_more f.1.1 f.1.2 (to_products ops f.0 es r f.2)

  in_products : {ops : List ProductOperator} {o : Operand} {es : List Expr} {r : Operand} → HasProduct E o ops es r → Chains E (map operator.Product ops) o es r
  in_products product_none = chain_none
  in_products (product_more h k m) = chain_more (_, h, k) (in_products m)

  -- the forms of chains
  pub to_or : (e : Expr) (es : List Expr) (r : Operand) → ChainsFrom E (replicate (length es) (operator.Logical binary.LogicalOr)) e es r → HasForm E (Expr-F.Or e es) r
  to_or e es r h = has_or h.1 (to_logical binary.LogicalOr h.0 es r h.2)

  pub in_or : (e : Expr) (es : List Expr) (r : Operand) → HasForm E (Expr-F.Or e es) r → ChainsFrom E (replicate (length es) (operator.Logical binary.LogicalOr)) e es r
  in_or e es r (has_or h k) = (_, h, in_logical k)

  pub to_and : (e : Expr) (es : List Expr) (r : Operand) → ChainsFrom E (replicate (length es) (operator.Logical binary.LogicalAnd)) e es r → HasForm E (Expr-F.And e es) r
  to_and e es r h = has_and h.1 (to_logical binary.LogicalAnd h.0 es r h.2)

  pub in_and : (e : Expr) (es : List Expr) (r : Operand) → HasForm E (Expr-F.And e es) r → ChainsFrom E (replicate (length es) (operator.Logical binary.LogicalAnd)) e es r
  in_and e es r (has_and h k) = (_, h, in_logical k)

  pub to_compare : (e : Expr) (ops : List CompareOp) (es : List Expr) (r : Operand) → ChainsFrom E (map operator.Compare ops) e es r → HasForm E (Expr-F.Compare e ops es) r
  to_compare e ops es r h = has_compare h.1 (to_comparisons ops h.0 es r h.2)

  pub in_compare : (e : Expr) (ops : List CompareOp) (es : List Expr) (r : Operand) → HasForm E (Expr-F.Compare e ops es) r → ChainsFrom E (map operator.Compare ops) e es r
  in_compare e ops es r (has_compare h k) = (_, h, in_comparisons k)

  pub to_sum : (e : Expr) (ops : List SumOperator) (es : List Expr) (r : Operand) → ChainsFrom E (map operator.Sum ops) e es r → HasForm E (Expr-F.Sum e ops es) r
  to_sum e ops es r h = has_sum h.1 (to_sums ops h.0 es r h.2)

  pub in_sum : (e : Expr) (ops : List SumOperator) (es : List Expr) (r : Operand) → HasForm E (Expr-F.Sum e ops es) r → ChainsFrom E (map operator.Sum ops) e es r
  in_sum e ops es r (has_sum h k) = (_, h, in_sums k)

  pub to_product : (e : Expr) (ops : List ProductOperator) (es : List Expr) (r : Operand) → ChainsFrom E (map operator.Product ops) e es r → HasForm E (Expr-F.Product e ops es) r
  to_product e ops es r h = has_product h.1 (to_products ops h.0 es r h.2)

  pub in_product : (e : Expr) (ops : List ProductOperator) (es : List Expr) (r : Operand) → HasForm E (Expr-F.Product e ops es) r → ChainsFrom E (map operator.Product ops) e es r
  in_product e ops es r (has_product h k) = (_, h, in_products k)
