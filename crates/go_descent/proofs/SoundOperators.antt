-- What the readers of prefix operators and of chains of operators find is in the grammar.
use Rattle.std.proofs.Common.{◌≡◌, ℕ, zero, suc, List, [], ◌∷◌, ◌++◌, length, drop, Bool, false, Option, Some, None, refl, sym, ap, ◌∙◌, subst, append_assoc, append-nil}
use Rattle.go_syntax.specs.declared.expression.Expr.{Expr}
use Rattle.go_syntax.specs.declared.expression.Expr.TheVariants as expr
use Rattle.go_cursor.specs.go_base.declared.operator.PrefixOperator.{PrefixOperator}
use Rattle.go_syntax.specs.declared.body.BodyRange.{BodyRange}
use Rattle.go_syntax.specs.declared.token.TokenKind.{TokenKind}
use Rattle.go_syntax.specs.declared.token.TokenKind.TheVariants as kind
use Rattle.go_syntax.specs.grammar.Grammar.{comparison, sum_operator, product_operator, prefix_operator, is_receive_type, or_of, and_of, compare_of, sum_of, product_of, IsExpr, expr_or, IsMoreOr, or_none, or_more, IsAnd, expr_and, IsMoreAnd, and_none, and_more, IsCompare, expr_compare, IsMoreCompare, compare_none, compare_more, IsSum, expr_sum, IsMoreSum, sum_none, sum_more, IsProduct, expr_product, IsMoreProduct, product_none, product_more, IsUnary, unary_prefix, unary_primary}
use Rattle.go_syntax.specs.grammar.Symbols.{Rule, Takes, takes, begins, sign_at}
use Rattle.go_syntax.specs.grammar.Terminals.{Terminal, Sign, Identifier, Basic, Odd, Extent}
use Rattle.go_cursor.specs.LookAheads.{begins_receive}
use Rattle.go_cursor.specs.Reading.{Reader, Next, Stop, Fail, More, bind, turn, loop, run, step_of}
use Rattle.go_descent.specs.Rules.{Parts, operator_at, prefixed, unary_expr, put_both, step_both, operated, operation, chain_of, after_sign, plain_chain, product_expr, sum_expr, compare_expr, and_expr, expr_of}
use Rattle.go_descent.proofs.SoundParts.{SoundParts}
use Rattle.go_descent.proofs.SoundPosts.{primary_sound}
use Rattle.go_cursor.proofs.Steps.{Sound, SoundTurn, above, with_bind, branch, same, taken, run_sound, from_none, after_more, item_if}

operator_taken : {O : Type 0} (operator : TokenKind → Option O) (ts : List Terminal) (op : O) → operator_at operator (sign_at ts) ≡ Some op → (k : TokenKind) × Takes k ts (drop 1 ts) × (operator k ≡ Some op)
operator_taken operator [] op e = absurd (cc)
operator_taken operator (Sign k at ∷ ts) op e = (k, takes at, e)
operator_taken operator (Identifier n ∷ ts) op e = absurd (cc)
operator_taken operator (Basic l place ∷ ts) op e = absurd (cc)
operator_taken operator (Odd ∷ ts) op e = absurd (cc)

no_receive : (k : TokenKind) (at : Extent) (ts : List Terminal) → begins_receive (Sign k at ∷ ts) ≡ false → is_receive_type k ts ≡ false
no_receive kind.Arrow at ts e = e
no_receive _ at ts e = refl

prefix_taken : (ts : List Terminal) (op : PrefixOperator) → begins_receive ts ≡ false → operator_at prefix_operator (sign_at ts) ≡ Some op
    → (k : TokenKind) × Takes k ts (drop 1 ts) × (prefix_operator k ≡ Some op) × (is_receive_type k (drop 1 ts) ≡ false)
prefix_taken [] op c e = absurd (cc)
prefix_taken (Sign k at ∷ ts) op c e = (k, takes at, e, no_receive k at ts c)
prefix_taken (Identifier n ∷ ts) op c e = absurd (cc)
prefix_taken (Basic l place ∷ ts) op c e = absurd (cc)
prefix_taken (Odd ∷ ts) op c e = absurd (cc)

-- Loops of operators and operands

put_both_more : {O A : Type 0} (ops : List O) (xs : List A) (next : Next (O × A)) {b : List O × List A} {rest : List Terminal} → put_both ops xs next ≡ More b rest → (p : O × A) × (next ≡ More p rest) × ((ops ++ p.0 ∷ [], xs ++ p.1 ∷ []) ≡ b)
put_both_more ops xs Stop e = absurd (cc)
put_both_more ops xs Fail e = absurd (cc)
put_both_more ops xs (More p ts) e = (p, (cc), (cc))

module _ {O : Type 0} (operator : TokenKind → Option O) (D : Rule Expr) (Chain : List Terminal → List O → List Expr → List Terminal → Type 0) (none : (ts : List Terminal) → Chain ts [] [] ts)
    (more : (ts u v rest : List Terminal) (k : TokenKind) (op : O) (ops : List O) (x : Expr) (xs : List Expr) → Takes k ts u → operator k ≡ Some op → D u x v → Chain v ops xs rest → Chain ts (op ∷ ops) (x ∷ xs) rest)
    (operand : Reader Expr) (sound : Sound D operand) where
  -- what follows the first operators and operands: more of them
  AddsBoth : List O × List Expr → Rule (List O × List Expr)
  AddsBoth acc ts all rest = (ops : List O) × (xs : List Expr) × (all ≡ (acc.0 ++ ops, acc.1 ++ xs)) × Chain ts ops xs rest

  -- an operator, and the operand after it
  abbrev Operation : Rule (O × Expr)
  Operation ts p rest = (k : TokenKind) × Takes k ts (drop 1 ts) × (operator k ≡ Some p.0) × D (drop 1 ts) p.1 rest

  operated_sound : (ts : List Terminal) (o : Option O) → operator_at operator (sign_at ts) ≡ o → (p : O × Expr) (rest : List Terminal) → operated operand o ts ≡ More p rest → Operation ts p rest
  operated_sound ts None is p rest e = absurd (cc)
  operated_sound ts (Some op) is p rest e = with_bind (operand (drop 1 ts)) _ (after_more (bind (operand (drop 1 ts)) (λ x u. Some ((op, x), u))) e) (λ x u ex r.
      let k = operator_taken operator ts op is in same Operation ts (k.0, k.1, k.2, sound (drop 1 ts) x u ex) r)

  operation_sound : SoundTurn Operation (operation operator operand)
  operation_sound ts p rest e = operated_sound ts (operator_at operator (sign_at ts)) refl p rest e

  added_none : (acc : List O × List Expr) (ts : List Terminal) → AddsBoth acc ts acc ts
  unfolding AddsBoth
  added_none acc ts = ([], [], (λ i. (sym (append-nil acc.0) i, sym (append-nil acc.1) i)), none ts)

  longer : {A : Type 0} (acc : List A) (x : A) (xs : List A) {w : List A} → acc ++ x ∷ [] ≡ w → w ++ xs ≡ acc ++ x ∷ xs
  longer acc x xs e = ap (λ w. w ++ xs) (sym e) ∙ append_assoc acc (x ∷ []) xs

  both_turn : (go : List O × List Expr → Reader (List O × List Expr)) → ((acc : List O × List Expr) → Sound (AddsBoth acc) (go acc)) → (acc : List O × List Expr) (ts : List Terminal) (next : Next (List O × List Expr)) → step_both (operation operator operand) acc ts ≡ next
      → (all : List O × List Expr) (rest : List Terminal) → turn go acc ts next ≡ Some (all, rest) → AddsBoth acc ts all rest
  unfolding AddsBoth
  both_turn go ih acc ts Stop is all rest e = same (AddsBoth acc) ts (added_none acc ts) e
  both_turn go ih acc ts Fail is all rest e = absurd (cc)
  both_turn go ih acc ts (More next u) is all rest e =
      let p = put_both_more acc.0 acc.1 (operation operator operand ts) is in
      let d = operation_sound ts p.0 u p.1 in
      let i = ih next u all rest e in
      let a = longer acc.0 p.0.0 i.0 (ap (λ (w : List O × List Expr). w.0) p.2) in
      let b = longer acc.1 p.0.1 i.1 (ap (λ (w : List O × List Expr). w.1) p.2) in
      (p.0.0 ∷ i.0, p.0.1 ∷ i.1, i.2 ∙ (λ j. (a j, b j)), more ts (drop 1 ts) u rest d.0 p.0.0 i.0 p.0.1 i.1 d.1 d.2 d.3 i.3)

  both_loop : (n : ℕ) (acc : List O × List Expr) → Sound (AddsBoth acc) (loop (step_both (operation operator operand)) n acc)
  unfolding loop
  both_loop zero acc ts all rest e = same (AddsBoth acc) ts (added_none acc ts) e
  both_loop (suc n) acc ts all rest e = both_turn (loop (step_both (operation operator operand)) n) (both_loop n) acc ts (step_both (operation operator operand) acc ts) refl all rest e

  both_run : (ts : List Terminal) (p : List O × List Expr) (rest : List Terminal) → run (step_both (operation operator operand)) ([], []) ts ≡ Some (p, rest) → Chain ts p.0 p.1 rest
  unfolding run AddsBoth
  both_run ts p rest e = let a = both_loop (length ts) ([], []) ts p rest e in subst (λ (q : List O × List Expr). Chain ts q.0 q.1 rest) (sym a.2) a.3

  chain_sound : (made : Expr → List O → List Expr → Expr) (Whole : Rule Expr) → ((ts u rest : List Terminal) (x : Expr) (ops : List O) (xs : List Expr) → D ts x u → Chain u ops xs rest → Whole ts (made x ops xs) rest) → Sound Whole (chain_of operator made operand)
  unfolding chain_of
  chain_sound made Whole whole ts x rest e = with_bind (operand ts) _ e (λ y u ey e. with_bind (run (step_both (operation operator operand)) ([], []) u) _ e (λ p v ep r. same Whole ts (whole ts u v y p.0 p.1 (sound ts y u ey) (both_run u p v ep)) r))

-- operands with one sign between them
module _ (k : TokenKind) (D : Rule Expr) (Chain : Rule (List Expr)) (none : (ts : List Terminal) → Chain ts [] ts)
    (more : (ts u v rest : List Terminal) (x : Expr) (xs : List Expr) → Takes k ts u → D u x v → Chain v xs rest → Chain ts (x ∷ xs) rest) (operand : Reader Expr) (sound : Sound D operand) where
  abbrev Behind : Rule Expr
  Behind ts x rest = Takes k ts (drop 1 ts) × D (drop 1 ts) x rest

  behind_sound : SoundTurn Behind (after_sign k operand)
  behind_sound ts x rest e = item_if (begins k ts) _ e (λ c m. (taken k ts c, sound (drop 1 ts) x rest (after_more (operand (drop 1 ts)) m)))

  plain_sound : (made : Expr → List Expr → Expr) (Whole : Rule Expr) → ((ts u rest : List Terminal) (x : Expr) (xs : List Expr) → D ts x u → Chain u xs rest → Whole ts (made x xs) rest) → Sound Whole (plain_chain k made operand)
  unfolding plain_chain
  plain_sound made Whole whole ts x rest e = with_bind (operand ts) _ e (λ y u ey e. with_bind (run (step_of (after_sign k operand)) [] u) _ e (λ xs v ex r. same Whole ts (whole ts u v y xs (sound ts y u ey)
      (from_none Chain u xs v (run_sound Behind Chain none (λ w v y x xs d c. more w (drop 1 w) v y x xs d.0 d.1 c) (after_sign k operand) behind_sound [] u xs v ex))) r))

module _ (Body : ℕ → Rule BodyRange) (l : Parts) (n : ℕ) (s : SoundParts Body l n) (b : Bool) where
  prefixed_sound : (ts : List Terminal) → begins_receive ts ≡ false → (o : Option PrefixOperator) → operator_at prefix_operator (sign_at ts) ≡ o → (x : Expr) (rest : List Terminal) → prefixed b l o ts ≡ Some (x, rest) → IsUnary Body b n ts x rest
  prefixed_sound ts c None is x rest e = unary_primary (primary_sound Body l n s b ts x rest e)
  prefixed_sound ts c (Some op) is x rest e = with_bind (l.unary b (drop 1 ts)) _ e (λ y u ey r. let k = prefix_taken ts op c is in
      same (IsUnary Body b n) ts (above (IsUnary Body b) (λ m. IsUnary Body b m ts (expr.Prefix op y) u) n (s.unary b (drop 1 ts) y u ey) (λ h d. unary_prefix k.1 k.2 k.3 d)) r)

  pub unary_sound : Sound (IsUnary Body b n) (unary_expr b l)
  unfolding unary_expr
  unary_sound ts x rest e = branch (begins_receive ts) e (λ c e. absurd (cc)) (λ c e. prefixed_sound ts c (operator_at prefix_operator (sign_at ts)) refl x rest e)

  product_sound : Sound (IsProduct Body b n) (product_expr b l)
  unfolding product_expr
  product_sound ts x rest e = chain_sound product_operator (IsUnary Body b n) (IsMoreProduct Body b n) (λ w. product_none) (λ ts u v rest k op ops x xs t o d c. product_more t o d c) (unary_expr b l) unary_sound
      product_of (IsProduct Body b n) (λ ts u rest x ops xs d c. expr_product d c) ts x rest e

  sum_sound : Sound (IsSum Body b n) (sum_expr b l)
  unfolding sum_expr
  sum_sound ts x rest e = chain_sound sum_operator (IsProduct Body b n) (IsMoreSum Body b n) (λ w. sum_none) (λ ts u v rest k op ops x xs t o d c. sum_more t o d c) (product_expr b l) product_sound
      sum_of (IsSum Body b n) (λ ts u rest x ops xs d c. expr_sum d c) ts x rest e

  compare_sound : Sound (IsCompare Body b n) (compare_expr b l)
  unfolding compare_expr
  compare_sound ts x rest e = chain_sound comparison (IsSum Body b n) (IsMoreCompare Body b n) (λ w. compare_none) (λ ts u v rest k op ops x xs t o d c. compare_more t o d c) (sum_expr b l) sum_sound
      compare_of (IsCompare Body b n) (λ ts u rest x ops xs d c. expr_compare d c) ts x rest e

  and_sound : Sound (IsAnd Body b n) (and_expr b l)
  unfolding and_expr
  and_sound ts x rest e = plain_sound kind.LogicalAnd (IsCompare Body b n) (IsMoreAnd Body b n) (λ w. and_none) (λ ts u v rest x xs t d c. and_more t d c) (compare_expr b l) compare_sound
      and_of (IsAnd Body b n) (λ ts u rest x xs d c. expr_and d c) ts x rest e

  pub expr_sound : Sound (IsExpr Body b n) (expr_of b l)
  unfolding expr_of
  expr_sound ts x rest e = plain_sound kind.LogicalOr (IsAnd Body b n) (IsMoreOr Body b n) (λ w. or_none) (λ ts u v rest x xs t d c. or_more t d c) (and_expr b l) and_sound
      or_of (IsExpr Body b n) (λ ts u rest x xs d c. expr_or d c) ts x rest e
