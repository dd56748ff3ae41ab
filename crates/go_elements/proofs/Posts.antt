-- What follows an operand in a tree, by the operands in it.
use Rattle.std.proofs.Common.{ℕ, true, false, Option, Some, None, [], ◌∷◌}
use Rattle.go_model.specs.declared.types.term.Term.{Term}
use Rattle.go_rules.specs.Environments.{Env}
use Rattle.go_rules.specs.Expressions.{Ascend, Has, HasOptional, optional_none, optional_some, HasPost, post_field, post_method, post_method_expression, post_assertion, post_array, post_array_pointer, post_slice_index, post_string, post_map, post_slice, post_full_slice, post_conversion, post_call, post_builtin, IsIndex, OfType, Slices}
use Rattle.go_rules.specs.declared.operand.Operand.{Operand}
use Rattle.go_syntax.specs.declared.expression.Expr.{Expr}
use Rattle.go_syntax.specs.declared.expression.Post.{Post-F}
use Rattle.go_syntax.specs.declared.name.Name.{Name}
use Rattle.go_syntax.specs.declared.types.«Type».{«Type» as Typ}
use Rattle.go_elements.specs.Assertions.{Asserts, asserts}
use Rattle.go_elements.specs.Indexes.{Indexes, indexes_array, indexes_array_pointer, indexes_slice, indexes_string, indexes_map}
use Rattle.go_elements.specs.Selections.{Selects, selects_field, selects_method, selects_function}
use Rattle.go_elements.specs.SliceExpressions.{HasWhere, where_left_out, where_given, IsOptionalIndex, index_left_out, index_given, SlicesSimply, slices_simply, SlicesFully, slices_fully}

module _ {E : Env} where
  -- ---- selectors

  pub selects_post : {o r : Operand} {n : Name} → Selects E n.text o r → HasPost E o (Post-F.Selector n) r
  selects_post (selects_field b h f) = post_field b h f
  selects_post (selects_method b h m) = post_method b h m
  selects_post (selects_function b m) = post_method_expression b m

  pub post_selects : {o r : Operand} {n : Name} → HasPost E o (Post-F.Selector n) r → Selects E n.text o r
  post_selects (post_field b h f) = selects_field b h f
  post_selects (post_method b h m) = selects_method b h m
  post_selects (post_method_expression b m) = selects_function b m
  post_selects (post_conversion c h v) = elim c [ ]
  post_selects (post_call c h e a f) = elim c [ ]
  post_selects (post_builtin c b) = elim c [ ]

  -- ---- indices

  pub indexes_post : {o r : Operand} {x : Expr} {i : Operand} → Has E x i → Indexes E o i r → HasPost E o (Post-F.Index x) r
  indexes_post a (indexes_array h e i b) = post_array h e a i b
  indexes_post a (indexes_array_pointer h e f i b) = post_array_pointer h e f a i b
  indexes_post a (indexes_slice h e i) = post_slice_index h e a i
  indexes_post a (indexes_string s i b) = post_string s a i b
  indexes_post a (indexes_map h e u) = post_map h e a u

  pub post_indexes : {o r : Operand} {x : Expr} → HasPost E o (Post-F.Index x) r → (i : Operand) × Has E x i × Indexes E o i r
  post_indexes (post_array h e a i b) = (_, a, indexes_array h e i b)
  post_indexes (post_array_pointer h e f a i b) = (_, a, indexes_array_pointer h e f i b)
  post_indexes (post_slice_index h e a i) = (_, a, indexes_slice h e i)
  post_indexes (post_string s a i b) = (_, a, indexes_string s i b)
  post_indexes (post_map h e a u) = (_, a, indexes_map h e u)
  post_indexes (post_conversion c h v) = elim c [ ]
  post_indexes (post_call c h e a f) = elim c [ ]
  post_indexes (post_builtin c b) = elim c [ ]

  -- ---- type assertions

  pub asserts_post : {o r : Operand} {x : Typ} {u : Term} → OfType E x u → Asserts E o u r → HasPost E o (Post-F.TypeAssertion x) r
  asserts_post t (asserts h e m) = post_assertion h e t m

  pub post_asserts : {o r : Operand} {x : Typ} → HasPost E o (Post-F.TypeAssertion x) r → (u : Term) × OfType E x u × Asserts E o u r
  post_asserts (post_assertion h e t m) = (_, t, asserts h e m)
  post_asserts (post_conversion c h v) = elim c [ ]
  post_asserts (post_call c h e a f) = elim c [ ]
  post_asserts (post_builtin c b) = elim c [ ]

  -- ---- slice expressions

  optional_has : {e : Option Expr} {q : Option Operand} {c : Option ℕ} → HasWhere E e q → IsOptionalIndex E q c → HasOptional E e c
  optional_has where_left_out index_left_out = optional_none
  optional_has (where_given h) (index_given i) = optional_some h i

  has_optional : {e : Option Expr} {c : Option ℕ} → HasOptional E e c → (q : Option Operand) × HasWhere E e q × IsOptionalIndex E q c
  has_optional optional_none = (None, where_left_out, index_left_out)
  has_optional (optional_some {o = i} h x) = (Some i, where_given h, index_given x)

  has_index : {e : Expr} {c : Option ℕ} → HasOptional E (Some e) c → (i : Operand) × Has E e i × IsIndex E i c
  has_index (optional_some h x) = (_, h, x)

  pub slices_post : {o r : Operand} {low high : Option Expr} {l h : Option Operand} → HasWhere E low l → HasWhere E high h → SlicesSimply E o l h r → HasPost E o (Post-F.«Post::Slice» low high) r
  slices_post a b (slices_simply s x y d) = post_slice s (optional_has a x) (optional_has b y) d

  of_slice : {o r : Operand} {low high : Option Expr} {n i j : Option ℕ} → Slices E true o n r → HasOptional E low i → HasOptional E high j → Ascend (i ∷ j ∷ []) n → (l : Option Operand) × (h : Option Operand) × HasWhere E low l × HasWhere E high h × SlicesSimply E o l h r
  of_slice s a b d = let x = has_optional a in let y = has_optional b in (x.0, y.0, x.1, y.1, slices_simply s x.2 y.2 d)

  pub post_slices : {o r : Operand} {low high : Option Expr} → HasPost E o (Post-F.«Post::Slice» low high) r → (l : Option Operand) × (h : Option Operand) × HasWhere E low l × HasWhere E high h × SlicesSimply E o l h r
  post_slices (post_slice s a b d) = of_slice s a b d
  post_slices (post_conversion c h v) = elim c [ ]
  post_slices (post_call c h e a f) = elim c [ ]
  post_slices (post_builtin c b) = elim c [ ]

  pub full_slices_post : {o r h b : Operand} {low : Option Expr} {high bound : Expr} {l : Option Operand} → HasWhere E low l → Has E high h → Has E bound b → SlicesFully E o l h b r → HasPost E o (Post-F.FullSlice low high bound) r
  full_slices_post f g k (slices_fully s x y z d) = post_full_slice s (optional_has f x) (optional_some g y) (optional_some k z) d

  of_full_slice : {o r : Operand} {low : Option Expr} {high bound : Expr} {n i j k : Option ℕ} → Slices E false o n r → HasOptional E low i → HasOptional E (Some high) j → HasOptional E (Some bound) k → Ascend (i ∷ j ∷ k ∷ []) n → (l : Option Operand) × (h : Operand) × (b : Operand) × HasWhere E low l × Has E high h × Has E bound b × SlicesFully E o l h b r
  of_full_slice s a b c d = let x = has_optional a in let y = has_index b in let z = has_index c in (x.0, y.0, z.0, x.1, y.1, z.1, slices_fully s x.2 y.2 z.2 d)

  pub post_full_slices : {o r : Operand} {low : Option Expr} {high bound : Expr} → HasPost E o (Post-F.FullSlice low high bound) r → (l : Option Operand) × (h : Operand) × (b : Operand) × HasWhere E low l × Has E high h × Has E bound b × SlicesFully E o l h b r
  post_full_slices (post_full_slice s a b c d) = of_full_slice s a b c d
  post_full_slices (post_conversion c h v) = elim c [ ]
  post_full_slices (post_call c h e a f) = elim c [ ]
  post_full_slices (post_builtin c b) = elim c [ ]
