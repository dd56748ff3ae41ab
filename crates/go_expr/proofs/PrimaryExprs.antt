-- What an operand with what follows it is.
use Rattle.std.proofs.Common.{◌≡◌, ◌-◌, ℕ, length, take, drop, arith, List, [], ◌∷◌, refl, sym, ap, ◌∙◌, subst, ◌⊎◌, inl, inr, Bool, ◌||◌, Option, None, Some, Result, Ok, Err}
use Rattle.std.specs.List.{slice_get}
use Rattle.go_base.proofs.Lists.{take_past}
use Rattle.go_rules.specs.Environments.{Env}
use Rattle.go_rules.specs.Expressions.{Denotes, DenotesImported, Has, has_operand, HasForm, has_imported, has_name, has_primary, HasPosts, seen_operand}
use Rattle.go_rules.specs.Nodes.{ExprLayer, Node, expression, post}
use Rattle.go_rules.specs.Operands.{ShapeWithin}
use Rattle.go_rules.specs.declared.operand.Operand.{Operand}
use Rattle.go_rules.specs.declared.seen.Seen.{Seen}
use Rattle.go_rules.specs.declared.seen.Seen.TheVariants as seen
use Rattle.go_rules.proofs.OneName.{one_imported}
use Rattle.go_syntax.specs.declared.expression.Expr.{Expr, Expr-F, out-Expr}
use Rattle.go_syntax.specs.declared.expression.Post.{Post, Post-F, out-Post}
use Rattle.go_syntax.specs.declared.name.Name.{Name}
use Rattle.go_literals.specs.go_type_terms.Answers.{Types}
use Rattle.go_literals.specs.go_type_terms.Loudness.{AreLoud, Quiet}
use Rattle.go_literals.specs.go_type_terms.declared.error.ExprError.{ExprError}
use Rattle.go_literals.specs.go_type_terms.declared.error.ExprError.TheVariants.{NoMemory, Untyped}
use Rattle.go_literals.proofs.go_operations_proofs.Typed.{none_some, one_some}
use Rattle.go_expr.specs.Imports.{ImportedWithin, IsQualified}
use Rattle.go_expr.specs.Posts.{QualifiedTyped, UnqualifiedTyped, Ran}
use Rattle.go_expr.proofs.ImportedNames.{one_name, one_selector}
use Rattle.go_expr.proofs.LoudPosts.{imported_loud, primary_loud}
use Rattle.go_expr.proofs.Parts.{selector_quiet}
use Rattle.go_expr.proofs.Running.{ran_posts}

module _ (E : Env) where
  -- a name by itself denotes no imported package
  name_none : (q : Name) (path : List ℕ) → E.meaning q.text ≡ Some (seen.Import path) → (o : Operand) → Denotes E q o → ⊥
  name_none q path m o d = none_some (ap (seen_operand E.iota) (one_some (sym m ∙ d.means)) ∙ d.denotes)

  named_form : {q : Name} {o : Operand} → HasForm E (Expr-F.Name q) o → Denotes E q o
  named_form (has_name d) = d

  named_in : {e : Expr} {q : Name} {o : Operand} → out-Expr e ≡ Expr-F.Name q → Has E e o → Denotes E q o
  named_in {o = o} i (has_operand h w) = named_form (subst (λ (l : ExprLayer). HasForm E l o) i h)

  -- the two ways of an operand with what follows it
  record Imported (e : Expr) (x : Post) (xs : List Post) (r : Operand) : Type 0 where
    names : Name × Name
    qualified : IsQualified E e x names
    operand : Operand
    object : ImportedWithin E names.0 names.1 operand
    posts : HasPosts E operand xs r

  abbrev Plainly : Expr → List Post → Operand → Type 0
  Plainly e ps r = (o : Operand) × Has E e o × HasPosts E o ps r

  ways : {e : Expr} {x : Post} {xs : List Post} {r : Operand} → HasForm E (Expr-F.Primary e (x ∷ xs)) r → Plainly e (x ∷ xs) r ⊎ Imported e x xs r
  ways (has_primary h t) = inl (_, h, t)
  ways (has_imported {q = q} {n = n} {o = o} i j d w t) = inr (record { names = (q, n); qualified = (i, j, d.path, d.imported); operand = o; object = (d, w); posts = t })

  plain_alone : {e : Expr} {r : Operand} → HasForm E (Expr-F.Primary e []) r → Plainly e [] r
  plain_alone (has_primary h t) = (_, h, t)

  -- an operand, where there is no post
  pub alone_typed : (w e : Expr) → out-Expr w ≡ Expr-F.Primary e [] → (r : Result (Operand × Bool) ExprError) → UnqualifiedTyped E e [] r → Types {A = Operand} E (HasForm E (Expr-F.Primary e [])) (expression w ∷ []) r
  alone_typed w e i (Ok a) u = (has_primary u.3 (ran_posts E u.5), subst (λ (b : Bool). AreLoud E (expression w ∷ []) b) (sym u.6) (primary_loud E e w [] u.0 a.0 u.1 u.2 i u.3 u.4 u.5))
  alone_typed w e i (Err NoMemory) u = tt
  alone_typed w e i (Err Untyped) u = λ r h. let p = plain_alone h in u p.0 r p.1 p.2

  -- an operand that is no name of an imported package, or isn't selected from
  pub unqualified_typed : (w e : Expr) (x : Post) (xs : List Post) → out-Expr w ≡ Expr-F.Primary e (x ∷ xs) → ((ns : Name × Name) → IsQualified E e x ns → ⊥)
      → (r : Result (Operand × Bool) ExprError) → UnqualifiedTyped E e (x ∷ xs) r → Types {A = Operand} E (HasForm E (Expr-F.Primary e (x ∷ xs))) (expression w ∷ []) r
  unqualified_typed w e x xs i none (Ok a) u = (has_primary u.3 (ran_posts E u.5), subst (λ (b : Bool). AreLoud E (expression w ∷ []) b) (sym u.6) (primary_loud E e w (x ∷ xs) u.0 a.0 u.1 u.2 i u.3 u.4 u.5))
  unqualified_typed w e x xs i none (Err NoMemory) u = tt
  unqualified_typed w e x xs i none (Err Untyped) u = λ r h. elim (ways h) [ inl p ↦ u p.0 r p.1 p.2 | inr m ↦ none m.names m.qualified ]

  pub renamed : {m n : Name} {k l : Name} {o : Operand} → m ≡ k → n ≡ l → ImportedWithin E m n o → ImportedWithin E k l o
  renamed {n = n} {k = k} {o = o} i j d = subst (λ (y : Name). ImportedWithin E k y o) j (subst (λ (y : Name). ImportedWithin E y n o) i d)

  -- a name of an imported package that is selected from
  pub qualified_typed : (w e : Expr) (x : Post) (xs : List Post) (q n : Name) → out-Expr w ≡ Expr-F.Primary e (x ∷ xs) → IsQualified E e x (q, n)
      → (r : Result (Operand × Bool) ExprError) → QualifiedTyped E q n xs r → Types {A = Operand} E (HasForm E (Expr-F.Primary e (x ∷ xs))) (expression w ∷ []) r
  qualified_typed w e x xs q n i y (Ok a) u = (has_imported y.0 y.1 u.1.0 u.1.1 (ran_posts E u.2), imported_loud E e w q n x u.0 a.0 xs a.1 i y.0 y.1 u.1 (selector_quiet E x n y.1) u.2)
  qualified_typed w e x xs q n i y (Err NoMemory) u = tt
  qualified_typed w e x xs q n i y (Err Untyped) u = λ r h. elim (ways h) [
    | inl p ↦ name_none q y.2 y.3 p.0 (named_in y.0 p.1)
    | inr m ↦ u m.operand r (renamed (one_name m.qualified.0 y.0) (one_selector m.qualified.1 y.1) m.object) m.posts
  ]

  -- ---- by the first post

  pub alone_at : (w e : Expr) (ps : List Post) → slice_get ps 0 ≡ None → out-Expr w ≡ Expr-F.Primary e ps → (r : Result (Operand × Bool) ExprError) → UnqualifiedTyped E e ps r → Types {A = Operand} E (HasForm E (Expr-F.Primary e ps)) (expression w ∷ []) r
  alone_at w e [] n i r u = alone_typed w e i r u
  alone_at w e (x ∷ xs) n i r u = absurd (none_some (sym n))

  pub unqualified_at : (w e : Expr) (ps : List Post) (x : Post) → slice_get ps 0 ≡ Some x → out-Expr w ≡ Expr-F.Primary e ps → ((ns : Name × Name) → IsQualified E e x ns → ⊥)
      → (r : Result (Operand × Bool) ExprError) → UnqualifiedTyped E e ps r → Types {A = Operand} E (HasForm E (Expr-F.Primary e ps)) (expression w ∷ []) r
  unqualified_at w e [] x n i none r u = absurd (none_some n)
  unqualified_at w e (y ∷ xs) x n i none r u = unqualified_typed w e y xs i (λ ns h. none ns (subst (λ (z : Post). IsQualified E e z ns) (one_some n) h)) r u

  pub qualified_at : (w e : Expr) (ps others : List Post) (x : Post) (q n : Name) → slice_get ps 0 ≡ Some x → others ≡ drop 1 ps → out-Expr w ≡ Expr-F.Primary e ps → IsQualified E e x (q, n)
      → (r : Result (Operand × Bool) ExprError) → QualifiedTyped E q n others r → Types {A = Operand} E (HasForm E (Expr-F.Primary e ps)) (expression w ∷ []) r
  qualified_at w e [] others x q n s d i y r u = absurd (none_some s)
  qualified_at w e (z ∷ xs) others x q n s d i y r u = qualified_typed w e z xs q n i (subst (λ (p : Post). IsQualified E e p (q, n)) (sym (one_some s)) y) r (subst (λ (ps : List Post). QualifiedTyped E q n ps r) d u)

-- the posts behind the first
pub behind_first : (ps : List Post) → take (length ps - 1) (drop 1 ps) ≡ drop 1 ps
behind_first [] = refl
behind_first (x ∷ xs) = let e : length (x ∷ xs) - 1 ≡ length xs = omega arith in ap (λ n. take n xs) e ∙ take_past (length xs) xs (omega arith)
