-- The names of types that lead by aliases of a package to a name of another package.
use Rattle.std.proofs.Common.{◌≡◌, ◌⊎◌, inl, inr, ℕ, zero, suc, ◌≤◌, true, List, refl, ap, ◌∙◌, Option, Some, None, arith}
use Rattle.std.specs.Prelude.{is_some}
use Rattle.go_syntax.specs.declared.name.Name.{Name}
use Rattle.go_syntax.specs.declared.name.QualifiedName.{QualifiedName}
use Rattle.go_typings.specs.Declarations.{Declaration}
use Rattle.go_typings.specs.Receivers.{next_or, own_aliased, unaliased}

module _ (ds : List Declaration) where
  -- a name with a qualifier, or one that so many aliases lead to one
  abbrev pub Ends : ℕ → QualifiedName → Type 0
  Ends zero q = is_some q.qualifier ≡ true
  Ends (suc n) q = (is_some q.qualifier ≡ true) ⊎ ((next : QualifiedName) × (own_aliased ds q.qualifier q.name ≡ Some next) × Ends n next)

  abbrev pub EndsBy : ℕ → Option QualifiedName → Type 0
  EndsBy n None = ⊥
  EndsBy n (Some q) = Ends n q

  pub ends_here : (n : ℕ) (q : QualifiedName) → is_some q.qualifier ≡ true → Ends n q
  ends_here zero q e = e
  ends_here (suc n) q e = inl e

  pub ends_sooner : (m n : ℕ) (q : QualifiedName) → m ≤ n → Ends m q → Ends n q
  ends_sooner zero n q l e = ends_here n q e
  ends_sooner (suc m) zero q l e = absurd (omega (arith, l))
  ends_sooner (suc m) (suc n) q l (inl e) = inl e
  ends_sooner (suc m) (suc n) q l (inr (next, e, h)) = inr (next, e, ends_sooner m n next (omega (arith, l)) h)

  pub ends_sooner_by : (m n : ℕ) (q : Option QualifiedName) → m ≤ n → EndsBy m q → EndsBy n q
  ends_sooner_by m n None l h = absurd h
  ends_sooner_by m n (Some q) l h = ends_sooner m n q l h

  qualified_alone : (o : Option Name) (name : Name) → is_some o ≡ true → own_aliased ds o name ≡ None
  qualified_alone None name e = absurd (cc)
  qualified_alone (Some x) name e = refl

  done : (n : ℕ) (q : QualifiedName) → own_aliased ds q.qualifier q.name ≡ None → unaliased ds n q ≡ q
  unfolding unaliased
  done zero q e = refl
  done (suc n) q e = ap (λ o. next_or q o (unaliased ds n)) e

  more : (n : ℕ) (q next : QualifiedName) → own_aliased ds q.qualifier q.name ≡ Some next → unaliased ds (suc n) q ≡ unaliased ds n next
  unfolding unaliased
  more n q next e = ap (λ o. next_or q o (unaliased ds n)) e

  qualified_after : (n : ℕ) (q : QualifiedName) → is_some q.qualifier ≡ true → is_some (unaliased ds n q).qualifier ≡ true
  qualified_after n q e = ap (λ (x : QualifiedName). is_some x.qualifier) (done n q (qualified_alone q.qualifier q.name e)) ∙ e

  pub ends_after : (m n : ℕ) (q : QualifiedName) → m ≤ n → Ends m q → is_some (unaliased ds n q).qualifier ≡ true
  ends_after zero n q l e = qualified_after n q e
  ends_after (suc m) zero q l e = absurd (omega (arith, l))
  ends_after (suc m) (suc n) q l (inl e) = qualified_after (suc n) q e
  ends_after (suc m) (suc n) q l (inr (next, e, h)) = ap (λ (x : QualifiedName). is_some x.qualifier) (more n q next e) ∙ ends_after m n next (omega (arith, l)) h
