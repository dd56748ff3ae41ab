-- What a method is asked, fact by fact.
use Rattle.std.proofs.Common.{◌≡◌, ℕ, Bool, true, false, List, Option, Some, None, sym, ◌∙◌, subst}
use Rattle.go_model.specs.declared.types.package.Defined.{Defined}
use Rattle.go_model.specs.declared.types.term.Term.{out-Term}
use Rattle.go_model.specs.types.Terms.{Layer}
use Rattle.go_model.specs.worlds.Worlds.{bars_methods}
use Rattle.go_rules.specs.Environments.{Env}
use Rattle.go_rules.specs.Expressions.{is_blank}
use Rattle.go_rules.proofs.OneName.{none_some, one_some}
use Rattle.go_asks.proofs.go_operations_proofs.Typed.{true_false}
use Rattle.go_selectors.specs.Answers.{Decides}
use Rattle.go_syntax.specs.declared.declaration.Func.{Func}
use Rattle.go_syntax.specs.declared.types.ParameterDecl.{ParameterDecl}
use Rattle.go_typings.specs.DeclarationAsks.{IsApart}
use Rattle.go_declaration_asks.specs.declared.base.Base.{Base}
use Rattle.go_declaration_asks.specs.inner.MethodsOf.{HasDistinctNames, IsFreeIn, IsMethodOf, PermitsMethod}

-- ---- names in a type

module _ (b : Base) (l : Layer) (name : List ℕ) where
  pub free_blank : (c : Bool) → c ≡ true → c ≡ is_blank name → IsFreeIn b l name
  free_blank c t s = ((λ e. absurd (true_false (sym t ∙ s ∙ e))), (λ e. absurd (true_false (sym t ∙ s ∙ e))))

  pub not_only : (c : Bool) → c ≡ false → c ≡ is_blank name → b.is_only ≡ false → IsFreeIn b l name → ⊥
  not_only c f s o h = true_false (sym (h.0 (sym s ∙ f)) ∙ o)

  pub only_apart : (c : Bool) → c ≡ false → c ≡ is_blank name → b.is_only ≡ true → (a : Bool) → Decides a (IsApart l name) → Decides a (IsFreeIn b l name)
  only_apart c f s o true a = ((λ e. o), (λ e. a))
  only_apart c f s o false none = λ h. none (h.1 (sym s ∙ f))

  pub barred : (c : Bool) → c ≡ true → c ≡ bars_methods l → PermitsMethod b l name → ⊥
  barred c t s h = true_false (sym t ∙ s ∙ h.0)

  pub permitted : (c : Bool) → c ≡ false → c ≡ bars_methods l → (a : Bool) → Decides a (IsFreeIn b l name) → Decides a (PermitsMethod b l name)
  permitted c f s true a = (sym s ∙ f, a)
  permitted c f s false none = λ h. none h.1

-- ---- methods

module _ (E : Env) (b : Base) (receiver : ParameterDecl) (f : Func) (r : Option Defined) (table : r ≡ E.table (record { path = E.path; name = b.name.now })) where
  pub method_undefined : r ≡ None → IsMethodOf E b receiver f → ⊥
  method_undefined e m = none_some (sym e ∙ table ∙ m.entry)

  pub method_barred : (d : Defined) → r ≡ Some d → (c : Bool) → c ≡ false → Decides c (PermitsMethod b (out-Term d.underlying) f.name.text) → IsMethodOf E b receiver f → ⊥
  method_barred d e c t p m =
      let none : PermitsMethod b (out-Term d.underlying) f.name.text → ⊥ = subst (λ answer. Decides answer (PermitsMethod b (out-Term d.underlying) f.name.text)) t p in
      none (subst (λ (x : Defined). PermitsMethod b (out-Term x.underlying) f.name.text) (one_some (sym m.entry ∙ sym table ∙ e)) m.permits)

  method_made : (d : Defined) → r ≡ Some d → PermitsMethod b (out-Term d.underlying) f.name.text → (n : Bool) → Decides n (HasDistinctNames receiver f) → Decides n (IsMethodOf E b receiver f)
  method_made d e p true a = record { defined = d; entry = sym table ∙ e; permits = p; distinct = a }
  method_made d e p false none = λ m. none m.distinct

  pub method_decided : (d : Defined) → r ≡ Some d → (c : Bool) → c ≡ true → Decides c (PermitsMethod b (out-Term d.underlying) f.name.text) → (n : Bool) → Decides n (HasDistinctNames receiver f) → Decides n (IsMethodOf E b receiver f)
  method_decided d e c t p n a = method_made d e (subst (λ answer. Decides answer (PermitsMethod b (out-Term d.underlying) f.name.text)) t p) n a
