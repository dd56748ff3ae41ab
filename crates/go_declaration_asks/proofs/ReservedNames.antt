-- Names that only functions have, and functions that are called by themselves.
use Rattle.std.proofs.Common.{◌≡◌, ℕ, Bool, true, false, not, ◌||◌, List, sym, ◌∙◌, refl}
use Rattle.go_asks.proofs.go_operations_proofs.Typed.{true_false}
use Rattle.go_selectors.specs.Answers.{Decides}
use Rattle.go_syntax.specs.declared.declaration.Func.{Func}
use Rattle.go_syntax.specs.declared.name.Name.{Name}
use Rattle.go_typings.specs.DeclarationAsks.{IsBare}
use Rattle.go_typings.specs.Declarations.{is_init}
use Rattle.go_declaration_asks.specs.inner.Names.{IsBareWhereSpecial, IsFreeName, is_main_of}

module _ (p : List ℕ) (n : Name) where
  pub init_not_free : (a : Bool) → a ≡ true → a ≡ is_init n.text → IsFreeName p n → ⊥
  init_not_free a t s h = true_false (sym t ∙ s ∙ h.0)

  pub free_decided : (a : Bool) → a ≡ false → a ≡ is_init n.text → (m : Bool) → m ≡ is_main_of p n.text → Decides (not m) (IsFreeName p n)
  free_decided a f s true e = λ h. true_false (e ∙ h.1)
  free_decided a f s false e = (sym s ∙ f, sym e)

where_either : (i m : Bool) (B : Type 0) → (i || m) ≡ true → (b : Bool) → Decides b B → Decides b ((i ≡ true → B) × (m ≡ true → B))
where_either i m B e true d = ((λ t. d), (λ t. d))
where_either true m B e false none = λ h. none (h.0 refl)
where_either false m B e false none = λ h. none (h.1 e)

where_neither : (i m : Bool) (B : Type 0) → (i || m) ≡ false → (i ≡ true → B) × (m ≡ true → B)
where_neither true m B e = absurd (true_false e)
where_neither false m B e = ((λ t. absurd (true_false (sym t))), (λ t. absurd (true_false (sym t ∙ e))))

module _ (p : List ℕ) (f : Func) (s : Bool) (is : s ≡ (is_init f.name.text || is_main_of p f.name.text)) where
  pub bare_where_special : s ≡ true → (b : Bool) → Decides b (IsBare f.signature) → Decides b (IsBareWhereSpecial p f)
  bare_where_special t b d = where_either (is_init f.name.text) (is_main_of p f.name.text) (IsBare f.signature) (sym is ∙ t) b d

  pub not_special : s ≡ false → IsBareWhereSpecial p f
  not_special e = where_neither (is_init f.name.text) (is_main_of p f.name.text) (IsBare f.signature) (sym is ∙ e)
