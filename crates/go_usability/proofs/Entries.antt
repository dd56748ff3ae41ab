-- Whether a name has its entry, by what a look-up gave.
use Rattle.std.proofs.Common.{◌≡◌, Bool, true, false, not, Option, Some, None, sym, ap, ◌∙◌, subst, if◌then◌else◌}
use mathlib.Core.Bool.{true≢false}
use denote.Ref.{Bor}
use Rattle.go_model.specs.declared.types.names.Sel.{Sel}
use Rattle.go_model.specs.declared.types.names.TypeName.{TypeName}
use Rattle.go_model.specs.declared.types.package.Defined.{Defined}
use Rattle.go_model.specs.declared.types.term.Term.{Term-F}
use Rattle.go_model.specs.types.Tables.{entry_of}
use Rattle.go_model.specs.types.Terms.{is_error, error_type}
use Rattle.go_model.specs.types.Underlying.{entry}
use Rattle.go_rules.specs.Environments.{Env, EnteredLayer, ToldLayer, is_among}
use Rattle.go_types.specs.go_selectors.Answers.{Decides}

module _ (E : Env) (n : TypeName) where
  -- `error` has its entry
  pub error_had : (b : Bool) → b ≡ true → b ≡ is_error n → EnteredLayer E (Term-F.Named n)
  error_had b t e = (error_type, ap (λ (x : Bool). if x then Some error_type else E.table n) (sym e ∙ t))

  beside : (b : Bool) → b ≡ false → b ≡ is_error n → entry E.table n ≡ E.table n
  beside b f e = ap (λ (x : Bool). if x then Some error_type else E.table n) (sym e ∙ f)

  pub entry_had : (b : Bool) (o : Option (Bor Defined)) (d : Bor Defined) → b ≡ false → b ≡ is_error n → entry_of o ≡ E.table n → o ≡ Some d → EnteredLayer E (Term-F.Named n)
  entry_had b o d f e t i = (d.now, beside b f e ∙ sym t ∙ ap entry_of i)

  pub entry_none : (b : Bool) (o : Option (Bor Defined)) → b ≡ false → b ≡ is_error n → entry_of o ≡ E.table n → o ≡ None → EnteredLayer E (Term-F.Named n) → ⊥
  entry_none b o f e t i h = let k : ◌≡◌ {A = Option Defined} None (Some h.0) = sym (ap entry_of i) ∙ t ∙ sym (beside b f e) ∙ h.1 in absurd (cc)

  module _ (s : Sel) where
    pub told_none : (b : Bool) → b ≡ false → Decides b (EnteredLayer E (Term-F.Named n)) → ToldLayer E s (Term-F.Named n) → ⊥
    told_none b f d h = (subst (λ b. Decides b (EnteredLayer E (Term-F.Named n))) f d) (h.0, h.1)

    pub told_had : (b m : Bool) → b ≡ true → Decides b (EnteredLayer E (Term-F.Named n)) → m ≡ is_among s (E.missing n) → Decides (not m) (ToldLayer E s (Term-F.Named n))
    told_had b false t d e = let h : EnteredLayer E (Term-F.Named n) = subst (λ b. Decides b (EnteredLayer E (Term-F.Named n))) t d in (h.0, h.1, sym e)
    told_had b true t d e = λ h. true≢false (e ∙ h.2)
