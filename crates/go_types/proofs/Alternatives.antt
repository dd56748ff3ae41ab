-- A relation by cases, once each case was tried.
use Rattle.std.proofs.Common.{◌≡◌, ◌↔◌, IsTrue, Bool, true, false, sym, ◌∙◌, subst}
use mathlib.Core.Bool.{true≢false}
use Rattle.go_model.specs.types.Tables.{Table}
use Rattle.go_model.specs.declared.types.term.Term.{Term}
use Rattle.go_selectors.specs.Answers.{Decides}
use Rattle.go_model.specs.types.MethodSets.{Implements}
use Rattle.go_model.specs.types.Assignability.{UnderlyingAssigns, ChannelAssigns, Assignable, assign_identical, assign_underlying, assign_interface, assign_channel}
use Rattle.go_model.specs.types.Conversions.{UnderlyingConverts, PointerConverts, Convertible, convert_assignable, convert_underlying, convert_pointer, convert_basic, basics_convert}

pub denied : {P : Type 0} (b : Bool) → b ≡ false → (IsTrue b ↔ P) → P → ⊥
denied b f i p = true≢false (sym (i.1 p) ∙ f)

pub refused : {P : Type 0} (b : Bool) → b ≡ false → Decides b P → P → ⊥
refused {P} b f d = subst (λ b. Decides b P) f d

module _ (T : Table) (profile : Bool) (from to : Term) where
  pub assigned : (answer : Bool) → (from ≡ to → ⊥) → (UnderlyingAssigns T profile from to → ⊥) → (ChannelAssigns T from to → ⊥) → Decides answer (Implements T from to) → Decides answer (Assignable T profile from to)
  assigned true a b c d = assign_interface d
  assigned false a b c d = none
    where
      none : Assignable T profile from to → ⊥
      none (assign_identical x) = a x
      none (assign_underlying x) = b x
      none (assign_interface x) = d x
      none (assign_channel x) = c x

  pub converted : (answer : Bool) → basics_convert T from to ≡ false → (UnderlyingConverts T profile from to → ⊥) → (PointerConverts T profile from to → ⊥) → Decides answer (Assignable T profile from to) → Decides answer (Convertible T profile from to)
  converted true a b c d = convert_assignable d
  converted false a b c d = none
    where
      none : Convertible T profile from to → ⊥
      none (convert_assignable x) = d x
      none (convert_underlying x) = b x
      none (convert_pointer x) = c x
      none (convert_basic x) = true≢false (sym x ∙ a)
