-- The type that a found method is declared for has its entry.
use Rattle.std.proofs.Common.{◌≡◌, ℕ, zero, suc, Bool, true, false, [], ◌∷◌, ◌++◌, Option, Some, None, refl, sym, ap, ◌∙◌, subst, inl, inr}
use Rattle.std.specs.Prelude.{if◌then◌else◌}
use Rattle.go_base.specs.Gathered.{gather}
use Rattle.go_base.specs.Lists.{Has}
use Rattle.go_base.proofs.Members.{gather_of, has_split}
use Rattle.go_typings.specs.go_model.declared.types.names.Sel.{Sel}
use Rattle.go_typings.specs.go_model.declared.types.names.TypeName.{TypeName}
use Rattle.go_typings.specs.go_model.declared.types.package.Defined.{Defined}
use Rattle.go_typings.specs.go_model.declared.types.package.MethodOf.{MethodOf}
use Rattle.go_typings.specs.go_model.declared.types.term.Field.{Field, out-Field}
use Rattle.go_typings.specs.go_model.declared.types.term.Method.{Method, out-Method}
use Rattle.go_typings.specs.go_model.declared.types.term.Term.{Term, Term-F, out-Term}
use Rattle.go_typings.specs.go_model.types.Selectors.{Ending, Spot, Target, declared_ending, ends, field, field_ending, method, method_ending, name_of, start, steps}
use Rattle.go_typings.specs.go_model.types.Tables.{Table}
use Rattle.go_typings.specs.go_model.types.Terms.{Layer, same_sel}
use Rattle.go_typings.specs.go_model.types.Underlying.{declared_methods, entry, fields_of, methods_of, methods_of_entry, under}
use Rattle.go_typings.specs.go_rules.Environments.{Env, Found}
use Rattle.go_typings.specs.go_rules.declared.operand.Operand.{Operand}
use Rattle.go_typings.specs.References.{FindsOf, finds_value, finds_expression}
use Rattle.go_typings.proofs.Cells.{none_some, some_once}

-- the type that what a path ends in is declared for
abbrev owner_of : Target → Option TypeName
owner_of (field t) = None
owner_of (method owner pointer g) = owner

abbrev ending_owner : Ending → Option TypeName
ending_owner e = owner_of e.target

if_has : (b : Bool) (x e : Ending) → Has (if b then x ∷ [] else []) e → x ≡ e
if_has true x e (inl p) = p
if_has true x e (inr h) = absurd h
if_has false x e h = absurd h

module _ (T : Table) (s : Sel) (owner : TypeName) where
  abbrev IsEntered : Type 0
  IsEntered = (d : Defined) × (entry T owner ≡ Some d)

  entry_with : (c : Option Defined) (m : MethodOf) → Has (methods_of_entry c) m → (d : Defined) × (c ≡ Some d)
  entry_with None m h = absurd h
  entry_with (Some d) m h = (d, refl)

  layer_entered : (l : Layer) (m : MethodOf) → name_of l ≡ Some owner → Has (declared_methods T l) m → IsEntered
  layer_entered (Term-F.Named n) m e h = let k = entry_with (entry T n) m h in (k.0, ap (entry T) (sym (some_once n owner e)) ∙ k.1)
  layer_entered l m e h = absurd h

  here : (at : Spot) (e : Ending) → ending_owner e ≡ Some owner → Has (gather (field_ending s at.through) (fields_of (under T at.term)) ++ gather (declared_ending (name_of (out-Term at.term)) s at.through) (declared_methods T (out-Term at.term)) ++ gather (method_ending s at.through) (methods_of (under T at.term))) e → IsEntered
  here at e o h = elim (has_split (gather (field_ending s at.through) (fields_of (under T at.term)) ++ gather (declared_ending (name_of (out-Term at.term)) s at.through) (declared_methods T (out-Term at.term))) (gather (method_ending s at.through) (methods_of (under T at.term))) e h) [
    | inl k ↦ elim (has_split (gather (field_ending s at.through) (fields_of (under T at.term))) (gather (declared_ending (name_of (out-Term at.term)) s at.through) (declared_methods T (out-Term at.term))) e k) [
      | inl j ↦ (let q = gather_of (field_ending s at.through) (fields_of (under T at.term)) e j in of_field q.0 (if_has (same_sel (out-Field q.0).sel s) _ e q.2))
      | inr j ↦ (let q = gather_of (declared_ending (name_of (out-Term at.term)) s at.through) (declared_methods T (out-Term at.term)) e j in layer_entered (out-Term at.term) q.0 (ap ending_owner (if_has (same_sel q.0.sel s) _ e q.2) ∙ o) q.1)
    ]
    | inr k ↦ (let q = gather_of (method_ending s at.through) (methods_of (under T at.term)) e k in of_method q.0 (if_has (same_sel (out-Method q.0).sel s) _ e q.2))
  ]
    where
      of_field : (f : Field) → record { through = at.through; target = field (out-Field f).term } ≡ e → IsEntered
      of_field f p = none_some (ending_owner (record { through = at.through; target = field (out-Field f).term })) owner refl (ap ending_owner p ∙ o)

      of_method : (m : Method) → record { through = at.through; target = method None false (out-Method m).signature } ≡ e → IsEntered
      of_method m p = none_some (ending_owner (record { through = at.through; target = method None false (out-Method m).signature })) owner refl (ap ending_owner p ∙ o)

  end_entered : (depth : ℕ) (at : Spot) (e : Ending) → ending_owner e ≡ Some owner → Has (ends T s depth at) e → IsEntered
  unfolding ends
  end_entered zero at e o h = here at e o h
  end_entered (suc depth) at e o h = let q = gather_of (ends T s depth) (steps T at) e h in end_entered depth q.0 e o q.2

found_entered : (E : Env) {s : Sel} {t : Term} {e : Ending} (owner : TypeName) → Found E s t e → ending_owner e ≡ Some owner → (d : Defined) × (entry E.table owner ≡ Some d)
found_entered E {s = s} {t = t} {e = e} owner f o = end_entered E.table s owner f.depth (start E.table t) e o (subst (λ xs. Has xs e) (sym f.only.only) (inl refl))

-- the type that a selector finds a method of has its entry
pub owner_entered : (E : Env) {o : Operand} {s : Sel} (owner : TypeName) → FindsOf E o s owner → (d : Defined) × (entry E.table owner ≡ Some d)
owner_entered E owner (finds_value h f c) = found_entered E owner f refl
owner_entered E owner (finds_expression e f c) = found_entered E owner f refl
