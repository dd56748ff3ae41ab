-- Tables of fields by their selectors, field by field, and what one says of a selector.
use Rattle.std.proofs.Common.{◌≡◌, List, [], ◌∷◌, refl, sym, ap, ◌∙◌, subst, inl, inr, Bool, true, false, cond, Option, Some, None}
use mathlib.Core.Bool.{true≢false}
use Rattle.std.specs.Prelude.{if◌then◌else◌}
use Rattle.std.specs.BTreeMap.{Updates, get}
use Rattle.std.specs.Ordering.{is_eq}
use denote.Ref.{Bor}
use Rattle.go_base.specs.Keys.{item_of}
use Rattle.go_base.specs.Lists.{Has as In}
use Rattle.go_model.specs.declared.types.names.Sel.{Sel}
use Rattle.go_model.specs.declared.types.term.Field.{Field, out-Field}
use Rattle.go_model.specs.types.Members.{field_sel}
use Rattle.go_model.specs.types.MethodSets.{sel_order}
use Rattle.go_model.specs.types.Terms.{same_sel}
use Rattle.go_rules.specs.Environments.{Env}
use Rattle.go_rules.specs.Usability.{UsableAs}
use Rattle.go_rules.specs.declared.operand.Operand.{Operand}
use Rattle.go_selectors.specs.Answers.{Decides}
use Rattle.go_selectors.proofs.Noting.{eq_same, sel_self}
use Rattle.go_operations.proofs.Typed.{none_some, one_some}
use Rattle.go_literals.specs.Elements.{Takes}
use Rattle.go_literals.specs.inner.FieldTables.{AreTabled, FieldTable, Puts, field_at, first_with}

-- ---- a table

put_by : (b : Bool) (f : Bor Field) (o : Option (Bor Field)) → item_of (cond b (Some f) o) ≡ cond b (Some f.now) (item_of o)
put_by true f o = refl
put_by false f o = refl

pub puts_insert : (old new : FieldTable) (k : Sel) (f : Bor Field) → k ≡ field_sel f.now → Updates sel_order old new k (Some f) → Puts old new f.now
puts_insert old new k f e u s = ap item_of (u.0 s) ∙ put_by (is_eq (sel_order k s)) f (get sel_order old s) ∙ ap (λ (b : Bool). cond b (Some f.now) (field_at old s)) (eq_same k s ∙ ap (λ (z : Sel). same_sel z s) e)

-- ---- the first field with a selector

first_by : (f x : Field) (fs : List Field) (s : Sel) (b : Bool) → (first_with fs s ≡ Some x → In fs x) → (if b then Some f else first_with fs s) ≡ Some x → In (f ∷ fs) x
first_by f x fs s true rest e = inl (one_some e)
first_by f x fs s false rest e = inr (rest e)

first_has : (fs : List Field) (s : Sel) (x : Field) → first_with fs s ≡ Some x → In fs x
first_has [] s x e = absurd (none_some e)
first_has (f ∷ fs) s x e = first_by f x fs s (same_sel (field_sel f) s) (first_has fs s x) e

none_by : (f x : Field) (fs : List Field) (s : Sel) (b : Bool) → same_sel (field_sel f) s ≡ b → field_sel x ≡ s → (first_with fs s ≡ None → In fs x → ⊥) → (if b then Some f else first_with fs s) ≡ None → In (f ∷ fs) x → ⊥
none_by f x fs s true h k rest e i = none_some (sym e)
none_by f x fs s false h k rest e (inl j) = true≢false (sym (subst (λ (z : Sel). same_sel z s ≡ true) (sym (ap field_sel j ∙ k)) (sel_self s)) ∙ h)
none_by f x fs s false h k rest e (inr i) = rest e i

first_none : (fs : List Field) (s : Sel) (x : Field) → field_sel x ≡ s → first_with fs s ≡ None → In fs x → ⊥
first_none [] s x k e i = absurd i
first_none (f ∷ fs) s x k e i = none_by f x fs s (same_sel (field_sel f) s) refl k (first_none fs s x k) e i

module _ (E : Env) (fs : List Field) (m : FieldTable) (s : Sel) (o : Operand) (a : AreTabled fs m) where
  pub tabled_some : (f : Field) (b : Bool) → Some f ≡ field_at m s → b ≡ true → Decides b ((field_sel f ≡ s) × UsableAs E o (out-Field f).term) → Takes E fs s o
  tabled_some f b e t d = let y = subst (λ b. Decides b ((field_sel f ≡ s) × UsableAs E o (out-Field f).term)) t d in (f, first_has fs s f (sym (a s) ∙ sym e), y.0, y.1)

  pub tabled_none : None ≡ field_at m s → Takes E fs s o → ⊥
  tabled_none e t = first_none fs s t.0 t.2 (sym (a s) ∙ sym e) t.1
