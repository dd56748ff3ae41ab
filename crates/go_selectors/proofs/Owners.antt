-- A found method is one of the methods that are declared for its owner, or an interface's.
use Rattle.std.proofs.Common.{◌≡◌, ℕ, zero, suc, Bool, true, false, inl, inr, List, [], ◌∷◌, ◌++◌, refl, sym, ap, ◌∙◌, subst, Option, Some, None, if◌then◌else◌}
use Rattle.go_base.specs.Lists.{Has}
use Rattle.go_base.specs.Gathered.{gather}
use Rattle.go_model.specs.types.Tables.{Table}
use Rattle.go_model.specs.types.Terms.{Layer, same_sel}
use Rattle.go_model.specs.types.Underlying.{entry, under, fields_of, methods_of, methods_of_entry, declared_methods}
use Rattle.go_model.specs.types.Selectors.{Spot, Ending, Target, field, method, name_of, field_ending, declared_ending, method_ending, steps, endings, ends, IsOnly}
use Rattle.go_model.specs.declared.types.names.Sel.{Sel}
use Rattle.go_model.specs.declared.types.names.TypeName.{TypeName}
use Rattle.go_model.specs.declared.types.package.MethodOf.{MethodOf}
use Rattle.go_model.specs.declared.types.term.Signature.{Signature}
use Rattle.go_model.specs.declared.types.term.Field.{Field, out-Field}
use Rattle.go_model.specs.declared.types.term.Method.{Method, out-Method}
use Rattle.go_model.specs.declared.types.term.Term.{Term-F, out-Term}
use Rattle.go_selectors.specs.Owners.{IsDeclaredFor}
use Rattle.go_selectors.proofs.Lists.{gather_of, has-split}
use Rattle.go_selectors.proofs.Noting.{sel_is}

abbrev OwnedTarget : Table → Sel → Target → Type 0
OwnedTarget T s (field t) = Unit {0}
OwnedTarget T s (method owner pointer g) = IsDeclaredFor T s owner pointer g

module _ (T : Table) (s : Sel) where
  abbrev OwnedEnd : Ending → Type 0
  OwnedEnd e = OwnedTarget T s e.target

  of_field : (through : Bool) (f : Field) (e : Ending) → Has (field_ending s through f) e → OwnedEnd e
  of_field through f e h = by (same_sel (out-Field f).sel s) h
    where
      by : (b : Bool) → Has (if b then record { through = through; target = field (out-Field f).term } ∷ [] else []) e → OwnedEnd e
      by true (inl i) = subst OwnedEnd i tt
      by true (inr n) = absurd n
      by false n = absurd n

  of_method : (through : Bool) (m : Method) (e : Ending) → Has (method_ending s through m) e → OwnedEnd e
  of_method through m e h = by (same_sel (out-Method m).sel s) h
    where
      by : (b : Bool) → Has (if b then record { through = through; target = method None false (out-Method m).signature } ∷ [] else []) e → OwnedEnd e
      by true (inl i) = subst OwnedEnd i refl
      by true (inr n) = absurd n
      by false n = absurd n

  of_declared : (l : Layer) (through : Bool) (m : MethodOf) (e : Ending) → Has (declared_methods T l) m → Has (declared_ending (name_of l) s through m) e → OwnedEnd e
  of_declared l through m e d h = by (same_sel m.sel s) refl h
    where
      named : (k : Layer) → Has (declared_methods T k) m → m.sel ≡ s → IsDeclaredFor T s (name_of k) m.pointer m.signature
      named (Term-F.Named n) h i = subst (λ (x : Sel). Has (methods_of_entry (entry T n)) (record { sel = x; pointer = m.pointer; signature = m.signature })) i h
      named (Term-F.Plain b) h i = absurd h
      named (Term-F.Pointer b) h i = absurd h
      named (Term-F.Slice b) h i = absurd h
      named (Term-F.Array k b) h i = absurd h
      named (Term-F.Map k b) h i = absurd h
      named (Term-F.Chan k b) h i = absurd h
      named (Term-F.Func g) h i = absurd h
      named (Term-F.Struct fs) h i = absurd h
      named (Term-F.Interface ms) h i = absurd h

      by : (b : Bool) → same_sel m.sel s ≡ b → Has (if b then record { through = through; target = method (name_of l) m.pointer m.signature } ∷ [] else []) e → OwnedEnd e
      by true i (inl j) = subst OwnedEnd j (named l d (sel_is m.sel s i))
      by true i (inr n) = absurd n
      by false i n = absurd n

  of_endings : (at : Spot) (e : Ending) → Has (endings T s at) e → OwnedEnd e
  of_endings at e h =
      let fs = gather (field_ending s at.through) (fields_of (under T at.term)) in
      let ds = gather (declared_ending (name_of (out-Term at.term)) s at.through) (declared_methods T (out-Term at.term)) in
      let ms = gather (method_ending s at.through) (methods_of (under T at.term)) in
      elim (has-split (fs ++ ds) ms e h) [
        | inl a ↦ elim (has-split fs ds e a) [
          | inl b ↦ (let k = gather_of (field_ending s at.through) (fields_of (under T at.term)) e b in of_field at.through k.0 e k.2)
          | inr b ↦ (let k = gather_of (declared_ending (name_of (out-Term at.term)) s at.through) (declared_methods T (out-Term at.term)) e b in of_declared (out-Term at.term) at.through k.0 e k.1 k.2)
        ]
        | inr c ↦ (let k = gather_of (method_ending s at.through) (methods_of (under T at.term)) e c in of_method at.through k.0 e k.2)
      ]

  of_ends : (depth : ℕ) (at : Spot) (e : Ending) → Has (ends T s depth at) e → OwnedEnd e
  unfolding ends
  of_ends zero at e h = of_endings at e h
  of_ends (suc depth) at e h = let k = gather_of (ends T s depth) (steps T at) e h in of_ends depth k.0 e k.2

  pub owned : (at : Spot) (depth : ℕ) (through : Bool) (owner : Option TypeName) (pointer : Bool) (g : Signature) → IsOnly T s at depth (record { through = through; target = method owner pointer g }) → IsDeclaredFor T s owner pointer g
  owned at depth through owner pointer g o = of_ends depth at _ (subst (λ (w : List Ending). Has w (record { through = through; target = method owner pointer g })) (sym o.only) (inl refl))
