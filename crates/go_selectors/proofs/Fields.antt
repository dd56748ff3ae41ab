-- A field that has its selector alone is found where it stands.
use Rattle.std.proofs.Common.{◌≡◌, ℕ, Bool, true, false, inl, inr, List, [], ◌∷◌, ◌++◌, map, refl, sym, ap, ◌∙◌, subst, arith, Option, if◌then◌else◌}
use Rattle.go_base.specs.Lists.{Has}
use Rattle.go_base.specs.Gathered.{gather}
use Rattle.go_model.specs.types.Tables.{Table}
use Rattle.go_model.specs.types.Terms.{same_sel}
use Rattle.go_model.specs.types.Underlying.{under, fields_of, methods_of, declared_methods}
use Rattle.go_model.specs.types.Selectors.{Spot, Ending, field, method, name_of, field_ending, declared_ending, method_ending, ends, FindsFrom}
use Rattle.go_model.specs.declared.types.names.Sel.{Sel}
use Rattle.go_model.specs.declared.types.names.TypeName.{TypeName}
use Rattle.go_model.specs.declared.types.found.Found.TheVariants as found
use Rattle.go_model.specs.declared.types.package.MethodOf.{MethodOf}
use Rattle.go_model.specs.declared.types.term.Term.{Term-F, out-Term}
use Rattle.go_model.specs.declared.types.term.Field.{Field, out-Field}
use Rattle.go_selectors.specs.Ways.{sel_of, IsAlone}
use Rattle.go_selectors.proofs.Lists.{gather-append, has-left, has-right}
use Rattle.go_selectors.proofs.Noting.{sel_is, sel_self}

abbrev pub method_sel_of : MethodOf → Sel
method_sel_of m = m.sel

-- items without the selector give no end
module _ {A : Type 0} (sel : A → Sel) (end : A → Ending) (s : Sel) where
  abbrev ending : A → List Ending
  ending x = if same_sel (sel x) s then end x ∷ [] else []

  pub none_ends : (xs : List A) → (Has (map sel xs) s → ⊥) → gather ending xs ≡ []
  none_ends [] n = refl
  none_ends (x ∷ xs) n = ap (λ b. (if b then end x ∷ [] else []) ++ gather ending xs) (by (same_sel (sel x) s) refl) ∙ none_ends xs (λ h. n (inr h))
    where
      by : (b : Bool) → same_sel (sel x) s ≡ b → same_sel (sel x) s ≡ false
      by true e = absurd (n (inl (sel_is (sel x) s e)))
      by false e = e

map_left : {A B : Type 0} (f : A → B) (xs ys : List A) (y : B) → Has (map f xs) y → Has (map f (xs ++ ys)) y
map_left f [] ys y h = absurd h
map_left f (x ∷ xs) ys y (inl e) = inl e
map_left f (x ∷ xs) ys y (inr h) = inr (map_left f xs ys y h)

map_right : {A B : Type 0} (f : A → B) (xs ys : List A) (y : B) → Has (map f ys) y → Has (map f (xs ++ ys)) y
map_right f [] ys y h = h
map_right f (x ∷ xs) ys y h = inr (map_right f xs ys y h)

abbrev pub end_of : Bool → Field → Ending
end_of through f = record { through = through; target = field (out-Field f).term }

-- the one field gives the one end
sole_field : (through : Bool) (fs : List Field) (f : Field) → IsAlone fs f → gather (field_ending (sel_of f) through) fs ≡ end_of through f ∷ []
sole_field through fs f a =
    ap (gather (field_ending (sel_of f) through)) a.is
    ∙ gather-append (field_ending (sel_of f) through) a.before (f ∷ a.after)
    ∙ ap (λ w. w ++ gather (field_ending (sel_of f) through) (f ∷ a.after)) (none_ends sel_of (end_of through) (sel_of f) a.before (λ h. a.none (map_left sel_of a.before a.after (sel_of f) h)))
    ∙ ap (λ b. (if b then end_of through f ∷ [] else []) ++ gather (field_ending (sel_of f) through) a.after) (sel_self (sel_of f))
    ∙ ap (λ w. end_of through f ∷ w) (none_ends sel_of (end_of through) (sel_of f) a.after (λ h. a.none (map_right sel_of a.before a.after (sel_of f) h)))

abbrev declared_end : Option TypeName → Bool → MethodOf → Ending
declared_end owner through m = record { through = through; target = method owner m.pointer m.signature }

module _ (T : Table) (at : Spot) (fs : List Field) (f : Field) (u : under T at.term ≡ Term-F.Struct fs) (a : IsAlone fs f) (n : Has (map method_sel_of (declared_methods T (out-Term at.term))) (sel_of f) → ⊥) where
  at_once : ends T (sel_of f) 0 at ≡ end_of at.through f ∷ []
  unfolding ends
  at_once =
      ap (λ l. gather (field_ending (sel_of f) at.through) (fields_of l) ++ gather (declared_ending (name_of (out-Term at.term)) (sel_of f) at.through) (declared_methods T (out-Term at.term)) ++ gather (method_ending (sel_of f) at.through) (methods_of l)) u
      ∙ ap (λ w. w ++ gather (declared_ending (name_of (out-Term at.term)) (sel_of f) at.through) (declared_methods T (out-Term at.term)) ++ []) (sole_field at.through fs f a)
      ∙ ap (λ w. end_of at.through f ∷ (w ++ [])) (none_ends method_sel_of (declared_end (name_of (out-Term at.term)) at.through) (sel_of f) (declared_methods T (out-Term at.term)) n)

  pub field_found : (hidden : Bool) → FindsFrom T (sel_of f) at hidden (found.FieldAt (record { term = (out-Field f).term; through_pointer = at.through; depth = 0 }))
  field_found hidden = (0, record { none = λ k l. absurd (omega arith); only = at_once }, refl)
