-- Two tables that agree on a set of names which is closed under the table give the same answers.
use Rattle.std.proofs.Common.{◌≡◌, ℕ, Bool, true, false, ◌||◌, ◌&&◌, inl, inr, List, [], ◌∷◌, ◌++◌, map, refl, sym, ap, ◌∙◌, subst, Option, Some, None, if◌then◌else◌}
use Rattle.go_selectors.specs.go_base.Lists.{Has}
use Rattle.go_selectors.specs.go_base.Gathered.{gather}
use Rattle.go_model.specs.types.Tables.{Table}
use Rattle.std.specs.List.{filter}
use Rattle.go_model.specs.types.Terms.{Layer, same_sel}
use Rattle.go_model.specs.types.TypeNames.{Names, names, name_step, field_names, method_names, parameter_names, all_of}
use Rattle.go_model.specs.types.Underlying.{entry, under, under_layer, under_entry, fields_of, declared_methods, methods_of_entry}
use Rattle.go_model.specs.declared.types.names.TypeName.{TypeName}
use Rattle.go_model.specs.declared.types.names.Sel.{Sel}
use Rattle.go_model.specs.declared.types.package.Defined.{Defined}
use Rattle.go_model.specs.declared.types.found.Found.{Found}
use Rattle.go_model.specs.declared.types.term.Signature.{Signature}
use Rattle.go_model.specs.declared.types.term.Term.{Term, Term-F, out-Term, roll-Term, roll-out-Term, fold-roll-Term}
use Rattle.go_model.specs.declared.types.term.Field.{Field, out-Field, fold-Field, fold_out-Field}
use Rattle.go_model.specs.declared.types.term.Method.{out-Method}
use Rattle.go_model.specs.types.Selectors.{Spot, step, steps, ends, start, start_layer, start_pointer, start_named, is_pointer, base_of, base_layer, Finds}
use Rattle.go_model.specs.types.MethodSets.{InSet, Implements}
use Rattle.go_model.specs.types.Comparison.{LeadsToIncomparable, at_slice, at_map, at_func, in_array, in_struct, Comparable}
use Rattle.go_model.specs.types.Imports.{is_imported_struct, is_imported_open, imported_struct, imported_interface}
use Rattle.go_model.specs.types.Tags.{untagged}
use Rattle.go_model.specs.types.Assignability.{Assignable, assign_identical, assign_underlying, assign_interface, assign_channel, AreChannels}
use Rattle.go_model.specs.types.Conversions.{Convertible, convert_assignable, convert_underlying, convert_pointer, convert_basic, UnderlyingConverts, is_characters, is_text, is_character, both_basic, basics_convert}
use Rattle.go_selectors.specs.Ways.{OnWay, here, further, AgreeAt, AgreeFrom, AgreeIn}
use Rattle.go_selectors.proofs.Ways.{ends_agree, finds_agree, set_agrees}
use Rattle.go_types.specs.Regions.{Within, AgreeOn, IsClosed}
use Rattle.go_selectors.proofs.Lists.{gather_of, has-left, has-right}

-- the names of parts are names of the whole
has_all : {A : Type 0} (f : A → Names) (xs : List A) (x : A) (n : TypeName) → Has xs x → Has (f x) n → Has (all_of (map f xs)) n
has_all f [] x n h k = absurd h
has_all {A} f (y ∷ xs) x n (inl e) k = has-left (f y) (all_of (map f xs)) n (subst (λ (w : A). Has (f w) n) (sym e) k)
has_all f (y ∷ xs) x n (inr h) k = has-right (f y) (all_of (map f xs)) n (has_all f xs x n h k)

name_stands : (n : TypeName) → Has (names (roll-Term (Term-F.Named n))) n
name_stands n = subst (λ (w : Names). Has w n) (sym (fold-roll-Term Names Names Names Names name_step field_names method_names parameter_names (Term-F.Named n))) (inl refl)

base_names : (e : Term) (n : TypeName) → Has (names e) n → Has (names (roll-Term (Term-F.Pointer e))) n
base_names e n h = subst (λ (w : Names). Has w n) (sym (fold-roll-Term Names Names Names Names name_step field_names method_names parameter_names (Term-F.Pointer e))) h

slice_names : (e : Term) (n : TypeName) → Has (names e) n → Has (names (roll-Term (Term-F.Slice e))) n
slice_names e n h = subst (λ (w : Names). Has w n) (sym (fold-roll-Term Names Names Names Names name_step field_names method_names parameter_names (Term-F.Slice e))) h

element_names : (k : ℕ) (e : Term) (n : TypeName) → Has (names e) n → Has (names (roll-Term (Term-F.Array k e))) n
element_names k e n h = subst (λ (w : Names). Has w n) (sym (fold-roll-Term Names Names Names Names name_step field_names method_names parameter_names (Term-F.Array k e))) h

field_has : (fs : List Field) (f : Field) (n : TypeName) → Has fs f → Has (names (out-Field f).term) n → Has (names (roll-Term (Term-F.Struct fs))) n
field_has fs f n h k = subst (λ (w : Names). Has w n) (sym (fold-roll-Term Names Names Names Names name_step field_names method_names parameter_names (Term-F.Struct fs)))
    (has_all (fold-Field Names Names Names Names name_step field_names method_names parameter_names) fs f n h (subst (λ (w : Names). Has w n) (sym (fold_out-Field Names Names Names Names name_step field_names method_names parameter_names f)) k))

module _ (P : TypeName → Bool) where
  rolled : (t : Term) (l : Layer) → out-Term t ≡ l → Within P t → Within P (roll-Term l)
  rolled t l e w = subst (Within P) (sym (roll-out-Term t) ∙ ap roll-Term e) w

  base_within : (t : Term) → Within P t → Within P (base_of t)
  base_within t w = by (out-Term t) refl
    where
      by : (l : Layer) → out-Term t ≡ l → Within P (base_layer t l)
      by (Term-F.Plain b) e = w
      by (Term-F.Named n) e = w
      by (Term-F.Pointer b) e = λ n h. rolled t (Term-F.Pointer b) e w n (base_names b n h)
      by (Term-F.Slice b) e = w
      by (Term-F.Array k b) e = w
      by (Term-F.Map k b) e = w
      by (Term-F.Chan d b) e = w
      by (Term-F.Func g) e = w
      by (Term-F.Struct fs) e = w
      by (Term-F.Interface ms) e = w

  named_within : (t : Term) (n : TypeName) → out-Term t ≡ Term-F.Named n → Within P t → P n ≡ true
  named_within t n e w = rolled t (Term-F.Named n) e w n (name_stands n)

  module _ (A B : Table) (same : AgreeOn P A B) where
    under_same : (t : Term) → Within P t → under A t ≡ under B t
    under_same t w = by (out-Term t) refl
      where
        by : (l : Layer) → out-Term t ≡ l → under_layer A l ≡ under_layer B l
        by (Term-F.Plain b) e = refl
        by (Term-F.Named n) e = ap (under_entry n) (same n (named_within t n e w))
        by (Term-F.Pointer b) e = refl
        by (Term-F.Slice b) e = refl
        by (Term-F.Array k b) e = refl
        by (Term-F.Map k b) e = refl
        by (Term-F.Chan d b) e = refl
        by (Term-F.Func g) e = refl
        by (Term-F.Struct fs) e = refl
        by (Term-F.Interface ms) e = refl

    declared_same : (t : Term) → Within P t → declared_methods A (out-Term t) ≡ declared_methods B (out-Term t)
    declared_same t w = by (out-Term t) refl
      where
        by : (l : Layer) → out-Term t ≡ l → declared_methods A l ≡ declared_methods B l
        by (Term-F.Plain b) e = refl
        by (Term-F.Named n) e = ap methods_of_entry (same n (named_within t n e w))
        by (Term-F.Pointer b) e = refl
        by (Term-F.Slice b) e = refl
        by (Term-F.Array k b) e = refl
        by (Term-F.Map k b) e = refl
        by (Term-F.Chan d b) e = refl
        by (Term-F.Func g) e = refl
        by (Term-F.Struct fs) e = refl
        by (Term-F.Interface ms) e = refl

    module _ (closed : IsClosed P A) where
      entry_within : (n : TypeName) (o : Option Defined) → P n ≡ true → entry A n ≡ o → Within P (roll-Term (Term-F.Named n)) → Within P (roll-Term (under_entry n o))
      entry_within n None h e w = w
      entry_within n (Some d) h e w = subst (Within P) (sym (roll-out-Term d.underlying)) (closed n d h e).underneath

      under_within : (t : Term) (l : Layer) → under A t ≡ l → Within P t → Within P (roll-Term l)
      under_within t l u w = subst (λ (k : Layer). Within P (roll-Term k)) u (by (out-Term t) refl)
        where
          by : (k : Layer) → out-Term t ≡ k → Within P (roll-Term (under_layer A k))
          by (Term-F.Plain b) e = rolled t (Term-F.Plain b) e w
          by (Term-F.Named n) e = entry_within n (entry A n) (named_within t n e w) refl (rolled t (Term-F.Named n) e w)
          by (Term-F.Pointer b) e = rolled t (Term-F.Pointer b) e w
          by (Term-F.Slice b) e = rolled t (Term-F.Slice b) e w
          by (Term-F.Array k b) e = rolled t (Term-F.Array k b) e w
          by (Term-F.Map k b) e = rolled t (Term-F.Map k b) e w
          by (Term-F.Chan d b) e = rolled t (Term-F.Chan d b) e w
          by (Term-F.Func g) e = rolled t (Term-F.Func g) e w
          by (Term-F.Struct fs) e = rolled t (Term-F.Struct fs) e w
          by (Term-F.Interface ms) e = rolled t (Term-F.Interface ms) e w

      field_within : (t : Term) (fs : List Field) (f : Field) → under A t ≡ Term-F.Struct fs → Has fs f → Within P t → Within P (out-Field f).term
      field_within t fs f u h w = λ n k. under_within t (Term-F.Struct fs) u w n (field_has fs f n h k)

      step_within : (through : Bool) (f : Field) (at : Spot) → Within P (out-Field f).term → Has (step through f) at → Within P at.term
      step_within through f at w h = by (out-Field f).embedded h
        where
          by : (b : Bool) → Has (if b then record { through = through || is_pointer (out-Field f).term; term = base_of (out-Field f).term } ∷ [] else []) at → Within P at.term
          by true (inl e) = subst (λ (s : Spot). Within P s.term) e (base_within (out-Field f).term w)
          by true (inr k) = absurd k
          by false k = absurd k

      fields_within : (t : Term) (l : Layer) (f : Field) → under A t ≡ l → Has (fields_of l) f → Within P t → Within P (out-Field f).term
      fields_within t (Term-F.Struct fs) f u h w = field_within t fs f u h w
      fields_within t (Term-F.Plain b) f u h w = absurd h
      fields_within t (Term-F.Named b) f u h w = absurd h
      fields_within t (Term-F.Pointer b) f u h w = absurd h
      fields_within t (Term-F.Slice b) f u h w = absurd h
      fields_within t (Term-F.Array k b) f u h w = absurd h
      fields_within t (Term-F.Map k b) f u h w = absurd h
      fields_within t (Term-F.Chan d b) f u h w = absurd h
      fields_within t (Term-F.Func b) f u h w = absurd h
      fields_within t (Term-F.Interface b) f u h w = absurd h

      steps_within : (at next : Spot) → Within P at.term → Has (steps A at) next → Within P next.term
      steps_within at next w h = let k = gather_of (step at.through) (fields_of (under A at.term)) next h in step_within at.through k.0 next (fields_within at.term (under A at.term) k.0 refl k.1 w) k.2

      start_pointer_within : (t base : Term) (l : Layer) → Within P t → Within P base → Within P (start_pointer t base l).term
      start_pointer_within t base (Term-F.Plain b) w v = v
      start_pointer_within t base (Term-F.Named n) w v = v
      start_pointer_within t base (Term-F.Pointer b) w v = w
      start_pointer_within t base (Term-F.Slice b) w v = v
      start_pointer_within t base (Term-F.Array k b) w v = v
      start_pointer_within t base (Term-F.Map k b) w v = v
      start_pointer_within t base (Term-F.Chan d b) w v = v
      start_pointer_within t base (Term-F.Func g) w v = v
      start_pointer_within t base (Term-F.Struct fs) w v = v
      start_pointer_within t base (Term-F.Interface ms) w v = w

      start_named_within : (t : Term) (l : Layer) → Within P t → under A t ≡ l → Within P (start_named t l).term
      start_named_within t (Term-F.Plain b) w e = w
      start_named_within t (Term-F.Named n) w e = w
      start_named_within t (Term-F.Pointer b) w e = λ n h. under_within t (Term-F.Pointer b) e w n (base_names b n h)
      start_named_within t (Term-F.Slice b) w e = w
      start_named_within t (Term-F.Array k b) w e = w
      start_named_within t (Term-F.Map k b) w e = w
      start_named_within t (Term-F.Chan d b) w e = w
      start_named_within t (Term-F.Func g) w e = w
      start_named_within t (Term-F.Struct fs) w e = w
      start_named_within t (Term-F.Interface ms) w e = w

      start_within : (t : Term) → Within P t → Within P (start A t).term
      start_within t w = by (out-Term t) refl
        where
          by : (l : Layer) → out-Term t ≡ l → Within P (start_layer A t l).term
          by (Term-F.Plain b) e = w
          by (Term-F.Named n) e = start_named_within t (under A t) w refl
          by (Term-F.Pointer b) e = start_pointer_within t b (under A b) w (λ n h. rolled t (Term-F.Pointer b) e w n (base_names b n h))
          by (Term-F.Slice b) e = w
          by (Term-F.Array k b) e = w
          by (Term-F.Map k b) e = w
          by (Term-F.Chan d b) e = w
          by (Term-F.Func g) e = w
          by (Term-F.Struct fs) e = w
          by (Term-F.Interface ms) e = w

      way_within : (at x : Spot) → Within P at.term → OnWay A at x → Within P x.term
      way_within at x w here = w
      way_within at x w (further {next = next} i o) = way_within next x (steps_within at next w i) o

      agree_at : (s : Sel) (t : Term) → Within P t → AgreeAt s A B t
      agree_at s t w = record { underneath = under_same t w; methods = ap (filter (λ m. same_sel m.sel s)) (declared_same t w) }

      pub agree_from : (s : Sel) (at : Spot) → Within P at.term → AgreeFrom s A B at
      agree_from s at w x o = agree_at s x.term (way_within at x w o)

      pub agree_in : (s : Sel) (t : Term) → Within P t → AgreeIn s A B t
      agree_in s t w = record { base = under_same (base_of t) (base_within t w); way = agree_from s (start A t) (start_within t w) }

      pub ends_over : (s : Sel) (at : Spot) (depth : ℕ) → Within P at.term → ends A s depth at ≡ ends B s depth at
      ends_over s at depth w = ends_agree s A B depth at (agree_from s at w)

      pub finds_over : (s : Sel) (t : Term) (r : Found) → Within P t → Finds A s t r → Finds B s t r
      finds_over s t r w f = finds_agree s A B t (agree_in s t w) r f

      pub set_over : (t : Term) (s : Sel) (g : Signature) → Within P t → InSet A t s g → InSet B t s g
      set_over t s g w i = set_agrees s A B t (agree_in s t w) g i

      pub implements_over : (t i : Term) → Within P t → Within P i → Implements A t i → Implements B t i
      implements_over t i w v a = (a.0, sym (under_same i v) ∙ a.1, λ m h. set_over t (out-Method m).sel (out-Method m).signature w (a.2 m h))

      leads_back : (t : Term) → Within P t → LeadsToIncomparable B t → LeadsToIncomparable A t
      leads_back t w (at_slice e) = at_slice (under_same t w ∙ e)
      leads_back t w (at_map e) = at_map (under_same t w ∙ e)
      leads_back t w (at_func e) = at_func (under_same t w ∙ e)
      leads_back t w (in_array {e = x} {n = k} e l) = in_array (under_same t w ∙ e) (leads_back x (λ n h. under_within t (Term-F.Array k x) (under_same t w ∙ e) w n (element_names k x n h)) l)
      leads_back t w (in_struct {fs = fs} f e h l) = in_struct f (under_same t w ∙ e) h (leads_back (out-Field f).term (field_within t fs f (under_same t w ∙ e) h w) l)

      struct_over : (t : Term) → Within P t → is_imported_struct A t ≡ is_imported_struct B t
      struct_over t w = ap (imported_struct (out-Term t)) (under_same t w)

      open_over : (t : Term) → Within P t → is_imported_open A t ≡ is_imported_open B t
      open_over t w = ap (λ l. imported_struct (out-Term t) l || imported_interface (out-Term t) l) (under_same t w)

      pub assignable_over : (profile : Bool) (t u : Term) → Within P t → Within P u → Assignable A profile t u → Assignable B profile t u
      assignable_over profile t u w v (assign_identical e) = assign_identical e
      assignable_over profile t u w v (assign_underlying a) = assign_underlying (record {
        same = sym (under_same t w) ∙ a.same ∙ under_same u v;
        unnamed = a.unnamed;
        permitted = sym (ap (λ b. profile && (b || is_imported_struct A u)) (struct_over t w) ∙ ap (λ b. profile && (is_imported_struct B t || b)) (struct_over u v)) ∙ a.permitted;
      })
      assignable_over profile t u w v (assign_interface a) = assign_interface (implements_over t u w v a)
      assignable_over profile t u w v (assign_channel a) = assign_channel (record {
        channels = subst (λ (l : Layer). AreChannels (under B t) l) (under_same u v) (subst (λ (l : Layer). AreChannels l (under A u)) (under_same t w) a.channels);
        unnamed = a.unnamed;
      })

      underlying_over : (profile : Bool) (t u : Term) → Within P t → Within P u → UnderlyingConverts A profile t u → UnderlyingConverts B profile t u
      underlying_over profile t u w v a = record {
        same = sym (ap (λ l. untagged (roll-Term l)) (under_same t w)) ∙ a.same ∙ ap (λ l. untagged (roll-Term l)) (under_same u v);
        permitted = sym (ap (λ b. profile && (b || is_imported_open A u)) (open_over t w) ∙ ap (λ b. profile && (is_imported_open B t || b)) (open_over u v)) ∙ a.permitted;
      }

      characters_over : (t : Term) → Within P t → is_characters A (under A t) ≡ is_characters B (under B t)
      characters_over t w = by (under A t) refl ∙ ap (is_characters B) (under_same t w)
        where
          by : (l : Layer) → under A t ≡ l → is_characters A l ≡ is_characters B l
          by (Term-F.Plain b) e = refl
          by (Term-F.Named n) e = refl
          by (Term-F.Pointer b) e = refl
          by (Term-F.Slice b) e = ap (is_character) (under_same b (λ n h. under_within t (Term-F.Slice b) e w n (slice_names b n h)))
          by (Term-F.Array k b) e = refl
          by (Term-F.Map k b) e = refl
          by (Term-F.Chan d b) e = refl
          by (Term-F.Func g) e = refl
          by (Term-F.Struct fs) e = refl
          by (Term-F.Interface ms) e = refl

      basics_over : (t u : Term) → Within P t → Within P u → basics_convert A t u ≡ basics_convert B t u
      basics_over t u w v =
          ap (λ l. both_basic l (under A u) || (is_text l && is_characters A (under A u)) || (is_characters A (under A t) && is_text (under A u))) (under_same t w)
          ∙ ap (λ l. both_basic (under B t) l || (is_text (under B t) && is_characters A (under A u)) || (is_characters A (under A t) && is_text l)) (under_same u v)
          ∙ ap (λ b. both_basic (under B t) (under B u) || (is_text (under B t) && b) || (is_characters A (under A t) && is_text (under B u))) (characters_over u v)
          ∙ ap (λ b. both_basic (under B t) (under B u) || (is_text (under B t) && is_characters B (under B u)) || (b && is_text (under B u))) (characters_over t w)

      pub convertible_over : (profile : Bool) (t u : Term) → Within P t → Within P u → Convertible A profile t u → Convertible B profile t u
      convertible_over profile t u w v (convert_assignable a) = convert_assignable (assignable_over profile t u w v a)
      convertible_over profile t u w v (convert_underlying a) = convert_underlying (underlying_over profile t u w v a)
      convertible_over profile t u w v (convert_pointer a) = convert_pointer (record {
        base = a.base;
        other = a.other;
        from_is = a.from_is;
        to_is = a.to_is;
        converts = underlying_over profile a.base a.other (λ n h. rolled t (Term-F.Pointer a.base) a.from_is w n (base_names a.base n h)) (λ n h. rolled u (Term-F.Pointer a.other) a.to_is v n (base_names a.other n h)) a.converts;
      })
      convertible_over profile t u w v (convert_basic a) = convert_basic (sym (basics_over t u w v) ∙ a)

      pub comparable_over : (t : Term) → Within P t → Comparable A t → Comparable B t
      comparable_over t w c l = c (leads_back t w l)

  pub agree_back : (A B : Table) → AgreeOn P A B → AgreeOn P B A
  agree_back A B same n h = sym (same n h)

  pub closed_back : (A B : Table) → AgreeOn P A B → IsClosed P A → IsClosed P B
  closed_back A B same closed n d h e = closed n d h (same n h ∙ e)
