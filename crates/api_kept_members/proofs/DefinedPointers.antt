-- From a defined type with a pointer underneath no selector finds anything.
use Rattle.std.proofs.Common.{◌≡◌, ◌⊎◌, inl, inr, ℕ, zero, suc, Bool, true, List, [], ◌∷◌, ◌++◌, refl, sym, ap, ◌∙◌, Option, Some, None}
use Rattle.go_base.specs.Gathered.{gather}
use Rattle.go_model.specs.declared.types.names.Sel.{Sel}
use Rattle.go_model.specs.declared.types.names.TypeName.{TypeName}
use Rattle.go_model.specs.declared.types.package.Defined.{Defined}
use Rattle.go_model.specs.declared.types.term.Term.{Term, Term-F, out-Term}
use Rattle.go_model.specs.types.Selectors.{declared_ending, ends, field_ending, is_defined_layer, is_defined_pointer, is_pointer_layer, method_ending, name_of, step}
use Rattle.go_model.specs.types.Tables.{Table}
use Rattle.go_model.specs.types.Terms.{Layer, error_type, is_error}
use Rattle.go_model.specs.types.Underlying.{declared_methods, entry, fields_of, methods_of, methods_of_entry, under, under_entry, under_layer}
use Rattle.go_model.specs.worlds.Worlds.{IsWorld, Packages, bars_methods, table_of}
use Rattle.go_model.proofs.WorldTypes.{told}
use Rattle.go_type_images.specs.SpotImages.{at_spot}
use Rattle.go_type_images.proofs.ImageLevels.{is_name, is_name_of}
use Rattle.api_correspond.specs.Publics.{types_of}
use Rattle.api_kept_members.proofs.ResolvingPairs.{entry_is}

named_pointer : (l u : Layer) → is_defined_layer l u ≡ true → (is_name l ≡ true) × (is_pointer_layer u ≡ true)
named_pointer (Term-F.Named n) (Term-F.Pointer b) e = (refl, refl)
named_pointer (Term-F.Named n) (Term-F.Plain b) e = absurd (cc)
named_pointer (Term-F.Named n) (Term-F.Named m) e = absurd (cc)
named_pointer (Term-F.Named n) (Term-F.Slice b) e = absurd (cc)
named_pointer (Term-F.Named n) (Term-F.Array k b) e = absurd (cc)
named_pointer (Term-F.Named n) (Term-F.Map k b) e = absurd (cc)
named_pointer (Term-F.Named n) (Term-F.Chan d b) e = absurd (cc)
named_pointer (Term-F.Named n) (Term-F.Func g) e = absurd (cc)
named_pointer (Term-F.Named n) (Term-F.Struct fs) e = absurd (cc)
named_pointer (Term-F.Named n) (Term-F.Interface ms) e = absurd (cc)
named_pointer (Term-F.Plain b) u e = absurd (cc)
named_pointer (Term-F.Pointer b) u e = absurd (cc)
named_pointer (Term-F.Slice b) u e = absurd (cc)
named_pointer (Term-F.Array k b) u e = absurd (cc)
named_pointer (Term-F.Map k b) u e = absurd (cc)
named_pointer (Term-F.Chan d b) u e = absurd (cc)
named_pointer (Term-F.Func g) u e = absurd (cc)
named_pointer (Term-F.Struct fs) u e = absurd (cc)
named_pointer (Term-F.Interface ms) u e = absurd (cc)

pointer_is : (l : Layer) → is_pointer_layer l ≡ true → (b : Term) × (l ≡ Term-F.Pointer b)
pointer_is (Term-F.Pointer b) e = (b, refl)
pointer_is (Term-F.Plain b) e = absurd (cc)
pointer_is (Term-F.Named n) e = absurd (cc)
pointer_is (Term-F.Slice b) e = absurd (cc)
pointer_is (Term-F.Array k b) e = absurd (cc)
pointer_is (Term-F.Map k b) e = absurd (cc)
pointer_is (Term-F.Chan d b) e = absurd (cc)
pointer_is (Term-F.Func g) e = absurd (cc)
pointer_is (Term-F.Struct fs) e = absurd (cc)
pointer_is (Term-F.Interface ms) e = absurd (cc)

named_other : (n : TypeName) (b : Term) → ◌≡◌ {A = Layer} (Term-F.Named n) (Term-F.Pointer b) → ⊥
named_other n b e = absurd (cc)

pub no_item : {A : Type 0} (xs : List A) (x : A) → xs ≡ [] → xs ≡ x ∷ [] → ⊥
no_item xs x e f = let g : [] ≡ x ∷ [] = sym e ∙ f in absurd (cc)

module _ (w : Packages) (i : IsWorld w) where
  abbrev W : Table
  W = types_of w

  entry_bare : (n : TypeName) (b : Term) (d : Defined) → (error_type ≡ d) ⊎ (table_of w.packages n ≡ Some d) → out-Term d.underlying ≡ Term-F.Pointer b → d.methods ≡ []
  entry_bare n b d (inl e) u = sym (ap (λ (x : Defined). x.methods) e)
  entry_bare n b d (inr e) u = (told w i n d e).kept.bare (ap bars_methods u)

  by_entry : (n : TypeName) (b : Term) (o : Option Defined) → entry W n ≡ o → under_entry n o ≡ Term-F.Pointer b → methods_of_entry o ≡ []
  by_entry n b None e u = absurd (named_other n b u)
  by_entry n b (Some d) e u = entry_bare n b d (entry_is w i (is_error n) n d refl e) u

  module _ (t : Term) (e : is_defined_pointer W t ≡ true) (s : Sel) (b : Bool) where
    level : (c : Term) × (under W t ≡ Term-F.Pointer c)
    level = pointer_is (under W t) (named_pointer (out-Term t) (under W t) e).1

    none : declared_methods W (out-Term t) ≡ []
    none = let n = is_name_of (out-Term t) (named_pointer (out-Term t) (under W t) e).0 in ap (declared_methods W) n.1 ∙ by_entry n.0 level.0 (entry W n.0) refl (sym (ap (under_layer W) n.1) ∙ level.1)

    pub no_ends : (d : ℕ) → ends W s d (at_spot b t) ≡ []
    unfolding ends
    no_ends zero = (λ c. gather (field_ending s b) (fields_of (level.1 c)) ++ gather (declared_ending (name_of (out-Term t)) s b) (none c) ++ gather (method_ending s b) (methods_of (level.1 c)))
    no_ends (suc d) = ap (λ l. gather (ends W s d) (gather (step b) (fields_of l))) level.1
