-- Types that are identical but for tags.
use Rattle.std.proofs.Common.{◌≡◌, ◌⊎◌, ◌&&◌, ◌||◌, Bool, true, false, inl, inr, Option, Some, None, refl, sym, ap, ◌∙◌}
use Rattle.go_model.specs.declared.types.names.TypeName.{TypeName}
use Rattle.go_model.specs.declared.types.term.Field.{Field}
use Rattle.go_model.specs.declared.types.term.Method.{Method, roll-Method}
use Rattle.go_model.specs.declared.types.term.Signature.{Signature, roll-Signature}
use Rattle.go_model.specs.declared.types.term.Term.{Term, Term-F, out-Term, roll-Term, out-roll-Term, roll-out-Term, fold-roll-Term}
use Rattle.go_model.specs.types.Conversions.{UnderlyingConverts}
use Rattle.go_model.specs.types.Imports.{is_imported_open, imported_struct, imported_interface}
use Rattle.go_model.specs.types.Selectors.{name_of}
use Rattle.go_model.specs.types.Tables.{Table}
use Rattle.go_model.specs.types.Tags.{bare, untagged, untagged_step}
use Rattle.go_model.specs.types.Terms.{Layer, pointer_to}
use Rattle.go_model.specs.types.Underlying.{under, under_layer}

-- a type is the type of its level
rolled : (t : Term) (l : Layer) → out-Term t ≡ l → t ≡ roll-Term l
rolled t l e = sym (roll-out-Term t) ∙ ap roll-Term e

-- a level without tags is of the same form
pub untagged_pointer : (base : Term) → untagged (pointer_to base) ≡ pointer_to (untagged base)
untagged_pointer base = fold-roll-Term Term Field Method Signature roll-Term untagged_step roll-Method roll-Signature (Term-F.Pointer base)

pub out_pointer : (base : Term) → out-Term (pointer_to base) ≡ Term-F.Pointer base
out_pointer base = out-roll-Term (Term-F.Pointer base)

pub pointers_same : (a b : Term) → pointer_to a ≡ pointer_to b → a ≡ b
pointers_same a b e = same (sym (out_pointer a) ∙ ap out-Term e ∙ out_pointer b)
  where
    same : ◌≡◌ {A = Layer} (Term-F.Pointer a) (Term-F.Pointer b) → a ≡ b
    same k = cc

pub under_pointer : (T : Table) (base : Term) → under T (pointer_to base) ≡ Term-F.Pointer base
under_pointer T base = ap (under_layer T) (out_pointer base)

names_kept : (t : Term) → name_of (out-Term (untagged t)) ≡ name_of (out-Term t)
names_kept t = ap (λ u. name_of (out-Term (untagged u))) (sym (roll-out-Term t)) ∙ kept (out-Term t)
  where
    kept : (l : Layer) → name_of (out-Term (untagged (roll-Term l))) ≡ name_of l
    kept (Term-F.Named n) = ap (λ u. name_of (out-Term u)) (fold-roll-Term Term Field Method Signature roll-Term untagged_step roll-Method roll-Signature (Term-F.Named n)) ∙ ap name_of (out-roll-Term _)
    kept l = ap (λ u. name_of (out-Term u)) (fold-roll-Term Term Field Method Signature roll-Term untagged_step roll-Method roll-Signature l) ∙ ap name_of (out-roll-Term _)

-- a name is the same without tags
pub named_same : (a b : Term) (n : TypeName) → name_of (out-Term a) ≡ Some n → name_of (out-Term b) ≡ Some n → a ≡ b
named_same a b n e f = rolled a (Term-F.Named n) (is (out-Term a) e) ∙ sym (rolled b (Term-F.Named n) (is (out-Term b) f))
  where
    is : (l : Layer) → name_of l ≡ Some n → l ≡ Term-F.Named n
    is (Term-F.Named m) i = let k : m ≡ n = cc in ap (λ x. Term-F.Named x) k
    is l i = absurd (cc)

pub name_cases : (o : Option TypeName) → ((n : TypeName) × (o ≡ Some n)) ⊎ (o ≡ None)
name_cases None = inr refl
name_cases (Some n) = inl (n, refl)

-- two types without tags are the same where they are identical, or neither is a name
pub same_or_unnamed : (a b : Term) → untagged a ≡ untagged b → (a ≡ b) ⊎ ((name_of (out-Term a) ≡ None) × (name_of (out-Term b) ≡ None))
same_or_unnamed a b e = elim (name_cases (name_of (out-Term a))) [
  | inl i ↦ inl (named_same a b i.0 i.1 (sym names ∙ i.1))
  | inr i ↦ inr (i, sym names ∙ i)
]
  where
    names : name_of (out-Term a) ≡ name_of (out-Term b)
    names = sym (names_kept a) ∙ ap (λ u. name_of (out-Term u)) e ∙ names_kept b

module _ (T : Table) (t : Term) (unnamed : name_of (out-Term t) ≡ None) where
  -- what isn't a name is itself underneath
  pub under_unnamed : under T t ≡ out-Term t
  under_unnamed = by (out-Term t) unnamed
    where
      by : (l : Layer) → name_of l ≡ None → under_layer T l ≡ l
      by (Term-F.Named n) i = absurd (cc)
      by (Term-F.Plain b) i = refl
      by (Term-F.Pointer b) i = refl
      by (Term-F.Slice b) i = refl
      by (Term-F.Array k b) i = refl
      by (Term-F.Map k b) i = refl
      by (Term-F.Chan d b) i = refl
      by (Term-F.Func g) i = refl
      by (Term-F.Struct fs) i = refl
      by (Term-F.Interface ms) i = refl

  pub bare_unnamed : bare T t ≡ untagged t
  bare_unnamed = ap (λ l. untagged (roll-Term l)) under_unnamed ∙ ap untagged (roll-out-Term t)

  pub open_unnamed : is_imported_open T t ≡ false
  open_unnamed = by (out-Term t) unnamed
    where
      by : (l : Layer) → name_of l ≡ None → (imported_struct l (under T t) || imported_interface l (under T t)) ≡ false
      by (Term-F.Named n) i = absurd (cc)
      by (Term-F.Plain b) i = refl
      by (Term-F.Pointer b) i = refl
      by (Term-F.Slice b) i = refl
      by (Term-F.Array k b) i = refl
      by (Term-F.Map k b) i = refl
      by (Term-F.Chan d b) i = refl
      by (Term-F.Func g) i = refl
      by (Term-F.Struct fs) i = refl
      by (Term-F.Interface ms) i = refl

-- types that aren't names and are identical but for tags are so underneath
pub unnamed_converts : (T : Table) (profile : Bool) (a b : Term) → name_of (out-Term a) ≡ None → name_of (out-Term b) ≡ None → untagged a ≡ untagged b → UnderlyingConverts T profile a b
unnamed_converts T profile a b i j e = record { same = bare_unnamed T a i ∙ e ∙ sym (bare_unnamed T b j); permitted = by profile }
  where
    none : (is_imported_open T a || is_imported_open T b) ≡ false
    none = ap (λ x. x || is_imported_open T b) (open_unnamed T a i) ∙ open_unnamed T b j

    by : (p : Bool) → (p && (is_imported_open T a || is_imported_open T b)) ≡ false
    by true = none
    by false = refl

bare_pointer : (T : Table) (base : Term) → bare T (pointer_to base) ≡ pointer_to (untagged base)
bare_pointer T base = ap (λ l. untagged (roll-Term l)) (under_pointer T base) ∙ untagged_pointer base

-- pointer types that are identical but for tags
pub pointers_untagged : (T : Table) (a b : Term) → bare T (pointer_to a) ≡ bare T (pointer_to b) → untagged a ≡ untagged b
pointers_untagged T a b e = pointers_same (untagged a) (untagged b) (sym (bare_pointer T a) ∙ e ∙ bare_pointer T b)
