-- What is told of receivers, once all declarations were gone over.
use Rattle.std.proofs.Common.{◌≡◌, ◌+◌, ◌<◌, ℕ, zero, suc, true, List, [], ◌∷◌, length, replicate, get_or, Option, None, Some, refl, sym, ap, ◌∙◌, subst, ◌⊎◌, inl, inr, arith}
use mathlib.Core.Bool.{true≢false}
use Rattle.std.specs.Prelude.{is_some, slice_get}
use Rattle.std.proofs.lemmas.Bool.{eq-eqb}
use Rattle.std.proofs.lemmas.Option.{slice_get_within}
use Rattle.go_declaration_asks.specs.Bases.{TellsBase, TellsReceiver}
use Rattle.go_declaration_asks.specs.declared.base.Base.{Base}
use Rattle.go_declarations.specs.Forms.{form_of}
use Rattle.go_declarations.specs.Listings.{declaration_of, declarations_of}
use Rattle.go_declarations.specs.declared.listing.Declaration.{Declaration as Borrowed}
use Rattle.go_declared.proofs.BaseTypes.{base_defined}
use Rattle.go_declared.proofs.Declared.{as_long}
use Rattle.go_declared.proofs.Stands.{borrowed_at, stands}
use Rattle.go_declared.specs.MethodTables.{AreMethods, method_name, name_by, name_in}
use Rattle.go_declared.specs.NameTables.{AreDeclared, is_first, is_in, place_of}
use Rattle.go_declared.specs.declared.methods.MethodRow.{MethodRow}
use Rattle.go_declared.specs.declared.names.NamePlace.{NamePlace}
use Rattle.go_rules.specs.Names.{Named, items_at}
use Rattle.go_selectors.specs.Answers.{Decides}
use Rattle.go_syntax.specs.declared.declaration.Func.{Func}
use Rattle.go_syntax.specs.declared.declaration.TypeSpec.{TypeSpec}
use Rattle.go_syntax.specs.declared.types.ParameterDecl.{ParameterDecl}
use Rattle.go_typings.proofs.Cells.{none_some, some_once}
use Rattle.go_typings.specs.Declarations.{alias, constants, declarations, Declaration, definition, Form, function, method, variables}
use Rattle.go_typings.specs.Receivers.{base}
use Rattle.go_typings.specs.Sources.{PackageSource}
use Rattle.go_met.proofs.MethodRows.{declares_row, only_decided, row_declares}
use Rattle.go_met.specs.inner.SharedNames.{row_names, StandsTwice}
use Rattle.go_met.specs.inner.ToldBases.{AreTold, HasNumber, IsAlone, IsOfType, TellBases, TellsForm, TellsType, told_at}

-- ---- one declaration

module _ (ds : List Declaration) (names : Named NamePlace) (methods : Named (List MethodRow)) (number : ℕ) where
  -- nothing is told where no type is declared first
  pub form_passed : (f : Form) (old : List (Option Base)) → ((s : TypeSpec) → f ≡ definition s → is_first names number s.name.text ≡ true → ⊥) → TellsForm ds names methods number f old old
  form_passed f old none = record {
    size = refl;
    sound = λ n b e. inl e;
    kept = λ n e. e;
    complete = λ s e h. absurd (none s e h);
  }

  same_spec : (s t : TypeSpec) → definition s ≡ definition t → s ≡ t
  same_spec s t e = cc

  abbrev IsNamed : List ℕ → ℕ → Base → Type 0
  IsNamed k n b = IsOfType ds (StandsTwice (row_names ds (items_at methods k))) k (items_at methods k) n b

  by_own : (type : List ℕ) (n : ℕ) (b : Base) → IsNamed type n b → IsNamed b.name.now n b
  by_own type n b w = subst (λ (k : List ℕ). IsNamed k n b) (sym w.name) w

  pub form_told : (s : TypeSpec) (old new : List (Option Base)) → TellsType ds s.name.text (items_at methods s.name.text) old new → TellsForm ds names methods number (definition s) old new
  form_told s old new t = record {
    size = t.size;
    sound = λ n b e. elim (t.sound n b e) [ inl k ↦ inl k | inr w ↦ inr (by_own s.name.text n b w) ];
    kept = t.kept;
    complete = λ r e h n l k. t.complete n l (subst (λ (x : TypeSpec). HasNumber (items_at methods x.name.text) n) (sym (same_spec s r e)) k);
  }

-- ---- all declarations

module _ (ds : List Declaration) (names : Named NamePlace) (methods : Named (List MethodRow)) where
  nothing_told : (count n : ℕ) → told_at (replicate count None) n ≡ None
  nothing_told zero n = refl
  nothing_told (suc count) zero = refl
  nothing_told (suc count) (suc n) = nothing_told count n

  replicated : (count : ℕ) → length {A = Option Base} (replicate count None) ≡ count
  replicated zero = refl
  replicated (suc count) = ap suc (replicated count)

  pub told_first : (told : List (Option Base)) (count : ℕ) → told ≡ replicate count None → count ≡ length ds → AreTold ds names methods 0 told
  told_first told count e c = record {
    size = ap length e ∙ replicated count ∙ c;
    sound = λ n b f. none_some {A = Base} (told_at told n) b (ap (λ (t : List (Option Base)). told_at t n) e ∙ nothing_told count n) f;
    complete = λ k d s l. absurd (omega (arith, l));
  }

  pub told_more : (i : ℕ) (d : Declaration) (old new : List (Option Base)) → slice_get ds i ≡ Some d → AreTold ds names methods i old → TellsForm ds names methods i d.form old new → AreTold ds names methods (i + 1) new
  told_more i d old new at are t = record {
    size = t.size ∙ are.size;
    sound = λ n b e. elim (t.sound n b e) [ inl k ↦ are.sound n b k | inr w ↦ w ];
    complete = λ k x s l f g h n m w. elim (last k l) [
      | inl before ↦ t.kept n (are.complete k x s before f g h n m w)
      | inr same ↦ t.complete s (ap (λ (y : Declaration). y.form) (some_once d x (sym at ∙ ap (slice_get ds) (sym same) ∙ f)) ∙ g) (ap (λ (j : ℕ). is_first names j s.name.text) (sym same) ∙ h) n (let z = are.size in omega (arith, z, m)) w
    ];
  }
    where
      last : (k : ℕ) → k < i + 1 → (k < i) ⊎ (k ≡ i)
      last k l = grind (arith, l)

-- the declaration of the number is a method
module _ (u : PackageSource) (names : Named NamePlace) (methods : Named (List MethodRow)) (are : AreDeclared (declarations u) names) (rows : AreMethods (declarations u) methods) (told : List (Option Base)) (all : AreTold (declarations u) names methods (length (declarations u)) told) where
  module _ (n : ℕ) (d : Declaration) (at : slice_get (declarations u) n ≡ Some d) (receiver : ParameterDecl) (f : Func) (form : d.form ≡ method receiver f) where
    named : method_name (declarations u) n ≡ f.name.text
    named = ap name_in at ∙ ap name_by form

    same_receiver : (r : ParameterDecl) (g : Func) → method receiver f ≡ method r g → receiver ≡ r
    same_receiver r g e = cc

    right : (b : Base) → told_at told n ≡ Some b → TellsReceiver u n receiver f (Some b)
    right b e =
        let w = all.sound n b e in
        let m = row_declares u methods rows b.name.now n d w.row at in (
          ap (base (declarations u)) (same_receiver m.receiver m.func (sym form ∙ m.form)) ∙ m.of,
          only_decided u methods rows b.name.now n w.row.0 w.row.1 w.row.2 f.name.text named b.is_only (subst (λ (k : List ℕ). Decides b.is_only (IsAlone (StandsTwice (row_names (declarations u) (items_at methods b.name.now))) k)) named w.only),
        )

    -- a method that has a base type is told of
    has_told : (type : List ℕ) → base (declarations u) receiver ≡ Some type → is_some (told_at told n) ≡ true
    has_told type e =
        let k = base_defined (declarations u) type receiver e in
        let s = stands (declarations u) type k.declaration k.is in
        let first : is_first names k.declaration.number k.spec.name.text ≡ true =
        ap (λ (q : List ℕ). is_first names k.declaration.number q) k.name ∙ ap (is_in k.declaration.number) (are type ∙ ap place_of k.is) ∙ eq-eqb k.declaration.number k.declaration.number refl in
        all.complete k.declaration.number s.0 k.spec (slice_get_within (declarations u) k.declaration.number s.0 s.1) s.1 (s.2 ∙ k.form) first n (slice_get_within (declarations u) n d at)
        (subst (λ (q : List ℕ). HasNumber (items_at methods q) n) (sym k.name) (declares_row u methods rows type n d at (record { receiver = receiver; func = f; form = form; of = e })))

    told_receiver : (o : Option Base) → told_at told n ≡ o → TellsReceiver u n receiver f o
    told_receiver (Some b) e = right b e
    told_receiver None e = by (base (declarations u) receiver) refl
      where
        by : (t : Option (List ℕ)) → base (declarations u) receiver ≡ t → t ≡ None
        by None g = refl
        by (Some type) g = absurd (true≢false (sym (has_told type g) ∙ ap is_some e))

  told_base : (n : ℕ) (d : Declaration) → slice_get (declarations u) n ≡ Some d → TellsBase u n d.form (told_at told n)
  told_base n d at = by d.form refl
    where
      by : (f : Form) → d.form ≡ f → TellsBase u n f (told_at told n)
      by (constants s place) e = tt
      by (variables s) e = tt
      by (alias s) e = tt
      by (definition s) e = tt
      by (function f) e = tt
      by (method receiver f) e = told_receiver n d at receiver f e (told_at told n) refl

pub bases_told : (ds : List Declaration) (names : Named NamePlace) (methods : Named (List MethodRow)) (told : List (Option Base)) → AreDeclared ds names → AreMethods ds methods → AreTold ds names methods (length ds) told → TellBases ds told
bases_told ds names methods told are rows all u h =
    subst (λ (xs : List Declaration). (n : ℕ) (d : Declaration) → slice_get xs n ≡ Some d → TellsBase u n d.form (told_at told n)) h
    (told_base u names methods (subst (λ (xs : List Declaration). AreDeclared xs names) (sym h) are) (subst (λ (xs : List Declaration). AreMethods xs methods) (sym h) rows) told (subst (λ (xs : List Declaration). AreTold xs names methods (length xs) told) (sym h) all))

-- ---- in turn

get_borrowed : (xs : List Borrowed) (n : ℕ) (x : Borrowed) → slice_get xs n ≡ Some x → slice_get (declarations_of xs) n ≡ Some (declaration_of x)
get_borrowed [] n x e = none_some {A = Borrowed} None x refl e
get_borrowed (y ∷ xs) zero x e = ap (λ (z : Borrowed). Some (declaration_of z)) (some_once y x e)
get_borrowed (y ∷ xs) (suc n) x e = get_borrowed xs n x e

pub borrowed_there : (xs : List Borrowed) (i : ℕ) (x : Borrowed) → i < length xs → slice_get (declarations_of xs) i ≡ Some (declaration_of (get_or xs i x))
borrowed_there xs i x h = get_borrowed xs i (get_or xs i x) (borrowed_at xs i x h)

module _ (xs : List Borrowed) (names : Named NamePlace) (methods : Named (List MethodRow)) where
  pub bases_first : (told : List (Option Base)) → told ≡ replicate (length xs) None → AreTold (declarations_of xs) names methods 0 told
  bases_first told e = told_first (declarations_of xs) names methods told (length xs) e (sym (as_long xs))

  pub bases_next : (i : ℕ) (x : Borrowed) (old new : List (Option Base)) → i < length xs → AreTold (declarations_of xs) names methods i old → TellsForm (declarations_of xs) names methods i (form_of (get_or xs i x).form) old new
      → AreTold (declarations_of xs) names methods (i + 1) new
  bases_next i x old new h are t = told_more (declarations_of xs) names methods i (declaration_of (get_or xs i x)) old new (borrowed_there xs i x h) are t

  pub bases_past : (i : ℕ) (told : List (Option Base)) → i ≡ length xs → AreDeclared (declarations_of xs) names → AreMethods (declarations_of xs) methods → AreTold (declarations_of xs) names methods i told → TellBases (declarations_of xs) told
  bases_past i told e are rows all = bases_told (declarations_of xs) names methods told are rows (subst (λ (k : ℕ). AreTold (declarations_of xs) names methods k told) (e ∙ sym (as_long xs)) all)
