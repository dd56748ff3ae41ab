-- Scopes keep what is had once the signature of a method is.
use Rattle.std.proofs.Common.{◌≡◌, ℕ, nat_eq, Bool, true, false, List, [], ◌++◌, Option, Some, None, refl, sym, ap, ◌∙◌, subst, append-nil}
use Rattle.std.specs.Prelude.{slice_get}
use Rattle.std.specs.Cmp.Lexicographic.{bytes_decides}
use Rattle.std.specs.Str.{bytes_eq}
use mathlib.Core.Bool.{true≢false}
use Rattle.go_base.specs.Lists.{Has}
use Rattle.go_model.specs.declared.types.names.Sel.{Sel}
use Rattle.go_model.specs.declared.types.package.Defined.{Defined}
use Rattle.go_model.specs.declared.types.package.MethodOf.{MethodOf}
use Rattle.go_model.specs.declared.types.term.Signature.{Signature}
use Rattle.go_model.specs.declared.types.term.Term.{Term}
use Rattle.go_model.specs.types.Terms.{same_sel}
use Rattle.go_rules.specs.Expressions.{is_blank}
use Rattle.go_rules.specs.Growth.{methods_named}
use Rattle.go_rules.specs.Names.{Named, value_at}
use Rattle.go_rules.specs.Scopes.{Scopes}
use Rattle.go_syntax.specs.declared.declaration.Func.{Func}
use Rattle.go_syntax.specs.declared.types.ParameterDecl.{ParameterDecl}
use Rattle.go_typings.specs.Declarations.{Declaration, declarations, declared, method}
use Rattle.go_typings.specs.PackageEnvironments.{Entries, signature_of, signed}
use Rattle.go_typings.specs.Receivers.{base, DeclaredMethod, methods, selector}
use Rattle.go_typings.specs.Sources.{PackageSource, Setting}
use Rattle.go_typings.proofs.Cells.{some_once}
use Rattle.go_package_scopes.specs.KeptScopes.{extended, Keeps, shown, with_entry, with_methods}
use Rattle.go_package_scopes.proofs.KeptScopes.{each_type, kept, objects_kept, type_kept, under_kept}
use Rattle.go_package_scopes.proofs.NumberedMethods.{declared_there, stands_there}
use Rattle.go_package_scopes.proofs.OneMoreEntry.{entry_elsewhere, same_number}
use Rattle.go_package_scopes.proofs.ShownMethods.{hidden, misses, named_both, sel_is, sel_self, shown_apart, shown_named, shown_same}
use Rattle.go_package_scopes.proofs.Tables.{extended_elsewhere, extended_here, more_of}
use Rattle.go_package_scopes.proofs.UnderlyingTypes.{ShowsOwn, ShowsUnder, under_at, under_of}

module _ (s : Setting) (u : PackageSource) (a : Entries) (c : Scopes) (n : ℕ) (d : Declaration) (receiver : ParameterDecl) (f : Func) (g : Signature) where
  abbrev ds : List Declaration
  ds = declarations u

  abbrev sel : Sel
  sel = selector u.path f.name.text

  abbrev b : Entries
  b = with_entry a n (signed g)

  module _ (keeps : Keeps s u a c) (fresh : a n ≡ None) (at : slice_get ds n ≡ Some d) (form : d.form ≡ method receiver f) where
    -- the number is that of one type's method alone, which a selector can find
    record IsOf (type : List ℕ) (m : DeclaredMethod) : Type 0 where
      of : base ds receiver ≡ Some type
      selectable : is_blank f.name.text ≡ false
      selected : m.sel ≡ sel

    numbered : (type : List ℕ) (m : DeclaredMethod) → Has (methods u type) m → m.number ≡ n → IsOf type m
    numbered type m h same =
        let k = declared_there u type m n d h at same in
        let there : method receiver f ≡ method k.0.receiver k.0.func = sym form ∙ k.0.form in
        let receives : receiver ≡ k.0.receiver = cc in
        let declares : f ≡ k.0.func = cc in
        let named : m.sel ≡ sel = k.0.sel ∙ ap (λ (z : Func). selector u.path z.name.text) (sym declares) in
        record { of = ap (base ds) receives ∙ k.0.of; selectable = sym (ap (λ (z : Sel). is_blank z.name) named) ∙ k.1; selected = named }

    -- the same methods of a selector are shown, where that of the number isn't one
    others : (type : List ℕ) (k : Sel) → ((m : DeclaredMethod) → Has (methods u type) m → m.number ≡ n → m.sel ≡ k → ⊥) → shown a (methods u type) k ≡ shown b (methods u type) k
    others type k not = shown_same k a b (methods u type) (λ m h is. by m h is (nat_eq m.number n) refl)
      where
        by : (m : DeclaredMethod) → Has (methods u type) m → m.sel ≡ k → (z : Bool) → nat_eq m.number n ≡ z → signature_of (a m.number) ≡ signature_of (b m.number)
        by m h is true i = absurd (not m h (same_number m.number n i) is)
        by m h is false i = sym (ap signature_of (entry_elsewhere a n (signed g) m.number i))

    other_type : (type : List ℕ) → ((m : DeclaredMethod) → Has (methods u type) m → m.number ≡ n → ⊥) → ShowsOwn u b type (value_at c.defined type)
    other_type type not = type_kept s u a c keeps n fresh (signed g) type (under_kept s u a c keeps n fresh (signed g) refl (declared ds type)) (λ k. others type k (λ m h same is. not m h same))

    pub method_elsewhere : ((type : List ℕ) → base ds receiver ≡ Some type → is_blank f.name.text ≡ false → ⊥) → Keeps s u b c
    method_elsewhere not =
        kept s u a c keeps b c.declared c.defined (objects_kept s u a c keeps n fresh (signed g) (λ place. refl))
        (λ type. other_type type (λ m h same. let k = numbered type m h same in not type k.of k.selectable))

    module _ (type : List ℕ) (of : base ds receiver ≡ Some type) (selects : is_blank f.name.text ≡ false) where
      abbrev new : List MethodOf
      new = shown b (methods u type) sel

      abbrev types : Named Defined
      types = extended c.defined type new (value_at c.defined type)

      -- before, none was shown by the selector
      hidden_before : shown a (methods u type) sel ≡ []
      hidden_before =
          let m = stands_there u type n d receiver f at form of selects in
          hidden sel a (methods u type) (misses sel a (methods u type) m.0 m.1 (ap (λ (k : ℕ). signature_of (a k)) m.2 ∙ ap signature_of fresh) m.3)

      shown_then : (ms : List MethodOf) → ((k : Sel) → methods_named k ms ≡ shown a (methods u type) k) → (k : Sel) → methods_named k (ms ++ new) ≡ shown b (methods u type) k
      shown_then ms h k = named_both k ms new ∙ ap (λ z. z ++ methods_named k new) (h k) ∙ by (same_sel sel k) refl
        where
          by : (z : Bool) → same_sel sel k ≡ z → shown a (methods u type) k ++ methods_named k new ≡ shown b (methods u type) k
          by true i =
              subst (λ (q : Sel). shown a (methods u type) q ++ methods_named q new ≡ shown b (methods u type) q) (sel_is sel k i)
              (ap (λ z. z ++ methods_named sel new) hidden_before ∙ shown_named sel b (methods u type))
          by false i =
              ap (λ z. shown a (methods u type) k ++ z) (shown_apart k sel i b (methods u type)) ∙ append-nil (shown a (methods u type) k)
              ∙ others type k (λ m h same is. true≢false (sym (ap (same_sel sel) (sym is ∙ (numbered type m h same).selected) ∙ sel_self sel) ∙ i))

      shows_then : (o : Option Term) (x : Option Defined) → ShowsUnder a (methods u type) o x → ShowsUnder b (methods u type) o (more_of new x)
      shows_then None None k = k
      shows_then None (Some x) k = absurd k
      shows_then (Some t) None k = absurd k
      shows_then (Some t) (Some x) k = record { underlying = k.underlying; methods = shown_then x.methods k.methods }

      own_type : ShowsOwn u b type (value_at types type)
      own_type =
          subst (ShowsOwn u b type) (sym (extended_here c.defined type new (value_at c.defined type) refl))
          (subst (λ (o : Option Term). ShowsUnder b (methods u type) o (more_of new (value_at c.defined type))) (under_kept s u a c keeps n fresh (signed g) refl (declared ds type))
          (shows_then (under_at a (declared ds type)) (value_at c.defined type) (under_of u a type (value_at c.defined type) (keeps.types type))))

      elsewhere : (q : List ℕ) → bytes_eq q type ≡ false → ShowsOwn u b q (value_at types q)
      elsewhere q i =
          subst (ShowsOwn u b q) (sym (extended_elsewhere c.defined type new (value_at c.defined type) q i))
          (other_type q (λ m h same. true≢false (sym ((bytes_decides q type).1 (some_once q type (sym (numbered q m h same).of ∙ of))) ∙ i)))

      pub method_more : Keeps s u b (with_methods c type new)
      method_more = kept s u a c keeps b c.declared types (objects_kept s u a c keeps n fresh (signed g) (λ place. refl)) (each_type u b types type own_type elsewhere)
