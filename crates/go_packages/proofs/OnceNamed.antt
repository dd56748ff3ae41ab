-- In a typing of some declarations no two methods of a type that are had and that a selector can find have one selector.
use Rattle.std.proofs.Common.{◌≡◌, ◌≤◌, ◌+◌, ℕ, suc, Bool, true, false, not, cond, List, [], ◌∷◌, ◌++◌, Option, Some, None, refl, sym, ap, ◌∙◌, subst, inl, inr, arith}
use mathlib.Core.Bool.{true≢false}
use Rattle.std.specs.Prelude.{filter, if◌then◌else◌, slice_get}
use Rattle.std.specs.Cmp.Lexicographic.{bytes_decides}
use Rattle.std.specs.List.{AllByRecursion, IsDistinct}
use Rattle.go_base.proofs.Members.{gather_of, has_split}
use Rattle.go_base.specs.Lists.{Has}
use Rattle.go_model.specs.declared.types.names.Sel.{Sel}
use Rattle.go_model.specs.declared.types.package.MethodOf.{MethodOf}
use Rattle.go_model.specs.declared.types.term.Signature.{Signature}
use Rattle.go_rules.specs.Expressions.{is_blank}
use Rattle.go_syntax.specs.declared.declaration.Func.{Func}
use Rattle.go_syntax.specs.declared.types.ParameterDecl.{ParameterDecl}
use Rattle.go_typings.proofs.Cells.{some_once}
use Rattle.go_typings.specs.DeclarationAsks.{FormAsks, IsMethod, IsOnly}
use Rattle.go_typings.specs.Declarations.{constants, variables, alias, definition, function, method, declarations, Declaration, Form}
use Rattle.go_typings.specs.PackageEnvironments.{Entries, Entry, environment, had, had_of, signature_of}
use Rattle.go_typings.specs.Receivers.{base, DeclaredMethod, is_named, is_pointer_form, is_selectable, method_by, methods, methods_from, receiver_form, selector}
use Rattle.go_typings.specs.Sources.{PackageSource, Setting}
use Rattle.go_typings.specs.Typings.{Typing}
use Rattle.go_packages.proofs.SelectorOrder.{is_same, same_selector}
use Rattle.go_packages.specs.inner.HadMethods.{had_methods}

-- ---- those that are had

module _ (a : Entries) where
  -- no method has the selector of an earlier one that is had
  abbrev AreApart : List DeclaredMethod → Type 0
  AreApart [] = Unit {0}
  AreApart (m ∷ ms) = ((g : Signature) → signature_of (a m.number) ≡ Some g → (n : DeclaredMethod) → Has ms n → m.sel ≡ n.sel → ⊥) × AreApart ms

  had_one : (m : DeclaredMethod) (o : Option Signature) (x : MethodOf) → Has (had_of m o) x → m.sel ≡ x.sel
  had_one m None x h = absurd h
  had_one m (Some g) x (inl e) = ap (λ (y : MethodOf). y.sel) e
  had_one m (Some g) x (inr h) = absurd h

  had_from : (ms : List DeclaredMethod) (x : MethodOf) → Has (had a ms) x → (m : DeclaredMethod) × Has ms m × (m.sel ≡ x.sel)
  had_from ms x h = let g = gather_of (λ m. had_of m (signature_of (a m.number))) ms x h in (g.0, g.1, had_one g.0 (signature_of (a g.0.number)) x g.2)

  all_other : (x : MethodOf) (ys : List MethodOf) → ((y : MethodOf) → Has ys y → x.sel ≡ y.sel → ⊥) → AllByRecursion (λ y. is_same x y ≡ false) ys
  all_other x [] h = tt
  all_other x (y ∷ ys) h = (by (is_same x y) refl, all_other x ys (λ z k. h z (inr k)))
    where
      by : (b : Bool) → is_same x y ≡ b → b ≡ false
      by true e = absurd (h y (inl refl) (same_selector x y e))
      by false e = refl

  had_apart : (ms : List DeclaredMethod) → AreApart ms → IsDistinct is_same (had a ms)
  unfolding IsDistinct
  had_apart [] h = tt
  had_apart (m ∷ ms) h = by (signature_of (a m.number)) refl (had_apart ms h.1)
    where
      by : (o : Option Signature) → signature_of (a m.number) ≡ o → IsDistinct is_same (had a ms) → IsDistinct is_same (had_of m o ++ had a ms)
      by None is d = d
      by (Some g) is d = (all_other (record { sel = m.sel; pointer = m.pointer; signature = g }) (had a ms) (λ y k e. let f = had_from ms y k in h.0 g is f.0 f.1 (e ∙ sym f.2)), d)

-- ---- those that are declared

-- the numbers rise, from one on
abbrev Rises : ℕ → List DeclaredMethod → Type 0
Rises k [] = Unit {0}
Rises k (m ∷ ms) = (k ≤ m.number) × Rises (suc m.number) ms

rises_sooner : (j k : ℕ) (ms : List DeclaredMethod) → j ≤ k → Rises k ms → Rises j ms
rises_sooner j k [] l h = tt
rises_sooner j k (m ∷ ms) l h = ((let i = h.0 in omega (arith, i, l)), h.1)

rises_each : (k : ℕ) (ms : List DeclaredMethod) (m : DeclaredMethod) → Rises k ms → Has ms m → k ≤ m.number
rises_each k [] m h i = absurd i
rises_each k (n ∷ ms) m h (inl e) = subst (λ (x : DeclaredMethod). k ≤ x.number) e h.0
rises_each k (n ∷ ms) m h (inr i) = let l = rises_each (suc n.number) ms m h.1 i in let j = h.0 in omega (arith, l, j)

rises_filtered : (k : ℕ) (ms : List DeclaredMethod) → Rises k ms → Rises k (filter is_selectable ms)
rises_filtered k [] h = tt
rises_filtered k (m ∷ ms) h = by (is_selectable m) (rises_filtered (suc m.number) ms h.1)
  where
    by : (b : Bool) → Rises (suc m.number) (filter is_selectable ms) → Rises k (cond b (m ∷ filter is_selectable ms) (filter is_selectable ms))
    by true r = (h.0, r)
    by false r = rises_sooner k (suc m.number) (filter is_selectable ms) (let i = h.0 in omega (arith, i)) r

apart : (a : Entries) (k : ℕ) (ms : List DeclaredMethod) → Rises k ms → ((m n : DeclaredMethod) (g : Signature) → signature_of (a m.number) ≡ Some g → Has ms m → Has ms n → m.sel ≡ n.sel → m.number ≡ n.number) → AreApart a ms
apart a k [] h once = tt
apart a k (m ∷ ms) h once = (
  λ g is n i e. (let l = rises_each (suc m.number) ms n h.1 i in let j = once m n g is (inl refl) (inr i) e in omega (arith, l, j)),
  apart a (suc m.number) ms h.1 (λ x y g is i j. once x y g is (inr i) (inr j)),
)

module _ (u : PackageSource) (type : List ℕ) where
  rises_by : (k : ℕ) (f : Form) (rest : List DeclaredMethod) → Rises (suc k) rest → Rises k (method_by u type k f ++ rest)
  rises_by k (method receiver f) rest h = by (is_named type (base (declarations u) receiver))
    where
      by : (b : Bool) → Rises k ((if b then record { number = k; sel = selector u.path f.name.text; pointer = is_pointer_form (receiver_form receiver) } ∷ [] else []) ++ rest)
      by true = (omega arith, h)
      by false = rises_sooner k (suc k) rest (omega arith) h
  rises_by k (constants s place) rest h = rises_sooner k (suc k) rest (omega arith) h
  rises_by k (variables s) rest h = rises_sooner k (suc k) rest (omega arith) h
  rises_by k (alias s) rest h = rises_sooner k (suc k) rest (omega arith) h
  rises_by k (definition s) rest h = rises_sooner k (suc k) rest (omega arith) h
  rises_by k (function f) rest h = rises_sooner k (suc k) rest (omega arith) h

  rises_from : (k : ℕ) (ds : List Declaration) → Rises k (methods_from u type k ds)
  rises_from k [] = tt
  rises_from k (d ∷ ds) = rises_by k d.form (methods_from u type (suc k) ds) (rises_from (suc k) ds)

  -- a method of the type is declared with this form
  record Declares (number : ℕ) (form : Form) (m : DeclaredMethod) : Type 0 where
    receiver : ParameterDecl
    func : Func
    is : form ≡ method receiver func
    of : base (declarations u) receiver ≡ Some type
    at : m.number ≡ number
    sel : m.sel ≡ selector u.path func.name.text

  named_type : (o : Option (List ℕ)) → is_named type o ≡ true → o ≡ Some type
  named_type None e = absurd (true≢false (sym e))
  named_type (Some other) e = ap Some ((bytes_decides other type).0 e)

  declared_by : (k : ℕ) (f : Form) (m : DeclaredMethod) → Has (method_by u type k f) m → Declares k f m
  declared_by k (method r f) m h = by (is_named type (base (declarations u) r)) refl h
    where
      by : (b : Bool) → is_named type (base (declarations u) r) ≡ b
          → Has (if b then record { number = k; sel = selector u.path f.name.text; pointer = is_pointer_form (receiver_form r) } ∷ [] else []) m → Declares k (method r f) m
      by true e (inl i) = record { receiver = r; func = f; is = refl; of = named_type (base (declarations u) r) e; at = ap (λ (x : DeclaredMethod). x.number) (sym i); sel = ap (λ (x : DeclaredMethod). x.sel) (sym i) }
      by true e (inr i) = absurd i
      by false e i = absurd i
  declared_by k (constants s place) m h = absurd h
  declared_by k (variables s) m h = absurd h
  declared_by k (alias s) m h = absurd h
  declared_by k (definition s) m h = absurd h
  declared_by k (function f) m h = absurd h

  moved : (j k : ℕ) (f : Form) (m : DeclaredMethod) → j ≡ k → Declares j f m → Declares k f m
  moved j k f m e h = subst (λ (n : ℕ). Declares n f m) e h

  abbrev StandsIn : ℕ → List Declaration → DeclaredMethod → Type 0
  StandsIn k ds m = (place : ℕ) × (d : Declaration) × (slice_get ds place ≡ Some d) × Declares (k + place) d.form m

  stands_in : (k : ℕ) (ds : List Declaration) (m : DeclaredMethod) → Has (methods_from u type k ds) m → StandsIn k ds m
  stands_in k [] m h = absurd h
  stands_in k (d ∷ ds) m h = elim (has_split (method_by u type k d.form) (methods_from u type (suc k) ds) m h) [
    | inl i ↦ (0, d, refl, moved k (k + 0) d.form m (omega arith) (declared_by k d.form m i))
    | inr i ↦ (let r = stands_in (suc k) ds m i in (suc r.0, r.1, r.2, moved (suc k + r.0) (k + suc r.0) r.1.form m (omega arith) r.3))
  ]

  filtered_has : (ms : List DeclaredMethod) (m : DeclaredMethod) → Has (filter is_selectable ms) m → Has ms m × (is_selectable m ≡ true)
  filtered_has [] m h = absurd h
  filtered_has (n ∷ ms) m h = by (is_selectable n) refl h (filtered_has ms m)
    where
      by : (b : Bool) → is_selectable n ≡ b → Has (cond b (n ∷ filter is_selectable ms) (filter is_selectable ms)) m → (Has (filter is_selectable ms) m → Has ms m × (is_selectable m ≡ true)) → Has (n ∷ ms) m × (is_selectable m ≡ true)
      by true e (inl i) r = (inl i, sym (ap is_selectable i) ∙ e)
      by true e (inr i) r = let k = r i in (inr k.0, k.1)
      by false e i r = let k = r i in (inr k.0, k.1)

  not_true : (b : Bool) → not b ≡ true → b ≡ false
  not_true true e = absurd (true≢false (sym e))
  not_true false e = refl

  module _ (s : Setting) (within : ℕ → Bool) (a : Entries) (t : Typing s u within a) where
    no_signature : (o : Option Entry) (g : Signature) → o ≡ None → signature_of o ≡ Some g → ⊥
    no_signature o g e is = let f : ◌≡◌ {A = Option Signature} None (Some g) = sym (ap signature_of e) ∙ is in absurd (cc)

    -- what has a signature is one of those that are typed
    typed_at : (n : ℕ) (g : Signature) → signature_of (a n) ≡ Some g → within n ≡ true
    typed_at n g is = by (within n) refl
      where
        by : (b : Bool) → within n ≡ b → b ≡ true
        by true e = refl
        by false e = absurd (no_signature (a n) g (t.had.only n e) is)

    only_at : (m : DeclaredMethod) (d : Declaration) → within m.number ≡ true → is_selectable m ≡ true → slice_get (declarations u) m.number ≡ Some d → Declares m.number d.form m → IsOnly u m.number type m.sel.name
    only_at m d kept selectable at is =
        let there = t.asks m.number kept in
        let E = environment s u a there.0 in
        let form : there.0.form ≡ method is.receiver is.func = ap (λ (x : Declaration). x.form) (some_once there.0 d (sym there.1 ∙ at)) ∙ is.is in
        let asked : IsMethod E u m.number is.receiver is.func = subst (FormAsks E u m.number) form there.2.form in
        let name : m.sel.name ≡ is.func.name.text = ap (λ (x : Sel). x.name) is.sel in
        let same : asked.type ≡ type = some_once asked.type type (sym asked.of ∙ is.of) in
        let blank : is_blank is.func.name.text ≡ false = sym (ap is_blank name) ∙ not_true (is_blank m.sel.name) selectable in
        subst (IsOnly u m.number type) (sym name) (subst (λ (q : List ℕ). IsOnly u m.number q is.func.name.text) same (asked.only blank))

    once : (m n : DeclaredMethod) (g : Signature) → signature_of (a m.number) ≡ Some g → Has (methods u type) m → Has (methods u type) n → m.sel ≡ n.sel → m.number ≡ n.number
    once m n g is h k e =
        let f = filtered_has (methods_from u type 0 (declarations u)) m h in
        let r = stands_in 0 (declarations u) m f.0 in
        let number : m.number ≡ r.0 = r.3.at ∙ (let e : 0 + r.0 ≡ r.0 = omega arith in e) in
        let only = only_at m r.1 (typed_at m.number g is) f.1 (ap (slice_get (declarations u)) number ∙ r.2) (moved (0 + r.0) m.number r.1.form m (sym r.3.at) r.3) in
        sym (only n k (ap (λ (x : Sel). x.name) (sym e)))

    -- the methods of the type that are had have different selectors
    pub had_once : IsDistinct is_same (had_methods u a type)
    had_once = had_apart a (methods u type) (apart a 0 (methods u type) (rises_filtered 0 (methods_from u type 0 (declarations u)) (rises_from 0 (declarations u))) once)
