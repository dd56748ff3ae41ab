-- The methods of a type and the numbers of the declarations that declare them.
use Rattle.std.proofs.Common.{◌≡◌, ℕ, zero, suc, ◌+◌, ◌≤◌, Bool, true, false, not, List, [], ◌∷◌, ◌++◌, filter, Option, Some, None, refl, sym, ap, ◌∙◌, subst, ◌⊎◌, inl, inr, arith}
use Rattle.std.specs.Prelude.{if◌then◌else◌, slice_get}
use Rattle.std.specs.Cmp.Lexicographic.{bytes_decides}
use mathlib.Core.Bool.{true≢false}
use Rattle.go_base.specs.Lists.{Has}
use Rattle.go_base.proofs.Members.{has_split}
use Rattle.go_rules.specs.Expressions.{is_blank}
use Rattle.go_syntax.specs.declared.declaration.Func.{Func}
use Rattle.go_syntax.specs.declared.types.ParameterDecl.{ParameterDecl}
use Rattle.go_typings.specs.Declarations.{Form, constants, variables, alias, definition, function, method, Declaration, declarations}
use Rattle.go_typings.specs.Receivers.{base, DeclaredMethod, declared_methods, is_named, is_pointer_form, is_selectable, method_by, methods, methods_from, receiver_form, selector}
use Rattle.go_typings.specs.Sources.{PackageSource}
use Rattle.go_typings.proofs.Cells.{if_true, some_once}

-- ---- members of lists

has_left : {A : Type 0} (xs ys : List A) (x : A) → Has xs x → Has (xs ++ ys) x
has_left [] ys x h = absurd h
has_left (y ∷ xs) ys x (inl e) = inl e
has_left (y ∷ xs) ys x (inr h) = inr (has_left xs ys x h)

has_right : {A : Type 0} (xs ys : List A) (x : A) → Has ys x → Has (xs ++ ys) x
has_right [] ys x h = h
has_right (y ∷ xs) ys x h = inr (has_right xs ys x h)

-- what passes a test is a member of the whole
passed : {A : Type 0} (p : A → Bool) (xs : List A) (x : A) → Has (filter p xs) x → Has xs x × (p x ≡ true)
passed p [] x h = absurd h
passed p (y ∷ xs) x h = by (p y) refl (passed p xs x) h
  where
    by : (b : Bool) → p y ≡ b → (Has (filter p xs) x → Has xs x × (p x ≡ true)) → Has (if b then y ∷ filter p xs else filter p xs) x → Has (y ∷ xs) x × (p x ≡ true)
    by true e rest (inl same) = (inl same, ap p (sym same) ∙ e)
    by true e rest (inr k) = let r = rest k in (inr r.0, r.1)
    by false e rest k = let r = rest k in (inr r.0, r.1)

passes : {A : Type 0} (p : A → Bool) (xs : List A) (x : A) → Has xs x → p x ≡ true → Has (filter p xs) x
passes p [] x h e = absurd h
passes p (y ∷ xs) x h e = by (p y) refl h (λ k. passes p xs x k e)
  where
    by : (b : Bool) → p y ≡ b → Has (y ∷ xs) x → (Has xs x → Has (filter p xs) x) → Has (if b then y ∷ filter p xs else filter p xs) x
    by true f (inl same) rest = inl same
    by true f (inr k) rest = inr (rest k)
    by false f (inl same) rest = absurd (true≢false (sym e ∙ ap p (sym same) ∙ f))
    by false f (inr k) rest = rest k

-- ---- the method of a declaration

-- the form is that of a method of the type with this selector
pub record Declares (u : PackageSource) (type : List ℕ) (f : Form) (m : DeclaredMethod) : Type 0 where
  pub receiver : ParameterDecl
  pub func : Func
  pub form : f ≡ method receiver func
  pub of : base (declarations u) receiver ≡ Some type
  pub sel : m.sel ≡ selector u.path func.name.text

named : (type : List ℕ) (o : Option (List ℕ)) → is_named type o ≡ true → o ≡ Some type
named type None e = absurd (true≢false (sym e))
named type (Some other) e = ap Some ((bytes_decides other type).0 e)

if_has : (b : Bool) (x m : DeclaredMethod) → Has (if b then x ∷ [] else []) m → (b ≡ true) × (x ≡ m)
if_has true x m (inl e) = (refl, e)
if_has true x m (inr h) = absurd h
if_has false x m h = absurd h

module _ (u : PackageSource) (type : List ℕ) where
  declares : (n : ℕ) (f : Form) (m : DeclaredMethod) → Has (method_by u type n f) m → Declares u type f m × (m.number ≡ n)
  declares n (method receiver f) m h =
      let k = if_has (is_named type (base (declarations u) receiver)) (record { number = n; sel = selector u.path f.name.text; pointer = is_pointer_form (receiver_form receiver) }) m h in (
        record { receiver = receiver; func = f; form = refl; of = named type (base (declarations u) receiver) k.0; sel = sym (ap (λ (z : DeclaredMethod). z.sel) k.1) },
        sym (ap (λ (z : DeclaredMethod). z.number) k.1),
      )
  declares n (constants spec place) m h = absurd h
  declares n (variables spec) m h = absurd h
  declares n (alias spec) m h = absurd h
  declares n (definition spec) m h = absurd h
  declares n (function f) m h = absurd h

  at_least : (first : ℕ) (ds : List Declaration) (m : DeclaredMethod) → Has (methods_from u type first ds) m → first ≤ m.number
  at_least first [] m h = absurd h
  at_least first (d ∷ ds) m h = by (has_split (method_by u type first d.form) (methods_from u type (suc first) ds) m h) (at_least (suc first) ds m)
    where
      by : Has (method_by u type first d.form) m ⊎ Has (methods_from u type (suc first) ds) m → (Has (methods_from u type (suc first) ds) m → suc first ≤ m.number) → first ≤ m.number
      by (inl k) rest = let e = (declares first d.form m k).1 in omega (arith, e)
      by (inr k) rest = let l = rest k in omega (arith, l)

  declared_behind : (first : ℕ) (ds : List Declaration) (m : DeclaredMethod) (behind : ℕ) (d : Declaration) → Has (methods_from u type first ds) m → slice_get ds behind ≡ Some d → m.number ≡ first + behind → Declares u type d.form m
  declared_behind first [] m behind d h at e = absurd h
  declared_behind first (x ∷ ds) m zero d h at e = by (has_split (method_by u type first x.form) (methods_from u type (suc first) ds) m h)
    where
      by : Has (method_by u type first x.form) m ⊎ Has (methods_from u type (suc first) ds) m → Declares u type d.form m
      by (inl k) = subst (λ (z : Declaration). Declares u type z.form m) (some_once x d at) (declares first x.form m k).0
      by (inr k) = let l = at_least (suc first) ds m k in absurd (omega (arith, l, e))
  declared_behind first (x ∷ ds) m (suc behind) d h at e =
      by (has_split (method_by u type first x.form) (methods_from u type (suc first) ds) m h) (λ k. declared_behind (suc first) ds m behind d k at (omega (arith, e)))
    where
      by : Has (method_by u type first x.form) m ⊎ Has (methods_from u type (suc first) ds) m → (Has (methods_from u type (suc first) ds) m → Declares u type d.form m) → Declares u type d.form m
      by (inl k) rest = let l = (declares first x.form m k).1 in absurd (omega (arith, l, e))
      by (inr k) rest = rest k

  module _ (receiver : ParameterDecl) (f : Func) (of : base (declarations u) receiver ≡ Some type) where
    abbrev Stands : ℕ → List DeclaredMethod → Type 0
    Stands n ms = (m : DeclaredMethod) × Has ms m × (m.number ≡ n) × (m.sel ≡ selector u.path f.name.text)

    here : (n : ℕ) (g : Form) → g ≡ method receiver f → Stands n (method_by u type n g)
    here n g form =
        let x : DeclaredMethod = record { number = n; sel = selector u.path f.name.text; pointer = is_pointer_form (receiver_form receiver) } in
        let xs : List DeclaredMethod = x ∷ [] in
        let is : is_named type (base (declarations u) receiver) ≡ true = ap (is_named type) of ∙ (bytes_decides type type).1 refl in
        (x, subst (λ (ms : List DeclaredMethod). Has ms x) (sym (if_true (is_named type (base (declarations u) receiver)) xs [] is) ∙ sym (ap (method_by u type n) form)) (inl refl), refl, refl)

    stands_behind : (first : ℕ) (ds : List Declaration) (behind : ℕ) (d : Declaration) → slice_get ds behind ≡ Some d → d.form ≡ method receiver f → Stands (first + behind) (methods_from u type first ds)
    stands_behind first [] behind d at form = absurd cc
    stands_behind first (x ∷ ds) zero d at form =
        let k = here first x.form (ap (λ (z : Declaration). z.form) (some_once x d at) ∙ form) in
        (k.0, has_left (method_by u type first x.form) (methods_from u type (suc first) ds) k.0 k.1, (let e = k.2 in omega (arith, e)), k.3)
    stands_behind first (x ∷ ds) (suc behind) d at form =
        let k = stands_behind (suc first) ds behind d at form in
        (k.0, has_right (method_by u type first x.form) (methods_from u type (suc first) ds) k.0 k.1, (let e = k.2 in omega (arith, e)), k.3)

  not_blank : (b : Bool) → not b ≡ true → b ≡ false
  not_blank true e = absurd (true≢false (sym e))
  not_blank false e = refl

  -- a method of the type is declared by the declaration of its number, and isn't blank
  pub declared_there : (m : DeclaredMethod) (n : ℕ) (d : Declaration) → Has (methods u type) m → slice_get (declarations u) n ≡ Some d → m.number ≡ n → Declares u type d.form m × (is_blank m.sel.name ≡ false)
  declared_there m n d h at e =
      let k = passed is_selectable (declared_methods u type) m h in
      (declared_behind 0 (declarations u) m n d k.0 at (omega (arith, e)), not_blank (is_blank m.sel.name) k.1)

  -- and the declaration of a method that isn't blank declares one of its type
  pub stands_there : (n : ℕ) (d : Declaration) (receiver : ParameterDecl) (f : Func) → slice_get (declarations u) n ≡ Some d → d.form ≡ method receiver f → base (declarations u) receiver ≡ Some type → is_blank f.name.text ≡ false
      → (m : DeclaredMethod) × Has (methods u type) m × (m.number ≡ n) × (m.sel ≡ selector u.path f.name.text)
  stands_there n d receiver f at form of shows =
      let k = stands_behind receiver f of 0 (declarations u) n d at form in
      (k.0, passes is_selectable (declared_methods u type) k.0 k.1 (ap (λ s. is_selectable (record { number = k.0.number; sel = s; pointer = k.0.pointer })) k.3 ∙ ap not shows), (let e = k.2 in omega (arith, e)), k.3)
