-- What a table tells to which the methods of declarations were added in turn.
use Rattle.std.proofs.Common.{◌≡◌, ◌+◌, ◌<◌, ◌≤◌, ℕ, suc, Bool, List, [], ◌∷◌, ◌++◌, length, take, get_or, Option, None, Some, refl, sym, ap, ◌∙◌, arith, append_assoc, append-nil}
use Rattle.std.specs.Prelude.{if◌then◌else◌, slice_get}
use Rattle.std.specs.Str.{bytes_eq}
use Rattle.std.proofs.lemmas.List.{map-append, take_more}
use Rattle.go_base.proofs.Lists.{length_take, take_past}
use Rattle.go_declarations.specs.Forms.{form_of}
use Rattle.go_declarations.specs.Listings.{declaration_of, declarations_of}
use Rattle.go_declarations.specs.declared.listing.Declaration.{Declaration as Borrowed}
use Rattle.go_declarations.specs.go_typings.Declarations.{Form, constants, variables, alias, definition, function, method, declarations, Declaration}
use Rattle.go_declarations.specs.go_typings.Receivers.{base, declared_methods, DeclaredMethod, is_named, is_pointer_form, method_by, methods_from, receiver_form, selector}
use Rattle.go_declarations.specs.go_typings.Sources.{PackageSource}
use Rattle.go_declared.specs.MethodTables.{method_name, method_of, name_by, name_in}
use Rattle.go_declared.specs.declared.methods.MethodRow.{MethodRow}
use Rattle.go_declared.specs.inner.AddingMethods.{with_based, with_form, with_forms}
use Rattle.go_declared.proofs.Declared.{as_long}

module _ {T : Type 0} (with_method : T → List ℕ → List ℕ → MethodRow → T) where
  -- ---- in turn

  forms_split : (all : List Declaration) (t : T) (number : ℕ) (xs ys : List Declaration)
      → with_forms with_method all t number (xs ++ ys) ≡ with_forms with_method all (with_forms with_method all t number xs) (number + length xs) ys
  forms_split all t number [] ys = ap (λ (k : ℕ). with_forms with_method all t k ys) (none number)
    where
      none : (k : ℕ) → k ≡ k + 0
      none k = omega arith
  forms_split all t number (x ∷ xs) ys =
      forms_split all (with_form with_method all t number x.form) (suc number) xs ys ∙ ap (λ (k : ℕ). with_forms with_method all (with_forms with_method all t number (x ∷ xs)) k ys) (one number (length xs))
    where
      one : (k m : ℕ) → suc k + m ≡ k + suc m
      one k m = omega arith

  pub forms_next : (all : List Declaration) (t u v : T) (i : ℕ) (x : Borrowed) (xs : List Borrowed) → i < length xs → x ≡ get_or xs i x → u ≡ with_forms with_method all t 0 (declarations_of (take i xs)) → v ≡ with_form with_method all u i (form_of x.form)
      → v ≡ with_forms with_method all t 0 (declarations_of (take (i + 1) xs))
  forms_next all t u v i x xs h e f g =
      g ∙ ap (λ (w : T). with_form with_method all w i (form_of x.form)) f
      ∙ ap (λ (k : ℕ). with_form with_method all (with_forms with_method all t 0 (declarations_of (take i xs))) k (form_of x.form)) (sym (length_take i xs (omega (arith, h))) ∙ sym (as_long (take i xs)) ∙ none (length (declarations_of (take i xs))))
      ∙ sym (forms_split all t 0 (declarations_of (take i xs)) (declaration_of x ∷ []))
      ∙ ap (with_forms with_method all t 0) (sym (map-append declaration_of (take i xs) (x ∷ [])))
      ∙ ap (λ (ds : List Borrowed). with_forms with_method all t 0 (declarations_of ds)) (sym (take_more xs i x h ∙ ap (λ (z : Borrowed). take i xs ++ z ∷ []) (sym e)))
    where
      none : (k : ℕ) → k ≡ 0 + k
      none k = omega arith

  pub forms_whole : (t u : T) (i : ℕ) (xs : List Borrowed) → length xs ≤ i → u ≡ with_forms with_method (declarations_of xs) t 0 (declarations_of (take i xs)) → u ≡ with_forms with_method (declarations_of xs) t 0 (declarations_of xs)
  forms_whole t u i xs h f = f ∙ ap (λ (ds : List Borrowed). with_forms with_method (declarations_of xs) t 0 (declarations_of ds)) (take_past i xs h)

  -- ---- what is told of a type

  -- `shown` are those of a type's methods that are asked for
  module _ (u : PackageSource) (q : List ℕ) (shown : List DeclaredMethod → List DeclaredMethod) (none : shown [] ≡ []) (both : (xs ys : List DeclaredMethod) → shown (xs ++ ys) ≡ shown xs ++ shown ys) (told : T → List DeclaredMethod)
      (one_more : (t : T) (type name : List ℕ) (row : MethodRow) → method_name (declarations u) row.number ≡ name → told (with_method t type name row) ≡ told t ++ shown (if bytes_eq type q then method_of u row ∷ [] else [])) where
    same : (t : T) → told t ≡ told t ++ shown []
    same t = sym (ap (λ ms. told t ++ ms) none ∙ append-nil (told t))

    -- the method of a declaration, where it is the type's
    method_told : (t : T) (o : Option (List ℕ)) (number : ℕ) (name : List ℕ) (pointer : Bool) → method_name (declarations u) number ≡ name
        → told (with_based with_method o t name (record { number = number; pointer = pointer })) ≡ told t ++ shown (if is_named q o then record { number = number; sel = selector u.path name; pointer = pointer } ∷ [] else [])
    method_told t None number name pointer h = same t
    method_told t (Some type) number name pointer h =
        one_more t type name (record { number = number; pointer = pointer }) h
        ∙ ap (λ (n : List ℕ). told t ++ shown (if bytes_eq type q then record { number = number; sel = selector u.path n; pointer = pointer } ∷ [] else [])) h

    form_told : (t : T) (number : ℕ) (d : Declaration) → slice_get (declarations u) number ≡ Some d → told (with_form with_method (declarations u) t number d.form) ≡ told t ++ shown (method_by u q number d.form)
    form_told t number d e = by d.form refl
      where
        by : (f : Form) → d.form ≡ f → told (with_form with_method (declarations u) t number f) ≡ told t ++ shown (method_by u q number f)
        by (constants s place) h = same t
        by (variables s) h = same t
        by (alias s) h = same t
        by (definition s) h = same t
        by (function f) h = same t
        by (method receiver f) h = method_told t (base (declarations u) receiver) number f.name.text (is_pointer_form (receiver_form receiver)) (ap name_in e ∙ ap name_by h)

    forms_told : (front : List Declaration) (t : T) (number : ℕ) (ds : List Declaration) → declarations u ≡ front ++ ds → length front ≡ number
        → told (with_forms with_method (declarations u) t number ds) ≡ told t ++ shown (methods_from u q number ds)
    forms_told front t number [] e l = same t
    forms_told front t number (d ∷ ds) e l =
        forms_told (front ++ d ∷ []) (with_form with_method (declarations u) t number d.form) (suc number) ds (e ∙ sym (append_assoc front (d ∷ []) ds)) (longer front ∙ ap suc l)
        ∙ ap (λ ms. ms ++ shown (methods_from u q (suc number) ds)) (form_told t number d (ap (λ xs. slice_get xs number) e ∙ ap (slice_get (front ++ d ∷ ds)) (sym l) ∙ at front))
        ∙ append_assoc (told t) (shown (method_by u q number d.form)) (shown (methods_from u q (suc number) ds))
        ∙ ap (λ ms. told t ++ ms) (sym (both (method_by u q number d.form) (methods_from u q (suc number) ds)))
      where
        longer : (xs : List Declaration) → length (xs ++ d ∷ []) ≡ suc (length xs)
        longer [] = refl
        longer (x ∷ xs) = ap suc (longer xs)

        at : (xs : List Declaration) → slice_get (xs ++ d ∷ ds) (length xs) ≡ Some d
        at [] = refl
        at (x ∷ xs) = at xs

    -- a table that told none of them before
    pub filled_tells : (ds : List Declaration) (t w : T) → told t ≡ [] → w ≡ with_forms with_method ds t 0 ds → declarations u ≡ ds → told w ≡ shown (declared_methods u q)
    filled_tells ds t w z e h =
        ap told (e ∙ ap (λ (xs : List Declaration). with_forms with_method xs t 0 xs) (sym h)) ∙ forms_told [] t 0 (declarations u) refl refl ∙ ap (λ ms. ms ++ shown (declared_methods u q)) z
