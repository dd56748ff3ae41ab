-- The methods of a type as its rows tell them: where they are declared, and which of them share a name.
use Rattle.std.proofs.Common.{◌≡◌, ◌≢◌, ◌+◌, ◌≤◌, ℕ, zero, suc, Bool, true, false, List, [], ◌∷◌, ◌++◌, map, Option, None, Some, refl, sym, ap, ◌∙◌, subst, ◌⊎◌, inl, inr, arith}
use mathlib.Core.Bool.{true≢false}
use Rattle.std.specs.Prelude.{filter, if◌then◌else◌, nat_eq, not, slice_get}
use Rattle.std.specs.Cmp.Lexicographic.{bytes_decides}
use Rattle.std.proofs.lemmas.Bool.{eqb-true, eq-eqb}
use Rattle.go_base.specs.Lists.{Has, Once}
use Rattle.go_base.proofs.Members.{has_split}
use Rattle.go_declared.specs.MethodTables.{AreMethods, method_name, method_of}
use Rattle.go_declared.specs.declared.methods.MethodRow.{MethodRow}
use Rattle.go_rules.specs.Expressions.{is_blank}
use Rattle.go_rules.specs.Names.{Named, items_at}
use Rattle.go_selectors.specs.Answers.{Decides}
use Rattle.go_syntax.specs.declared.declaration.Func.{Func}
use Rattle.go_syntax.specs.declared.types.ParameterDecl.{ParameterDecl}
use Rattle.go_typings.proofs.Cells.{none_some, some_once}
use Rattle.go_typings.specs.DeclarationAsks.{IsOnly}
use Rattle.go_typings.specs.Declarations.{alias, constants, declarations, Declaration, definition, Form, function, method, variables}
use Rattle.go_typings.specs.Receivers.{base, declared_methods, DeclaredMethod, is_named, is_pointer_form, is_selectable, method_by, methods, methods_from, receiver_form, selector}
use Rattle.go_typings.specs.Sources.{PackageSource}
use Rattle.go_met.proofs.Fronts.{has_left, has_right}
use Rattle.go_met.specs.inner.SharedNames.{row_names, StandsTwice}
use Rattle.go_met.specs.inner.ToldBases.{HasNumber, IsAlone}

-- ---- the methods of a type

module _ (u : PackageSource) (type : List ℕ) where
  -- the declaration declares the method, of the type
  pub record IsMethodAt (d : Declaration) : Type 0 where
    pub receiver : ParameterDecl
    pub func : Func
    pub form : d.form ≡ method receiver func
    pub of : base (declarations u) receiver ≡ Some type

  abbrev only_if : Bool → DeclaredMethod → List DeclaredMethod
  only_if b m = if b then m ∷ [] else []

  is_of : (o : Option (List ℕ)) → is_named type o ≡ true → o ≡ Some type
  is_of None e = absurd (true≢false (sym e))
  is_of (Some k) e = ap (λ (x : List ℕ). Some x) ((bytes_decides k type).0 e)

  of_one : (b : Bool) (x m : DeclaredMethod) → Has (only_if b x) m → (b ≡ true) × (x ≡ m)
  of_one true x m (inl e) = (refl, e)
  of_one true x m (inr h) = absurd h
  of_one false x m h = absurd h

  abbrev declared_as : ℕ → ParameterDecl → Func → DeclaredMethod
  declared_as number receiver f = record { number = number; sel = selector u.path f.name.text; pointer = is_pointer_form (receiver_form receiver) }

  declares : (number : ℕ) (d : Declaration) (m : DeclaredMethod) → Has (method_by u type number d.form) m → (m.number ≡ number) × IsMethodAt d
  declares number d m = by d.form refl
    where
      by : (f : Form) → d.form ≡ f → Has (method_by u type number f) m → (m.number ≡ number) × IsMethodAt d
      by (constants s place) e h = absurd h
      by (variables s) e h = absurd h
      by (alias s) e h = absurd h
      by (definition s) e h = absurd h
      by (function f) e h = absurd h
      by (method receiver f) e h =
          let k = of_one (is_named type (base (declarations u) receiver)) (declared_as number receiver f) m h in
          (ap (λ (x : DeclaredMethod). x.number) (sym k.1), record { receiver = receiver; func = f; form = e; of = is_of (base (declarations u) receiver) k.0 })

  -- so many declarations further on a method is declared
  pub record StandsOn (from : ℕ) (ds : List Declaration) (m : DeclaredMethod) : Type 0 where
    pub behind : ℕ
    pub number : m.number ≡ from + behind
    pub declaration : Declaration
    pub is : slice_get ds behind ≡ Some declaration
    pub declares : IsMethodAt declaration

  pub stands_on : (from : ℕ) (ds : List Declaration) (m : DeclaredMethod) → Has (methods_from u type from ds) m → StandsOn from ds m
  stands_on from [] m h = absurd h
  stands_on from (d ∷ ds) m h = elim (has_split (method_by u type from d.form) (methods_from u type (suc from) ds) m h) [
    | inl k ↦ (let w = declares from d m k in record { behind = 0; number = w.0 ∙ none from; declaration = d; is = refl; declares = w.1 })
    | inr k ↦ (let w = stands_on (suc from) ds m k in record { behind = suc w.behind; number = w.number ∙ one from w.behind; declaration = w.declaration; is = w.is; declares = w.declares })
  ]
    where
      none : (n : ℕ) → n ≡ n + 0
      none n = omega arith

      one : (n k : ℕ) → suc n + k ≡ n + suc k
      one n k = omega arith

  named_so : (receiver : ParameterDecl) → base (declarations u) receiver ≡ Some type → is_named type (base (declarations u) receiver) ≡ true
  named_so receiver e = ap (is_named type) e ∙ (bytes_decides type type).1 refl

  here : (number : ℕ) (d : Declaration) (w : IsMethodAt d) → Has (method_by u type number d.form) (declared_as number w.receiver w.func)
  here number d w =
      subst (λ (f : Form). Has (method_by u type number f) (declared_as number w.receiver w.func)) (sym w.form)
      (subst (λ b. Has (only_if b (declared_as number w.receiver w.func)) (declared_as number w.receiver w.func)) (sym (named_so w.receiver w.of)) (inl refl))

  -- a method that is declared for the type is one of its methods
  pub is_there : (from n : ℕ) (ds : List Declaration) (d : Declaration) → slice_get ds n ≡ Some d → IsMethodAt d → (m : DeclaredMethod) × (m.number ≡ from + n) × Has (methods_from u type from ds) m
  is_there from n [] d e w = none_some {A = Declaration} None d refl e
  is_there from zero (x ∷ ds) d e w =
      let at = subst IsMethodAt (sym (some_once x d e)) w in
      (declared_as from at.receiver at.func, none from, has_left (method_by u type from x.form) (methods_from u type (suc from) ds) _ (here from x at))
    where
      none : (k : ℕ) → k ≡ k + 0
      none k = omega arith
  is_there from (suc n) (x ∷ ds) d e w =
      let k = is_there (suc from) n ds d e w in
      (k.0, k.1 ∙ one from n, has_right (method_by u type from x.form) (methods_from u type (suc from) ds) k.0 k.2)
    where
      one : (a b : ℕ) → suc a + b ≡ a + suc b
      one a b = omega arith

  -- ---- their numbers

  abbrev pub numbers : List DeclaredMethod → List ℕ
  numbers ms = map (λ (m : DeclaredMethod). m.number) ms

  number_from : (from : ℕ) (ds : List Declaration) (n : ℕ) → Has (numbers (methods_from u type from ds)) n → from ≤ n
  number_from from ds n h = let k = of_map (methods_from u type from ds) h in let w = stands_on from ds k.0 k.1 in let e = w.number in let f = k.2 in omega (arith, e, f)
    where
      of_map : (ms : List DeclaredMethod) → Has (numbers ms) n → (m : DeclaredMethod) × Has ms m × (m.number ≡ n)
      of_map [] h = absurd h
      of_map (m ∷ ms) (inl e) = (m, inl refl, e)
      of_map (m ∷ ms) (inr h) = let k = of_map ms h in (k.0, inr k.1, k.2)

  numbers_once : (from : ℕ) (ds : List Declaration) → Once (numbers (methods_from u type from ds))
  numbers_once from [] = tt
  numbers_once from (d ∷ ds) = by d.form (numbers_once (suc from) ds)
    where
      later : (x : DeclaredMethod) → x.number ≡ from → Has (numbers (methods_from u type (suc from) ds)) x.number → ⊥
      later x f h = let k = number_from (suc from) ds x.number h in absurd (omega (arith, k, f))

      more : (b : Bool) (m : DeclaredMethod) → m.number ≡ from → Once (numbers (methods_from u type (suc from) ds)) → Once (numbers (only_if b m ++ methods_from u type (suc from) ds))
      more true m e o = ((λ h. later m e h), o)
      more false m e o = o

      by : (f : Form) → Once (numbers (methods_from u type (suc from) ds)) → Once (numbers (method_by u type from f ++ methods_from u type (suc from) ds))
      by (constants s place) o = o
      by (variables s) o = o
      by (alias s) o = o
      by (definition s) o = o
      by (function f) o = o
      by (method receiver f) o = more (is_named type (base (declarations u) receiver)) (declared_as from receiver f) refl o

  pub methods_once : Once (numbers (declared_methods u type))
  methods_once = numbers_once 0 (declarations u)

-- ---- rows

mapped : {A B : Type 0} (f : A → B) (xs : List A) (x : A) → Has xs x → Has (map f xs) (f x)
mapped f [] x h = absurd h
mapped f (y ∷ xs) x (inl e) = inl (ap f e)
mapped f (y ∷ xs) x (inr h) = inr (mapped f xs x h)

of_mapped : {A B : Type 0} (f : A → B) (xs : List A) (y : B) → Has (map f xs) y → (x : A) × Has xs x × (f x ≡ y)
of_mapped f [] y h = absurd h
of_mapped f (x ∷ xs) y (inl e) = (x, inl refl, e)
of_mapped f (x ∷ xs) y (inr h) = let k = of_mapped f xs y h in (k.0, inr k.1, k.2)

same_numbers : (u : PackageSource) (rows : List MethodRow) → map (λ (m : DeclaredMethod). m.number) (map (method_of u) rows) ≡ map (λ (r : MethodRow). r.number) rows
same_numbers u [] = refl
same_numbers u (r ∷ rs) = ap (λ (ns : List ℕ). r.number ∷ ns) (same_numbers u rs)

-- members with a name of which two share their number are one, where no two share it
shared_apart : (ds : List Declaration) (rows : List MethodRow) (name : List ℕ) → Once (map (λ (r : MethodRow). r.number) rows) → StandsTwice (row_names ds rows) name
    → (q r : MethodRow) × Has rows q × Has rows r × (method_name ds q.number ≡ name) × (method_name ds r.number ≡ name) × (q.number ≢ r.number)
shared_apart ds [] name o h = absurd h
shared_apart ds (r ∷ rs) name o (inl h) =
    let k = of_mapped (λ (x : MethodRow). method_name ds x.number) rs name h.1 in
    (r, k.0, inl refl, inr k.1, h.0, k.2, (λ e. o.0 (subst (Has (map (λ (x : MethodRow). x.number) rs)) (sym e) (mapped (λ (x : MethodRow). x.number) rs k.0 k.1))))
shared_apart ds (r ∷ rs) name o (inr h) = let k = shared_apart ds rs name o.1 h in (k.0, k.1, inr k.2, inr k.3, k.4, k.5, k.6)

-- two of these rows with a name share it
apart_shared : (ds : List Declaration) (rows : List MethodRow) (name : List ℕ) (q r : MethodRow) → Has rows q → Has rows r → method_name ds q.number ≡ name → method_name ds r.number ≡ name → q.number ≢ r.number → StandsTwice (row_names ds rows) name
apart_shared ds [] name q r h k e f n = absurd h
apart_shared ds (x ∷ rs) name q r (inl h) (inl k) e f n = absurd (n (ap (λ (y : MethodRow). y.number) (sym h ∙ k)))
apart_shared ds (x ∷ rs) name q r (inl h) (inr k) e f n =
    inl (ap (λ (y : MethodRow). method_name ds y.number) h ∙ e, subst (Has (row_names ds rs)) f (mapped (λ (y : MethodRow). method_name ds y.number) rs r k))
apart_shared ds (x ∷ rs) name q r (inr h) (inl k) e f n =
    inl (ap (λ (y : MethodRow). method_name ds y.number) k ∙ f, subst (Has (row_names ds rs)) e (mapped (λ (y : MethodRow). method_name ds y.number) rs q h))
apart_shared ds (x ∷ rs) name q r (inr h) (inr k) e f n = inr (apart_shared ds rs name q r h k e f n)

kept : {A : Type 0} (p : A → Bool) (xs : List A) (x : A) → Has xs x → p x ≡ true → Has (filter p xs) x
kept p [] x h e = absurd h
kept p (y ∷ xs) x h e = by (p y) refl h (λ k. kept p xs x k e)
  where
    by : (b : Bool) → p y ≡ b → Has (y ∷ xs) x → (Has xs x → Has (filter p xs) x) → Has (if b then y ∷ filter p xs else filter p xs) x
    by true f (inl g) on = inl g
    by true f (inr k) on = inr (on k)
    by false f (inl g) on = absurd (true≢false (sym e ∙ ap p (sym g) ∙ f))
    by false f (inr k) on = on k

of_kept : {A : Type 0} (p : A → Bool) (xs : List A) (x : A) → Has (filter p xs) x → Has xs x × (p x ≡ true)
of_kept p [] x h = absurd h
of_kept {A = A} p (y ∷ xs) x h = by (p y) refl h (of_kept p xs x)
  where
    by : (b : Bool) → p y ≡ b → Has (if b then y ∷ filter p xs else filter p xs) x → (Has (filter p xs) x → Has xs x × (p x ≡ true)) → Has (y ∷ xs) x × (p x ≡ true)
    by true f (inl g) on = (inl g, ap p (sym g) ∙ f)
    by true f (inr k) on = (inr (on k).0, (on k).1)
    by false f k on = (inr (on k).0, (on k).1)

same_or_not : (m n : ℕ) → (m ≡ n) ⊎ (m ≢ n)
same_or_not m n = by (nat_eq m n) refl
  where
    by : (b : Bool) → nat_eq m n ≡ b → (m ≡ n) ⊎ (m ≢ n)
    by true e = inl (eqb-true m n e)
    by false e = inr (λ f. true≢false (sym (eq-eqb m n f) ∙ e))

not_true : (b : Bool) → not b ≡ true → b ≡ false
not_true true e = absurd (true≢false (sym e))
not_true false e = refl

not_false : (b : Bool) → b ≡ false → not b ≡ true
not_false true e = absurd (true≢false e)
not_false false e = refl

module _ (u : PackageSource) (t : Named (List MethodRow)) (are : AreMethods (declarations u) t) (type : List ℕ) where
  abbrev rows : List MethodRow
  rows = items_at t type

  rows_once : Once (map (λ (r : MethodRow). r.number) rows)
  rows_once = subst Once (ap (map (λ (m : DeclaredMethod). m.number)) (sym (are u refl type)) ∙ same_numbers u rows) (methods_once u type)

  -- the declaration of a row declares a method of the type
  pub row_declares : (n : ℕ) (d : Declaration) → HasNumber rows n → slice_get (declarations u) n ≡ Some d → IsMethodAt u type d
  row_declares n d h e =
      let w = stands_on u type 0 (declarations u) (method_of u h.0) (subst (λ (ms : List DeclaredMethod). Has ms (method_of u h.0)) (are u refl type) (mapped (method_of u) rows h.0 h.1)) in
      let at : w.behind ≡ n = zeros w.behind n h.0.number w.number h.2 in
      subst (IsMethodAt u type) (some_once w.declaration d (sym w.is ∙ ap (slice_get (declarations u)) at ∙ e)) w.declares
    where
      zeros : (a b c : ℕ) → c ≡ 0 + a → c ≡ b → a ≡ b
      zeros a b c e f = omega arith

  -- a declaration that declares a method of the type has its row
  pub declares_row : (n : ℕ) (d : Declaration) → slice_get (declarations u) n ≡ Some d → IsMethodAt u type d → HasNumber rows n
  declares_row n d e w =
      let m = is_there u type 0 n (declarations u) d e w in
      let k = of_mapped (method_of u) rows m.0 (subst (λ (ms : List DeclaredMethod). Has ms m.0) (sym (are u refl type)) m.2) in
      (k.0, k.1, same (method_of u k.0) m.0 k.2 m.1)
    where
      none : (k : ℕ) → 0 + k ≡ k
      none k = omega arith

      same : (x y : DeclaredMethod) → x ≡ y → y.number ≡ 0 + n → x.number ≡ n
      same x y e f = ap (λ (z : DeclaredMethod). z.number) e ∙ f ∙ none n

  abbrev IsShared : List ℕ → Type 0
  IsShared name = StandsTwice (row_names (declarations u) rows) name

  module _ (n : ℕ) (r : MethodRow) (has : Has rows r) (at : r.number ≡ n) (name : List ℕ) (named : method_name (declarations u) n ≡ name) where
    row_named : method_name (declarations u) r.number ≡ name
    row_named = ap (method_name (declarations u)) at ∙ named

    -- a method that a selector finds is that of a row
    row_of : (m : DeclaredMethod) → Has (methods u type) m → (q : MethodRow) × Has rows q × (q.number ≡ m.number) × (method_name (declarations u) q.number ≡ m.sel.name) × (is_blank m.sel.name ≡ false)
    row_of m h =
        let f = of_kept is_selectable (declared_methods u type) m h in
        let k = of_mapped (method_of u) rows m (subst (λ (ms : List DeclaredMethod). Has ms m) (sym (are u refl type)) f.0) in
        (k.0, k.1, ap (λ (x : DeclaredMethod). x.number) k.2, ap (λ (x : DeclaredMethod). x.sel.name) k.2, not_true (is_blank m.sel.name) f.1)

    alone_only : IsAlone IsShared name → IsOnly u n type name
    alone_only (inl blank) m h e = let q = row_of m h in absurd (true≢false (sym blank ∙ ap is_blank (sym e) ∙ q.4))
    alone_only (inr none) m h e =
        let q = row_of m h in
        elim (same_or_not q.0.number r.number) [
          | inl same ↦ sym q.2 ∙ same ∙ at
          | inr other ↦ absurd (none (apart_shared (declarations u) rows name q.0 r q.1 has (q.3 ∙ e) row_named other))
        ]

    found : (q : MethodRow) → Has rows q → method_name (declarations u) q.number ≡ name → is_blank name ≡ false → IsOnly u n type name → q.number ≡ n
    found q h e f only =
        only (method_of u q)
        (kept is_selectable (declared_methods u type) (method_of u q) (subst (λ (ms : List DeclaredMethod). Has ms (method_of u q)) (are u refl type) (mapped (method_of u) rows q h)) (not_false (is_blank (method_name (declarations u) q.number)) (ap is_blank e ∙ f)))
        e

    only_alone : IsOnly u n type name → IsAlone IsShared name
    only_alone only = by (is_blank name) refl
      where
        by : (b : Bool) → is_blank name ≡ b → IsAlone IsShared name
        by true e = inl e
        by false e = inr (λ h. (let k = shared_apart (declarations u) rows name rows_once h in k.6 (found k.0 k.2 k.4 e only ∙ sym (found k.1 k.3 k.5 e only))))

    pub only_decided : (b : Bool) → Decides b (IsAlone IsShared name) → Decides b (IsOnly u n type name)
    only_decided true d = alone_only d
    only_decided false d = λ only. d (only_alone only)
