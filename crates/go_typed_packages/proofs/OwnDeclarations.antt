-- Where a package declares a defined type and its methods, and what of them is had.
use Rattle.std.proofs.Common.{◌≡◌, ℕ, suc, ◌+◌, Bool, true, false, List, [], ◌∷◌, Option, Some, None, refl, sym, ap, ◌∙◌, subst, inl, inr, arith}
use Rattle.std.specs.Prelude.{if◌then◌else◌, not, filter, slice_get}
use Rattle.std.proofs.lemmas.Slice.Eq.{bytes_eq-Decides}
use Rattle.go_base.proofs.Members.{gather_of, has_split}
use Rattle.go_base.specs.Lists.{Has}
use Rattle.go_model.specs.declared.types.package.Defined.{Defined}
use Rattle.go_model.specs.declared.types.package.Entity.{Entity}
use Rattle.go_model.specs.declared.types.package.MethodOf.{MethodOf}
use Rattle.go_model.specs.declared.types.term.Signature.{Signature}
use Rattle.go_model.specs.declared.types.term.Term.{Term}
use Rattle.go_rules.proofs.OneKind.{no_truth}
use Rattle.go_rules.specs.Expressions.{is_blank}
use Rattle.go_exposed.proofs.go_soundness_proofs.DeclaredForms.{method_declared}
use Rattle.go_syntax.specs.declared.declaration.Func.{Func}
use Rattle.go_syntax.specs.declared.declaration.TypeSpec.{TypeSpec}
use Rattle.go_syntax.specs.declared.types.ParameterDecl.{ParameterDecl}
use Rattle.go_typings.proofs.Agree.{held}
use Rattle.go_typings.proofs.Cells.{none_some, some_once}
use Rattle.go_typings.proofs.GrowEnvironments.{signature_back, underlying_back, with_back}
use Rattle.go_typings.proofs.OneTyping.{all_hold, grows, one}
use Rattle.go_typings.specs.DeclarationAsks.{Asks}
use Rattle.go_typings.specs.Declarations.{Form, constants, variables, alias, definition, function, method, Declaration, Declared, declarations, declared}
use Rattle.go_typings.specs.PackageEnvironments.{Entries, Entry, underlying, signed, defined_at, defined_by, entity_at, entity_by, environment, had, had_of, own_defined, signature_of, underlying_of}
use Rattle.go_typings.specs.Receivers.{DeclaredMethod, base, declared_methods, is_named, is_pointer_form, is_selectable, method_by, methods, methods_from, receiver_form, selector}
use Rattle.go_typings.specs.Sources.{PackageSource, Setting}
use Rattle.go_typings.specs.Typings.{Typing, given}
use Rattle.go_exposed.specs.OfferedPackages.{entered, kept_at}

-- ---- defined types

-- where a defined type is declared, and what is had of it
pub record OwnType (u : PackageSource) (a : Entries) (name : List ℕ) (d : Defined) : Type 0 where
  pub at : Declared
  pub spec : TypeSpec
  pub is : declared (declarations u) name ≡ Some at
  pub form : at.form ≡ definition spec
  pub beneath : Term
  pub entry : a at.number ≡ Some (underlying beneath)
  pub made : d ≡ record { name = name; underlying = beneath; methods = had a (methods u name) }

module _ (u : PackageSource) (a : Entries) (name : List ℕ) (d : Defined) where
  by_form : (w : Declared) (f : Form) → declared (declarations u) name ≡ Some w → w.form ≡ f → defined_by u a name w.number f ≡ Some d → OwnType u a name d
  by_form w (definition c) f g e =
      let q = with_back name (had a (methods u name)) (underlying_of (a w.number)) d e in
      record { at = w; spec = c; is = f; form = g; beneath = q.0; entry = underlying_back (a w.number) q.0 q.1; made = q.2 }
  by_form w (constants c k) f g e = none_some (defined_by u a name w.number (constants c k)) d refl e
  by_form w (variables c) f g e = none_some (defined_by u a name w.number (variables c)) d refl e
  by_form w (alias c) f g e = none_some (defined_by u a name w.number (alias c)) d refl e
  by_form w (function c) f g e = none_some (defined_by u a name w.number (function c)) d refl e
  by_form w (method r c) f g e = none_some (defined_by u a name w.number (method r c)) d refl e

  by_declared : (c : Option Declared) → declared (declarations u) name ≡ c → defined_at u a name c ≡ Some d → OwnType u a name d
  by_declared None f e = none_some (defined_at u a name None) d refl e
  by_declared (Some w) f e = by_form w w.form f refl e

  pub own_type_of : own_defined u a name ≡ Some d → OwnType u a name d
  own_type_of e = by_declared (declared (declarations u) name) refl e

-- ---- methods

-- where a method of a defined type is declared
pub record MethodAt (u : PackageSource) (type : List ℕ) (m : DeclaredMethod) : Type 0 where
  pub declaration : Declaration
  pub is : slice_get (declarations u) m.number ≡ Some declaration
  pub receiver : ParameterDecl
  pub func : Func
  pub form : declaration.form ≡ method receiver func
  pub of : base (declarations u) receiver ≡ Some type
  pub sel : m.sel ≡ selector u.path func.name.text

-- the same by the number from the first of the declarations on
record MethodFrom (u : PackageSource) (type : List ℕ) (k : ℕ) (ds : List Declaration) (m : DeclaredMethod) : Type 0 where
  behind : ℕ
  number : m.number ≡ k + behind
  declaration : Declaration
  is : slice_get ds behind ≡ Some declaration
  receiver : ParameterDecl
  func : Func
  form : declaration.form ≡ method receiver func
  of : base (declarations u) receiver ≡ Some type
  sel : m.sel ≡ selector u.path func.name.text

if_has : {A : Type 0} (b : Bool) (x y : A) → Has (if b then x ∷ [] else []) y → (b ≡ true) × (x ≡ y)
if_has true x y (inl e) = (refl, e)
if_has true x y (inr h) = absurd h
if_has false x y h = absurd h

named_is : (name : List ℕ) (c : Option (List ℕ)) → is_named name c ≡ true → c ≡ Some name
named_is name None e = absurd (no_truth (sym e))
named_is name (Some other) e = ap Some ((bytes_eq-Decides other name).0 e)

module _ (u : PackageSource) (type : List ℕ) where
  from_here : (k : ℕ) (d : Declaration) (ds : List Declaration) (m : DeclaredMethod) (f : Form) → d.form ≡ f → Has (method_by u type k f) m → MethodFrom u type k (d ∷ ds) m
  from_here k d ds m (method r f) e h =
      let q = if_has (is_named type (base (declarations u) r)) (record { number = k; sel = selector u.path f.name.text; pointer = is_pointer_form (receiver_form r) }) m h in
      let n = ap (λ (z : DeclaredMethod). z.number) q.1 in
      record {
        behind = 0;
        number = omega (arith, n);
        declaration = d;
        is = refl;
        receiver = r;
        func = f;
        form = e;
        of = named_is type (base (declarations u) r) q.0;
        sel = sym (ap (λ (z : DeclaredMethod). z.sel) q.1);
      }
  from_here k d ds m (constants c at) e h = absurd h
  from_here k d ds m (variables c) e h = absurd h
  from_here k d ds m (alias c) e h = absurd h
  from_here k d ds m (definition c) e h = absurd h
  from_here k d ds m (function c) e h = absurd h

  from_later : (k : ℕ) (d : Declaration) (ds : List Declaration) (m : DeclaredMethod) → MethodFrom u type (suc k) ds m → MethodFrom u type k (d ∷ ds) m
  from_later k d ds m f = record {
    behind = suc f.behind;
    number = (let n = f.number in omega (arith, n));
    declaration = f.declaration;
    is = f.is;
    receiver = f.receiver;
    func = f.func;
    form = f.form;
    of = f.of;
    sel = f.sel;
  }

  method_from : (k : ℕ) (ds : List Declaration) (m : DeclaredMethod) → Has (methods_from u type k ds) m → MethodFrom u type k ds m
  method_from k [] m h = absurd h
  method_from k (d ∷ ds) m h = elim (has_split (method_by u type k d.form) (methods_from u type (suc k) ds) m h) [
    | inl j ↦ from_here k d ds m d.form refl j
    | inr j ↦ from_later k d ds m (method_from (suc k) ds m j)
  ]

  pub method_at : (m : DeclaredMethod) → Has (methods u type) m → MethodAt u type m
  method_at m h =
      let f = method_from 0 (declarations u) m (method_declared u type m h) in
      let n = f.number in let e : f.behind ≡ m.number = omega (arith, n) in
      record {
        declaration = f.declaration;
        is = subst (λ (k : ℕ). slice_get (declarations u) k ≡ Some f.declaration) e f.is;
        receiver = f.receiver;
        func = f.func;
        form = f.form;
        of = f.of;
        sel = f.sel;
      }

selects : {A : Type 0} (p : A → Bool) (xs : List A) (x : A) → Has (filter p xs) x → p x ≡ true
selects p [] x h = absurd h
selects p (y ∷ xs) x h = choose (p y) refl (selects p xs x) h
  where
    choose : (b : Bool) → p y ≡ b → (Has (filter p xs) x → p x ≡ true) → Has (if b then y ∷ filter p xs else filter p xs) x → p x ≡ true
    choose true e f (inl q) = ap p (sym q) ∙ e
    choose true e f (inr k) = f k
    choose false e f k = f k

not_true : (b : Bool) → not b ≡ true → b ≡ false
not_true true e = sym e
not_true false e = refl

-- a method that a selector can find isn't blank
pub is_named_method : (u : PackageSource) (type : List ℕ) (m : DeclaredMethod) → Has (methods u type) m → is_blank m.sel.name ≡ false
is_named_method u type m h = not_true (is_blank m.sel.name) (selects is_selectable (declared_methods u type) m h)

-- a method that is had, and its declaration
pub record HadAs (a : Entries) (ms : List DeclaredMethod) (m : MethodOf) : Type 0 where
  pub declares : DeclaredMethod
  pub has : Has ms declares
  pub sel : m.sel ≡ declares.sel
  pub entry : a declares.number ≡ Some (signed m.signature)

pub had_as : (a : Entries) (ms : List DeclaredMethod) (m : MethodOf) → Has (had a ms) m → HadAs a ms m
had_as a ms m h = let q = gather_of (λ d. had_of d (signature_of (a d.number))) ms m h in of_cell q.0 q.1 (signature_of (a q.0.number)) refl q.2
  where
    of_cell : (d : DeclaredMethod) → Has ms d → (c : Option Signature) → signature_of (a d.number) ≡ c → Has (had_of d c) m → HadAs a ms m
    of_cell d k None e j = absurd j
    of_cell d k (Some g) e (inl p) = record {
      declares = d;
      has = k;
      sel = sym (ap (λ (z : MethodOf). z.sel) p);
      entry = signature_back (a d.number) g e ∙ ap (λ (z : MethodOf). Some (signed z.signature)) p;
    }
    of_cell d k (Some g) e (inr j) = absurd j

-- ---- objects

-- what a name has as its object it denotes
pub kept_denotes : (path : List ℕ) (a : Entries) (w : Option Declared) (y : Entity) → kept_at path a w ≡ Some y → entity_at path a w ≡ Some y
kept_denotes path a None y e = e
kept_denotes path a (Some d) y e = by (a d.number) (entity_by path a d.number d.place d.form) e
  where
    by : (c : Option Entry) (o : Option Entity) → entered c o ≡ Some y → o ≡ Some y
    by None o f = none_some {A = Entity} None y refl f
    by (Some z) o f = f

-- ---- what a typing of some declarations says of each of them

module _ (s : Setting) (u : PackageSource) (S : ℕ → Bool) (a : Entries) (t : Typing s u S a) where
  -- what has an entry is one of them
  pub had_within : (n : ℕ) (x : Entry) → a n ≡ Some x → S n ≡ true
  had_within n x e = held (given s u) (grows s u) (one s u) (declarations u) S a t.had n x e

  -- its entry, given where all are had
  pub given_at : (n : ℕ) (d : Declaration) → S n ≡ true → slice_get (declarations u) n ≡ Some d → (x : Entry) × (a n ≡ Some x) × given s u a d x
  given_at n d i e =
      let g = all_hold s u S a n t i in
      (g.2.0, g.2.1, subst (λ z. given s u a z g.2.0) (some_once g.0 d (sym g.1 ∙ e)) g.2.2)

  pub asked_at : (n : ℕ) (d : Declaration) → S n ≡ true → slice_get (declarations u) n ≡ Some d → Asks (environment s u a d) u n d.form
  asked_at n d i e = let g = t.asks n i in subst (λ (z : Declaration). Asks (environment s u a z) u n z.form) (some_once g.0 d (sym g.1 ∙ e)) g.2
