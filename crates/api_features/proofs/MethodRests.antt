-- The lines of the methods of a type and of its pointer.
use Rattle.std.proofs.Common.{◌≡◌, ℕ, Bool, true, false, List, [], ◌∷◌, ◌++◌, refl, sym, ap, ◌∙◌, subst, ◌⊎◌, inl, inr, Option, Some, None}
use mathlib.Core.Bool.{cond, true≢false}
use denote.Ref.{Bor}
use Rattle.std.specs.Prelude.{codes, is_some}
use Rattle.std.specs.BTreeMap.{is_at, keys}
use Rattle.std.specs.Map.{keys_of, lookup}
use Rattle.go_base.specs.Growing.{Grows}
use Rattle.go_base.specs.Lists.{Has}
use Rattle.go_model.specs.declared.types.names.Sel.{Sel}
use Rattle.go_model.specs.declared.types.package.Defined.{Defined}
use Rattle.go_model.specs.declared.types.package.MethodOf.{MethodOf}
use Rattle.go_model.specs.declared.types.package.Package.{Package}
use Rattle.go_model.specs.declared.types.term.Signature.{Signature}
use Rattle.go_model.specs.declared.types.term.Term.{Term, Term-F, out-Term}
use Rattle.go_model.specs.types.MethodSets.{InSet, sel_order}
use Rattle.go_model.specs.types.Tables.{Table}
use Rattle.go_model.specs.types.Terms.{Layer, pointer_to}
use Rattle.go_model.specs.types.Underlying.{under}
use Rattle.go_model.specs.worlds.Worlds.{bars_methods, table_of}
use Rattle.go_selectors.specs.Candidates.{Candidate, Candidates, called_at, called_of, signature_of, HoldMethodSet}
use Rattle.go_selectors.proofs.Noting.{eq_same, no_candidate, sel_is}
use Rattle.api_lines.specs.declared.line.Line.{Line}
use Rattle.api_lines.proofs.Growing.{grows_as}
use Rattle.api_features.specs.Features
use Rattle.api_features.specs.Features.{IsExported, IsMethodRest, defined_term, is_interface}
use Rattle.api_features.specs.TypeTexts.{signature_text}
use Rattle.api_features.specs.inner.FeatureLines.{called_method, declared_method, feature_line, method_word, IsCalledRest, IsDeclaredRest, IsHeld, IsLineIn, IsLineOfSome, PromotesNone}
use Rattle.api_features.proofs.FeatureRests.{both, no_line, one_line}
use Rattle.api_features.proofs.OwnMethodSets.{below, pointer_has, pointer_of, value_has, value_lacks, value_of}

-- ---- maps of candidates

key_in : (es : List (Sel × Candidate)) (s : Sel) (g : Signature) → called_of (lookup (is_at (sel_order s)) es) ≡ Some g → Has (keys_of es) s
key_in [] s g h = absurd (cc)
key_in (e ∷ es) s g h = by (λ i. key_in es s g i) (is_at (sel_order s) e.0) refl h
  where
    by : (called_of (lookup (is_at (sel_order s)) es) ≡ Some g → Has (keys_of es) s) → (b : Bool) → is_at (sel_order s) e.0 ≡ b → called_of (cond b (Some e.1) (lookup (is_at (sel_order s)) es)) ≡ Some g → Has (keys_of (e ∷ es)) s
    by further true i j = inl (sym (sel_is s e.0 (sym (eq_same s e.0) ∙ i)))
    by further false i j = inr (further j)

key_of : (m : Candidates) (s : Sel) (g : Signature) → called_at m s ≡ Some g → Has (keys m) s
key_of m s g h = key_in m.entries s g h

-- a look-up gave none
pub unsigned : (r : Option (Bor Signature)) → is_some r ≡ false → signature_of r ≡ None
unsigned None e = refl
unsigned (Some g) e = absurd (true≢false e)

uncalled : (m : Candidates) (s : Sel) → ((g : Signature) → called_at m s ≡ Some g → ⊥) → called_at m s ≡ None
uncalled m s n = by (called_at m s) refl
  where
    by : (o : Option Signature) → called_at m s ≡ o → called_at m s ≡ None
    by None e = e
    by (Some g) e = absurd (n g e)

pub no_interface : (l : Layer) → bars_methods l ≡ false → is_interface l ≡ false
no_interface (Term-F.Plain b) e = refl
no_interface (Term-F.Named m) e = refl
no_interface (Term-F.Pointer b) e = refl
no_interface (Term-F.Slice b) e = refl
no_interface (Term-F.Array m b) e = refl
no_interface (Term-F.Map m b) e = refl
no_interface (Term-F.Chan m b) e = refl
no_interface (Term-F.Func g) e = refl
no_interface (Term-F.Struct fs) e = refl
no_interface (Term-F.Interface ms) e = absurd (true≢false e)

module _ (packages : List Package) (path name : List ℕ) where
  abbrev rest_of : Bool → Sel → Signature → List ℕ
  rest_of pointer s g = method_word pointer ++ name ++ codes ") " ++ s.name ++ signature_text packages path g

  -- ---- declared methods

  declared_is : {m : MethodOf} {rest : List ℕ} → IsDeclaredRest packages path name m rest → IsExported m.sel × (rest ≡ rest_of m.pointer m.sel m.signature)
  declared_is (declared_method o) = (o, refl)

  pub not_declared : (m : MethodOf) (old : List Line) → (IsExported m.sel → ⊥) → Grows (IsLineIn (IsDeclaredRest packages path name m) path) old old
  not_declared m old n = no_line (IsDeclaredRest packages path name m) path old (λ r p. n (declared_is p).0)

  pub declared_line : (m : MethodOf) (rest : List ℕ) (old new : List Line) → IsExported m.sel → rest ≡ rest_of m.pointer m.sel m.signature → Grows (λ l. feature_line path rest ≡ l) old new → Grows (IsLineIn (IsDeclaredRest packages path name m) path) old new
  declared_line m rest old new o e = one_line (IsDeclaredRest packages path name m) path rest old new (subst (IsDeclaredRest packages path name m) (sym e) (declared_method o)) (λ r p. (declared_is p).1 ∙ sym e)

  -- what is underneath is told by what the package holds
  pub held_under : (d : Defined) → IsHeld packages path name d → (t : Term) → t ≡ defined_term path name → out-Term d.underlying ≡ under (table_of packages) t
  held_under d k t e = sym (below (table_of packages) _ d k.0) ∙ ap (under (table_of packages)) (sym e)

  -- ---- the declared methods of a type that promotes none

  module _ (d : Defined) (k : IsHeld packages path name d) (a : PromotesNone (out-Term d.underlying)) where
    abbrev T : Table
    T = table_of packages

    abbrev t : Term
    t = defined_term path name

    own_rest : (m : MethodOf) {rest : List ℕ} → Has d.methods m → IsDeclaredRest packages path name m rest → IsMethodRest packages path name T t rest
    own_rest m h (declared_method o) = by m.pointer refl
      where
        by : (b : Bool) → m.pointer ≡ b → IsMethodRest packages path name T t (rest_of m.pointer m.sel m.signature)
        by true e = subst (λ (b : Bool). IsMethodRest packages path name T t (rest_of b m.sel m.signature)) (sym e) (Features.method_of_pointer o (pointer_has T _ d k.0 k.1 a m h) (value_lacks T _ d k.0 k.1 a m h e))
        by false e = subst (λ (b : Bool). IsMethodRest packages path name T t (rest_of b m.sel m.signature)) (sym e) (Features.method_of_type o (value_has T _ d k.0 k.1 a m h e))

    declared_as : (m : MethodOf) (pointer : Bool) (s : Sel) (g : Signature) → m.pointer ≡ pointer → m.sel ≡ s → m.signature ≡ g → IsExported s → IsDeclaredRest packages path name m (rest_of pointer s g)
    declared_as m pointer s g e f h o = subst (IsDeclaredRest packages path name m) (λ i. rest_of (e i) (f i) (h i)) (declared_method (subst IsExported (sym f) o))

    of_own : {rest : List ℕ} → IsMethodRest packages path name T t rest → (m : MethodOf) × Has d.methods m × IsDeclaredRest packages path name m rest
    of_own (Features.method_of_type {s = s} {g = g} o i) = let m = value_of T _ d k.0 k.1 a s g i in (m.0, m.1, declared_as m.0 false s g m.4 m.2 m.3 o)
    of_own (Features.method_of_pointer {s = s} {g = g} o i none) =
        let m = pointer_of T _ d k.0 k.1 a s g i in
        (m.0, m.1, declared_as m.0 true s g (by m.0 m.1 m.2 m.0.pointer refl) m.2 m.3 o)
      where
        by : (m : MethodOf) → Has d.methods m → m.sel ≡ s → (b : Bool) → m.pointer ≡ b → m.pointer ≡ true
        by m h f true e = e
        by m h f false e = absurd (none m.signature (subst (λ (x : Sel). InSet T t x m.signature) f (value_has T _ d k.0 k.1 a m h e)))

    pub own_lines : (old new : List Line) → Grows (IsLineOfSome (IsDeclaredRest packages path name) d.methods path) old new → Grows (IsLineIn (IsMethodRest packages path name T t) path) old new
    own_lines old new = grows_as (IsLineOfSome (IsDeclaredRest packages path name) d.methods path) (IsLineIn (IsMethodRest packages path name T t) path) old new
        (λ l p. (p.2.0, own_rest p.0 p.1 p.2.1, p.2.2))
        (λ l p. let m = of_own p.1 in (m.0, m.1, (p.0, m.2, p.2)))

  -- ---- methods that are found

  called_is : {pointer : Bool} {except callable : Candidates} {s : Sel} {rest : List ℕ} → IsCalledRest packages path name pointer except callable s rest → IsExported s × (called_at except s ≡ None) × ((g : Signature) × (called_at callable s ≡ Some g) × (rest ≡ rest_of pointer s g))
  called_is (called_method {g = g} o b c) = (o, b, (g, c, refl))

  pub not_called : (pointer : Bool) (except callable : Candidates) (s : Sel) (old : List Line) → (IsExported s → called_at except s ≡ None → (g : Signature) → called_at callable s ≡ Some g → ⊥) → Grows (IsLineIn (IsCalledRest packages path name pointer except callable s) path) old old
  not_called pointer except callable s old n = no_line (IsCalledRest packages path name pointer except callable s) path old (λ r p. let c = called_is p in n c.0 c.1 c.2.0 c.2.1)

  pub called_line : (pointer : Bool) (except callable : Candidates) (s : Sel) (g : Signature) (rest : List ℕ) (old new : List Line) → IsExported s → called_at except s ≡ None → called_at callable s ≡ Some g → rest ≡ rest_of pointer s g → Grows (λ l. feature_line path rest ≡ l) old new → Grows (IsLineIn (IsCalledRest packages path name pointer except callable s) path) old new
  called_line pointer except callable s g rest old new o b c e = one_line (IsCalledRest packages path name pointer except callable s) path rest old new (subst (IsCalledRest packages path name pointer except callable s) (sym e) (called_method o b c))
      (λ r p. let d = called_is p in d.2.2 ∙ ap (rest_of pointer s) (let i : d.2.0 ≡ g = same d.2.0 (sym d.2.1 ∙ c) in i) ∙ sym e)
    where
      same : (f : Signature) → Some f ≡ Some g → f ≡ g
      same f i = cc

  module _ (T : Table) (t : Term) (none values others : Candidates) (empty : none.entries ≡ []) (v : HoldMethodSet T t values) (w : HoldMethodSet T (pointer_to t) others) where
    from_value : (s : Sel) {rest : List ℕ} → IsCalledRest packages path name false none values s rest → IsMethodRest packages path name T t rest
    from_value s (called_method {g = g} o b c) = Features.method_of_type o ((v s g).0 c)

    from_pointer : (s : Sel) {rest : List ℕ} → IsCalledRest packages path name true values others s rest → IsMethodRest packages path name T t rest
    from_pointer s (called_method {g = g} o b c) = Features.method_of_pointer o ((w s g).0 c) (λ h i. let e : None ≡ Some h = sym b ∙ (v s h).1 i in absurd (cc))

    of_method : {rest : List ℕ} → IsMethodRest packages path name T t rest → ((s : Sel) × Has (keys values) s × IsCalledRest packages path name false none values s rest) ⊎ ((s : Sel) × Has (keys others) s × IsCalledRest packages path name true values others s rest)
    of_method (Features.method_of_type {s = s} {g = g} o i) = let c = (v s g).1 i in inl (s, key_of values s g c, called_method o (ap called_of (no_candidate none s empty)) c)
    of_method (Features.method_of_pointer {s = s} {g = g} o i n) = let c = (w s g).1 i in inr (s, key_of others s g c, called_method o (uncalled values s (λ h e. n h ((v s h).0 e))) c)

    pub method_lines : (old mid new : List Line) → Grows (IsLineOfSome (IsCalledRest packages path name false none values) (keys values) path) old mid → Grows (IsLineOfSome (IsCalledRest packages path name true values others) (keys others) path) mid new → Grows (IsLineIn (IsMethodRest packages path name T t) path) old new
    method_lines old mid new = both (IsLineOfSome (IsCalledRest packages path name false none values) (keys values) path) (IsLineOfSome (IsCalledRest packages path name true values others) (keys others) path) (IsLineIn (IsMethodRest packages path name T t) path) old mid new
        (λ l p. (p.2.0, from_value p.0 p.2.1, p.2.2)) (λ l p. (p.2.0, from_pointer p.0 p.2.1, p.2.2))
        (λ l p. elim (of_method p.1) [ inl q ↦ inl (q.0, q.1, (p.0, q.2, p.2)) | inr q ↦ inr (q.0, q.1, (p.0, q.2, p.2)) ])
