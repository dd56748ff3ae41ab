-- Methods that were added: those of a type, of an operand, and of what follows an operand.
use Rattle.std.specs.List.{slice_get}
use Rattle.std.proofs.Common.{◌≡◌, ◌<◌, ◌≤◌, ◌+◌, ℕ, Bool, false, List, [], ◌∷◌, ◌++◌, length, get_or, drop, Option, None, Some, Err, refl, sym, ap, ◌∙◌, subst, ◌⊎◌, inl, inr}
use Rattle.go_base.specs.Growing.{Grows}
use Rattle.go_base.specs.Lists.{Has as In}
use Rattle.go_expr.specs.Chains.{Makes, NamesImported}
use Rattle.go_expr.proofs.ImportedNames.{one_name, one_selector}
use Rattle.go_model.specs.declared.types.found.Found.{Found as Find}
use Rattle.go_model.specs.declared.types.found.Found.TheVariants as find
use Rattle.go_model.specs.declared.types.names.Sel.{Sel}
use Rattle.go_model.specs.declared.types.names.TypeName.{TypeName}
use Rattle.go_model.specs.declared.types.term.Signature.{Signature}
use Rattle.go_model.specs.declared.types.term.Term.{Term}
use Rattle.go_model.specs.types.Selectors.{Ending, Target, field, is_defined_pointer, method}
use Rattle.go_rules.specs.Environments.{Env, Found, selector_of}
use Rattle.go_rules.specs.Expressions.{Denotes, DenotesImported, Has, has_operand, HasForm, has_name, is_type}
use Rattle.go_rules.specs.Nodes.{ExprLayer, PostLayer}
use Rattle.go_rules.specs.Operands.{IsTyped, type_name}
use Rattle.go_rules.specs.declared.operand.Operand.{Operand}
use Rattle.go_rules.proofs.OneForm.{typed_no_type}
use Rattle.go_rules.proofs.OneFound.{field_or_method, one_found}
use Rattle.go_rules.proofs.OneKind.{no_truth, one_type}
use Rattle.go_rules.proofs.OneName.{no_import, one_imported, one_name as same_type}
use Rattle.go_rules.proofs.OneOperand.{has_once, post_once}
use Rattle.go_selectors.proofs.Lists.{drop_all, drop_next}
use Rattle.go_syntax.specs.declared.expression.Expr.{Expr, Expr-F, out-Expr}
use Rattle.go_syntax.specs.declared.expression.Post.{Post, Post-F, out-Post}
use Rattle.go_syntax.specs.declared.name.Name.{Name}
use Rattle.go_typings.specs.References.{finds_value, finds_expression}
use Rattle.go_type_terms.specs.Answers.{Tells}
use Rattle.go_type_terms.specs.declared.error.ExprError.{ExprError}
use Rattle.go_type_terms.specs.declared.error.ExprError.TheVariants.{Untyped}
use Rattle.go_usability.specs.Answers.{FindsIn}
use Rattle.go_leads.specs.declared.methods.FoundMethod.{FoundMethod}
use Rattle.go_leads.specs.inner.Chains.{FoundAlong, along_here, along_more, FoundAt, FoundIn, FoundOf, FoundPost, ImportedAlong, owner_in}
use Rattle.go_leads.proofs.Walks.{grows_append, grows_as, grows_none}

abbrev made : TypeName → Sel → FoundMethod
made o s = record { owner = o; sel = s }

same_method : (m : FoundMethod) (o : TypeName) (s : Sel) → m.owner ≡ o → m.sel ≡ s → m ≡ made o s
same_method m o s e f = ap (λ (x : TypeName). made x m.sel) e ∙ ap (λ (y : Sel). made o y) f

pub pushed : (old new : List FoundMethod) (o r : TypeName) (s : Sel) → o ≡ r → new ≡ old ++ made o s ∷ [] → Grows (λ m. m ≡ made r s) old new
pushed old new o r s e f =
    grows_as (λ m. In (made o s ∷ []) m) (λ m. m ≡ made r s) old new
    (λ m h. elim h [ inl i ↦ sym i ∙ ap (λ (x : TypeName). made x s) e | inr z ↦ absurd z ])
    (λ m i. inl (ap (λ (x : TypeName). made x s) e ∙ sym i)) (grows_append old (made o s ∷ []) new f)

-- ---- in a type

abbrev owner_at : Target → Option TypeName
owner_at (field t) = None
owner_at (method o pointer g) = o

same_owner : {p q b c : Bool} {o r : Option TypeName} {g h : Signature} → ◌≡◌ {A = Ending} (record { through = p; target = method o b g }) (record { through = q; target = method r c h }) → o ≡ r
same_owner e = ap (λ (z : Ending). owner_at z.target) e

same_some : {a b : TypeName} → ◌≡◌ {A = Option TypeName} (Some a) (Some b) → a ≡ b
same_some e = cc

none_some : {a : TypeName} → ◌≡◌ {A = Option TypeName} None (Some a) → ⊥
none_some e = absurd (cc)

module _ (E : Env) (s : Sel) (t : Term) where
  abbrev FindsOwner : TypeName → Type 0
  FindsOwner o = (through : Bool) × (pointer : Bool) × (g : Signature) × Found E s t (record { through = through; target = method (Some o) pointer g }) × (is_defined_pointer E.table t ≡ false)

  owner_found : (a : Option Find) (o : TypeName) → FindsIn E s t a → owner_in a ≡ Some o → FindsOwner o
  owner_found None o d e = absurd (none_some e)
  owner_found (Some (find.FieldAt f)) o d e = absurd (none_some e)
  owner_found (Some (find.MethodAt m)) o d e = (m.through_pointer, m.pointer_receiver, m.signature, subst (λ (z : Option TypeName). Found E s t (record { through = m.through_pointer; target = method z m.pointer_receiver m.signature })) e d.0, d.2)
  owner_found (Some find.Ambiguous) o d e = absurd d
  owner_found (Some find.Nothing) o d e = absurd d

  found_owner : (a : Option Find) (m : FoundMethod) → FindsIn E s t a → FoundIn E s t m → owner_in a ≡ Some m.owner
  found_owner None m d f = absurd (d.no_method f.through (Some m.owner) f.pointer f.signature_of f.found f.counts)
  found_owner (Some (find.FieldAt x)) m d f = absurd (field_or_method (one_found d.0 f.found))
  found_owner (Some (find.MethodAt x)) m d f = same_owner (one_found d.0 f.found)
  found_owner (Some find.Ambiguous) m d f = absurd d
  found_owner (Some find.Nothing) m d f = absurd d

  in_made : (o : TypeName) → FindsOwner o → (m : FoundMethod) → m ≡ made o s → FoundIn E s t m
  in_made o f m e = subst (FoundIn E s t) (sym e) (record { sel = refl; through = f.0; pointer = f.1; signature_of = f.2; found = f.3; counts = f.4 })

  pub owner_grows : (a : Option Find) (o : TypeName) (r : Sel) (old new : List FoundMethod) → r ≡ s → FindsIn E r t a → Some o ≡ owner_in a → Grows (λ m. m ≡ made o r) old new → Grows (FoundIn E s t) old new
  owner_grows a o r old new q f e g =
      let d : FindsIn E s t a = subst (λ (z : Sel). FindsIn E z t a) q f in
      grows_as (λ m. m ≡ made o r) (FoundIn E s t) old new
      (λ m h. in_made o (owner_found a o d (sym e)) m (h ∙ ap (λ (z : Sel). made o z) q))
      (λ m k. same_method m o r (same_some (sym (found_owner a m d k) ∙ sym e)) (k.sel ∙ sym q)) g

  pub owner_none : (a : Option Find) (r : Sel) → r ≡ s → FindsIn E r t a → None ≡ owner_in a → (m : FoundMethod) → FoundIn E s t m → ⊥
  owner_none a r q f e m k = none_some (e ∙ found_owner a m (subst (λ (z : Sel). FindsIn E z t a) q f) k)

-- ---- in an operand

no_post : {x : Post} → ◌≡◌ {A = Option Post} None (Some x) → ⊥
no_post e = absurd (cc)

same_post : {x y : Post} → ◌≡◌ {A = Option Post} (Some x) (Some y) → x ≡ y
same_post e = cc

module _ (E : Env) (o : Operand) (s : Sel) where
  type_only : {t : Term} {m : FoundMethod} → o ≡ type_name t → FoundOf E o s m → FoundIn E s t m
  type_only {t = t} i (q, finds_value h f c) = absurd (no_truth (sym (ap (λ (y : Operand). is_type y.mode) i) ∙ typed_no_type h))
  type_only {t = t} {m = m} i (q, finds_expression {t = u} e f c) = subst (λ (y : Term). FoundIn E s y m) (same_type (sym e ∙ i)) (record { sel = q; through = _; pointer = _; signature_of = _; found = f; counts = c })

  value_only : {t : Term} {m : FoundMethod} → IsTyped o t → FoundOf E o s m → FoundIn E s t m
  value_only {t = t} {m = m} h (q, finds_value g f c) = subst (λ (y : Term). FoundIn E s y m) (one_type g h) (record { sel = q; through = _; pointer = _; signature_of = _; found = f; counts = c })
  value_only {t = t} h (q, finds_expression e f c) = absurd (no_truth (sym (ap (λ (y : Operand). is_type y.mode) e) ∙ typed_no_type h))

  pub type_grows : (t : Term) (old new : List FoundMethod) → o ≡ type_name t → Grows (FoundIn E s t) old new → Grows (FoundOf E o s) old new
  type_grows t old new i g = grows_as (FoundIn E s t) (FoundOf E o s) old new (λ m f. (f.sel, finds_expression i f.found f.counts)) (λ m f. type_only i f) g

  pub value_grows : (t : Term) (old new : List FoundMethod) → IsTyped o t → Grows (FoundIn E s t) old new → Grows (FoundOf E o s) old new
  value_grows t old new h g = grows_as (FoundIn E s t) (FoundOf E o s) old new (λ m f. (f.sel, finds_value h f.found f.counts)) (λ m f. value_only h f) g

  pub of_none : ((t : Term) → o ≡ type_name t → ⊥) → ((t : Term) → IsTyped o t → ⊥) → (m : FoundMethod) → FoundOf E o s m → ⊥
  of_none no_name none m (q, finds_value h f c) = none _ h
  of_none no_name none m (q, finds_expression e f c) = no_name _ e

-- the post is this selector
pub post_grows : (E : Env) (o : Operand) (x : Post) (n : Name) (old new : List FoundMethod) → out-Post x ≡ Post-F.Selector n → Grows (FoundOf E o (selector_of E n.text)) old new → Grows (FoundPost E o (out-Post x)) old new
post_grows E o x n old new i g = subst (λ (l : PostLayer). Grows (FoundPost E o l) old new) (sym i) g

-- ---- in what follows an operand

abbrev HasPosts : List Post → Type 0
HasPosts [] = ⊥
HasPosts (x ∷ xs) = Unit {0}

module _ (E : Env) where
  along_in : {o : Operand} {ps : List Post} {m : FoundMethod} → FoundAlong E o ps m → HasPosts ps
  along_in (along_here f) = tt
  along_in (along_more k f) = tt

  along_parts : {o : Operand} {x : Post} {xs : List Post} {m : FoundMethod} → FoundAlong E o (x ∷ xs) m → FoundPost E o (out-Post x) m ⊎ ((q : Operand) × Makes E o x q × FoundAlong E q xs m)
  along_parts (along_here f) = inl f
  along_parts (along_more {q = q} k f) = inr (q, k, f)

  -- the post made this operand
  made_along : (o q : Operand) (x : Post) (xs : List Post) (now next last : List FoundMethod) → Makes E o x q → Grows (FoundPost E o (out-Post x)) now next → Grows (FoundAlong E q xs) next last → Grows (FoundAlong E o (x ∷ xs)) now last
  made_along o q x xs now next last k g f = record {
    sound = λ m h. elim (f.sound m h) [ inl n ↦ elim (g.sound m n) [ inl a ↦ inl a | inr b ↦ inr (along_here b) ] | inr b ↦ inr (along_more k b) ];
    kept = λ m h. f.kept m (g.kept m h);
    complete = λ m a. elim (along_parts a) [
      | inl b ↦ f.kept m (g.complete m b)
      | inr c ↦ f.complete m (subst (λ (r : Operand). FoundAlong E r xs m) (post_once E c.1.0 refl k.0) c.2)
    ];
  }

  -- the post made nothing
  ended_along : (o : Operand) (x : Post) (xs : List Post) (now next : List FoundMethod) → ((r : Operand) → Makes E o x r → ⊥) → Grows (FoundPost E o (out-Post x)) now next → Grows (FoundAlong E o (x ∷ xs)) now next
  ended_along o x xs now next none g = grows_as (FoundPost E o (out-Post x)) (FoundAlong E o (x ∷ xs)) now next (λ m b. along_here b) (λ m a. elim (along_parts a) [ inl b ↦ b | inr c ↦ absurd (none c.0 c.1) ]) g

  module _ (first : Operand) (all : List Post) (start : List FoundMethod) where
    -- what the posts that are left give makes the list what all posts give
    abbrev pub Follows : Operand → List Post → List FoundMethod → Type 0
    Follows o rest now = (last : List FoundMethod) → Grows (FoundAlong E o rest) now last → Grows (FoundAlong E first all) start last

    pub follows_all : Follows first all start
    follows_all last g = g

    module _ (o : Operand) (now : List FoundMethod) (i : ℕ) (w : Follows o (drop i all) now) where
      pub follows_none : length all ≤ i → Grows (FoundAlong E first all) start now
      follows_none h = w now (subst (λ (ps : List Post). Grows (FoundAlong E o ps) now now) (sym (drop_all i all h)) (grows_none (FoundAlong E o []) now now refl (λ m f. along_in f)))

      module _ (x : Post) (h : i < length all) (e : x ≡ get_or all i x) (next : List FoundMethod) (g : Grows (FoundPost E o (out-Post x)) now next) where
        at_post : (last : List FoundMethod) → Grows (FoundAlong E o (x ∷ drop (i + 1) all)) now last → Grows (FoundAlong E first all) start last
        at_post last f = w last (subst (λ (ps : List Post). Grows (FoundAlong E o ps) now last) (sym (drop_next i all x h e)) f)

        pub follows_next : (q : Operand) → Makes E o x q → Follows q (drop (i + 1) all) next
        follows_next q k last f = at_post last (made_along o q x (drop (i + 1) all) now next last k g f)

        pub follows_end : ((r : Operand) → Makes E o x r → ⊥) → Grows (FoundAlong E first all) start next
        follows_end none = at_post next (ended_along o x (drop (i + 1) all) now next none g)

  -- ---- in an operand and what follows it

  named_form : {q : Name} {o : Operand} → HasForm E (Expr-F.Name q) o → Denotes E q o
  named_form (has_name d) = d

  named_in : {e : Expr} {q : Name} {o : Operand} → out-Expr e ≡ Expr-F.Name q → Has E e o → Denotes E q o
  named_in {o = o} i (has_operand h w) = named_form (subst (λ (l : ExprLayer). HasForm E l o) i h)

  typed_no_import : {e : Expr} {o : Operand} (ps : List Post) (m : FoundMethod) → Has E e o → ImportedAlong E e ps m → ⊥
  typed_no_import [] m h f = f
  typed_no_import (x ∷ xs) m h f = no_import (named_in f.1.1 h) f.1.3.0

  pub plain_grows : (e : Expr) (ps : List Post) (o : Operand) (old new : List FoundMethod) → Has E e o → Grows (FoundAlong E o ps) old new → Grows (FoundAt E (Expr-F.Primary e ps)) old new
  plain_grows e ps o old new h g =
      grows_as (FoundAlong E o ps) (FoundAt E (Expr-F.Primary e ps)) old new (λ m f. inl (o, h, f))
      (λ m f. elim f [ inl a ↦ subst (λ (r : Operand). FoundAlong E r ps m) (has_once E a.1 h) a.2 | inr b ↦ absurd (typed_no_import ps m h b) ]) g

  pub untyped_grows : (e : Expr) (ps : List Post) (old new : List FoundMethod) → ((o : Operand) → Has E e o → ⊥) → Grows (ImportedAlong E e ps) old new → Grows (FoundAt E (Expr-F.Primary e ps)) old new
  untyped_grows e ps old new none g =
      grows_as (ImportedAlong E e ps) (FoundAt E (Expr-F.Primary e ps)) old new (λ m f. inr f)
      (λ m f. elim f [ inl a ↦ absurd (none a.0 a.1) | inr b ↦ b ]) g

  -- ---- behind an object of an imported package

  same_import : {q n k l : Name} {o p : Operand} → q ≡ k → n ≡ l → DenotesImported E q n o → DenotesImported E k l p → o ≡ p
  same_import {n = n} {k = k} {p = p} i j a b = one_imported a (subst (λ (y : Name). DenotesImported E y n p) (sym i) (subst (λ (y : Name). DenotesImported E k y p) (sym j) b))

  one_named : (e : Expr) (x : Post) {o p : Operand} → NamesImported E e x o → NamesImported E e x p → o ≡ p
  one_named e x a b = same_import (one_name a.1 b.1) (one_selector a.2 b.2) a.3.0 b.3.0

  pub imported_grows : (e : Expr) (ps others : List Post) (x : Post) (o : Operand) (old new : List FoundMethod) → slice_get ps 0 ≡ Some x → others ≡ drop 1 ps → NamesImported E e x o → Grows (FoundAlong E o others) old new → Grows (ImportedAlong E e ps) old new
  imported_grows e [] others x o old new s d n g = absurd (no_post s)
  imported_grows e (y ∷ ps) others x o old new s d n g =
      let k : NamesImported E e y o = subst (λ (z : Post). NamesImported E e z o) (sym (same_post s)) n in
      grows_as (FoundAlong E o ps) (ImportedAlong E e (y ∷ ps)) old new (λ m f. (o, k, f))
      (λ m f. subst (λ (r : Operand). FoundAlong E r ps m) (one_named e y f.1 k) f.2)
      (subst (λ (zs : List Post). Grows (FoundAlong E o zs) old new) d g)

  pub imported_none : (e : Expr) (ps : List Post) (x : Post) → slice_get ps 0 ≡ Some x → ((o : Operand) → NamesImported E e x o → ⊥) → (m : FoundMethod) → ImportedAlong E e ps m → ⊥
  imported_none e [] x s none m f = f
  imported_none e (y ∷ ps) x s none m f = none f.0 (subst (λ (z : Post). NamesImported E e z f.0) (same_post s) f.1)

  pub imported_alone : (e : Expr) (ps : List Post) → slice_get ps 0 ≡ None → (m : FoundMethod) → ImportedAlong E e ps m → ⊥
  imported_alone e [] s m f = f
  imported_alone e (y ∷ ps) s m f = absurd (no_post (sym s))

-- ---- what isn't told

pub none_told : {A : Type 0} (F : A → Type 0) (e : ExprError) → e ≡ Untyped → Tells {A = A} F (Err e) → (a : A) → F a → ⊥
none_told {A = A} F e s t = subst (λ (x : ExprError). Tells {A = A} F (Err x)) s t
