-- A walk over the types that paths lead to decides whether each has its entry.
use Rattle.std.proofs.Common.{◌≡◌, ◌≤◌, ◌<◌, ◌+◌, ℕ, zero, suc, Bool, true, false, inl, inr, List, [], ◌∷◌, ◌++◌, length, take, get_or, refl, sym, ap, ◌∙◌, subst, arith, length-append}
use Rattle.std.proofs.lemmas.List.{take_more}
use Rattle.go_base.specs.Lists.{Has}
use Rattle.go_model.specs.declared.types.names.TypeName.{TypeName}
use Rattle.go_model.specs.declared.types.term.Field.{Field, out-Field}
use Rattle.go_model.specs.declared.types.term.Term.{Term, Term-F}
use Rattle.go_model.specs.types.Comparison.{Comparable}
use Rattle.go_model.specs.types.Tables.{Table}
use Rattle.go_model.specs.types.Terms.{Layer}
use Rattle.go_model.specs.types.Underlying.{under}
use Rattle.go_rules.specs.Environments.{Env, Entered}
use Rattle.go_rules.specs.Usability.{LeadsTo, leads_here, leads_array, leads_struct, Compares}
use Rattle.go_types.proofs.go_selectors_proofs.Lists.{has-back, has-split, item_has}
use Rattle.go_types.specs.go_selectors.Answers.{Decides}
use Rattle.go_types.proofs.Walks.{pushed_as, pushed_has}
use Rattle.go_types.specs.Parts.{Known, Pushes, PushesFields}
use Rattle.go_usability.specs.inner.Parts.{OfParts, PushesParts, EnteredBelow}

pub take_append : {A : Type 0} (n : ℕ) (xs ys : List A) → n ≤ length xs → take n (xs ++ ys) ≡ take n xs
take_append zero xs ys h = refl
take_append (suc n) [] ys h = absurd (omega arith)
take_append (suc n) (x ∷ xs) ys h = ap (λ zs. x ∷ zs) (take_append n xs ys (omega arith))

pub take_all : {A : Type 0} (n : ℕ) (xs : List A) → length xs ≤ n → take n xs ≡ xs
take_all zero [] h = refl
take_all zero (x ∷ xs) h = absurd (omega arith)
take_all (suc n) [] h = refl
take_all (suc n) (x ∷ xs) h = ap (λ zs. x ∷ zs) (take_all n xs (omega arith))

module _ (T : Table) where
  -- a path goes on
  leads_more : (t u v : Term) → LeadsTo T t u → LeadsTo T u v → LeadsTo T t v
  leads_more t u v leads_here n = n
  leads_more t u v (leads_array {e = e} s l) n = leads_array s (leads_more e u v l n)
  leads_more t u v (leads_struct f s h l) n = leads_struct f s h (leads_more (out-Field f).term u v l n)

  pub parts_array : (t e p : Term) (n : ℕ) (all new : List Term) (met newer : List TypeName) → under T t ≡ Term-F.Array n e → p ≡ e → Pushes all met new newer p → PushesParts T t all met new newer
  parts_array t e p n all new met newer s q h = (
    pushed_as all new met newer (λ u i. leads_array s (subst (LeadsTo T e) (sym q ∙ i) leads_here)) h.0,
    λ k. subst (OfParts (Has new)) (sym s) (subst (Has new) q (h.1 k)),
  )

  pub parts_struct : (t : Term) (fs gs : List Field) (all new : List Term) (met newer : List TypeName) → under T t ≡ Term-F.Struct fs → gs ≡ fs → PushesFields all met new newer gs → PushesParts T t all met new newer
  parts_struct t fs gs all new met newer s q h =
      let p : PushesFields all met new newer fs = subst (PushesFields all met new newer) q h in (
        pushed_as all new met newer (λ u i. leads_struct i.0 s i.1 (subst (LeadsTo T (out-Field i.0).term) i.2 leads_here)) p.0,
        λ k. subst (OfParts (Has new)) (sym s) (p.1 k),
      )

of_more : (P Q : Term → Type 0) (l : Layer) → ((u : Term) → P u → Q u) → OfParts P l → OfParts Q l
of_more P Q (Term-F.Plain b) f p = tt
of_more P Q (Term-F.Named n) f p = tt
of_more P Q (Term-F.Pointer e) f p = tt
of_more P Q (Term-F.Slice e) f p = tt
of_more P Q (Term-F.Array n e) f p = f e p
of_more P Q (Term-F.Map k e) f p = tt
of_more P Q (Term-F.Chan d e) f p = tt
of_more P Q (Term-F.Func g) f p = tt
of_more P Q (Term-F.Struct fs) f p = λ g h. f (out-Field g).term (p g h)
of_more P Q (Term-F.Interface ms) f p = tt

module _ (E : Env) (t : Term) where
  -- what was looked at has its entry, and its parts are there
  pub record Enters (at : ℕ) (all : List Term) (met : List TypeName) : Type 0 where
    pub known : Known all met
    pub from : Has all t
    pub leads : (u : Term) → Has all u → LeadsTo E.table t u
    pub within : at ≤ length all
    pub entered : (u : Term) → Has (take at all) u → Entered E u
    pub closed : (u : Term) → Has (take at all) u → OfParts (Has all) (under E.table u)

  pub first_enters : (none all : List Term) (fresh met : List TypeName) → none ≡ [] → fresh ≡ [] → Pushes none fresh all met t → Enters 0 all met
  first_enters none all fresh met e f p = record {
    known = p.0.known known_none;
    from = p.1 known_none;
    leads = λ u h. elim (has-split none p.0.more u (subst (λ (w : List Term). Has w u) p.0.is h)) [ inl a ↦ absurd (subst (λ (w : List Term). Has w u) e a) | inr b ↦ subst (LeadsTo E.table t) (p.0.each u b) leads_here ];
    within = omega arith;
    entered = λ u h. absurd h;
    closed = λ u h. absurd h;
  }
    where
      known_none : Known none fresh
      known_none n h = absurd (subst (λ (w : List TypeName). Has w n) f h)

  pub next_enters : (at : ℕ) (all new : List Term) (met newer : List TypeName) (part : Term) → Enters at all met → at < length all → part ≡ get_or all at part → Entered E part → PushesParts E.table part all met new newer → Enters (at + 1) new newer
  next_enters at all new met newer part w h e i p = record {
    known = p.0.known w.known;
    from = pushed_has all new met newer t p.0 w.from;
    leads = λ u j. elim (has-split all p.0.more u (subst (λ (z : List Term). Has z u) p.0.is j)) [ inl a ↦ w.leads u a | inr b ↦ leads_more E.table t part u (w.leads part (item_has all at part h e)) (p.0.each u b) ];
    within = (let k = ap length p.0.is in let j = length-append all p.0.more in omega (arith, k, j, h));
    entered = λ u j. elim (has-back (take at all) part u (subst (λ (z : List Term). Has z u) taken j)) [ inl a ↦ w.entered u a | inr s ↦ subst (Entered E) s i ];
    closed = λ u j. elim (has-back (take at all) part u (subst (λ (z : List Term). Has z u) taken j)) [
      | inl a ↦ of_more (Has all) (Has new) (under E.table u) (λ x y. pushed_has all new met newer x p.0 y) (w.closed u a)
      | inr s ↦ subst (λ (z : Term). OfParts (Has new) (under E.table z)) s (p.1 w.known)
    ];
  }
    where
      taken : take (at + 1) new ≡ take at all ++ part ∷ []
      taken = ap (take (at + 1)) p.0.is ∙ take_append (at + 1) all p.0.more (omega arith) ∙ take_more all at part h ∙ ap (λ x. take at all ++ x ∷ []) (sym e)

  along : (all : List Term) → ((u : Term) → Has all u → OfParts (Has all) (under E.table u)) → (u v : Term) → Has all u → LeadsTo E.table u v → Has all v
  along all c u v h leads_here = h
  along all c u v h (leads_array {e = e} s l) = along all c e v (subst (OfParts (Has all)) s (c u h)) l
  along all c u v h (leads_struct f s m l) = along all c (out-Field f).term v (subst (OfParts (Has all)) s (c u h) f m) l

  pub all_entered : (at : ℕ) (all : List Term) (met : List TypeName) → Enters at all met → length all ≤ at → EnteredBelow E t
  all_entered at all met w h u l = w.entered u (whole u (along all (λ v i. w.closed v (whole v i)) t u w.from l))
    where
      whole : (v : Term) → Has all v → Has (take at all) v
      whole v i = subst (λ (z : List Term). Has z v) (sym (take_all at all h)) i

  pub not_entered : (at : ℕ) (all : List Term) (met : List TypeName) (part : Term) (answer : Bool) → Enters at all met → at < length all → part ≡ get_or all at part → answer ≡ false → Decides answer (Entered E part) → EnteredBelow E t → ⊥
  not_entered at all met part answer w h e f d b = (subst (λ b. Decides b (Entered E part)) f d) (b part (w.leads part (item_has all at part h e)))

pub entered_so : (E : Env) (t : Term) (answer : Bool) → answer ≡ true → Decides answer (Entered E t) → Entered E t
entered_so E t answer e d = subst (λ b. Decides b (Entered E t)) e d

pub compared : (E : Env) (t : Term) (comparable entered : Bool) → comparable ≡ true → Decides comparable (Comparable E.table t) → Decides entered (EnteredBelow E t) → Decides entered (Compares E t)
compared E t comparable true e c d = record { comparable = subst (λ b. Decides b (Comparable E.table t)) e c; entered = d }
compared E t comparable false e c d = λ x. d x.entered

pub incomparable : (E : Env) (t : Term) (comparable : Bool) → comparable ≡ false → Decides comparable (Comparable E.table t) → Compares E t → ⊥
incomparable E t comparable e c x = (subst (λ b. Decides b (Comparable E.table t)) e c) x.comparable
