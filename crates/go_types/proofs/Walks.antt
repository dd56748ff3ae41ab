-- A walk over the parts of a type decides whether it is comparable.
use Rattle.std.proofs.Common.{◌≡◌, ◌≤◌, ◌<◌, ◌+◌, ℕ, zero, suc, Bool, true, false, ◌⊎◌, inl, inr, List, [], ◌∷◌, ◌++◌, length, take, get_or, refl, sym, ap, ◌∙◌, subst, arith, length-append, append_assoc, append-nil}
use Rattle.std.proofs.lemmas.List.{take_more}
use Rattle.go_selectors.specs.go_base.Lists.{Has}
use Rattle.go_model.specs.types.Tables.{Table}
use Rattle.go_model.specs.declared.types.names.TypeName.{TypeName}
use Rattle.go_model.specs.declared.types.term.Term.{Term, Term-F, roll-Term}
use Rattle.go_model.specs.declared.types.term.Field.{Field, out-Field}
use Rattle.go_model.specs.types.Terms.{Layer}
use Rattle.go_model.specs.types.Underlying.{under}
use Rattle.go_model.specs.types.Comparison.{LeadsToIncomparable, at_slice, at_map, at_func, in_array, in_struct}
use Rattle.go_types.specs.Parts.{Known, Pushed, IsFieldTerm, SeesTerm, Pushes, PushesFields, ByParts, Looked}
use Rattle.go_selectors.proofs.Lists.{has-left, has-split, has-last, has-back}

take_append : {A : Type 0} (n : ℕ) (xs ys : List A) → n ≤ length xs → take n (xs ++ ys) ≡ take n xs
take_append zero xs ys h = refl
take_append (suc n) [] ys h = absurd (omega arith)
take_append (suc n) (x ∷ xs) ys h = ap (λ zs. x ∷ zs) (take_append n xs ys (omega arith))

take_all : {A : Type 0} (n : ℕ) (xs : List A) → length xs ≤ n → take n xs ≡ xs
take_all zero [] h = refl
take_all zero (x ∷ xs) h = absurd (omega arith)
take_all (suc n) [] h = refl
take_all (suc n) (x ∷ xs) h = ap (λ zs. x ∷ zs) (take_all n xs (omega arith))

-- nothing was added
pub pushed_none : {P : Term → Type 0} (all : List Term) (met : List TypeName) → Pushed P all met all met
pushed_none all met = record { more = []; is = sym (append-nil all); each = λ t h. absurd h; known = λ k. k }

-- what was added twice
pub pushed_more : {P : Term → Type 0} (a b c : List Term) (m n o : List TypeName) → Pushed P a m b n → Pushed P b n c o → Pushed P a m c o
pushed_more a b c m n o p q = record {
  more = p.more ++ q.more;
  is = q.is ∙ ap (λ w. w ++ q.more) p.is ∙ append_assoc a p.more q.more;
  each = λ t h. elim (has-split p.more q.more t h) [ inl x ↦ p.each t x | inr y ↦ q.each t y ];
  known = λ k. q.known (p.known k);
}

pub pushed_as : {P Q : Term → Type 0} (a b : List Term) (m n : List TypeName) → ((t : Term) → P t → Q t) → Pushed P a m b n → Pushed Q a m b n
pushed_as a b m n f p = record { more = p.more; is = p.is; each = λ t h. f t (p.each t h); known = p.known }

pub pushed_has : {P : Term → Type 0} (a b : List Term) (m n : List TypeName) (t : Term) → Pushed P a m b n → Has a t → Has b t
pushed_has a b m n t p h = subst (λ (w : List Term). Has w t) (sym p.is) (has-left a p.more t h)

pub push_met : (all : List Term) (met newer : List TypeName) (t : Term) → SeesTerm met newer t true → Pushes all met all newer t
push_met all met newer t m = subst (λ (w : List TypeName). Pushes all met all w t) (sym m.1) (pushed_none all met, λ k. subst (Has all) m.0.2 (k m.0.0 m.0.1))

sees_had : (met newer : List TypeName) (t : Term) → SeesTerm met newer t false → (n : TypeName) → Has newer n → Has met n ⊎ (roll-Term (Term-F.Named n) ≡ t)
sees_had met newer t (inl m) n h = elim (has-back met m.0 n (subst (λ (w : List TypeName). Has w n) m.1 h)) [ inl a ↦ inl a | inr e ↦ inr (ap (λ k. roll-Term (Term-F.Named k)) (sym e) ∙ m.2) ]
sees_had met newer t (inr e) n h = inl (subst (λ (w : List TypeName). Has w n) e h)

pub push_new : (all : List Term) (met newer : List TypeName) (t : Term) → SeesTerm met newer t false → Pushes all met (all ++ t ∷ []) newer t
push_new all met newer t m = (
  record {
    more = t ∷ [];
    is = refl;
    each = λ u h. elim h [ inl e ↦ e | inr n ↦ absurd n ];
    known = λ k n h. elim (sees_had met newer t m n h) [ inl a ↦ has-left all (t ∷ []) (roll-Term (Term-F.Named n)) (k n a) | inr e ↦ subst (Has (all ++ t ∷ [])) (sym e) (has-last all t) ];
  },
  λ k. has-last all t,
)

pub push_as : (all new : List Term) (met newer : List TypeName) (t p : Term) (met_before : Bool) → new ≡ all ++ p ∷ [] → p ≡ t → met_before ≡ false → SeesTerm met newer t met_before → Pushes all met new newer t
push_as all new met newer t p b e s f m = subst (λ (w : List Term). Pushes all met w newer t) (sym (e ∙ ap (λ x. all ++ x ∷ []) s)) (push_new all met newer t (subst (SeesTerm met newer t) f m))

pub no_fields : (all : List Term) (met : List TypeName) → PushesFields all met all met []
no_fields all met = (pushed_none all met, λ k f h. absurd h)

field_taken : (fs gs : List Field) (f : Field) (t : Term) → gs ≡ fs ++ f ∷ [] → IsFieldTerm fs t → IsFieldTerm gs t
field_taken fs gs f t e p = (p.0, subst (λ (w : List Field). Has w p.0) (sym e) (has-left fs (f ∷ []) p.0 p.1), p.2)

pub field_more : (a b c : List Term) (m n o : List TypeName) (fs gs : List Field) (f : Field) → gs ≡ fs ++ f ∷ [] → PushesFields a m b n fs → Pushes b n c o (out-Field f).term → PushesFields a m c o gs
field_more a b c m n o fs gs f e p q = (
  pushed_more a b c m n o (pushed_as a b m n (λ t h. field_taken fs gs f t e h) p.0) (pushed_as b c n o (λ t h. (f, subst (λ (w : List Field). Has w f) (sym e) (has-last fs f), h)) q.0),
  λ k g h. elim (has-back fs f g (subst (λ (w : List Field). Has w g) e h)) [
    | inl x ↦ pushed_has b c n o (out-Field g).term q.0 (p.1 k g x)
    | inr s ↦ subst (λ (w : Field). Has c (out-Field w).term) s (q.1 (p.0.known k))
  ],
)

module _ (T : Table) where
  -- what was looked at is compared by parts that are there
  pub record Walks (t : Term) (at : ℕ) (all : List Term) (met : List TypeName) : Type 0 where
    pub known : Known all met
    pub from : Has all t
    pub leads : (u : Term) → Has all u → LeadsToIncomparable T u → LeadsToIncomparable T t
    pub within : at ≤ length all
    pub closed : (u : Term) → Has (take at all) u → ByParts (Has all) (under T u)

  pub by_more : (P Q : Term → Type 0) (l : Layer) → ((u : Term) → P u → Q u) → ByParts P l → ByParts Q l
  by_more P Q (Term-F.Plain b) f p = tt
  by_more P Q (Term-F.Named n) f p = tt
  by_more P Q (Term-F.Pointer e) f p = tt
  by_more P Q (Term-F.Slice e) f p = p
  by_more P Q (Term-F.Array n e) f p = f e p
  by_more P Q (Term-F.Map k e) f p = p
  by_more P Q (Term-F.Chan d e) f p = tt
  by_more P Q (Term-F.Func g) f p = p
  by_more P Q (Term-F.Struct fs) f p = λ g h. f (out-Field g).term (p g h)
  by_more P Q (Term-F.Interface ms) f p = tt

  module _ (all : List Term) (closed : (u : Term) → Has all u → ByParts (Has all) (under T u)) where
    none_leads : (u : Term) → Has all u → LeadsToIncomparable T u → ⊥
    none_leads u h (at_slice e) = subst (ByParts (Has all)) e (closed u h)
    none_leads u h (at_map e) = subst (ByParts (Has all)) e (closed u h)
    none_leads u h (at_func e) = subst (ByParts (Has all)) e (closed u h)
    none_leads u h (in_array {e = e} s l) = none_leads e (subst (ByParts (Has all)) s (closed u h)) l
    none_leads u h (in_struct f s m l) = none_leads (out-Field f).term (subst (ByParts (Has all)) s (closed u h) f m) l

  pub looked_array : (t e p : Term) (n : ℕ) (all new : List Term) (met newer : List TypeName) → under T t ≡ Term-F.Array n e → p ≡ e → Pushes all met new newer p → Looked T t all met new newer true
  looked_array t e p n all new met newer s q h = (
    pushed_as all new met newer (λ u i l. in_array s (subst (LeadsToIncomparable T) (sym i ∙ q) l)) h.0,
    λ k. subst (ByParts (Has new)) (sym s) (subst (Has new) q (h.1 k)),
  )

  pub looked_struct : (t : Term) (fs gs : List Field) (all new : List Term) (met newer : List TypeName) → under T t ≡ Term-F.Struct fs → gs ≡ fs → PushesFields all met new newer gs → Looked T t all met new newer true
  looked_struct t fs gs all new met newer s q h =
      let p : PushesFields all met new newer fs = subst (PushesFields all met new newer) q h in (
        pushed_as all new met newer (λ u i l. in_struct i.0 s i.1 (subst (LeadsToIncomparable T) (sym i.2) l)) p.0,
        λ k. subst (ByParts (Has new)) (sym s) (p.1 k),
      )

  -- what stands at a place
  has_at : (xs : List Term) (i : ℕ) (d : Term) → i < length xs → Has xs (get_or xs i d)
  has_at [] i d h = absurd (omega arith)
  has_at (x ∷ xs) zero d h = inl refl
  has_at (x ∷ xs) (suc i) d h = inr (has_at xs i d (omega arith))

  pub part_has : (all : List Term) (at : ℕ) (part : Term) → at < length all → part ≡ get_or all at part → Has all part
  part_has all at part h e = subst (Has all) (sym e) (has_at all at part h)

  pub next_walk : (t : Term) (at : ℕ) (all new : List Term) (met newer : List TypeName) (part : Term) → Walks t at all met → at < length all → part ≡ get_or all at part → Looked T part all met new newer true → Walks t (at + 1) new newer
  next_walk t at all new met newer part w h e p = record {
    known = p.0.known w.known;
    from = pushed_has all new met newer t p.0 w.from;
    leads = λ u i l. elim (has-split all p.0.more u (subst (λ (z : List Term). Has z u) p.0.is i)) [ inl a ↦ w.leads u a l | inr b ↦ w.leads part (part_has all at part h e) (p.0.each u b l) ];
    within = (let k = ap length p.0.is in let j = length-append all p.0.more in omega (arith, k, j, h));
    closed = λ u i. elim (has-back (take at all) part u (subst (λ (z : List Term). Has z u) taken i)) [
      | inl a ↦ by_more (Has all) (Has new) (under T u) (λ x y. pushed_has all new met newer x p.0 y) (w.closed u a)
      | inr s ↦ subst (λ (z : Term). ByParts (Has new) (under T z)) s (p.1 w.known)
    ];
  }
    where
      taken : take (at + 1) new ≡ take at all ++ part ∷ []
      taken = ap (take (at + 1)) p.0.is ∙ take_append (at + 1) all p.0.more (omega arith) ∙ take_more all at part h ∙ ap (λ x. take at all ++ x ∷ []) (sym e)

  pub walked : (t : Term) (at : ℕ) (all : List Term) (met : List TypeName) → Walks t at all met → length all ≤ at → LeadsToIncomparable T t → ⊥
  walked t at all met w h l = none_leads all (λ u i. w.closed u (subst (λ (z : List Term). Has z u) (sym (take_all at all h)) i)) t w.from l

pub looked_so : (T : Table) (t : Term) (old : List Term) (met : List TypeName) (new : List Term) (newer : List TypeName) (answer told : Bool) → answer ≡ told → Looked T t old met new newer answer → Looked T t old met new newer told
looked_so T t old met new newer answer told e l = subst (Looked T t old met new newer) e l

pub part_leads : (T : Table) (t : Term) (at : ℕ) (all new : List Term) (met newer : List TypeName) (part : Term) → Walks T t at all met → at < length all → part ≡ get_or all at part → Looked T part all met new newer false → LeadsToIncomparable T t
part_leads T t at all new met newer part w h e l = w.leads part (part_has T all at part h e) l
