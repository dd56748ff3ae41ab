-- Names that are visited in turn, up to the first that was declared before.
use Rattle.std.proofs.Common.{◌≡◌, ◌<◌, ◌≤◌, ◌+◌, ◌⊎◌, inl, inr, ℕ, zero, suc, Option, None, Some, List, [], ◌∷◌, ◌++◌, length, take, get_or, refl, sym, ap, ◌∙◌, subst, arith, append_assoc, append-nil, length-append}
use Rattle.std.specs.Prelude.{slice_get}
use Rattle.std.proofs.lemmas.List.{take_more}
use Rattle.std.proofs.lemmas.Option.{slice_get_within}
use Rattle.go_base.specs.Gathered.{gather}
use Rattle.go_base.specs.Growing.{Grows}
use Rattle.go_base.specs.Lists.{Has}
use Rattle.go_base.proofs.Lists.{take_past}
use Rattle.go_base.proofs.Members.{has_split}
use Rattle.go_syntax.specs.declared.name.Place.{Place}
use Rattle.go_typings.proofs.go_rules_proofs.OneName.{none_some}
use Rattle.go_typings.specs.Redeclarations.{Clash, IsLater, Site}
use Rattle.go_sources.specs.inner.KnownNames.{After, IsFirstLater, Puts, Steps, Visited, Key}

-- ---- lists

module _ {A : Type 0} where
  get_left : (xs ys : List A) (n : ℕ) (x : A) → slice_get xs n ≡ Some x → slice_get (xs ++ ys) n ≡ Some x
  get_left [] ys n x h = absurd (none_some h)
  get_left (y ∷ xs) ys zero x h = h
  get_left (y ∷ xs) ys (suc n) x h = get_left xs ys n x h

  get_back : (xs ys : List A) (n : ℕ) (x : A) → n < length xs → slice_get (xs ++ ys) n ≡ Some x → slice_get xs n ≡ Some x
  get_back [] ys n x l h = absurd (omega arith)
  get_back (y ∷ xs) ys zero x l h = h
  get_back (y ∷ xs) ys (suc n) x l h = get_back xs ys n x (omega arith) h

  get_last : (xs : List A) (x : A) → slice_get (xs ++ x ∷ []) (length xs) ≡ Some x
  get_last [] x = refl
  get_last (y ∷ xs) x = get_last xs x

  get_has : (xs : List A) (n : ℕ) (x : A) → slice_get xs n ≡ Some x → Has xs x
  get_has [] n x h = absurd (none_some h)
  get_has (y ∷ xs) zero x h = inl (some_same h)
    where
      some_same : Some y ≡ Some x → y ≡ x
      some_same e = ap (λ o. option_or_y o) e
        where
          option_or_y : Option A → A
          option_or_y None = y
          option_or_y (Some z) = z
  get_has (y ∷ xs) (suc n) x h = inr (get_has xs n x h)

  has_get : (xs : List A) (x : A) → Has xs x → (n : ℕ) × (slice_get xs n ≡ Some x)
  has_get [] x h = absurd h
  has_get (y ∷ xs) x (inl e) = (0, ap Some e)
  has_get (y ∷ xs) x (inr h) = let k = has_get xs x h in (suc k.0, k.1)

  pub has_left : (xs ys : List A) (x : A) → Has xs x → Has (xs ++ ys) x
  has_left [] ys x h = absurd h
  has_left (y ∷ xs) ys x (inl e) = inl e
  has_left (y ∷ xs) ys x (inr h) = inr (has_left xs ys x h)

  pub has_right : (xs ys : List A) (x : A) → Has ys x → Has (xs ++ ys) x
  has_right [] ys x h = h
  has_right (y ∷ xs) ys x h = inr (has_right xs ys x h)

-- ---- names that were declared before

later_left : (ss more : List Site) (n : ℕ) (s : Site) → IsLater ss n s → IsLater (ss ++ more) n s
later_left ss more n s l = record {
  is = get_left ss more n s l.is;
  earlier = l.earlier;
  site = l.site;
  comes = l.comes;
  stands = get_left ss more l.earlier l.site l.stands;
  clash = l.clash;
}

later_back : (ss more : List Site) (n : ℕ) (s : Site) → n < length ss → IsLater (ss ++ more) n s → IsLater ss n s
later_back ss more n s w l = record {
  is = get_back ss more n s w l.is;
  earlier = l.earlier;
  site = l.site;
  comes = l.comes;
  stands = let c = l.comes in get_back ss more l.earlier l.site (omega (arith, c, w)) l.stands;
  clash = l.clash;
}

pub first_left : (ss more : List Site) (p : Place) → IsFirstLater ss p → IsFirstLater (ss ++ more) p
first_left ss more p f = record {
  number = f.number;
  site = f.site;
  later = later_left ss more f.number f.site f.later;
  first = λ m t b l. let w = slice_get_within ss f.number f.site f.later.is in f.first m t b (later_back ss more m t (omega (arith, b, w)) l);
  place = f.place;
}

-- ---- one name more

module _ (ss : List Site) (keys : List Key) (v : Visited ss keys) (s : Site) where
  -- a name that may be declared as well
  apart : (n : ℕ) (t : Site) → ((q : Site) → Has ss q → Clash q s → ⊥) → IsLater (ss ++ s ∷ []) n t → n < length ss ⊎ (length ss ≤ n) → ⊥
  apart n t free l (inl w) = v.none n t (later_back ss (s ∷ []) n t w l)
  apart n t free l (inr w) =
      let r = slice_get_within (ss ++ s ∷ []) n t l.is in
      let e : length (ss ++ s ∷ []) ≡ length ss + 1 = length-append ss (s ∷ []) in
      let at : n ≡ length ss = omega (arith, r, e, w) in
      let same : s ≡ t = some_once (sym (get_last ss s) ∙ ap (slice_get (ss ++ s ∷ [])) (sym at) ∙ l.is) in
      let c = l.comes in
      let below : l.earlier < length ss = omega (arith, c, at) in
      free l.site (get_has ss l.earlier l.site (get_back ss (s ∷ []) l.earlier l.site below l.stands)) (subst (Clash l.site) (sym same) l.clash)
    where
      some_once : Some s ≡ Some t → s ≡ t
      some_once e = ap (λ o. or_s o) e
        where
          or_s : Option Site → Site
          or_s None = s
          or_s (Some z) = z

  pub free_more : (new : List Key) → Grows (Puts s.name s.role) keys new → ((q : Site) → Has ss q → Clash q s → ⊥) → Visited (ss ++ s ∷ []) new
  free_more new g free = record {
    keys = λ k. (
      λ h. elim (g.sound k h) [
        | inl o ↦ (let m = (v.keys k).0 o in (m.0, has_left ss (s ∷ []) m.0 m.1, m.2))
        | inr p ↦ (s, has_right ss (s ∷ []) s (inl refl), p)
      ],
      λ m. elim (has_split ss (s ∷ []) m.0 m.1) [
        | inl h ↦ g.kept k ((v.keys k).1 (m.0, h, m.2))
        | inr h ↦ g.complete k (subst (λ (q : Site). Puts q.name q.role k) (sym (only m.0 h)) m.2)
      ],
    );
    none = λ n t l. apart n t free l (order_of n (length ss));
  }
    where
      only : (q : Site) → Has (s ∷ []) q → s ≡ q
      only q (inl e) = e
      only q (inr h) = absurd h

      order_of : (a b : ℕ) → a < b ⊎ (b ≤ a)
      order_of a zero = inr (omega arith)
      order_of zero (suc b) = inl (omega arith)
      order_of (suc a) (suc b) = elim (order_of a b) [ inl h ↦ inl (omega (arith, h)) | inr h ↦ inr (omega (arith, h)) ]

  pub first_more : (q : Site) → Has ss q → Clash q s → IsFirstLater (ss ++ s ∷ []) s.place
  first_more q h c = record {
    number = length ss;
    site = s;
    later = record {
      is = get_last ss s;
      earlier = (has_get ss q h).0;
      site = q;
      comes = slice_get_within ss (has_get ss q h).0 q (has_get ss q h).1;
      stands = get_left ss (s ∷ []) (has_get ss q h).0 q (has_get ss q h).1;
      clash = c;
    };
    first = λ m t b l. v.none m t (later_back ss (s ∷ []) m t b l);
    place = refl;
  }

-- ---- names in turn

pub step_nothing : (keys : List Key) → Steps [] keys keys None
step_nothing keys ss v = subst (λ (w : List Site). Visited w keys) (sym (append-nil ss)) v

pub step_both : (a b : List Site) (old mid new : List Key) (r : Option Place) → Steps a old mid None → Steps b mid new r → Steps (a ++ b) old new r
step_both a b old mid new r f g ss v = subst (λ (w : List Site). After w new r) (append_assoc ss a b) (g (ss ++ a) (f ss v))

pub step_ends : (a b : List Site) (old mid new : List Key) (p : Place) → Steps a old mid (Some p) → Steps (a ++ b) old new (Some p)
step_ends a b old mid new p f ss v = subst (λ (w : List Site). IsFirstLater w p) (append_assoc ss a b) (first_left (ss ++ a) b p (f ss v))

pub gather_split : {A B : Type 0} (f : A → List B) (xs ys : List A) → gather f (xs ++ ys) ≡ gather f xs ++ gather f ys
gather_split f [] ys = refl
gather_split f (x ∷ xs) ys = ap (λ zs. f x ++ zs) (gather_split f xs ys) ∙ sym (append_assoc (f x) (gather f xs) (gather f ys))

pub split_taken : {A : Type 0} (xs : List A) (i : ℕ) → (rest : List A) × (xs ≡ take i xs ++ rest)
split_taken xs zero = (xs, refl)
split_taken [] (suc i) = ([], refl)
split_taken (x ∷ xs) (suc i) = let k = split_taken xs i in (k.0, ap (λ ys. x ∷ ys) k.1)

module _ {A : Type 0} (f : A → List Site) where
  taken : (xs : List A) (i : ℕ) (x : A) → i < length xs → x ≡ get_or xs i x → gather f (take (i + 1) xs) ≡ gather f (take i xs) ++ f x
  taken xs i x h e = ap (gather f) (take_more xs i x h ∙ ap (λ (z : A). take i xs ++ z ∷ []) (sym e)) ∙ gather_split f (take i xs) (x ∷ []) ∙ ap (λ zs. gather f (take i xs) ++ zs) (append-nil (f x))

  pub step_next : (xs : List A) (i : ℕ) (x : A) (old mid new : List Key) (r : Option Place) → i < length xs → x ≡ get_or xs i x → Steps (gather f (take i xs)) old mid None → Steps (f x) mid new r → Steps (gather f (take (i + 1) xs)) old new r
  step_next xs i x old mid new r h e s g = subst (λ (w : List Site). Steps w old new r) (sym (taken xs i x h e)) (step_both (gather f (take i xs)) (f x) old mid new r s g)

  pub step_whole : (xs : List A) (i : ℕ) (old new : List Key) → length xs ≤ i → Steps (gather f (take i xs)) old new None → Steps (gather f xs) old new None
  step_whole xs i old new h s = subst (λ (w : List A). Steps (gather f w) old new None) (take_past i xs h) s

  -- a name of an item was declared before
  pub step_stops : (xs : List A) (i : ℕ) (x : A) (old mid new : List Key) (p : Place) → i < length xs → x ≡ get_or xs i x → Steps (gather f (take i xs)) old mid None → Steps (f x) mid new (Some p) → Steps (gather f xs) old new (Some p)
  step_stops xs i x old mid new p h e s g =
      let k = split_taken xs (i + 1) in
      subst (λ (w : List A). Steps (gather f w) old new (Some p)) (sym k.1)
      (subst (λ (w : List Site). Steps w old new (Some p)) (sym (gather_split f (take (i + 1) xs) k.0))
      (step_ends (gather f (take (i + 1) xs)) (gather f k.0) old new new p (step_next xs i x old mid new (Some p) h e s g)))
