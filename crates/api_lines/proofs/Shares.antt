-- Whole lists, from the lines that all have and those of each.
use Rattle.std.proofs.Common.{◌≡◌, List, [], ◌∷◌, ◌++◌, map, refl, sym, ap, ◌∙◌, subst, inl, inr, ◌⊎◌}
use Rattle.std.specs.Ordering.{match_ordering, ordering_reverse}
use Rattle.std.specs.declared.cmp.Ordering.{Ordering}
use Rattle.std.specs.declared.cmp.Ordering.TheVariants.{Less, Equal, Greater}
use Rattle.std.specs.Cmp.Lexicographic.{nat_list_cmp_total}
use Rattle.std.proofs.lemmas.List.{map-append}
use Rattle.go_base.specs.Lists.{Has, Each}
use Rattle.go_base.proofs.Members.{each_has}
use Rattle.api_lines.specs.declared.line.Line.{Line}
use Rattle.api_lines.specs.Lines.{printed, AreInOrder, HasText, IsListing, IsOfEither}
use Rattle.api_lines.specs.inner.MergedLines.{AreExactly}
use Rattle.api_lines.specs.inner.Shares.{AreJoined, AreShared, IsIn, IsNotIn, IsRest, put, whole}
use Rattle.api_lines.proofs.Growing.{each_back, each_of}
use Rattle.api_lines.proofs.LineOrder.{above_first, first_in_order, IsBelow, none_in_order, not_above, not_below_itself, one_line, rest_in_order}
use Rattle.api_lines.proofs.TextSets.{order, tie_is}

-- ---- lists in order

same_heads : (x y : Line) (xs ys : List Line) → AreInOrder (x ∷ xs) → AreInOrder (y ∷ ys) → Has (y ∷ ys) x → Has (x ∷ xs) y → x ≡ y
same_heads x y xs ys g h (inl e) k = sym e
same_heads x y xs ys g h (inr a) (inl e) = e
same_heads x y xs ys g h (inr a) (inr b) =
    absurd (not_below_itself (printed x) (nat_list_cmp_total.trans (printed x) (printed y) (printed x) (each_has (IsBelow x) xs y (above_first x xs g) b) (each_has (IsBelow y) ys x (above_first y ys h) a)))

other_of : (x y l : Line) (xs ys : List Line) → AreInOrder (x ∷ xs) → x ≡ y → Has xs l → Has (y ∷ ys) l → Has ys l
other_of x y l xs ys g e k (inl s) = absurd (not_above x l xs g k (ap printed (e ∙ s)))
other_of x y l xs ys g e k (inr m) = m

-- lists with the same lines are one
pub same_lists : (xs ys : List Line) → AreInOrder xs → AreInOrder ys → ((l : Line) → Has xs l → Has ys l) → ((l : Line) → Has ys l → Has xs l) → xs ≡ ys
same_lists [] [] g h to from = refl
same_lists [] (y ∷ ys) g h to from = absurd (from y (inl refl))
same_lists (x ∷ xs) [] g h to from = absurd (to x (inl refl))
same_lists (x ∷ xs) (y ∷ ys) g h to from =
    let e : x ≡ y = same_heads x y xs ys g h (to x (inl refl)) (from y (inl refl)) in
    let rest : xs ≡ ys = same_lists xs ys (rest_in_order x xs g) (rest_in_order y ys h) (λ l k. other_of x y l xs ys g e k (to l (inr k))) (λ l k. other_of y x l ys xs h (sym e) k (from l (inr k))) in
    (λ i. e i ∷ rest i)

-- ---- whole lists

put_has_by : (l m : Line) (ms : List Line) (x : Line) (o : Ordering) → (Has (put l ms) x → (l ≡ x) ⊎ Has ms x) → Has (match_ordering o (l ∷ m ∷ ms) (l ∷ m ∷ ms) (m ∷ put l ms)) x → (l ≡ x) ⊎ Has (m ∷ ms) x
put_has_by l m ms x Less r h = h
put_has_by l m ms x Equal r h = h
put_has_by l m ms x Greater r h = elim h [ inl e ↦ inr (inl e) | inr k ↦ elim (r k) [ inl e ↦ inl e | inr n ↦ inr (inr n) ] ]

put_has : (l : Line) (ms : List Line) (x : Line) → Has (put l ms) x → (l ≡ x) ⊎ Has ms x
put_has l [] x h = h
put_has l (m ∷ ms) x h = put_has_by l m ms x (order (printed l) (printed m)) (put_has l ms x) h

has_put_by : (l m : Line) (ms : List Line) (x : Line) (o : Ordering) → ((l ≡ x) ⊎ Has ms x → Has (put l ms) x) → (l ≡ x) ⊎ Has (m ∷ ms) x → Has (match_ordering o (l ∷ m ∷ ms) (l ∷ m ∷ ms) (m ∷ put l ms)) x
has_put_by l m ms x Less r h = h
has_put_by l m ms x Equal r h = h
has_put_by l m ms x Greater r h = elim h [ inl e ↦ inr (r (inl e)) | inr k ↦ elim k [ inl e ↦ inl e | inr n ↦ inr (r (inr n)) ] ]

has_put : (l : Line) (ms : List Line) (x : Line) → (l ≡ x) ⊎ Has ms x → Has (put l ms) x
has_put l [] x h = h
has_put l (m ∷ ms) x h = has_put_by l m ms x (order (printed l) (printed m)) (has_put l ms x) h

put_order_by : (l m : Line) (ms : List Line) (o : Ordering) → order (printed l) (printed m) ≡ o → AreInOrder (m ∷ ms) → (HasText (m ∷ ms) (printed l) → ⊥) → AreInOrder (put l ms)
    → AreInOrder (match_ordering o (l ∷ m ∷ ms) (l ∷ m ∷ ms) (m ∷ put l ms))
put_order_by l m ms Less e h n r =
    first_in_order l (m ∷ ms) (e, each_of (IsBelow l) ms (λ x k. nat_list_cmp_total.trans (printed l) (printed m) (printed x) e (each_has (IsBelow m) ms x (above_first m ms h) k))) h
put_order_by l m ms Equal e h n r = absurd (n (m, inl refl, sym (tie_is (printed l) (printed m) e)))
put_order_by l m ms Greater e h n r =
    let below : IsBelow m l = nat_list_cmp_total.antisymm (printed m) (printed l) ∙ ap ordering_reverse e in
    first_in_order m (put l ms) (each_of (IsBelow m) (put l ms) (λ x k. elim (put_has l ms x k) [ inl s ↦ subst (IsBelow m) s below | inr b ↦ each_has (IsBelow m) ms x (above_first m ms h) b ])) r

put_in_order : (l : Line) (ms : List Line) → AreInOrder ms → (HasText ms (printed l) → ⊥) → AreInOrder (put l ms)
put_in_order l [] h n = first_in_order l [] tt none_in_order
put_in_order l (m ∷ ms) h n = put_order_by l m ms (order (printed l) (printed m)) refl h n (put_in_order l ms (rest_in_order m ms h) (λ k. n (k.0, inr k.1, k.2)))

pub whole_has : (common own : List Line) (l : Line) → Has (whole common own) l → IsOfEither common own l
whole_has [] own l h = inr h
whole_has (c ∷ common) own l h = elim (put_has c (whole common own) l h) [ inl e ↦ inl (inl e) | inr k ↦ elim (whole_has common own l k) [ inl a ↦ inl (inr a) | inr b ↦ inr b ] ]

pub has_whole : (common own : List Line) (l : Line) → IsOfEither common own l → Has (whole common own) l
has_whole [] own l h = elim h [ inl a ↦ absurd a | inr b ↦ b ]
has_whole (c ∷ common) own l h = has_put c (whole common own) l (elim h [
  | inl a ↦ elim a [ inl e ↦ inl e | inr k ↦ inr (has_whole common own l (inl k)) ]
  | inr b ↦ inr (has_whole common own l (inr b))
])

pub whole_in_order : (common own : List Line) → AreInOrder common → IsRest common own → AreInOrder (whole common own)
whole_in_order [] own h r = r.0
whole_in_order (c ∷ common) own h r =
    put_in_order c (whole common own) (whole_in_order common own (rest_in_order c common h) (r.0, (λ l m x y. r.1 l m (inr x) y))) (λ k. elim (whole_has common own k.0 k.1) [
      | inl a ↦ not_above c k.0 common h a (sym k.2)
      | inr b ↦ r.1 c k.0 (inl refl) b (sym k.2)
    ])

-- ---- one list more

pub none_shared : (common : List Line) (owns : List (List Line)) → common ≡ [] → owns ≡ [] → AreShared common owns
none_shared common owns e f = (subst AreInOrder (sym e) none_in_order, subst (Each (IsRest common)) (sym f) tt)

pub one_shared : (lines : List Line) → AreInOrder lines → (none : List (List Line)) (own : List Line) (owns : List (List Line)) → none ≡ [] → own ≡ [] → owns ≡ none ++ own ∷ [] → AreShared lines owns × (map (whole lines) owns ≡ lines ∷ [])
one_shared lines h none own owns e f g =
    let r : IsRest lines [] = (none_in_order, (λ l m x y. absurd y)) in
    let is : owns ≡ [] ∷ [] = g ∙ (λ i. e i ++ f i ∷ []) in
    subst (λ (w : List (List Line)). AreShared lines w × (map (whole lines) w ≡ lines ∷ [])) (sym is)
    ((h, (r, tt)), ap (λ w. w ∷ []) (same_lists (whole lines []) lines (whole_in_order lines [] h r) h (λ l k. elim (whole_has lines [] l k) [ inl a ↦ a | inr b ↦ absurd b ]) (λ l k. has_whole lines [] l (inl k))))

-- no line is added
pub joined_none : (more : List Line) (owns : List (List Line)) → more ≡ [] → Each AreInOrder owns → AreJoined more owns owns
joined_none more [] e h = tt
joined_none more (own ∷ owns) e h = (
  record {
    sound = λ l k. inl k;
    complete = λ l k. elim k [ inl a ↦ (l, a, refl) | inr b ↦ absurd (subst (λ (w : List Line). Has w l) e b) ];
    ordered = h.0;
  },
  joined_none more owns e h.1,
)

pub joined_next : (more : List Line) (owns news : List (List Line)) (own new : List Line) (more' : List Line) → more' ≡ more → AreJoined more owns news → IsListing (IsOfEither own more') new → AreJoined more (owns ++ own ∷ []) (news ++ new ∷ [])
joined_next more [] [] own new more' e j k = (subst (λ (w : List Line). IsListing (IsOfEither own w) new) e k, tt)
joined_next more [] (n ∷ news) own new more' e j k = absurd j
joined_next more (o ∷ owns) [] own new more' e j k = absurd j
joined_next more (o ∷ owns) (n ∷ news) own new more' e j k = (j.0, joined_next more owns news own new more' e j.1 k)

module _ (common lines shared rest : List Line) (h : AreInOrder common) (s : AreExactly (IsIn lines common) shared) (r : AreExactly (IsNotIn lines common) rest) (all : (l : Line) → Has common l → IsOfEither shared rest l) where
  -- no line is lost where two lists are joined that have no text in common
  joined_has : (own new : List Line) → IsRest common own → IsListing (IsOfEither own rest) new → (l : Line) → IsOfEither own rest l → Has new l
  joined_has own new k j l e =
      let t = j.complete l e in
      subst (Has new) (by t.0 (j.sound t.0 t.1) e t.2) t.1
    where
      by : (m : Line) → IsOfEither own rest m → IsOfEither own rest l → printed m ≡ printed l → m ≡ l
      by m (inl a) (inl b) t = one_line own m l k.0 a b t
      by m (inl a) (inr b) t = absurd (k.1 l m (r.sound l b).0 a (sym t))
      by m (inr a) (inl b) t = absurd (k.1 m l (r.sound m a).0 b t)
      by m (inr a) (inr b) t = one_line rest m l r.ordered a b t

  rest_next : (own new : List Line) → IsRest common own → IsListing (IsOfEither own rest) new → IsRest shared new
  rest_next own new k j = (
    j.ordered,
    (λ l m x y e. elim (j.sound m y) [
      | inl a ↦ k.1 l m (s.sound l x).0 a e
      | inr b ↦ (r.sound m b).1 (subst (Has lines) (one_line common l m h (s.sound l x).0 (r.sound m b).0 e) (s.sound l x).1)
    ]),
  )

  whole_next : (own new : List Line) → IsRest common own → IsListing (IsOfEither own rest) new → whole shared new ≡ whole common own
  whole_next own new k j = same_lists (whole shared new) (whole common own) (whole_in_order shared new s.ordered (rest_next own new k j)) (whole_in_order common own h k)
      (λ l x. has_whole common own l (elim (whole_has shared new l x) [
        | inl a ↦ inl (s.sound l a).0
        | inr b ↦ elim (j.sound l b) [ inl o ↦ inr o | inr q ↦ inl (r.sound l q).0 ]
      ]))
      (λ l x. has_whole shared new l (elim (whole_has common own l x) [
        | inl a ↦ elim (all l a) [ inl o ↦ inl o | inr q ↦ inr (joined_has own new k j l (inr q)) ]
        | inr b ↦ inr (joined_has own new k j l (inl b))
      ]))

  -- the earlier lists stay what they are
  pub all_next : (owns news : List (List Line)) → Each (IsRest common) owns → AreJoined rest owns news → Each (IsRest shared) news × (map (whole shared) news ≡ map (whole common) owns)
  all_next [] [] k j = (tt, refl)
  all_next (own ∷ owns) (new ∷ news) k j =
      let more = all_next owns news k.1 j.1 in
      ((rest_next own new k.0 j.0, more.0), (λ i. whole_next own new k.0 j.0 i ∷ more.1 i))
  all_next [] (new ∷ news) k j = absurd j
  all_next (own ∷ owns) [] k j = absurd j

  module _ (other : List Line) (g : AreInOrder lines) (r2 : AreExactly (IsNotIn common lines) other) (all2 : (l : Line) → Has lines l → IsOfEither shared other l) where
    new_rest : IsRest shared other
    new_rest = (r2.ordered, (λ l m x y e. (r2.sound m y).1 (subst (Has common) (one_line lines l m g (s.sound l x).1 (r2.sound m y).0 e) (s.sound l x).0)))

    new_whole : whole shared other ≡ lines
    new_whole = same_lists (whole shared other) lines (whole_in_order shared other s.ordered new_rest) g
        (λ l x. elim (whole_has shared other l x) [ inl a ↦ (s.sound l a).1 | inr b ↦ (r2.sound l b).0 ])
        (λ l x. has_whole shared other l (all2 l x))

    pub shared_next : (owns news all' : List (List Line)) → Each (IsRest common) owns → AreJoined rest owns news → all' ≡ news ++ other ∷ []
        → AreShared shared all' × (map (whole shared) all' ≡ map (whole common) owns ++ lines ∷ [])
    shared_next owns news all' k j e =
        let more = all_next owns news k j in
        subst (λ (w : List (List Line)). AreShared shared w × (map (whole shared) w ≡ map (whole common) owns ++ lines ∷ [])) (sym e)
        ((s.ordered, each_back (IsRest shared) news other more.0 new_rest), map-append (whole shared) news (other ∷ []) ∙ (λ i. more.1 i ++ new_whole i ∷ []))

-- the lists with one more, by the parts of two lists
pub with_next : (common lines : List Line) (owns lists : List (List Line)) → map (whole common) owns ≡ lists → AreShared common owns → AreInOrder lines
    → (s r u : List Line) (parts : List Line × List Line × List Line) → AreExactly (IsIn lines common) s → AreExactly (IsNotIn lines common) r → AreExactly (IsNotIn common lines) u
    → ((l : Line) → Has common l → IsOfEither s r l) → ((l : Line) → Has lines l → IsOfEither s u l) → parts ≡ (s, r, u)
    → (leaving : List Line) (news : List (List Line)) → leaving ≡ parts.1 → AreJoined leaving owns news
    → (all : List (List Line)) → all ≡ news ++ parts.2 ∷ [] → AreShared parts.0 all × (map (whole parts.0) all ≡ lists ++ lines ∷ [])
with_next common lines owns lists view is g s r u parts fs fr fu fall fall2 p leaving news el j all ea =
    let first : s ≡ parts.0 = sym (ap (λ (z : List Line × List Line × List Line). z.0) p) in
    let second : r ≡ parts.1 = sym (ap (λ (z : List Line × List Line × List Line). z.1) p) in
    let third : u ≡ parts.2 = sym (ap (λ (z : List Line × List Line × List Line). z.2) p) in
    let next = shared_next common lines parts.0 parts.1 is.0
    (subst (AreExactly (IsIn lines common)) first fs)
    (subst (AreExactly (IsNotIn lines common)) second fr)
    (subst (λ (w : List Line × List Line × List Line). (l : Line) → Has common l → IsOfEither w.0 w.1 l) (sym p) fall)
    parts.2 g
    (subst (AreExactly (IsNotIn common lines)) third fu)
    (subst (λ (w : List Line × List Line × List Line). (l : Line) → Has lines l → IsOfEither w.0 w.2 l) (sym p) fall2)
    owns news all is.1 (subst (λ (w : List Line). AreJoined w owns news) el j) ea in
    (next.0, next.1 ∙ ap (λ w. w ++ lines ∷ []) view)
