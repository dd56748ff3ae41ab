-- There is one walk over the told files.
use Rattle.std.proofs.Common.{◌≡◌, ℕ, zero, suc, ◌+◌, ◌<◌, ◌≤◌, Option, Some, None, List, [], ◌∷◌, ◌++◌, length, refl, sym, ap, ◌∙◌, subst, ◌⊎◌, inl, inr, append_assoc, arith, append-nil}
use Rattle.std.specs.Ordering.{nat_cmp, is_lt, ordering_reverse}
use Rattle.std.specs.declared.cmp.Ordering.{Ordering}
use Rattle.std.specs.declared.cmp.Ordering.TheVariants.{Less, Equal, Greater}
use Rattle.std.specs.Cmp.Lexicographic.{slice_cmp}
use Rattle.std.specs.FinMap.{slice_cmp-IsAntisymmetric, nat_cmp-IsAntisymmetric}
use Rattle.std.proofs.lemmas.Cmp.{nat_list_cmp_total}
use Rattle.std.proofs.lemmas.List.{length-append}
use Rattle.go_base.specs.Lists.{Has, Each, Before, Ascending}
use Rattle.go_model.specs.declared.files.tree.TreeFile.{TreeFile}
use Rattle.go_outside.specs.Paths.{Path}
use Rattle.go_outside.specs.Stores.{Contents}
use Rattle.go_load.specs.Walk.{AreCandidates, IsNext, Event, folder_event, events_of, files_of, package_events, file_events, Walked, start, next, Reaches, before, within, IsWhole, Refusal, first_refusal, no_counts}
use Rattle.go_load.specs.Loads.{AreFiles, PassesIn}
use Rattle.go_load.specs.declared.kind.TreeKind.{TreeKind}
use Rattle.go_load.proofs.CountedEvents.{first_front}
use Rattle.go_load.proofs.FolderOrder.{before_trans, not_before_itself}

-- paths that stand before no other are one
tied_by : (f g : Path) (o : Ordering) → slice_cmp nat_cmp f g ≡ o → (Before f g → ⊥) → (Before g f → ⊥) → f ≡ g
tied_by f g Less e h k = absurd (h (ap is_lt e))
tied_by f g Equal e h k = slice_cmp-IsAntisymmetric nat_cmp-IsAntisymmetric f g e
tied_by f g Greater e h k = absurd (k (ap is_lt (nat_list_cmp_total.antisymm g f ∙ ap ordering_reverse e)))

tied : (f g : Path) → (Before f g → ⊥) → (Before g f → ⊥) → f ≡ g
tied f g h k = tied_by f g (slice_cmp nat_cmp f g) refl h k

each_has : (P : Path → Type 0) (xs : List Path) (x : Path) → Each P xs → Has xs x → P x
each_has P [] x e h = absurd h
each_has P (y ∷ ys) x e (inl s) = subst P s e.0
each_has P (y ∷ ys) x e (inr h) = each_has P ys x e.1 h

-- one ascending list holds the same texts
head_of : (x y : Path) (xs ys : List Path) → Ascending (x ∷ xs) → Ascending (y ∷ ys) → Has (y ∷ ys) x → Has (x ∷ xs) y → x ≡ y
head_of x y xs ys a b (inl e) k = sym e
head_of x y xs ys a b (inr h) (inl e) = e
head_of x y xs ys a b (inr h) (inr k) = absurd (not_before_itself x (before_trans x y x (each_has (Before x) xs y a.0 k) (each_has (Before y) ys x b.0 h)))

tail_of : (x y z : Path) (xs ys : List Path) → x ≡ y → Each (Before x) xs → Has xs z → Has (y ∷ ys) z → Has ys z
tail_of x y z xs ys e a h (inl s) = absurd (not_before_itself x (subst (Before x) (sym (e ∙ s)) (each_has (Before x) xs z a h)))
tail_of x y z xs ys e a h (inr k) = k

one_ascending : (xs ys : List Path) → Ascending xs → Ascending ys → ((z : Path) → Has xs z → Has ys z) → ((z : Path) → Has ys z → Has xs z) → xs ≡ ys
one_ascending [] [] a b f g = refl
one_ascending [] (y ∷ ys) a b f g = absurd (g y (inl refl))
one_ascending (x ∷ xs) [] a b f g = absurd (f x (inl refl))
one_ascending (x ∷ xs) (y ∷ ys) a b f g =
    let e = head_of x y xs ys a b (f x (inl refl)) (g y (inl refl)) in
    let rest = one_ascending xs ys a.1 b.1 (λ z h. tail_of x y z xs ys e a.0 h (f z (inr h))) (λ z h. tail_of y x z ys xs (sym e) b.0 h (g z (inr h))) in
    λ i. e i ∷ rest i

module _ (m : Contents) (tree : TreeKind) (root : Path) where
  one_next : (listed : List Path) (f g : Path) → IsNext m tree root listed f → IsNext m tree root listed g → f ≡ g
  one_next listed f g n k = tied f g (λ h. k.least f n.is n.fresh h) (λ h. n.least g k.is k.fresh h)

  one_candidates : (folder : Path) (xs ys : List Path) → AreCandidates m tree root folder xs → AreCandidates m tree root folder ys → xs ≡ ys
  one_candidates folder xs ys a b = one_ascending xs ys a.ascending b.ascending (λ z h. b.complete z (a.sound z h)) (λ z h. a.complete z (b.sound z h))

  -- what was walked, as one value
  pub record Stage : Type 0 where
    pub listed : List Path
    pub files : List TreeFile
    pub es : List Event
    pub walked : Walked m tree root listed files es

  abbrev Same : List Path → List Path → List TreeFile → List TreeFile → List Event → List Event → Type 0
  Same l l' f f' e e' = (l ≡ l') × (f ≡ f') × (e ≡ e')

  longer : (l : List Path) (f : Path) → length (l ++ f ∷ []) ≡ length l + 1
  longer l f = length-append l (f ∷ [])

  same_step : (l l' : List Path) (f f' : List TreeFile) (e e' : List Event) (a b : Path) (xs ys : List Path) → Same l l' f f' e e' → IsNext m tree root l a → IsNext m tree root l' b → AreCandidates m tree root a xs → AreCandidates m tree root b ys
      → Same (l ++ a ∷ []) (l' ++ b ∷ []) (f ++ files_of m root a xs) (f' ++ files_of m root b ys) (e ++ events_of a (files_of m root a xs)) (e' ++ events_of b (files_of m root b ys))
  same_step l l' f f' e e' a b xs ys s n k c d =
      let p = one_next l' a b (subst (λ (w : List Path). IsNext m tree root w a) s.0 n) k in
      let q = one_candidates b xs ys (subst (λ (w : Path). AreCandidates m tree root w xs) p c) d in
      ((λ i. s.0 i ++ p i ∷ []), (λ i. s.1 i ++ files_of m root (p i) (q i)), (λ i. s.2 i ++ events_of (p i) (files_of m root (p i) (q i))))

  -- as many folders are one walk
  pub same_walk : {l l' : List Path} {f f' : List TreeFile} {e e' : List Event} → Walked m tree root l f e → Walked m tree root l' f' e' → length l ≡ length l' → Same l l' f f' e e'
  same_walk start start h = (refl, refl, refl)
  same_walk start (next l f e folder names w n c) h = absurd (omega (arith, h, longer l folder))
  same_walk (next l f e folder names w n c) start h = absurd (omega (arith, h, longer l folder))
  same_walk (next l f e folder names w n c) (next l' f' e' folder' names' w' n' c') h =
      same_step l l' f f' e e' folder folder' names names' (same_walk w w' (omega (arith, h, longer l folder, longer l' folder'))) n n' c c'

  -- a walk up to fewer folders
  abbrev Cut : ℕ → List Event → Type 0
  Cut n e = (l : List Path) × (f : List TreeFile) × (e' : List Event) × (folder : Path) × (more : List Event) × Walked m tree root l f e' × (length l ≡ n) × IsNext m tree root l folder × (e ≡ e' ++ folder_event folder ∷ more)

  cut_by : (n : ℕ) (l : List Path) (f : List TreeFile) (e : List Event) (folder : Path) (names : List Path) → Walked m tree root l f e → IsNext m tree root l folder → (n < length l → Cut n e) → n ≤ length l → (n ≡ length l) ⊎ (n < length l)
      → Cut n (e ++ events_of folder (files_of m root folder names))
  cut_by n l f e folder names w k rest h (inl s) = (l, f, e, folder, package_events folder (files_of m root folder names) ++ file_events (files_of m root folder names), w, sym s, k, refl)
  cut_by n l f e folder names w k rest h (inr s) =
      let r = rest s in
      (r.0, r.1, r.2, r.3, r.4 ++ events_of folder (files_of m root folder names), r.5, r.6, r.7, ap (λ x. x ++ events_of folder (files_of m root folder names)) r.8 ∙ append_assoc r.2 (folder_event r.3 ∷ r.4) (events_of folder (files_of m root folder names)))

  at_or_below : (n k : ℕ) → n ≤ k → (n ≡ k) ⊎ (n < k)
  at_or_below zero zero h = inl refl
  at_or_below zero (suc k) h = inr (omega arith)
  at_or_below (suc n) zero h = absurd (omega (arith, h))
  at_or_below (suc n) (suc k) h = elim (at_or_below n k (omega (arith, h))) [ inl e ↦ inl (ap suc e) | inr l ↦ inr (omega (arith, l)) ]

  pub cut : {l : List Path} {f : List TreeFile} {e : List Event} → Walked m tree root l f e → (n : ℕ) → n < length l → Cut n e
  cut start n h = absurd (omega (arith, h))
  cut (next l f e folder names w k c) n h = let s : n ≤ length l = omega (arith, h, longer l folder) in cut_by n l f e folder names w k (cut w n) s (at_or_below n (length l) s)

  -- nothing, or the next folder
  abbrev Tail : List Path → List Event → Type 0
  Tail l t = (t ≡ []) ⊎ ((folder : Path) × IsNext m tree root l folder × (t ≡ folder_event folder ∷ []))

  abbrev Begins : List Event → List Event → Type 0
  Begins a b = (more : List Event) × (b ≡ a ++ more)

  shorter_by : (e t e2 t2 more : List Event) (folder : Path) (l : List Path) → IsNext m tree root l folder → Tail l t → e2 ≡ e ++ folder_event folder ∷ more → Begins (e ++ t) (e2 ++ t2)
  shorter_by e t e2 t2 more folder l n (inl s) q = (folder_event folder ∷ (more ++ t2), ap (λ x. x ++ t2) q ∙ append_assoc e (folder_event folder ∷ more) t2 ∙ ap (λ x. x ++ folder_event folder ∷ (more ++ t2)) (sym (append-nil e) ∙ ap (λ x. e ++ x) (sym s)))
  shorter_by e t e2 t2 more folder l n (inr s) q =
      let p = one_next l folder s.0 n s.1 in
      (more ++ t2, ap (λ x. x ++ t2) q ∙ append_assoc e (folder_event folder ∷ more) t2 ∙ (λ i. e ++ folder_event (p i) ∷ (more ++ t2)) ∙ sym (append_assoc e (folder_event s.0 ∷ []) (more ++ t2)) ∙ ap (λ x. e ++ x ++ (more ++ t2)) (sym s.2))

  shorter : {l l2 : List Path} {f f2 : List TreeFile} {e e2 : List Event} (t t2 : List Event) → Walked m tree root l f e → Walked m tree root l2 f2 e2 → Tail l t → length l < length l2 → Begins (e ++ t) (e2 ++ t2)
  shorter {l = l} {e = e} {e2 = e2} t t2 w w2 tail h =
      let c = cut w2 (length l) h in
      let s = same_walk w c.5 (sym c.6) in
      shorter_by e t e2 t2 c.4 c.3 l (subst (λ (x : List Path). IsNext m tree root x c.3) (sym s.0) c.7) tail (c.8 ∙ ap (λ x. x ++ folder_event c.3 ∷ c.4) (sym s.2))

  -- a whole walk has no longer one
  whole_last : {l l2 : List Path} {f f2 : List TreeFile} {e e2 : List Event} → Walked m tree root l f e → Walked m tree root l2 f2 e2 → IsWhole m tree root l → length l < length l2 → ⊥
  whole_last w w2 whole h =
      let c = cut w2 _ h in
      let s = same_walk w c.5 (sym c.6) in
      c.7.fresh (subst (λ (x : List Path). Has x c.3) s.0 (whole c.3 c.7.is))

  -- the events of a turn of the walk
  abbrev Placed : List Event → Type 0
  Placed es = (l : List Path) × (f : List TreeFile) × (e : List Event) × (t : List Event) × Walked m tree root l f e × Tail l t × (es ≡ e ++ t)

  placed : {es : List Event} → Reaches m tree root es → Placed es
  placed (before l f e folder w n) = (l, f, e, folder_event folder ∷ [], w, inr (folder, n, refl), refl)
  placed (within l f e w) = (l, f, e, [], w, inl refl, sym (append-nil e))

  compared : (a b : ℕ) → (a < b) ⊎ (a ≡ b) ⊎ (b < a)
  compared zero zero = inr (inl refl)
  compared zero (suc b) = inl (omega arith)
  compared (suc a) zero = inr (inr (omega arith))
  compared (suc a) (suc b) = elim (compared a b) [ inl l ↦ inl (omega (arith, l)) | inr r ↦ elim r [ inl e ↦ inr (inl (ap suc e)) | inr l ↦ inr (inr (omega (arith, l))) ] ]

  same_tails : (l : List Path) (t t2 : List Event) → Tail l t → Tail l t2 → Begins t t2 ⊎ Begins t2 t
  same_tails l t t2 (inl s) k = inl (t2, ap (λ x. x ++ t2) (sym s))
  same_tails l t t2 (inr h) (inl s) = inr (t, ap (λ x. x ++ t) (sym s))
  same_tails l t t2 (inr h) (inr k) = inl ([], k.2 ∙ (λ i. folder_event (one_next l k.0 h.0 k.1 h.1 i) ∷ []) ∙ sym (ap (λ x. x ++ []) h.2))

  begins_after : (e t t2 : List Event) → Begins t t2 → Begins (e ++ t) (e ++ t2)
  begins_after e t t2 b = (b.0, ap (λ x. e ++ x) b.1 ∙ sym (append_assoc e t b.0))

  comparable : {l l2 : List Path} {f f2 : List TreeFile} {e e2 : List Event} (t t2 : List Event) → Walked m tree root l f e → Walked m tree root l2 f2 e2 → Tail l t → Tail l2 t2 → (length l < length l2) ⊎ (length l ≡ length l2) ⊎ (length l2 < length l) → Begins (e ++ t) (e2 ++ t2) ⊎ Begins (e2 ++ t2) (e ++ t)
  comparable t t2 w w2 k k2 (inl h) = inl (shorter t t2 w w2 k h)
  comparable {l = l} {e = e} {e2 = e2} t t2 w w2 k k2 (inr (inl h)) =
      let s = same_walk w w2 h in
      let both = same_tails l t t2 k (subst (λ (x : List Path). Tail x t2) (sym s.0) k2) in
      subst (λ (x : List Event). Begins (e ++ t) (x ++ t2) ⊎ Begins (x ++ t2) (e ++ t)) s.2 (elim both [ inl b ↦ inl (begins_after e t t2 b) | inr b ↦ inr (begins_after e t2 t b) ])
  comparable t t2 w w2 k k2 (inr (inr h)) = inr (shorter t2 t w2 w k2 h)

  some_some : (r s : Refusal) → ◌≡◌ {A = Option Refusal} (Some r) (Some s) → r ≡ s
  some_some r s e = cc

  none_some : (r : Refusal) → ◌≡◌ {A = Option Refusal} None (Some r) → ⊥
  none_some r e = cc

  begun : (a b : List Event) (r : Refusal) → Begins a b → first_refusal no_counts a ≡ Some r → first_refusal no_counts b ≡ Some r
  begun a b r h e = ap (first_refusal no_counts) h.1 ∙ first_front no_counts a h.0 r e

  refused_once : (a b : List Event) (r s : Refusal) → Begins a b ⊎ Begins b a → first_refusal no_counts a ≡ Some r → first_refusal no_counts b ≡ Some s → r ≡ s
  refused_once a b r s (inl h) e k = some_some r s (sym (begun a b r h e) ∙ k)
  refused_once a b r s (inr h) e k = some_some r s (sym e ∙ begun b a s h k)

  -- one limit is the first that is passed
  pub one_limit : (r s : Refusal) → PassesIn m tree root r.0 r.1 → PassesIn m tree root s.0 s.1 → r ≡ s
  one_limit r s p q =
      let a = placed p.1 in
      let b = placed q.1 in
      refused_once (a.2 ++ a.3) (b.2 ++ b.3) r s (comparable a.3 b.3 a.4 b.4 a.5 b.5 (compared (length a.0) (length b.0))) (ap (first_refusal no_counts) (sym a.6) ∙ p.2) (ap (first_refusal no_counts) (sym b.6) ∙ q.2)

  whole_tail : (l l2 : List Path) (t2 : List Event) → IsWhole m tree root l → l ≡ l2 → Tail l2 t2 → t2 ≡ []
  whole_tail l l2 t2 whole e (inl s) = s
  whole_tail l l2 t2 whole e (inr h) = absurd (h.1.fresh (subst (λ (x : List Path). Has x h.0) e (whole h.0 h.1.is)))

  whole_begins : {l l2 : List Path} {f f2 : List TreeFile} {e e2 : List Event} (t2 : List Event) → Walked m tree root l f e → IsWhole m tree root l → Walked m tree root l2 f2 e2 → Tail l2 t2 → (length l < length l2) ⊎ (length l ≡ length l2) ⊎ (length l2 < length l) → Begins (e2 ++ t2) (e ++ [])
  whole_begins t2 w whole w2 k2 (inl h) = absurd (whole_last w w2 whole h)
  whole_begins {l = l} {l2 = l2} {e = e} t2 w whole w2 k2 (inr (inl h)) = let s = same_walk w w2 h in ([], (λ i. s.2 i ++ sym (whole_tail l l2 t2 whole s.0 k2) i) ∙ sym (append-nil _))
  whole_begins t2 w whole w2 k2 (inr (inr h)) = shorter t2 [] w2 w k2 h

  -- files and a limit exclude each other
  pub files_or_limit : (files : List TreeFile) (r : Refusal) → AreFiles m tree root files → PassesIn m tree root r.0 r.1 → ⊥
  files_or_limit files r a p =
      let b = placed p.1 in
      let begins = whole_begins b.3 a.2 a.3 b.4 b.5 (compared (length a.0) (length b.0)) in
      none_some r (sym a.4 ∙ ap (first_refusal no_counts) (sym (append-nil a.1)) ∙ begun (b.2 ++ b.3) (a.1 ++ []) r begins (ap (first_refusal no_counts) (sym b.6) ∙ p.2))

  one_whole : {l l2 : List Path} {f f2 : List TreeFile} {e e2 : List Event} → Walked m tree root l f e → IsWhole m tree root l → Walked m tree root l2 f2 e2 → IsWhole m tree root l2 → (length l < length l2) ⊎ (length l ≡ length l2) ⊎ (length l2 < length l) → f ≡ f2
  one_whole w whole w2 whole2 (inl h) = absurd (whole_last w w2 whole h)
  one_whole w whole w2 whole2 (inr (inl h)) = (same_walk w w2 h).1
  one_whole w whole w2 whole2 (inr (inr h)) = absurd (whole_last w2 w whole2 h)

  -- a tree has one list of files
  pub one_files : (fs gs : List TreeFile) → AreFiles m tree root fs → AreFiles m tree root gs → fs ≡ gs
  one_files fs gs a b = one_whole a.2 a.3 b.2 b.3 (compared (length a.0) (length b.0))
