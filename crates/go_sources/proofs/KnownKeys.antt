-- The names of each block are a set of borrowed texts, which are the same where their bytes are.
use Rattle.std.proofs.Common.{◌≡◌, ℕ, Bool, true, false, not, List, [], ◌∷◌, ◌++◌, map, refl, sym, ap, ◌∙◌, subst, inl, inr, ◌||◌}
use mathlib.Core.Bool.{true≢false}
use Rattle.std.specs.Borrow.{Bor}
use Rattle.std.specs.BTreeMap.{is_at}
use Rattle.std.specs.BTreeSet.{insert_key}
use Rattle.std.specs.Cmp.Lexicographic.{slice_cmp}
use Rattle.std.specs.FinMap.{slice_cmp-IsAntisymmetric, nat_cmp-IsAntisymmetric}
use Rattle.std.specs.List.{list_any}
use Rattle.std.specs.Ordering.{is_eq, match_ordering, nat_cmp, ordering_then}
use Rattle.std.specs.declared.cmp.Ordering.{Ordering}
use Rattle.std.specs.declared.cmp.Ordering.TheVariants.{Less, Equal, Greater}
use Rattle.std.proofs.lemmas.Cmp.{nat_cmp_total, nat_list_cmp_total, tied_itself}
use Rattle.go_base.specs.Growing.{Adds, Grows}
use Rattle.go_base.specs.Lists.{Has}
use Rattle.go_base.specs.declared.text.Text.{Text}
use Rattle.go_base.proofs.Members.{has_split}
use Rattle.go_sources.specs.declared.known_names.ImportName.{ImportName}
use Rattle.go_sources.specs.declared.known_names.MethodName.{MethodName}
use Rattle.go_sources.specs.contracts.known_names.ImportNameOrd.TheImpl as ImportNameOrder
use Rattle.go_sources.specs.contracts.known_names.MethodNameOrd.TheImpl as MethodNameOrder
use Rattle.go_sources.specs.inner.KnownNames.{all_files, Block, import_key, imported_key, Key, method_key, object_key, one_file, one_package, one_receiver}
use Rattle.go_sources.proofs.Visiting.{has_left, has_right}

-- ---- a set whose order tells what is seen of its items

or_right : (a b : Bool) → b ≡ true → (a || b) ≡ true
or_right true b e = refl
or_right false b e = e

negated : (b : Bool) → not b ≡ false → b ≡ true
negated true h = refl
negated false h = absurd (true≢false h)

module _ {K V : Type 0} (R : K → K → Ordering) (seen : K → V) (tie : (a b : K) → R a b ≡ Equal → seen a ≡ seen b) (same : (a b : K) → seen a ≡ seen b → R a b ≡ Equal) where
  found_by : (a k : K) (ks : List K) (o : Ordering) → R a k ≡ o → (is_eq o || list_any (is_at (R a)) ks) ≡ true → (list_any (is_at (R a)) ks ≡ true → Has (map seen ks) (seen a)) → Has (seen k ∷ map seen ks) (seen a)
  found_by a k ks Less e h rest = inr (rest h)
  found_by a k ks Equal e h rest = inl (sym (tie a k e))
  found_by a k ks Greater e h rest = inr (rest h)

  found_has : (ks : List K) (a : K) → list_any (is_at (R a)) ks ≡ true → Has (map seen ks) (seen a)
  found_has [] a h = absurd (true≢false (sym h))
  found_has (k ∷ ks) a h = found_by a k ks (R a k) refl h (found_has ks a)

  has_found : (ks : List K) (a : K) → Has (map seen ks) (seen a) → list_any (is_at (R a)) ks ≡ true
  has_found [] a h = absurd h
  has_found (k ∷ ks) a (inl e) = ap (λ o. is_eq o || list_any (is_at (R a)) ks) (same a k (sym e))
  has_found (k ∷ ks) a (inr h) = or_right (is_at (R a) k) (list_any (is_at (R a)) ks) (has_found ks a h)

  inserted_by : (y : K) (ys : List K) (k : K) (o : Ordering) → R k y ≡ o → Grows (λ x. seen k ≡ x) (map seen ys) (map seen (insert_key R ys k))
      → Grows (λ x. seen k ≡ x) (map seen (y ∷ ys)) (map seen (match_ordering o (k ∷ y ∷ ys) (y ∷ ys) (y ∷ insert_key R ys k)))
  inserted_by y ys k Less e g = record { sound = λ x h. elim h [ inl s ↦ inr s | inr r ↦ inl r ]; kept = λ x h. inr h; complete = λ x h. inl h }
  inserted_by y ys k Equal e g = record { sound = λ x h. inl h; kept = λ x h. h; complete = λ x h. inl (sym (tie k y e) ∙ h) }
  inserted_by y ys k Greater e g = record {
    sound = λ x h. elim h [ inl s ↦ inl (inl s) | inr r ↦ elim (g.sound x r) [ inl a ↦ inl (inr a) | inr b ↦ inr b ] ];
    kept = λ x h. elim h [ inl s ↦ inl s | inr r ↦ inr (g.kept x r) ];
    complete = λ x h. inr (g.complete x h);
  }

  inserted : (ks : List K) (k : K) → Grows (λ x. seen k ≡ x) (map seen ks) (map seen (insert_key R ks k))
  inserted [] k = record { sound = λ x h. elim h [ inl s ↦ inr s | inr r ↦ absurd r ]; kept = λ x h. absurd h; complete = λ x h. inl h }
  inserted (y ∷ ys) k = inserted_by y ys k (R k y) refl (inserted ys k)

  adds_seen : (old new : List K) (k : K) (is_new : Bool) → new ≡ insert_key R old k → is_new ≡ not (list_any (is_at (R k)) old) → Adds (map seen old) (seen k) (map seen new) is_new
  adds_seen old new k is_new e told = record {
    grows = subst (λ (ks : List K). Grows (λ x. seen k ≡ x) (map seen old) (map seen ks)) (sym e) (inserted old k);
    fresh = λ t h. true≢false (sym t ∙ told ∙ ap not (has_found old k h));
    there = λ f. found_has old k (negated (list_any (is_at (R k)) old) (sym told ∙ f));
  }

-- ---- a set among others

module _ {A : Type 0} where
  adds_left : (old new more : List A) (k : A) (is_new : Bool) → (Has more k → ⊥) → Adds old k new is_new → Adds (old ++ more) k (new ++ more) is_new
  adds_left old new more k is_new none a = record {
    grows = record {
      sound = λ x h. elim (has_split new more x h) [ inl n ↦ elim (a.grows.sound x n) [ inl o ↦ inl (has_left old more x o) | inr p ↦ inr p ] | inr m ↦ inl (has_right old more x m) ];
      kept = λ x h. elim (has_split old more x h) [ inl o ↦ has_left new more x (a.grows.kept x o) | inr m ↦ has_right new more x m ];
      complete = λ x p. has_left new more x (a.grows.complete x p);
    };
    fresh = λ t h. elim (has_split old more k h) [ inl o ↦ a.fresh t o | inr m ↦ none m ];
    there = λ f. has_left old more k (a.there f);
  }

  adds_right : (less old new : List A) (k : A) (is_new : Bool) → (Has less k → ⊥) → Adds old k new is_new → Adds (less ++ old) k (less ++ new) is_new
  adds_right less old new k is_new none a = record {
    grows = record {
      sound = λ x h. elim (has_split less new x h) [ inl m ↦ inl (has_left less old x m) | inr n ↦ elim (a.grows.sound x n) [ inl o ↦ inl (has_right less old x o) | inr p ↦ inr p ] ];
      kept = λ x h. elim (has_split less old x h) [ inl m ↦ has_left less new x m | inr o ↦ has_right less new x (a.grows.kept x o) ];
      complete = λ x p. has_right less new x (a.grows.complete x p);
    };
    fresh = λ t h. elim (has_split less old k h) [ inl m ↦ none m | inr o ↦ a.fresh t o ];
    there = λ f. has_right less old k (a.there f);
  }

-- ---- the orders

abbrev pub text_order : Bor Text → Bor Text → Ordering
text_order a b = slice_cmp nat_cmp a.now b.now

less_equal : Less ≡ Equal → ⊥
less_equal e = true≢false (sym (ap is_eq e))

greater_equal : Greater ≡ Equal → ⊥
greater_equal e = true≢false (sym (ap is_eq e))

both_equal : (a b : Ordering) → ordering_then a b ≡ Equal → (a ≡ Equal) × (b ≡ Equal)
both_equal Less b e = absurd (less_equal e)
both_equal Equal b e = (refl, e)
both_equal Greater b e = absurd (greater_equal e)

texts_tie : (a b : List ℕ) → slice_cmp nat_cmp a b ≡ Equal → a ≡ b
texts_tie = slice_cmp-IsAntisymmetric nat_cmp-IsAntisymmetric

texts_same : (a b : List ℕ) → a ≡ b → slice_cmp nat_cmp a b ≡ Equal
texts_same a b e = ap (slice_cmp nat_cmp a) (sym e) ∙ tied_itself nat_list_cmp_total a

abbrev name_of : Key → List ℕ
name_of k = k.name

abbrev file_of : Block → ℕ
file_of (one_file n) = n
file_of b = 0

abbrev receiver_of : Block → List ℕ
receiver_of (one_receiver r) = r
receiver_of b = []

imported_tie : (a b : Bor Text) → text_order a b ≡ Equal → imported_key a ≡ imported_key b
imported_tie a b e = let t = texts_tie a.now b.now e in (λ i. record { block = all_files; name = t i })

imported_same : (a b : Bor Text) → imported_key a ≡ imported_key b → text_order a b ≡ Equal
imported_same a b e = texts_same a.now b.now (ap name_of e)

object_tie : (a b : Bor Text) → text_order a b ≡ Equal → object_key a ≡ object_key b
object_tie a b e = let t = texts_tie a.now b.now e in (λ i. record { block = one_package; name = t i })

object_same : (a b : Bor Text) → object_key a ≡ object_key b → text_order a b ≡ Equal
object_same a b e = texts_same a.now b.now (ap name_of e)

abbrev import_order : ImportName → ImportName → Ordering
import_order = ImportNameOrder.cmp-value.it

import_tie : (a b : ImportName) → import_order a b ≡ Equal → import_key a ≡ import_key b
import_tie a b e =
    let both = both_equal (nat_cmp a.file b.file) (text_order a.name b.name) e in
    let f : a.file ≡ b.file = nat_cmp-IsAntisymmetric a.file b.file both.0 in
    let t = texts_tie a.name.now b.name.now both.1 in
    (λ i. record { block = one_file (f i); name = t i })

equal_both : (a b : Ordering) → a ≡ Equal → b ≡ Equal → ordering_then a b ≡ Equal
equal_both a b e f = ap (λ (o : Ordering). ordering_then o b) e ∙ f

import_same : (a b : ImportName) → import_key a ≡ import_key b → import_order a b ≡ Equal
import_same a b e = equal_both (nat_cmp a.file b.file) (text_order a.name b.name) (ap (nat_cmp a.file) (sym (ap (λ (k : Key). file_of k.block) e)) ∙ nat_itself a.file) (texts_same a.name.now b.name.now (ap name_of e))
  where
    nat_itself : (n : ℕ) → nat_cmp n n ≡ Equal
    nat_itself n = tied_itself nat_cmp_total n

abbrev method_order : MethodName → MethodName → Ordering
method_order = MethodNameOrder.cmp-value.it

method_tie : (a b : MethodName) → method_order a b ≡ Equal → method_key a ≡ method_key b
method_tie a b e =
    let both = both_equal (text_order a.receiver b.receiver) (text_order a.name b.name) e in
    let r = texts_tie a.receiver.now b.receiver.now both.0 in
    let t = texts_tie a.name.now b.name.now both.1 in
    (λ i. record { block = one_receiver (r i); name = t i })

method_same : (a b : MethodName) → method_key a ≡ method_key b → method_order a b ≡ Equal
method_same a b e = equal_both (text_order a.receiver b.receiver) (text_order a.name b.name) (texts_same a.receiver.now b.receiver.now (ap (λ (k : Key). receiver_of k.block) e)) (texts_same a.name.now b.name.now (ap name_of e))

-- ---- the blocks are apart

abbrev is_file : Block → Bool
is_file (one_file n) = true
is_file b = false

abbrev is_files : Block → Bool
is_files all_files = true
is_files b = false

abbrev is_package : Block → Bool
is_package one_package = true
is_package b = false

abbrev is_receiver : Block → Bool
is_receiver (one_receiver r) = true
is_receiver b = false

none : {A : Type 0} (f : A → Key) (test : Block → Bool) → ((a : A) → test (f a).block ≡ true) → (k : Key) → test k.block ≡ false → (xs : List A) → Has (map f xs) k → ⊥
none f test all k apart [] h = h
none f test all k apart (x ∷ xs) (inl e) = true≢false (sym (all x) ∙ ap (λ (q : Key). test q.block) e ∙ apart)
none f test all k apart (x ∷ xs) (inr h) = none f test all k apart xs h

no_import : (is : List ImportName) (k : Key) → is_file k.block ≡ false → Has (map import_key is) k → ⊥
no_import is k apart = none import_key is_file (λ a. refl) k apart is

no_imported : (fs : List (Bor Text)) (k : Key) → is_files k.block ≡ false → Has (map imported_key fs) k → ⊥
no_imported fs k apart = none imported_key is_files (λ a. refl) k apart fs

no_object : (os : List (Bor Text)) (k : Key) → is_package k.block ≡ false → Has (map object_key os) k → ⊥
no_object os k apart = none object_key is_package (λ a. refl) k apart os

no_method : (ms : List MethodName) (k : Key) → is_receiver k.block ≡ false → Has (map method_key ms) k → ⊥
no_method ms k apart = none method_key is_receiver (λ a. refl) k apart ms

-- ---- all names

abbrev all_keys : List ImportName → List (Bor Text) → List (Bor Text) → List MethodName → List Key
all_keys is fs os ms = map import_key is ++ (map imported_key fs ++ (map object_key os ++ map method_key ms))

module _ (is : List ImportName) (fs os : List (Bor Text)) (ms : List MethodName) where
  pub adds_import : (new : List ImportName) (i : ImportName) (is_new : Bool) → new ≡ insert_key import_order is i → is_new ≡ not (list_any (is_at (import_order i)) is) → Adds (all_keys is fs os ms) (import_key i) (all_keys new fs os ms) is_new
  adds_import new i is_new e told =
      adds_left (map import_key is) (map import_key new) (map imported_key fs ++ (map object_key os ++ map method_key ms)) (import_key i) is_new
      (λ h. elim (has_split (map imported_key fs) (map object_key os ++ map method_key ms) (import_key i) h) [
        | inl f ↦ no_imported fs (import_key i) refl f
        | inr r ↦ elim (has_split (map object_key os) (map method_key ms) (import_key i) r) [ inl o ↦ no_object os (import_key i) refl o | inr m ↦ no_method ms (import_key i) refl m ]
      ])
      (adds_seen import_order import_key import_tie import_same is new i is_new e told)

  pub adds_imported : (new : List (Bor Text)) (name : Bor Text) (is_new : Bool) → new ≡ insert_key text_order fs name → is_new ≡ not (list_any (is_at (text_order name)) fs) → Adds (all_keys is fs os ms) (imported_key name) (all_keys is new os ms) is_new
  adds_imported new name is_new e told =
      adds_right (map import_key is) (map imported_key fs ++ (map object_key os ++ map method_key ms)) (map imported_key new ++ (map object_key os ++ map method_key ms)) (imported_key name) is_new (no_import is (imported_key name) refl)
      (adds_left (map imported_key fs) (map imported_key new) (map object_key os ++ map method_key ms) (imported_key name) is_new
      (λ r. elim (has_split (map object_key os) (map method_key ms) (imported_key name) r) [ inl o ↦ no_object os (imported_key name) refl o | inr m ↦ no_method ms (imported_key name) refl m ])
      (adds_seen text_order imported_key imported_tie imported_same fs new name is_new e told))

  pub adds_object : (new : List (Bor Text)) (name : Bor Text) (is_new : Bool) → new ≡ insert_key text_order os name → is_new ≡ not (list_any (is_at (text_order name)) os) → Adds (all_keys is fs os ms) (object_key name) (all_keys is fs new ms) is_new
  adds_object new name is_new e told =
      adds_right (map import_key is) (map imported_key fs ++ (map object_key os ++ map method_key ms)) (map imported_key fs ++ (map object_key new ++ map method_key ms)) (object_key name) is_new (no_import is (object_key name) refl)
      (adds_right (map imported_key fs) (map object_key os ++ map method_key ms) (map object_key new ++ map method_key ms) (object_key name) is_new (no_imported fs (object_key name) refl)
      (adds_left (map object_key os) (map object_key new) (map method_key ms) (object_key name) is_new (no_method ms (object_key name) refl)
      (adds_seen text_order object_key object_tie object_same os new name is_new e told)))

  pub adds_method : (new : List MethodName) (m : MethodName) (is_new : Bool) → new ≡ insert_key method_order ms m → is_new ≡ not (list_any (is_at (method_order m)) ms) → Adds (all_keys is fs os ms) (method_key m) (all_keys is fs os new) is_new
  adds_method new m is_new e told =
      adds_right (map import_key is) (map imported_key fs ++ (map object_key os ++ map method_key ms)) (map imported_key fs ++ (map object_key os ++ map method_key new)) (method_key m) is_new (no_import is (method_key m) refl)
      (adds_right (map imported_key fs) (map object_key os ++ map method_key ms) (map object_key os ++ map method_key new) (method_key m) is_new (no_imported fs (method_key m) refl)
      (adds_right (map object_key os) (map method_key ms) (map method_key new) (method_key m) is_new (no_object os (method_key m) refl)
      (adds_seen method_order method_key method_tie method_same ms new m is_new e told)))

  pub imported_here : (name : Bor Text) → list_any (is_at (text_order name)) fs ≡ true → Has (all_keys is fs os ms) (imported_key name)
  imported_here name h =
      has_right (map import_key is) (map imported_key fs ++ (map object_key os ++ map method_key ms)) (imported_key name)
      (has_left (map imported_key fs) (map object_key os ++ map method_key ms) (imported_key name) (found_has text_order imported_key imported_tie imported_same fs name h))

  pub here_imported : (name : Bor Text) → Has (all_keys is fs os ms) (imported_key name) → list_any (is_at (text_order name)) fs ≡ true
  here_imported name h = elim (has_split (map import_key is) (map imported_key fs ++ (map object_key os ++ map method_key ms)) (imported_key name) h) [
    | inl i ↦ absurd (no_import is (imported_key name) refl i)
    | inr r ↦ elim (has_split (map imported_key fs) (map object_key os ++ map method_key ms) (imported_key name) r) [
      | inl f ↦ has_found text_order imported_key imported_tie imported_same fs name f
      | inr q ↦ elim (has_split (map object_key os) (map method_key ms) (imported_key name) q) [ inl o ↦ absurd (no_object os (imported_key name) refl o) | inr m ↦ absurd (no_method ms (imported_key name) refl m) ]
    ]
  ]

  pub object_here : (name : Bor Text) → list_any (is_at (text_order name)) os ≡ true → Has (all_keys is fs os ms) (object_key name)
  object_here name h =
      has_right (map import_key is) (map imported_key fs ++ (map object_key os ++ map method_key ms)) (object_key name)
      (has_right (map imported_key fs) (map object_key os ++ map method_key ms) (object_key name)
      (has_left (map object_key os) (map method_key ms) (object_key name) (found_has text_order object_key object_tie object_same os name h)))

  pub here_object : (name : Bor Text) → Has (all_keys is fs os ms) (object_key name) → list_any (is_at (text_order name)) os ≡ true
  here_object name h = elim (has_split (map import_key is) (map imported_key fs ++ (map object_key os ++ map method_key ms)) (object_key name) h) [
    | inl i ↦ absurd (no_import is (object_key name) refl i)
    | inr r ↦ elim (has_split (map imported_key fs) (map object_key os ++ map method_key ms) (object_key name) r) [
      | inl f ↦ absurd (no_imported fs (object_key name) refl f)
      | inr q ↦ elim (has_split (map object_key os) (map method_key ms) (object_key name) q) [ inl o ↦ has_found text_order object_key object_tie object_same os name o | inr m ↦ absurd (no_method ms (object_key name) refl m) ]
    ]
  ]
