-- A worklist over the keys of a set that keeps their order.
use Rattle.std.proofs.Common.{◌≡◌, ℕ, zero, suc, ◌+◌, ◌<◌, ◌≤◌, Bool, true, false, cond, List, [], ◌∷◌, ◌++◌, length, Option, Some, None, nat_eq, refl, sym, ap, ◌∙◌, subst, ◌⊎◌, inl, inr, arith, append_assoc, take, get_or, length-append, append-nil}
use Rattle.std.proofs.lemmas.List.{take_more}
use Rattle.std.proofs.lemmas.Option.{slice_get_cases}
use Rattle.std.specs.Prelude.{slice_get}
use Rattle.std.specs.List.{list_any}
use Rattle.indexmap.specs.IndexSet.{insert_key, insert_all}
use Rattle.go_base.specs.Lists.{Has, Each}
use Rattle.go_base.proofs.Lists.{take_past}
use Rattle.go_base.proofs.Members.{each_has}
use Rattle.go_imports.specs.inner.Levels.{Reached, seed, edge}
use Rattle.go_imports.proofs.Members.{has_left, has_last, has_at, get_or_same, key_has}

each_last : (P : ℕ → Type 0) (xs : List ℕ) (n : ℕ) → Each P xs → P n → Each P (xs ++ n ∷ [])
each_last P [] n h p = (p, tt)
each_last P (x ∷ xs) n h p = (h.0, each_last P xs n h.1 p)

each_map : (P Q : ℕ → Type 0) → ((n : ℕ) → P n → Q n) → (xs : List ℕ) → Each P xs → Each Q xs
each_map P Q f [] h = tt
each_map P Q f (x ∷ xs) h = (f x h.0, each_map P Q f xs h.1)

each_itself : (xs : List ℕ) → Each (Has xs) xs
each_itself [] = tt
each_itself (x ∷ xs) = (inl refl, each_map (Has xs) (Has (x ∷ xs)) (λ n h. inr h) xs (each_itself xs))

-- what adding items leaves
pub record Added (old items new : List ℕ) : Type 0 where
  pub kept : (n : ℕ) → Has old n → Has new n
  pub all : Each (Has new) items
  pub more : List ℕ
  pub front : new ≡ old ++ more

insert_by : (ks : List ℕ) (x : ℕ) (b : Bool) → list_any (nat_eq x) ks ≡ b → Added ks (x ∷ []) (cond b ks (ks ++ x ∷ []))
insert_by ks x true e = record { kept = λ n h. h; all = (key_has ks x e, tt); more = []; front = sym (append-nil ks) }
insert_by ks x false e = record { kept = λ n h. has_left ks (x ∷ []) n h; all = (has_last ks x, tt); more = x ∷ []; front = refl }

inserted : (ks : List ℕ) (x : ℕ) → Added ks (x ∷ []) (insert_key nat_eq ks x)
inserted ks x = insert_by ks x (list_any (nat_eq x) ks) refl

inserted_all : (ks xs : List ℕ) → Added ks xs (insert_all nat_eq ks xs)
inserted_all ks [] = record { kept = λ n h. h; all = tt; more = []; front = sym (append-nil ks) }
inserted_all ks (x ∷ xs) =
    let one = inserted ks x in
    let rest = inserted_all (insert_key nat_eq ks x) xs in
    record {
      kept = λ n h. rest.kept n (one.kept n h);
      all = (rest.kept x one.all.0, rest.all);
      more = one.more ++ rest.more;
      front = rest.front ∙ ap (λ w. w ++ rest.more) one.front ∙ append_assoc ks one.more rest.more;
    }

only_by : (P : ℕ → Type 0) (ks : List ℕ) (x : ℕ) (b : Bool) → Each P ks → P x → Each P (cond b ks (ks ++ x ∷ []))
only_by P ks x true h p = h
only_by P ks x false h p = each_last P ks x h p

only_all : (P : ℕ → Type 0) (ks xs : List ℕ) → Each P ks → Each P xs → Each P (insert_all nat_eq ks xs)
only_all P ks [] h k = h
only_all P ks (x ∷ xs) h k = only_all P (insert_key nat_eq ks x) xs (only_by P ks x (list_any (nat_eq x) ks) h k.0) k.1

-- the keys are reached and hold the seeds, and those before a place have their successors among them
pub record Worked (next : ℕ → List ℕ) (seeds keys : List ℕ) (at : ℕ) : Type 0 where
  pub sound : Each (Reached next seeds) keys
  pub seeded : Each (Has keys) seeds
  pub closed : Each (λ a. Each (Has keys) (next a)) (take at keys)
  pub within : at ≤ length keys

pub worked_seeds : (next : ℕ → List ℕ) (seeds keys : List ℕ) → keys ≡ insert_all nat_eq [] seeds → Worked next seeds keys 0
worked_seeds next seeds keys e = subst (λ (ks : List ℕ). Worked next seeds ks 0) (sym e) (record {
  sound = only_all (Reached next seeds) [] seeds tt (each_map (Has seeds) (Reached next seeds) (λ n h. seed n h) seeds (each_itself seeds));
  seeded = (inserted_all [] seeds).all;
  closed = tt;
  within = omega arith;
})

some_same : (a x : ℕ) → ◌≡◌ {A = Option ℕ} (Some a) (Some x) → a ≡ x
some_same a x e = cc

index_by : (xs : List ℕ) (n a : ℕ) → slice_get xs n ≡ Some a → ((x : ℕ) × (n < length xs) × (slice_get xs n ≡ Some x) × (get_or xs n x ≡ x)) ⊎ ((length xs ≤ n) × (slice_get xs n ≡ None)) → (n < length xs) × (get_or xs n 0 ≡ a)
index_by xs n a h (inl p) = (p.1, get_or_same xs n 0 p.0 p.1 ∙ p.3 ∙ sym (some_same a p.0 (sym h ∙ p.2)))
index_by xs n a h (inr p) = let e : ◌≡◌ {A = Option ℕ} (Some a) None = sym h ∙ p.1 in absurd (cc)

index_is : (xs : List ℕ) (n a : ℕ) → slice_get xs n ≡ Some a → (n < length xs) × (get_or xs n 0 ≡ a)
index_is xs n a h = index_by xs n a h (slice_get_cases xs n).1

none_by : (xs : List ℕ) (n : ℕ) → slice_get xs n ≡ None → ((x : ℕ) × (n < length xs) × (slice_get xs n ≡ Some x) × (get_or xs n x ≡ x)) ⊎ ((length xs ≤ n) × (slice_get xs n ≡ None)) → length xs ≤ n
none_by xs n h (inl p) = let e : ◌≡◌ {A = Option ℕ} None (Some p.0) = sym h ∙ p.2 in absurd (cc)
none_by xs n h (inr p) = p.0

pub index_none : (xs : List ℕ) (n : ℕ) → slice_get xs n ≡ None → length xs ≤ n
index_none xs n h = none_by xs n h (slice_get_cases xs n).1

take_front : (n : ℕ) (xs ys : List ℕ) → n ≤ length xs → take n (xs ++ ys) ≡ take n xs
take_front zero xs ys h = refl
take_front (suc n) [] ys h = absurd (omega arith)
take_front (suc n) (x ∷ xs) ys h = ap (λ zs. x ∷ zs) (take_front n xs ys (omega arith))

pub take_next : (n : ℕ) (xs : List ℕ) (a : ℕ) → slice_get xs n ≡ Some a → take (n + 1) xs ≡ take n xs ++ a ∷ []
take_next n xs a h = let k = index_is xs n a h in take_more xs n 0 k.0 ∙ ap (λ y. take n xs ++ y ∷ []) k.1

worked_more : (next : ℕ → List ℕ) (seeds keys : List ℕ) (at a : ℕ) → Worked next seeds keys at → slice_get keys at ≡ Some a → at < length keys → Worked next seeds (insert_all nat_eq keys (next a)) (at + 1)
worked_more next seeds keys at a w got below =
    let add = inserted_all keys (next a) in
    let new = insert_all nat_eq keys (next a) in
    let there : Has keys a = subst (Has keys) (index_is keys at a got).1 (has_at keys at 0 below) in
    let reached : Reached next seeds a = each_has (Reached next seeds) keys a w.sound there in
    let grow : (b : ℕ) → Each (Has keys) (next b) → Each (Has new) (next b) = λ b h. each_map (Has keys) (Has new) add.kept (next b) h in
    let fronts : take (at + 1) new ≡ take at keys ++ a ∷ [] = ap (take (at + 1)) add.front ∙ take_front (at + 1) keys add.more (omega arith) ∙ take_next at keys a got in
    record {
      sound = only_all (Reached next seeds) keys (next a) w.sound (each_map (Has (next a)) (Reached next seeds) (λ n h. edge a n reached h) (next a) (each_itself (next a)));
      seeded = each_map (Has keys) (Has new) add.kept seeds w.seeded;
      closed = subst (Each (λ b. Each (Has new) (next b))) (sym fronts) (each_last (λ b. Each (Has new) (next b)) (take at keys) a (each_map (λ b. Each (Has keys) (next b)) (λ b. Each (Has new) (next b)) grow (take at keys) w.closed) add.all);
      within = omega (arith, ap length add.front, length-append keys add.more);
    }

pub worked_next : (next : ℕ → List ℕ) (seeds keys new : List ℕ) (at a : ℕ) → Worked next seeds keys at → slice_get keys at ≡ Some a → new ≡ insert_all nat_eq keys (next a) → Worked next seeds new (at + 1)
worked_next next seeds keys new at a w got e = subst (λ ks. Worked next seeds ks (at + 1)) (sym e) (worked_more next seeds keys at a w got (index_is keys at a got).0)

pub all_sound : (next : ℕ → List ℕ) (seeds keys : List ℕ) (at : ℕ) → Worked next seeds keys at → (n : ℕ) → Has keys n → Reached next seeds n
all_sound next seeds keys at w n h = each_has (Reached next seeds) keys n w.sound h

pub all_complete : (next : ℕ → List ℕ) (seeds keys : List ℕ) (at : ℕ) → Worked next seeds keys at → length keys ≤ at → (n : ℕ) → Reached next seeds n → Has keys n
all_complete next seeds keys at w done n (seed m h) = each_has (Has keys) seeds n w.seeded h
all_complete next seeds keys at w done n (edge m k r h) =
    let closed : Each (λ a. Each (Has keys) (next a)) keys = subst (Each (λ a. Each (Has keys) (next a))) (take_past at keys done) w.closed in
    each_has (Has keys) (next m) n (each_has (λ a. Each (Has keys) (next a)) keys m closed (all_complete next seeds keys at w done m r)) h
