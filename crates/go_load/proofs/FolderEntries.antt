-- A folder's entries, and what is told of them.
use Rattle.std.proofs.Common.{◌≡◌, ℕ, Bool, true, false, not, ◌&&◌, ◌||◌, nat_eq, cond, List, [], ◌∷◌, ◌++◌, length, refl, sym, ap, ◌∙◌, subst, inl, inr, Result, Ok, Err, arith, append-nil}
use mathlib.Core.Bool.{true≢false}
use Rattle.std.specs.List.{list_any, list_all, slice_split, onto_first}
use Rattle.std.proofs.lemmas.Bool.Decides.{Decides-eqb}
use Rattle.go_base.specs.Lists.{Has, Ascending}
use Rattle.go_model.specs.files.Trees.{is_element, is_element_byte, is_within, begins_element, are_elements, IsFolderPath}
use Rattle.go_outside.specs.declared.files.Entry.{Entry}
use Rattle.go_outside.specs.declared.files.EntryKind.TheVariants as entry
use Rattle.go_outside.specs.Paths.{Path, not_slash}
use Rattle.go_outside.specs.Stores.{Contents, IsTold, IsListing}
use Rattle.go_load.specs.Names.{is_candidate, is_walked, is_hidden, go_mod, under, folder_path, entry_path}
use Rattle.go_load.specs.Walk.{takes_files, IsOtherModule, AreCandidates, folder_event, files_of}
use Rattle.go_load.specs.inner.Steps.{Enters, ListsModule, AreNamed, TakesAll, with_package, Counted, Lists, Visits, ArePlaced, IsName, IsChildAt, file_entry, folder_entry}
use Rattle.go_base.specs.Growing.{Grows}
use Rattle.go_load.specs.declared.walk.Taken.{Taken}
use Rattle.go_load.specs.declared.error.LoadError.{LoadError}
use Rattle.go_load.specs.declared.error.LoadError.TheVariants as error
use Rattle.go_load.specs.declared.kind.TreeKind.{TreeKind}
use Rattle.go_load.specs.declared.walk.Wanted.TheVariants as wanted
use Rattle.std.proofs.lemmas.List.Splits.{length-slice_split}
use Rattle.std.proofs.lemmas.List.Folds.{list_all-append}
use Rattle.go_load.proofs.ModuleLines.{parts_whole}
use Rattle.go_load.proofs.Members.{grows_as}
use Rattle.go_load.proofs.EntryPaths.{slashless, slashless-cons, told_file, told_folder, listed_file, listed_folder, there_listed}

-- names without a slash
and_left : (a b : Bool) → (a && b) ≡ true → a ≡ true
and_left true b e = refl
and_left false b e = e

and_right : (a b : Bool) → (a && b) ≡ true → b ≡ true
and_right true b e = e
and_right false b e = absurd (true≢false (sym e))

not_true : (a : Bool) → not a ≡ true → a ≡ false
not_true true e = absurd (true≢false (sym e))
not_true false e = refl

other_than_slash : (b : ℕ) → (b ≡ 47 → ⊥) → not_slash b ≡ true
other_than_slash b h = by (nat_eq b 47) refl
  where
    by : (t : Bool) → nat_eq b 47 ≡ t → not t ≡ true
    by true e = absurd (h ((Decides-eqb b 47).0 e))
    by false e = refl

no_slash_by : (b : ℕ) (bs : Path) (t : Bool) → nat_eq b 47 ≡ t → (t || list_any (λ c. nat_eq c 47) bs) ≡ false → (b ≡ 47 → ⊥) × (list_any (λ c. nat_eq c 47) bs ≡ false)
no_slash_by b bs true e h = absurd (true≢false h)
no_slash_by b bs false e h = ((λ s. true≢false (sym ((Decides-eqb b 47).1 s) ∙ e)), h)

slashless_free : (name : Path) → list_any (λ c. nat_eq c 47) name ≡ false → slashless name
slashless_free [] h = refl
slashless_free (b ∷ bs) h = let k = no_slash_by b bs (nat_eq b 47) refl h in slashless-cons b bs (other_than_slash b k.0) (slashless_free bs k.1)

pub slashless_candidate : (name : Path) → is_candidate name ≡ true → slashless name
slashless_candidate name h = slashless_free name (not_true (list_any (λ c. nat_eq c 47) name) (and_right _ (not (list_any (λ c. nat_eq c 47) name)) h))

slash_element : (b : ℕ) → is_element_byte b ≡ true → b ≡ 47 → ⊥
unfolding is_element_byte is_within
slash_element b h e = true≢false (sym (subst (λ (n : ℕ). is_element_byte n ≡ true) e h))

slashless_bytes : (name : Path) → list_all is_element_byte name ≡ true → slashless name
slashless_bytes [] h = refl
slashless_bytes (b ∷ bs) h = slashless-cons b bs (other_than_slash b (slash_element b (and_left (is_element_byte b) (list_all is_element_byte bs) h))) (slashless_bytes bs (and_right (is_element_byte b) (list_all is_element_byte bs) h))

slashless_element : (name : Path) → is_element name ≡ true → slashless name
unfolding is_element
slashless_element name h = slashless_bytes name (and_right (begins_element name) (list_all is_element_byte name) h)

pub walked_element : (name : Path) → is_walked name ≡ true → is_element name ≡ true
walked_element name h = and_left (is_element name) (not (is_hidden name)) (and_left _ _ (and_left _ _ h))

pub slashless_walked : (name : Path) → is_walked name ≡ true → slashless name
slashless_walked name h = slashless_element name (walked_element name h)

-- the path of a folder in a folder
part_whole : (name : Path) → slashless name → slice_split (λ b. nat_eq b 47) name ≡ name ∷ []
part_whole name h = parts_whole 47 name (omega (arith, h))

onto_append : (x : ℕ) (ps qs : List Path) → (ps ≡ [] → ⊥) → onto_first x (ps ++ qs) ≡ onto_first x ps ++ qs
onto_append x [] qs h = absurd (h refl)
onto_append x (p ∷ ps) qs h = refl

some_part : (bs : Path) → slice_split (λ b. nat_eq b 47) bs ≡ [] → ⊥
some_part bs e = let n : length (slice_split (λ b. nat_eq b 47) bs) ≡ 0 = ap length e in omega (arith, n, length-slice_split (λ b. nat_eq b 47) bs)

part_by : (x : ℕ) (xs : Path) (ps qs : List Path) (t : Bool) → ps ≡ slice_split (λ b. nat_eq b 47) xs ++ qs → cond t ([] ∷ ps) (onto_first x ps) ≡ cond t ([] ∷ slice_split (λ b. nat_eq b 47) xs) (onto_first x (slice_split (λ b. nat_eq b 47) xs)) ++ qs
part_by x xs ps qs true e = ap (λ w. [] ∷ w) e
part_by x xs ps qs false e = ap (onto_first x) e ∙ onto_append x (slice_split (λ b. nat_eq b 47) xs) qs (some_part xs)

parts_append : (xs ys : Path) → slice_split (λ b. nat_eq b 47) (xs ++ 47 ∷ ys) ≡ slice_split (λ b. nat_eq b 47) xs ++ slice_split (λ b. nat_eq b 47) ys
parts_append [] ys = refl
parts_append (x ∷ xs) ys = part_by x xs (slice_split (λ b. nat_eq b 47) (xs ++ 47 ∷ ys)) (slice_split (λ b. nat_eq b 47) ys) (nat_eq x 47) (parts_append xs ys)

both_true : (a b : Bool) → a ≡ true → b ≡ true → (a && b) ≡ true
both_true a b e f = ap (λ t. t && b) e ∙ f

elements_one : (name : Path) → is_element name ≡ true → are_elements name ≡ true
elements_one name h = ap (list_all is_element) (part_whole name (slashless_element name h)) ∙ both_true (is_element name) true h refl

elements_more : (folder name : Path) → are_elements folder ≡ true → is_element name ≡ true → are_elements (folder ++ 47 ∷ name) ≡ true
elements_more folder name f h =
    ap (list_all is_element) (parts_append folder name) ∙ list_all-append is_element (slice_split (λ b. nat_eq b 47) folder) (slice_split (λ b. nat_eq b 47) name)
    ∙ both_true (are_elements folder) (are_elements name) f (elements_one name h)

folder_by : (folder name : Path) → is_element name ≡ true → (folder ≡ [] → ⊥) → are_elements folder ≡ true → are_elements (under folder name) ≡ true
folder_by [] name h some f = absurd (some refl)
folder_by (b ∷ bs) name h some f = elements_more (b ∷ bs) name f h

no_elements : are_elements [] ≡ true → ⊥
unfolding is_element begins_element
no_elements e = true≢false (sym e)

pub folder_under : (folder name : Path) → is_element name ≡ true → IsFolderPath folder → IsFolderPath (under folder name)
folder_under folder name h (inl e) = inr (subst (λ (f : Path). are_elements (under f name) ≡ true) (sym e) (elements_one name h))
folder_under folder name h (inr f) = inr (folder_by folder name h (λ e. no_elements (subst (λ (w : Path). are_elements w ≡ true) e f)) f)

pub placed_more : (tree : TreeKind) (folder : Path) (entries : List Entry) (old new : List Path) → Grows (Enters tree folder entries) old new → IsFolderPath folder → ArePlaced old → ArePlaced new
placed_more tree folder entries old new g is placed x h = elim (g.sound x h) [ inl o ↦ placed x o | inr c ↦ subst IsFolderPath c.1.5 (folder_under folder c.1.0.name (walked_element c.1.0.name c.1.3) is) ]

-- the candidates among entries
file_named : (e : Entry) (name : Path) → e.kind ≡ entry.File → e.name ≡ name → e ≡ file_entry name
file_named e name k n = λ i. record { name = n i; kind = k i }

pub are_named : (tree : TreeKind) (folder : Path) (entries : List Entry) (names : List Path) → takes_files tree folder ≡ true → Ascending names → Grows (IsName wanted.Candidates entries) [] names → AreNamed tree folder entries names
are_named tree folder entries names takes up g = record {
  ascending = up;
  sound = λ name h. elim (g.sound name h) [ inl o ↦ absurd o | inr c ↦ (takes, subst (λ (n : Path). is_candidate n ≡ true) c.2.2 c.2.1, subst (Has entries) (file_named c.0 name c.2.0 c.2.2) c.1) ];
  complete = λ name t c h. g.complete name (file_entry name, h, (refl, c, refl));
}

folder_of : (e : Entry) → e.kind ≡ entry.Folder → e ≡ folder_entry e.name
folder_of e k = λ i. record { name = e.name; kind = k i }

module _ (m : Contents) (tree : TreeKind) (root folder : Path) (entries : List Entry) (listing : IsListing (IsTold m) (folder_path root folder) entries) where
  other_by : (f : Path) → f ≡ folder → ListsModule tree folder entries → IsTold m (entry_path root folder go_mod) → IsOtherModule m tree root f
  other_by [] e l told = absurd (l.below (sym e))
  other_by (b ∷ bs) e l told = (l.module_tree, subst (λ (f : Path). IsTold m (entry_path root f go_mod)) (sym e) told)

  pub is_other : ListsModule tree folder entries → IsOtherModule m tree root folder
  is_other l = other_by folder refl l (told_file m (folder_path root folder) entries listing go_mod l.listed)

  lists_by : (f : Path) → f ≡ folder → IsOtherModule m tree root f → ListsModule tree folder entries
  lists_by [] e o = absurd o
  lists_by (b ∷ bs) e o = record {
    module_tree = o.0;
    below = λ z. (let y : ◌≡◌ {A = Path} (b ∷ bs) [] = e ∙ z in cc);
    listed = listed_file m (folder_path root folder) entries listing go_mod refl (subst (λ (f : Path). IsTold m (entry_path root f go_mod)) e o.1);
  }

  pub lists_other : IsOtherModule m tree root folder → ListsModule tree folder entries
  lists_other o = lists_by folder refl o

  -- another module
  pub no_candidates : ListsModule tree folder entries → AreCandidates m tree root folder []
  no_candidates l = record { ascending = tt; sound = λ name h. absurd h; complete = λ name c. c.own (is_other l) }

  pub no_children : (old : List Path) → ListsModule tree folder entries → Grows (IsChildAt m tree root folder) old old
  no_children old l = record { sound = λ x h. inl h; kept = λ x h. h; complete = λ x c. absurd (c.1.own (is_other l)) }

  -- a folder of this tree
  module _ (own : ListsModule tree folder entries → ⊥) where
    pub are_candidates : (names : List Path) → AreNamed tree folder entries names → AreCandidates m tree root folder names
    are_candidates names n = record {
      ascending = n.ascending;
      sound = λ name h. (let s = n.sound name h in record { taken = s.0; own = λ o. own (lists_other o); named = s.1; stored = told_file m (folder_path root folder) entries listing name s.2 });
      complete = λ name c. n.complete name c.taken c.named (listed_file m (folder_path root folder) entries listing name (slashless_candidate name c.named) c.stored);
    }

    pub are_children : (old new : List Path) → Grows (Enters tree folder entries) old new → Grows (IsChildAt m tree root folder) old new
    are_children old new g = grows_as
        (λ x h. (
          h.1.0.name,
          record {
            deep = h.0;
            own = λ o. own (lists_other o);
            walked = h.1.3;
            there = told_folder m (folder_path root folder) entries listing h.1.0.name (subst (Has entries) (folder_of h.1.0 h.1.2) h.1.1);
            alone = λ told. h.1.4 (listed_file m (folder_path root folder) entries listing h.1.0.name (slashless_walked h.1.0.name h.1.3) told);
          },
          h.1.5,
        ))
        (λ x c. (c.1.deep, (folder_entry c.0, listed_folder m (folder_path root folder) entries listing c.0 (slashless_walked c.0 c.1.walked) c.1.there, refl, c.1.walked, (λ h. c.1.alone (told_file m (folder_path root folder) entries listing c.0 h)), c.2)))
        g

-- a turn of the walk
module _ (m : Contents) (tree : TreeKind) (root folder : Path) (pending pending' : List Path) (old new : Taken) where
  -- another module
  pub visits_other : (at : Path) (entries : List Entry) → at ≡ folder_path root folder → Lists m at folder (Ok entries) → ListsModule tree folder entries → Counted (folder_event folder ∷ []) old.counts new.counts (Ok tt) → pending' ≡ pending → new.files ≡ old.files → Visits m tree root folder pending pending' old new (Ok tt)
  visits_other at entries is l other c same files =
      let l' = subst (λ (w : Path). Lists m w folder (Ok entries)) is l in (
        [],
        there_listed m (folder_path root folder) entries l'.0 l'.1,
        no_candidates m tree root folder entries l'.0 other,
        subst (λ (ps : List Path). Grows (IsChildAt m tree root folder) pending ps) (sym same) (no_children m tree root folder entries l'.0 pending other),
        files ∙ sym (append-nil old.files),
        λ rest. c rest,
      )

  -- a folder of this tree
  module _ (entries : List Entry) (listed : Lists m (folder_path root folder) folder (Ok entries)) (own : ListsModule tree folder entries → ⊥) (grows : Grows (Enters tree folder entries) pending pending') (mid : Taken) (count : Counted (folder_event folder ∷ []) old.counts mid.counts (Ok tt)) (same : mid.files ≡ old.files) where
    visits_at : (r : Result (Unit {0}) LoadError) → TakesAll m tree (folder_path root folder) folder entries mid new r → Visits m tree root folder pending pending' old new r
    visits_at (Ok tt) t = (
      t.0,
      there_listed m (folder_path root folder) entries listed.0 listed.1,
      are_candidates m tree root folder entries listed.0 own t.0 t.1,
      are_children m tree root folder entries listed.0 own pending pending' grows,
      t.2.0 ∙ ap (λ w. w ++ files_of m root folder t.0) same,
      λ rest. count (with_package folder (files_of m root folder t.0) ++ rest) ∙ t.2.1 rest,
    )
    visits_at (Err (error.Missing p)) t = (let c = (are_candidates m tree root folder entries listed.0 own t.0 t.1).sound t.2.0 t.2.1 in absurd (c.stored t.2.2))
    visits_at (Err error.NoModule) t = t
    visits_at (Err error.BadModule) t = t
    visits_at (Err (error.Limit l p)) t =
        inr (t.0, there_listed m (folder_path root folder) entries listed.0 listed.1, are_candidates m tree root folder entries listed.0 own t.0 t.1, count (with_package folder (files_of m root folder t.0)) ∙ t.2)
    visits_at (Err error.ReadFault) t = tt
    visits_at (Err error.NoMemory) t = tt

  pub visits_own : (at : Path) (entries : List Entry) (mid : Taken) (r : Result (Unit {0}) LoadError) → at ≡ folder_path root folder → Lists m at folder (Ok entries) → (ListsModule tree folder entries → ⊥) → Grows (Enters tree folder entries) pending pending'
      → Counted (folder_event folder ∷ []) old.counts mid.counts (Ok tt) → mid.files ≡ old.files → TakesAll m tree at folder entries mid new r → Visits m tree root folder pending pending' old new r
  visits_own at entries mid r is l own g c same t =
      visits_at entries (subst (λ (w : Path). Lists m w folder (Ok entries)) is l) own g mid c same r (subst (λ (w : Path). TakesAll m tree w folder entries mid new r) is t)
