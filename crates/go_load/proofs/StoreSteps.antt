-- Steps over a store that may tell its contents.
use Rattle.std.proofs.Common.{true, ap, ◌∙◌, ◌≡◌, ℕ, ◌≤◌, Option, Some, None, List, [], ◌∷◌, length, refl, sym, inl, inr, Result, Ok, Err, subst, OnOk, arith}
use Rattle.std.specs.Prelude.{All}
use Rattle.std.specs.Ordering.{nat_cmp}
use Rattle.std.specs.declared.cmp.Ordering.TheVariants.{Less}
use Rattle.std.specs.Cmp.Lexicographic.{slice_cmp}
use Rattle.go_base.specs.Lists.{Has, Each, Ascending}
use Rattle.go_model.specs.files.Trees.{most, IsTreeFile, IsFolderPath}
use Rattle.go_model.specs.declared.files.tree.LimitName.TheVariants as limit
use Rattle.go_outside.specs.Faults.{Told}
use Rattle.go_outside.specs.Paths.{Path, entry_of}
use Rattle.go_outside.specs.Stores.{Contents, IsTold, AnswersList}
use Rattle.go_outside.specs.declared.files.FilesError.{FilesError}
use Rattle.go_outside.specs.declared.files.FilesError.TheVariants as files_error
use Rattle.go_outside.specs.declared.files.Entry.{Entry}
use Rattle.go_load.specs.declared.counts.Counts.{Counts}
use Rattle.go_load.specs.declared.error.LoadError.{LoadError}
use Rattle.go_load.specs.declared.error.LoadError.TheVariants as error
use Rattle.go_load.specs.declared.kind.TreeKind.{TreeKind}
use Rattle.go_load.specs.declared.walk.Taken.{Taken}
use Rattle.go_load.specs.Names.{folder_path}
use Rattle.go_load.specs.Walk.{counts_with, file_events, folder_event, no_counts, takes_files}
use Rattle.go_load.specs.Loads.{Walks}
use Rattle.go_load.specs.inner.Steps.{Lists, IsRefusal, Counted, Takes, TakesAll, package_of, Enters, ListsModule, Visits, IsName, IsKept, ArePlaced}
use Rattle.go_base.specs.Growing.{Grows}
use Rattle.go_load.specs.declared.walk.Wanted.TheVariants as wanted
use Rattle.go_load.proofs.EntryPaths.{not_there}
use Rattle.go_load.proofs.CountedEvents.{kept_counts, Taking, taking_refused, package_refused, package_then, takes_all}
use Rattle.go_load.proofs.FolderEntries.{are_named, visits_other, visits_own}
use Rattle.go_load.proofs.FolderOrder.{above_of}
use Rattle.go_load.proofs.WalkState.{State, state_first, state_whole, state_next, state_refused}

pub told_same : {o p : Option Contents} (P : Contents → Type 0) → o ≡ p → Told o P → Told p P
told_same P e t = subst (λ (q : Option Contents). Told q P) e t

pub told_all : (o : Option Contents) (P : Contents → Type 0) → ((m : Contents) → P m) → Told o P
told_all None P f = tt
told_all (Some m) P f = f m

pub told_then : (o : Option Contents) (P Q : Contents → Type 0) → ((m : Contents) → P m → Q m) → Told o P → Told o Q
told_then None P Q f t = tt
told_then (Some m) P Q f t = f m t

pub told_both : (o : Option Contents) (P Q R : Contents → Type 0) → ((m : Contents) → P m → Q m → R m) → Told o P → Told o Q → Told o R
told_both None P Q R f t u = tt
told_both (Some m) P Q R f t u = f m t u

missing_by : (m : Contents) (at folder : Path) (e : LoadError) → ((p : Path) → IsTold m p → entry_of at p ≡ None) → IsRefusal (error.Missing folder) e → Lists m at folder (Err e)
missing_by m at folder e none (inl is) = subst (λ (w : LoadError). Lists m at folder (Err w)) (sym is) (not_there m at none, λ i. folder)
missing_by m at folder e none (inr is) = subst (λ (w : LoadError). Lists m at folder (Err w)) (sym is) tt

pub missing_told : (o : Option Contents) (at folder : Path) (x : FilesError) (e : LoadError) → x ≡ files_error.Missing → Told o (λ m. AnswersList m at (Err x)) → IsRefusal (error.Missing folder) e → Told o (λ m. Lists m at folder (Err e))
missing_told o at folder x e same t is =
    told_then o (λ m. AnswersList m at (Err x)) (λ m. Lists m at folder (Err e)) (λ m none. missing_by m at folder e (subst (λ (w : FilesError). AnswersList m at (Err w)) same none) is) t

pub listed_as : (o : Option Contents) (at folder : Path) (a b : List Entry) → a ≡ b → Told o (λ m. Lists m at folder (Ok b)) → Told o (λ m. Lists m at folder (Ok a))
listed_as o at folder a b e t = subst (λ (w : List Entry). Told o (λ m. Lists m at folder (Ok w))) (sym e) t

-- the files of a folder
pub taking_refused_told : (o : Option Contents) (at folder : Path) (names before left : List Path) (name : Path) (old now new : Taken) (e : LoadError) → before ≡ name ∷ left
    → Told o (λ m. Taking m at folder names before old now) → Told o (λ m. Takes m at folder file_events (name ∷ []) now new (Err e)) → Told o (λ m. Takes m at folder file_events names old new (Err e))
taking_refused_told o at folder names before left name old now new e same t one =
    told_both o (λ m. Taking m at folder names before old now) (λ m. Takes m at folder file_events (name ∷ []) now new (Err e)) (λ m. Takes m at folder file_events names old new (Err e))
    (λ m t' one'. taking_refused m at folder names old name left now new e (subst (λ (ns : List Path). Taking m at folder names ns old now) same t') one') t one

pub uncounted_told : (o : Option Contents) (tree : TreeKind) (at folder : Path) (entries : List Entry) (names : List Path) (old new : Taken) (mid : Counts) (e : LoadError) → takes_files tree folder ≡ true → Ascending names → Grows (IsName wanted.Candidates entries) [] names
    → Counted (package_of folder names) old.counts mid (Err e) → Told o (λ m. TakesAll m tree at folder entries old new (Err e))
uncounted_told o tree at folder entries names old new mid e takes up g c =
    told_all o (λ m. TakesAll m tree at folder entries old new (Err e)) (λ m. takes_all m tree at folder entries names old new (Err e) (are_named tree folder entries names takes up g) (package_refused m at folder names old new mid e c))

pub takes_told : (o : Option Contents) (tree : TreeKind) (at folder : Path) (entries : List Entry) (names : List Path) (old mid new : Taken) (r : Result (Unit {0}) LoadError) → takes_files tree folder ≡ true → Ascending names → Grows (IsName wanted.Candidates entries) [] names
    → mid.files ≡ old.files → Counted (package_of folder names) old.counts mid.counts (Ok tt) → Told o (λ m. Takes m at folder file_events names mid new r) → Told o (λ m. TakesAll m tree at folder entries old new r)
takes_told o tree at folder entries names old mid new r takes up g same c t =
    told_then o (λ m. Takes m at folder file_events names mid new r) (λ m. TakesAll m tree at folder entries old new r)
    (λ m t'. takes_all m tree at folder entries names old new r (are_named tree folder entries names takes up g) (package_then m at folder names old mid new r same c t')) t

-- a turn of the walk
module _ (o : Option Contents) (tree : TreeKind) (root folder : Path) (pending pending' : List Path) (old new : Taken) where
  pub other_visit : (at : Path) (entries : List Entry) → at ≡ folder_path root folder → ListsModule tree folder entries → Counted (folder_event folder ∷ []) old.counts new.counts (Ok tt) → pending' ≡ pending → new.files ≡ old.files
      → Told o (λ m. Lists m at folder (Ok entries)) → Told o (λ m. Visits m tree root folder pending pending' old new (Ok tt))
  other_visit at entries is other c same files t = told_then o (λ m. Lists m at folder (Ok entries)) (λ m. Visits m tree root folder pending pending' old new (Ok tt)) (λ m l. visits_other m tree root folder pending pending' old new at entries is l other c same files) t

  pub own_visit : (at : Path) (entries : List Entry) (mid : Taken) (r : Result (Unit {0}) LoadError) → at ≡ folder_path root folder → (ListsModule tree folder entries → ⊥) → Grows (Enters tree folder entries) pending pending' → Counted (folder_event folder ∷ []) old.counts mid.counts (Ok tt) → mid.files ≡ old.files
      → Told o (λ m. Lists m at folder (Ok entries)) → Told o (λ m. TakesAll m tree at folder entries mid new r) → Told o (λ m. Visits m tree root folder pending pending' old new r)
  own_visit at entries mid r is own g c same l t =
      told_both o (λ m. Lists m at folder (Ok entries)) (λ m. TakesAll m tree at folder entries mid new r) (λ m. Visits m tree root folder pending pending' old new r)
      (λ m l' t'. visits_own m tree root folder pending pending' old new at entries mid r is l' own g c same t') l t

pub on_ok : {A E : Type 0} (r : Result A E) (P Q : Type 0) → (P → Q) → OnOk r P → OnOk r Q
on_ok (Ok a) P Q f p = f p
on_ok (Err e) P Q f p = tt

-- the walk
pub first_state : (o : Option Contents) (tree : TreeKind) (root : Path) (pending : List Path) (taken : Taken) (empty : Path) → empty ≡ [] → Grows (λ x. empty ≡ x) [] pending → taken.files ≡ [] → taken.counts ≡ no_counts → Told o (λ m. State m tree root pending taken)
first_state o tree root pending taken empty e g none zero = told_all o (λ m. State m tree root pending taken) (λ m. state_first m tree root pending taken empty e g none zero)

whole_by : (m : Contents) (tree : TreeKind) (root : Path) (pending : List Path) (taken : Taken) → length pending ≡ 0 → State m tree root pending taken → Walks m tree root (Ok taken.files)
whole_by m tree root [] taken e s = state_whole m tree root taken s
whole_by m tree root (p ∷ ps) taken e s = absurd (omega (arith, e))

pub whole_state : (o : Option Contents) (tree : TreeKind) (root : Path) (pending : List Path) (taken : Taken) → length pending ≡ 0 → Told o (λ m. State m tree root pending taken) → Told o (λ m. Walks m tree root (Ok taken.files))
whole_state o tree root pending taken e t = told_then o (λ m. State m tree root pending taken) (λ m. Walks m tree root (Ok taken.files)) (λ m s. whole_by m tree root pending taken e s) t

module _ (o : Option Contents) (tree : TreeKind) (root f : Path) (pending rest new : List Path) (taken taken' : Taken) (same : pending ≡ f ∷ rest) (above : All (λ x. slice_cmp nat_cmp f x ≡ Less) rest) (g : Path) (is : g ≡ f) where
  pub refused_state : (e : LoadError) → Told o (λ m. State m tree root pending taken) → Told o (λ m. Visits m tree root g rest new taken taken' (Err e)) → Told o (λ m. Walks m tree root (Err e))
  refused_state e s v = told_both o (λ m. State m tree root pending taken) (λ m. Visits m tree root g rest new taken taken' (Err e)) (λ m. Walks m tree root (Err e))
      (λ m s' v'. state_refused m tree root (subst (λ (ps : List Path). State m tree root ps taken) same s') (above_of f rest above) new taken' e (subst (λ (w : Path). Visits m tree root w rest new taken taken' (Err e)) is v')) s v

  pub next_state : Told o (λ m. State m tree root pending taken) → Told o (λ m. Visits m tree root g rest new taken taken' (Ok tt)) → Told o (λ m. State m tree root new taken')
  next_state s v = told_both o (λ m. State m tree root pending taken) (λ m. Visits m tree root g rest new taken taken' (Ok tt)) (λ m. State m tree root new taken')
      (λ m s' v'. state_next m tree root (subst (λ (ps : List Path). State m tree root ps taken) same s') (above_of f rest above) new taken' (subst (λ (w : Path). Visits m tree root w rest new taken taken' (Ok tt)) is v')) s v

-- what holds over every store
pub placed_first : (pending : List Path) (empty : Path) → empty ≡ [] → Grows (λ x. empty ≡ x) [] pending → ArePlaced pending
placed_first pending empty e g x h = elim (g.sound x h) [ inl a ↦ absurd a | inr s ↦ inl (sym s ∙ e) ]

pub placed_of : (pending rest : List Path) (f : Path) → pending ≡ f ∷ rest → ArePlaced pending → IsFolderPath f
placed_of pending rest f same placed = placed f (subst (λ (ps : List Path). Has ps f) (sym same) (inl refl))

pub placed_rest : (pending rest : List Path) (f : Path) → pending ≡ f ∷ rest → ArePlaced pending → ArePlaced rest
placed_rest pending rest f same placed x h = placed x (subst (λ (ps : List Path). Has ps x) (sym same) (inr h))

pub kept_first : (taken : Taken) → taken.files ≡ [] → taken.counts ≡ no_counts → IsKept taken
kept_first taken none zero = record {
  counted = ap length none ∙ ap (λ (c : Counts). c.files) (sym zero);
  few = subst (λ (n : ℕ). n ≤ most limit.Files) (ap (λ (c : Counts). c.files) (sym zero)) (omega arith);
  held = subst (Each IsTreeFile) (sym none) tt;
}

pub kept_mid : (old : Taken) (counts : Counts) → counts ≡ counts_with old.counts limit.Folders 1 → IsKept old → IsKept (record { files = old.files; counts = counts })
kept_mid old counts e k = kept_counts old (record { files = old.files; counts = counts }) refl (ap (λ (c : Counts). c.files) e) k
