-- Counting events, and the files that are taken.
use Rattle.std.proofs.Common.{◌≡◌, ℕ, ◌≤◌, Bool, true, false, nat_le, if◌then◌else◌, Option, Some, None, List, [], ◌∷◌, ◌++◌, length, refl, sym, ap, ◌∙◌, subst, inl, inr, Result, Ok, Err, append_assoc, append-nil}
use Rattle.go_base.specs.Lists.{Has, Each}
use Rattle.go_model.specs.files.Trees.{most, IsTreeFile}
use Rattle.go_model.specs.declared.files.tree.TreeFile.{TreeFile}
use Rattle.go_model.specs.declared.files.tree.LimitName.TheVariants as limit
use Rattle.go_outside.specs.Paths.{Path}
use Rattle.go_outside.specs.Stores.{Contents}
use Rattle.go_load.specs.Names.{under}
use Rattle.go_load.specs.Walk.{Event, file_events, package_events, count_with, counts_with, Refusal, first_refusal, bytes_of}
use Rattle.go_load.specs.inner.Steps.{Counted, Takes, TakesAll, AreNamed, files_at, package_of, with_package, IsKept}
use Rattle.go_load.specs.declared.counts.Counts.{Counts}
use Rattle.go_load.specs.declared.walk.Taken.{Taken}
use Rattle.go_load.specs.declared.error.LoadError.{LoadError}
use Rattle.go_load.specs.declared.error.LoadError.TheVariants as error
use Rattle.go_load.specs.declared.kind.TreeKind.{TreeKind}

none_some : (r : Refusal) → ◌≡◌ {A = Option Refusal} None (Some r) → ⊥
none_some r e = cc

-- what refuses a prefix refuses the whole
abbrev turn : Bool → Option Refusal → Refusal → Option Refusal
turn b rest r = if b then rest else Some r

front_by : (b : Bool) (short long : Option Refusal) (r s : Refusal) → (short ≡ Some s → long ≡ Some s) → turn b short r ≡ Some s → turn b long r ≡ Some s
front_by true short long r s rest e = rest e
front_by false short long r s rest e = e

pub first_front : (c : Counts) (es rest : List Event) (r : Refusal) → first_refusal c es ≡ Some r → first_refusal c (es ++ rest) ≡ Some r
first_front c [] rest r e = absurd (none_some r e)
first_front c (x ∷ es) rest r e = front_by (nat_le (count_with c x.limit x.amount) (most x.limit)) (first_refusal (counts_with c x.limit x.amount) es) (first_refusal (counts_with c x.limit x.amount) (es ++ rest)) (x.limit, x.path) r
    (first_front (counts_with c x.limit x.amount) es rest r) e

module _ (m : Contents) (at folder name : Path) where
  abbrev bytes : List ℕ
  bytes = bytes_of m (at ++ 47 ∷ name)

  abbrev path : Path
  path = under folder name

-- more files
pub record Taking (m : Contents) (at folder : Path) (names left : List Path) (old now : Taken) : Type 0 where
  pub files : old.files ++ files_at m at folder names ≡ now.files ++ files_at m at folder left
  pub counts : (rest : List Event) → first_refusal old.counts (file_events (files_at m at folder names) ++ rest) ≡ first_refusal now.counts (file_events (files_at m at folder left) ++ rest)
  pub members : (name : Path) → Has left name → Has names name

module _ (m : Contents) (at folder : Path) (names : List Path) (old : Taken) where
  pub taking_refused : (name : Path) (left : List Path) (now new : Taken) (e : LoadError) → Taking m at folder names (name ∷ left) old now → Takes m at folder file_events (name ∷ []) now new (Err e) → Takes m at folder file_events names old new (Err e)
  taking_refused name left now new (error.Missing p) t one = (one.0, t.members one.0 (elim one.1 [ inl e ↦ inl e | inr h ↦ absurd h ]), one.2)
  taking_refused name left now new error.NoModule t one = one
  taking_refused name left now new error.BadModule t one = one
  taking_refused name left now new (error.Limit l p) t one =
      ap (first_refusal old.counts) (sym (append-nil (file_events (files_at m at folder names)))) ∙ t.counts [] ∙ ap (first_refusal now.counts) (append-nil (file_events (files_at m at folder (name ∷ left))))
      ∙ first_front now.counts (file_events (files_at m at folder (name ∷ []))) (file_events (files_at m at folder left)) (l, p) one
  taking_refused name left now new error.ReadFault t one = tt
  taking_refused name left now new error.NoMemory t one = tt

-- the package before its files
package_same : (m : Contents) (at folder : Path) (names : List Path) → package_events folder (files_at m at folder names) ≡ package_of folder names
package_same m at folder [] = refl
package_same m at folder (n ∷ ns) = refl

module _ (m : Contents) (at folder : Path) (names : List Path) where
  abbrev files : List TreeFile
  files = files_at m at folder names

  pub package_refused : (old new : Taken) (mid : Counts) (e : LoadError) → Counted (package_of folder names) old.counts mid (Err e) → Takes m at folder (with_package folder) names old new (Err e)
  package_refused old new mid (error.Missing p) c = absurd c
  package_refused old new mid error.NoModule c = c
  package_refused old new mid error.BadModule c = c
  package_refused old new mid (error.Limit l p) c = ap (λ es. first_refusal old.counts (es ++ file_events files)) (package_same m at folder names) ∙ first_front old.counts (package_of folder names) (file_events files) (l, p) c
  package_refused old new mid error.ReadFault c = tt
  package_refused old new mid error.NoMemory c = tt

  package_goes : (old mid : Counts) → Counted (package_of folder names) old mid (Ok tt) → (rest : List Event) → first_refusal old (package_events folder files ++ rest) ≡ first_refusal mid rest
  package_goes old mid c rest = ap (λ es. first_refusal old (es ++ rest)) (package_same m at folder names) ∙ c rest

  pub package_then : (old mid new : Taken) (r : Result (Unit {0}) LoadError) → mid.files ≡ old.files → Counted (package_of folder names) old.counts mid.counts (Ok tt) → Takes m at folder file_events names mid new r → Takes m at folder (with_package folder) names old new r
  package_then old mid new (Ok tt) same c t = (t.0 ∙ ap (λ w. w ++ files) same, λ rest. ap (first_refusal old.counts) (append_assoc (package_events folder files) (file_events files) rest) ∙ package_goes old.counts mid.counts c (file_events files ++ rest) ∙ t.1 rest)
  package_then old mid new (Err (error.Missing p)) same c t = t
  package_then old mid new (Err error.NoModule) same c t = t
  package_then old mid new (Err error.BadModule) same c t = t
  package_then old mid new (Err (error.Limit l p)) same c t = package_goes old.counts mid.counts c (file_events files) ∙ t
  package_then old mid new (Err error.ReadFault) same c t = tt
  package_then old mid new (Err error.NoMemory) same c t = tt

pub takes_all : (m : Contents) (tree : TreeKind) (at folder : Path) (entries : _) (names : List Path) (old new : Taken) (r : Result (Unit {0}) LoadError) → AreNamed tree folder entries names → Takes m at folder (with_package folder) names old new r → TakesAll m tree at folder entries old new r
takes_all m tree at folder entries names old new (Ok tt) n t = (names, n, t)
takes_all m tree at folder entries names old new (Err (error.Missing p)) n t = (names, n, t)
takes_all m tree at folder entries names old new (Err error.NoModule) n t = t
takes_all m tree at folder entries names old new (Err error.BadModule) n t = t
takes_all m tree at folder entries names old new (Err (error.Limit l p)) n t = (names, n, t)
takes_all m tree at folder entries names old new (Err error.ReadFault) n t = tt
takes_all m tree at folder entries names old new (Err error.NoMemory) n t = tt

pub kept_counts : (old new : Taken) → new.files ≡ old.files → new.counts.files ≡ old.counts.files → IsKept old → IsKept new
kept_counts old new files count k = record {
  counted = ap length files ∙ k.counted ∙ sym count;
  few = subst (λ (w : ℕ). w ≤ most limit.Files) (sym count) k.few;
  held = subst (Each IsTreeFile) (sym files) k.held;
}
