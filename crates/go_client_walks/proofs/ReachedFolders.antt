-- What reading one folder after another keeps.
use Rattle.std.proofs.Common.{◌≡◌, ◌≢◌, ◌⊎◌, ℕ, ◌+◌, ◌<◌, ◌≤◌, Bool, true, false, Option, Some, None, List, [], ◌∷◌, length, set, Err, refl, sym, ap, ◌∙◌, subst, inl, inr, arith}
use mathlib.Core.Bool.{true≢false}
use Rattle.std.proofs.lemmas.List.{length-set, get_or-set_same, get_or-set_other}
use Rattle.go_base.specs.Lists.{Has}
use Rattle.go_base.specs.Growing.{Grows}
use Rattle.go_imports.proofs.Members.{same_or, below_or}
use Rattle.go_units.specs.Folders.{AsksFor}
use Rattle.go_client_walks.specs.ClientWalks.{AllAreRead, IsAskedWith, IsFirstRefusal, IsNextFolder, IsOwnRefusal, ModuleAnswers, ModuleIsRead, Walked, start, next}
use Rattle.go_client_walks.specs.inner.Reaching.{OwnCause, ReachCause, Reaching}
use Rattle.go_units.specs.Reached.{ReadFolders, slot, IsFresh, is_std, IsAsked, FilesAsk, IsRefusedFor}
use Rattle.go_units.specs.inner.Reaching.{AsksNew, FilesAskNew, HasModule, HasModuleTo, GivesAccepted}
use Rattle.go_units.specs.declared.folder.Folder.{Folder}
use Rattle.go_units.specs.declared.package_uses.PackageFile.{PackageFile}
use Rattle.go_units.specs.declared.reader.Reading.{Reading}
use Rattle.go_units.specs.declared.unit_error.UnitError.{UnitError}
use Rattle.go_units.specs.declared.unit_error.UnitError.TheVariants as error

none_or : {A : Type 0} (o : Option A) → (o ≡ None) ⊎ ((x : A) × (o ≡ Some x))
none_or None = inl refl
none_or (Some x) = inr (x, refl)

not_both : {A : Type 0} (x : A) (o : Option A) → o ≡ None → o ≡ Some x → ⊥
not_both {A = A} x o n s = absurd (let e : ◌≡◌ {A = Option A} None (Some x) = sym n ∙ s in cc)

bool_or : (b : Bool) → (b ≡ true) ⊎ (b ≡ false)
bool_or true = inl refl
bool_or false = inr refl

-- one slot is filled
module _ (slots : ReadFolders) (n : ℕ) (files : List PackageFile) where
  abbrev filled : ReadFolders
  filled = set slots n (Some files)

  pub filled_here : n < length slots → slot filled n ≡ Some files
  filled_here h = get_or-set_same slots n (Some files) None h

  pub filled_other : (m : ℕ) → m ≢ n → slot filled m ≡ slot slots m
  filled_other m d = get_or-set_other slots n m (Some files) None d

  pub still_fresh : (m : ℕ) → IsFresh slots m → m ≢ n → IsFresh filled m
  still_fresh m f d = filled_other m d ∙ f

  -- what is fresh is another slot, and was fresh
  pub fresh_other : n < length slots → (m : ℕ) → IsFresh filled m → m ≢ n
  fresh_other h m f e = not_both files (slot filled n) (subst (IsFresh filled) e f) (filled_here h)

  pub was_fresh : n < length slots → (m : ℕ) → IsFresh filled m → IsFresh slots m
  was_fresh h m f = sym (filled_other m (fresh_other h m f)) ∙ f

module _ (client : List PackageFile) (module_path : List ℕ) (folders : List Folder) where
  abbrev Asked : ReadFolders → ℕ → Type 0
  Asked slots m = IsAskedWith client module_path folders slots m

  asks_any : (slots : ReadFolders) (from_std : Bool) (files : List PackageFile) (m : ℕ) → FilesAskNew module_path folders slots from_std files m → FilesAsk module_path folders from_std files m × IsFresh slots m
  asks_any slots from_std files m p = ((p.0, p.1, (p.2.0, p.2.1, p.2.2.0)), p.2.2.1)

  asks_new : (slots : ReadFolders) (from_std : Bool) (files : List PackageFile) (m : ℕ) → IsFresh slots m → FilesAsk module_path folders from_std files m → FilesAskNew module_path folders slots from_std files m
  asks_new slots from_std files m f p = (p.0, p.1, (p.2.0, p.2.1, (p.2.2, f)))

  asks_of : (slots : ReadFolders) (m : ℕ) (p : IsAsked module_path folders slots m) → AsksFor module_path folders (is_std folders p.0) p.3.2.0.path m
  asks_of slots m p = p.3.2.2

  pub asked_within : (slots : ReadFolders) (m : ℕ) → Asked slots m → m < length folders
  asked_within slots m (inl p) = (asks_of slots m p).names.within
  asked_within slots m (inr p) = p.2.2.names.within

  asked_std : (slots : ReadFolders) (m : ℕ) → Asked slots m → is_std folders m ≡ true
  asked_std slots m (inl p) = (asks_of slots m p).side
  asked_std slots m (inr p) = p.2.2.side

  -- a folder of the module is next
  pub own_next : (slots : ReadFolders) (n : ℕ) → n < length folders → is_std folders n ≡ false → HasModuleTo folders slots n → IsNextFolder client module_path folders slots n
  own_next slots n h own to = record {
    wanted = record { within = h; why = inl own };
    fresh = elim (none_or (slot slots n)) [ inl e ↦ e | inr p ↦ absurd (let k : n < n = to.1 n (λ f. not_both p.0 (slot slots n) f p.1) in omega arith) ];
    first = λ m w f. elim (bool_or (is_std folders m)) [
      | inl e ↦ inl (own, e)
      | inr e ↦ elim (below_or m n) [ inl less ↦ absurd (to.0 m less e f) | inr more ↦ inr (own ∙ sym e, more) ]
    ];
  }

  pub own_to : (slots : ReadFolders) (n : ℕ) (files : List PackageFile) → n < length slots → HasModuleTo folders slots n → HasModuleTo folders (set slots n (Some files)) (n + 1)
  own_to slots n files h to = (
    λ m less own f. to.0 m (let d = fresh_other slots n files h m f in elim (below_or m n) [ inl l ↦ l | inr g ↦ absurd (d (omega (arith, less, g))) ]) own (was_fresh slots n files h m f),
    λ m held. elim (same_or m n) [
      | inl e ↦ omega (arith, e)
      | inr d ↦ (let l = to.1 m (λ f. held (still_fresh slots n files m f d)) in omega (arith, l))
    ],
  )

  pub other_to : (slots : ReadFolders) (n : ℕ) → is_std folders n ≡ true → HasModuleTo folders slots n → HasModuleTo folders slots (n + 1)
  other_to slots n std to = (
    λ m less own f. elim (below_or m n) [ inl l ↦ to.0 m l own f | inr g ↦ absurd (true≢false (sym std ∙ ap (is_std folders) (let e : n ≡ m = omega (arith, less, g) in e) ∙ own)) ],
    λ m held. let l = to.1 m held in omega (arith, l),
  )

  pub all_to : (slots : ReadFolders) (n : ℕ) → length folders ≤ n → HasModuleTo folders slots n → HasModule folders slots
  all_to slots n h to m within own f = to.0 m (omega (arith, h, within)) own f

  pub none_to : (slots : ReadFolders) → ((n : ℕ) → IsFresh slots n) → HasModuleTo folders slots 0
  none_to slots fresh = (λ m less own f. absurd (omega (arith, less)), λ m held. absurd (held (fresh m)))

  pub still_module : (slots : ReadFolders) (n : ℕ) (files : List PackageFile) → n < length slots → HasModule folders slots → HasModule folders (set slots n (Some files))
  still_module slots n files h all m within own f = all m within own (was_fresh slots n files h m f)

  module _ (gives : ℕ → Reading → Type 0) where
    -- what the client asks for is pending, where nothing is read
    pub reaching_first : (slots : ReadFolders) (pending : List ℕ) → length slots ≡ length folders → ((n : ℕ) → IsFresh slots n) → Grows (FilesAskNew module_path folders slots false client) [] pending → Reaching client module_path folders gives slots pending (λ m. ⊥)
    reaching_first slots pending rows fresh grows = record {
      walked = start rows fresh;
      rows = rows;
      sound = λ m h. elim (grows.sound m h) [ inl old ↦ absurd old | inr p ↦ (let q = asks_any slots false client m p in (inr q.0, q.1)) ];
      cover = λ m asked f. elim asked [
        | inl p ↦ absurd (not_both p.1 (slot slots p.0) (fresh p.0) p.2)
        | inr p ↦ inl (grows.complete m (asks_new slots false client m f p))
      ];
    }

    pub reaching_as : (slots : ReadFolders) (pending : List ℕ) (left left2 : ℕ → Type 0) → ((m : ℕ) → left m → left2 m) → Reaching client module_path folders gives slots pending left → Reaching client module_path folders gives slots pending left2
    reaching_as slots pending left left2 to r = record {
      walked = r.walked;
      rows = r.rows;
      sound = r.sound;
      cover = λ m asked f. elim (r.cover m asked f) [ inl h ↦ inl h | inr l ↦ inr (to m l) ];
    }

    module _ (slots : ReadFolders) (n : ℕ) (files : List PackageFile) (pending pending2 : List ℕ) (is : IsNextFolder client module_path folders slots n) (apart : (m : ℕ) → Has pending m → m ≢ n) (r : Reaching client module_path folders gives slots pending (λ m. m ≡ n)) where
      within : n < length slots
      within = omega (arith, r.rows, is.wanted.within)

      abbrev new : ReadFolders
      new = set slots n (Some files)

      asked_on : (m : ℕ) → Asked slots m → Asked new m
      asked_on m (inl p) = inl (p.0, p.1, filled_other slots n files p.0 (λ e. not_both p.1 (slot slots p.0) (subst (IsFresh slots) (sym e) is.fresh) p.2) ∙ p.2, p.3)
      asked_on m (inr p) = inr p

      some_same : (a b : List PackageFile) → ◌≡◌ {A = Option (List PackageFile)} (Some a) (Some b) → a ≡ b
      some_same a b e = cc

      -- what asks now asked before, or is the folder that was read
      asked_before : (m : ℕ) → Asked new m → Asked slots m ⊎ FilesAsk module_path folders (is_std folders n) files m
      asked_before m (inr p) = inl (inr p)
      asked_before m (inl p) = elim (same_or p.0 n) [
        | inl e ↦
            inr (subst (λ (q : ℕ × List PackageFile). FilesAsk module_path folders (is_std folders q.0) q.1 m)
            (λ i. (e i, some_same p.1 files (sym p.2 ∙ ap (slot new) e ∙ filled_here slots n files within) i)) p.3)
        | inr d ↦ inl (inl (p.0, p.1, sym (filled_other slots n files p.0 d) ∙ p.2, p.3))
      ]

      pub advanced : GivesAccepted module_path folders gives n files → Grows (AsksNew module_path folders new n) pending pending2 → Reaching client module_path folders gives new pending2 (λ m. ⊥)
      advanced g grows = record {
        walked = next r.walked is g.1 g.2;
        rows = length-set slots n (Some files) ∙ r.rows;
        sound = λ m h. elim (grows.sound m h) [
          | inl old ↦ (let k = r.sound m old in (asked_on m k.0, still_fresh slots n files m k.1 (apart m old)))
          | inr p ↦ (let q = asks_any new (is_std folders n) p.0 m p.2 in (inl (n, p.0, p.1, q.0), q.1))
        ];
        cover = λ m asked f. elim (asked_before m asked) [
          | inl old ↦ elim (r.cover m old (was_fresh slots n files within m f)) [ inl h ↦ inl (grows.kept m h) | inr e ↦ absurd (fresh_other slots n files within m f e) ]
          | inr asks ↦ inl (grows.complete m (files, filled_here slots n files within, asks_new new (is_std folders n) files m f asks))
        ];
      }

    -- the least folder for which an import asks is next, once the module is read
    pub asked_next : (slots : ReadFolders) (n : ℕ) (rest : List ℕ) → HasModule folders slots → ((m : ℕ) → Has rest m → n < m) → Reaching client module_path folders gives slots (n ∷ rest) (λ m. ⊥) → IsNextFolder client module_path folders slots n
    asked_next slots n rest all above r =
        let here = r.sound n (inl refl) in
        record {
          wanted = record { within = asked_within slots n here.0; why = inr here.0 };
          fresh = here.1;
          first = λ m w f. elim w.why [
            | inl own ↦ absurd (all m w.within own f)
            | inr asked ↦
                inr (asked_std slots n here.0 ∙ sym (asked_std slots m asked), elim (r.cover m asked f) [ inl h ↦ elim h [ inl e ↦ omega (arith, e) | inr k ↦ (let l = above m k in omega (arith, l)) ] | inr never ↦ absurd never ])
          ];
        }

    pub asked_apart : (n : ℕ) (rest : List ℕ) → ((m : ℕ) → Has rest m → n < m) → (m : ℕ) → Has rest m → m ≢ n
    asked_apart n rest above m h e = let l = above m h in absurd (omega (arith, l, e))

    pub asked_left : (slots : ReadFolders) (n : ℕ) (rest : List ℕ) → Reaching client module_path folders gives slots (n ∷ rest) (λ m. ⊥) → Reaching client module_path folders gives slots rest (λ m. m ≡ n)
    asked_left slots n rest r = record {
      walked = r.walked;
      rows = r.rows;
      sound = λ m h. r.sound m (inr h);
      cover = λ m asked f. elim (r.cover m asked f) [ inl h ↦ elim h [ inl e ↦ inr (sym e) | inr k ↦ inl k ] | inr never ↦ absurd never ];
    }

    -- a folder of the module isn't pending
    pub own_apart : (slots : ReadFolders) (n : ℕ) (pending : List ℕ) → is_std folders n ≡ false → Reaching client module_path folders gives slots pending (λ m. ⊥) → (m : ℕ) → Has pending m → m ≢ n
    own_apart slots n pending own r m h e = absurd (true≢false (sym (asked_std slots m (r.sound m h).0) ∙ ap (is_std folders) e ∙ own))

    pub all_read : (slots : ReadFolders) (pending : List ℕ) → pending ≡ [] → HasModule folders slots → Reaching client module_path folders gives slots pending (λ m. ⊥) → AllAreRead client module_path folders gives slots
    all_read slots pending e all r = record {
      walked = r.walked;
      all = λ m w f. elim w.why [
        | inl own ↦ all m w.within own f
        | inr asked ↦ elim (r.cover m asked f) [ inl h ↦ absurd (subst (λ (p : List ℕ). Has p m) e h) | inr never ↦ absurd never ]
      ];
    }

    -- the folder that is next is the first that is refused
    pub first_refused : (slots : ReadFolders) (n : ℕ) (e : UnitError) → Walked client module_path folders gives slots → IsNextFolder client module_path folders slots n → IsRefusedFor module_path folders gives n e → ReachCause client module_path folders gives e
    first_refused slots n (error.File at fault) w is s = (slots, w, n, is, s)
    first_refused slots n (error.MixedNames path) w is s = (slots, w, n, is, s)
    first_refused slots n (error.InternalUse at place) w is s = (slots, w, n, is, s)
    first_refused slots n (error.Cycle path) w is s = absurd s
    first_refused slots n error.NoMemory w is s = tt

    -- so it is among the module's
    pub own_refused : (slots : ReadFolders) (n : ℕ) (e : UnitError) → is_std folders n ≡ false → Walked client module_path folders gives slots → IsNextFolder client module_path folders slots n → IsRefusedFor module_path folders gives n e → OwnCause client module_path folders gives e
    own_refused slots n (error.File at fault) o w is s = (slots, w, n, is, o, s)
    own_refused slots n (error.MixedNames path) o w is s = (slots, w, n, is, o, s)
    own_refused slots n (error.InternalUse at place) o w is s = (slots, w, n, is, o, s)
    own_refused slots n (error.Cycle path) o w is s = absurd s
    own_refused slots n error.NoMemory o w is s = tt

    first_of_own : (e : UnitError) → IsOwnRefusal module_path folders gives client e → IsFirstRefusal client module_path folders gives e
    first_of_own e (slots, w, n, is, o, s) = (slots, w, n, is, s)

    -- the first of the module's folders that is refused is the first of all
    pub own_first : (e : UnitError) → OwnCause client module_path folders gives e → ReachCause client module_path folders gives e
    own_first (error.File at fault) k = first_of_own (error.File at fault) k
    own_first (error.MixedNames path) k = first_of_own (error.MixedNames path) k
    own_first (error.InternalUse at place) k = first_of_own (error.InternalUse at place) k
    own_first (error.Cycle path) k = absurd k
    own_first error.NoMemory k = tt

module _ (module_path : List ℕ) (folders : List Folder) (gives : ℕ → Reading → Type 0) where
  -- the module's folders alone
  pub module_refused : (e : UnitError) → OwnCause [] module_path folders gives e → ModuleAnswers module_path folders gives (Err e)
  module_refused (error.File at fault) k = k
  module_refused (error.MixedNames path) k = k
  module_refused (error.InternalUse at place) k = k
  module_refused (error.Cycle path) k = k
  module_refused error.NoMemory k = tt

  pub module_read : (slots : ReadFolders) (pending : List ℕ) → HasModule folders slots → Reaching [] module_path folders gives slots pending (λ m. ⊥) → ModuleIsRead module_path folders gives slots
  module_read slots pending h r = record { walked = r.walked; all = h }
