-- A package that has a typing is kept whole, as the same package, and the causes for which it was refused stay.
use Rattle.std.proofs.Common.{◌≡◌, ℕ, false, List, Option, Some, None, length, refl, sym, ◌∙◌, subst, ◌⊎◌, inl, inr}
use Rattle.go_base.specs.Lists.{Has}
use Rattle.go_model.specs.declared.types.package.Entity.{Entity}
use Rattle.go_model.specs.declared.types.package.Package.{Package}
use Rattle.go_typings.proofs.go_rules_proofs.OneKind.{no_truth}
use Rattle.go_syntax.specs.declared.name.Place.{Place}
use Rattle.go_typings.specs.Assignments.{all_of}
use Rattle.go_typings.specs.Declarations.{Declared, declarations, declared}
use Rattle.go_typings.specs.PackageEnvironments.{Entries, Entry, entity_at, entity_by}
use Rattle.go_typings.specs.Refusals.{IsFirstMissing as IsFirstMissingOfAll, missing_here as here_of_all, missing_later as later_of_all, IsMissing as IsMissingOfAll, IsRefused as IsRefusedOfAll, missing_import, unsound}
use Rattle.go_typings.specs.Sources.{AreFound, Import, PackageSource, Setting}
use Rattle.go_typings.specs.TypedPackages.{IsPackageOf as IsPackageOfAll, IsTypedAs}
use Rattle.go_typings.specs.Typings.{IsFirstUnsound, IsTyping}
use Rattle.go_typings.proofs.Cells.{none_some}
use Rattle.go_typings.proofs.FoundImports.{are_found}
use Rattle.go_typings.proofs.ReachedRegion.{import_has}
use Rattle.go_typings.proofs.SoundDeclarations.{refers_within, within}
use Rattle.std.proofs.lemmas.Option.{slice_get_within}
use Rattle.go_soundness.proofs.DeclaredForms.{is_at}
use Rattle.go_exposed.specs.BeyondProfile.{IsBeyond}
use Rattle.go_exposed.specs.ExposedDeclarations.{IsExposed}
use Rattle.go_exposed.specs.KeptDeclarations.{LeavesOut}
use Rattle.go_exposed.specs.OfferedPackages.{IsOfferedAs, IsPackageOf, entered, kept_at, kept_entity}
use Rattle.go_exposed.specs.Refusals.{IsFirstMissing, missing_here, missing_later, IsMissing, IsNeeded, IsRefused, IsSeenIn, import_place}
use Rattle.go_exposed.proofs.OneKeptSet.{one_entries}

-- ---- objects

pub entered_same : (c : Option Entry) (x : Option Entity) (e : Entry) → c ≡ Some e → entered c x ≡ x
entered_same None x e f = none_some {A = Entry} None e refl f
entered_same (Some y) x e f = refl

at_same : (path : List ℕ) (a : Entries) (w : Option Declared) → ((d : Declared) → w ≡ Some d → (e : Entry) × (a d.number ≡ Some e)) → kept_at path a w ≡ entity_at path a w
at_same path a None h = refl
at_same path a (Some d) h = let k = h d refl in entered_same (a d.number) (entity_by path a d.number d.place d.form) k.0 k.1

-- ---- imports

needed_of : (u : PackageSource) (xs : List (ℕ × Import)) (q : Place) → IsFirstMissing u xs q → (x : ℕ × Import) × IsNeeded u x
needed_of u xs q (missing_here {file = file} {i = i} k) = ((file, i), k)
needed_of u xs q (missing_later {is = is} e k) = needed_of u is q k

-- where each import is found, none that is seen is missing
pub none_missing : (u : PackageSource) → AreFound u → (q : Place) → IsMissing u q → ⊥
none_missing u h q k =
    let x = needed_of u _ q k in
    let f = x.1.seen.selects in
    no_truth (sym (h f.0.file x.0.1 (import_has u f.0.file f.2.1.reference.name.text x.0.1 f.2.1.means)) ∙ x.1.missing)

-- the first import that isn't found is the first of these that is seen, where it is
first_seen : (u : PackageSource) (xs : List (ℕ × Import)) (q : Place) → IsFirstMissingOfAll xs q
    → ((x : ℕ × Import) → Has xs x → x.1.is_found ≡ false → import_place x ≡ q → IsSeenIn u x.0 x.1) → IsFirstMissing u xs q
first_seen u xs q (here_of_all {file = file} {i = i} e) h = missing_here (record { missing = e; seen = h (file, i) (inl refl) e refl })
first_seen u xs q (later_of_all {is = is} e k) h = missing_later (λ n. no_truth (sym e ∙ n.missing)) (first_seen u is q k (λ x g. h x (inr g)))

-- ---- packages

module _ (s : Setting) (u : PackageSource) where
  module _ (a : Entries) (T : IsTyping s u a) where
    pub kept_whole : LeavesOut s u (all_of (declarations u)) a
    kept_whole = record {
      typing = T;
      closed = λ m n i k. within n (length (declarations u)) (refers_within u k.0.form n k.2);
      rest = λ n l e. absurd (no_truth (sym (within n (length (declarations u)) l) ∙ e));
    }

    has_entry : (name : List ℕ) (d : Declared) → declared (declarations u) name ≡ Some d → (e : Entry) × (a d.number ≡ Some e)
    has_entry name d e =
        let w = is_at (declarations u) name d e in
        let k = T.had.below d.number (within d.number (length (declarations u)) (slice_get_within (declarations u) d.number w.declaration w.is)) in
        (k.2.0, k.2.1)

    same_entity : (name : List ℕ) → kept_entity u a name ≡ entity_at u.path a (declared (declarations u) name)
    same_entity name = at_same u.path a (declared (declarations u) name) (has_entry name)

    whole_package : (p : Package) → IsPackageOfAll u a p → IsPackageOf u a p
    whole_package p h = record {
      path = h.path;
      name = h.name;
      from_std = h.from_std;
      objects_ordered = h.objects_ordered;
      objects = λ name. h.objects name ∙ sym (same_entity name);
      defined_ordered = h.defined_ordered;
      defined = h.defined;
    }

    pub all_package : (p : Package) → IsPackageOf u a p → IsPackageOfAll u a p
    all_package p h = record {
      path = h.path;
      name = h.name;
      from_std = h.from_std;
      objects_ordered = h.objects_ordered;
      objects = λ name. h.objects name ∙ same_entity name;
      defined_ordered = h.defined_ordered;
      defined = h.defined;
    }

  pub typed_offered : (p : Package) → IsTypedAs s u p → IsOfferedAs s u p
  typed_offered p t = record {
    once = t.once;
    found = none_missing u (are_found u t.found);
    within = all_of (declarations u);
    entries = t.entries;
    kept = kept_whole t.entries t.typing;
    «package» = whole_package t.entries t.typing p t.«package»;
  }

  -- where there is a typing of all, and each import is found, what is offered is typed
  pub offered_typed : (a : Entries) (p : Package) → IsTyping s u a → ((q : Place) → IsMissingOfAll u q → ⊥) → IsOfferedAs s u p → IsTypedAs s u p
  offered_typed a p t found o =
      let e : o.entries ≡ a = λ i n. one_entries s u o.within (all_of (declarations u)) o.entries a o.kept (kept_whole a t) n i in
      record { once = o.once; found = found; entries = a; typing = t; «package» = all_package a t p (subst (λ z. IsPackageOf u z p) e o.«package») }

  -- ---- refusals

  pub same_missing : (q : Place) → ((file : ℕ) (i : Import) → i.is_found ≡ false → import_place (file, i) ≡ q → IsSeenIn u file i) → IsRefusedOfAll s u (missing_import q) → IsRefused s u (missing_import q)
  same_missing q h k = (k.0, first_seen u _ q k.1 (λ x g e f. h x.0 x.1 e f))

  pub same_unsound : (q : Place) → ((n : ℕ) → IsFirstUnsound s u n → IsExposed u n ⊎ (IsBeyond s u n → ⊥)) → IsRefusedOfAll s u (unsound q) → IsRefused s u (unsound q)
  same_unsound q h k =
      let f = k.2.1 in
      (k.0, none_missing u (are_found u k.1), (k.2.0, record { is = f.is; wrong = record { unsound = f.unsound; counts = h k.2.0 f }; first = λ m l. inl (f.first m l) }, k.2.2))
