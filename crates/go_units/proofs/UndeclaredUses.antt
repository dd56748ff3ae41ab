-- The files of a package are those with all used imports of which some are left out.
use Rattle.std.proofs.Common.{◌≡◌, ◌⊎◌, ℕ, ◌<◌, Bool, Option, Some, None, List, [], ◌∷◌, ◌++◌, length, map, refl, sym, ap, ◌∙◌, subst, inl, inr, append-nil}
use Rattle.std.proofs.lemmas.List.{map_push, nil_from_length}
use Rattle.go_base.specs.Lists.{Has}
use Rattle.go_base.specs.Growing.{Grows}
use Rattle.go_imports.specs.go_syntax.declared.declaration.File.{File}
use Rattle.go_imports.specs.Gives.{Gives, none, next, optional}
use Rattle.go_imports.specs.UndeclaredUses.{undeclared}
use Rattle.go_imports.specs.UsedImports.{IsDeclaredIn, IsQualifierIn}
use Rattle.go_imports.specs.declared.package_files.SourceFile.{SourceFile}
use Rattle.go_imports.specs.declared.used_imports.NamedImport.{NamedImport}
use Rattle.go_imports.proofs.GrowingSets.{grows_as}
use Rattle.go_imports.proofs.Listed.{listed_over, names_declared, texts_without}
use Rattle.go_imports.proofs.Members.{has_left, has_last}
use Rattle.go_imports.proofs.UndeclaredUses.{undeclared_none, undeclared_used}
use Rattle.go_units.specs.PackageUses.{ArePackageFiles, GivesFile, IsDeclaredAmong, UsesIn}
use Rattle.go_units.specs.UndeclaredUses.{AreUndeclared, IsDeclaredOf, IsUseNameOf, undeclared_of}
use Rattle.go_units.specs.declared.folder.Folder.{Folder}
use Rattle.go_units.specs.declared.package_uses.PackageFile.{PackageFile}
use Rattle.go_units.proofs.Giving.{given_by, gives_all}

-- nothing is left out where no name is declared
pub undeclared_same : (files : List PackageFile) → files ≡ map (undeclared_of []) files
undeclared_same [] = refl
undeclared_same (f ∷ files) = ap (λ (uses : List NamedImport). record { path = f.path; outline = f.outline; uses = uses } ∷ files) (sym (undeclared_none f.uses)) ∙ ap (λ (l : List PackageFile). undeclared_of [] f ∷ l) (undeclared_same files)

only_new : {A : Type 0} (P : A → Type 0) (x : A) → Has [] x ⊎ P x → P x
only_new P x (inl o) = absurd o
only_new P x (inr p) = p

none_declared : (files : List PackageFile) → Grows (λ t. IsDeclaredOf files t × IsUseNameOf files t) [] [] → AreUndeclared files files
none_declared files g = record { names = []; declared = g; left = undeclared_same files }

no_name : (files : List PackageFile) → Grows (IsUseNameOf files) [] [] → Grows (λ t. IsDeclaredOf files t × IsUseNameOf files t) [] []
no_name files g = record { sound = λ x h. absurd h; kept = λ x h. h; complete = λ x p. g.complete x p.1 }

-- of the declared names those that name used imports were gathered
asked_names : (files : List PackageFile) (asked declared : List (List ℕ)) → Grows (IsUseNameOf files) [] asked → Grows (λ x. IsDeclaredOf files x × Has asked x) [] declared → Grows (λ t. IsDeclaredOf files t × IsUseNameOf files t) [] declared
asked_names files asked declared f g = grows_as (λ x. IsDeclaredOf files x × Has asked x) (λ t. IsDeclaredOf files t × IsUseNameOf files t) [] declared
    (λ x p. (p.0, only_new (IsUseNameOf files) x (f.sound x p.1))) (λ x p. (p.0, f.complete x p.1)) g

-- the lists that are read are those of the files
pub nothing_asked : (files read : List PackageFile) (asked : List (List ℕ)) → read ≡ files → length asked ≡ 0 → Grows (IsUseNameOf read) [] asked → AreUndeclared files files
nothing_asked files read asked e empty f =
    none_declared files (no_name files (subst (Grows (IsUseNameOf files) []) (nil_from_length asked empty) (subst (λ (fs : List PackageFile). Grows (IsUseNameOf fs) [] asked) e f)))

names_left : (files read again : List PackageFile) (asked declared : List (List ℕ)) → read ≡ files → again ≡ files → Grows (IsUseNameOf read) [] asked → Grows (λ x. IsDeclaredOf again x × Has asked x) [] declared
    → Grows (λ t. IsDeclaredOf files t × IsUseNameOf files t) [] declared
names_left files read again asked declared e d f g =
    asked_names files asked declared (subst (λ (fs : List PackageFile). Grows (IsUseNameOf fs) [] asked) e f) (subst (λ (fs : List PackageFile). Grows (λ x. IsDeclaredOf fs x × Has asked x) [] declared) d g)

pub nothing_declared : (files read again : List PackageFile) (asked declared : List (List ℕ)) → read ≡ files → again ≡ files → length declared ≡ 0 → Grows (IsUseNameOf read) [] asked
    → Grows (λ x. IsDeclaredOf again x × Has asked x) [] declared → AreUndeclared files files
nothing_declared files read again asked declared e d empty f g =
    none_declared files (subst (Grows (λ t. IsDeclaredOf files t × IsUseNameOf files t) []) (nil_from_length declared empty) (names_left files read again asked declared e d f g))

pub left_out : (files read again last : List PackageFile) (asked declared : List (List ℕ)) → read ≡ files → again ≡ files → last ≡ files → Grows (IsUseNameOf read) [] asked
    → Grows (λ x. IsDeclaredOf again x × Has asked x) [] declared → (kept : List PackageFile) → kept ≡ map (undeclared_of declared) last → AreUndeclared files kept
left_out files read again last asked declared e d l f g kept is = record { names = declared; declared = names_left files read again asked declared e d f g; left = is ∙ ap (map (undeclared_of declared)) l }

abbrev kept_option : List (List ℕ) → Option PackageFile → Option PackageFile
kept_option names None = None
kept_option names (Some f) = Some (undeclared_of names f)

map_optional : (names : List (List ℕ)) (fs : List PackageFile) (r : Option PackageFile) → map (undeclared_of names) (fs ++ optional r) ≡ map (undeclared_of names) fs ++ optional (kept_option names r)
map_optional names fs None = ap (map (undeclared_of names)) (append-nil fs) ∙ sym (append-nil (map (undeclared_of names) fs))
map_optional names fs (Some f) = map_push (undeclared_of names) fs f

module _ (module_path : List ℕ) (folders : List Folder) (from_std : Bool) where
  module _ (declared names : List (List ℕ)) (known : (t : List ℕ) → Has names t → Has declared t) where
    abbrev Agrees : PackageFile → Type 0
    Agrees f = (u : NamedImport) → Has f.uses u → Has declared u.name → Has names u.name

    abbrev UsesOf : File → List NamedImport → Type 0
    UsesOf outline uses = UsesIn module_path folders from_std declared outline uses

    -- a qualifier where nothing is declared, whose name isn't declared
    qualifier_more : (outline : File) (x : List ℕ) → IsQualifierIn [] outline.decls x × (Has declared x → ⊥) → IsQualifierIn declared outline.decls x
    qualifier_more outline x p = let q = p.0.2.2 in (p.0.0, p.0.1, (p.0.2.0, p.0.2.1, record { selects = q.selects; name = q.name; some = q.some; fresh = p.1 }))

    qualifier_less : (outline : File) (x : List ℕ) → IsQualifierIn declared outline.decls x → IsQualifierIn [] outline.decls x × (Has declared x → ⊥)
    qualifier_less outline x p = let q = p.2.2 in ((p.0, p.1, (p.2.0, p.2.1, record { selects = q.selects; name = q.name; some = q.some; fresh = λ o. o })), q.fresh)

    uses_kept : (outline : File) (uses : List NamedImport) → UsesIn module_path folders from_std [] outline uses → ((u : NamedImport) → Has uses u → Has declared u.name → Has names u.name) → UsesOf outline (undeclared names uses)
    uses_kept outline uses u agrees = let l = texts_without declared u.names in record {
      all = u.all;
      given = u.given;
      names = l.0;
      qualify = grows_as (λ x. Has u.names x × (Has declared x → ⊥)) (IsQualifierIn declared outline.decls) [] l.0
          (λ x p. qualifier_more outline x (only_new (IsQualifierIn [] outline.decls) x (u.qualify.sound x p.0), p.1))
          (λ x q. let p = qualifier_less outline x q in (u.qualify.complete x p.0, p.1)) l.1;
      used = undeclared_used u.all u.names l.0 declared names (λ t h. only_new (λ x. Has u.names x × (Has declared x → ⊥)) t (l.1.sound t h)) (λ t h never. l.1.complete t (h, never)) known u.used agrees;
    }

    file_kept : (s : SourceFile) (r : Option PackageFile) → GivesFile module_path folders from_std [] s r → ((f : PackageFile) → Has (optional r) f → Agrees f) → GivesFile module_path folders from_std declared s (kept_option names r)
    file_kept s None c agrees = c
    file_kept s (Some f) k agrees = (k.0, k.1, k.2, uses_kept s.outline f.uses k.3 (agrees f (inl refl)))

    has_optional : (fs : List PackageFile) (r : Option PackageFile) (f : PackageFile) → Has (optional r) f → Has (fs ++ optional r) f
    has_optional [] r f h = h
    has_optional (g ∷ fs) r f h = inr (has_optional fs r f h)

    files_kept : {sources : List SourceFile} {files : List PackageFile} → Gives (GivesFile module_path folders from_std []) sources files → ((f : PackageFile) → Has files f → Agrees f)
        → Gives (GivesFile module_path folders from_std declared) sources (map (undeclared_of names) files)
    files_kept none agrees = none
    files_kept (next {xs = sources} {ys = files} s r g k) agrees =
        subst (Gives (GivesFile module_path folders from_std declared) (sources ++ s ∷ [])) (sym (map_optional names files r))
        (next s (kept_option names r) (files_kept g (λ f h. agrees f (has_left files (optional r) f h))) (file_kept s r k (λ f h. agrees f (has_optional files r f h))))

  module _ (sources : List SourceFile) (files : List PackageFile) (g : Gives (GivesFile module_path folders from_std []) sources files) where
    to_source : (t : List ℕ) → IsDeclaredOf files t → IsDeclaredAmong sources t
    to_source t p = let b = given_by (GivesFile module_path folders from_std []) g p.0 p.1 in (b.0, b.1, (b.2.0, subst (λ (o : File). IsDeclaredIn o.decls t) b.2.2 p.2))

    to_file : (t : List ℕ) → IsDeclaredAmong sources t → IsDeclaredOf files t
    to_file t p = elim (gives_all (GivesFile module_path folders from_std []) g p.0 p.1) [ inl c ↦ absurd (p.2.0 c) | inr q ↦ (q.0, q.1, subst (λ (o : File). IsDeclaredIn o.decls t) (sym q.2.2) p.2.1) ]

    -- without those whose names are declared they are the files of the package
    pub are_files : (kept : List PackageFile) → AreUndeclared files kept → ArePackageFiles module_path folders from_std sources kept
    are_files kept u =
        let l = listed_over (λ (f : PackageFile). IsDeclaredIn f.outline.decls) (λ f. names_declared f.outline.decls) files in
        let known : (t : List ℕ) → Has u.names t → Has l.0 t = λ t h. l.1.complete t (only_new (λ x. IsDeclaredOf files x × IsUseNameOf files x) t (u.declared.sound t h)).0 in
        record {
          names = l.0;
          declared = grows_as (IsDeclaredOf files) (IsDeclaredAmong sources) [] l.0 to_source to_file l.1;
          given = subst (Gives (GivesFile module_path folders from_std l.0) sources) (sym u.left) (files_kept l.0 u.names known g (λ f h v k d. u.declared.complete v.name (only_new (IsDeclaredOf files) v.name (l.1.sound v.name d), (f, h, (v, k, refl)))));
        }
