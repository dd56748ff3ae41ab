-- The names that a package declares are those of its groups, file by file.
use Rattle.std.proofs.Common.{◌≡◌, ◌<◌, ◌≤◌, ◌+◌, ℕ, suc, Bool, true, false, Option, None, Some, List, [], ◌∷◌, ◌++◌, length, map, take, get_or, refl, sym, ap, ◌∙◌, subst, arith, append_assoc, append-nil}
use Rattle.std.specs.Prelude.{if◌then◌else◌}
use Rattle.std.proofs.lemmas.List.{take_more}
use Rattle.go_base.specs.Gathered.{gather}
use Rattle.go_base.proofs.Lists.{length_take, take_past}
use Rattle.go_syntax.specs.declared.declaration.ConstSpec.{ConstSpec}
use Rattle.go_syntax.specs.declared.declaration.Decl.TheVariants as decl
use Rattle.go_syntax.specs.declared.declaration.TypeSpec.{TypeSpec}
use Rattle.go_syntax.specs.declared.declaration.VarSpec.{VarSpec}
use Rattle.go_syntax.specs.declared.expression.Expr.{Expr}
use Rattle.go_syntax.specs.declared.name.Place.{Place}
use Rattle.go_typings.specs.Declarations.{alias, constants_from, definition, forms, in_file, no_spec, repeated, repeats, type_form, variables}
use Rattle.go_typings.specs.Redeclarations.{declaration_sites, file_sites, form_sites, import_site, name_site, Site, sites, sites_from}
use Rattle.go_units.specs.declared.unit.«Unit».{«Unit» as PackageUnit}
use Rattle.go_units.specs.declared.unit.UnitFile.{UnitFile}
use Rattle.go_sources.specs.UnitSources.{file_of, import_of, source_of}
use Rattle.go_sources.specs.inner.DeclarationSites.{const_sites, decl_sites, type_sites, unit_file_sites, unit_sites_from, var_sites}
use Rattle.go_sources.specs.inner.KnownNames.{Steps, Key}
use Rattle.go_sources.proofs.Visiting.{gather_split, split_taken, step_both, step_ends}

-- ---- gathering

gather_map : {A B C : Type 0} (g : B → List C) (h : A → B) (xs : List A) → gather g (map h xs) ≡ gather (λ x. g (h x)) xs
gather_map g h [] = refl
gather_map g h (x ∷ xs) = ap (λ ys. g (h x) ++ ys) (gather_map g h xs)

gather_twice : {A B C : Type 0} (g : B → List C) (h : A → List B) (xs : List A) → gather g (gather h xs) ≡ gather (λ x. gather g (h x)) xs
gather_twice g h [] = refl
gather_twice g h (x ∷ xs) = gather_split g (h x) (gather h xs) ∙ ap (λ ys. gather g (h x) ++ ys) (gather_twice g h xs)

gather_same : {A B : Type 0} (g h : A → List B) (xs : List A) → ((x : A) → g x ≡ h x) → gather g xs ≡ gather h xs
gather_same g h [] e = refl
gather_same g h (x ∷ xs) e = (λ i. e x i ++ gather_same g h xs e i)

-- ---- groups

repeated_names : (before spec : ConstSpec) (es : List Expr) → (repeats before spec es).names ≡ spec.names
repeated_names before spec [] = refl
repeated_names before spec (e ∷ es) = refl

const_group : (file : ℕ) (before : ConstSpec) (place : ℕ) (specs : List ConstSpec) → gather (form_sites file) (constants_from before place specs) ≡ gather (const_sites file) specs
const_group file before place [] = refl
const_group file before place (s ∷ ss) = (λ i. gather (name_site file) (repeated_names before s s.values i) ++ const_group file (repeated before s) (suc place) ss i)

type_site : (file : ℕ) (s : TypeSpec) (b : Bool) → form_sites file (if b then alias s else definition s) ≡ type_sites file s
type_site file s true = append-nil (name_site file s.name)
type_site file s false = append-nil (name_site file s.name)

pub const_decl : (file : ℕ) (specs : List ConstSpec) → gather (const_sites file) specs ≡ decl_sites file (decl.ConstGroup specs)
const_decl file specs = sym (const_group file no_spec 0 specs)

pub var_decl : (file : ℕ) (specs : List VarSpec) → gather (var_sites file) specs ≡ decl_sites file (decl.VarGroup specs)
var_decl file specs = sym (gather_map (form_sites file) variables specs)

pub type_decl : (file : ℕ) (specs : List TypeSpec) → gather (type_sites file) specs ≡ decl_sites file (decl.TypeGroup specs)
type_decl file specs = sym (gather_map (form_sites file) type_form specs ∙ gather_same (λ s. form_sites file (type_form s)) (type_sites file) specs (λ s. type_site file s s.alias))

-- ---- files

file_names : (number : ℕ) (f : UnitFile) → file_sites number (file_of f) ≡ unit_file_sites number f
file_names number f = (λ i. gather_map (import_site number) import_of f.imports i
    ++ (gather_map declaration_sites (in_file number) (gather forms f.outline.decls) ∙ gather_twice (form_sites number) forms f.outline.decls) i)

from_files : (number : ℕ) (fs : List UnitFile) → sites_from number (map file_of fs) ≡ unit_sites_from number fs
from_files number [] = refl
from_files number (f ∷ fs) = (λ i. file_names number f i ++ from_files (suc number) fs i)

pub unit_sites : (u : PackageUnit) → sites (source_of u) ≡ unit_sites_from 0 u.files
unit_sites u = from_files 0 u.files

-- ---- files in turn

files_split : (number : ℕ) (xs ys : List UnitFile) → unit_sites_from number (xs ++ ys) ≡ unit_sites_from number xs ++ unit_sites_from (number + length xs) ys
files_split number [] ys = ap (λ (n : ℕ). unit_sites_from n ys) (none number)
  where
    none : (n : ℕ) → n ≡ n + 0
    none n = omega arith
files_split number (x ∷ xs) ys =
    ap (λ (zs : List Site). unit_file_sites number x ++ zs) (files_split (suc number) xs ys ∙ ap (λ (n : ℕ). unit_sites_from (suc number) xs ++ unit_sites_from n ys) (one number (length xs)))
    ∙ sym (append_assoc (unit_file_sites number x) (unit_sites_from (suc number) xs) (unit_sites_from (number + suc (length xs)) ys))
  where
    one : (n m : ℕ) → suc n + m ≡ n + suc m
    one n m = omega arith

files_taken : (xs : List UnitFile) (i : ℕ) (x : UnitFile) → i < length xs → x ≡ get_or xs i x → unit_sites_from 0 (take (i + 1) xs) ≡ unit_sites_from 0 (take i xs) ++ unit_file_sites i x
files_taken xs i x h e =
    ap (unit_sites_from 0) (take_more xs i x h ∙ ap (λ (z : UnitFile). take i xs ++ z ∷ []) (sym e)) ∙ files_split 0 (take i xs) (x ∷ [])
    ∙ ap (λ (n : ℕ). unit_sites_from 0 (take i xs) ++ unit_sites_from n (x ∷ [])) (from_zero ∙ length_take i xs (omega (arith, h)))
    ∙ ap (λ (zs : List Site). unit_sites_from 0 (take i xs) ++ zs) (append-nil (unit_file_sites i x))
  where
    from_zero : 0 + length (take i xs) ≡ length (take i xs)
    from_zero = omega arith

pub files_next : (xs : List UnitFile) (i : ℕ) (x : UnitFile) (old mid new : List Key) (r : Option Place) → i < length xs → x ≡ get_or xs i x → Steps (unit_sites_from 0 (take i xs)) old mid None → Steps (unit_file_sites i x) mid new r
    → Steps (unit_sites_from 0 (take (i + 1) xs)) old new r
files_next xs i x old mid new r h e s g = subst (λ (w : List Site). Steps w old new r) (sym (files_taken xs i x h e)) (step_both (unit_sites_from 0 (take i xs)) (unit_file_sites i x) old mid new r s g)

pub files_whole : (xs : List UnitFile) (i : ℕ) (old new : List Key) → length xs ≤ i → Steps (unit_sites_from 0 (take i xs)) old new None → Steps (unit_sites_from 0 xs) old new None
files_whole xs i old new h s = subst (λ (w : List UnitFile). Steps (unit_sites_from 0 w) old new None) (take_past i xs h) s

pub files_stop : (xs : List UnitFile) (i : ℕ) (x : UnitFile) (old mid new : List Key) (p : Place) → i < length xs → x ≡ get_or xs i x → Steps (unit_sites_from 0 (take i xs)) old mid None → Steps (unit_file_sites i x) mid new (Some p)
    → Steps (unit_sites_from 0 xs) old new (Some p)
files_stop xs i x old mid new p h e s g =
    let k = split_taken xs (i + 1) in
    subst (λ (w : List UnitFile). Steps (unit_sites_from 0 w) old new (Some p)) (sym k.1)
    (subst (λ (w : List Site). Steps w old new (Some p)) (sym (files_split 0 (take (i + 1) xs) k.0))
    (step_ends (unit_sites_from 0 (take (i + 1) xs)) (unit_sites_from (0 + length (take (i + 1) xs)) k.0) old new new p (files_next xs i x old mid new (Some p) h e s g)))
