-- The imports of a file by their names, from the last import to the first.
use Rattle.std.proofs.Common.{◌≡◌, ◌<◌, ◌+◌, ◌-◌, ℕ, Bool, true, false, cond, List, [], ◌∷◌, Option, None, Some, drop, get_or, length, map, refl, sym, ap, ◌∙◌, subst, arith}
use mathlib.Core.Bool.{true≢false}
use Rattle.std.proofs.lemmas.List.{drop_more}
use Rattle.std.specs.BTreeMap.{is_at}
use Rattle.std.specs.Cmp.Lexicographic.{bytes_decides, slice_cmp}
use Rattle.std.specs.Map.{lookup}
use Rattle.std.specs.Ordering.{nat_cmp}
use Rattle.std.specs.Str.{bytes_eq}
use denote.Ref.{Bor}
use Rattle.go_base.specs.Keys.{first_with}
use Rattle.go_base.proofs.Lists.{drop_past}
use Rattle.go_import_uses.specs.Selecting.{borrowed, import_in}
use Rattle.go_import_uses.specs.inner.NamedImports.{AreNamed, Names}
use Rattle.go_sources.specs.UnitSources.{import_of}
use Rattle.go_typings.proofs.Cells.{if_false}
use Rattle.go_typings.specs.Declarations.{is_init}
use Rattle.go_typings.specs.Sources.{Import, import_name}
use Rattle.go_typings.specs.go_rules.Names.{Named, value_at, with_value}
use Rattle.go_typings.proofs.go_rules_proofs.NamedEntries.{put_is}
use Rattle.go_typings.proofs.go_rules_proofs.TextEntries.{value_is}
use Rattle.go_units.specs.declared.unit.UsedImport.{UsedImport}

swapped_by : (a b : List ℕ) (x y : Bool) → bytes_eq a b ≡ x → bytes_eq b a ≡ y → x ≡ y
swapped_by a b true true h k = refl
swapped_by a b true false h k = absurd (true≢false (sym ((bytes_decides b a).1 (sym ((bytes_decides a b).0 h))) ∙ k))
swapped_by a b false true h k = absurd (true≢false (sym ((bytes_decides a b).1 (sym ((bytes_decides b a).0 k))) ∙ h))
swapped_by a b false false h k = refl

swapped : (a b : List ℕ) → bytes_eq a b ≡ bytes_eq b a
swapped a b = swapped_by a b (bytes_eq a b) (bytes_eq b a) refl refl

borrowed_either : (b : Bool) (x : Bor UsedImport) (r : Option (Bor UsedImport)) → borrowed (cond b (Some x) r) ≡ cond b (Some (import_of x.now)) (borrowed r)
borrowed_either true x r = refl
borrowed_either false x r = refl

-- what is put in names its import
pub put_names : (x : Bor UsedImport) (old : Named (Bor UsedImport)) → Names x.now old (with_value old x.now.name x)
put_names x old name =
    ap borrowed (put_is name x.now.name x old)
    ∙ borrowed_either (bytes_eq name x.now.name) x (value_at old name)
    ∙ ap (λ b. cond b (Some (import_of x.now)) (borrowed (value_at old name))) (swapped name x.now.name)

abbrev first_of : List UsedImport → List ℕ → Option Import
first_of is name = first_with import_name (map import_of is) name

-- what a look-up finds is what the name means
pub found_means : (is now : List UsedImport) (entries : Named (Bor UsedImport)) (name : List ℕ) (found : Option (Bor UsedImport)) → AreNamed is entries → is ≡ now
    → found ≡ lookup (is_at (slice_cmp nat_cmp name)) entries → is_init name ≡ false → borrowed found ≡ import_in (map import_of now) name
found_means is now entries name found are same e h =
    ap borrowed (e ∙ value_is name entries)
    ∙ are name
    ∙ ap (λ xs. first_of xs name) same
    ∙ sym (if_false (is_init name) None (first_of now name) h)
