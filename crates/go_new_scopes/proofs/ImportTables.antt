-- What files import, where imports were added in turn.
use Rattle.std.proofs.Common.{◌≡◌, ◌+◌, ◌<◌, nat_eq, ℕ, zero, suc, Bool, true, false, ◌||◌, cond, List, [], ◌∷◌, Option, None, Some, refl, sym, ap, ◌∙◌, subst, arith}
use mathlib.Core.Bool.{true≢false}
use Rattle.std.specs.Prelude.{if◌then◌else◌, is_some, slice_get}
use Rattle.std.specs.BTreeMap.{insert_entry}
use Rattle.std.specs.Cmp.{unsigned_ties}
use Rattle.std.specs.Cmp.Lexicographic.{bytes_decides}
use Rattle.std.specs.Map.{lookup}
use Rattle.std.specs.Option.{option_or}
use Rattle.std.specs.Ordering.{is_eq, match_ordering, nat_cmp}
use Rattle.std.specs.Str.{bytes_eq}
use Rattle.std.specs.declared.cmp.Ordering.{Ordering}
use Rattle.std.specs.declared.cmp.Ordering.TheVariants.{Less, Equal, Greater}
use Rattle.std.proofs.lemmas.Bool.{eqb-true, eq-eqb}
use Rattle.std.proofs.lemmas.Map.Lookups.{exact_unsigned}
use Rattle.go_base.specs.Keys.{first_with}
use Rattle.go_rules.specs.Names.{value_at, with_value}
use Rattle.go_rules.specs.Scopes.{imports_in}
use Rattle.go_typings.specs.Declarations.{is_init}
use Rattle.go_typings.specs.PackageEnvironments.{had_path, path_in}
use Rattle.go_typings.specs.Sources.{Import, SourceFile, import_name, imports_in as imports_of_file}
use Rattle.go_new_scopes.proofs.Lookups.{none_or, or_none, or_or, put_told, some_or}
use Rattle.go_new_scopes.specs.inner.FileImports.{Imports, imports_at, is_passed, with_files, with_import, with_imports}

-- ---- look-ups by a number

module _ {A : Type 0} (q k : ℕ) (v : A) where
  told : (e : ℕ × A) (r : Option A) (b d : Bool) → nat_eq q k ≡ b → nat_eq q e.0 ≡ d → (k ≡ e.0 → ⊥) → cond d (Some e.1) (cond b (Some v) r) ≡ cond b (Some v) (cond d (Some e.1) r)
  told e r true true h i apart = absurd (apart (sym (eqb-true q k h) ∙ eqb-true q e.0 i))
  told e r true false h i apart = refl
  told e r false d h i apart = refl

  put_first : (o : Ordering) (e : ℕ × A) (es : List (ℕ × A)) → nat_cmp k e.0 ≡ o
      → lookup (nat_eq q) (insert_entry nat_cmp es k v) ≡ cond (nat_eq q k) (Some v) (lookup (nat_eq q) es)
      → lookup (nat_eq q) (match_ordering o ((k, v) ∷ e ∷ es) ((e.0, v) ∷ es) (e ∷ insert_entry nat_cmp es k v)) ≡ cond (nat_eq q k) (Some v) (lookup (nat_eq q) (e ∷ es))
  put_first Less e es h more = refl
  put_first Equal e es h more =
      subst (λ (n : ℕ). cond (nat_eq q n) (Some v) (lookup (nat_eq q) es) ≡ cond (nat_eq q k) (Some v) (cond (nat_eq q n) (Some e.1) (lookup (nat_eq q) es))) (exact_unsigned k e.0 h) (twice (nat_eq q k) (lookup (nat_eq q) es))
    where
      twice : (b : Bool) (r : Option A) → cond b (Some v) r ≡ cond b (Some v) (cond b (Some e.1) r)
      twice true r = refl
      twice false r = refl
  put_first Greater e es h more =
      ap (λ r. cond (nat_eq q e.0) (Some e.1) r) more
      ∙ told e (lookup (nat_eq q) es) (nat_eq q k) (nat_eq q e.0) refl refl (λ same. true≢false (sym (eq-eqb k e.0 same) ∙ unsigned_ties k e.0 ∙ ap is_eq h))

  -- a number that is given a value has it, and any other number what it had
  pub number_put : (es : List (ℕ × A)) → lookup (nat_eq q) (insert_entry nat_cmp es k v) ≡ cond (nat_eq q k) (Some v) (lookup (nat_eq q) es)
  number_put [] = refl
  number_put (e ∷ es) = put_first (nat_cmp k e.0) e es refl (number_put es)

-- ---- imports of a name

module _ (q : ℕ) (name : List ℕ) where
  -- what the file imports under the name
  abbrev at : Imports → Option (List ℕ)
  at t = value_at (imports_at t q) name

  abbrev unless_init : Bool → Option Import → Option (List ℕ)
  unless_init n i = path_in (if n then None else i)

  abbrev found : List Import → Option (List ℕ)
  found is = unless_init (is_init name) (first_with import_name is name)

  abbrev put : ℕ → Imports → Import → Imports
  put file t i = insert_entry nat_cmp t file (with_value (imports_at t file) i.name (had_path i))

  put_at : (file : ℕ) (t : Imports) (i : Import) (c e : Bool) → nat_eq q file ≡ c → bytes_eq i.name name ≡ e → at (put file t i) ≡ (if c then (if e then Some (had_path i) else at t) else at t)
  put_at file t i true e h g =
      ap (λ o. value_at (imports_in o) name) (number_put q file (with_value (imports_at t file) i.name (had_path i)) t ∙ ap (λ b. cond b (Some (with_value (imports_at t file) i.name (had_path i))) (lookup (nat_eq q) t)) h)
      ∙ put_told (imports_at t file) i.name (had_path i) name e g
      ∙ ap (λ (k : ℕ). if e then Some (had_path i) else value_at (imports_at t k) name) (sym (eqb-true q file h))
  put_at file t i false e h g = ap (λ o. value_at (imports_in o) name) (number_put q file (with_value (imports_at t file) i.name (had_path i)) t ∙ ap (λ b. cond b (Some (with_value (imports_at t file) i.name (had_path i))) (lookup (nat_eq q) t)) h)

  split_or : (a b : Bool) → (a || b) ≡ false → (a ≡ false) × (b ≡ false)
  split_or true b e = absurd (true≢false e)
  split_or false b e = (refl, e)

  no_import : (n : Bool) → unless_init n None ≡ None
  no_import true = refl
  no_import false = refl

  module _ (file : ℕ) (t : Imports) (i : Import) where
    abbrev is_there : Bool
    is_there = is_some (value_at (imports_at t file) i.name)

    -- where the file has one of the name, it had it
    there : nat_eq q file ≡ true → bytes_eq i.name name ≡ true → is_there ≡ is_some (at t)
    there h g = ap (λ (k : List ℕ). is_some (value_at (imports_at t file) k)) ((bytes_decides i.name name).0 g) ∙ ap (λ (k : ℕ). is_some (value_at (imports_at t k) name)) (sym (eqb-true q file h))

    same_init : bytes_eq i.name name ≡ true → is_init i.name ≡ is_init name
    same_init g = ap is_init ((bytes_decides i.name name).0 g)

    import_by : (p c e n : Bool) → is_passed t file i.name ≡ p → nat_eq q file ≡ c → bytes_eq i.name name ≡ e → is_init name ≡ n
        → at (if p then t else put file t i) ≡ option_or (at t) (if c then unless_init n (if e then Some i else None) else None)
    import_by true false e n hp hc he hn = or_none (at t)
    import_by true true e true hp hc he hn = or_none (at t)
    import_by true true false false hp hc he hn = or_none (at t)
    import_by true true true false hp hc he hn = some_or (at t) (Some (had_path i)) (sym (there hc he) ∙ sym (ap (λ b. b || is_there) (same_init he ∙ hn)) ∙ hp)
    import_by false false e n hp hc he hn = put_at file t i false e hc he ∙ or_none (at t)
    import_by false true false n hp hc he hn = put_at file t i true false hc he ∙ or_none (at t) ∙ ap (option_or (at t)) (sym (no_import n))
    import_by false true true true hp hc he hn = absurd (true≢false (sym hn ∙ sym (same_init he) ∙ (split_or (is_init i.name) is_there hp).0))
    import_by false true true false hp hc he hn = put_at file t i true true hc he ∙ none_or (at t) (Some (had_path i)) (sym (there hc he) ∙ (split_or (is_init i.name) is_there hp).1)

    pub import_told : at (with_import file t i) ≡ option_or (at t) (if nat_eq q file then found (i ∷ []) else None)
    import_told = import_by (is_passed t file i.name) (nat_eq q file) (bytes_eq i.name name) (is_init name) refl refl refl refl

  -- ---- the imports of files

  if_none : (c n : Bool) → (if c then unless_init n None else None) ≡ None
  if_none true n = no_import n
  if_none false n = refl

  first_or : (c n e : Bool) (i : Import) (r : Option Import)
      → option_or (if c then unless_init n (if e then Some i else None) else None) (if c then unless_init n r else None) ≡ (if c then unless_init n (if e then Some i else r) else None)
  first_or false n e i r = refl
  first_or true true e i r = refl
  first_or true false true i r = refl
  first_or true false false i r = refl

  imports_told : (file : ℕ) (t : Imports) (is : List Import) → at (with_imports file t is) ≡ option_or (at t) (if nat_eq q file then found is else None)
  imports_told file t [] = or_none (at t) ∙ ap (option_or (at t)) (sym (if_none (nat_eq q file) (is_init name)))
  imports_told file t (i ∷ is) =
      imports_told file (with_import file t i) is
      ∙ ap (λ o. option_or o (if nat_eq q file then found is else None)) (import_told file t i)
      ∙ or_or (at t) (if nat_eq q file then found (i ∷ []) else None) (if nat_eq q file then found is else None)
      ∙ ap (option_or (at t)) (first_or (nat_eq q file) (is_init name) (bytes_eq i.name name) i (first_with import_name is name))

  -- the file of the number, where these are numbered from one on
  abbrev file_at : ℕ → List SourceFile → Option SourceFile
  file_at from [] = None
  file_at from (f ∷ fs) = if nat_eq q from then Some f else file_at (suc from) fs

  abbrev found_in : Option SourceFile → Option (List ℕ)
  found_in f = found (imports_of_file f)

  other_number : (from : ℕ) → q < from → nat_eq q from ≡ false
  other_number from h = by (nat_eq q from) refl
    where
      by : (b : Bool) → nat_eq q from ≡ b → b ≡ false
      by true e = let same = eqb-true q from e in absurd (omega arith)
      by false e = refl

  behind : (from : ℕ) (fs : List SourceFile) → q < from → file_at from fs ≡ None
  behind from [] h = refl
  behind from (f ∷ fs) h = ap (λ b. if b then Some f else file_at (suc from) fs) (other_number from h) ∙ behind (suc from) fs (omega arith)

  here_or_on : (from : ℕ) (f : SourceFile) (fs : List SourceFile) (c : Bool) → nat_eq q from ≡ c → option_or (if c then found f.imports else None) (found_in (file_at (suc from) fs)) ≡ found_in (if c then Some f else file_at (suc from) fs)
  here_or_on from f fs true e =
      ap (λ o. option_or (found f.imports) (found_in o)) (behind (suc from) fs (let same = eqb-true q from e in omega arith))
      ∙ ap (option_or (found f.imports)) (no_import (is_init name))
      ∙ sym (or_none (found f.imports))
  here_or_on from f fs false e = refl

  files_told : (from : ℕ) (t : Imports) (fs : List SourceFile) → at (with_files from t fs) ≡ option_or (at t) (found_in (file_at from fs))
  files_told from t [] = or_none (at t) ∙ ap (option_or (at t)) (sym (no_import (is_init name)))
  files_told from t (f ∷ fs) =
      files_told (suc from) (with_imports from t f.imports) fs
      ∙ ap (λ o. option_or o (found_in (file_at (suc from) fs))) (imports_told from t f.imports)
      ∙ or_or (at t) (if nat_eq q from then found f.imports else None) (found_in (file_at (suc from) fs))
      ∙ ap (option_or (at t)) (here_or_on from f fs (nat_eq q from) refl)

  at_number : (from k : ℕ) (fs : List SourceFile) → q ≡ from + k → file_at from fs ≡ slice_get fs k
  at_number from k [] e = refl
  at_number from zero (f ∷ fs) e = ap (λ b. if b then Some f else file_at (suc from) fs) (eq-eqb q from (omega arith))
  at_number from (suc k) (f ∷ fs) e = ap (λ b. if b then Some f else file_at (suc from) fs) (further (nat_eq q from) refl) ∙ at_number (suc from) k fs (omega arith)
    where
      further : (b : Bool) → nat_eq q from ≡ b → b ≡ false
      further true h = let same = eqb-true q from h in absurd (omega arith)
      further false h = refl

  -- a file imports under a name what its first import of the name imports
  pub imports_of_files : (fs : List SourceFile) → value_at (imports_at (with_files 0 [] fs) q) name ≡ path_in (if is_init name then None else first_with import_name (imports_of_file (slice_get fs q)) name)
  imports_of_files fs = files_told 0 [] fs ∙ ap found_in (at_number 0 q fs (omega arith))
