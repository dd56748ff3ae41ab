-- The declarations of files, one file after another.
use Rattle.std.proofs.Common.{◌≡◌, ◌<◌, ◌+◌, ℕ, suc, List, ◌∷◌, ◌++◌, append_assoc, add-one, drop, drop-cons, get_or, length, map, sym, ap, ◌∙◌}
use Rattle.go_base.specs.Gathered.{gather}
use Rattle.go_sources.specs.UnitSources.{file_of}
use Rattle.go_syntax.specs.declared.declaration.Decl.{Decl}
use Rattle.go_typings.specs.Declarations.{Declaration, declarations_from, forms, in_file}
use Rattle.go_units.specs.declared.unit.UnitFile.{UnitFile}

-- the next file is added
pub next_file : (whole : List UnitFile) (at : ℕ) (x : UnitFile) (ds : List Decl) (old new all : List Declaration) → at < length whole → x ≡ get_or whole at x → ds ≡ x.outline.decls → new ≡ old ++ map (in_file at) (gather forms ds)
    → old ++ declarations_from at (map file_of (drop at whole)) ≡ all → new ++ declarations_from (at + 1) (map file_of (drop (at + 1) whole)) ≡ all
next_file whole at x ds old new all within item of added before =
    let more = λ (n : ℕ). declarations_from n (map file_of (drop n whole)) in
    let now = λ (es : List Decl). map (in_file at) (gather forms es) in
    let split : drop at whole ≡ x ∷ drop (suc at) whole = drop-cons whole at x within ∙ ap (λ y. y ∷ drop (suc at) whole) (sym item) in
    let rest : now ds ++ more (suc at) ≡ more at = ap (λ es. now es ++ more (suc at)) of ∙ ap (λ fs. declarations_from at (map file_of fs)) (sym split) in
    ap (λ n. new ++ more n) (add-one at) ∙ ap (λ xs. xs ++ more (suc at)) added ∙ append_assoc old (now ds) (more (suc at)) ∙ ap (λ xs. old ++ xs) rest ∙ before
