-- The text of a line without context.
use Rattle.std.proofs.Common.{◌≡◌, ℕ, List, [], ◌∷◌, ◌++◌, ap, ◌∙◌, Option, None, codes}
use Rattle.std.proofs.lemmas.List.{append-nil, append_assoc}
use Rattle.go_model.specs.declared.files.platform.Platform.{Platform}
use Rattle.api_lines.specs.Lines.{context_text, printed}
use Rattle.api_lines.specs.declared.line.Line.{Line}

-- a line without context, its prefix apart
pub plain_text : (l : Line) → l.context ≡ None → printed l ≡ codes "pkg " ++ (l.path ++ 44 ∷ 32 ∷ l.rest)
plain_text l e =
    ap (λ (c : Option Platform). codes "pkg " ++ l.path ++ context_text c ++ codes ", " ++ l.rest) e
    ∙ append_assoc (codes "pkg " ++ l.path ++ []) (codes ", ") l.rest
    ∙ ap (λ (w : List ℕ). w ++ (44 ∷ 32 ∷ l.rest)) (append-nil (codes "pkg " ++ l.path))
    ∙ append_assoc (codes "pkg ") l.path (44 ∷ 32 ∷ l.rest)
