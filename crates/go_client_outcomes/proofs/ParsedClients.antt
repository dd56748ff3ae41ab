-- The files of a client are parsed, or the first one is refused that isn't.
use Rattle.std.proofs.Common.{◌≡◌, ◌⊎◌, ℕ, Bool, true, false, List, [], ◌∷◌, ◌++◌, append_assoc, append-nil, Option, Some, None, refl, sym, subst, inl, inr}
use Rattle.go_client_units.specs.go_client_files.ClientFiles.{GivesParsed, IsFaultyFile, IsFirstFaulty}
use Rattle.go_client_units.specs.go_client_files.declared.parsed.ParsedFile.{ParsedFile}
use Rattle.go_existence.specs.Existence.{NotNone}
use Rattle.go_existence.proofs.DoubleNegation.{decided, so, sure, bind}
use Rattle.go_client_units.specs.go_file_blocks.FileBlocks.{HasFileBlocks}
use Rattle.go_imports.specs.Gives.{Gives, next, none, optional}
use Rattle.go_model.specs.declared.files.build.Header.{Header}
use Rattle.go_model.specs.declared.files.platform.Platform.{Platform}
use Rattle.go_model.specs.declared.files.tree.TreeFile.{TreeFile}
use Rattle.go_model.specs.files.BuildValues.{is_chosen}
use Rattle.go_model.specs.files.Headers.{IsHeader}
use Rattle.go_reading.specs.ChosenFiles.{IsChosen, path_of}
use Rattle.go_syntax.specs.declared.declaration.File.{File}
use Rattle.go_syntax.specs.declared.statement.LiteralBlock.{LiteralBlock}
use Rattle.go_syntax.specs.grammar.SourceFiles.{HasOutline}
use Rattle.go_unit_outcomes.proofs.FileHeaders.{header_or_fault}
use Rattle.go_unit_outcomes.proofs.FileTokens.{tokens_or_bad}
use Rattle.go_units.specs.declared.reader.FileFault.{FileFault}
use Rattle.go_units.specs.declared.reader.FileFault.TheVariants as fault

module _ (p : Platform) where
  abbrev FileEnds : TreeFile → Type 0
  FileEnds file = ((r : Option ParsedFile) × GivesParsed p file r) ⊎ ((f : FileFault) × IsFaultyFile p file f)

  of_chosen : (file : TreeFile) → IsChosen p file → NotNone (FileEnds file)
  of_chosen file chosen = bind (tokens_or_bad file.bytes) (λ t. elim t [
    | inr at ↦ sure (inr (fault.BadToken at.0, (chosen, at.1)))
    | inl tokens ↦ so (decided ((f : File) × (blocks : List LiteralBlock) × HasOutline tokens.0 f × HasFileBlocks tokens.0 f blocks)) (λ d. elim d [
      | inl f ↦ inl (
        Some (record { source = record { path = path_of file; outline = f.0 }; blocks = f.1 }),
        (chosen, record { path = refl; tokens = tokens.0; are = tokens.1; outline = f.2; blocks = f.3 }),
      )
      | inr never ↦ inr (fault.Syntax, (chosen, (tokens.0, tokens.1, λ f blocks h k. never (f, blocks, h, k))))
    ])
  ])

  by_choice : (file : TreeFile) (h : Header) → IsHeader file.bytes h → (b : Bool) → is_chosen p file.name h.constraint ≡ b → NotNone (FileEnds file)
  by_choice file h is true e = of_chosen file (h, record { has = is; chosen = e })
  by_choice file h is false e = sure (inl (None, inr (h, is, e)))

  by_name : (file : TreeFile) (b : Bool) → is_chosen p file.name None ≡ b → NotNone (FileEnds file)
  by_name file false e = sure (inl (None, inl e))
  by_name file true e = bind (header_or_fault file.bytes) (λ k. elim k [
    | inl h ↦ by_choice file h.0 h.1 (is_chosen p file.name h.0.constraint) refl
    | inr f ↦ sure (inr (elim f [
      | inl bad ↦ (fault.BadExpression, (e, bad))
      | inr g ↦ elim g [ inl two ↦ (fault.Twice, (e, two)) | inr plus ↦ (fault.PlusBuild, (e, plus)) ]
    ]))
  ])

  file_ends : (file : TreeFile) → NotNone (FileEnds file)
  file_ends file = by_name file (is_chosen p file.name None) refl

  abbrev FilesEnd : List TreeFile → Type 0
  FilesEnd files = ((xs : List ParsedFile) × Gives (GivesParsed p) files xs) ⊎ ((at : List ℕ) × (f : FileFault) × IsFirstFaulty p files at f)

  parsed_on : (done rest : List TreeFile) (xs : List ParsedFile) → Gives (GivesParsed p) done xs → NotNone (FilesEnd (done ++ rest))
  parsed_on done [] xs g = sure (inl (xs, subst (λ (fs : List TreeFile). Gives (GivesParsed p) fs xs) (sym (append-nil done)) g))
  parsed_on done (file ∷ rest) xs g = bind (file_ends file) (λ k. elim k [
    | inl r ↦ so (parsed_on (done ++ file ∷ []) rest (xs ++ optional r.0) (next file r.0 g r.1)) (subst FilesEnd (append_assoc done (file ∷ []) rest))
    | inr f ↦ sure (inr (path_of file, f.0, record { before = done; file = file; after = rest; parts = refl; earlier = xs; read = g; place = refl; refused = f.1 }))
  ])

  pub files_end : (files : List TreeFile) → NotNone (((xs : List ParsedFile) × Gives (GivesParsed p) files xs) ⊎ ((at : List ℕ) × (f : FileFault) × IsFirstFaulty p files at f))
  files_end files = parsed_on [] files [] none
