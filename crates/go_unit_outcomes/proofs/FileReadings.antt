-- The files of a folder give a reading.
use Rattle.std.proofs.Common.{◌≡◌, ◌⊎◌, ℕ, Bool, true, false, List, [], ◌∷◌, ◌++◌, append_assoc, append-nil, Option, Some, None, refl, sym, ap, subst, inl, inr}
use Rattle.go_existence.specs.Existence.{NotNone}
use Rattle.go_existence.proofs.DoubleNegation.{decided, so, sure, bind}
use Rattle.go_imports.specs.Gives.{Gives, next, none, optional}
use Rattle.go_imports.specs.declared.package_files.SourceFile.{SourceFile}
use Rattle.go_model.specs.declared.files.build.Header.{Header}
use Rattle.go_model.specs.declared.files.platform.Platform.{Platform}
use Rattle.go_model.specs.declared.files.tree.TreeFile.{TreeFile}
use Rattle.go_model.specs.files.BuildValues.{is_chosen}
use Rattle.go_model.specs.files.Headers.{IsHeader}
use Rattle.go_reading.specs.ChosenFiles.{GivesSource, IsChosen, IsFaulty, path_of}
use Rattle.go_reading.specs.FolderReadings.{IsFirstRefused, IsReading}
use Rattle.go_syntax.specs.declared.declaration.File.{File}
use Rattle.go_syntax.specs.grammar.SourceFiles.{HasOutline}
use Rattle.go_unit_outcomes.proofs.FileHeaders.{header_or_fault}
use Rattle.go_unit_outcomes.proofs.FileTokens.{tokens_or_bad}
use Rattle.go_units.specs.declared.reader.FileFault.{FileFault}
use Rattle.go_units.specs.declared.reader.FileFault.TheVariants as fault
use Rattle.go_units.specs.declared.reader.Reading.{Reading}
use Rattle.go_units.specs.declared.reader.Reading.TheVariants as reading

module _ (p : Platform) where
  abbrev FileEnds : TreeFile → Type 0
  FileEnds file = ((r : Option SourceFile) × GivesSource p file r) ⊎ ((f : FileFault) × IsFaulty p file f)

  of_chosen : (file : TreeFile) → IsChosen p file → NotNone (FileEnds file)
  of_chosen file chosen = bind (tokens_or_bad file.bytes) (λ t. elim t [
    | inr at ↦ sure (inr (fault.BadToken at.0, (chosen, at.1)))
    | inl tokens ↦ so (decided ((f : File) × HasOutline tokens.0 f)) (λ d. elim d [
      | inl f ↦ inl (Some (record { path = path_of file; outline = f.0 }), (chosen, record { path = refl; outline = (tokens.0, tokens.1, f.1) }))
      | inr never ↦ inr (fault.Syntax, (chosen, (tokens.0, tokens.1, λ f h. never (f, h))))
    ])
  ])

  by_choice : (file : TreeFile) (h : Header) → IsHeader file.bytes h → (b : Bool) → is_chosen p file.name h.constraint ≡ b → NotNone (FileEnds file)
  by_choice file h is true e = of_chosen file (h, record { has = is; chosen = e })
  by_choice file h is false e = sure (inl (None, inr (h, is, e)))

  by_name : (file : TreeFile) (b : Bool) → is_chosen p file.name None ≡ b → NotNone (FileEnds file)
  by_name file false e = sure (inl (None, inl e))
  by_name file true e = bind (header_or_fault file.bytes) (λ k. elim k [
    | inl h ↦ by_choice file h.0 h.1 (is_chosen p file.name h.0.constraint) refl
    | inr f ↦ sure (inr (elim f [
      | inl bad ↦ (fault.BadExpression, (e, bad))
      | inr g ↦ elim g [ inl two ↦ (fault.Twice, (e, two)) | inr plus ↦ (fault.PlusBuild, (e, plus)) ]
    ]))
  ])

  file_ends : (file : TreeFile) → NotNone (FileEnds file)
  file_ends file = by_name file (is_chosen p file.name None) refl

  -- ---- files

  reads_on : (done rest : List TreeFile) (sources : List SourceFile) → Gives (GivesSource p) done sources → NotNone ((r : Reading) × IsReading p (done ++ rest) r)
  reads_on done [] sources g = sure (reading.Files sources, subst (λ (fs : List TreeFile). Gives (GivesSource p) fs sources) (sym (append-nil done)) g)
  reads_on done (file ∷ rest) sources g = bind (file_ends file) (λ k. elim k [
    | inl r ↦ so (reads_on (done ++ file ∷ []) rest (sources ++ optional r.0) (next file r.0 g r.1)) (λ q. (q.0, subst (λ (fs : List TreeFile). IsReading p fs q.0) (append_assoc done (file ∷ []) rest) q.1))
    | inr f ↦ sure (reading.Refused (path_of file) f.0, record { before = done; file = file; after = rest; parts = refl; earlier = sources; read = g; place = refl; refused = f.1 })
  ])

  pub files_read : (files : List TreeFile) → NotNone ((r : Reading) × IsReading p files r)
  files_read files = reads_on [] files [] none
