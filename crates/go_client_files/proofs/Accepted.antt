-- What is answered of a client whose files are read.
use Rattle.std.proofs.Common.{◌≡◌, ℕ, false, List, Ok, Err, Result, sym, ap, ◌∙◌, subst}
use Rattle.std.specs.Prelude.{IfOk, IfErr}
use Rattle.go_client_files.specs.ClientFiles.{AreClientFiles, AreOfOne, GivesParsed, IsFirstFaulty, ReadsClient, client_files}
use Rattle.go_client_files.specs.declared.parsed.ParsedFile.{ParsedFile}
use Rattle.go_client_files.specs.declared.uses.ClientFiles.{ClientFiles}
use Rattle.go_client_files.specs.inner.Making.{CheckCause, IsAccepted, IsClientFolder}
use Rattle.go_imports.specs.Gives.{Gives}
use Rattle.go_model.specs.declared.files.platform.Platform.{Platform}
use Rattle.go_model.specs.declared.files.tree.Tree.{Tree}
use Rattle.go_model.specs.types.Terms.{client_path}
use Rattle.go_units.specs.PackageUses.{AreFree, IsFirstInternal}
use Rattle.go_units.specs.declared.folder.Folder.{Folder}
use Rattle.go_units.specs.declared.package_uses.PackageFile.{PackageFile}
use Rattle.go_units.specs.declared.reader.FileFault.{FileFault}
use Rattle.go_units.specs.declared.unit_error.UnitError.{UnitError}
use Rattle.go_units.specs.declared.unit_error.UnitError.TheVariants as error
use Rattle.go_units.specs.inner.Refusals.{InternalCause, IsMixed, IsRefused}

module _ (module_path : List ℕ) (folders : List Folder) (client : Folder) (is : IsClientFolder client) where
  pub mixed : (xs : List ParsedFile) (e : UnitError) → (AreOfOne xs → ⊥) → IsMixed client e → CheckCause module_path folders xs e
  mixed xs (error.File at f) n k = k
  mixed xs (error.MixedNames path) n k = (sym is.0 ∙ k, n)
  mixed xs (error.InternalUse at place) n k = absurd k
  mixed xs (error.Cycle path) n k = k
  mixed xs error.NoMemory n k = tt

  pub internal : (xs : List ParsedFile) (list : ClientFiles) (e : UnitError) → AreOfOne xs → AreClientFiles module_path folders xs list → InternalCause client list.files e → CheckCause module_path folders xs e
  internal xs list (error.File at f) one a k = k
  internal xs list (error.MixedNames path) one a k = absurd k
  internal xs list (error.InternalUse at place) one a k = (sym is.0 ∙ k.0, one, list, a, subst (λ (q : List ℕ). IsFirstInternal q false list.files at.file place) is.0 (subst (λ b. IsFirstInternal client.path b list.files at.file place) is.1 k.1))
  internal xs list (error.Cycle path) one a k = k
  internal xs list error.NoMemory one a k = tt

  pub free : (list : ClientFiles) → AreFree client.path client.from_std list.files → AreFree client_path false list.files
  free list k = subst (λ (q : List ℕ). AreFree q false list.files) is.0 (subst (λ b. AreFree client.path b list.files) is.1 k)

  module _ (p : Platform) (tree : Tree) where
    pub faulty : (at : List ℕ) (f : FileFault) (e : UnitError) → IsFirstFaulty p (client_files tree) at f → IsRefused client at f e → ReadsClient module_path folders p tree (Err e)
    faulty at f (error.File a g) h k = (sym is.0 ∙ k.0, subst (IsFirstFaulty p (client_files tree) a.file) k.2 (subst (λ (q : List ℕ). IsFirstFaulty p (client_files tree) q f) k.1 h))
    faulty at f (error.MixedNames path) h k = absurd k
    faulty at f (error.InternalUse a place) h k = absurd k
    faulty at f (error.Cycle path) h k = k
    faulty at f error.NoMemory h k = tt

    refused_all : (xs : List ParsedFile) (e : UnitError) → Gives (GivesParsed p) (client_files tree) xs → CheckCause module_path folders xs e → ReadsClient module_path folders p tree (Err e)
    refused_all xs (error.File at f) g k = absurd k
    refused_all xs (error.MixedNames path) g k = (k.0, xs, g, k.1)
    refused_all xs (error.InternalUse at place) g k = (k.0, xs, record { given = g; one = k.1 }, k.2, k.3, k.4)
    refused_all xs (error.Cycle path) g k = k
    refused_all xs error.NoMemory g k = tt

    accepted_all : (xs : List ParsedFile) (list : ClientFiles) → Gives (GivesParsed p) (client_files tree) xs → IsAccepted module_path folders xs list → ReadsClient module_path folders p tree (Ok list)
    accepted_all xs list g k = (xs, record { given = g; one = k.one }, k.are, k.free)

    pub answered : (xs : List ParsedFile) (r : Result ClientFiles UnitError) → Gives (GivesParsed p) (client_files tree) xs → IfOk r (IsAccepted module_path folders xs) → IfErr r (CheckCause module_path folders xs) → ReadsClient module_path folders p tree r
    answered xs (Ok list) g a b = accepted_all xs list g a
    answered xs (Err e) g a b = refused_all xs e g b
