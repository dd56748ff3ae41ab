-- Whether a platform chooses a file.
-- Own: words of the contracts inside this program.
use Rattle.std.specs.Prelude.{◌≡◌, ℕ, Bool, false, Option, None, Some, List}
use Rattle.go_model.specs.declared.files.platform.Platform.{Platform}
use Rattle.go_model.specs.declared.files.build.Header.{Header}
use Rattle.go_model.specs.files.BuildValues.{name_holds, is_chosen}
use Rattle.go_model.specs.files.Headers.{IsHeader}
use Rattle.tags.specs.declared.case.Decision.{Decision}

-- where the name leaves the file out, no header was read; else it is the file's, and the file is chosen by both
abbrev pub ByHeader : Platform → List ℕ → List ℕ → Bool → Option Header → Type 0
ByHeader platform name text chosen None = (name_holds platform name ≡ false) × (chosen ≡ false)
ByHeader platform name text chosen (Some header) = IsHeader text header × (chosen ≡ is_chosen platform name header.constraint)

-- the decision on a file of this name and text
abbrev pub IsDecision : Platform → List ℕ → List ℕ → Decision → Type 0
IsDecision platform name text decision = ByHeader platform name text decision.is_chosen decision.header
