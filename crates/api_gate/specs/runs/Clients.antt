-- What verdicts promise the clients of a module.
-- Own: the profile, and this project's verdicts.
use Rattle.std.specs.Prelude.{◌≡◌, ◌⊎◌, ℕ, Option, Some, List, [], ◌∷◌}
use Rattle.api_inputs.specs.declared.inputs.Inputs.{Inputs}
use Rattle.api_judge.specs.declared.verdict.Verdict.{Verdict}
use Rattle.api_lines.specs.declared.line.Line.{Line}
use Rattle.api_texts.specs.declared.left_out.LeftOut.{LeftOut}
use Rattle.api_words.specs.declared.request.Request.{Request}
use Rattle.api_clients.specs.go_clients.ProfileClients.{IsProfileTyped}
use Rattle.go_model.specs.declared.files.platform.Platform.{Platform}
use Rattle.go_model.specs.declared.files.tree.Tree.{Tree}
use Rattle.go_model.specs.files.Platforms.{bits_of}
use Rattle.go_outside.specs.Stores.{Contents}
use Rattle.api_gate.specs.runs.Outcomes.{AreFound, Asks, modules_of}

-- one of these verdicts, which stand in the order of these platforms, and its platform
abbrev pub IsVerdictOf : List Platform → List Verdict → Platform → Verdict → Type 0
IsVerdictOf [] vs p v = ⊥
IsVerdictOf (q ∷ ps) [] p v = ⊥
IsVerdictOf (q ∷ ps) (w ∷ vs) p v = ((q ≡ p) × (w ≡ v)) ⊎ IsVerdictOf ps vs p v

-- on each platform whose verdict tells no break, each client of the profile that is typed against the old tree is typed against the new one
abbrev pub KeepsClients : List (List ℕ) → Option Contents → Type 0
KeepsClients words told = (r : Request) (i : Inputs) (old : Tree) (lists : List (List Line)) (vs : List Verdict) (ls : List LeftOut) → Asks words told r i → i.old_tree ≡ Some old → AreFound r i lists vs ls
    → (p : Platform) (v : Verdict) → IsVerdictOf r.platforms vs p v → v.breaks ≡ []
    → (client : Tree) → IsProfileTyped p (bits_of p) (modules_of i) old i.std_tree client → IsProfileTyped p (bits_of p) (modules_of i) i.tree i.std_tree client
