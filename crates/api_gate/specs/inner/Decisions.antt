-- What the steps of a run decide, and the outcome that a decision is.
use Rattle.std.specs.Prelude.{◌≡◌, ◌≤◌, ◌||◌, ◌⊎◌, ℕ, Bool, true, false, List, ◌++◌, Option, Some, None, Result, Ok, Err}
use Rattle.std.specs.List.{list_any}
use Rattle.api_advice.specs.declared.class.Class.{Class}
use Rattle.api_advice.specs.declared.release.Release.{Release}
use Rattle.api_clients.specs.ClientAnswers.{AreAnswers, IsFirstRefusal as IsClientRefusal}
use Rattle.api_clients.specs.ClientChecks.{CountsAtMost as CountsClientAtMost}
use Rattle.api_findings.specs.Checks.{CountsAtMost}
use Rattle.api_findings.specs.Findings.{IsFirstRefusal}
use Rattle.api_frozen.specs.Comparison.{IsReport}
use Rattle.api_frozen.specs.declared.signed.Signed.{Signed}
use Rattle.api_inputs.specs.Inputs.{AreInputs, IsInputRefusal}
use Rattle.api_inputs.specs.declared.inputs.InputError.{InputError}
use Rattle.api_inputs.specs.declared.inputs.InputError.TheVariants as input
use Rattle.api_inputs.specs.declared.inputs.Inputs.{Inputs}
use Rattle.api_judge.specs.Verdicts.{class_of, has_break}
use Rattle.api_judge.specs.declared.verdict.Verdict.{Verdict}
use Rattle.api_lines.specs.declared.line.Line.{Line}
use Rattle.api_reports.specs.Clients.{clients_text, has_untyped}
use Rattle.api_reports.specs.declared.clients.ClientAnswer.{ClientAnswer}
use Rattle.api_reports.specs.Reports.{class_text, features_text, has_loss, judge_text, signed_text, version_text}
use Rattle.api_texts.specs.FixedLines.{memory_line, read_line, words_line}
use Rattle.api_texts.specs.declared.left_out.LeftOut.{LeftOut}
use Rattle.api_words.specs.declared.option_name.Mode.{Mode}
use Rattle.api_words.specs.declared.option_name.Mode.TheVariants as mode
use Rattle.api_words.specs.declared.request.AskedVersion.{AskedVersion}
use Rattle.api_words.specs.declared.request.MadeTrees.{MadeTrees}
use Rattle.api_words.specs.declared.request.Request.{Request}
use Rattle.api_findings.specs.api_worlds.declared.error.PlatformError.{PlatformError}
use Rattle.api_findings.specs.api_worlds.declared.error.PlatformError.TheVariants as platform
use Rattle.go_model.specs.declared.files.platform.Platform.{Platform}
use Rattle.go_model.specs.declared.files.tree.Tree.{Tree}
use Rattle.go_model.specs.files.Trees.{IsTree}
use Rattle.go_outside.specs.Faults.{Rose}
use Rattle.go_outside.specs.Stores.{Contents}
use Rattle.api_gate.specs.declared.reports.advice.AdviceFault.{AdviceFault}
use Rattle.api_gate.specs.declared.reports.advice.AdviceFault.TheVariants as fault
use Rattle.api_gate.specs.declared.reports.decision.Decision.{Decision}
use Rattle.api_gate.specs.declared.reports.decision.Decision.TheVariants.{Report, Broken, Words, Refused, ReadFault, NoMemory}
use Rattle.api_gate.specs.declared.status.Status.TheVariants as status
use Rattle.api_gate.specs.runs.Outcomes.{AreFound, AreMerged, IsAdvice, IsAdviceRefusal, IsMadeText, IsReportOn, Outcome, fault_alone, modules_of, reported}

-- what a decision writes, and its status
abbrev pub outcome_of : Decision → Outcome
outcome_of (Report text) = reported false text
outcome_of (Broken text) = reported true text
outcome_of Words = fault_alone status.Words words_line
outcome_of (Refused line) = fault_alone status.Refused line
outcome_of ReadFault = fault_alone status.ReadFault read_line
outcome_of NoMemory = fault_alone status.NoMemory memory_line

-- what the error of reading inputs decides
abbrev pub decision_of : InputError → Decision
decision_of (input.Refused line) = Refused line
decision_of input.ReadFault = ReadFault
decision_of input.NoMemory = NoMemory

-- what the error of what is found decides
abbrev pub unfound : PlatformError → Decision
unfound (platform.Refused line) = Refused line
unfound platform.NoMemory = NoMemory

-- the report with this text, which holds a lost line, a break or an untyped client, or doesn't
abbrev pub report_of : Bool → List ℕ → Decision
report_of true text = Broken text
report_of false text = Report text

-- what it decides that no version is advised
abbrev pub unadvised : AdviceFault → Decision
unadvised (fault.Refused line) = Refused line
unadvised fault.NoMemory = NoMemory

-- ---- parts of reports

-- the text of the features on all platforms
abbrev pub IsFeaturesText : Request → List (List Line) → List ℕ → Type 0
IsFeaturesText r lists text = (features : List Line) × AreMerged r lists features × (text ≡ features_text features)

-- what these features lost and gained
abbrev pub IsComparison : Inputs → List Line → Bool → List ℕ → Type 0
IsComparison i features lost text = (lines : List Signed) × IsReport features i.required i.exceptions lines × (lost ≡ has_loss lines) × (text ≡ signed_text lines)

-- a fault with this line, but for want of memory
abbrev pub IsFaultOf : List ℕ → AdviceFault → Type 0
IsFaultOf line (fault.Refused told) = told ≡ line
IsFaultOf line fault.NoMemory = Unit {0}

-- the text of a version that follows, but for want of memory
abbrev pub IsVersionText : AskedVersion → Release → Result (List ℕ) AdviceFault → Type 0
IsVersionText v next (Ok text) = text ≡ version_text v.word next
IsVersionText v next (Err (fault.Refused line)) = ⊥
IsVersionText v next (Err fault.NoMemory) = Unit {0}

-- the advice, or why there is none; want of memory may come at any time
abbrev pub AnswersAdvice : Option AskedVersion → Class → Result (List ℕ) AdviceFault → Type 0
AnswersAdvice version c (Ok text) = IsAdvice version c text
AnswersAdvice version c (Err (fault.Refused line)) = (v : AskedVersion) × (version ≡ Some v) × IsAdviceRefusal v c line
AnswersAdvice version c (Err fault.NoMemory) = Unit {0}

-- what the generator's trees have, and the class of the release
abbrev pub IsClassedText : Request → List Line → List Verdict → List ℕ → Type 0
IsClassedText r features vs text = (first : List ℕ) × IsMadeText r.made features vs first × (text ≡ first ++ class_text (class_of vs))

-- the report of the mode `make`
abbrev pub IsMakeText : Request → List (List Line) → List Verdict → List ℕ → Type 0
IsMakeText r lists vs text = (features : List Line) × AreMerged r lists features × IsClassedText r features vs text

-- the report of the mode `gate` with these signed lines and this advice, but for want of memory
abbrev pub IsGateDecision : Request → List Verdict → List LeftOut → Bool → List ℕ → List ℕ → Decision → Type 0
IsGateDecision r vs ls lost lines advice d = (d ≡ NoMemory) ⊎ (d ≡ report_of (lost || list_any has_break vs) (lines ++ judge_text r.platforms vs ls ++ advice))

-- the report of what is told of a client, but for want of memory
abbrev pub IsClientDecision : List Platform → List ClientAnswer → Decision → Type 0
IsClientDecision ps given d = (d ≡ NoMemory) ⊎ (d ≡ report_of (has_untyped given) (clients_text ps given))

-- ---- decisions

-- what findings decide: the report of the request, or why no version is advised
abbrev pub IsOfFindings : Request → Inputs → List (List Line) → List Verdict → List LeftOut → Decision → Type 0
IsOfFindings r i lists vs ls (Report text) = IsReportOn r i lists vs ls false text
IsOfFindings r i lists vs ls (Broken text) = IsReportOn r i lists vs ls true text
IsOfFindings r i lists vs ls Words = ⊥
IsOfFindings r i lists vs ls (Refused line) = (v : AskedVersion) × (r.version ≡ Some v) × IsAdviceRefusal v (class_of vs) line
IsOfFindings r i lists vs ls ReadFault = ⊥
IsOfFindings r i lists vs ls NoMemory = Unit {0}

-- what inputs decide: what is found in them decides so, or what is told of a client, or a platform refuses them
pub data IsOfInputs (r : Request) (i : Inputs) : Decision → Type 0 where
  of_findings : {d : Decision} (lists : List (List Line)) (vs : List Verdict) (ls : List LeftOut) → AreFound r i lists vs ls → IsOfFindings r i lists vs ls d → IsOfInputs r i d
  of_platform : {line : List ℕ} → i.client ≡ None → IsFirstRefusal (modules_of i) i.old_tree i.tree i.std_tree r.platforms line → IsOfInputs r i (Refused line)
  of_answers : {d : Decision} (c : Tree) (given : List ClientAnswer) → i.client ≡ Some c → AreAnswers (modules_of i) i.tree i.std_tree c r.platforms given → IsClientDecision r.platforms given d → IsOfInputs r i d
  of_client : {line : List ℕ} (c : Tree) → i.client ≡ Some c → IsClientRefusal (modules_of i) i.tree i.std_tree c r.platforms line → IsOfInputs r i (Refused line)
  no_room : IsOfInputs r i NoMemory

-- what a store decides that told this and counted so many faults before and after: its inputs decide so, or they aren't read
pub data IsOfStore (told : Option Contents) (before now : ℕ) (r : Request) : Decision → Type 0 where
  of_inputs : {d : Decision} (i : Inputs) → AreInputs told r i → IsOfInputs r i d → IsOfStore told before now r d
  of_refusal : {line : List ℕ} → IsInputRefusal told r line → IsOfStore told before now r (Refused line)
  of_fault : Rose before now → IsOfStore told before now r ReadFault
  no_space : IsOfStore told before now r NoMemory

-- how many packages are checked for inputs: at most those of the trees, or of the module with a client
abbrev pub ChecksIn : Request → Inputs → ℕ → ℕ → Type 0
ChecksIn r i before now = ((i.client ≡ None) × CountsAtMost (modules_of i) i.old_tree i.tree i.std_tree r.platforms before now)
    ⊎ ((c : Tree) × (i.client ≡ Some c) × CountsClientAtMost (modules_of i) i.tree i.std_tree c r.platforms before now)

-- how many are checked for a request over files: none, or at most those of its inputs
abbrev pub ChecksFor : Option Contents → Request → ℕ → ℕ → Type 0
ChecksFor told r before now = (now ≤ before) ⊎ ((i : Inputs) × AreInputs told r i × ChecksIn r i before now)

-- ---- what is given

-- a client that is given keeps the facts of trees
abbrev pub IsClientTree : Option Tree → Type 0
IsClientTree None = Unit {0}
IsClientTree (Some client) = IsTree client

-- where no client is given, the mode isn't the one that asks for it
abbrev pub IsFinding : {A : Type 0} → Mode → Option A → Type 0
IsFinding m client = client ≡ None → m ≡ mode.Vet → ⊥

-- what the generator is asked for is few enough
abbrev pub IsFew : Option MadeTrees → Type 0
IsFew None = Unit {0}
IsFew (Some m) = (1 ≤ m.size) × (m.size ≤ 2000)
