-- What the definitions give for the words and the files: what goes to the output, the fault line and the status.
-- Own: this project's reports and exit statuses.
use Rattle.std.specs.Prelude.{◌≡◌, ◌≤◌, ◌||◌, ℕ, Bool, false, if◌then◌else◌, Option, Some, None, List, [], ◌∷◌, ◌++◌, length}
use Rattle.std.specs.List.{list_any}
use Rattle.api_advice.specs.Advice.{IsNext}
use Rattle.api_clients.specs.ClientAnswers.{AreAnswers, IsFirstRefusal as IsClientRefusal}
use Rattle.api_clients.specs.ClientChecks.{CountsAtMost as CountsClientAtMost}
use Rattle.api_advice.specs.declared.class.Class.{Class}
use Rattle.api_advice.specs.declared.release.Release.{Release}
use Rattle.api_findings.specs.Checks.{CountsAtMost}
use Rattle.api_findings.specs.Findings.{AreFindings, AreLeftOut, IsFirstRefusal}
use Rattle.api_frozen.specs.Comparison.{IsReport}
use Rattle.api_frozen.specs.declared.signed.Signed.{Signed}
use Rattle.api_generator.specs.MadeTrees.{made_contents}
use Rattle.api_inputs.specs.Inputs.{AreInputs, IsInputRefusal}
use Rattle.api_inputs.specs.declared.inputs.Inputs.{Inputs}
use Rattle.api_judge.specs.Verdicts.{class_of, has_break}
use Rattle.api_judge.specs.declared.verdict.Verdict.{Verdict}
use Rattle.api_lines.specs.Lines.{IsListing}
use Rattle.api_lines.specs.Merging.{IsMerged}
use Rattle.api_lines.specs.declared.line.Line.{Line}
use Rattle.api_reports.specs.Clients.{clients_text, has_untyped}
use Rattle.api_reports.specs.declared.clients.ClientAnswer.{ClientAnswer}
use Rattle.api_reports.specs.Reports.{class_text, count_breaks, counted_class_text, features_text, has_loss, judge_text, made_text, signed_text, skipped_text, version_text}
use Rattle.api_texts.specs.FaultLines.{no_version_line, not_release_line}
use Rattle.api_texts.specs.FixedLines.{words_line}
use Rattle.api_texts.specs.declared.left_out.LeftOut.{LeftOut}
use Rattle.api_words.specs.Words.{AreBad, IsRequest}
use Rattle.api_words.specs.declared.option_name.Mode.TheVariants as mode
use Rattle.api_words.specs.declared.request.AskedVersion.{AskedVersion}
use Rattle.api_words.specs.declared.request.MadeTrees.{MadeTrees}
use Rattle.api_words.specs.declared.request.Request.{Request}
use Rattle.go_model.specs.declared.files.tree.Tree.{Tree}
use Rattle.go_outside.specs.Stores.{Contents}
use Rattle.api_gate.specs.declared.status.Status.{Status}
use Rattle.api_gate.specs.declared.status.Status.TheVariants as status

-- what goes to the output, the fault line, and the status
pub record Outcome : Type 0 where
  pub output : List ℕ
  pub fault_line : List ℕ
  pub status : Status

-- a report and no fault line, and whether the report holds a lost line, a break or an untyped client
abbrev pub reported : Bool → List ℕ → Outcome
reported is_broken text = record { output = text; fault_line = []; status = if is_broken then status.Broken else status.Pass }

-- a fault line alone
abbrev pub fault_alone : Status → List ℕ → Outcome
fault_alone status line = record { output = []; fault_line = line; status = status }

-- ---- what a run reads

-- the files of a run: those of the store, or the generator's own
abbrev pub files_of : Option Contents → Option MadeTrees → Option Contents
files_of told None = told
files_of told (Some m) = Some (made_contents m.seed m.size)

-- the module paths of a run, which packages of the standard library can't have
abbrev pub module_of_old : Option Tree → List (List ℕ)
module_of_old None = []
module_of_old (Some tree) = tree.«module» ∷ []

abbrev pub modules_of : Inputs → List (List ℕ)
modules_of i = i.tree.«module» ∷ module_of_old i.old_tree

-- ---- reports

-- the features on all platforms, in one list
abbrev pub AreMerged : Request → List (List Line) → List Line → Type 0
AreMerged r lists merged = IsListing (IsMerged lists r.platforms) merged

-- what the module lost and gained against the lines that were read, and whether it lost some
abbrev pub IsSignedReport : Request → Inputs → List (List Line) → Bool → List ℕ → Type 0
IsSignedReport r i lists is_broken text = (features : List Line) × (lines : List Signed) × AreMerged r lists features × IsReport features i.required i.exceptions lines
    × (is_broken ≡ has_loss lines) × (text ≡ signed_text lines)

-- the advice after a release of some version: the version that follows
abbrev pub IsAdvice : Option AskedVersion → Class → List ℕ → Type 0
IsAdvice None c text = text ≡ []
IsAdvice (Some v) c text = (last next : Release) × (v.release ≡ Some last) × IsNext last c (Some next) × (text ≡ version_text v.word next)

-- that version isn't a release, or none can follow it
pub data IsAdviceRefusal (v : AskedVersion) (c : Class) : List ℕ → Type 0 where
  no_release : v.release ≡ None → IsAdviceRefusal v c (not_release_line v.word)
  no_version : (last : Release) → v.release ≡ Some last → IsNext last c None → IsAdviceRefusal v c (no_version_line v.word)

-- what the generator's trees have
abbrev pub IsMadeText : Option MadeTrees → List Line → List Verdict → List ℕ → Type 0
IsMadeText None features vs text = text ≡ []
IsMadeText (Some m) features vs text = text ≡ made_text m.size (length features) (count_breaks vs)

-- the report of a request on its inputs, on what is found there and on what is left out, and whether it holds a lost line or a break
pub data IsReportOn (r : Request) (i : Inputs) (lists : List (List Line)) (vs : List Verdict) (ls : List LeftOut) : Bool → List ℕ → Type 0 where
  features_report : (features : List Line) → r.mode ≡ mode.Features → AreMerged r lists features → IsReportOn r i lists vs ls false (features_text features)
  frozen_report : {is_broken : Bool} {text : List ℕ} → r.mode ≡ mode.Frozen → IsSignedReport r i lists is_broken text → IsReportOn r i lists vs ls is_broken text
  judge_report : r.mode ≡ mode.Judge → IsReportOn r i lists vs ls (list_any has_break vs) (judge_text r.platforms vs ls)
  advise_report : (advice : List ℕ) → r.mode ≡ mode.Advise → IsAdvice r.version (class_of vs) advice → IsReportOn r i lists vs ls false (counted_class_text r.platforms ls (class_of vs) ++ advice)
  gate_report : (is_broken : Bool) (text advice : List ℕ) → r.mode ≡ mode.Gate → IsSignedReport r i lists is_broken text → IsAdvice r.version (class_of vs) advice
      → IsReportOn r i lists vs ls (is_broken || list_any has_break vs) (text ++ judge_text r.platforms vs ls ++ advice)
  skipped_report : r.mode ≡ mode.Skipped → IsReportOn r i lists vs ls false (skipped_text r.platforms ls)
  make_report : (text : List ℕ) (features : List Line) → r.mode ≡ mode.Make → AreMerged r lists features → IsMadeText r.made features vs text
      → IsReportOn r i lists vs ls false (text ++ class_text (class_of vs))

-- ---- outcomes

-- where there is no client, this is found in the trees of the inputs, and this is left out
pub record AreFound (r : Request) (i : Inputs) (lists : List (List Line)) (vs : List Verdict) (ls : List LeftOut) : Type 0 where
  pub alone : i.client ≡ None
  pub findings : AreFindings (modules_of i) i.old_tree i.tree i.std_tree r.platforms lists vs
  pub left_out : AreLeftOut (modules_of i) i.std_tree i.old_tree i.tree r.platforms ls

module _ (words : List (List ℕ)) (told : Option Contents) where
  -- the words make this request, and these are its inputs
  pub record Asks (r : Request) (i : Inputs) : Type 0 where
    pub request : IsRequest words r
    pub inputs : AreInputs (files_of told r.made) r i

  -- what the words end with, over a store that tells this: the first refusal in this order, or the report. Where there is a client, the report
  -- is what is told of it
  pub data EndsWith : Outcome → Type 0 where
    bad_words : AreBad words → EndsWith (fault_alone status.Words words_line)
    refused_inputs : {line : List ℕ} (r : Request) → IsRequest words r → IsInputRefusal (files_of told r.made) r line → EndsWith (fault_alone status.Refused line)
    refused_platform : {line : List ℕ} (r : Request) (i : Inputs) → Asks r i → i.client ≡ None → IsFirstRefusal (modules_of i) i.old_tree i.tree i.std_tree r.platforms line
        → EndsWith (fault_alone status.Refused line)
    refused_advice : {line : List ℕ} (r : Request) (i : Inputs) (v : AskedVersion) (lists : List (List Line)) (vs : List Verdict) (ls : List LeftOut) → Asks r i → AreFound r i lists vs ls
        → r.version ≡ Some v → IsAdviceRefusal v (class_of vs) line → EndsWith (fault_alone status.Refused line)
    reported_findings : {text : List ℕ} (is_broken : Bool) (r : Request) (i : Inputs) (lists : List (List Line)) (vs : List Verdict) (ls : List LeftOut) → Asks r i → AreFound r i lists vs ls
        → IsReportOn r i lists vs ls is_broken text → EndsWith (reported is_broken text)
    refused_client : {line : List ℕ} (r : Request) (i : Inputs) (c : Tree) → Asks r i → i.client ≡ Some c → IsClientRefusal (modules_of i) i.tree i.std_tree c r.platforms line → EndsWith (fault_alone status.Refused line)
    vetted : (r : Request) (i : Inputs) (c : Tree) (given : List ClientAnswer) → Asks r i → i.client ≡ Some c → AreAnswers (modules_of i) i.tree i.std_tree c r.platforms given
        → EndsWith (reported (has_untyped given) (clients_text r.platforms given))

  -- a counter of checks rises by at most the packages of both trees on the request's platforms together, or stays; where there is a client, by at
  -- most those of the module and those that it and the client reach
  pub data ChecksAtMost (before now : ℕ) : Type 0 where
    no_check : now ≤ before → ChecksAtMost before now
    checked : (r : Request) (i : Inputs) → Asks r i → i.client ≡ None → CountsAtMost (modules_of i) i.old_tree i.tree i.std_tree r.platforms before now → ChecksAtMost before now
    checked_client : (r : Request) (i : Inputs) (c : Tree) → Asks r i → i.client ≡ Some c → CountsClientAtMost (modules_of i) i.tree i.std_tree c r.platforms before now → ChecksAtMost before now
