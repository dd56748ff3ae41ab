-- What decisions are: those of findings, from the parts of their reports; and those of a request, as what a run may write.
use Rattle.std.proofs.Common.{◌≡◌, ◌≤◌, ◌+◌, ◌-◌, ℕ, Bool, true, false, ◌||◌, List, ◌++◌, Option, Some, None, Ok, Err, refl, sym, ap, ◌∙◌, subst, ◌⊎◌, inl, inr, arith}
use Rattle.std.specs.List.{list_any}
use Rattle.std.specs.Prelude.{Result}
use Rattle.api_clients.specs.ClientAnswers.{Answers}
use Rattle.api_findings.specs.Findings.{AnswersFindings, AreLeftOut}
use Rattle.api_findings.specs.declared.findings.Findings.{Findings}
use Rattle.api_advice.specs.Advice.{IsNext}
use Rattle.api_advice.specs.declared.class.Class.{Class}
use Rattle.api_advice.specs.declared.release.Release.{Release}
use Rattle.api_texts.specs.FaultLines.{no_version_line, not_release_line}
use Rattle.api_words.specs.declared.request.AskedVersion.{AskedVersion}
use Rattle.api_findings.specs.api_worlds.declared.error.PlatformError.{PlatformError}
use Rattle.api_findings.specs.api_worlds.declared.error.PlatformError.TheVariants as platform
use Rattle.go_model.specs.declared.files.platform.Platform.{Platform}
use Rattle.go_model.specs.declared.files.tree.Tree.{Tree}
use Rattle.api_generator.specs.MadeTrees.{made_contents}
use Rattle.api_inputs.specs.Inputs.{AnswersInputs, AreInputs}
use Rattle.api_inputs.specs.declared.inputs.InputError.{InputError}
use Rattle.api_inputs.specs.declared.inputs.InputError.TheVariants as input
use Rattle.api_inputs.specs.declared.inputs.Inputs.{Inputs}
use Rattle.api_judge.specs.Verdicts.{class_of, has_break}
use Rattle.api_judge.specs.declared.verdict.Verdict.{Verdict}
use Rattle.api_lines.specs.declared.line.Line.{Line}
use Rattle.api_reports.specs.Clients.{clients_text, has_untyped}
use Rattle.api_reports.specs.declared.clients.ClientAnswer.{ClientAnswer}
use Rattle.api_reports.specs.Reports.{counted_class_text, judge_text, skipped_text}
use Rattle.api_texts.specs.declared.left_out.LeftOut.{LeftOut}
use Rattle.api_words.specs.Words.{IsRequest}
use Rattle.api_words.specs.declared.option_name.Mode.TheVariants as mode
use Rattle.api_words.specs.declared.request.MadeTrees.{MadeTrees}
use Rattle.api_words.specs.declared.request.Request.{Request}
use Rattle.go_outside.specs.Faults.{Rose}
use Rattle.go_outside.specs.Stores.{Contents}
use Rattle.api_gate.specs.declared.reports.advice.AdviceFault.{AdviceFault}
use Rattle.api_gate.specs.declared.reports.advice.AdviceFault.TheVariants as fault
use Rattle.api_gate.specs.declared.reports.decision.Decision.{Decision}
use Rattle.api_gate.specs.declared.reports.decision.Decision.TheVariants as decision
use Rattle.api_gate.specs.inner.Decisions.{AnswersAdvice, ChecksFor, ChecksIn, IsClientDecision, IsFeaturesText, IsGateDecision, IsMakeText, IsOfFindings, IsOfInputs, of_answers, of_client, of_findings, of_platform, no_room, IsOfStore, of_inputs, of_refusal, of_fault, no_space, decision_of, outcome_of, report_of, unadvised, unfound, IsFaultOf}
use Rattle.api_gate.specs.runs.Effects.{Change}
use Rattle.api_gate.specs.runs.Outcomes.{AreFound, ChecksAtMost, checked, checked_client, no_check, refused_inputs, refused_platform, refused_advice, refused_client, reported, reported_findings, vetted, IsAdvice, IsAdviceRefusal, no_release, no_version, IsReportOn, features_report, judge_report, advise_report, gate_report, skipped_report, make_report, IsSignedReport, files_of, modules_of}
use Rattle.api_gate.specs.runs.Runs.{MayWrite, defined, store_failed, no_memory}

-- ---- advice

pub no_release_answers : (v : AskedVersion) (c : Class) (f : AdviceFault) → v.release ≡ None → IsFaultOf (not_release_line v.word) f → AnswersAdvice (Some v) c (Err f)
no_release_answers v c (fault.Refused line) e h = (v, refl, subst (IsAdviceRefusal v c) (sym h) (no_release e))
no_release_answers v c fault.NoMemory e h = tt

pub no_version_answers : (v : AskedVersion) (c : Class) (last : Release) (f : AdviceFault) → v.release ≡ Some last → IsNext last c None → IsFaultOf (no_version_line v.word) f → AnswersAdvice (Some v) c (Err f)
no_version_answers v c last (fault.Refused line) e n h = (v, refl, subst (IsAdviceRefusal v c) (sym h) (no_version last e n))
no_version_answers v c last fault.NoMemory e n h = tt

-- ---- decisions of findings

module _ (r : Request) (i : Inputs) (lists : List (List Line)) (vs : List Verdict) (ls : List LeftOut) where
  -- a report is one
  pub report_decides : (b : Bool) (text : List ℕ) (d : Decision) → d ≡ report_of b text → IsReportOn r i lists vs ls b text → IsOfFindings r i lists vs ls d
  report_decides b text d e h = subst (IsOfFindings r i lists vs ls) (sym e) (by b h)
    where
      by : (b : Bool) → IsReportOn r i lists vs ls b text → IsOfFindings r i lists vs ls (report_of b text)
      by true h = h
      by false h = h

  pub features_decide : (text : List ℕ) → r.mode ≡ mode.Features → IsFeaturesText r lists text → IsReportOn r i lists vs ls false text
  features_decide text m h = subst (IsReportOn r i lists vs ls false) (sym h.2) (features_report h.0 m h.1)

  pub judge_decides : (d : Decision) (text : List ℕ) (b : Bool) → d ≡ report_of b text → b ≡ list_any has_break vs → text ≡ judge_text r.platforms vs ls → r.mode ≡ mode.Judge → IsOfFindings r i lists vs ls d
  judge_decides d text b e f g m =
      report_decides b text d e (subst (λ (c : Bool). IsReportOn r i lists vs ls c text) (sym f) (subst (IsReportOn r i lists vs ls (list_any has_break vs)) (sym g) (judge_report m)))

  pub advise_decides : (text advice : List ℕ) → r.mode ≡ mode.Advise → IsAdvice r.version (class_of vs) advice → text ≡ counted_class_text r.platforms ls (class_of vs) ++ advice → IsReportOn r i lists vs ls false text
  advise_decides text advice m a e = subst (IsReportOn r i lists vs ls false) (sym e) (advise_report advice m a)

  pub gate_decides : (d : Decision) (lost : Bool) (lines advice : List ℕ) → r.mode ≡ mode.Gate → IsSignedReport r i lists lost lines → IsAdvice r.version (class_of vs) advice
      → IsGateDecision r vs ls lost lines advice d → IsOfFindings r i lists vs ls d
  gate_decides d lost lines advice m s a (inl e) = subst (IsOfFindings r i lists vs ls) (sym e) tt
  gate_decides d lost lines advice m s a (inr e) =
      report_decides (lost || list_any has_break vs) (lines ++ judge_text r.platforms vs ls ++ advice) d e (gate_report lost lines advice m s a)

  pub skipped_decides : (text : List ℕ) → r.mode ≡ mode.Skipped → text ≡ skipped_text r.platforms ls → IsReportOn r i lists vs ls false text
  skipped_decides text m e = subst (IsReportOn r i lists vs ls false) (sym e) (skipped_report m)

  pub make_decides : (text : List ℕ) → r.mode ≡ mode.Make → IsMakeText r lists vs text → IsReportOn r i lists vs ls false text
  make_decides text m h = subst (IsReportOn r i lists vs ls false) (sym h.2.2) (make_report h.2.0 h.0 m h.1 h.2.1)

  -- and so is a refused advice
  pub unadvised_decides : (d : Decision) (f : AdviceFault) → d ≡ unadvised f → AnswersAdvice r.version (class_of vs) (Err f) → IsOfFindings r i lists vs ls d
  unadvised_decides d f e h = subst (IsOfFindings r i lists vs ls) (sym e) (by f h)
    where
      by : (f : AdviceFault) → AnswersAdvice r.version (class_of vs) (Err f) → IsOfFindings r i lists vs ls (unadvised f)
      by (fault.Refused line) h = h
      by fault.NoMemory h = tt

-- ---- decisions of inputs

module _ (r : Request) (i : Inputs) where
  answers_as : (barred : List (List ℕ)) (old : Option Tree) (ps : List Platform) (answer : Result Findings PlatformError) → barred ≡ modules_of i → old ≡ i.old_tree → ps ≡ r.platforms
      → AnswersFindings barred old i.tree i.std_tree ps answer → AnswersFindings (modules_of i) i.old_tree i.tree i.std_tree r.platforms answer
  answers_as barred old ps answer b o p h =
      subst (λ (qs : List Platform). AnswersFindings (modules_of i) i.old_tree i.tree i.std_tree qs answer) p
      (subst (λ (t : Option Tree). AnswersFindings (modules_of i) t i.tree i.std_tree ps answer) o (subst (λ (ms : List (List ℕ)). AnswersFindings ms old i.tree i.std_tree ps answer) b h))

  left_out_as : (barred : List (List ℕ)) (old : Option Tree) (ps : List Platform) (ls : List LeftOut) → barred ≡ modules_of i → old ≡ i.old_tree → ps ≡ r.platforms
      → AreLeftOut barred i.std_tree old i.tree ps ls → AreLeftOut (modules_of i) i.std_tree i.old_tree i.tree r.platforms ls
  left_out_as barred old ps ls b o p h =
      subst (λ (qs : List Platform). AreLeftOut (modules_of i) i.std_tree i.old_tree i.tree qs ls) p
      (subst (λ (t : Option Tree). AreLeftOut (modules_of i) i.std_tree t i.tree ps ls) o (subst (λ (ms : List (List ℕ)). AreLeftOut ms i.std_tree old i.tree ps ls) b h))

  pub unfound_decides : (barred : List (List ℕ)) (old : Option Tree) (ps : List Platform) (e : PlatformError) (d : Decision) → i.client ≡ None → barred ≡ modules_of i → old ≡ i.old_tree → ps ≡ r.platforms → d ≡ unfound e
      → AnswersFindings barred old i.tree i.std_tree ps (Err e) → IsOfInputs r i d
  unfound_decides barred old ps e d n b o p same h = subst (IsOfInputs r i) (sym same) (by e (answers_as barred old ps (Err e) b o p h))
    where
      by : (e : PlatformError) → AnswersFindings (modules_of i) i.old_tree i.tree i.std_tree r.platforms (Err e) → IsOfInputs r i (unfound e)
      by (platform.Refused line) k = of_platform n k
      by platform.NoMemory k = no_room

  pub found_decides : (barred : List (List ℕ)) (old : Option Tree) (ps : List Platform) (f : Findings) (d : Decision) → i.client ≡ None → barred ≡ modules_of i → old ≡ i.old_tree → ps ≡ r.platforms
      → AnswersFindings barred old i.tree i.std_tree ps (Ok f) → AreLeftOut barred i.std_tree old i.tree ps f.left_out → IsOfFindings r i f.features f.verdicts f.left_out d → IsOfInputs r i d
  found_decides barred old ps f d n b o p h l k = of_findings f.features f.verdicts f.left_out (record { alone = n; findings = answers_as barred old ps (Ok f) b o p h; left_out = left_out_as barred old ps f.left_out b o p l }) k

  -- ---- of a client

  told_as : (barred : List (List ℕ)) (c : Tree) (ps : List Platform) (answer : Result (List ClientAnswer) PlatformError) → barred ≡ modules_of i → ps ≡ r.platforms
      → Answers barred i.tree i.std_tree c ps answer → Answers (modules_of i) i.tree i.std_tree c r.platforms answer
  told_as barred c ps answer b p h =
      subst (λ (qs : List Platform). Answers (modules_of i) i.tree i.std_tree c qs answer) p (subst (λ (ms : List (List ℕ)). Answers ms i.tree i.std_tree c ps answer) b h)

  pub untold_decides : (barred : List (List ℕ)) (c : Tree) (ps : List Platform) (e : PlatformError) (d : Decision) → i.client ≡ Some c → barred ≡ modules_of i → ps ≡ r.platforms → d ≡ unfound e
      → Answers barred i.tree i.std_tree c ps (Err e) → IsOfInputs r i d
  untold_decides barred c ps e d s b p same h = subst (IsOfInputs r i) (sym same) (by e (told_as barred c ps (Err e) b p h))
    where
      by : (e : PlatformError) → Answers (modules_of i) i.tree i.std_tree c r.platforms (Err e) → IsOfInputs r i (unfound e)
      by (platform.Refused line) k = of_client c s k
      by platform.NoMemory k = no_room

  pub told_decides : (barred : List (List ℕ)) (c : Tree) (ps : List Platform) (items given : List ClientAnswer) (d : Decision) → i.client ≡ Some c → barred ≡ modules_of i → ps ≡ r.platforms → items ≡ given
      → Answers barred i.tree i.std_tree c ps (Ok given) → IsClientDecision ps items d → IsOfInputs r i d
  told_decides barred c ps items given d s b p l h k =
      of_answers c given s (told_as barred c ps (Ok given) b p h) (subst (λ (qs : List Platform). IsClientDecision qs given d) p (subst (λ (xs : List ClientAnswer). IsClientDecision ps xs d) l k))

pub client_decides : (ps : List Platform) (given : List ClientAnswer) (b : Bool) (text : List ℕ) (d : Decision) → b ≡ has_untyped given → text ≡ clients_text ps given → d ≡ report_of b text → IsClientDecision ps given d
client_decides ps given b text d e f g = inr (g ∙ (λ i. report_of (e i) (f i)))

-- ---- decisions of a store

pub unread_decides : (told : Option Contents) (before now : ℕ) (r : Request) (e : InputError) (d : Decision) → d ≡ decision_of e → AnswersInputs told r before now (Err e) → IsOfStore told before now r d
unread_decides told before now r e d same h = subst (IsOfStore told before now r) (sym same) (by e h)
  where
    by : (e : InputError) → AnswersInputs told r before now (Err e) → IsOfStore told before now r (decision_of e)
    by (input.Refused line) h = of_refusal h
    by input.ReadFault h = of_fault h
    by input.NoMemory h = no_space

report_written : (b : Bool) (text : List ℕ) → outcome_of (report_of b text) ≡ reported b text
report_written true text = refl
report_written false text = refl

module _ (words : List (List ℕ)) (store : Change Contents) (r : Request) (is : IsRequest words r) where
  -- what findings decide may be written
  findings_write : (i : Inputs) (lists : List (List Line)) (vs : List Verdict) (ls : List LeftOut) (d : Decision) → AreInputs (files_of store.told_before r.made) r i → AreFound r i lists vs ls → IsOfFindings r i lists vs ls d
      → MayWrite words store (outcome_of d)
  findings_write i lists vs ls (decision.Report text) a f h = defined (reported_findings false r i lists vs ls (record { request = is; inputs = a }) f h)
  findings_write i lists vs ls (decision.Broken text) a f h = defined (reported_findings true r i lists vs ls (record { request = is; inputs = a }) f h)
  findings_write i lists vs ls decision.Words a f h = absurd h
  findings_write i lists vs ls (decision.Refused line) a f h = defined (refused_advice r i h.0 lists vs ls (record { request = is; inputs = a }) f h.1 h.2)
  findings_write i lists vs ls decision.ReadFault a f h = absurd h
  findings_write i lists vs ls decision.NoMemory a f h = no_memory

  inputs_write : (i : Inputs) (d : Decision) → AreInputs (files_of store.told_before r.made) r i → IsOfInputs r i d → MayWrite words store (outcome_of d)
  inputs_write i d a (of_findings lists vs ls f h) = findings_write i lists vs ls d a f h
  inputs_write i d a (of_platform n h) = defined (refused_platform r i (record { request = is; inputs = a }) n h)
  inputs_write i d a (of_answers c given s t (inl e)) = subst (λ (x : Decision). MayWrite words store (outcome_of x)) (sym e) no_memory
  inputs_write i d a (of_answers c given s t (inr e)) =
      subst (MayWrite words store) (sym (ap outcome_of e ∙ report_written (has_untyped given) (clients_text r.platforms given))) (defined (vetted r i c given (record { request = is; inputs = a }) s t))
  inputs_write i d a (of_client c s h) = defined (refused_client r i c (record { request = is; inputs = a }) s h)
  inputs_write i d a no_room = no_memory

  -- and so may what a store decides that tells the files of the request
  store_writes : (before now : ℕ) (d : Decision) → (Rose before now → (r.made ≡ None) × Rose store.faults_before store.faults_after) → IsOfStore (files_of store.told_before r.made) before now r d
      → MayWrite words store (outcome_of d)
  store_writes before now d rose (of_inputs i a h) = inputs_write i d a h
  store_writes before now d rose (of_refusal h) = defined (refused_inputs r is h)
  store_writes before now d rose (of_fault f) = store_failed r is (rose f).0 (rose f).1
  store_writes before now d rose no_space = no_memory

  files_as : (made : Option MadeTrees) (before now : ℕ) (d : Decision) → r.made ≡ made → IsOfStore (files_of store.told_before made) before now r d → IsOfStore (files_of store.told_before r.made) before now r d
  files_as made before now d e h = subst (λ (m : Option MadeTrees). IsOfStore (files_of store.told_before m) before now r d) (sym e) h

  pub told_writes : (d : Decision) → r.made ≡ None → IsOfStore store.told_before store.faults_before store.faults_after r d → MayWrite words store (outcome_of d)
  told_writes d e h = store_writes store.faults_before store.faults_after d (λ f. (e, f)) (files_as None store.faults_before store.faults_after d e h)

  pub made_writes : (m : MadeTrees) (d : Decision) → r.made ≡ Some m → IsOfStore (Some (made_contents m.seed m.size)) 0 0 r d → MayWrite words store (outcome_of d)
  made_writes m d e h = store_writes 0 0 d (λ f. absurd (omega (arith, f))) (files_as (Some m) 0 0 d e h)

-- ---- checks

module _ (words : List (List ℕ)) (told : Option Contents) (r : Request) (is : IsRequest words r) (before now : ℕ) where
  checks_write : ChecksFor (files_of told r.made) r before now → ChecksAtMost words told before now
  checks_write (inl h) = no_check h
  checks_write (inr h) = elim h.2 [
    | inl k ↦ checked r h.0 (record { request = is; inputs = h.1 }) k.0 k.1
    | inr k ↦ checked_client r h.0 k.0 (record { request = is; inputs = h.1 }) k.1 k.2
  ]

  pub told_checks : r.made ≡ None → ChecksFor told r before now → ChecksAtMost words told before now
  told_checks e h = checks_write (subst (λ (m : Option MadeTrees). ChecksFor (files_of told m) r before now) (sym e) h)

  pub made_checks : (m : MadeTrees) → r.made ≡ Some m → ChecksFor (Some (made_contents m.seed m.size)) r before now → ChecksAtMost words told before now
  made_checks m e h = checks_write (subst (λ (x : Option MadeTrees). ChecksFor (files_of told x) r before now) (sym e) h)

pub inputs_check : (told : Option Contents) (r : Request) (i : Inputs) (before now : ℕ) → AreInputs told r i → (now ≤ before) ⊎ ChecksIn r i before now → ChecksFor told r before now
inputs_check told r i before now a (inl h) = inl h
inputs_check told r i before now a (inr h) = inr (i, a, h)
