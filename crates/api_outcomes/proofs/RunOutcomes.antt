-- Words and files have an outcome.
use Rattle.std.proofs.Common.{◌≡◌, ◌≢◌, ◌⊎◌, ℕ, Bool, true, false, ◌||◌, List, [], ◌∷◌, ◌++◌, length, Option, Some, None, Result, Ok, refl, sym, ◌∙◌, subst, inl, inr, arith}
use Rattle.std.specs.List.{list_any}
use mathlib.Core.Bool.{true≢false}
use Rattle.api_findings.specs.Findings.{IsFirstRefusal}
use Rattle.api_frozen.specs.Comparison.{IsReport}
use Rattle.api_generator.specs.MadeTrees.{made_contents}
use Rattle.api_gate.specs.runs.Outcomes.{AreFound, Asks, EndsWith, IsAdvice, IsMadeText, IsReportOn, IsSignedReport, Outcome, advise_report, bad_words, fault_alone, features_report, files_of, frozen_report, gate_report, judge_report, make_report, skipped_report, module_of_old, modules_of, refused_advice, refused_client, refused_inputs, refused_platform, reported, reported_findings, vetted}
use Rattle.api_gate.specs.declared.status.Status.TheVariants as status
use Rattle.api_gate.proofs.RequestFacts.{client_given, client_tree, finding_kept}
use Rattle.api_gate.specs.inner.Decisions.{IsClientTree, IsFinding}
use Rattle.api_inputs.specs.Inputs.{AreInputs, IsInputRefusal, MayHaveOld}
use Rattle.api_inputs.specs.Reads.{MayHaveStd, MayLoad, no_tree}
use Rattle.api_inputs.specs.declared.inputs.Inputs.{Inputs}
use Rattle.api_judge.specs.Verdicts.{IsVerdict, class_of, has_break}
use Rattle.api_judge.specs.declared.verdict.Verdict.{Verdict}
use Rattle.api_line_outcomes.proofs.LineLists.{lines_merged}
use Rattle.api_line_outcomes.proofs.SignedLines.{lines_compared}
use Rattle.api_lines.specs.declared.line.Line.{Line}
use Rattle.api_outcomes.proofs.ClientAnswers.{ClientsBelow, answers_end}
use Rattle.api_outcomes.proofs.FindingOutcomes.{findings_end}
use Rattle.api_outcomes.proofs.InputOutcomes.{inputs_end}
use Rattle.api_outcomes.proofs.NextVersions.{advice_there, request_roomy}
use Rattle.api_outcomes.proofs.WorldsOn.{Below, IsRead}
use Rattle.api_reports.specs.Clients.{clients_text, has_untyped}
use Rattle.api_reports.specs.Reports.{class_text, count_breaks, counted_class_text, features_text, has_loss, judge_text, made_text, signed_text, skipped_text}
use Rattle.api_texts.specs.declared.left_out.LeftOut.{LeftOut}
use Rattle.api_texts.specs.FixedLines.{words_line}
use Rattle.api_words.specs.Words.{IsRequest}
use Rattle.api_words.specs.declared.option_name.Mode.{Mode}
use Rattle.api_words.specs.declared.option_name.Mode.TheVariants as mode
use Rattle.api_words.specs.declared.request.MadeTrees.{MadeTrees}
use Rattle.api_words.specs.declared.request.Request.{Request}
use Rattle.go_base.specs.Lists.{Has}
use Rattle.go_existence.specs.Existence.{NotNone}
use Rattle.go_existence.proofs.DoubleNegation.{bind, decided, so, sure}
use Rattle.go_load.specs.declared.error.LoadError.{LoadError}
use Rattle.go_model.specs.declared.files.tree.Tree.{Tree}
use Rattle.go_model.specs.files.Trees.{IsModulePath, IsTree, are_elements, begins_element, is_element}
use Rattle.go_model.specs.worlds.Worlds.{Packages}
use Rattle.go_outside.specs.Stores.{Contents}

-- ---- trees that are read

no_elements : are_elements [] ≡ true → ⊥
unfolding is_element begins_element
no_elements e = true≢false (sym e)

module_named : (path : List ℕ) → IsModulePath path → path ≢ []
module_named path is e = no_elements (subst (λ (q : List ℕ). are_elements q ≡ true) e is.0)

empty_tree : IsTree no_tree
empty_tree = record { named = inl refl; few = omega arith; held = tt }

ok_same : (s t : Tree) → ◌≡◌ {A = Result Tree LoadError} (Ok s) (Ok t) → s ≡ t
ok_same s t e = cc

std_read : (told : Option Contents) (o : Option (List ℕ)) (t : Tree) → MayHaveStd told o (Ok t) → IsTree t
std_read told None t e = subst IsTree (sym (ok_same t no_tree e)) empty_tree
std_read told (Some root) t h = h.tree

tree_read : (told : Option Contents) (r : Request) (i : Inputs) → AreInputs told r i → IsRead (modules_of i) i.tree
tree_read told r i a = record { is = a.tree.tree; named = module_named i.tree.«module» a.tree.module_path; bars = inl refl }

none_some : {A : Type 0} (x : A) → ◌≡◌ {A = Option A} None (Some x) → ⊥
none_some x e = absurd (cc)

some_same : {A : Type 0} (x y : A) → ◌≡◌ {A = Option A} (Some x) (Some y) → x ≡ y
some_same x y e = cc

loaded_old : (told : Option Contents) (root : Option (List ℕ)) (t : Option Tree) → MayHaveOld told root t → (o : Tree) → t ≡ Some o → IsTree o × IsModulePath o.«module»
loaded_old told None t h o e = absurd (none_some o (sym h ∙ e))
loaded_old told (Some root) t h o e = subst (λ (x : Tree). IsTree x × IsModulePath x.«module») (some_same h.0 o (sym h.2 ∙ e)) (h.1.tree, h.1.module_path)

old_read : (told : Option Contents) (r : Request) (i : Inputs) → AreInputs told r i → (o : Tree) → i.old_tree ≡ Some o → IsRead (modules_of i) o
old_read told r i a o e = let l = loaded_old told r.old i.old_tree a.old_tree o e in
    record { is = l.0; named = module_named o.«module» l.1; bars = inr (subst (λ (t : Option Tree). Has (module_of_old t) o.«module») (sym e) (inl refl)) }

-- ---- reports

module _ (r : Request) (i : Inputs) (lists : List (List Line)) (vs : List Verdict) (ls : List LeftOut) where
  abbrev Reports : Type 0
  Reports = (is_broken : Bool) × (text : List ℕ) × IsReportOn r i lists vs ls is_broken text

  record SignedText : Type 0 where
    is_broken : Bool
    text : List ℕ
    is : IsSignedReport r i lists is_broken text

  of_frozen : NotNone SignedText
  of_frozen = bind (lines_merged lists r.platforms) (λ f. so (lines_compared f.0 i.required i.exceptions) (λ l.
      record { is_broken = has_loss l.0; text = signed_text l.0; is = (f.0, l.0, f.1, l.1, refl, refl) }))

  made_there : (o : Option MadeTrees) (features : List Line) → (text : List ℕ) × IsMadeText o features vs text
  made_there None features = ([], refl)
  made_there (Some m) features = (made_text m.size (length features) (count_breaks vs), refl)

  by_mode : (x : Mode) → r.mode ≡ x → (r.mode ≡ mode.Vet → ⊥) → (advice : List ℕ) → IsAdvice r.version (class_of vs) advice → NotNone Reports
  by_mode mode.Vet e finds advice a = absurd (finds e)
  by_mode mode.Features e finds advice a = so (lines_merged lists r.platforms) (λ f. (false, features_text f.0, features_report f.0 e f.1))
  by_mode mode.Frozen e finds advice a = so of_frozen (λ s. (s.is_broken, s.text, frozen_report e s.is))
  by_mode mode.Judge e finds advice a = sure (list_any has_break vs, judge_text r.platforms vs ls, judge_report e)
  by_mode mode.Advise e finds advice a = sure (false, counted_class_text r.platforms ls (class_of vs) ++ advice, advise_report advice e a)
  by_mode mode.Gate e finds advice a = so of_frozen (λ s. (s.is_broken || list_any has_break vs, s.text ++ judge_text r.platforms vs ls ++ advice, gate_report s.is_broken s.text advice e s.is a))
  by_mode mode.Skipped e finds advice a = sure (false, skipped_text r.platforms ls, skipped_report e)
  by_mode mode.Make e finds advice a = so (lines_merged lists r.platforms) (λ f. (let t = made_there r.made f.0 in (false, t.0 ++ class_text (class_of vs), make_report t.0 f.0 e f.1 t.1)))

-- ---- runs

held : (m : Contents) (o : Option MadeTrees) → (c : Contents) × (files_of (Some m) o ≡ Some c)
held m None = (m, refl)
held m (Some k) = (made_contents k.seed k.size, refl)

module _ (below : Below) (clients : ClientsBelow) (judged : (before now : Packages) → NotNone ((v : Verdict) × IsVerdict before now v)) (words : List (List ℕ)) (m : Contents) where
  abbrev Ends : Type 0
  Ends = (o : Outcome) × EndsWith words (Some m) o

  of_findings : (r : Request) (i : Inputs) → IsRequest words r → Asks words (Some m) r i → (r.mode ≡ mode.Vet → ⊥) → (lists : List (List Line)) (vs : List Verdict) (ls : List LeftOut) → AreFound r i lists vs ls → NotNone Ends
  of_findings r i is asks finds lists vs ls found = elim (advice_there (class_of vs) r.version (request_roomy words r is)) [
    | inl a ↦ so (by_mode r i lists vs ls r.mode refl finds a.0 a.1) (λ t. (reported t.0 t.1, reported_findings t.0 r i lists vs ls asks found t.2))
    | inr n ↦ sure (fault_alone status.Refused n.1, refused_advice r i n.0 lists vs ls asks found n.2 n.3)
  ]

  of_trees : (r : Request) → IsRequest words r → (i : Inputs) → Asks words (Some m) r i → i.client ≡ None → NotNone Ends
  of_trees r is i asks alone =
      let told = files_of (Some m) r.made in
      let finds : r.mode ≡ mode.Vet → ⊥ = finding_kept told r.mode r.client i.client asks.inputs.client (client_given words r is) alone in
      bind (findings_end below (modules_of i) i.old_tree i.tree i.std_tree (tree_read told r i asks.inputs) (std_read told r.std i.std_tree asks.inputs.std_tree)
      (old_read told r i asks.inputs) (λ o f before now. judged before now) r.platforms) (λ k. elim k [
        | inl found ↦ of_findings r i is asks finds found.0 found.1 found.2 (record { alone = alone; findings = found.3; left_out = found.4 })
        | inr line ↦ sure (fault_alone status.Refused line.0, refused_platform r i asks alone line.1)
      ])

  of_client : (r : Request) → IsRequest words r → (i : Inputs) → Asks words (Some m) r i → (c : Tree) → i.client ≡ Some c → NotNone Ends
  of_client r is i asks c given =
      let told = files_of (Some m) r.made in
      let folder : IsTree c = subst IsClientTree given (client_tree told r.client i.client asks.inputs.client) in
      so (answers_end clients (modules_of i) i.tree i.std_tree c (tree_read told r i asks.inputs) (std_read told r.std i.std_tree asks.inputs.std_tree) folder r.platforms) (λ k. elim k [
        | inl answers ↦ (reported (has_untyped answers.0) (clients_text r.platforms answers.0), vetted r i c answers.0 asks given answers.1)
        | inr line ↦ (fault_alone status.Refused line.0, refused_client r i c asks given line.1)
      ])

  of_inputs : (r : Request) → IsRequest words r → (i : Inputs) → Asks words (Some m) r i → (o : Option Tree) → i.client ≡ o → NotNone Ends
  of_inputs r is i asks None e = of_trees r is i asks e
  of_inputs r is i asks (Some c) e = of_client r is i asks c e

  of_request : (r : Request) → IsRequest words r → NotNone Ends
  of_request r is =
      let h = held m r.made in
      bind (inputs_end h.0 r) (λ k. elim k [
        | inl i ↦ of_inputs r is i.0 (record { request = is; inputs = subst (λ (told : Option Contents). AreInputs told r i.0) (sym h.1) i.1 }) i.0.client refl
        | inr line ↦ sure (fault_alone status.Refused line.0, refused_inputs r is (subst (λ (told : Option Contents). IsInputRefusal told r line.0) (sym h.1) line.1))
      ])

  pub run_ends : NotNone ((o : Outcome) × EndsWith words (Some m) o)
  run_ends = bind (decided ((r : Request) × IsRequest words r)) (λ d. elim d [
    | inl r ↦ of_request r.0 r.1
    | inr never ↦ sure (fault_alone status.Words words_line, bad_words (λ r is. never (r, is)))
  ])
