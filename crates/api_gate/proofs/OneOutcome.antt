-- The definitions give one outcome for words and files.
use Rattle.std.proofs.Common.{◌≡◌, ◌≢◌, ℕ, Bool, true, Option, Some, None, List, [], map, refl, sym, ap, ◌∙◌, subst}
use Rattle.api_advice.specs.Advice.{IsNext}
use Rattle.api_advice.specs.declared.class.Class.{Class}
use Rattle.api_advice.specs.declared.release.Release.{Release}
use Rattle.api_clients.specs.ClientAnswers.{AreAnswers, IsFirstRefusal as IsClientRefusal}
use Rattle.api_findings.specs.Findings.{AreFindings, AreLeftOut, IsFirstRefusal, shown}
use Rattle.api_inputs.specs.Inputs.{AreInputs, IsInputRefusal}
use Rattle.api_inputs.specs.declared.inputs.Inputs.{Inputs}
use Rattle.api_judge.specs.Verdicts.{class_of}
use Rattle.api_judge.specs.declared.verdict.Verdict.{Verdict}
use Rattle.api_lines.specs.Lines.{IsListing, printed}
use Rattle.api_lines.specs.Merging.{IsMerged}
use Rattle.api_lines.specs.declared.line.Line.{Line}
use Rattle.api_reports.specs.Clients.{clients_text, has_untyped}
use Rattle.api_reports.specs.declared.clients.ClientAnswer.{ClientAnswer}
use Rattle.api_texts.specs.FixedLines.{words_line}
use Rattle.api_texts.specs.declared.left_out.LeftOut.{LeftOut}
use Rattle.api_words.specs.Words.{AreBad, IsRequest}
use Rattle.api_words.specs.declared.request.AskedVersion.{AskedVersion}
use Rattle.api_words.specs.declared.request.MadeTrees.{MadeTrees}
use Rattle.api_words.specs.declared.request.Request.{Request}
use Rattle.go_model.specs.declared.files.platform.Platform.{Platform}
use Rattle.go_model.specs.declared.files.tree.Tree.{Tree}
use Rattle.go_model.specs.files.Trees.{IsTree}
use Rattle.go_outside.specs.Stores.{Contents}
use Rattle.api_generator.specs.MadeTrees.{made_contents}
use Rattle.api_gate.proofs.OneReport.{report_or_refusal, same_report, same_unadvised}
use Rattle.api_gate.proofs.RequestFacts.{named_module, std_tree, takes_version, version_in}
use Rattle.api_gate.specs.declared.status.Status.TheVariants as status
use Rattle.api_gate.specs.runs.Outcomes.{AreFound, AreMerged, EndsWith, bad_words, refused_inputs, refused_platform, refused_advice, refused_client, reported_findings, vetted, IsAdviceRefusal, IsReportOn, Outcome, fault_alone, files_of, modules_of, reported}

-- ---- of one request and its inputs

-- what is found in the inputs ends so
data FoundEnds (r : Request) (i : Inputs) (lists : List (List Line)) (vs : List Verdict) (os : List LeftOut) : Outcome → Type 0 where
  ends_unadvised : {line : List ℕ} (v : AskedVersion) → takes_version r.mode ≡ true → r.version ≡ Some v → IsAdviceRefusal v (class_of vs) line → FoundEnds r i lists vs os (fault_alone status.Refused line)
  ends_reported : {text : List ℕ} (b : Bool) → IsReportOn r i lists vs os b text → FoundEnds r i lists vs os (reported b text)

-- the inputs end so
data InputsEnd (r : Request) (i : Inputs) : Outcome → Type 0 where
  ends_refused : {line : List ℕ} → i.client ≡ None → IsFirstRefusal (modules_of i) i.old_tree i.tree i.std_tree r.platforms line → InputsEnd r i (fault_alone status.Refused line)
  ends_found : {o : Outcome} (lists : List (List Line)) (vs : List Verdict) (os : List LeftOut) → AreFound r i lists vs os → FoundEnds r i lists vs os o → InputsEnd r i o
  ends_untold : {line : List ℕ} (c : Tree) → i.client ≡ Some c → IsClientRefusal (modules_of i) i.tree i.std_tree c r.platforms line → InputsEnd r i (fault_alone status.Refused line)
  ends_told : (c : Tree) (given : List ClientAnswer) → i.client ≡ Some c → AreAnswers (modules_of i) i.tree i.std_tree c r.platforms given → InputsEnd r i (reported (has_untyped given) (clients_text r.platforms given))

-- a request ends so over these files
data RequestEnds (files : Option Contents) (r : Request) : Outcome → Type 0 where
  ends_unread : {line : List ℕ} → IsInputRefusal files r line → RequestEnds files r (fault_alone status.Refused line)
  ends_read : {o : Outcome} (i : Inputs) → AreInputs files r i → InputsEnd r i o → RequestEnds files r o

-- there is no client, or one
none_or_some : (o : Option Tree) (c : Tree) → o ≡ None → o ≡ Some c → ⊥
none_or_some o c e f = let k : ◌≡◌ {A = Option Tree} None (Some c) = sym e ∙ f in cc

same_client : (o : Option Tree) (c d : Tree) → o ≡ Some c → o ≡ Some d → c ≡ d
same_client o c d e f = let k : ◌≡◌ {A = Option Tree} (Some c) (Some d) = sym e ∙ f in cc

module _ (one_next : (r : Release) (c : Class) (a b : Option Release) → IsNext r c a → IsNext r c b → a ≡ b)
    (one_merged : (barred : List (List ℕ)) (old : Option Tree) (tree std : Tree) (ps : List Platform) (a b : List (List Line)) (vs ws : List Verdict) (f g : List Line) → IsTree tree → IsTree std → tree.«module» ≢ []
    → AreFindings barred old tree std ps a vs → AreFindings barred old tree std ps b ws → IsListing (IsMerged a ps) f → IsListing (IsMerged b ps) g → map printed f ≡ map printed g)
    (one_verdict : (barred : List (List ℕ)) (old : Option Tree) (tree std : Tree) (ps : List Platform) (a b : List (List Line)) (vs ws : List Verdict)
    → AreFindings barred old tree std ps a vs → AreFindings barred old tree std ps b ws → map shown vs ≡ map shown ws)
    (one_left_out : (barred : List (List ℕ)) (old : Option Tree) (tree std : Tree) (ps : List Platform) (a b : List LeftOut) → AreLeftOut barred std old tree ps a → AreLeftOut barred std old tree ps b → a ≡ b)
    (one_line : (barred : List (List ℕ)) (old : Option Tree) (tree std : Tree) (ps : List Platform) (a b : List ℕ) → IsFirstRefusal barred old tree std ps a → IsFirstRefusal barred old tree std ps b → a ≡ b)
    (found_or : (barred : List (List ℕ)) (old : Option Tree) (tree std : Tree) (ps : List Platform) (a : List (List Line)) (vs : List Verdict) (line : List ℕ) → AreFindings barred old tree std ps a vs → IsFirstRefusal barred old tree std ps line → ⊥)
    (one_told : (barred : List (List ℕ)) (tree std client : Tree) (ps : List Platform) (a b : List ClientAnswer) → AreAnswers barred tree std client ps a → AreAnswers barred tree std client ps b → a ≡ b)
    (one_untold : (barred : List (List ℕ)) (tree std client : Tree) (ps : List Platform) (a b : List ℕ) → IsClientRefusal barred tree std client ps a → IsClientRefusal barred tree std client ps b → a ≡ b)
    (told_or : (barred : List (List ℕ)) (tree std client : Tree) (ps : List Platform) (a : List ClientAnswer) (line : List ℕ) → AreAnswers barred tree std client ps a → IsClientRefusal barred tree std client ps line → ⊥)
  where
    -- ---- of findings

    module _ (r : Request) (i : Inputs) (fs gs : List (List Line)) (vs ws : List Verdict) (os : List LeftOut) (merged : (f g : List Line) → AreMerged r fs f → AreMerged r gs g → map printed f ≡ map printed g) (seen : map shown vs ≡ map shown ws) where
      one_found : (a b : Outcome) → FoundEnds r i fs vs os a → FoundEnds r i gs ws os b → a ≡ b
      one_found a b (ends_unadvised {line = x} v t e h) (ends_unadvised {line = y} w u f k) = ap (fault_alone status.Refused) (same_unadvised one_next r vs ws seen v w x y e f h k)
      one_found a b (ends_unadvised {line = x} v t e h) (ends_reported {text = y} c k) = absurd (report_or_refusal one_next r i gs vs ws os seen c y x v t e k h)
      one_found a b (ends_reported {text = x} c h) (ends_unadvised {line = y} v t e k) = absurd (report_or_refusal one_next r i fs ws vs os (sym seen) c x y v t e h k)
      one_found a b (ends_reported {text = x} c h) (ends_reported {text = y} d k) = let same = same_report one_next r i fs gs vs ws os merged seen c d x y h k in (λ n. reported (same.0 n) (same.1 n))

    -- ---- of inputs

    module _ (files : Option Contents) (r : Request) (i : Inputs) (inputs : AreInputs files r i) where
      std_kept : IsTree i.std_tree
      std_kept = std_tree files r.std i.std_tree inputs.std_tree

      named : i.tree.«module» ≢ []
      named = named_module i.tree.«module» inputs.tree.module_path

      one_of_inputs : (a b : Outcome) → InputsEnd r i a → InputsEnd r i b → a ≡ b
      one_of_inputs a b (ends_refused {line = x} e h) (ends_refused {line = y} f k) = ap (fault_alone status.Refused) (one_line (modules_of i) i.old_tree i.tree i.std_tree r.platforms x y h k)
      one_of_inputs a b (ends_refused {line = x} e h) (ends_found gs ws os k q) = absurd (found_or (modules_of i) i.old_tree i.tree i.std_tree r.platforms gs ws x k.findings h)
      one_of_inputs a b (ends_refused {line = x} e h) (ends_untold d f k) = absurd (none_or_some i.client d e f)
      one_of_inputs a b (ends_refused {line = x} e h) (ends_told d bs f k) = absurd (none_or_some i.client d e f)
      one_of_inputs a b (ends_found fs vs os h p) (ends_refused {line = y} f k) = absurd (found_or (modules_of i) i.old_tree i.tree i.std_tree r.platforms fs vs y h.findings k)
      one_of_inputs a b (ends_found fs vs os h p) (ends_untold d f k) = absurd (none_or_some i.client d h.alone f)
      one_of_inputs a b (ends_found fs vs os h p) (ends_told d bs f k) = absurd (none_or_some i.client d h.alone f)
      one_of_inputs a b (ends_untold c e h) (ends_refused f k) = absurd (none_or_some i.client c f e)
      one_of_inputs a b (ends_untold c e h) (ends_found gs ws os k q) = absurd (none_or_some i.client c k.alone e)
      one_of_inputs a b (ends_untold {line = x} c e h) (ends_untold {line = y} d f k) =
          ap (fault_alone status.Refused) (one_untold (modules_of i) i.tree i.std_tree d r.platforms x y (subst (λ (t : Tree). IsClientRefusal (modules_of i) i.tree i.std_tree t r.platforms x) (same_client i.client c d e f) h) k)
      one_of_inputs a b (ends_untold {line = x} c e h) (ends_told d bs f k) =
          absurd (told_or (modules_of i) i.tree i.std_tree d r.platforms bs x k (subst (λ (t : Tree). IsClientRefusal (modules_of i) i.tree i.std_tree t r.platforms x) (same_client i.client c d e f) h))
      one_of_inputs a b (ends_told c given e h) (ends_refused f k) = absurd (none_or_some i.client c f e)
      one_of_inputs a b (ends_told c given e h) (ends_found gs ws os k q) = absurd (none_or_some i.client c k.alone e)
      one_of_inputs a b (ends_told c given e h) (ends_untold {line = y} d f k) =
          absurd (told_or (modules_of i) i.tree i.std_tree d r.platforms given y (subst (λ (t : Tree). AreAnswers (modules_of i) i.tree i.std_tree t r.platforms given) (same_client i.client c d e f) h) k)
      one_of_inputs a b (ends_told c given e h) (ends_told d bs f k) =
          let same : given ≡ bs = one_told (modules_of i) i.tree i.std_tree d r.platforms given bs (subst (λ (t : Tree). AreAnswers (modules_of i) i.tree i.std_tree t r.platforms given) (same_client i.client c d e f) h) k in
          ap (λ (xs : List ClientAnswer). reported (has_untyped xs) (clients_text r.platforms xs)) same
      one_of_inputs a b (ends_found fs vs os h p) (ends_found gs ws ns k q) =
          one_found r i fs gs vs ws ns
          (λ f g m n. one_merged (modules_of i) i.old_tree i.tree i.std_tree r.platforms fs gs vs ws f g inputs.tree.tree std_kept named h.findings k.findings m n)
          (one_verdict (modules_of i) i.old_tree i.tree i.std_tree r.platforms fs gs vs ws h.findings k.findings)
          a b (subst (λ (ls : List LeftOut). FoundEnds r i fs vs ls a) (one_left_out (modules_of i) i.old_tree i.tree i.std_tree r.platforms os ns h.left_out k.left_out) p) q

    -- ---- of words

    module _ (one_request : (words : List (List ℕ)) (r s : Request) → IsRequest words r → IsRequest words s → r ≡ s)
        (one_inputs : (m : Contents) (r : Request) (a b : Inputs) → AreInputs (Some m) r a → AreInputs (Some m) r b → a ≡ b)
        (one_refusal : (m : Contents) (r : Request) (a b : List ℕ) → IsInputRefusal (Some m) r a → IsInputRefusal (Some m) r b → a ≡ b)
        (inputs_or : (m : Contents) (r : Request) (a : Inputs) (line : List ℕ) → AreInputs (Some m) r a → IsInputRefusal (Some m) r line → ⊥) where
      one_of_request : (m : Contents) (r : Request) (a b : Outcome) → RequestEnds (Some m) r a → RequestEnds (Some m) r b → a ≡ b
      one_of_request m r a b (ends_unread {line = x} h) (ends_unread {line = y} k) = ap (fault_alone status.Refused) (one_refusal m r x y h k)
      one_of_request m r a b (ends_unread {line = x} h) (ends_read j k q) = absurd (inputs_or m r j x k h)
      one_of_request m r a b (ends_read i h p) (ends_unread {line = y} k) = absurd (inputs_or m r i y h k)
      one_of_request m r a b (ends_read i h p) (ends_read j k q) = one_of_inputs (Some m) r j k a b (subst (λ (n : Inputs). InputsEnd r n a) (one_inputs m r i j h k) p) q

      -- whatever is made, a run over a store that tells its files is told them
      one_of_files : (m : Contents) (made : Option MadeTrees) (r : Request) (a b : Outcome) → RequestEnds (files_of (Some m) made) r a → RequestEnds (files_of (Some m) made) r b → a ≡ b
      one_of_files m None r a b p q = one_of_request m r a b p q
      one_of_files m (Some t) r a b p q = one_of_request (made_contents t.seed t.size) r a b p q

      module _ (m : Contents) (words : List (List ℕ)) where
        -- what words end with, their request does
        as_request : (s : Request) → IsRequest words s → (o : Outcome) → EndsWith words (Some m) o → RequestEnds (files_of (Some m) s.made) s o
        as_request s is o (bad_words n) = absurd (n s is)
        as_request s is o (refused_inputs {line = x} r h l) = subst (λ (q : Request). RequestEnds (files_of (Some m) q.made) q (fault_alone status.Refused x)) (one_request words r s h is) (ends_unread l)
        as_request s is o (refused_platform {line = x} r i a n l) =
            subst (λ (q : Request). RequestEnds (files_of (Some m) q.made) q (fault_alone status.Refused x)) (one_request words r s a.request is) (ends_read i a.inputs (ends_refused n l))
        as_request s is o (refused_client {line = x} r i c a e l) =
            subst (λ (q : Request). RequestEnds (files_of (Some m) q.made) q (fault_alone status.Refused x)) (one_request words r s a.request is) (ends_read i a.inputs (ends_untold c e l))
        as_request s is o (vetted r i c given a e t) =
            subst (λ (q : Request). RequestEnds (files_of (Some m) q.made) q (reported (has_untyped given) (clients_text r.platforms given))) (one_request words r s a.request is) (ends_read i a.inputs (ends_told c given e t))
        as_request s is o (refused_advice {line = x} r i v ls vs os a f e l) =
            subst (λ (q : Request). RequestEnds (files_of (Some m) q.made) q (fault_alone status.Refused x)) (one_request words r s a.request is)
            (ends_read i a.inputs (ends_found ls vs os f (ends_unadvised v (version_in words r v a.request e) e l)))
        as_request s is o (reported_findings {text = x} b r i ls vs os a f h) =
            subst (λ (q : Request). RequestEnds (files_of (Some m) q.made) q (reported b x)) (one_request words r s a.request is) (ends_read i a.inputs (ends_found ls vs os f (ends_reported b h)))

        same_by : (s : Request) → IsRequest words s → (a b : Outcome) → EndsWith words (Some m) a → EndsWith words (Some m) b → a ≡ b
        same_by s is a b p q = one_of_files m s.made s a b (as_request s is a p) (as_request s is b q)

        pub same_outcome : (a b : Outcome) → EndsWith words (Some m) a → EndsWith words (Some m) b → a ≡ b
        same_outcome a b (bad_words n) q = bad_as n b q
          where
            bad_as : AreBad words → (o : Outcome) → EndsWith words (Some m) o → fault_alone status.Words words_line ≡ o
            bad_as n o (bad_words k) = refl
            bad_as n o (refused_inputs r h l) = absurd (n r h)
            bad_as n o (refused_platform r i a e l) = absurd (n r a.request)
            bad_as n o (refused_client r i c a e l) = absurd (n r a.request)
            bad_as n o (vetted r i c given a e t) = absurd (n r a.request)
            bad_as n o (refused_advice r i v ls vs os a f e l) = absurd (n r a.request)
            bad_as n o (reported_findings c r i ls vs os a f h) = absurd (n r a.request)
        same_outcome a b (refused_inputs r h l) q = same_by r h a b (refused_inputs r h l) q
        same_outcome a b (refused_platform r i g e l) q = same_by r g.request a b (refused_platform r i g e l) q
        same_outcome a b (refused_client r i c g e l) q = same_by r g.request a b (refused_client r i c g e l) q
        same_outcome a b (vetted r i c given g e t) q = same_by r g.request a b (vetted r i c given g e t) q
        same_outcome a b (refused_advice r i v ls vs os g f e l) q = same_by r g.request a b (refused_advice r i v ls vs os g f e l) q
        same_outcome a b (reported_findings c r i ls vs os g f h) q = same_by r g.request a b (reported_findings c r i ls vs os g f h) q
