-- Findings that are shown the same have one report, or one reason for which no version is advised.
use Rattle.std.proofs.Common.{◌≡◌, ℕ, Bool, ◌||◌, true, false, Option, Some, None, List, [], ◌∷◌, ◌++◌, length, map, refl, sym, ap, ◌∙◌, subst}
use Rattle.std.proofs.lemmas.List.{length-map}
use Rattle.std.specs.List.{list_any}
use mathlib.Core.Bool.{true≢false}
use Rattle.api_advice.specs.Advice.{IsNext}
use Rattle.api_advice.specs.declared.class.Class.{Class}
use Rattle.api_advice.specs.declared.release.Release.{Release}
use Rattle.api_findings.specs.Findings.{shown}
use Rattle.api_frozen.specs.declared.signed.Signed.{Signed}
use Rattle.api_inputs.specs.declared.inputs.Inputs.{Inputs}
use Rattle.api_judge.specs.Verdicts.{class_of, has_break}
use Rattle.api_judge.specs.declared.verdict.Verdict.{Verdict}
use Rattle.api_lines.specs.Lines.{printed}
use Rattle.api_lines.specs.declared.line.Line.{Line}
use Rattle.api_reports.specs.Reports.{class_text, counted_class_text, features_text, has_loss, judge_text, made_text, signed_text, skipped_text, unlines, version_text}
use Rattle.api_texts.specs.declared.left_out.LeftOut.{LeftOut}
use Rattle.api_words.specs.declared.option_name.Mode.{Mode}
use Rattle.api_words.specs.declared.option_name.Mode.TheVariants as mode
use Rattle.api_words.specs.declared.request.AskedVersion.{AskedVersion}
use Rattle.api_words.specs.declared.request.MadeTrees.{MadeTrees}
use Rattle.api_words.specs.declared.request.Request.{Request}
use Rattle.api_gate.proofs.RequestFacts.{takes_version}
use Rattle.api_gate.proofs.ShownVerdicts.{breaks_by, class_by, count_by, judge_by}
use Rattle.api_gate.proofs.SignedFeatures.{same_signed}
use Rattle.api_gate.specs.runs.Outcomes.{AreMerged, IsAdvice, IsAdviceRefusal, no_release, no_version, IsMadeText, IsReportOn, features_report, frozen_report, judge_report, advise_report, gate_report, skipped_report, make_report, IsSignedReport}

some_release : (a b : Release) → ◌≡◌ {A = Option Release} (Some a) (Some b) → a ≡ b
some_release a b e = cc

some_version : (v w : AskedVersion) → ◌≡◌ {A = Option AskedVersion} (Some v) (Some w) → v ≡ w
some_version v w e = cc

refusal_by : (v : AskedVersion) (vs ws : List Verdict) (x : List ℕ) → map shown vs ≡ map shown ws → IsAdviceRefusal v (class_of vs) x → IsAdviceRefusal v (class_of ws) x
refusal_by v vs ws x seen h = subst (λ (c : Class). IsAdviceRefusal v c x) (class_by vs ws seen) h

module _ (one_next : (r : Release) (c : Class) (a b : Option Release) → IsNext r c a → IsNext r c b → a ≡ b) where
  -- ---- advice

  -- a release of the version is its release
  same_last : (v : AskedVersion) (a b : Release) → v.release ≡ Some a → v.release ≡ Some b → a ≡ b
  same_last v a b e f = some_release a b (sym e ∙ f)

  same_next : (v : AskedVersion) (c : Class) (last last' : Release) (a b : Option Release) → v.release ≡ Some last → v.release ≡ Some last' → IsNext last c a → IsNext last' c b → a ≡ b
  same_next v c last last' a b e f n k = one_next last' c a b (subst (λ (l : Release). IsNext l c a) (same_last v last last' e f) n) k

  pub same_advice : (version : Option AskedVersion) (c : Class) (x y : List ℕ) → IsAdvice version c x → IsAdvice version c y → x ≡ y
  same_advice None c x y h k = h ∙ sym k
  same_advice (Some v) c x y h k =
      let next : h.1 ≡ k.1 = some_release h.1 k.1 (same_next v c h.0 k.0 (Some h.1) (Some k.1) h.2 k.2 h.3 k.3) in
      h.4 ∙ ap (version_text v.word) next ∙ sym k.4

  pub same_refusal : (v : AskedVersion) (c : Class) (x y : List ℕ) → IsAdviceRefusal v c x → IsAdviceRefusal v c y → x ≡ y
  same_refusal v c x y (no_release e) (no_release f) = refl
  same_refusal v c x y (no_release e) (no_version last f n) = absurd (let k : ◌≡◌ {A = Option Release} None (Some last) = sym e ∙ f in cc)
  same_refusal v c x y (no_version last e n) (no_release f) = absurd (let k : ◌≡◌ {A = Option Release} None (Some last) = sym f ∙ e in cc)
  same_refusal v c x y (no_version last e n) (no_version last' f k) = refl

  pub advised_or : (v : AskedVersion) (c : Class) (x y : List ℕ) → IsAdvice (Some v) c x → IsAdviceRefusal v c y → ⊥
  advised_or v c x y h (no_release e) = let k : ◌≡◌ {A = Option Release} None (Some h.0) = sym e ∙ h.2 in cc
  advised_or v c x y h (no_version last e n) = let k : ◌≡◌ {A = Option Release} (Some h.1) None = same_next v c h.0 last (Some h.1) None h.2 e h.3 n in cc

  -- versions that are the same are refused for the same reason
  pub same_unadvised : (r : Request) (vs ws : List Verdict) → map shown vs ≡ map shown ws → (v w : AskedVersion) (x y : List ℕ) → r.version ≡ Some v → r.version ≡ Some w → IsAdviceRefusal v (class_of vs) x → IsAdviceRefusal w (class_of ws) y → x ≡ y
  same_unadvised r vs ws seen v w x y e f h k =
      same_refusal w (class_of ws) x y (subst (λ (u : AskedVersion). IsAdviceRefusal u (class_of ws) x) (some_version v w (sym e ∙ f)) (refusal_by v vs ws x seen h)) k

  -- and have no report
  pub report_or_refusal : (r : Request) (i : Inputs) (ls : List (List Line)) (vs ws : List Verdict) (os : List LeftOut) → map shown vs ≡ map shown ws → (b : Bool) (x y : List ℕ) (v : AskedVersion) → takes_version r.mode ≡ true → r.version ≡ Some v
      → IsReportOn r i ls ws os b x → IsAdviceRefusal v (class_of vs) y → ⊥
  report_or_refusal r i ls vs ws os seen b x y v t e h k = by h
    where
      none : (m : Mode) → r.mode ≡ m → takes_version m ≡ false → ⊥
      none m f g = true≢false (sym t ∙ ap takes_version f ∙ g)

      advised : (advice : List ℕ) → IsAdvice r.version (class_of ws) advice → ⊥
      advised advice a = advised_or v (class_of ws) advice y (subst (λ (o : Option AskedVersion). IsAdvice o (class_of ws) advice) e a) (refusal_by v vs ws y seen k)

      by : {b : Bool} {x : List ℕ} → IsReportOn r i ls ws os b x → ⊥
      by (features_report f m a) = none mode.Features m refl
      by (frozen_report m s) = none mode.Frozen m refl
      by (judge_report m) = none mode.Judge m refl
      by (advise_report z m a) = advised z a
      by (gate_report lost lines z m s a) = advised z a
      by (skipped_report m) = none mode.Skipped m refl
      by (make_report first f m a n) = none mode.Make m refl

  -- ---- reports

  module _ (r : Request) (i : Inputs) (fs gs : List (List Line)) (vs ws : List Verdict) (os : List LeftOut) (merged : (f g : List Line) → AreMerged r fs f → AreMerged r gs g → map printed f ≡ map printed g)
      (seen : map shown vs ≡ map shown ws) where
    same_lost : (a b : Bool) (x y : List ℕ) → IsSignedReport r i fs a x → IsSignedReport r i gs b y → (a ≡ b) × (x ≡ y)
    same_lost a b x y h k =
        let lines : h.1 ≡ k.1 = same_signed i.required i.exceptions h.0 k.0 h.1 k.1 (merged h.0 k.0 h.2 k.2) h.3 k.3 in
        (h.4 ∙ ap has_loss lines ∙ sym k.4, h.5 ∙ ap signed_text lines ∙ sym k.5)

    same_classed : (x y : List ℕ) → IsAdvice r.version (class_of vs) x → IsAdvice r.version (class_of ws) y → x ≡ y
    same_classed x y h k = same_advice r.version (class_of ws) x y (subst (λ (c : Class). IsAdvice r.version c x) (class_by vs ws seen) h) k

    same_made : (made : Option MadeTrees) (f g : List Line) (x y : List ℕ) → AreMerged r fs f → AreMerged r gs g → IsMadeText made f vs x → IsMadeText made g ws y → x ≡ y
    same_made None f g x y m n h k = h ∙ sym k
    same_made (Some t) f g x y m n h k =
        let many : length f ≡ length g = sym (length-map f printed) ∙ ap length (merged f g m n) ∙ length-map g printed in
        let broken = count_by vs ws seen in
        h ∙ (λ j. made_text t.size (many j) (broken j)) ∙ sym k

    -- the report of a mode, by cases
    abbrev ReportIn : Mode → List (List Line) → List Verdict → Bool → List ℕ → Type 0
    ReportIn mode.Features ls us b x = (f : List Line) × AreMerged r ls f × (b ≡ false) × (x ≡ features_text f)
    ReportIn mode.Frozen ls us b x = IsSignedReport r i ls b x
    ReportIn mode.Judge ls us b x = (b ≡ list_any has_break us) × (x ≡ judge_text r.platforms us os)
    ReportIn mode.Advise ls us b x = (advice : List ℕ) × IsAdvice r.version (class_of us) advice × (b ≡ false) × (x ≡ counted_class_text r.platforms os (class_of us) ++ advice)
    ReportIn mode.Gate ls us b x = (lost : Bool) × (lines advice : List ℕ) × IsSignedReport r i ls lost lines × IsAdvice r.version (class_of us) advice
        × (b ≡ lost || list_any has_break us) × (x ≡ lines ++ judge_text r.platforms us os ++ advice)
    ReportIn mode.Skipped ls us b x = (b ≡ false) × (x ≡ skipped_text r.platforms os)
    ReportIn mode.Vet ls us b x = ⊥
    ReportIn mode.Make ls us b x = (f : List Line) × (first : List ℕ) × AreMerged r ls f × IsMadeText r.made f us first × (b ≡ false) × (x ≡ first ++ class_text (class_of us))

    in_mode : (ls : List (List Line)) (us : List Verdict) (b : Bool) (x : List ℕ) → IsReportOn r i ls us os b x → ReportIn r.mode ls us b x
    in_mode ls us b x (features_report f m a) = subst (λ (q : Mode). ReportIn q ls us b x) (sym m) (f, a, refl, refl)
    in_mode ls us b x (frozen_report m s) = subst (λ (q : Mode). ReportIn q ls us b x) (sym m) s
    in_mode ls us b x (judge_report m) = subst (λ (q : Mode). ReportIn q ls us b x) (sym m) (refl, refl)
    in_mode ls us b x (advise_report y m a) = subst (λ (q : Mode). ReportIn q ls us b x) (sym m) (y, a, refl, refl)
    in_mode ls us b x (gate_report lost lines y m s a) = subst (λ (q : Mode). ReportIn q ls us b x) (sym m) (lost, lines, y, s, a, refl, refl)
    in_mode ls us b x (skipped_report m) = subst (λ (q : Mode). ReportIn q ls us b x) (sym m) (refl, refl)
    in_mode ls us b x (make_report first f m a t) = subst (λ (q : Mode). ReportIn q ls us b x) (sym m) (f, first, a, t, refl, refl)

    same_in : (m : Mode) (a b : Bool) (x y : List ℕ) → ReportIn m fs vs a x → ReportIn m gs ws b y → (a ≡ b) × (x ≡ y)
    same_in mode.Features a b x y h k = (h.2 ∙ sym k.2, h.3 ∙ ap unlines (merged h.0 k.0 h.1 k.1) ∙ sym k.3)
    same_in mode.Frozen a b x y h k = same_lost a b x y h k
    same_in mode.Judge a b x y h k = (h.0 ∙ breaks_by vs ws seen ∙ sym k.0, h.1 ∙ judge_by r.platforms vs ws os seen ∙ sym k.1)
    same_in mode.Advise a b x y h k =
        let class = class_by vs ws seen in
        let advice : h.0 ≡ k.0 = same_classed h.0 k.0 h.1 k.1 in
        (h.2 ∙ sym k.2, h.3 ∙ (λ j. counted_class_text r.platforms os (class j) ++ advice j) ∙ sym k.3)
    same_in mode.Gate a b x y h k =
        let lost : (h.0 ≡ k.0) × (h.1 ≡ k.1) = same_lost h.0 k.0 h.1 k.1 h.3 k.3 in
        let advice : h.2 ≡ k.2 = same_classed h.2 k.2 h.4 k.4 in
        let broken = breaks_by vs ws seen in
        let judged = judge_by r.platforms vs ws os seen in
        (h.5 ∙ (λ j. lost.0 j || broken j) ∙ sym k.5, h.6 ∙ (λ j. lost.1 j ++ judged j ++ advice j) ∙ sym k.6)
    same_in mode.Skipped a b x y h k = (h.0 ∙ sym k.0, h.1 ∙ sym k.1)
    same_in mode.Vet a b x y h k = absurd h
    same_in mode.Make a b x y h k =
        let class = class_by vs ws seen in
        let first : h.1 ≡ k.1 = same_made r.made h.0 k.0 h.1 k.1 h.2 k.2 h.3 k.3 in
        (h.4 ∙ sym k.4, h.5 ∙ (λ j. first j ++ class_text (class j)) ∙ sym k.5)

    pub same_report : (a b : Bool) (x y : List ℕ) → IsReportOn r i fs vs os a x → IsReportOn r i gs ws os b y → (a ≡ b) × (x ≡ y)
    same_report a b x y h k = same_in r.mode a b x y (in_mode fs vs a x h) (in_mode gs ws b y k)
