use Rattle.std.proofs.Common.{sym, ◌∙◌, Bool}
use Rattle.go_import_uses.proofs.SelectedPlaces.{spared}
use Rattle.go_graphs.proofs.Flagging.{apart}
use Rattle.std.proofs.lemmas.Result.{IfOk-weaker}
use Rattle.go_exposed.specs.Refusals.{IsNeeded, IsSeenIn}
use Rattle.go_import_uses.proofs.OneOf.{of_fact}
use Rattle.go_selectors.specs.Answers.{Decides}
use Rattle.go_sources.specs.UnitSources.{import_of, source_of}
use Rattle.go_import_uses.proofs.needed.is_needed.Goals as goal

pub returns-then-import : goal.returns-then-import
returns-then-import c are = λ k. apart (sym c.if-import.true ∙ k.missing)

pub returns-then-not-has_place : goal.returns-then-not-has_place
returns-then-not-has_place c are = λ k.
    spared (source_of c.args.«unit».now) c.args.declarations.now c.args.seen.now c.args.file c.args.places.now.keys (import_of c.args.«import».now) c.requires.listed c.requires.held
    (λ h. apart (sym (c.has_place.ensures.1 h) ∙ c.if-not-has_place.true)) are k.seen

pub returns : goal.returns
returns c are =
    let u = source_of c.args.«unit».now in
    let i = import_of c.args.«import».now in
    IfOk-weaker c.is_seen_in.result (λ (b : Bool). Decides b (IsSeenIn u c.args.file i)) (λ (b : Bool). Decides b (IsNeeded u (c.args.file, i)))
    (λ b d. of_fact b (λ s. record { missing = c.if-import.false; seen = s }) (λ n. n.seen) d) (c.is_seen_in.ensures are)
