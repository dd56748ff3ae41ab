use Rattle.std.proofs.Common.{◌≡◌, ℕ, List, subst}
use Rattle.std.specs.Result.{IfOk}
use Rattle.std.proofs.lemmas.Slice.Zip.{Zip-more, either_empty_from_Zip}
use Rattle.api_reports.specs.Clients.{client_lines}
use Rattle.api_reports.proofs.PlatformLines.{platforms_done, platforms_next}
use Rattle.api_reports.proofs.clients.clients_text.Goals as goal

pub loop-platform-preserved : goal.loop-platform-preserved
loop-platform-preserved c =
    let more = Zip-more c.loop-platform.platform-iterator c.next.new.self c.next.result (c.in-Some.platform, c.in-Some.answer) c.in-Some.is c.next.ensures.steps in
    platforms_next client_lines _ _ _ _ _ _ c.loop-platform.text.items _ more.0 more.1 c.in_ok-add_platform.ensures c.loop-platform.invariant

pub returns : goal.returns
returns c =
    subst (λ (w : List ℕ). IfOk c.from_vec.result (λ text. text ≡ w))
    (platforms_done client_lines _ _ c.loop-platform.text.items (either_empty_from_Zip c.loop-platform.platform-iterator c.next.new.self c.next.result c.in-None.is c.next.ensures.steps) c.loop-platform.invariant)
    c.from_vec.ensures
