use Rattle.std.proofs.Common.{ℕ, List, subst}
use Rattle.go_imports.proofs.Members.{above_least}
use Rattle.go_client_walks.specs.inner.Reaching.{Reaching}
use Rattle.go_client_walks.proofs.ReachedFolders.{asked_next, asked_apart, asked_left, first_refused}
use Rattle.go_client_walks.proofs.reached.read_asked.Goals as goal

pub advance-requires-clause-next : goal.advance-requires-clause-next
advance-requires-clause-next g c =
    asked_next c.args.client.now c.args.module_path.now c.args.folders.now (g.R.FolderReader.gives c.args.reader.now) c.loop.slots.items c.in-Some.number c.pop_first.new.self.keys c.loop.invariant.all
    (above_least c.in-Some.number c.pop_first.new.self.keys c.in-Some.ensures.all_above)
    (subst (λ (ks : List ℕ). Reaching c.args.client.now c.args.module_path.now c.args.folders.now (g.R.FolderReader.gives c.args.reader.now) c.loop.slots.items ks (λ m. ⊥)) c.in-Some.ensures.removal c.loop.invariant.reaching)

pub advance-requires-clause-apart : goal.advance-requires-clause-apart
advance-requires-clause-apart g c =
    asked_apart c.args.client.now c.args.module_path.now c.args.folders.now (g.R.FolderReader.gives c.args.reader.now) c.in-Some.number c.pop_first.new.self.keys (above_least c.in-Some.number c.pop_first.new.self.keys c.in-Some.ensures.all_above)

pub advance-requires-clause-reaching : goal.advance-requires-clause-reaching
advance-requires-clause-reaching g c =
    asked_left c.args.client.now c.args.module_path.now c.args.folders.now (g.R.FolderReader.gives c.args.reader.now) c.loop.slots.items c.in-Some.number c.pop_first.new.self.keys
    (subst (λ (ks : List ℕ). Reaching c.args.client.now c.args.module_path.now c.args.folders.now (g.R.FolderReader.gives c.args.reader.now) c.loop.slots.items ks (λ m. ⊥)) c.in-Some.ensures.removal c.loop.invariant.reaching)

pub returns-in-Err-clause-cause : goal.returns-in-Err-clause-cause
returns-in-Err-clause-cause g c =
    first_refused c.args.client.now c.args.module_path.now c.args.folders.now (g.R.FolderReader.gives c.args.reader.now) c.loop.slots.items c.in-Some.number c.in-Err.error c.loop.invariant.reaching.walked
    (asked_next c.args.client.now c.args.module_path.now c.args.folders.now (g.R.FolderReader.gives c.args.reader.now) c.loop.slots.items c.in-Some.number c.pop_first.new.self.keys c.loop.invariant.all
    (above_least c.in-Some.number c.pop_first.new.self.keys c.in-Some.ensures.all_above)
    (subst (λ (ks : List ℕ). Reaching c.args.client.now c.args.module_path.now c.args.folders.now (g.R.FolderReader.gives c.args.reader.now) c.loop.slots.items ks (λ m. ⊥)) c.in-Some.ensures.removal c.loop.invariant.reaching))
    c.in-Err.ensures.cause
