use Rattle.std.proofs.Common.{◌≡◌, ℕ, zero, suc, Option, None, replicate, refl, sym, ap, ◌∙◌, subst, length}
use Rattle.go_entries.specs.declared.entry.Entry.{Entry}
use Rattle.go_entries.specs.HadEntries.{entries_at}
use Rattle.go_package_scopes.specs.KeptScopes.{Keeps}
use Rattle.go_sources.specs.UnitSources.{source_of}
use Rattle.go_typings.specs.PackageEnvironments.{Entries}
use Rattle.go_package_entries.specs.Settings.{setting_of}
use Rattle.go_package_entries.proofs.Attempts.{nothing_had}
use Rattle.go_package_entries.proofs.entries.nothing_of.Goals as goal

pub returns-clause-none : goal.returns-clause-none
returns-clause-none c = ap entries_at c.in_ok-had.ensures ∙ nothing_had (length c.args.tables.now.declarations.now)

long : (n : ℕ) (x : Option Entry) → length (replicate n x) ≡ n
long zero x = refl
long (suc n) x = ap suc (long n x)

pub returns-clause-kept : goal.returns-clause-kept
returns-clause-kept c =
    let none = ap entries_at c.in_ok-had.ensures ∙ nothing_had (length c.args.tables.now.declarations.now) in
    record {
      keeps = subst (λ (a : Entries). Keeps (setting_of c.args.env) (source_of c.args.unit.now) a c.args.env) (sym none) c.requires.kept;
      listed = c.requires.listed;
      names = c.requires.tables.names;
      ends = c.in_ok-ends.ensures;
      methods = c.requires.tables.methods;
      namesakes = c.in_ok-namesakes.ensures;
      count = ap length c.in_ok-had.ensures ∙ long (length c.args.tables.now.declarations.now) None;
      pathed = c.requires.pathed;
      predeclared = c.in_ok-error.ensures;
    }
