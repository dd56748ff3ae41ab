-- The loads, from the module and the walk.
use Rattle.std.proofs.Common.{◌≡◌, ◌≢◌, ℕ, Option, Some, None, List, [], refl, subst, Result, Ok, Err}
use Rattle.go_base.specs.Lists.{Has}
use Rattle.go_outside.specs.Faults.{Told}
use Rattle.go_outside.specs.Paths.{Path}
use Rattle.go_outside.specs.Stores.{Contents}
use Rattle.go_load.specs.Names.{go_mod}
use Rattle.go_load.specs.Loads.{told_module}
use Rattle.go_outside.specs.declared.files.Entry.{Entry}
use Rattle.go_load.specs.inner.Steps.{Reads, Lists, Parses, FindsModule, ReadsModule, file_entry}
use Rattle.go_load.proofs.EntryPaths.{told_file, listed_file, there_listed}
use Rattle.go_load.specs.declared.error.LoadError.{LoadError}
use Rattle.go_load.specs.declared.error.LoadError.TheVariants as error
use Rattle.go_load.proofs.StoreSteps.{told_then, told_both}

untold : (o : Option (List ℕ)) → (o ≢ None → ⊥) → o ≡ None
untold None h = refl
untold (Some bytes) h = absurd (h (λ e. cc))

module _ (m : Contents) (root : Path) where
  reads_parsed : (bytes : Path) (r : Result Path LoadError) → Reads (told_module m root) go_mod (Ok bytes) → Parses bytes r → ReadsModule m root r
  reads_parsed bytes (Ok path) h p = (bytes, h.0, h.1, p)
  reads_parsed bytes (Err (error.Missing q)) h p = absurd p
  reads_parsed bytes (Err error.NoModule) h p = absurd p
  reads_parsed bytes (Err error.BadModule) h p = (bytes, h.0, h.1, p)
  reads_parsed bytes (Err (error.Limit l q)) h p = absurd p
  reads_parsed bytes (Err error.ReadFault) h p = tt
  reads_parsed bytes (Err error.NoMemory) h p = tt

  reads_refused : (e : LoadError) → told_module m root ≢ None → Reads (told_module m root) go_mod (Err e) → ReadsModule m root (Err e)
  reads_refused (error.Missing p) told h = absurd (told h.0)
  reads_refused error.NoModule told h = absurd h
  reads_refused error.BadModule told h = absurd h
  reads_refused (error.Limit n p) told h = h
  reads_refused error.ReadFault told h = tt
  reads_refused error.NoMemory told h = tt

  finds_refused : (e : LoadError) → FindsModule m root (Err e) → ReadsModule m root (Err e)
  finds_refused (error.Missing p) h = h
  finds_refused error.NoModule h = h
  finds_refused error.BadModule h = absurd h
  finds_refused (error.Limit n p) h = absurd h
  finds_refused error.ReadFault h = tt
  finds_refused error.NoMemory h = tt

  lists_refused : (e : LoadError) → Lists m root [] (Err e) → FindsModule m root (Err e)
  lists_refused (error.Missing p) h = h
  lists_refused error.NoModule h = absurd h
  lists_refused error.BadModule h = absurd h
  lists_refused (error.Limit n p) h = absurd h
  lists_refused error.ReadFault h = tt
  lists_refused error.NoMemory h = tt

  lists_none : (entries : List Entry) → (Has entries (file_entry go_mod) → ⊥) → Lists m root [] (Ok entries) → FindsModule m root (Err error.NoModule)
  lists_none entries none l = (there_listed m root entries l.0 l.1, untold (told_module m root) (λ told. none (listed_file m root entries l.0 go_mod refl told)))

module _ (o : Option Contents) (root : Path) where
  pub parsed_told : (bytes text : Path) (r : Result Path LoadError) → text ≡ bytes → Told o (λ m. Reads (told_module m root) go_mod (Ok bytes)) → Parses text r → Told o (λ m. ReadsModule m root r)
  parsed_told bytes text r e t p = told_then o (λ m. Reads (told_module m root) go_mod (Ok bytes)) (λ m. ReadsModule m root r) (λ m h. reads_parsed m root bytes r h (subst (λ (w : Path). Parses w r) e p)) t

  pub refused_told : (e : LoadError) → Told o (λ m. FindsModule m root (Ok tt)) → Told o (λ m. Reads (told_module m root) go_mod (Err e)) → Told o (λ m. ReadsModule m root (Err e))
  refused_told e t r = told_both o (λ m. FindsModule m root (Ok tt)) (λ m. Reads (told_module m root) go_mod (Err e)) (λ m. ReadsModule m root (Err e)) (λ m f h. reads_refused m root e f h) t r

  pub unfound_told : (e : LoadError) → Told o (λ m. FindsModule m root (Err e)) → Told o (λ m. ReadsModule m root (Err e))
  unfound_told e t = told_then o (λ m. FindsModule m root (Err e)) (λ m. ReadsModule m root (Err e)) (λ m h. finds_refused m root e h) t

  pub unlisted_told : (e : LoadError) → Told o (λ m. Lists m root [] (Err e)) → Told o (λ m. FindsModule m root (Err e))
  unlisted_told e t = told_then o (λ m. Lists m root [] (Err e)) (λ m. FindsModule m root (Err e)) (λ m h. lists_refused m root e h) t

  pub listed_told : (entries : List Entry) → Has entries (file_entry go_mod) → Told o (λ m. Lists m root [] (Ok entries)) → Told o (λ m. FindsModule m root (Ok tt))
  listed_told entries h t = told_then o (λ m. Lists m root [] (Ok entries)) (λ m. FindsModule m root (Ok tt)) (λ m l. told_file m root entries l.0 go_mod h) t

  pub none_told : (entries : List Entry) → (Has entries (file_entry go_mod) → ⊥) → Told o (λ m. Lists m root [] (Ok entries)) → Told o (λ m. FindsModule m root (Err error.NoModule))
  none_told entries none t = told_then o (λ m. Lists m root [] (Ok entries)) (λ m. FindsModule m root (Err error.NoModule)) (λ m l. lists_none m root entries none l) t
