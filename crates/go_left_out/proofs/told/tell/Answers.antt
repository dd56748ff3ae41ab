use Rattle.std.proofs.Common.{Bool, List, ℕ, length, subst, sym, ap, ◌∙◌}
use Rattle.go_import_uses.proofs.go_beyond_proofs.DecidedFlags.{listed_length}
use Rattle.go_import_uses.specs.go_beyond.Numbers.{HasNumberAt}
use Rattle.go_declarations.specs.Listings.{declarations_of}
use Rattle.go_exposed.specs.Causes.{IsToldInexact}
use Rattle.go_exposed.specs.ToldBeyond.{IsToldBeyond}
use Rattle.go_graphs.specs.Flags.{AreFlagsOf}
use Rattle.go_import_uses.specs.Selecting.{SelectsMissingAt}
use Rattle.go_import_uses.specs.go_sources.UnitSources.{source_of}
use Rattle.go_typings.specs.Declarations.{Declaration, declarations}
use Rattle.go_left_out.proofs.told.tell.Goals as goal

pub returns : goal.returns
returns c s a lost are inexact =
    let u = source_of c.args.«unit».now in
    let numbers : AreFlagsOf (length (declarations u)) (HasNumberAt (declarations u)) c.in_ok-numbers.numbers.items =
    subst (λ (ds : List Declaration). AreFlagsOf (length ds) (HasNumberAt ds) c.in_ok-numbers.numbers.items) c.requires
    (subst (λ (n : ℕ). AreFlagsOf n (HasNumberAt (declarations_of c.args.declarations.now)) c.in_ok-numbers.numbers.items) (sym (listed_length c.args.declarations.now)) c.in_ok-numbers.ensures) in
    record {
      numbers = numbers;
      inexact = inexact;
      missing = c.in_ok-missing.ensures;
      beyond = c.in_ok-beyond.ensures s u a lost are (subst (λ (xs : List Bool). AreFlagsOf (length (declarations u)) (HasNumberAt (declarations u)) xs) (sym c.deref.ensures.value) numbers)
          (subst (λ (xs : List Bool). AreFlagsOf (length (declarations u)) (IsToldInexact s u a lost) xs) (sym c.deref-2.ensures.value) inexact)
          (subst (λ (xs : List Bool). AreFlagsOf (length (declarations u)) (SelectsMissingAt u) xs) (sym c.deref-3.ensures.value) c.in_ok-missing.ensures);
    }
