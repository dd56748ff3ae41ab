use Rattle.std.proofs.Common.{List, [], subst}
use Rattle.go_base.specs.Growing.{Grows}
use Rattle.api_breaks.specs.declared.broken.Break.{Break}
use Rattle.api_judge.proofs.OrderedBreaks.{all_told, none_untold}
use Rattle.api_judge.proofs.listing.told_breaks.Goals as goal
use Rattle.api_judge.specs.inner.Listings.{IsToldOf}

pub returns-clause-exact : goal.returns-clause-exact
returns-clause-exact c =
    all_told c.args.old.now c.args.new.now c.in_ok-found.found.items c.in_ok-all.all.items c.in_ok-listed.listed c.in_ok-found.ensures.exact
    (subst (λ (ks : List Break). Grows (IsToldOf c.args.old.now c.args.new.now ks) [] c.in_ok-all.all.items) c.deref.ensures.value c.in_ok-all.ensures)
    c.in_ok-listed.ensures

pub returns-clause-compatible : goal.returns-clause-compatible
returns-clause-compatible c =
    none_untold c.args.old.now c.args.new.now c.in_ok-found.found.items c.in_ok-all.all.items c.in_ok-listed.listed
    (subst (λ (ks : List Break). Grows (IsToldOf c.args.old.now c.args.new.now ks) [] c.in_ok-all.all.items) c.deref.ensures.value c.in_ok-all.ensures)
    c.in_ok-listed.ensures c.in_ok-found.ensures.compatible
