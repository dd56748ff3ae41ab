use Rattle.std.proofs.Common.{List, rules, subst, sym}
use Rattle.std.proofs.lemmas.List.Sorted.{answers_always}
use Rattle.std.specs.List.Sorted.{IsPermutation, IsSortedBy}
use Rattle.go_model.specs.declared.types.package.MethodOf.{MethodOf}
use Rattle.go_packages.proofs.SelectorOrder.{by_selector}
use Rattle.go_packages.specs.inner.HadMethods.{comes_first}
use Rattle.go_packages.proofs.methods.sorted.Goals as goal

pub returns : goal.returns
returns c = record {
  same =
      subst (IsPermutation c.args.methods) (sym c.from_vec.ensures)
      (subst (λ (ms : List MethodOf). IsPermutation ms c.sort_by.new.self.items) c.into_vec-sorted.ensures c.in_ok-sort_by.ensures.permutation);
  sorted = subst (IsSortedBy comes_first) (sym c.from_vec.ensures) (c.in_ok-sort_by.ensures.sorted comes_first by_selector (answers_always _ _ _ (λ f a r g called. search rules)));
}
