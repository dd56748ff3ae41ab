-- Where a new world keeps all of an old one, nothing is broken.
use Rattle.go_model.specs.worlds.Worlds.{Packages}
use Rattle.api_correspond.specs.Rules.{Compatible}
use Rattle.api_breaks.specs.declared.broken.Break.{Break}
use Rattle.api_breaks.specs.declared.broken.Lost.{Lost}
use Rattle.api_correspond.specs.Rules.{KeepsPair, KeepsAmong}
use Rattle.go_type_images.specs.declared.pair.TypePair.{TypePair}
use Rattle.api_breaks.specs.Breaks.{IsPackageBreak, package_gone, package_renamed, object_gone, object_of_other_kind, constant_apart, IsLoss, types_apart, underlying_apart, field_gone, not_selectable, not_comparable, sealing_apart, interface_method_gone, interface_method_new, method_gone, pointer_method_gone, IsLossAmong, not_implementing, pointer_not_implementing, not_apart, IsBreak, of_packages, of_pair, of_pairs}

module _ (old new : Packages) where
  no_package_break : Compatible old new → (b : Break) → IsPackageBreak old new b → ⊥
  no_package_break c b (package_gone path x n e) = n ((c.paths path).package_kept x)
  no_package_break c b (package_renamed path p q x n r) = n ((c.paths path).name_kept p q x)
  no_package_break c b (object_gone path a x n r) = n ((c.paths path).objects a x)
  no_package_break c b (object_of_other_kind path a d x n r) = n ((c.paths path).kinds a d x)
  no_package_break c b (constant_apart path a d x n r) = n ((c.paths path).constants a d x)

  pub no_loss : (p : TypePair) → KeepsPair old new p → (l : Lost) → IsLoss old new p l → ⊥
  no_loss p k l (types_apart n e) = n k.types
  no_loss p k l (underlying_apart x n e) = n (k.underlying x)
  no_loss p k l (field_gone f x n e) = n (k.fields f x)
  no_loss p k l (not_selectable s f x n e) = n (k.selectable s f x)
  no_loss p k l (not_comparable x n e) = n (k.comparable x)
  no_loss p k l (sealing_apart x n e) = n (k.sealing x)
  no_loss p k l (interface_method_gone m x n e) = n (k.interface_methods m x)
  no_loss p k l (interface_method_new m x n e) = n (k.open_interfaces m x)
  no_loss p k l (method_gone s g x n e) = n (k.method_sets s g x)
  no_loss p k l (pointer_method_gone s g x n e) = n (k.pointer_sets s g x)

  pub no_loss_among : (p : TypePair) → KeepsAmong old new p → (l : Lost) → IsLossAmong old new p l → ⊥
  no_loss_among p k l (not_implementing i x n e) = n (k.implements i x)
  no_loss_among p k l (pointer_not_implementing i x n e) = n (k.pointer_implements i x)
  no_loss_among p k l (not_apart q x n e) = n (k.one_to_one q x)

  pub kept_whole : Compatible old new → (b : Break) → IsBreak old new b → ⊥
  kept_whole c b (of_packages k) = no_package_break c b k
  kept_whole c b (of_pair o p l w k e) = no_loss p (c.pairs p (o, w)).0 l k
  kept_whole c b (of_pairs o p l w k e) = no_loss_among p (c.pairs p (o, w)).1 l k
