use Rattle.api_kept_members.proofs.InterfaceMethods.{interface_method, no_new_method, no_new_std_method, std_method}
use Rattle.api_kept_members.proofs.Kept.{beneath, field_kept}
use Rattle.api_kept_members.proofs.MethodSets.{method_set, pointer_set}
use Rattle.api_kept_members.proofs.SharedStd.{foreign_pair}
use Rattle.api_kept_members.proofs.laws.kept_members.Goals as goal

pub returns-clause-underneath : goal.returns-clause-underneath
returns-clause-underneath c = λ old new pairs H C i j p k m. beneath old new pairs H C i j p k m

pub returns-clause-fields : goal.returns-clause-fields
returns-clause-fields c = λ old new pairs H C i j p k m s f h x. field_kept old new pairs H C i j p k m s f h x

pub returns-clause-methods : goal.returns-clause-methods
returns-clause-methods c = λ old new pairs H C i j p k h s g x a. method_set old new pairs H C i j p k h s g x a

pub returns-clause-pointer_methods : goal.returns-clause-pointer_methods
returns-clause-pointer_methods c = λ old new pairs H C p k h s g x a. pointer_set old new pairs H C p k h s g x a

pub returns-clause-interface_methods : goal.returns-clause-interface_methods
returns-clause-interface_methods c = λ old new pairs H C i j p k a h m q x. interface_method old new pairs H C i j p k a h m q x

pub returns-clause-no_new_methods : goal.returns-clause-no_new_methods
returns-clause-no_new_methods c = λ old new pairs H C i j p k a h s n q x. no_new_method old new pairs H C i j p k a h s n q x

pub returns-clause-foreign : goal.returns-clause-foreign
returns-clause-foreign c = λ old new pairs H C i j S p k n e m. foreign_pair old new pairs H C i j S p k n e m

pub returns-clause-std_interface_methods : goal.returns-clause-std_interface_methods
returns-clause-std_interface_methods c = λ old new pairs H C i j p k a h m q x. std_method old new pairs H C i j p k a h m q x

pub returns-clause-no_new_std_methods : goal.returns-clause-no_new_std_methods
returns-clause-no_new_std_methods c = λ old new pairs H C i j p k a h s n q x. no_new_std_method old new pairs H C i j p k a h s n q x
