use Rattle.api_kept_members.proofs.FoundFields.{found_field}
use Rattle.api_kept_members.proofs.FoundMethods.{found_method, found_std_method}
use Rattle.api_kept_members.proofs.InterfaceMethods.{found_method as found_of_interface, found_std_method as found_std_of_interface}
use Rattle.api_kept_members.proofs.laws.kept_finds.Goals as goal

pub returns-clause-fields : goal.returns-clause-fields
returns-clause-fields c = λ old new pairs H C i j p k m h s x n b q d t o. found_field old new pairs H C i j p k m h s x n b q d t o

pub returns-clause-methods : goal.returns-clause-methods
returns-clause-methods c = λ old new pairs H C i j p k h s x b q a e o g y. found_method old new pairs H C i j p k h s x b q a e o g y

pub returns-clause-of_interfaces : goal.returns-clause-of_interfaces
returns-clause-of_interfaces c = λ old new pairs H C i j p k a h s x b q e d o g y. found_of_interface old new pairs H C i j p k a h s x b q e d o g y

pub returns-clause-std_methods : goal.returns-clause-std_methods
returns-clause-std_methods c = λ old new pairs H C i j p k h s x b q a e o g y. found_std_method old new pairs H C i j p k h s x b q a e o g y

pub returns-clause-std_of_interfaces : goal.returns-clause-std_of_interfaces
returns-clause-std_of_interfaces c = λ old new pairs H C i j p k a h s x b q e d o g y. found_std_of_interface old new pairs H C i j p k a h s x b q e d o g y
