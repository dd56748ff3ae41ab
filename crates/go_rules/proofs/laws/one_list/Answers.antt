use Rattle.std.proofs.Common.{refl}
use Rattle.go_rules.proofs.OneOperand.{each_once, sizes_once, optional_once, keyed_once, indexed_once}
use Rattle.go_rules.proofs.laws.one_list.Goals as goal

pub returns-clause-each : goal.returns-clause-each
returns-clause-each c = λ E es os ps a b. each_once E a b

pub returns-clause-sizes : goal.returns-clause-sizes
returns-clause-sizes c = λ E es ms ns a b. sizes_once E a b

pub returns-clause-optional : goal.returns-clause-optional
returns-clause-optional c = λ E e d f a b. optional_once E a b

pub returns-clause-keyed : goal.returns-clause-keyed
returns-clause-keyed c = λ E fs xs ms ns a b. keyed_once E a b

pub returns-clause-indexed : goal.returns-clause-indexed
returns-clause-indexed c = λ E t u l k next xs m n a b. indexed_once E a refl b
