-- The rules by name, and which of them isn't kept where something is lost.
-- Own: the names of the rules.
use Rattle.std.specs.Prelude.{ℕ, List, codes}
use Rattle.api_breaks.specs.declared.broken.Lost.{Lost}
use Rattle.api_breaks.specs.declared.broken.Lost.TheVariants as lost
use Rattle.api_subjects.specs.declared.rule.Rule.{Rule}
use Rattle.api_subjects.specs.declared.rule.Rule.TheVariants as rule

abbrev pub rule_name : Rule → List ℕ
rule_name rule.Package = codes "package"
rule_name rule.Name = codes "name"
rule_name rule.Removed = codes "removed"
rule_name rule.Kind = codes "kind"
rule_name rule.Constant = codes "constant"
rule_name rule.TypeRule = codes "type"
rule_name rule.Underlying = codes "underlying"
rule_name rule.Fields = codes "fields"
rule_name rule.Selectable = codes "selectable"
rule_name rule.Comparable = codes "comparable"
rule_name rule.InterfaceMethods = codes "interface-methods"
rule_name rule.MethodSet = codes "method-set"
rule_name rule.Implements = codes "implements"
rule_name rule.OneToOne = codes "one-to-one"

-- the rule by which something is lost
abbrev pub rule_of : Lost → Rule
rule_of lost.Package = rule.Package
rule_of (lost.Name name) = rule.Name
rule_of lost.Removed = rule.Removed
rule_of (lost.Kind old new) = rule.Kind
rule_of (lost.Constant path old new) = rule.Constant
rule_of (lost.Type old new) = rule.TypeRule
rule_of (lost.Underlying old new) = rule.Underlying
rule_of (lost.Field name) = rule.Fields
rule_of (lost.Selectable name) = rule.Selectable
rule_of lost.Comparable = rule.Comparable
rule_of lost.Sealing = rule.InterfaceMethods
rule_of (lost.InterfaceMethod sel) = rule.InterfaceMethods
rule_of (lost.Method sel) = rule.MethodSet
rule_of (lost.Implements interface) = rule.Implements
rule_of (lost.OneToOne old new) = rule.OneToOne
