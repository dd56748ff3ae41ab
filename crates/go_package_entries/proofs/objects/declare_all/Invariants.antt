use Rattle.std.proofs.Common.{◌≡◌, [], drop}
use Rattle.go_package_entries.specs.Settings.{setting_of}
use Rattle.go_package_entries.specs.inner.GivenObjects.{with_objects}
use Rattle.go_package_entries.proofs.objects.declare_all.Given as goal

abbrev pub invariant-loop-place : goal.invariant-loop-place
invariant-loop-place l = record {
  opened : l.env.opened ≡ [];
  same : setting_of l.env ≡ setting_of l.fn.env;
  rest : record l.env { declared = with_objects l.names l.number l.objects l.place (drop l.place l.written) l.env.declared } ≡ record l.fn.env { declared = with_objects l.names l.number l.objects 0 l.written l.fn.env.declared };
}
