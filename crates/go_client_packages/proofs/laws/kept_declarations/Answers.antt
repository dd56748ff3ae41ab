use Rattle.go_client_expressions.proofs.Expressions.{names_grow}
use Rattle.go_typings.proofs.GrowEnvironments.{environment_more}
use Rattle.go_typings.specs.PackageEnvironments.{environment}
use Rattle.go_client_packages.specs.ClientEntries.{entries_image}
use Rattle.go_client_packages.proofs.AskedDeclarations.{asks_kept, client_is_no_error}
use Rattle.go_client_packages.proofs.Environments.{environment_kept}
use Rattle.go_client_packages.proofs.Falling.{falls_kept}
use Rattle.go_client_packages.proofs.GivenImages.{given_kept}
use Rattle.go_client_packages.proofs.laws.kept_declarations.Goals as goal

pub returns-clause-environment : goal.returns-clause-environment
returns-clause-environment c = λ s t u r pairs std is_open K a h d. environment_kept s t u r pairs std is_open K a h d

pub returns-clause-gives : goal.returns-clause-gives
returns-clause-gives c = λ s t u r pairs std is_open K a b h w d x n m g.
    let D = environment_kept s t u r pairs std is_open K a h d in
    given_kept (environment s u a d) (environment t u (entries_image r a) d) (environment s u b d) r pairs std is_open D (names_grow (environment s u a d) (environment s u b d) (environment_more a b w s u d)) K.barred n g m

pub returns-clause-asks : goal.returns-clause-asks
returns-clause-asks c = λ s t u r pairs std is_open K a h d n q.
    asks_kept (environment s u a d) (environment t u (entries_image r a) d) r pairs std is_open (environment_kept s t u r pairs std is_open K a h d) u K.client client_is_no_error n d.form q

pub returns-clause-falls : goal.returns-clause-falls
returns-clause-falls c = λ s t u r pairs std is_open K a h within typing rank f. falls_kept s t u r pairs std is_open K a h within typing rank f
