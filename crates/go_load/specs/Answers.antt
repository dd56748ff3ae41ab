-- That the answers of the loads over one store agree, but for a fault and want of memory.
-- Own: the order in which a load is refused.
use Rattle.std.specs.Prelude.{◌≡◌, ◌⊎◌, Result, Ok, Err}
use Rattle.go_model.specs.declared.files.tree.Tree.{Tree}
use Rattle.go_load.specs.declared.error.LoadError.{LoadError}
use Rattle.go_load.specs.declared.error.LoadError.TheVariants as error

-- a fault or want of memory, which may come instead of every other answer
abbrev pub IsFree : Result Tree LoadError → Type 0
IsFree (Ok tree) = ⊥
IsFree (Err (error.Missing path)) = ⊥
IsFree (Err error.NoModule) = ⊥
IsFree (Err error.BadModule) = ⊥
IsFree (Err (error.Limit name path)) = ⊥
IsFree (Err error.ReadFault) = Unit {0}
IsFree (Err error.NoMemory) = Unit {0}

-- two answers are one, unless one of them is free
abbrev pub Agree : Result Tree LoadError → Result Tree LoadError → Type 0
Agree r s = IsFree r ⊎ IsFree s ⊎ (r ≡ s)
