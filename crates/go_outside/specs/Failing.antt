-- A store and a sink that fail at some of their calls.
-- Own: the edge to files and streams.
use Rattle.std.specs.Prelude.{ℕ, ◌+◌, ◌-◌, ◌^◌, nat_eq, min, Bool, if◌then◌else◌, List}
use Rattle.std.specs.List.{list_any}
use Rattle.std.specs.Coded.{Coded, code_by, coded×, coded_ℕ, coded_list}
use Rattle.std.specs.FinMap.{code}
use Rattle.std.specs.Prelude.{refl}
use Rattle.go_outside.specs.Faults.{one_more}
use Rattle.go_outside.specs.MemorySink as memory
use Rattle.go_outside.specs.Stores.{Contents}

-- the number of the next call, from 1, is among those that fail
abbrev pub fails_next : List ℕ → ℕ → Bool
fails_next fail calls = list_any (λ n. nat_eq n (one_more calls)) fail

-- a store: what it tells, the numbers of the calls that fail, and how many calls and faults there were
pub record Store : Type 0 where
  pub contents : Contents
  pub fail : List ℕ
  pub calls : ℕ
  pub faults : ℕ

abbrev pub store_code : Coded Store
store_code = code_by (Contents × (List ℕ × (ℕ × ℕ))) (coded× (code (coded_list coded_ℕ) (coded_list coded_ℕ)) (coded× (coded_list coded_ℕ) (coded× coded_ℕ coded_ℕ)))
    (λ s. (s.contents, (s.fail, (s.calls, s.faults)))) (λ p. record { contents = p.0; fail = p.1.0; calls = p.1.1.0; faults = p.1.1.1 }) (λ _. refl)

-- a store after a call
abbrev pub called : Store → Store
called s = record s { calls = one_more s.calls; faults = if fails_next s.fail s.calls then one_more s.faults else s.faults }

-- a sink: the sink under it, the numbers of the calls that fail, and how many calls and faults of its own there were
pub record Sink : Type 0 where
  pub sink : memory.State
  pub fail : List ℕ
  pub calls : ℕ
  pub own_faults : ℕ

-- the faults of its own and those of the sink under it
abbrev pub all_faults : Sink → ℕ
all_faults s = min (s.own_faults + s.sink.faults) (2 ^ 64 - 1)

-- a sink after a write: a write that fails takes nothing, and another is that of the sink under it
abbrev pub wrote : Sink → List ℕ → Sink
wrote s piece = if fails_next s.fail s.calls then record s { calls = one_more s.calls; own_faults = one_more s.own_faults } else record s { calls = one_more s.calls; sink = memory.written s.sink piece }
