use Rattle.go_rules.specs.Scopes.{env_of}
use Rattle.go_elements.proofs.Indexing.{array_gives, slice_gives}
use Rattle.go_elements.proofs.elements.element_at.Goals as goal

pub returns-in_ok-array-in-Array : goal.returns-in_ok-array-in-Array
returns-in_ok-array-in-Array c = array_gives (env_of c.args.context.now.env.now) c.args.mode c.args.index.now c.args.under.now _ _ _ c.in_ok-array-in-Array.array c.in-Array.is c.value.ensures c.in_ok-array-in-Array.ensures

pub returns-in_ok-slice-in-Slice : goal.returns-in_ok-slice-in-Slice
returns-in_ok-slice-in-Slice c = slice_gives (env_of c.args.context.now.env.now) c.args.mode c.args.index.now c.args.under.now _ _ c.in_ok-slice-in-Slice.slice c.in-Slice.is c.value-in-Slice.ensures c.in_ok-slice-in-Slice.ensures
