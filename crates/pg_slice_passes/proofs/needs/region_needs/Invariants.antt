use Rattle.std.proofs.Common.{◌≡◌, Some, IfSome, drop}
use Rattle.pg_precondition.specs.Nodes.{NodeList}
use Rattle.pg_slice_rules.specs.Freeable.{FreeRegion}
use Rattle.pg_slice_rules.specs.Known.{Seen}
use Rattle.pg_slice_rules.specs.Rules.{all_of, free_access_needs, registers_before}
use Rattle.pg_slice_checks.specs.Asks.{Adds}
use Rattle.pg_slice_checks.specs.declared.asked.Asked.{Asked}
use Rattle.pg_slice_replay.specs.Kept.{landmark_at}
use Rattle.pg_slice_checks.specs.pg_slice_memory.Changes as bytes
use Rattle.pg_slice_registers.specs.SymbolicRegisterNodes.{registers_by}
use Rattle.pg_slice_values.specs.SymbolicNodes.{Grew}
use Rattle.pg_slice_passes.proofs.needs.region_needs.Given as goal

-- what is still asked behind the accesses so far is what is left of the whole
abbrev pub invariant-loop-k : goal.invariant-loop-k
invariant-loop-k l =
    Grew l.initial.nodes l.nodes
    × ((ns : NodeList) (x : Seen) (f : FreeRegion) (done : Asked) → Grew l.nodes ns → registers_before x ≡ registers_by ns l.frame.registers.now
    → x.before.bytes ≡ bytes.symbolics_of l.frame.p.now ns l.frame.memory.now →
    IfSome (landmark_at l.r l.n) (λ m. m.region ≡ Some f) → Adds ns (all_of (free_access_needs l.frame.p.now x) (drop l.k f.accesses)) l.asked done
    → Adds ns (all_of (free_access_needs l.frame.p.now x) f.accesses) l.initial.asked done)
