use Rattle.std.proofs.Common.{◌≡◌, Some, option_map, slice_get, sym, ◌∙◌}
use Rattle.pg_slice_rules.specs.Freeable.{FreeAccess, FreeRegion}
use Rattle.pg_slice_rules.specs.Rules.{path_needs, root_symbolic}
use Rattle.pg_slice_checks.specs.Asks.{Adds}
use Rattle.pg_precondition.specs.Nodes.{NodeList}
use Rattle.pg_region_paths.specs.Paths.{offsets_of}
use Rattle.pg_slice_replay.specs.Given.{access_as}
use Rattle.pg_slice_replay.specs.Kept.{landmark_at}
use Rattle.pg_slice_checks.specs.pg_slice_memory.Changes as bytes
use Rattle.pg_slice_registers.specs.SymbolicRegisterNodes.{registers_by}
use Rattle.pg_slice_values.specs.SymbolicNodes.{Grew}
use Rattle.pg_slice_passes.proofs.AddedNodes.{each_region, same_some}
use Rattle.pg_slice_passes.proofs.RegionFootprints.{not_there, taken_out}
use Rattle.pg_slice_passes.proofs.needs.free_access_needs.Goals as goal

pub returns-in_ok-access_needs-clause-adds : goal.returns-in_ok-access_needs-clause-adds
returns-in_ok-access_needs-clause-adds c =
    let k = c.args.k in
    each_region (λ (f : FreeRegion). option_map access_as c.access.result ≡ slice_get f.accesses k)
    (λ (f : FreeRegion). (ns : NodeList) (a : FreeAccess) → Grew c.access_needs.new.nodes ns → slice_get f.accesses k ≡ Some a →
    Adds ns (path_needs (bytes.symbolics_of c.args.frame.now.p.now ns c.args.frame.now.memory.now) (root_symbolic c.args.frame.now.p.now (registers_by ns c.args.frame.now.registers.now) a.path.root)
    (offsets_of a.path.loads) a.at.pointers a.at.cells a.at.last) c.args.asked.now c.access_needs.new.asked)
    (landmark_at c.args.r.now c.args.n)
    (λ f got ns a g at.
    let e = taken_out access_as c.access.result c.in-Some.access (slice_get f.accesses k) c.in-Some.is got in
    c.in_ok-access_needs.ensures.adds ns a g (same_some (access_as c.in-Some.access) a (sym e ∙ at)))
    c.access.ensures.access

pub returns-in_default-clause-adds : goal.returns-in_default-clause-adds
returns-in_default-clause-adds c =
    let k = c.args.k in
    each_region (λ (f : FreeRegion). option_map access_as c.access.result ≡ slice_get f.accesses k)
    (λ (f : FreeRegion). (ns : NodeList) (a : FreeAccess) → Grew c.args.nodes.now ns → slice_get f.accesses k ≡ Some a →
    Adds ns (path_needs (bytes.symbolics_of c.args.frame.now.p.now ns c.args.frame.now.memory.now) (root_symbolic c.args.frame.now.p.now (registers_by ns c.args.frame.now.registers.now) a.path.root)
    (offsets_of a.path.loads) a.at.pointers a.at.cells a.at.last) c.args.asked.now c.args.asked.now)
    (landmark_at c.args.r.now c.args.n) (λ f got ns a g at. absurd (not_there access_as c.access.result (slice_get f.accesses k) a c.in_default.is got at)) c.access.ensures.access
