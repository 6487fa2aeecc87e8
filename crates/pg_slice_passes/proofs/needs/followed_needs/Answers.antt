use Rattle.std.proofs.Common.{◌≡◌, ℕ, ◌≤◌, List, length, take, arith, sym, ap, ◌∙◌}
use Rattle.pg_slice_rules.specs.Rules.{root_symbolic}
use Rattle.pg_slice_rules.specs.SymbolicValues.{Symbolic}
use Rattle.pg_slice_replay.specs.Paths.{cells_of}
use Rattle.pg_slice_checks.specs.pg_slice_memory.Changes as bytes
use Rattle.pg_slice_checks.proofs.of_pg_slice_memory.ByteNodes.{names_more}
use Rattle.pg_slice_registers.specs.SymbolicRegisterNodes.{registers_by}
use Rattle.pg_slice_values.specs.SymbolicNodes.{symbolic_by}
use Rattle.pg_slice_values.proofs.GrowingNodes.{grew_length, grew_then}
use Rattle.pg_slice_passes.proofs.AddedNodes.{cells_are, later, path_adds}
use Rattle.pg_slice_passes.proofs.needs.followed_needs.Goals as goal

pub path_needs-requires-clause-names : goal.path_needs-requires-clause-names
path_needs-requires-clause-names c = names_more (length c.args.nodes.now) (length c.root.new.nodes) c.args.frame.now.memory.now
    (grew_length c.args.nodes.now c.root.new.nodes c.root.ensures.grew) c.requires.names

pub path_needs-requires-clause-count : goal.path_needs-requires-clause-count
path_needs-requires-clause-count c = omega (arith, c.first-at.ensures.count, c.first-pointers.ensures.count)

pub returns-clause-adds : goal.returns-clause-adds
returns-clause-adds c = λ ns a g q.
    let p = c.args.frame.now.p.now in
    let access = c.args.access.now in
    let regs = c.args.frame.now.registers.now in
    let n0 = c.args.nodes.now in
    let n1 = c.root.new.nodes in
    let offsets = c.first-at.result.now in
    let pointers = c.first-pointers.result.now in
    let e = c.first-at.ensures.words ∙ c.offsets-count.ensures.offsets in
    let count : c.offsets-count.result.1 ≡ length offsets = sym c.first-at.ensures.count in
    let f = c.first-pointers.ensures.words ∙ ap (λ (k : ℕ). take k access.pointers) count in
    let few = c.first-at.ensures.count in
    let many = c.first-pointers.ensures.count in
    let l : length offsets ≤ length pointers = omega (arith, few, many) in
    let from = c.in_ok-from.from in
    let r = later (λ (rs : List Symbolic). root_symbolic p rs access.path.root) n0 n1 ns from regs c.root.ensures.grew
    (grew_then n1 c.path_needs.new.nodes ns c.path_needs.ensures.grew g) c.in_ok-from.ensures.is c.requires.registers c.in_ok-from.ensures.value in
    path_adds p ns (bytes.symbolics_of p ns c.args.frame.now.memory.now) (registers_by ns regs) (symbolic_by ns from) access offsets pointers c.args.asked.now c.path_needs.new.asked e f l r
    (c.in_ok-path_needs.ensures.adds ns (cells_of pointers offsets) g (cells_are offsets pointers l)) a q
