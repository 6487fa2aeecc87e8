use Rattle.std.proofs.Common.{◌≡◌, length, arith, sym, subst, refl, Option, Some, IfSome, slice_get}
use Rattle.pg_slice_rules.specs.Freeable.{FreeAccess, FreeRegion}
use Rattle.pg_slice_rules.specs.Known.{Seen}
use Rattle.pg_slice_rules.specs.Rules.{path_needs, registers_before, region_needs_in, root_symbolic}
use Rattle.pg_region_paths.specs.Paths.{offsets_of}
use Rattle.pg_slice_checks.specs.Asks.{Adds}
use Rattle.pg_precondition.specs.Nodes.{NodeList}
use Rattle.pg_slice_replay.specs.Kept.{landmark_at}
use Rattle.pg_slice_replay.specs.Landmarks.{Landmark}
use Rattle.pg_slice_checks.specs.pg_slice_memory.Changes as bytes
use Rattle.pg_slice_checks.proofs.of_pg_slice_memory.ByteNodes.{names_more}
use Rattle.pg_slice_registers.specs.SymbolicRegisterNodes.{registers_by}
use Rattle.pg_slice_registers.proofs.KeptValues.{symbolic_nodes_kept}
use Rattle.pg_slice_values.specs.SymbolicNodes.{Grew}
use Rattle.pg_slice_values.proofs.GrowingNodes.{grew_length, grew_none, grew_then}
use Rattle.pg_slice_passes.proofs.AddedNodes.{access_more, access_there, accesses_end, at_none, at_some, no_region_adds, region_adds, said_of}
use Rattle.pg_slice_passes.proofs.RegionFootprints.{is_there}
use Rattle.pg_slice_passes.proofs.needs.region_needs.Goals as goal

pub returns-then-not-is_free-clause-adds : goal.returns-then-not-is_free-clause-adds
returns-then-not-is_free-clause-adds c =
    at_none (landmark_at c.args.r.now c.args.n) (λ (l : Landmark). (ns : NodeList) (x : Seen) → Grew c.args.nodes.now ns
    → registers_before x ≡ registers_by ns c.args.frame.now.registers.now → x.before.bytes ≡ bytes.symbolics_of c.args.frame.now.p.now ns c.args.frame.now.memory.now →
    Adds ns (region_needs_in c.args.frame.now.p.now x l.region) c.args.asked.now c.args.asked.now)
    (λ l e ns x g h k. no_region_adds c.args.frame.now.p.now ns x l.region c.args.asked.now e) c.is_free.result c.if-not-is_free.true c.is_free.ensures.free

pub loop-k-init : goal.loop-k-init
loop-k-init c = (grew_none c.args.nodes.now c.args.nodes.now refl, λ ns x f done g h k m a. a)

pub free_access_needs-requires-clause-registers : goal.free_access_needs-requires-clause-registers
free_access_needs-requires-clause-registers c = symbolic_nodes_kept c.args.nodes.now c.loop-k.nodes c.args.frame.now.registers.now c.loop-k.invariant.0 c.requires.registers

pub free_access_needs-requires-clause-names : goal.free_access_needs-requires-clause-names
free_access_needs-requires-clause-names c = names_more (length c.args.nodes.now) (length c.loop-k.nodes) c.args.frame.now.memory.now
    (grew_length c.args.nodes.now c.loop-k.nodes c.loop-k.invariant.0) c.requires.names

pub loop-k-preserved : goal.loop-k-preserved
loop-k-preserved c =
    let v = c.loop-k.invariant in
    let g = c.free_access_needs.ensures.grew in
    let second = c.loop-k.nodes in
    let third = c.free_access_needs.new.nodes in
    let o = landmark_at c.args.r.now c.args.n in
    let k = c.loop-k.k in
    let between = c.loop-k.asked in
    let new = c.free_access_needs.new.asked in
    let B = λ (ns : NodeList). bytes.symbolics_of c.args.frame.now.p.now ns c.args.frame.now.memory.now in
    let rs = λ (ns : NodeList). registers_by ns c.args.frame.now.registers.now in
    let there = is_there c.args.r.now c.args.n c.requires.number in (
      grew_then c.args.nodes.now second third v.0 g,
      λ ns x f done to h q m rest.
          let count = said_of (λ (y : FreeRegion). c.access_count-k-end.result ≡ length y.accesses) o f there m c.access_count-k-end.ensures.count in
          let a = access_there f.accesses k (omega (arith, count, c.loop-k-test.true)) in
          let told = said_of (λ (y : FreeRegion). (ms : NodeList) (z : FreeAccess) → Grew third ms → slice_get y.accesses k ≡ Some z →
          Adds ms (path_needs (B ms) (root_symbolic c.args.frame.now.p.now (rs ms) z.path.root) (offsets_of z.path.loads) z.at.pointers z.at.cells z.at.last) between
          new) o f there m c.in_ok-free_access_needs.ensures.adds in
          v.1 ns x f done (grew_then second third ns g to) h q m (access_more c.args.frame.now.p.now ns x (B ns) (rs ns) h q f k a.0 between new done a.1 (told ns a.0 to a.1) rest),
    )

pub returns-clause-adds : goal.returns-clause-adds
returns-clause-adds c =
    let o = landmark_at c.args.r.now c.args.n in
    let there = is_there c.args.r.now c.args.n c.requires.number in
    let v = c.loop-k.invariant in
    at_some o (λ (l : Landmark). (ns : NodeList) (x : Seen) → Grew c.loop-k.nodes ns → registers_before x ≡ registers_by ns c.args.frame.now.registers.now
    → x.before.bytes ≡ bytes.symbolics_of c.args.frame.now.p.now ns c.args.frame.now.memory.now →
    Adds ns (region_needs_in c.args.frame.now.p.now x l.region) c.args.asked.now c.loop-k.asked)
    (λ l f e m ns x to h k.
    let mark = subst (λ (z : Option Landmark). IfSome z (λ (y : Landmark). y.region ≡ Some f)) (sym e) m in
    let count = said_of (λ (q : FreeRegion). c.access_count-k-end.result ≡ length q.accesses) o f there mark c.access_count-k-end.ensures.count in
    region_adds c.args.frame.now.p.now ns x l.region f c.args.asked.now c.loop-k.asked m
    (v.1 ns x f c.loop-k.asked to h k mark (accesses_end c.args.frame.now.p.now ns x f c.loop-k.k c.loop-k.asked (omega (arith, count, c.loop-k-test.false)))))
    c.is_free.result c.if-not-is_free.false c.is_free.ensures.free
