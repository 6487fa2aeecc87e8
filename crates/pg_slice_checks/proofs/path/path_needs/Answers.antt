use Rattle.std.proofs.Common.{◌≡◌, ◌+◌, suc, arith, length, sym, subst}
use Rattle.pg_slice_memory.specs.pg_slice_rules.Rules.{path_needs}
use Rattle.pg_slice_memory.specs.pg_slice_values.SymbolicNodes.{symbolic_by}
use Rattle.pg_slice_memory.proofs.of_pg_slice_values.GrowingNodes.{grew_length, grew_then, symbolic_node_more}
use Rattle.pg_slice_memory.specs.Changes.{symbolics_of}
use Rattle.pg_slice_checks.specs.Asks.{Adds}
use Rattle.pg_slice_checks.proofs.PathLoads.{loads_more, path_ends, symbolic_nodes_more}
use Rattle.pg_slice_checks.proofs.path.path_needs.Goals as goal

pub loop-i-preserved : goal.loop-i-preserved
loop-i-preserved c =
    let v = c.loop-i.invariant in
    let first = c.loop-i.nodes in
    let second = c.offset.new.nodes in
    let third = c.load.new.nodes in
    let g = c.offset.ensures.grew in
    let h = c.load.ensures.grew in
    let both = grew_then first second third g h in
    let q : c.loop-i.i + 1 ≡ suc c.loop-i.i = omega arith in (
      grew_then c.args.nodes.now first third v.0 both,
      c.in_ok-s.ensures.is,
      symbolic_nodes_more first third c.args.memory.now both v.2,
      λ ns cells done k cut rest. v.3 ns cells done (grew_then first third ns both k) cut
          (loads_more c.args.p.now c.args.memory.now c.args.path.now.offsets.now c.args.path.now.pointers.now cells c.args.path.now.last c.loop-i.i first second third ns c.loop-i.s c.in_ok-at.at c.in_ok-s.s
          c.move_word-address.result c.place_of.result
          c.loop-i.asked c.need_value.new.self done g h k v.1 c.in_ok-at.ensures.is c.in_ok-s.ensures.is v.2 c.loop-i-test.true cut
          c.in_ok-at.ensures.value c.move_word-address.ensures c.place_of.ensures.place c.in_ok-s.ensures.value c.in_ok-need_value.ensures (rw q at rest)),
    )

pub returns-clause-adds : goal.returns-clause-adds
returns-clause-adds c = λ ns cells k cut.
    let v = c.loop-i.invariant in
    v.3 ns cells c.need_bounds.new.self k cut
    (subst (λ l. Adds ns l c.loop-i.asked c.need_bounds.new.self)
    (sym (path_ends (symbolics_of c.args.p.now ns c.args.memory.now) (symbolic_by ns c.loop-i.s) c.args.path.now.offsets.now c.args.path.now.pointers.now cells c.args.path.now.last c.loop-i.i
    (omega (arith, c.loop-i-test.false))))
    (c.in_ok-need_bounds.ensures ns (symbolic_node_more (length c.loop-i.nodes) (length ns) c.loop-i.s (grew_length c.loop-i.nodes ns k) v.1)))
