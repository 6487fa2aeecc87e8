use Rattle.std.proofs.Common.{List, length, arith, subst, sym}
use Rattle.pg_precondition.specs.declared.node.Node.{Node}
use Rattle.pg_precondition.specs.Nodes.{IsNode, AreNodes}
use Rattle.pg_precondition.proofs.AddedNodes.{one_more}
use Rattle.pg_precondition.proofs.nodes.Nodes.push.Goals as goal

pub invariant_of-self-2 : goal.invariant_of-self-2
invariant_of-self-2 c =
    let s = c.self.inside in
    let names : IsNode (length s.items.items) c.args.node = subst (λ (l : List Node). IsNode (length l) c.args.node) (sym c.self.view_is) c.requires in
    let named = one_more s.items.items c.args.node c.self.invariant.0 names in
    (subst (λ (l : List Node). AreNodes l) (sym c.in_ok-push.ensures.items) named, omega (arith, c.in_ok-push.ensures.len, c.if-i-ge4294967295.false, c.len-i.ensures))
