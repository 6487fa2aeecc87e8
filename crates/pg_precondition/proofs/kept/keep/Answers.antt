use Rattle.std.proofs.Common.{◌∷◌, [], ◌++◌, length, take, arith, sym, ap, ◌∙◌, subst}
use Rattle.std.specs.Prelude.{slice_index, if◌then◌else◌}
use Rattle.std.proofs.lemmas.List.{append-nil}
use Rattle.pg_precondition.specs.Nodes.{IsNode}
use Rattle.pg_precondition.specs.Kept.{kept, renamed}
use Rattle.pg_precondition.proofs.RenamedNodes.{node_up, renamed_is_node}
use Rattle.pg_precondition.proofs.NumberedLists.{get_some}
use Rattle.pg_precondition.proofs.NeededMarks.{names_below}
use Rattle.pg_precondition.proofs.MarkPlaces.{kept_length, kept_more, place_lt}
use Rattle.pg_precondition.proofs.kept.keep.Goals as goal

pub renamed-requires : goal.renamed-requires
renamed-requires c =
    let a = c.requires.places.as_many in
    let m = c.requires.as_many in
    let w = c.requires.within in
    node_up c.args.i (length c.args.places.now) c.node-node.result (omega (arith, a, m, w)) c.node-node.ensures.names

pub push-requires : goal.push-requires
push-requires c =
    let f = slice_index c.args.places.now in
    let i = c.args.i in
    let marks = c.args.marks.now in
    let nodes = c.args.nodes.now in
    let w = c.requires.within in
    let m = c.requires.as_many in
    let n = c.node-node.result in
    let set' = sym c.is_set.ensures ∙ c.if-not-is_set.false in
    let l = ap length c.requires.list ∙ kept_length f marks nodes i (omega (arith, w, m)) (omega (arith, w)) in
    subst (IsNode (length c.args.list.now)) (sym c.renamed.ensures.node)
    (renamed_is_node f i (length c.args.list.now) n c.node-node.ensures.names c.renamed.ensures.parts
    (λ a e.
    let b = names_below i a n c.node-node.ensures.names e in
    let s = c.requires.closed i n c.node-node.ensures.node set' (omega arith) a e in
    let p = c.requires.places.each a (omega (arith, b, w, m)) in
    let q = place_lt marks a i b s in
    omega (arith, p, q, l)))

pub returns-then-not-is_set : goal.returns-then-not-is_set
returns-then-not-is_set c =
    let f = slice_index c.args.places.now in
    let i = c.args.i in
    let w = c.requires.within in
    let m = c.requires.as_many in
    let g = get_some c.args.nodes.now i w in
    c.requires.list
    ∙ sym (kept_more f c.args.marks.now c.args.nodes.now i g.it g.is (omega (arith, w, m))
    ∙ ap (λ b. kept f (take i c.args.marks.now) (take i c.args.nodes.now) ++ (if b then renamed f g.it ∷ [] else [])) (sym c.is_set.ensures ∙ c.if-not-is_set.true)
    ∙ append-nil (kept f (take i c.args.marks.now) (take i c.args.nodes.now)))

pub returns : goal.returns
returns c =
    let f = slice_index c.args.places.now in
    let i = c.args.i in
    let w = c.requires.within in
    let m = c.requires.as_many in
    c.in_ok-push.ensures.added.1 ∙ ap (λ l. l ++ c.renamed.result ∷ []) c.requires.list
    ∙ ap (λ z. kept f (take i c.args.marks.now) (take i c.args.nodes.now) ++ z ∷ []) c.renamed.ensures.node
    ∙ sym (kept_more f c.args.marks.now c.args.nodes.now i c.node-node.result c.node-node.ensures.node (omega (arith, w, m))
    ∙ ap (λ b. kept f (take i c.args.marks.now) (take i c.args.nodes.now) ++ (if b then renamed f c.node-node.result ∷ [] else [])) (sym c.is_set.ensures ∙ c.if-not-is_set.false))
