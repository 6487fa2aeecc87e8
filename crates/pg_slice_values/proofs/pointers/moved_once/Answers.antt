use Rattle.std.proofs.Common.{◌∙◌, ap}
use Rattle.std.proofs.lemmas.Result.{IfOk-weaker}
use Rattle.pg_slice_values.specs.SymbolicNodes.{number_by}
use Rattle.pg_slice_values.specs.Forms.{moved_if}
use Rattle.pg_slice_values.proofs.GrowingNodes.{number_kept}
use Rattle.pg_slice_values.proofs.PointerMoves.{moved_is}
use Rattle.pg_slice_values.proofs.pointers.moved_once.Goals as goal

pub returns-clause-value : goal.returns-clause-value
returns-clause-value c =
    IfOk-weaker c.added.result _ _ (λ k h input.
    h input
    ∙ moved_is c.args.index _ _ _ (c.in_ok-delta.ensures.value input)
    ∙ ap (λ word. moved_if c.args.index word (number_by c.args.nodes.now c.args.node input))
    (number_kept c.args.nodes.now c.distance.new.nodes c.args.word input c.distance.ensures.grew c.requires.word)) c.added.ensures.value
