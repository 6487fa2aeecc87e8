use Rattle.std.proofs.Common.{pos, refl, ap, ◌∙◌, arith, w64}
use Rattle.std.proofs.lemmas.Int.{to_z_pos}
use Rattle.std.proofs.Math.IntN.{+ℤ_idl}
use Rattle.pg_num.specs.Pointers.{moved_by, offset_of}
use Rattle.pg_check_constants.specs.Indices.{moves_of}
use Rattle.pg_check_constants.proofs.Offsets.{move_step, move_end, same_move}
use Rattle.pg_check_constants.proofs.indices.moved_along.Goals as goal

pub loop-place-preserved : goal.loop-place-preserved
loop-place-preserved c =
    move_step c.loop-place.offset c.moved_offset-offset.result c.args.scales.now c.args.indices.now c.loop-place.place _ _ _ _
    c.requires c.loop-place-test.true refl refl c.moved_offset-offset.ensures
    ∙ c.loop-place.invariant

pub returns : goal.returns
returns c =
    let all = moves_of c.args.scales.now c.args.indices.now in
    c.move_by.ensures
    ∙ ap (λ z. moved_by c.args.word z) (to_z_pos w64 c.loop-place.offset (omega (arith, c.loop-place.auto.offset-fits)))
    ∙ same_move c.args.word (pos c.loop-place.offset) all
    (move_end c.loop-place.offset c.args.scales.now c.args.indices.now c.loop-place.place c.loop-place-test.false ∙ c.loop-place.invariant ∙ ap offset_of (+ℤ_idl all))
