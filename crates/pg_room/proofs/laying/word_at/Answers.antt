use Rattle.std.proofs.Common.{◌-◌, refl, arith}
use Rattle.pg_room.proofs.WordBytes.{all_made, fits_more, made_more, none_made}
use Rattle.pg_room.proofs.laying.word_at.Goals as goal

pub loop-left-init : goal.loop-left-init
loop-left-init c = none_made c.args.bytes.now c.args.from

pub overflow_mul-word : goal.overflow_mul-word
overflow_mul-word c =
    let small = fits_more c.args.bytes.now c.args.from c.loop-left.left c.loop-left.word c.loop-left.invariant (omega arith) in
    omega (arith, small)

pub overflow_add-word : goal.overflow_add-word
overflow_add-word c =
    let small = fits_more c.args.bytes.now c.args.from c.loop-left.left c.loop-left.word c.loop-left.invariant (omega arith) in
    omega (arith, small)

pub loop-left-preserved : goal.loop-left-preserved
loop-left-preserved c = made_more c.args.bytes.now c.args.from c.loop-left.left c.loop-left.word c.byte_at-byte.result (c.loop-left.left - 1) c.loop-left.invariant (omega arith) refl
    c.byte_at-byte.ensures (omega arith)

pub returns : goal.returns
returns c = all_made c.args.bytes.now c.args.from c.loop-left.left c.loop-left.word c.loop-left.invariant (omega arith)
