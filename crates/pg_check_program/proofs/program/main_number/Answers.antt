use Rattle.std.proofs.Common.{◌+◌, ◌<◌, length, IfSome, sym, subst, arith}
use Rattle.pg_check_program.specs.FunctionRows.{is_main_item}
use Rattle.pg_check_program.proofs.BoundedNumbers.{place_below}
use Rattle.pg_check_program.proofs.program.main_number.Goals as goal

pub overflow_cast-result : goal.overflow_cast-result
overflow_cast-result c =
    let all = c.args.all.now in
    let below : c.in-Some.place < 0 + length all = subst (λ o. IfSome o (λ p. p < 0 + length all)) (sym c.in-Some.ensures) (place_below is_main_item 0 all) in
    omega (arith, below, c.requires)
