use Rattle.std.proofs.Common.{length, sym, ap, ◌∙◌}
use Rattle.pg_check_constants.proofs.ScaleSteps.{scale_count}
use Rattle.pg_check_constants.proofs.constants.moved_word.Goals as goal

pub moved_along-requires : goal.moved_along-requires
moved_along-requires c =
    ap (λ xs. length xs) (c.as_slice-2.ensures.value ∙ c.in_ok-scales.ensures.scales)
    ∙ scale_count _ _
    ∙ ap (λ xs. length xs) (c.as_slice.ensures.value ∙ sym c.as_slice-3.ensures.value)
