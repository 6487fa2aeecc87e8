use Rattle.std.proofs.Common.{[], drop, sym, ap, ◌∙◌}
use Rattle.pg_check_rules.specs.CallConditions.{fits_params}
use Rattle.pg_check_calls.specs.Headers.{param_behind, params_behind}
use Rattle.pg_check_calls.proofs.Params.{dots_end, ends_here}
use Rattle.pg_check_calls.proofs.calls.ends_at.Goals as goal

pub returns-then-dots : goal.returns-then-dots
returns-then-dots c = λ types.
    let qs = params_behind (drop c.args.place c.args.params.now) in
    c.is_only_dots.ensures ∙ dots_end types qs ∙ ap (λ d. fits_params types qs [] d) (sym c.if-dots.true)

pub returns-else-dots : goal.returns-else-dots
returns-else-dots c = λ types.
    let qs = params_behind (drop c.args.place c.args.params.now) in
    ends_here types param_behind c.args.params.now c.args.place ∙ ap (λ d. fits_params types qs [] d) (sym c.if-dots.false)
