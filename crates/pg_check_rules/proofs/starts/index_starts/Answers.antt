use Rattle.std.proofs.Common.{◌+◌, drop, sym, ap, ◌∙◌}
use Rattle.std.specs.Str.{bytes_eq}
use Rattle.pg_check_types.specs.NameIndex.{known_place}
use Rattle.pg_check_rules.specs.Starts.{names_behind, noted_start, starts_after}
use Rattle.pg_check_rules.proofs.Doubles.{starts_step, starts_done}
use Rattle.pg_check_rules.proofs.starts.index_starts.Goals as goal

pub loop-name-preserved : goal.loop-name-preserved
loop-name-preserved c = λ text.
    let known = known_place c.loop-name.starts text in
    let rest = names_behind (drop (c.loop-name.name-index + 1) c.args.names.now) in
    let start = c.name-item.result.now.span.start in
    ap (λ o. starts_after o rest text) (c.in_ok-note_start.ensures text ∙ ap (λ t. noted_start known (bytes_eq t text) start) c.as_slice.ensures)
    ∙ starts_step known c.args.names.now c.loop-name.name-index c.name-item.result c.name-item.result text c.loop-name-test.true c.name-item.is
    ∙ c.loop-name.invariant text

pub returns : goal.returns
returns c = λ text. sym (starts_done (known_place c.loop-name.starts text) c.args.names.now c.loop-name.name-index text c.loop-name-test.false) ∙ c.loop-name.invariant text
