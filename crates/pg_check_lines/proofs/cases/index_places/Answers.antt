use Rattle.std.proofs.Common.{◌+◌, drop, sym, ap, ◌∙◌}
use Rattle.pg_check_lines.specs.Cases.{starts_behind, start_of}
use Rattle.pg_check_lines.proofs.CaseStarts.{starts_at, starts_done}
use Rattle.pg_check_lines.proofs.cases.index_places.Goals as goal

pub loop-place-preserved : goal.loop-place-preserved
loop-place-preserved c = λ n.
    ap (λ o. starts_behind o (drop (c.loop-place.place-index + 1) c.args.places.now) n) (c.in_ok-note_place.ensures n)
    ∙ starts_at (start_of c.loop-place.starts n) c.args.places.now c.loop-place.place-index _ n c.loop-place-test.true
    ∙ c.loop-place.invariant n

pub returns : goal.returns
returns c = λ n. sym (starts_done (start_of c.loop-place.starts n) c.args.places.now c.loop-place.place-index n c.loop-place-test.false) ∙ c.loop-place.invariant n
