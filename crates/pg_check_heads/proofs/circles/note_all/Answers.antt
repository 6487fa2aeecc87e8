use Rattle.std.proofs.Common.{[], ◌+◌, refl, sym, subst, take, get_or}
use Rattle.pg_check_rules.proofs.Rows.{row_whole}
use Rattle.pg_check_heads.specs.Circles.{Noted, noted_seen, noted_next}
use Rattle.pg_check_heads.proofs.Reaching.{noted_none, note_step, take_step}
use Rattle.pg_check_heads.proofs.circles.note_all.Goals as goal

pub loop-index-init : goal.loop-index-init
loop-index-init c = subst (λ xs. Noted [] c.args.seen.now.items c.args.seen.now.items xs) (sym c.new-next.ensures.items) (noted_none c.args.seen.now.items)

pub loop-index-preserved : goal.loop-index-preserved
loop-index-preserved c =
    let all = c.args.all.now in
    let i = c.loop-index.index in
    let seen = c.loop-index.seen.items in
    let next = c.loop-index.next.items in
    let place = get_or all i 0 in
    let step = note_step (take i all) c.args.seen.now.items seen next place c.loop-index.invariant in
    let one = subst (λ xs. Noted xs c.args.seen.now.items (noted_seen seen place) (noted_next seen next place)) (sym (take_step all i 0 place c.loop-index-test.true refl)) step in
    let two = subst (λ xs. Noted (take (i + 1) all) c.args.seen.now.items xs (noted_next seen next place)) (sym c.in_ok-note.ensures.seen) one in
    subst (λ xs. Noted (take (i + 1) all) c.args.seen.now.items c.note.new.seen.items xs) (sym c.in_ok-note.ensures.next) two

pub returns : goal.returns
returns c = row_whole (λ xs. Noted xs c.args.seen.now.items c.loop-index.seen.items c.loop-index.next.items) c.args.all.now c.loop-index.index c.loop-index-test.false c.loop-index.invariant
