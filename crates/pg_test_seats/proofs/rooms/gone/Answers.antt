use Rattle.std.proofs.Common.{List, drop, length, sym, ◌∙◌, subst}
use Rattle.std.proofs.lemmas.List.{take_at}
use Rattle.pg_crew.specs.pg_worker.declared.worker.Worker.{Worker}
use Rattle.pg_crew.specs.pg_worker.Standing.{run_in, table_in}
use Rattle.pg_crew.specs.Workers.{HaveEnded}
use Rattle.pg_test_seats.proofs.rooms.gone.Goals as goal

pub rest-room-requires-clause-ended : goal.rest-room-requires-clause-ended
rest-room-requires-clause-ended g c =
    let shared = c.args.ready.shared in
    let before = c.args.ready.workers in
    let after = c.rounds-ended.new.workers in
    let whole = take_at after (drop (length after) before.items) before.len (c.rounds-ended.auto.workers ∙ c.as_mut_slice.ensures.len) in
    subst (λ (ws : List Worker). HaveEnded (run_in shared) (table_in shared) ws) (sym whole) c.rounds-ended.ensures.ended
