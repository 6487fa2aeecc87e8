use Rattle.std.proofs.Common.{◌∙◌}
use Rattle.pg_crew.specs.pg_seats.Plan.{run_of}
use Rattle.pg_room.proofs.LaidGranules.{may_open, opened, zero_laid}
use Rattle.pg_room.proofs.SeatLists.{begins, begun}
use Rattle.pg_room.proofs.ready.begun.Goals as goal

pub begin-requires-clause-enforced : goal.begin-requires-clause-enforced
begin-requires-clause-enforced c = record { can = c.requires.can; good = c.requires.good; few = c.requires.made.turns }

pub begin-requires-clause-idle : goal.begin-requires-clause-idle
begin-requires-clause-idle c = begins c.args.room.pool.me c.args.room.epoch c.args.room.idle

pub lay_globals-requires-clause-before : goal.lay_globals-requires-clause-before
lay_globals-requires-clause-before c = zero_laid (run_of c.args.p.now c.args.s.now c.args.input.now c.args.room.epoch) c.begin.new.seat.me c.args.made.laid.words.items c.requires.can.program.globals
    (begun c.args.p.now c.args.s.now c.args.input.now c.args.room.epoch c.args.room.pool.me c.begin.new.seat.me c.args.room.idle c.begin.ensures.view)

pub open-requires-clause-next : goal.open-requires-clause-next
open-requires-clause-next c = may_open (run_of c.args.p.now c.args.s.now c.args.input.now c.args.room.epoch) c.lay_globals.new.pool.me c.lay_globals.new.laid.words.items c.lay_globals.ensures.laid

pub seat_all-workers-requires-clause-enforced : goal.seat_all-workers-requires-clause-enforced
seat_all-workers-requires-clause-enforced c = record { can = c.requires.can; good = c.requires.good; few = c.requires.made.turns }

pub seat_all-workers-requires-clause-view : goal.seat_all-workers-requires-clause-view
seat_all-workers-requires-clause-view c = opened (run_of c.args.p.now c.args.s.now c.args.input.now c.args.room.epoch) c.lay_globals.new.pool.me c.lay_globals.new.laid.words.items c.lay_globals.ensures.laid c.open.new.seat.me c.open.ensures.view

pub returns-clause-ready : goal.returns-clause-ready
returns-clause-ready c = record {
  gated = c.requires.made.gated;
  epoch = c.requires.epoch;
  workers = c.seat_all-workers.ensures.workers;
  own = c.seat_all-workers.ensures.own.0 ∙ c.open.ensures.own.0 ∙ c.lay_globals.ensures.own.0 ∙ c.begin.ensures.own.0 ∙ c.args.room.own;
  view = c.seat_all-workers.ensures.view;
  laid = c.lay_globals.ensures.laid.marked;
}
