use Rattle.pg_seats.proofs.SeatLaws.{seat_finds}
use Rattle.pg_seats.proofs.laws.a_seat_finds_what_the_run_has.Goals as goal

pub returns : goal.returns
returns c = seat_finds
