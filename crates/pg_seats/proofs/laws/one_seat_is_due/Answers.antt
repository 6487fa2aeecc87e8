use Rattle.pg_seats.proofs.SeatLaws.{one_seat_is_due}
use Rattle.pg_seats.proofs.laws.one_seat_is_due.Goals as goal

pub returns : goal.returns
returns c = one_seat_is_due
