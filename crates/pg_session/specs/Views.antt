-- What contracts see of an answer.
use Rattle.pg_session.specs.declared.answers.Answer.{Answer as Told}
use Rattle.pg_session.specs.Sessions.{Answer}

abbrev pub answer_of : Told → Answer
answer_of a = record { kind = a.kind; output = a.output.items; end = a.end }
