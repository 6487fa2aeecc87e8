use Rattle.std.proofs.Common.{refl}
use Rattle.pg_stamps.specs.Marks.{mark_of}
use Rattle.pg_stamps.proofs.Levels.{no_marks}
use Rattle.pg_stamps.proofs.stamps.Stamps.new.Goals as goal

pub returns : goal.returns
returns c = λ x. no_marks (mark_of (record { marks = c.new.result })) (λ n. rw c.new.ensures refl) x 27
