use Rattle.pg_law_threads.proofs.IntervalWords.{in_words}
use Rattle.pg_law_threads.proofs.intervals_in_words.Goals as goal

pub returns : goal.returns
returns c V turns k j x y le until v w = in_words V turns k j x y le until v w
