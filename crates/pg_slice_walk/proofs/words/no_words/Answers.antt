use Rattle.pg_slice_walk.proofs.WordsBack.{none_asked}
use Rattle.pg_slice_walk.proofs.words.no_words.Goals as goal

pub returns : goal.returns
returns c = λ s. record { by = λ t b q. absurd (none_asked c.in_ok-words.words.items 256 t b c.in_ok-words.ensures q) }
