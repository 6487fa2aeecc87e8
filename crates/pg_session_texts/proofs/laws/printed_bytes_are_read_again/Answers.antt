use Rattle.pg_session_texts.proofs.Keys.{bytes_back}
use Rattle.pg_session_texts.proofs.laws.printed_bytes_are_read_again.Goals as goal

pub returns : goal.returns
returns c = bytes_back
