-- What stands before a place among the attributes of an argument.
use Rattle.pg_read_terms.specs.declared.arguments.Pending.{Pending}
use Rattle.pg_read_terms.specs.declared.arguments.Pending.TheVariants.{Fresh, Bare, Quoted, Held}
use Rattle.pg_read_grammar.specs.Reader as reader

abbrev pub pending_of : Pending → reader.Pending
pending_of Fresh = reader.Fresh
pending_of Bare = reader.Bare
pending_of Quoted = reader.Quoted
pending_of (Held t) = reader.Held t.now
