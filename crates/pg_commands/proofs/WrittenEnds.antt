-- How a command ends that hands a text to the sink in one piece, and how one whose fetch fails.
use Rattle.std.proofs.Common.{◌≡◌, refl, sym, subst, ℕ, inl, inr, List}
use Rattle.std.specs.Io.KnownBytes.{Appends}
use Rattle.pg_io.specs.Faults.{Rose}
use Rattle.pg_io.specs.Streams.{AppendsFront, TakesAtMost}
use Rattle.pg_commands_words.specs.Commands.{Meaning}
use Rattle.pg_commands.specs.declared.status.Status.{Status}
use Rattle.pg_commands.specs.declared.status.Status.TheVariants.{ShelfFault, WriteFault}
use Rattle.pg_commands.specs.Commands.{EndsAs, IsDue, MayFetch, World, WritesFront, most_taken}
use Rattle.pg_commands.specs.Replies.{IsWritten}
use Rattle.pg_commands.proofs.CommandEnds.{OfCrews, Says, ends_as, none_failed, takes_same}

-- no fetch and no read failed
pub record Quiet (w : World) (m : Meaning) : Type 0 where
  pub fetches : (name : List ℕ) → w.shelf.fetches_after name ≡ w.shelf.fetches_before name
  pub reads : w.source.reads_after ≡ w.source.reads_before
  pub takes : TakesAtMost w.source.rest_before w.source.rest_after (most_taken m)
  pub crews : OfCrews w m

-- the text is the last that the command says, with a status that is due then
pub written_ends : (w : World) (m : Meaning) (text : List ℕ) (due status : Status) → Quiet w m → (Appends w.sink.taken_before w.sink.taken_after text → Says w m due)
    → (AppendsFront w.sink.taken_before w.sink.taken_after text → WritesFront w m) → IsDue w due m
    → IsWritten text due w.sink.taken_before w.sink.taken_after w.sink.writes_before w.sink.writes_after status → EndsAs w m status
written_ends w m text due status quiet says front is (inl h) = subst (EndsAs w m) (sym h.0)
    (ends_as w m due (says h.1) (none_failed w due quiet.fetches quiet.reads h.2) quiet.takes quiet.crews (λ n. is))
written_ends w m text due status quiet says front is (inr h) = subst (EndsAs w m) (sym h.0)
    (ends_as w m WriteFault (h.2, front h.1) (record { fetches = λ name. inr (quiet.fetches name); reads = inr quiet.reads; writes = inl refl })
    quiet.takes quiet.crews (λ n. absurd (n.writes h.2)))

-- nothing was read, recorded, run by workers or written
pub record Idle (w : World) : Type 0 where
  pub rest : w.source.rest_after ≡ w.source.rest_before
  pub reads : w.source.reads_after ≡ w.source.reads_before
  pub taken : w.sink.taken_after ≡ w.sink.taken_before
  pub writes : w.sink.writes_after ≡ w.sink.writes_before
  pub rounds : w.crew.rounds_after ≡ w.crew.rounds_before
  pub turns : w.workers.turns_after ≡ w.workers.turns_before

-- the fetch of a name failed, to which the command came
pub fetch_fails : (w : World) (m : Meaning) (name : List ℕ) → MayFetch w m name → Rose (w.shelf.fetches_before name) (w.shelf.fetches_after name) → Idle w → EndsAs w m ShelfFault
fetch_fails w m name may rose idle =
    ends_as w m ShelfFault (record { name = name; fetched = may; rose = rose; rest = idle.rest; taken = idle.taken })
    (record { fetches = λ other. inl refl; reads = inr idle.reads; writes = inr idle.writes })
    (takes_same w.source.rest_before w.source.rest_after (most_taken m) idle.rest) (record { rounds = inr idle.rounds; turns = inr idle.turns }) (λ n. absurd (n.fetches name may rose))
