-- How a command ends, from what its status says.
use Rattle.std.proofs.Common.{◌≡◌, ◌∙◌, refl, sym, subst, ℕ, ◌≤◌, ◌⊎◌, inl, inr, List, [], Option, Some, None, IfSome, arith}
use Rattle.pg_ir.specs.Program.{NumberedProgram}
use Rattle.pg_io.specs.Streams.{AppendsFront, TakesAtMost}
use Rattle.pg_commands_words.specs.Commands.{Meaning}
use Rattle.pg_commands.specs.declared.status.Status.{Status}
use Rattle.pg_commands.specs.declared.status.Status.TheVariants.{Done, Usage, ProgramRefused, ShelfFault, ReadFault, WriteFault, InputLimit, OutOfMemory, BookRefused}
use Rattle.pg_commands.specs.Commands.{World, WritesWhole, WritesRefusal, WritesBookRefusal, FailsToFetch, FailsToRead, FailsToWrite, ExceedsLimit, LacksMemory, EndsAs, IsDue, NoFault, IsOr, DueOfText, UsesCrew, UsesWorkers}
use Rattle.pg_commands.specs.Commands.{most_taken, WritesTextFront}
use Rattle.pg_commands.specs.Replies.{IsReply, IsReplyStatus, IsWritten}
use Rattle.pg_commands.specs.Texts.{IsAccepted, IsRefusalLine}
use Rattle.pg_commands.proofs.TextVerdicts.{not_refused}

-- ---- a status alone

-- what a status says of what was written
abbrev pub Says : World → Meaning → Status → Type 0
Says w m Done = WritesWhole w m
Says w m Usage = ⊥
Says w m ProgramRefused = WritesRefusal w m
Says w m ShelfFault = FailsToFetch w m
Says w m ReadFault = FailsToRead w m
Says w m WriteFault = FailsToWrite w m
Says w m InputLimit = ExceedsLimit w m
Says w m OutOfMemory = LacksMemory w m
Says w m BookRefused = WritesBookRefusal w m

-- the counts of faults, where a status tells which rose
pub record Counts (w : World) (status : Status) : Type 0 where
  pub fetches : (name : List ℕ) → (status ≡ ShelfFault) ⊎ (w.shelf.fetches_after name ≡ w.shelf.fetches_before name)
  pub reads : (status ≡ ReadFault) ⊎ (w.source.reads_after ≡ w.source.reads_before)
  pub writes : (status ≡ WriteFault) ⊎ (w.sink.writes_after ≡ w.sink.writes_before)

-- the crew that records made no round where the command doesn't record by it, and that which runs workers counted no turn where it
-- answers no lines
pub record OfCrews (w : World) (m : Meaning) : Type 0 where
  pub rounds : UsesCrew m ⊎ (w.crew.rounds_after ≡ w.crew.rounds_before)
  pub turns : UsesWorkers m ⊎ (w.workers.turns_after ≡ w.workers.turns_before)

pub ends_as : (w : World) (m : Meaning) (status : Status) → Says w m status → Counts w status
    → TakesAtMost w.source.rest_before w.source.rest_after (most_taken m) → OfCrews w m → (NoFault w m → IsDue w status m) → EndsAs w m status
ends_as w m status says counts takes crews due = record {
  no_usage = λ e. subst (Says w m) e says;
  done = λ e. subst (Says w m) e says;
  program_refused = λ e. subst (Says w m) e says;
  book_refused = λ e. subst (Says w m) e says;
  shelf_fault = λ e. subst (Says w m) e says;
  read_fault = λ e. subst (Says w m) e says;
  write_fault = λ e. subst (Says w m) e says;
  input_limit = λ e. subst (Says w m) e says;
  out_of_memory = λ e. subst (Says w m) e says;
  fetches = counts.fetches;
  reads = counts.reads;
  writes = counts.writes;
  takes = takes;
  rounds = crews.rounds;
  turns = crews.turns;
  due = due;
}

-- ---- what was told

pub some_all : (o : Option (List ℕ)) (P : List ℕ → Type 0) → ((t : List ℕ) → P t) → IfSome o P
some_all None P f = tt
some_all (Some t) P f = f t

-- what holds of a text holds of the one that is told, if it is that one
pub some_same : (o : Option (List ℕ)) (P : List ℕ → Type 0) (text : List ℕ) → IfSome o (λ t. text ≡ t) → P text → IfSome o P
some_same None P text e h = tt
some_same (Some t) P text e h = subst P e h

pub takes_none : (rest : Option (List ℕ)) (n : ℕ) → TakesAtMost rest rest n
takes_none None n = ([], tt, omega arith)
takes_none (Some xs) n = ([], refl, omega arith)

-- nothing was taken
pub takes_same : (old new : Option (List ℕ)) (n : ℕ) → new ≡ old → TakesAtMost old new n
takes_same old new n same = subst (λ o. TakesAtMost old o n) (sym same) (takes_none old n)

pub takes_within : (old new : Option (List ℕ)) (n m : ℕ) → n ≤ m → TakesAtMost old new n → TakesAtMost old new m
takes_within old new n m within t = (t.0, t.1, (let h = t.2 in omega (arith, within, h)))

-- ---- replies

-- a status that is one of a reply, by what a reply says
pub by_reply : (P : Status → Type 0) (Text : List ℕ → Type 0) (text written : List ℕ) (status : Status) → IsReplyStatus status → IsReply Text text status written
    → (Text written → P Done) → (IsRefusalLine text written → P ProgramRefused) → P status
by_reply P Text text written status (inl e) r done refused = subst P (sym e) (done (subst (λ s. IsReply Text text s written) e r))
by_reply P Text text written status (inr e) r done refused = subst P (sym e) (refused (subst (λ s. IsReply Text text s written) e r))

pub due_reply : (Text : List ℕ → Type 0) (text written : List ℕ) (status : Status) → (Text written → (p : NumberedProgram) × IsAccepted text p)
    → IsReplyStatus status → IsReply Text text status written → DueOfText (λ p. IsOr Done) text status
due_reply Text text written status accepted is r =
    by_reply (λ s. DueOfText (λ p. IsOr Done) text s) Text text written status is r
    (λ t. ((λ p a. inl refl), (λ refused. absurd (not_refused text (accepted t).0 (accepted t).1 refused))))
    (λ l. ((λ p a. absurd (not_refused text p a (l.refusal, l.cause))), (λ refused. inl refl)))

-- at want of memory
pub due_none : (text : List ℕ) → DueOfText (λ p. IsOr Done) text OutOfMemory
due_none text = ((λ p a. inr refl), (λ refused. inr refl))

-- a front of a reply is one of its text or of the line that refuses the program
pub front_of : (Text : List ℕ → Type 0) (text written : List ℕ) (old new : Option (List ℕ)) (status : Status) → IsReplyStatus status → IsReply Text text status written
    → AppendsFront old new written → WritesTextFront Text old new ⊎ WritesTextFront (IsRefusalLine text) old new
front_of Text text written old new status is r cut =
    by_reply (λ s. WritesTextFront Text old new ⊎ WritesTextFront (IsRefusalLine text) old new) Text text written status is r
    (λ t. inl (record { written = written; is_text = t; appended = cut }))
    (λ l. inr (record { written = written; is_text = l; appended = cut }))

-- a status of neither a failed read nor want of memory
abbrev IsOther : Status → Type 0
IsOther ReadFault = ⊥
IsOther OutOfMemory = ⊥
IsOther _ = Unit {0}

other : (text : List ℕ) (due : Status) (old new : Option (List ℕ)) (before after : ℕ) (status : Status) → IsReplyStatus due
    → IsWritten text due old new before after status → IsOther status
other text due old new before after status (inl e) (inl h) = subst IsOther (sym (h.0 ∙ e)) tt
other text due old new before after status (inr e) (inl h) = subst IsOther (sym (h.0 ∙ e)) tt
other text due old new before after status is (inr h) = subst IsOther (sym h.0) tt

-- where a reply was handed to the sink, no read failed, and there was memory
pub handed_on : {P : Type 0} (text : List ℕ) (due : Status) (old new : Option (List ℕ)) (before after : ℕ) (status : Status) → IsReplyStatus due
    → IsWritten text due old new before after status → (status ≡ ReadFault) ⊎ (status ≡ OutOfMemory) → P
handed_on text due old new before after status is h (inl e) = absurd (subst IsOther e (other text due old new before after status is h))
handed_on text due old new before after status is h (inr e) = absurd (subst IsOther e (other text due old new before after status is h))

-- nothing failed
pub none_failed : (w : World) (status : Status) → ((name : List ℕ) → w.shelf.fetches_after name ≡ w.shelf.fetches_before name) → w.source.reads_after ≡ w.source.reads_before
    → w.sink.writes_after ≡ w.sink.writes_before → Counts w status
none_failed w status fetches reads writes = record { fetches = λ name. inr (fetches name); reads = inr reads; writes = inr writes }

-- a count stayed, since nothing else can be
pub stayed : (P : Type 0) (a b : ℕ) → (P → ⊥) → P ⊎ (a ≡ b) → a ≡ b
stayed P a b never (inl p) = absurd (never p)
stayed P a b never (inr e) = e
