use Rattle.std.proofs.Common.{inl, inr, string_bytes}
use Rattle.std.specs.Option.{option_map}
use Rattle.pg_commands_words.specs.Commands.{book, conditions, once, serve, show, trial}
use Rattle.pg_commands.specs.Commands.{by_command}
use Rattle.pg_commands.proofs.session.peregrine.Goals as goal

pub returns-in-Ok-Some-Once-clause-ends : goal.returns-in-Ok-Some-Once-clause-ends
returns-in-Ok-Some-Once-clause-ends g c =
    let means = rw c.in-Ok-Some-Once.field-0-0-is at (rw c.in-Ok-Some-Once.field-0-is at c.in-Ok-Some-Once.ensures.some) in
    by_command (once c.in-Ok-Some-Once.command.quantum c.in-Ok-Some-Once.command.numbers.items) means
    (c.once.ensures.ends (g.F.Shelf.text c.args.shelf.now) (g.F.Shelf.faults c.args.shelf.now) (g.G.FreeCrew.rounds c.args.free.now) (g.C.Crew.turns c.args.crew.now))

pub returns-in-Ok-Some-Once-clause-usage_calls_nothing : goal.returns-in-Ok-Some-Once-clause-usage_calls_nothing
returns-in-Ok-Some-Once-clause-usage_calls_nothing g c = λ e. absurd ((c.once.ensures.ends (g.F.Shelf.text c.args.shelf.now) (g.F.Shelf.faults c.args.shelf.now) (g.G.FreeCrew.rounds c.args.free.now) (g.C.Crew.turns c.args.crew.now)).no_usage e)

pub returns-in-Ok-Some-Serve-clause-ends : goal.returns-in-Ok-Some-Serve-clause-ends
returns-in-Ok-Some-Serve-clause-ends g c =
    let means = rw c.in-Ok-Some-Serve.field-0-0-is at (rw c.in-Ok-Some-Serve.field-0-is at c.in-Ok-Some-Serve.ensures.some) in
    by_command (serve (string_bytes c.in-Ok-Some-Serve.command.file) c.in-Ok-Some-Serve.command.way (option_map string_bytes c.in-Ok-Some-Serve.command.book) c.in-Ok-Some-Serve.command.only c.in-Ok-Some-Serve.command.json) means
    (c.serve.ensures.ends)

pub returns-in-Ok-Some-Show-clause-ends : goal.returns-in-Ok-Some-Show-clause-ends
returns-in-Ok-Some-Show-clause-ends g c =
    let means = rw c.in-Ok-Some-Show.field-0-0-is at (rw c.in-Ok-Some-Show.field-0-is at c.in-Ok-Some-Show.ensures.some) in
    by_command (show (string_bytes c.in-Ok-Some-Show.command.file) c.in-Ok-Some-Show.command.way c.in-Ok-Some-Show.command.numbers.items) means
    (c.show.ensures.ends (g.S.Source.rest c.args.src.now) (g.S.Source.faults c.args.src.now) (g.C.Crew.turns c.args.crew.now))

pub returns-in-Ok-Some-Show-clause-usage_calls_nothing : goal.returns-in-Ok-Some-Show-clause-usage_calls_nothing
returns-in-Ok-Some-Show-clause-usage_calls_nothing g c = λ e. absurd ((c.show.ensures.ends (g.S.Source.rest c.args.src.now) (g.S.Source.faults c.args.src.now) (g.C.Crew.turns c.args.crew.now)).no_usage e)

pub returns-in-Ok-Some-Book-clause-ends : goal.returns-in-Ok-Some-Book-clause-ends
returns-in-Ok-Some-Book-clause-ends g c =
    let means = rw c.in-Ok-Some-Book.field-0-0-is at (rw c.in-Ok-Some-Book.field-0-is at c.in-Ok-Some-Book.ensures.some) in
    by_command (book (string_bytes c.in-Ok-Some-Book.command.file) c.in-Ok-Some-Book.command.way) means c.save_book.ensures.ends

pub returns-in-Ok-Some-Book-clause-fault_keeps_sink : goal.returns-in-Ok-Some-Book-clause-fault_keeps_sink
returns-in-Ok-Some-Book-clause-fault_keeps_sink g c = λ fault. inl (c.save_book.ensures.keeps fault)

pub returns-in-Ok-Some-Trial-clause-ends : goal.returns-in-Ok-Some-Trial-clause-ends
returns-in-Ok-Some-Trial-clause-ends g c =
    let means = rw c.in-Ok-Some-Trial.field-0-0-is at (rw c.in-Ok-Some-Trial.field-0-is at c.in-Ok-Some-Trial.ensures.some) in
    by_command (trial c.in-Ok-Some-Trial.number) means
    (c.trial.ensures.ends (g.F.Shelf.text c.args.shelf.now) (g.F.Shelf.faults c.args.shelf.now) (g.S.Source.rest c.args.src.now) (g.S.Source.faults c.args.src.now) (g.G.FreeCrew.rounds c.args.free.now))

pub returns-in-Ok-Some-Trial-clause-usage_calls_nothing : goal.returns-in-Ok-Some-Trial-clause-usage_calls_nothing
returns-in-Ok-Some-Trial-clause-usage_calls_nothing g c =
    λ e. absurd ((c.trial.ensures.ends (g.F.Shelf.text c.args.shelf.now) (g.F.Shelf.faults c.args.shelf.now) (g.S.Source.rest c.args.src.now) (g.S.Source.faults c.args.src.now) (g.G.FreeCrew.rounds c.args.free.now)).no_usage e)

pub returns-in-Ok-Some-Once-clause-fault_keeps_sink : goal.returns-in-Ok-Some-Once-clause-fault_keeps_sink
returns-in-Ok-Some-Once-clause-fault_keeps_sink g c = λ fault. inl (c.once.ensures.keeps fault)

pub returns-in-Ok-Some-Show-clause-fault_keeps_sink : goal.returns-in-Ok-Some-Show-clause-fault_keeps_sink
returns-in-Ok-Some-Show-clause-fault_keeps_sink g c = λ fault. inl (c.show.ensures.keeps fault)

pub returns-in-Ok-Some-Trial-clause-fault_keeps_sink : goal.returns-in-Ok-Some-Trial-clause-fault_keeps_sink
returns-in-Ok-Some-Trial-clause-fault_keeps_sink g c = λ fault. inl (c.trial.ensures.keeps fault)

pub returns-in-Ok-Some-Serve-clause-fault_keeps_sink : goal.returns-in-Ok-Some-Serve-clause-fault_keeps_sink
returns-in-Ok-Some-Serve-clause-fault_keeps_sink g c = λ fault.
    inr (
      string_bytes c.in-Ok-Some-Serve.command.file,
      c.in-Ok-Some-Serve.command.way,
      option_map string_bytes c.in-Ok-Some-Serve.command.book,
      c.in-Ok-Some-Serve.command.only,
      c.in-Ok-Some-Serve.command.json,
      rw c.in-Ok-Some-Serve.field-0-0-is at (rw c.in-Ok-Some-Serve.field-0-is at c.in-Ok-Some-Serve.ensures.some),
    )

pub returns-in-Ok-Some-Conditions-clause-ends : goal.returns-in-Ok-Some-Conditions-clause-ends
returns-in-Ok-Some-Conditions-clause-ends g c =
    let means = rw c.in-Ok-Some-Conditions.field-0-0-is at (rw c.in-Ok-Some-Conditions.field-0-is at c.in-Ok-Some-Conditions.ensures.some) in
    by_command (conditions (string_bytes c.in-Ok-Some-Conditions.command.file) c.in-Ok-Some-Conditions.command.way c.in-Ok-Some-Conditions.command.numbers.items) means
    (c.conditions.ensures.ends (g.S.Source.rest c.args.src.now) (g.S.Source.faults c.args.src.now) (g.C.Crew.turns c.args.crew.now))

pub returns-in-Ok-Some-Conditions-clause-usage_calls_nothing : goal.returns-in-Ok-Some-Conditions-clause-usage_calls_nothing
returns-in-Ok-Some-Conditions-clause-usage_calls_nothing g c = λ e. absurd ((c.conditions.ensures.ends (g.S.Source.rest c.args.src.now) (g.S.Source.faults c.args.src.now) (g.C.Crew.turns c.args.crew.now)).no_usage e)

pub returns-in-Ok-Some-Conditions-clause-fault_keeps_sink : goal.returns-in-Ok-Some-Conditions-clause-fault_keeps_sink
returns-in-Ok-Some-Conditions-clause-fault_keeps_sink g c = λ fault. inl (c.conditions.ensures.keeps fault)
