use Rattle.std.proofs.Common.{arith}
use Rattle.pg_session_book.proofs.LoadedEntries.{first_refused, one_kept, room}
use Rattle.pg_session_book.proofs.book.load.Goals as goal

pub insert-number-requires-clause-count : goal.insert-number-requires-clause-count
insert-number-requires-clause-count c =
    let few = room c.args.p.now c.args.book.now.entries.items c.as_slice-entries.result.now c.as_slice-entries.ensures.value c.entries.place c.entries.cache c.entries-test.true c.entries.invariant c.requires.few in
    omega (arith, few)

pub returns-in-Err-clause-refusal : goal.returns-in-Err-clause-refusal
returns-in-Err-clause-refusal c =
    c.refusal_of.ensures c.args.p.now _
    (first_refused c.args.p.now c.args.book.now.entries.items c.as_slice-entries.result.now c.as_slice-entries.ensures.value c.entries.place c.entries.cache c.entries-test.true c.entries.invariant c.index-entries-place.result _ c.in-Err.fault
    c.index-entries-place.is c.in-Err.ensures.fault)

pub entries-preserved : goal.entries-preserved
entries-preserved c =
    one_kept c.args.p.now c.args.book.now.entries.items c.as_slice-entries.result.now c.as_slice-entries.ensures.value c.entries.place c.entries.cache c.entries-test.true c.entries.invariant c.index-entries-place.result _ c.in-Ok.entry c.insert-number.new.self
    c.requires.few c.index-entries-place.is c.in-Ok.ensures.entry c.insert-number.ensures.values
