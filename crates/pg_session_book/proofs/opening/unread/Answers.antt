use Rattle.pg_session_book.proofs.opening.unread.Goals as goal

pub returns-in_ok-opened-in_default : goal.returns-in_ok-opened-in_default
returns-in_ok-opened-in_default c =
    c.in_ok-opened-in_default.ensures c.args.program.now c.args.bytes.now (record { within = c.requires.within; fault_holds = c.requires.fault; no_want = c.in_default.not-OutOfMemory })
