-- What is said of a line of input, as bytes.
use Rattle.std.specs.Prelude.{◌≡◌, ℕ, Bool, true, false, List, [], ◌++◌, codes, Option, Some, None, is_some}
use Rattle.std.specs.Fmt.{decimal, signed_decimal}
use Rattle.pg_ir.specs.TrapNames.{trap_text}
use Rattle.pg_run.specs.declared.outcome.Refusal.{Refusal}
use Rattle.pg_run.specs.declared.outcome.Refusal.TheVariants as refusals
use Rattle.pg_session_texts.specs.declared.reply.ReplyKind.{ReplyKind}
use Rattle.pg_session_texts.specs.declared.reply.ReplyKind.TheVariants.{Recorded, Reused, RefusedLine, RefusedTrap, RefusedBudget, RefusedUntested}
use Rattle.pg_session_texts.specs.declared.reply.EndLine.{EndLine}
use Rattle.pg_session_texts.specs.declared.reply.EndLine.TheVariants.{Exit, Trap, Budget}

-- the kind of the reply to an input whose recording gives no entry
abbrev pub kind_of : Refusal → ReplyKind
kind_of (refusals.Trap name id) = RefusedTrap name id
kind_of refusals.Budget = RefusedBudget

-- what came of the line of input
abbrev pub reply_line : ReplyKind → List ℕ
reply_line (Recorded entry) = codes "recorded " ++ (decimal entry ++ codes "\n")
reply_line (Reused entry) = codes "reused " ++ (decimal entry ++ codes "\n")
reply_line RefusedLine = codes "refused line\n"
reply_line (RefusedTrap name id) = codes "refused trap " ++ (trap_text name ++ (codes " at " ++ (decimal id.0 ++ codes "\n")))
reply_line RefusedBudget = codes "refused budget\n"
reply_line RefusedUntested = codes "refused untested\n"

-- how a run along a schedule ended, after so many turns
abbrev pub end_line : EndLine → List ℕ
end_line (Exit value turns) = codes "exit " ++ (signed_decimal value ++ (codes " after " ++ (decimal turns ++ codes " turns\n")))
end_line (Trap name id turns) =
    codes "trap " ++ (trap_text name ++ (codes " at " ++ (decimal id.0 ++ (codes " after " ++ (decimal turns ++ codes " turns\n")))))
end_line (Budget thread turns) =
    codes "budget in thread " ++ (decimal thread.0 ++ (codes " after " ++ (decimal turns ++ codes " turns\n")))

abbrev pub end_text : Option EndLine → List ℕ
end_text None = []
end_text (Some end) = end_line end

-- the line of input ran along a schedule
abbrev pub has_run : ReplyKind → Bool
has_run (Recorded entry) = true
has_run (Reused entry) = true
has_run _ = false

-- the end is there exactly where the line of input ran along a schedule
abbrev pub HasEnd : ReplyKind → Option EndLine → Type 0
HasEnd kind end = is_some end ≡ has_run kind

-- the whole reply: its line, what was printed, and the end
abbrev pub reply_text : ReplyKind → List ℕ → Option EndLine → List ℕ
reply_text kind output end = reply_line kind ++ (output ++ end_text end)
