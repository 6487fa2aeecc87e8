-- What is found of a program text.
use Rattle.std.specs.Prelude.{ℕ, List}
use Rattle.pg_commands.specs.declared.verdicts.Verdict.{Verdict}
use Rattle.pg_commands.specs.declared.verdicts.Verdict.TheVariants.{Accepted, Refused}
use Rattle.pg_commands.specs.Refusals.{IsRefusedFor}
use Rattle.pg_commands.specs.Texts.{IsAccepted}

abbrev pub IsVerdict : List ℕ → Verdict → Type 0
IsVerdict text (Accepted program) = IsAccepted text program
IsVerdict text (Refused refusal) = IsRefusedFor text refusal
