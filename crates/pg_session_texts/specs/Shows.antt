-- What `show` writes of a line of input that is recorded, as bytes.
use Rattle.std.specs.Prelude.{ℕ, ◌+◌, ℤ, List, [], ◌∷◌, ◌++◌, codes, length, Option, Some, None, slice_get}
use Rattle.std.specs.Fmt.{decimal, signed_decimal}
use Rattle.pg_ir.specs.declared.ids.InstrId.{InstrId}
use Rattle.pg_run_trace.specs.declared.turn.Turn.{Turn}
use Rattle.pg_run_trace.specs.declared.turn.Race.{Race}
use Rattle.pg_run_trace.specs.declared.schedule.Schedule.{Schedule}
use Rattle.pg_run_trace.specs.KindNames.{kind_text}
use Rattle.pg_session_texts.specs.declared.reply.ReplyKind.TheVariants.{Recorded}
use Rattle.pg_session_texts.specs.declared.reply.EndLine.TheVariants.{Exit}
use Rattle.pg_session_texts.specs.Replies.{reply_line, end_line}

-- the turn that has this number
abbrev pub turn_line : ℕ → Turn → List ℕ
turn_line place t =
    codes "turn " ++ (decimal place ++ (codes " thread " ++ (decimal t.thread.0 ++ (codes " " ++ (kind_text t.kind ++
    (codes " at " ++ (decimal t.instr.0 ++ (codes " on " ++ (decimal t.object ++ codes "\n")))))))))

-- turns whose numbers begin here
abbrev pub turn_lines : ℕ → List Turn → List ℕ
turn_lines place [] = []
turn_lines place (t ∷ ts) = turn_line place t ++ turn_lines (place + 1) ts

-- a racing instruction, its first racing step, and the first step that races with it
abbrev pub race_line : Race → List ℕ
race_line r =
    codes "race at " ++ (decimal r.instr.0 ++ (codes " steps " ++ (decimal r.step ++ (codes " " ++ (decimal r.with ++ codes "\n")))))

abbrev pub race_lines : List Race → List ℕ
race_lines [] = []
race_lines (r ∷ rs) = race_line r ++ race_lines rs

abbrev pub id_text : Option InstrId → List ℕ
id_text None = []
id_text (Some id) = decimal id.0

-- a decision at a step, with the step's instruction
abbrev pub decision_line : List ℕ → List InstrId → ℕ → List ℕ
decision_line word ids step = word ++ (codes " " ++ (decimal step ++ (codes " at " ++ (id_text (slice_get ids step) ++ codes "\n"))))

abbrev pub decision_lines : List ℕ → List InstrId → List ℕ → List ℕ
decision_lines word ids [] = []
decision_lines word ids (step ∷ steps) = decision_line word ids step ++ decision_lines word ids steps

-- a run that exited with this value
abbrev pub exit_line : ℤ → ℕ → List ℕ
exit_line value turns = end_line (Exit value turns)

-- the line of the recording, the turns, the races, the pinned branch steps, the exact access steps, what was printed, and the end
abbrev pub show_text : Schedule → List InstrId → List ℕ → List ℕ → List Race → List ℕ → ℤ → List ℕ
show_text s ids pinned exact races output value =
    reply_line (Recorded 0) ++ (turn_lines 0 s.turns ++ (race_lines races ++
    (decision_lines (codes "pinned") ids pinned ++ (decision_lines (codes "exact") ids exact ++
    (output ++ exit_line value (length s.turns))))))
