-- A run by workers along an entry's schedule, as the guided run.
use Rattle.std.proofs.Common.{◌≡◌, ◌≢◌, ℕ, ℤ, List, Some, sym, ap, ◌∙◌, subst}
use Rattle.pg_go.specs.Given.{Given, given}
use Rattle.pg_go.specs.pg_ir.Program.{NumberedProgram}
use Rattle.pg_go.specs.pg_run.declared.guided_end.GuidedEnd.TheVariants as ends
use Rattle.pg_law_reuse.specs.Entries.{EntryParts}
use Rattle.pg_law_reuse.specs.pg_law_order.Served.{IsServed, guided_along}
use Rattle.pg_session.specs.pg_session_texts.declared.reply.EndLine.{EndLine}
use Rattle.pg_session_runner.specs.Runs.{RunsAlong, end_line_of}

module _ (p : NumberedProgram) (input : List ℤ) (e : EntryParts) (g : Given) (same : g ≡ given p e.schedule input) (served : IsServed p input e.schedule) where
  pub arrives : (guided_along g.program g.input g.schedule).end ≢ ends.Strayed
  arrives = subst (λ (h : Given). (guided_along h.program h.input h.schedule).end ≢ ends.Strayed) (sym same) served.arrives

  pub runs_along : (output : List ℕ) (end : EndLine) → output ≡ (guided_along g.program g.input g.schedule).state.printed
      → end_line_of (guided_along g.program g.input g.schedule).turns (guided_along g.program g.input g.schedule).end ≡ Some end → RunsAlong p e input output end
  runs_along output end printed ends_so = record {
    printed = printed ∙ ap (λ (h : Given). (guided_along h.program h.input h.schedule).state.printed) same;
    ends = subst (λ (h : Given). end_line_of (guided_along h.program h.input h.schedule).turns (guided_along h.program h.input h.schedule).end ≡ Some end) same ends_so;
    served = served;
  }
