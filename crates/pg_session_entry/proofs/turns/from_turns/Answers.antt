use Rattle.std.proofs.Common.{◌<◌, ◌∙◌, List, length, subst, sym}
use Rattle.std.specs.Prelude.{All}
use Rattle.pg_ir.specs.declared.ids.InstrId.{InstrId}
use Rattle.pg_run.specs.Follow.{Exits}
use Rattle.pg_session_entry.proofs.EntryParts.{exits_along}
use Rattle.pg_session_entry.proofs.turns.from_turns.Goals as goal

pub entry_along-requires-clause-gated : goal.entry_along-requires-clause-gated
entry_along-requires-clause-gated c = subst (λ (gs : List InstrId). All (λ (g : InstrId). g.0 < length c.args.p.now.instrs) gs) (sym c.in_ok-schedule.ensures.gated) c.requires.gated

pub entry_along-requires-clause-exits : goal.entry_along-requires-clause-exits
entry_along-requires-clause-exits c =
    let e = c.in_ok-follow_to_exit.ensures.exit in
    let u = c.in_ok-unreplied in
    let s = c.in_ok-schedule in (
      e.0,
      e.1,
      exits_along c.args.p.now c.args.input.now u.unreplied.turns s.schedule.turns u.unreplied.gated s.schedule.gated
          (Exits c.follow_to_exit.new.trace.steps e.0 e.1) (u.ensures.turns ∙ sym s.ensures.turns) (u.ensures.gated ∙ sym s.ensures.gated) e.2,
    )
