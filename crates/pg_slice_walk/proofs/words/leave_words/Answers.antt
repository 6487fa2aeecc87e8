use Rattle.std.proofs.Common.{◌≡◌, refl}
use Rattle.std.proofs.lemmas.Result.{on_ok_weaker}
use Rattle.pg_slice_walk.proofs.WordsBack.{if_is, if_not, plain_words}
use Rattle.pg_run_trace.specs.declared.step.Event.{Event}
use Rattle.pg_run_trace.specs.declared.step.StepKind.TheVariants as kinds
use Rattle.pg_slice_walk.proofs.words.leave_words.Goals as goal

pub returns-in-Some : goal.returns-in-Some
returns-in-Some c = on_ok_weaker c.leave_event.result (λ h R e p r x counts n m st call op threads words met.
    h R e p r x c.args.step.now counts c.in-Some.e n m st call op (if_is c.event_in.result c.in-Some.e (λ (v : Event). c.args.step.now.kind ≡ kinds.Event v) c.in-Some.is c.event_in.ensures.some) refl threads words met) c.leave_event.ensures

pub returns-in-None : goal.returns-in-None
returns-in-None c = λ R e p r x counts n m st call op threads words met. (
  met,
  plain_words R e p r x c.args.step.now counts n m st c.args.words.now.items (if_not c.event_in.result _ c.in-None.is c.event_in.ensures.none) words,
)
