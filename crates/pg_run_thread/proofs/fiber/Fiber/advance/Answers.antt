use Rattle.std.proofs.Common.{◌≡◌, ◌<◌, ◌∙◌, true, false, arith, length, sym, subst}
use Rattle.pg_run_thread.specs.States.{CanStep}
use Rattle.pg_run_thread.proofs.NextActions.{next_at}
use Rattle.pg_run_thread.proofs.PresentInstructions.{is_present}
use Rattle.pg_run_thread.proofs.StepRooms.{can_do}
use Rattle.pg_run_thread.proofs.PresentSteps.{advanced_ended, advanced_start, advanced_at, advanced_of}
use Rattle.pg_run_thread.proofs.fiber.Fiber.advance.Goals as goal

pub returns-then-is_ended-clause-step : goal.returns-then-is_ended-clause-step
returns-then-is_ended-clause-step c =
    let g : length c.args.self.now.frames ≡ 0 = grind (arith, c.if-is_ended.true, c.is_ended.ensures) in
    advanced_ended c.args.p.now c.args.self.now g

pub returns-then-not-has_begun-clause-step : goal.returns-then-not-has_begun-clause-step
returns-then-not-has_begun-clause-step c =
    let g : 0 < length c.args.self.now.frames = grind (arith, c.if-is_ended.false, c.is_ended.ensures) in
    let b : c.args.self.now.begun ≡ false = grind (arith, c.if-not-has_begun.true, c.has_begun.ensures.begun) in
    advanced_start c.args.p.now c.args.self.now g b

pub advance_by-requires-clause-present : goal.advance_by-requires-clause-present
advance_by-requires-clause-present c =
    let g : 0 < length c.args.self.now.frames = grind (arith, c.if-is_ended.false, c.is_ended.ensures) in
    is_present c.args.p.now c.args.self.now c.instr-instr.result.now c.facts.ensures.holds c.requires g (rw c.id.ensures.id at c.instr-instr.ensures.at)

pub advance_by-requires-clause-room : goal.advance_by-requires-clause-room
advance_by-requires-clause-room c = λ can.
    let g : 0 < length c.args.self.now.frames = grind (arith, c.if-is_ended.false, c.is_ended.ensures) in
    let b : c.args.self.now.begun ≡ true = grind (arith, c.if-not-has_begun.false, c.has_begun.ensures.begun) in
    let e = rw c.id.ensures.id at c.instr-instr.ensures.at in
    can_do c.args.p.now c.args.self.now c.instr-instr.result.now c.facts.ensures.holds c.requires b g e
    (subst CanStep (sym (next_at c.args.p.now c.args.self.now c.instr-instr.result.now b g e)) can)

pub returns-clause-step : goal.returns-clause-step
returns-clause-step c =
    let g : 0 < length c.args.self.now.frames = grind (arith, c.if-is_ended.false, c.is_ended.ensures) in
    let b : c.args.self.now.begun ≡ true = grind (arith, c.if-not-has_begun.false, c.has_begun.ensures.begun) in
    c.advance_by.ensures ∙ sym (advanced_at c.args.p.now c.args.self.now c.instr-instr.result.now b g (rw c.id.ensures.id at c.instr-instr.ensures.at))

pub returns-clause-of : goal.returns-clause-of
returns-clause-of c =
    let g : 0 < length c.args.self.now.frames = grind (arith, c.if-is_ended.false, c.is_ended.ensures) in
    let b : c.args.self.now.begun ≡ true = grind (arith, c.if-not-has_begun.false, c.has_begun.ensures.begun) in
    advanced_of c.args.p.now c.args.self.now (c.advance_by.new.self, c.advance_by.result) c.facts.ensures.holds c.requires
    (c.advance_by.ensures ∙ sym (advanced_at c.args.p.now c.args.self.now c.instr-instr.result.now b g (rw c.id.ensures.id at c.instr-instr.ensures.at)))
