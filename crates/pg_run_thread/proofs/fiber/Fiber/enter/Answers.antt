use Rattle.std.proofs.Common.{◌≡◌, ℕ, ◌+◌, ◌-◌, ◌++◌, false, None, Option, arith, ap, sym, ◌∙◌, subst, List, refl, length, drop, map, replicate, length-append}
use Rattle.std.specs.List.{AllByRecursion}
use Rattle.std.proofs.lemmas.List.{length-map, length-replicate}
use Rattle.pg_ir.specs.Operands.{CanRead}
use Rattle.pg_run_thread.specs.LocalState.{LocalState, Frame}
use Rattle.pg_run_thread.specs.Operands.{operand}
use Rattle.pg_run_thread.specs.Stack.{counts}
use Rattle.pg_run_thread.specs.Step.{top_registers}
use Rattle.pg_run_thread.proofs.Stacks.{parts, enter_view, top_registers_is, counts-push}
use Rattle.pg_run_thread.proofs.fiber.Fiber.enter.Goals as goal

pub push_call-requires-clause-operands : goal.push_call-requires-clause-operands
push_call-requires-clause-operands c =
    let s = c.self.inside in
    let v = ap (λ (l : LocalState). l.frames) c.self.view_is in
    let t = parts s.ended s.top s.base s.heads.items s.registers.items c.args.self.now.frames v c.requires.going c.self.invariant.above c.self.invariant.base in
    let e : top_registers c.args.self.now.frames ≡ drop s.base s.registers.items = ap top_registers (sym v) ∙ top_registers_is s.ended s.top s.base s.heads.items s.registers.items t.goes in
    subst (λ (rs : List (Option ℕ)). AllByRecursion (CanRead c.args.p.now (length rs)) c.args.args.now) e c.requires.operands

pub push_call-requires-clause-room : goal.push_call-requires-clause-room
push_call-requires-clause-room c =
    let s = c.self.inside in
    let t = parts s.ended s.top s.base s.heads.items s.registers.items c.args.self.now.frames
    (ap (λ (l : LocalState). l.frames) c.self.view_is) c.requires.going c.self.invariant.above c.self.invariant.base in
    omega (arith, t.registers, c.requires.can.room, c.register_count-count.ensures, c.self.invariant.registers, c.len-used.ensures)

pub invariant_of-self : goal.invariant_of-self
invariant_of-self c =
    let s = c.self.inside in
    let t = parts s.ended s.top s.base s.heads.items s.registers.items c.args.self.now.frames
    (ap (λ (l : LocalState). l.frames) c.self.view_is) c.requires.going c.self.invariant.above c.self.invariant.base in
    let k : counts c.push_head.new.heads.items ≡ counts s.heads.items + (c.len-used.result - s.base) = rw c.push_head.ensures.items (counts-push s.heads.items _) in
    let h : length c.push_head.new.heads.items ≡ length s.heads.items + 1 = rw c.push_head.ensures.items (length-append s.heads.items _) in
    let values = map (operand c.args.p.now (drop s.base s.registers.items)) c.args.args.now in
    let unset : List (Option ℕ) = replicate (c.register_count-count.result - length c.args.args.now) None in
    let r : length c.push_call.new.registers.items ≡ length s.registers.items + c.register_count-count.result =
    rw c.push_call.ensures.items (omega (
      arith,
      length-append s.registers.items (values ++ unset),
      length-append values unset,
      length-map c.args.args.now (operand c.args.p.now (drop s.base s.registers.items)),
      length-replicate {A = Option ℕ} (c.register_count-count.result - length c.args.args.now) None,
      c.requires.can.args,
      c.register_count-count.ensures,
    )) in
    record {
      base = omega (arith, k, c.self.invariant.base, c.self.invariant.above, c.len-used.ensures);
      above = omega (arith, r, c.len-used.ensures);
      few = omega (arith, h, t.depth, c.requires.can.depth);
      small = omega (arith, r, t.registers, c.requires.can.room, c.register_count-count.ensures);
      heads = omega (arith, c.push_head.ensures.room, c.self.invariant.heads);
      registers = omega (arith, c.push_call.ensures.room, c.self.invariant.registers);
      values = c.self.invariant.values;
    }

pub returns : goal.returns
returns c =
    let s = c.self.inside in
    let t = parts s.ended s.top s.base s.heads.items s.registers.items c.args.self.now.frames
    (ap (λ (l : LocalState). l.frames) c.self.view_is) c.requires.going c.self.invariant.above c.self.invariant.base in
    rw (← c.self.view_is) (ap (λ (fs : List Frame). record { thread = s.thread.0; begun = s.begun; halfway = false; frames = fs; heap = s.heap })
    (enter_view c.args.p.now s.ended s.top _ s.base c.len-used.result c.args.g c.register_count-count.result s.heads.items c.push_head.new.heads.items s.registers.items
    c.push_call.new.registers.items c.args.args.now t.goes c.self.invariant.above c.self.invariant.base
    (omega (arith, c.len-used.ensures)) c.push_head.ensures.items c.push_call.ensures.items c.register_count-count.ensures refl c.entry.ensures refl))
