use Rattle.std.proofs.Common.{◌≡◌, ◌+◌, ◌-◌, ◌∷◌, [], arith, ap, List, refl, length, length-append}
use Rattle.std.proofs.lemmas.List.{length-take}
use Rattle.pg_run_thread.specs.LocalState.{LocalState, Frame}
use Rattle.pg_run_thread.specs.Stack.{counts}
use Rattle.pg_run_thread.proofs.Stacks.{parts, drop_view, counts-push}
use Rattle.pg_run_thread.proofs.fiber.Fiber.drop_top.Goals as goal

pub overflow_sub-self : goal.overflow_sub-self
overflow_sub-self c = omega (arith, c.self.invariant.base, ap counts c.in-Some.ensures.items, counts-push c.pop.new.self.items c.in-Some.head)

pub returns-in_default : goal.returns-in_default
returns-in_default c =
    let s = c.self.inside in
    let t = parts s.ended s.top s.base s.heads.items s.registers.items c.args.self.now.frames (ap (λ (l : LocalState). l.frames) c.self.view_is)
    (omega (arith, c.requires)) c.self.invariant.above c.self.invariant.base in
    absurd (omega (arith, t.depth, c.in_default.ensures.cases, c.requires))

pub invariant_of-self-2 : goal.invariant_of-self-2
invariant_of-self-2 c =
    let k : counts c.self.inside.heads.items ≡ counts c.pop.new.self.items + c.in-Some.head.count = rw c.in-Some.ensures.items (counts-push c.pop.new.self.items c.in-Some.head) in
    let n : length c.self.inside.heads.items ≡ length c.pop.new.self.items + 1 = rw c.in-Some.ensures.items (length-append c.pop.new.self.items (c.in-Some.head ∷ [])) in
    let r : length c.truncate.new.self.items ≡ c.self.inside.base = rw c.truncate.ensures.items
    (omega (arith, length-take c.self.inside.base c.self.inside.registers.items, c.self.invariant.above)) in
    record {
      base = omega (arith, k, c.self.invariant.base);
      above = omega (arith, r);
      few = omega (arith, n, c.self.invariant.few);
      small = omega (arith, r, c.self.invariant.above, c.self.invariant.small);
      heads = omega (arith, c.in-Some.ensures.capacity, c.self.invariant.heads);
      registers = omega (arith, c.truncate.ensures.capacity, c.self.invariant.registers);
      values = c.self.invariant.values;
    }

pub returns : goal.returns
returns c =
    let s = c.self.inside in
    let t = parts s.ended s.top s.base s.heads.items s.registers.items c.args.self.now.frames (ap (λ (l : LocalState). l.frames) c.self.view_is)
    (omega (arith, c.requires)) c.self.invariant.above c.self.invariant.base in
    rw (← c.self.view_is) (ap (λ (fs : List Frame). record { thread = s.thread.0; begun = s.begun; halfway = s.halfway; frames = fs; heap = s.heap })
    (drop_view s.ended s.top s.base (s.base - c.in-Some.head.count) s.heads.items c.pop.new.self.items s.registers.items c.truncate.new.self.items c.in-Some.head t.goes c.self.invariant.above
    c.self.invariant.base c.in-Some.ensures.items refl c.truncate.ensures.items))
