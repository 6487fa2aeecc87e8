use Rattle.std.proofs.Common.{◌≡◌, ◌+◌, ◌-◌, ◌/◌, ◌<◌, ℕ, suc, arith, sym, ap, subst}
use Rattle.std.specs.Prelude.{nat_eq}
use Rattle.std.specs.Map.{lookup}
use Rattle.std.specs.Option.{unwrap_or}
use Rattle.pg_stamps.specs.Marks.{mark_of}
use Rattle.pg_stamps.proofs.Levels.{Raised, begun, ended, finished, next}
use Rattle.pg_stamps.proofs.stamps.Stamps.stamp.Goals as goal

pub loop-level-init : goal.loop-level-init
loop-level-init c = record {
  raised =
      let m = mark_of c.args.self.now in
      let e : m ≡ mark_of (record { marks = c.reserve.new.self }) = ap (λ es n. unwrap_or (lookup (nat_eq n) es) 0) (sym c.reserve.ensures.entries) in
      subst (λ (k : ℕ → ℕ). Raised m k c.args.start c.args.end c.args.number 0 (c.args.start + 67108864) (c.args.end + 67108864)) e
      (begun m c.args.start c.args.end c.args.number c.requires.order c.requires.end);
  room = omega (arith, c.in_ok-reserve.ensures.room);
  some = omega arith;
  small = omega (arith, c.requires.order, c.requires.end);
}

pub overflow_add-left-in-loop-level : goal.overflow_add-left-in-loop-level
overflow_add-left-in-loop-level c = omega (arith, c.loop-level.invariant.small)

pub loop-level-preserved : goal.loop-level-preserved
loop-level-preserved c =
    let inv = c.loop-level.invariant in
    let h = c.loop-level._level in
    let m = mark_of c.args.self.now in
    let n = mark_of c.loop-level.self in
    let o = mark_of c.mark_level.new.self in
    let lt : h < 27 = omega arith in
    let s : suc h ≡ h + 1 = omega arith in record {
      raised = subst (λ (k : ℕ). Raised m o c.args.start c.args.end c.args.number k ((c.loop-level.left + 1) / 2) (c.loop-level.right / 2)) s
          (next m n o c.args.start c.args.end c.args.number h c.loop-level.left c.loop-level.right lt inv.raised c.mark_level.ensures.marks);
      room = omega (arith, inv.room, c.mark_level.ensures.room);
      some = omega (arith, inv.some);
      small = omega (arith, inv.small);
    }

pub mark_level-requires-clause-left : goal.mark_level-requires-clause-left
mark_level-requires-clause-left c = c.loop-level.invariant.some

pub returns-then-left-right-clause-stamped : goal.returns-then-left-right-clause-stamped
returns-then-left-right-clause-stamped c =
    let m = mark_of c.args.self.now in
    let n = mark_of c.loop-level.self in
    let h = c.loop-level._level in
    λ x lx. finished m n c.args.start c.args.end c.args.number (27 - h) h c.loop-level.left c.loop-level.right (omega arith) (omega arith) c.loop-level.invariant.raised x lx

pub returns-after-loop-level-clause-stamped : goal.returns-after-loop-level-clause-stamped
returns-after-loop-level-clause-stamped c =
    let h : c.loop-level._level ≡ 27 = omega arith in
    let m = mark_of c.args.self.now in
    let n = mark_of c.loop-level.self in
    let w = subst (λ (k : ℕ). Raised m n c.args.start c.args.end c.args.number k c.loop-level.left c.loop-level.right) h c.loop-level.invariant.raised in
    λ x lx. ended m n c.args.start c.args.end c.args.number c.loop-level.left c.loop-level.right w x lx
