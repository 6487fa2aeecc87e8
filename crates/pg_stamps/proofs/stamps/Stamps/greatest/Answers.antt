use Rattle.std.proofs.Common.{◌≡◌, ◌+◌, ◌-◌, ◌/◌, ◌%◌, ◌^◌, ◌≤◌, ℕ, suc, arith, sym, ap, ◌∙◌, max}
use Rattle.std.proofs.lemmas.Nat.{shr-shr}
use Rattle.pg_stamps.specs.Marks.{greatest_below, mark_of, node_at}
use Rattle.pg_stamps.proofs.Classes.{none_above, unmarked_level}
use Rattle.pg_stamps.proofs.Levels.{greatest_next, greatest_none, node_next, node_none}
use Rattle.pg_stamps.proofs.stamps.Stamps.greatest.Goals as goal

pub loop-level-init : goal.loop-level-init
loop-level-init c = record {
  node = sym (node_none c.args.place);
  levels = omega arith;
  number = sym (greatest_none (mark_of c.args.self.now) c.args.place);
}

pub greater_at-number-requires : goal.greater_at-number-requires
greater_at-number-requires c = λ e.
    let m = mark_of c.args.self.now in
    let h = c.loop-level._level in
    let inv = c.loop-level.invariant in
    let le : h ≤ 26 = omega arith in
    ap m inv.node ∙ unmarked_level m c.classes.result c.classes.ensures c.args.place c.requires h le (ap (λ (k : ℕ). k % 2) (sym inv.levels) ∙ e)

pub loop-level-preserved : goal.loop-level-preserved
loop-level-preserved c =
    let m = mark_of c.args.self.now in
    let x = c.args.place in
    let h = c.loop-level._level in
    let inv = c.loop-level.invariant in
    let s : suc h ≡ h + 1 = omega arith in record {
      node = ap (λ (k : ℕ). k / 2) inv.node ∙ sym (node_next x h) ∙ ap (node_at x) s;
      levels = ap (λ (k : ℕ). k / 2) inv.levels ∙ shr-shr (c.classes.result / 2 ^ 37) h 1;
      number = c.greater_at-number.ensures ∙ ap (λ (k : ℕ). max k (m c.loop-level.node)) inv.number ∙ ap (λ (k : ℕ). max (greatest_below m x h) (m k)) inv.node
          ∙ sym (greatest_next m x h) ∙ ap (greatest_below m x) s;
    }

pub returns-then-levels-eq0 : goal.returns-then-levels-eq0
returns-then-levels-eq0 c =
    let m = mark_of c.args.self.now in
    let h = c.loop-level._level in
    let inv = c.loop-level.invariant in
    let zero_left = sym inv.levels ∙ c.if-levels-eq0.true in
    let s : h + (27 - h) ≡ 27 = omega arith in
    inv.number ∙ sym (none_above m c.classes.result c.classes.ensures c.args.place c.requires h (27 - h) (omega arith) zero_left) ∙ ap (greatest_below m c.args.place) s
