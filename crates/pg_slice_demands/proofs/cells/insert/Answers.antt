use Rattle.std.proofs.Common.{◌≡◌, ◌||◌, Bool, true, false, Option, Some, None, is_some, refl, sym, ap, ◌∙◌}
use Rattle.std.specs.Prelude.{unwrap_or}
use Rattle.std.specs.Ordering.{nat_cmp}
use Rattle.std.specs.BTreeMap.{get}
use Rattle.pg_slice_demands.proofs.cells.insert.Goals as goal
use Rattle.pg_slice_demands.proofs.cells.insert.Goals.{then-whole-via-then-whole, then-whole-via-else-whole+then-is_none}

whole_now : (b : Bool) (o : Option Bool) → b ≡ true → Some b ≡ Some (b || unwrap_or o false)
whole_now true o e = refl
whole_now false o e = absurd cc

first_now : (b : Bool) (o : Option Bool) → is_some o ≡ false → Some b ≡ Some (b || unwrap_or o false)
first_now true None e = refl
first_now false None e = refl
first_now b (Some w) e = absurd cc

as_it_was : (b : Bool) (o : Option Bool) → b ≡ false → is_some o ≡ true → o ≡ Some (b || unwrap_or o false)
as_it_was false (Some w) e h = refl
as_it_was true o e h = absurd cc
as_it_was false None e h = absurd cc

pub returns-in_ok-insert-clause-asked : goal.returns-in_ok-insert-clause-asked
returns-in_ok-insert-clause-asked c =
    let o : Option Bool = get nat_cmp c.args.cells.now c.args.place in
    c.in_ok-insert.ensures.updates.1 ∙ elim c.then-whole.branch [
      | then-whole-via-then-whole w ↦ whole_now c.args.whole o w.if-whole.true
      | then-whole-via-else-whole+then-is_none w ↦ first_now c.args.whole o (ap (λ (p : Option Bool). is_some p) (sym (w.at.ensures)) ∙ w.if-is_none.ensures)
    ]

pub returns-else-is_none-clause-asked : goal.returns-else-is_none-clause-asked
returns-else-is_none-clause-asked c =
    as_it_was c.args.whole (get nat_cmp c.args.cells.now c.args.place) c.if-whole.false (ap (λ (p : Option Bool). is_some p) (sym (c.at.ensures)) ∙ c.if-is_none.ensures)
