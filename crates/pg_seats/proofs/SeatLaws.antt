-- What follows of the rule: what a seat finds, and that one is due at most.
use Rattle.std.proofs.Common.{◌≡◌, ℕ, true, false, List, Some, sym, ap, ◌∙◌, subst}
use mathlib.Core.Option.{some}
use lib.ListN.{get_elem?}
use Rattle.pg_law_course.specs.pg_law_threads.Steps.{touches}
use Rattle.pg_law_course.specs.pg_law_threads.Effects.{deeds}
use Rattle.pg_law_course.specs.pg_law_threads.Intervals.{Timed}
use Rattle.pg_law_course.specs.pg_law_runs.Deeds.{Did}
use Rattle.pg_seats.specs.declared.run.Run.{Run}
use Rattle.pg_seats.specs.declared.run.Standing.{Standing}
use Rattle.pg_seats.specs.declared.run.View.{View}
use Rattle.pg_seats.specs.declared.run.View.TheVariants.{Worker}
use Rattle.pg_seats.specs.Plan.{cells_there}
use Rattle.pg_seats.specs.Views.{IsCell, is_put, next_of}
use Rattle.pg_seats.specs.Rule.{cell_in, Keeps}
use Rattle.pg_seats.proofs.Changes.{Due, due_next, next_is, one_due, same_run, seat}
use Rattle.pg_seats.proofs.Moves.{finds, number}

pub seat_finds : (run : Run) (words : List ℕ) (views : List View) (id : ℕ) (w : Standing) (x : Timed Did) (b : ℕ) → Keeps run words views → get_elem? views id ≡ some (Worker w)
    → next_of w ≡ Some x → (deeds.is_event x.did ≡ true → w.due ≡ true) → IsCell b → touches deeds x.did b ≡ true → is_put x.did w.parts b ≡ false
    → cell_in words b ≡ cells_there run w.thread w.done b
seat_finds run words views id w x b h at next due lt t free =
    let q = same_run run words views id w h at in
    let k : Keeps w.run words views = subst (λ (r : Run). Keeps r words views) (sym q) h in
    let n = next_is w x next in
    finds words views id w k at x n (λ v. number words views id w k at (due v) x n) b lt t free ∙ ap (λ (r : Run). cells_there r w.thread w.done b) q

pub one_seat_is_due : (run : Run) (words : List ℕ) (views : List View) (i j : ℕ) (w u : Standing) → Keeps run words views → get_elem? views i ≡ some (Worker w) → get_elem? views j ≡ some (Worker u)
    → w.due ≡ true → u.due ≡ true → i ≡ j
one_seat_is_due run words views i j w u h at bt e f =
    let s = seat run words views h i w at in
    let k = seat run words views h j u bt in
    let d : Due run w.thread w.done h.turns = subst (λ (r : Run). Due r w.thread w.done h.turns) s.same_run (due_next w h.turns (s.due e)) in
    let c : Due run u.thread u.done h.turns = subst (λ (r : Run). Due r u.thread u.done h.turns) k.same_run (due_next u h.turns (k.due f)) in
    s.seated ∙ ap h.seats.seat (one_due run w.thread u.thread w.done u.done h.turns h.run_is d c) ∙ sym k.seated
