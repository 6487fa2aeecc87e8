-- The steps that a trace keeps, when one more is added.
use Rattle.std.proofs.Common.{◌≡◌, ℕ, zero, suc, ◌+◌, ◌<◌, ◌≤◌, List, [], ◌∷◌, ◌++◌, length, get_or, refl, ◌∙◌, ap, arith, Some}
use Rattle.std.specs.Prelude.{slice_get}
use Rattle.std.specs.List.{All}
use Rattle.std.proofs.lemmas.List.{length-append, length-map, map-append}
use Rattle.std.proofs.lemmas.List.Elements.{All-append}
use Rattle.pg_run_trace.specs.declared.cell.Cell.{Cell}
use Rattle.pg_run_trace.specs.declared.cell.CellKind.{CellKind}
use Rattle.pg_run_trace.specs.declared.cell.CellKind.TheVariants as cells
use Rattle.pg_run_trace.specs.declared.step.Event.{Event}
use Rattle.pg_run_trace.specs.declared.step.Step.{Step}
use Rattle.pg_run_trace.specs.Recording.{Recording}
use Rattle.pg_run_trace.specs.Cells.{event_or_other, kind_by, step_in, steps_in, Names, NamesBy}

-- a cell of no event is of one step with any events
kind_plain : (es : List Event) (c : Cell) (k : CellKind) → NamesBy 0 c k → kind_by es c k ≡ kind_by [] c k
kind_plain es c cells.Other h = refl
kind_plain es c cells.Branch h = refl
kind_plain es c cells.Allocation h = refl
kind_plain es c cells.Load h = refl
kind_plain es c cells.Store h = refl
kind_plain es c cells.GatedLoad h = refl
kind_plain es c cells.GatedStore h = refl
kind_plain es c cells.Event h = absurd (omega (arith, h))

pub step_plain : (es : List Event) (c : Cell) → Names 0 c → step_in es c ≡ step_in [] c
step_plain es c h = rw (kind_plain es c c.kind h) refl

pub names_more : (n m : ℕ) (c : Cell) (k : CellKind) → n ≤ m → NamesBy n c k → NamesBy m c k
names_more n m c cells.Other l h = tt
names_more n m c cells.Branch l h = tt
names_more n m c cells.Allocation l h = tt
names_more n m c cells.Load l h = tt
names_more n m c cells.Store l h = tt
names_more n m c cells.GatedLoad l h = tt
names_more n m c cells.GatedStore l h = tt
names_more n m c cells.Event l h = omega (arith, l, h)

pub all_names_more : (n m : ℕ) (cs : List Cell) → n ≤ m → All (Names n) cs → All (Names m) cs
all_names_more n m cs l h = λ i d b. let c : Cell = get_or cs i d in names_more n m c c.kind l (h i d b)

get_left : (es fs : List Event) (i : ℕ) → i < length es → slice_get (es ++ fs) i ≡ slice_get es i
get_left [] fs i h = absurd (omega (arith, h))
get_left (e ∷ es) fs zero h = refl
get_left (e ∷ es) fs (suc i) h = get_left es fs i (omega (arith, h))

-- a cell that names one of these events names the same one with more of them
kind_more : (es fs : List Event) (c : Cell) (k : CellKind) → NamesBy (length es) c k → kind_by (es ++ fs) c k ≡ kind_by es c k
kind_more es fs c cells.Other h = refl
kind_more es fs c cells.Branch h = refl
kind_more es fs c cells.Allocation h = refl
kind_more es fs c cells.Load h = refl
kind_more es fs c cells.Store h = refl
kind_more es fs c cells.GatedLoad h = refl
kind_more es fs c cells.GatedStore h = refl
kind_more es fs c cells.Event h = ap event_or_other (get_left es fs c.first h)

step_more : (es fs : List Event) (c : Cell) → Names (length es) c → step_in (es ++ fs) c ≡ step_in es c
step_more es fs c h = rw (kind_more es fs c c.kind h) refl

pub steps_more : (es fs : List Event) (cs : List Cell) → All (Names (length es)) cs → steps_in (es ++ fs) cs ≡ steps_in es cs
steps_more es fs [] h = refl
steps_more es fs (c ∷ cs) h = rw (step_more es fs c (h 0 c (omega arith))) (ap (λ (xs : List Step). step_in es c ∷ xs) (steps_more es fs cs (λ i d b. h (suc i) d (omega (arith, b)))))

-- ---- one step more

pub with_cell : (es : List Event) (cs : List Cell) (c : Cell) → Names 0 c → steps_in es (cs ++ c ∷ []) ≡ steps_in es cs ++ step_in [] c ∷ []
with_cell es cs c h = map-append (step_in es) cs (c ∷ []) ∙ rw (step_plain es c h) refl

pub with_event : (es : List Event) (e : Event) (cs : List Cell) (c : Cell) → All (Names (length es)) cs
    → steps_in (es ++ e ∷ []) (cs ++ c ∷ []) ≡ steps_in es cs ++ step_in (es ++ e ∷ []) c ∷ []
with_event es e cs c h = map-append (step_in (es ++ e ∷ [])) cs (c ∷ []) ∙ rw (steps_more es (e ∷ []) cs h) refl

pub one : (n : ℕ) (c : Cell) → Names n c → All (Names n) (c ∷ [])
one n c h zero d b = h
one n c h (suc i) d b = absurd (omega (arith, b))

pub all_with : (n : ℕ) (cs : List Cell) (c : Cell) → All (Names n) cs → Names n c → All (Names n) (cs ++ c ∷ [])
all_with n cs c h k = All-append (Names n) cs (c ∷ []) h (one n c k)

pub length_steps : (es : List Event) (cs : List Cell) → length (steps_in es cs) ≡ length cs
length_steps es cs = length-map cs (step_in es)

pub has_room : (es : List Event) (cs : List Cell) (room : ℕ) (r : Recording) → record { steps = steps_in es cs; room = room } ≡ r → length r.steps < r.room → length cs < room
has_room es cs room r e h = omega (arith, h, ap (λ (x : Recording). length x.steps) e, ap (λ (x : Recording). x.room) e, length_steps es cs)

pub longer : {X : Type 0} (xs : List X) (x : X) → length (xs ++ x ∷ []) ≡ length xs + 1
longer xs x = length-append xs (x ∷ [])

pub last : (es : List Event) (e : Event) → slice_get (es ++ e ∷ []) (length es) ≡ Some e
last [] e = refl
last (x ∷ es) e = last es e
