-- Workers that are seated one after another, and their seats as they are taken back.
use Rattle.std.proofs.Common.{◌≡◌, ℕ, ℤ, suc, ◌+◌, ◌<◌, ◌≤◌, ◌⊎◌, inl, inr, List, [], ◌∷◌, ◌++◌, Bool, true, length, length-append, Some, sym, ◌∙◌, ap, subst, arith}
use Rattle.std.specs.Prelude.{◌==◌, ◌&&◌, slice_get, slice_index_or}
use Rattle.std.proofs.lemmas.Bool.{cases_lt, eq-eqb}
use Rattle.std.proofs.lemmas.List.{get_or-append-add, get_or_append_left}
use Rattle.std.proofs.lemmas.Option.{get_or_from_slice_get, slice_get-get_or, slice_get_within}
use Rattle.atomic_table.specs.Seated.{TableId}
use Rattle.pg_crew.specs.pg_num.declared.limits.TheConstants.{THREAD_LIMIT}
use Rattle.pg_crew.specs.pg_ir.Program.{NumberedProgram}
use Rattle.pg_crew.specs.pg_run_trace.declared.schedule.Schedule.{Schedule}
use Rattle.pg_crew.specs.pg_seats.declared.run.Run.{Run}
use Rattle.pg_crew.specs.pg_seats.declared.run.View.{View}
use Rattle.pg_crew.specs.pg_seats.declared.run.View.TheVariants.{Idle, Laying, Pool}
use Rattle.pg_crew.specs.pg_seats.Plan.{IsEnforced, run_of, turns_in}
use Rattle.pg_crew.specs.pg_seats.Plays.{Place}
use Rattle.pg_crew.specs.pg_seats.Views.{epoch_of, gathered, may_begin, may_gather, may_split, newcomer, with_one_more}
use Rattle.pg_crew.specs.pg_worker.declared.unseated.Unseated.{Unseated}
use Rattle.pg_crew.specs.pg_worker.declared.worker.Worker.{Worker}
use Rattle.pg_crew.specs.pg_worker.Pages.{is_marked}
use Rattle.pg_crew.specs.pg_worker.Standing.{IsAt, first_view}
use Rattle.pg_crew.specs.pg_worker.Unseated.{IsUnseated}
use Rattle.pg_room.specs.Threads.{AreUnseated}
use Rattle.pg_crew.specs.Workers.{AreWorkers}

both_true : (a b : Bool) → a ≡ true → b ≡ true → (a && b) ≡ true
both_true a b e f = ap (λ (x : Bool). x && b) e ∙ f

there : {A : Type 0} (xs : List A) (n : ℕ) (x : A) → n < length xs → x ≡ slice_index_or xs n x → slice_get xs n ≡ Some x
there {A} xs n x lt e = slice_get-get_or xs n x lt ∙ ap (λ (y : A). Some y) (sym e)

-- ---- the begin

pub begins : (me : Place) (epoch : ℕ) → me ≡ (Idle epoch, []) → may_begin me.0 ≡ true
begins me epoch e = ap (λ (m : Place). may_begin m.0) e

pub begun : (p : NumberedProgram) (s : Schedule) (input : List ℤ) (epoch : ℕ) (me after : Place) → me ≡ (Idle epoch, []) → after ≡ (Laying (run_of p s input (epoch_of me.0)) 0, me.1)
    → after ≡ (Laying (run_of p s input epoch) 0, [])
begun p s input epoch me after e f = f ∙ ap (λ (m : Place). (Laying (run_of p s input (epoch_of m.0)) 0, m.1)) e

-- ---- threads that get a seat

pub none_unseated : (p : NumberedProgram) (s : Schedule) (us : List Unseated) → us ≡ [] → AreUnseated p s us
none_unseated p s us e = subst (AreUnseated p s) (sym e) (λ t u f. absurd cc)

pub one_unseated : (p : NumberedProgram) (s : Schedule) (us : List Unseated) (u : Unseated) → AreUnseated p s us → IsUnseated p s (length us) u → AreUnseated p s (us ++ u ∷ [])
one_unseated p s us u h is t x e = go (cases_lt t (length us))
  where
    within : t < length (us ++ u ∷ [])
    within = slice_get_within (us ++ u ∷ []) t x e

    is_x : x ≡ slice_index_or (us ++ u ∷ []) t x
    is_x = sym (get_or_from_slice_get (us ++ u ∷ []) t x x e)

    go : (t < length us) ⊎ (length us ≤ t) → IsUnseated p s t x
    go (inl l) = h t x (there us t x l (is_x ∙ get_or_append_left us (u ∷ []) x t l))
    go (inr l) =
        let n = length-append us (u ∷ []) in
        let q : t ≡ length us + 0 = omega (arith, within, n, l) in
        let same : x ≡ u = is_x ∙ ap (λ (k : ℕ). slice_index_or (us ++ u ∷ []) k x) q ∙ get_or-append-add us (u ∷ []) 0 x in
        let k : length us ≡ t = omega (arith, q) in
        subst (λ (y : Unseated). IsUnseated p s t y) (sym same) (subst (λ (j : ℕ). IsUnseated p s j u) k is)

pub thread_at : (p : NumberedProgram) (s : Schedule) (us : List Unseated) (n : ℕ) (u : Unseated) → AreUnseated p s us → n < length us → u ≡ slice_index_or us n u → IsUnseated p s n u
thread_at p s us n u h lt e = h n u (there us n u lt e)

pub own_thread : (p : NumberedProgram) (s : Schedule) (n : ℕ) (u : Unseated) → IsUnseated p s n u → IsUnseated p s u.thread.0 u
own_thread p s n u h = subst (λ (k : ℕ). IsUnseated p s k u) (sym h.thread) h

pub splits : (r : Run) (n : ℕ) (me : Place) → me ≡ (Pool r n 0, []) → may_split me.0 ≡ true
splits r n me e = ap (λ (m : Place). may_split m.0) e

pub first_seat : (r : Run) (n k : ℕ) (me seat : Place) → me ≡ (Pool r n 0, []) → seat ≡ (newcomer me.0, []) → k ≡ n → seat ≡ (first_view r k, [])
first_seat r n k me seat e f q = f ∙ ap (λ (m : Place). (newcomer m.0, [])) e ∙ ap (λ (j : ℕ). (first_view r j, [])) (sym q)

pub one_more : (r : Run) (n m : ℕ) (me after : Place) → me ≡ (Pool r n 0, []) → after ≡ (with_one_more me.0, me.1) → m ≡ suc n → after ≡ (Pool r m 0, [])
one_more r n m me after e f q = f ∙ ap (λ (x : Place). (with_one_more x.0, x.1)) e ∙ ap (λ (j : ℕ). (Pool r j 0, [])) (sym q)

-- ---- workers

-- worker t of the list stands in the run for thread t, and has done no turn
abbrev pub AreSeated : Run → TableId → List Worker → Type 0
AreSeated r table ws = (t : ℕ) (d : Worker) → t < length ws → ((slice_index_or ws t d).thread.0 ≡ t) × IsAt r table 0 (slice_index_or ws t d) × ((slice_index_or ws t d).done ≡ 0)

pub none_seated : (r : Run) (table : TableId) (ws : List Worker) → ws ≡ [] → AreSeated r table ws
none_seated r table ws e = subst (AreSeated r table) (sym e) (λ t d lt. absurd (omega (arith, lt)))

pub one_seated : (r : Run) (table : TableId) (ws : List Worker) (w : Worker) → AreSeated r table ws → w.thread.0 ≡ length ws → IsAt r table 0 w → w.done ≡ 0 → AreSeated r table (ws ++ w ∷ [])
one_seated r table ws w h thread at first t d lt = go (cases_lt t (length ws))
  where
    go : (t < length ws) ⊎ (length ws ≤ t)
        → ((slice_index_or (ws ++ w ∷ []) t d).thread.0 ≡ t) × IsAt r table 0 (slice_index_or (ws ++ w ∷ []) t d) × ((slice_index_or (ws ++ w ∷ []) t d).done ≡ 0)
    go (inl l) = subst (λ (x : Worker). (x.thread.0 ≡ t) × IsAt r table 0 x × (x.done ≡ 0)) (sym (get_or_append_left ws (w ∷ []) d t l)) (h t d l)
    go (inr l) =
        let n = length-append ws (w ∷ []) in
        let q : t ≡ length ws + 0 = omega (arith, lt, n, l) in
        let k : length ws ≡ t = omega (arith, q) in
        subst (λ (x : Worker). (x.thread.0 ≡ t) × IsAt r table 0 x × (x.done ≡ 0)) (sym (ap (λ (j : ℕ). slice_index_or (ws ++ w ∷ []) j d) q ∙ get_or-append-add ws (w ∷ []) 0 d))
        (thread ∙ k, at, first)

pub worker_at : (r : Run) (table : TableId) (ws : List Worker) (n : ℕ) (w : Worker) → AreWorkers r table ws → n < length ws → w ≡ slice_index_or ws n w → (w.thread.0 ≡ n) × IsAt r table 0 w
worker_at r table ws n w are lt e = subst (λ (x : Worker). (x.thread.0 ≡ n) × IsAt r table 0 x) (sym e) (are.thread n w lt, are.at n w lt)

pub all_seated : (r : Run) (table : TableId) (ws : List Worker) (count : ℕ) → IsEnforced r → AreSeated r table ws → length ws ≡ count → 0 < count → count ≤ THREAD_LIMIT
    → ((g t : ℕ) → slice_get (turns_in r) g ≡ Some t → t < THREAD_LIMIT → t < count) → AreWorkers r table ws
all_seated r table ws count enforced h n main few owners = record {
  enforced = enforced;
  main = omega (arith, n, main);
  few = omega (arith, n, few);
  thread = λ t d lt. (h t d lt).0;
  at = λ t d lt. (h t d lt).1;
  owners = λ g t e lt. (let k = owners g t e lt in omega (arith, n, k));
}

-- ---- seats that are taken back

pub gathers : (r : Run) (table : TableId) (count n : ℕ) (me : Place) (w : Worker) (seat : Place) → me ≡ (Pool r count n, []) → IsAt r table 0 w → w.thread.0 ≡ n → seat ≡ w.seat.me
    → may_gather me.0 seat.0 ≡ true
gathers r table count n me w seat e at thread same =
    ap (λ (m : Place). may_gather m.0 seat.0) e ∙ ap (λ (m : Place). may_gather (Pool r count n) m.0) (same ∙ at.view)
    ∙ both_true (at.standing.thread == n) (at.standing.parts == 0) (eq-eqb at.standing.thread n (at.seat.thread ∙ thread)) (eq-eqb at.standing.parts 0 at.seat.parts_done)

pub bare_seat : (r : Run) (table : TableId) (w : Worker) (seat : Place) → IsAt r table 0 w → seat ≡ w.seat.me → seat.1 ≡ []
bare_seat r table w seat at same = ap (λ (m : Place). m.1) (same ∙ at.view)

pub one_gathered : (r : Run) (count n m : ℕ) (me after : Place) (u : View) → me ≡ (Pool r count n, []) → after ≡ (gathered me.0 u, me.1) → m ≡ suc n → after ≡ (Pool r count m, [])
one_gathered r count n m me after u e f q = f ∙ ap (λ (x : Place). (gathered x.0 u, x.1)) e ∙ ap (λ (j : ℕ). (Pool r count j, [])) (sym q)

-- the pages of the first n workers are marked
abbrev pub HaveAdded : List Worker → ℕ → List ℕ → Type 0
HaveAdded ws n marks = (t page : ℕ) (d : Worker) → t < n → is_marked (slice_index_or ws t d).pages.words.items page ≡ true → is_marked marks page ≡ true

pub one_added : (ws : List Worker) (n m : ℕ) (w : Worker) (before after : List ℕ) → n < length ws → w ≡ slice_index_or ws n w → m ≡ suc n → HaveAdded ws n before
    → ((page : ℕ) → is_marked before page ≡ true → is_marked after page ≡ true) → ((page : ℕ) → is_marked w.pages.words.items page ≡ true → is_marked after page ≡ true) → HaveAdded ws m after
one_added ws n m w before after lt e q h kept added t page d few mark = go (cases_lt t n)
  where
    go : (t < n) ⊎ (n ≤ t) → is_marked after page ≡ true
    go (inl l) = kept page (h t page d l mark)
    go (inr l) =
        let k : t ≡ n = omega (arith, few, q, l) in
        let same : slice_index_or ws t d ≡ w = ap (λ (j : ℕ). slice_index_or ws j d) k ∙ get_or_from_slice_get ws n w d (there ws n w lt e) in
        added page (ap (λ (x : Worker). is_marked x.pages.words.items page) (sym same) ∙ mark)
