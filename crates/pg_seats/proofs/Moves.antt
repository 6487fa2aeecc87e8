-- The steps of a seat: what it finds, and the changes of the rule that its plain steps, parts, advances and looks are.
use Rattle.std.proofs.Common.{◌≡◌, ℕ, suc, ◌+◌, ◌<◌, ◌≤◌, ◌⊎◌, inl, inr, ◌||◌, Bool, true, false, length, List, Option, Some, None, set, refl, sym, ap, ◌∙◌, subst, arith, length-set, get_or-set_same}
use Rattle.std.specs.Prelude.{slice_get, slice_index, is_some, if◌then◌else◌}
use Rattle.std.proofs.lemmas.Bool.{cases_lt, cases_eq, false_from_ne_true}
use mathlib.Core.Option.{some}
use lib.ListN.{get_elem?}
use Rattle.pg_law_course.specs.pg_num.declared.layout.TheConstants.{MEMORY_BYTES}
use Rattle.pg_law_course.specs.pg_num.declared.limits.TheConstants.{THREAD_LIMIT}
use Rattle.pg_law_course.specs.pg_law_threads.Steps.{touches}
use Rattle.pg_law_course.specs.pg_law_threads.Effects.{deeds, effects, or_old}
use Rattle.pg_law_course.specs.pg_law_threads.Intervals.{Timed}
use Rattle.pg_law_course.specs.pg_law_threads.Standing.{Goes, done_of, left_by}
use Rattle.pg_law_course.proofs.of_pg_law_threads.StepsAtCuts.{goes_plain, goes_turn}
use Rattle.pg_law_course.specs.pg_law_runs.Deeds.{Did}
use Rattle.pg_words.specs.declared.layout.TheConstants.{TURN_WORD}
use Rattle.pg_seats.specs.declared.run.Run.{Run}
use Rattle.pg_seats.specs.declared.run.Standing.{Standing}
use Rattle.pg_seats.specs.declared.run.View.{View}
use Rattle.pg_seats.specs.declared.run.View.TheVariants.{Worker}
use Rattle.pg_seats.specs.Plan.{before, cells_there, first_of, own_of, plan_of, turns_in}
use Rattle.pg_seats.specs.Views.{advanced, has_word, is_due, is_put, looked, needed, needs, next_of, told, went_on, with_part}
use Rattle.pg_seats.specs.Rule.{cell_in, IsSeated, Keeps, over, over_turn}
use Rattle.pg_seats.proofs.Cells.{turn_cells}
use Rattle.pg_seats.proofs.Changes.{Due, due_next, moved, one_due, owner_is, put_at, put_else, put_here, seat, some_same, under_way}
use Rattle.pg_seats.proofs.NextSteps as steps
use Rattle.pg_seats.proofs.Parts.{is_part, none_put, not_put, over_all, over_more, over_none, over_still, turn_none, turn_same}
use Rattle.pg_seats.proofs.RunFacts as runs

pub there : (r : Run) (t m b : ℕ) → (effects (first_of r) (before t m (plan_of r))).cells b ≡ cells_there r t m b
unfolding cells_there
there r t m b = refl

-- the next shared step of a seat, whatever it did beside such steps
next_same : (w : Standing) (due : Bool) (parts seen looks : ℕ) → next_of (record { run = w.run; thread = w.thread; done = w.done; due = due; parts = parts; seen = seen; looks = looks }) ≡ next_of w
unfolding next_of
next_same w due parts seen looks = refl

pub next_some : (w : Standing) (x : Timed Did) → slice_get (own_of w.run w.thread) w.done ≡ Some x → next_of w ≡ Some x
unfolding next_of
next_some w x e = e

or_right : (a b : Bool) → b ≡ true → (a || b) ≡ true
or_right true b e = refl
or_right false b e = e

module _ (words : List ℕ) (views : List View) (id : ℕ) (w : Standing) (h : Keeps w.run words views) (at : get_elem? views id ≡ some (Worker w)) where
  s : IsSeated w.run h.seats (done_of h.stands) h.turns id w
  s = seat w.run words views h id w at

  abbrev T : List ℕ
  T = turns_in w.run

  -- ---- what it finds

  module _ (x : Timed Did) (next : slice_get (own_of w.run w.thread) w.done ≡ Some x) (due : deeds.is_event x.did ≡ true → x.high ≡ h.turns) where
    pub here : slice_get (own_of w.run w.thread) (done_of h.stands w.thread) ≡ Some x
    here = subst (λ m. slice_get (own_of w.run w.thread) m ≡ Some x) s.done_is next

    -- no part of a turn that is done lies over a cell that it touches, but for its own
    pub over_touched : (b : ℕ) → touches deeds x.did b ≡ true → is_put x.did w.parts b ≡ false → (v : ℕ)
        → over_turn w.run (done_of h.stands) h.seats.parts (slice_get T h.turns) b v ≡ v
    over_touched b t free v = go (slice_get T h.turns)
      where
        go : (o : Option ℕ) → over_turn w.run (done_of h.stands) h.seats.parts o b v ≡ v
        go None = refl
        go (Some u) = own (cases_eq u w.thread)
          where
            own : (u ≡ w.thread) ⊎ (u ≡ w.thread → ⊥) → over (slice_get (own_of w.run u) (done_of h.stands u)) (h.seats.parts u) b v ≡ v
            own (inl e) =
                ap (λ k. over (slice_get (own_of w.run k) (done_of h.stands k)) (h.seats.parts k) b v) e
                ∙ ap (λ k. over (slice_get (own_of w.run w.thread) (done_of h.stands w.thread)) k b v) (sym s.parts_is) ∙ ap (λ o. over o w.parts b v) here ∙ over_still x w.parts b v free
            own (inr ne) = parts (cases_lt 0 (h.seats.parts u))
              where
                parts : (0 < h.seats.parts u) ⊎ (h.seats.parts u ≤ 0) → over (slice_get (own_of w.run u) (done_of h.stands u)) (h.seats.parts u) b v ≡ v
                parts (inr l) = let z : h.seats.parts u ≡ 0 = omega arith in ap (λ k. over (slice_get (own_of w.run u) (done_of h.stands u)) k b v) z ∙ over_none (slice_get (own_of w.run u) (done_of h.stands u)) b v
                parts (inl l) =
                    let d = under_way w.run words views h u l in
                    ap (λ o. over o (h.seats.parts u) b v) d.next
                    ∙ over_still d.step (h.seats.parts u) b v (not_put d.step.did (h.seats.parts u) b (false_from_ne_true (is_some (d.step.did.writes b))
                    (steps.apart T (plan_of w.run) (runs.plan w.run h.run_is) h.turns h.stands w.thread u x d.step here d.next due (λ v. d.number) (λ e. ne (sym e)) b t)))

    -- in a cell that it touches it finds what the run has there
    pub finds : (b : ℕ) → b < MEMORY_BYTES + THREAD_LIMIT → touches deeds x.did b ≡ true → is_put x.did w.parts b ≡ false → cell_in words b ≡ cells_there w.run w.thread w.done b
    finds b lt t free =
        h.memory b lt ∙ over_touched b t free ((left_by (first_of w.run) h.stands).cells b)
        ∙ steps.finds T (plan_of w.run) (runs.plan w.run h.run_is) h.turns h.stands w.thread x here due (first_of w.run) b t
        ∙ ap (λ m. (effects (first_of w.run) (before w.thread m (plan_of w.run))).cells b) (sym s.done_is) ∙ there w.run w.thread w.done b

  -- ---- a plain step

  module _ (x : Timed Did) (next : slice_get (own_of w.run w.thread) w.done ≡ Some x) (plain : deeds.is_event x.did ≡ false) where
    not_due : deeds.is_event x.did ≡ true → x.high ≡ h.turns
    not_due v = absurd (let k : true ≡ false = sym v ∙ plain in cc)

    -- parts are done of a turn alone
    pub no_parts : w.parts ≡ 0
    no_parts = go (cases_lt 0 w.parts)
      where
        go : (0 < w.parts) ⊎ (w.parts ≤ 0) → w.parts ≡ 0
        go (inr l) = omega arith
        go (inl l) =
            let d = due_next w h.turns (s.due (s.some_parts l)) in
            let e : d.step ≡ x = some_same d.step x (sym d.next ∙ next) in
            absurd (let k : true ≡ false = sym d.event ∙ ap (λ (y : Timed Did). deeds.is_event y.did) e ∙ plain in cc)

    goes : Goes T (first_of w.run) (plan_of w.run) h.turns h.turns h.stands w.thread x
    goes = goes_plain T (first_of w.run) (plan_of w.run) (runs.plan w.run h.run_is) h.turns h.stands w.thread x (here x next not_due) not_due plain

    abbrev pub behind : Standing
    behind = record { run = w.run; thread = w.thread; done = suc w.done; due = false; parts = 0; seen = w.seen; looks = w.looks }

    commute : (b : ℕ) (v : ℕ) → or_old (x.did.writes b) (over_turn w.run (done_of h.stands) h.seats.parts (slice_get T h.turns) b v)
        ≡ over_turn w.run (done_of h.stands) h.seats.parts (slice_get T h.turns) b (or_old (x.did.writes b) v)
    commute b v = go (x.did.writes b) refl
      where
        go : (o : Option ℕ) → x.did.writes b ≡ o → or_old o (over_turn w.run (done_of h.stands) h.seats.parts (slice_get T h.turns) b v)
            ≡ over_turn w.run (done_of h.stands) h.seats.parts (slice_get T h.turns) b (or_old o v)
        go None e = refl
        go (Some n) e = sym (over_touched x next not_due b (or_right (x.did.reads b) (is_some (x.did.writes b)) (ap is_some e))
            (ap (λ k. is_put x.did k b) no_parts ∙ none_put x.did b) n)

    owner_same : (t : ℕ) → slice_get T h.turns ≡ Some t
        → ((done_of h.stands t ≡ done_of goes.stands t) × (h.seats.parts t ≡ put_at h.seats.parts w.thread 0 t)) ⊎ ((h.seats.parts t ≡ 0) × (put_at h.seats.parts w.thread 0 t ≡ 0))
    owner_same t e = go (cases_eq t w.thread)
      where
        go : (t ≡ w.thread) ⊎ (t ≡ w.thread → ⊥)
            → ((done_of h.stands t ≡ done_of goes.stands t) × (h.seats.parts t ≡ put_at h.seats.parts w.thread 0 t)) ⊎ ((h.seats.parts t ≡ 0) × (put_at h.seats.parts w.thread 0 t ≡ 0))
        go (inl q) = inr (ap h.seats.parts q ∙ sym s.parts_is ∙ no_parts, put_here h.seats.parts w.thread 0 t q)
        go (inr ne) = inl (sym (goes.others t (λ q. ne (q ∙ goes.thread_is))), sym (put_else h.seats.parts w.thread 0 t ne))

    pub went : (ws : List ℕ) → length ws ≡ length words → slice_index ws TURN_WORD ≡ slice_index words TURN_WORD
        → ((b : ℕ) → b < MEMORY_BYTES + THREAD_LIMIT → cell_in ws b ≡ or_old (x.did.writes b) (cell_in words b))
        → Keeps w.run ws (set views id (Worker behind))
    went ws wide clock cells = moved w.run words views h id w at behind ws h.turns (record {
      run_is = refl;
      thread_is = refl;
      wide = wide;
      clock = clock ∙ h.clock;
      later = omega arith;
      bound = h.bound;
      stands = goes.stands;
      own_done = ap suc s.done_is ∙ sym (subst (λ t. done_of goes.stands t ≡ suc (done_of h.stands t)) goes.thread_is goes.one_more);
      others_done = λ t ne. goes.others t (λ q. ne (q ∙ goes.thread_is));
      others_due = λ u ne r e. e;
      due = λ e. absurd cc;
      some_parts = λ l. absurd (omega arith);
      few_parts = omega arith;
      seen = s.seen;
      memory = λ b lt.
          cells b lt ∙ ap (or_old (x.did.writes b)) (h.memory b lt) ∙ commute b ((left_by (first_of w.run) h.stands).cells b)
          ∙ turn_same w.run (done_of h.stands) (done_of goes.stands) h.seats.parts (put_at h.seats.parts w.thread 0) (slice_get T h.turns) b _ owner_same
          ∙ ap (over_turn w.run (done_of goes.stands) (put_at h.seats.parts w.thread 0) (slice_get T h.turns) b) (goes.leaves.cells b);
    })

  -- ---- where the cut stays

  abbrev pub knowing : Bool → ℕ → ℕ → Standing
  knowing due seen looks = record { run = w.run; thread = w.thread; done = w.done; due = due; parts = w.parts; seen = seen; looks = looks }

  -- it knows more of the turns
  pub knows : (due : Bool) (seen looks : ℕ) → (due ≡ true → is_due w h.turns ≡ true) → (w.due ≡ true → due ≡ true) → seen ≤ h.turns → Keeps w.run words (set views id (Worker (knowing due seen looks)))
  knows due seen looks is still low = moved w.run words views h id w at (knowing due seen looks) words h.turns (record {
    run_is = refl;
    thread_is = refl;
    wide = refl;
    clock = h.clock;
    later = omega arith;
    bound = h.bound;
    stands = h.stands;
    own_done = s.done_is;
    others_done = λ t ne. refl;
    others_due = λ u ne r e. e;
    due = λ e. ap (Rattle.pg_seats.specs.Views.fits (Rattle.pg_seats.specs.Views.is_turn h.turns)) (next_same w due w.parts seen looks) ∙ is e;
    some_parts = λ l. still (s.some_parts l);
    few_parts = subst (λ o. w.parts ≤ needed o) (sym (next_same w due w.parts seen looks)) s.few_parts;
    seen = low;
    memory = λ b lt. h.memory b lt ∙ turn_same w.run (done_of h.stands) (done_of h.stands) h.seats.parts (put_at h.seats.parts w.thread w.parts) (slice_get T h.turns) b _
        (λ t e. inl (refl, same t (cases_eq t w.thread)));
  })
    where
      same : (t : ℕ) → (t ≡ w.thread) ⊎ (t ≡ w.thread → ⊥) → h.seats.parts t ≡ put_at h.seats.parts w.thread w.parts t
      same t (inl q) = ap h.seats.parts q ∙ sym s.parts_is ∙ sym (put_here h.seats.parts w.thread w.parts t q)
      same t (inr ne) = sym (put_else h.seats.parts w.thread w.parts t ne)

  -- ---- a turn that is due

  module _ (is : w.due ≡ true) (x : Timed Did) (next : slice_get (own_of w.run w.thread) w.done ≡ Some x) where
    d : Due w.run w.thread w.done h.turns
    d = due_next w h.turns (s.due is)

    same_step : d.step ≡ x
    same_step = some_same d.step x (sym d.next ∙ next)

    pub event : deeds.is_event x.did ≡ true
    event = ap (λ (y : Timed Did). deeds.is_event y.did) (sym same_step) ∙ d.event

    pub number : x.high ≡ h.turns
    number = ap (λ (y : Timed Did). y.high) (sym same_step) ∙ d.number

    owner : slice_get T h.turns ≡ Some w.thread
    owner = (owner_is w.run w.thread w.done h.turns h.run_is d).0

    now : slice_get (own_of w.run w.thread) (done_of h.stands w.thread) ≡ Some x
    now = here x next (λ v. number)

    -- its parts are what lies over the cells
    own_parts : (parts : ℕ → ℕ) (b v : ℕ) → over_turn w.run (done_of h.stands) parts (slice_get T h.turns) b v ≡ over (Some x) (parts w.thread) b v
    own_parts parts b v = ap (λ o. over_turn w.run (done_of h.stands) parts o b v) owner ∙ ap (λ o. over o (parts w.thread) b v) now

    cells_are : (b : ℕ) → b < MEMORY_BYTES + THREAD_LIMIT → cell_in words b ≡ over (Some x) w.parts b ((left_by (first_of w.run) h.stands).cells b)
    cells_are b lt = h.memory b lt ∙ own_parts h.seats.parts b ((left_by (first_of w.run) h.stands).cells b) ∙ ap (λ k. over (Some x) k b ((left_by (first_of w.run) h.stands).cells b)) (sym s.parts_is)

    abbrev pub parted : Standing
    parted = record { run = w.run; thread = w.thread; done = w.done; due = w.due; parts = suc w.parts; seen = w.seen; looks = w.looks }

    -- one part more is done
    pub put_more : (ws : List ℕ) → w.parts < needs x.did → length ws ≡ length words → slice_index ws TURN_WORD ≡ slice_index words TURN_WORD
        → ((b : ℕ) → b < MEMORY_BYTES + THREAD_LIMIT → cell_in ws b ≡ (if is_part x.did w.parts b then or_old (x.did.writes b) (cell_in words b) else cell_in words b))
        → Keeps w.run ws (set views id (Worker parted))
    put_more ws few wide clock cells = moved w.run words views h id w at parted ws h.turns (record {
      run_is = refl;
      thread_is = refl;
      wide = wide;
      clock = clock ∙ h.clock;
      later = omega arith;
      bound = h.bound;
      stands = h.stands;
      own_done = s.done_is;
      others_done = λ t ne. refl;
      others_due = λ u ne r e. e;
      due = λ e. ap (Rattle.pg_seats.specs.Views.fits (Rattle.pg_seats.specs.Views.is_turn h.turns)) (next_same w w.due (suc w.parts) w.seen w.looks) ∙ s.due is;
      some_parts = λ l. is;
      few_parts = subst (λ o. suc w.parts ≤ needed o) (sym (next_same w w.due (suc w.parts) w.seen w.looks ∙ next_some w x next)) few;
      seen = s.seen;
      memory = λ b lt.
          cells b lt ∙ ap (λ v. if is_part x.did w.parts b then or_old (x.did.writes b) v else v) (cells_are b lt) ∙ sym (over_more x w.parts b ((left_by (first_of w.run) h.stands).cells b))
          ∙ ap (λ k. over (Some x) k b ((left_by (first_of w.run) h.stands).cells b)) (sym (put_here h.seats.parts w.thread (suc w.parts) w.thread refl))
          ∙ sym (own_parts (put_at h.seats.parts w.thread (suc w.parts)) b ((left_by (first_of w.run) h.stands).cells b));
    })

    goes_on : Goes T (first_of w.run) (plan_of w.run) h.turns (suc h.turns) h.stands w.thread x
    goes_on = goes_turn T (first_of w.run) (plan_of w.run) (runs.plan w.run h.run_is) h.turns h.stands w.thread x now (λ v. number) event

    abbrev pub done_with : Standing
    done_with = record { run = w.run; thread = w.thread; done = suc w.done; due = false; parts = 0; seen = suc h.turns; looks = w.looks }

    -- the turn is done, all its parts are
    pub closed : w.parts ≡ needs x.did → Keeps w.run (set words TURN_WORD (suc h.turns)) (set views id (Worker done_with))
    closed all = moved w.run words views h id w at done_with (set words TURN_WORD (suc h.turns)) (suc h.turns) (record {
      run_is = refl;
      thread_is = refl;
      wide = length-set words TURN_WORD (suc h.turns);
      clock = get_or-set_same words TURN_WORD (suc h.turns) 0 (let l = h.wide in omega (arith, l));
      later = omega arith;
      bound = (owner_is w.run w.thread w.done h.turns h.run_is d).1;
      stands = goes_on.stands;
      own_done = ap suc s.done_is ∙ sym (subst (λ t. done_of goes_on.stands t ≡ suc (done_of h.stands t)) goes_on.thread_is goes_on.one_more);
      others_done = λ t ne. goes_on.others t (λ q. ne (q ∙ goes_on.thread_is));
      others_due = λ u ne r e. absurd (ne (one_due w.run u.thread w.thread u.done w.done h.turns h.run_is
          (subst (λ (q : Run). Due q u.thread u.done h.turns) r (due_next u h.turns e)) d));
      due = λ e. absurd cc;
      some_parts = λ l. absurd (omega arith);
      few_parts = omega arith;
      seen = omega arith;
      memory = λ b lt.
          turn_cells words (suc h.turns) b ∙ cells_are b lt ∙ ap (λ k. over (Some x) k b ((left_by (first_of w.run) h.stands).cells b)) all
          ∙ over_all x (runs.shape w.run h.run_is w.thread w.done x next) b ((left_by (first_of w.run) h.stands).cells b) ∙ goes_on.leaves.cells b
          ∙ sym (turn_none w.run (done_of goes_on.stands) (put_at h.seats.parts w.thread 0) (slice_get T (suc h.turns)) b ((left_by (first_of w.run) goes_on.stands).cells b)
          (λ t e. no_parts_left t (cases_eq t w.thread)));
    })
      where
        no_parts_left : (t : ℕ) → (t ≡ w.thread) ⊎ (t ≡ w.thread → ⊥) → put_at h.seats.parts w.thread 0 t ≡ 0
        no_parts_left t (inl q) = put_here h.seats.parts w.thread 0 t q
        no_parts_left t (inr ne) = put_else h.seats.parts w.thread 0 t ne ∙ go (cases_lt 0 (h.seats.parts t))
          where
            go : (0 < h.seats.parts t) ⊎ (h.seats.parts t ≤ 0) → h.seats.parts t ≡ 0
            go (inr l) = omega arith
            go (inl l) = absurd (ne (one_due w.run t w.thread (done_of h.stands t) w.done h.turns h.run_is (under_way w.run words views h t l) d))
