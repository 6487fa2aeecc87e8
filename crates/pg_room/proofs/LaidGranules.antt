-- Granules laid one after another, at the begin of a run.
use Rattle.std.proofs.Common.{◌≡◌, ℕ, suc, ◌+◌, ◌-◌, ◌*◌, ◌/◌, ◌<◌, ◌≤◌, ◌⊎◌, inl, inr, List, [], Bool, true, false, length, Some, sym, ◌∙◌, ap, subst, add-one, arith}
use Rattle.std.specs.Prelude.{slice_get, slice_index}
use Rattle.std.proofs.lemmas.Bool.{cases_lt, false_from_ne_true}
use Rattle.std.proofs.lemmas.List.{get_or_past}
use Rattle.pg_crew.specs.pg_num.Places.{ByteRange}
use Rattle.pg_crew.specs.pg_num.declared.layout.TheConstants.{GLOBALS_END, GRANULE_COUNT}
use Rattle.pg_crew.specs.pg_ir.declared.function.GlobalInfo.{GlobalInfo}
use Rattle.pg_crew.specs.pg_ir.WellFormed.{LieFrom, granules_for}
use Rattle.pg_crew.specs.pg_run_memory.Bytes.{byte_of}
use Rattle.pg_crew.specs.pg_run_memory.Initial.{initial_byte}
use Rattle.pg_crew.specs.pg_seats.declared.run.Run.{Run}
use Rattle.pg_crew.specs.pg_seats.declared.run.View.{View}
use Rattle.pg_crew.specs.pg_seats.declared.run.View.TheVariants.{Laying, Pool}
use Rattle.pg_crew.specs.pg_seats.Plays.{Place}
use Rattle.pg_crew.specs.pg_seats.Views.{MayLay, MayOpen, laid, pooled}
use Rattle.pg_crew.specs.pg_worker.Pages.{is_marked, page_of}
use Rattle.pg_room.specs.Laying.{BeginsWith, HasMarked, IsLaidBelow, begin_of, granules_of}
use Rattle.pg_room.proofs.GlobalBytes.{begin_is, begins_at, behind, below, bytes_are, end_within, granules_within, next_begin}

not_both : (b : Bool) → b ≡ true → b ≡ false → ⊥
not_both b t f = absurd cc

-- nothing laid yet
pub zero_laid : (r : Run) (me : Place) (marks : List ℕ) → LieFrom 1 r.program.globals → me ≡ (Laying r 0, []) → IsLaidBelow r 1 me marks
zero_laid r me marks lie e = record {
  laid = 0;
  view = e;
  low = omega arith;
  zeros = λ b low lt. below 1 r.program.globals b lie lt;
  marked = λ b lt free. below 1 r.program.globals b lie lt;
}

-- ---- a granule

same_page : (g b : ℕ) → 8 * g ≤ b → b < 8 * g + 8 → page_of b ≡ page_of (8 * g)
same_page g b low high = omega arith

granule_is : (g : ℕ) (at : ByteRange) → at ≡ record { start = 8 * g; bytes = 8 } → at.start / 8 ≡ g
granule_is g at e = (let s : at.start ≡ 8 * g = ap (λ (q : ByteRange). q.start) e in omega (arith, s))

module _ (r : Run) (g : ℕ) (me : Place) (marks : List ℕ) (h : IsLaidBelow r g me marks) (at : ByteRange) (place : at ≡ record { start = 8 * g; bytes = 8 }) where
  pub may_lay : (word : ℕ) → ((k : ℕ) → k < 8 → byte_of word k ≡ initial_byte r.program.globals (8 * g + k)) → MayLay me.0 (at.start / 8) word
  may_lay word bytes =
      subst (λ (v : View). MayLay v (at.start / 8) word) (sym (ap (λ (m : Place). m.0) h.view))
      (subst (λ (k : ℕ). MayLay (Laying r h.laid) k word) (sym (granule_is g at place)) (h.low, h.zeros, bytes))

  module _ (after : Place) (more : List ℕ) (e : after ≡ (laid me.0 (at.start / 8), me.1)) (mark : is_marked more (page_of at.start) ≡ true)
      (kept : (page : ℕ) → is_marked marks page ≡ true → is_marked more page ≡ true) where
    marked_there : (b : ℕ) → 8 * g ≤ b → b < 8 * g + 8 → is_marked more (page_of b) ≡ true
    marked_there b low high = ap (is_marked more) (same_page g b low high ∙ ap page_of (sym (ap (λ (q : ByteRange). q.start) place))) ∙ mark

    marked_below : HasMarked r.program.globals (g + 1) more
    marked_below b lt free = go (cases_lt b (8 * g))
      where
        go : (b < 8 * g) ⊎ (8 * g ≤ b) → initial_byte r.program.globals b ≡ 0
        go (inl l) = h.marked b l (false_from_ne_true (is_marked marks (page_of b)) (λ m. not_both (is_marked more (page_of b)) (kept (page_of b) m) free))
        go (inr l) = absurd (not_both (is_marked more (page_of b)) (marked_there b l (omega (arith, lt))) free)

    pub granule_laid : IsLaidBelow r (g + 1) after more
    granule_laid = record {
      laid = suc g;
      view = e ∙ ap (λ (m : Place). (laid m.0 (at.start / 8), m.1)) h.view ∙ ap (λ (k : ℕ). (Laying r (suc k), [])) (granule_is g at place);
      low = omega arith;
      zeros = λ b low lt. absurd (omega (arith, low, lt));
      marked = marked_below;
    }

-- ---- a global

-- nothing to lay up to granule `to`
pub laid_to : (r : Run) (g to : ℕ) (me : Place) (marks : List ℕ) → IsLaidBelow r g me marks → g ≤ to
    → ((b : ℕ) → 8 * g ≤ b → b < 8 * to → initial_byte r.program.globals b ≡ 0) → IsLaidBelow r to me marks
laid_to r g to me marks h le none = record {
  laid = h.laid;
  view = h.view;
  low = (let l = h.low in omega (arith, l, le));
  zeros = λ b low lt. zero b (h.zeros b low) lt (cases_lt b (8 * g));
  marked = λ b lt free. zero b (λ l. h.marked b l free) lt (cases_lt b (8 * g));
}
  where
    zero : (b : ℕ) → (b < 8 * g → initial_byte r.program.globals b ≡ 0) → b < 8 * to → (b < 8 * g) ⊎ (8 * g ≤ b) → initial_byte r.program.globals b ≡ 0
    zero b before lt (inl l) = before l
    zero b before lt (inr l) = none b l lt

pub global_word : (r : Run) (start number : ℕ) (bytes : List ℕ) (word : ℕ) → BeginsWith r start bytes → number < granules_of bytes
    → ((k : ℕ) → k < 8 → byte_of word k ≡ slice_index bytes (8 * number + k)) → (k : ℕ) → k < 8 → byte_of word k ≡ initial_byte r.program.globals (8 * (start + number) + k)
global_word r start number bytes word begins lt made k few =
    let there : 8 * start + (8 * number + k) ≡ 8 * (start + number) + k = omega arith in
    made k few ∙ sym (begins (8 * number + k) (omega (arith, lt, few))) ∙ ap (initial_byte r.program.globals) there

module _ (r : Run) (k : ℕ) (x : GlobalInfo) (lie : LieFrom 1 r.program.globals) (there : slice_get r.program.globals k ≡ Some x) (fits : length x.bytes ≤ x.size) where
  abbrev begin : ℕ
  begin = begin_of 1 r.program.globals k

  same : (i : ℕ) → i < 8 * granules_for x.size → initial_byte r.program.globals (8 * begin + i) ≡ slice_index x.bytes i
  same = bytes_are 1 r.program.globals k x lie there

  pub global_begins : BeginsWith r begin x.bytes
  global_begins i lt = (let w = granules_within x fits in same i (omega (arith, lt, w)))

  -- behind its bytes nothing is to be laid up to the next global
  pub global_laid : (me : Place) (marks : List ℕ) → IsLaidBelow r (begin + granules_of x.bytes) me marks → IsLaidBelow r (begin_of 1 r.program.globals (suc k)) me marks
  global_laid me marks h = (let w = granules_within x fits in let n = next_begin 1 r.program.globals k x there in
      laid_to r (begin + granules_of x.bytes) (begin_of 1 r.program.globals (suc k)) me marks h (omega (arith, w, n))
      (λ b low lt. (let q : 8 * begin + (b - 8 * begin) ≡ b = omega (arith, low) in
      ap (initial_byte r.program.globals) (sym q) ∙ same (b - 8 * begin) (omega (arith, low, lt, n)) ∙ get_or_past x.bytes (b - 8 * begin) 0 (omega (arith, low)))))

  -- the same by where it begins, and by its bytes as they are passed
  module _ (bytes : List ℕ) (same_bytes : bytes ≡ x.bytes) where
    starts : x.start ≡ begin
    starts = begin_is 1 r.program.globals k x lie there

    pub laid_before : (me : Place) (marks : List ℕ) → IsLaidBelow r begin me marks → IsLaidBelow r x.start me marks
    laid_before me marks h = subst (λ (n : ℕ). IsLaidBelow r n me marks) (sym starts) h

    pub fits_inside : x.start + granules_for x.size ≤ GLOBALS_END → x.start + granules_of bytes ≤ GRANULE_COUNT
    fits_inside below_end = (let w = granules_within x fits in let e = ap granules_of same_bytes in omega (arith, w, e, below_end))

    pub start_begins : BeginsWith r x.start bytes
    start_begins = subst (λ (bs : List ℕ). BeginsWith r x.start bs) (sym same_bytes) (subst (λ (n : ℕ). BeginsWith r n x.bytes) (sym starts) global_begins)

    pub laid_behind : (me : Place) (marks : List ℕ) → IsLaidBelow r (x.start + granules_of bytes) me marks → IsLaidBelow r (begin_of 1 r.program.globals (k + 1)) me marks
    laid_behind me marks h =
        subst (λ (n : ℕ). IsLaidBelow r (begin_of 1 r.program.globals n) me marks) (sym (add-one k))
        (global_laid me marks (subst (λ (bs : List ℕ). IsLaidBelow r (begin + granules_of bs) me marks) same_bytes (subst (λ (n : ℕ). IsLaidBelow r (n + granules_of bytes) me marks) starts h)))

-- ---- all of them

-- none yet
pub none_laid : (r : Run) (me : Place) (marks : List ℕ) → IsLaidBelow r 1 me marks → IsLaidBelow r (begin_of 1 r.program.globals 0) me marks
none_laid r me marks h = subst (λ (n : ℕ). IsLaidBelow r n me marks) (sym (begins_at 1 r.program.globals)) h

pub all_laid : (r : Run) (me : Place) (marks : List ℕ) → LieFrom 1 r.program.globals → IsLaidBelow r (begin_of 1 r.program.globals (length r.program.globals)) me marks
    → IsLaidBelow r GRANULE_COUNT me marks
all_laid r me marks lie h = (let w = end_within 1 r.program.globals lie in
    laid_to r (begin_of 1 r.program.globals (length r.program.globals)) GRANULE_COUNT me marks h (omega (arith, w)) (λ b low lt. behind 1 r.program.globals b lie low))

module _ (r : Run) (me : Place) (marks : List ℕ) (h : IsLaidBelow r GRANULE_COUNT me marks) where
  pub may_open : MayOpen me.0
  may_open = subst MayOpen (sym (ap (λ (m : Place). m.0) h.view)) (λ b low lt. h.zeros b low (omega (arith, lt)))

  pub opened : (after : Place) → after ≡ (pooled me.0, me.1) → after ≡ (Pool r 0 0, [])
  opened after e = e ∙ ap (λ (m : Place). (pooled m.0, m.1)) h.view
