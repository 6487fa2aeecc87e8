-- The text of the turns, one after another, with the numbers of each thread that are left.
use Rattle.std.proofs.Common.{◌≡◌, ◌≢◌, ℕ, zero, suc, ◌+◌, ◌<◌, ◌≤◌, List, [], ◌∷◌, ◌++◌, length, Bool, true, false, Some, None, refl, sym, ◌∙◌, ap, subst, arith}
use Rattle.std.specs.Prelude.{◌==◌, drop, replicate, slice_get, slice_index, slice_index_or, if◌then◌else◌}
use Rattle.std.proofs.lemmas.Bool.{eqb-true, eq-eqb}
use Rattle.pg_room.specs.pg_ir.Program.{NumberedProgram}
use Rattle.pg_room.specs.pg_run_trace.declared.turn.Turn.{Turn}
use Rattle.pg_room.specs.pg_law_course.Prints.{is_print, output_along, text_of, without_first}
use Rattle.pg_room.specs.pg_worker.declared.worker.Worker.{Worker}
use Rattle.pg_rounds.specs.Prints.{added, left_behind, numbers_left, numbers_of}
use Rattle.pg_rounds.proofs.PrintOrder.{same_output}

-- ---- lists

joined : (xs ys zs : List ℕ) → (xs ++ ys) ++ zs ≡ xs ++ (ys ++ zs)
joined [] ys zs = refl
joined (x ∷ xs) ys zs = ap (λ (l : List ℕ). x ∷ l) (joined xs ys zs)

with_nothing : (xs : List ℕ) → xs ++ [] ≡ xs
with_nothing [] = refl
with_nothing (x ∷ xs) = ap (λ (l : List ℕ). x ∷ l) (with_nothing xs)

drop_some : {A : Type 0} (xs : List A) (n : ℕ) (m : A) → slice_get xs n ≡ Some m → drop n xs ≡ m ∷ drop (suc n) xs
drop_some [] n m e = absurd cc
drop_some (x ∷ xs) zero m e = let k : x ≡ m = cc in ap (λ y. y ∷ xs) k
drop_some (x ∷ xs) (suc n) m e = drop_some xs n m e

drop_none : {A : Type 0} (xs : List A) (n : ℕ) → slice_get xs n ≡ None → drop n xs ≡ []
drop_none [] zero e = refl
drop_none [] (suc n) e = refl
drop_none (x ∷ xs) zero e = absurd cc
drop_none (x ∷ xs) (suc n) e = drop_none xs n e

drop_past : {A : Type 0} (xs : List A) (n : ℕ) → length xs ≤ n → drop n xs ≡ []
drop_past [] zero l = refl
drop_past [] (suc n) l = refl
drop_past (x ∷ xs) zero l = absurd (omega (arith, l))
drop_past (x ∷ xs) (suc n) l = drop_past xs n (omega (arith, l))

drop_one : {A : Type 0} (xs : List A) (n : ℕ) → drop (suc n) xs ≡ drop 1 (drop n xs)
drop_one [] zero = refl
drop_one [] (suc n) = refl
drop_one (x ∷ xs) zero = refl
drop_one (x ∷ xs) (suc n) = drop_one xs n

-- ---- the next number of a thread

pub numbers_there : (ws : List Worker) (t : ℕ) (d : Worker) → t < length ws → numbers_of ws t ≡ (slice_index_or ws t d).prints.items
numbers_there [] t d lt = absurd (omega (arith, lt))
numbers_there (w ∷ ws) zero d lt = refl
numbers_there (w ∷ ws) (suc t) d lt = numbers_there ws t d (omega (arith, lt))

pub numbers_past : (ws : List Worker) (t : ℕ) → length ws ≤ t → numbers_of ws t ≡ []
numbers_past [] t l = refl
numbers_past (w ∷ ws) zero l = absurd (omega (arith, l))
numbers_past (w ∷ ws) (suc t) l = numbers_past ws t (omega (arith, l))

module _ (ws : List Worker) (read : List ℕ) (t : ℕ) where
  pub number_some : (m : ℕ) → slice_get (numbers_of ws t) (slice_index read t) ≡ Some m → slice_index (numbers_left ws read t) 0 ≡ m
  number_some m e = ap (λ (xs : List ℕ). slice_index xs 0) (drop_some (numbers_of ws t) (slice_index read t) m e)

  pub number_none : slice_get (numbers_of ws t) (slice_index read t) ≡ None → slice_index (numbers_left ws read t) 0 ≡ 0
  number_none e = ap (λ (xs : List ℕ). slice_index xs 0) (drop_none (numbers_of ws t) (slice_index read t) e)

  pub rest_none : slice_get (numbers_of ws t) (slice_index read t) ≡ None → (u : ℕ) → numbers_left ws read u ≡ without_first t (numbers_left ws read) u
  rest_none e u = go (u == t) refl
    where
      go : (b : Bool) → (u == t) ≡ b → numbers_left ws read u ≡ (if u == t then drop 1 (numbers_left ws read u) else numbers_left ws read u)
      go true q =
          let none : numbers_left ws read u ≡ [] = ap (numbers_left ws read) (eqb-true u t q) ∙ drop_none (numbers_of ws t) (slice_index read t) e in
          rw q (none ∙ ap (drop 1) (sym none))
      go false q = rw q refl

  pub rest_some : (more : List ℕ) → slice_index more t ≡ suc (slice_index read t) → ((u : ℕ) → u ≢ t → slice_index more u ≡ slice_index read u)
      → (u : ℕ) → numbers_left ws more u ≡ without_first t (numbers_left ws read) u
  rest_some more own other u = go (u == t) refl
    where
      go : (b : Bool) → (u == t) ≡ b → numbers_left ws more u ≡ (if u == t then drop 1 (numbers_left ws read u) else numbers_left ws read u)
      go true q =
          let same = eqb-true u t q in
          let next : slice_index more u ≡ suc (slice_index read u) = ap (slice_index more) same ∙ own ∙ ap (λ (n : ℕ). suc (slice_index read n)) (sym same) in
          rw q (ap (λ (n : ℕ). drop n (numbers_of ws u)) next ∙ drop_one (numbers_of ws u) (slice_index read u))
      go false q = rw q (ap (λ (n : ℕ). drop n (numbers_of ws u)) (other u (λ e. (let k : true ≡ false = sym (eq-eqb u t e) ∙ q in absurd cc))))

pub rest_add : (ws : List Worker) (read : List ℕ) (t : ℕ) (more : List ℕ) → slice_index more t ≡ slice_index read t + 1 → ((u : ℕ) → u ≢ t → slice_index more u ≡ slice_index read u)
    → (u : ℕ) → numbers_left ws more u ≡ without_first t (numbers_left ws read) u
rest_add ws read t more own other = rest_some ws read t more (let q : slice_index read t + 1 ≡ suc (slice_index read t) = omega arith in own ∙ q) other

-- ---- the turns, one after another

-- behind i of the turns this text is out, and these numbers are left
abbrev pub IsMerged : NumberedProgram → List Turn → (ℕ → List ℕ) → ℕ → List ℕ → (ℕ → List ℕ) → Type 0
IsMerged p turns numbers i out left = out ++ output_along p (drop i turns) left ≡ output_along p turns numbers

module _ (p : NumberedProgram) (turns : List Turn) (numbers : ℕ → List ℕ) where
  pub merged_first : (left : ℕ → List ℕ) → ((t : ℕ) → left t ≡ numbers t) → IsMerged p turns numbers 0 [] left
  merged_first left e = same_output p turns left numbers (λ g t q. e t)

  pub merged_start : (out : List ℕ) → out ≡ [] → (left : ℕ → List ℕ) → ((t : ℕ) → left t ≡ numbers t) → IsMerged p turns numbers 0 out left
  merged_start out none left e = ap (λ (xs : List ℕ). xs ++ output_along p (drop 0 turns) left) none ∙ merged_first left e

  pub merged_last : (i : ℕ) (out : List ℕ) (left : ℕ → List ℕ) → length turns ≤ i → IsMerged p turns numbers i out left → out ≡ output_along p turns numbers
  merged_last i out left l h = sym (with_nothing out) ∙ ap (λ (us : List Turn). out ++ output_along p us left) (sym (drop_past turns i l)) ∙ h

  module _ (i : ℕ) (u : Turn) (at : slice_get turns i ≡ Some u) (out : List ℕ) (left : ℕ → List ℕ) (h : IsMerged p turns numbers i out left) where
    abbrev rest : List Turn
    rest = drop (suc i) turns

    here : out ++ output_along p (u ∷ rest) left ≡ output_along p turns numbers
    here = ap (λ (us : List Turn). out ++ output_along p us left) (sym (drop_some turns i u at)) ∙ h

    pub merged_silent : is_print u.kind ≡ false → IsMerged p turns numbers (suc i) out left
    merged_silent q =
        ap (λ (b : Bool). out ++ (if b then text_of (slice_get p.instrs u.instr.0) u.kind (slice_index (left u.thread.0) 0) ++ output_along p rest (without_first u.thread.0 left)
        else output_along p rest left)) (sym q) ∙ here

    pub merged_print : is_print u.kind ≡ true → (number : ℕ) → number ≡ slice_index (left u.thread.0) 0 → (more : List ℕ) → more ≡ out ++ text_of (slice_get p.instrs u.instr.0) u.kind number
        → (after : ℕ → List ℕ) → ((t : ℕ) → after t ≡ without_first u.thread.0 left t) → IsMerged p turns numbers (suc i) more after
    merged_print q number n more text after e =
        ap (λ (xs : List ℕ). xs ++ output_along p rest after) text
        ∙ joined out (text_of (slice_get p.instrs u.instr.0) u.kind number) (output_along p rest after)
        ∙ ap (λ (m : ℕ). out ++ (text_of (slice_get p.instrs u.instr.0) u.kind m ++ output_along p rest after)) n
        ∙ ap (λ (xs : List ℕ). out ++ (text_of (slice_get p.instrs u.instr.0) u.kind (slice_index (left u.thread.0) 0) ++ xs)) (same_output p rest after (without_first u.thread.0 left) (λ g t k. e t))
        ∙ ap (λ (b : Bool). out ++ (if b then text_of (slice_get p.instrs u.instr.0) u.kind (slice_index (left u.thread.0) 0) ++ output_along p rest (without_first u.thread.0 left)
        else output_along p rest left)) (sym q)
        ∙ here

    pub merged_step : (more : List ℕ) → more ≡ out ++ added p u left → (after : ℕ → List ℕ) → ((t : ℕ) → after t ≡ left_behind u left t) → IsMerged p turns numbers (i + 1) more after
    merged_step more text after e = subst (λ (n : ℕ). IsMerged p turns numbers n more after) (let q : suc i ≡ i + 1 = omega arith in q) (go (is_print u.kind) refl)
      where
        go : (b : Bool) → is_print u.kind ≡ b → IsMerged p turns numbers (suc i) more after
        go true q = merged_print q (slice_index (left u.thread.0) 0) refl more
            (text ∙ ap (λ (b : Bool). out ++ (if b then text_of (slice_get p.instrs u.instr.0) u.kind (slice_index (left u.thread.0) 0) else [])) q) after
            (λ t. e t ∙ ap (λ (b : Bool). if b then without_first u.thread.0 left t else left t) q)
        go false q =
            let none : more ≡ out = text ∙ ap (λ (b : Bool). out ++ (if b then text_of (slice_get p.instrs u.instr.0) u.kind (slice_index (left u.thread.0) 0) else [])) q ∙ with_nothing out in
            let same : output_along p rest after ≡ output_along p rest left =
            same_output p rest after left (λ g t k. e t ∙ ap (λ (b : Bool). if b then without_first u.thread.0 left t else left t) q) in
            ap (λ (xs : List ℕ). xs ++ output_along p rest after) none ∙ ap (λ (xs : List ℕ). out ++ xs) same ∙ merged_silent q

-- at first no number was read
zero_read : (n t : ℕ) → slice_index (replicate n 0) t ≡ 0
zero_read zero t = refl
zero_read (suc n) zero = refl
zero_read (suc n) (suc t) = zero_read n t

pub none_read : (ws : List Worker) (n t : ℕ) → numbers_left ws (replicate n 0) t ≡ numbers_of ws t
none_read ws n t = ap (λ (k : ℕ). drop k (numbers_of ws t)) (zero_read n t) ∙ drop_zero (numbers_of ws t)
  where
    drop_zero : (xs : List ℕ) → drop 0 xs ≡ xs
    drop_zero [] = refl
    drop_zero (x ∷ xs) = refl
