-- Lists that begin with others, and the tables that only grow.
use Rattle.std.proofs.Common.{◌≡◌, ℕ, ◌+◌, ◌<◌, ◌≤◌, List, [], ◌∷◌, ◌++◌, length, take, drop, Bool, true, false, zero, suc, arith, refl, sym, ap, ◌∙◌}
use Rattle.std.proofs.Common.{subst, inl, inr, ◌⊎◌, cond, map, length-append, get_or, replicate}
use Rattle.std.specs.Prelude.{slice_get, slice_set, Option, Some, None, take_while}
use Rattle.std.specs.List.{prefix_len}
use Rattle.std.proofs.lemmas.Option.{slice_get-get_or}
use Rattle.std.proofs.lemmas.Bool.{cases_lt}
use Rattle.std.proofs.lemmas.List.{length-drop, length-map, length-take}
use Rattle.std.proofs.lemmas.List.Sums.{take_while-cons}
use Rattle.pg_ir.specs.declared.value.Value.{Value}
use Rattle.pg_ir.specs.declared.edge.Case.{Case}
use Rattle.pg_ir.specs.declared.tables.BlockTable.{BlockTable}
use Rattle.pg_ir.specs.declared.tables.CaseRow.{CaseRow}
use Rattle.pg_ir.specs.declared.tables.Entered.{Entered}
use Rattle.pg_ir.specs.Program.{NumberedProgram}
use Rattle.pg_ir.specs.declared.instr.Instr.{Instr}
use Rattle.pg_ir.specs.Edges.{values_along, successors, incoming_from, incoming_of, phis_of, instrs_of, is_phi}
use Rattle.pg_ir.specs.Tables.{IsFront, HasRow, IsRow, HaveRows, AreEntered, HasCases, IsCaseTable, FitsTable, AreTables, IsPrepared, block_cases}

-- ---- fronts

pub front_refl : {A : Type 0} (xs : List A) → IsFront xs xs
front_refl [] = tt
front_refl (x ∷ xs) = (refl, front_refl xs)

pub front_trans : {A : Type 0} (xs ys zs : List A) → IsFront xs ys → IsFront ys zs → IsFront xs zs
front_trans [] ys zs h k = tt
front_trans (x ∷ xs) [] zs h k = absurd h
front_trans (x ∷ xs) (y ∷ ys) [] h k = absurd k
front_trans (x ∷ xs) (y ∷ ys) (z ∷ zs) h k = (h.0 ∙ k.0, front_trans xs ys zs h.1 k.1)

pub front_append : {A : Type 0} (xs ys : List A) → IsFront xs (xs ++ ys)
front_append [] ys = tt
front_append (x ∷ xs) ys = (refl, front_append xs ys)

front_nil : {A : Type 0} (n : ℕ) (ys : List A) → IsFront (drop n []) ys
front_nil zero ys = tt
front_nil (suc n) ys = tt

pub front_drop : {A : Type 0} (n : ℕ) (xs ys : List A) → IsFront xs ys → IsFront (drop n xs) (drop n ys)
front_drop zero xs ys h = h
front_drop (suc n) [] ys h = tt
front_drop (suc n) (x ∷ xs) [] h = absurd h
front_drop (suc n) (x ∷ xs) (y ∷ ys) h = front_drop n xs ys h.1

pub front_get : {A : Type 0} (xs ys : List A) (k : ℕ) (x : A) → IsFront xs ys → slice_get xs k ≡ Some x → slice_get ys k ≡ Some x
front_get [] ys k x h e = absurd cc
front_get (x ∷ xs) [] k z h e = absurd h
front_get (x ∷ xs) (y ∷ ys) zero z h e = ap Some (sym h.0) ∙ e
front_get (x ∷ xs) (y ∷ ys) (suc k) z h e = front_get xs ys k z h.1 e

pub front_length : {A : Type 0} (xs ys : List A) → IsFront xs ys → length xs ≤ length ys
front_length [] ys h = omega arith
front_length (x ∷ xs) [] h = absurd h
front_length (x ∷ xs) (y ∷ ys) h = let m = front_length xs ys h.1 in omega arith

pub front_take : {A : Type 0} (xs ys : List A) (n : ℕ) → IsFront xs ys → n ≤ length xs → take n ys ≡ take n xs
front_take xs ys zero h l = refl
front_take [] ys (suc n) h l = absurd (omega arith)
front_take (x ∷ xs) [] (suc n) h l = absurd h
front_take (x ∷ xs) (y ∷ ys) (suc n) h l = let more : take n ys ≡ take n xs = front_take xs ys n h.1 (omega arith) in let same : x ≡ y = h.0 in cc

take_whole : {A : Type 0} (xs : List A) → take (length xs) xs ≡ xs
take_whole [] = refl
take_whole {A = A} (x ∷ xs) = ap (λ (ys : List A). x ∷ ys) (take_whole xs)

-- a front, by its length
pub front_is : {A : Type 0} (xs ys : List A) (n : ℕ) → IsFront xs ys → n ≡ length xs → take n ys ≡ xs
front_is xs ys n h e = rw e (front_take xs ys (length xs) h (omega arith) ∙ take_whole xs)

pub front_range : {A : Type 0} (s n : ℕ) (xs ys : List A) → IsFront xs ys → s + n ≤ length xs → take n (drop s ys) ≡ take n (drop s xs)
front_range zero n xs ys h l = front_take xs ys n h (omega arith)
front_range (suc s) zero [] ys h l = absurd (omega arith)
front_range (suc s) (suc n) [] ys h l = absurd (omega arith)
front_range (suc s) n (x ∷ xs) [] h l = absurd h
front_range (suc s) n (x ∷ xs) (y ∷ ys) h l = front_range s n xs ys h.1 (omega arith)

-- what is appended stands at the end
pub front_end : {A : Type 0} (xs ys : List A) → IsFront ys (drop (length xs) (xs ++ ys))
front_end [] ys = front_refl ys
front_end (x ∷ xs) ys = front_end xs ys

pub got_end : {A : Type 0} (xs : List A) (x : A) → slice_get (xs ++ x ∷ []) (length xs) ≡ Some x
got_end [] x = refl
got_end (y ∷ ys) x = got_end ys x

-- what a list with one element more has
pub got_pushed : {A : Type 0} (xs : List A) (x y : A) (k : ℕ) → slice_get (xs ++ x ∷ []) k ≡ Some y → (slice_get xs k ≡ Some y) ⊎ ((k ≡ length xs) × (x ≡ y))
got_pushed [] x y zero e = inr (refl, cc)
got_pushed [] x y (suc k) e = absurd cc
got_pushed (z ∷ zs) x y zero e = inl e
got_pushed (z ∷ zs) x y (suc k) e = later (got_pushed zs x y k e)
  where
    later : (slice_get zs k ≡ Some y) ⊎ ((k ≡ length zs) × (x ≡ y)) → (slice_get (z ∷ zs) (suc k) ≡ Some y) ⊎ ((suc k ≡ length (z ∷ zs)) × (x ≡ y))
    later (inl h) = inl h
    later (inr h) = inr (omega (arith, h.0), h.1)

pub got_none : {A : Type 0} (xs : List A) (k : ℕ) → slice_get xs k ≡ None → k < length xs → ⊥
got_none [] k e l = omega arith
got_none (x ∷ xs) zero e l = cc
got_none (x ∷ xs) (suc k) e l = got_none xs k e (omega arith)

-- ---- the phis of a block

-- the elements that pass a test, from the front on, by their number
pub phis_front : {A : Type 0} (f : A → Bool) (xs : List A) (n : ℕ) → n ≡ length (take_while f xs) → take n xs ≡ take_while f xs
phis_front {A = A} f xs n e = rw e (front f xs)
  where
    front : {A : Type 0} (f : A → Bool) (xs : List A) → take (length (take_while f xs)) xs ≡ take_while f xs
    front f [] = refl
    front {A = A} f (x ∷ xs) = rw (take_while-cons f x xs) (go (f x) (front f xs))
      where
        go : (t : Bool) → take (length (take_while f xs)) xs ≡ take_while f xs → take (length (cond t (x ∷ take_while f xs) [])) (x ∷ xs) ≡ cond t (x ∷ take_while f xs) []
        go true e = ap (λ (ys : List A). x ∷ ys) e
        go false e = refl

pub phis_within : {A : Type 0} (f : A → Bool) (xs : List A) → length (take_while f xs) ≤ length xs
phis_within f xs = omega (arith, length-take (prefix_len f xs) xs)

-- ---- rows along edges

pub row_grows : (row xs ys : List (Option Value)) (r : ℕ) → HasRow row xs r → IsFront xs ys → HasRow row ys r
row_grows row xs ys r h k = let l : length xs ≤ length ys = front_length xs ys k in (omega (arith, h.0), front_trans row (drop r xs) (drop r ys) h.1 (front_drop r xs ys k))

pub entered_grows : (p : NumberedProgram) (xs ys : List (Option Value)) (entered : List (Option Entered)) → AreEntered p xs entered → IsFront xs ys → AreEntered p ys entered
unfolding AreEntered
entered_grows p xs ys entered h k = λ t e at. row_grows (values_along p e.from t) xs ys e.row (h t e at) k

is_row_grows : (p : NumberedProgram) (b t : ℕ) (xs ys : List (Option Value)) (o : Option ℕ) → IsRow p xs b t o → IsFront xs ys → IsRow p ys b t o
is_row_grows p b t xs ys None h k = absurd h
is_row_grows p b t xs ys (Some r) h k = row_grows (values_along p b t) xs ys r h k

is_row_kept : (p : NumberedProgram) (b t : ℕ) (values : List (Option Value)) (xs ys : List ℕ) (k : ℕ) (o : Option ℕ) → slice_get xs k ≡ o → IsRow p values b t o → IsFront xs ys
    → IsRow p values b t (slice_get ys k)
is_row_kept p b t values xs ys k None e h f = absurd h
is_row_kept p b t values xs ys k (Some r) e h f = subst (IsRow p values b t) (sym (front_get xs ys k r f e)) h

pub rows_grow : (p : NumberedProgram) (b start : ℕ) (ts : List ℕ) (values values_after : List (Option Value)) (rows rows_after : List ℕ) → HaveRows p values b rows start ts
    → IsFront values values_after → IsFront rows rows_after → HaveRows p values_after b rows_after start ts
rows_grow p b start ts values values_after rows rows_after h k l = λ j t at. is_row_grows p b t values values_after (slice_get rows_after (start + j))
    (is_row_kept p b t values rows rows_after (start + j) (slice_get rows (start + j)) refl (h j t at) l) k

pub cases_grow : (cases : List Case) (start : ℕ) (rows rows_after : List CaseRow) → HasCases cases rows start → IsFront rows rows_after → HasCases cases rows_after start
cases_grow cases start rows rows_after h k =
    record {
      within = let l : length rows ≤ length rows_after = front_length rows rows_after k in omega (arith, h.within);
      table = subst (IsCaseTable cases) (sym (front_range start (length cases) rows rows_after k h.within)) h.table;
    }

pub table_grows : (p : NumberedProgram) (b : ℕ) (x : BlockTable) (rows rows_after : List ℕ) (values values_after : List (Option Value)) (cases cases_after : List CaseRow)
    → FitsTable p rows values cases b x → IsFront rows rows_after → IsFront values values_after → IsFront cases cases_after → FitsTable p rows_after values_after cases_after b x
table_grows p b x rows rows_after values values_after cases cases_after h f g k = record {
  count = h.count;
  edges = rows_grow p b x.edges _ values values_after rows rows_after h.edges g f;
  switch = cases_grow _ x.cases cases cases_after h.switch k;
}

-- ---- what is appended

pub values_front : {A : Type 0} (xs ys zs : List A) → ys ≡ xs ++ zs → IsFront xs ys
values_front xs ys zs e = subst (IsFront xs) (sym e) (front_append xs zs)

pub values_end : (p : NumberedProgram) (from to : ℕ) (xs ys : List (Option Value)) (phis : List Instr) → phis ≡ phis_of p to
    → ys ≡ xs ++ map (λ (x : Instr). incoming_from (incoming_of x.op) from) phis → HasRow (values_along p from to) ys (length xs)
unfolding values_along
values_end p from to xs ys phis same e =
    let row = map (λ (x : Instr). incoming_from (incoming_of x.op) from) (phis_of p to) in
    let whole : ys ≡ xs ++ row = e ∙ ap (λ (zs : List Instr). xs ++ map (λ (x : Instr). incoming_from (incoming_of x.op) from) zs) same in
    subst (λ (zs : List (Option Value)). HasRow row zs (length xs)) (sym whole) (omega (arith, length-append xs row), front_end xs row)

set_got : {A : Type 0} (xs : List A) (i j : ℕ) (x y : A) → slice_get (slice_set xs i x) j ≡ Some y → ((i ≡ j) × (x ≡ y)) ⊎ (slice_get xs j ≡ Some y)
set_got [] i j x y e = absurd cc
set_got (z ∷ zs) zero zero x y e = inl (refl, cc)
set_got (z ∷ zs) zero (suc j) x y e = inr e
set_got (z ∷ zs) (suc i) zero x y e = inr e
set_got (z ∷ zs) (suc i) (suc j) x y e = later (set_got zs i j x y e)
  where
    later : ((i ≡ j) × (x ≡ y)) ⊎ (slice_get zs j ≡ Some y) → ((suc i ≡ suc j) × (x ≡ y)) ⊎ (slice_get zs j ≡ Some y)
    later (inl h) = inl (ap suc h.0, h.1)
    later (inr h) = inr h

pub entered_set : (p : NumberedProgram) (xs ys : List (Option Value)) (entered : List (Option Entered)) (to : ℕ) (last : Entered) → AreEntered p xs entered → IsFront xs ys
    → HasRow (values_along p last.from to) ys last.row → AreEntered p ys (slice_set entered to (Some last))
unfolding AreEntered
entered_set p xs ys entered to last h k here = λ t e at. settle t e (set_got entered to t (Some last) (Some e) at)
  where
    settle : (t : ℕ) (e : Entered) → ((to ≡ t) × (Some last ≡ Some e)) ⊎ (slice_get entered t ≡ Some (Some e)) → HasRow (values_along p e.from t) ys e.row
    settle t e (inl s) =
        let same : last ≡ e = cc in
        subst (λ (u : ℕ). HasRow (values_along p e.from u) ys e.row) s.0 (subst (λ (f : Entered). HasRow (values_along p f.from to) ys f.row) same here)
    settle t e (inr s) = row_grows (values_along p e.from t) xs ys e.row (h t e s) k

-- ---- edges

pub rows_pushed : (p : NumberedProgram) (b start k row : ℕ) (ts : List ℕ) (values values_after : List (Option Value)) (rows : List ℕ)
    → ((j t : ℕ) → j < k → slice_get ts j ≡ Some t → IsRow p values b t (slice_get rows (start + j))) → length rows ≡ start + k → IsFront values values_after → (to : ℕ)
    → slice_get ts k ≡ Some to → HasRow (values_along p b to) values_after row → (j t : ℕ) → j < k + 1 → slice_get ts j ≡ Some t
    → IsRow p values_after b t (slice_get (rows ++ row ∷ []) (start + j))
rows_pushed p b start k row ts values values_after rows h count f to at here j t l e = settle (cases_lt j k)
  where
    settle : (j < k) ⊎ (k ≤ j) → IsRow p values_after b t (slice_get (rows ++ row ∷ []) (start + j))
    settle (inl m) = is_row_kept p b t values_after rows (rows ++ row ∷ []) (start + j) (slice_get rows (start + j)) refl
        (is_row_grows p b t values values_after (slice_get rows (start + j)) (h j t m e) f) (front_append rows (row ∷ []))
    settle (inr m) =
        let same : j ≡ k = omega arith in
        let target : to ≡ t = cc in
        let place : start + j ≡ length rows = omega arith in
        subst (IsRow p values_after b t) (sym (ap (slice_get (rows ++ row ∷ [])) place ∙ got_end rows row)) (subst (λ (u : ℕ). HasRow (values_along p b u) values_after row) target here)

-- ---- tables

pub tables_pushed : (p : NumberedProgram) (rows rows_after : List ℕ) (values values_after : List (Option Value)) (cases cases_after : List CaseRow) (blocks : List BlockTable) (x : BlockTable)
    → AreTables p rows values cases blocks → IsFront rows rows_after → IsFront values values_after → IsFront cases cases_after
    → FitsTable p rows_after values_after cases_after (length blocks) x → AreTables p rows_after values_after cases_after (blocks ++ x ∷ [])
unfolding AreTables
tables_pushed p rows rows_after values values_after cases cases_after blocks x h f g k here = λ b y at. settle b y (got_pushed blocks x y b at)
  where
    settle : (b : ℕ) (y : BlockTable) → (slice_get blocks b ≡ Some y) ⊎ ((b ≡ length blocks) × (x ≡ y)) → FitsTable p rows_after values_after cases_after b y
    settle b y (inl e) = table_grows p b y rows rows_after values values_after cases cases_after (h b y e) f g k
    settle b y (inr e) = subst (λ (c : ℕ). FitsTable p rows_after values_after cases_after c y) (sym e.0) (subst (FitsTable p rows_after values_after cases_after (length blocks)) e.1 here)

pub cases_end : (cases : List Case) (sorted rows rows_after : List CaseRow) → IsCaseTable cases sorted → rows_after ≡ rows ++ sorted → HasCases cases rows_after (length rows)
cases_end cases sorted rows rows_after h e =
    let count : length rows_after ≡ length rows + length sorted = ap length e ∙ length-append rows sorted in
    let front : IsFront sorted (drop (length rows) rows_after) = subst (λ (zs : List CaseRow). IsFront sorted (drop (length rows) zs)) (sym e) (front_end rows sorted) in
    record {
      within = omega (arith, h.count);
      table = subst (IsCaseTable cases) (sym (front_is sorted (drop (length rows) rows_after) (length cases) front (sym h.count))) h;
    }

-- ---- what is read

-- a row's place and its values
pub record ReadsRow (row values : List (Option Value)) (o : Option ℕ) : Type 0 where
  pub place : ℕ
  pub is : o ≡ Some place
  pub within : place + length row ≤ length values
  pub read : take (length row) (drop place values) ≡ row

pub row_read : (p : NumberedProgram) (values : List (Option Value)) (b t : ℕ) (o : Option ℕ) → IsRow p values b t o → ReadsRow (values_along p b t) values o
row_read p values b t None h = absurd h
row_read p values b t (Some r) h =
    let row = values_along p b t in
    let l : length row ≤ length (drop r values) = front_length row (drop r values) h.1 in
    record {
      place = r;
      is = refl;
      within = omega (arith, length-drop r values, h.0);
      read = front_is row (drop r values) (length row) h.1 refl;
    }

pub values_count : (p : NumberedProgram) (b t : ℕ) → length (values_along p b t) ≡ length (phis_of p t)
unfolding values_along
values_count p b t = length-map (phis_of p t) (λ (x : Instr). incoming_from (incoming_of x.op) b)

-- nothing is kept at first
nothing : (n t : ℕ) (e : Entered) → slice_get (replicate n None) t ≡ Some (Some e) → ⊥
nothing zero t e h = cc
nothing (suc n) zero e h = cc
nothing (suc n) (suc t) e h = nothing n t e h

pub none_entered : (p : NumberedProgram) (values : List (Option Value)) (n : ℕ) → AreEntered p values (replicate n None)
unfolding AreEntered
none_entered p values n = λ t e h. absurd (nothing n t e h)

pub no_tables : (p : NumberedProgram) (rows : List ℕ) (values : List (Option Value)) (cases : List CaseRow) → AreTables p rows values cases []
unfolding AreTables
no_tables p rows values cases = λ b x h. absurd cc

-- q is the program as its fields have it
table_at : (p q : NumberedProgram) (rows : List ℕ) (values : List (Option Value)) (cases : List CaseRow) (blocks : List BlockTable) (b : ℕ) (x : BlockTable) → q ≡ p
    → IsPrepared q rows values cases blocks → b < length p.blocks → x ≡ get_or blocks b x → FitsTable p rows values cases b x
unfolding AreTables
table_at p q rows values cases blocks b x e h l at =
    let within : b < length blocks = omega (arith, h.count, ap (λ (r : NumberedProgram). length r.blocks) e) in
    let got : slice_get blocks b ≡ Some x = slice_get-get_or blocks b x within ∙ ap Some (sym at) in
    subst (λ (r : NumberedProgram). FitsTable r rows values cases b x) e (h.tables b x got)

pub edge_read : (p q : NumberedProgram) (rows : List ℕ) (values : List (Option Value)) (cases : List CaseRow) (blocks : List BlockTable) (b k t : ℕ) (x : BlockTable) → q ≡ p
    → IsPrepared q rows values cases blocks → b < length p.blocks → x ≡ get_or blocks b x → slice_get (successors p b) k ≡ Some t
    → ReadsRow (values_along p b t) values (slice_get rows (x.edges + k))
edge_read p q rows values cases blocks b k t x e h l at target = row_read p values b t (slice_get rows (x.edges + k)) ((table_at p q rows values cases blocks b x e h l at).edges k t target)

pub count_read : (p q : NumberedProgram) (rows : List ℕ) (values : List (Option Value)) (cases : List CaseRow) (blocks : List BlockTable) (b t : ℕ) (x : BlockTable) → q ≡ p
    → IsPrepared q rows values cases blocks → t < length p.blocks → x ≡ get_or blocks t x → x.phis ≡ length (values_along p b t)
count_read p q rows values cases blocks b t x e h l at = (table_at p q rows values cases blocks t x e h l at).count ∙ sym (values_count p b t)

pub phis_read : (p q : NumberedProgram) (rows : List ℕ) (values : List (Option Value)) (cases : List CaseRow) (blocks : List BlockTable) (b : ℕ) (x : BlockTable) → q ≡ p
    → IsPrepared q rows values cases blocks → b < length p.blocks → x ≡ get_or blocks b x → x.phis ≡ length (take_while (λ (y : Instr). is_phi y.op) (instrs_of p b))
unfolding phis_of
phis_read p q rows values cases blocks b x e h l at = (table_at p q rows values cases blocks b x e h l at).count

pub cases_read : (p q : NumberedProgram) (rows : List ℕ) (values : List (Option Value)) (cases : List CaseRow) (blocks : List BlockTable) (b : ℕ) (x : BlockTable) (cs : List Case) → q ≡ p
    → IsPrepared q rows values cases blocks → b < length p.blocks → x ≡ get_or blocks b x → cs ≡ block_cases p b → HasCases cs cases x.cases
cases_read p q rows values cases blocks b x cs e h l at same = subst (λ (ds : List Case). HasCases ds cases x.cases) (sym same) (table_at p q rows values cases blocks b x e h l at).switch
