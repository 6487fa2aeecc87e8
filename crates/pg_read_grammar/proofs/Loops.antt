-- A loop over a list, against the reading that repeats.
use Rattle.std.proofs.Common.{◌≡◌, ℕ, zero, suc, ◌+◌, ◌<◌, ◌≤◌, List, [], ◌∷◌, ◌++◌, length, drop, map, length-drop, Bool, true, false, refl, sym, ap, subst}
use Rattle.std.proofs.Common.{◌∙◌, arith, append_assoc, append-nil, if◌then◌else◌, Option, Result, Ok, Err}
use Rattle.pg_read_grammar.specs.declared.token.Token.{Token}
use Rattle.pg_read_grammar.specs.declared.class.Class.{Class}
use Rattle.pg_read_grammar.specs.declared.token.Fault.{Fault}
use Rattle.pg_read_grammar.specs.declared.token.ReadRefusal.{ReadRefusal}
use Rattle.pg_read_grammar.specs.declared.token.ReadError.{ReadError}
use Rattle.pg_read_grammar.specs.declared.token.ReadError.TheVariants.{Memory, Refused}
use Rattle.pg_read_grammar.specs.Reading.{Read, Good, Bad, ◌>>=◌, repeat, run, onto, comes, take_one}
use Rattle.pg_read_grammar.specs.Views.{Fails, Refuses, Reads}

-- with front read, the rest of the list is whole
abbrev pub Left : {A : Type 0} → (Class → Bool) → (List Token → Read A) → List A → List Token → Read (List A) → Type 0
Left test r front ts whole = (n : ℕ) × (length ts ≤ n) × (onto front (repeat test r n ts) ≡ whole)

abbrev pushed : {A : Type 0} → (Class → Bool) → (List Token → Read A) → ℕ → Read A → Read (List A)
pushed test r n x = x >>= λ a rest. repeat test r n rest >>= λ more after. Good (a ∷ more) after

repeat_more : {A : Type 0} (test : Class → Bool) (r : List Token → Read A) (n : ℕ) (ts : List Token) (x : Read A) → comes test ts ≡ true → r ts ≡ x
    → repeat test r (suc n) ts ≡ pushed test r n x
unfolding repeat
repeat_more test r n ts x h e = rw h (ap (λ y. pushed test r n y) e)

repeat_stop : {A : Type 0} (test : Class → Bool) (r : List Token → Read A) (n : ℕ) (ts : List Token) → comes test ts ≡ false → repeat test r n ts ≡ Good [] ts
unfolding repeat
repeat_stop test r zero ts h = refl
repeat_stop test r (suc n) ts h = rw h refl

onto_pushed : {A : Type 0} (front : List A) (a : A) (x : Read (List A)) → onto front (x >>= λ more after. Good (a ∷ more) after) ≡ onto (front ++ a ∷ []) x
onto_pushed front a (Good more rest) = ap (λ xs. Good xs rest) (sym (append_assoc front (a ∷ []) more))
onto_pushed front a (Bad fault rest) = refl

some_left : (test : Class → Bool) (ts : List Token) → comes test ts ≡ true → 0 < length ts
some_left test [] h = absurd cc
some_left test (t ∷ ts) h = omega arith

pub left_more : {A : Type 0} (test : Class → Bool) (r : List Token → Read A) (front : List A) (ts rest : List Token) (a : A) (whole : Read (List A))
    → Left test r front ts whole → comes test ts ≡ true → r ts ≡ Good a rest → length rest < length ts → Left test r (front ++ a ∷ []) rest whole
left_more test r front ts rest a whole (zero, l, e) h g s = absurd (omega (arith, l, s))
left_more test r front ts rest a whole (suc n, l, e) h g s =
    (n, omega (arith, l, s), sym (onto_pushed front a (repeat test r n rest)) ∙ sym (ap (λ x. onto front x) (repeat_more test r n ts (Good a rest) h g)) ∙ e)

pub left_stop : {A : Type 0} (test : Class → Bool) (r : List Token → Read A) (front : List A) (ts : List Token) (whole : Read (List A))
    → Left test r front ts whole → comes test ts ≡ false → whole ≡ Good front ts
left_stop test r front ts whole (n, l, e) h = sym e ∙ ap (λ x. onto front x) (repeat_stop test r n ts h) ∙ ap (λ xs. Good xs ts) (append-nil front)

left_bad : {A : Type 0} (test : Class → Bool) (r : List Token → Read A) (front : List A) (ts rest : List Token) (fault : Option Fault) (whole : Read (List A))
    → Left test r front ts whole → comes test ts ≡ true → r ts ≡ Bad fault rest → whole ≡ Bad fault rest
left_bad test r front ts rest fault whole (zero, l, e) h g = absurd (omega (arith, l, some_left test ts h))
left_bad test r front ts rest fault whole (suc n, l, e) h g = sym e ∙ ap (λ x. onto front x) (repeat_more test r n ts (Bad fault rest) h g)

pub left_fails : {A : Type 0} (test : Class → Bool) (r : List Token → Read A) (front : List A) (ts : List Token) (at place : ℕ) (whole : Read (List A)) (e : ReadError)
    → Left test r front (drop place ts) whole → comes test (drop place ts) ≡ true → at ≤ place → Fails ts place e (r (drop place ts)) → Fails ts at e whole
left_fails test r front ts at place whole Memory l h s g = tt
left_fails test r front ts at place whole (Refused f) l h s g = (left_bad test r front (drop place ts) (drop f.at ts) f.fault whole l h g.0, omega (arith, s, g.1), g.2)

pub map_push : {X A : Type 0} (v : X → A) (xs : List X) (x : X) → map v (xs ++ x ∷ []) ≡ map v xs ++ v x ∷ []
map_push v [] x = refl
map_push v (y ∷ xs) x = ap (λ ys. v y ∷ ys) (map_push v xs x)

pub chosen : {A : Type 0} (b : Bool) (xs ys zs : A) → zs ≡ (if b then xs else ys) → b ≡ true → zs ≡ xs
chosen true xs ys zs e h = e
chosen false xs ys zs e h = absurd cc

onto_nothing : {A : Type 0} (x : Read (List A)) → onto [] x ≡ x
onto_nothing (Good more rest) = refl
onto_nothing (Bad fault rest) = refl

-- at first nothing is read
pub left_start : {A : Type 0} (test : Class → Bool) (r : List Token → Read A) (ts : List Token) → Left test r [] ts (repeat test r (length ts) ts)
left_start test r ts = (length ts, omega arith, onto_nothing (repeat test r (length ts) ts))

-- one more was read and kept
pub left_kept : {X A : Type 0} (test : Class → Bool) (r : List Token → Read A) (v : X → A) (xs zs : List X) (x : X) (ts : List Token) (place to : ℕ) (whole : Read (List A))
    → zs ≡ xs ++ x ∷ [] → Left test r (map v xs) (drop place ts) whole → comes test (drop place ts) ≡ true → r (drop place ts) ≡ Good (v x) (drop to ts) → place < to
    → to ≤ length ts → Left test r (map v zs) (drop to ts) whole
left_kept test r v xs zs x ts place to whole z l k g s w =
    subst (λ bs. Left test r bs (drop to ts) whole) (sym (map_push v xs x) ∙ sym (ap (map v) z))
    (left_more test r (map v xs) (drop place ts) (drop to ts) (v x) whole l k g (omega (arith, s, w, length-drop place ts, length-drop to ts)))

-- the same where no value is kept
abbrev pub bare : {A : Type 0} → Read A → Read (Unit {0})
bare x = x >>= λ _. Good tt

abbrev pub Rests : {A : Type 0} → (Class → Bool) → (List Token → Read A) → List Token → Read (Unit {0}) → Type 0
Rests test r ts whole = (n : ℕ) × (length ts ≤ n) × (bare (repeat test r n ts) ≡ whole)

bare_pushed : {A : Type 0} (a : A) (x : Read (List A)) → bare (x >>= λ more after. Good (a ∷ more) after) ≡ bare x
bare_pushed a (Good more rest) = refl
bare_pushed a (Bad fault rest) = refl

pub rests_more : {A : Type 0} (test : Class → Bool) (r : List Token → Read A) (ts rest : List Token) (a : A) (whole : Read (Unit {0}))
    → Rests test r ts whole → comes test ts ≡ true → r ts ≡ Good a rest → length rest < length ts → Rests test r rest whole
rests_more test r ts rest a whole (zero, l, e) h g s = absurd (omega (arith, l, s))
rests_more test r ts rest a whole (suc n, l, e) h g s = (
  n,
  omega (arith, l, s),
  sym (bare_pushed a (repeat test r n rest)) ∙ sym (ap (λ x. bare x) (repeat_more test r n ts (Good a rest) h g))
      ∙ e,
)

pub rests_stop : {A : Type 0} (test : Class → Bool) (r : List Token → Read A) (ts : List Token) (whole : Read (Unit {0}))
    → Rests test r ts whole → comes test ts ≡ false → whole ≡ Good tt ts
rests_stop test r ts whole (n, l, e) h = sym e ∙ ap (λ x. bare x) (repeat_stop test r n ts h)

-- one token is read where it comes
pub token_comes : (test : Class → Bool) (ts : List Token) (place : ℕ) → comes test (drop place ts) ≡ true
    → (t : Token) × (take_one test (drop place ts) ≡ Good t (drop (place + 1) ts)) × (place < length ts)
token_comes test [] zero h = absurd cc
token_comes test [] (suc n) h = absurd cc
token_comes test (t ∷ ts) zero h = (t, rw h refl, omega arith)
token_comes test (t ∷ ts) (suc n) h = let q = token_comes test ts n h in let e : suc n + 1 ≡ suc (n + 1) = omega arith in (q.0, rw e q.1, omega (arith, q.2))

-- one token more, kept nowhere
pub rests_token : (test : Class → Bool) (ts : List Token) (place : ℕ) (whole : Read (Unit {0})) → Rests test (take_one test) (drop place ts) whole → comes test (drop place ts) ≡ true
    → Rests test (take_one test) (drop (place + 1) ts) whole
rests_token test ts place whole l h = let q = token_comes test ts place h in
    rests_more test (take_one test) (drop place ts) (drop (place + 1) ts) q.0 whole l h q.1 (omega (arith, q.2, length-drop place ts, length-drop (place + 1) ts))

rests_bad : {A : Type 0} (test : Class → Bool) (r : List Token → Read A) (ts rest : List Token) (fault : Option Fault) (whole : Read (Unit {0}))
    → Rests test r ts whole → comes test ts ≡ true → r ts ≡ Bad fault rest → whole ≡ Bad fault rest
rests_bad test r ts rest fault whole (zero, l, e) h g = absurd (omega (arith, l, some_left test ts h))
rests_bad test r ts rest fault whole (suc n, l, e) h g = sym e ∙ ap (λ x. bare x) (repeat_more test r n ts (Bad fault rest) h g)

pub rests_refuses : {A : Type 0} (test : Class → Bool) (r : List Token → Read A) (ts : List Token) (at place : ℕ) (whole : Read (Unit {0})) (f : ReadRefusal)
    → Rests test r (drop place ts) whole → comes test (drop place ts) ≡ true → at ≤ place → Refuses ts place f (r (drop place ts)) → Refuses ts at f whole
rests_refuses test r ts at place whole f l h s g = (rests_bad test r (drop place ts) (drop f.at ts) f.fault whole l h g.0, omega (arith, s, g.1), g.2)

pub rests_next : {A : Type 0} (test : Class → Bool) (r : List Token → Read A) (ts : List Token) (place to : ℕ) (a : A) (whole : Read (Unit {0}))
    → Rests test r (drop place ts) whole → comes test (drop place ts) ≡ true → r (drop place ts) ≡ Good a (drop to ts) → place < to → to ≤ length ts → Rests test r (drop to ts) whole
rests_next test r ts place to a whole l h g s w = rests_more test r (drop place ts) (drop to ts) a whole l h g (omega (arith, s, w, length-drop place ts, length-drop to ts))

-- ---- a loop with states

-- in this state, the rest of the list is whole; the fuel is hidden
abbrev pub Runs : {S B : Type 0} → (S → Class → Bool) → (S → List Token → Read S) → (S → List Token → Read B) → S → List Token → Read B → Type 0
Runs test r tail s ts whole = (n : ℕ) × (length ts ≤ n) × (run test r tail n s ts ≡ whole)

abbrev pub ran : {S B : Type 0} → (S → Class → Bool) → (S → List Token → Read S) → (S → List Token → Read B) → ℕ → Read S → Read B
ran test r tail n x = x >>= λ next rest. run test r tail n next rest

pub run_more : {S B : Type 0} (test : S → Class → Bool) (r : S → List Token → Read S) (tail : S → List Token → Read B) (n : ℕ) (s : S) (ts : List Token) (x : Read S)
    → comes (test s) ts ≡ true → r s ts ≡ x → run test r tail (suc n) s ts ≡ ran test r tail n x
unfolding run
run_more test r tail n s ts x h e = rw h (ap (λ y. ran test r tail n y) e)

pub run_stop : {S B : Type 0} (test : S → Class → Bool) (r : S → List Token → Read S) (tail : S → List Token → Read B) (n : ℕ) (s : S) (ts : List Token)
    → comes (test s) ts ≡ false → run test r tail n s ts ≡ tail s ts
unfolding run
run_stop test r tail zero s ts h = refl
run_stop test r tail (suc n) s ts h = rw h refl

pub runs_next : {S B : Type 0} (test : S → Class → Bool) (r : S → List Token → Read S) (tail : S → List Token → Read B) (s next : S) (ts : List Token) (place to : ℕ) (whole : Read B)
    → Runs test r tail s (drop place ts) whole → comes (test s) (drop place ts) ≡ true → r s (drop place ts) ≡ Good next (drop to ts) → place < to → to ≤ length ts
    → Runs test r tail next (drop to ts) whole
runs_next test r tail s next ts place to whole (zero, l, e) h g k w = absurd (omega (arith, l, k, w, length-drop place ts))
runs_next test r tail s next ts place to whole (suc n, l, e) h g k w =
    (n, omega (arith, l, k, w, length-drop place ts, length-drop to ts), sym (run_more test r tail n s (drop place ts) (Good next (drop to ts)) h g) ∙ e)

pub runs_stop : {S B : Type 0} (test : S → Class → Bool) (r : S → List Token → Read S) (tail : S → List Token → Read B) (s : S) (ts : List Token) (whole : Read B)
    → Runs test r tail s ts whole → comes (test s) ts ≡ false → tail s ts ≡ whole
runs_stop test r tail s ts whole (n, l, e) h = sym (run_stop test r tail n s ts h) ∙ e

runs_bad : {S B : Type 0} (test : S → Class → Bool) (r : S → List Token → Read S) (tail : S → List Token → Read B) (s : S) (ts rest : List Token) (fault : Option Fault) (whole : Read B)
    → Runs test r tail s ts whole → comes (test s) ts ≡ true → r s ts ≡ Bad fault rest → whole ≡ Bad fault rest
runs_bad test r tail s ts rest fault whole (zero, l, e) h g = absurd (omega (arith, l, some_left (test s) ts h))
runs_bad test r tail s ts rest fault whole (suc n, l, e) h g = sym e ∙ run_more test r tail n s ts (Bad fault rest) h g

pub runs_fails : {S B : Type 0} (test : S → Class → Bool) (r : S → List Token → Read S) (tail : S → List Token → Read B) (s : S) (ts : List Token) (at place : ℕ) (whole : Read B)
    (e : ReadError)
    → Runs test r tail s (drop place ts) whole → comes (test s) (drop place ts) ≡ true → at ≤ place → Fails ts place e (r s (drop place ts)) → Fails ts at e whole
runs_fails test r tail s ts at place whole Memory l h k g = tt
runs_fails test r tail s ts at place whole (Refused f) l h k g = (runs_bad test r tail s (drop place ts) (drop f.at ts) f.fault whole l h g.0, omega (arith, k, g.1), g.2)

-- a piece that begins later, and its reading under another name
pub reads_on : {X Y : Type 0} (r : Result X ReadError) (v : X → Y) (to : X → ℕ) (ts : List Token) (at place : ℕ) (x y : Read Y) → Reads ts place v to r x → x ≡ y → at ≤ place
    → Reads ts at v to r y
reads_on (Ok a) v to ts at place x y h e l = (sym e ∙ h.0, omega (arith, l, h.1), h.2)
reads_on (Err Memory) v to ts at place x y h e l = tt
reads_on (Err (Refused f)) v to ts at place x y h e l = (sym e ∙ h.0, omega (arith, l, h.1), h.2)
