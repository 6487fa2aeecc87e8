-- Marks joined one by one.
use Rattle.std.proofs.Common.{◌≡◌, ℕ, ◌+◌, ◌<◌, ◌≤◌, zero, suc, Bool, true, false, List, [], ◌∷◌, ◌++◌, length, map, take, drop, replicate, Some, refl, sym}
use Rattle.std.proofs.Common.{ap, ◌∙◌, arith, append_assoc, append-nil}
use Rattle.std.specs.Prelude.{◌&&◌, ◌||◌, slice_get, slice_set, slice_index_or}
use Rattle.std.specs.List.{list_any}
use Rattle.std.proofs.lemmas.List.{drop_more, drop_all, map_push, take_more_set, take_all}
use Rattle.std.proofs.lemmas.Bool.{or_parts}
use Rattle.pg_slice_conflicts.specs.Joined.{or_each}
use Rattle.pg_slice_conflicts.specs.declared.places.Placed.{Placed}
use Rattle.pg_slice_conflicts.specs.declared.pass.Touch.{Touch}
use Rattle.pg_slice_conflicts.specs.Ranks.{gives}
use Rattle.pg_slice_conflicts.specs.Passes.{answers, share, answers_along, answers_in, before_by, pass_of}
use Rattle.pg_slice_conflicts.proofs.ListTests.{any_none, any_or}
use Rattle.pg_law_threads.proofs.ListPlaces.{drop_get, take_get}

drop_set : (xs : List Bool) (i : ℕ) (b : Bool) → drop (i + 1) (slice_set xs i b) ≡ drop (i + 1) xs
drop_set [] i b = refl
drop_set (x ∷ xs) zero b = refl
drop_set (x ∷ xs) (suc i) b = let e : suc i + 1 ≡ suc (i + 1) = omega arith in rw e (drop_set xs i b)

pub join_more : (old marks others : List Bool) (i : ℕ) (b : Bool) → i < length marks → i < length others → b ≡ (slice_index_or marks i false || slice_index_or others i false) →
    take i marks ++ or_each (drop i marks) (drop i others) ≡ or_each old others →
    take (i + 1) (slice_set marks i b) ++ or_each (drop (i + 1) (slice_set marks i b)) (drop (i + 1) others) ≡ or_each old others
join_more old marks others i b lm lo e inv =
    ap (λ l. take (i + 1) (slice_set marks i b) ++ or_each l (drop (i + 1) others)) (drop_set marks i b)
    ∙ ap (λ l. l ++ or_each (drop (i + 1) marks) (drop (i + 1) others)) (take_more_set marks i b lm)
    ∙ append_assoc (take i marks) (b ∷ []) (or_each (drop (i + 1) marks) (drop (i + 1) others))
    ∙ ap (λ c. take i marks ++ c ∷ or_each (drop (i + 1) marks) (drop (i + 1) others)) e
    ∙ sym (ap (λ l. take i marks ++ or_each l (drop i others)) (drop_more marks i false lm)
    ∙ ap (λ l. take i marks ++ or_each (slice_index_or marks i false ∷ drop (i + 1) marks) l) (drop_more others i false lo))
    ∙ inv

-- ---- answers one by one

module _ {A : Type 0} (f : A → A → Bool) where
  pub answer_more : (ts : List A) (answered whole : List Bool) (i : ℕ) (y : A) (b : Bool) → i < length answered → slice_get ts i ≡ Some y → b ≡ list_any (λ x. f x y) (take i ts) →
      take i answered ++ before_by f (take i ts) (drop i ts) ≡ whole → take (i + 1) (slice_set answered i b) ++ before_by f (take (i + 1) ts) (drop (i + 1) ts) ≡ whole
  answer_more ts answered whole i y b lt h e inv =
      ap (λ l. l ++ before_by f (take (i + 1) ts) (drop (i + 1) ts)) (take_more_set answered i b lt)
      ∙ append_assoc (take i answered) (b ∷ []) (before_by f (take (i + 1) ts) (drop (i + 1) ts))
      ∙ ap (λ c. take i answered ++ c ∷ before_by f (take (i + 1) ts) (drop (i + 1) ts)) e
      ∙ ap (λ l. take i answered ++ list_any (λ x. f x y) (take i ts) ∷ before_by f l (drop (i + 1) ts)) (take_get ts i y h)
      ∙ sym (ap (λ l. take i answered ++ before_by f (take i ts) l) (drop_get ts i y h)) ∙ inv

  pub answer_all : (ts : List A) (answered whole : List Bool) (i : ℕ) → length answered ≡ length ts → length ts ≤ i → take i answered ++ before_by f (take i ts) (drop i ts) ≡ whole
      → answered ≡ whole
  answer_all ts answered whole i n le inv =
      sym (take_all i answered (omega (arith, n, le))) ∙ sym (append-nil (take i answered)) ∙ sym (ap (λ l. take i answered ++ before_by f (take i ts) l) (drop_all i ts le)) ∙ inv

pub any_map : {A B : Type 0} (p : B → Bool) (h : A → B) (xs : List A) → list_any p (map h xs) ≡ list_any (λ x. p (h x)) xs
any_map p h [] = refl
any_map p h (x ∷ xs) = ap (λ b. p (h x) || b) (any_map p h xs)

-- of things that are made of others
pub before_map : {A B : Type 0} (f : B → B → Bool) (h : A → B) (xs zs : List A) → before_by f (map h xs) (map h zs) ≡ before_by (λ x y. f (h x) (h y)) xs zs
before_map f h xs [] = refl
before_map f h xs (y ∷ zs) =
    ap (λ b. b ∷ before_by f (map h xs ++ h y ∷ []) (map h zs)) (any_map (λ x. f x (h y)) h xs)
    ∙ ap (λ l. list_any (λ x. f (h x) (h y)) xs ∷ before_by f l (map h zs)) (sym (map_push h xs y))
    ∙ ap (λ l. list_any (λ x. f (h x) (h y)) xs ∷ l) (before_map f h (xs ++ y ∷ []) zs)

-- where none asks, none is answered
pub none_asked : (xs ts : List Touch) → list_any (λ (t : Touch). t.asks) ts ≡ false → replicate (length ts) false ≡ before_by answers xs ts
none_asked xs [] h = refl
none_asked xs (y ∷ ts) h =
    let p = or_parts y.asks (list_any (λ (t : Touch). t.asks) ts) h in
    ap (λ b. b ∷ replicate (length ts) false) (sym (ap (λ c. list_any (λ x. c && (x.gives && (share x y && gives x y.thread.0 y.need))) xs) p.0 ∙ any_none xs))
    ∙ ap (λ l. list_any (λ x. answers x y) xs ∷ l) (none_asked (xs ++ y ∷ []) ts p.1)

-- ---- answers joined

module _ {A : Type 0} where
  pub before_length : (f : A → A → Bool) (xs zs : List A) → length (before_by f xs zs) ≡ length zs
  before_length f xs [] = refl
  before_length f xs (y ∷ zs) = ap suc (before_length f (xs ++ y ∷ []) zs)

  pub joined : (f g : A → A → Bool) (xs zs : List A) → or_each (before_by f xs zs) (before_by g xs zs) ≡ before_by (λ x y. f x y || g x y) xs zs
  joined f g xs [] = refl
  joined f g xs (y ∷ zs) =
      ap (λ b. b ∷ or_each (before_by f (xs ++ y ∷ []) zs) (before_by g (xs ++ y ∷ []) zs)) (sym (any_or (λ x. f x y) (λ x. g x y) xs))
      ∙ ap (λ l. list_any (λ x. f x y || g x y) xs ∷ l) (joined f g (xs ++ y ∷ []) zs)

  pub joined_first : (f : A → A → Bool) (xs zs : List A) → or_each (replicate (length zs) false) (before_by f xs zs) ≡ before_by f xs zs
  joined_first f xs [] = refl
  joined_first f xs (y ∷ zs) = ap (λ l. list_any (λ x. f x y) xs ∷ l) (joined_first f (xs ++ y ∷ []) zs)

-- the marks of the four passes of a direction
pub four_joined : (b : Bool) (zs : List Placed) (none one two three four : List Bool) → none ≡ replicate (length zs) false →
    one ≡ or_each none (before_by (answers_in (pass_of b false false)) [] zs) → two ≡ or_each one (before_by (answers_in (pass_of b false true)) [] zs) →
    three ≡ or_each two (before_by (answers_in (pass_of b true false)) [] zs) → four ≡ or_each three (before_by (answers_in (pass_of b true true)) [] zs)
    → four ≡ before_by (answers_along b) [] zs
four_joined b zs none one two three four e0 e1 e2 e3 e4 =
    let ff = answers_in (pass_of b false false) in
    let ft = answers_in (pass_of b false true) in
    let tf = answers_in (pass_of b true false) in
    let tt' = answers_in (pass_of b true true) in
    let q1 : one ≡ before_by ff [] zs = e1 ∙ ap (λ l. or_each l (before_by ff [] zs)) e0 ∙ joined_first ff [] zs in
    let q2 : two ≡ before_by (λ x y. ff x y || ft x y) [] zs = e2 ∙ ap (λ l. or_each l (before_by ft [] zs)) q1 ∙ joined ff ft [] zs in
    let q3 : three ≡ before_by (λ x y. (ff x y || ft x y) || tf x y) [] zs = e3 ∙ ap (λ l. or_each l (before_by tf [] zs)) q2 ∙ joined (λ x y. ff x y || ft x y) tf [] zs in
    e4 ∙ ap (λ l. or_each l (before_by tt' [] zs)) q3 ∙ joined (λ x y. (ff x y || ft x y) || tf x y) tt' [] zs
