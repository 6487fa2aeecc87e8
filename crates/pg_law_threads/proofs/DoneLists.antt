-- Lists of steps, some of which are done.
use Rattle.std.proofs.Common.{◌≡◌, ◌≢◌, ℕ, ◌⊎◌, Bool, true, false, cond, List, [], ◌∷◌, ◌++◌, refl, sym, ap, inl, inr}
use Rattle.std.specs.List.{AllByRecursion as AllOf}
use Rattle.std.proofs.lemmas.Bool.{cases_eq}
use Rattle.pg_law_threads.specs.Steps.{View, EachPair}
use Rattle.pg_law_threads.specs.Intervals.{Timed, did_of}
use Rattle.pg_law_threads.specs.Cuts.{Mark, pending, performed, kept, whole, IsCut}

module _ {A : Type 0} {P Q : A → Type 0} where
  pub all_map : ((x : A) → P x → Q x) → (xs : List A) → AllOf P xs → AllOf Q xs
  all_map f [] h = tt
  all_map f (x ∷ xs) h = (f x h.0, all_map f xs h.1)

module _ {A : Type 0} (P Q : A → Type 0) where
  -- two facts at each
  pub both_of : (xs : List A) → AllOf P xs → AllOf Q xs → AllOf (λ x. P x × Q x) xs
  both_of [] h k = tt
  both_of (x ∷ xs) h k = ((h.0, k.0), both_of xs h.1 k.1)

module _ {A : Type 0} (P : A → Type 0) where
  pub all_left : (xs ys : List A) → AllOf P (xs ++ ys) → AllOf P xs
  all_left [] ys h = tt
  all_left (x ∷ xs) ys h = (h.0, all_left xs ys h.1)

  pub all_right : (xs ys : List A) → AllOf P (xs ++ ys) → AllOf P ys
  all_right [] ys h = h
  all_right (x ∷ xs) ys h = all_right xs ys h.1

  pub all_join : (xs ys : List A) → AllOf P xs → AllOf P ys → AllOf P (xs ++ ys)
  all_join [] ys h k = k
  all_join (x ∷ xs) ys h k = (h.0, all_join xs ys h.1 k)

  pub all_free : ((x : A) → P x) → (xs : List A) → AllOf P xs
  all_free f [] = tt
  all_free f (x ∷ xs) = (f x, all_free f xs)

module _ {A : Type 0} (R : A → A → Type 0) where
  pub pairs_before : (xs : List A) (p : A) (ys : List A) → EachPair R (xs ++ p ∷ ys) → AllOf (λ x. R x p) xs
  pairs_before [] p ys h = tt
  pairs_before (x ∷ xs) p ys h = ((all_right (R x) xs (p ∷ ys) h.0).0, pairs_before xs p ys h.1)

  pub pairs_after : (xs : List A) (p : A) (ys : List A) → EachPair R (xs ++ p ∷ ys) → AllOf (R p) ys
  pairs_after [] p ys h = h.0
  pairs_after (x ∷ xs) p ys h = pairs_after xs p ys h.1

  -- one more at the end
  pub pairs_more : (xs : List A) (t : A) → EachPair R xs → AllOf (λ x. R x t) xs → EachPair R (xs ++ t ∷ [])
  pairs_more [] t h k = (tt, tt)
  pairs_more (x ∷ xs) t h k = (all_join (R x) xs (t ∷ []) h.0 (k.0, tt), pairs_more xs t h.1 k.1)

pub cons_head : {A : Type 0} {x y : A} {xs ys : List A} → x ∷ xs ≡ y ∷ ys → x ≡ y
cons_head h = cc

pub cons_tail : {A : Type 0} {x y : A} {xs ys : List A} → x ∷ xs ≡ y ∷ ys → xs ≡ ys
cons_tail h = cc

module _ {A : Type 0} where
  pub did_append : (xs ys : List (Timed A)) → did_of (xs ++ ys) ≡ did_of xs ++ did_of ys
  did_append [] ys = refl
  did_append (x ∷ xs) ys = ap (λ l. x.did ∷ l) (did_append xs ys)

  pub all_did : (P : A → Type 0) (xs : List (Timed A)) → AllOf (λ x. P x.did) xs → AllOf P (did_of xs)
  all_did P [] h = tt
  all_did P (x ∷ xs) h = (h.0, all_did P xs h.1)

-- ---- marks

module _ {A : Type 0} where
  pub whole_append : (ms ns : List (Mark A)) → whole (ms ++ ns) ≡ whole ms ++ whole ns
  whole_append [] ns = refl
  whole_append (m ∷ ms) ns = ap (λ l. m.step ∷ l) (whole_append ms ns)

  kept_step : (b : Bool) (x : A) (xs ys zs : List A) → zs ≡ xs ++ ys → cond b (x ∷ zs) zs ≡ cond b (x ∷ xs) xs ++ ys
  kept_step true x xs ys zs h = ap (λ l. x ∷ l) h
  kept_step false x xs ys zs h = h

  pub kept_append : (ms ns : List (Mark A)) → kept (ms ++ ns) ≡ kept ms ++ kept ns
  kept_append [] ns = refl
  kept_append (m ∷ ms) ns = kept_step m.done m.step (kept ms) (kept ns) (kept (ms ++ ns)) (kept_append ms ns)

  -- a fact on the steps that are done
  pub all_kept : (P : A → Type 0) (ms : List (Mark A)) → AllOf (λ m. m.done ≡ true → P m.step) ms → AllOf P (kept ms)
  all_kept P [] h = tt
  all_kept P (m ∷ ms) h = go m.done refl (all_kept P ms h.1)
    where
      go : (b : Bool) → m.done ≡ b → AllOf P (kept ms) → AllOf P (cond m.done (m.step ∷ kept ms) (kept ms))
      go true w ih = rw w ((h.0 w, ih))
      go false w ih = rw w ih

  -- a fact on all steps, at their marks
  pub at_marks : (P : A → Type 0) (ms : List (Mark A)) → AllOf P (whole ms) → AllOf (λ m. P m.step) ms
  at_marks P [] h = tt
  at_marks P (m ∷ ms) h = (h.0, at_marks P ms h.1)

  -- a fact on marks, at all steps
  pub at_steps : (P : A → Type 0) (ms : List (Mark A)) → AllOf (λ m. P m.step) ms → AllOf P (whole ms)
  at_steps P [] h = tt
  at_steps P (m ∷ ms) h = (h.0, at_steps P ms h.1)

  -- the first step that isn't done
  pub record FirstOpen (ms : List (Mark A)) : Type 0 where
    pub before : List (Mark A)
    pub step : A
    pub after : List (Mark A)
    pub parts : ms ≡ before ++ pending step ∷ after
    pub earlier : AllOf (λ m. m.done ≡ true) before

  pub find_open : (ms : List (Mark A)) → AllOf (λ m. m.done ≡ true) ms ⊎ FirstOpen ms
  find_open [] = inl tt
  find_open (m ∷ ms) = go m.done refl (find_open ms)
    where
      go : (b : Bool) → m.done ≡ b → AllOf (λ m. m.done ≡ true) ms ⊎ FirstOpen ms → AllOf (λ m. m.done ≡ true) (m ∷ ms) ⊎ FirstOpen (m ∷ ms)
      go true w (inl k) = inl (w, k)
      go true w (inr o) = inr (record { before = m ∷ o.before; step = o.step; after = o.after; parts = ap (λ l. m ∷ l) o.parts; earlier = (w, o.earlier) })
      go false w k = inr (record { before = []; step = m.step; after = ms; parts = ap (λ b. (record { done = b; step = m.step }) ∷ ms) w; earlier = tt })

  -- where all are done, all are kept
  pub kept_all : (ms : List (Mark A)) → AllOf (λ m. m.done ≡ true) ms → kept ms ≡ whole ms
  kept_all [] h = refl
  kept_all (m ∷ ms) h = rw h.0 (ap (λ l. m.step ∷ l) (kept_all ms h.1))

module _ {A : Type 0} (V : View A) where
  -- the first step of a thread that isn't done
  pub record First (u : ℕ) (ms : List (Mark (Timed A))) : Type 0 where
    pub before : List (Mark (Timed A))
    pub step : Timed A
    pub after : List (Mark (Timed A))
    pub parts : ms ≡ before ++ pending step ∷ after
    pub thread : V.thread step.did ≡ u
    pub earlier : AllOf (λ m. m.done ≡ false → V.thread m.step.did ≢ u) before

  pub find : (u : ℕ) (ms : List (Mark (Timed A))) → AllOf (λ m. m.done ≡ false → V.thread m.step.did ≢ u) ms ⊎ First u ms
  find u [] = inl tt
  find u (m ∷ ms) = go m.done refl (cases_eq (V.thread m.step.did) u) (find u ms)
    where
      pass : (m.done ≡ false → V.thread m.step.did ≢ u) → AllOf (λ m. m.done ≡ false → V.thread m.step.did ≢ u) ms ⊎ First u ms
          → AllOf (λ m. m.done ≡ false → V.thread m.step.did ≢ u) (m ∷ ms) ⊎ First u (m ∷ ms)
      pass h (inl k) = inl (h, k)
      pass h (inr f) = inr (record { before = m ∷ f.before; step = f.step; after = f.after; parts = ap (λ l. m ∷ l) f.parts; thread = f.thread; earlier = (h, f.earlier) })

      go : (b : Bool) → m.done ≡ b → (V.thread m.step.did ≡ u) ⊎ (V.thread m.step.did ≡ u → ⊥) → AllOf (λ m. m.done ≡ false → V.thread m.step.did ≢ u) ms ⊎ First u ms
          → AllOf (λ m. m.done ≡ false → V.thread m.step.did ≢ u) (m ∷ ms) ⊎ First u (m ∷ ms)
      go true w e k = pass (λ w'. absurd (cc)) k
      go false w (inr ne) k = pass (λ w'. ne) k
      go false w (inl e) k = inr (record { before = []; step = m.step; after = ms; parts = ap (λ b. (record { done = b; step = m.step }) ∷ ms) w; thread = e; earlier = tt })

  -- behind a step that isn't done none of its thread is
  pub cut_at : (ms : List (Mark (Timed A))) (m : Mark (Timed A)) (ns : List (Mark (Timed A))) → IsCut V (ms ++ m ∷ ns) → m.done ≡ false
      → AllOf (λ n. n.done ≡ true → V.thread n.step.did ≢ V.thread m.step.did) ns
  cut_at [] m ns h w = h.0 w
  cut_at (x ∷ ms) m ns h w = cut_at ms m ns h.1 w

  -- the first step of a thread that isn't done may be done
  pub cut_flip : (ms : List (Mark (Timed A))) (p : Timed A) (ns : List (Mark (Timed A))) →
      AllOf (λ m. m.done ≡ false → V.thread m.step.did ≢ V.thread p.did) ms → IsCut V (ms ++ pending p ∷ ns) → IsCut V (ms ++ performed p ∷ ns)
  cut_flip [] p ns e h = ((λ w. absurd (cc)), h.1)
  cut_flip (m ∷ ms) p ns e h = ((λ w. flip_all ms (h.0 w) (λ k. e.0 w (sym k))), cut_flip ms p ns e.1 h.1)
    where
      flip_all : (xs : List (Mark (Timed A))) → AllOf (λ n. n.done ≡ true → V.thread n.step.did ≢ V.thread m.step.did) (xs ++ pending p ∷ ns) → V.thread p.did ≢ V.thread m.step.did
          → AllOf (λ n. n.done ≡ true → V.thread n.step.did ≢ V.thread m.step.did) (xs ++ performed p ∷ ns)
      flip_all [] a ne = ((λ w. ne), a.1)
      flip_all (x ∷ xs) a ne = (a.0, flip_all xs a.1 ne)
