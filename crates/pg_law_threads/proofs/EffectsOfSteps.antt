-- What the effects of steps leave, and when two steps may change places.
use Rattle.std.proofs.Common.{◌≡◌, ◌≢◌, ℕ, ◌==◌, ◌⊎◌, Bool, true, false, cond, List, [], ◌∷◌, ◌++◌, Option, Some, None, refl, sym, ap, ◌∙◌, inl, inr}
use Rattle.std.specs.Prelude.{is_some, ◌&&◌}
use Rattle.std.specs.List.{AllByRecursion as AllOf}
use Rattle.std.proofs.lemmas.Bool.{eqb-true, cases_Bool, or_left, or_right, and_from}
use Rattle.pg_law_threads.specs.Steps.{View, touches, meet_at, Conflict}
use Rattle.pg_law_threads.specs.Intervals.{Timed, did_of}
use Rattle.pg_law_threads.specs.Cuts.{Mark, kept, whole}
use Rattle.pg_law_threads.specs.Effects.{State, Deed, deeds, or_old, effect, effects, Same, IsSame}

pub or_old_none : {A : Type 0} (o : Option A) (a : A) → is_some o ≡ false → or_old o a ≡ a
or_old_none None a h = refl
or_old_none (Some b) a h = absurd (cc)

or_old_cross : {A : Type 0} (o q : Option A) (a : A) → (is_some o ≡ false) ⊎ (is_some q ≡ false) → or_old q (or_old o a) ≡ or_old o (or_old q a)
or_old_cross None q a h = refl
or_old_cross (Some b) None a h = refl
or_old_cross (Some b) (Some c) a (inl h) = absurd (cc)
or_old_cross (Some b) (Some c) a (inr h) = absurd (cc)

locals_cross : {A : Type 0} (u t t' : ℕ) (l l' k : A) → t' ≢ t → cond (u == t') l' (cond (u == t) l k) ≡ cond (u == t) l (cond (u == t') l' k)
locals_cross {A} u t t' l l' k h = go (u == t) (u == t') refl refl
  where
    go : (e e' : Bool) → (u == t) ≡ e → (u == t') ≡ e' → cond (u == t') l' (cond (u == t) l k) ≡ cond (u == t) l (cond (u == t') l' k)
    go true true p q = absurd (h (sym (eqb-true u t' q) ∙ eqb-true u t p))
    go true false p q = rw (p, q) refl
    go false e' p q = rw p refl

-- ---- steps that meet

module _ {A : Type 0} (V : View A) (x y : A) (b : ℕ) where
  pub meet_written_read : V.writes x b ≡ true → V.reads y b ≡ true → meet_at V x y b ≡ true
  meet_written_read w r = or_left (V.writes x b && touches V y b) (touches V x b && V.writes y b) (and_from (V.writes x b) (touches V y b) w (or_left (V.reads y b) (V.writes y b) r))

  pub meet_read_written : V.reads x b ≡ true → V.writes y b ≡ true → meet_at V x y b ≡ true
  meet_read_written r w = or_right (V.writes x b && touches V y b) (touches V x b && V.writes y b) (and_from (touches V x b) (V.writes y b) (or_left (V.reads x b) (V.writes x b) r) w)

  pub meet_written : V.writes x b ≡ true → V.writes y b ≡ true → meet_at V x y b ≡ true
  meet_written w v = or_left (V.writes x b && touches V y b) (touches V x b && V.writes y b) (and_from (V.writes x b) (touches V y b) w (or_right (V.reads y b) (V.writes y b) v))

-- ---- parts of a state

-- a part of the state, and the steps that may change it
pub record Part (L B Y E A : Type 0) : Type 0 where
  pub see : State L B Y → A
  pub changes : Deed L B Y E → Bool
  pub stays : (s : State L B Y) (d : Deed L B Y E) → changes d ≡ false → see (effect s d) ≡ see s
  pub follows : (s z : State L B Y) (d : Deed L B Y E) → see s ≡ see z → see (effect s d) ≡ see (effect z d)

abbrev pub local_part : {L B Y E : Type 0} (u : ℕ) → Part L B Y E L
local_part u = record {
  see = λ s. s.locals u;
  changes = λ d. u == d.thread;
  stays = λ s d h. rw h refl;
  follows = λ s z d h. ap (cond (u == d.thread) d.to) h;
}

abbrev pub cell_part : {L B Y E : Type 0} (b : ℕ) → Part L B Y E B
cell_part b = record {
  see = λ s. s.cells b;
  changes = λ d. is_some (d.writes b);
  stays = λ s d h. or_old_none (d.writes b) (s.cells b) h;
  follows = λ s z d h. ap (or_old (d.writes b)) h;
}

abbrev pub objects_part : {L B Y E : Type 0} → Part L B Y E Y
objects_part = record {
  see = λ s. s.objects;
  changes = λ d. is_some d.objects;
  stays = λ s d h. or_old_none d.objects s.objects h;
  follows = λ s z d h. ap (or_old d.objects) h;
}

module _ {L B Y E A : Type 0} (P : Part L B Y E A) where
  -- steps that don't change it leave it
  pub skips : (s : State L B Y) (ds : List (Deed L B Y E)) → AllOf (λ d. P.changes d ≡ false) ds → P.see (effects s ds) ≡ P.see s
  skips s [] h = refl
  skips s (d ∷ ds) h = skips (effect s d) ds h.1 ∙ P.stays s d h.0

  -- where no step that isn't done changes it, the steps that are done leave of it what all leave
  pub agree : (s z : State L B Y) (ms : List (Mark (Timed (Deed L B Y E)))) → AllOf (λ m. m.done ≡ false → P.changes m.step.did ≡ false) ms → P.see s ≡ P.see z
      → P.see (effects s (did_of (kept ms))) ≡ P.see (effects z (did_of (whole ms)))
  agree s z [] h e = e
  agree s z (m ∷ ms) h e = go m.done refl (agree (effect s m.step.did) (effect z m.step.did) ms h.1 (P.follows s z m.step.did e)) (λ k. agree s (effect z m.step.did) ms h.1 k)
    where
      go : (b : Bool) → m.done ≡ b →
          P.see (effects (effect s m.step.did) (did_of (kept ms))) ≡ P.see (effects (effect z m.step.did) (did_of (whole ms))) →
          (P.see s ≡ P.see (effect z m.step.did) → P.see (effects s (did_of (kept ms))) ≡ P.see (effects (effect z m.step.did) (did_of (whole ms)))) →
          P.see (effects s (did_of (cond m.done (m.step ∷ kept ms) (kept ms)))) ≡ P.see (effects (effect z m.step.did) (did_of (whole ms)))
      go true w both without = rw w both
      go false w both without = rw w (without (e ∙ sym (P.stays z m.step.did (h.0 w))))

-- ---- equal states

module _ {L B Y : Type 0} where
  pub same_refl : (s : State L B Y) → Same s s
  same_refl s = record { locals = λ u. refl; cells = λ b. refl; objects = refl }

  pub same_then : {s z w : State L B Y} → Same s z → Same z w → Same s w
  same_then h k = record { locals = λ u. h.locals u ∙ k.locals u; cells = λ b. h.cells b ∙ k.cells b; objects = h.objects ∙ k.objects }

  pub same_back : {s z : State L B Y} → Same s z → Same z s
  same_back h = record { locals = λ u. sym (h.locals u); cells = λ b. sym (h.cells b); objects = sym h.objects }

module _ {L B Y E : Type 0} where
  pub effect_same : (s z : State L B Y) (d : Deed L B Y E) → Same s z → Same (effect s d) (effect z d)
  effect_same s z d h = record {
    locals = λ u. ap (cond (u == d.thread) d.to) (h.locals u);
    cells = λ b. ap (or_old (d.writes b)) (h.cells b);
    objects = ap (or_old d.objects) h.objects;
  }

  pub effects_same : (s z : State L B Y) (ds : List (Deed L B Y E)) → Same s z → Same (effects s ds) (effects z ds)
  effects_same s z [] h = h
  effects_same s z (d ∷ ds) h = effects_same (effect s d) (effect z d) ds (effect_same s z d h)

  pub effects_append : (s : State L B Y) (ds es : List (Deed L B Y E)) → effects s (ds ++ es) ≡ effects (effects s ds) es
  effects_append s [] es = refl
  effects_append s (d ∷ ds) es = effects_append (effect s d) ds es

  pub deed_refl : (d : Deed L B Y E) → IsSame d d
  deed_refl d = record { thread = refl; to = refl; told = refl; reads = λ b. refl; writes = λ b. refl; objects = refl }

  pub deed_then : {d e f : Deed L B Y E} → IsSame d e → IsSame e f → IsSame d f
  deed_then h k = record {
    thread = h.thread ∙ k.thread;
    to = h.to ∙ k.to;
    told = h.told ∙ k.told;
    reads = λ b. h.reads b ∙ k.reads b;
    writes = λ b. h.writes b ∙ k.writes b;
    objects = h.objects ∙ k.objects;
  }

  pub deed_back : {d e : Deed L B Y E} → IsSame d e → IsSame e d
  deed_back h = record {
    thread = sym h.thread;
    to = sym h.to;
    told = sym h.told;
    reads = λ b. sym (h.reads b);
    writes = λ b. sym (h.writes b);
    objects = sym h.objects;
  }

  -- ---- a step behind others

  -- two steps that may change places
  pub record Apart (p d : Deed L B Y E) : Type 0 where
    pub threads : d.thread ≢ p.thread
    pub events : (deeds.is_event p ≡ false) ⊎ (deeds.is_event d ≡ false)
    pub cells : (b : ℕ) → (deeds.writes p b ≡ false) ⊎ (deeds.writes d b ≡ false)

  cross : (s : State L B Y) (p d : Deed L B Y E) → Apart p d → Same (effect (effect s p) d) (effect (effect s d) p)
  cross s p d h = record {
    locals = λ u. locals_cross u p.thread d.thread p.to d.to (s.locals u) h.threads;
    cells = λ b. or_old_cross (p.writes b) (d.writes b) (s.cells b) (h.cells b);
    objects = or_old_cross p.objects d.objects s.objects h.events;
  }

  -- a step may be done behind others from which it is apart
  pub later : (s : State L B Y) (p : Deed L B Y E) (ds : List (Deed L B Y E)) → AllOf (Apart p) ds → Same (effects (effect s p) ds) (effect (effects s ds) p)
  later s p [] h = same_refl (effect s p)
  later s p (d ∷ ds) h = same_then (effects_same (effect (effect s p) d) (effect (effect s d) p) ds (cross s p d h.0)) (later (effect s d) p ds h.1)

  -- steps of which none is done twice at a time, and that don't conflict, are apart
  pub apart_of : (p d : Deed L B Y E) → d.thread ≢ p.thread → (Conflict deeds p d → ⊥) → (deeds.is_event p ≡ true → deeds.is_event d ≡ false) → Apart p d
  apart_of p d ne none ev = record {
    threads = ne;
    events = events (cases_Bool (deeds.is_event p));
    cells = λ b. cells b (cases_Bool (deeds.writes p b)) (cases_Bool (deeds.writes d b));
  }
    where
      events : (deeds.is_event p ≡ true) ⊎ (deeds.is_event p ≡ false) → (deeds.is_event p ≡ false) ⊎ (deeds.is_event d ≡ false)
      events (inl v) = inr (ev v)
      events (inr v) = inl v

      cells : (b : ℕ) → (deeds.writes p b ≡ true) ⊎ (deeds.writes p b ≡ false) → (deeds.writes d b ≡ true) ⊎ (deeds.writes d b ≡ false)
          → (deeds.writes p b ≡ false) ⊎ (deeds.writes d b ≡ false)
      cells b (inr v) e = inl v
      cells b (inl v) (inr e) = inr e
      cells b (inl v) (inl e) = absurd (none (record { threads = λ q. ne (sym q); cell = b; meet = meet_written deeds p d b v e }))
