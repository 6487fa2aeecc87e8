-- The oldest of open extents whose branch step isn't pinned: where what is known stands still.
use Rattle.std.proofs.Common.{◌≡◌, ℕ, ◌==◌, Bool, true, false, List, [], ◌∷◌, Option, Some, None, refl, sym, ap, ◌∙◌, subst, inl, inr, ◌⊎◌}
use Rattle.std.specs.Prelude.{Contains, filter, not, ◌&&◌}
use Rattle.std.specs.List.{list_all}
use Rattle.std.proofs.lemmas.Bool.{true≢false, and_parts, eqb-true}
use Rattle.pg_slice_rules.specs.declared.decision.Decision.TheVariants.{Pinned}
use Rattle.pg_slice_rules.specs.Freeable.{FreeRegion}
use Rattle.pg_slice_rules.specs.Extents.{Extent, begun, ends, is_live}
use Rattle.pg_slice_rules.specs.Known.{Taken}
use Rattle.pg_slice_rules.specs.Closed.{AreWithin}
use Rattle.pg_law_least.specs.Keeps.{AreStacked, every}
use Rattle.pg_region_paths.proofs.Elements.{cases as cases_in, here, none_in, there}

abbrev pub or_this : Bool → Extent → Option Extent → Option Extent
or_this pinned e (Some x) = Some x
or_this true e None = None
or_this false e None = Some e

abbrev pub stand : Taken → List Extent → Option Extent
stand d [] = None
stand d (e ∷ es) = or_this (d.pinned e.step) e (stand d es)

-- how many calls are known: where it stands still, those of the branch's frame and below
abbrev pub height_by : Option Extent → ℕ → ℕ
height_by None full = full
height_by (Some x) full = x.depth

module _ (d : Taken) where
  pub live_stand : (es : List Extent) → is_live d.pinned es ≡ true → stand d es ≡ None
  live_stand [] h = refl
  live_stand (e ∷ es) h =
      let q = and_parts (d.pinned e.step) (list_all (λ (e : Extent). d.pinned e.step) es) h in
      rw (live_stand es q.1, q.0) refl

  pub stand_live : (es : List Extent) → stand d es ≡ None → is_live d.pinned es ≡ true
  stand_live [] h = refl
  stand_live (e ∷ es) h = go (stand d es) refl (d.pinned e.step) refl (λ q. stand_live es q)
    where
      go : (o : Option Extent) → stand d es ≡ o → (b : Bool) → d.pinned e.step ≡ b → (stand d es ≡ None → is_live d.pinned es ≡ true) →
          (d.pinned e.step && list_all (λ (e : Extent). d.pinned e.step) es) ≡ true
      go (Some x) q b r more = let z : or_this (d.pinned e.step) e (Some x) ≡ None = subst (λ (o : Option Extent). or_this (d.pinned e.step) e o ≡ None) q h in let y : Some x ≡ None = z in
          absurd (cc)
      go None q true r more = rw r (more q)
      go None q false r more = let z : or_this (d.pinned e.step) e None ≡ None = subst (λ (o : Option Extent). or_this (d.pinned e.step) e o ≡ None) q h in let y : Some e ≡ None =
          rw r at z in absurd (cc)

  some_in : (x y : Extent) → Some x ≡ Some y → x ≡ y
  some_in x y q = cc

  -- where nothing stands still behind the first, it is the first that does, and it isn't pinned
  first_stands : (e : Extent) (es : List Extent) (x : Extent) → stand d (e ∷ es) ≡ Some x → stand d es ≡ None → (b : Bool) → d.pinned e.step ≡ b → (b ≡ false) × (e ≡ x)
  first_stands e es x h q b r = by b r
    where
      this : or_this (d.pinned e.step) e None ≡ Some x
      this = subst (λ (o : Option Extent). or_this (d.pinned e.step) e o ≡ Some x) q h

      by : (b : Bool) → d.pinned e.step ≡ b → (b ≡ false) × (e ≡ x)
      by true r = let z : or_this (d.pinned e.step) e None ≡ Some x = this in let y : None ≡ Some x = rw r at z in absurd (cc)
      by false r = let z : or_this (d.pinned e.step) e None ≡ Some x = this in let y : Some e ≡ Some x = rw r at z in (refl, some_in e x y)

  pub stand_in : (es : List Extent) (x : Extent) → stand d es ≡ Some x → Contains es x × (d.pinned x.step ≡ false)
  stand_in [] x h = let z : None ≡ Some x = h in absurd (cc)
  stand_in (e ∷ es) x h = go (stand d es) refl (d.pinned e.step) refl (λ q. stand_in es x q)
    where
      go : (o : Option Extent) → stand d es ≡ o → (b : Bool) → d.pinned e.step ≡ b → (stand d es ≡ Some x → Contains es x × (d.pinned x.step ≡ false)) →
          Contains (e ∷ es) x × (d.pinned x.step ≡ false)
      go (Some y) q b r more =
          let z : or_this (d.pinned e.step) e (Some y) ≡ Some x = subst (λ (o : Option Extent). or_this (d.pinned e.step) e o ≡ Some x) q h in
          let y : Some y ≡ Some x = z in
          let k = more (q ∙ y) in (there e es x k.0, k.1)
      go None q b r more =
          let k = first_stands e es x h q b r in
          (subst (Contains (e ∷ es)) k.1 (here e es), subst (λ (x : Extent). d.pinned x.step ≡ false) k.1 (r ∙ k.0))

  abbrev pub stays : ℕ → Option ℕ → List Extent → List Extent
  stays depth edge es = filter (λ e. not (ends depth edge e)) es

  -- where nothing stands still, nothing does after some end
  pub stays_none : (depth : ℕ) (edge : Option ℕ) (es : List Extent) → stand d es ≡ None → stand d (stays depth edge es) ≡ None
  stays_none depth edge [] h = refl
  stays_none depth edge (e ∷ es) h = go (stand d es) refl (d.pinned e.step) refl (ends depth edge e) refl (λ q. stays_none depth edge es q)
    where
      go : (o : Option Extent) → stand d es ≡ o → (b : Bool) → d.pinned e.step ≡ b → (c : Bool) → ends depth edge e ≡ c →
          (stand d es ≡ None → stand d (stays depth edge es) ≡ None) → stand d (stays depth edge (e ∷ es)) ≡ None
      go (Some x) q b r c f more = let z : or_this (d.pinned e.step) e (Some x) ≡ None = subst (λ (o : Option Extent). or_this (d.pinned e.step) e o ≡ None) q h in let y : Some x ≡ None =
          z in absurd (cc)
      go None q false r c f more = let z : or_this (d.pinned e.step) e None ≡ None = subst (λ (o : Option Extent). or_this (d.pinned e.step) e o ≡ None) q h in let y : Some e ≡ None =
          rw r at z in absurd (cc)
      go None q true r true f more = rw f (more q)
      go None q true r false f more = rw (f, r, more q) refl

  -- where the one that stands still ends, so do those behind it
  pub stays_ended : (depth : ℕ) (edge : Option ℕ) (es : List Extent) (x : Extent) → AreStacked depth edge es → stand d es ≡ Some x → ends depth edge x ≡ true →
      stand d (stays depth edge es) ≡ None
  stays_ended depth edge [] x k h s = let z : None ≡ Some x = h in absurd (cc)
  stays_ended depth edge (e ∷ es) x k h s = go (stand d es) refl (d.pinned e.step) refl (λ q. stays_ended depth edge es x k.1 q s)
    where
      go : (o : Option Extent) → stand d es ≡ o → (b : Bool) → d.pinned e.step ≡ b → (stand d es ≡ Some x → stand d (stays depth edge es) ≡ None) →
          stand d (stays depth edge (e ∷ es)) ≡ None
      go (Some y) q b r more =
          let z : or_this (d.pinned e.step) e (Some y) ≡ Some x = subst (λ (o : Option Extent). or_this (d.pinned e.step) e o ≡ Some x) q h in
          let y : Some y ≡ Some x = z in
          let i = stand_in es x (q ∙ y) in
          rw (k.0 x i.0 s) (more (q ∙ y))
      go None q b r more =
          let f : ends depth edge e ≡ true = ap (ends depth edge) (first_stands e es x h q b r).1 ∙ s in
          rw f (stays_none depth edge es q)

  -- else it stands on
  pub stays_on : (depth : ℕ) (edge : Option ℕ) (es : List Extent) (x : Extent) → stand d es ≡ Some x → ends depth edge x ≡ false → stand d (stays depth edge es) ≡ Some x
  stays_on depth edge [] x h s = h
  stays_on depth edge (e ∷ es) x h s = go (stand d es) refl (d.pinned e.step) refl (ends depth edge e) refl (λ q. stays_on depth edge es x q s)
    where
      go : (o : Option Extent) → stand d es ≡ o → (b : Bool) → d.pinned e.step ≡ b → (c : Bool) → ends depth edge e ≡ c →
          (stand d es ≡ Some x → stand d (stays depth edge es) ≡ Some x) → stand d (stays depth edge (e ∷ es)) ≡ Some x
      go (Some y) q b r c f more =
          let z : or_this (d.pinned e.step) e (Some y) ≡ Some x = subst (λ (o : Option Extent). or_this (d.pinned e.step) e o ≡ Some x) q h in
          let y : Some y ≡ Some x = z in
          on c f (more (q ∙ y))
        where
          on : (c : Bool) → ends depth edge e ≡ c → stand d (stays depth edge es) ≡ Some x → stand d (stays depth edge (e ∷ es)) ≡ Some x
          on true f m = rw f m
          on false f m = rw (f, m) refl
      go None q true r c f more =
          let z : or_this (d.pinned e.step) e None ≡ Some x = subst (λ (o : Option Extent). or_this (d.pinned e.step) e o ≡ Some x) q h in
          let y : None ≡ Some x = rw r at z in absurd (cc)
      go None q false r true f more =
          let z : or_this (d.pinned e.step) e None ≡ Some x = subst (λ (o : Option Extent). or_this (d.pinned e.step) e o ≡ Some x) q h in
          let y : Some e ≡ Some x = rw r at z in
          absurd (true≢false (sym f ∙ ap (ends depth edge) (some_in e x y) ∙ s))
      go None q false r false f more =
          let z : or_this (d.pinned e.step) e None ≡ Some x = subst (λ (o : Option Extent). or_this (d.pinned e.step) e o ≡ Some x) q h in
          let y : Some e ≡ Some x = rw r at z in
          rw (f, r, stays_none depth edge es q) y

  -- ---- with the extent that a step begins

  abbrev pub own_extent : ℕ → ℕ → FreeRegion → Extent
  own_extent n depth r = record { step = n; join = r.join; depth = depth }

  pub begun_some : (n depth : ℕ) (region : Option FreeRegion) (es : List Extent) (x : Extent) → stand d es ≡ Some x → stand d (begun n depth region es) ≡ Some x
  begun_some n depth None es x h = h
  begun_some n depth (Some r) es x h = rw h (go (d.pinned n))
    where
      go : (b : Bool) → or_this b (own_extent n depth r) (Some x) ≡ Some x
      go true = refl
      go false = refl

  pub begun_pinned : (n depth : ℕ) (region : Option FreeRegion) (es : List Extent) → d.pinned n ≡ true → stand d es ≡ None → stand d (begun n depth region es) ≡ None
  begun_pinned n depth None es q h = h
  begun_pinned n depth (Some r) es q h = rw (h, q) refl

  pub begun_free : (n depth : ℕ) (r : FreeRegion) (es : List Extent) → d.pinned n ≡ false → stand d es ≡ None → stand d (begun n depth (Some r) es) ≡ Some (own_extent n depth r)
  begun_free n depth r es q h = rw (h, q) refl

-- ---- under more decisions

pub within_pinned : (d e : Taken) (n : ℕ) → AreWithin d e → d.pinned n ≡ true → e.pinned n ≡ true
within_pinned d e n w q = w (Pinned n) q

pub live_more : (d e : Taken) (es : List Extent) → AreWithin d e → is_live d.pinned es ≡ true → is_live e.pinned es ≡ true
live_more d e [] w h = refl
live_more d e (x ∷ es) w h =
    let q = and_parts (d.pinned x.step) (list_all (λ (e : Extent). d.pinned e.step) es) h in
    rw (within_pinned d e x.step w q.0, live_more d e es w q.1) refl

pub live_every : (es : List Extent) → is_live every.pinned es ≡ true
live_every [] = refl
live_every (x ∷ es) = live_every es

pub not_live : (e : Taken) (es : List Extent) (x : Extent) → Contains es x → e.pinned x.step ≡ false → is_live e.pinned es ≡ false
not_live e es x c q = go (is_live e.pinned es) refl
  where
    go : (b : Bool) → is_live e.pinned es ≡ b → is_live e.pinned es ≡ false
    go false r = r
    go true r = absurd (true≢false (sym (all_of es x c r) ∙ q))
      where
        all_of : (es : List Extent) (x : Extent) → Contains es x → is_live e.pinned es ≡ true → e.pinned x.step ≡ true
        all_of [] x c h = absurd (none_in x c)
        all_of (y ∷ es) x c h = on (cases_in y es x c) (and_parts (e.pinned y.step) (list_all (λ (z : Extent). e.pinned z.step) es) h) (λ c h. all_of es x c h)
          where
            on : (y ≡ x) ⊎ Contains es x → (e.pinned y.step ≡ true) × (list_all (λ (z : Extent). e.pinned z.step) es ≡ true) →
                (Contains es x → list_all (λ (z : Extent). e.pinned z.step) es ≡ true → e.pinned x.step ≡ true) → e.pinned x.step ≡ true
            on (inl f) q more = subst (λ (z : Extent). e.pinned z.step ≡ true) f q.0
            on (inr c) q more = more c q.1

-- an end is an edge at that depth
pub ends_at : (depth : ℕ) (edge : Option ℕ) (x : Extent) → ends depth edge x ≡ true → (x.depth ≡ depth) × ((to : ℕ) × (edge ≡ Some to))
ends_at depth None x h = absurd (true≢false (sym h))
ends_at depth (Some to) x h = (eqb-true x.depth depth (and_parts (x.depth == depth) (x.join == to) h).0, (to, refl))
