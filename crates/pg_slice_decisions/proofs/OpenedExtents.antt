-- The open extents, by where those of branch steps that aren't pinned end.
use Rattle.std.proofs.Common.{◌≡◌, ℕ, ◌==◌, ◌&&◌, ◌||◌, not, Bool, true, false, List, [], ◌∷◌, length, Option, Some, None, refl, sym, ap, ◌∙◌}
use Rattle.std.specs.List.{filter, list_any}
use Rattle.std.proofs.lemmas.Bool.{and_from, and_parts, eq-eqb, eqb-true, ne_eqb, or_left, or_parts, true≢false}
use Rattle.pg_slice_rules.specs.Extents.{Extent, begun, ends, is_live, open_after}
use Rattle.pg_slice_rules.specs.Freeable.{FreeRegion}
use Rattle.pg_slice_decisions.specs.Open.{AreOpen, is_free_at, left_free}
use Rattle.pg_slice_decisions.specs.Places.{Begins, EntersBlock, has, is_at}
use Rattle.pg_slice_decisions.specs.declared.open.Place.{Place}

-- ---- places

same_tests : (a b d : ℕ) → (a == b) ≡ true → (a == d) ≡ (b == d)
same_tests a b d e = ap (λ k. k == d) (eqb-true a b e)

-- a place that is this one is another where this one is
at_same : (x : Place) (depth block d j : ℕ) → is_at depth block x ≡ true → is_at d j x ≡ (depth == d && block == j)
at_same x depth block d j e =
    let both = and_parts (x.depth == depth) (x.join == block) e in
    ap (λ t. t && (x.join == j)) (same_tests x.depth depth d both.0) ∙ ap (λ t. (depth == d) && t) (same_tests x.join block j both.1)

-- the other places
pub without_has : (xs : List Place) (depth block d j : ℕ) → has (filter (λ e. not (is_at depth block e)) xs) d j ≡ (has xs d j && not (depth == d && block == j))
without_has [] depth block d j = refl
without_has (x ∷ xs) depth block d j = go (is_at depth block x) refl (without_has xs depth block d j)
  where
    rest : List Place
    rest = filter (λ e. not (is_at depth block e)) xs

    gone : (h t r : Bool) → r ≡ (h && not t) → r ≡ ((t || h) && not t)
    gone h true r e = e ∙ no_more h
      where
        no_more : (h : Bool) → (h && false) ≡ false
        no_more true = refl
        no_more false = refl
    gone h false r e = e

    stays : (a h t r : Bool) → (a ≡ true → t ≡ false) → r ≡ (h && not t) → (a || r) ≡ ((a || h) && not t)
    stays true h t r f e = rw (f refl) refl
    stays false h t r f e = e

    apart : (t : Bool) → is_at depth block x ≡ false → (depth == d && block == j) ≡ t → is_at d j x ≡ true → t ≡ false
    apart false n e a = refl
    apart true n e a =
        let b = and_parts (depth == d) (block == j) e in
        let c = and_parts (x.depth == d) (x.join == j) a in
        absurd (true≢false (sym (and_from (x.depth == depth) (x.join == block) (ap (λ k. x.depth == k) (eqb-true depth d b.0) ∙ c.0) (ap (λ k. x.join == k) (eqb-true block j b.1) ∙ c.1))
        ∙ n))

    go : (b : Bool) → is_at depth block x ≡ b → has rest d j ≡ (has xs d j && not (depth == d && block == j))
        → has (filter (λ e. not (is_at depth block e)) (x ∷ xs)) d j ≡ ((is_at d j x || has xs d j) && not (depth == d && block == j))
    go true e h = rw e (rw (at_same x depth block d j e) (gone (has xs d j) (depth == d && block == j) (has rest d j) h))
    go false e h = rw e (stays (is_at d j x) (has xs d j) (depth == d && block == j) (has rest d j) (λ a. apart (depth == d && block == j) e refl a) h)

-- ---- liveness

free_here : (pinned : ℕ → Bool) (e : Extent) → pinned e.step ≡ false → is_free_at pinned e.depth e.join e ≡ true
free_here pinned e p = rw p (and_from (e.depth == e.depth) (e.join == e.join) (eq-eqb e.depth e.depth refl) (eq-eqb e.join e.join refl))

all_pinned : (pinned : ℕ → Bool) (es : List Extent) → ((d j : ℕ) → list_any (is_free_at pinned d j) es ≡ false) → is_live pinned es ≡ true
all_pinned pinned [] h = refl
all_pinned pinned (e ∷ es) h = go (pinned e.step) refl (λ k. all_pinned pinned es k)
  where
    first : (d j : ℕ) → (is_free_at pinned d j e ≡ false) × (list_any (is_free_at pinned d j) es ≡ false)
    first d j = or_parts (is_free_at pinned d j e) (list_any (is_free_at pinned d j) es) (h d j)

    go : (b : Bool) → pinned e.step ≡ b → (((d j : ℕ) → list_any (is_free_at pinned d j) es ≡ false) → is_live pinned es ≡ true) → (pinned e.step && is_live pinned es) ≡ true
    go true p f = rw p (f (λ d j. (first d j).1))
    go false p f = absurd (true≢false (sym (free_here pinned e p) ∙ (first e.depth e.join).0))

one_free : (pinned : ℕ → Bool) (d j : ℕ) (es : List Extent) → list_any (is_free_at pinned d j) es ≡ true → is_live pinned es ≡ false
one_free pinned d j [] h = absurd (true≢false (sym h))
one_free pinned d j (e ∷ es) h = go (pinned e.step) refl (λ k. one_free pinned d j es k)
  where
    go : (b : Bool) → pinned e.step ≡ b → (list_any (is_free_at pinned d j) es ≡ true → is_live pinned es ≡ false) → (pinned e.step && is_live pinned es) ≡ false
    go false p f = rw p refl
    go true p f = rw p (f (rw p at h))

-- a step is live exactly where no place is kept
pub live_by : (places : List Place) (b : Bool) → b ≡ (length places == 0) → (pinned : ℕ → Bool) (es : List Extent) → AreOpen pinned es (has places) → b ≡ is_live pinned es
live_by [] b e pinned es h = e ∙ sym (all_pinned pinned es (λ d j. sym (h d j)))
live_by (x ∷ xs) b e pinned es h =
    e ∙ ne_eqb (length (x ∷ xs)) 0 (λ q. cc) ∙ sym (one_free pinned x.depth x.join es
    (sym (h x.depth x.join) ∙ or_left (is_at x.depth x.join x) (has xs x.depth x.join)
    (and_from (x.depth == x.depth) (x.join == x.join) (eq-eqb x.depth x.depth refl) (eq-eqb x.join x.join refl))))

-- ---- a step

-- with an extent that begins
pub begun_open : (pinned : ℕ → Bool) (es : List Extent) (n depth join : ℕ) (old new : ℕ → ℕ → Bool) → AreOpen pinned es old → pinned n ≡ false
    → ((d j : ℕ) → new d j ≡ ((depth == d && join == j) || old d j)) →
    AreOpen pinned (record { step = n; join = join; depth = depth } ∷ es) new
begun_open pinned es n depth join old new h p k d j = k d j ∙ rw p (ap (λ t. (depth == d && join == j) || t) (h d j))

pinned_open : (pinned : ℕ → Bool) (es : List Extent) (n depth join : ℕ) (old : ℕ → ℕ → Bool) → AreOpen pinned es old → pinned n ≡ true
    → AreOpen pinned (record { step = n; join = join; depth = depth } ∷ es) old
pinned_open pinned es n depth join old h p d j = rw p (h d j)

-- of the extents that go on, those which end somewhere
kept_open : (pinned : ℕ → Bool) (depth block d j : ℕ) (es : List Extent)
    → list_any (is_free_at pinned d j) (filter (λ e. not (ends depth (Some block) e)) es) ≡ (list_any (is_free_at pinned d j) es && not (depth == d && block == j))
kept_open pinned depth block d j [] = refl
kept_open pinned depth block d j (e ∷ es) = go (ends depth (Some block) e) refl (kept_open pinned depth block d j es)
  where
    rest : List Extent
    rest = filter (λ e. not (ends depth (Some block) e)) es

    gone : (a h t r : Bool) → (a ≡ true → t ≡ true) → r ≡ (h && not t) → r ≡ ((a || h) && not t)
    gone true h t r f e = rw (f refl) (rw (f refl) at e ∙ no_more h)
      where
        no_more : (h : Bool) → (h && false) ≡ false
        no_more true = refl
        no_more false = refl
    gone false h t r f e = e

    stays : (a h t r : Bool) → (a ≡ true → t ≡ false) → r ≡ (h && not t) → (a || r) ≡ ((a || h) && not t)
    stays true h t r f e = rw (f refl) refl
    stays false h t r f e = e

    at : is_free_at pinned d j e ≡ true → ((e.depth == d) ≡ true) × ((e.join == j) ≡ true)
    at a = and_parts (e.depth == d) (e.join == j) ((and_parts (not (pinned e.step)) (e.depth == d && e.join == j) a).1)

    here : ends depth (Some block) e ≡ true → is_free_at pinned d j e ≡ true → (depth == d && block == j) ≡ true
    here q a =
        let b = and_parts (e.depth == depth) (e.join == block) q in
        let c = at a in
        and_from (depth == d) (block == j) (sym (same_tests e.depth depth d b.0) ∙ c.0) (sym (same_tests e.join block j b.1) ∙ c.1)

    apart : (t : Bool) → ends depth (Some block) e ≡ false → (depth == d && block == j) ≡ t → is_free_at pinned d j e ≡ true → t ≡ false
    apart false q m a = refl
    apart true q m a =
        let b = and_parts (depth == d) (block == j) m in
        let c = at a in
        absurd (true≢false (sym (and_from (e.depth == depth) (e.join == block) (ap (λ k. e.depth == k) (eqb-true depth d b.0) ∙ c.0) (ap (λ k. e.join == k) (eqb-true block j b.1) ∙ c.1))
        ∙ q))

    go : (b : Bool) → ends depth (Some block) e ≡ b → list_any (is_free_at pinned d j) rest ≡ (list_any (is_free_at pinned d j) es && not (depth == d && block == j)) →
        list_any (is_free_at pinned d j) (filter (λ e. not (ends depth (Some block) e)) (e ∷ es))
        ≡ ((is_free_at pinned d j e || list_any (is_free_at pinned d j) es) && not (depth == d && block == j))
    go true q h = rw q (gone (is_free_at pinned d j e) (list_any (is_free_at pinned d j) es) (depth == d && block == j) (list_any (is_free_at pinned d j) rest) (here q) h)
    go false q h = rw q (stays (is_free_at pinned d j e) (list_any (is_free_at pinned d j) es) (depth == d && block == j) (list_any (is_free_at pinned d j) rest)
        (λ a. apart (depth == d && block == j) q refl a) h)

all_kept : (depth : ℕ) (es : List Extent) → filter (λ e. not (ends depth None e)) es ≡ es
all_kept depth [] = refl
all_kept depth (e ∷ es) = ap (λ l. e ∷ l) (all_kept depth es)

-- by what begins and what is entered
begun_by : (pinned : ℕ → Bool) (es : List Extent) (n depth : ℕ) (region : Option FreeRegion) (free : Option ℕ) (old new : ℕ → ℕ → Bool) → AreOpen pinned es old
    → free ≡ left_free (pinned n) region → Begins depth free old new → AreOpen pinned (begun n depth region es) new
begun_by pinned es n depth region free old new h e k = go (pinned n) refl region (rw (e) at k)
  where
    go : (b : Bool) → pinned n ≡ b → (o : Option FreeRegion) → Begins depth (left_free (pinned n) o) old new → AreOpen pinned (begun n depth o es) new
    go true p None m = λ d j. (rw p at m) d j ∙ h d j
    go true p (Some r) m = λ d j. (rw p at m) d j ∙ pinned_open pinned es n depth r.join old h p d j
    go false p None m = λ d j. (rw p at m) d j ∙ h d j
    go false p (Some r) m = begun_open pinned es n depth r.join old new h p (rw p at m)

pub passed : (pinned : ℕ → Bool) (es : List Extent) (n depth : ℕ) (region : Option FreeRegion) (free edge : Option ℕ) (old between new : ℕ → ℕ → Bool) → AreOpen pinned es old
    → free ≡ left_free (pinned n) region →
    Begins depth free old between → EntersBlock depth edge between new → AreOpen pinned (open_after n depth region edge es) new
passed pinned es n depth region free None old between new h e k m = λ d j. m d j ∙ begun_by pinned es n depth region free old between h e k d j
    ∙ ap (λ l. list_any (is_free_at pinned d j) l) (sym (all_kept depth (begun n depth region es)))
passed pinned es n depth region free (Some block) old between new h e k m = λ d j.
    m d j ∙ ap (λ t. t && not (depth == d && block == j)) (begun_by pinned es n depth region free old between h e k d j) ∙ sym (kept_open pinned depth block d j (begun n depth region es))

-- the places without those of a block that is entered
pub entered_by : (places others : List Place) (depth : ℕ) (block : Option ℕ) (b : ℕ) → block ≡ Some b → others ≡ filter (λ e. not (is_at depth b e)) places
    → EntersBlock depth block (has places) (has others)
entered_by places others depth block b e q = rw e (λ d j. rw q (without_has places depth b d j))
