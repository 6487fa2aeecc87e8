-- Steps that are in each thread the first of other steps, along the same turns: their events and replies are the first of theirs.
use Rattle.std.proofs.Common.{◌≡◌, ℕ, Bool, true, false, List, [], ◌∷◌, ◌++◌, length, map, drop, Option, Some, None, refl, sym, ap, ◌∙◌, subst, arith, append-nil}
use Rattle.std.specs.Prelude.{filter, ◌==◌, if◌then◌else◌}
use Rattle.std.specs.List.{cons_option}
use Rattle.std.proofs.lemmas.List.{length-append}
use Rattle.std.proofs.lemmas.List.Elements.{filter-append}
use Rattle.pg_run_trace.specs.declared.step.Happening.{Happening}
use Rattle.pg_run_trace.specs.declared.step.Step.{Step}
use Rattle.pg_run_trace.specs.declared.turn.Turn.{Turn}
use Rattle.pg_run_trace.specs.Races.{recorded, reply_in}
use Rattle.pg_run_trace.specs.Steps.{event_of, events, happening_in, turn_at}
use Rattle.pg_run.specs.Permitted.{has_turn}
use Rattle.pg_run.proofs.GuidedRuns.{same_as_itself, same_number}
use Rattle.pg_law_runs.specs.pg_law_effects.PermittedSteps.{turns_behind}
use Rattle.pg_law_runs.specs.Cuts.{IsFrontOf, steps_by}
use Rattle.pg_law_runs.specs.LastTurns.{until_last}
use Rattle.pg_law_order.specs.Good.{replies_of}
use Rattle.pg_law_runs.specs.Answered.{answered}
use Rattle.pg_law_order.proofs.RepliesOfSteps.{first_replies, no_reply}

-- ---- fronts

pub front_of_front : {A : Type 0} (xs ys zs : List A) → IsFrontOf xs ys → IsFrontOf ys zs → IsFrontOf xs zs
front_of_front {A} xs ys zs f g = (f.0 ++ g.0, append_parts xs f.0 g.0 ∙ ap (λ (l : List A). l ++ g.0) f.1 ∙ g.1)
  where
    append_parts : (a b c : List A) → a ++ (b ++ c) ≡ (a ++ b) ++ c
    append_parts [] b c = refl
    append_parts (x ∷ a) b c = ap (λ (l : List A). x ∷ l) (append_parts a b c)

-- each the front of the other
pub fronts_same : {A : Type 0} (xs ys : List A) → IsFrontOf xs ys → IsFrontOf ys xs → xs ≡ ys
fronts_same {A} xs ys f g = sym (append-nil xs) ∙ ap (λ (l : List A). xs ++ l)
    (sym (none f.0 (let a = ap (λ (l : List A). length l) f.1 in let b = ap (λ (l : List A). length l) g.1 in let c = length-append xs f.0 in let d = length-append ys g.0 in
    omega (arith, a, b, c, d)))) ∙ f.1
  where
    none : (l : List A) → length l ≡ 0 → l ≡ []
    none [] e = refl
    none (x ∷ l) e = absurd (omega (arith, e))

map_front : {A B : Type 0} (f : A → B) (xs ys : List A) → IsFrontOf xs ys → IsFrontOf (map f xs) (map f ys)
map_front {A} {B} f xs ys h = (map f h.0, parts xs h.0 ∙ ap (map f) h.1)
  where
    parts : (a b : List A) → map f a ++ map f b ≡ map f (a ++ b)
    parts [] b = refl
    parts (x ∷ a) b = ap (λ (l : List B). f x ∷ l) (parts a b)

-- ---- filters

kept_one : (f : Step → Bool) (x : Step) (xs : List Step) → f x ≡ true → filter f (x ∷ xs) ≡ x ∷ filter f xs
kept_one f x xs e = rw e refl

left_one : (f : Step → Bool) (x : Step) (xs : List Step) → f x ≡ false → filter f (x ∷ xs) ≡ filter f xs
left_one f x xs e = rw e refl

swapped : (f g : Step → Bool) (xs : List Step) → filter f (filter g xs) ≡ filter g (filter f xs)
swapped f g [] = refl
swapped f g (x ∷ xs) = go (f x) (g x) refl refl (swapped f g xs)
  where
    go : (a b : Bool) → f x ≡ a → g x ≡ b → filter f (filter g xs) ≡ filter g (filter f xs) → filter f (filter g (x ∷ xs)) ≡ filter g (filter f (x ∷ xs))
    go true true e h ih =
        ap (λ (l : List Step). filter f l) (kept_one g x xs h) ∙ kept_one f x (filter g xs) e ∙ ap (λ (l : List Step). x ∷ l) ih
        ∙ sym (kept_one g x (filter f xs) h) ∙ ap (λ (l : List Step). filter g l) (sym (kept_one f x xs e))
    go true false e h ih = ap (λ (l : List Step). filter f l) (left_one g x xs h) ∙ ih ∙ sym (left_one g x (filter f xs) h) ∙ ap (λ (l : List Step). filter g l) (sym (kept_one f x xs e))
    go false true e h ih = ap (λ (l : List Step). filter f l) (kept_one g x xs h) ∙ left_one f x (filter g xs) e ∙ ih ∙ ap (λ (l : List Step). filter g l) (sym (left_one f x xs e))
    go false false e h ih = ap (λ (l : List Step). filter f l) (left_one g x xs h) ∙ ih ∙ ap (λ (l : List Step). filter g l) (sym (left_one f x xs e))

filter_front : (f : Step → Bool) (xs ys : List Step) → IsFrontOf xs ys → IsFrontOf (filter f xs) (filter f ys)
filter_front f xs ys h = (filter f h.0, sym (filter-append f xs h.0) ∙ ap (λ (l : List Step). filter f l) h.1)

-- ---- the events of steps

abbrev told : List Step → List Step
told xs = filter recorded.is_event xs

abbrev owner_of : Step → ℕ
owner_of x = x.thread.0

abbrev turn_owner : Turn → ℕ
turn_owner u = u.thread.0

told_owners : (xs : List Step) → map owner_of (told xs) ≡ map turn_owner (events xs)
told_owners [] = refl
told_owners (x ∷ xs) = go (happening_in x.kind) refl (told_owners xs)
  where
    go : (o : Option Happening) → happening_in x.kind ≡ o → map owner_of (told xs) ≡ map turn_owner (events xs) → map owner_of (told (x ∷ xs)) ≡ map turn_owner (events (x ∷ xs))
    go None e ih = rw e ih
    go (Some h) e ih = rw e (ap (λ (l : List ℕ). x.thread.0 ∷ l) ih)

told_front : (t : ℕ) (xs ys : List Step) → IsFrontOf (steps_by t xs) (steps_by t ys) → IsFrontOf (steps_by t (told xs)) (steps_by t (told ys))
told_front t xs ys h =
    let f = filter_front recorded.is_event (steps_by t xs) (steps_by t ys) h in
    let own : Step → Bool = λ x. t == x.thread.0 in
    (f.0, ap (λ (l : List Step). l ++ f.0) (swapped own recorded.is_event xs) ∙ f.1 ∙ swapped recorded.is_event own ys)

-- ---- steps of which the owners are the first of one list

abbrev AreFirst : List Step → List Step → Type 0
AreFirst xs ys = (t : ℕ) → IsFrontOf (steps_by t xs) (steps_by t ys)

module _ (x y : Step) (xs ys : List Step) (owner : x.thread.0 ≡ y.thread.0) (h : AreFirst (x ∷ xs) (y ∷ ys)) where
  first : x ∷ (steps_by x.thread.0 xs ++ (h x.thread.0).0) ≡ y ∷ steps_by x.thread.0 ys
  first =
      ap (λ (l : List Step). l ++ (h x.thread.0).0) (sym (kept_one (λ (i : Step). x.thread.0 == i.thread.0) x xs (same_as_itself x.thread.0)))
      ∙ (h x.thread.0).1
      ∙ kept_one (λ (i : Step). x.thread.0 == i.thread.0) y ys (ap (λ (n : ℕ). x.thread.0 == n) (sym owner) ∙ same_as_itself x.thread.0)

  same_step : x ≡ y
  same_step = let k = first in cc

  later : AreFirst xs ys
  later t = go (t == x.thread.0) refl
    where
      go : (b : Bool) → (t == x.thread.0) ≡ b → IsFrontOf (steps_by t xs) (steps_by t ys)
      go true e = subst (λ (n : ℕ). IsFrontOf (steps_by n xs) (steps_by n ys)) (sym (same_number t x.thread.0 e)) ((h x.thread.0).0, let k = first in cc)
      go false e = (
        (h t).0,
        ap (λ (l : List Step). l ++ (h t).0) (sym (left_one (λ (i : Step). t == i.thread.0) x xs e)) ∙ (h t).1
            ∙ left_one (λ (i : Step). t == i.thread.0) y ys (ap (λ (n : ℕ). t == n) (sym owner) ∙ e),
      )

one_owner : (t a b : ℕ) (ts ms ns : List ℕ) → a ∷ ms ≡ t ∷ ts → b ∷ ns ≡ t ∷ ts → a ≡ b
one_owner t a b ts ms ns f g = cc

no_more : (a b : ℕ) (ms ns : List ℕ) → a ∷ ms ≡ b ∷ ns → ms ≡ ns
no_more a b ms ns e = cc

nothing_first : (x : Step) (xs : List Step) → AreFirst (x ∷ xs) [] → ⊥
nothing_first x xs h =
    let a : x ∷ (steps_by x.thread.0 xs ++ (h x.thread.0).0) ≡ [] =
    ap (λ (l : List Step). l ++ (h x.thread.0).0) (sym (kept_one (λ (y : Step). x.thread.0 == y.thread.0) x xs (same_as_itself x.thread.0))) ∙ (h x.thread.0).1 in
    absurd cc

more_first : (x y : Step) (xs ys : List Step) → x ≡ y → IsFrontOf xs ys → IsFrontOf (x ∷ xs) (y ∷ ys)
more_first x y xs ys e h = (h.0, ap (λ (i : Step). i ∷ (xs ++ h.0)) e ∙ ap (λ (l : List Step). y ∷ l) h.1)

same_order : (ts : List ℕ) (xs ys : List Step) → IsFrontOf (map owner_of xs) ts → IsFrontOf (map owner_of ys) ts → AreFirst xs ys → IsFrontOf xs ys
same_order ts [] ys f g h = (ys, refl)
same_order ts (x ∷ xs) [] f g h = absurd (nothing_first x xs h)
same_order [] (x ∷ xs) (y ∷ ys) f g h = absurd (let k = f.1 in cc)
same_order (t ∷ ts) (x ∷ xs) (y ∷ ys) f g h =
    let owner : x.thread.0 ≡ y.thread.0 = one_owner t x.thread.0 y.thread.0 ts (map owner_of xs ++ f.0) (map owner_of ys ++ g.0) f.1 g.1 in
    more_first x y xs ys (same_step x y xs ys owner h)
    (same_order ts xs ys (f.0, no_more x.thread.0 t (map owner_of xs ++ f.0) ts f.1) (g.0, no_more y.thread.0 t (map owner_of ys ++ g.0) ts g.1) (later x y xs ys owner h))

pub replies_first : (turns : List Turn) (xs ys : List Step) → IsFrontOf (events xs) turns → IsFrontOf (events ys) turns → ((t : ℕ) → IsFrontOf (steps_by t xs) (steps_by t ys))
    → IsFrontOf (replies_of xs) (replies_of ys)
replies_first turns xs ys f g h =
    let a = map_front turn_owner (events xs) turns f in
    let b = map_front turn_owner (events ys) turns g in
    let c : IsFrontOf (told xs) (told ys) = same_order (map turn_owner turns) (told xs) (told ys)
    (subst (λ (l : List ℕ). IsFrontOf l (map turn_owner turns)) (sym (told_owners xs)) a) (subst (λ (l : List ℕ). IsFrontOf l (map turn_owner turns)) (sym (told_owners ys)) b)
    (λ t. told_front t xs ys (h t)) in
    first_replies xs ys (map_front answered (told xs) (told ys) c)

-- ---- up to each thread's last turn

-- all events are there, and so all replies
module _ (us : List Turn) (x : Step) (xs : List Step) (e : us ≡ events (x ∷ xs)) (later : (vs : List Turn) → vs ≡ events xs → replies_of (until_last vs xs) ≡ replies_of xs) where
  abbrev rest : List Step
  rest = until_last (turns_behind (event_of x) us) xs

  plain : happening_in x.kind ≡ None → (b : Bool) → replies_of (if b then x ∷ rest else rest) ≡ replies_of (x ∷ xs)
  plain k b = by b (ap (turn_at x) k)
    where
      ih : event_of x ≡ None → replies_of rest ≡ replies_of xs
      ih none = later (turns_behind (event_of x) us) (ap (λ (v : Option Turn). turns_behind v us) none ∙ e ∙ ap (λ (v : Option Turn). cons_option v (events xs)) none)

      by : (b : Bool) → event_of x ≡ None → replies_of (if b then x ∷ rest else rest) ≡ replies_of (x ∷ xs)
      by true n = ap (λ (l : List ℕ). cons_option (reply_in x.kind) l) (ih n)
      by false n = ih n ∙ ap (λ (r : Option ℕ). cons_option r (replies_of xs)) (sym (no_reply x.kind k))

  event : (h : Happening) → happening_in x.kind ≡ Some h → replies_of (until_last us (x ∷ xs)) ≡ replies_of (x ∷ xs)
  event h k = ap (λ (b : Bool). replies_of (if b then x ∷ rest else rest)) has ∙ ap (λ (l : List ℕ). cons_option (reply_in x.kind) l) ih
    where
      some : event_of x ≡ turn_at x (Some h)
      some = ap (turn_at x) k

      turns_are : us ≡ cons_option (turn_at x (Some h)) (events xs)
      turns_are = e ∙ ap (λ (v : Option Turn). cons_option v (events xs)) some

      ih : replies_of rest ≡ replies_of xs
      ih = later (turns_behind (event_of x) us) (ap (λ (v : Option Turn). turns_behind v us) some ∙ ap (λ (l : List Turn). drop 1 l) turns_are)

      has : has_turn x.thread.0 us ≡ true
      has = ap (λ (l : List Turn). has_turn x.thread.0 l) turns_are ∙ (let k : (x.thread.0 == x.thread.0) ≡ true = same_as_itself x.thread.0 in rw k refl)

  by_event : (o : Option Happening) → happening_in x.kind ≡ o → replies_of (until_last us (x ∷ xs)) ≡ replies_of (x ∷ xs)
  by_event None k = plain k (has_turn x.thread.0 us)
  by_event (Some h) k = event h k

pub until_replies : (us : List Turn) (xs : List Step) → us ≡ events xs → replies_of (until_last us xs) ≡ replies_of xs
until_replies us [] e = refl
until_replies us (x ∷ xs) e = by_event us x xs e (λ vs. until_replies vs xs) (happening_in x.kind) refl
