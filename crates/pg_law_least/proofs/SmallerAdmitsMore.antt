-- What a larger closed set admits a smaller one admits; and what is known stays known.
use Rattle.std.proofs.Common.{◌≡◌, ℤ, Bool, true, List, [], ◌∷◌, refl, sym, ap, ◌∙◌, subst, inl, inr, ◌⊎◌}
use Rattle.std.specs.Prelude.{Contains}
use Rattle.std.specs.List.{AllZip, list_all}
use Rattle.std.proofs.lemmas.Bool.{and_parts, and_from}
use Rattle.std.proofs.lemmas.List.Elements.{Contains-append_cases, Contains-append_left, Contains-append_right}
use Rattle.pg_precondition.specs.declared.check.Test.{Test}
use Rattle.pg_precondition.specs.Values.{is_met}
use Rattle.pg_slice_rules.specs.SymbolicValues.{OnInput, Symbolic, Known, Bounded, Unknown, unset}
use Rattle.pg_slice_rules.specs.Known.{Reference, Seen, Taken, seen_in}
use Rattle.pg_slice_rules.specs.Rules.{Condition, Need, Value, Bounds, all_of, bounds_needs, need_conditions, registers_before, value_needs}
use Rattle.pg_slice_rules.specs.Closed.{AreWithin, admits, conditions, conditions_at}
use Rattle.pg_law_least.specs.Keeps.{ExtentsKeep}
use Rattle.pg_law_least.specs.Laws.{StayKnown}
use Rattle.pg_law_least.proofs.AlikeLists.{index_like}
use Rattle.pg_region_paths.proofs.Elements.{cases as cases_in, here, none_in, there}
use Rattle.pg_law_least.proofs.KeptLikeness.{IsLink}
use Rattle.pg_law_least.proofs.LikeValues.{Likes, likes_link}
use Rattle.pg_law_least.proofs.AskedOfValues.{NeedLike, NeedsWithin, SeenLike, bounds_within, values_within}
use Rattle.pg_law_least.proofs.EachStep.{run_like}
use Rattle.pg_law_least.proofs.AskedDecisions.{all_in, in_all_of, of_all}
use Rattle.pg_law_least.proofs.InLargerClosedSets.{partner}

-- ---- conditions that hold

all_hold : {A : Type 0} (f : A → Bool) (xs : List A) (x : A) → list_all f xs ≡ true → Contains xs x → f x ≡ true
all_hold f [] x h c = absurd (none_in x c)
all_hold f (y ∷ xs) x h c = go (cases_in y xs x c) (λ c. all_hold f xs x (and_parts (f y) (list_all f xs) h).1 c)
  where
    go : (y ≡ x) ⊎ Contains xs x → (Contains xs x → f x ≡ true) → f x ≡ true
    go (inl e) more = rw (← e) (and_parts (f y) (list_all f xs) h).0
    go (inr c) more = more c

hold_all : {A : Type 0} (f : A → Bool) (xs : List A) → ((x : A) → Contains xs x → f x ≡ true) → list_all f xs ≡ true
hold_all f [] h = refl
hold_all f (y ∷ xs) h = and_from (f y) (list_all f xs) (h y (here y xs)) (hold_all f xs (λ x c. h x (there y xs x c)))

module _ (e : Taken) (input : List ℤ) where
  abbrev IsMet : Condition → Type 0
  IsMet c = is_met c.test (c.value input) ≡ true

  -- the same word that meets the same test
  word_met : (h g : OnInput) (b a : Test) → h ≡ g → b ≡ a → IsMet (record { value = h; test = b }) → IsMet (record { value = g; test = a })
  word_met h g b a e f m = subst (λ (k : OnInput). IsMet (record { value = k; test = a })) e (subst (λ (t : Test). IsMet (record { value = h; test = t })) f m)

  need_met : (a b : Need) → NeedLike (Likes e) a b → ((c : Condition) → Contains (need_conditions b) c → IsMet c) →
      (c : Condition) → Contains (need_conditions a) c → IsMet c
  need_met (Value (Known f g) a) (Value t b) h met c q =
      met c (subst (λ (z : Need). Contains (need_conditions z) c) (sym (ap (λ (s : Symbolic). Value s b) h.0 ∙ ap (Value (Known f g)) h.1)) q)
  need_met (Value (Bounded g x) a) (Value t b) h met c q = absurd (none_in c q)
  need_met (Value (Unknown x) a) (Value t b) h met c q = absurd (none_in c q)
  need_met (Value s a) (Bounds t b) h met c q = absurd h
  need_met (Bounds s a) (Value t b) h met c q = absurd h
  need_met (Bounds (Known f g) a) (Bounds t b) h met c q =
      met c (subst (λ (z : Need). Contains (need_conditions z) c) (sym (ap (λ (s : Symbolic). Bounds s b) h.0 ∙ ap (Bounds (Known f g)) h.1)) q)
  need_met (Bounds (Bounded g x) a) (Bounds (Known u w) b) h met c q = only (cases_in _ [] c q)
    where
      only : (record { value = g; test = a } ≡ c) ⊎ Contains [] c → IsMet c
      only (inl f) = subst IsMet f (word_met w g b a h.0.0 h.1 (met (record { value = w; test = b }) (here (record { value = w; test = b }) [])))
      only (inr n) = absurd (none_in c n)
  need_met (Bounds (Bounded g x) a) (Bounds (Bounded u y) b) h met c q = only (cases_in _ [] c q)
    where
      only : (record { value = g; test = a } ≡ c) ⊎ Contains [] c → IsMet c
      only (inl f) = subst IsMet f (word_met u g b a h.0 h.1 (met (record { value = u; test = b }) (here (record { value = u; test = b }) [])))
      only (inr n) = absurd (none_in c n)
  need_met (Bounds (Bounded g x) a) (Bounds (Unknown y) b) h met c q = absurd h.0
  need_met (Bounds (Unknown x) a) (Bounds t b) h met c q = absurd (none_in c q)

  needs_met : (ns ms : List Need) → NeedsWithin (Likes e) ns ms →
      ((c : Condition) → Contains (all_of need_conditions ms) c → IsMet c) → (c : Condition) → Contains (all_of need_conditions ns) c → IsMet c
  needs_met ns ms h met c q =
      let a = in_all_of need_conditions ns c q in
      let b = all_in (λ (a : Need). (b : Need) × Contains ms b × NeedLike (Likes e) a b) ns a.0 h a.1 in
      need_met a.0 b.0 b.2 (λ c f. met c (of_all need_conditions ms b.0 c b.1 f)) c a.2

module _ (R : Reference) (d e : Taken) (input : List ℤ) (within : AreWithin d e) (alike : AllZip (SeenLike (Likes e)) (seen_in R d) (seen_in R e)) where
  link : IsLink d e 0 (Likes e)
  link = likes_link d e 0 within

  seen_met : (x y : Seen) → SeenLike (Likes e) x y → ((c : Condition) → Contains (conditions_at R e y) c → is_met c.test (c.value input) ≡ true) →
      (c : Condition) → Contains (conditions_at R d x) c → is_met c.test (c.value input) ≡ true
  seen_met x y h met c q = go (Contains-append_cases (all_of need_conditions (value_needs R d x)) (all_of need_conditions (bounds_needs R x)) c q)
    where
      go : Contains (all_of need_conditions (value_needs R d x)) c ⊎ Contains (all_of need_conditions (bounds_needs R x)) c → is_met c.test (c.value input) ≡ true
      go (inl f) = needs_met e input (value_needs R d x) (value_needs R e y) (values_within R d e 0 (Likes e) link x y h)
          (λ c f. met c (Contains-append_left (all_of need_conditions (value_needs R e y)) (all_of need_conditions (bounds_needs R y)) c f)) c f
      go (inr f) = needs_met e input (bounds_needs R x) (bounds_needs R y) (bounds_within R d e 0 (Likes e) link x y h)
          (λ c f. met c (Contains-append_right (all_of need_conditions (value_needs R e y)) (all_of need_conditions (bounds_needs R y)) c f)) c f

  conditions_met : ((c : Condition) → Contains (all_of (conditions_at R e) (seen_in R e)) c → is_met c.test (c.value input) ≡ true) → (c : Condition) →
      Contains (all_of (conditions_at R d) (seen_in R d)) c → is_met c.test (c.value input) ≡ true
  conditions_met met c q =
      let x = in_all_of (conditions_at R d) (seen_in R d) c q in
      let y = partner (SeenLike (Likes e)) (seen_in R d) (seen_in R e) x.0 alike x.1 in
      seen_met x.0 y.0 y.2 (λ c f. met c (of_all (conditions_at R e) (seen_in R e) y.0 c y.1 f)) c x.2

pub admits_more : (R : Reference) → ExtentsKeep R → (d e : Taken) → AreWithin d e → (input : List ℤ) → admits R e input ≡ true → admits R d input ≡ true
unfolding admits conditions
admits_more R keeps d e within input h =
    hold_all (λ (c : Condition). is_met c.test (c.value input)) (all_of (conditions_at R d) (seen_in R d))
    (conditions_met R d e input within (run_like R keeps d e (Likes e) (likes_link d e _ within))
    (λ c q. all_hold (λ (c : Condition). is_met c.test (c.value input)) (all_of (conditions_at R e) (seen_in R e)) c h q))

-- ---- what is known

like_known : (e : Taken) (s t : Symbolic) (f g : OnInput) → Likes e s t → s ≡ Known f g → t ≡ Known f g
like_known e s t f g h q = subst (λ (s : Symbolic). Likes e s t) q h

stay_known : (e : Taken) (x y : Seen) → SeenLike (Likes e) x y → StayKnown x y
stay_known e x y h = record {
  registers = λ live r f g. like_known e _ _ f g (index_like (Likes e) (registers_before x) (registers_before y) r unset refl (h.registers live));
  bytes = λ b f g. like_known e _ _ f g (h.bytes b);
  words = λ t f g. like_known e _ _ f g (index_like (Likes e) x.before.words y.before.words t unset refl h.words);
}

zip_more : {A : Type 0} (P Q : A → A → Type 0) (xs ys : List A) → ((x y : A) → P x y → Q x y) → AllZip P xs ys → AllZip Q xs ys
zip_more P Q [] [] h k = tt
zip_more P Q [] (y ∷ ys) h k = absurd k
zip_more P Q (x ∷ xs) [] h k = absurd k
zip_more P Q (x ∷ xs) (y ∷ ys) h k = (h x y k.0, zip_more P Q xs ys h k.1)

pub known_stays : (R : Reference) → ExtentsKeep R → (d e : Taken) → AreWithin d e → AllZip StayKnown (seen_in R d) (seen_in R e)
known_stays R keeps d e within = zip_more (SeenLike (Likes e)) StayKnown (seen_in R d) (seen_in R e) (λ x y h. stay_known e x y h) (run_like R keeps d e (Likes e) (likes_link d e _ within))
