-- Lists behind commas.
use Rattle.std.proofs.Common.{◌≡◌, ℕ, List, [], ◌∷◌, ◌++◌, refl, ap₂, append-nil, Bool, flat_map, map, codes}
use Rattle.pg_read_grammar.specs.declared.class.Class.TheVariants.{Comma}
use Rattle.pg_read_grammar.specs.Classes.{is}
use Rattle.pg_read_grammar.specs.Language.{Gram, one, many}
use Rattle.pg_read_grammar.specs.Language.{◌>>=◌ as ◌then◌}
use Rattle.pg_read_grammar.specs.Grammar.{separated}
use Rattle.pg_law_canonical.proofs.TokenTexts.{stops}
use Rattle.pg_law_canonical.proofs.ReadAgain.{Again, Fits, anything, then_text, last_text, text_as, spaced, Every, every_more, many_text}
use Rattle.pg_law_canonical.proofs.Tokens.{comma}

pub mark_then : {A B : Type 0} {before : List ℕ → Bool} {P : A → Type 0} {Q : B → Type 0} {g : Gram A} {h : A → Gram B} {text more : List ℕ} → Again anything g text P
    → ((a : A) → P a → Again before (h a) more Q) → Again before (g then h) (text ++ more) Q
mark_then e k = then_text e (λ rest s. refl) k

-- nothing is written of a piece
pub no_text : {A B : Type 0} {before : List ℕ → Bool} {P : A → Type 0} {Q : B → Type 0} {g : Gram A} {h : A → Gram B} {more : List ℕ} → Again before g [] P
    → Fits before more before → ((a : A) → P a → Again before (h a) more Q) → Again before (g then h) more Q
no_text {A} {B} {before} {P} {Q} {g} {h} {more} e fits k = then_text e fits k

pub commas_fit : {A : Type 0} (f : A → List ℕ) (xs : List A) → Fits stops (flat_map (λ y. codes ", " ++ f y) xs) stops
commas_fit f [] rest s = s
commas_fit f (x ∷ xs) rest s = refl

pub commas_text : {A B : Type 0} (g : Gram A) (f : A → List ℕ) (s : A → B) (xs : List A) → Every (λ x. Again stops g (f x) (λ y. s y ≡ s x)) xs
    → Again stops (many (one (is Comma) then (λ c. g))) (flat_map (λ y. codes ", " ++ f y) xs) (λ ys. map s ys ≡ map s xs)
commas_text {A} {B} g f s xs h = many_text _ (λ y. codes ", " ++ f y) s xs (λ x rest i. refl) (every_more _ _ (λ x e. mark_then comma (λ c k. spaced e)) xs h)

pub separated_text : {A B : Type 0} {g : Gram A} (f : A → List ℕ) (s : A → B) (x : A) (xs : List A) → Again stops g (f x) (λ y. s y ≡ s x)
    → Every (λ x. Again stops g (f x) (λ y. s y ≡ s x)) xs → Again stops (separated g) (f x ++ flat_map (λ y. codes ", " ++ f y) xs) (λ ys. map s ys ≡ map s (x ∷ xs))
separated_text {A} {B} {g} f s x xs e h = then_text e (commas_fit f xs) (λ y p. last_text (commas_text g f s xs h) (λ ys q. ap₂ (λ b bs. b ∷ bs) p q))

-- the last of the text
pub end_text : {A B : Type 0} {before : List ℕ → Bool} {P : A → Type 0} {Q : B → Type 0} {g : Gram A} {h : A → Gram B} {text : List ℕ} → Again before g text P
    → ((a : A) → P a → Again before (h a) [] Q) → Again before (g then h) text Q
end_text {A} {B} {before} {P} {Q} {g} {h} {text} e k = text_as (append-nil text) (then_text e (λ rest s. s) k)
