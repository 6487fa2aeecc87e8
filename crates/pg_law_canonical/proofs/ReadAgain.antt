-- Pieces of the grammar whose values are read again from a text.
use Rattle.std.proofs.Common.{◌≡◌, ℕ, ◌<◌, List, [], ◌∷◌, ◌++◌, length, append_assoc, append-nil, refl, sym, ap, subst, ◌∙◌, None, Bool, true, inl, inr, flat_map}
use Rattle.std.proofs.Common.{map, IsTrue}
use Rattle.pg_read_lex.specs.declared.token.TokenKind.{TokenKind}
use Rattle.pg_read_lex.specs.declared.token.Piece.TheVariants.{Gap, Whole}
use Rattle.pg_read_lex.specs.Names.{token_name}
use Rattle.pg_read_lex.specs.Tokens.{piece_of}
use Rattle.pg_read_grammar.specs.declared.token.Token.{Token}
use Rattle.pg_read_grammar.specs.declared.class.Class.{Class}
use Rattle.pg_read_grammar.specs.Language.{Lang, Gram, give, one, ◌or◌, times, many}
use Rattle.pg_read_grammar.specs.Language.{◌>>=◌ as ◌then◌}
use Rattle.pg_read_grammar.specs.Words.{class_of}
use Rattle.pg_law_canonical.proofs.TokenTexts.{In, in_more, in_at, token_in, gap_in, token_at}

-- Behind any front, and before such bytes, the text is read as a value of which P holds.
pub record Again {A : Type 0} (before : List ℕ → Bool) (g : Gram A) (text : List ℕ) (P : A → Type 0) : Type 1 where
  pub again : (K : A → Lang) (front rest : List ℕ) → before rest ≡ true → ((b : A) → P b → In (K b) (front ++ text) rest) → In (g None K) front (text ++ rest)

abbrev pub anything : List ℕ → Bool
anything rest = true

-- before such bytes, this text is such
abbrev pub Fits : (List ℕ → Bool) → List ℕ → (List ℕ → Bool) → Type 0
Fits before text inner = (rest : List ℕ) → before rest ≡ true → inner (text ++ rest) ≡ true

pub given : {A : Type 0} {before : List ℕ → Bool} {P : A → Type 0} {a : A} → P a → Again before (give a) [] P
given {A} {before} {P} {a} p = record { again = λ K front rest s k. in_at (K a) (front ++ []) front rest (append-nil front) (k a p) }

pub then_text : {A B : Type 0} {inner before : List ℕ → Bool} {P : A → Type 0} {Q : B → Type 0} {g : Gram A} {h : A → Gram B} {text more : List ℕ} → Again inner g text P
    → Fits before more inner → ((a : A) → P a → Again before (h a) more Q) → Again before (g then h) (text ++ more) Q
then_text {A} {B} {inner} {before} {P} {Q} {g} {h} {text} {more} e fits k = record {
  again = λ K front rest s j. subst (λ bs. In (g None (λ a. h a None K)) front bs) (sym (append_assoc text more rest))
      (e.again (λ a. h a None K) front (more ++ rest) (fits rest s)
      (λ a p. (k a p).again K (front ++ text) rest s (λ b q. in_at (K b) (front ++ (text ++ more)) ((front ++ text) ++ more) rest (sym (append_assoc front text more)) (j b q))));
}

pub last_text : {A B : Type 0} {before : List ℕ → Bool} {P : A → Type 0} {Q : B → Type 0} {g : Gram A} {f : A → B} {text : List ℕ} → Again before g text P
    → ((a : A) → P a → Q (f a)) → Again before (g then (λ a. give (f a))) text Q
last_text {A} {B} {before} {P} {Q} {g} {f} {text} e k = record { again = λ K front rest s j. e.again (λ a. K (f a)) front rest s (λ a p. j (f a) (k a p)) }

pub left_text : {A : Type 0} {before : List ℕ → Bool} {P : A → Type 0} {g h : Gram A} {text : List ℕ} → Again before g text P → Again before (g or h) text P
left_text {A} {before} {P} {g} {h} {text} e = record { again = λ K front rest s j. in_more (g None K) ((g or h) None K) front (text ++ rest) (λ us l. inl l) (e.again K front rest s j) }

pub right_text : {A : Type 0} {before : List ℕ → Bool} {P : A → Type 0} {g h : Gram A} {text : List ℕ} → Again before h text P → Again before (g or h) text P
right_text {A} {before} {P} {g} {h} {text} e = record { again = λ K front rest s j. in_more (h None K) ((g or h) None K) front (text ++ rest) (λ us l. inr l) (e.again K front rest s j) }

pub weaker : {A : Type 0} {before : List ℕ → Bool} {P Q : A → Type 0} {g : Gram A} {text : List ℕ} → ((a : A) → P a → Q a) → Again before g text P → Again before g text Q
weaker {A} {before} {P} {Q} {g} {text} f e = record { again = λ K front rest s j. e.again K front rest s (λ b p. j b (f b p)) }

-- the same text, written in another way
pub text_as : {A : Type 0} {before : List ℕ → Bool} {P : A → Type 0} {g : Gram A} {text other : List ℕ} → text ≡ other → Again before g text P → Again before g other P
text_as {A} {before} {P} {g} e a = subst (λ bs. Again before g bs P) e a

-- ---- blanks

space_piece : (rest : List ℕ) → piece_of (32 ∷ rest) ≡ Gap 1
unfolding piece_of
space_piece rest = refl

feed_piece : (rest : List ℕ) → piece_of (10 ∷ rest) ≡ Gap 1
unfolding piece_of
feed_piece rest = refl

-- a space before the text
pub spaced : {A : Type 0} {before : List ℕ → Bool} {P : A → Type 0} {g : Gram A} {text : List ℕ} → Again before g text P → Again before g (32 ∷ text) P
spaced {A} {before} {P} {g} {text} e = record {
  again = λ K front rest s j. gap_in (g None K) front (text ++ rest) 32 (space_piece (text ++ rest))
      (e.again K (front ++ 32 ∷ []) rest s (λ a p. in_at (K a) (front ++ 32 ∷ text) ((front ++ 32 ∷ []) ++ text) rest (sym (append_assoc front (32 ∷ []) text)) (j a p)));
}

-- a line feed behind the text
pub fed : {A : Type 0} {before : List ℕ → Bool} {P : A → Type 0} {g : Gram A} {text : List ℕ} → Fits anything (10 ∷ []) before → Again before g text P
    → Again anything g (text ++ 10 ∷ []) P
fed {A} {before} {P} {g} {text} fits e = record {
  again = λ K front rest s j. subst (λ bs. In (g None K) front bs) (sym (append_assoc text (10 ∷ []) rest))
      (e.again K front (10 ∷ rest) (fits rest s) (λ b p. gap_in (K b) (front ++ text) rest 10 (feed_piece rest)
      (in_at (K b) (front ++ (text ++ 10 ∷ [])) ((front ++ text) ++ 10 ∷ []) rest (sym (append_assoc front text (10 ∷ []))) (j b p))));
}

-- ---- tokens

-- a token of a class, which stands for these bytes
pub record IsToken (class : Class) (text : List ℕ) (t : Token) : Type 0 where
  pub class_is : t.class ≡ class
  pub text_is : t.text ≡ text

pub token_text : {before : List ℕ → Bool} (test : Class → Bool) (kind : TokenKind) (w : List ℕ) → 0 < length w
    → ((rest : List ℕ) → before rest ≡ true → piece_of (w ++ rest) ≡ Whole kind (length w)) → IsTrue (test (class_of kind (token_name kind w)))
    → Again before (one test) w (IsToken (class_of kind (token_name kind w)) (token_name kind w))
token_text {before} test kind w h p i = record {
  again = λ K front rest s j. token_in (one test None K) front w rest kind h (p rest s)
      (in_more (K (token_at front w kind)) (λ us. one test None K (token_at front w kind ∷ us)) (front ++ w) rest (λ us l. (token_at front w kind, us, refl, i, l))
      (j (token_at front w kind) (record { class_is = refl; text_is = refl })));
}

-- ---- lists

-- P holds of each element
abbrev pub Every : {A : Type 0} → (A → Type 1) → List A → Type 1
Every P [] = Unit {1}
Every P (x ∷ xs) = P x × Every P xs

pub every_more : {A : Type 0} (P Q : A → Type 1) → ((x : A) → P x → Q x) → (xs : List A) → Every P xs → Every Q xs
every_more P Q f [] h = tt
every_more P Q f (x ∷ xs) h = (f x h.0, every_more P Q f xs h.1)

times_text : {A B : Type 0} {before : List ℕ → Bool} (g : Gram A) (f : A → List ℕ) (s : A → B) (xs : List A) → ((x : A) → Fits before (f x) before)
    → Every (λ x. Again before g (f x) (λ y. s y ≡ s x)) xs → Again before (times g (length xs)) (flat_map f xs) (λ ys. map s ys ≡ map s xs)
times_text {A} {B} {before} g f s [] heads h = given refl
times_text {A} {B} {before} g f s (x ∷ xs) heads h = then_text h.0 (fits xs) (λ y e. last_text (times_text g f s xs heads h.1) (λ ys es. ap (λ b. b ∷ map s ys) e ∙ ap (λ bs. s x ∷ bs) es))
  where
    fits : (zs : List A) → Fits before (flat_map f zs) before
    fits [] rest i = i
    fits (z ∷ zs) rest i = rw (append_assoc (f z) (flat_map f zs) rest) (heads z (flat_map f zs ++ rest) (fits zs rest i))

pub many_text : {A B : Type 0} {before : List ℕ → Bool} (g : Gram A) (f : A → List ℕ) (s : A → B) (xs : List A) → ((x : A) → Fits before (f x) before)
    → Every (λ x. Again before g (f x) (λ y. s y ≡ s x)) xs → Again before (many g) (flat_map f xs) (λ ys. map s ys ≡ map s xs)
many_text {A} {B} {before} g f s xs heads h = record {
  again = λ K front rest i j. in_more (times g (length xs) None K) (many g None K) front (flat_map f xs ++ rest) (λ us l. (length xs, l)) ((times_text g f s xs heads h).again K front rest i j);
}

-- none of them
pub none_text : {A : Type 0} {before : List ℕ → Bool} (g : Gram A) → Again before (many g) [] (λ ys. ys ≡ [])
none_text {A} {before} g = record {
  again = λ K front rest i j. in_more (times g 0 None K) (many g None K) front rest (λ us l. (0, l)) (in_at (K []) (front ++ []) front rest (append-nil front) (j [] refl));
}

-- a line feed before the text
pub lined : {A : Type 0} {before : List ℕ → Bool} {P : A → Type 0} {g : Gram A} {text : List ℕ} → Again before g text P → Again before g (10 ∷ text) P
lined {A} {before} {P} {g} {text} e = record {
  again = λ K front rest s j. gap_in (g None K) front (text ++ rest) 10 (feed_piece (text ++ rest))
      (e.again K (front ++ 10 ∷ []) rest s (λ a p. in_at (K a) (front ++ 10 ∷ text) ((front ++ 10 ∷ []) ++ text) rest (sym (append_assoc front (10 ∷ []) text)) (j a p)));
}
