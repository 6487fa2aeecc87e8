-- The options one by one, and which of them a list of pieces may still have.
use Rattle.std.proofs.Common.{◌≡◌, ◌⊎◌, inl, inr, ◌≤◌, arith, ℕ, zero, suc, Bool, cond, true, false, refl, sym, ap, subst, List, [], ◌∷◌, length, codes, Some, None, ◌||◌}
use Rattle.std.specs.List.{cons_option}
use Rattle.std.specs.Str.{bytes_eq}
use Rattle.std.proofs.lemmas.Bool.{eqb-true}
use Rattle.pg_commands_words.specs.Pieces.{Piece, Word, long_name, place_of, same_option, use_of, uses_of}
use Rattle.pg_commands_words.specs.Lines.{has_seen, nothing_seen, seen_more}
use Rattle.pg_commands_words.specs.declared.names.OptionName.{OptionName}
use Rattle.pg_commands_words.specs.declared.names.OptionName.TheVariants.{Quantum, Seed, Free, Book, Only, Json}
use Rattle.pg_commands_words.specs.declared.positions.Seen.{Seen}

false≢true : false ≡ true → ⊥
false≢true e = cc

-- ---- two options

abbrev at_place : ℕ → OptionName
at_place zero = Quantum
at_place (suc zero) = Seed
at_place (suc (suc zero)) = Free
at_place (suc (suc (suc zero))) = Book
at_place (suc (suc (suc (suc zero)))) = Only
at_place (suc (suc (suc (suc (suc n))))) = Json

there : (o : OptionName) → at_place (place_of o) ≡ o
there Quantum = refl
there Seed = refl
there Free = refl
there Book = refl
there Only = refl
there Json = refl

pub same-is : (o p : OptionName) → same_option o p ≡ true → o ≡ p
same-is o p e = subst (λ q. q ≡ p) (there o) (subst (λ q. at_place (place_of o) ≡ q) (there p) (ap at_place (eqb-true (place_of o) (place_of p) e)))

pub same-itself : (o : OptionName) → same_option o o ≡ true
same-itself Quantum = refl
same-itself Seed = refl
same-itself Free = refl
same-itself Book = refl
same-itself Only = refl
same-itself Json = refl

-- names are told apart as the options are
pub names-apart : (o p : OptionName) → bytes_eq (long_name o) (long_name p) ≡ same_option p o
names-apart Quantum Quantum = refl
names-apart Quantum Seed = refl
names-apart Quantum Free = refl
names-apart Quantum Book = refl
names-apart Quantum Only = refl
names-apart Quantum Json = refl
names-apart Seed Quantum = refl
names-apart Seed Seed = refl
names-apart Seed Free = refl
names-apart Seed Book = refl
names-apart Seed Only = refl
names-apart Seed Json = refl
names-apart Free Quantum = refl
names-apart Free Seed = refl
names-apart Free Free = refl
names-apart Free Book = refl
names-apart Free Only = refl
names-apart Free Json = refl
names-apart Book Quantum = refl
names-apart Book Seed = refl
names-apart Book Free = refl
names-apart Book Book = refl
names-apart Book Only = refl
names-apart Book Json = refl
names-apart Only Quantum = refl
names-apart Only Seed = refl
names-apart Only Free = refl
names-apart Only Book = refl
names-apart Only Only = refl
names-apart Only Json = refl
names-apart Json Quantum = refl
names-apart Json Seed = refl
names-apart Json Free = refl
names-apart Json Book = refl
names-apart Json Only = refl
names-apart Json Json = refl

pub no-words : (o : OptionName) → bytes_eq (long_name o) (codes "words") ≡ false
no-words Quantum = refl
no-words Seed = refl
no-words Free = refl
no-words Book = refl
no-words Only = refl
no-words Json = refl

pub words-no : (o : OptionName) → bytes_eq (codes "words") (long_name o) ≡ false
words-no Quantum = refl
words-no Seed = refl
words-no Free = refl
words-no Book = refl
words-no Only = refl
words-no Json = refl

-- ---- what was seen

pub none-seen : (o : OptionName) → has_seen nothing_seen o ≡ false
none-seen Quantum = refl
none-seen Seed = refl
none-seen Free = refl
none-seen Book = refl
none-seen Only = refl
none-seen Json = refl

pub more-seen : (s : Seen) (o p : OptionName) → has_seen (seen_more s o) p ≡ (same_option p o || has_seen s p)
more-seen s Quantum Quantum = refl
more-seen s Quantum Seed = refl
more-seen s Quantum Free = refl
more-seen s Quantum Book = refl
more-seen s Quantum Only = refl
more-seen s Quantum Json = refl
more-seen s Seed Quantum = refl
more-seen s Seed Seed = refl
more-seen s Seed Free = refl
more-seen s Seed Book = refl
more-seen s Seed Only = refl
more-seen s Seed Json = refl
more-seen s Free Quantum = refl
more-seen s Free Seed = refl
more-seen s Free Free = refl
more-seen s Free Book = refl
more-seen s Free Only = refl
more-seen s Free Json = refl
more-seen s Book Quantum = refl
more-seen s Book Seed = refl
more-seen s Book Free = refl
more-seen s Book Book = refl
more-seen s Book Only = refl
more-seen s Book Json = refl
more-seen s Only Quantum = refl
more-seen s Only Seed = refl
more-seen s Only Free = refl
more-seen s Only Book = refl
more-seen s Only Only = refl
more-seen s Only Json = refl
more-seen s Json Quantum = refl
more-seen s Json Seed = refl
more-seen s Json Free = refl
more-seen s Json Book = refl
more-seen s Json Only = refl
more-seen s Json Json = refl

pub either-way : (a b : Bool) → (a || b) ≡ true → (a ≡ true) ⊎ (b ≡ true)
either-way true b e = inl refl
either-way false b e = inr e

pub or-left : (a b : Bool) → a ≡ true → (a || b) ≡ true
or-left true b e = refl
or-left false b e = absurd (false≢true e)

pub or-right : (a b : Bool) → b ≡ true → (a || b) ≡ true
or-right true b e = refl
or-right false b e = e

-- ---- pieces that have each option at most once, and none that is given before them

abbrev pub Fresh : (OptionName → Bool) → List Piece → Type 0
Fresh given pieces = (o : OptionName) → (given o ≡ true → uses_of o pieces ≡ []) × (length (uses_of o pieces) ≤ 1)

-- the same of one use of an option before them
abbrev pub FreshUse : (OptionName → Bool) → OptionName → Word → List Piece → Type 0
FreshUse given used value pieces = (o : OptionName)
    → (given o ≡ true → cons_option (use_of o used value) (uses_of o pieces) ≡ []) × (length (cons_option (use_of o used value) (uses_of o pieces)) ≤ 1)

is-none : (value : Word) (values : List Word) → value ∷ values ≡ [] → ⊥
is-none value values e = cc

-- with one use more or none
abbrev used_or : Bool → Word → List Word → List Word
used_or b value values = cons_option (cond b (Some value) None) values

rest-none : (b : Bool) (value : Word) (values : List Word) → used_or b value values ≡ [] → values ≡ []
rest-none true value values e = absurd (is-none value values e)
rest-none false value values e = e

rest-few : (b : Bool) (value : Word) (values : List Word) → length (used_or b value values) ≤ 1 → length values ≤ 1
rest-few true value values few = omega (arith, few)
rest-few false value values few = few

no-more : (values : List Word) → length values ≤ 0 → values ≡ []
no-more [] few = refl
no-more (value ∷ values) few = absurd (omega (arith, few))

last-use : (b : Bool) (value : Word) (values : List Word) → b ≡ true → length (used_or b value values) ≤ 1 → values ≡ []
last-use true value values e few = no-more values (omega (arith, few))
last-use false value values e few = absurd (false≢true e)

none-used : (b : Bool) (value : Word) (values : List Word) → b ≡ true → used_or b value values ≡ [] → ⊥
none-used true value values e none = is-none value values none
none-used false value values e none = false≢true e

-- the option isn't given before
pub not-given : (given : OptionName → Bool) (used : OptionName) (value : Word) (pieces : List Piece) → FreshUse given used value pieces → given used ≡ false
not-given given used value pieces f = by (given used) refl
  where
    by : (b : Bool) → given used ≡ b → b ≡ false
    by false h = refl
    by true h = absurd (none-used (same_option used used) value (uses_of used pieces) (same-itself used) ((f used).0 h))

-- behind the use no more is given than it and what was given before
pub fresh-more : (given after : OptionName → Bool) (used : OptionName) (value : Word) (pieces : List Piece)
    → ((o : OptionName) → after o ≡ true → (same_option o used ≡ true) ⊎ (given o ≡ true)) → FreshUse given used value pieces → Fresh after pieces
fresh-more given after used value pieces grows f = λ o. ((λ h. none o (grows o h)), rest-few (same_option o used) value (uses_of o pieces) (f o).1)
  where
    none : (o : OptionName) → (same_option o used ≡ true) ⊎ (given o ≡ true) → uses_of o pieces ≡ []
    none o (inl same) = last-use (same_option o used) value (uses_of o pieces) same (f o).1
    none o (inr before) = rest-none (same_option o used) value (uses_of o pieces) ((f o).0 before)

none-yet : (b : Bool) (value : Word) (values : List Word) → (b ≡ true → ⊥) → values ≡ [] → used_or b value values ≡ []
none-yet true value values never e = absurd (never refl)
none-yet false value values never e = e

few-yet : (b : Bool) (value : Word) (values : List Word) → (b ≡ true → values ≡ []) → length values ≤ 1 → length (used_or b value values) ≤ 1
few-yet true value values none few = let e = none refl in rw e (omega arith)
few-yet false value values none few = few

true-no-false : (b : Bool) → b ≡ false → b ≡ true → ⊥
true-no-false true e h = false≢true (sym e)
true-no-false false e h = false≢true h

-- and the other way round
pub fresh-less : (given after : OptionName → Bool) (used : OptionName) (value : Word) (pieces : List Piece)
    → ((o : OptionName) → given o ≡ true → after o ≡ true) → after used ≡ true → given used ≡ false → Fresh after pieces → FreshUse given used value pieces
fresh-less given after used value pieces keeps is_after first f = λ o. (
  (λ h. none-yet (same_option o used) value (uses_of o pieces) (λ same. true-no-false (given used) first (subst (λ p. given p ≡ true) (same-is o used same) h)) ((f o).0 (keeps o h))),
  few-yet (same_option o used) value (uses_of o pieces) (λ same. (f o).0 (subst (λ p. after p ≡ true) (sym (same-is o used same)) is_after)) (f o).1,
)
