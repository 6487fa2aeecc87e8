-- What a whole list of tokens, and a whole text, is read as.
use Rattle.std.proofs.Common.{◌≡◌, ℕ, zero, suc, ◌+◌, ◌-◌, ◌<◌, List, [], ◌∷◌, ◌++◌, Option, Some, None, length, drop, subst, ap, sym, ◌∙◌, arith}
use Rattle.std.proofs.Common.{length-drop, true, refl, inl, inr, ◌⊎◌, append_assoc, Ok, Err, Result}
use Rattle.pg_read_lex.specs.declared.token.Span.{Span}
use Rattle.pg_read_lex.specs.declared.token.Token.{Token as Lexed}
use Rattle.pg_read_lex.specs.declared.token.LexFault.{LexFault}
use Rattle.pg_read_lex.specs.declared.token.LexFault.TheVariants as lexical
use Rattle.pg_read_lex.specs.declared.token.Piece.{Piece}
use Rattle.pg_read_lex.specs.declared.token.Piece.TheVariants.{Gap, Whole, Bad as NoPiece, Open}
use Rattle.pg_read_lex.specs.Tokens.{tokens, tokens_from, placed, ahead, piece_of}
use Rattle.pg_read_ast.specs.Syntax.{Tree}
use Rattle.pg_read_grammar.specs.declared.token.Token.{Token}
use Rattle.pg_read_grammar.specs.declared.token.Fault.{Fault}
use Rattle.pg_read_grammar.specs.declared.token.Fault.TheVariants as fault
use Rattle.pg_read_grammar.specs.declared.fault.ReadFault.{ReadFault}
use Rattle.pg_read_grammar.specs.declared.fault.ReadFault.TheVariants.{BadByte, OpenString, Unexpected, Unsupported, TooDeep, OutOfMemory}
use Rattle.pg_read_grammar.specs.Language.{Gram}
use Rattle.pg_read_grammar.specs.GrammarItems.{no_item, program}
use Rattle.pg_read_grammar.specs.Reading.{Read, Good, Bad}
use Rattle.pg_read_grammar.specs.ReaderItems.{begins_item, program_at}
use Rattle.pg_read_grammar.specs.Verdict.{IsRead, Refused, Cut}
use Rattle.pg_read_grammar.specs.Answers.{Answers, ended}
use Rattle.pg_read_grammar.specs.Words.{classified}
use Rattle.pg_read_grammar.specs.Accepted.{IsModule, IsRefused, IsUnread, place_of}
use Rattle.pg_read_grammar.specs.Told.{told, lexical_of, IsTold}
use Rattle.pg_read_grammar.proofs.ReadToEnd.{whole}
use Rattle.pg_read_grammar.proofs.ItemRows.{anything}
use Rattle.pg_read_grammar.proofs.ItemLoops.{program_piece}

-- ---- what is left behind a value is refused

ended_more : {A : Type 0} (a : A) (rest : List Token) → 0 < length rest → ended (Good a rest) ≡ Bad None rest
ended_more a [] h = absurd (omega (arith, h))
ended_more a (t ∷ rest) h = refl

pub ended_long : {A : Type 0} (x : Read A) (a : A) (ts : List Token) (at : ℕ) → x ≡ Good a (drop at ts) → at < length ts → ended x ≡ Bad None (drop at ts)
ended_long x a ts at e h = ap (λ y. ended y) e ∙ ended_more a (drop at ts) (omega (arith, h, length-drop at ts))

-- ---- a list of tokens

pub program_answers : (ts : List Token) → Answers program ts (ended (program_at ts))
program_answers ts = whole program_at program begins_item no_item true anything program_piece ts

pub program_found : (ts rest : List Token) (m : Tree) → ended (program_at ts) ≡ Good m rest → IsRead program ts m
program_found ts rest m e = (subst (Answers program ts) e (program_answers ts)).1

pub program_only : (ts rest : List Token) (m : Tree) → ended (program_at ts) ≡ Good m rest → (n : Tree) → IsRead program ts n → m ≡ n
program_only ts rest m e = (subst (Answers program ts) e (program_answers ts)).2

pub program_refused : (ts rest : List Token) (fault : Option Fault) → ended (program_at ts) ≡ Bad fault rest → (front : List Token) × (ts ≡ front ++ rest) × Refused program fault front rest
program_refused ts rest fault e = subst (Answers program ts) e (program_answers ts)

-- ---- a list that is refused has no value, and is refused once

cut_self : (rest : List Token) → Cut rest rest
cut_self [] = refl
cut_self (t ∷ rest) = (rest, refl)

pub refused_none : {A : Type 0} (g : Gram A) (fault : Option Fault) (front rest ts : List Token) → ts ≡ front ++ rest → Refused g fault front rest → (a : A) → IsRead g ts a → ⊥
refused_none g fault front rest ts e r a j = r.dead rest a (cut_self rest) (subst (λ xs. IsRead g xs a) e j)

-- of two ways to cut a list, one goes on for at least as long as the other
cut_two : (a b x y : List Token) → a ++ x ≡ b ++ y → (a ≡ b) ⊎
    (((t : Token) × (c : List Token) × (b ≡ a ++ t ∷ c) × Cut x (t ∷ c ++ y)) ⊎ ((t : Token) × (c : List Token) × (a ≡ b ++ t ∷ c) × Cut y (t ∷ c ++ x)))
cut_two [] [] x y e = inl refl
cut_two [] (t ∷ b) x y e = inr (inl (t, b, refl, subst (λ xs. Cut xs (t ∷ b ++ y)) (sym e) (b ++ y, refl)))
cut_two (t ∷ a) [] x y e = inr (inr (t, a, refl, subst (λ xs. Cut xs (t ∷ a ++ x)) e (a ++ x, refl)))
cut_two (t ∷ a) (u ∷ b) x y e = let p : t ≡ u = cc in let q : a ++ x ≡ b ++ y = cc in pick p (cut_two a b x y q)
  where
    pick : t ≡ u → (a ≡ b) ⊎ (((t2 : Token) × (c : List Token) × (b ≡ a ++ t2 ∷ c) × Cut x (t2 ∷ c ++ y))
        ⊎ ((t2 : Token) × (c : List Token) × (a ≡ b ++ t2 ∷ c) × Cut y (t2 ∷ c ++ x)))
        → (t ∷ a ≡ u ∷ b) ⊎ (((t2 : Token) × (c : List Token) × (u ∷ b ≡ (t ∷ a) ++ t2 ∷ c) × Cut x (t2 ∷ c ++ y))
        ⊎ ((t2 : Token) × (c : List Token) × (t ∷ a ≡ (u ∷ b) ++ t2 ∷ c) × Cut y (t2 ∷ c ++ x)))
    pick p (inl w) = inl cc
    pick p (inr (inl (t2, c, w, k))) = inr (inl (t2, c, cc, k))
    pick p (inr (inr (t2, c, w, k))) = inr (inr (t2, c, cc, k))

cut_first : (x p q : List Token) (t : Token) → Cut x (t ∷ p) → Cut x (t ∷ q)
cut_first [] p q t k = absurd (let z : t ∷ p ≡ [] = k in cc)
cut_first (u ∷ x) p q t k = let z : t ≡ u = cc in (q, ap (λ v. v ∷ q) z)

cancel : (a x y : List Token) → a ++ x ≡ a ++ y → x ≡ y
cancel [] x y e = e
cancel (t ∷ a) x y e = cancel a x y cc

longer : {A : Type 0} (g : Gram A) (f k : Option Fault) (a x b y c : List Token) (t : Token) → Refused g f a x → Refused g k b y → b ≡ a ++ t ∷ c → Cut x (t ∷ c ++ y) → ⊥
longer g f k a x b y c t r s w cut = let q = s.alive in
    r.dead (t ∷ c ++ q.0) q.1 (cut_first x (c ++ y) (c ++ q.0) t cut) (subst (λ xs. IsRead g xs q.1) (ap (λ xs. xs ++ q.0) w ∙ append_assoc a (t ∷ c) q.0) q.2)

one_fault : {A : Type 0} (g : Gram A) (f k : Option Fault) (a x : List Token) → Refused g f a x → Refused g k a x → f ≡ k
one_fault g f k a [] r s = r.at_end refl ∙ sym (s.at_end refl)
one_fault g (Some f) k a (t ∷ x) r s = sym ((s.cause f t x refl).0 ((r.cause f t x refl).1 refl))
one_fault g None (Some k) a (t ∷ x) r s = (r.cause k t x refl).0 ((s.cause k t x refl).1 refl)
one_fault g None None a (t ∷ x) r s = refl

pub refused_once : {A : Type 0} (g : Gram A) (f k : Option Fault) (a x b y : List Token) → Refused g f a x → Refused g k b y → a ++ x ≡ b ++ y → (x ≡ y) × (f ≡ k)
refused_once {A} g f k a x b y r s e = pick (cut_two a b x y e)
  where
    pick : (a ≡ b) ⊎ (((t : Token) × (c : List Token) × (b ≡ a ++ t ∷ c) × Cut x (t ∷ c ++ y)) ⊎ ((t : Token) × (c : List Token) × (a ≡ b ++ t ∷ c) × Cut y (t ∷ c ++ x)))
        → (x ≡ y) × (f ≡ k)
    pick (inl w) = let z : x ≡ y = cancel a x y (e ∙ ap (λ xs. xs ++ y) (sym w)) in
        (z, one_fault g f k a x r (subst (λ xs. Refused g k xs x) (sym w) (subst (λ xs. Refused g k b xs) (sym z) s)))
    pick (inr (inl (t, c, w, cut))) = absurd (longer g f k a x b y c t r s w cut)
    pick (inr (inr (t, c, w, cut))) = absurd (longer g k f b y a x c t s r w cut)

-- ---- a text

same_tokens : (x y : List Lexed) (r : Result (List Lexed) LexFault) → r ≡ Ok x → r ≡ Ok y → x ≡ y
same_tokens x y r e w = let z : ◌≡◌ {A = Result (List Lexed) LexFault} (Ok x) (Ok y) = sym e ∙ w in cc

pub text_found : (text : List ℕ) (ts : List Lexed) (rest : List Token) (m : Tree) → tokens text ≡ Ok ts → ended (program_at (classified text ts)) ≡ Good m rest → IsModule text m
text_found text ts rest m w e = (ts, w, program_found (classified text ts) rest m e)

pub text_only : (text : List ℕ) (ts : List Lexed) (rest : List Token) (m : Tree) → tokens text ≡ Ok ts → ended (program_at (classified text ts)) ≡ Good m rest → (n : Tree)
    → IsModule text n → m ≡ n
text_only text ts rest m w e n j = program_only (classified text ts) rest m e n (subst (λ xs. IsRead program (classified text xs) n) (same_tokens j.0 ts (tokens text) j.1 w) j.2)

pub text_refused : (text : List ℕ) (ts : List Lexed) (rest : List Token) (fault : Option Fault) → tokens text ≡ Ok ts → ended (program_at (classified text ts)) ≡ Bad fault rest
    → IsRefused text fault (place_of text rest)
text_refused text ts rest fault w e = let q = program_refused (classified text ts) rest fault e in (ts, w, q.0, rest, q.1, q.2, refl)

-- a text that is refused is no module, and is refused at one place alone
pub refused_no_module : (text : List ℕ) (fault : Option Fault) (place : Span) → IsRefused text fault place → (m : Tree) → IsModule text m → ⊥
refused_no_module text fault place (ts, w, front, rest, e, r, p) m j =
    refused_none program fault front rest (classified text ts) e r m (subst (λ xs. IsRead program (classified text xs) m) (same_tokens j.0 ts (tokens text) j.1 w) j.2)

pub refused_place_once : (text : List ℕ) (f k : Option Fault) (p q : Span) → IsRefused text f p → IsRefused text k q → (f ≡ k) × (p ≡ q)
refused_place_once text f k p q (ts, w, a, x, e, r, z) (us, v, b, y, d, s, o) =
    let same : a ++ x ≡ b ++ y = sym e ∙ ap (λ xs. classified text xs) (same_tokens ts us (tokens text) w v) ∙ d in
    let c = refused_once program f k a x b y r s same in (c.1, z ∙ ap (λ xs. place_of text xs) c.0 ∙ sym o)

-- a text is one module at most
pub module_once : (text : List ℕ) (m n : Tree) → IsModule text m → IsModule text n → m ≡ n
module_once text m n (ts, w, j) k = by (ended (program_at (classified text ts))) refl
  where
    by : (x : Read Tree) → ended (program_at (classified text ts)) ≡ x → m ≡ n
    by (Good a rest) e = sym (text_only text ts rest a w e m (ts, w, j)) ∙ text_only text ts rest a w e n k
    by (Bad fault rest) e = absurd (refused_no_module text fault (place_of text rest) (text_refused text ts rest fault w e) m (ts, w, j))

-- a text with tokens is a module or refused
pub module_or_refused : (text : List ℕ) (ts : List Lexed) → tokens text ≡ Ok ts → ((m : Tree) × IsModule text m) ⊎ ((fault : Option Fault) × (place : Span) × IsRefused text fault place)
module_or_refused text ts w = by (ended (program_at (classified text ts))) refl
  where
    by : (x : Read Tree) → ended (program_at (classified text ts)) ≡ x → ((m : Tree) × IsModule text m) ⊎ ((fault : Option Fault) × (place : Span) × IsRefused text fault place)
    by (Good m rest) e = inl (m, text_found text ts rest m w e)
    by (Bad fault rest) e = inr (fault, place_of text rest, text_refused text ts rest fault w e)

-- ---- the first refusal

ahead_of : (t : Lexed) (r : Result (List Lexed) LexFault) (e : LexFault) → ahead t r ≡ Err e → r ≡ Err e
ahead_of t (Ok ts) e h = absurd cc
ahead_of t (Err d) e h = let z : d ≡ e = cc in ap (λ x. Err x) z

-- want of memory is no matter of the text
never_memory : (skip at : ℕ) (bs : List ℕ) → tokens_from skip at bs ≡ Err lexical.OutOfMemory → ⊥
unfolding tokens_from
never_memory skip at [] h = absurd cc
never_memory (suc skip) at (b ∷ bs) h = never_memory skip (at + 1) bs h
never_memory zero at (b ∷ bs) h = by (piece_of (b ∷ bs)) h (λ n i. never_memory (n - 1) (at + 1) bs i)
  where
    by : (p : Piece) → placed at p (λ n. tokens_from (n - 1) (at + 1) bs) ≡ Err lexical.OutOfMemory → ((n : ℕ) → tokens_from (n - 1) (at + 1) bs ≡ Err lexical.OutOfMemory → ⊥) → ⊥
    by (Gap n) h rec = rec n h
    by (Whole kind n) h rec = rec n (ahead_of _ (tokens_from (n - 1) (at + 1) bs) lexical.OutOfMemory h)
    by NoPiece h rec = absurd cc
    by (Open n) h rec = absurd cc

fault_of : (text : List ℕ) (f : Option Fault) (place : Span) → IsRefused text f place → (e : ReadFault) × IsUnread text e
fault_of text None place j = (Unexpected place.start, (place, refl, j))
fault_of text (Some fault.Unsupported) place j = (Unsupported place, j)
fault_of text (Some fault.TooDeep) place j = (TooDeep place.start, (place, refl, j))

pub module_or_first : (text : List ℕ) → ((m : Tree) × IsModule text m) ⊎ ((e : ReadFault) × IsUnread text e)
module_or_first text = by (tokens text) refl
  where
    pick : ((m : Tree) × IsModule text m) ⊎ ((f : Option Fault) × (place : Span) × IsRefused text f place) → ((m : Tree) × IsModule text m) ⊎ ((e : ReadFault) × IsUnread text e)
    pick (inl j) = inl j
    pick (inr j) = inr (fault_of text j.0 j.1 j.2)

    by : (r : Result (List Lexed) LexFault) → tokens text ≡ r → ((m : Tree) × IsModule text m) ⊎ ((e : ReadFault) × IsUnread text e)
    by (Ok ts) w = pick (module_or_refused text ts w)
    by (Err (lexical.BadByte at)) w = inr (BadByte at, w)
    by (Err (lexical.OpenString at)) w = inr (OpenString at, w)
    by (Err lexical.OutOfMemory) w = absurd (never_memory 0 0 text w)

not_lexical : (text : List ℕ) (f : Option Fault) (place : Span) (d : LexFault) → IsRefused text f place → tokens text ≡ Err d → ⊥
not_lexical text f place d j w = let z : ◌≡◌ {A = Result (List Lexed) LexFault} (Ok j.0) (Err d) = sym j.1 ∙ w in absurd cc

same_lexical : (text : List ℕ) (d k : LexFault) → tokens text ≡ Err d → tokens text ≡ Err k → d ≡ k
same_lexical text d k w v = let z : ◌≡◌ {A = Result (List Lexed) LexFault} (Err d) (Err k) = sym w ∙ v in cc

pub first_not_module : (text : List ℕ) (e : ReadFault) → IsUnread text e → (m : Tree) → IsModule text m → ⊥
first_not_module text (BadByte at) w m j = let z : ◌≡◌ {A = Result (List Lexed) LexFault} (Ok j.0) (Err (lexical.BadByte at)) = sym j.1 ∙ w in absurd cc
first_not_module text (OpenString at) w m j = let z : ◌≡◌ {A = Result (List Lexed) LexFault} (Ok j.0) (Err (lexical.OpenString at)) = sym j.1 ∙ w in absurd cc
first_not_module text (Unexpected at) (place, s, i) m j = refused_no_module text None place i m j
first_not_module text (Unsupported place) i m j = refused_no_module text (Some fault.Unsupported) place i m j
first_not_module text (TooDeep at) (place, s, i) m j = refused_no_module text (Some fault.TooDeep) place i m j
first_not_module text OutOfMemory i m j = i

-- a first refusal is a lexical fault or is said of a token
abbrev Said : List ℕ → ReadFault → Type 0
Said text e = ((d : LexFault) × (tokens text ≡ Err d) × (e ≡ lexical_of d)) ⊎ ((f : Option Fault) × (place : Span) × IsRefused text f place × (e ≡ told f place))

said : (text : List ℕ) (e : ReadFault) → IsUnread text e → Said text e
said text (BadByte at) w = inl (lexical.BadByte at, w, refl)
said text (OpenString at) w = inl (lexical.OpenString at, w, refl)
said text (Unexpected at) (place, s, i) = inr (None, place, i, ap (λ n. Unexpected n) (sym s))
said text (Unsupported place) i = inr (Some fault.Unsupported, place, i, refl)
said text (TooDeep at) (place, s, i) = inr (Some fault.TooDeep, place, i, ap (λ n. TooDeep n) (sym s))
said text OutOfMemory i = absurd i

pub first_once : (text : List ℕ) (e d : ReadFault) → IsUnread text e → IsUnread text d → e ≡ d
first_once text e d i j = by (said text e i) (said text d j)
  where
    by : Said text e → Said text d → e ≡ d
    by (inl (a, w, p)) (inl (b, v, q)) = p ∙ ap lexical_of (same_lexical text a b w v) ∙ sym q
    by (inl (a, w, p)) (inr (f, place, v, q)) = absurd (not_lexical text f place a v w)
    by (inr (f, place, v, q)) (inl (a, w, p)) = absurd (not_lexical text f place a v w)
    by (inr (f, a, w, p)) (inr (k, b, v, q)) = let z = refused_place_once text f k a b w v in p ∙ ap (λ x. told x a) z.0 ∙ ap (λ x. told k x) z.1 ∙ sym q

-- what the reading of the tokens refuses is the first refusal of the text
pub text_first : (text : List ℕ) (ts : List Lexed) (rest : List Token) (f : Option Fault) → tokens text ≡ Ok ts → ended (program_at (classified text ts)) ≡ Bad f rest
    → IsUnread text (told f (place_of text rest))
text_first text ts rest f w e = by f (text_refused text ts rest f w e)
  where
    by : (k : Option Fault) → IsRefused text k (place_of text rest) → IsUnread text (told k (place_of text rest))
    by None j = (place_of text rest, refl, j)
    by (Some fault.Unsupported) j = j
    by (Some fault.TooDeep) j = (place_of text rest, refl, j)

-- the same, of what is said
pub told_first : (text : List ℕ) (ts : List Lexed) (e : ReadFault) → tokens text ≡ Ok ts → IsTold text (classified text ts) e → IsUnread text e
told_first text ts e w (f, rest, i, s) = subst (IsUnread text) (sym s) (text_first text ts rest f w i)
