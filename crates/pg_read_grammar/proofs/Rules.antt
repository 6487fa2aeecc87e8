-- The rules by which rows are put together.
use Rattle.std.proofs.Common.{◌≡◌, ◌≤◌, List, [], ◌∷◌, ◌++◌, length, Option, Some, None, refl, subst, arith, inl, inr, ◌⊎◌, Bool, true, false, IsTrue}
use Rattle.std.proofs.Common.{if◌then◌else◌, ◌&&◌, ◌||◌, not}
use Rattle.pg_read_grammar.specs.declared.token.Token.{Token}
use Rattle.pg_read_grammar.specs.declared.class.Class.{Class}
use Rattle.pg_read_grammar.specs.declared.token.Fault.{Fault}
use Rattle.pg_read_grammar.specs.declared.token.Fault.TheVariants.{Unsupported, TooDeep}
use Rattle.pg_read_grammar.specs.Classes.{◌∪◌, none, is}
use Rattle.pg_read_grammar.specs.Language.{Lang, Gram, give, one, refused, ◌or◌, many}
use Rattle.pg_read_grammar.specs.Language.{◌>>=◌ as ◌then◌}
use Rattle.pg_read_grammar.specs.Reading.{Read, Good, Bad, ◌>>=◌, take_one, choose, unless, all_of}
use Rattle.pg_read_grammar.proofs.ClassTests.{apart, within, apart_is, within_is, in_one, within_by, is_self, apart_from_none, within_none, apart_none}
use Rattle.pg_read_grammar.proofs.Pieces.{some_token, Marked, Met, Piece, rest_of, Gets, shorter, Item, Went, Stopped}
use Rattle.pg_read_grammar.proofs.Sequences.{then_piece, give_piece, one_piece}
use Rattle.pg_read_grammar.proofs.Choices.{gets_one, choose_piece}
use Rattle.pg_read_grammar.proofs.Faults.{unless_piece, deep_piece}
use Rattle.pg_read_grammar.proofs.Repeats.{many_piece}

-- larger sets of first tokens
pub recast : {A : Type 0} {r : List Token → Read A} {g : Gram A} {fi ma : Class → Bool} {nu : Bool} {av : Class → Bool} (fj mb : Class → Bool)
    → Piece r g fi ma nu av → within fi fj ≡ true → within ma mb ≡ true → Piece r g fj mb nu av
recast {A} {r} {g} {fi} {ma} {nu} {av} fj mb e w x = record {
  meets = e.meets;
  some = e.some;
  begins = λ m K t us j. pick m K t us (e.begins m K t us j);
  empty = e.empty;
}
  where
    pick : (m : Option Fault) (K : A → Lang) (t : Token) (us : List Token) → IsTrue (fi t.class) ⊎ ((IsTrue (ma t.class) × Marked m us) ⊎ (IsTrue nu × ((a : A) × K a (t ∷ us))))
        → IsTrue (fj t.class) ⊎ ((IsTrue (mb t.class) × Marked m us) ⊎ (IsTrue nu × ((a : A) × K a (t ∷ us))))
    pick m K t us (inl b) = inl (within_is fi fj w t.class b)
    pick m K t us (inr (inl b)) = inr (inl (within_is ma mb x t.class b.0, b.1))
    pick m K t us (inr (inr b)) = inr (inr b)

pub within_or_false : (p q : Class → Bool) → within (p ∪ (λ c. false && q c)) p ≡ true
within_or_false p q = within_by (p ∪ (λ c. false && q c)) p (λ c. both (p c))
  where
    both : (a : Bool) → (not (a || false) || a) ≡ true
    both true = refl
    both false = refl

-- a piece that isn't empty and takes no more than it must, and then another
pub first : {A B : Type 0} {r : List Token → Read A} {g : Gram A} {fi ma : Class → Bool} {f : A → List Token → Read B} {h : A → Gram B} {fj mb : Class → Bool} {nv : Bool}
    {aw : Class → Bool}
    → Piece r g fi ma false none → ((a : A) → Piece (f a) (h a) fj mb nv aw) → Piece (λ ts. r ts >>= f) (g then h) fi ma false aw
first {A} {B} {r} {g} {fi} {ma} {f} {h} {fj} {mb} {nv} {aw} e k = recast fi ma (then_piece r g fi ma false none f h fj mb nv aw e k refl (either nv)) (within_or_false fi fj) (within_or_false ma mb)
  where
    either : (b : Bool) → (if b then within none aw else true) ≡ true
    either true = refl
    either false = refl

pub next : {A B : Type 0} {r : List Token → Read A} {g : Gram A} {fi ma : Class → Bool} {nu : Bool} {av : Class → Bool} {f : A → List Token → Read B} {h : A → Gram B}
    {fj mb : Class → Bool} {nv : Bool} {aw : Class → Bool}
    → Piece r g fi ma nu av → ((a : A) → Piece (f a) (h a) fj mb nv aw) → apart av fj ≡ true → (if nv then within av aw else true) ≡ true
    → Piece (λ ts. r ts >>= f) (g then h) (fi ∪ (λ c. nu && fj c)) (ma ∪ (λ c. nu && mb c)) (nu && nv) aw
next {A} {B} {r} {g} {fi} {ma} {nu} {av} {f} {h} {fj} {mb} {nv} {aw} e k x y = then_piece r g fi ma nu av f h fj mb nv aw e k x y

pub give_it : {A : Type 0} {av : Class → Bool} {a : A} → Piece (λ ts. Good a ts) (give a) none none true av
give_it {A} {av} {a} = give_piece av a

-- a token of a class
pub token : {av : Class → Bool} (c : Class) → Piece (take_one (is c)) (one (is c)) (is c) none false av
token {av} c = one_piece av (is c) (some_token c) (is_self c)

pub within_self : (p : Class → Bool) → within p p ≡ true
within_self p = within_by p p (λ c. both (p c))
  where
    both : (a : Bool) → (not a || a) ≡ true
    both true = refl
    both false = refl

-- an alternative that begins with a token of a class, and the others
pub case : {A : Type 0} {f : Token → List Token → Read A} {h : Token → Gram A} {fi mb : Class → Bool} {nv : Bool} {av : Class → Bool} {s : List Token → Read A} {g : Gram A}
    {fj mc : Class → Bool} {nw : Bool} (c : Class)
    → ((a : Token) → Piece (f a) (h a) fi mb nv av) → Piece s g fj mc nw av → apart (is c) fj ≡ true → (if nw then within (is c) av else true) ≡ true
    → Piece (choose (is c) (λ ts. take_one (is c) ts >>= f) s) ((one (is c) then h) or g) (is c ∪ fj) mc nw av
case {A} {f} {h} {fi} {mb} {nv} {av} {s} {g} {fj} {mc} {nw} c k e x y =
    choose_piece (λ ts. take_one (is c) ts >>= f) (one (is c) then h) (is c) av s g fj mc nw av av
    (first (token c) k) (gets_one (is c) f h fi mb nv av k) e x (within_self av) (within_self av) y

pub unless_it : {A : Type 0} {r : List Token → Read A} {g : Gram A} {fi ma : Class → Bool} {nu : Bool} {av : Class → Bool} (test : Class → Bool)
    → Piece r g fi ma nu av → apart test fi ≡ true → (if nu then within test av else true) ≡ true
    → Piece (unless Unsupported test r) (g or refused Unsupported test) fi (ma ∪ test) nu av
unless_it {A} {r} {g} {fi} {ma} {nu} {av} test e x y = unless_piece test r g fi ma nu av av e x (within_self av) y

pub deep_it : {A : Type 0} {r : List Token → Read A} {g : Gram A} {fi ma av : Class → Bool} (test : Class → Bool)
    → Piece r g fi ma false av → apart test fi ≡ true → apart test ma ≡ true
    → Piece (unless TooDeep test r) (g or refused TooDeep test) (fi ∪ test) ma false av
deep_it {A} {r} {g} {fi} {ma} {av} test e x y = deep_piece test r g fi ma av av e x y (within_self av)

-- any number of a piece that begins with a token of a class
pub many_of : {A : Type 0} {f : Token → List Token → Read A} {h : Token → Gram A} {fi mb : Class → Bool} {nv : Bool} {av : Class → Bool} (aw : Class → Bool) (c : Class)
    → ((a : Token) → Piece (f a) (h a) fi mb nv av) → apart av (is c) ≡ true → within av aw ≡ true → within (is c) aw ≡ true
    → Piece (all_of (is c) (λ ts. take_one (is c) ts >>= f)) (many (one (is c) then h)) (is c) none true aw
many_of {A} {f} {h} {fi} {mb} {nv} {av} aw c k x y z = many_piece (λ ts. take_one (is c) ts >>= f) (one (is c) then h) (is c) av aw (first (token c) k) (gets_one (is c) f h fi mb nv av k) x y z

-- a token of some classes
pub token_of : {av : Class → Bool} (test : Class → Bool) (w : Class) → IsTrue (test w) → Piece (take_one test) (one test) test none false av
token_of {av} test w i = one_piece av test (some_token w) i

-- an alternative that begins with a token of some classes, and the others
pub case_of : {A : Type 0} {f : Token → List Token → Read A} {h : Token → Gram A} {fi mb : Class → Bool} {nv : Bool} {av : Class → Bool} {s : List Token → Read A} {g : Gram A}
    {fj mc : Class → Bool} {nw : Bool} (test : Class → Bool) (w : Class) → IsTrue (test w)
    → ((a : Token) → Piece (f a) (h a) fi mb nv av) → Piece s g fj mc nw av → apart test fj ≡ true → (if nw then within test av else true) ≡ true
    → Piece (choose test (λ ts. take_one test ts >>= f) s) ((one test then h) or g) (test ∪ fj) mc nw av
case_of {A} {f} {h} {fi} {mb} {nv} {av} {s} {g} {fj} {mc} {nw} test w i k e x y =
    choose_piece (λ ts. take_one test ts >>= f) (one test then h) test av s g fj mc nw av av
    (first (token_of test w i) k) (gets_one test f h fi mb nv av k) e x (within_self av) (within_self av) y

pub gets_token : (test : Class → Bool) → Gets test (take_one test)
gets_token test = record { on = λ t ts i. rw i (omega arith) }

-- a reading gets on where each of its choices does
pub gets_case : {A : Type 0} {f : Token → List Token → Read A} {h : Token → Gram A} {fi mb : Class → Bool} {nv : Bool} {av : Class → Bool} {s : List Token → Read A}
    {fj : Class → Bool} (c : Class)
    → ((a : Token) → Piece (f a) (h a) fi mb nv av) → Gets fj s → Gets (is c ∪ fj) (choose (is c) (λ ts. take_one (is c) ts >>= f) s)
gets_case {A} {f} {h} {fi} {mb} {nv} {av} {s} {fj} c k d = record { on = λ t ts i. by t ts i (is c t.class) refl }
  where
    by : (t : Token) (ts : List Token) → IsTrue ((is c ∪ fj) t.class) → (b : Bool) → is c t.class ≡ b
        → length (rest_of (if b then take_one (is c) (t ∷ ts) >>= f else s (t ∷ ts))) ≤ length ts
    by t ts i true e = (gets_one (is c) f h fi mb nv av k).on t ts e
    by t ts i false e = d.on t ts (other (in_one (is c t.class) (fj t.class) i))
      where
        other : (is c t.class ≡ true) ⊎ (fj t.class ≡ true) → IsTrue (fj t.class)
        other (inl z) = absurd cc
        other (inr z) = z

-- another way to write the same lists
pub alike : {A : Type 0} {r : List Token → Read A} {g : Gram A} {fi ma : Class → Bool} {nu : Bool} {av : Class → Bool} (h : Gram A)
    → ((m : Option Fault) (K : A → Lang) (us : List Token) → g m K us → h m K us) → ((m : Option Fault) (K : A → Lang) (us : List Token) → h m K us → g m K us)
    → Piece r g fi ma nu av → Piece r h fi ma nu av
alike {A} {r} {g} {fi} {ma} {nu} {av} h to from e = record {
  meets = λ ts. lift ts (r ts) (e.meets ts);
  some = λ K alive. let q = e.some K alive in (q.0, to None K q.0 q.1);
  begins = λ m K t us j. e.begins m K t us (from m K (t ∷ us) j);
  empty = λ m K j. e.empty m K (from m K [] j);
}
  where
    lift : (ts : List Token) (x : Read A) → Met g av ts x → Met h av ts x
    lift ts _ (Went a front rest split o) =
        Went a front rest split (record
        { sound = λ m K us k. to m K (front ++ us) (o.sound m K us k); back = λ m K us avoids same full j. o.back m K us avoids same full (from m K (front ++ us) j) })
    lift ts _ (Stopped fault front rest split o) = Stopped fault front rest split
        (record {
          alive = λ K alive. let q = o.alive K alive in (q.0, to None K (front ++ q.0) q.1);
          dead = λ m K us avoids same full j. o.dead m K us avoids same full (from m K (front ++ us) j);
          marked = λ f K w. let q =
              o.marked f K w in (q.0, q.1, q.2, to (Some f) K (front ++ q.0 ∷ []) q.3);
        })

pub item_first : {A : Type 0} {f : Token → List Token → Read A} {h : Token → Gram A} {fi mb : Class → Bool} {nv : Bool} {av : Class → Bool} (test : Class → Bool) (w : Class)
    → IsTrue (test w)
    → ((a : Token) → Piece (f a) (h a) fi mb nv av) → Item (λ ts. take_one test ts >>= f) (one test then h) test av
item_first {A} {f} {h} {fi} {mb} {nv} {av} test w i k = record { piece = first (token_of test w i) k; gets = gets_one test f h fi mb nv av k }

pub item_case : {A : Type 0} {f : Token → List Token → Read A} {h : Token → Gram A} {fi mb : Class → Bool} {nv : Bool} {av : Class → Bool} {s : List Token → Read A} {g : Gram A}
    {fj : Class → Bool} (c : Class)
    → ((a : Token) → Piece (f a) (h a) fi mb nv av) → Item s g fj av → apart (is c) fj ≡ true
    → Item (choose (is c) (λ ts. take_one (is c) ts >>= f) s) ((one (is c) then h) or g) (is c ∪ fj) av
item_case {A} {f} {h} {fi} {mb} {nv} {av} {s} {g} {fj} c k e x = record { piece = case c k e.piece x refl; gets = gets_case c k e.gets }

pub many_items : {A : Type 0} {r : List Token → Read A} {g : Gram A} {fi av : Class → Bool} (aw : Class → Bool)
    → Item r g fi av → apart av fi ≡ true → within av aw ≡ true → within fi aw ≡ true → Piece (all_of fi r) (many g) fi none true aw
many_items {A} {r} {g} {fi} {av} aw e x y z = many_piece r g fi av aw e.piece e.gets x y z

pub many_tokens : (aw test : Class → Bool) (w : Class) → IsTrue (test w) → within test aw ≡ true → Piece (all_of test (take_one test)) (many (one test)) test none true aw
many_tokens aw test w i x = many_piece (take_one test) (one test) test none aw (token_of test w i) (gets_token test) (apart_from_none test) (within_none aw) x

within_or_none : (b : Bool) (p : Class → Bool) → within (p ∪ (λ c. b && none c)) p ≡ true
within_or_none b p = within_by (p ∪ (λ c. b && none c)) p (λ c. both b (p c))
  where
    both : (b a : Bool) → (not (a || (b && false)) || a) ≡ true
    both true true = refl
    both true false = refl
    both false true = refl
    both false false = refl

and_true : (b : Bool) → (b && true) ≡ b
and_true true = refl
and_true false = refl

abbrev kept_none : Gram (Unit {0})
kept_none = give tt

abbrev kept_at : List Token → Read (Unit {0})
kept_at ts = Good tt ts

-- a piece whose value isn't kept
pub dropped : {A : Type 0} {r : List Token → Read A} {g : Gram A} {fi ma : Class → Bool} {nu : Bool} {av : Class → Bool} → Piece r g fi ma nu av
    → Piece {A = Unit {0}} (λ ts. r ts >>= λ _. Good tt) (g then λ _. give tt) fi ma nu av
dropped {A} {r} {g} {fi} {ma} {nu} {av} e = subst (λ b. Piece {A = Unit {0}} (λ ts. r ts >>= λ _. Good tt) (g then λ _. give tt) fi ma b av) (and_true nu)
    (recast fi ma (then_piece r g fi ma nu av (λ _. kept_at) (λ _. kept_none) none none true av e (λ a. give_it) (apart_none av) (within_self av)) (within_or_none nu fi) (within_or_none nu ma))

-- one of two by the first token takes a token where either does
pub gets_choose : {A : Type 0} {r : List Token → Read A} {fi : Class → Bool} {s : List Token → Read A} {fj : Class → Bool} → Gets fi r → Gets fj s → Gets (fi ∪ fj) (choose fi r s)
gets_choose {A} {r} {fi} {s} {fj} e k = record { on = λ t ts i. by t ts i (fi t.class) refl }
  where
    by : (t : Token) (ts : List Token) → IsTrue ((fi ∪ fj) t.class) → (b : Bool) → fi t.class ≡ b → length (rest_of (if b then r (t ∷ ts) else s (t ∷ ts))) ≤ length ts
    by t ts i true p = e.on t ts p
    by t ts i false p = k.on t ts (other (in_one (fi t.class) (fj t.class) i))
      where
        other : (fi t.class ≡ true) ⊎ (fj t.class ≡ true) → IsTrue (fj t.class)
        other (inl z) = absurd cc
        other (inr z) = z

-- an item or another, by the first token
pub item_or : {A : Type 0} {r : List Token → Read A} {g : Gram A} {fi av : Class → Bool} {s : List Token → Read A} {h : Gram A} {fj : Class → Bool}
    → Item r g fi av → Item s h fj av → apart fi fj ≡ true → Item (choose fi r s) (g or h) (fi ∪ fj) av
item_or {A} {r} {g} {fi} {av} {s} {h} {fj} e k x = record {
  piece = choose_piece r g fi av s h fj none false av av e.piece e.gets k.piece x (within_self av) (within_self av) refl;
  gets = gets_choose e.gets k.gets;
}

-- an item, and else another piece
pub or_else : {A : Type 0} {r : List Token → Read A} {g : Gram A} {fi av : Class → Bool} {s : List Token → Read A} {h : Gram A} {fj mb : Class → Bool} {nv : Bool}
    → Item r g fi av → Piece s h fj mb nv av → apart fi fj ≡ true → (if nv then within fi av else true) ≡ true → Piece (choose fi r s) (g or h) (fi ∪ fj) mb nv av
or_else {A} {r} {g} {fi} {av} {s} {h} {fj} {mb} {nv} e k x y = choose_piece r g fi av s h fj mb nv av av e.piece e.gets k x (within_self av) (within_self av) y

-- another way to write the same lists
pub item_alike : {A : Type 0} {r : List Token → Read A} {g : Gram A} {fi av : Class → Bool} (h : Gram A)
    → ((m : Option Fault) (K : A → Lang) (us : List Token) → g m K us → h m K us) → ((m : Option Fault) (K : A → Lang) (us : List Token) → h m K us → g m K us) → Item r g fi av
    → Item r h fi av
item_alike {A} {r} {g} {fi} {av} h to from e = record { piece = alike h to from e.piece; gets = e.gets }

pub token_item : {av : Class → Bool} (c : Class) → Item (take_one (is c)) (one (is c)) (is c) av
token_item {av} c = record { piece = token c; gets = gets_token (is c) }

-- where it isn't refused, a piece gets on
pub gets_unless : {A : Type 0} {r : List Token → Read A} {fi : Class → Bool} (f : Fault) (test : Class → Bool) → apart test fi ≡ true → Gets fi r → Gets fi (unless f test r)
gets_unless {A} {r} {fi} f test x e = record { on = λ t ts i. by t ts i (test t.class) refl }
  where
    by : (t : Token) (ts : List Token) → IsTrue (fi t.class) → (b : Bool) → test t.class ≡ b → length (rest_of (if b then Bad (Some f) (t ∷ ts) else r (t ∷ ts))) ≤ length ts
    by t ts i true p = absurd (apart_is test fi x t.class p i)
    by t ts i false p = e.on t ts i

pub gets_then : {A B : Type 0} {r : List Token → Read A} {fi : Class → Bool} {f : A → List Token → Read B} {h : A → Gram B} {fj mb : Class → Bool} {nv : Bool} {aw : Class → Bool}
    → Gets fi r → ((a : A) → Piece (f a) (h a) fj mb nv aw) → Gets fi (λ ts. r ts >>= f)
gets_then {A} {B} {r} {fi} {f} {h} {fj} {mb} {nv} {aw} e k = record { on = λ t ts i. behind t ts (r (t ∷ ts)) (e.on t ts i) }
  where
    behind : (t : Token) (ts : List Token) (z : Read A) → length (rest_of z) ≤ length ts → length (rest_of (z >>= f)) ≤ length ts
    behind t ts (Good a rest) l = omega (arith, l, shorter (h a) aw rest (f a rest) ((k a).meets rest))
    behind t ts (Bad fault rest) l = l

-- an item, and what comes behind it
pub item_then : {A B : Type 0} {r : List Token → Read A} {g : Gram A} {fi av : Class → Bool} {f : A → List Token → Read B} {h : A → Gram B} {fj mb : Class → Bool} {nv : Bool}
    {aw : Class → Bool}
    → Item r g fi av → ((a : A) → Piece (f a) (h a) fj mb nv aw) → apart av fj ≡ true → (if nv then within av aw else true) ≡ true → Item (λ ts. r ts >>= f) (g then h) fi aw
item_then {A} {B} {r} {g} {fi} {av} {f} {h} {fj} {mb} {nv} {aw} e k x y = record {
  piece = recast fi none (then_piece r g fi none false av f h fj mb nv aw e.piece k x y) (within_or_false fi fj) (within_or_false none mb);
  gets = gets_then e.gets k;
}
