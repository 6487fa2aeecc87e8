-- What each value of a piece of the grammar has, where its tokens are those of a text of bytes.
use Rattle.std.proofs.Common.{◌≡◌, ℕ, zero, suc, List, [], ◌∷◌, Some, None, Bool, true, false, inl, inr, IsTrue, subst}
use Rattle.std.specs.List.{list_all}
use Rattle.pg_num.specs.Decimal.{is_decimal}
use Rattle.pg_read_grammar.specs.declared.token.Token.{Token}
use Rattle.pg_read_grammar.specs.declared.token.Fault.{Fault}
use Rattle.pg_read_grammar.specs.declared.class.Class.{Class}
use Rattle.pg_read_grammar.specs.declared.class.Class.TheVariants.{Int, Global}
use Rattle.pg_read_grammar.specs.Classes.{is}
use Rattle.pg_read_grammar.specs.Language.{Lang, Gram, give, one, refused, ◌or◌, times, many}
use Rattle.pg_read_grammar.specs.Language.{◌>>=◌ as ◌then◌}
use Rattle.pg_read_grammar.specs.Grammar.{drop_value, separated, listed}
use Rattle.pg_read_grammar.specs.Words.{is_dropped}
use Rattle.pg_law_canonical.proofs.Names.{is_byte}
use Rattle.pg_law_canonical.proofs.ReadAgain.{Every}

-- a token of a text of bytes
pub record IsFormed (t : Token) : Type 0 where
  pub bytes : list_all is_byte t.text ≡ true
  pub decimal : IsTrue (is Int t.class) → is_decimal t.text ≡ true
  pub kept : IsTrue (is Global t.class) → is_dropped t.text ≡ false

abbrev pub AreFormed : List Token → Type 0
AreFormed [] = Unit {0}
AreFormed (t ∷ ts) = IsFormed t × AreFormed ts

pub record Found {A : Type 0} (P : A → Type 1) (K : A → Lang) : Type 1 where
  pub value : A
  pub rest : List Token
  pub formed : AreFormed rest
  pub holds : P value
  pub goes : K value rest

pub record Yields {A : Type 0} (g : Gram A) (P : A → Type 1) : Type 1 where
  pub yields : (K : A → Lang) (ts : List Token) → AreFormed ts → g None K ts → Found P K

-- a token of these classes
pub record IsOne (test : Class → Bool) (t : Token) : Type 1 where
  pub class_is : IsTrue (test t.class)
  pub formed : IsFormed t

abbrev pub Any : {A : Type 0} → A → Type 1
Any a = Unit {1}

pub yields_give : {A : Type 0} {P : A → Type 1} {a : A} → P a → Yields (give a) P
yields_give {A} {P} {a} p = record { yields = λ K ts w j. record { value = a; rest = ts; formed = w; holds = p; goes = j } }

pub yields_one : {test : Class → Bool} → Yields (one test) (IsOne test)
yields_one {test} = record {
  yields = λ K ts w j. let v : AreFormed (j.0 ∷ j.1) = subst AreFormed j.2 w in
      record { value = j.0; rest = j.1; formed = v.1; holds = record { class_is = j.3; formed = v.0 }; goes = j.4 };
}

pub yields_then : {A B : Type 0} {P : A → Type 1} {Q : B → Type 1} {g : Gram A} {h : A → Gram B} → Yields g P → ((a : A) → P a → Yields (h a) Q) → Yields (g then h) Q
yields_then {A} {B} {P} {Q} {g} {h} e k = record { yields = λ K ts w j. let f = e.yields (λ a. h a None K) ts w j in (k f.value f.holds).yields K f.rest f.formed f.goes }

pub yields_or : {A : Type 0} {P : A → Type 1} {g h : Gram A} → Yields g P → Yields h P → Yields (g or h) P
yields_or {A} {P} {g} {h} e k = record { yields = by }
  where
    by : (K : A → Lang) (ts : List Token) → AreFormed ts → (g or h) None K ts → Found P K
    by K ts w (inl j) = e.yields K ts w j
    by K ts w (inr j) = k.yields K ts w j

pub yields_refused : {A : Type 0} {P : A → Type 1} (f : Fault) (test : Class → Bool) → Yields {A = A} (refused f test) P
yields_refused {A} {P} f test = record { yields = λ K ts w j. absurd (let z : None ≡ Some f = j.0 in cc) }

pub yields_more : {A : Type 0} {P Q : A → Type 1} {g : Gram A} → ((a : A) → P a → Q a) → Yields g P → Yields g Q
yields_more {A} {P} {Q} {g} f e = record { yields = λ K ts w j. let x = e.yields K ts w j in record { value = x.value; rest = x.rest; formed = x.formed; holds = f x.value x.holds; goes = x.goes } }

yields_times : {A : Type 0} {P : A → Type 1} {g : Gram A} → Yields g P → (n : ℕ) → Yields (times g n) (Every P)
yields_times {A} {P} {g} e zero = yields_give tt
yields_times {A} {P} {g} e (suc n) = yields_then e (λ a p. yields_then (yields_times e n) (λ more ps. yields_give (p, ps)))

pub yields_many : {A : Type 0} {P : A → Type 1} {g : Gram A} → Yields g P → Yields (many g) (Every P)
yields_many {A} {P} {g} e = record { yields = λ K ts w j. (yields_times e j.0).yields K ts w j.1 }

pub yields_drop : {A : Type 0} {P : A → Type 1} {g : Gram A} → Yields g P → Yields (drop_value g) Any
yields_drop e = yields_then e (λ a p. yields_give tt)

pub yields_separated : {A : Type 0} {P : A → Type 1} {g : Gram A} → Yields g P → Yields (separated g) (Every P)
yields_separated e = yields_then e (λ a p. yields_then (yields_many (yields_then yields_one (λ c k. e))) (λ more ps. yields_give (p, ps)))

pub yields_listed : {A : Type 0} {P : A → Type 1} {g : Gram A} (close : Class) → Yields g P → Yields (listed close g) (Every P)
yields_listed close e = yields_or (yields_then yields_one (λ c k. yields_give tt)) (yields_then (yields_separated e) (λ all ps. yields_then (yields_one {test = is close}) (λ c k. yields_give ps)))
