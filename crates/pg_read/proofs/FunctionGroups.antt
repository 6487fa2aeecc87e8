-- A function is read the same in parts: first what is read, then what is made of it.
use Rattle.std.proofs.Common.{◌≡◌, List, refl}
use Rattle.pg_num.specs.declared.limits.TheConstants.{NESTING_LIMIT}
use Rattle.pg_read_grammar.specs.declared.class.Class.TheVariants.{OpenRound, CloseRound}
use Rattle.pg_read_grammar.specs.declared.token.Token.{Token}
use Rattle.pg_read_grammar.specs.Classes.{is}
use Rattle.pg_read_grammar.specs.Grammar.{global_name, name_of}
use Rattle.pg_read_grammar.specs.Reading.{Read, Good, Bad, ◌>>=◌, take_one}
use Rattle.pg_read_grammar.specs.Reader.{listed_at, type_at, attributes_at}
use Rattle.pg_read_grammar.specs.ReaderItems.{dparam_at, defined_param_at, body_at}
use Rattle.pg_read_ast.specs.declared.names.Name.{Name}
use Rattle.pg_read_ast.specs.Syntax.{Ty, Param, Dparam, Block}
use Rattle.pg_read.specs.FunctionParts.{with_declared_params, declared_at, declared_by, declare_end_at, with_body, named_by, with_params_and_body, defined_at, defined_by, define_end_at}

-- ---- a function that is declared

declare_params : (t : Ty) (n : Name) (x : Read (List Dparam)) → (x >>= λ ps. declared_by t (n, ps)) ≡ ((x >>= λ ps. Good (n, ps)) >>= declared_by t)
declare_params t n (Good ps rest) = refl
declare_params t n (Bad fault rest) = refl

declare_open : (t : Ty) (n : Token) (x : Read Token) → (x >>= λ _ ts. listed_at CloseRound dparam_at ts >>= λ ps. declared_by t (name_of n, ps))
    ≡ (((x >>= λ _. Good (name_of n)) >>= with_declared_params) >>= declared_by t)
declare_open t n (Good b rest) = declare_params t (name_of n) (listed_at CloseRound dparam_at rest)
declare_open t n (Bad fault rest) = refl

declare_name : (t : Ty) (x : Read Token) → (x >>= λ n ts. take_one (is OpenRound) ts >>= λ _ ts. listed_at CloseRound dparam_at ts >>= λ ps. declared_by t (name_of n, ps))
    ≡ (((x >>= λ n ts. take_one (is OpenRound) ts >>= λ _. Good (name_of n)) >>= with_declared_params) >>= declared_by t)
declare_name t (Good n rest) = declare_open t n (take_one (is OpenRound) rest)
declare_name t (Bad fault rest) = refl

declare_type : (x : Read Ty) → (x >>= λ t ts. take_one global_name ts >>= λ n ts. take_one (is OpenRound) ts >>= λ _ ts. listed_at CloseRound dparam_at ts >>= λ ps. declared_by t
    (name_of n, ps))
    ≡ (x >>= λ t ts. declared_at ts >>= declared_by t)
declare_type (Good t rest) = declare_name t (take_one global_name rest)
declare_type (Bad fault rest) = refl

pub declare_grouped : (ts : List Token)
    → (type_at NESTING_LIMIT ts >>= λ t ts. take_one global_name ts >>= λ n ts. take_one (is OpenRound) ts >>= λ _ ts. listed_at CloseRound dparam_at ts >>= λ ps. declared_by t (name_of n, ps))
    ≡ declare_end_at ts
declare_grouped ts = declare_type (type_at NESTING_LIMIT ts)

-- ---- a function that is defined

define_blocks : (t : Ty) (n : Name) (ps : List Param) (x : Read (List Block)) → (x >>= λ bs. defined_by t (n, ps, bs)) ≡ (((x >>= λ bs. Good (ps, bs)) >>= named_by n) >>= defined_by t)
define_blocks t n ps (Good bs rest) = refl
define_blocks t n ps (Bad fault rest) = refl

define_attributes : (t : Ty) (n : Name) (ps : List Param) (x : Read (Unit {0})) → (x >>= λ _ ts. body_at ts >>= λ bs. defined_by t (n, ps, bs))
    ≡ ((((x >>= λ _. body_at) >>= λ bs. Good (ps, bs)) >>= named_by n) >>= defined_by t)
define_attributes t n ps (Good u rest) = define_blocks t n ps (body_at rest)
define_attributes t n ps (Bad fault rest) = refl

define_params : (t : Ty) (n : Name) (x : Read (List Param)) → (x >>= λ ps ts. attributes_at ts >>= λ _ ts. body_at ts >>= λ bs. defined_by t (n, ps, bs))
    ≡ (((x >>= with_body) >>= named_by n) >>= defined_by t)
define_params t n (Good ps rest) = define_attributes t n ps (attributes_at rest)
define_params t n (Bad fault rest) = refl

define_open : (t : Ty) (n : Token) (x : Read Token)
    → (x >>= λ _ ts. listed_at CloseRound defined_param_at ts >>= λ ps ts. attributes_at ts >>= λ _ ts. body_at ts >>= λ bs. defined_by t (name_of n, ps, bs))
    ≡ (((x >>= λ _. Good (name_of n)) >>= with_params_and_body) >>= defined_by t)
define_open t n (Good b rest) = define_params t (name_of n) (listed_at CloseRound defined_param_at rest)
define_open t n (Bad fault rest) = refl

define_name : (t : Ty) (x : Read Token)
    → (x >>= λ n ts. take_one (is OpenRound) ts >>= λ _ ts. listed_at CloseRound defined_param_at ts >>= λ ps ts. attributes_at ts >>= λ _ ts. body_at ts >>= λ bs. defined_by t
    (name_of n, ps, bs))
    ≡ (((x >>= λ n ts. take_one (is OpenRound) ts >>= λ _. Good (name_of n)) >>= with_params_and_body) >>= defined_by t)
define_name t (Good n rest) = define_open t n (take_one (is OpenRound) rest)
define_name t (Bad fault rest) = refl

define_type : (x : Read Ty)
    → (x >>= λ t ts. take_one global_name ts >>= λ n ts. take_one (is OpenRound) ts >>= λ _ ts. listed_at CloseRound defined_param_at ts >>= λ ps ts. attributes_at ts >>= λ _ ts. body_at
    ts >>= λ bs. defined_by t (name_of n, ps, bs))
    ≡ (x >>= λ t ts. defined_at ts >>= defined_by t)
define_type (Good t rest) = define_name t (take_one global_name rest)
define_type (Bad fault rest) = refl

pub define_grouped : (ts : List Token)
    → (type_at NESTING_LIMIT ts >>= λ t ts. take_one global_name ts >>= λ n ts. take_one
    (is OpenRound) ts >>= λ _ ts. listed_at CloseRound defined_param_at ts >>= λ ps ts. attributes_at ts >>= λ _ ts. body_at ts >>= λ bs. defined_by t (name_of n, ps, bs))
    ≡ define_end_at ts
define_grouped ts = define_type (type_at NESTING_LIMIT ts)
