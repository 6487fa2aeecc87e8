-- The parts of a function, which are read one within another.
use Rattle.std.specs.Prelude.{List}
use Rattle.pg_num.specs.declared.limits.TheConstants.{NESTING_LIMIT}
use Rattle.pg_read_grammar.specs.declared.class.Class.TheVariants.{OpenRound, CloseRound}
use Rattle.pg_read_grammar.specs.declared.token.Token.{Token}
use Rattle.pg_read_grammar.specs.Classes.{is}
use Rattle.pg_read_grammar.specs.Grammar.{global_name, name_of}
use Rattle.pg_read_grammar.specs.Reading.{Read, Good, ◌>>=◌, take_one}
use Rattle.pg_read_grammar.specs.Reader.{listed_at, type_at, attributes_at}
use Rattle.pg_read_grammar.specs.ReaderItems.{dparam_at, defined_param_at, body_at}
use Rattle.pg_read_ast.specs.declared.names.Name.{Name}
use Rattle.pg_read_ast.specs.Syntax.{Ty, Param, Dparam, Block, Declaration, Definition}

-- the name of a function, and the bracket behind it
abbrev pub opened_at : List Token → Read Name
opened_at ts = take_one global_name ts >>= λ n ts. take_one (is OpenRound) ts >>= λ _. Good (name_of n)

-- ---- a function that is declared

abbrev pub with_declared_params : Name → List Token → Read (Name × List Dparam)
with_declared_params n ts = listed_at CloseRound dparam_at ts >>= λ ps. Good (n, ps)

abbrev pub declared_at : List Token → Read (Name × List Dparam)
declared_at ts = opened_at ts >>= with_declared_params

abbrev pub declared_by : Ty → Name × List Dparam → List Token → Read Declaration
declared_by t d = Good (record { result = t; name = d.0; params = d.1 })

abbrev pub declare_end_at : List Token → Read Declaration
declare_end_at ts = type_at NESTING_LIMIT ts >>= λ t ts. declared_at ts >>= declared_by t

-- ---- a function that is defined

abbrev pub attributed_body_at : List Token → Read (List Block)
attributed_body_at ts = attributes_at ts >>= λ _. body_at

abbrev pub with_body : List Param → List Token → Read (List Param × List Block)
with_body ps ts = attributed_body_at ts >>= λ bs. Good (ps, bs)

abbrev pub params_and_body_at : List Token → Read (List Param × List Block)
params_and_body_at ts = listed_at CloseRound defined_param_at ts >>= with_body

abbrev pub named_by : Name → List Param × List Block → List Token → Read (Name × List Param × List Block)
named_by n d = Good (n, d.0, d.1)

abbrev pub with_params_and_body : Name → List Token → Read (Name × List Param × List Block)
with_params_and_body n ts = params_and_body_at ts >>= named_by n

abbrev pub defined_at : List Token → Read (Name × List Param × List Block)
defined_at ts = opened_at ts >>= with_params_and_body

abbrev pub defined_by : Ty → Name × List Param × List Block → List Token → Read Definition
defined_by t d = Good (record { result = t; name = d.0; params = d.1; blocks = d.2 })

abbrev pub define_end_at : List Token → Read Definition
define_end_at ts = type_at NESTING_LIMIT ts >>= λ t ts. defined_at ts >>= defined_by t
