-- Behind ret void what a word begins is read the same in two parts: first what is begun, then what is made of it.
use Rattle.std.proofs.Common.{◌≡◌, Bool, true, false, List, Option, None, if◌then◌else◌, refl}
use Rattle.pg_read_lex.specs.declared.token.Span.{Span}
use Rattle.pg_read_grammar.specs.declared.class.Class.TheVariants.{GetElementPtr, IntToPtr, OpenRound}
use Rattle.pg_read_grammar.specs.declared.nesting.TheConstants.{INNER_NESTING_LIMIT}
use Rattle.pg_read_grammar.specs.declared.token.Token.{Token}
use Rattle.pg_read_grammar.specs.Classes.{is}
use Rattle.pg_read_grammar.specs.Reading.{Read, Good, Bad, ◌>>=◌, take_one, comes, choose}
use Rattle.pg_read_grammar.specs.Reader.{flags_at, value_at, gep_tail_at, int_to_ptr_tail_at}
use Rattle.pg_read_grammar.specs.ReaderOps.{metadata_at, gep_op_tail_at, cast_tail_at}
use Rattle.pg_read_grammar.specs.ReaderItems.{Body, complete, add_line, void_value_at}
use Rattle.pg_read_ast.specs.Syntax.{Block, Val, Op}
use Rattle.pg_read_ast.specs.Syntax as syntax
use Rattle.pg_read_ast.specs.declared.names.Name.{Name}
use Rattle.pg_read.specs.BodyParts.{void_line_at, begun_value, begun_line, behind_begun_at, behind_gep_at, behind_cast_at}

-- a ret void, and the next line
abbrev two_lines : List Block → Option Name → Span → Span → Op → List Token → Read Body
two_lines bs name o void p = Good (complete (add_line (add_line bs name (syntax.RetVoid o void)) None p))

value_begun : (bs : List Block) (name : Option Name) (o void : Span) (x : Read Val) → (x >>= void_line_at bs name o void) ≡ ((x >>= begun_value) >>= behind_begun_at bs name o void)
value_begun bs name o void (Good v rest) = refl
value_begun bs name o void (Bad fault rest) = refl

line_begun : (bs : List Block) (name : Option Name) (o void : Span) (x : Read Op) → (x >>= two_lines bs name o void) ≡ ((x >>= begun_line) >>= behind_begun_at bs name o void)
line_begun bs name o void (Good p rest) = refl
line_begun bs name o void (Bad fault rest) = refl

-- ---- a getelementptr

gep_either : (bs : List Block) (name : Option Name) (o void : Span) (t : Token) (ts : List Token) (round : Bool)
    → (if round then void_value_at bs name o void (gep_tail_at INNER_NESTING_LIMIT (value_at INNER_NESTING_LIMIT) t) ts else (gep_op_tail_at t ts >>= two_lines bs name o void))
    ≡ ((if round then (gep_tail_at INNER_NESTING_LIMIT (value_at INNER_NESTING_LIMIT) t ts >>= begun_value) else (gep_op_tail_at t ts >>= begun_line)) >>= behind_begun_at bs name o void)
gep_either bs name o void t ts true = value_begun bs name o void (gep_tail_at INNER_NESTING_LIMIT (value_at INNER_NESTING_LIMIT) t ts)
gep_either bs name o void t ts false = line_begun bs name o void (gep_op_tail_at t ts)

gep_flags : (bs : List Block) (name : Option Name) (o void : Span) (t : Token) (x : Read (Unit {0}))
    → (x >>= λ _. choose (is OpenRound) (void_value_at bs name o void (gep_tail_at INNER_NESTING_LIMIT (value_at INNER_NESTING_LIMIT) t)) (λ ts. gep_op_tail_at t ts >>= two_lines bs name o void))
    ≡ ((x >>= λ _. choose (is OpenRound) (λ ts. gep_tail_at INNER_NESTING_LIMIT (value_at INNER_NESTING_LIMIT) t ts >>= begun_value) (λ ts. gep_op_tail_at t ts >>= begun_line)) >>=
    behind_begun_at bs name o void)
gep_flags bs name o void t (Good u rest) = gep_either bs name o void t rest (comes (is OpenRound) rest)
gep_flags bs name o void t (Bad fault rest) = refl

gep_word : (bs : List Block) (name : Option Name) (o void : Span) (x : Read Token)
    → (x >>= λ t ts. flags_at ts >>= λ _. choose (is OpenRound) (void_value_at bs name o void (gep_tail_at INNER_NESTING_LIMIT (value_at INNER_NESTING_LIMIT) t))
    (λ ts. gep_op_tail_at t ts >>= two_lines bs name o void))
    ≡ ((x >>= λ t ts. flags_at ts >>= λ _. choose (is OpenRound) (λ ts. gep_tail_at INNER_NESTING_LIMIT (value_at INNER_NESTING_LIMIT) t ts >>= begun_value)
    (λ ts. gep_op_tail_at t ts >>= begun_line)) >>= behind_begun_at bs name o void)
gep_word bs name o void (Good t rest) = gep_flags bs name o void t (flags_at rest)
gep_word bs name o void (Bad fault rest) = refl

pub gep_grouped : (bs : List Block) (name : Option Name) (o void : Span) (ts : List Token)
    → (take_one (is GetElementPtr) ts >>= λ t ts. flags_at ts >>= λ _. choose (is OpenRound) (void_value_at bs name o void (gep_tail_at INNER_NESTING_LIMIT (value_at INNER_NESTING_LIMIT) t))
    (λ ts. gep_op_tail_at t ts >>= two_lines bs name o void))
    ≡ behind_gep_at bs name o void ts
gep_grouped bs name o void ts = gep_word bs name o void (take_one (is GetElementPtr) ts)

-- ---- an inttoptr

cast_metadata : (bs : List Block) (name : Option Name) (o void : Span) (p : Op) (x : Read (Unit {0}))
    → (x >>= λ _. two_lines bs name o void p) ≡ ((x >>= λ _. begun_line p) >>= behind_begun_at bs name o void)
cast_metadata bs name o void p (Good u rest) = refl
cast_metadata bs name o void p (Bad fault rest) = refl

cast_line : (bs : List Block) (name : Option Name) (o void : Span) (x : Read Op)
    → (x >>= λ p ts. metadata_at ts >>= λ _. two_lines bs name o void p) ≡ ((x >>= λ p ts. metadata_at ts >>= λ _. begun_line p) >>= behind_begun_at bs name o void)
cast_line bs name o void (Good p rest) = cast_metadata bs name o void p (metadata_at rest)
cast_line bs name o void (Bad fault rest) = refl

cast_either : (bs : List Block) (name : Option Name) (o void : Span) (t : Token) (ts : List Token) (round : Bool)
    → (if round then void_value_at bs name o void (int_to_ptr_tail_at INNER_NESTING_LIMIT t) ts else (cast_tail_at t ts >>= λ p ts. metadata_at ts >>= λ _. two_lines bs name o void p))
    ≡ ((if round then (int_to_ptr_tail_at INNER_NESTING_LIMIT t ts >>= begun_value) else (cast_tail_at t ts >>= λ p ts. metadata_at ts >>= λ _. begun_line p)) >>= behind_begun_at bs name o void)
cast_either bs name o void t ts true = value_begun bs name o void (int_to_ptr_tail_at INNER_NESTING_LIMIT t ts)
cast_either bs name o void t ts false = cast_line bs name o void (cast_tail_at t ts)

cast_word : (bs : List Block) (name : Option Name) (o void : Span) (x : Read Token)
    → (x >>= λ t. choose (is OpenRound) (void_value_at bs name o void (int_to_ptr_tail_at INNER_NESTING_LIMIT t))
    (λ ts. cast_tail_at t ts >>= λ p ts. metadata_at ts >>= λ _. two_lines bs name o void p))
    ≡ ((x >>= λ t. choose (is OpenRound) (λ ts. int_to_ptr_tail_at INNER_NESTING_LIMIT t ts >>= begun_value) (λ ts. cast_tail_at t ts >>= λ p ts. metadata_at ts >>= λ _. begun_line p)) >>=
    behind_begun_at bs name o void)
cast_word bs name o void (Good t rest) = cast_either bs name o void t rest (comes (is OpenRound) rest)
cast_word bs name o void (Bad fault rest) = refl

pub cast_grouped : (bs : List Block) (name : Option Name) (o void : Span) (ts : List Token)
    → (take_one (is IntToPtr) ts >>= λ t. choose (is OpenRound) (void_value_at bs name o void (int_to_ptr_tail_at INNER_NESTING_LIMIT t))
    (λ ts. cast_tail_at t ts >>= λ p ts. metadata_at ts >>= λ _. two_lines bs name o void p))
    ≡ behind_cast_at bs name o void ts
cast_grouped bs name o void ts = cast_word bs name o void (take_one (is IntToPtr) ts)
