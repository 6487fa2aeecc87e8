use Rattle.std.proofs.Common.{ap, ◌∙◌}
use Rattle.pg_read_ast.specs.Views.{ty_of}
use Rattle.pg_check_types.specs.Resolved.{resolved}
use Rattle.pg_check_types.specs.Table.{types_of}
use Rattle.pg_check_types.specs.Known.{denoted}
use Rattle.pg_check_types.specs.Kinds.{agree}
use Rattle.pg_check_types.specs.NumberedTypes.{named_types}
use Rattle.pg_check_types.proofs.Resolutions.{denoted_more}
use Rattle.pg_check_types.proofs.types.TypeNumbers.agree.Goals as goal

pub returns : goal.returns
returns c =
    let first = types_of c.number.new.table in
    let table = types_of c.number-2.new.table in
    record {
      agree =
          c.agree.ensures
          ∙ ap (λ o. agree o (denoted table c.in_ok-other.other)) (denoted_more first table c.in_ok-one.one c.in_ok-other.ensures.grows c.in_ok-one.ensures.within ∙ c.in_ok-one.ensures.value)
          ∙ ap (λ o. agree (resolved (named_types c.args.self.now) (ty_of c.args.one.now)) o) c.in_ok-other.ensures.value;
    }
