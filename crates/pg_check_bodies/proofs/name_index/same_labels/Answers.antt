use Rattle.pg_check_rules.specs.Starts.{names_behind}
use Rattle.pg_check_bodies.proofs.LabelPlaces.{same_known, other_known}
use Rattle.pg_check_bodies.proofs.name_index.same_labels.Goals as goal

pub returns-in_ok-other_index : goal.returns-in_ok-other_index
returns-in_ok-other_index c =
    same_known c.args.index.now c.in_ok-other_index.other_index (names_behind c.args.names.now) (names_behind c.args.others.now) c.are_known.result c.are_known-then-are_known.result
    c.requires c.in_ok-other_index.ensures c.are_known.ensures c.if-are_known.true c.are_known-then-are_known.ensures

pub returns-else-are_known : goal.returns-else-are_known
returns-else-are_known c = other_known c.args.index.now (names_behind c.args.names.now) (names_behind c.args.others.now) c.are_known.result c.requires c.are_known.ensures c.if-are_known.false
