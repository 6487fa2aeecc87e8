use Rattle.std.proofs.Common.{subst, IfSome, arith}
use Rattle.pg_check_types.specs.Table.{types_of}
use Rattle.pg_check_types.specs.Known.{item_number}
use Rattle.pg_check_types.specs.Items.{found_count, IsFoundAt}
use Rattle.pg_check_types.proofs.ItemSteps.{more_found, still_found, count_more}
use Rattle.pg_check_types.proofs.items.find_item.Goals as goal

pub returns-in-Some-clause-found : goal.returns-in-Some-clause-found
returns-in-Some-clause-found c =
    more_found c.args.types.now (types_of c.args.table.now) (types_of c.found_number.new.table) c.args.places.now c.args.items.now c.args.place c.in-Some.number c.requires.places
    c.in_ok-number.ensures.grows c.requires.found
    (subst (λ o. IfSome o (λ t. IsFoundAt c.args.types.now (types_of c.found_number.new.table) c.args.items.now c.args.place t)) c.in-Some.is c.in_ok-number.ensures.found)

pub returns-in-Some-clause-more : goal.returns-in-Some-clause-more
returns-in-Some-clause-more c =
    let f : IsFoundAt c.args.types.now (types_of c.found_number.new.table) c.args.items.now c.args.place c.in-Some.number =
    subst (λ o. IfSome o (λ t. IsFoundAt c.args.types.now (types_of c.found_number.new.table) c.args.items.now c.args.place t)) c.in-Some.is c.in_ok-number.ensures.found in
    let more = count_more c.args.items.now c.args.place c.in-Some.number f.is_open.none in
    omega (arith, more)

pub returns-in-None-clause-found : goal.returns-in-None-clause-found
returns-in-None-clause-found c =
    still_found c.args.types.now (types_of c.args.table.now) (types_of c.found_number.new.table) (item_number c.args.places.now c.args.items.now)
    (found_count c.args.items.now) c.in_ok-number.ensures.grows c.requires.found
