use Rattle.std.proofs.Common.{◌+◌, ap, ◌∙◌, arith}
use Rattle.pg_run_memory.specs.declared.delta.Delta.TheVariants.{Add, Sub}
use Rattle.pg_words.proofs.PartStores.{adds, changes_from, takes, tells}
use Rattle.pg_words.proofs.words.Words.store_part.Goals as goal

pub fetch_add-requires : goal.fetch_add-requires
fetch_add-requires g c =
    let t = c.load-from.ensures.told in
    let table = c.args.self.now.table.shared in (
      c.load-from.ensures.own.0 ∙ c.requires.own,
      (let a = c.granule.ensures.in_memory in let b = c.args.self.now.all in omega (arith, a, b)),
      adds (g.R.TableRule.holds table.key) table.table_id.slots c.load-from.new.seat.id c.args.seat.now.id (65 + c.granule.result) _ c.load-from.new.seat.me g.M.Play.then c.in-Add.n
          c.args.self.now.no_slots c.load-from.ensures.own.1 (ap (λ k. 65 + k) c.granule.ensures.value)
          (c.requires.rule t.0 c.load-from.new.seat.me (Add c.in-Add.n) t.1 (changes_from c.args.at c.load-from.result _ c.args.number (Add c.in-Add.n) t.2 c.in-Add.ensures.bytes)),
    )

pub fetch_sub-requires : goal.fetch_sub-requires
fetch_sub-requires g c =
    let t = c.load-from.ensures.told in
    let table = c.args.self.now.table.shared in (
      c.load-from.ensures.own.0 ∙ c.requires.own,
      (let a = c.granule.ensures.in_memory in let b = c.args.self.now.all in omega (arith, a, b)),
      takes (g.R.TableRule.holds table.key) table.table_id.slots c.load-from.new.seat.id c.args.seat.now.id (65 + c.granule.result) _ c.load-from.new.seat.me g.M.Play.then c.in-Sub.n
          c.args.self.now.no_slots c.load-from.ensures.own.1 (ap (λ k. 65 + k) c.granule.ensures.value)
          (c.requires.rule t.0 c.load-from.new.seat.me (Sub c.in-Sub.n) t.1 (changes_from c.args.at c.load-from.result _ c.args.number (Sub c.in-Sub.n) t.2 c.in-Sub.ensures.bytes)),
    )

pub returns-in-Add-clause-told : goal.returns-in-Add-clause-told
returns-in-Add-clause-told g c =
    let t = c.load-from.ensures.told in
    let table = c.args.self.now.table.shared in
    record {
      found = t.0;
      between = c.load-from.new.seat.me;
      finds = t.1;
      change = Add c.in-Add.n;
      changes = changes_from c.args.at c.load-from.result _ c.args.number (Add c.in-Add.n) t.2 c.in-Add.ensures.bytes;
      before = c.fetch_add.result;
      tells = tells (g.R.TableRule.holds table.key) table.table_id.slots c.load-from.new.seat.id c.args.seat.now.id (65 + c.granule.result) _ c.load-from.new.seat.me g.M.Play.then c.in-Add.n
          c.args.self.now.no_slots c.load-from.ensures.own.1 (ap (λ k. 65 + k) c.granule.ensures.value) c.fetch_add.result c.fetch_add.new.seat.me c.fetch_add.ensures.2;
    }

pub returns-in-Sub-clause-told : goal.returns-in-Sub-clause-told
returns-in-Sub-clause-told g c =
    let t = c.load-from.ensures.told in
    let table = c.args.self.now.table.shared in
    record {
      found = t.0;
      between = c.load-from.new.seat.me;
      finds = t.1;
      change = Sub c.in-Sub.n;
      changes = changes_from c.args.at c.load-from.result _ c.args.number (Sub c.in-Sub.n) t.2 c.in-Sub.ensures.bytes;
      before = c.fetch_sub.result;
      tells = tells (g.R.TableRule.holds table.key) table.table_id.slots c.load-from.new.seat.id c.args.seat.now.id (65 + c.granule.result) _ c.load-from.new.seat.me g.M.Play.then c.in-Sub.n
          c.args.self.now.no_slots c.load-from.ensures.own.1 (ap (λ k. 65 + k) c.granule.ensures.value) c.fetch_sub.result c.fetch_sub.new.seat.me c.fetch_sub.ensures.2;
    }
