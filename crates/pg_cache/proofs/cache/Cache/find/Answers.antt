-- What a search found, by the answer of the value that it came to.
use Rattle.std.proofs.Common.{rules, arith, ◌≡◌, ◌+◌, ◌-◌, ◌∙◌, refl, sym, ap, map, length, Some, Option, ℕ}
use Rattle.pg_cache.specs.Kept.{first_from}
use Rattle.pg_cache.proofs.Found.{found_here, found_later, found_none, map-set}
use Rattle.pg_cache.proofs.cache.Cache.find.Goals as goal

pub returns-then-admits-clause-least : goal.returns-then-admits-clause-least
returns-then-admits-clause-least g c =
    let number : c.self.inside.inserted - length c.self.inside.values.items ≡ c.self.inside.inserted - c.len.result = omega (arith, c.len.ensures) in
    rw (← c.self.view_is) (sym (ap (λ k. first_from k (map (λ v. g.V.Admits.test (g.V.Admits.meaning v) c.args.input.now) c.self.inside.values.items)) number ∙
    found_here g.V.Admits.meaning (λ k. g.V.Admits.test k c.args.input.now) c.loop-index.self-inside.values.items c.self.inside.values.items _ c.loop-index.index c.index_mut.result.now
    c.loop-index.invariant.meanings (omega (arith, c.loop-index-test.true, c.len-in-loop-index.ensures)) c.index_mut.ensures.value c.loop-index.invariant.searched
    c.admits.result c.admits.ensures.answer c.if-admits.true))

pub returns-then-admits-clause-stays : goal.returns-then-admits-clause-stays
returns-then-admits-clause-stays g c = rw (← c.self.view_is) (map-set g.V.Admits.meaning _ _ _ _ (sym c.index_mut.ensures.value) c.admits.ensures.stays ∙ c.loop-index.invariant.meanings)

pub loop-index-preserved : goal.loop-index-preserved
loop-index-preserved g c = record {
  size = search rules;
  inserted = search rules;
  count = search rules;
  fits = search rules;
  meanings = map-set g.V.Admits.meaning _ _ _ _ (sym c.index_mut.ensures.value) c.admits.ensures.stays ∙ c.loop-index.invariant.meanings;
  searched = found_later g.V.Admits.meaning (λ k. g.V.Admits.test k c.args.input.now) c.loop-index.self-inside.values.items c.self.inside.values.items _ c.loop-index.index c.index_mut.result.now
      c.loop-index.invariant.meanings (omega (arith, c.loop-index-test.true, c.len-in-loop-index.ensures)) c.index_mut.ensures.value c.loop-index.invariant.searched
      c.admits.result c.admits.ensures.answer c.if-admits.false;
}

pub returns-clause-least : goal.returns-clause-least
returns-clause-least g c =
    let number : c.self.inside.inserted - length c.self.inside.values.items ≡ c.self.inside.inserted - c.len.result = omega (arith, c.len.ensures) in
    rw (← c.self.view_is) (sym (ap (λ k. first_from k (map (λ v. g.V.Admits.test (g.V.Admits.meaning v) c.args.input.now) c.self.inside.values.items)) number ∙
    found_none (λ v. g.V.Admits.test (g.V.Admits.meaning v) c.args.input.now) c.self.inside.values.items _ c.loop-index.index
    (omega (arith, c.loop-index-test.false, c.len-in-loop-index.ensures, c.loop-index.invariant.count)) c.loop-index.invariant.searched))
