-- A call that isn't to fail fails only at an unknown name.
use Rattle.std.proofs.Common.{◌≡◌, ◌∙◌, ap, rules, Err}
use Rattle.pg_io.specs.Memory.{is_listed}
use Rattle.pg_io.specs.Shelves.{named_texts}
use Rattle.pg_io.specs.declared.shelf.FetchFault.TheVariants.{Failed}
use Rattle.pg_io.proofs.shelves.MemoryShelfShelf.fetch.Goals as goal

pub returns-in_ok-raise-in-Err-Failed-clause-failed : goal.returns-in_ok-raise-in-Err-Failed-clause-failed
returns-in_ok-raise-in-Err-Failed-clause-failed c = λ told passes.
    let failed : c.copied_text.result ≡ Err Failed = search rules in
    let listed : c.contains-fails.result ≡ is_listed c.args.self.now.failing c.args.self.now.calls = search rules in
    let files_is : named_texts c.deref-2.result.now ≡ c.args.self.now.files = search rules in
    rw (← files_is) (c.copied_text.ensures.failed failed (listed ∙ passes))
