use Rattle.std.proofs.Common.{◌≡◌, drop}
use Rattle.pg_io.specs.Shelves.{named_texts, text_in}
use Rattle.pg_io.proofs.shelves.found.Given as goal

-- the name has no text so far
abbrev pub invariant-files : goal.invariant-files
invariant-files l = text_in (named_texts (drop l.place l.files)) l.name ≡ text_in (named_texts l.files) l.name
