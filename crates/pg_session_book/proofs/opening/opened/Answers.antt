use Rattle.std.proofs.Common.{◌≤◌, length, subst}
use Rattle.std.proofs.lemmas.List.{length-map}
use Rattle.pg_session_runner.specs.pg_num.declared.limits.TheConstants.{CACHE_LIMIT}
use Rattle.pg_book.specs.Parts.{parts_in, parts_of}
use Rattle.pg_session_book.proofs.opening.opened.Goals as goal

pub load-requires : goal.load-requires
load-requires c =
    record {
      few = subst (λ n. n ≤ CACHE_LIMIT) (length-map c.args.book.now.entries.items parts_of)
          (c.what_is_read_is_within_limits.ensures c.args.bytes.now (parts_in c.args.book.now) c.requires.book).0;
    }

pub returns-in-Ok : goal.returns-in-Ok
returns-in-Ok c = record {
  within = c.requires.within;
  entries = parts_in c.args.book.now;
  is_book = c.requires.book;
  loaded = c.in-Ok.ensures.loaded;
  is_opened = c.in-Ok.ensures.opened;
}
