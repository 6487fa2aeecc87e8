-- Where the blocks of each function lie.
use Rattle.std.specs.Prelude.{◌≡◌, ℕ, ◌+◌, ◌<◌, ◌≤◌, ◌^◌, ◌==◌, List, slice_index_or, if◌then◌else◌}
use Rattle.pg_ir.specs.Program.{NumberedProgram, function_of}
use Rattle.pg_region_summaries.specs.declared.span.Span.{Span}

abbrev pub span_at : List Span → ℕ → Span
span_at spans f = slice_index_or spans f (record { first = 0; end = 0 })

-- a span with block b more, which stands behind its own
abbrev pub extended : Span → ℕ → Span
extended s b = record { first = if s.end == 0 then b else s.first; end = b + 1 }

-- those of the first n blocks that stand in function f lie in the span, which has none beyond these
pub record Covers (p : NumberedProgram) (n f : ℕ) (span : Span) : Type 0 where
  pub order : span.first ≤ span.end
  pub within : span.end ≤ n
  pub few : span.end ≤ 2 ^ 32
  pub covers : (b : ℕ) → b < n → function_of p b ≡ f → (span.first ≤ b) × (b < span.end)
