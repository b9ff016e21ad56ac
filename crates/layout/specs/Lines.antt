-- The lines in a desk's arrays, where there are none yet.
use Rattle.std.specs.Prelude.{replicate}
use Rattle.limits.specs.Limits.{max_fields, line_starts}
use Rattle.layout.specs.declared.Lines.{Lines}

-- zeros
abbrev pub no_lines : Lines
no_lines = record { fields = replicate max_fields 0; starts = replicate line_starts 0 }
