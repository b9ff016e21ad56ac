-- The desk's associated constants (01, "Forms": "limits of sizes, depth and fields as its associated constants"): the numbers that the
-- faults speak of.
use Rattle.limits.specs.Limits.{max_bytes, max_line_fields, max_fields, max_depth, max_parameters, max_rows, max_span, max_states}
use Rattle.desk.specs.declared.Limits.{Limits}

abbrev pub desk_limits : Limits
desk_limits = record {
  bytes = max_bytes;
  line = max_line_fields;
  fields = max_fields;
  depth = max_depth;
  parameters = max_parameters;
  rows = max_rows;
  span = max_span;
  states = max_states;
}
