use Rattle.std.proofs.Common.{◌≡◌, ◌++◌, drop, map}
use Rattle.std.specs.Option.{option_copied}
use Rattle.std.specs.Prelude.{option_to_list}
use Rattle.httparse.specs.Spans.{header_bytes}
use Rattle.ob_http_requests.specs.Fields.{values_of}
use Rattle.ob_http_requests.proofs.field.value_named.Given as goal

-- what was found, and then the values of the fields to come
abbrev pub invariant-loop-field : goal.invariant-loop-field
invariant-loop-field l =
    option_to_list (option_copied l.found) ++ values_of l.name (map (header_bytes l.bytes) (drop l.field-index l.fields))
    ≡ values_of l.name (map (header_bytes l.bytes) l.fields)
