use Rattle.std.proofs.Common.{◌≡◌, drop, map}
use Rattle.httparse.specs.Spans.{header_bytes}
use Rattle.ob_http_requests.specs.Fields.{values_of, lists}
use Rattle.ob_http_requests.proofs.field.has_option.Given as goal

-- the fields to come list what all list
abbrev pub invariant-loop-field : goal.invariant-loop-field
invariant-loop-field l =
    lists l.option (values_of l.name (map (header_bytes l.bytes) (drop l.field-index l.fields)))
    ≡ lists l.option (values_of l.name (map (header_bytes l.bytes) l.fields))
