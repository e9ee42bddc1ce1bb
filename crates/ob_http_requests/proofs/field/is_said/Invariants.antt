use Rattle.std.proofs.Common.{◌≡◌, drop, map}
use Rattle.httparse.specs.Spans.{header_bytes}
use Rattle.ob_http_requests.specs.Fields.{values_of}
use Rattle.ob_http_requests.specs.Fields.{says}
use Rattle.ob_http_requests.proofs.field.is_said.Given as goal

-- the fields to come say what all say
abbrev pub invariant-loop-field : goal.invariant-loop-field
invariant-loop-field l =
    says l.text (values_of l.name (map (header_bytes l.bytes) (drop l.field-index l.fields)))
    ≡ says l.text (values_of l.name (map (header_bytes l.bytes) l.fields))
