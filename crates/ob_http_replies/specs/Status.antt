-- The status of a reply, RFC 9110, section 15.
use Rattle.std.specs.Prelude.{ℕ, Option, Some, None}
use Rattle.ob_base.specs.declared.stop.Refusal.{Refusal}
use Rattle.ob_base.specs.declared.stop.Refusal.TheVariants.{BadField, UnknownName, NameTaken, OutOfPeriod, UnknownEntry, Stale, Withdrawn, UnknownCustomer, BadService, RefConflict, Full, MarkedAlready, NotMarked, UnknownCause, BadPeriod, BadBook, BadLife, OldVersion}
use Rattle.ob_http_replies.specs.declared.status.Status.{Status}
use Rattle.ob_http_replies.specs.declared.status.Status.TheVariants as statuses

-- its code
abbrev pub status_code : Status → ℕ
status_code statuses.Ok = 200
status_code statuses.BadRequest = 400
status_code statuses.NotFound = 404
status_code (statuses.MethodNotAllowed allow) = 405
status_code statuses.Conflict = 409
status_code statuses.LengthRequired = 411
status_code statuses.PayloadTooLarge = 413
status_code statuses.UnprocessableEntity = 422
status_code statuses.RequestHeaderFieldsTooLarge = 431
status_code statuses.NotImplemented = 501
status_code statuses.ServiceUnavailable = 503

-- of a refused command: a conflict with what the book holds, or a command that can't be done
abbrev pub refusal_status : Refusal → Status
refusal_status (BadField column) = statuses.UnprocessableEntity
refusal_status UnknownName = statuses.UnprocessableEntity
refusal_status NameTaken = statuses.Conflict
refusal_status OutOfPeriod = statuses.UnprocessableEntity
refusal_status UnknownEntry = statuses.UnprocessableEntity
refusal_status (Stale revision) = statuses.Conflict
refusal_status Withdrawn = statuses.Conflict
refusal_status UnknownCustomer = statuses.UnprocessableEntity
refusal_status BadService = statuses.UnprocessableEntity
refusal_status (RefConflict command) = statuses.Conflict
refusal_status (Full limit) = statuses.UnprocessableEntity
refusal_status MarkedAlready = statuses.Conflict
refusal_status NotMarked = statuses.Conflict
refusal_status UnknownCause = statuses.UnprocessableEntity
refusal_status BadPeriod = statuses.UnprocessableEntity
refusal_status BadBook = statuses.UnprocessableEntity
refusal_status BadLife = statuses.UnprocessableEntity
refusal_status (OldVersion version) = statuses.UnprocessableEntity

-- of an import, which a refusal at a row may have stopped
abbrev pub report_status : Option (ℕ × Refusal) → Status
report_status None = statuses.Ok
report_status (Some stopped) = statuses.UnprocessableEntity
